use mathlib.Core.Path.{◌≡◌, sym, ap, ◌∙◌}
use mathlib.Core.List.{List, ◌++◌, append_assoc}
use Prim.Native.Nat.{ℕ, ◌+◌, ◌-◌, ◌*◌}
use native.Mathlib.Omega.{arith}
use borrow.Rule.Slice.PartMut.{put_mid}
use lib.ListN.{length, take, drop}
use lib.Seq.{drop-drop}
use Rattle.std.proofs.lemmas.List.Edits.{sets-eq}
use Rattle.digits.specs.Number.{be_bytes}
use Rattle.digits.proofs.NumberLaws.{length_digits}
use Rattle.sha1_bytes.proofs.BeBytes.{be_bytes_are}
use Rattle.sha1_bytes.proofs.put_word.Goals as goal

pub returns : goal.returns
returns c =
    let d = c.args.d.now in
    let i = 4 * c.args.at in
    let k = i + 4 - i in
    let x = c.args.x in
    let ys = be_bytes 4 x in
    let l = length_digits 256 4 x in
    let n : i + k ≡ i + length ys = omega (arith, l) in
    ap (put_mid i k d) (c.copy_from_slice.ensures.after ∙ c.to_be_bytes.ensures ∙ be_bytes_are 4 x)
    ∙ ap (λ (q : List ℕ). take i d ++ (ys ++ q)) (drop-drop k i d ∙ ap (λ (j : ℕ). drop j d) n)
    ∙ sym (append_assoc (take i d) ys (drop (i + length ys) d))
    ∙ sym (sets-eq ys d i (omega (arith, l, c.told-d)))
