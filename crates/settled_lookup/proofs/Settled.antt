-- Where the first entry that names a type and score tells a sector of the log itself, and such a block is sound there, look-up by index finds it whatever waits.
use mathlib.Core.Path.{◌≡◌, refl, sym, ap, ◌∙◌}
use mathlib.Core.Bool.{Bool, true, false, cond, ◌&&◌}
use mathlib.Core.List.{[]}
use mathlib.Core.Option.{some}
use Prim.Native.Nat.{ℕ, ◌+◌}
use native.Mathlib.Omega.{arith}
use lib.ListN.{length}
use Rattle.bedrock.specs.Choice.{on}
use Rattle.buffer.specs.Bytes.{Bytes, same}
use Rattle.kind.specs.Kind.{lawful, zero_score}
use Rattle.block.specs.Block.{Row, place_of}
use Rattle.block.specs.declared.Block.{Block}
use Rattle.block.specs.Log.{sectors, Alike, joined, bytes_of, sound, sound_as}
use Rattle.block.proofs.Alike.{sound-alike}
use Rattle.block.proofs.Joined.{alike-whole, sectors-joined}
use Rattle.block.proofs.Sound.{sound-reads, sound-bytes}
use Rattle.sector_log.specs.LookUp.{blocks, first_of, empty_row, held, absence}
use Rattle.sector_log.specs.Parts.{tape}
use Rattle.sector_log.proofs.Alike.{blocks-alike}
use Rattle.sector_log.proofs.First.{first-sound}
use Rattle.reader.specs.Reader.{placed}
use Rattle.lookup.proofs.Outcomes.{placed-some}
use Rattle.hint.specs.Hint.{sound_with, hint, held_by, look_up_by}
use Rattle.hint.specs.Tells.{tells}
use Rattle.hint.proofs.Sound.{with_as, with_reads}
use Rattle.hint.proofs.Tells.{hint-told, hint_untold}
use Rattle.hint.proofs.There.{with_there, with_waiting, sound-waiting, first-waiting}
use Rattle.settled_lookup.specs.Settled.{FoundSettled}
use Rattle.std.specs.Prelude.{Some, None, Ok, Err, Result, Option as Optional}
use Rattle.refusal.specs.declared.Refusal.{Refusal}

module _ (log index : Bytes) (t : ℕ) (s : Bytes) where
  pub nowhere_settled : (b : Block) → None ≡ Some b → FoundSettled log index t s b
  nowhere_settled b e = let y : ◌≡◌ {A = ℕ} 0 1 = cc in absurd (omega arith)

  -- a hint of a score that is not the zero score is what look-up by index finds
  hint-found : (both : Bytes) (r : Row) → same s zero_score ≡ false → hint both index t s ≡ some r → look_up_by both index t s ≡ Ok (place_of r)
  unfolding held_by look_up_by
  hint-found both r z e = rw (z, e) (go (lawful t))
    where
      go : (a : Bool)
          → ◌≡◌ {A = Result Block Refusal} (on (cond (a && false) (some (empty_row t)) (some r)) (Err (absence both)) (λ (x : Row). Ok (place_of x))) (Ok (place_of r))
      go true = refl
      go false = refl

  alone : Bytes
  alone = joined (sectors (length log)) log []

  same-sectors : Alike log alone
  unfolding alone
  same-sectors n = sym (alike-whole log n)

  module _ (n : ℕ) (r : Row) (e : sound_with alone n t s ≡ some r) where
    sound_in_log : sound_with log n t s ≡ some r
    unfolding alone
    sound_in_log =
        let room = (sound-reads alone n r (with_reads alone n t s r e).0).2 in
        let all : sectors (length alone) ≡ sectors (length log) + 0 = sectors-joined (sectors (length log)) log [] (omega arith) in
        with_there log alone n r (omega (arith, room, all)) (λ k h. same-sectors (n + k)) t s e

    same_bytes : (waiting : Bytes) → sound_with (tape log waiting) n t s ≡ some r → bytes_of (tape log waiting) (place_of r) ≡ bytes_of alone (place_of r)
    same_bytes waiting v = sym (sound-bytes (tape log waiting) n r (with_reads (tape log waiting) n t s r v).0) ∙ sound-bytes alone n r (with_reads alone n t s r e).0

  pub told-settled : (z : Bool) → z ≡ same s zero_score → z ≡ false → (n : ℕ) → tells index t s n ≡ true → (x : Optional Block)
      → x ≡ placed (sound_as (joined (sectors (length log)) log []) n t s) → (b : Block) → x ≡ Some b → FoundSettled log index t s b
  unfolding alone
  told-settled z zero q n told x e b here waiting =
      let found = placed-some (sound_as alone n t s) x b e here in
      let r = found.0 in
      let w : sound_with alone n t s ≡ some r = sym (with_as alone n t s) ∙ found.1 in
      let v = with_waiting log waiting n t s r (sound_in_log n r w) in
      let place : place_of r ≡ b = sym found.2 in (
        hint-found (tape log waiting) r (sym zero ∙ q) (hint-told (tape log waiting) index t s n r v told) ∙ ap Ok place,
        ap (bytes_of (tape log waiting)) (sym place) ∙ same_bytes n r w waiting v ∙ ap (bytes_of alone) place,
      )

  -- where no entry names them, the first block by scan among the log's own sectors is found
  module _ (zero : same s zero_score ≡ false) (untold : (n : ℕ) → tells index t s n ≡ false) where
    scan_found : (both : Bytes) (r : Row) → first_of t s (blocks both) ≡ some r → look_up_by both index t s ≡ Ok (place_of r)
    unfolding held_by look_up_by
    scan_found both r e = rw (zero, hint_untold both index t s untold, e) (go (lawful t))
      where
        go : (a : Bool)
            → ◌≡◌ {A = Result Block Refusal} (on (cond (a && false) (some (empty_row t)) (some r)) (Err (absence both)) (λ (x : Row). Ok (place_of x))) (Ok (place_of r))
        go true = refl
        go false = refl

    not-empty : (both : Bytes) (r : Row) → held both t s ≡ some r → first_of t s (blocks both) ≡ some r
    unfolding held
    not-empty both r q = go (lawful t) (ap (λ (z : Bool). cond (lawful t && z) (some (empty_row t)) (first_of t s (blocks both))) (sym zero) ∙ q)
      where
        go : (a : Bool) → cond (a && false) (some (empty_row t)) (first_of t s (blocks both)) ≡ some r → first_of t s (blocks both) ≡ some r
        go true y = y
        go false y = y

    pub scanned_settled : (x : Optional Block) → x ≡ placed (held (joined (sectors (length log)) log []) t s) → (b : Block) → x ≡ Some b → FoundSettled log index t s b
    unfolding alone
    scanned_settled x e b here waiting =
        let found = placed-some (held alone t s) x b e here in
        let r = found.0 in
        let place : place_of r ≡ b = sym found.2 in
        let first : first_of t s (blocks log) ≡ some r = ap (first_of t s) (blocks-alike log alone same-sectors) ∙ not-empty alone r found.1 in
        let v : sound (tape log waiting) r.first ≡ some r = sound-waiting log waiting r.first r (first-sound log t s r first).0 in
        let w : sound alone r.first ≡ some r = sym (sound-alike log alone same-sectors r.first) ∙ (first-sound log t s r first).0 in (
          scan_found (tape log waiting) r (first-waiting log waiting t s r first) ∙ ap Ok place,
          ap (bytes_of (tape log waiting)) (sym place) ∙ sym (sound-bytes (tape log waiting) r.first r v) ∙ sound-bytes alone r.first r w ∙ ap (bytes_of alone) place,
        )
