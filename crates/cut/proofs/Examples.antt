-- The checked examples of cutting, proved of the definitions.
use mathlib.Core.Path.{◌≡◌, refl, sym, ap, ◌∙◌}
use mathlib.Core.List.{[], ◌++◌}
use Prim.Native.Nat.{ℕ}
use native.Mathlib.Omega.{arith}
use native.Mathlib.Nat.{mod-one}
use lib.ListN.{length, replicate}
use Rattle.std.specs.Prelude.{Ok}
use Rattle.buffer.specs.Bytes.{Bytes}
use Rattle.kind.specs.Kind.{lawful, is_pointer, zero_score}
use Rattle.kind.proofs.ZeroScore.{zero-score-bytes}
use Rattle.cut.specs.Cut.{zero_byte, unit_of, kept, cut_length, whole_units, cut_of}
use Rattle.cut.specs.Examples.{hello}
use Rattle.cut.proofs.Units.{repeat-zeros}
use Rattle.cut.proofs.Tests.{unit_other, whole-bytes, cut_done}
use Rattle.cut.proofs.Shortest.{cut_appended}

-- a data block is cut to what a beginning is cut to, if zeros follow
zeros-after : (b : Bytes) (j : ℕ) → cut_of 13 (b ++ replicate j 0) ≡ Ok (cut_length zero_byte b)
unfolding lawful is_pointer
zeros-after b j =
    sym (cut_done 13 (b ++ replicate j 0) (cut_length (unit_of 13) (b ++ replicate j 0)) refl (sym (whole-bytes 13 (length (b ++ replicate j 0)) refl)) refl)
    ∙ ap Ok
    (ap (λ (u : Bytes). cut_length u (b ++ replicate j 0)) (unit_other 13 refl)
    ∙ ap (λ (x : Bytes). cut_length zero_byte (b ++ x)) (sym (repeat-zeros j))
    ∙ cut_appended zero_byte b j (omega arith) (mod-one (length b)))

-- "`hello world` and 1,013 zeros cut to 11 bytes"
pub hello_world : cut_of 13 (hello ++ replicate 1013 0) ≡ Ok 11
unfolding kept cut_length
hello_world = zeros-after hello 1013

-- "all zeros to none"
pub all-zeros : cut_of 13 (replicate 1024 0) ≡ Ok 0
unfolding kept cut_length
all-zeros = zeros-after [] 1024

-- twenty zero bytes aren't the zero score: a pointer block keeps them
pub zero-bytes-kept : cut_of 3 (replicate 20 0) ≡ Ok 20
unfolding lawful is_pointer unit_of kept cut_length whole_units cut_of
zero-bytes-kept = rw zero-score-bytes

-- and loses a zero score
pub zero-score_cut : cut_of 3 (replicate 20 7 ++ zero_score) ≡ Ok 20
unfolding lawful is_pointer unit_of kept cut_length whole_units cut_of
zero-score_cut = rw zero-score-bytes
