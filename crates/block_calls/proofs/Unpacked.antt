-- What a caller reads back: each claim of specs/Unpacked.antt.
use mathlib.Core.Path.{◌≡◌, refl}
use Prim.Native.Nat.{ℕ}
use Rattle.std.specs.Prelude.{Result, Ok, Err}
use Rattle.refusal.specs.declared.Refusal.{Refusal}
use Rattle.kind.specs.Kind.{wire_type}
use Rattle.block_calls.specs.Blocks.{type_result}
use Rattle.block_calls.specs.Unpacked as claims
use Rattle.results.specs.Unpacked.{number_in, answer_in}
use Rattle.block_calls.specs.Unpacked.{wire_number, type_in}
use Rattle.block_calls.proofs.BlockLaws.{cut_kept, cut_refused}
use Rattle.results.proofs.Unpacked.{refused-alone, above}

type_back : (x : Result ℕ Refusal) → (number_in (type_result x) ≡ wire_number x) × (answer_in (type_result x) ≡ type_in x)
type_back (Ok t) = above t
type_back (Err w) = refused-alone w

pub type_unpacks : claims.TypeUnpacks
type_unpacks e = type_back (wire_type e)

pub cut_unpacks : claims.CutUnpacks
cut_unpacks kind b = (λ n e. (rw e refl, rw e at (cut_kept kind b n e)), λ w e. (rw e refl, cut_refused kind b w e))
