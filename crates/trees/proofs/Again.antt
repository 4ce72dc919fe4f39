-- What was answered about a tree is answered again, after any request and after any list of requests.
use mathlib.Core.Path.{◌≡◌, refl, sym, ap, ap₂, ◌∙◌}
use mathlib.Core.Option.{Option, none, some}
use Prim.Native.Nat.{ℕ}
use lib.ListN.{length}
use Rattle.bedrock.specs.Choice.{on}
use Rattle.buffer.specs.Bytes.{Bytes}
use Rattle.block.specs.Block.{Row}
use Rattle.sector_log.specs.LookUp.{held, absence, lent_allowed}
use Rattle.sector_log.specs.Parts.{tape, Lent, one_log}
use Rattle.sector_log.proofs.Parts.{held-alone, absence-alone}
use Rattle.request.specs.Step.{step}
use Rattle.demands.specs.Ledger.{Extent}
use Rattle.demands.specs.Instance.{length_of}
use Rattle.promises.specs.Histories.{Keeps, afterwards}
use Rattle.promises.proofs.Keeps.{step_keeps, list_keeps}
use Rattle.file_laws.proofs.Again.{again}
use Rattle.walk_laws.proofs.Again.{walk_again}
use Rattle.compare_laws.proofs.Swapped.{compared_again}
use Rattle.trees.specs.Again.{waiting_of, Alike, AfterOne, AfterAny}

-- the waiting part's length, 0 where none is lent
abbrev length_in : Option ℕ → ℕ
length_in o = on o 0 (λ m. m)

length-waiting : (log : Bytes) (o : Option Bytes) → length (waiting_of (record { log = log; waiting = o })) ≡ length_in (length_of o)
length-waiting log none = refl
length-waiting log (some w) = refl

-- with an empty waiting part where none is lent, look-up and its refusal are those of what is lent
pub held_one : (log : Bytes) (o : Option Bytes) (t : ℕ) (s : Bytes) → let L : Lent = record { log = log; waiting = o } in held (tape log (waiting_of L)) t s ≡ held (one_log L) t s
held_one log none t s = held-alone log t s
held_one log (some w) t s = refl

pub absence-one : (log : Bytes) (o : Option Bytes) → let L : Lent = record { log = log; waiting = o } in absence (tape log (waiting_of L)) ≡ absence (one_log L)
absence-one log none = absence-alone log
absence-one log (some w) = refl

module _ (L later : Lent) (k : Keeps L later) where
  pub same-lent : lent_allowed (length later.log) (length (waiting_of later)) ≡ lent_allowed (length L.log) (length (waiting_of L))
  same-lent = ap₂ lent_allowed (ap (λ (x : Extent). x.size) k.0)
      (length-waiting later.log later.waiting ∙ ap (λ (x : Extent). length_in x.waiting) k.0 ∙ sym (length-waiting L.log L.waiting))

  still-held : (t : ℕ) (s : Bytes) (r : Row) → held (tape L.log (waiting_of L)) t s ≡ some r → held (tape later.log (waiting_of later)) t s ≡ some r
  still-held t s r e = held_one later.log later.waiting t s ∙ k.1 t s r (sym (held_one L.log L.waiting t s) ∙ e)

  kept-alike : Alike L later
  kept-alike = record {
    keeps = k;
    reads = λ page entry offset a. again L.log (waiting_of L) later.log (waiting_of later) page entry offset same-lent still-held a;
    walks = λ score n v w. walk_again L.log (waiting_of L) later.log (waiting_of later) score n v same-lent still-held w;
    compares = λ x y n d. compared_again L.log (waiting_of L) later.log (waiting_of later) x y n same-lent still-held d;
  }

pub after_one : AfterOne
after_one s m date L buffer sm = kept-alike L (step s m date L buffer).lent (step_keeps s m date L buffer sm)

pub after_any : AfterAny
after_any L past qs b = kept-alike L (afterwards L past qs) (list_keeps (record { log = L; past = past }) qs b)
