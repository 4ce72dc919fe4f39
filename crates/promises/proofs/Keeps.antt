-- What look-up found it finds again, at the same place: after any request and after any list of requests, on any log.
use mathlib.Core.Path.{◌≡◌, refl, sym, ap, ◌∙◌}
use mathlib.Core.Bool.{true}
use mathlib.Core.List.{List}
use mathlib.Core.Option.{Option}
use Prim.Native.Nat.{ℕ, ◌+◌, ◌≤◌}
use native.Mathlib.Omega.{arith}
use lib.ListN.{length}
use Rattle.buffer.specs.Bytes.{Bytes}
use Rattle.digits.specs.Number.{small}
use Rattle.block.specs.Block.{parts}
use Rattle.block.specs.Log.{sectors, used}
use Rattle.sector_log.specs.LookUp.{held}
use Rattle.sector_log.specs.Parts.{Lent, one_log, settled}
use Rattle.sector_log.proofs.Alike.{held-alike}
use Rattle.sector_log.proofs.Written.{held-written}
use Rattle.request.specs.Step.{Outcome, step}
use Rattle.request.specs.declared.Session.{Session}
use Rattle.ledger.specs.Trace.{trace}
use Rattle.ledger.specs.History.{Item, AllOfBytes, given, Standing, answer}
use Rattle.ledger.proofs.Trace.{trace-keeps}
use Rattle.demands.specs.Ledger.{room_from}
use Rattle.demands.specs.Instance.{extent_of, archive}
use Rattle.promises.specs.Histories.{Keeps}
use Rattle.promises.specs.Corollaries.{AtMostOne, alike, adds, settles}
use Rattle.demands.proofs.LentLaws.{room-one, room-same, start-before, extent-written, one-appended, settle-fits, extent-settled, at-settled}
use Rattle.promises.proofs.Outcomes.{appends_at-most-one}

pub step_keeps : (s : Session) (m : Bytes) (date : Option Bytes) (L : Lent) (buffer : Bytes) → small m ≡ true → Keeps L (step s m date L buffer).lent
step_keeps s m date L buffer sm = go (step s m date L buffer) (appends_at-most-one s m date L buffer sm)
  where
    go : (o : Outcome) → AtMostOne L o → Keeps L o.lent
    go o (alike e n) = (ap extent_of e, λ t x r h. ap (λ (l : Lent). held (one_log l) t x) e ∙ h)
    go o (adds r e n v f room) =
        let fits = room-one L.log L.waiting (parts r) room in
        let inside : r.first + parts r ≤ sectors (length (one_log L)) = omega (arith, f, fits.0) in (
          ap extent_of e ∙ extent-written r v L.log L.waiting (omega (arith, f, start-before L.log L.waiting))
              (sym (room-same L.log L.waiting (parts r) ∙ ap (λ (n : ℕ). room_from (extent_of L) (used L.log) n (parts r)) (sym f)) ∙ room),
          λ t x y h. ap (λ (l : Lent). held (one_log l) t x) e ∙ ap (λ (b : Bytes). held b t x) (one-appended L.log L.waiting r f) ∙ held-written (one_log L) r v f inside t x y h,
        )
    go o (settles e n q) =
        let fits = settle-fits L.log L.waiting q in (
          ap extent_of e ∙ extent-settled L.log L.waiting fits,
          λ t x y h. ap (λ (l : Lent). held (one_log l) t x) e ∙ held-alike (one_log (settled L)) (one_log L) (λ k. at-settled L.log L.waiting k fits) t x ∙ h,
        )

pub list_keeps : (s : Standing archive) (qs : List (Item archive)) → AllOfBytes archive qs → Keeps s.log (trace (answer archive) s qs).left.log
list_keeps s qs b =
    trace-keeps (answer archive) (λ x. Keeps s.log x.log) (λ q. archive.OfBytes q.request)
    (λ x q ok k. let here = step_keeps (given archive x.past q) q.request.message q.request.date x.log q.request.buffer ok in
    (here.0 ∙ k.0, λ t y r e. here.1 t y r (k.1 t y r e))) s qs b (refl, λ t y r e. e)
