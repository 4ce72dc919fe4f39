-- What was lost or never stored stays so until it is stored; and while no sector is changed, no two rows have one type and score.
use mathlib.Core.Path.{◌≡◌, refl, sym, ap, subst, ◌∙◌}
use mathlib.Core.Bool.{true}
use mathlib.Core.List.Memᴰ
use mathlib.Core.List.{List, [], ◌∷◌, ◌++◌, Memᴰ}
use mathlib.Core.Logic.{◌⊎◌, inl, inr, ◌≢◌}
use mathlib.Core.Option.{some}
use Prim.Native.Nat.{ℕ}
use borrow.Author.Tests.{eq-eqb}
use Rattle.bedrock.proofs.Choices.{cond_ind}
use Rattle.buffer.specs.Bytes.{Bytes}
use Rattle.buffer.proofs.Bytes.{same_refl}
use Rattle.sha1_digest.specs.Sha1.{sha1_of}
use Rattle.digits.specs.Number.{small}
use Rattle.message.specs.Message.{data_of, request_of}
use Rattle.message.specs.declared.Request.TheVariants.{Write}
use Rattle.block.specs.Block.{Row}
use Rattle.sector_log.specs.Parts.{Lent}
use Rattle.request.specs.Step.{date_of}
use Rattle.request.specs.declared.Session.{Session}
use Rattle.ledger.specs.Archive.{Effect, stays, adds, settles, Ruling, Seen}
use Rattle.ledger.specs.Ledger.{Ledger, empty, hit, intact_of, intact, enter, end, note, next}
use Rattle.ledger.specs.Trace.{trace}
use Rattle.ledger.specs.History.{Item, AllOfBytes, given, Standing, answer, Books, recount}
use Rattle.ledger.proofs.Trace.{trace-keeps}
use Rattle.ledger.proofs.Lists.{Stands, seen_alike, goes_on_lem, changed-next}
use Rattle.demands.specs.Ledger.{Asked, Answer, Extent, first_row, decision, tell}
use Rattle.demands.specs.Instance.{extent_of, archive}
use Rattle.promises.specs.Histories.{NoneIntact, NoneStored}
use Rattle.demands.proofs.Lawful.{lawful}
use Rattle.demands.proofs.First.{first-front, first-behind, intact-all}
use Rattle.demands.proofs.TellAdds.{Fits, tell-fits, added-answered}

-- what the ledger says of a request
abbrev ruling : Ledger archive → Extent → Session → Asked → Ruling Answer Session Row
ruling L size u q = tell L.rows L.changed L.start size u q

module _ (t : ℕ) (s : Bytes) where
  -- one request: if it stores no block of the type and score
  lost_next : (L : Ledger archive) (size : Extent) (u : Session) (q : Asked) → small q.message ≡ true
      → (request_of q.message ≡ Write t → sha1_of (data_of q.message) ≡ s → (ruling L size u q).answer.number ≢ 0)
      → NoneIntact t s L → NoneIntact t s (next archive size L (ruling L size u q))
  lost_next L size u q sm n l =
      go (ruling L size u q).effect (λ r e. tell-fits L size u q r sm e)
      (λ r e. added-answered u q.message q.buffer (decision (intact archive L) (end archive L) L.start size u q) r e)
    where
      last : (r x : Row) → Fits (intact archive L) (end archive L) L.start size (date_of q.date) (request_of q.message) q.message r
          → (ruling L size u q).answer.number ≡ 0
          → Memᴰ x L.rows ⊎ Memᴰ x (r ∷ []) → x.kind ≡ t → x.score ≡ s → hit archive L.changed x ≡ true
      last r x f z (inl m) k e = l x m k e
      last r x f z (inr m) k e =
          let same_row : x ≡ r = Memᴰ.eq_of_singleton m in
          absurd (n (f.asked ∙ ap Write (ap (λ (y : Row). y.kind) (sym same_row) ∙ k)) (sym f.scored ∙ ap (λ (y : Row). y.score) (sym same_row) ∙ e) z)

      go : (a : Effect Row)
          → ((r : Row) → a ≡ adds r → Fits (intact archive L) (end archive L) L.start size (date_of q.date) (request_of q.message) q.message r)
          → ((r : Row) → a ≡ adds r → (ruling L size u q).answer.number ≡ 0) → NoneIntact t s (note archive size a L)
      go stays f z = l
      go settles f z = l
      go (adds r) f z = cond_ind (NoneIntact t s) (archive.waits size) _ _ (λ _. ended) (λ _. ended)
        where
          ended : NoneIntact t s (enter archive r L)
          ended x m = last r x (f r refl) (z r refl) (Memᴰ.append_cases L.rows m)

  -- a list
  pub lost_after : (S : Standing archive) (b : Books archive) (qs : List (Item archive)) → AllOfBytes archive qs → Stands archive S b → NoneStored t s S qs
      → NoneIntact t s b.ledger → NoneIntact t s (trace (recount archive) b qs).left.ledger
  lost_after S b [] ok st n l = l
  lost_after S b (q ∷ qs) ok st n l =
      let same_number = ap (λ (o : Seen Answer Session Lent). o.answer.number) (seen_alike archive lawful S b q ok.0 st) in
      lost_after (answer archive S q).state (recount archive b q).state qs ok.1 (goes_on_lem archive lawful S b q ok.0 st) n.1
      (lost_next b.ledger (extent_of b.begin) (given archive b.past q) q.request ok.0 (λ a e z. n.0 a e (same_number ∙ z)) l)

-- each row is the first of its type and score
abbrev pub Single : Ledger archive → Type 0
Single L = (L.changed ≡ []) × ((x : Row) → Memᴰ x L.rows → first_row x.kind x.score L.rows ≡ some x)

single_next : (L : Ledger archive) (size : Extent) (u : Session) (q : Asked) → small q.message ≡ true → Single L → Single (next archive size L (ruling L size u q))
unfolding first_row
single_next L size u q sm S = (changed-next archive size L (ruling L size u q) ∙ S.0, go (ruling L size u q).effect (λ r e. tell-fits L size u q r sm e))
  where
    all-intact : intact archive L ≡ L.rows
    all-intact = ap (λ (cs : List ℕ). intact_of archive cs L.rows) S.0 ∙ intact-all L.rows

    last : (r x : Row) → Fits (intact archive L) (end archive L) L.start size (date_of q.date) (request_of q.message) q.message r
        → Memᴰ x L.rows ⊎ Memᴰ x (r ∷ [])
        → first_row x.kind x.score (L.rows ++ (r ∷ [])) ≡ some x
    last r x f (inl m) = first-front x.kind x.score L.rows (r ∷ []) x (S.1 x m)
    last r x f (inr m) =
        let same_row : x ≡ r = Memᴰ.eq_of_singleton m in
        let new : first_row r.kind r.score (L.rows ++ (r ∷ [])) ≡ some r =
        first-behind r.kind r.score L.rows (r ∷ []) (ap (first_row r.kind r.score) (sym all-intact) ∙ f.alone) ∙ rw (eq-eqb r.kind r.kind refl, same_refl r.score) in
        subst (λ (y : Row). first_row y.kind y.score (L.rows ++ (r ∷ [])) ≡ some y) (sym same_row) new

    go : (a : Effect Row)
        → ((r : Row) → a ≡ adds r → Fits (intact archive L) (end archive L) L.start size (date_of q.date) (request_of q.message) q.message r)
        → (x : Row) → Memᴰ x (note archive size a L).rows → first_row x.kind x.score (note archive size a L).rows ≡ some x
    go stays f = S.1
    go settles f = S.1
    go (adds r) f = cond_ind (λ (K : Ledger archive). (x : Row) → Memᴰ x K.rows → first_row x.kind x.score K.rows ≡ some x) (archive.waits size) _ _
        (λ _ x m. last r x (f r refl) (Memᴰ.append_cases L.rows m)) (λ _ x m. last r x (f r refl) (Memᴰ.append_cases L.rows m))

-- so after a list on a blank log
pub single_after : (b : Books archive) (qs : List (Item archive)) → AllOfBytes archive qs → Single b.ledger → Single (trace (recount archive) b qs).left.ledger
single_after =
    trace-keeps (recount archive) (λ b. Single b.ledger) (λ q. archive.OfBytes q.request)
    (λ b q ok. single_next b.ledger (extent_of b.begin) (given archive b.past q) q.request ok)

pub single_empty : Single (empty archive)
single_empty = (refl, λ x m. absurd (Memᴰ.not-nil m))
