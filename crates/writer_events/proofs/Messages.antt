-- The messages of a call, up to the first that the ledger refuses, are the blocks up to the first that the log refuses.
use mathlib.Core.Path.{◌≡◌, refl, sym, ap, ◌∙◌, subst}
use mathlib.Core.Bool.{Bool, true, false, cond}
use mathlib.Core.List.{List, [], ◌∷◌, ◌++◌, map}
use mathlib.Core.Logic.{◌⊎◌, inl, inr}
use mathlib.Core.Option.{none, some}
use Prim.Native.Nat.{ℕ, ◌≤◌, ◌<◌}
use native.Mathlib.Omega.{arith}
use lib.Dec.{eqb}
use lib.ListN.{length, get_or, length-append}
use Rattle.buffer.specs.Bytes.{Bytes}
use Rattle.refusal.specs.declared.Refusal.{Refusal}
use Rattle.refusal.specs.declared.Refusal.TheVariants.{NoRoom, Clash}
use Rattle.refusal.specs.Number.{number_of}
use Rattle.sector.specs.Sector.{is_date}
use Rattle.sector_log.specs.Parts.{Lent, beside}
use Rattle.sector_log.specs.LookUp.{lent_allowed}
use Rattle.sector_log.specs.Store.{store}
use Rattle.request.specs.Step as steps
use Rattle.request.specs.declared.Session.{Session}
use Rattle.request.specs.declared.Session.TheVariants.{Fresh, Greeted}
use Rattle.ledger.specs.Archive.{Seen}
use Rattle.ledger.specs.History.{Item, Standing, Books, recount}
use Rattle.ledger.proofs.Lists.{Stands, seen_alike, goes_on_lem}
use Rattle.demands.specs.Ledger.{Answer}
use Rattle.demands.specs.Instance.{archive}
use Rattle.demands.proofs.Lawful.{lawful}
use Rattle.writer.specs.Blocks.{Typed}
use Rattle.writer.specs.WriteFile.{end_of, end_number}
use Rattle.writer_laws.specs.Held.{AllWritable}
use Rattle.writer_laws.specs.Asking.{going, asked, hello_message, write_message, write_item, requests}
use Rattle.writer_laws.proofs.Held.{store_refuses}
use Rattle.writer_laws.proofs.Messages.{greets, small-message, one-write, still-allowed}
use Rattle.writer_laws.proofs.Asking.{front-stays, end_get_d}
use Rattle.writer_events.specs.Happenings.{up_to_refused}
use Rattle.std.specs.Prelude.{Ok, Err, Result, ⊤}

not-zero : (y : Refusal) → (y ≡ NoRoom) ⊎ (y ≡ Clash) → eqb (number_of y) 0 ≡ false
not-zero y (inl e) = ap (λ (u : Refusal). eqb (number_of u) 0) e
not-zero y (inr e) = ap (λ (u : Refusal). eqb (number_of u) 0) e

module _ (date buffer : Bytes) (dated : is_date date ≡ true) (room : steps.reply_room ≤ length buffer) (i : ℕ) where
  -- behind one message: on where its block was stored
  behind : (e : Result ⊤ Refusal) (rest : List (Item archive)) (xs : List Typed) → ((y : Refusal) → e ≡ Err y → (y ≡ NoRoom) ⊎ (y ≡ Clash)) → rest ≡ map (write_item date buffer i) xs
      → cond (eqb (end_number e) 0) rest [] ≡ map (write_item date buffer i) (going e xs)
  behind (Ok tt) rest xs r q = q
  behind (Err y) rest xs r q = ap (λ (b : Bool). cond b rest []) (not-zero y (r y refl))

  pub writes_cut : (xs : List Typed) (L : Lent) (past : List Session) (b : Books archive) → Stands archive (record { log = L; past = past }) b
      → steps.allowed L ≡ true → AllWritable xs → i < length past → get_or past i Fresh ≡ Greeted
      → up_to_refused b (map (write_item date buffer i) xs) ≡ map (write_item date buffer i) (asked L date xs)
  unfolding up_to_refused asked
  writes_cut [] L past b S al A h g = refl
  writes_cut (x ∷ xs) L past b S al A h g =
      let s : Standing archive = record { log = L; past = past } in
      let q = write_item date buffer i x in
      let a = store L date x.kind x.bytes in
      let o = steps.step (get_or past i Fresh) (write_message x) (some date) L buffer in
      let one = one-write L date buffer al dated room x A.0 (get_or past i Fresh) g in
      let ok = small-message x A.0 in
      let t = recount archive b q in
      let number : t.shown.answer.number ≡ end_number (end_of a.receipt.stored) =
      sym (ap (λ (v : Seen Answer Session Lent). v.answer.number) (seen_alike archive lawful s b q ok S)) ∙ one.number in
      let past' = past ++ (o.session ∷ []) in
      let S' : Stands archive (record { log = a.lent; past = past' }) t.state =
      subst (λ (l : Lent). Stands archive (record { log = l; past = past' }) t.state) one.lent (goes_on_lem archive lawful s b q ok S) in
      let rest = writes_cut xs a.lent past' t.state S' (still-allowed L date buffer al dated room x A.0) A.1
      (omega (arith, length-append past (o.session ∷ []))) (front-stays past (o.session ∷ []) i h ∙ g) in
      ap (λ (ys : List (Item archive)). q ∷ ys)
      (ap (λ (n : ℕ). cond (eqb n 0) (up_to_refused t.state (map (write_item date buffer i) xs)) []) number
      ∙ behind (end_of a.receipt.stored) (up_to_refused t.state (map (write_item date buffer i) xs)) (asked a.lent date xs)
      (λ y e. store_refuses L date x.kind x.bytes y e) rest)

-- with the hello in front
pub messages_cut : (log w date buffer : Bytes) (past : List Session) (b : Books archive) (xs : List Typed) → Stands archive (record { log = beside log w; past = past }) b
    → lent_allowed (length log) (length w) ≡ true → is_date date ≡ true → steps.reply_room ≤ length buffer → AllWritable xs
    → up_to_refused b (requests date buffer (length past) xs) ≡ requests date buffer (length past) (asked (beside log w) date xs)
unfolding up_to_refused
messages_cut log w date buffer past b xs S al da ro A =
    let L = beside log w in
    let s : Standing archive = record { log = L; past = past } in
    let q : Item archive = record { request = record { message = hello_message; buffer = buffer; date = some date }; left_by = none } in
    let o = steps.step Fresh hello_message (some date) L buffer in
    let is = greets L date buffer al da ro in
    let i = length past in
    let t = recount archive b q in
    let number : t.shown.answer.number ≡ 0 =
    sym (ap (λ (v : Seen Answer Session Lent). v.answer.number) (seen_alike archive lawful s b q refl S)) ∙ ap (λ (y : steps.Outcome). y.number) is in
    let past' = past ++ (o.session ∷ []) in
    let S' : Stands archive (record { log = L; past = past' }) t.state =
    subst (λ (l : Lent). Stands archive (record { log = l; past = past' }) t.state) (ap (λ (y : steps.Outcome). y.lent) is) (goes_on_lem archive lawful s b q refl S) in
    let greeted : get_or past' i Fresh ≡ Greeted = end_get_d past o.session ∙ ap (λ (y : steps.Outcome). y.session) is in
    let rest = writes_cut date buffer da ro i xs L past' t.state S' al A (omega (arith, length-append past (o.session ∷ []))) greeted in
    ap (λ (ys : List (Item archive)). q ∷ ys)
    (ap (λ (n : ℕ). cond (eqb n 0) (up_to_refused t.state (map (write_item date buffer i) xs)) []) number ∙ rest)
