-- A writing call and the write messages of its blocks leave the same log.
use mathlib.Core.Path.{◌≡◌, refl, sym, ap, ap₂, ◌∙◌, subst}
use mathlib.Core.Bool.{true}
use mathlib.Core.List.{List, [], ◌∷◌, ◌++◌, map, append-nil, append_assoc}
use mathlib.Core.Option.{some}
use Prim.Native.Nat.{ℕ, zero, suc, ◌/◌, ◌≤◌, ◌<◌}
use native.Mathlib.Omega.{arith}
use lib.ListN.{length, get_or, replicate, length-append}
use Rattle.buffer.specs.Bytes.{Bytes}
use Rattle.sector.specs.Sector.{is_date}
use Rattle.sector_log.specs.Parts.{Lent, beside}
use Rattle.sector_log.specs.Store.{store}
use Rattle.request.specs.Step as steps
use Rattle.request.specs.declared.Session.{Session}
use Rattle.request.specs.declared.Session.TheVariants.{Fresh, Greeted}
use Rattle.ledger.specs.Trace.{trace}
use Rattle.ledger.specs.History.{AllOfBytes, answer}
use Rattle.demands.specs.Instance.{archive}
use Rattle.writer.specs.Blocks.{Typed, file_blocks}
use Rattle.writer.specs.WriteFile.{end_of, end_number, WriteOutcome, onward, store_all}
use Rattle.writer.proofs.Depth.{depth_lies, least-found}
use Rattle.writer.proofs.Tested.{tests_passed}
use Rattle.writer_laws.specs.Held.{AllWritable}
use Rattle.writer_laws.specs.Asking.{going, asked, numbers, hello_message, write_message, write_item, requests, last_or, StoresAsked, WritesAreStores, WritingIsAsking}
use Rattle.writer_laws.proofs.Messages.{small-message, greets, one-write, still-allowed}
use Rattle.writer_laws.proofs.Written.{writable_file}
use Rattle.std.specs.Prelude.{Ok, Err, Result, ⊤}
use Rattle.refusal.specs.declared.Refusal.{Refusal}

-- ---- the sessions

pub front-stays : (xs ys : List Session) (i : ℕ) → i < length xs → get_or (xs ++ ys) i Fresh ≡ get_or xs i Fresh
front-stays [] ys i h = absurd (omega arith)
front-stays (x ∷ xs) ys zero h = refl
front-stays (x ∷ xs) ys (suc i) h = front-stays xs ys i (omega arith)

pub end_get_d : (xs : List Session) (y : Session) → get_or (xs ++ (y ∷ [])) (length xs) Fresh ≡ y
end_get_d [] y = refl
end_get_d (x ∷ xs) y = end_get_d xs y

one_more : (past : List Session) (s : Session) (n : ℕ) → s ≡ Greeted → (past ++ (s ∷ [])) ++ replicate n Greeted ≡ past ++ replicate (suc n) Greeted
one_more past s n e = append_assoc past (s ∷ []) (replicate n Greeted) ∙ ap (λ (x : Session). past ++ (x ∷ replicate n Greeted)) e

-- ---- all of them, in the session that message i left

module _ (date buffer : Bytes) (dated : is_date date ≡ true) (room : steps.reply_room ≤ length buffer) (i : ℕ) where
  -- what a list of blocks asked for leaves, its numbers and sessions
  Same : Lent → List Session → List Typed → Lent → List ℕ → Type 0
  Same L past xs M ns =
      let T = trace (answer archive) (record { log = L; past = past }) (map (write_item date buffer i) xs) in
      (T.left.log ≡ M) × (map (λ s. s.answer.number) T.seen ≡ ns) × (T.left.past ≡ past ++ replicate (length xs) Greeted)

  run : (xs : List Typed) (L : Lent) (past : List Session) → steps.allowed L ≡ true → AllWritable xs → i < length past → get_or past i Fresh ≡ Greeted
      → Same L past (asked L date xs) (store_all L date xs).lent (numbers L date xs)
  unfolding Same asked numbers store_all
  run [] L past al A h g = (refl, refl, sym (append-nil past))
  run (x ∷ xs) L past al A h g =
      let a = store L date x.kind x.bytes in
      let e = end_of a.receipt.stored in
      let o = steps.step (get_or past i Fresh) (write_message x) (some date) L buffer in
      let one = one-write L date buffer al dated room x A.0 (get_or past i Fresh) g in
      let past' = past ++ (o.session ∷ []) in
      let rest = run xs a.lent past' (still-allowed L date buffer al dated room x A.0) A.1
      (omega (arith, length-append past (o.session ∷ []))) (front-stays past (o.session ∷ []) i h ∙ g) in
      let all = subst (λ (l : Lent). Same l past' (going e (asked a.lent date xs)) (onward e a.lent (store_all a.lent date xs)).lent (going e (numbers a.lent date xs)))
      (sym one.lent) (ways e a.lent past' xs rest) in
      (all.0, ap₂ ◌∷◌ one.number all.1, all.2 ∙ one_more past o.session (length (going e (asked a.lent date xs))) one.session)
    where
      ways : (e : Result ⊤ Refusal) (M : Lent) (p : List Session) (ys : List Typed) → Same M p (asked M date ys) (store_all M date ys).lent (numbers M date ys)
          → Same M p (going e (asked M date ys)) (onward e M (store_all M date ys)).lent (going e (numbers M date ys))
      ways (Ok tt) M p ys s = s
      ways (Err y) M p ys s = (refl, refl, sym (append-nil p))

-- ---- the theorems

small-asked : (L : Lent) (date : Bytes) (xs : List Typed) → AllWritable xs → AllWritable (asked L date xs)
unfolding asked
small-asked L date [] A = tt
small-asked L date (x ∷ xs) A = let a = store L date x.kind x.bytes in (A.0, go (end_of a.receipt.stored) (asked a.lent date xs) (small-asked a.lent date xs A.1))
  where
    go : (e : Result ⊤ Refusal) (ys : List Typed) → AllWritable ys → AllWritable (going e ys)
    go (Ok tt) ys h = h
    go (Err y) ys h = tt

writes-of-bytes : (date buffer : Bytes) (i : ℕ) (xs : List Typed) → AllWritable xs → AllOfBytes archive (map (write_item date buffer i) xs)
writes-of-bytes date buffer i [] A = tt
writes-of-bytes date buffer i (x ∷ xs) A = (small-message x A.0, writes-of-bytes date buffer i xs A.1)

pub requests-of-bytes : (date buffer : Bytes) (i : ℕ) (xs : List Typed) → AllWritable xs → AllOfBytes archive (requests date buffer i xs)
requests-of-bytes date buffer i xs A = (refl, writes-of-bytes date buffer i xs A)

-- in any log that may be lent, with a waiting part or without
pub stores_asked : (L : Lent) (date buffer : Bytes) (past : List Session) (xs : List Typed) → steps.allowed L ≡ true → is_date date ≡ true
    → steps.reply_room ≤ length buffer → AllWritable xs → StoresAsked L date buffer past xs
unfolding Same
stores_asked L date buffer past xs al da ro A =
    let o = steps.step Fresh hello_message (some date) L buffer in
    let is = greets L date buffer al da ro in
    let i = length past in
    let past' = past ++ (o.session ∷ []) in
    let greeted : get_or past' i Fresh ≡ Greeted = end_get_d past o.session ∙ ap (λ (y : steps.Outcome). y.session) is in
    let r = run date buffer da ro i xs L past' al A (omega (arith, length-append past (o.session ∷ []))) greeted in
    let s = subst (λ (l : Lent). Same date buffer da ro i l past' (asked L date xs) (store_all L date xs).lent (numbers L date xs)) (sym (ap (λ (y : steps.Outcome). y.lent) is)) r in
    let sessions = s.2 ∙ one_more past o.session (length (asked L date xs)) (ap (λ (y : steps.Outcome). y.session) is) in (
      requests-of-bytes date buffer i (asked L date xs) (small-asked L date xs A),
      λ k. record { log = s.0 k; past = sessions k },
      ap₂ ◌∷◌ (ap (λ (y : steps.Outcome). y.number) is) s.1,
    )

pub writes_are_stores : WritesAreStores
writes_are_stores log w = stores_asked (beside log w)

-- the end of the call is that of the last block asked for
ends_as_last : (L : Lent) (date : Bytes) (xs : List Typed) → end_number (store_all L date xs).end ≡ last_or 0 (numbers L date xs)
unfolding store_all numbers
ends_as_last L date [] = refl
ends_as_last L date (x ∷ xs) = let a = store L date x.kind x.bytes in go (end_of a.receipt.stored) a.lent (ends_as_last a.lent date xs)
  where
    go : (e : Result ⊤ Refusal) (M : Lent) → end_number (store_all M date xs).end ≡ last_or 0 (numbers M date xs)
        → end_number (onward e M (store_all M date xs)).end ≡ last_or 0 (end_number e ∷ going e (numbers M date xs))
    go (Ok tt) M h = h
    go (Err y) M h = refl

pub writing_is_asking : WritingIsAsking
writing_is_asking log w date slice dsize psize entry scores buffer past depth sm ro en sc al da sh de =
    let lies = depth_lies (length slice) dsize psize depth de in
    let few = (least-found (length slice) dsize (psize / 20) depth lies.least).0 in
    let xs = file_blocks slice dsize psize depth in
    let S = writes_are_stores log w date buffer past xs al da ro (writable_file slice dsize psize depth lies.dsize-to lies.psize-from lies.psize-to few sm) in
    let p = tests_passed log w date slice dsize psize entry scores en sc true (sym al) refl true (sym da) refl sh depth de in
    let n = suc (length (asked (beside log w) date xs)) in (
      S.0,
      S.1 ∙ ap (λ (o : WriteOutcome). record { log = o.lent; past = past ++ replicate n Greeted }) p,
      S.2,
      sym (ap (λ (o : WriteOutcome). end_number o.end) p) ∙ ends_as_last (beside log w) date xs,
    )
