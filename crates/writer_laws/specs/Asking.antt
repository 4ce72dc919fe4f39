-- "To the ledger a call is the list of its writes, up to and including the refused one, all with the call's date".
use Rattle.std.specs.Prelude.{◌≡◌, true, List, [], ◌∷◌, ◌++◌, map, ◌≢◌, ℕ, suc, ◌≤◌, length, replicate, Ok, Err, Result, ⊤}
use Rattle.std.proofs.Math.Option.{none, some}
use Rattle.buffer.specs.Bytes.{Bytes}
use Rattle.digits.specs.Number.{small}
use Rattle.refusal.specs.declared.Refusal.{Refusal}
use Rattle.refusal.specs.declared.Refusal.TheVariants.{NoRoom, Clash}
use Rattle.kind.specs.Kind.{longest}
use Rattle.sector.specs.Sector.{is_date}
use Rattle.sector_log.specs.Parts.{Lent, beside}
use Rattle.sector_log.specs.LookUp.{lent_allowed}
use Rattle.sector_log.specs.Store.{store}
pub use Rattle.message.specs.Requests.{hello_message}
use Rattle.message.specs.Requests.{write_message_of}
use Rattle.request.specs.Step.{reply_room}
use Rattle.request.specs.declared.Session.{Session}
use Rattle.request.specs.declared.Session.TheVariants.{Greeted}
use Rattle.ledger.specs.Trace.{trace}
use Rattle.ledger.specs.History.{Item, AllOfBytes, answer}
use Rattle.demands.specs.Instance.{archive}
use Rattle.writer.specs.Blocks.{Typed, file_blocks}
use Rattle.writer.specs.Depth.{depth_of}
use Rattle.writer.specs.WriteFile.{end_of, end_number, store_all, outcome, score_room, write_file}
use Rattle.writer_laws.specs.Held.{AllWritable}

-- a list goes on behind a block only where it is stored
abbrev pub going : {A : Type 0} → Result ⊤ Refusal → List A → List A
going (Ok tt) xs = xs
going (Err w) xs = []

-- the blocks up to and including the refused one
unfoldable pub asked : Lent → Bytes → List Typed → List Typed
asked L date [] = []
asked L date (x ∷ xs) = let a = store L date x.kind x.bytes in x ∷ going (end_of a.receipt.stored) (asked a.lent date xs)

-- the number of each: 0 for those stored, then the refusal's
unfoldable pub numbers : Lent → Bytes → List Typed → List ℕ
numbers L date [] = []
numbers L date (x ∷ xs) =
    let a = store L date x.kind x.bytes in
    end_number (end_of a.receipt.stored) ∷ going (end_of a.receipt.stored) (numbers a.lent date xs)

-- the write message of a block
abbrev pub write_message : Typed → Bytes
write_message x = write_message_of x.kind x.bytes

-- the requests: a hello with a fresh session, then the writes with the session that it left, which is number i
abbrev pub write_item : Bytes → Bytes → ℕ → Typed → Item archive
write_item date buffer i x = record { request = record { message = write_message x; buffer = buffer; date = some date }; left_by = some i }

abbrev pub requests : Bytes → Bytes → ℕ → List Typed → List (Item archive)
requests date buffer i xs =
    record { request = record { message = hello_message; buffer = buffer; date = some date }; left_by = none } ∷ map (write_item date buffer i) xs

-- the blocks stored one after the other in what is lent, and asked for by messages: the same log and waiting part, and the same numbers; each message leaves a
-- session in which a hello was accepted. The requests are of bytes, so that all that is proved of histories speaks of those in which writing calls stand between
-- messages
abbrev pub StoresAsked : Lent → Bytes → Bytes → List Session → List Typed → Type 0
StoresAsked L date buffer past xs =
    let qs = requests date buffer (length past) (asked L date xs) in
    let T = trace (answer archive) (record { log = L; past = past }) qs in
    AllOfBytes archive qs
    × (T.left ≡ record { log = (store_all L date xs).lent; past = past ++ replicate (suc (length (asked L date xs))) Greeted })
    × (map (λ s. s.answer.number) T.seen ≡ 0 ∷ numbers L date xs)

abbrev pub WritesAreStores : Type 0
WritesAreStores = (log w date buffer : Bytes) (past : List Session) (xs : List Typed)
    → lent_allowed (length log) (length w) ≡ true → is_date date ≡ true → reply_room ≤ length buffer → AllWritable xs → StoresAsked (beside log w) date buffer past xs

-- the last of a list of numbers, n where there is none
abbrev pub last_or : ℕ → List ℕ → ℕ
last_or n [] = n
last_or n (m ∷ ms) = last_or m ms

-- and so of the whole call, where its tests let it through: its own number is that of the last block asked for, 0 where there is none
abbrev pub WritingIsAsking : Type 0
WritingIsAsking = (log w date slice : Bytes) (dsize psize : ℕ) (entry scores buffer : Bytes) (past : List Session) (depth : ℕ)
    → small slice ≡ true → reply_room ≤ length buffer
    → length entry ≡ 40 → score_room ≤ length scores → lent_allowed (length log) (length w) ≡ true → is_date date ≡ true → length slice ≤ longest
    → depth_of (length slice) dsize psize ≡ some depth
    → let L = beside log w in let xs = file_blocks slice dsize psize depth in let qs = requests date buffer (length past) (asked L date xs) in
    let o = write_file log w date slice dsize psize entry scores in let T = trace (answer archive) (record { log = L; past = past }) qs in
    AllOfBytes archive qs
    × (T.left ≡ record { log = o.lent; past = past ++ replicate (suc (length (asked L date xs))) Greeted })
    × (map (λ s. s.answer.number) T.seen ≡ 0 ∷ numbers L date xs)
    × (end_number o.end ≡ last_or 0 (numbers L date xs))

-- "Tests .. all before the first block": a call that is refused with any number but 14 and 15 changes nothing
abbrev pub RefusedWritesNothing : Type 0
RefusedWritesNothing = (log w date slice : Bytes) (dsize psize : ℕ) (entry scores : Bytes) (y : Refusal)
    → (write_file log w date slice dsize psize entry scores).end ≡ Err y → y ≢ NoRoom → y ≢ Clash
    → write_file log w date slice dsize psize entry scores ≡ outcome (Err y) (beside log w) entry scores
