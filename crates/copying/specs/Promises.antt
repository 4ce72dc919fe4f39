-- What a copy promises, for any first log and any second log.
use Rattle.std.specs.Prelude.{◌≡◌, true, false, cond, ◌≢◌, ◌⊎◌, ℕ, zero, suc, ◌+◌, ◌/◌, ◌%◌, ◌≤◌, ◌<◌, length, Ok, Err, Result, ⊤}
use mathlib.Core.List.{List, [], ◌∷◌, ◌++◌, Memᴰ}
use Rattle.std.proofs.Math.Option.{some, none as nothing}
use Rattle.buffer.specs.Bytes.{Bytes}
use Rattle.sha1_digest.specs.Sha1.{sha1_of}
use Rattle.refusal.specs.declared.Refusal.TheVariants.{NoRoom, Clash, Spent}
use Rattle.sector.specs.Sector.{is_date}
use Rattle.block.specs.Block.{Row}
use Rattle.block.specs.Log.{at, used}
use Rattle.sector_log.specs.LookUp.{blocks, held}
use Rattle.sector_log.specs.Parts.{tape, alone, room_for}
use Rattle.sector_log.specs.Store.{parts_for}
use Rattle.entry.specs.declared.Entry.{Entry}
use Rattle.entry.specs.Root.{root_well_formed, root_score}
use Rattle.tree.specs.Tree.{piece}
use Rattle.visit.specs.declared.Walked.{Walked}
use Rattle.visit.specs.Visit.{walked}
use Rattle.descent.specs.Descent.{padded_to, visit_directory}
use Rattle.walk.specs.Walk.{most_allowance, walk_of}
use Rattle.walk_laws.specs.Found.{Found, FoundEntries, FoundRoot}
use Rattle.copying.specs.Copy.{Copied, store_end, copy_allowed, copy_of}
use Rattle.copying.specs.PostOrder.{Role, root, top, of_entry, type_of, Visit, PostOrder, directory_last, post_order_of, stored, store_visits}
use Rattle.refusal.specs.declared.Refusal.{Refusal}

-- ---- what it stores

-- the walk in post-order answers as the walk does
abbrev pub PostOrderIsWalk : Type 0
PostOrderIsWalk = (log waiting score : Bytes) (n : ℕ) → (post_order_of log waiting score n).answer ≡ walk_of log waiting score n

-- and so does the part of it below a directory block's bytes, at any nest and with calls enough
abbrev pub DirectoryIsWalk : Type 0
DirectoryIsWalk = (calls : ℕ) (log : Bytes) (nest : ℕ) (b : Bytes) (left : ℕ) → left + left + 2 ≤ calls
    → (directory_last calls log nest b left).answer ≡ visit_directory calls log nest b left

-- and where the walk ends, it has a block for each visit
abbrev pub EachVisitOnce : Type 0
EachVisitOnce = (log waiting score : Bytes) (n v : ℕ) → walk_of log waiting score n ≡ walked v (Ok tt) → length (post_order_of log waiting score n).visits ≡ v

-- a larger allowance: the same, or the smaller one ran out (21) and the larger goes on from there
abbrev pub MoreAllowance : Type 0
MoreAllowance = (log waiting score : Bytes) (m n : ℕ) → m ≤ n → n ≤ most_allowance → let p = post_order_of log waiting score m in let q = post_order_of log waiting score n in
    (q ≡ p) ⊎ ((rest : List Visit) × (p.answer.end ≡ Err Spent) × (q.visits ≡ p.visits ++ rest))

-- "Children go before parents, the root last": a copy is the blocks of the walk over the first log, stored in post-order up to the first refused one; behind
-- the last one its answer is the walk's
abbrev pub CopyIsStores : Type 0
CopyIsStores = (log waiting date score second : Bytes) (n : ℕ) → copy_allowed (length log) (length waiting) (length second) ≡ true → is_date date ≡ true
    → let p = post_order_of log waiting score n in copy_of log waiting date score second n ≡ store_visits date p.visits p.answer second

-- ---- blocks in a log

-- a log that holds what another does
abbrev pub Holds : Bytes → Bytes → Type 0
Holds log log' = (t : ℕ) (s : Bytes) (x : Row) → held log t s ≡ some x → held log' t s ≡ some x

-- look-up finds a block of these very bytes
pub record Shown (log : Bytes) (t : ℕ) (score b : Bytes) : Type 0 where
  pub row : Row
  pub row-held : held log t score ≡ some row
  pub these : row.bytes ≡ b

abbrev pub HeldIn : Bytes → Visit → Type 0
HeldIn log v = Shown log (type_of v.role) v.score v.bytes

abbrev pub HoldsAll : Bytes → List Visit → Type 0
HoldsAll log [] = Unit {0}
HoldsAll log (v ∷ vs) = HeldIn log v × HoldsAll log vs

-- "a link followed in the visit that copied it": all that a block links to, as what it was visited, is in a log, and all that is below that. A root links to its
-- directory block, a directory block to what its active entries name, a pointer block of an entry to its scores, a data block to nothing
pub data Linked (log : Bytes) : Role → Bytes → Type 0 where
  below_root : {b : Bytes} (r : Row) → root_well_formed (padded_to 300 b) ≡ true → held log 2 (root_score (padded_to 300 b)) ≡ some r
      → FoundEntries log r.bytes → Linked log root b
  below_top : {b : Bytes} → FoundEntries log b → Linked log top b
  no_link : {e : Entry} {b : Bytes} → e.directory ≡ false → Linked log (of_entry e zero) b
  entries : {e : Entry} {b : Bytes} → e.directory ≡ true → FoundEntries log b → Linked log (of_entry e zero) b
  scores : {e : Entry} {d : ℕ} {b : Bytes} → length b % 20 ≡ 0 → ((i : ℕ) → i < length b / 20 → Found log e d (piece 20 i b)) → Linked log (of_entry e (suc d)) b

-- ---- to the second log's ledger it is a list of writes

-- the second log after a block is stored, and after those of a list
abbrev pub wrote : Bytes → Visit → Bytes → Bytes
wrote date v s = (stored date v s).lent.log

unfoldable pub wrote_all : Bytes → List Visit → Bytes → Bytes
wrote_all date [] s = s
wrote_all date (v ∷ vs) s = wrote_all date vs (wrote date v s)

-- each block is held in the first log; when it is written, all that it links to is in the second; and its write is not refused
pub data Writes (first date : Bytes) : List Visit → Bytes → Type 0 where
  none : {s : Bytes} → Writes first date [] s
  next : {v : Visit} {vs : List Visit} {s : Bytes} → HeldIn first v → Linked s v.role v.bytes → store_end (stored date v s).receipt.stored ≡ Ok tt
      → Writes first date vs (wrote date v s) → Writes first date (v ∷ vs) s

-- the visits of a list up to the first one whose block the second log refuses
abbrev pub taken_by : Result ⊤ Refusal → Visit → List Visit → List Visit
taken_by (Ok tt) v vs = v ∷ vs
taken_by (Err why) v vs = []

unfoldable pub taken : Bytes → List Visit → Bytes → List Visit
taken date [] s = []
taken date (v ∷ vs) s = taken_by (store_end (stored date v s).receipt.stored) v (taken date vs (wrote date v s))

-- the visits that a copy made, each of which wrote its block or met it in the second log: none where a test refuses the call
unfoldable pub made : Bytes → Bytes → Bytes → Bytes → Bytes → ℕ → List Visit
made log waiting date score second n =
    cond (copy_allowed (length log) (length waiting) (length second)) (cond (is_date date) (taken date (post_order_of log waiting score n).visits second) []) []

-- a beginning of a walk, `before`, is what a copy wrote, and the whole of it where the answer is the walk's; in the end too the second log has all that the blocks
-- of these visits link to
pub record OnlyWrites (first date : Bytes) (p : PostOrder) (before : List Visit) (second : Bytes) (c : Copied) : Type 0 where
  pub rest : List Visit
  pub beginning : p.visits ≡ before ++ rest
  pub nothing_left : c.answer ≡ p.answer → rest ≡ []
  pub writes : Writes first date before second
  pub behind : c.second ≡ wrote_all date before second
  pub linked : (v : Visit) → Memᴰ v before → Linked c.second v.role v.bytes

-- "appended to that log itself": the second log is what a list of writes leaves, one after the other, each settled at once: those of the visits made
abbrev pub CopyIsWrites : Type 0
CopyIsWrites = (log waiting date score second : Bytes) (n : ℕ)
    → OnlyWrites (tape log waiting) date (post_order_of log waiting score n) (made log waiting date score second n) second (copy_of log waiting date score second n)

-- why a log refuses a block: 14, it holds none of this type and score and has too few sectors left; 15, it holds one of other bytes
pub data Refuses (s date : Bytes) (t : ℕ) (b : Bytes) : Result ⊤ Refusal → Type 0 where
  no_room : held s t (sha1_of b) ≡ nothing → room_for (alone s) (parts_for date b) ≡ false → Refuses s date t b (Err NoRoom)
  clash : (x : Row) → held s t (sha1_of b) ≡ some x → x.bytes ≢ b → Refuses s date t b (Err Clash)

-- how a copy ends: with the walk's answer, and all blocks of the walk written; or at the first block that the second log refuses, as it is left behind: those before
-- it are written, all that it links to is there, and the answer is that refusal with the visits spent by then
pub data StopsAt (first date : Bytes) (p : PostOrder) (second : Bytes) (c : Copied) : Type 0 where
  ended : Writes first date p.visits second → c.second ≡ wrote_all date p.visits second → c.answer ≡ p.answer → StopsAt first date p second c
  refused : (before after : List Visit) (v : Visit) → p.visits ≡ before ++ (v ∷ after) → Writes first date before second → c.second ≡ wrote_all date before second
      → HeldIn first v → Linked c.second v.role v.bytes → Refuses c.second date (type_of v.role) v.bytes c.answer.end
      → c.answer.visits ≡ v.spent → v.spent ≤ p.answer.visits → StopsAt first date p second c

-- which of the two
abbrev pub CopyStopsAt : Type 0
CopyStopsAt = (log waiting date score second : Bytes) (n : ℕ) → copy_allowed (length log) (length waiting) (length second) ≡ true → is_date date ≡ true
    → StopsAt (tape log waiting) date (post_order_of log waiting score n) second (copy_of log waiting date score second n)

-- refusals that speak of the second log
abbrev pub OfSecond : Result ⊤ Refusal → Type 0
OfSecond e = (e ≡ Err NoRoom) ⊎ (e ≡ Err Clash)

-- a block that the first log holds and the second one refuses, as a copy left it, with its answer
abbrev pub RefusedBlock : Bytes → Bytes → Copied → Type 0
RefusedBlock first date c = (v : Visit) × HeldIn first v × Refuses c.second date (type_of v.role) v.bytes c.answer.end

-- "14 and 15 now speak of the second log": they come only where it refuses a block
abbrev pub OnlyWhereRefused : Type 0
OnlyWhereRefused = (log waiting date score second : Bytes) (n : ℕ) → let c = copy_of log waiting date score second n in OfSecond c.answer.end → RefusedBlock (tape log waiting) date c

-- and so where a copy does not answer as the walk does, there is such a block
abbrev pub RoomAndNoClash : Type 0
RoomAndNoClash = (log waiting date score second : Bytes) (n : ℕ) → copy_allowed (length log) (length waiting) (length second) ≡ true → is_date date ≡ true
    → let c = copy_of log waiting date score second n in c.answer ≢ walk_of log waiting score n → RefusedBlock (tape log waiting) date c

-- ---- what stays

pub record Stays (date second second' : Bytes) : Type 0 where
  pub new : List Row
  pub as_long : length second' ≡ length second
  pub unchanged : (n : ℕ) → n < used second → at second' n ≡ at second n
  pub added : blocks second' ≡ blocks second ++ new
  pub still-held : Holds second second'
  pub new-held : (x : Row) → Memᴰ x new → held second' x.kind x.score ≡ some x
  pub new-dated : (x : Row) → Memᴰ x new → x.date ≡ date

-- "If it stops, whatever has been copied stays .. and is sound", and if it ends too: the sectors used before are unchanged, what was held is held, and
-- behind the sound blocks that were there stand those that the call stored, each found by its type and score, with the call's date
abbrev pub CopiedStays : Type 0
CopiedStays = (log waiting date score second : Bytes) (n : ℕ) → Stays date second (copy_of log waiting date score second n).second

-- a visit whose block a row is
abbrev pub OfRow : Row → Visit → Type 0
OfRow x v = (type_of v.role ≡ x.kind) × (v.bytes ≡ x.bytes)

-- a row is the block of one of these visits
abbrev pub VisitedIn : List Visit → Row → Type 0
VisitedIn vs x = (v : Visit) × Memᴰ v vs × OfRow x v

-- and all that it links to is in a log, as what any of them visited it
abbrev pub LinkedAs : List Visit → Bytes → Row → Type 0
LinkedAs vs log x = VisitedIn vs x × ((v : Visit) → Memᴰ v vs → OfRow x v → Linked log v.role x.bytes)

-- "no block copied by this call points, by a link followed in the visit that copied it, to one that the second log lacks": nor by one followed in another visit
-- that the copy made
abbrev pub NoDangling : Type 0
NoDangling = (log waiting date score second : Bytes) (n : ℕ) (new : List Row)
    → blocks (copy_of log waiting date score second n).second ≡ blocks second ++ new
    → (x : Row) → Memᴰ x new → LinkedAs (made log waiting date score second n) (copy_of log waiting date score second n).second x

-- ---- the walk

-- "If it ends, the walk over the second log visits the same blocks with the same count": the same types, scores and bytes in the same order, each after as many
-- visits, and it ends; so all below the root is found
abbrev pub EndsWhole : Type 0
EndsWhole = (log waiting date score second : Bytes) (n v : ℕ) → let c = copy_of log waiting date score second n in
    c.answer ≡ walked v (Ok tt)
    → (post_order_of c.second [] score n ≡ post_order_of log waiting score n)
    × HoldsAll c.second (post_order_of log waiting score n).visits
    × (walk_of c.second [] score n ≡ walked v (Ok tt))
    × FoundRoot c.second score

-- the walk's answer; or 14 or 15, after no more visits than the walk's
abbrev pub AsWalk : Copied → Walked → Type 0
AsWalk c w = (c.answer ≡ w) ⊎ (OfSecond c.answer.end × (c.answer.visits ≤ w.visits))

-- "Walk rules, order of refusals and allowance are as in document 01; 14 and 15 now speak of the second log"
abbrev pub CopyIsWalk : Type 0
CopyIsWalk = (log waiting date score second : Bytes) (n : ℕ) → copy_allowed (length log) (length waiting) (length second) ≡ true → is_date date ≡ true
    → AsWalk (copy_of log waiting date score second n) (walk_of log waiting score n)

-- ---- copying again

-- copying again into what a copy left, whether it ended or stopped, answers alike and adds nothing
abbrev pub CopyAgain : Type 0
CopyAgain = (log waiting date score second : Bytes) (n : ℕ)
    → copy_of log waiting date score (copy_of log waiting date score second n).second n ≡ copy_of log waiting date score second n

-- where it ended, with any date
abbrev pub CopyAgainAddsNothing : Type 0
CopyAgainAddsNothing = (log waiting date date' score second : Bytes) (n v : ℕ) → is_date date' ≡ true → let c = copy_of log waiting date score second n in
    c.answer ≡ walked v (Ok tt) → copy_of log waiting date' score c.second n ≡ c
