-- "A copy to another log": "all that a root reaches", by look-up's definition in the first log and a write's in the second.
use Rattle.std.specs.Prelude.{Bool, cond, ◌&&◌, ℕ, zero, suc, ◌+◌, ◌-◌, ◌*◌, ◌/◌, ◌%◌, eqb, ltb, length, Ok, Err, Result, ⊤}
use Rattle.bedrock.specs.Choice.{on}
use Rattle.buffer.specs.Bytes.{Bytes}
use Rattle.refusal.specs.declared.Refusal.TheVariants.{LogLength, OverCount, Nest, Spent, Entry as IllFormed, Pointers, Allowance, Date}
use Rattle.kind.specs.Kind.{longest}
use Rattle.sector.specs.Sector.{is_date}
use Rattle.sector_log.specs.LookUp.{held, absence, log_allowed, lent_allowed}
use Rattle.sector_log.specs.Parts.{tape, alone}
use Rattle.sector_log.specs.Store.{AfterStore, store}
use Rattle.sector_log.specs.declared.Stored.{Stored}
use Rattle.sector_log.specs.declared.Stored.TheVariants.{New, Duplicate}
use Rattle.entry.specs.declared.Entry.{Entry}
use Rattle.entry.specs.Entry.{entry_of, entry_allowed, score_of}
use Rattle.entry.specs.Root.{root_well_formed, root_score}
use Rattle.tree.specs.Tree.{type_at, count_at, piece}
use Rattle.visit.specs.declared.Walked.{Walked}
use Rattle.visit.specs.Visit.{walked}
use Rattle.descent.specs.Descent.{padded_to, nest_of, entries_of}
use Rattle.walk.specs.Walk.{most_allowance}
use Rattle.refusal.specs.declared.Refusal.{Refusal}

-- what a copy leaves: "the number and the visits spent", as a walk's answer, and the second log
pub record Copied : Type 0 where
  pub answer : Walked
  pub second : Bytes

abbrev pub copied : Walked → Bytes → Copied
copied w second = record { answer = w; second = second }

-- a refusal: "whatever has been copied stays"
abbrev pub stopped : ℕ → Result ⊤ Refusal → Bytes → Copied
stopped n e second = copied (walked n e) second

-- "14 and 15 now speak of the second log"
abbrev pub store_end : Result Stored Refusal → Result ⊤ Refusal
store_end (Ok (New n)) = (Ok tt)
store_end (Ok (Duplicate n)) = (Ok tt)
store_end (Err why) = Err why

-- n visits are spent, and a block goes through a write's four steps: "blocks are appended to that log itself"
abbrev pub stored_in : ℕ → AfterStore → Copied
stored_in n a = copied (walked n (store_end a.receipt.stored)) a.lent.log

-- how all below a block ended: "Children go before parents", so it is stored when that is done, and not where it was refused
abbrev pub kept_after : Result ⊤ Refusal → Bytes → ℕ → Bytes → ℕ → Bytes → Copied
kept_after (Ok tt) date t b n second = stored_in n (store (alone second) date t b)
kept_after (Err why) date t b n second = stopped n (Err why) second

-- a block of type t and bytes b as found, behind what is below it, with the visit that found it
unfoldable pub kept : Bytes → ℕ → Bytes → Copied → Copied
kept date t b below = kept_after below.answer.end date t b (below.answer.visits + 1) below.second

-- "Walk rules, order of refusals and allowance are as in document 01": a visit refuses 20, then 21, then spends one, then looks up (count: 13); what is
-- below it has the block's bytes and the second log
unfoldable pub copy_visit : Bytes → Bytes → ℕ → ℕ → ℕ → ℕ → Bytes → (Bytes → Bytes → Copied) → Bytes → Copied
copy_visit log date nest left kind count score below second =
    cond (ltb 16 nest) (stopped 0 (Err Nest) second)
    (cond (eqb left 0) (stopped 0 (Err Spent) second)
    (on (held log kind score) (stopped 1 (Err (absence log)) second)
    (λ r. cond (ltb count (length r.bytes)) (stopped 1 (Err OverCount) second) (kept date kind r.bytes (below r.bytes second)))))

-- "The first refusal stops all"; n visits were spent before
abbrev pub then_by : Result ⊤ Refusal → ℕ → Bytes → (ℕ → Bytes → Copied) → Copied
then_by (Ok tt) n second k = k n second
then_by (Err why) n second k = stopped n (Err why) second

abbrev pub and_then : Copied → ℕ → (ℕ → Bytes → Copied) → Copied
and_then c n k = then_by c.answer.end (n + c.answer.visits) c.second k

-- k pieces of w bytes from piece i on, "in the walk's order", each with what is left of the allowance and the second log so far
unfoldable pub copy_in_order : (Bytes → ℕ → Bytes → Copied) → ℕ → Bytes → ℕ → ℕ → ℕ → ℕ → Bytes → Copied
copy_in_order go w b left zero i n second = stopped n (Ok tt) second
copy_in_order go w b left (suc k) i n second = and_then (go (piece w i b) (left - n) second) n (λ m s. copy_in_order go w b left k (suc i) m s)

-- "an inactive one is skipped, an ill-formed active one is 16", else c
unfoldable pub judged_copy : Bytes → Copied → Bytes → Copied
judged_copy x c second =
    cond (entry_of x).active (cond (entry_allowed x) c (stopped 0 (Err IllFormed) second)) (stopped 0 (Ok tt) second)

-- The two that call each other, as in the walk; the first number bounds the calls
unfoldable mutual
  -- the entries of a directory block's bytes at a nest
  pub copy_directory : ℕ → Bytes → Bytes → ℕ → Bytes → ℕ → Bytes → Copied
  copy_directory zero log date nest b left second = stopped 0 (Ok tt) second
  copy_directory (suc f) log date nest b left second =
      copy_in_order (λ x a s. judged_copy x (copy_entry f log date (entry_of x) (entry_of x).depth (nest_of (entry_of x) nest) (score_of x) a s) s) 40
      (padded_to (40 * entries_of (length b)) b) left (entries_of (length b)) 0 0 second

  -- a block of an entry at a level, behind all that is below it
  pub copy_entry : ℕ → Bytes → Bytes → Entry → ℕ → ℕ → Bytes → ℕ → Bytes → Copied
  copy_entry zero log date e level nest score left second = stopped 0 (Ok tt) second
  copy_entry (suc f) log date e level nest score left second =
      copy_visit log date nest left (type_at e level) (count_at e level) score
      (λ b s. cond (eqb level 0)
      (cond e.directory (copy_directory f log date nest b (left - 1) s) (stopped 0 (Ok tt) s))
      (cond (eqb (length b % 20) 0) (copy_in_order (λ x a s'. copy_entry f log date e (level - 1) nest x a s') 20 b (left - 1) (length b / 20) 0 0 s)
      (stopped 0 (Err Pointers) s)))
      second

-- the root's directory block
unfoldable pub copy_top : Bytes → Bytes → Bytes → ℕ → Bytes → Copied
copy_top log date score left second =
    copy_visit log date 1 left 2 longest score (λ b s. copy_directory (left + left + 2) log date 1 b (left - 1) s) second

-- "the root last"
unfoldable pub copy_root : Bytes → Bytes → Bytes → ℕ → Bytes → Copied
copy_root log date score left second =
    copy_visit log date 0 left 1 300 score
    (λ b s. cond (root_well_formed (padded_to 300 b)) (copy_top log date (root_score (padded_to 300 b)) (left - 1) s) (stopped 0 (Err IllFormed) s))
    second

-- tests 3, 24, 23, in one log of bytes, where `lent` is what test 3 gave: they write nothing
unfoldable pub copy_in : Bool → Bytes → Bytes → Bytes → ℕ → Bytes → Copied
copy_in lent log date score allowance second =
    cond lent
    (cond (is_date date)
    (cond (ltb most_allowance allowance) (stopped 0 (Err Allowance) second) (copy_root log date score allowance second))
    (stopped 0 (Err Date) second))
    (stopped 0 (Err LogLength) second)

-- test 3 is one over all that is lent as sectors, "each by its own limit": a log of m bytes, a waiting part of w and a second log of k
unfoldable pub copy_allowed : ℕ → ℕ → ℕ → Bool
copy_allowed m w k = lent_allowed m w && log_allowed k

-- the whole: look-ups go to the first log joined with its waiting part, the second log has none
abbrev pub copy_of : Bytes → Bytes → Bytes → Bytes → Bytes → ℕ → Copied
copy_of log waiting date score second allowance =
    copy_in (copy_allowed (length log) (length waiting) (length second)) (tape log waiting) date score allowance second
