-- The walk in post-order: the blocks that it visits, children before parents, and its answer. A copy stores them in this order.
use Rattle.std.specs.Prelude.{Bool, cond, List, [], ◌∷◌, ◌++◌, map, ℕ, zero, suc, ◌+◌, ◌-◌, ◌*◌, ◌/◌, ◌%◌, eqb, ltb, length, Ok, Err, Result, ⊤}
use Rattle.bedrock.specs.Choice.{on}
use Rattle.buffer.specs.Bytes.{Bytes}
use Rattle.refusal.specs.declared.Refusal.TheVariants.{LogLength, OverCount, Nest, Spent, Entry as IllFormed, Pointers, Allowance}
use Rattle.kind.specs.Kind.{longest}
use Rattle.sector_log.specs.LookUp.{held, absence, lent_allowed}
use Rattle.sector_log.specs.Parts.{tape, alone}
use Rattle.sector_log.specs.Store.{AfterStore, store}
use Rattle.entry.specs.declared.Entry.{Entry}
use Rattle.entry.specs.Entry.{entry_of, entry_allowed, score_of}
use Rattle.entry.specs.Root.{root_well_formed, root_score}
use Rattle.tree.specs.Tree.{type_at, count_at, piece}
use Rattle.visit.specs.declared.Walked.{Walked}
use Rattle.visit.specs.Visit.{walked}
use Rattle.descent.specs.Descent.{padded_to, nest_of, entries_of}
use Rattle.walk.specs.Walk.{most_allowance}
use Rattle.copying.specs.Copy.{Copied, copied, store_end, then_by}
use Rattle.refusal.specs.declared.Refusal.{Refusal}

-- what a block is visited as: the root, its directory block, or a block of an entry at a level
pub data Role : Type 0 where
  root : Role
  top : Role
  of_entry : Entry → ℕ → Role

-- "Level d is type 2+d, the leaf 13 or 2"
abbrev pub type_of : Role → ℕ
type_of root = 1
type_of top = 2
type_of (of_entry e level) = type_at e level

-- a block as it is found, and the visits spent when all below it and the block itself are visited
pub record Visit : Type 0 where
  pub role : Role
  pub score : Bytes
  pub bytes : Bytes
  pub spent : ℕ

pub record PostOrder : Type 0 where
  pub visits : List Visit
  pub answer : Walked

abbrev pub post_order : List Visit → Walked → PostOrder
post_order vs w = record { visits = vs; answer = w }

-- n visits were spent before
abbrev pub later : ℕ → Visit → Visit
later n v = record { role = v.role; score = v.score; bytes = v.bytes; spent = n + v.spent }

-- "The first refusal stops all": the visits so far, how they ended, and what goes on
abbrev pub go_on : Result ⊤ Refusal → List Visit → ℕ → (ℕ → PostOrder) → PostOrder
go_on (Ok tt) vs n k = post_order (vs ++ (k n).visits) (k n).answer
go_on (Err why) vs n k = post_order vs (walked n (Err why))

abbrev pub followed_by : PostOrder → ℕ → (ℕ → PostOrder) → PostOrder
followed_by p n k = go_on p.answer.end (map (later n) p.visits) (n + p.answer.visits) k

-- "Children go before parents": a block behind all that is below it, with the visit that found it
abbrev pub behind : Role → Bytes → Bytes → PostOrder → PostOrder
behind role score b below = followed_by below 1 (λ n. post_order (record { role = role; score = score; bytes = b; spent = n } ∷ []) (walked n (Ok tt)))

-- a visit: 20, then 21, then one is spent, then the look-up (count: 13)
unfoldable pub visit_last : Bytes → ℕ → ℕ → Role → ℕ → Bytes → (Bytes → PostOrder) → PostOrder
visit_last log nest left role count score below =
    cond (ltb 16 nest) (post_order [] (walked 0 (Err Nest)))
    (cond (eqb left 0) (post_order [] (walked 0 (Err Spent)))
    (on (held log (type_of role) score) (post_order [] (walked 1 (Err (absence log))))
    (λ r. cond (ltb count (length r.bytes)) (post_order [] (walked 1 (Err OverCount))) (behind role score r.bytes (below r.bytes)))))

-- k pieces of w bytes from piece i on, each with what is left of the allowance when n visits are spent
unfoldable pub each_in_order : (Bytes → ℕ → PostOrder) → ℕ → Bytes → ℕ → ℕ → ℕ → ℕ → PostOrder
each_in_order go w b left zero i n = post_order [] (walked n (Ok tt))
each_in_order go w b left (suc k) i n = followed_by (go (piece w i b) (left - n)) n (λ m. each_in_order go w b left k (suc i) m)

-- "an inactive one is skipped, an ill-formed active one is 16", else p
unfoldable pub judged_last : Bytes → PostOrder → PostOrder
judged_last x p =
    cond (entry_of x).active (cond (entry_allowed x) p (post_order [] (walked 0 (Err IllFormed)))) (post_order [] (walked 0 (Ok tt)))

-- The two that call each other, as in the walk; the first number bounds the calls
unfoldable mutual
  pub directory_last : ℕ → Bytes → ℕ → Bytes → ℕ → PostOrder
  directory_last zero log nest b left = post_order [] (walked 0 (Ok tt))
  directory_last (suc f) log nest b left =
      each_in_order (λ x a. judged_last x (entry_last f log (entry_of x) (entry_of x).depth (nest_of (entry_of x) nest) (score_of x) a)) 40
      (padded_to (40 * entries_of (length b)) b) left (entries_of (length b)) 0 0

  pub entry_last : ℕ → Bytes → Entry → ℕ → ℕ → Bytes → ℕ → PostOrder
  entry_last zero log e level nest score left = post_order [] (walked 0 (Ok tt))
  entry_last (suc f) log e level nest score left =
      visit_last log nest left (of_entry e level) (count_at e level) score
      (λ b. cond (eqb level 0)
      (cond e.directory (directory_last f log nest b (left - 1)) (post_order [] (walked 0 (Ok tt))))
      (cond (eqb (length b % 20) 0) (each_in_order (λ x a. entry_last f log e (level - 1) nest x a) 20 b (left - 1) (length b / 20) 0 0)
      (post_order [] (walked 0 (Err Pointers)))))

unfoldable pub top_last : Bytes → Bytes → ℕ → PostOrder
top_last log score left = visit_last log 1 left top longest score (λ b. directory_last (left + left + 2) log 1 b (left - 1))

-- "the root last"
unfoldable pub root_last : Bytes → Bytes → ℕ → PostOrder
root_last log score left =
    visit_last log 0 left root 300 score
    (λ b. cond (root_well_formed (padded_to 300 b)) (top_last log (root_score (padded_to 300 b)) (left - 1)) (post_order [] (walked 0 (Err IllFormed))))

-- "Tests: 3, 23", in one log of bytes
unfoldable pub post_order_in : Bool → Bytes → Bytes → ℕ → PostOrder
post_order_in lent log score allowance =
    cond lent
    (cond (ltb most_allowance allowance) (post_order [] (walked 0 (Err Allowance))) (root_last log score allowance))
    (post_order [] (walked 0 (Err LogLength)))

-- the walk from a root score over a log and its waiting part, in post-order
abbrev pub post_order_of : Bytes → Bytes → Bytes → ℕ → PostOrder
post_order_of log waiting score allowance = post_order_in (lent_allowed (length log) (length waiting)) (tape log waiting) score allowance

-- ---- a list of visits stored in a log for which nothing waits

abbrev pub stored : Bytes → Visit → Bytes → AfterStore
stored date v s = store (alone s) date (type_of v.role) v.bytes

-- one block after the other: the first refused one ends it, with the visits spent by then; after the last one the answer is w
unfoldable pub store_visits : Bytes → List Visit → Walked → Bytes → Copied
store_visits date [] w s = copied w s
store_visits date (v ∷ vs) w s =
    then_by (store_end (stored date v s).receipt.stored) v.spent (stored date v s).lent.log (λ n s'. store_visits date vs w s')
