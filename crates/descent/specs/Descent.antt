-- What is below a block, in "Walking from a root score".
use Rattle.std.specs.Prelude.{cond, ◌++◌, ℕ, zero, suc, ◌+◌, ◌-◌, ◌*◌, ◌/◌, ◌%◌, eqb, length, replicate, Ok, Err, Result, ⊤}
use Rattle.buffer.specs.Bytes.{Bytes}
use Rattle.refusal.specs.declared.Refusal.TheVariants.{Entry as IllFormed, Pointers}
use Rattle.entry.specs.declared.Entry.{Entry}
use Rattle.entry.specs.Entry.{entry_of, entry_allowed, score_of}
use Rattle.tree.specs.Tree.{type_at, count_at, piece}
use Rattle.visit.specs.declared.Walked.{Walked}
use Rattle.visit.specs.Visit.{walked, visiting}
use Rattle.refusal.specs.declared.Refusal.{Refusal}

-- "The first refusal stops all": the end of a part, the visits spent up to there, and what goes on from them
abbrev pub and_then : Result ⊤ Refusal → ℕ → (ℕ → Walked) → Walked
and_then (Ok tt) n k = k n
and_then (Err r) n k = walked n (Err r)

-- bytes padded with zero bytes to a length
abbrev pub padded_to : ℕ → Bytes → Bytes
padded_to n b = b ++ replicate (n - length b) 0

-- k pieces of w bytes from piece i on, "in order", each with what is left of the allowance when n visits are spent
unfoldable pub in_order : (Bytes → ℕ → Walked) → ℕ → Bytes → ℕ → ℕ → ℕ → ℕ → Walked
in_order go w b left zero i n = walked n (Ok tt)
in_order go w b left (suc k) i n =
    and_then (go (piece w i b) (left - n)).end (n + (go (piece w i b) (left - n)).visits) (λ m. in_order go w b left k (suc i) m)

-- "Every block of a directory entry counts at that deeper nest, every block of a data entry at the nest of the directory that holds it"
unfoldable pub nest_of : Entry → ℕ → ℕ
nest_of e nest = cond e.directory (nest + 1) nest

-- "padded to whole entries": how many
abbrev pub entries_of : ℕ → ℕ
entries_of size = (size + 39) / 40

-- "an inactive one is skipped, an ill-formed active one is 16", else w
unfoldable pub judged : Bytes → Walked → Walked
judged x w = cond (entry_of x).active (cond (entry_allowed x) w (walked 0 (Err IllFormed))) (walked 0 (Ok tt))

-- The two that call each other. The first number bounds the calls: twice the allowance and a little more is enough, and where it is enough it changes nothing.
unfoldable mutual
  -- "entry by entry in order", of a directory block's bytes at a nest: "any other's top score is visited"
  pub visit_directory : ℕ → Bytes → ℕ → Bytes → ℕ → Walked
  visit_directory zero log nest b left = walked 0 (Ok tt)
  visit_directory (suc f) log nest b left =
      in_order (λ x a. judged x (visit_entry f log (entry_of x) (entry_of x).depth (nest_of (entry_of x) nest) (score_of x) a)) 40
      (padded_to (40 * entries_of (length b)) b) left (entries_of (length b)) 0 0

  -- a block of an entry at a level: below a pointer block its scores "visited in order (18 and counts as in reading)", below a directory's leaf its entries
  pub visit_entry : ℕ → Bytes → Entry → ℕ → ℕ → Bytes → ℕ → Walked
  visit_entry zero log e level nest score left = walked 0 (Ok tt)
  visit_entry (suc f) log e level nest score left =
      visiting log nest left (type_at e level) (count_at e level) score
      (λ b. cond (eqb level 0)
      (cond e.directory (visit_directory f log nest b (left - 1)) (walked 0 (Ok tt)))
      (cond (eqb (length b % 20) 0) (in_order (λ x a. visit_entry f log e (level - 1) nest x a) 20 b (left - 1) (length b / 20) 0 0)
      (walked 0 (Err Pointers))))
