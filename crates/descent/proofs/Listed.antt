-- An entry of a directory block: not visited, or visited.
use mathlib.Core.Path.{◌≡◌, refl, sym, ap, ap₂, ◌∙◌}
use mathlib.Core.Bool.{Bool, true, false, cond}
use Prim.Native.Nat.{ℕ, zero, suc, ◌+◌, ◌-◌, ◌*◌, ◌≤◌, ◌<◌}
use native.Mathlib.Omega.{arith}
use lib.ListN.{length, take, drop, length-take, length-drop}
use lib.Seq.{take_all}
use Rattle.buffer.specs.Bytes.{Bytes}
use Rattle.refusal.specs.declared.Refusal.TheVariants.{Entry as IllFormed}
use Rattle.sector.specs.Sector.{filled}
use Rattle.sector.proofs.Encode.{length-filled}
use Rattle.block.specs.declared.Block.{Block}
use Rattle.block.specs.Log.{bytes_of}
use Rattle.tree.proofs.Pointers.{length-bytes}
use Rattle.entry.specs.declared.Entry.{Entry}
use Rattle.entry.specs.Entry.{entry_of, entry_allowed, score_of}
use Rattle.visit.specs.declared.Walked.{Walked}
use Rattle.visit.specs.Visit.{walked}
use Rattle.descent.specs.declared.Judged.{Judged}
use Rattle.descent.specs.declared.Judged.TheVariants.{Ends, Visited}
use Rattle.descent.specs.Descent.{padded_to, in_order, nest_of, entries_of, judged, visit_directory, visit_entry}
use Rattle.descent.specs.Parts.{entry_in, visit_listed, judged_of, by_judged}
use Rattle.descent.proofs.Padded.{entry-piece}
use Rattle.descent.proofs.InOrder.{OfAll, walk_pieces}
use Rattle.std.specs.Prelude.{Ok, Err, Result, ⊤}
use Rattle.refusal.specs.declared.Refusal.{Refusal}

-- the bytes of a directory block, padded to whole entries
abbrev pub wholes : Bytes → Bytes
wholes b = padded_to (40 * entries_of (length b)) b

-- the entries of a block at its place in the log, one after the other, are its directory
pub entries_are_directory : (log : Bytes) (nest : ℕ) (b : Block) → b.label < 499 → (left : ℕ) (v : Walked)
    → OfAll (walk_pieces (λ f. visit_listed f log nest) 40 (wholes (bytes_of log b)) left) (entries_of b.size) tt v tt
    → (v.visits ≤ left) × ((f : ℕ) → left + left + 2 ≤ f → v ≡ visit_directory f log nest (bytes_of log b) left)
unfolding visit_directory
entries_are_directory log nest b short left v k = (k.0, go)
  where
    go : (f : ℕ) → left + left + 2 ≤ f → v ≡ visit_directory f log nest (bytes_of log b) left
    go zero h = absurd (omega arith)
    go (suc f) h =
        k.1 f (omega arith)
        ∙ ap (λ (n : ℕ). in_order (visit_listed f log nest) 40 (wholes (bytes_of log b)) left (entries_of n) 0 0) (sym (length-bytes log b short))

-- entry i of a directory block's bytes b as it is read: its bytes x, and what they say
pub record EntryRead (b : Bytes) (i : ℕ) (x : Bytes) (e : Entry) : Type 0 where
  pub within : i < entries_of (length b)
  pub bytes : x ≡ filled 40 (drop (40 * i) b)
  pub read : e ≡ entry_of (take 40 (drop 0 x))

pub entry_read : (log : Bytes) (b : Block) → b.label < 499 → (i : ℕ) {x : Bytes} {e : Entry} → i < entries_of b.size
    → x ≡ filled 40 (drop (40 * i) (bytes_of log b)) → e ≡ entry_of (take 40 (drop 0 x)) → EntryRead (bytes_of log b) i x e
entry_read log b short i h x e = record { within = omega (arith, length-bytes log b short); bytes = x; read = e }

module _ {b : Bytes} {i : ℕ} {x : Bytes} {e : Entry} (R : EntryRead b i x e) where
  pub bytes_are_piece : x ≡ entry_in b i
  bytes_are_piece = R.bytes ∙ sym (entry-piece b i R.within)

  length_40 : length x ≡ 40
  length_40 = ap length R.bytes ∙ length-filled 40 (drop (40 * i) b)

  pub entry-of-piece : e ≡ entry_of (entry_in b i)
  entry-of-piece = R.read ∙ ap entry_of (take_all 40 x (omega (arith, length_40)) ∙ bytes_are_piece)

  -- what is done with it, by its bytes
  pub by_entry : {A : Type 0} {d : Judged} → d ≡ judged_of e → (ends : Result ⊤ Refusal → A) (visited : A)
      → by_judged d ends visited ≡ cond (entry_of (entry_in b i)).active (cond (entry_allowed (entry_in b i)) visited (ends (Err IllFormed))) (ends (Ok tt))
  unfolding judged_of
  by_entry q ends visited = rw (q, entry-of-piece) (by_tests_lem (entry_of (entry_in b i)).active (entry_allowed (entry_in b i)))
    where
      by_tests_lem : (y z : Bool)
          → by_judged (cond y (cond z Visited (Ends (Err IllFormed))) (Ends (Ok tt))) ends visited ≡ cond y (cond z visited (ends (Err IllFormed))) (ends (Ok tt))
      by_tests_lem true true = refl
      by_tests_lem true false = refl
      by_tests_lem false z = refl

  pub depth-at-most_7 : e.depth ≤ 7
  unfolding entry_of
  depth-at-most_7 = rw R.read (omega arith)

  pub score-of_20 : length (take (40 - 20) (drop 20 x)) ≡ 20
  score-of_20 = simp (length-take, length-drop) (omega (arith, length_40))

  pub ends_unvisited : (y : Result ⊤ Refusal) → Ends y ≡ judged_of e → (f : ℕ) (log : Bytes) (nest left : ℕ) → walked 0 y ≡ visit_listed f log nest (entry_in b i) left
  unfolding judged
  ends_unvisited y q f log nest left = by_entry q (walked 0) _

  pub is_visited : Visited ≡ judged_of e → (log : Bytes) (nest left : ℕ) {deep : ℕ} → deep ≡ nest_of e nest → (f : ℕ) {r : Walked}
      → r ≡ visit_entry f log e e.depth deep (take (40 - 20) (drop 20 x)) left → r ≡ visit_listed f log nest (entry_in b i) left
  unfolding judged
  is_visited q log nest left d f v =
      v ∙ ap (λ (y : ℕ). visit_entry f log e e.depth y (score_of x) left) d
      ∙ ap₂ (λ (y : Entry) (u : Bytes). visit_entry f log y y.depth (nest_of y nest) u left) entry-of-piece (ap score_of bytes_are_piece)
      ∙ by_entry q (walked 0) _
