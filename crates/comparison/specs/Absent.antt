-- What is not read, what can't be read, and what is answered then.
use Rattle.std.specs.Prelude.{◌≡◌, ℕ, suc, ◌+◌, ◌-◌, ◌≤◌, ◌<◌, Err}
use Rattle.std.proofs.Math.Option.{none}
use Rattle.buffer.specs.Bytes.{Bytes}
use Rattle.refusal.specs.declared.Refusal.{Refusal}
use Rattle.sector_log.specs.LookUp.{held, absence}
use Rattle.entry.specs.declared.Entry.{Entry}
use Rattle.tree.specs.Tree.{type_at}
use Rattle.comparison.specs.Compared.{compared, in_order}
use Rattle.comparison.specs.Compared as answers
use Rattle.comparison.specs.declared.Compared.{Compared}
use Rattle.comparison.specs.Compare.{compare_blocks}

-- "equal scores in opened trees are skipped unread": at any nest, with any allowance, whatever the log holds
abbrev pub EqualScoresUnread : Type 0
EqualScoresUnread = (f : ℕ) (log : Bytes) (e : Entry) (level nest : ℕ) (s : Bytes) (left : ℕ) → compare_blocks (suc f) log e level nest s s left ≡ answers.none

-- "A block that can't be read is its refusal, never a difference": the first one's, whatever the second is, and the pair's unit is spent
abbrev pub FirstMissing : Type 0
FirstMissing = (f : ℕ) (log : Bytes) (e : Entry) (level nest : ℕ) (s t : Bytes) (left : ℕ) → (s ≡ t → ⊥) → nest ≤ 16 → 0 < left
    → held log (type_at e level) s ≡ none → compare_blocks (suc f) log e level nest s t left ≡ compared 0 1 (Err (absence log))

-- "The first refusal stops all; the answer is number, count and units up to there"
abbrev pub FirstRefusalStops : Type 0
FirstRefusalStops = (at : ℕ → ℕ → Compared) (left k i m n : ℕ) (w : Refusal) → (at i (left - n)).end ≡ Err w
    → in_order at left (suc k) i m n ≡ compared (m + (at i (left - n)).count) (n + (at i (left - n)).units) (Err w)
