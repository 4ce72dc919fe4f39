-- The bound on the calls of a walk.
use Rattle.std.specs.Prelude.{◌≡◌, ℕ, ◌+◌, ◌≤◌}
use Rattle.buffer.specs.Bytes.{Bytes}
use Rattle.entry.specs.declared.Entry.{Entry}
use Rattle.descent.specs.Descent.{visit_directory, visit_entry}

-- the bound on calls changes nothing where it is enough, and the walk's is
abbrev pub EnoughForEntry : Type 0
EnoughForEntry = (f g : ℕ) (log : Bytes) (e : Entry) (level nest : ℕ) (score : Bytes) (left : ℕ) → left + left + 1 ≤ f → left + left + 1 ≤ g
    → visit_entry f log e level nest score left ≡ visit_entry g log e level nest score left

abbrev pub EnoughForDirectory : Type 0
EnoughForDirectory = (f g : ℕ) (log : Bytes) (nest : ℕ) (b : Bytes) (left : ℕ) → left + left + 2 ≤ f → left + left + 2 ≤ g
    → visit_directory f log nest b left ≡ visit_directory g log nest b left
