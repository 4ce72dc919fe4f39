-- A run as a part of the log, of the waiting part or of the lent page: its bytes, and its place in memory.
use Rattle.std.specs.Prelude.{List, ℕ, Ok, Err, Result}
use Rattle.std.specs.Borrow.{Bor}
use Rattle.buffer.specs.Part.{Part}
use Rattle.file.specs.declared.Located.{Located}
use Rattle.file.specs.declared.Located.TheVariants.{Stored, Waiting, Zeros}
use Rattle.refusal.specs.declared.Refusal.{Refusal}

-- "handed back as a part of the log or of the lent blank page"; "in the settled log or among the waiting sectors". "A refusal hands back an empty part": no
-- bytes, at the beginning of the page
abbrev pub run_of : Result Located Refusal → Bor (List ℕ) → Bor (List ℕ) → Bor (List ℕ) → Bor (List ℕ) → Type 0
run_of (Ok (Stored at n)) log waiting page r = Part log at n r
run_of (Ok (Waiting at n)) log waiting page r = Part waiting at n r
run_of (Ok (Zeros n)) log waiting page r = Part page 0 n r
run_of (Err w) log waiting page r = Part page 0 0 r
