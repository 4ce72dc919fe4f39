-- A part of a lent buffer that is handed back: its bytes, and its place in memory.
use Rattle.std.specs.Prelude.{◌≡◌, List, ℕ, ◌+◌, take, drop}
use Rattle.std.specs.Borrow.{Bor}

-- r is the n bytes of s from k on: the same bytes, at the same place
pub record Part (s : Bor (List ℕ)) (k n : ℕ) (r : Bor (List ℕ)) : Type 0 where
  pub bytes : r.now ≡ take n (drop k s.now)
  pub block : r.ref_ptr.0 ≡ s.ref_ptr.0
  pub place : r.ref_ptr.1 ≡ k + s.ref_ptr.1
