-- Nothing is lost in packing: from the number that `skywimple_locate` returns a caller reads the refusal, the slice, the start and the length.
use mathlib.Core.Path.{◌≡◌, ap, ◌∙◌}
use Prim.Native.Nat.{ℕ, ◌+◌, ◌*◌, ◌/◌, ◌%◌, ◌≤◌, ◌<◌}
use native.Mathlib.Omega.{arith}
use Rattle.buffer.specs.Bytes.{Bytes}
use Rattle.refusal.specs.Number.{number_of, told_sector}
use Rattle.kind.specs.Kind.{longest}
use Rattle.file.specs.declared.Located.{Located}
use Rattle.file.specs.declared.Located.TheVariants.{Stored, Waiting, Zeros}
use Rattle.file.specs.File.{located}
use Rattle.tree_calls.specs.Tree.{packed, run, unpacked, run_of}
use Rattle.results.proofs.Numbers.{number-bounds}
use Rattle.file_bounds.proofs.Bounds.{Small, located-small}
use Rattle.std.specs.Prelude.{Ok, Err, Result}
use Rattle.refusal.specs.declared.Refusal.{Refusal}

-- by the four fields
fields : (r number slice start length : ℕ) → r % 256 ≡ number → r / 256 % 4 ≡ slice → r / 256 / 4 / 65536 ≡ start → r / 256 / 4 % 65536 ≡ length
    → unpacked r ≡ run number slice start length
unfolding unpacked
fields r number slice start length a b c d = λ i. run (a i) (b i) (c i) (d i)

-- a run of n bytes from byte `at` on of slice k
bytes_back : (k at n : ℕ) → k < 4 → n ≤ longest → unpacked (256 * (k + 4 * (n + 65536 * at))) ≡ run 0 k at n
bytes_back k at n l h =
    let r = 256 * (k + 4 * (n + 65536 * at)) in
    let u : r / 256 ≡ k + 4 * (n + 65536 * at) = omega arith in
    let v : r / 256 / 4 ≡ n + 65536 * at = omega arith in
    fields r 0 k at n (omega arith) (omega arith) (omega arith) (omega arith)

stored_back : (at n : ℕ) → n ≤ longest → unpacked (packed (Ok (Stored at n))) ≡ run_of (Ok (Stored at n))
stored_back at n h = let z : 256 * (4 * (n + 65536 * at)) ≡ 256 * (0 + 4 * (n + 65536 * at)) = omega arith in ap unpacked z ∙ bytes_back 0 at n (omega arith) h

waiting_back : (at n : ℕ) → n ≤ longest → unpacked (packed (Ok (Waiting at n))) ≡ run_of (Ok (Waiting at n))
waiting_back at n h = bytes_back 1 at n (omega arith) h

zeros_back : (n : ℕ) → n ≤ longest → unpacked (packed (Ok (Zeros n))) ≡ run_of (Ok (Zeros n))
zeros_back n h = let z : 256 * (2 + 4 * n) ≡ 256 * (2 + 4 * (n + 65536 * 0)) = omega arith in ap unpacked z ∙ bytes_back 2 0 n (omega arith) h

refusal_back : (k s : ℕ) → k ≤ 26 → unpacked (k + 256 * (4 * (65536 * s))) ≡ run k 0 s 0
refusal_back k s h =
    let r = k + 256 * (4 * (65536 * s)) in
    let u : r / 256 ≡ 4 * (65536 * s) = omega arith in
    fields r k 0 s 0 (omega arith) (omega arith) (omega arith) (omega arith)

pub unpacked-packed : (x : Result Located Refusal) → Small x → unpacked (packed x) ≡ run_of x
unpacked-packed (Ok (Stored at n)) h = stored_back at n h.1
unpacked-packed (Ok (Waiting at n)) h = waiting_back at n h.1
unpacked-packed (Ok (Zeros n)) h = zeros_back n h
unpacked-packed (Err w) _ = refusal_back (number_of w) (told_sector w) (number-bounds w).1

pub nothing_lost : (log waiting page b : Bytes) (offset : ℕ) → unpacked (packed (located log waiting page b offset)) ≡ run_of (located log waiting page b offset)
nothing_lost log waiting page b offset = unpacked-packed (located log waiting page b offset) (located-small log waiting page b offset)
