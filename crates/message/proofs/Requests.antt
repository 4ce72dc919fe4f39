-- What is known of a message from what it asks.
use mathlib.Core.Path.{◌≡◌, refl, ap}
use mathlib.Core.Bool.{true, ◌&&◌}
use Prim.Native.Nat.{ℕ, ◌-◌, ◌≤◌, ◌<◌, ◌^◌}
use native.Mathlib.Nat.{pow-le-pow_right, lt_of_lt_of_le}
use native.Mathlib.Omega.{arith}
use lib.Dec.{leb, eqb}
use borrow.Author.Tests.{leb-true, eqb-true}
use lib.ListN.{length, get_or, take, drop, length-take, length-drop}
use Rattle.std.specs.Prelude.{Option, Some, None}
use Rattle.bedrock.proofs.Choices.{and-true, cond_ind}
use Rattle.buffer.specs.Bytes.{Bytes, zeros}
use Rattle.buffer.proofs.Bytes.{small_get_d, small-take, small-drop}
use Rattle.digits.specs.Number.{be_number, small}
use Rattle.digits.proofs.NumberLaws.{value_lt}
use Rattle.message.specs.declared.Request.{Request}
use Rattle.message.specs.declared.Request.TheVariants.{Ping, Hello, Goodbye, Read, Write, Sync, Unknown, Ill}
use Rattle.field.specs.Field.{hello_end}
use Rattle.message.specs.Message.{framed, type_of, exactly, score_of, read_of, write_of, request_of}

-- ---- numbers

-- every number in a message is small when the message is
pub number_lt : (w at : ℕ) (m : Bytes) → small m ≡ true → be_number (take w (drop at m)) < 256 ^ w
number_lt w at m e =
    let t = take w (drop at m) in
    let s : small t ≡ true = small-take w (drop at m) (small-drop at m e) in
    lt_of_lt_of_le (value_lt 256 t (λ k. small_get_d t k s)) (pow-le-pow_right (omega arith) (rw length-take (omega arith)))

-- ---- the head

pub framed-head : (m : Bytes) → framed m ≡ true → (4 ≤ length m) × (be_number (take 2 m) ≡ length m - 2)
unfolding framed
framed-head m e =
    let p = and-true (leb 4 (length m)) (eqb (be_number (take 2 m)) (length m - 2)) e in
    (leb-true 4 (length m) p.0, eqb-true (be_number (take 2 m)) (length m - 2) p.1)

-- ---- the body

-- what a message that asks q looks like
abbrev pub Asks : Bytes → Request → Type 0
Asks m Ping = length m ≡ 4
Asks m Hello = hello_end m ≡ Some (length m)
Asks m Goodbye = length m ≡ 4
Asks m (Read k c) = (length m ≡ 28) × (k ≡ get_or m 24 0) × (c ≡ be_number (take 2 (drop 26 m)))
Asks m (Write k) = (8 ≤ length m) × (k ≡ get_or m 4 0)
Asks m Sync = length m ≡ 4
Asks m Unknown = Unit
Asks m Ill = Unit

exactly-asks : (m : Bytes) (n : Option ℕ) (q : Request) → (n ≡ Some (length m) → Asks m q) → Asks m (exactly m n q)
unfolding exactly
exactly-asks m None q f = tt
exactly-asks m (Some at) q f = cond_ind (Asks m) (eqb at (length m)) q Ill (λ t. f (ap Some (eqb-true at (length m) t))) (λ _. tt)

empty : (m : Bytes) → Some 4 ≡ Some (length m) → length m ≡ 4
empty m e = cc

read-asks : (m : Bytes) → Asks m (read_of m)
unfolding read_of
read-asks m =
    cond_ind (Asks m) (eqb (length m) 28 && zeros (take 1 (drop 25 m))) (Read (get_or m 24 0) (be_number (take 2 (drop 26 m)))) Ill
    (λ t. (eqb-true (length m) 28 (and-true (eqb (length m) 28) _ t).0, refl, refl)) (λ _. tt)

write-asks : (m : Bytes) → Asks m (write_of m)
unfolding write_of
write-asks m =
    cond_ind (Asks m) (leb 8 (length m) && zeros (take 3 (drop 5 m))) (Write (get_or m 4 0)) Ill
    (λ t. (leb-true 8 (length m) (and-true (leb 8 (length m)) _ t).0, refl)) (λ _. tt)

pub request-asks : (m : Bytes) → Asks m (request_of m)
unfolding request_of
request-asks m =
    cond_ind (Asks m) (eqb (type_of m) 2) _ _ (λ _. exactly-asks m (Some 4) Ping (empty m))
    (λ _. cond_ind (Asks m) (eqb (type_of m) 4) _ _ (λ _. exactly-asks m (hello_end m) Hello (λ e. e))
    (λ _. cond_ind (Asks m) (eqb (type_of m) 6) _ _ (λ _. exactly-asks m (Some 4) Goodbye (empty m))
    (λ _. cond_ind (Asks m) (eqb (type_of m) 12) _ _ (λ _. read-asks m)
    (λ _. cond_ind (Asks m) (eqb (type_of m) 14) _ _ (λ _. write-asks m)
    (λ _. cond_ind (Asks m) (eqb (type_of m) 16) _ _ (λ _. exactly-asks m (Some 4) Sync (empty m)) (λ _. tt))))))

pub asks : (m : Bytes) (q : Request) → request_of m ≡ q → Asks m q
asks m q e = rw e at (request-asks m)

-- ---- a read and a write

module _ (m : Bytes) (k c : ℕ) (e : request_of m ≡ Read k c) where
  pub read_length : length m ≡ 28
  read_length = (asks m (Read k c) e).0

  pub read-score : length (score_of m) ≡ 20
  read-score = let l : length m ≡ 28 = read_length in simp (length-take, length-drop) (omega arith)

module _ (m : Bytes) (k : ℕ) (e : request_of m ≡ Write k) where
  pub write-length : 8 ≤ length m
  write-length = (asks m (Write k) e).0
