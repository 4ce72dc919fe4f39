-- What more bytes, and a whole block, do to what a stream has taken in. Assumes nothing.
use mathlib.Core.Path.{◌≡◌, refl, sym, ap, ◌∙◌, subst}
use mathlib.Core.List.{List, ◌++◌, append_assoc}
use Prim.Native.Nat.{ℕ, zero, suc, ◌+◌, ◌-◌, ◌*◌, ◌%◌, ◌^◌, ◌<◌, ◌≤◌, min}
use native.Mathlib.Nat.{add-mod, mod-mod}
use native.Mathlib.Omega.{arith}
use lib.ListN.{length, take, drop, length-append, length-drop, drop_of_length-le}
use lib.Seq.{drop-append-le, take-append-le, take_all, take-add, drop_at}
use Rattle.buffer.specs.Bytes.{put}
use Rattle.buffer.proofs.Parts.{part_size}
use Rattle.buffer.proofs.Put.{length-put, take_put}
use Rattle.sha1_block.specs.declared.Hash.{Hash}
use Rattle.sha1_block.specs.Block.{compress_of}
use Rattle.sha1_digest.specs.declared.Stream.{Stream}
use Rattle.sha1_digest.specs.Sha1.{hash_of}
use Rattle.sha1_digest.specs.Stream.{Fed, Holds}

-- the whole blocks of m are those of m ++ x
pub hash_append : (k : ℕ) (m x : List ℕ) → k * 64 ≤ length m → hash_of k (m ++ x) ≡ hash_of k m
unfolding hash_of
hash_append zero m x h = refl
hash_append (suc k) m x h =
    let h' : k * 64 ≤ length m = omega arith in
    rw (hash_append k m x h', drop-append-le (k * 64) m x h', take-append-le 64 (drop (k * 64) m) x (omega (arith, length-drop (k * 64) m)))

module _ {h : Hash} {buf : List ℕ} {n : ℕ} {m : List ℕ} where
  pub more-fed : (x : List ℕ) → n + length x ≤ length buf → Fed h buf n m → Fed h (put buf n x) (n + length x) (m ++ x)
  more-fed x l f =
      record {
        k = f.k;
        size = length-append m x ∙ omega (arith, f.size);
        hashed = f.hashed ∙ sym (hash_append f.k m x (omega (arith, f.size)));
        rest = take_put buf n x l ∙ ap (λ (y : List ℕ). y ++ x) f.rest ∙ sym (drop-append-le (f.k * 64) m x (omega (arith, f.size)));
      }

  pub block : length buf ≡ 64 → n ≡ 64 → Fed h buf n m → Fed (compress_of h buf) buf 0 m
  unfolding hash_of
  block l e f =
      let d : buf ≡ drop (f.k * 64) m = sym (take_all n buf (omega arith)) ∙ f.rest in
      record {
        k = suc f.k;
        size = omega arith;
        hashed = rw (← d, take_all 64 buf (omega arith), f.hashed);
        rest = sym (drop_of_length-le m {i = suc f.k * 64} (omega arith));
      }

-- how many bytes are taken in at once: at least one, no more than have room or are left, and a whole block only where no bytes wait
pub taken : (n i e k : ℕ) → n < 64 → i < e → k ≡ min (64 - n) (e - i) → (n + k ≤ 64) × (i + k ≤ e) × (e - (i + k) < e - i) × (k ≡ 64 → n ≡ 0)
taken n i e k a b s = (omega arith, omega arith, omega arith, λ w. omega arith)

-- the k bytes of `more` from i on, behind those before them
parts : (m more : List ℕ) (i k : ℕ) → (m ++ take i more) ++ take (i + k - i) (drop i more) ≡ m ++ take (i + k) more
parts m more i k =
    let s : i + k - i ≡ k = omega arith in
    append_assoc m (take i more) (take (i + k - i) (drop i more))
    ∙ ap (λ (y : List ℕ). m ++ y) (ap (λ (j : ℕ). take i more ++ take j (drop i more)) s ∙ sym (take-add i k more))

-- k bytes that are copied behind the n that wait
pub copied : {h : Hash} (buf next : List ℕ) (n : ℕ) (more : List ℕ) (i k : ℕ) → length buf ≡ 64 → n + k ≤ 64 → i + k ≤ length more
    → next ≡ put buf n (take (i + k - i) (drop i more))
    → (length next ≡ 64) × ((m : List ℕ) → Fed h buf n (m ++ take i more) → Fed h next (n + k) (m ++ take (i + k) more))
copied {h} buf next n more i k z r l e =
    let x = take (i + k - i) (drop i more) in
    let s : length x ≡ k = part_size more i k l in (
      ap length e ∙ length-put buf n x (omega (arith, s)) ∙ z,
      λ m f.
          subst (λ (b : List ℕ). Fed h b (n + k) (m ++ take (i + k) more)) (sym e)
          (subst (λ (y : List ℕ). Fed h (put buf n x) (n + k) y) (parts m more i k)
          (subst (λ (j : ℕ). Fed h (put buf n x) (n + j) ((m ++ take i more) ++ x)) s (more-fed x (omega (arith, s)) f))),
    )

-- all of `more` is in: the count says how many bytes wait
pub held : {h : Hash} {buf : List ℕ} {n : ℕ} (s : Stream) (m more : List ℕ) (i : ℕ) → i ≡ length more → n < 64
    → Fed h buf n (m ++ take i more) → Holds s m
    → Holds (record { h = h; buf = buf; len = (s.len % 2 ^ 61 + i % 2 ^ 61) % 2 ^ 61 }) (m ++ more)
held {h} {buf} {n} s m more i e l f o =
    let t : take i more ≡ more = take_all i more (omega arith) in
    let f' : Fed h buf n (m ++ more) = rw t at f in
    let c : (s.len % 2 ^ 61 + i % 2 ^ 61) % 2 ^ 61 ≡ length (m ++ more) % 2 ^ 61 = rw (o.count, mod-mod, ← add-mod, e, length-append) in
    let d : (s.len % 2 ^ 61 + i % 2 ^ 61) % 2 ^ 61 % 64 ≡ n = rw c (omega (arith, f'.size)) in
    record { fed = rw d f'; count = c }

-- a whole block that comes where no bytes wait
pub direct : {h : Hash} {buf p : List ℕ} (x : List ℕ) → length x ≡ 64 → Fed h buf 0 p → Fed (compress_of h x) buf 0 (p ++ x)
unfolding hash_of
direct {h} {buf} {p} x l f =
    let e : length (p ++ x) ≡ suc f.k * 64 = rw length-append (omega arith) in
    record {
      k = suc f.k;
      size = omega arith;
      hashed = rw (hash_append f.k p x (omega arith), drop_at p x (f.k * 64) (omega arith), take_all 64 x (omega arith), f.hashed);
      rest = sym (drop_of_length-le (p ++ x) {i = suc f.k * 64} (omega arith));
    }

pub leap : {h : Hash} {buf : List ℕ} {n : ℕ} (m more : List ℕ) (i k : ℕ) → n ≡ 0 → k ≡ 64 → i + k ≤ length more
    → Fed h buf n (m ++ take i more) → Fed (compress_of h (take (i + k - i) (drop i more))) buf n (m ++ take (i + k) more)
leap {h} {buf} {n} m more i k z s j f =
    let x = take (i + k - i) (drop i more) in
    let f' : Fed h buf 0 (m ++ take i more) = rw z at f in
    rw z (subst (λ (y : List ℕ). Fed (compress_of h x) buf 0 y) (parts m more i k) (direct x (part_size more i k j ∙ s) f'))
