-- One block of a pair: what the program's answer says of the definition's.
use mathlib.Core.Path.{◌≡◌, refl, sym, ap, ap₂, ◌∙◌}
use mathlib.Core.Bool.{Bool, true, false, cond}
use mathlib.Core.Option.{Option, none, some}
use Prim.Native.Nat.{ℕ, ◌%◌, ◌≤◌}
use native.Mathlib.Omega.{arith}
use lib.Dec.{eqb, ltb}
use lib.ListN.{length}
use borrow.Author.Tests.{eqb-true, eq-eqb, ne_eqb, not-false}
use Rattle.bedrock.specs.Choice.{on}
use Rattle.buffer.specs.Bytes.{Bytes}
use Rattle.refusal.specs.declared.Refusal.{Refusal}
use Rattle.refusal.specs.declared.Refusal.TheVariants.{OverCount, Pointers}
use Rattle.kind.specs.Kind.{longest}
use Rattle.block.specs.Block.{Row, place_of, Inside}
use Rattle.block.specs.declared.Block.{Block}
use Rattle.block.specs.Log.{sectors, bytes_of}
use Rattle.sector_log.specs.LookUp.{held, absence, look_up, counted}
use Rattle.lookup.proofs.Held.{Stands, held-stands, HeldWithin}
use Rattle.entry.specs.declared.Entry.{Entry}
use Rattle.tree.specs.Tree.{type_at, count_at}
use Rattle.pair.specs.Opened.{ragged, opened, whole_scores, place_at}
use Rattle.std.specs.Prelude.{Ok, Err, Result}

-- a pointer block that is not ragged has whole scores
pub not-ragged : (level n : ℕ) → (level ≡ 0 → ⊥) → ragged level n ≡ false → n % 20 ≡ 0
not-ragged level n h e = eqb-true (n % 20) 0 (not-false (eqb (n % 20) 0) (rw (ne_eqb level 0 h) at e))

abbrev placed : Row → Result Block Refusal
placed r = Ok (place_of r)

-- a row that passes the tests: it is held, not over the count and not ragged
pub record ReadAs (log : Bytes) (e : Entry) (level : ℕ) (score : Bytes) (r : Row) : Type 0 where
  pub passes : HeldWithin (held log (type_at e level) score) (count_at e level) r
  pub has-whole-scores : ragged level (length r.bytes) ≡ false

-- what goes on has its bytes
pub read_is : {log : Bytes} {e : Entry} {level : ℕ} {score : Bytes} {r : Row} → ReadAs log e level score r → {A : Type 0} (refused : Refusal → A) (next : Bytes → A)
    → opened log e level score refused next ≡ next r.bytes
unfolding opened
read_is R refused next = rw (R.passes.row-held, R.passes.within_count, R.has-whole-scores)

-- what is known where a block is found
pub record OpenedAt (log : Bytes) (e : Entry) (level : ℕ) (score : Bytes) (place : Block) : Type 0 where
  pub row : Row
  pub read : ReadAs log e level score row
  pub place-of-row : place ≡ place_of row

module _ (log : Bytes) (e : Entry) (level : ℕ) (score : Bytes) where
  -- the program's place and what goes on by the definition: both are a refusal, or of a row that is read
  pub opened_ind : {A : Type 0} (refused : Refusal → A) (next : Bytes → A) (P : Result Block Refusal → A → Type 0) → ((w : Refusal) → P (Err w) (refused w))
      → ((r : Row) → ReadAs log e level score r → P (placed r) (next r.bytes)) → P (place_at log e level score) (opened log e level score refused next)
  unfolding place_at look_up opened
  opened_ind {A} refused next P f g = by_held (held log (type_at e level) score) refl
    where
      by_ragged : (r : Row) → (ragged level (length r.bytes) ≡ false → ReadAs log e level score r) → (b : Bool) → ragged level (length r.bytes) ≡ b
          → P (cond b (Err Pointers) (placed r)) (cond b (refused Pointers) (next r.bytes))
      by_ragged r R true q = f Pointers
      by_ragged r R false q = g r (R q)

      by_count : (r : Row) → held log (type_at e level) score ≡ some r → (b : Bool) → ltb (count_at e level) (length r.bytes) ≡ b
          → P (whole_scores level (cond b (Err OverCount) (placed r)))
          (cond b (refused OverCount) (cond (ragged level (length r.bytes)) (refused Pointers) (next r.bytes)))
      by_count r o true q = f OverCount
      by_count r o false q = by_ragged r (λ z. record { passes = record { row-held = o; within_count = q }; has-whole-scores = z }) (ragged level (length r.bytes)) refl

      by_held : (o : Option Row) → held log (type_at e level) score ≡ o
          → P (whole_scores level (counted (count_at e level) (on o (Err (absence log)) placed)))
          (on o (refused (absence log)) (λ r. cond (ltb (count_at e level) (length r.bytes)) (refused OverCount) (cond (ragged level (length r.bytes)) (refused Pointers) (next r.bytes))))
      by_held none q = f (absence log)
      by_held (some r) q = by_count r q (ltb (count_at e level) (length r.bytes)) refl

  pub found_at : (p : Block) → place_at log e level score ≡ Ok p → OpenedAt log e level score p
  found_at p h =
      opened_ind {A = ℕ} (λ w. 0) (λ b. 0) (λ l _. l ≡ Ok p → OpenedAt log e level score p) (λ w z. let x : ◌≡◌ {A = ℕ} 0 1 = cc in absurd (omega arith))
      (λ r R z. record { row = r; read = R; place-of-row = cc }) h

  -- a block that is refused is its refusal, whatever would go on
  pub refused-at : {A : Type 0} (w : Refusal) → place_at log e level score ≡ Err w → (refused : Refusal → A) (next : Bytes → A)
      → refused w ≡ opened log e level score refused next
  refused-at {A} w h refused next =
      opened_ind refused next (λ l x. l ≡ Err w → refused w ≡ x) (λ v z. let x : w ≡ v = cc in ap refused x) (λ r R z. let x : ◌≡◌ {A = ℕ} 0 1 = cc in absurd (omega arith)) h

module _ {log : Bytes} {e : Entry} {level : ℕ} {score : Bytes} {p : Block} (O : OpenedAt log e level score p) where
  stands : Stands log O.row
  stands = held-stands log (type_at e level) score O.row O.read.passes.row-held

  size-of-row : p.size ≡ length O.row.bytes
  size-of-row = ap (λ (x : Block). x.size) O.place-of-row

  -- what goes on has the bytes at its place
  pub goes_on_lem : {A : Type 0} (refused : Refusal → A) (next : Bytes → A) → next (bytes_of log p) ≡ opened log e level score refused next
  goes_on_lem refused next = ap next (ap (bytes_of log) O.place-of-row ∙ sym stands.bytes-there) ∙ sym (read_is O.read refused next)

  pub in_log : Inside (sectors (length log)) p
  in_log = rw O.place-of-row stands.within

  pub not_many : p.size ≤ longest
  not_many = omega (arith, size-of-row, stands.not_many)

  pub whole-scores : (level ≡ 0 → ⊥) → p.size % 20 ≡ 0
  whole-scores h = not-ragged level p.size h (ap (ragged level) size-of-row ∙ O.read.has-whole-scores)

-- ---- by the program's tests

module _ (log : Bytes) (e : Entry) (level : ℕ) (score : Bytes) {l : Result Block Refusal} {t count : ℕ} (el : l ≡ counted count (look_up log t score)) (et : t ≡ type_at e level) (ec : count ≡ count_at e level) where
  looked : whole_scores level l ≡ place_at log e level score
  unfolding place_at
  looked = ap (whole_scores level) (el ∙ ap₂ (λ (x y : ℕ). counted x (look_up log y score)) ec et)

  pub not_found : (w : Refusal) → l ≡ Err w → l ≡ place_at log e level score
  not_found w q = q ∙ ap (whole_scores level) (sym q) ∙ looked

  module _ {p : Block} (q : l ≡ Ok p) where
    by_ragged : (b : Bool) → ragged level p.size ≡ b → cond b (Err Pointers) (Ok p) ≡ place_at log e level score
    by_ragged b z = ap (λ (x : Bool). cond x (Err Pointers) (Ok p)) (sym z) ∙ ap (whole_scores level) (sym q) ∙ looked

    pub ragged-scores : (level ≡ 0 → ⊥) → (p.size % 20 ≡ 0 → ⊥) → Err Pointers ≡ place_at log e level score
    ragged-scores h k = by_ragged true (rw (ne_eqb level 0 h, ne_eqb (p.size % 20) 0 k))

    pub scores-whole : (level ≡ 0 → ⊥) → p.size % 20 ≡ 0 → Ok p ≡ place_at log e level score
    scores-whole h k = by_ragged false (rw (ne_eqb level 0 h, eq-eqb (p.size % 20) 0 k))

    pub leaf-found : level ≡ 0 → Ok p ≡ place_at log e level score
    leaf-found h = by_ragged false (rw (eq-eqb level 0 h))
