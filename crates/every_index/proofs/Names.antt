-- No two intact rows have the same name, of any archive: a row is added only where no intact one has its name, and whatever else happens only takes
-- intact rows away, while no changed sector is healed.
use mathlib.Core.Path.{◌≡◌, refl, sym, ap, ◌∙◌}
use mathlib.Core.Bool.{Bool, true, false, cond, true≢false}
use mathlib.Core.List.Memᴰ
use mathlib.Core.List.{List, [], ◌∷◌, ◌++◌, Memᴰ}
use mathlib.Core.Logic.{◌⊎◌, inl, inr}
use mathlib.Core.Option.{Option, none, some}
use Prim.Native.Nat.{ℕ}
use lib.Dec.{ltb}
use Rattle.bedrock.proofs.Choices.{false_unless, true_unless}
use Rattle.ledger.specs.Archive.{Effect, stays, adds, settles, Archive}
use Rattle.ledger.specs.Ledger.{has, Ledger, empty, told, enter, settle, hit, intact, keep_rows, there, there_rows, loose, crashed, at_settling, note}
use Rattle.ledger.specs.History.{Item, given, ruling, Books}
use Rattle.ledger.specs.Events.{SomeOfBytes, begun, beginning}
use Rattle.ledger.specs.Named.{AddsNewNames}
use Rattle.ledger.proofs.Covers.{hit-none, hit-not}
use Rattle.ledger.proofs.Intact.{intact_in, intact_out}
use Rattle.ledger.proofs.Kept.{has_neither, keep_out}

module _ (A : Archive) {Name : Type 0} (name : A.Row → Name) where
  open A use {Extent, waits, Row, first}

  abbrev pub OneOfAName : Ledger A → Type 0
  OneOfAName L = (x y : Row) → Memᴰ x (intact A L) → Memᴰ y (intact A L) → name x ≡ name y → x ≡ y

  pub one-empty : OneOfAName (empty A)
  one-empty x y m n e = absurd (Memᴰ.not-nil m)

  -- fewer intact rows
  fewer : (L K : Ledger A) → ((x : Row) → Memᴰ x (intact A K) → Memᴰ x (intact A L)) → OneOfAName L → OneOfAName K
  fewer L K f O x y m n e = O x y (f x m) (f y n) e

  -- a row of a name that no intact one has
  one-enter : (L : Ledger A) (r : Row) → ((y : Row) → Memᴰ y (intact A L) → name y ≡ name r → ⊥) → OneOfAName L → OneOfAName (enter A r L)
  one-enter L r new O x y m n e =
      let a = intact_out A L.changed (L.rows ++ (r ∷ [])) x m in
      let b = intact_out A L.changed (L.rows ++ (r ∷ [])) y n in
      go (Memᴰ.append_cases L.rows a.0) (Memᴰ.append_cases L.rows b.0) a.1 b.1
    where
      go : Memᴰ x L.rows ⊎ Memᴰ x (r ∷ []) → Memᴰ y L.rows ⊎ Memᴰ y (r ∷ []) → hit A L.changed x ≡ false → hit A L.changed y ≡ false → x ≡ y
      go (inl i) (inl j) f g = O x y (intact_in A L.changed L.rows x i f) (intact_in A L.changed L.rows y j g) e
      go (inl i) (inr j) f g = absurd (new x (intact_in A L.changed L.rows x i f) (e ∙ ap name (Memᴰ.eq_of_singleton j)))
      go (inr i) (inl j) f g = absurd (new y (intact_in A L.changed L.rows y j g) (sym e ∙ ap name (Memᴰ.eq_of_singleton i)))
      go (inr i) (inr j) f g = Memᴰ.eq_of_singleton i ∙ sym (Memᴰ.eq_of_singleton j)

  -- the row that is added, if one is, has a name that no intact one has
  abbrev NewName : Ledger A → Effect Row → Type 0
  NewName L a = (r : Row) → a ≡ adds r → (y : Row) → Memᴰ y (intact A L) → name y ≡ name r → ⊥

  one-begun : (a : Effect Row) (L : Ledger A) → NewName L a → OneOfAName L → OneOfAName (begun A a L)
  one-begun stays L f O = O
  one-begun settles L f O = O
  one-begun (adds r) L f O = one-enter L r (f r refl) O

  one-note : (x : Extent) (a : Effect Row) (L : Ledger A) → NewName L a → OneOfAName L → OneOfAName (note A x a L)
  one-note x stays L f O = O
  one-note x settles L f O = O
  one-note x (adds r) L f O = go (waits x)
    where
      go : (b : Bool) → OneOfAName (cond b (enter A r L) (settle A (enter A r L)))
      go true = one-enter L r (f r refl) O
      go false = one-enter L r (f r refl) O

  -- some of the rows, and no fewer changed sectors
  pub one_told : (rows : List Row) (cs : List ℕ) (L : Ledger A) → ((x : Row) → Memᴰ x rows → Memᴰ x L.rows)
      → ((n : ℕ) → has n L.changed ≡ true → has n cs ≡ true) → OneOfAName L → OneOfAName (told A cs (record { rows = rows; changed = L.changed; start = L.start }))
  one_told rows cs L sub more = fewer L (told A cs (record { rows = rows; changed = L.changed; start = L.start }))
      (λ x m. let p = intact_out A cs rows x m in
      intact_in A L.changed L.rows x (sub x p.0) (hit-not A L.changed x (λ n c. still n (hit-none A cs x n p.1 c))))
    where
      still : (n : ℕ) → has n cs ≡ false → has n L.changed ≡ false
      still n e = false_unless (has n L.changed) (λ q. true≢false (sym (more n q) ∙ e))

  has_more : (n : ℕ) (a b : List ℕ) → has n a ≡ true → has n (a ++ b) ≡ true
  has_more n a b e = true_unless (has n (a ++ b)) (λ q. true≢false (sym e ∙ (has_neither n a b q).0))

  pub one-stop : (L : Ledger A) → OneOfAName L → OneOfAName (at_settling A L)
  one-stop L = one_told (keep_rows A (λ r. ltb (first r) L.start) L.rows) L.changed L
      (λ x m. (keep_out A (λ r. ltb (first r) L.start) L.rows x m).0) (λ n e. e)

  pub one-crashed : (arrived torn : List ℕ) (L : Ledger A) → OneOfAName L → OneOfAName (crashed A arrived torn L)
  one-crashed arrived torn L = one_told (there_rows A arrived L) (L.changed ++ (torn ++ loose A (there_rows A arrived L) arrived)) L
      (λ x m. (keep_out A (there A L.start arrived) L.rows x m).0) (λ n e. has_more n L.changed (torn ++ loose A (there_rows A arrived L) arrived) e)

  module _ (new : AddsNewNames A name) where
    new-name : (b : Books A) (q : Item A) → A.OfBytes q.request → NewName b.ledger (ruling A b q).effect
    new-name b q ok r e = new b.ledger (A.extent b.begin) (given A b.past q) q.request r ok e

    pub one-request : (b : Books A) (q : Item A) → A.OfBytes q.request → OneOfAName b.ledger → OneOfAName (note A (A.extent b.begin) (ruling A b q).effect b.ledger)
    one-request b q ok = one-note (A.extent b.begin) (ruling A b q).effect b.ledger (new-name b q ok)

    pub one-beginning : (b : Books A) (q : Option (Item A)) → SomeOfBytes A q → OneOfAName b.ledger → OneOfAName (beginning A b q)
    one-beginning b none ok O = O
    one-beginning b (some q) ok O = one-begun (ruling A b q).effect b.ledger (new-name b q ok) O
