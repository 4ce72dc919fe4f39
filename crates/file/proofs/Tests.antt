-- The tests before the tree, one after the other, and what they show.
use mathlib.Core.Path.{◌≡◌, refl, sym, ap, ◌∙◌}
use mathlib.Core.Bool.{Bool, true, false, ◌&&◌}
use Prim.Native.Nat.{ℕ, ◌*◌, ◌≤◌, ◌<◌}
use native.Mathlib.Omega.{arith}
use lib.Dec.{leb, ltb, eqb}
use borrow.Author.Tests.{lt-ltb, le-ltb, eq-eqb, ne_eqb, leb-true, eqb-true}
use lib.ListN.{length, take, drop}
use lib.Seq.{take_all}
use Rattle.bedrock.proofs.Choices.{and-true}
use Rattle.buffer.specs.Bytes.{Bytes, zeros}
use Rattle.refusal.specs.declared.Refusal.{Refusal}
use Rattle.refusal.specs.declared.Refusal.TheVariants as why
use Rattle.kind.specs.Kind.{longest}
use Rattle.block.specs.Log.{used}
use Rattle.sector_log.specs.LookUp.{lent_allowed}
use Rattle.sector_log.specs.Parts.{tape}
use Rattle.entry.specs.declared.Entry.{Entry}
use Rattle.entry.specs.Entry.{entry_of, well_formed, score_of}
use Rattle.leaf.specs.declared.Extent.{Extent}
use Rattle.leaf.specs.Leaf.{under}
use Rattle.file.specs.File.{page_allowed, entry_readable, test, extent_at, split, located}
use Rattle.leaf.specs.Fetch.{Open}
use Rattle.std.specs.Prelude.{Err, Result}

-- ---- the page

pub page-none : (page : Bytes) → length page ≡ 0 → false ≡ page_allowed page
unfolding page_allowed
page-none page h = rw (eq-eqb (length page) 0 h)

pub page-some : (page : Bytes) → (length page ≡ 0 → ⊥) → zeros page ≡ page_allowed page
unfolding page_allowed
page-some page h = rw (ne_eqb (length page) 0 h)

-- ---- the entry

pub entry_whole : (b : Bytes) (e : Entry) → length b ≡ 40 → e ≡ entry_of (take 40 (drop 0 b)) → e ≡ entry_of b
entry_whole b e l h = h ∙ ap entry_of (take_all 40 b (omega arith))

pub entry_length_lem : (b : Bytes) → (length b ≡ 40 → ⊥) → false ≡ entry_readable b
unfolding entry_readable
entry_length_lem b h = rw (ne_eqb (length b) 40 h)

pub entry-inactive : (b : Bytes) (e : Entry) → length b ≡ 40 → e ≡ entry_of b → e.active ≡ false → false ≡ entry_readable b
unfolding entry_readable
entry-inactive b e l h a = rw (eq-eqb (length b) 40 l, ← h, a)

pub entry-active : (b : Bytes) (e : Entry) (r : Bool) → length b ≡ 40 → e ≡ entry_of b → e.active ≡ true → r ≡ well_formed e → r ≡ entry_readable b
unfolding entry_readable
entry-active b e r l h a w =
    let t : (entry_of b).active ≡ true = ap (λ (x : Entry). x.active) (sym h) ∙ a in
    w ∙ ap well_formed h ∙ sym (rw (eq-eqb (length b) 40 l, t) refl)

pub readable-length : (b : Bytes) (r : Bool) → r ≡ entry_readable b → r ≡ true → length b ≡ 40
unfolding entry_readable
readable-length b r p q = eqb-true (length b) 40 (and-true (eqb (length b) 40) _ (sym p ∙ q)).0

formed : (b : Bytes) → entry_readable b ≡ true → well_formed (entry_of b) ≡ true
unfolding entry_readable
formed b e = (and-true (entry_of b).active _ (and-true (eqb (length b) 40) _ e).1).1

depth_few : (b : Bytes) → (entry_of b).depth < 8
unfolding entry_of
depth_few b = omega arith

bounds : (e : Entry) (offset : ℕ) → well_formed e ≡ true → e.depth < 8 → offset < e.size → Open e offset
unfolding well_formed
bounds e offset w d o =
    let p = and-true (leb 40 e.psize && leb e.psize longest) _ w in
    let ps = and-true (leb 40 e.psize) _ p.0 in
    let ds = and-true (leb 1 e.dsize) _ (and-true (leb 1 e.dsize && leb e.dsize longest) _ p.1).0 in
    record {
      psize-from = leb-true 40 e.psize ps.0;
      psize-to = leb-true e.psize longest ps.1;
      dsize-from = leb-true 1 e.dsize ds.0;
      dsize-to = leb-true e.dsize longest ds.1;
      depth = d;
      inside = o;
    }

pub opened : (b : Bytes) (e : Entry) (offset : ℕ) (r : Bool) → r ≡ entry_readable b → r ≡ true → e ≡ entry_of b → offset < e.size → Open e offset
opened b e offset r u v h o = rw h (bounds (entry_of b) offset (formed b (sym u ∙ v)) (depth_few b) (rw h at o))

-- ---- all four, where `lent` is what test 3 gave

module _ (lent : Bool) (log page b : Bytes) (offset : ℕ) (a : Bool) (ea : a ≡ lent) where
  pub stops_log : a ≡ false → Err why.LogLength ≡ extent_at lent log page b offset
  unfolding extent_at
  stops_log q = rw (sym ea ∙ q)

  module _ (ta : a ≡ true) (g : Bool) (eg : g ≡ page_allowed page) where
    pub stops_page : g ≡ false → Err why.Page ≡ extent_at lent log page b offset
    unfolding extent_at
    stops_page q = rw (sym ea ∙ ta, sym eg ∙ q)

    module _ (tg : g ≡ true) (r : Bool) (er : r ≡ entry_readable b) where
      pub stops_entry : r ≡ false → Err why.Entry ≡ extent_at lent log page b offset
      unfolding extent_at
      stops_entry q = rw (sym ea ∙ ta, sym eg ∙ tg, sym er ∙ q)

      module _ (tr : r ≡ true) (e : Entry) (ee : e ≡ entry_of b) where
        pub stops_offset : e.size ≤ offset → Err why.Offset ≡ extent_at lent log page b offset
        unfolding extent_at
        stops_offset h = rw (sym ea ∙ ta, sym eg ∙ tg, sym er ∙ tr, ← ee, le-ltb offset e.size h)

        pub goes_down : offset < e.size → under log (length page) e offset e.depth (score_of b) ≡ extent_at lent log page b offset
        unfolding extent_at
        goes_down h = rw (sym ea ∙ ta, sym eg ∙ tg, sym er ∙ tr, ← ee, lt-ltb offset e.size h)

-- what holds of every refusal, and of what the tree gives, holds of the answer
module _ (lent : Bool) (log page b : Bytes) (offset : ℕ) (P : Result Extent Refusal → Type 0) (refused : (w : Refusal) → P (Err w)) where
  test_ind : (t : Bool) (w : Refusal) (x : Result Extent Refusal) → P x → P (test t w x)
  test_ind true w x h = h
  test_ind false w x h = refused w

  pub extent_ind : P (under log (length page) (entry_of b) offset (entry_of b).depth (score_of b)) → P (extent_at lent log page b offset)
  unfolding extent_at
  extent_ind h =
      test_ind lent why.LogLength _
      (test_ind (page_allowed page) why.Page _ (test_ind (entry_readable b) why.Entry _ (test_ind (ltb offset (entry_of b).size) why.Offset _ h)))

-- what is found in both parts read as one, shown in the part in which it lies
pub shown : (log waiting page b : Bytes) (offset : ℕ) (x : Result Extent Refusal) → x ≡ extent_at (lent_allowed (length log) (length waiting)) (tape log waiting) page b offset
    → split (512 * used log) x ≡ located log waiting page b offset
unfolding located
shown log waiting page b offset x e = ap (split (512 * used log)) e
