-- Each test of an entry or a root, and what leads to its answer.
use mathlib.Core.Path.{◌≡◌}
use mathlib.Core.Bool.{Bool, true, false, not, ◌&&◌, ◌||◌}
use Prim.Native.Nat.{ℕ, ◌*◌, ◌%◌, ◌^◌, ◌≤◌, ◌<◌}
use lib.Dec.{leb, eqb}
use lib.ListN.{length}
use borrow.Author.Tests.{le-leb, lt-leb, eq-eqb, ne_eqb}
use Rattle.buffer.specs.Bytes.{Bytes}
use Rattle.kind.specs.Kind.{longest}
use Rattle.entry.specs.Entry.{field, pointers, well_formed}
use Rattle.entry.specs.Root.{root_well_formed}
use Rattle.entry.specs.declared.Entry.{Entry}

module _ (e : Entry) where
  pub psize-under : e.psize < 40 → false ≡ well_formed e
  unfolding well_formed
  psize-under h = rw (lt-leb 40 e.psize h)

  pub psize-over : 40 ≤ e.psize → longest < e.psize → false ≡ well_formed e
  unfolding well_formed
  psize-over h k = rw (le-leb 40 e.psize h, lt-leb e.psize longest k)

  module _ (psize-from : 40 ≤ e.psize) (psize-to : e.psize ≤ longest) where
    pub dsize-under : e.dsize < 1 → false ≡ well_formed e
    unfolding well_formed
    dsize-under h = rw (le-leb 40 e.psize psize-from, le-leb e.psize longest psize-to, lt-leb 1 e.dsize h)

    pub dsize-over : 1 ≤ e.dsize → longest < e.dsize → false ≡ well_formed e
    unfolding well_formed
    dsize-over h k = rw (le-leb 40 e.psize psize-from, le-leb e.psize longest psize-to, le-leb 1 e.dsize h, lt-leb e.dsize longest k)

    module _ (dsize-from : 1 ≤ e.dsize) (dsize-to : e.dsize ≤ longest) where
      sizes : ((not e.directory || eqb (e.dsize % 40) 0) && (e.plain && (e.clean && leb e.size (e.dsize * pointers e ^ e.depth)))) ≡ well_formed e
      unfolding well_formed
      sizes =
          rw (le-leb 40 e.psize psize-from, le-leb e.psize longest psize-to, le-leb 1 e.dsize dsize-from, le-leb e.dsize longest dsize-to)

      pub dsize-ragged : e.directory ≡ true → (e.dsize % 40 ≡ 0 → ⊥) → false ≡ well_formed e
      dsize-ragged d n = rw (← sizes, d, ne_eqb (e.dsize % 40) 0 n)

      pub flagged : (not e.directory || eqb (e.dsize % 40) 0) ≡ true → e.plain ≡ false → false ≡ well_formed e
      flagged d f = rw (← sizes, d, f)

      pub unclean : (not e.directory || eqb (e.dsize % 40) 0) ≡ true → e.plain ≡ true → e.clean ≡ false → false ≡ well_formed e
      unclean d f c = rw (← sizes, d, f, c)

      pub in_room : (not e.directory || eqb (e.dsize % 40) 0) ≡ true → e.plain ≡ true → e.clean ≡ true
          → leb e.size (e.dsize * pointers e ^ e.depth) ≡ well_formed e
      in_room d f c = rw (← sizes, d, f, c)

-- the directory's test passes, by either way
pub entries-whole : (directory : Bool) (n : ℕ) → directory ≡ true → n % 40 ≡ 0 → (not directory || eqb (n % 40) 0) ≡ true
entries-whole directory n d h = rw (d, h)

pub entries_none : (directory : Bool) (n : ℕ) → directory ≡ false → (not directory || eqb (n % 40) 0) ≡ true
entries_none directory n d = rw d

-- roots
pub root-length : (b : Bytes) → (length b ≡ 300 → ⊥) → false ≡ root_well_formed b
unfolding root_well_formed
root-length b n = rw (ne_eqb (length b) 300 n)

pub root-version : (b : Bytes) (v : ℕ) → length b ≡ 300 → v ≡ field 0 2 b → eqb v 2 ≡ root_well_formed b
unfolding root_well_formed
root-version b v h e = rw (eq-eqb (length b) 300 h, e)
