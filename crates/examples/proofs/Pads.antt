-- Each byte of each pad.
use mathlib.Core.Path.{◌≡◌, refl, sym, ap, ap₂, ◌∙◌}
use mathlib.Core.Bool.{Bool, true, false, cond, not, ◌&&◌, ◌||◌, and-false}
use Prim.Native.Nat.{ℕ, ◌+◌, ◌%◌, ◌<◌}
use native.Mathlib.Omega.{arith}
use lib.Dec.{leb, eqb}
use lib.ListN.{length, get_or, take, drop}
use lib.Seq.{get_or-take, get_or-drop, drop-drop}
use borrow.Author.Tests.{le-ltb}
use Rattle.bedrock.proofs.Choices.{false_unless}
use Rattle.buffer.specs.Bytes.{Bytes, zeros}
use Rattle.buffer.proofs.Bytes.{zeros_get_d}
use Rattle.refusal.specs.declared.Refusal.TheVariants.{Entry as IllFormed}
use Rattle.kind.specs.Kind.{longest}
use Rattle.sector_log.specs.LookUp.{lent_allowed}
use Rattle.message.specs.declared.Request.TheVariants.{Ill}
use Rattle.message.specs.Message.{type_of, read_of, write_of, request_of}
use Rattle.request.specs.Step.{reply_room, fresh, greeted, in_session, step}
use Rattle.request.specs.declared.Session.TheVariants.{Fresh, Greeted, Closed}
use Rattle.entry.specs.Entry.{entry_of, well_formed, entry_allowed}
use Rattle.entry.specs.declared.Entry.{Entry}
use Rattle.file.specs.File.{entry_readable, page_allowed, extent_at, located, answer_of}
use Rattle.visit.specs.declared.Walked.{Walked}
use Rattle.visit.specs.Visit.{walked}
use Rattle.descent.specs.Descent.{judged}
use Rattle.examples.specs.Pads.{Six, Pads}
use Rattle.std.specs.Prelude.{Ok, Err}

-- a byte other than 0 among w bytes at an offset
part_get_d : (w at k : ℕ) (l : Bytes) → k < w → get_or (take w (drop at l)) k 0 ≡ get_or l (at + k) 0
part_get_d w at k l h = get_or-take w (drop at l) k 0 h ∙ get_or-drop at l k 0

marked : (w at k : ℕ) (l : Bytes) → k < w → (get_or l (at + k) 0 ≡ 0 → ⊥) → zeros (take w (drop at l)) ≡ false
marked w at k l h n = false_unless (zeros (take w (drop at l))) (λ e. n (sym (part_get_d w at k l h) ∙ zeros_get_d (take w (drop at l)) k e))

-- ---- messages

read-ill : (m : Bytes) → type_of m ≡ 12 → (get_or m 25 0 ≡ 0 → ⊥) → request_of m ≡ Ill
unfolding request_of read_of
read-ill m t n = rw (t, marked 1 25 0 m (omega arith) n, and-false (eqb (length m) 28))

write-ill : (m : Bytes) (k : ℕ) → type_of m ≡ 14 → k < 3 → (get_or m (5 + k) 0 ≡ 0 → ⊥) → request_of m ≡ Ill
unfolding request_of write_of
write-ill m k t h n = rw (t, marked 3 5 k m h n, and-false (leb 8 (length m)))

six : (m : Bytes) → request_of m ≡ Ill → Six m
unfolding step in_session fresh greeted
six m q Closed date log buffer n f h a d = absurd (n refl)
six m q Fresh date log buffer n f h a d = rw (f, le-ltb (length buffer) reply_room h, a, d, q) refl
six m q Greeted date log buffer n f h a d = rw (f, le-ltb (length buffer) reply_room h, a, d, q) refl

-- ---- entries

padded : (e : Entry) → e.clean ≡ false → well_formed e ≡ false
unfolding well_formed
padded e c =
    let entries = and-false (not e.directory || eqb (e.dsize % 40) 0) in
    let dsize = and-false (leb 1 e.dsize && leb e.dsize longest) in
    let psize = and-false (leb 40 e.psize && leb e.psize longest) in
    rw (c, and-false e.plain, entries, dsize, psize)

entry-ill : (x : Bytes) (k : ℕ) → k < 5 → (get_or x (9 + k) 0 ≡ 0 → ⊥) → entry_allowed x ≡ false
unfolding entry_of
entry-ill x k h n = padded (entry_of x) (marked 5 9 k x h n)

file-ill : (log waiting page entry : Bytes) (offset k : ℕ) → k < 5 → (get_or entry (9 + k) 0 ≡ 0 → ⊥) → lent_allowed (length log) (length waiting) ≡ true → page_allowed page ≡ true
    → answer_of (located log waiting page entry offset) ≡ 16
unfolding located extent_at entry_readable
file-ill log waiting page entry offset k h n l p =
    rw (l, p, entry-ill entry k h n, and-false (entry_of entry).active, and-false (eqb (length entry) 40)) refl

later : (x y : Bytes) (at : ℕ) → drop 4 x ≡ drop 4 y → drop (4 + at) x ≡ drop (4 + at) y
later x y at e = sym (drop-drop at 4 x) ∙ ap (drop at) e ∙ drop-drop at 4 y

gen-free : (x y : Bytes) → drop 4 x ≡ drop 4 y → entry_of x ≡ entry_of y
unfolding entry_of
gen-free x y e =
    let flags : drop 8 x ≡ drop 8 y = later x y 4 e in
    let dsize : drop 6 x ≡ drop 6 y = later x y 2 e in
    let pad : drop 9 x ≡ drop 9 y = later x y 5 e in
    let size : drop 14 x ≡ drop 14 y = later x y 10 e in
    rw (flags, e, dsize, pad, size) refl

walk-ill : (x : Bytes) (w : Walked) (k : ℕ) → k < 5 → (get_or x (9 + k) 0 ≡ 0 → ⊥) → (entry_of x).active ≡ true → judged x w ≡ walked 0 (Err IllFormed)
unfolding judged
walk-ill x w k h n a = ap₂ (λ (s t : Bool). cond s (cond t w (walked 0 (Err IllFormed))) (walked 0 (Ok tt))) a (entry-ill x k h n)

pub pads : Pads
unfolding judged
pads = record {
  read = λ m t n. six m (read-ill m t n);
  write = λ m k t h n. six m (write-ill m k t h n);
  file = file-ill;
  walk = walk-ill;
  inactive = λ x w a. rw a refl;
  gen = gen-free;
}
