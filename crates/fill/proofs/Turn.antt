-- One leaf written from the front of what is lent, or the refusal that ends it; and one turn of the loop over leaves.
use mathlib.Core.Path.{◌≡◌, sym, ap, ◌∙◌, subst}
use mathlib.Core.List.{◌++◌}
use Prim.Native.Nat.{ℕ, ◌+◌, ◌-◌, ◌/◌, ◌%◌, ◌≤◌, ◌<◌, min}
use native.Mathlib.Nat.{mod-lt}
use native.Mathlib.Omega.{arith}
use lib.ListN.{length, get_or, take, drop}
use lib.Seq.{get_or-drop}
use Rattle.buffer.specs.Bytes.{Bytes, put}
use Rattle.buffer.proofs.Parts.{part_length}
use Rattle.buffer.proofs.Put.{length-put, put_front, put-none, put_part}
use Rattle.refusal.specs.declared.Refusal.{Refusal}
use Rattle.sector.specs.Sector.{filled}
use Rattle.sector.proofs.Encode.{length-filled}
use Rattle.block.specs.declared.Block.{Block}
use Rattle.block.specs.Block.{Inside}
use Rattle.block.specs.Log.{sectors, joined, bytes_of}
use Rattle.block.proofs.Joined.{sectors-joined}
use Rattle.block.proofs.Payloads.{filled_get_d}
use Rattle.entry.specs.declared.Entry.{Entry}
use Rattle.leaf.specs.Leaf.{under}
use Rattle.leaf.specs.Fetch.{LiesIn, run_in}
use Rattle.fill.specs.declared.Filled.{Filled}
use Rattle.fill.specs.Fill.{Read, byte, byte_below, gathered, FillOutcome, fill_outcome, filled_with}
use Rattle.fill.proofs.Gather.{gathered-all, gathered-refused, Rest, rest-split, rest_ends, rest_goes_on}
use Rattle.fill.proofs.Leaf.{leaf-refused, leaf-bytes}
use Rattle.std.specs.Prelude.{Ok, Err, Result}

-- ---- one leaf

-- the block that was found lies within both parts, and within them read as one
pub found_inside : (l : Result Block Refusal) (end : ℕ) → LiesIn end l → {b : Block} → l ≡ Ok b → Inside end b
found_inside l end h z = subst (LiesIn end) z h

pub inside_both : (u : ℕ) (log waiting : Bytes) → u ≤ sectors (length log) → (b : Block) → Inside (u + sectors (length waiting)) b → Inside (sectors (length (joined u log waiting))) b
inside_both u log waiting h b i = subst (λ (n : ℕ). Inside n b) (sym (sectors-joined u log waiting h)) i

-- the lesser of what is lent and what the leaf has
least-of : (a b : ℕ) → 0 < a → 0 < b → (0 < min a b) × (min a b ≤ a) × (min a b ≤ b)
least-of a b p q = (omega arith, omega arith, omega arith)

-- bytes written to the front
written : (d p : Bytes) (n : ℕ) → length p ≡ n → fill_outcome (record { count = n; stop = (Ok tt) }) (p ++ drop n d) ≡ filled_with d (record { bytes = p; stop = (Ok tt) })
written d p n e = ap (λ (k : ℕ). fill_outcome (record { count = k; stop = (Ok tt) }) (p ++ drop k d)) (sym e) ∙ ap (fill_outcome (record { count = length p; stop = (Ok tt) })) (sym (put_front d p))

module _ (log : Bytes) (e : Entry) (top : Bytes) (offset : ℕ) (d : Bytes) (pos : 0 < e.dsize) (lent : 0 < length d) (l : Result Block Refusal)
    (found : (page o : ℕ) → o / e.dsize ≡ offset / e.dsize → run_in page e o l ≡ under log page e o e.depth top) where
  least : let n = min (length d) (e.dsize - offset % e.dsize) in
      (0 < n) × (n ≤ length d) × (n ≤ e.dsize - offset % e.dsize)
  least = least-of (length d) (e.dsize - offset % e.dsize) lent (omega (arith, mod-lt offset pos))

  pub leaf-missing : (w : Refusal) → l ≡ Err w
      → fill_outcome (record { count = 0; stop = Err w }) d ≡ filled_with d (gathered (byte_below log e top) (min (length d) (e.dsize - offset % e.dsize)) offset)
  leaf-missing w z =
      ap (fill_outcome (record { count = 0; stop = Err w })) (sym (put-none d 0))
      ∙ ap (filled_with d) (sym (gathered-refused (byte_below log e top) _ offset w least.0 (leaf-refused log e top offset l found w z)))

  module _ (b : Block) (z : l ≡ Ok b) (room : Inside (sectors (length log)) b) (n : ℕ) (en : n ≡ min (length d) (e.dsize - offset % e.dsize)) where
    pub leaf-written : (ys : Bytes) → ys ≡ filled n (drop (offset % e.dsize) (bytes_of log b))
        → fill_outcome (record { count = n; stop = (Ok tt) }) (ys ++ drop n d)
        ≡ filled_with d (gathered (byte_below log e top) (min (length d) (e.dsize - offset % e.dsize)) offset)
    leaf-written ys ey =
        let k = offset % e.dsize in
        let bytes = bytes_of log b in
        let p = filled n (drop k bytes) in
        let lp : length p ≡ n = length-filled n (drop k bytes) in
        let reads : (j : ℕ) → j < length p → byte_below log e top (offset + j) ≡ byte (get_or p j 0) =
        λ j g. leaf-bytes log e top offset l found b z room pos j (omega (arith, lp, least.2))
        ∙ ap byte (sym (filled_get_d n (drop k bytes) j (omega (arith, lp)) ∙ get_or-drop k bytes j 0)) in
        ap (λ (x : Bytes). fill_outcome (record { count = n; stop = (Ok tt) }) (x ++ drop n d)) ey
        ∙ written d p n lp
        ∙ ap (filled_with d) (sym (gathered-all (byte_below log e top) p offset reads))
        ∙ ap (λ (m : ℕ). filled_with d (gathered (byte_below log e top) m offset)) (lp ∙ en)

-- ---- one turn

-- what holds behind `done` bytes
abbrev pub Filling : (ℕ → Read) → ℕ → ℕ → Bytes → Bytes → ℕ → Type 0
Filling read count offset d₀ d done = (done ≤ count) × (length d ≡ length d₀) × Rest read count offset d₀ d done

-- what one turn makes of that: the answer f to the part that was lent, which came back as ys
pub record Turned (read : ℕ → Read) (count offset : ℕ) (d₀ d : Bytes) (done : ℕ) (f : Filled) (ys : Bytes) : Type 0 where
  pub within : done + f.count ≤ count
  pub same_length : length (take done d ++ (ys ++ drop (count - done) (drop done d))) ≡ length d₀
  pub some : f.stop ≡ Ok tt → 0 < f.count
  pub goes_on : f.stop ≡ Ok tt → Filling read count offset d₀ (take done d ++ (ys ++ drop (count - done) (drop done d))) (done + f.count)
  pub ends : (w : Refusal) → f.stop ≡ Err w
      → fill_outcome (record { count = done + f.count; stop = f.stop }) (take done d ++ (ys ++ drop (count - done) (drop done d))) ≡ filled_with d₀ (gathered read count offset)

pub turned : (read : ℕ → Read) (count offset : ℕ) (d₀ d : Bytes) (done : ℕ) → count ≤ length d₀ → Filling read count offset d₀ d done → done < count
    → (k : ℕ) → 0 < k → (f : Filled) (ys : Bytes)
    → fill_outcome f ys ≡ filled_with (take (count - done) (drop done d)) (gathered read (min (length (take (count - done) (drop done d))) k) (offset + done))
    → Turned read count offset d₀ d done f ys
turned read count offset d₀ d done full held lt k pos f ys e =
    let part = take (count - done) (drop done d) in
    let behind = drop (count - done) (drop done d) in
    let m = min (length part) k in
    let g = gathered read m (offset + done) in
    let lent : length part ≡ count - done = part_length d done count (omega (arith, held.1)) in
    let least = least-of (length part) k (omega (arith, lent)) pos in
    let fits : done + m ≤ count = omega (arith, lent, least.1) in
    let split = rest-split read count offset d₀ d done held.2 m fits in
    let stops : f.stop ≡ g.stop = ap (λ (x : FillOutcome). x.filled.stop) e in
    let counts : f.count ≡ length g.bytes = ap (λ (x : FillOutcome). x.filled.count) e in
    let inside : done + f.count ≤ count = omega (arith, fits, counts, split.short) in
    let put_in : take done d ++ (ys ++ behind) ≡ put d done g.bytes =
    put_part d ys g.bytes done count (omega (arith, least.1, split.short)) (ap (λ (x : FillOutcome). x.buffer) e) in
    let long : length (take done d ++ (ys ++ behind)) ≡ length d₀ =
    ap length put_in ∙ length-put d done g.bytes (omega (arith, inside, counts, held.1)) ∙ held.1 in
    record {
      within = inside;
      same_length = long;
      some = λ q. omega (arith, counts, least.0, split.all-gathered (sym stops ∙ q));
      goes_on = λ q. (
        inside,
        long,
        subst (λ (x : Bytes). Rest read count offset d₀ x (done + f.count)) (sym put_in)
            (subst (λ (n : ℕ). Rest read count offset d₀ (put d done g.bytes) (done + n)) (sym counts)
            (rest_goes_on read count offset d₀ d done held.2 m fits (sym stops ∙ q) (omega (arith, held.1)))),
      );
      ends = λ w q. (λ i. fill_outcome (record { count = done + counts i; stop = stops i }) (put_in i))
          ∙ rest_ends read count offset d₀ d done held.2 m fits w (sym stops ∙ q);
    }
