-- A file reads alike in every log that holds its blocks.
use mathlib.Core.Path.{◌≡◌, refl, sym, ap, ◌∙◌}
use mathlib.Core.Bool.{Bool, true, false}
use mathlib.Core.Option.{some}
use Prim.Native.Nat.{ℕ, zero, suc, ◌+◌, ◌%◌}
use lib.Dec.{leb, ltb, eqb}
use lib.ListN.{length, get_or}
use Rattle.bedrock.proofs.Choices.{cond_ind}
use Rattle.buffer.specs.Bytes.{Bytes, same}
use Rattle.kind.specs.Kind.{zero_score}
use Rattle.refusal.specs.declared.Refusal.TheVariants as why
use Rattle.block.specs.Block.{Row, place_of}
use Rattle.block.specs.declared.Block.{Block}
use Rattle.sector_log.specs.LookUp.{held, lent_allowed}
use Rattle.sector_log.specs.Parts.{tape}
use Rattle.entry.specs.declared.Entry.{Entry}
use Rattle.entry.specs.Entry.{entry_of, score_of}
use Rattle.tree.specs.Tree.{pointer, type_at}
use Rattle.leaf.specs.Leaf.{zero_run, leaf_run, pointer_index, under}
use Rattle.leaf.proofs.Steps.{under-zero}
use Rattle.file.specs.File.{page_allowed, entry_readable, extent_at}
use Rattle.file_laws.specs.Bytes.{byte_under, file_byte}
use Rattle.file_laws.specs.Elsewhere.{BlocksHeldBy, ReadsElsewhere}
use Rattle.file_laws.proofs.Extents.{Reads, shown-reads, shown-answers}
use Rattle.file_laws.proofs.Missing.{tested, passed, looked, held_if}
use Rattle.file_laws.proofs.Runs.{below-zero, leaf-is, leaf-byte, level-is, level-byte}

-- a leaf that is held is stored bytes or zeros
leaf-reads : (page : ℕ) (e : Entry) (offset : ℕ) (b : Block) → Reads (leaf_run page e offset b)
unfolding leaf_run
leaf-reads page e offset b = cond_ind Reads (ltb (offset % e.dsize) b.size) _ _ (λ _. tt) (λ _. tt)

module _ (log other : Bytes) (more : BlocksHeldBy log other) (page : ℕ) (e : Entry) (offset : ℕ) where
  -- it reads in the other log, and the file's byte there is the same
  abbrev ReadsOther : ℕ → Bytes → Type 0
  ReadsOther level s = Reads (under other page e offset level s) × (byte_under other e offset level s ≡ byte_under log e offset level s)

  zero_other : (level : ℕ) (s : Bytes) → same s zero_score ≡ true → ReadsOther level s
  zero_other level s q = (
    rw (← under-zero other page e offset level s true (sym q) refl) tt,
    below-zero other page e offset level s offset q ∙ sym (below-zero log page e offset level s offset q),
  )

  leaf_other : (s : Bytes) → same s zero_score ≡ false → (r : Row) → held log (type_at e 0) s ≡ some r → leb (length r.bytes) e.dsize ≡ true → ReadsOther 0 s
  leaf_other s q r h k =
      let H = more (type_at e 0) s r h in
      let r' = H.0 in
      let k' : leb (length r'.bytes) e.dsize ≡ true = ap (λ (b : Bytes). leb (length b) e.dsize) H.2 ∙ k in (
        rw (leaf-is other page e offset s q r' H.1 k') (leaf-reads page e offset (place_of r')),
        leaf-byte other page e offset s q r' H.1 offset
            ∙ ap (λ (b : Bytes). some (get_or b (offset % e.dsize) 0)) H.2 ∙ sym (leaf-byte log page e offset s q r h offset),
      )

  level_other : (d : ℕ) (s : Bytes) → same s zero_score ≡ false → (r : Row) → held log (2 + suc d) s ≡ some r → leb (length r.bytes) e.psize ≡ true
      → eqb (length r.bytes % 20) 0 ≡ true → ReadsOther d (pointer r.bytes (pointer_index e offset d)) → ReadsOther (suc d) s
  level_other d s q r h k w below =
      let H = more (2 + suc d) s r h in
      let r' = H.0 in
      let k' : leb (length r'.bytes) e.psize ≡ true = ap (λ (b : Bytes). leb (length b) e.psize) H.2 ∙ k in
      let w' : eqb (length r'.bytes % 20) 0 ≡ true = ap (λ (b : Bytes). eqb (length b % 20) 0) H.2 ∙ w in
      let down : pointer r'.bytes (pointer_index e offset d) ≡ pointer r.bytes (pointer_index e offset d) = ap (λ (b : Bytes). pointer b (pointer_index e offset d)) H.2 in (
        rw (level-is other page e offset s q r' d H.1 k' w', down) below.0,
        level-byte other page e offset s q r' d H.1 offset refl
            ∙ ap (byte_under other e offset d) down ∙ below.1 ∙ sym (level-byte log page e offset s q r d h offset refl),
      )

  under_other : (level : ℕ) (s : Bytes) → Reads (under log page e offset level s) → ReadsOther level s
  unfolding under
  under_other zero s a = go (same s zero_score) refl
    where
      go : (b : Bool) → same s zero_score ≡ b → ReadsOther 0 s
      go true q = zero_other 0 s q
      go false q =
          let h = held_if log (type_at e 0) s e.dsize (λ (r : Row). leaf_run page e offset (place_of r)) (looked (same s zero_score) (zero_run page e offset) _ q a) in
          leaf_other s q h.0 h.1 h.3
  under_other (suc d) s a = go (same s zero_score) refl (under_other d)
    where
      go : (b : Bool) → same s zero_score ≡ b → ((s' : Bytes) → Reads (under log page e offset d s') → ReadsOther d s') → ReadsOther (suc d) s
      go true q f = zero_other (suc d) s q
      go false q f =
          let h = held_if log (2 + suc d) s e.psize _ (looked (same s zero_score) (zero_run page e offset) _ q a) in
          let whole = eqb (length h.0.bytes % 20) 0 in
          level_other d s q h.0 h.1 h.3 (tested whole _ why.Pointers h.2) (f _ (passed whole _ why.Pointers h.2))

-- the tests before the tree ask the log's length alone
extent_other : (lent : Bool) (log other page entry : Bytes) (offset : ℕ) → BlocksHeldBy log other → Reads (extent_at lent log page entry offset)
    → Reads (extent_at true other page entry offset) × (file_byte other entry offset ≡ file_byte log entry offset)
unfolding extent_at file_byte
extent_other lent log other page entry offset more a =
    let b = passed lent _ why.LogLength a in
    let c = passed (page_allowed page) _ why.Page b in
    let d = passed (entry_readable entry) _ why.Entry c in
    let inside = ltb offset (entry_of entry).size in
    let U = under_other log other more (length page) (entry_of entry) offset (entry_of entry).depth (score_of entry) (passed inside _ why.Offset d) in
    (rw (tested (page_allowed page) _ why.Page b, tested (entry_readable entry) _ why.Entry c, tested inside _ why.Offset d) U.0, U.1)

pub reads_elsewhere : ReadsElsewhere
reads_elsewhere log waiting log' waiting' page entry offset l more a =
    let R = extent_other (lent_allowed (length log) (length waiting)) (tape log waiting) (tape log' waiting') page entry offset more (shown-reads log waiting page entry offset a) in
    (shown-answers log' waiting' page entry offset (rw l R.0), R.1)
