-- Where the sectors of both parts are read on from makes no difference to the bytes that are read.
use mathlib.Core.Path.{◌≡◌, refl, sym, ap, ◌∙◌}
use Prim.Native.Nat.{ℕ, ◌+◌, ◌*◌, ◌/◌, ◌%◌, ◌<◌}
use native.Mathlib.Omega.{arith}
use lib.ListN.{length, drop, get_or}
use lib.Seq.{get_or-take, get_or-drop}
use Rattle.buffer.specs.Bytes.{Bytes}
use Rattle.block.specs.Log.{sectors, at, Alike, used}
use Rattle.block.proofs.At.{at_piece}
use Rattle.block.proofs.Used.{used_le_sectors}
use Rattle.block.proofs.Alike.{used-alike}
use Rattle.entry.specs.declared.Entry.{Entry}
use Rattle.leaf.specs.declared.Extent.{Extent}
use Rattle.leaf.specs.declared.Extent.TheVariants.{Stored, Zeros}
use Rattle.leaf.specs.Leaf.{under}
use Rattle.file.proofs.Inside.{Inside, under_in}
use Rattle.file.proofs.Border.{under_alike}
use Rattle.fill.specs.Fill.{byte_of, byte_below, byte, gathered, filled_with}
use Rattle.fill.proofs.Gather.{gathered-same}
use Rattle.std.specs.Prelude.{Ok, Err, Result}
use Rattle.refusal.specs.declared.Refusal.{Refusal}

-- byte p of a log is one of its sector's
byte_at : (log : Bytes) (p : ℕ) → p / 512 < sectors (length log) → get_or log p 0 ≡ get_or (at log (p / 512)) (p % 512) 0
byte_at log p h =
    let e : 512 * (p / 512) + p % 512 ≡ p = omega arith in
    sym (ap (λ (x : Bytes). get_or x (p % 512) 0) (at_piece log (p / 512) h)
    ∙ get_or-take 512 (drop (512 * (p / 512)) log) (p % 512) 0 (omega arith)
    ∙ get_or-drop (512 * (p / 512)) log (p % 512) 0 ∙ ap (λ (x : ℕ). get_or log x 0) e)

module _ (a b : Bytes) (f : Alike a b) where
  byte-same : (page : ℕ) (x : Result Extent Refusal) → Inside (used b) page x → byte_of a x ≡ byte_of b x
  byte-same page (Ok (Stored p n)) i =
      let u = used-alike a b f in
      let q : p / 512 < used b = omega (arith, i.2) in
      ap byte (byte_at a p (omega (arith, u, used_le_sectors a)) ∙ ap (λ (s : Bytes). get_or s (p % 512) 0) (f (p / 512))
      ∙ sym (byte_at b p (omega (arith, used_le_sectors b))))
  byte-same page (Ok (Zeros n)) i = refl
  byte-same page (Err w) i = refl

  below_alike : (e : Entry) (top : Bytes) (o : ℕ) → byte_below a e top o ≡ byte_below b e top o
  below_alike e top o =
      ap (byte_of a) (under_alike a b f 1 e o e.depth top) ∙ byte-same 1 (under b 1 e o e.depth top) (under_in b 1 e o e.depth top)

  pub filled-alike : (e : Entry) (top : Bytes) (n o : ℕ) (d : Bytes)
      → filled_with d (gathered (byte_below a e top) n o) ≡ filled_with d (gathered (byte_below b e top) n o)
  filled-alike e top n o d = ap (filled_with d) (gathered-same (byte_below a e top) (byte_below b e top) n o (λ j _ _. below_alike e top j))
