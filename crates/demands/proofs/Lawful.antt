-- The archive keeps every law on which the ledger's theorem rests.
use mathlib.Core.Path.{refl}
use native.Mathlib.Omega.{arith}
use Rattle.block.specs.Block.{parts}
use Rattle.block.proofs.At.{blank-is}
use Rattle.block.proofs.Used.{lt_used, used_le, used-void}
use Rattle.block.proofs.Facts.{parts_pos}
use Rattle.block.proofs.Image.{image-fits, image-used, image_near, blank_near, label}
use Rattle.block.proofs.Sound.{sound-reads}
use Rattle.sector_log.specs.Parts.{one_log}
use Rattle.ledger.specs.Lawful.{Lawful}
use Rattle.demands.specs.Instance.{archive}
use Rattle.demands.proofs.LogLaws.{sound_finds, used-grown}
use Rattle.demands.proofs.LentLaws as lent
use Rattle.demands.proofs.Step.{agrees}
use Rattle.demands.proofs.TellAdds.{tell-adds}
use Rattle.sector.proofs.Unfit.{zeros-unfit}

pub lawful : Lawful archive
lawful = record {
  extent-void = lent.extent-void;
  at-void = lent.at-blank;
  blank-is = blank-is;
  lt_used = λ L. lt_used (one_log L);
  used_le = λ L. used_le (one_log L);
  start-void = λ x. used-void x.size;
  start_none = λ L w. lent.start_none L.log L.waiting w;
  room-inside = λ x e r room. lent.room-inside x e r.first (parts r) room;
  extent-written = λ L r v b room. lent.extent-written r v L.log L.waiting b room;
  start-written = λ L r v b room w. lent.start-written L.log L.waiting r w;
  at-written = λ L r n v b room. lent.at_appended r v L.log L.waiting n b room;
  extent-settled = λ L h. lent.extent-settled L.log L.waiting h;
  start-settled = λ L h. lent.start-settled L.log L.waiting h;
  at-settled = λ L n h. lent.at-settled L.log L.waiting n h;
  extent-alone = lent.extent-alone;
  sectors-lent = λ l x. refl;
  start-alone = lent.start-alone;
  at-alone = lent.at-alone;
  extent-grown = lent.extent-grown;
  sectors-wider = λ k x. omega arith;
  waits-wider = λ k x. refl;
  start-grown = λ k L may. used-grown k L.log may;
  at-grown = λ k L n may. lent.one-grown k L.log L.waiting n may;
  parts_pos = λ r v. parts_pos r v;
  image-fits = λ r k v h. image-fits r k v;
  image-used = λ r k v h. image-used r k;
  label = label;
  image_near = λ r k s v h. image_near r k v s;
  blank_near = blank_near;
  zeros-unfit = zeros-unfit;
  sound-reads = λ L n r e. let p = sound-reads (one_log L) n r e in (p.0, p.1, p.3);
  sound_finds = λ L. sound_finds (one_log L);
  agrees = λ log L s q b owned blocks used starts room. agrees log L owned blocks used starts room s q;
  tell-adds = λ L x s q r b e. tell-adds L x s q r b e;
}
