-- Two logs with the same sectors hold the same blocks: look-up and doubt are the same.
use mathlib.Core.Path.{◌≡◌, sym, ap, ◌∙◌}
use Prim.Native.Nat.{ℕ}
use Rattle.bedrock.specs.Places.{found_from}
use Rattle.buffer.specs.Bytes.{Bytes}
use Rattle.block.specs.Log.{Alike, used, sound}
use Rattle.block.proofs.Alike.{used-alike, sound-alike}
use Rattle.sector_log.specs.LookUp.{blocks, held, doubtful, first_doubtful, absence, look_up}
use Rattle.sector_log.specs.Promises.{AlikeAnswers}
use Rattle.sector_log.proofs.Blocks.{blocks-used}
use Rattle.sector_log.proofs.Written.{same_blocks}

module _ (a b : Bytes) (f : Alike a b) where
  pub blocks-alike : blocks a ≡ blocks b
  blocks-alike =
      sym (blocks-used a)
      ∙ ap (λ (k : ℕ). found_from (sound a) k 0) (used-alike a b f)
      ∙ same_blocks b a (used b) 0 (λ m h. sound-alike a b f m)
      ∙ blocks-used b

  pub held-alike : (t : ℕ) (s : Bytes) → held a t s ≡ held b t s
  unfolding held
  held-alike t s = rw blocks-alike

  pub absence-alike : absence a ≡ absence b
  unfolding absence doubtful first_doubtful
  absence-alike = rw (blocks-alike, used-alike a b f)

  pub first-doubtful-alike : first_doubtful a ≡ first_doubtful b
  unfolding first_doubtful
  first-doubtful-alike = rw (blocks-alike, used-alike a b f)

  pub look_up_alike : (t : ℕ) (s : Bytes) → look_up a t s ≡ look_up b t s
  unfolding look_up
  look_up_alike t s = rw (held-alike t s, absence-alike)

pub alike-answers : AlikeAnswers
alike-answers a b f = (used-alike a b f, sound-alike a b f, look_up_alike a b f, first-doubtful-alike a b f)
