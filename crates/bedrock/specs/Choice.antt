-- A choice by what may be there.
use Rattle.std.proofs.Math.Option.{Option, none, some}

abbrev pub on {ℓ} : {B : Type 0} {A : Type ℓ} → Option B → A → (B → A) → A
on none a f = a
on (some r) a f = f r
