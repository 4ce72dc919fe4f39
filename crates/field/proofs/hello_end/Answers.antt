use mathlib.Core.Path.{sym, ◌∙◌}
use Rattle.field.proofs.Fields.{text-within, counted-within, strength_none, crypto_bad, codec_last}
use Rattle.field.proofs.hello_end.Goals as goal

pub text_end-requires-2 : goal.text_end-requires-2
text_end-requires-2 c = text-within _ 4 _ (sym c.text_end.ensures ∙ c.in_ok-version.was)

pub overflow_sub-m : goal.overflow_sub-m
overflow_sub-m c = text-within _ _ _ (sym c.text_end-2.ensures ∙ c.in_ok-uid.was)

pub returns-then-m-uid-lt1 : goal.returns-then-m-uid-lt1
returns-then-m-uid-lt1 c =
    let v = sym c.text_end.ensures ∙ c.in_ok-version.was in
    let u = sym c.text_end-2.ensures ∙ c.in_ok-uid.was in
    strength_none _ _ v _ u c.if-m-uid-lt1.true

pub returns-in_err-crypto : goal.returns-in_err-crypto
returns-in_err-crypto c =
    let v = sym c.text_end.ensures ∙ c.in_ok-version.was in
    let u = sym c.text_end-2.ensures ∙ c.in_ok-uid.was in
    rw c.from_residual-in_err-crypto.ensures (crypto_bad _ _ v _ u c.if-m-uid-lt1.false (sym c.counted_end.ensures ∙ c.in_err-crypto.was))

pub counted_end-requires-2 : goal.counted_end-requires-2
counted_end-requires-2 c = counted-within _ _ _ (sym c.counted_end.ensures ∙ c.in_ok-crypto.was)

pub returns : goal.returns
returns c =
    let v = sym c.text_end.ensures ∙ c.in_ok-version.was in
    let u = sym c.text_end-2.ensures ∙ c.in_ok-uid.was in
    codec_last _ _ v _ u c.if-m-uid-lt1.false _ (sym c.counted_end.ensures ∙ c.in_ok-crypto.was) _ c.counted_end-2.ensures
