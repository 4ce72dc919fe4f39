use Rattle.field.proofs.Fields.{text_no_count, text-past, text-long, text-good, text-ill}
use native.Mathlib.Omega.{arith}
use Rattle.field.proofs.text_end.Goals as goal

pub returns-then-m-at-lt2 : goal.returns-then-m-at-lt2
returns-then-m-at-lt2 c = text_no_count _ c.args.at c.requires c.if-m-at-lt2.true

pub returns-then-m-from : goal.returns-then-m-from
returns-then-m-from c =
    let n = c.be_number-n in
    text-past _ c.args.at c.requires n.result n.ensures c.if-m-at-lt2.false c.if-m-from.true

pub returns-then-n-gt1024 : goal.returns-then-n-gt1024
returns-then-n-gt1024 c =
    let n = c.be_number-n in
    text-long _ c.args.at c.requires n.result n.ensures c.if-m-at-lt2.false c.if-m-from.false (omega arith)

pub returns-then-is_well_formed : goal.returns-then-is_well_formed
returns-then-is_well_formed c = let be-number = c.be_number-n in
    let if1 = c.if-m-at-lt2 in
    let if2 = c.if-m-from in
    let n = be-number in
    let z = c.is_well_formed.ensures in
    text-good _ c.args.at c.requires n.result n.ensures if1.false if2.false (omega arith) _ z c.if-is_well_formed.true

pub returns-else-is_well_formed : goal.returns-else-is_well_formed
returns-else-is_well_formed c = let be-number = c.be_number-n in
    let if1 = c.if-m-at-lt2 in
    let if2 = c.if-m-from in
    let n = be-number in
    let z = c.is_well_formed.ensures in
    text-ill _ c.args.at c.requires n.result n.ensures if1.false if2.false (omega arith) _ z c.if-is_well_formed.false
