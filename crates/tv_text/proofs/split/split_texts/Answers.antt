use Rattle.std.proofs.Common.{arith}
use Rattle.tv_text.proofs.HeadingLemmas.{left_within, none_up_to, none_anywhere, parted_at}
use Rattle.tv_text.specs.Headings.{whole}
use Rattle.tv_text.proofs.split.split_texts.Goals as goal

pub returns-in-Some-clause-split : goal.returns-in-Some-clause-split
returns-in-Some-clause-split c = parted_at c.args.text.now c.split_at.result.0.now c.in-Some.certificate.now c.loop-at.at c.split_at.ensures.front c.in-Some.ensures c.loop-at.invariant

pub returns-in-Some-clause-certificate : goal.returns-in-Some-clause-certificate
returns-in-Some-clause-certificate c = left_within c.args.text.now c.in-Some.certificate.now c.loop-at.at c.in-Some.ensures

pub loop-at-preserved : goal.loop-at-preserved
loop-at-preserved c = none_up_to c.args.text.now c.loop-at.at c.loop-at.invariant c.in-None.ensures

pub returns-clause-split : goal.returns-clause-split
returns-clause-split c = whole (none_anywhere c.args.text.now (λ k rest less. c.loop-at.invariant k rest (omega (arith, less, c.loop-at-test.false))))
