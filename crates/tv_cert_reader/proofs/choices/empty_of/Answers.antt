use Rattle.std.proofs.Common.{arith, false, subst}
use Rattle.tv_cert_reader.specs.declared.kind.LineKind.TheVariants.{Shape}
use Rattle.tv_cert_reader.specs.ChoiceGrammar.{choice}
use Rattle.tv_cert_reader.specs.Reading.{FaultAt}
use Rattle.tv_cert_reader.specs.Choices.{choosing_of}
use Rattle.tv_cert_reader.proofs.ChoiceLemmas.{choice_tree}
use Rattle.tv_cert_reader.proofs.TreeLemmas.{empty_stops}
use Rattle.tv_cert_reader.proofs.choices.empty_of.Goals as goal

pub returns-else-len-known : goal.returns-else-len-known
returns-else-len-known c = λ system piece stop destination left old new at e.
    subst (FaultAt (choice false left (choosing_of system piece stop destination) c.args.known) old Shape) e (empty_stops (choice_tree system piece stop destination c.args.known left) old new c.args.multipliers.items at (λ h. let f = c.if-len-known.false in omega (arith, h, f)))
