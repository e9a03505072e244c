use Rattle.std.proofs.Common.{arith, false, subst}
use Rattle.tv_cert_reader.specs.declared.kind.LineKind.TheVariants.{Shape}
use Rattle.tv_cert_reader.specs.CoverGrammar.{cover}
use Rattle.tv_cert_reader.specs.Reading.{FaultAt}
use Rattle.tv_cert_reader.proofs.CoverLemmas.{cover_tree}
use Rattle.tv_cert_reader.proofs.TreeLemmas.{empty_stops}
use Rattle.tv_cert_reader.proofs.covers.empty_of.Goals as goal

pub returns-then-len-known : goal.returns-then-len-known
returns-then-len-known c = λ width left counts old new at e. (record { shape = (let h = c.if-len-known.true in let k = c.len.ensures in omega (arith, h, k)); shallow = omega arith }, at.front)

pub returns-else-len-known : goal.returns-else-len-known
returns-else-len-known c = λ width left counts old new at e.
    subst (FaultAt (cover false left width c.args.known counts) old Shape) e (empty_stops (cover_tree width counts c.args.known left) old new c.args.multipliers.items at (λ h. let f = c.if-len-known.false in omega (arith, h, f)))
