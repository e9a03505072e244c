use Rattle.std.proofs.Common.{sym, subst}
use Rattle.tv_formula.specs.Properties.{term, negated}
use Rattle.tv_cases.specs.Systems.{cases_of}
use Rattle.tv_pre.specs.Parts.{IsPart}
use Rattle.tv_pre.proofs.EmptyLemmas.{empty_never_ends}
use Rattle.tv_pre.proofs.empty.empty_part.Goals as goal

pub returns-clause-part : goal.returns-clause-part
returns-clause-part c =
    let about = cases_of c.args.setting.now.about.now in
    let node = c.in_ok-plain_with.field-0.node in
    subst (λ r. IsPart about (negated term) r node) (sym c.in_ok-plain_with.ensures.region)
    (empty_never_ends about c.nowhere-region.result node c.new.result.items c.new-2.result.items c.new.ensures.items c.new-2.ensures.items c.nowhere-region.ensures c.in_ok-plain_with.ensures.made)
