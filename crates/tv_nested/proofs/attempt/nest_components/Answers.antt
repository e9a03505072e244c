use Rattle.std.proofs.Common.{◌∙◌, length, ap, subst}
use Rattle.tv_cases.specs.Systems.{cases_of}
use Rattle.tv_cases.proofs.AmountLemmas.{one_more}
use Rattle.tv_nested.specs.Parted.{IsParted}
use Rattle.tv_nested.proofs.ComponentLemmas.{parts_more, part_refused}
use Rattle.tv_nested.proofs.attempt.nest_components.Goals as goal

pub returns-in-Err-clause-refusals : goal.returns-in-Err-clause-refusals
returns-in-Err-clause-refusals c = part_refused (cases_of c.args.about.now) c.args.known.now.pieces.items c.args.numbers.now c.components.number c.args.pivots c.in-Err.fault (c.components.parts.items, c.components.invariant.as_many, c.components.invariant.parts) c.in-Err.ensures.refusals

pub returns-in-Stuck-clause-attempt : goal.returns-in-Stuck-clause-attempt
returns-in-Stuck-clause-attempt c =
    let p = subst (IsParted (cases_of c.args.about.now) c.args.known.now.pieces.items c.args.numbers.now c.components.number) c.in-Stuck.is c.in-Ok.ensures.parted in
    (p.0, p.1, (c.components.parts.items, c.components.invariant.as_many, c.components.invariant.parts))

pub components-preserved : goal.components-preserved
components-preserved c =
    let about = cases_of c.args.about.now in
    let known = c.args.known.now.pieces.items in
    let p = subst (IsParted about known c.args.numbers.now c.components.number) c.in-Done.is c.in-Ok.ensures.parted in
    record {
      as_many = ap length c.in_ok-push_item-in-Done.ensures ∙ one_more c.components.parts.items c.in-Done.part c.components.number c.components.invariant.as_many;
      parts = parts_more about known c.args.numbers.now c.components.number c.components.parts.items c.push_item.new.items.items c.in-Done.part c.components.invariant.parts c.components.invariant.as_many p c.in_ok-push_item-in-Done.ensures;
    }
