use Rattle.std.proofs.Common.{◌∙◌, length, ap, subst}
use Rattle.tv_cases.proofs.AmountLemmas.{one_more}
use Rattle.tv_finitely.specs.Parts.{IsParted, RefusesPart}
use Rattle.tv_finitely.specs.Splits.{split_of}
use Rattle.tv_finitely.proofs.PartLemmas.{parts_more, part_refused}
use Rattle.tv_finitely.proofs.attempt.visit_components.Goals as goal

pub returns-in-Err-clause-refusals : goal.returns-in-Err-clause-refusals
returns-in-Err-clause-refusals c =
    let s = split_of c.args.about.now in
    part_refused s c.args.known.now.pieces.items c.args.numbers.now c.components.number c.args.pivots c.in-Err.fault (c.components.parts.items, c.components.invariant.as_many, c.components.invariant.parts)
    (subst (λ marks. RefusesPart s.system marks c.args.known.now.pieces.items c.args.numbers.now c.components.number c.args.pivots c.in-Err.fault) c.deref-in-components-2.ensures.value c.in-Err.ensures.refusals)

pub components-preserved : goal.components-preserved
components-preserved c =
    let s = split_of c.args.about.now in
    let known = c.args.known.now.pieces.items in
    let p = subst (λ marks. IsParted s.system marks known c.args.numbers.now c.components.number c.in-Ok.parted) c.deref-in-components-2.ensures.value c.in-Ok.ensures.parted in
    let q = subst (IsParted s.system s.enters known c.args.numbers.now c.components.number) c.in-Done.is p in
    record {
      as_many = ap length c.in_ok-push_item-in-Done.ensures ∙ one_more c.components.parts.items c.in-Done.part c.components.number c.components.invariant.as_many;
      parts = parts_more s known c.args.numbers.now c.components.number c.components.parts.items c.push_item.new.items.items c.in-Done.part c.components.invariant.parts c.components.invariant.as_many q c.in_ok-push_item-in-Done.ensures;
    }
