use Rattle.std.proofs.Common.{◌∙◌, sym, subst}
use Rattle.std.specs.Prelude.{Contains}
use Rattle.tv_choice.specs.Ways.{lists_of}
use Rattle.tv_choice.proofs.DifferLemmas.{kept_none, kept_more, kept_same, kept_all}
use Rattle.tv_choice.proofs.differing.different.Goals as goal
use Rattle.std.proofs.lemmas.List.{nil_from_length}

pub ways-init : goal.ways-init
ways-init c = kept_none c.args.ways.items c.new-kept.result.items c.into_iter-way-iterator.result.rest.items c.new-kept.ensures.items c.into_iter-way-iterator.ensures.into_iter_gives.0

pub ways-preserved : goal.ways-preserved
ways-preserved c =
    let there = subst (λ ws. Contains (lists_of ws) c.deref-in-ways.result.now) c.deref.ensures.value (c.has_way.ensures c.if-not-has_way.false) in
    kept_same c.args.ways.items c.ways.kept.items c.next.new.self.rest.items c.ways.way-iterator.rest.items c.in-Some.way c.in-Some.ensures.steps.0 (subst (Contains (lists_of c.ways.kept.items)) c.deref-in-ways.ensures.value there) c.ways.invariant

pub ways-preserved-in-Continue-1 : goal.ways-preserved-in-Continue-1
ways-preserved-in-Continue-1 c =
    kept_more c.args.ways.items c.ways.kept.items c.push_item.new.items.items c.next.new.self.rest.items c.ways.way-iterator.rest.items c.in-Some.way c.in-Some.ensures.steps.0 c.in_ok-push_item.ensures c.ways.invariant

pub returns : goal.returns
returns c = kept_all c.args.ways.items c.ways.kept.items c.ways.way-iterator.rest.items (nil_from_length c.ways.way-iterator.rest.items (sym c.ways.way-iterator.rest.ok.0 ∙ c.in-None.ensures.steps.0)) c.ways.invariant
