use Rattle.std.proofs.Common.{sym, ◌∙◌}
use Rattle.std.proofs.lemmas.List.{nil_from_length}
use Rattle.tv_pre.proofs.ArgumentLemmas.{one_taken, all_taken, one_region, all_regions}
use Rattle.tv_pre.proofs.finding.arguments_of.Goals as goal

pub founds-preserved : goal.founds-preserved
founds-preserved c =
    let made = c.in_ok-arguments.ensures in (
      λ about last ss h.
          one_taken about last ss c.founds.found-iterator.rest.items c.next.new.self.rest.items c.in-Some.found c.founds.arguments c.in_ok-arguments.arguments
          c.in-Some.ensures.steps.0 (c.founds.invariant.0 about last ss h) made.regions made.nodes made.size made.gap,
      one_region c.args.founds.items c.founds.found-iterator.rest.items c.next.new.self.rest.items c.in-Some.found c.founds.arguments.regions.items c.in_ok-arguments.arguments.regions.items
          c.in-Some.ensures.steps.0 c.founds.invariant.1 made.regions,
    )

pub returns-clause-arguments : goal.returns-clause-arguments
returns-clause-arguments c = λ about last ss h.
    (let rest = c.founds.found-iterator.rest in
    all_taken about last ss rest.items c.founds.arguments (nil_from_length rest.items (sym rest.ok.0 ∙ c.in-None.ensures.steps.0)) (c.founds.invariant.0 about last ss h))

pub returns-clause-regions : goal.returns-clause-regions
returns-clause-regions c =
    let rest = c.founds.found-iterator.rest in
    all_regions c.args.founds.items rest.items c.founds.arguments.regions.items (nil_from_length rest.items (sym rest.ok.0 ∙ c.in-None.ensures.steps.0)) c.founds.invariant.1
