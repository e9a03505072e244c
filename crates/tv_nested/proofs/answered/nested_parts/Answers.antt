use Rattle.tv_cases.specs.Systems.{cases_of}
use Rattle.tv_nested.proofs.RankingLemmas.{parts_few}
use Rattle.tv_nested.proofs.RefusalLemmas.{node_refused}
use Rattle.tv_nested.proofs.FittedLemmas.{begins}
use Rattle.tv_nested.proofs.answered.nested_parts.Goals as goal

pub rank_count-count-requires : goal.rank_count-count-requires
rank_count-count-requires c =
    let h = c.requires.parts.1 in
    parts_few (cases_of c.args.about.now) h.0 c.args.numbers.now c.args.parts.now c.args.about.now.are_cases.few_cases h.2

pub returns-in-Err-clause-refusals : goal.returns-in-Err-clause-refusals
returns-in-Err-clause-refusals c = node_refused _ c.requires.parts c.in-Err.fault c.in-Err.ensures.refusals

pub returns-clause-nested : goal.returns-clause-nested
returns-clause-nested c = begins _ c.in-Ok.node c.in_ok-start.start c.in-Ok.ensures.node c.in_ok-start.ensures
