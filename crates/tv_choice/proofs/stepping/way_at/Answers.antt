use Rattle.tv_choice.proofs.TermLemmas.{terms_even}
use Rattle.tv_choice.proofs.stepping.way_at.Goals as goal

pub way_of-requires-clause-even : goal.way_of-requires-clause-even
way_of-requires-clause-even c = terms_even c.args.question.now.columns c.args.entry.now.case.now.draws c.args.rows.now c.args.values.now c.in_ok-terms.terms.items c.requires.even c.in_ok-terms.ensures
