use Rattle.tv_cases.specs.Systems.{cases_of}
use Rattle.tv_choice.specs.Leading.{state}
use Rattle.tv_pre.proofs.ComingLemmas.{goes_anywhere, shows_successor}
use Rattle.tv_pre.proofs.coming.successor.Goals as goal

pub choice_inside-requires-clause-leads : goal.choice_inside-requires-clause-leads
choice_inside-requires-clause-leads c xs w =
    goes_anywhere (cases_of c.args.setting.now.about.now) c.args.anywhere.now (state c.args.piece.now.location xs) c.variables-variables.ensures.limits c.requires.anywhere (c.requires.goes xs w)

pub returns-in-Ok-clause-shows : goal.returns-in-Ok-clause-shows
returns-in-Ok-clause-shows c = shows_successor (cases_of c.args.setting.now.about.now) c.args.piece.now c.args.anywhere.now c.in-Ok.choice c.requires.anywhere c.in-Ok.ensures.shows
