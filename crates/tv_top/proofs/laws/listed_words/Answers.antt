use Rattle.std.proofs.Common.{refl}
use Rattle.clap.proofs.OnLiterals.{clap_on_literals}
use Rattle.tv_top.proofs.laws.listed_words.Goals as goal

pub returns-clause-termination : goal.returns-clause-termination
unfolding clap_on_literals
returns-clause-termination c = refl

pub returns-clause-safety : goal.returns-clause-safety
unfolding clap_on_literals
returns-clause-safety c = refl

pub returns-clause-joined : goal.returns-clause-joined
unfolding clap_on_literals
returns-clause-joined c = refl

pub returns-clause-written : goal.returns-clause-written
unfolding clap_on_literals
returns-clause-written c = refl

pub returns-clause-checked : goal.returns-clause-checked
unfolding clap_on_literals
returns-clause-checked c = refl

pub returns-clause-behind : goal.returns-clause-behind
unfolding clap_on_literals
returns-clause-behind c = refl

pub returns-clause-numbers : goal.returns-clause-numbers
unfolding clap_on_literals
returns-clause-numbers c = refl

pub returns-clause-generated : goal.returns-clause-generated
unfolding clap_on_literals
returns-clause-generated c = refl

pub returns-clause-traced : goal.returns-clause-traced
unfolding clap_on_literals
returns-clause-traced c = refl

pub returns-clause-visited : goal.returns-clause-visited
unfolding clap_on_literals
returns-clause-visited c = refl
