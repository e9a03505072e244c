use Rattle.std.proofs.Common.{refl}
use Rattle.clap.proofs.OnLiterals.{clap_on_literals}
use Rattle.tv_top.proofs.laws.refused_words.Goals as goal

pub returns-clause-none : goal.returns-clause-none
unfolding clap_on_literals
returns-clause-none c = refl

pub returns-clause-no_property : goal.returns-clause-no_property
unfolding clap_on_literals
returns-clause-no_property c = refl

pub returns-clause-two_properties : goal.returns-clause-two_properties
unfolding clap_on_literals
returns-clause-two_properties c = refl

pub returns-clause-twice : goal.returns-clause-twice
unfolding clap_on_literals
returns-clause-twice c = refl

pub returns-clause-read_and_written : goal.returns-clause-read_and_written
unfolding clap_on_literals
returns-clause-read_and_written c = refl

pub returns-clause-no_bases : goal.returns-clause-no_bases
unfolding clap_on_literals
returns-clause-no_bases c = refl

pub returns-clause-sign : goal.returns-clause-sign
unfolding clap_on_literals
returns-clause-sign c = refl

pub returns-clause-many_splits : goal.returns-clause-many_splits
unfolding clap_on_literals
returns-clause-many_splits c = refl

pub returns-clause-many_pieces : goal.returns-clause-many_pieces
unfolding clap_on_literals
returns-clause-many_pieces c = refl

pub returns-clause-help : goal.returns-clause-help
unfolding clap_on_literals
returns-clause-help c = refl

pub returns-clause-no_loops : goal.returns-clause-no_loops
unfolding clap_on_literals
returns-clause-no_loops c = refl

pub returns-clause-many_loops : goal.returns-clause-many_loops
unfolding clap_on_literals
returns-clause-many_loops c = refl

pub returns-clause-made_and_named : goal.returns-clause-made_and_named
unfolding clap_on_literals
returns-clause-made_and_named c = refl

pub returns-clause-made_and_written : goal.returns-clause-made_and_written
unfolding clap_on_literals
returns-clause-made_and_written c = refl

pub returns-clause-made_and_checked : goal.returns-clause-made_and_checked
unfolding clap_on_literals
returns-clause-made_and_checked c = refl

pub returns-clause-no_states : goal.returns-clause-no_states
unfolding clap_on_literals
returns-clause-no_states c = refl

pub returns-clause-many_states : goal.returns-clause-many_states
unfolding clap_on_literals
returns-clause-many_states c = refl

pub returns-clause-traced_alone : goal.returns-clause-traced_alone
unfolding clap_on_literals
returns-clause-traced_alone c = refl

pub returns-clause-traced_and_checked : goal.returns-clause-traced_and_checked
unfolding clap_on_literals
returns-clause-traced_and_checked c = refl

pub returns-clause-traced_and_written : goal.returns-clause-traced_and_written
unfolding clap_on_literals
returns-clause-traced_and_written c = refl

pub returns-clause-traced_formula : goal.returns-clause-traced_formula
unfolding clap_on_literals
returns-clause-traced_formula c = refl

pub returns-clause-traced_and_made : goal.returns-clause-traced_and_made
unfolding clap_on_literals
returns-clause-traced_and_made c = refl

pub returns-clause-visited_and_checked : goal.returns-clause-visited_and_checked
unfolding clap_on_literals
returns-clause-visited_and_checked c = refl

pub returns-clause-visited_and_written : goal.returns-clause-visited_and_written
unfolding clap_on_literals
returns-clause-visited_and_written c = refl

pub returns-clause-visited_and_traced : goal.returns-clause-visited_and_traced
unfolding clap_on_literals
returns-clause-visited_and_traced c = refl

pub returns-clause-visited_and_made : goal.returns-clause-visited_and_made
unfolding clap_on_literals
returns-clause-visited_and_made c = refl

pub returns-clause-visited_and_named : goal.returns-clause-visited_and_named
unfolding clap_on_literals
returns-clause-visited_and_named c = refl
