use Rattle.tv_search.proofs.ToldLemmas.{shut_out}
use Rattle.tv_search.proofs.laws.shut_out_leaves_none.Goals as goal

pub returns : goal.returns
returns P c rest all about l s point left = shut_out rest all about l point s left
