use Rattle.std.proofs.Common.{sym, ◌∙◌}
use Rattle.tv_language.proofs.FrontLemmas.{position-none}
use Rattle.tv_language.proofs.front.place_of.Goals as goal

pub returns-then-reach-eq0-clause-exact : goal.returns-then-reach-eq0-clause-exact
returns-then-reach-eq0-clause-exact c = sym (position-none c.args.close c.args.bytes.now (sym c.requires ∙ c.if-reach-eq0.true))
