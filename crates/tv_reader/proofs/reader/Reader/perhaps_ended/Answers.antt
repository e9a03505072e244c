use Rattle.std.proofs.Common.{false, sym, ◌∙◌}
use Rattle.tv_reader.proofs.FitSteps.{in_both}
use Rattle.tv_reader.proofs.reader.Reader.perhaps_ended.Goals as goal

pub returns-clause-colon : goal.returns-clause-colon
returns-clause-colon c = in_both c.expect.result c.expect.new.self.behind_colon false c.args.self.now.behind_colon c.expect.ensures.colon (sym c.requires.behind) ∙ c.requires.behind
