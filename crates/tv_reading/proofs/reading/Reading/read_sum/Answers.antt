use Rattle.std.proofs.Common.{true, sym, ap, ◌∙◌}
use Rattle.tv_program.specs.Views.{expression}
use Rattle.tv_reading.specs.Views.{stand}
use Rattle.tv_reading.proofs.ReadingLemmas.{passed_by, told, read_sum, same_sum, unless_along}
use Rattle.tv_reading.proofs.KindsOfFaults.{sums_kinded}
use Rattle.tv_reading.proofs.StartLemmas.{no_start}
use Rattle.tv_reading.specs.SumGrammar.{every, sum_at}
use Rattle.tv_reading.proofs.reading.Reading.read_sum.Goals as goal

pub fault-requires : goal.fault-requires
fault-requires c = no_start (sum_at every c.sum_levels-levels.result true) (sums_kinded c.sum_levels-levels.result true) _ (stand c.self.inside.source c.sum.new.cursor) c.in-Err.reason c.in-Err.ensures.reads

pub returns-in-Ok-clause-reads : goal.returns-in-Ok-clause-reads
returns-in-Ok-clause-reads c = ap read_sum (sym c.self.view_is) ∙ sym (same_sum (stand c.self.inside.source c.self.inside.cursor) c.sum_levels-levels.result c.sum_levels-levels.ensures) ∙ c.in-Ok.ensures.reads

pub returns-in-Ok-clause-passed : goal.returns-in-Ok-clause-passed
returns-in-Ok-clause-passed c = passed_by c.self.inside.source c.self.inside.cursor c.sum.new.cursor c.args.self.now c.self.view_is c.sum.ensures.passed

pub returns-in-Err-clause-reads : goal.returns-in-Err-clause-reads
returns-in-Err-clause-reads c = told expression read_sum (stand c.self.inside.source c.self.inside.cursor) c.args.self.now (stand c.self.inside.source c.sum.new.cursor) c.self.view_is c.in-Err.reason c.fault.result (unless_along c.in-Err.reason _ _ _ (same_sum (stand c.self.inside.source c.self.inside.cursor) c.sum_levels-levels.result c.sum_levels-levels.ensures) c.in-Err.ensures.reads) c.fault.ensures

pub returns-in-Err-clause-passed : goal.returns-in-Err-clause-passed
returns-in-Err-clause-passed c = passed_by c.self.inside.source c.self.inside.cursor c.sum.new.cursor c.args.self.now c.self.view_is c.sum.ensures.passed
