use Rattle.std.proofs.Common.{sym, ap, ◌∙◌}
use Rattle.tv_program.specs.Views.{condition}
use Rattle.tv_reading.specs.Views.{stand}
use Rattle.tv_reading.proofs.ReadingLemmas.{passed_by, told, read_condition, same_condition, unless_along}
use Rattle.tv_reading.proofs.KindsOfFaults.{conditions_kinded}
use Rattle.tv_reading.proofs.StartLemmas.{no_start}
use Rattle.tv_reading.specs.SumGrammar.{every}
use Rattle.tv_reading.specs.ConditionGrammar.{condition_at}
use Rattle.tv_reading.proofs.reading.Reading.read_condition.Goals as goal

pub fault-requires : goal.fault-requires
fault-requires c = no_start (condition_at every c.condition_levels-levels.result) (conditions_kinded c.condition_levels-levels.result) _ (stand c.self.inside.source c.condition.new.cursor) c.in-Err.reason c.in-Err.ensures.reads

pub returns-in-Ok-clause-reads : goal.returns-in-Ok-clause-reads
returns-in-Ok-clause-reads c = ap read_condition (sym c.self.view_is) ∙ sym (same_condition (stand c.self.inside.source c.self.inside.cursor) c.condition_levels-levels.result c.condition_levels-levels.ensures) ∙ c.in-Ok.ensures.reads

pub returns-in-Ok-clause-passed : goal.returns-in-Ok-clause-passed
returns-in-Ok-clause-passed c = passed_by c.self.inside.source c.self.inside.cursor c.condition.new.cursor c.args.self.now c.self.view_is c.condition.ensures.passed

pub returns-in-Err-clause-reads : goal.returns-in-Err-clause-reads
returns-in-Err-clause-reads c = told condition read_condition (stand c.self.inside.source c.self.inside.cursor) c.args.self.now (stand c.self.inside.source c.condition.new.cursor) c.self.view_is c.in-Err.reason c.fault.result (unless_along c.in-Err.reason _ _ _ (same_condition (stand c.self.inside.source c.self.inside.cursor) c.condition_levels-levels.result c.condition_levels-levels.ensures) c.in-Err.ensures.reads) c.fault.ensures

pub returns-in-Err-clause-passed : goal.returns-in-Err-clause-passed
returns-in-Err-clause-passed c = passed_by c.self.inside.source c.self.inside.cursor c.condition.new.cursor c.args.self.now c.self.view_is c.condition.ensures.passed
