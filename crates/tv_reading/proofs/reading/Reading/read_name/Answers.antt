use Rattle.tv_reading.specs.Marks.{left}
use Rattle.tv_reading.specs.Views.{stand}
use Rattle.tv_reading.specs.Readings.{one_name}
use Rattle.tv_reading.proofs.ReadingLemmas.{passed_by, told}
use Rattle.tv_reading.proofs.RoomLemmas.{names_kinded}
use Rattle.tv_reading.proofs.StartLemmas.{no_start}
use Rattle.tv_reading.proofs.reading.Reading.read_name.Goals as goal

pub fault-requires : goal.fault-requires
fault-requires c = no_start one_name names_kinded _ (stand c.self.inside.source c.name.new.cursor) c.in-Err.reason c.in-Err.ensures.reads

pub returns-in-Ok-clause-passed : goal.returns-in-Ok-clause-passed
returns-in-Ok-clause-passed c = passed_by c.self.inside.source c.self.inside.cursor c.name.new.cursor c.args.self.now c.self.view_is c.name.ensures.passed

pub returns-in-Err-clause-reads : goal.returns-in-Err-clause-reads
returns-in-Err-clause-reads c = told (λ v. v) (λ s. one_name.read (left s)) (stand c.self.inside.source c.self.inside.cursor) c.args.self.now (stand c.self.inside.source c.name.new.cursor) c.self.view_is c.in-Err.reason c.fault.result c.in-Err.ensures.reads c.fault.ensures

pub returns-in-Err-clause-passed : goal.returns-in-Err-clause-passed
returns-in-Err-clause-passed c = passed_by c.self.inside.source c.self.inside.cursor c.name.new.cursor c.args.self.now c.self.view_is c.name.ensures.passed
