use Rattle.tv_reading.proofs.PassedLemmas.{passes_kept}
use Rattle.tv_reading.proofs.Told.{condition_found, condition_given, condition_refused, condition_fit_now, condition_depth_now}
use Rattle.tv_reading.proofs.RoomLemmas.{condition_room}
use Rattle.tv_reading.proofs.reading.Reading.condition.Goals as goal

pub returns-clause-found : goal.returns-clause-found
returns-clause-found c = condition_found c.args.self.now c.read_condition.new.self c.read_condition.result c.read_condition.ensures.reads

pub returns-clause-only : goal.returns-clause-only
returns-clause-only c = condition_given c.args.self.now c.read_condition.new.self c.read_condition.result c.read_condition.ensures.reads

pub returns-clause-refused : goal.returns-clause-refused
returns-clause-refused c = condition_refused c.args.self.now c.read_condition.new.self c.read_condition.result c.read_condition.ensures.reads

pub returns-clause-fits : goal.returns-clause-fits
returns-clause-fits c = condition_fit_now c.args.self.now c.read_condition.new.self c.read_condition.result c.read_condition.ensures.reads c.read_condition.ensures.passed

pub returns-clause-shallow : goal.returns-clause-shallow
returns-clause-shallow c = condition_depth_now c.args.self.now c.read_condition.new.self c.read_condition.result c.read_condition.ensures.reads

pub returns-clause-kept : goal.returns-clause-kept
returns-clause-kept c = passes_kept c.args.self.now c.read_condition.new.self c.read_condition.ensures.passed

pub returns-clause-room : goal.returns-clause-room
returns-clause-room c = condition_room c.args.self.now c.read_condition.new.self c.read_condition.result c.read_condition.ensures.reads c.read_condition.ensures.passed
