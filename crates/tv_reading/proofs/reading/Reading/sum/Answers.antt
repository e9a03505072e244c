use Rattle.tv_reading.proofs.PassedLemmas.{passes_kept}
use Rattle.tv_reading.proofs.Told.{sum_found, sum_given, sum_refused, sum_fit_now, sum_depth}
use Rattle.tv_reading.proofs.RoomLemmas.{sum_room}
use Rattle.tv_reading.proofs.reading.Reading.sum.Goals as goal

pub returns-clause-found : goal.returns-clause-found
returns-clause-found c = sum_found c.args.self.now c.read_sum.new.self c.read_sum.result c.read_sum.ensures.reads

pub returns-clause-only : goal.returns-clause-only
returns-clause-only c = sum_given c.args.self.now c.read_sum.new.self c.read_sum.result c.read_sum.ensures.reads

pub returns-clause-refused : goal.returns-clause-refused
returns-clause-refused c = sum_refused c.args.self.now c.read_sum.new.self c.read_sum.result c.read_sum.ensures.reads

pub returns-clause-fits : goal.returns-clause-fits
returns-clause-fits c = sum_fit_now c.args.self.now c.read_sum.new.self c.read_sum.result c.read_sum.ensures.reads c.read_sum.ensures.passed

pub returns-clause-shallow : goal.returns-clause-shallow
returns-clause-shallow c = sum_depth c.args.self.now c.read_sum.new.self c.read_sum.result c.read_sum.ensures.reads

pub returns-clause-kept : goal.returns-clause-kept
returns-clause-kept c = passes_kept c.args.self.now c.read_sum.new.self c.read_sum.ensures.passed

pub returns-clause-room : goal.returns-clause-room
returns-clause-room c = sum_room c.args.self.now c.read_sum.new.self c.read_sum.result c.read_sum.ensures.reads c.read_sum.ensures.passed
