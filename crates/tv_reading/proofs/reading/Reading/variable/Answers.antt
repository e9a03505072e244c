use Rattle.tv_reading.proofs.PassedLemmas.{passes_kept}
use Rattle.tv_reading.proofs.Told.{name_fits}
use Rattle.tv_reading.proofs.RoomLemmas.{name_room}
use Rattle.tv_reading.proofs.reading.Reading.variable.Goals as goal

pub returns-clause-kept : goal.returns-clause-kept
returns-clause-kept c = passes_kept c.args.self.now c.read_name.new.self c.read_name.ensures.passed

pub returns-clause-fits : goal.returns-clause-fits
returns-clause-fits c = name_fits c.args.self.now c.read_name.new.self c.read_name.result c.read_name.ensures.reads c.read_name.ensures.passed

pub returns-clause-room : goal.returns-clause-room
returns-clause-room c = name_room c.args.self.now c.read_name.new.self c.read_name.result c.read_name.ensures.reads c.read_name.ensures.passed
