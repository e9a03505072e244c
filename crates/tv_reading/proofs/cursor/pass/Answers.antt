use Rattle.std.proofs.Common.{sym}
use Rattle.tv_reading.specs.Views.{stand}
use Rattle.tv_reading.proofs.MarkLemmas.{left_counted, passed_counted, same_left}
use Rattle.tv_reading.proofs.cursor.pass.Goals as goal

pub returns-in_ok-count-in-Some-clause-rest : goal.returns-in_ok-count-in-Some-clause-rest
returns-in_ok-count-in-Some-clause-rest c = left_counted (stand c.args.source.now c.args.cursor.now) c.in-Some.token c.count.new.names c.count.new.draws c.in_ok-count-in-Some.ensures.names c.in_ok-count-in-Some.ensures.draws (sym c.in-Some.ensures)

pub returns-in_ok-count-in-Some-clause-passed : goal.returns-in_ok-count-in-Some-clause-passed
returns-in_ok-count-in-Some-clause-passed c = λ from h. passed_counted from (stand c.args.source.now c.args.cursor.now) c.in-Some.token c.count.new.names c.count.new.draws c.in_ok-count-in-Some.ensures.names c.in_ok-count-in-Some.ensures.draws (sym c.in-Some.ensures) h

pub returns-in-None-clause-rest : goal.returns-in-None-clause-rest
returns-in-None-clause-rest c = same_left (stand c.args.source.now c.args.cursor.now) (sym c.in-None.ensures)
