use Rattle.tv_top.specs.declared.task.Question.{Question}
use Rattle.tv_top.specs.declared.task.Question.TheVariants as questions
use Rattle.tv_top.specs.declared.limits.Limits.{Limits as Given}
use Rattle.tv_top.specs.declared.task.Task.{Task as Asked}
use Rattle.tv_top.specs.declared.wanted.Wanted.{Wanted as ToWrite}
use Rattle.tv_top.specs.declared.wanted.Wanted.TheVariants as written
use Rattle.tv_top.specs.Tasks.{Query, safety, termination, ctl, finitely, Limits, Wanted, nothing_more, its_text, its_counts, its_trace, Task}

abbrev pub query_of : Question → Query
query_of (questions.Safety label) = safety label.now
query_of questions.Termination = termination
query_of (questions.Ctl text) = ctl text.now
query_of (questions.Finitely text) = finitely text.now

abbrev pub limits_of : Given → Limits
limits_of l = record { pivots = l.pivots; splits = l.splits; disjuncts = l.disjuncts }

abbrev pub wanted_view : ToWrite → Wanted
wanted_view written.Nothing = nothing_more
wanted_view written.Certificate = its_text
wanted_view (written.Counts loops) = its_counts loops.count
wanted_view (written.Trace count) = its_trace count

abbrev pub task_view : Asked → Task
task_view t = record { query = query_of t.question; checks = t.checks; wanted = wanted_view t.wanted; limits = limits_of t.limits }
