use Rattle.tv_rank.specs.Questions.{ways_of}
use Rattle.tv_rank.specs.Spans.{Spans}
use Rattle.tv_rank.proofs.span.span_of.Given as goal

abbrev pub invariant-places : goal.invariant-places
invariant-places l = Spans (ways_of l.asked) l.place l.asked.locations l.span
