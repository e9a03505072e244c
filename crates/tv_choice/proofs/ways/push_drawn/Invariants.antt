use Rattle.std.proofs.Common.{All, [], map}
use Rattle.tv_choice.specs.Asked.{query_of}
use Rattle.tv_choice.specs.Targets.{draw_choices}
use Rattle.tv_choice.specs.Ways.{lists_of, IsWay}
use Rattle.tv_choice.proofs.DrawLemmas.{AreLeft, IsFirstLeft}
use Rattle.tv_choice.proofs.ways.push_drawn.Given as goal

abbrev pub invariant-choices : goal.invariant-choices
invariant-choices l =
    All (IsWay l.question.columns (query_of l.question) []) l.ways.items
    × AreLeft l.question.columns l.entry.case.now.draws l.rows (lists_of l.initial.ways.items) (lists_of l.ways.items) (map (λ x. x.items) l.draws-iterator.rest.items)
    × IsFirstLeft l.question.columns l.rows (draw_choices l.entry.case.now.draws l.question.columns l.rows) (map (λ x. x.items) l.draws-iterator.rest.items)
