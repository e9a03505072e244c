use Rattle.std.proofs.Common.{ap, sym, refl, ◌∙◌, List}
use Rattle.tv_cases.specs.Systems.{cases_of}
use Rattle.tv_cases.specs.LinearCases.{LinearCase}
use Rattle.tv_rank.specs.Ways.{case_at, rows_at}
use Rattle.ranks_tests.proofs.PointLemmas.{free_points}
use Rattle.ranks_tests.proofs.families.is_free.Goals as goal

pub returns-clause-points : goal.returns-clause-points
returns-clause-points c = λ none.
    free_points (cases_of c.args.about.now) c.args.known.now.pieces.items
    (ap (λ (cs : List LinearCase). (case_at cs 0).guards) (sym c.list-list.ensures.same) ∙ sym c.guards_of.ensures ∙ c.if-not-are_none.ensures refl)
    ((λ i. rows_at (sym c.deref.ensures.value i) ((ap (λ (cs : List LinearCase). (case_at cs 0).from) (sym c.list-list.ensures.same) ∙ sym c.start_of-start.ensures) i))
    ∙ sym c.known_at.ensures ∙ c.are_none-2.ensures none)
