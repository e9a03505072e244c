use Rattle.std.proofs.Common.{map, ◌∙◌, ap, ◌++◌}
use Rattle.tv_choice.specs.Targets.{one_term}
use Rattle.tv_choice.proofs.DrawLemmas.{given_more}
use Rattle.tv_choice.proofs.drawing.terms_given.Goals as goal

pub rows-preserved : goal.rows-preserved
rows-preserved c = given_more c.args.columns c.args.rows.now c.rows.row-index c.row-item.result (map (λ x. x.items) c.rows.lists.items) (map (λ x. x.items) c.push_term.new.lists.items) _ c.rows-test.true c.row-item.is (c.in_ok-push_term.ensures ∙ ap (λ o. map (λ x. x.items) c.rows.lists.items ++ one_term o) c.in_ok-term_at.ensures) c.rows.invariant
