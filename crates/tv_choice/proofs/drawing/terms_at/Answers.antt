use Rattle.std.proofs.Common.{rules, ◌≤◌, arith}
use Rattle.tv_choice.proofs.TermLemmas.{terms_more, terms_all}
use Rattle.tv_choice.proofs.drawing.terms_at.Goals as goal

pub draws-preserved : goal.draws-preserved
draws-preserved c =
    terms_more c.args.columns c.args.draws c.args.rows.now c.args.values.now c.draws.draw c.draws.terms.items c.push_item.new.items.items c.in_ok-term_for.field-0 c.in_ok-push_item.ensures c.in_ok-term_for.ensures c.draws.invariant

pub returns : goal.returns
returns c = terms_all c.args.columns c.args.draws c.args.rows.now c.args.values.now c.draws.draw c.draws.terms.items (let over = c.draws-test.false in let inside : c.draws.draw ≤ c.args.draws = search rules in omega (arith, over, inside)) c.draws.invariant
