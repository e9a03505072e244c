use Rattle.std.proofs.Common.{◌+◌, ◌<◌, length, get_or, pos, sym, subst, arith}
use Rattle.std.specs.Int.{w128}
use Rattle.std.proofs.lemmas.Int.{to_z-of_z}
use Rattle.tv_simplex.proofs.AnswerLemmas.{short_fits}
use Rattle.tv_choice.specs.ChoicePaths.{GivesAlone, tight}
use Rattle.std.specs.Option.{IfSome}
use Rattle.tv_choice.proofs.TermLemmas.{number_for}
use Rattle.tv_choice.proofs.drawing.term_for.Goals as goal

pub returns-in-Some : goal.returns-in-Some
returns-in-Some c = tight c.row-item.result c.in-Some.term (c.rows.row-index, c.rows-test.true, sym c.row-item.is) (subst (λ o. IfSome o (GivesAlone c.args.columns c.args.draws c.row-item.result c.args.draw)) c.in-Some.is c.in_ok-term.ensures) (c.is_tight.ensures c.if-is_tight.true)

pub returns : goal.returns
returns c =
    let inside : c.args.columns + c.args.draw < length c.args.values.now = (let a = c.requires.inside in let b = c.requires.size in omega (arith, a, b)) in
    let v = get_or c.args.values.now (c.args.columns + c.args.draw) (pos 0) in
    number_for c.args.columns c.args.draws c.args.rows.now c.args.values.now c.args.draw _ c.narrow_number.result (to_z-of_z w128 v (short_fits v (c.requires.short (c.args.columns + c.args.draw) inside))) c.narrow_number.ensures
