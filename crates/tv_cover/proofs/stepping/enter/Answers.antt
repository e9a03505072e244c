use Rattle.std.proofs.Common.{subst, sym}
use Rattle.tv_linear.specs.Arithmetic.{denial}
use Rattle.tv_cover.specs.Targets.{lists_of, IsNarrowRow}
use Rattle.tv_cover.proofs.StepLemmas.{enters_at, entered_row, row_step}
use Rattle.tv_cover.proofs.stepping.enter.Goals as goal

pub halves_at_row-requires : goal.halves_at_row-requires
halves_at_row-requires c =
    let n = c.args.question.now.columns in
    let targets = c.args.question.now.targets.now in
    let kept = c.requires.target.0 in
    let e = enters_at n (lists_of targets) kept c.args.number c.args.places.now c.requires.target.1 in
    record { narrow = subst (λ r. IsNarrowRow (denial r)) (sym (entered_row targets n kept c.args.number c.args.places.now c.index-question-number.result c.index.result.now e c.index.ensures)) e.narrow }

pub returns-in-Ok : goal.returns-in-Ok
returns-in-Ok c = λ kept h.
    let n = c.args.question.now.columns in
    let targets = c.args.question.now.targets.now in
    let e = enters_at n (lists_of targets) kept c.args.number c.args.places.now h in
    row_step n (lists_of targets) kept c.args.number c.args.places.now c.index.result.now c.in-Ok.halves c.requires.same h e
    (entered_row targets n kept c.args.number c.args.places.now c.index-question-number.result c.index.result.now e c.index.ensures) c.in-Ok.ensures
