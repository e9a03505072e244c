use Rattle.std.proofs.Common.{◌≡◌, refl, subst, arith}
use Rattle.tv_cases.specs.Systems.{cases_of}
use Rattle.tv_choice.specs.Choosing.{query, IsChosen, HasShape, IsShallow, IsShortChosen}
use Rattle.tv_choice.specs.Leading.{piece_rows}
use Rattle.std.specs.Prelude.{length}
use Rattle.tv_pre.specs.Questions.{chooses}
use Rattle.tv_pre.proofs.ChoiceLemmas.{shows_choice, choice_whole}
use Rattle.tv_pre.proofs.RefusalLemmas.{refusal_of}
use Rattle.tv_pre.proofs.inside.choice_inside.Goals as goal

pub unreachable-requires : goal.unreachable-requires
unreachable-requires c =
    let about = cases_of c.args.setting.now.about.now in
    let piece = c.args.piece.now in
    let q = query c.args.setting.now.about.now piece c.args.into.now c.args.stop in
    let xs = c.in-Ok-Hole.field-0-0.items in
    let hole = subst (IsChosen about.variables q (piece_rows piece)) c.in-Ok-Hole.field-0-is c.in-Ok-Hole.ensures.answers in
    choice_whole about piece c.args.stop c.args.into.now.pieces.items xs (c.requires.leads xs hole.0) hole.1

pub returns-in-Err-clause-refusals : goal.returns-in-Err-clause-refusals
returns-in-Err-clause-refusals c =
    let into = c.args.into.now.pieces.items in
    let a = chooses c.args.piece.now c.args.stop into in
    refusal_of (cases_of c.args.setting.now.about.now) c.args.setting.now.budget.now (λ b. b ≡ a) a c.in-Err.fault refl c.in-Err.ensures.refusals

pub returns-in-Ok-Tree-clause-shows : goal.returns-in-Ok-Tree-clause-shows
returns-in-Ok-Tree-clause-shows c =
    let about = cases_of c.args.setting.now.about.now in
    let piece = c.args.piece.now in
    let q = query c.args.setting.now.about.now piece c.args.into.now c.args.stop in
    let is = c.in-Ok-Tree.field-0-is in
    let g = c.in-Ok-Tree.ensures in
    shows_choice about piece c.args.stop c.args.into.now.pieces.items c.in-Ok-Tree.choice
    (subst (IsChosen about.variables q (piece_rows piece)) is g.answers)
    (subst (HasShape about.variables q (length (piece_rows piece))) is g.shape)
    (subst IsShortChosen is g.short)
    (let s = subst (IsShallow c.args.setting.now.budget.now.splits) is g.shallow in let bounded = c.requires.splits in omega (arith, s, bounded))
