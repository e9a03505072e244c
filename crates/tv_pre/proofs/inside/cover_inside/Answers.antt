use Rattle.std.proofs.Common.{◌∙◌, ◌≡◌, ap, refl, sym, subst, All}
use Rattle.std.specs.Prelude.{Contains}
use Rattle.tv_cases.specs.Systems.{cases_of}
use Rattle.tv_cover.specs.Targets.{lists_of, AreEven}
use Rattle.tv_cover.specs.Covering.{IsCoverFault}
use Rattle.tv_choice.specs.Leading.{piece_rows}
use Rattle.tv_pre.specs.Questions.{lies}
use Rattle.tv_pre.proofs.StepLemmas.{lists_even, in_lists}
use Rattle.tv_pre.proofs.RefusalLemmas.{refusal_of}
use Rattle.tv_pre.proofs.inside.cover_inside.Goals as goal

pub cover_by-requires-clause-same : goal.cover_by-requires-clause-same
cover_by-requires-clause-same c =
    let about = cases_of c.args.setting.now.about.now in
    let e = ap lists_of c.deref.ensures.value ∙ c.in_ok-targets.ensures.targets in
    subst (All (AreEven about.variables)) (sym e) (lists_even about.variables about.locations c.args.piece.now.location c.args.into.now c.requires.into)

pub cover_by-requires-clause-inside : goal.cover_by-requires-clause-inside
cover_by-requires-clause-inside c xs point =
    let e = ap lists_of c.deref.ensures.value ∙ c.in_ok-targets.ensures.targets in
    let i = in_lists c.args.piece.now.location xs c.args.into.now (c.requires.inside xs point) in
    record { rows = i.rows; target = subst (λ ls. Contains ls i.rows) (sym e) i.target; met = i.met }

pub returns-in-Err-clause-refusals : goal.returns-in-Err-clause-refusals
returns-in-Err-clause-refusals c =
    let about = cases_of c.args.setting.now.about.now in
    let budget = c.args.setting.now.budget.now in
    let piece = c.args.piece.now in
    let e = ap lists_of c.deref.ensures.value ∙ c.in_ok-targets.ensures.targets in
    let a = lies piece c.args.into.now in
    refusal_of about budget (λ b. b ≡ a) a c.in-Err.fault refl
    (subst (λ ls. IsCoverFault about.variables ls (piece_rows piece) budget.pivots budget.splits c.in-Err.fault) e c.in-Err.ensures.refusals)

pub returns-clause-shows : goal.returns-clause-shows
returns-clause-shows c = c.in-Ok.ensures.shows c.args.into.now (ap lists_of c.deref.ensures.value ∙ c.in_ok-targets.ensures.targets)
