use Rattle.std.proofs.Common.{◌∙◌, refl, sym, ap, subst, All}
use Rattle.tv_cases.specs.Systems.{cases_of}
use Rattle.tv_cover.specs.Covering.{IsCoverFault}
use Rattle.tv_cover.specs.Targets.{lists_of, AreEven}
use Rattle.tv_region.specs.Regions.{lists_at}
use Rattle.tv_choice.specs.Leading.{piece_rows}
use Rattle.tv_linear.specs.declared.region.Piece.{Piece}
use Rattle.tv_pre.specs.Questions.{lies}
use Rattle.tv_pre.specs.Starting.{AsksStart}
use Rattle.tv_pre.proofs.RefusalLemmas.{refusal_of}
use Rattle.tv_pre.proofs.StartLemmas.{start_answer}
use Rattle.tv_pre.proofs.StepLemmas.{lists_even}
use Rattle.tv_pre.proofs.starting.start_covered.Goals as goal

pub cover_at-requires-clause-same : goal.cover_at-requires-clause-same
cover_at-requires-clause-same c =
    let about = cases_of c.args.setting.now.about.now in
    let e = ap lists_of c.deref-2.ensures.value ∙ c.in_ok-targets.ensures.targets ∙ ap (λ qs. lists_at c.start.result qs) c.deref.ensures.value in
    subst (All (AreEven about.variables)) (sym e) (lists_even about.variables about.locations c.start.result c.args.region.now.pieces.items c.requires.over.pieces)

pub returns-in-Err-clause-refusals : goal.returns-in-Err-clause-refusals
returns-in-Err-clause-refusals c =
    let about = cases_of c.args.setting.now.about.now in
    let budget = c.args.setting.now.budget.now in
    let into = c.args.region.now.pieces.items in
    let q : Piece = record { location = c.start.result; poly = record { columns = c.variables.result; rows = c.new.result } } in
    let e = ap lists_of c.deref-2.ensures.value ∙ c.in_ok-targets.ensures.targets ∙ ap (λ qs. lists_at c.start.result qs) c.deref.ensures.value in
    refusal_of about budget (AsksStart about into) (lies q into) c.in-Err.fault
    (q, record { place = c.start.ensures.same; bare = c.new.ensures.items }, refl)
    (subst (λ ls. IsCoverFault about.variables ls (piece_rows q) budget.pivots budget.splits c.in-Err.fault) e c.in-Err.ensures.refusals)

pub returns-clause-answer : goal.returns-clause-answer
returns-clause-answer c =
    let about = cases_of c.args.setting.now.about.now in
    let into = c.args.region.now.pieces.items in
    let q : Piece = record { location = c.start.result; poly = record { columns = c.variables.result; rows = c.new.result } } in
    let e = ap lists_of c.deref-2.ensures.value ∙ c.in_ok-targets.ensures.targets ∙ ap (λ qs. lists_at c.start.result qs) c.deref.ensures.value in
    start_answer about q into (lists_of c.deref-2.result.now) c.in-Ok.covered (record { place = c.start.ensures.same; bare = c.new.ensures.items }) e c.in-Ok.ensures.answers
