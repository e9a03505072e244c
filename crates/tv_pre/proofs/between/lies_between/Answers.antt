use Rattle.std.proofs.Common.{◌∙◌, ◌≡◌, ◌∷◌, [], ap, refl, sym, subst, All}
use Rattle.std.proofs.lemmas.List.Elements.{All-nil, All-cons}
use Rattle.tv_region.specs.Regions.{IsRegion}
use Rattle.tv_cases.specs.Systems.{cases_of}
use Rattle.tv_cover.specs.Targets.{lists_of, AreEven}
use Rattle.tv_cover.specs.Covering.{IsCoverFault}
use Rattle.tv_choice.specs.Leading.{piece_rows}
use Rattle.tv_pre.specs.Parts.{joined_pieces}
use Rattle.tv_pre.specs.Questions.{lies}
use Rattle.tv_pre.specs.Starting.{CoversOrLeaves}
use Rattle.tv_pre.proofs.BetweenLemmas.{piece_between, piece_outside}
use Rattle.tv_pre.proofs.PieceLemmas.{joined_over}
use Rattle.tv_pre.proofs.StepLemmas.{lists_even}
use Rattle.tv_pre.proofs.RefusalLemmas.{refusal_of}
use Rattle.tv_pre.proofs.between.lies_between.Goals as goal

pub cover_at-requires-clause-same : goal.cover_at-requires-clause-same
cover_at-requires-clause-same c =
    let about = cases_of c.args.setting.now.about.now in
    let first = c.args.first.now in
    let second = c.args.second.now in
    let e = ap lists_of c.deref.ensures.value ∙ c.in_ok-targets.ensures.targets in
    let P = IsRegion about.variables about.locations in
    subst (All (AreEven about.variables)) (sym e) (lists_even about.variables about.locations c.args.piece.now.location (joined_pieces (first ∷ second ∷ [])) (joined_over about (first ∷ second ∷ []) (All-cons P first (second ∷ []) c.requires.first (All-cons P second [] c.requires.second (All-nil P)))))

pub returns-in-Err-clause-refusals : goal.returns-in-Err-clause-refusals
returns-in-Err-clause-refusals c =
    let about = cases_of c.args.setting.now.about.now in
    let budget = c.args.setting.now.budget.now in
    let piece = c.args.piece.now in
    let e = ap lists_of c.deref.ensures.value ∙ c.in_ok-targets.ensures.targets in
    let a = lies piece (joined_pieces (c.args.first.now ∷ c.args.second.now ∷ [])) in
    refusal_of about budget (λ b. b ≡ a) a c.in-Err.fault refl
    (subst (λ ls. IsCoverFault about.variables ls (piece_rows piece) budget.pivots budget.splits c.in-Err.fault) e c.in-Err.ensures.refusals)

pub returns-in-Ok-Hole-clause-others : goal.returns-in-Ok-Hole-clause-others
returns-in-Ok-Hole-clause-others c = λ told.
    let about = cases_of c.args.setting.now.about.now in
    let piece = c.args.piece.now in
    let lists = lists_of c.deref.result.now in
    let e = ap lists_of c.deref.ensures.value ∙ c.in_ok-targets.ensures.targets in
    let left = subst (CoversOrLeaves about piece lists) c.in-Ok-Hole.field-0-is c.in-Ok-Hole.ensures.answers in
    piece_outside about c.args.first.now c.args.second.now piece lists e c.requires.piece _ left.hole

pub returns-clause-inside : goal.returns-clause-inside
returns-clause-inside c = λ told.
    let about = cases_of c.args.setting.now.about.now in
    let piece = c.args.piece.now in
    let lists = lists_of c.deref.result.now in
    let e = ap lists_of c.deref.ensures.value ∙ c.in_ok-targets.ensures.targets in
    let cover = subst (CoversOrLeaves about piece lists) c.in-Ok-Tree.field-0-is c.in-Ok-Tree.ensures.answers in
    piece_between about c.args.first.now c.args.second.now piece lists e cover.inside
