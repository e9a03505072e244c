use Rattle.std.proofs.Common.{inl, sym, ◌∙◌, subst}
use Rattle.std.specs.Prelude.{MatchOption, ◌≡◌, Some}
use Rattle.tv_cases.specs.Systems.{cases_of}
use Rattle.tv_pre.specs.declared.fault.PreFault.TheVariants.{Memory}
use Rattle.tv_pre.specs.Finding.{first_of}
use Rattle.tv_pre.specs.Proving.{of_formula, ClaimHasRows, IsWideIn}
use Rattle.tv_pre.proofs.DecidingLemmas.{left_none, not_left}
use Rattle.tv_pre.proofs.LeftLemmas.{left_by, reported_gap}
use Rattle.tv_pre.proofs.deciding.left.Goals as goal

pub returns-in-Err : goal.returns-in-Err
returns-in-Err c = inl (of_formula Memory (λ last h. tt) (λ most first plain last is f parts e. tt))

pub returns-in-Ok-Some : goal.returns-in-Ok-Some
returns-in-Ok-Some c =
    let about = cases_of c.args.setting.now.about.now in
    let claim = c.args.claim.now in
    ((c.args.first, c.args.second, c.requires.left), subst (λ o. MatchOption o (ClaimHasRows about claim) (IsWideIn about claim)) c.in-Ok-Some.field-0-is c.in-Ok-Some.ensures)

pub returns-in-Some : goal.returns-in-Some
returns-in-Some c =
    let about = cases_of c.args.setting.now.about.now in
    let claim = c.args.claim.now in
    let rows = subst (λ o. MatchOption o (ClaimHasRows about claim) (IsWideIn about claim)) c.in-Ok-None.field-0-is c.in-Ok-None.ensures in
    let first : Some c.in-Some.gap ≡ first_of c.args.first c.args.second = sym c.in-Some.is ∙ c.first_gap.ensures in
    let starts = c.variables-variables.ensures.limits.starts in (
      reported_gap about claim c.args.first c.args.second c.in-Some.gap c.reported.result c.requires.left first c.reported.ensures,
      left_by about claim c.requires.variables starts rows c.args.first c.args.second c.in-Some.gap c.reported.result c.requires.left first c.reported.ensures,
    )

pub unreachable-requires : goal.unreachable-requires
unreachable-requires c =
    let about = cases_of c.args.setting.now.about.now in
    let claim = c.args.claim.now in
    let rows = subst (λ o. MatchOption o (ClaimHasRows about claim) (IsWideIn about claim)) c.in-Ok-None.field-0-is c.in-Ok-None.ensures in
    not_left about claim c.requires.variables c.requires.denies c.variables-variables.ensures.limits.starts rows.0 rows.1
    (left_none about claim c.args.first c.args.second (sym c.in-None.is ∙ c.first_gap.ensures) c.requires.left)
