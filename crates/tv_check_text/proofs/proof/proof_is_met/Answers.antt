use Rattle.std.proofs.Common.{sym, subst}
use Rattle.std.specs.Prelude.{Contains}
use Rattle.std.proofs.lemmas.List.Elements.{All-contains}
use Rattle.tv_cases.specs.LinearCases.{IsCase}
use Rattle.tv_cases.specs.Systems.{cases_of}
use Rattle.tv_cases.specs.Views.{case_view}
use Rattle.tv_cert.specs.declared.owes.Owes.TheVariants as owes
use Rattle.tv_cert.specs.OwesViews.{OwedIn, owed_by}
use Rattle.tv_check_text.specs.Checking.{ChecksProof}
use Rattle.tv_check_text.proofs.proof.proof_is_met.Goals as goal

pub step_is_covered-requires : goal.step_is_covered-requires
step_is_covered-requires c =
    let system = cases_of c.args.context.now.about.now in
    let case = case_view c.in-Some.case.now in
    let among : Contains system.cases case = subst (λ k. OwedIn system (owes.Cover c.in-Cover.piece k c.in-Cover.targets)) c.in-Some.is (subst (OwedIn system) c.in-Cover.is c.requires) in
    (All-contains (IsCase system.variables system.locations) system.cases case c.args.context.now.about.now.are_cases.cases among).few_draws

pub returns-in-None : goal.returns-in-None
returns-in-None c =
    let system = cases_of c.args.context.now.about.now in
    subst (λ o. ChecksProof (owed_by system o) c.args.cursor.now c.piece_is_covered.new.cursor c.piece_is_covered.result) (sym c.in-Cover.is)
    (subst (λ k. ChecksProof (owed_by system (owes.Cover c.in-Cover.piece k c.in-Cover.targets)) c.args.cursor.now c.piece_is_covered.new.cursor c.piece_is_covered.result) (sym c.in-None.is) c.piece_is_covered.ensures)

pub returns-in-Some : goal.returns-in-Some
returns-in-Some c =
    let system = cases_of c.args.context.now.about.now in
    subst (λ o. ChecksProof (owed_by system o) c.args.cursor.now c.step_is_covered.new.cursor c.step_is_covered.result) (sym c.in-Cover.is)
    (subst (λ k. ChecksProof (owed_by system (owes.Cover c.in-Cover.piece k c.in-Cover.targets)) c.args.cursor.now c.step_is_covered.new.cursor c.step_is_covered.result) (sym c.in-Some.is) c.step_is_covered.ensures)

pub returns-in-Choice : goal.returns-in-Choice
returns-in-Choice c =
    let system = cases_of c.args.context.now.about.now in
    subst (λ o. ChecksProof (owed_by system o) c.args.cursor.now c.is_chosen.new.cursor c.is_chosen.result) (sym c.in-Choice.is) c.is_chosen.ensures
