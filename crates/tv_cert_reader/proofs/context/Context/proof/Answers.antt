use Rattle.std.proofs.Common.{length, refl, sym, ap, ◌∙◌, subst}
use Rattle.std.specs.Prelude.{Contains}
use Rattle.std.proofs.lemmas.List.{length-map}
use Rattle.std.proofs.lemmas.List.Elements.{All-contains}
use Rattle.tv_linear.specs.Known.{given, as_given}
use Rattle.tv_cases.specs.LinearCases.{IsCase}
use Rattle.tv_cases.specs.Systems.{cases_of}
use Rattle.tv_cases.specs.Views.{case_view}
use Rattle.tv_cert.specs.declared.owes.Owes.TheVariants as owes
use Rattle.tv_cert.specs.Obligations.{a_cover}
use Rattle.tv_cert.specs.OwesViews.{OwedIn, owed_by}
use Rattle.tv_cert.specs.Pieces.{rows_of}
use Rattle.tv_cert.specs.TargetViews.{owed_at}
use Rattle.tv_cert.proofs.TargetLemmas.{counts_as}
use Rattle.tv_cert_reader.specs.Proofs.{ReadsProof}
use Rattle.tv_cert_reader.proofs.context.Context.proof.Goals as goal

pub step-requires : goal.step-requires
step-requires c =
    let system = cases_of c.args.self.now.about.now in
    let case = case_view c.in-Some.case.now in
    let among : Contains system.cases case = subst (λ k. OwedIn system (owes.Cover c.in-Cover.piece k c.in-Cover.targets)) c.in-Some.is (subst (OwedIn system) c.in-Cover.is c.requires) in
    (All-contains (IsCase system.variables system.locations) system.cases case c.args.self.now.about.now.are_cases.cases among).few_draws

pub returns-in-None : goal.returns-in-None
returns-in-None c =
    let system = cases_of c.args.self.now.about.now in
    let p = c.in-Cover.piece.now in
    let ts = c.in-Cover.targets in
    let owed = owed_at given ts in
    subst (λ o. ReadsProof (owed_by system o) c.args.cursor.now c.cover.new.cursor c.cover.result) (sym c.in-Cover.is)
    (subst (λ k. ReadsProof (owed_by system (owes.Cover c.in-Cover.piece k ts)) c.args.cursor.now c.cover.new.cursor c.cover.result) (sym c.in-None.is)
    (subst (λ n. ReadsProof (a_cover n (as_given (rows_of p)) owed) c.args.cursor.now c.cover.new.cursor c.cover.result) c.variables-columns.ensures.same
    (c.cover.ensures (as_given (rows_of p)) owed (length-map (rows_of p) given ∙ sym (c.len-known.ensures.counted ∙ ap length c.rows.ensures)) (λ i x y. counts_as given ts owed refl x y i))))

pub returns-in-Some : goal.returns-in-Some
returns-in-Some c =
    let system = cases_of c.args.self.now.about.now in
    subst (λ o. ReadsProof (owed_by system o) c.args.cursor.now c.step.new.cursor c.step.result) (sym c.in-Cover.is)
    (subst (λ k. ReadsProof (owed_by system (owes.Cover c.in-Cover.piece k c.in-Cover.targets)) c.args.cursor.now c.step.new.cursor c.step.result) (sym c.in-Some.is) c.step.ensures)

pub returns-in-Choice : goal.returns-in-Choice
returns-in-Choice c =
    subst (λ o. ReadsProof (owed_by (cases_of c.args.self.now.about.now) o) c.args.cursor.now c.choice.new.cursor c.choice.result) (sym c.in-Choice.is) c.choice.ensures
