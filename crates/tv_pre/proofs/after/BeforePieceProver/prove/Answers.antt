use Rattle.std.proofs.Common.{◌≡◌, subst, sym, false}
use Rattle.tv_cases.specs.Systems.{cases_of}
use Rattle.tv_formula.specs.declared.tree.Path.TheVariants.{Every}
use Rattle.tv_region.specs.StepRegions.{InState}
use Rattle.tv_pre.specs.Pieces.{InPieces}
use Rattle.tv_pre.specs.Inclusions.{OfPiece, LeadsTo}
use Rattle.tv_pre.specs.Questions.{chooses, AsksSteps, AsksNext}
use Rattle.tv_pre.proofs.RefusalLemmas.{refusal_weaker}
use Rattle.tv_pre.proofs.after.BeforePieceProver.prove.Goals as goal

pub prove_steps-requires-clause-stays : goal.prove_steps-requires-clause-stays
prove_steps-requires-clause-stays c =
    let about = cases_of c.args.setting.now.about.now in
    let q = c.args.piece.now in
    subst (λ qs. OfPiece about q (LeadsTo about Every (InPieces qs))) (sym c.deref.ensures.value)
    (subst (λ path. OfPiece about q (LeadsTo about path (InState c.args.self.now.child.now))) c.in-Every.is c.requires.of.2)

pub returns-in-Err-clause-refusals : goal.returns-in-Err-clause-refusals
returns-in-Err-clause-refusals c =
    let about = cases_of c.args.setting.now.about.now in
    let q = c.args.piece.now in
    let into = c.args.self.now.child.now.pieces.items in
    refusal_weaker about c.args.setting.now.budget.now (AsksSteps about q c.deref.result.now) (AsksNext about c.args.self.now.path q into) c.in-Err.fault
    (λ a h. subst (λ path. AsksNext about path q into a) (sym c.in-Every.is) (subst (λ qs. AsksSteps about q qs a) c.deref.ensures.value h)) c.in-Err.ensures.refusals

pub returns-in-Err-prove_choice-clause-refusals : goal.returns-in-Err-prove_choice-clause-refusals
returns-in-Err-prove_choice-clause-refusals c =
    let about = cases_of c.args.setting.now.about.now in
    let q = c.args.piece.now in
    let into = c.args.self.now.child.now.pieces.items in
    refusal_weaker about c.args.setting.now.budget.now (λ a. a ≡ chooses q false into) (AsksNext about c.args.self.now.path q into) c.in-Err-prove_choice.fault
    (λ a h. subst (λ path. AsksNext about path q into a) (sym c.in-Any.is) h) c.in-Err-prove_choice.ensures.refusals
