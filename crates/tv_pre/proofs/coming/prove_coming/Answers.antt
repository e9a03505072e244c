use Rattle.std.proofs.Common.{◌≡◌, inl, inr, [], ◌∷◌, false, subst, sym}
use Rattle.tv_cases.specs.LinearCases.{CaseSteps}
use Rattle.tv_cases.specs.Systems.{cases_of}
use Rattle.tv_cert.specs.declared.node.Kind.TheVariants as kind
use Rattle.tv_cert.specs.declared.node.Proof.TheVariants.{Chosen}
use Rattle.tv_cert.specs.Claims.{about_with}
use Rattle.tv_cert.specs.Obligations.{steps_of, step_fall, choice_of, choice_into, choice_fall}
use Rattle.tv_cert.specs.Targets.{owed_nothing}
use Rattle.tv_formula.specs.declared.tree.Path.TheVariants.{Every}
use Rattle.tv_known.specs.Rounds.{GoesInto}
use Rattle.tv_region.specs.StepRegions.{InState}
use Rattle.tv_pre.specs.Growing.{come_of, AsksCome}
use Rattle.tv_pre.specs.Inclusions.{OfPiece, LeadsTo}
use Rattle.tv_pre.specs.Offers.{Adds}
use Rattle.tv_pre.specs.Pieces.{InPieces}
use Rattle.tv_pre.specs.Questions.{chooses, AsksSteps}
use Rattle.tv_pre.specs.Ranked.{IsLayered}
use Rattle.tv_pre.proofs.AddLemmas.{adds_then, adds_one}
use Rattle.tv_pre.proofs.RefusalLemmas.{refusal_weaker}
use Rattle.tv_pre.proofs.coming.prove_coming.Goals as goal

pub successor-requires-clause-goes : goal.successor-requires-clause-goes
successor-requires-clause-goes c xs w =
    let about = cases_of c.args.setting.now.about.now in
    (subst (λ path. OfPiece about c.args.piece.now (GoesInto (CaseSteps about) path (InState c.args.round.now.earlier.now))) c.in-Every.is c.requires.goes xs w).0

pub returns-in-Err-clause-refusals : goal.returns-in-Err-clause-refusals
returns-in-Err-clause-refusals c =
    let about = cases_of c.args.setting.now.about.now in
    let q = c.args.piece.now in
    let round = c.args.round.now in
    let into = round.earlier.now.pieces.items in
    refusal_weaker about c.args.setting.now.budget.now (λ a. a ≡ chooses q false round.anywhere.now.pieces.items) (AsksCome about round.path q into) c.in-Err.fault
    (λ a e. subst (λ path. AsksCome about path q into a) (sym c.in-Every.is) (inl (round.anywhere.now, c.requires.anywhere, e))) c.in-Err.ensures.refusals

pub prove_falling_steps-requires-clause-stays : goal.prove_falling_steps-requires-clause-stays
prove_falling_steps-requires-clause-stays c =
    let about = cases_of c.args.setting.now.about.now in
    let q = c.args.piece.now in
    subst (λ qs. OfPiece about q (LeadsTo about Every (InPieces qs))) (sym c.deref.ensures.value)
    (λ xs w. (subst (λ path. OfPiece about q (GoesInto (CaseSteps about) path (InState c.args.round.now.earlier.now))) c.in-Every.is c.requires.goes xs w).1)

pub returns-in-Err-prove_falling_steps-clause-refusals : goal.returns-in-Err-prove_falling_steps-clause-refusals
returns-in-Err-prove_falling_steps-clause-refusals c =
    let about = cases_of c.args.setting.now.about.now in
    let q = c.args.piece.now in
    let round = c.args.round.now in
    let into = round.earlier.now.pieces.items in
    refusal_weaker about c.args.setting.now.budget.now (AsksSteps about q c.deref.result.now) (AsksCome about round.path q into) c.in-Err-prove_falling_steps.fault
    (λ a h. subst (λ path. AsksCome about path q into a) (sym c.in-Every.is) (inr (subst (λ qs. AsksSteps about q qs a) c.deref.ensures.value h))) c.in-Err-prove_falling_steps.ensures.refusals

pub returns-in-Ok-prove_falling_steps-clause-adds : goal.returns-in-Ok-prove_falling_steps-clause-adds
returns-in-Ok-prove_falling_steps-clause-adds c number p all h =
    let about = cases_of c.args.setting.now.about.now in
    let q = c.args.piece.now in
    let round = c.args.round.now in
    let old = c.args.proofs.now.items in
    let mid = c.push_item.new.items.items in
    let new = c.prove_falling_steps.new.proofs.items in
    let first = choice_of number kind.Successor (about_with about) p false (λ d draws. owed_nothing) in
    let rest = steps_of number (about_with about) p all (step_fall (about_with about) p) in
    subst (λ path. Adds (come_of about number path p all) old new) (sym c.in-Every.is)
    (adds_then (first ∷ []) rest old mid new
    (adds_one first (Chosen c.in-Ok.choice) old mid c.in_ok-push_item-in-Ok.ensures (c.in-Ok.ensures.shows number p h.marked))
    (c.in-Ok-prove_falling_steps.ensures.adds number p all (subst (λ qs. IsLayered about.variables q round.done.now qs p all) (sym c.deref.ensures.value) h)))

pub returns-in-Err-choice_falling-clause-refusals : goal.returns-in-Err-choice_falling-clause-refusals
returns-in-Err-choice_falling-clause-refusals c =
    let about = cases_of c.args.setting.now.about.now in
    let q = c.args.piece.now in
    let round = c.args.round.now in
    let into = round.earlier.now.pieces.items in
    refusal_weaker about c.args.setting.now.budget.now (λ a. a ≡ chooses q false into) (AsksCome about round.path q into) c.in-Err-choice_falling.fault
    (λ a e. subst (λ path. AsksCome about path q into a) (sym c.in-Any.is) e) c.in-Err-choice_falling.ensures.refusals

pub returns-in_ok-push_item-in-Ok-choice_falling-clause-adds : goal.returns-in_ok-push_item-in-Ok-choice_falling-clause-adds
returns-in_ok-push_item-in-Ok-choice_falling-clause-adds c number p all h =
    let about = cases_of c.args.setting.now.about.now in
    let q = c.args.piece.now in
    let old = c.args.proofs.now.items in
    let new = c.push_item-in-Ok-choice_falling.new.items.items in
    let only = choice_of number kind.Choice (about_with about) p false (choice_into (about_with about) all (choice_fall (about_with about) p)) in
    subst (λ path. Adds (come_of about number path p all) old new) (sym c.in-Any.is)
    (adds_one only (Chosen c.in-Ok-choice_falling.choice) old new c.in_ok-push_item-in-Ok-choice_falling.ensures (c.in-Ok-choice_falling.ensures.shows number p all h))
