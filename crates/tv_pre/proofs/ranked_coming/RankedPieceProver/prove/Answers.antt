use Rattle.std.proofs.Common.{◌≡◌, ◌⊎◌, inl, inr, [], ◌∷◌, false, subst, sym}
use Rattle.tv_formula.specs.declared.tree.Path.TheVariants.{Every}
use Rattle.tv_cases.specs.Systems.{cases_of}
use Rattle.tv_cert.specs.declared.node.Kind.TheVariants as kind
use Rattle.tv_cert.specs.declared.node.Proof.TheVariants.{Chosen}
use Rattle.tv_cert.specs.Claims.{about_with}
use Rattle.tv_cert.specs.Obligations.{cover_of, steps_of, step_fall, choice_of, hold_side, first_of, second_of}
use Rattle.tv_cert.specs.Targets.{owed_nothing}
use Rattle.tv_pre.specs.Growing.{AsksCome}
use Rattle.tv_pre.specs.Pieces.{AreMarked, InPieces}
use Rattle.tv_pre.specs.Inclusions.{OfPiece}
use Rattle.tv_pre.specs.Questions.{lies, chooses, AsksSteps}
use Rattle.tv_pre.proofs.AddLemmas.{adds_one, adds_then}
use Rattle.tv_pre.proofs.RefusalLemmas.{refusal_weaker}
use Rattle.tv_pre.proofs.ranked_coming.RankedPieceProver.prove.Goals as goal

pub prove_cover-requires-clause-inside : goal.prove_cover-requires-clause-inside
prove_cover-requires-clause-inside c = subst (λ qs. OfPiece (cases_of c.args.setting.now.about.now) c.args.piece.now (InPieces qs)) (sym c.deref.ensures.value) c.requires.of.5

pub returns-in-Err-clause-refusals : goal.returns-in-Err-clause-refusals
returns-in-Err-clause-refusals c =
    let s = c.args.self.now in
    let q = c.args.piece.now in
    let about = cases_of c.args.setting.now.about.now in
    refusal_weaker about c.args.setting.now.budget.now (λ a. a ≡ lies q c.deref.result.now) (λ a. (a ≡ lies q s.hold.now.pieces.items) ⊎ AsksCome about Every q s.own.now a) c.in-Err.fault
    (λ a e. inl (subst (λ qs. a ≡ lies q qs) c.deref.ensures.value e)) c.in-Err.ensures.refusals

pub returns-in-Err-successor-clause-refusals : goal.returns-in-Err-successor-clause-refusals
returns-in-Err-successor-clause-refusals c =
    let s = c.args.self.now in
    let q = c.args.piece.now in
    let about = cases_of c.args.setting.now.about.now in
    refusal_weaker about c.args.setting.now.budget.now (λ a. a ≡ chooses q false s.anywhere.now.pieces.items) (λ a. (a ≡ lies q s.hold.now.pieces.items) ⊎ AsksCome about Every q s.own.now a) c.in-Err-successor.fault
    (λ a e. inr (inl (s.anywhere.now, c.requires.of.2, e))) c.in-Err-successor.ensures.refusals

pub prove_ranked_steps-requires-clause-inside : goal.prove_ranked_steps-requires-clause-inside
prove_ranked_steps-requires-clause-inside c xs w = (c.requires.of.6 xs w).1

pub returns-in-Err-prove_ranked_steps-clause-refusals : goal.returns-in-Err-prove_ranked_steps-clause-refusals
returns-in-Err-prove_ranked_steps-clause-refusals c =
    let s = c.args.self.now in
    let q = c.args.piece.now in
    let about = cases_of c.args.setting.now.about.now in
    refusal_weaker about c.args.setting.now.budget.now (AsksSteps about q s.own.now) (λ a. (a ≡ lies q s.hold.now.pieces.items) ⊎ AsksCome about Every q s.own.now a) c.in-Err-prove_ranked_steps.fault
    (λ a h. inr (inr h)) c.in-Err-prove_ranked_steps.ensures.refusals

pub returns-in-Ok-prove_ranked_steps-clause-adds : goal.returns-in-Ok-prove_ranked_steps-clause-adds
returns-in-Ok-prove_ranked_steps-clause-adds c a p f =
    let s = c.args.self.now in
    let about = cases_of c.args.setting.now.about.now in
    let hold = hold_side s.shape (first_of a.kids) (second_of a.kids) in
    let old = c.args.proofs.now.items in
    let held = c.prove_cover.new.proofs.items in
    let chosen = c.push_item.new.items.items in
    let new = c.prove_ranked_steps.new.proofs.items in
    let first = choice_of a.number kind.Successor (about_with about) p false (λ d draws. owed_nothing) in
    let steps = steps_of a.number (about_with about) p a.pieces (step_fall (about_with about) p) in
    adds_then (cover_of a.number kind.Hold (about_with about) p hold ∷ []) (first ∷ steps) old held new
    (c.in-Ok.ensures.adds a.number kind.Hold p hold f.0.marked (subst (AreMarked hold) (sym c.deref.ensures.value) f.1))
    (adds_then (first ∷ []) steps held chosen new
    (adds_one first (Chosen c.in-Ok-successor.choice) held chosen c.in_ok-push_item-in-Ok-successor.ensures (c.in-Ok-successor.ensures.shows a.number p f.0.marked))
    (c.in-Ok-prove_ranked_steps.ensures.adds a.number p a.pieces f.0))
