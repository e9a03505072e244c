use Rattle.std.proofs.Common.{ap, sym, subst, refl, ◌++◌, ◌∷◌, []}
use Rattle.tv_linear.specs.Known.{given, denied}
use Rattle.tv_refute.specs.Frames.{known_at}
use Rattle.tv_cases.specs.Systems.{cases_of}
use Rattle.tv_cert.specs.Pieces.{place_of}
use Rattle.tv_cert.specs.Choices.{IsMetChoice}
use Rattle.tv_cert.specs.OwesViews.{destination_owes}
use Rattle.tv_check.proofs.choosing.+choice_is_met.Goals as goal

pub returns-then-choice_is_met : goal.returns-then-choice_is_met
returns-then-choice_is_met t c =
    let met = IsMetChoice (cases_of c.args.choosing.now.about.now).variables (cases_of c.args.choosing.now.about.now).cases (place_of c.args.choosing.now.piece.now) c.args.choosing.now.stop (destination_owes (cases_of c.args.choosing.now.about.now).variables c.args.choosing.now.piece.now c.args.choosing.now.destination.now) in
    let known = known_at c.args.frames.now in
    let e = ap (met known) c.in-Split.is in (
      λ t. subst (λ (x : Type 0). x) (sym e) (
        subst (λ (x : Type 0). x) (λ i. met (known ++ given (c.of.ensures i) ∷ []) (c.deref.ensures i)) (c.if-choice_is_met.ensures.0 refl),
        subst (λ (x : Type 0). x) (λ i. met (known ++ denied (given (c.of.ensures i)) ∷ []) (c.deref-then-choice_is_met.ensures i)) (c.choice_is_met-then-choice_is_met.ensures.0 t),
      ),
      λ h. c.choice_is_met-then-choice_is_met.ensures.1 (subst (λ (x : Type 0). x) (λ i. met (known ++ denied (given (sym c.of.ensures i)) ∷ []) (sym c.deref-then-choice_is_met.ensures i)) (subst (λ (x : Type 0). x) e h).1),
    )

pub returns-else-choice_is_met : goal.returns-else-choice_is_met
returns-else-choice_is_met t c =
    let met = IsMetChoice (cases_of c.args.choosing.now.about.now).variables (cases_of c.args.choosing.now.about.now).cases (place_of c.args.choosing.now.piece.now) c.args.choosing.now.stop (destination_owes (cases_of c.args.choosing.now.about.now).variables c.args.choosing.now.piece.now c.args.choosing.now.destination.now) in
    let known = known_at c.args.frames.now in
    let e = ap (met known) c.in-Split.is in
    (λ t. cc, λ h. let k = c.if-choice_is_met.ensures.1 (subst (λ (x : Type 0). x) (λ i. met (known ++ given (sym c.of.ensures i) ∷ []) (sym c.deref.ensures i)) (subst (λ (x : Type 0). x) e h).0) in cc)
