use Rattle.std.proofs.Common.{◌∷◌, ◌++◌, ◌∙◌, [], sym, subst}
use Rattle.tv_cases.specs.Systems.{cases_of}
use Rattle.tv_invariant.specs.Sieves.{Sieved, none}
use Rattle.tv_invariant.specs.Falling.{Begins, IsInNoPart}
use Rattle.tv_invariant.proofs.SieveLemmas.{one_stays, one_falls}
use Rattle.tv_invariant.proofs.PassLemmas.{outside_begins, met_begins, unmet_falls}
use Rattle.tv_invariant.proofs.start.begin.Goals as goal
use Rattle.tv_invariant.proofs.start.begin.Goals.{then-candidate-start-via-then-candidate-start, then-candidate-start-via-else-candidate-start+then-is_always_met}

pub candidates-init : goal.candidates-init
candidates-init c =
    let about = cases_of c.args.about.now in
    subst (λ ks. Sieved (Begins about) (IsInNoPart about c.args.candidates.items) [] ks) (sym c.new-kept.ensures.items) none

pub candidates-preserved-in-candidates : goal.candidates-preserved-in-candidates
candidates-preserved-in-candidates c =
    let about = cases_of c.args.about.now in
    let all = c.args.candidates.items in
    let d = c.in-Some.candidate in
    let stays : Begins about d = elim c.then-candidate-start.branch [
      | then-candidate-start-via-then-candidate-start w ↦ outside_begins about d c.start-start.result c.start-start.ensures.same w.if-candidate-start.true
      | then-candidate-start-via-else-candidate-start+then-is_always_met w ↦ met_begins about d w.is_always_met.result w.if-is_always_met.true w.is_always_met.ensures
    ] in
    subst (λ ks. Sieved (Begins about) (IsInNoPart about all) (c.candidates.yielded ++ d ∷ []) ks) (sym c.in_ok-push_item.ensures)
    (one_stays (Begins about) (IsInNoPart about all) c.candidates.yielded c.candidates.kept.items d stays c.candidates.invariant)

pub candidates-preserved : goal.candidates-preserved
candidates-preserved c =
    let about = cases_of c.args.about.now in
    let all = c.args.candidates.items in
    let d = c.in-Some.candidate in
    one_falls (Begins about) (IsInNoPart about all) c.candidates.yielded c.candidates.kept.items d
    (unmet_falls about all d c.requires (c.if-candidate-start.false ∙ c.start-start.ensures.same) c.if-is_always_met.ensures) c.candidates.invariant
