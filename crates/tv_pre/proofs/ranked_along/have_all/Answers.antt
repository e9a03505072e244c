use Rattle.std.proofs.Common.{ℕ, ◌+◌, ◌∷◌, [], length, subst, ◌≡◌, arith}
use Rattle.tv_cases.specs.Systems.{cases_of}
use Rattle.tv_pre.specs.Built.{of_everywhere, IsFaultOf}
use Rattle.tv_pre.specs.Inclusions.{OfPieces}
use Rattle.tv_pre.specs.Parts.{joined_pieces}
use Rattle.tv_pre.specs.Pieces.{InPieces}
use Rattle.tv_pre.specs.Questions.{lies, IsRefusal, AsksOf}
use Rattle.tv_pre.proofs.BetweenLemmas.{all_between, between_asked}
use Rattle.tv_pre.proofs.BuiltLemmas.{all_built_to}
use Rattle.tv_pre.proofs.PassedLemmas.{passed_on, cover_fault}
use Rattle.std.proofs.Math.Nat.{le_refl}
use Rattle.tv_region.specs.Regions.{lists_at}
use Rattle.tv_pre.specs.Counted.{IsAskedBetween, IsCountedBetween}
use Rattle.tv_pre.proofs.FewTargets.{cover_few, lies_few}
use Rattle.tv_pre.proofs.ranked_along.have_all.Goals as goal

pub returns-in_err-lie_between-clause-refused : goal.returns-in_err-lie_between-clause-refused
returns-in_err-lie_between-clause-refused c =
    let about = cases_of c.args.setting.now.about.now in
    let budget = c.args.setting.now.budget.now in
    let end = c.args.end.now in
    let onward = c.args.onward.now in
    let all = c.in_ok-anywhere.anywhere in
    let into = joined_pieces (end ∷ onward ∷ []) in
    let fault = c.in_err-lie_between.field-0.0 in
    passed_on (IsFaultOf about budget 0 (end ∷ onward ∷ [])) c.from_residual-in_err-lie_between.result c.from_residual-in_err-lie_between.ensures.1
    (λ r is s h m. cover_fault about budget s (0 + h) (AsksOf (λ q a. a ≡ lies q into) all.pieces.items)
    (between_asked about s (0 + h) all end onward (of_everywhere (0 + h) all c.in_ok-anywhere.ensures) (all_built_to about s h (0 + h) (end ∷ onward ∷ []) (omega arith) m))
    fault r is (subst (λ ps. IsRefusal about budget (AsksOf (λ q a. a ≡ lies q into) ps) fault) c.deref.ensures.value c.in_err-lie_between.ensures.refusals))

pub returns-clause-all : goal.returns-clause-all
returns-clause-all c = λ told.
    let about = cases_of c.args.setting.now.about.now in
    let end = c.args.end.now in
    let onward = c.args.onward.now in
    all_between about end onward c.in_ok-anywhere.anywhere c.in_ok-anywhere.ensures
    (subst (λ ps. OfPieces about ps (InPieces (joined_pieces (end ∷ onward ∷ [])))) c.deref.ensures.value (c.in_ok-lie_between.ensures.inside told))

pub returns-in_err-lie_between-clause-counted : goal.returns-in_err-lie_between-clause-counted
returns-in_err-lie_between-clause-counted c =
    let about = cases_of c.args.setting.now.about.now in
    let budget = c.args.setting.now.budget.now in
    let end = c.args.end.now in
    let onward = c.args.onward.now in
    let all = c.in_ok-anywhere.anywhere in
    let into = joined_pieces (end ∷ onward ∷ []) in
    let fault = c.in_err-lie_between.field-0.0 in
    let many = λ (l : ℕ). length (lists_at l into) in
    passed_on (IsCountedBetween about budget end onward) c.from_residual-in_err-lie_between.result c.from_residual-in_err-lie_between.ensures.1
    (λ r is. cover_few about budget (AsksOf (λ q a. a ≡ lies q into) all.pieces.items) (IsAskedBetween about end onward) many
    (λ a w s h m. between_asked about s h all end onward (of_everywhere h all c.in_ok-anywhere.ensures) m a w)
    (λ a w. lies_few about many w.0 into a w.2 (λ l. le_refl (many l)))
    fault r is (subst (λ ps. IsRefusal about budget (AsksOf (λ q a. a ≡ lies q into) ps) fault) c.deref.ensures.value c.in_err-lie_between.ensures.refusals))
