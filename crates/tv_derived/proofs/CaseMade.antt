-- what is asked of a case
use Rattle.std.proofs.Common.{ℕ, ◌≡◌, inl, inr, ◌∙◌, List, [], ◌∷◌, map, ap, subst}
use Rattle.std.specs.Prelude.{Ok}
use Rattle.std.specs.List.{Contains}
use Rattle.std.proofs.lemmas.List.Elements.{Contains-append_cases}
use Rattle.tv_linear.specs.Linear.{Linear}
use Rattle.tv_linear.specs.Arithmetic.{zeros, denial}
use Rattle.tv_cases.specs.LinearCases.{LinearCase, CaseSystem}
use Rattle.tv_cases.specs.Before.{before}
use Rattle.tv_cases.proofs.ContainsLemmas.{Contains-here, Contains-later, Contains-map, Contains-from_map}
use Rattle.tv_derived.specs.Scopes.{over_case, at_location, with_more, placed}
use Rattle.tv_derived.specs.Derived.{IsDerived, IsUnsplit, AreUnsplit, handed, guard, derived}
use Rattle.tv_derived.specs.CaseQuestions.{handed_rows, known_rows, case_rows, IsAsked, KnownAreDerived, OwedIsPut, OwedIsDenied, EmptyRefusesCase}
use Rattle.tv_derived.proofs.Steps.{after_deny, after_before, over}
use Rattle.tv_derived.proofs.Listing.{empty_refusal, one_of}

module _ (about : CaseSystem) (c : LinearCase) (rows : List Linear) (owed : Linear) (asked : IsAsked about c owed) where
  owed_derived : IsDerived about (handed_rows c rows owed) (at_location c.to) 0 owed
  owed_derived = handed (placed c.to owed) (Contains-here (placed c.to owed) (map (placed c.from) rows))

  pub put : OwedIsPut about c rows owed
  put result g = after_before owed c asked.among asked.even result owed_derived g

  pub deny : OwedIsDenied about c rows owed
  deny row result g d = after_deny row result (put (Ok row) g) d

  row_derived : (h : ℕ) (r : Linear) → Contains rows r → IsUnsplit about (handed_rows c rows owed) (over_case c) h (with_more r (zeros c.draws))
  row_derived h r k =
      over about (handed_rows c rows owed) c h r asked.among
      (handed (placed c.from r) (Contains-later (placed c.to owed) (placed c.from r) (map (placed c.from) rows) (Contains-map (placed c.from) rows r k)))

  pub known : KnownAreDerived about c rows owed
  known h r k = elim (Contains-append_cases (map (λ x. with_more x (zeros c.draws)) rows) c.guards r k) [
    | inl before_it ↦
        let found = Contains-from_map (λ x. with_more x (zeros c.draws)) rows r before_it in
        subst (λ x. IsUnsplit about (handed_rows c rows owed) (over_case c) h x) found.2 (row_derived h found.0 found.1)
    | inr of ↦ derived r (guard c r asked.among of)
  ]

  all_derived : IsDerived about (handed_rows c rows owed) (over_case c) 1 (denial (before owed c)) → AreUnsplit about (handed_rows c rows owed) (over_case c) 1 (case_rows c rows owed)
  all_derived d r k = elim (Contains-append_cases (known_rows c rows) (denial (before owed c) ∷ []) r k) [
    | inr last ↦ derived r (subst (λ x. IsDerived about (handed_rows c rows owed) (over_case c) 1 x) (one_of (denial (before owed c)) r last) d)
    | inl front ↦ known 1 r front
  ]

  pub refusals : EmptyRefusesCase about c rows owed
  refusals row last pivots splits fault g d is =
      let made = deny row (Ok last) g d in
      let same : last ≡ denial (before owed c) = d.same ∙ ap denial g.same in
      empty_refusal about (handed_rows c rows owed) (over_case c) 1 (case_rows c rows owed) pivots splits fault (all_derived (subst (λ x. IsDerived about (handed_rows c rows owed) (over_case c) 1 x) same made)) is
