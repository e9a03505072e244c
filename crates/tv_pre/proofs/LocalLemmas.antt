-- Properties of one state.
use Rattle.std.proofs.Common.{◌≡◌, inl, inr, ℕ, List, [], ◌∷◌, sym, subst, true}
use Rattle.std.specs.Prelude.{Contains}
use Rattle.std.specs.Cmp.Derive.{both_true}
use Rattle.std.proofs.lemmas.List.Elements.{Contains-append_cases}
use Rattle.std.proofs.lemmas.Bool.{and_parts}
use Rattle.tv_formula.specs.Normal.{normal, negation, normals, negations}
use Rattle.tv_formula.specs.Forms.{is_local, are_local}
use Rattle.tv_formula.specs.Properties.{Property, truth, compare, at, term, negated, all_of, some_of, next, fix, Properties, none, more}
use Rattle.tv_cases.specs.Comparisons.{comparison_lists}
use Rattle.tv_cases.specs.LinearCases.{CaseSystem}
use Rattle.tv_cases.proofs.ContainsLemmas.{Contains-cases, Contains-none}
use Rattle.tv_cert.specs.Statements.{denial_of, stated, stated_all}
use Rattle.tv_known.specs.Subformulas.{subformulas, all_subformulas, IsUnsettled}
use Rattle.tv_pre.specs.Tame.{IsLocalStatement, AreLocalStatements}

-- ---- the normal form and the negation are of one state too
mutual
  pub normal_local : (f : Property) → is_local f ≡ true → is_local (normal f) ≡ true
  normal_local (truth b) e = e
  normal_local (compare r a b) e = e
  normal_local (at l) e = e
  normal_local term e = e
  normal_local (negated f) e = negation_local f e
  normal_local (all_of fs) e = normals_local fs e
  normal_local (some_of fs) e = normals_local fs e
  normal_local (next path f) e = e
  normal_local (fix path shape f g) e = e

  pub negation_local : (f : Property) → is_local f ≡ true → is_local (negation f) ≡ true
  negation_local (truth b) e = e
  negation_local (compare r a b) e = e
  negation_local (at l) e = e
  negation_local term e = absurd cc
  negation_local (negated f) e = normal_local f e
  negation_local (all_of fs) e = negations_local fs e
  negation_local (some_of fs) e = negations_local fs e
  negation_local (next path f) e = absurd cc
  negation_local (fix path shape f g) e = absurd cc

  normals_local : (fs : Properties) → are_local fs ≡ true → are_local (normals fs) ≡ true
  normals_local none e = e
  normals_local (more f fs) e =
      both_true (normal_local f ((and_parts (is_local f) (are_local fs) e).0)) (normals_local fs ((and_parts (is_local f) (are_local fs) e).1))

  negations_local : (fs : Properties) → are_local fs ≡ true → are_local (negations fs) ≡ true
  negations_local none e = e
  negations_local (more f fs) e =
      both_true (negation_local f ((and_parts (is_local f) (are_local fs) e).0)) (negations_local fs ((and_parts (is_local f) (are_local fs) e).1))

-- ---- what they state is
denial_local : (f : Property) → is_local f ≡ true → IsLocalStatement (denial_of f)
denial_local (truth b) e = tt
denial_local (compare r a b) e = tt
denial_local (at l) e = tt
denial_local term e = absurd cc
denial_local (negated f) e = tt
denial_local (all_of fs) e = tt
denial_local (some_of fs) e = tt
denial_local (next path f) e = tt
denial_local (fix path shape f g) e = tt

mutual
  pub stated_local : (n : ℕ) (f : Property) → is_local f ≡ true → IsLocalStatement (stated (comparison_lists n) f)
  stated_local n (truth b) e = tt
  stated_local n (compare r a b) e = tt
  stated_local n (at l) e = tt
  stated_local n term e = absurd cc
  stated_local n (negated f) e = denial_local f e
  stated_local n (all_of fs) e = all_stated_local n fs e
  stated_local n (some_of fs) e = all_stated_local n fs e
  stated_local n (next path f) e = absurd cc
  stated_local n (fix path shape f g) e = absurd cc

  all_stated_local : (n : ℕ) (fs : Properties) → are_local fs ≡ true → AreLocalStatements (stated_all (comparison_lists n) fs)
  all_stated_local n none e = tt
  all_stated_local n (more f fs) e =
      (stated_local n f ((and_parts (is_local f) (are_local fs) e).0), all_stated_local n fs ((and_parts (is_local f) (are_local fs) e).1))

-- ---- no round leaves them open
module _ (about : CaseSystem) (last : ℕ) where
  one_or_rest : (f : Property) (fs : List Property) (part : Property) → Contains (f ∷ fs) part → (IsUnsettled about last f → ⊥) → (Contains fs part → IsUnsettled about last part → ⊥) → IsUnsettled about last part → ⊥
  one_or_rest f fs part m a b later = elim (Contains-cases f part fs m) [
    | inl e ↦ a (subst (IsUnsettled about last) (sym e) later)
    | inr k ↦ b k later
  ]

  denied_now : (f : Property) → is_local f ≡ true → IsUnsettled about last (negated f) → ⊥
  denied_now (truth b) e later = later
  denied_now (compare r a b) e later = later
  denied_now (at l) e later = later
  denied_now term e later = absurd cc
  denied_now (negated f) e later = later
  denied_now (all_of fs) e later = later
  denied_now (some_of fs) e later = later
  denied_now (next path f) e later = later
  denied_now (fix path shape f g) e later = later

  mutual
    pub local_now : (f : Property) → is_local f ≡ true → (part : Property) → Contains (subformulas f) part → IsUnsettled about last part → ⊥
    local_now (truth b) e part m = one_or_rest (truth b) [] part m (λ later. later) (λ k. absurd (Contains-none part k))
    local_now (compare r a b) e part m = one_or_rest (compare r a b) [] part m (λ later. later) (λ k. absurd (Contains-none part k))
    local_now (at l) e part m = one_or_rest (at l) [] part m (λ later. later) (λ k. absurd (Contains-none part k))
    local_now term e part m = absurd cc
    local_now (negated f) e part m = one_or_rest (negated f) [] part m (denied_now f e) (λ k. absurd (Contains-none part k))
    local_now (all_of fs) e part m = one_or_rest (all_of fs) (all_subformulas fs) part m (λ later. later) (λ k. each_now fs e part k)
    local_now (some_of fs) e part m = one_or_rest (some_of fs) (all_subformulas fs) part m (λ later. later) (λ k. each_now fs e part k)
    local_now (next path f) e part m = absurd cc
    local_now (fix path shape f g) e part m = absurd cc

    each_now : (fs : Properties) → are_local fs ≡ true → (part : Property) → Contains (all_subformulas fs) part → IsUnsettled about last part → ⊥
    each_now none e part m = absurd (Contains-none part m)
    each_now (more f fs) e part m = elim (Contains-append_cases (subformulas f) (all_subformulas fs) part m) [
      | inl k ↦ local_now f ((and_parts (is_local f) (are_local fs) e).0) part k
      | inr k ↦ each_now fs ((and_parts (is_local f) (are_local fs) e).1) part k
    ]
