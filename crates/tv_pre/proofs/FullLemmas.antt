-- Regions that lack only states where the formula fails: of atoms, conjunctions, disjunctions and next states.
use Rattle.std.proofs.Common.{◌≡◌, inl, inr, ℕ, length, refl, List, [], ◌∷◌, sym, ◌∙◌, subst, arith, ℤ, Bool, true, false, cond, not, ◌==◌}
use Rattle.std.proofs.lemmas.Bool.Decides.{nat_tests}
use Rattle.std.specs.Prelude.{All}
use Rattle.std.proofs.lemmas.List.Elements.{All-nil, All-cons, All-head, All-tail, All-weaker}
use Rattle.tv_formula.specs.declared.tree.Path.{Path}
use Rattle.tv_formula.specs.declared.tree.Path.TheVariants.{Every, Any}
use Rattle.tv_formula.specs.Forms.{is_local}
use Rattle.tv_formula.specs.Normal.{negation, negations}
use Rattle.tv_formula.specs.Properties.{Property, truth, compare, at, term, negated, all_of, some_of, next, fix, Properties, none, more}
use Rattle.tv_program.specs.Steps.{State}
use Rattle.tv_meaning.specs.Meaning.{Holds, AllHold, SomeHolds}
use Rattle.tv_meaning.proofs.Negation.{negation_excludes}
use Rattle.tv_meaning.proofs.LocalNegation.{negation_says}
use Rattle.tv_linear.specs.declared.region.Region.{Region}
use Rattle.tv_cases.specs.Comparisons.{has_rows, comparison_lists}
use Rattle.tv_cases.specs.EdgeCases.{columns_from}
use Rattle.tv_cases.specs.Lists.{lists_of}
use Rattle.tv_program.specs.declared.tree.Relation.{Relation}
use Rattle.tv_program.specs.Trees.{Expression}
use Rattle.tv_program.specs.Trees as trees
use Rattle.tv_program.specs.Meaning.{compares, value_of}
use Rattle.tv_cases.specs.LinearCases.{CaseSystem, CaseSteps, IsCase}
use Rattle.tv_cases.proofs.ComparisonLemmas.{some_list}
use Rattle.tv_cert.specs.Obligations.{truth_targets}
use Rattle.tv_known.specs.Cycles.{IsStateOf}
use Rattle.tv_known.proofs.RoundLemmas.{stays_state}
use Rattle.tv_region.specs.Met.{some_met}
use Rattle.tv_region.specs.Regions.{IsRegion}
use Rattle.tv_region.specs.StepRegions.{InState, IsTame}
use Rattle.tv_region.proofs.AlgebraLemmas.{in_state}
use Rattle.tv_rounds.proofs.SetLemmas.{own_set, told}
use Rattle.tv_pre.specs.declared.test.Test.{Test}
use Rattle.tv_pre.specs.declared.test.Test.TheVariants.{Rows, Here, Elsewhere}
use Rattle.tv_pre.specs.Along.{OthersLeadOut}
use Rattle.tv_pre.specs.Atoms.{test_lists, IsTestOf, IsTested}
use Rattle.tv_pre.specs.Full.{HasRows, IsFull, AreFull, FullHasAll, FullTell}
use Rattle.tv_pre.specs.Inclusions.{OfPieces}
use Rattle.std.proofs.lemmas.Bool.{and_parts, eq-eqb}

-- ---- atoms
true_met : (b : Bool) (xs : List ℤ) → b ≡ true → some_met xs (truth_targets b) ≡ true
true_met true xs e = refl
true_met false xs e = absurd cc

apart_true : (l k : ℕ) → ¬ (l ≡ k) → not (l == k) ≡ true
apart_true l k n = grind (arith, nat_tests)

compared_met : (n : ℕ) (r : Relation) (a b : Expression) (xs : List ℤ) → length xs ≡ n → has_rows n r a b ≡ true → compares r (value_of a xs []) (value_of b xs []) ≡ true → some_met xs (comparison_lists n r a b) ≡ true
compared_met n r a b xs wide rows holds =
    subst (λ t. some_met xs (cond t (lists_of n n (columns_from n 0 n) true (trees.compare r a b)) []) ≡ true) (sym rows) (some_list n r a b xs wide ((and_parts _ _ rows).0) ∙ holds)

module _ (about : CaseSystem) where
  -- the lists of a test have each state where the formula holds
  test_met : (t : Test) (f : Property) → IsTestOf about.variables t f → HasRows about.variables f → (s : State) → IsStateOf about s → Holds (CaseSteps about) f s → some_met s.values (test_lists t s.location) ≡ true
  test_met (Rows lists) (truth b) h w s p m = subst (λ ls. some_met s.values ls ≡ true) (sym h) (true_met b s.values m)
  test_met (Rows lists) (compare r a b) h w s p m = subst (λ ls. some_met s.values ls ≡ true) (sym h) (compared_met about.variables r a b s.values p.values w m)
  test_met (Rows lists) (at l) h w s p m = absurd h
  test_met (Rows lists) term h w s p m = absurd h
  test_met (Rows lists) (negated f) h w s p m = absurd h
  test_met (Rows lists) (all_of fs) h w s p m = absurd h
  test_met (Rows lists) (some_of fs) h w s p m = absurd h
  test_met (Rows lists) (next path f) h w s p m = absurd h
  test_met (Rows lists) (fix path shape f g) h w s p m = absurd h
  test_met (Here k) (truth b) h w s p m = absurd h
  test_met (Here k) (compare r a b) h w s p m = absurd h
  test_met (Here k) (at l) h w s p m = true_met (s.location == k) s.values (eq-eqb s.location k (m ∙ h))
  test_met (Here k) term h w s p m = absurd h
  test_met (Here k) (negated f) h w s p m = absurd h
  test_met (Here k) (all_of fs) h w s p m = absurd h
  test_met (Here k) (some_of fs) h w s p m = absurd h
  test_met (Here k) (next path f) h w s p m = absurd h
  test_met (Here k) (fix path shape f g) h w s p m = absurd h
  test_met (Elsewhere k) (truth b) h w s p m = absurd h
  test_met (Elsewhere k) (compare r a b) h w s p m = absurd h
  test_met (Elsewhere k) (at l) h w s p m = absurd h
  test_met (Elsewhere k) term h w s p m = absurd h
  test_met (Elsewhere k) (negated (truth b)) h w s p m = absurd h
  test_met (Elsewhere k) (negated (compare r a b)) h w s p m = absurd h
  test_met (Elsewhere k) (negated (at l)) h w s p m = true_met (not (s.location == k)) s.values (apart_true s.location k (λ e. m (e ∙ sym h)))
  test_met (Elsewhere k) (negated term) h w s p m = absurd h
  test_met (Elsewhere k) (negated (negated f)) h w s p m = absurd h
  test_met (Elsewhere k) (negated (all_of fs)) h w s p m = absurd h
  test_met (Elsewhere k) (negated (some_of fs)) h w s p m = absurd h
  test_met (Elsewhere k) (negated (next path f)) h w s p m = absurd h
  test_met (Elsewhere k) (negated (fix path shape f g)) h w s p m = absurd h
  test_met (Elsewhere k) (all_of fs) h w s p m = absurd h
  test_met (Elsewhere k) (some_of fs) h w s p m = absurd h
  test_met (Elsewhere k) (next path f) h w s p m = absurd h
  test_met (Elsewhere k) (fix path shape f g) h w s p m = absurd h

  test_local : (t : Test) (f : Property) → IsTestOf about.variables t f → is_local f ≡ true
  test_local (Rows lists) (truth b) h = refl
  test_local (Rows lists) (compare r a b) h = refl
  test_local (Rows lists) (at l) h = absurd h
  test_local (Rows lists) term h = absurd h
  test_local (Rows lists) (negated f) h = absurd h
  test_local (Rows lists) (all_of fs) h = absurd h
  test_local (Rows lists) (some_of fs) h = absurd h
  test_local (Rows lists) (next path f) h = absurd h
  test_local (Rows lists) (fix path shape f g) h = absurd h
  test_local (Here k) (truth b) h = absurd h
  test_local (Here k) (compare r a b) h = absurd h
  test_local (Here k) (at l) h = refl
  test_local (Here k) term h = absurd h
  test_local (Here k) (negated f) h = absurd h
  test_local (Here k) (all_of fs) h = absurd h
  test_local (Here k) (some_of fs) h = absurd h
  test_local (Here k) (next path f) h = absurd h
  test_local (Here k) (fix path shape f g) h = absurd h
  test_local (Elsewhere k) (truth b) h = absurd h
  test_local (Elsewhere k) (compare r a b) h = absurd h
  test_local (Elsewhere k) (at l) h = absurd h
  test_local (Elsewhere k) term h = absurd h
  test_local (Elsewhere k) (negated (truth b)) h = absurd h
  test_local (Elsewhere k) (negated (compare r a b)) h = absurd h
  test_local (Elsewhere k) (negated (at l)) h = refl
  test_local (Elsewhere k) (negated term) h = absurd h
  test_local (Elsewhere k) (negated (negated f)) h = absurd h
  test_local (Elsewhere k) (negated (all_of fs)) h = absurd h
  test_local (Elsewhere k) (negated (some_of fs)) h = absurd h
  test_local (Elsewhere k) (negated (next path f)) h = absurd h
  test_local (Elsewhere k) (negated (fix path shape f g)) h = absurd h
  test_local (Elsewhere k) (all_of fs) h = absurd h
  test_local (Elsewhere k) (some_of fs) h = absurd h
  test_local (Elsewhere k) (next path f) h = absurd h
  test_local (Elsewhere k) (fix path shape f g) h = absurd h

  pub atom_full : (t : Test) (f : Property) (region : Region) → IsTestOf about.variables t f → HasRows about.variables f → IsTested about t region → IsFull about f region
  atom_full t f region is rows h s p n = (negation_says (CaseSteps about) f (test_local t f is) s).1 (λ m. n (in_state s.location s.values region
      (subst (λ ls. some_met s.values ls ≡ true) (sym (h.lists s.location p.location)) (test_met t f is rows s p m))))

  -- ---- conjunctions and disjunctions
  some_fails : (fs : Properties) (regions : List Region) → All (IsRegion about.variables about.locations) regions → AreFull about fs regions → (s : State) → IsStateOf about s → (All (λ x. InState x s) regions → ⊥) → SomeHolds (CaseSteps about) (negations fs) s
  some_fails none [] over h s p n = n (All-nil (λ x. InState x s))
  some_fails none (r ∷ rs) over h s p n = absurd h
  some_fails (more f fs) [] over h s p n = absurd h
  some_fails (more f fs) (r ∷ rs) over h s p n = elim (told about (InState r) r (own_set about r (All-head (IsRegion about.variables about.locations) r rs over)) s p) [
    | inl m ↦ inr (some_fails fs rs (All-tail (IsRegion about.variables about.locations) r rs over) h.1 s p (λ k. n (All-cons (λ x. InState x s) r rs m k)))
    | inr m ↦ inl (h.0 s p m)
  ]

  each_fails : (fs : Properties) (regions : List Region) → AreFull about fs regions → (s : State) → IsStateOf about s → All (λ x. InState x s → ⊥) regions → AllHold (CaseSteps about) (negations fs) s
  each_fails none [] h s p n = tt
  each_fails none (r ∷ rs) h s p n = absurd h
  each_fails (more f fs) [] h s p n = absurd h
  each_fails (more f fs) (r ∷ rs) h s p n = (h.0 s p (All-head (λ x. InState x s → ⊥) r rs n), each_fails fs rs h.1 s p (All-tail (λ x. InState x s → ⊥) r rs n))

  pub each_full : (fs : Properties) (regions : List Region) (region : Region) → All (IsRegion about.variables about.locations) regions → AreFull about fs regions → ((s : State) → IsStateOf about s → All (λ x. InState x s) regions → InState region s) → IsFull about (all_of fs) region
  each_full fs regions region over h all s p n = some_fails fs regions over h s p (λ k. n (all s p k))

  pub some_full : (fs : Properties) (regions : List Region) (region : Region) → AreFull about fs regions → All (λ x. OfPieces about x.pieces.items (InState region)) regions → IsFull about (some_of fs) region
  some_full fs regions region h all s p n = each_fails fs regions h s p (All-weaker (λ x. OfPieces about x.pieces.items (InState region)) (λ x. InState x s → ⊥) (λ x k m. n (k s p m)) regions all)

  -- ---- next states
  pub next_full : All (IsCase about.variables about.locations) about.cases → (path : Path) (f : Property) (into region : Region) → IsTame about into → OthersLeadOut about path into region → IsFull about f into → IsFull about (next path f) region
  next_full cases Every f into region tame o h s p n = (let w = o tame s p n in (w.0, w.1, h w.0 (stays_state about cases s w.0 p w.1) w.2))
  next_full cases Any f into region tame o h s p n = λ t st. h t (stays_state about cases s t p st) (o tame s p n t st)

  -- ---- what such regions have
  pub full_has_all : (f : Property) → FullHasAll about f
  full_has_all f region over full s p m = elim (told about (InState region) region (own_set about region over) s p) [
    | inl k ↦ k
    | inr n ↦ absurd (negation_excludes (CaseSteps about) f s (full s p n) m)
  ]

  pub full_tell : (f : Property) → FullTell about f
  full_tell f first second over under full opposite s p = elim (told about (InState first) first (own_set about first over) s p) [
    | inl k ↦ inl k
    | inr n ↦ inr (full_has_all (negation f) second under opposite s p (full s p n))
  ]
