-- Where the rows of the comparisons of a normal form are differences, so are those of its negation, and the other way round.
use Rattle.std.proofs.Common.{◌≡◌, inl, inr, ℕ, List, [], ◌∷◌, refl, sym, subst, pos, Bool, true, false, cond}
use Rattle.tv_program.specs.declared.tree.Relation.{Relation}
use Rattle.tv_program.specs.declared.tree.Relation.TheVariants.{Less, LessEqual, Greater, GreaterEqual, Equal, NotEqual}
use Rattle.tv_program.specs.Trees.{Expression}
use Rattle.tv_program.specs.Trees as trees
use Rattle.tv_formula.specs.Properties.{Property, truth, compare, at, term, negated, all_of, some_of, next, fix, Properties, none, more}
use Rattle.tv_formula.specs.Normal.{opposite, negation, normal, negations, normals}
use Rattle.tv_linear.specs.Linear.{Linear}
use Rattle.tv_cases.specs.Comparisons.{has_rows, comparison_lists}
use Rattle.tv_cases.specs.EdgeCases.{columns_from}
use Rattle.tv_cases.specs.Forms.{form}
use Rattle.tv_cases.specs.Lists.{at_most, compared, lists_of}
use Rattle.tv_cert.specs.Obligations.{truth_targets}
use Rattle.tv_cert.specs.Statements.{Statement, rows, Statements, stated, stated_all}
use Rattle.tv_region.specs.Met.{InSome}
use Rattle.tv_region.specs.Differences.{IsDifference}
use Rattle.tv_pre.specs.Built.{SomeHasAtom}
use Rattle.tv_pre.specs.Finding.{AreAtomsOfDifferences}
use Rattle.tv_pre.specs.Full.{HasRows, AllHaveRows}
use Rattle.tv_pre.proofs.ContraryRows.{contrary}
use Rattle.tv_pre.proofs.TameLemmas.{truth_rows}

-- ---- the rows of a comparison
one_row : (x q : Linear) → InSome ((x ∷ []) ∷ []) q → x ≡ q
one_row x q (inl (inl e)) = e
one_row x q (inl (inr n)) = absurd n
one_row x q (inr n) = absurd n

two_rows : (x y q : Linear) (P : Linear → Type 0) → P x → P y → InSome ((x ∷ y ∷ []) ∷ []) q → P q
two_rows x y q P a b (inl (inl e)) = subst P e a
two_rows x y q P a b (inl (inr (inl e))) = subst P e b
two_rows x y q P a b (inl (inr (inr n))) = absurd n
two_rows x y q P a b (inr n) = absurd n

two_lists : (x y q : Linear) (P : Linear → Type 0) → P x → P y → InSome ((x ∷ []) ∷ (y ∷ []) ∷ []) q → P q
two_lists x y q P a b (inl (inl e)) = subst P e a
two_lists x y q P a b (inl (inr n)) = absurd n
two_lists x y q P a b (inr m) = subst P (one_row y q m) b

abbrev AreDifferences : List (List Linear) → Type 0
AreDifferences lists = (q : Linear) → InSome lists q → IsDifference q

compared_contrary : (r : Relation) (a b : Linear) → AreDifferences (compared r a b) → AreDifferences (compared (opposite r) a b)
compared_contrary Less a b h q m = subst IsDifference (one_row _ q m) (contrary (pos 1) (pos 0) a b (h (at_most (pos 1) a b) (inl (inl refl))))
compared_contrary LessEqual a b h q m = subst IsDifference (one_row _ q m) (contrary (pos 0) (pos 1) a b (h (at_most (pos 0) a b) (inl (inl refl))))
compared_contrary Greater a b h q m = subst IsDifference (one_row _ q m) (contrary (pos 1) (pos 0) b a (h (at_most (pos 1) b a) (inl (inl refl))))
compared_contrary GreaterEqual a b h q m = subst IsDifference (one_row _ q m) (contrary (pos 0) (pos 1) b a (h (at_most (pos 0) b a) (inl (inl refl))))
compared_contrary Equal a b h q m =
    two_lists (at_most (pos 1) a b) (at_most (pos 1) b a) q IsDifference
    (contrary (pos 0) (pos 1) b a (h (at_most (pos 0) b a) (inl (inr (inl refl))))) (contrary (pos 0) (pos 1) a b (h (at_most (pos 0) a b) (inl (inl refl)))) m
compared_contrary NotEqual a b h q m =
    two_rows (at_most (pos 0) a b) (at_most (pos 0) b a) q IsDifference
    (contrary (pos 1) (pos 0) b a (h (at_most (pos 1) b a) (inr (inl (inl refl))))) (contrary (pos 1) (pos 0) a b (h (at_most (pos 1) a b) (inl (inl refl)))) m

in_given : (t : Bool) (lists : List (List Linear)) (q : Linear) → InSome (cond t lists []) q → InSome lists q
in_given true lists q m = m
in_given false lists q m = absurd m

module _ (n : ℕ) where
  abbrev states : Property → Statement
  states f = stated (comparison_lists n) f

  abbrev all_states : Properties → Statements
  all_states fs = stated_all (comparison_lists n) fs

  abbrev AreAll : Statements → Type 0
  AreAll ss = (lists : List (List Linear)) (q : Linear) → SomeHasAtom ss (rows lists) → InSome lists q → IsDifference q

  truth_atoms : (b : Bool) → AreAtomsOfDifferences (states (truth b))
  truth_atoms b lists q e m = (let same : lists ≡ truth_targets b = cc in absurd (truth_rows b q (subst (λ ls. InSome ls q) same m)))

  compare_contrary : (r : Relation) (a b : Expression) → has_rows n r a b ≡ true → AreAtomsOfDifferences (states (compare r a b)) → AreAtomsOfDifferences (states (compare (opposite r) a b))
  compare_contrary r a b w h lists q e m =
      let same : lists ≡ comparison_lists n (opposite r) a b = cc in
      let left = form n n (columns_from n 0 n) a in
      let right = form n n (columns_from n 0 n) b in
      compared_contrary r left right
      (λ p k. h (comparison_lists n r a b) p refl (subst (λ t. InSome (cond t (lists_of n n (columns_from n 0 n) true (trees.compare r a b)) []) p) (sym w) k)) q
      (in_given (has_rows n (opposite r) a b) (compared (opposite r) left right) q (subst (λ ls. InSome ls q) same m))

  compare_back : (r : Relation) (a b : Expression) → has_rows n (opposite r) a b ≡ true → AreAtomsOfDifferences (states (compare (opposite r) a b)) → AreAtomsOfDifferences (states (compare r a b))
  compare_back Less a b w h = compare_contrary GreaterEqual a b w h
  compare_back LessEqual a b w h = compare_contrary Greater a b w h
  compare_back Greater a b w h = compare_contrary LessEqual a b w h
  compare_back GreaterEqual a b w h = compare_contrary Less a b w h
  compare_back Equal a b w h = compare_contrary NotEqual a b w h
  compare_back NotEqual a b w h = compare_contrary Equal a b w h

  mutual
    pub denied_atoms : (f : Property) → HasRows n (normal f) → AreAtomsOfDifferences (states (normal f)) → AreAtomsOfDifferences (states (negation f))
    denied_atoms (truth b) w h = truth_atoms _
    denied_atoms (compare r a b) w h = compare_contrary r a b w h
    denied_atoms (at l) w h = λ lists q e m. absurd cc
    denied_atoms term w h = λ lists q e m. absurd e
    denied_atoms (negated f) w h = kept_atoms f w h
    denied_atoms (all_of fs) w h = all_denied_atoms fs w h
    denied_atoms (some_of fs) w h = all_denied_atoms fs w h
    denied_atoms (next path f) w h = denied_atoms f w h
    denied_atoms (fix path shape f g) w h = λ lists q e m. elim e [
      | inl k ↦ denied_atoms f w.0 (λ ls p x y. h ls p (inl x) y) lists q k m
      | inr k ↦ denied_atoms g w.1 (λ ls p x y. h ls p (inr x) y) lists q k m
    ]

    kept_atoms : (f : Property) → HasRows n (negation f) → AreAtomsOfDifferences (states (negation f)) → AreAtomsOfDifferences (states (normal f))
    kept_atoms (truth b) w h = truth_atoms b
    kept_atoms (compare r a b) w h = compare_back r a b w h
    kept_atoms (at l) w h = λ lists q e m. absurd cc
    kept_atoms term w h = λ lists q e m. absurd e
    kept_atoms (negated f) w h = denied_atoms f w h
    kept_atoms (all_of fs) w h = all_kept_atoms fs w h
    kept_atoms (some_of fs) w h = all_kept_atoms fs w h
    kept_atoms (next path f) w h = kept_atoms f w h
    kept_atoms (fix path shape f g) w h = λ lists q e m. elim e [
      | inl k ↦ kept_atoms f w.0 (λ ls p x y. h ls p (inl x) y) lists q k m
      | inr k ↦ kept_atoms g w.1 (λ ls p x y. h ls p (inr x) y) lists q k m
    ]

    all_denied_atoms : (fs : Properties) → AllHaveRows n (normals fs) → AreAll (all_states (normals fs)) → AreAll (all_states (negations fs))
    all_denied_atoms none w h = λ lists q e m. absurd e
    all_denied_atoms (more f fs) w h = λ lists q e m. elim e [
      | inl k ↦ denied_atoms f w.0 (λ ls p x y. h ls p (inl x) y) lists q k m
      | inr k ↦ all_denied_atoms fs w.1 (λ ls p x y. h ls p (inr x) y) lists q k m
    ]

    all_kept_atoms : (fs : Properties) → AllHaveRows n (negations fs) → AreAll (all_states (negations fs)) → AreAll (all_states (normals fs))
    all_kept_atoms none w h = λ lists q e m. absurd e
    all_kept_atoms (more f fs) w h = λ lists q e m. elim e [
      | inl k ↦ kept_atoms f w.0 (λ ls p x y. h ls p (inl x) y) lists q k m
      | inr k ↦ all_kept_atoms fs w.1 (λ ls p x y. h ls p (inr x) y) lists q k m
    ]
