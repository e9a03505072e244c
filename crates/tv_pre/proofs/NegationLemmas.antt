-- What stands in a negation, and that it is denied twice by the formula itself.
use Rattle.std.proofs.Common.{◌≡◌, inl, inr, List, [], ◌∷◌, ◌++◌, refl, sym, ap, ◌∙◌, subst}
use Rattle.std.specs.Prelude.{Contains}
use Rattle.std.proofs.lemmas.List.Elements.{Contains-append_left, Contains-append_right, Contains-append_cases}
use Rattle.tv_program.specs.declared.tree.Relation.{Relation}
use Rattle.tv_program.specs.declared.tree.Relation.TheVariants.{Less, LessEqual, Greater, GreaterEqual, Equal, NotEqual}
use Rattle.tv_formula.specs.declared.tree.Path.{Path}
use Rattle.tv_formula.specs.declared.tree.Path.TheVariants.{Every, Any}
use Rattle.tv_formula.specs.declared.tree.Shape.{Shape}
use Rattle.tv_formula.specs.declared.tree.Shape.TheVariants.{Until, Weak, Release, Strong}
use Rattle.tv_formula.specs.Properties.{Property, truth, compare, at, term, negated, all_of, some_of, next, fix, Properties, none, more}
use Rattle.tv_formula.specs.Normal.{opposite, other_path, other_shape, negation, normal, negations, normals}
use Rattle.tv_known.specs.Subformulas.{subformulas, all_subformulas}
use Rattle.tv_cases.proofs.ContainsLemmas.{Contains-here, Contains-later, Contains-cases, Contains-none}
use Rattle.std.proofs.Math.Bool.{not-not}

pub opposite_twice : (r : Relation) → opposite (opposite r) ≡ r
opposite_twice Less = refl
opposite_twice LessEqual = refl
opposite_twice Greater = refl
opposite_twice GreaterEqual = refl
opposite_twice Equal = refl
opposite_twice NotEqual = refl

pub path_twice : (p : Path) → other_path (other_path p) ≡ p
path_twice Every = refl
path_twice Any = refl

pub shape_twice : (s : Shape) → other_shape (other_shape s) ≡ s
shape_twice Until = refl
shape_twice Weak = refl
shape_twice Release = refl
shape_twice Strong = refl

mutual
  pub negation_of_normal : (f : Property) → negation (normal f) ≡ negation f
  negation_of_normal (truth b) = refl
  negation_of_normal (compare r a b) = refl
  negation_of_normal (at l) = refl
  negation_of_normal term = refl
  negation_of_normal (negated f) = negation_twice f
  negation_of_normal (all_of fs) = ap some_of (negations_of_normals fs)
  negation_of_normal (some_of fs) = ap all_of (negations_of_normals fs)
  negation_of_normal (next p f) = ap (next (other_path p)) (negation_of_normal f)
  negation_of_normal (fix p s f g) = λ i. fix (other_path p) (other_shape s) (negation_of_normal f i) (negation_of_normal g i)

  pub negation_twice : (f : Property) → negation (negation f) ≡ normal f
  negation_twice (truth b) = ap truth (not-not b)
  negation_twice (compare r a b) = ap (λ q. compare q a b) (opposite_twice r)
  negation_twice (at l) = refl
  negation_twice term = refl
  negation_twice (negated f) = negation_of_normal f
  negation_twice (all_of fs) = ap all_of (negations_twice fs)
  negation_twice (some_of fs) = ap some_of (negations_twice fs)
  negation_twice (next p f) = λ i. next (path_twice p i) (negation_twice f i)
  negation_twice (fix p s f g) = λ i. fix (path_twice p i) (shape_twice s i) (negation_twice f i) (negation_twice g i)

  negations_of_normals : (fs : Properties) → negations (normals fs) ≡ negations fs
  negations_of_normals none = refl
  negations_of_normals (more f fs) = λ i. more (negation_of_normal f i) (negations_of_normals fs i)

  negations_twice : (fs : Properties) → negations (negations fs) ≡ normals fs
  negations_twice none = refl
  negations_twice (more f fs) = λ i. more (negation_twice f i) (negations_twice fs i)

-- ---- the negation of each subformula of the negation stands in the normal form, and the other way round
alone : (a b p : Property) (gs hs : List Property) → negation a ≡ b → (Contains gs p → Contains hs (negation p)) → Contains (a ∷ gs) p → Contains (b ∷ hs) (negation p)
alone a b p gs hs e later m = elim (Contains-cases a p gs m) [
  | inl x ↦ subst (Contains (b ∷ hs)) (sym e ∙ ap negation x) (Contains-here b hs)
  | inr n ↦ Contains-later b (negation p) hs (later n)
]

both : (p : Property) (gs hs ks ms : List Property) → (Contains gs p → Contains ks (negation p)) → (Contains hs p → Contains ms (negation p)) → Contains (gs ++ hs) p → Contains (ks ++ ms) (negation p)
both p gs hs ks ms left right m = elim (Contains-append_cases gs hs p m) [
  | inl n ↦ Contains-append_left ks ms (negation p) (left n)
  | inr n ↦ Contains-append_right ks ms (negation p) (right n)
]

nothing : (p : Property) → Contains [] p → Contains [] (negation p)
nothing p n = absurd (Contains-none p n)

mutual
  pub denied_stands : (f p : Property) → Contains (subformulas (negation f)) p → Contains (subformulas (normal f)) (negation p)
  denied_stands (truth b) p m = alone (negation (truth b)) (truth b) p [] [] (negation_twice (truth b)) (nothing p) m
  denied_stands (compare r a b) p m = alone (negation (compare r a b)) (compare r a b) p [] [] (negation_twice (compare r a b)) (nothing p) m
  denied_stands (at l) p m = alone (negation (at l)) (at l) p [] [] refl (nothing p) m
  denied_stands term p m = alone (negation term) term p [] [] refl (nothing p) m
  denied_stands (negated f) p m = kept_stands f p m
  denied_stands (all_of fs) p m = alone (negation (all_of fs)) (normal (all_of fs)) p (all_subformulas (negations fs)) (all_subformulas (normals fs)) (negation_twice (all_of fs)) (λ n. all_denied_stand fs p n) m
  denied_stands (some_of fs) p m = alone (negation (some_of fs)) (normal (some_of fs)) p (all_subformulas (negations fs)) (all_subformulas (normals fs)) (negation_twice (some_of fs)) (λ n. all_denied_stand fs p n) m
  denied_stands (next q f) p m = alone (negation (next q f)) (normal (next q f)) p (subformulas (negation f)) (subformulas (normal f)) (negation_twice (next q f)) (λ n. denied_stands f p n) m
  denied_stands (fix q s f g) p m = alone (negation (fix q s f g)) (normal (fix q s f g)) p (subformulas (negation f) ++ subformulas (negation g)) (subformulas (normal f) ++ subformulas (normal g)) (negation_twice (fix q s f g))
      (λ n. both p (subformulas (negation f)) (subformulas (negation g)) (subformulas (normal f)) (subformulas (normal g)) (λ k. denied_stands f p k) (λ k. denied_stands g p k) n) m

  kept_stands : (f p : Property) → Contains (subformulas (normal f)) p → Contains (subformulas (negation f)) (negation p)
  kept_stands (truth b) p m = alone (truth b) (negation (truth b)) p [] [] refl (nothing p) m
  kept_stands (compare r a b) p m = alone (compare r a b) (negation (compare r a b)) p [] [] refl (nothing p) m
  kept_stands (at l) p m = alone (at l) (negation (at l)) p [] [] refl (nothing p) m
  kept_stands term p m = alone term (negation term) p [] [] refl (nothing p) m
  kept_stands (negated f) p m = denied_stands f p m
  kept_stands (all_of fs) p m = alone (normal (all_of fs)) (negation (all_of fs)) p (all_subformulas (normals fs)) (all_subformulas (negations fs)) (negation_of_normal (all_of fs)) (λ n. all_kept_stand fs p n) m
  kept_stands (some_of fs) p m = alone (normal (some_of fs)) (negation (some_of fs)) p (all_subformulas (normals fs)) (all_subformulas (negations fs)) (negation_of_normal (some_of fs)) (λ n. all_kept_stand fs p n) m
  kept_stands (next q f) p m = alone (normal (next q f)) (negation (next q f)) p (subformulas (normal f)) (subformulas (negation f)) (negation_of_normal (next q f)) (λ n. kept_stands f p n) m
  kept_stands (fix q s f g) p m = alone (normal (fix q s f g)) (negation (fix q s f g)) p (subformulas (normal f) ++ subformulas (normal g)) (subformulas (negation f) ++ subformulas (negation g)) (negation_of_normal (fix q s f g))
      (λ n. both p (subformulas (normal f)) (subformulas (normal g)) (subformulas (negation f)) (subformulas (negation g)) (λ k. kept_stands f p k) (λ k. kept_stands g p k) n) m

  all_denied_stand : (fs : Properties) (p : Property) → Contains (all_subformulas (negations fs)) p → Contains (all_subformulas (normals fs)) (negation p)
  all_denied_stand none p m = nothing p m
  all_denied_stand (more f fs) p m = both p (subformulas (negation f)) (all_subformulas (negations fs)) (subformulas (normal f)) (all_subformulas (normals fs)) (λ k. denied_stands f p k) (λ k. all_denied_stand fs p k) m

  all_kept_stand : (fs : Properties) (p : Property) → Contains (all_subformulas (normals fs)) p → Contains (all_subformulas (negations fs)) (negation p)
  all_kept_stand none p m = nothing p m
  all_kept_stand (more f fs) p m = both p (subformulas (normal f)) (all_subformulas (normals fs)) (subformulas (negation f)) (all_subformulas (negations fs)) (λ k. kept_stands f p k) (λ k. all_kept_stand fs p k) m
