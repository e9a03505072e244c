-- The normal form and the negation are normal, and they keep the limits.
use Rattle.std.proofs.Common.{◌≡◌, ℕ, ◌+◌, ◌≤◌, true, List, [], ◌∷◌, map, refl, ap, ◌∙◌, arith}
use Rattle.std.proofs.lemmas.Bool.Decides.{nat_tests}
use Rattle.std.specs.Prelude.{nat_le}
use Rattle.tv_formula.specs.Properties.{Property, truth, compare, at, term, negated, all_of, some_of, next, fix, Properties, none, more}
use Rattle.tv_formula.specs.Views.{properties_of}
use Rattle.tv_formula.specs.Forms.{is_mark, is_normal, are_normal}
use Rattle.tv_formula.specs.Normal.{negation, normal, negations, normals}
use Rattle.tv_formula.specs.Limits.{property_fits, properties_fit, operators, most_operators, nots, most_nots, IsFormula}
use Rattle.std.proofs.lemmas.Bool.{and_from, and_parts}

-- the parts of a list, one by one
pub negations_of : (fs : List Property) → negations (properties_of fs) ≡ properties_of (map negation fs)
negations_of [] = refl
negations_of (f ∷ fs) = ap (more (negation f)) (negations_of fs)

pub normals_of : (fs : List Property) → normals (properties_of fs) ≡ properties_of (map normal fs)
normals_of [] = refl
normals_of (f ∷ fs) = ap (more (normal f)) (normals_of fs)

mutual
  pub negation_normal : (f : Property) → is_normal (negation f) ≡ true
  negation_normal (truth b) = refl
  negation_normal (compare r a b) = refl
  negation_normal (at l) = refl
  negation_normal term = refl
  negation_normal (negated f) = normal_normal f
  negation_normal (all_of fs) = negations_normal fs
  negation_normal (some_of fs) = negations_normal fs
  negation_normal (next p f) = negation_normal f
  negation_normal (fix p s f g) = and_from _ _ (negation_normal f) (negation_normal g)

  pub normal_normal : (f : Property) → is_normal (normal f) ≡ true
  normal_normal (truth b) = refl
  normal_normal (compare r a b) = refl
  normal_normal (at l) = refl
  normal_normal term = refl
  normal_normal (negated f) = negation_normal f
  normal_normal (all_of fs) = normals_normal fs
  normal_normal (some_of fs) = normals_normal fs
  normal_normal (next p f) = normal_normal f
  normal_normal (fix p s f g) = and_from _ _ (normal_normal f) (normal_normal g)

  negations_normal : (fs : Properties) → are_normal (negations fs) ≡ true
  negations_normal none = refl
  negations_normal (more f fs) = and_from _ _ (negation_normal f) (negations_normal fs)

  normals_normal : (fs : Properties) → are_normal (normals fs) ≡ true
  normals_normal none = refl
  normals_normal (more f fs) = and_from _ _ (normal_normal f) (normals_normal fs)

-- a normal property has one negation on a path at most
mark_nots : (f : Property) → is_mark f ≡ true → nots f ≡ 0
mark_nots (at l) h = refl
mark_nots term h = refl
mark_nots (truth b) h = absurd cc
mark_nots (compare r a b) h = absurd cc
mark_nots (negated f) h = absurd cc
mark_nots (all_of fs) h = absurd cc
mark_nots (some_of fs) h = absurd cc
mark_nots (next p f) h = absurd cc
mark_nots (fix p s f g) h = absurd cc

mutual
  normal_nots : (f : Property) → is_normal f ≡ true → nots f ≤ 1
  normal_nots (truth b) h = omega arith
  normal_nots (compare r a b) h = omega arith
  normal_nots (at l) h = omega arith
  normal_nots term h = omega arith
  normal_nots (negated f) h = let e = mark_nots f h in omega arith
  normal_nots (all_of fs) h = normals_nots fs h
  normal_nots (some_of fs) h = normals_nots fs h
  normal_nots (next p f) h = normal_nots f h
  normal_nots (fix p s f g) h = let a = normal_nots f ((and_parts _ _ h).0) in let b = normal_nots g ((and_parts (is_normal f) _ h).1) in omega arith

  normals_nots : (fs : Properties) → are_normal fs ≡ true → most_nots fs ≤ 1
  normals_nots none h = omega arith
  normals_nots (more f fs) h = let a = normal_nots f ((and_parts _ _ h).0) in let b = normals_nots fs ((and_parts (is_normal f) _ h).1) in omega arith

-- the same operators lie on a path
mutual
  negation_operators : (f : Property) → operators (negation f) ≡ operators f
  negation_operators (truth b) = refl
  negation_operators (compare r a b) = refl
  negation_operators (at l) = refl
  negation_operators term = refl
  negation_operators (negated f) = normal_operators f
  negation_operators (all_of fs) = ap (λ (n : ℕ). 1 + n) (negations_operators fs)
  negation_operators (some_of fs) = ap (λ (n : ℕ). 1 + n) (negations_operators fs)
  negation_operators (next p f) = ap (λ (n : ℕ). 1 + n) (negation_operators f)
  negation_operators (fix p s f g) = rw (negation_operators f, negation_operators g) refl

  normal_operators : (f : Property) → operators (normal f) ≡ operators f
  normal_operators (truth b) = refl
  normal_operators (compare r a b) = refl
  normal_operators (at l) = refl
  normal_operators term = refl
  normal_operators (negated f) = negation_operators f
  normal_operators (all_of fs) = ap (λ (n : ℕ). 1 + n) (normals_operators fs)
  normal_operators (some_of fs) = ap (λ (n : ℕ). 1 + n) (normals_operators fs)
  normal_operators (next p f) = ap (λ (n : ℕ). 1 + n) (normal_operators f)
  normal_operators (fix p s f g) = rw (normal_operators f, normal_operators g) refl

  negations_operators : (fs : Properties) → most_operators (negations fs) ≡ most_operators fs
  negations_operators none = refl
  negations_operators (more f fs) = rw (negation_operators f, negations_operators fs) refl

  normals_operators : (fs : Properties) → most_operators (normals fs) ≡ most_operators fs
  normals_operators none = refl
  normals_operators (more f fs) = rw (normal_operators f, normals_operators fs) refl

-- the same variables and locations are spoken of
module _ (v l : ℕ) where
  mutual
    negation_fits : (f : Property) → property_fits v l (negation f) ≡ property_fits v l f
    negation_fits (truth b) = refl
    negation_fits (compare r a b) = refl
    negation_fits (at k) = refl
    negation_fits term = refl
    negation_fits (negated f) = normal_fits f
    negation_fits (all_of fs) = negations_fit fs
    negation_fits (some_of fs) = negations_fit fs
    negation_fits (next p f) = negation_fits f
    negation_fits (fix p s f g) = rw (negation_fits f, negation_fits g) refl

    normal_fits : (f : Property) → property_fits v l (normal f) ≡ property_fits v l f
    normal_fits (truth b) = refl
    normal_fits (compare r a b) = refl
    normal_fits (at k) = refl
    normal_fits term = refl
    normal_fits (negated f) = negation_fits f
    normal_fits (all_of fs) = normals_fit fs
    normal_fits (some_of fs) = normals_fit fs
    normal_fits (next p f) = normal_fits f
    normal_fits (fix p s f g) = rw (normal_fits f, normal_fits g) refl

    negations_fit : (fs : Properties) → properties_fit v l (negations fs) ≡ properties_fit v l fs
    negations_fit none = refl
    negations_fit (more f fs) = rw (negation_fits f, negations_fit fs) refl

    normals_fit : (fs : Properties) → properties_fit v l (normals fs) ≡ properties_fit v l fs
    normals_fit none = refl
    normals_fit (more f fs) = rw (normal_fits f, normals_fit fs) refl

few_nots : (n : ℕ) → n ≤ 1 → nat_le n 64 ≡ true
few_nots n h = grind (arith, nat_tests)

pub negation_limits : (v l : ℕ) (f : Property) → IsFormula v l f → IsFormula v l (negation f)
negation_limits v l f h = record {
  fits = negation_fits v l f ∙ h.fits;
  few_operators = ap (λ (n : ℕ). nat_le n 200) (negation_operators f) ∙ h.few_operators;
  few_nots = few_nots (nots (negation f)) (normal_nots (negation f) (negation_normal f));
}

pub normal_limits : (v l : ℕ) (f : Property) → IsFormula v l f → IsFormula v l (normal f)
normal_limits v l f h = record {
  fits = normal_fits v l f ∙ h.fits;
  few_operators = ap (λ (n : ℕ). nat_le n 200) (normal_operators f) ∙ h.few_operators;
  few_nots = few_nots (nots (normal f)) (normal_nots (normal f) (normal_normal f));
}

-- the same of formulas that are known by equations
pub negation_keeps : (v w l m : ℕ) (f g h : Property) → v ≡ w → l ≡ m → h ≡ negation g → g ≡ f → IsFormula w m f → IsFormula v l h
negation_keeps v w l m f g h a b c d i = rw (a, b, c, d) (negation_limits w m f i)

pub normal_keeps : (v w l m : ℕ) (f g h : Property) → v ≡ w → l ≡ m → h ≡ normal g → g ≡ f → IsFormula w m f → IsFormula v l h
normal_keeps v w l m f g h a b c d i = rw (a, b, c, d) (normal_limits w m f i)

pub negation_is_normal : (f g : Property) → g ≡ negation f → is_normal g ≡ true
negation_is_normal f g e = rw e (negation_normal f)

pub normal_is_normal : (f g : Property) → g ≡ normal f → is_normal g ≡ true
normal_is_normal f g e = rw e (normal_normal f)
