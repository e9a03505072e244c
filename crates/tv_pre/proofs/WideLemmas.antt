-- What is said of the comparisons among subformulas.
use Rattle.std.proofs.Common.{◌≡◌, ℕ, zero, suc, ◌+◌, ◌<◌, List, [], ◌∷◌, ◌++◌, length, get_or, take, drop, map, Some, slice_get, refl, sym, ap, ◌∙◌, subst, arith, length-append}
use Rattle.std.specs.Prelude.{Contains, ◌&&◌, true}
use Rattle.std.proofs.lemmas.List.{take_more, map-append, append_assoc, append-nil}
use Rattle.std.proofs.lemmas.List.Elements.{All-nil, All-cons, All-append, All-contains, Contains-append_left, Contains-append_right}
use Rattle.tv_formula.specs.Properties.{Property, truth, compare, at, term, negated, all_of, some_of, next, fix, Properties, none, more}
use Rattle.tv_formula.specs.Views.{property, properties, properties_of}
use Rattle.tv_formula.specs.declared.tree.Tree.{Tree}
use Rattle.tv_formula.specs.Limits.{property_fits, properties_fit, part_fits}
use Rattle.tv_cases.proofs.ContainsLemmas.{Contains-here, Contains-later}
use Rattle.tv_known.specs.Subformulas.{subformulas, all_subformulas}
use Rattle.tv_pre.specs.declared.wide.Comparisons.TheVariants.{HaveRows}
use Rattle.tv_pre.specs.Full.{HasRows, AllHaveRows}
use Rattle.tv_pre.specs.Wide.{IsLinear, AreLinear, HasOwnRows, IsWideAt, AreTold}
use Rattle.tv_cert.proofs.AimedLemmas.{part_linear}
use Rattle.std.proofs.lemmas.Bool.{and_parts}

pub left_get : {X : Type 0} (xs ys : List X) (i : ℕ) (x : X) → slice_get xs i ≡ Some x → slice_get (xs ++ ys) i ≡ Some x
left_get [] ys i x h = absurd cc
left_get (z ∷ xs) ys zero x h = h
left_get (z ∷ xs) ys (suc i) x h = left_get xs ys i x h

pub right_get : {X : Type 0} (xs ys : List X) (i : ℕ) (x : X) → slice_get ys i ≡ Some x → slice_get (xs ++ ys) (length xs + i) ≡ Some x
right_get [] ys i x h = subst (λ k. slice_get ys k ≡ Some x) (let e : i ≡ 0 + i = omega arith in e) h
right_get (z ∷ xs) ys i x h = subst (λ k. slice_get (z ∷ (xs ++ ys)) k ≡ Some x) (let e : suc (length xs + i) ≡ suc (length xs) + i = omega arith in e) (right_get xs ys i x h)

pub front_wide : (n : ℕ) (xs ys : List Property) (place : ℕ) → IsWideAt n xs place → IsWideAt n (xs ++ ys) place
front_wide n xs ys place h = record { relation = h.relation; left = h.left; right = h.right; there = left_get xs ys place (compare h.relation h.left h.right) h.there; wide = h.wide }

pub back_wide : (n : ℕ) (xs ys : List Property) (count place all : ℕ) → count ≡ length xs → all ≡ count + place → IsWideAt n ys place → IsWideAt n (xs ++ ys) all
back_wide n xs ys count place all c e h = record {
  relation = h.relation;
  left = h.left;
  right = h.right;
  there = subst (λ k. slice_get (xs ++ ys) k ≡ Some (compare h.relation h.left h.right)) (sym (e ∙ ap (λ k. k + place) c)) (right_get xs ys place (compare h.relation h.left h.right) h.there);
  wide = h.wide;
}

pub both_rows : (n : ℕ) (xs ys : List Property) (count size all : ℕ) → all ≡ count + size → AreTold n xs (HaveRows count) → AreTold n ys (HaveRows size) → AreTold n (xs ++ ys) (HaveRows all)
both_rows n xs ys count size all e h g = (
  All-append (HasOwnRows n) xs ys h.0 g.0,
  (let a = length-append xs ys in let b = h.1 in let d = g.1 in omega (arith, a, b, d, e)),
)

-- a formula itself, if it is no comparison
pub itself_told : (n : ℕ) (f : Property) → HasOwnRows n f → AreTold n (f ∷ []) (HaveRows 1)
itself_told n f h = (All-cons (HasOwnRows n) f [] h (All-nil (HasOwnRows n)), refl)

-- ---- formulas one after the other
all_append : (fs : List Property) (f : Property) → all_subformulas (properties_of (fs ++ f ∷ [])) ≡ all_subformulas (properties_of fs) ++ subformulas f
all_append [] f = append-nil (subformulas f)
all_append (g ∷ fs) f = ap (λ xs. subformulas g ++ xs) (all_append fs f) ∙ sym (append_assoc (subformulas g) (all_subformulas (properties_of fs)) (subformulas f))

pub one_more_told : (trees : List Tree) (i : ℕ) (tree : Tree) → i < length trees → tree ≡ get_or trees i tree → all_subformulas (properties (take (i + 1) trees)) ≡ all_subformulas (properties (take i trees)) ++ subformulas (property tree)
one_more_told trees i tree l e =
    ap (λ ts. all_subformulas (properties_of ts)) (ap (map property) (take_more trees i tree l) ∙ map-append property (take i trees) (get_or trees i tree ∷ []))
    ∙ all_append (map property (take i trees)) (property (get_or trees i tree))
    ∙ ap (λ (t : Tree). all_subformulas (properties (take i trees)) ++ subformulas (property t)) (sym e)

pub linear_later : (trees : List Tree) (i : ℕ) → AreLinear (properties trees) → AreLinear (properties (drop i trees))
linear_later trees zero h = h
linear_later [] (suc i) h = tt
linear_later (t ∷ trees) (suc i) h = linear_later trees i h.1

-- ---- whole formulas
mutual
  -- of a formula within its limits
  pub is_linear_in : (variables locations : ℕ) (f : Property) → property_fits variables locations f ≡ true → IsLinear f
  is_linear_in variables locations (truth b) h = tt
  is_linear_in variables locations (compare r a b) h =
      let both = and_parts (part_fits variables a) (part_fits variables b) h in
      let first = part_linear variables a both.0 in
      let second = part_linear variables b both.1 in
      (λ i. first i && second i)
  is_linear_in variables locations (at l) h = tt
  is_linear_in variables locations term h = tt
  is_linear_in variables locations (negated f) h = tt
  is_linear_in variables locations (all_of fs) h = are_linear_in variables locations fs h
  is_linear_in variables locations (some_of fs) h = are_linear_in variables locations fs h
  is_linear_in variables locations (next p f) h = is_linear_in variables locations f h
  is_linear_in variables locations (fix p s f g) h =
      let fit = and_parts (property_fits variables locations f) (property_fits variables locations g) h in
      (is_linear_in variables locations f fit.0, is_linear_in variables locations g fit.1)

  are_linear_in : (variables locations : ℕ) (fs : Properties) → properties_fit variables locations fs ≡ true → AreLinear fs
  are_linear_in variables locations none h = tt
  are_linear_in variables locations (more f fs) h =
      let fit = and_parts (property_fits variables locations f) (properties_fit variables locations fs) h in
      (is_linear_in variables locations f fit.0, are_linear_in variables locations fs fit.1)

mutual
  -- each comparison among its subformulas has rows
  pub has_all_rows : (n : ℕ) (f : Property) → ((g : Property) → Contains (subformulas f) g → HasOwnRows n g) → HasRows n f
  has_all_rows n (truth b) h = tt
  has_all_rows n (compare r a b) h = h (compare r a b) (Contains-here (compare r a b) [])
  has_all_rows n (at l) h = tt
  has_all_rows n term h = tt
  has_all_rows n (negated f) h = tt
  has_all_rows n (all_of fs) h = have_all_rows n fs (λ g k. h g (Contains-later (all_of fs) g (all_subformulas fs) k))
  has_all_rows n (some_of fs) h = have_all_rows n fs (λ g k. h g (Contains-later (some_of fs) g (all_subformulas fs) k))
  has_all_rows n (next p f) h = has_all_rows n f (λ g k. h g (Contains-later (next p f) g (subformulas f) k))
  has_all_rows n (fix p s f k) h = (
    has_all_rows n f (λ g m. h g (Contains-later (fix p s f k) g (subformulas f ++ subformulas k) (Contains-append_left (subformulas f) (subformulas k) g m))),
    has_all_rows n k (λ g m. h g (Contains-later (fix p s f k) g (subformulas f ++ subformulas k) (Contains-append_right (subformulas f) (subformulas k) g m))),
  )

  have_all_rows : (n : ℕ) (fs : Properties) → ((g : Property) → Contains (all_subformulas fs) g → HasOwnRows n g) → AllHaveRows n fs
  have_all_rows n none h = tt
  have_all_rows n (more f fs) h = (
    has_all_rows n f (λ g m. h g (Contains-append_left (subformulas f) (all_subformulas fs) g m)),
    have_all_rows n fs (λ g m. h g (Contains-append_right (subformulas f) (all_subformulas fs) g m)),
  )

pub rows_told : (n : ℕ) (f : Property) (size : ℕ) → AreTold n (subformulas f) (HaveRows size) → HasRows n f
rows_told n f size h = has_all_rows n f (λ g k. All-contains (HasOwnRows n) (subformulas f) g h.0 k)
