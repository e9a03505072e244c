-- The condition that a property of one state is at a location: it is true exactly where the property holds, and fits where the property does.
use Rattle.std.proofs.Common.{◌≡◌, ◌⊎◌, ◌↔◌, inl, inr, ℕ, ◌+◌, ◌∙◌, List, [], ◌∷◌, map, refl, sym, ap, arith, Bool, true, false, not, ℤ, neg_ℤ, ◌+ℤ◌, ◌*ℤ◌, ltb-true}
use Rattle.std.specs.Prelude.{◌&&◌, ◌||◌, nat_lt, nat_le, max}
use Rattle.std.proofs.lemmas.Bool.{and_parts, eq-eqb, eqb-true}
use Rattle.tv_program.specs.Limits.{is_linear_product, expression_fits, expressions_fit, expression_depth, condition_fits, conditions_fit, condition_depth, conditions_depth}
use Rattle.tv_program.specs.Meaning.{value_of, sum_of, product_of, compares, truth_of, all_true, some_true}
use Rattle.tv_program.specs.Steps.{State}
use Rattle.tv_program.specs.Trees.{Expression, number, variable, draw, minus, sum, product, Expressions, no_part, part, test}
use Rattle.tv_program.specs.Views.{tests_of}
use Rattle.tv_formula.specs.Forms.{is_local, are_local}
use Rattle.tv_formula.specs.Limits.{part_fits, property_fits, properties_fit}
use Rattle.tv_formula.specs.Properties.{Property, truth, compare, at, term, negated, all_of, some_of, next, fix, Properties, none, more}
use Rattle.tv_formula.specs.Views.{properties_of}
use Rattle.tv_meaning.specs.Meaning.{Holds, AllHold, SomeHolds}
use Rattle.tv_finitely.specs.Doubling.{condition_at, conditions_at}

pub tests-at : (l : ℕ) (fs : List Property) → tests_of (map (condition_at l) fs) ≡ conditions_at l (properties_of fs)
tests-at l [] = refl
tests-at l (f ∷ fs) = ap (test (condition_at l f)) (tests-at l fs)

-- ---- it is as deep at each location

mutual
  pub depth-at : (l m : ℕ) (f : Property) → condition_depth (condition_at l f) ≡ condition_depth (condition_at m f)
  depth-at l m (truth b) = refl
  depth-at l m (compare r a b) = refl
  depth-at l m (at k) = refl
  depth-at l m term = refl
  depth-at l m (negated f) = ap (λ n. 1 + n) (depth-at l m f)
  depth-at l m (all_of fs) = ap (λ n. 1 + n) (depths-at l m fs)
  depth-at l m (some_of fs) = ap (λ n. 1 + n) (depths-at l m fs)
  depth-at l m (next p f) = refl
  depth-at l m (fix p s f g) = refl

  depths-at : (l m : ℕ) (fs : Properties) → conditions_depth (conditions_at l fs) ≡ conditions_depth (conditions_at m fs)
  depths-at l m none = refl
  depths-at l m (more f fs) = (λ i. max (depth-at l m f i) (depths-at l m fs i))

-- ---- what fits without draws fits with any

no-draw : (d : ℕ) → nat_lt d 0 ≡ true → ⊥
no-draw d h = let below = ltb-true d 0 h in absurd (omega arith)

module _ (variables draws : ℕ) where
  mutual
    drawless-fits : (e : Expression) → expression_fits variables 0 e ≡ true → expression_fits variables draws e ≡ true
    drawless-fits (number z) h = h
    drawless-fits (variable v) h = h
    drawless-fits (draw d) h = absurd (no-draw d h)
    drawless-fits (minus e) h = drawless-fits e h
    drawless-fits (sum es) h = drawless-fit es h
    drawless-fits (product es) h =
        let both = and_parts (is_linear_product es) (expressions_fit variables 0 es) h in
        let rest = drawless-fit es both.1 in
        (λ i. both.0 i && rest i)

    drawless-fit : (es : Expressions) → expressions_fit variables 0 es ≡ true → expressions_fit variables draws es ≡ true
    drawless-fit no_part h = refl
    drawless-fit (part e es) h =
        let both = and_parts (expression_fits variables 0 e) (expressions_fit variables 0 es) h in
        let here = drawless-fits e both.0 in
        let rest = drawless-fit es both.1 in
        (λ i. here i && rest i)

  part-fits : (e : Expression) → part_fits variables e ≡ true → expression_fits variables draws e ≡ true
  part-fits e h = drawless-fits e (and_parts (expression_fits variables 0 e) (nat_le (expression_depth e) 400) h).0

  mutual
    pub fits-at : (locations l : ℕ) (f : Property) → property_fits variables locations f ≡ true → condition_fits variables draws (condition_at l f) ≡ true
    fits-at locations l (truth b) h = refl
    fits-at locations l (compare r a b) h =
        let both = and_parts (part_fits variables a) (part_fits variables b) h in
        let left = part-fits a both.0 in
        let right = part-fits b both.1 in
        (λ i. left i && right i)
    fits-at locations l (at k) h = refl
    fits-at locations l term h = refl
    fits-at locations l (negated f) h = fits-at locations l f h
    fits-at locations l (all_of fs) h = all-fit-at locations l fs h
    fits-at locations l (some_of fs) h = all-fit-at locations l fs h
    fits-at locations l (next p f) h = refl
    fits-at locations l (fix p s f g) h = refl

    all-fit-at : (locations l : ℕ) (fs : Properties) → properties_fit variables locations fs ≡ true → conditions_fit variables draws (conditions_at l fs) ≡ true
    all-fit-at locations l none h = refl
    all-fit-at locations l (more f fs) h =
        let both = and_parts (property_fits variables locations f) (properties_fit variables locations fs) h in
        let here = fits-at locations l f both.0 in
        let rest = all-fit-at locations l fs both.1 in
        (λ i. here i && rest i)

-- ---- what it says

mutual
  drawless-value : (n : ℕ) (e : Expression) (xs ds : List ℤ) → expression_fits n 0 e ≡ true → value_of e xs ds ≡ value_of e xs []
  drawless-value n (number z) xs ds h = refl
  drawless-value n (variable v) xs ds h = refl
  drawless-value n (draw d) xs ds h = absurd (no-draw d h)
  drawless-value n (minus e) xs ds h = ap neg_ℤ (drawless-value n e xs ds h)
  drawless-value n (sum es) xs ds h = drawless-sum n es xs ds h
  drawless-value n (product es) xs ds h = drawless-product n es xs ds (and_parts (is_linear_product es) (expressions_fit n 0 es) h).1

  drawless-sum : (n : ℕ) (es : Expressions) (xs ds : List ℤ) → expressions_fit n 0 es ≡ true → sum_of es xs ds ≡ sum_of es xs []
  drawless-sum n no_part xs ds h = refl
  drawless-sum n (part e es) xs ds h =
      let both = and_parts (expression_fits n 0 e) (expressions_fit n 0 es) h in
      (λ i. drawless-value n e xs ds both.0 i +ℤ drawless-sum n es xs ds both.1 i)

  drawless-product : (n : ℕ) (es : Expressions) (xs ds : List ℤ) → expressions_fit n 0 es ≡ true → product_of es xs ds ≡ product_of es xs []
  drawless-product n no_part xs ds h = refl
  drawless-product n (part e es) xs ds h =
      let both = and_parts (expression_fits n 0 e) (expressions_fit n 0 es) h in
      (λ i. drawless-value n e xs ds both.0 i *ℤ drawless-product n es xs ds both.1 i)

part-value : (n : ℕ) (e : Expression) (xs ds : List ℤ) → part_fits n e ≡ true → value_of e xs ds ≡ value_of e xs []
part-value n e xs ds h = drawless-value n e xs ds (and_parts (expression_fits n 0 e) (nat_le (expression_depth e) 400) h).0

-- a test is true exactly where a fact holds
abbrev pub Tells : Bool → Type 0 → Type 0
Tells b P = (b ≡ true) ↔ P

tells-not : (b : Bool) (P : Type 0) → Tells b P → Tells (not b) (¬ P)
tells-not true P h = (λ k. absurd cc, λ no. absurd (no (h.0 refl)))
tells-not false P h = (λ k p. let e : false ≡ true = h.1 p in absurd cc, λ no. refl)

tells-both : (a b : Bool) (P Q : Type 0) → Tells a P → Tells b Q → Tells (a && b) (P × Q)
tells-both true b P Q h k = (λ t. (h.0 refl, k.0 t), λ both. k.1 both.1)
tells-both false b P Q h k = (λ t. absurd cc, λ both. h.1 both.0)

tells-either : (a b : Bool) (P Q : Type 0) → Tells a P → Tells b Q → Tells (a || b) (P ⊎ Q)
tells-either true b P Q h k = (λ t. inl (h.0 refl), λ either. refl)
tells-either false b P Q h k = (λ t. inr (k.0 t), λ either. elim either [ inl p ↦ (let e : false ≡ true = h.1 p in absurd cc) | inr q ↦ k.1 q ])

decided : (b : Bool) (P : Type 0) → Tells b P → P ⊎ (¬ P)
decided true P h = inl (h.0 refl)
decided false P h = inr (λ p. let e : false ≡ true = h.1 p in absurd cc)

module _ (step : State → State → Type 0) (variables locations : ℕ) where
  mutual
    pub holds-at : (f : Property) → is_local f ≡ true → property_fits variables locations f ≡ true → (s : State) (ds : List ℤ) → Tells (truth_of (condition_at s.location f) s.values ds) (Holds step f s)
    holds-at (truth b) h fits s ds = (λ t. t, λ t. t)
    holds-at (compare r a b) h fits s ds =
        let both = and_parts (part_fits variables a) (part_fits variables b) fits in
        let left = part-value variables a s.values ds both.0 in
        let right = part-value variables b s.values ds both.1 in
        let e : compares r (value_of a s.values ds) (value_of b s.values ds) ≡ compares r (value_of a s.values []) (value_of b s.values []) = (λ i. compares r (left i) (right i)) in
        (λ t. sym e ∙ t, λ t. e ∙ t)
    holds-at (at l) h fits s ds = (λ t. eqb-true s.location l t, λ e. eq-eqb s.location l e)
    holds-at term h fits s ds = absurd cc
    holds-at (negated f) h fits s ds = tells-not (truth_of (condition_at s.location f) s.values ds) (Holds step f s) (holds-at f h fits s ds)
    holds-at (all_of fs) h fits s ds = all-hold-at fs h fits s ds
    holds-at (some_of fs) h fits s ds = some-holds-at fs h fits s ds
    holds-at (next p f) h fits s ds = absurd cc
    holds-at (fix p w f g) h fits s ds = absurd cc

    all-hold-at : (fs : Properties) → are_local fs ≡ true → properties_fit variables locations fs ≡ true → (s : State) (ds : List ℤ) → Tells (all_true (conditions_at s.location fs) s.values ds) (AllHold step fs s)
    all-hold-at none h fits s ds = (λ t. tt, λ t. refl)
    all-hold-at (more f fs) h fits s ds =
        let locals = and_parts (is_local f) (are_local fs) h in
        let both = and_parts (property_fits variables locations f) (properties_fit variables locations fs) fits in
        tells-both (truth_of (condition_at s.location f) s.values ds) (all_true (conditions_at s.location fs) s.values ds) (Holds step f s) (AllHold step fs s) (holds-at f locals.0 both.0 s ds)
        (all-hold-at fs locals.1 both.1 s ds)

    some-holds-at : (fs : Properties) → are_local fs ≡ true → properties_fit variables locations fs ≡ true → (s : State) (ds : List ℤ) → Tells (some_true (conditions_at s.location fs) s.values ds) (SomeHolds step fs s)
    some-holds-at none h fits s ds = (λ t. absurd cc, λ t. absurd t)
    some-holds-at (more f fs) h fits s ds =
        let locals = and_parts (is_local f) (are_local fs) h in
        let both = and_parts (property_fits variables locations f) (properties_fit variables locations fs) fits in
        tells-either (truth_of (condition_at s.location f) s.values ds) (some_true (conditions_at s.location fs) s.values ds) (Holds step f s) (SomeHolds step fs s) (holds-at f locals.0 both.0 s ds)
        (some-holds-at fs locals.1 both.1 s ds)

  -- it holds or does not
  pub holds-decided : (f : Property) → is_local f ≡ true → property_fits variables locations f ≡ true → (s : State) → Holds step f s ⊎ (¬ (Holds step f s))
  holds-decided f h fits s = decided (truth_of (condition_at s.location f) s.values []) (Holds step f s) (holds-at f h fits s [])

  -- and where it does not, the condition is false
  pub fails-at : (f : Property) → is_local f ≡ true → property_fits variables locations f ≡ true → (s : State) (ds : List ℤ) → Tells (not (truth_of (condition_at s.location f) s.values ds)) (¬ (Holds step f s))
  fails-at f h fits s ds = tells-not (truth_of (condition_at s.location f) s.values ds) (Holds step f s) (holds-at f h fits s ds)
