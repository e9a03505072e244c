-- The comparisons of formulas, one after the other.
use Rattle.std.proofs.Common.{◌≡◌, ℕ, zero, suc, ◌+◌, ◌<◌, List, [], ◌∷◌, ◌++◌, length, get_or, take, drop, map, append_assoc, refl, sym, ap, ◌∙◌, subst, arith, true}
use Rattle.std.specs.Prelude.{◌&&◌, Option, Some, None}
use Rattle.std.specs.List.{list_all}
use Rattle.std.proofs.lemmas.Bool.{and_parts}
use Rattle.std.proofs.lemmas.List.{take_more, map-append, append-nil}
use Rattle.std.proofs.lemmas.List.Elements.{All-nil, All-cons, All-append}
use Rattle.tv_program.specs.Limits.{expression_fits}
use Rattle.tv_formula.specs.declared.tree.Path.{Path}
use Rattle.tv_formula.specs.declared.tree.Shape.{Shape}
use Rattle.tv_formula.specs.Properties.{Property, truth, compare, at, term, negated, all_of, some_of, next, fix, Properties, none, more}
use Rattle.tv_formula.specs.Views.{property, properties, properties_of}
use Rattle.tv_formula.specs.declared.tree.Tree.{Tree}
use Rattle.tv_formula.specs.Limits.{property_fits, properties_fit, part_fits}
use Rattle.tv_cases.specs.Forms.{is_narrow}
use Rattle.tv_cases.proofs.CaseLimits.{fits-linear}
use Rattle.tv_known.specs.Subformulas.{subformulas, all_subformulas}
use Rattle.tv_causes.specs.Widths.{all_parts, own_parts, HasOwnRows, IsFirstWideOf, IsLinear, AreLinear, TellsRows}
use Rattle.tv_causes.specs.Walks.{TellsBoth}
use Rattle.tv_causes.proofs.WideLemmas.{both_narrow, wide_before, wide_after}

-- ---- comparisons in two lists
parts_in_both : (n : ℕ) (xs ys : List Property) → all_parts n (xs ++ ys) ≡ all_parts n xs ++ all_parts n ys
parts_in_both n [] ys = refl
parts_in_both n (f ∷ xs) ys = ap (λ rows. own_parts n f ++ rows) (parts_in_both n xs ys) ∙ sym (append_assoc (own_parts n f) (all_parts n xs) (all_parts n ys))

pub first_list : (n : ℕ) (xs ys : List Property) (column : ℕ) → IsFirstWideOf (all_parts n xs) column → IsFirstWideOf (all_parts n (xs ++ ys)) column
first_list n xs ys column h = subst (λ rows. IsFirstWideOf rows column) (sym (parts_in_both n xs ys)) (wide_before (all_parts n xs) (all_parts n ys) column h)

pub second_list : (n : ℕ) (xs ys : List Property) (found : Option ℕ) → TellsBoth n xs None → TellsBoth n ys found → TellsBoth n (xs ++ ys) found
second_list n xs ys None h k = (
  ap (list_all is_narrow) (parts_in_both n xs ys) ∙ both_narrow (all_parts n xs) (all_parts n ys) h.0 k.0,
  All-append (HasOwnRows n) xs ys h.1 k.1,
)
second_list n xs ys (Some column) h k =
    subst (λ rows. IsFirstWideOf rows column) (sym (parts_in_both n xs ys)) (wide_after (all_parts n xs) (all_parts n ys) column h.0 k)

pub later_wide : (n : ℕ) (xs ys : List Property) (column : ℕ) → TellsBoth n xs None → IsFirstWideOf (all_parts n ys) column → IsFirstWideOf (all_parts n (xs ++ ys)) column
later_wide n xs ys column h k = second_list n xs ys (Some column) h k

-- a property that is no comparison
pub itself : (n : ℕ) (f : Property) → own_parts n f ≡ [] → HasOwnRows n f → TellsBoth n (f ∷ []) None
itself n f e h = (ap (λ rows. list_all is_narrow (rows ++ [])) e, All-cons (HasOwnRows n) f [] h (All-nil (HasOwnRows n)))

pub under : (n : ℕ) (f : Property) (xs : List Property) (found : Option ℕ) → own_parts n f ≡ [] → HasOwnRows n f → TellsBoth n xs found → TellsBoth n (f ∷ xs) found
under n f xs found e h k = second_list n (f ∷ []) xs found (itself n f e h) k

pub rows_of : (n : ℕ) (fs : List Property) (found : Option ℕ) → TellsBoth n fs found → TellsRows n fs found
rows_of n fs None h = h.1
rows_of n fs (Some column) h = h

-- ---- formulas one after the other
all_append : (fs : List Property) (f : Property) → all_subformulas (properties_of (fs ++ f ∷ [])) ≡ all_subformulas (properties_of fs) ++ subformulas f
all_append [] f = append-nil (subformulas f)
all_append (g ∷ fs) f = ap (λ xs. subformulas g ++ xs) (all_append fs f) ∙ sym (append_assoc (subformulas g) (all_subformulas (properties_of fs)) (subformulas f))

pub one_more : (trees : List Tree) (i : ℕ) (tree : Tree) → i < length trees → tree ≡ get_or trees i tree →
    all_subformulas (properties (take (i + 1) trees)) ≡ all_subformulas (properties (take i trees)) ++ subformulas (property tree)
one_more trees i tree l e =
    ap (λ ts. all_subformulas (properties_of ts)) (ap (map property) (take_more trees i tree l) ∙ map-append property (take i trees) (get_or trees i tree ∷ []))
    ∙ all_append (map property (take i trees)) (property (get_or trees i tree))
    ∙ ap (λ (t : Tree). all_subformulas (properties (take i trees)) ++ subformulas (property t)) (sym e)

pub in_the_middle : (trees : List Tree) (i : ℕ) (tree : Tree) → i < length trees → tree ≡ get_or trees i tree →
    all_subformulas (properties trees) ≡ all_subformulas (properties (take i trees)) ++ (subformulas (property tree) ++ all_subformulas (properties (drop (suc i) trees)))
in_the_middle [] i tree l e = absurd (omega arith)
in_the_middle (t ∷ trees) zero tree l e = ap (λ (z : Tree). subformulas (property z) ++ all_subformulas (properties trees)) (sym e)
in_the_middle (t ∷ trees) (suc i) tree l e =
    ap (λ xs. subformulas (property t) ++ xs) (in_the_middle trees i tree (omega arith) e)
    ∙ sym (append_assoc (subformulas (property t)) (all_subformulas (properties (take i trees))) (subformulas (property tree) ++ all_subformulas (properties (drop (suc i) trees))))

pub linear_later : (trees : List Tree) (i : ℕ) → AreLinear (properties trees) → AreLinear (properties (drop i trees))
linear_later trees zero h = h
linear_later [] (suc i) h = tt
linear_later (t ∷ trees) (suc i) h = linear_later trees i h.1

-- ---- whole formulas
mutual
  -- of a formula within its limits
  pub is_linear_in : (variables locations : ℕ) (f : Property) → property_fits variables locations f ≡ true → IsLinear f
  is_linear_in variables locations (truth b) h = tt
  is_linear_in variables locations (compare r a b) h =
      let both = and_parts (part_fits variables a) (part_fits variables b) h in
      let first = fits-linear variables 0 a (and_parts (expression_fits variables 0 a) _ both.0).0 in
      let second = fits-linear variables 0 b (and_parts (expression_fits variables 0 b) _ both.1).0 in
      (λ i. first i && second i)
  is_linear_in variables locations (at l) h = tt
  is_linear_in variables locations term h = tt
  is_linear_in variables locations (negated f) h = tt
  is_linear_in variables locations (all_of fs) h = are_linear_in variables locations fs h
  is_linear_in variables locations (some_of fs) h = are_linear_in variables locations fs h
  is_linear_in variables locations (next p f) h = is_linear_in variables locations f h
  is_linear_in variables locations (fix p s f g) h =
      let fit = and_parts (property_fits variables locations f) (property_fits variables locations g) h in
      (is_linear_in variables locations f fit.0, is_linear_in variables locations g fit.1)

  are_linear_in : (variables locations : ℕ) (fs : Properties) → properties_fit variables locations fs ≡ true → AreLinear fs
  are_linear_in variables locations none h = tt
  are_linear_in variables locations (more f fs) h =
      let fit = and_parts (property_fits variables locations f) (properties_fit variables locations fs) h in
      (is_linear_in variables locations f fit.0, are_linear_in variables locations fs fit.1)

-- ---- a fixpoint
pub fix_wide : (n : ℕ) (f first second : Property) (p : Path) (s : Shape) (column : ℕ) → f ≡ fix p s first second → IsFirstWideOf (all_parts n (subformulas first)) column →
    IsFirstWideOf (all_parts n (subformulas f)) column
fix_wide n f first second p s column is h =
    subst (λ g. IsFirstWideOf (all_parts n (subformulas g)) column) (sym is) (first_list n (subformulas first) (subformulas second) column h)

pub fix_told : (n : ℕ) (f first second : Property) (p : Path) (s : Shape) (found : Option ℕ) → f ≡ fix p s first second → TellsBoth n (subformulas first) None →
    TellsBoth n (subformulas second) found → TellsBoth n (subformulas f) found
fix_told n f first second p s found is h k =
    subst (λ g. TellsBoth n (subformulas g) found) (sym is)
    (under n (fix p s first second) (subformulas first ++ subformulas second) found refl tt (second_list n (subformulas first) (subformulas second) found h k))
