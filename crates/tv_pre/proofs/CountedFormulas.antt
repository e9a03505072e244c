-- How many pieces the refusals of a formula report, and how many targets its refused questions have.
use Rattle.std.proofs.Common.{◌≡◌, inl, inr, ℕ, zero, suc, ◌+◌, ◌<◌, ◌≤◌, List, [], ◌∷◌, ◌++◌, length, get_or, sym, subst, arith}
use Rattle.std.specs.Prelude.{Contains, max, sum}
use Rattle.std.proofs.Math.Nat.{le-max_left, le-max_right, max-le, le_refl}
use Rattle.tv_program.specs.declared.tree.Relation.{Relation}
use Rattle.tv_program.specs.declared.tree.Relation.TheVariants.{Less, LessEqual, Greater, GreaterEqual, Equal, NotEqual}
use Rattle.tv_formula.specs.declared.tree.Path.{Path}
use Rattle.tv_formula.specs.declared.tree.Path.TheVariants.{Every, Any}
use Rattle.tv_formula.specs.declared.tree.Shape.{Shape}
use Rattle.tv_formula.specs.declared.tree.Shape.TheVariants.{Release}
use Rattle.tv_formula.specs.Parts.{HasParts, AreSomeParts, AllHaveParts}
use Rattle.tv_formula.specs.Properties.{Property, truth, compare, at, term, negated, all_of, some_of, next, fix, Properties, none, more}
use Rattle.tv_linear.specs.declared.region.Region.{Region}
use Rattle.tv_farkas.specs.declared.budget.Budget.{Budget}
use Rattle.tv_farkas.specs.declared.fault.CoverFault.{CoverFault}
use Rattle.tv_cases.specs.Comparisons.{comparison_lists}
use Rattle.tv_cases.specs.LinearCases.{LinearCase, CaseSystem}
use Rattle.tv_cases.proofs.AmountLemmas.{sum-cons}
use Rattle.tv_cases.proofs.ContainsLemmas.{Contains-here, Contains-cases, Contains-none}
use Rattle.tv_cert.specs.declared.aim.Aim.{Aim}
use Rattle.tv_cert.specs.declared.node.Node.{Node}
use Rattle.tv_cert.specs.AimViews.{statements_of, aim_states, aims_state}
use Rattle.tv_cert.specs.Statements.{Statement, each_of, one_of, after, along, Statements, stated, stated_all}
use Rattle.tv_known.specs.Cycles.{IsLastRound}
use Rattle.tv_known.specs.Sizes.{product, next_count, fix_count, round_count, comparison_count, negated_count, count, product_count, sum_count, greatest_count, greatest_counts}
use Rattle.tv_known.specs.Subformulas.{subformulas, all_subformulas}
use Rattle.tv_known.proofs.SizeLemmas.{up_to_greatest, part_count, trans, two_ones}
use Rattle.tv_region.specs.Regions.{lists_at, count_at}
use Rattle.tv_region.specs.StepRegions.{HasNoDraws}
use Rattle.tv_rounds.proofs.CountLemmas.{all_one, some_one}
use Rattle.tv_pre.specs.declared.fault.PreFault.{PreFault}
use Rattle.tv_pre.specs.declared.outcome.Found.{Found}
use Rattle.tv_pre.specs.Arguments.{AreEachArgument}
use Rattle.tv_pre.specs.Built.{HasAtom, IsAsked, IsBuiltOf}
use Rattle.tv_pre.specs.Counted.{IsWithin, IsWithinFew, IsCountedFor, AreCountedFor, some_counts_at, IsCountedBefore}
use Rattle.tv_pre.specs.Faults.{IsOfCover}
use Rattle.tv_pre.specs.Finding.{IsFound, steps_back, all_steps_back}
use Rattle.tv_pre.specs.Parts.{joined_pieces}
use Rattle.tv_pre.specs.Questions.{Question, lies, IsRefusal, AsksOf, AsksEach, AsksNext}
use Rattle.tv_pre.specs.Sized.{counts_at, end_count}
use Rattle.tv_pre.proofs.BuiltLemmas.{asked_to, asked_wider}
use Rattle.tv_pre.proofs.CountedLemmas.{within_more, end_one}
use Rattle.tv_pre.proofs.FewTargets.{few_more, call_few, cover_few, lies_few, each_few, next_few}
use Rattle.tv_pre.proofs.FormulaLemmas.{each_is, one_is, after_is, along_is}
use Rattle.tv_pre.proofs.FoundLemmas.{argument_sum, each_asks, some_asks, after_asks}
use Rattle.tv_pre.proofs.SizedLemmas.{none_less, first_round, term_one, joined_count}
use Rattle.std.proofs.lemmas.Nat.{mul-le}

-- ---- each counts at least 1
plus_one : (a b : ℕ) → 1 ≤ a → 1 ≤ a + b
plus_one a b l = omega (arith, l)

pub next_one : (cases : List LinearCase) (path : Path) (b : ℕ → ℕ) (l : ℕ) → 1 ≤ next_count cases path b l
next_one cases Every b l = all_one cases b l
next_one cases Any b l = some_one cases b l

fix_one : (cases : List LinearCase) (m : ℕ) (path : Path) (shape : Shape) (f g : ℕ → ℕ) (l : ℕ) → 1 ≤ f l → 1 ≤ g l → 1 ≤ fix_count cases m path shape f g l
fix_one cases m path shape f g l h k =
    trans 1 (end_count shape f g l) (fix_count cases m path shape f g l) (end_one shape f g l h k)
    (trans (end_count shape f g l) (round_count cases path shape f g 0 l) (fix_count cases m path shape f g l) (first_round shape cases path f g l)
    (up_to_greatest m (λ j. round_count cases path shape f g j l) 0 (none_less m)))

comparison_one : (r : Relation) → 1 ≤ comparison_count r
comparison_one Less = le_refl 1
comparison_one LessEqual = le_refl 1
comparison_one Greater = le_refl 1
comparison_one GreaterEqual = le_refl 1
comparison_one Equal = le_refl 1
comparison_one NotEqual = omega arith

pub all_have : (fs : Properties) → AreSomeParts fs → AllHaveParts fs
all_have none h = absurd h
all_have (more f fs) h = h

module _ (cases : List LinearCase) (m l : ℕ) where
  negated_one : (f : Property) → 1 ≤ negated_count cases m f l
  negated_one term = fix_one cases m Any Release (λ k. 1) (next_count cases Any (λ k. 1)) l (le_refl 1) (next_one cases Any (λ k. 1) l)
  negated_one (truth b) = le_refl 1
  negated_one (compare r a b) = le_refl 1
  negated_one (at k) = le_refl 1
  negated_one (negated f) = le_refl 1
  negated_one (all_of fs) = le_refl 1
  negated_one (some_of fs) = le_refl 1
  negated_one (next path f) = le_refl 1
  negated_one (fix path shape f g) = le_refl 1

  mutual
    pub count_one : (f : Property) → HasParts f → 1 ≤ count cases m f l
    count_one (truth b) h = le_refl 1
    count_one (compare r a b) h = comparison_one r
    count_one (at k) h = le_refl 1
    count_one term h = term_one cases m l
    count_one (negated f) h = negated_one f
    count_one (all_of fs) h = product_one fs (all_have fs h)
    count_one (some_of fs) h = sum_one fs h
    count_one (next path f) h = next_one cases path (λ k. count cases m f k) l
    count_one (fix path shape f g) h = fix_one cases m path shape (λ k. count cases m f k) (λ k. count cases m g k) l (count_one f h.0) (count_one g h.1)

    product_one : (fs : Properties) → AllHaveParts fs → 1 ≤ product_count cases m fs l
    product_one none h = le_refl 1
    product_one (more f fs) h = two_ones (count cases m f l) (product_count cases m fs l) (count_one f h.0) (product_one fs h.1)

    sum_one : (fs : Properties) → AreSomeParts fs → 1 ≤ sum_count cases m fs l
    sum_one none h = absurd h
    sum_one (more f fs) h = plus_one (count cases m f l) (sum_count cases m fs l) (count_one f h.0)

-- ---- the formula itself is one of its subformulas
own_here : (f : Property) → Contains (subformulas f) f
own_here (truth b) = Contains-here (truth b) []
own_here (compare r a b) = Contains-here (compare r a b) []
own_here (at k) = Contains-here (at k) []
own_here term = Contains-here term []
own_here (negated f) = Contains-here (negated f) []
own_here (all_of fs) = Contains-here (all_of fs) (all_subformulas fs)
own_here (some_of fs) = Contains-here (some_of fs) (all_subformulas fs)
own_here (next path f) = Contains-here (next path f) (subformulas f)
own_here (fix path shape f g) = Contains-here (fix path shape f g) (subformulas f ++ subformulas g)

pub own_count : (cases : List LinearCase) (m l : ℕ) (f : Property) → count cases m f l ≤ greatest_count cases m f l
own_count cases m l f = part_count cases m l f f (own_here f)

module _ (about : CaseSystem) (budget : Budget) (most : ℕ) where
  -- what is asked of a part is asked of the whole
  asked_in : (s t : Statement) → ((a : Statement) → HasAtom s a → HasAtom t a) → (h k : ℕ) → h ≤ k → (q : Question) → IsAsked about s h q → IsAsked about t k q
  asked_in s t wider h k l q m = asked_to about t h k q l (asked_wider about s t wider h q m)

  -- ---- arguments
  module _ (fault : PreFault) where
    first_counted : (a : Aim) (aims : List Aim) → IsCountedFor about budget most (aim_states a) fault → AreCountedFor about budget most (aims_state (a ∷ aims)) fault
    first_counted a aims h plain m is none parts w = absurd cc
    first_counted a aims h plain m is (more f fs) parts w =
        let first : aim_states a ≡ stated (comparison_lists about.variables) f = cc in
        let s = aim_states a in
        let ss = aims_state (a ∷ aims) in
        let l : steps_back most s ≤ all_steps_back most ss = omega arith in
        few_more about budget (IsAsked about s (steps_back most s)) (IsAsked about (each_of ss) (all_steps_back most ss)) (greatest_count about.cases m f) (greatest_counts about.cases m (more f fs))
        (asked_in s (each_of ss) (λ x y. inl y) (steps_back most s) (all_steps_back most ss) l)
        (λ l. le-max_left (greatest_count about.cases m f l) (greatest_counts about.cases m fs l)) fault (h plain m is f parts.0 first)

    rest_counted : (a : Aim) (aims : List Aim) → AreCountedFor about budget most (aims_state aims) fault → AreCountedFor about budget most (aims_state (a ∷ aims)) fault
    rest_counted a aims h plain m is none parts w = absurd cc
    rest_counted a aims h plain m is (more f fs) parts w =
        let rest : aims_state aims ≡ stated_all (comparison_lists about.variables) fs = cc in
        let ts = aims_state aims in
        let ss = aims_state (a ∷ aims) in
        let l : all_steps_back most ts ≤ all_steps_back most ss = omega arith in
        few_more about budget (IsAsked about (each_of ts) (all_steps_back most ts)) (IsAsked about (each_of ss) (all_steps_back most ss)) (greatest_counts about.cases m fs) (greatest_counts about.cases m (more f fs))
        (asked_in (each_of ts) (each_of ss) (λ x y. inr y) (all_steps_back most ts) (all_steps_back most ss) l)
        (λ l. le-max_right (greatest_count about.cases m f l) (greatest_counts about.cases m fs l)) fault (h plain m is fs parts.1 rest)

    -- of one argument
    pub argument_counted : (aims : List Aim) (i : ℕ) (aim : Aim) → i < length aims → aim ≡ get_or aims i aim → IsCountedFor about budget most (aim_states aim) fault → AreCountedFor about budget most (aims_state aims) fault
    argument_counted [] i aim l e h = absurd (omega (arith, l))
    argument_counted (a ∷ aims) zero aim l e h = first_counted a aims (subst (λ (z : Aim). IsCountedFor about budget most (aim_states z) fault) e h)
    argument_counted (a ∷ aims) (suc i) aim l e h = rest_counted a aims (argument_counted aims i aim (omega (arith, l)) e h)

    pub each_argument_counted : (ss : Statements) → AreCountedFor about budget most ss fault → IsCountedFor about budget most (each_of ss) fault
    each_argument_counted ss h plain m is f parts e =
        let w = each_is (comparison_lists about.variables) ss f e in
        let have : AreSomeParts w.0 = subst HasParts w.1 parts in
        let asked = IsAsked about (each_of ss) (all_steps_back most ss) in
        subst (λ g. IsWithinFew about budget asked (greatest_count about.cases m g) fault) (sym w.1)
        (few_more about budget asked asked (greatest_counts about.cases m w.0) (greatest_count about.cases m (all_of w.0)) (λ a x. x) (λ l. le-max_right (count about.cases m (all_of w.0) l) (greatest_counts about.cases m w.0 l)) fault (h plain m is w.0 (all_have w.0 have) w.2))

    pub one_argument_counted : (ss : Statements) → AreCountedFor about budget most ss fault → IsCountedFor about budget most (one_of ss) fault
    one_argument_counted ss h plain m is f parts e =
        let w = one_is (comparison_lists about.variables) ss f e in
        let have : AreSomeParts w.0 = subst HasParts w.1 parts in
        let k = all_steps_back most ss in
        subst (λ g. IsWithinFew about budget (IsAsked about (one_of ss) k) (greatest_count about.cases m g) fault) (sym w.1)
        (few_more about budget (IsAsked about (each_of ss) k) (IsAsked about (one_of ss) k) (greatest_counts about.cases m w.0) (greatest_count about.cases m (some_of w.0)) (asked_wider about (each_of ss) (one_of ss) (λ a x. x) k)
        (λ l. le-max_right (count about.cases m (some_of w.0) l) (greatest_counts about.cases m w.0 l)) fault (h plain m is w.0 (all_have w.0 have) w.2))

    pub after_argument_counted : (path : Path) (s : Statement) → IsCountedFor about budget most s fault → IsCountedFor about budget most (after path s) fault
    after_argument_counted path s given plain m is f parts e =
        let w = after_is (comparison_lists about.variables) path s f e in
        let have : HasParts w.0 = subst HasParts w.1 parts in
        let h = steps_back most s in
        let k = (most + 2) + steps_back most s in
        let l : h ≤ k = omega arith in
        subst (λ g. IsWithinFew about budget (IsAsked about (after path s) k) (greatest_count about.cases m g) fault) (sym w.1)
        (few_more about budget (IsAsked about s h) (IsAsked about (after path s) k) (greatest_count about.cases m w.0) (greatest_count about.cases m (next path w.0)) (asked_in s (after path s) (λ a x. x) h k l)
        (λ l. le-max_right (count about.cases m (next path w.0) l) (greatest_count about.cases m w.0 l)) fault (given plain m is w.0 have w.2))

    module _ (path : Path) (shape : Shape) (s t : Statement) where
      pub first_argument_counted : IsCountedFor about budget most s fault → IsCountedFor about budget most (along path shape s t) fault
      first_argument_counted given plain m is f parts e =
          let w = along_is (comparison_lists about.variables) path shape s t f e in
          let have : HasParts w.0 × HasParts w.1 = subst HasParts w.2 parts in
          let a = greatest_count about.cases m w.0 in
          let b = greatest_count about.cases m w.1 in
          let whole = fix path shape w.0 w.1 in
          let h = steps_back most s in
          let k = (most + 2) + (steps_back most s + steps_back most t) in
          let l : h ≤ k = omega arith in
          subst (λ g. IsWithinFew about budget (IsAsked about (along path shape s t) k) (greatest_count about.cases m g) fault) (sym w.2)
          (few_more about budget (IsAsked about s h) (IsAsked about (along path shape s t) k) a (greatest_count about.cases m whole) (asked_in s (along path shape s t) (λ x y. inl y) h k l)
          (λ l. trans (a l) (max (a l) (b l)) (greatest_count about.cases m whole l) (le-max_left (a l) (b l)) (le-max_right (count about.cases m whole l) (max (a l) (b l)))) fault (given plain m is w.0 have.0 w.3))

      pub second_argument_counted : IsCountedFor about budget most t fault → IsCountedFor about budget most (along path shape s t) fault
      second_argument_counted given plain m is f parts e =
          let w = along_is (comparison_lists about.variables) path shape s t f e in
          let have : HasParts w.0 × HasParts w.1 = subst HasParts w.2 parts in
          let a = greatest_count about.cases m w.0 in
          let b = greatest_count about.cases m w.1 in
          let whole = fix path shape w.0 w.1 in
          let h = steps_back most t in
          let k = (most + 2) + (steps_back most s + steps_back most t) in
          let l : h ≤ k = omega arith in
          subst (λ g. IsWithinFew about budget (IsAsked about (along path shape s t) k) (greatest_count about.cases m g) fault) (sym w.2)
          (few_more about budget (IsAsked about t h) (IsAsked about (along path shape s t) k) b (greatest_count about.cases m whole) (asked_in t (along path shape s t) (λ x y. inr y) h k l)
          (λ l. trans (b l) (max (a l) (b l)) (greatest_count about.cases m whole l) (le-max_right (a l) (b l)) (le-max_right (count about.cases m whole l) (max (a l) (b l)))) fault (given plain m is w.1 have.1 w.4))

  -- ---- the formula
  some_argument_product : HasNoDraws about → (m : ℕ) → IsLastRound about 9 m → (l : ℕ) (ss : List Statement) (rs : List Region) (ns : List Node) → AreEachArgument about most ss rs ns → (fs : Properties) → AllHaveParts fs → statements_of ss ≡ stated_all (comparison_lists about.variables) fs → product (some_counts_at l rs) ≤ product_count about.cases m fs l
  some_argument_product plain m is l [] [] [] h none parts e = omega arith
  some_argument_product plain m is l [] [] [] h (more f fs) parts e = absurd cc
  some_argument_product plain m is l [] [] (n ∷ ns) h fs parts e = absurd h
  some_argument_product plain m is l [] (q ∷ rs) ns h fs parts e = absurd h
  some_argument_product plain m is l (t ∷ ss) [] ns h fs parts e = absurd h
  some_argument_product plain m is l (t ∷ ss) (q ∷ rs) [] h fs parts e = absurd h
  some_argument_product plain m is l (t ∷ ss) (q ∷ rs) (n ∷ ns) h none parts e = absurd cc
  some_argument_product plain m is l (t ∷ ss) (q ∷ rs) (n ∷ ns) h (more f fs) parts e =
      let first : t ≡ stated (comparison_lists about.variables) f = cc in
      let rest : statements_of ss ≡ stated_all (comparison_lists about.variables) fs = cc in
      mul-le (max 1 (count_at l q)) (product (some_counts_at l rs)) (count about.cases m f l) (product_count about.cases m fs l)
      (max-le (count_one about.cases m l f parts.0) (h.0.bounded plain m is f first l)) (some_argument_product plain m is l ss rs ns h.1 fs parts.1 rest)

  -- the pieces of one argument
  argument_few : HasNoDraws about → (m : ℕ) → IsLastRound about 9 m → (l : ℕ) (ss : List Statement) (rs : List Region) (ns : List Node) → AreEachArgument about most ss rs ns → (fs : Properties) → statements_of ss ≡ stated_all (comparison_lists about.variables) fs → (r : Region) → Contains rs r → count_at l r ≤ greatest_counts about.cases m fs l
  argument_few plain m is l [] [] [] h fs e r c = absurd (Contains-none r c)
  argument_few plain m is l [] [] (n ∷ ns) h fs e r c = absurd h
  argument_few plain m is l [] (q ∷ rs) ns h fs e r c = absurd h
  argument_few plain m is l (t ∷ ss) [] ns h fs e r c = absurd h
  argument_few plain m is l (t ∷ ss) (q ∷ rs) [] h fs e r c = absurd h
  argument_few plain m is l (t ∷ ss) (q ∷ rs) (n ∷ ns) h none e r c = absurd cc
  argument_few plain m is l (t ∷ ss) (q ∷ rs) (n ∷ ns) h (more f fs) e r c =
      let first : t ≡ stated (comparison_lists about.variables) f = cc in
      let rest : statements_of ss ≡ stated_all (comparison_lists about.variables) fs = cc in
      let a = greatest_count about.cases m f l in
      let b = greatest_counts about.cases m fs l in
      elim (Contains-cases q r rs c) [
        | inl same ↦ trans (count_at l r) a (max a b) (subst (λ x. count_at l x ≤ a) same (trans (count_at l q) (count about.cases m f l) a (h.0.bounded plain m is f first l) (own_count about.cases m l f))) (le-max_left a b)
        | inr later ↦ trans (count_at l r) b (max a b) (argument_few plain m is l ss rs ns h.1 fs rest r later) (le-max_right a b)
      ]

  joined_sum : (l : ℕ) (rs : List Region) → length (lists_at l (joined_pieces rs)) ≤ sum (counts_at l rs)
  joined_sum l [] = none_less (sum [])
  joined_sum l (r ∷ rs) =
      let q = joined_count l r rs in
      let s = sum-cons (count_at l r) (counts_at l rs) in
      let rest = joined_sum l rs in
      omega (arith, q, s, rest)

  module _ (ss : List Statement) (rs : List Region) (ns : List Node) (h : AreEachArgument about most ss rs ns) where
    pub each_counted : (fault : PreFault) → IsWithin (λ l. product (some_counts_at l rs)) fault → IsCountedFor about budget most (each_of (statements_of ss)) fault
    each_counted fault k plain m is f parts e =
        let w = each_is (comparison_lists about.variables) (statements_of ss) f e in
        let have : AreSomeParts w.0 = subst HasParts w.1 parts in
        let asked = IsAsked about (each_of (statements_of ss)) (all_steps_back most (statements_of ss)) in
        subst (λ g. IsWithinFew about budget asked (greatest_count about.cases m g) fault) (sym w.1)
        (call_few about budget asked (greatest_count about.cases m (all_of w.0)) fault (within_more (λ l. product (some_counts_at l rs)) (greatest_count about.cases m (all_of w.0))
        (λ l. trans (product (some_counts_at l rs)) (product_count about.cases m w.0 l) (greatest_count about.cases m (all_of w.0) l) (some_argument_product plain m is l ss rs ns h w.0 (all_have w.0 have) w.2) (le-max_left (product_count about.cases m w.0 l) (greatest_counts about.cases m w.0 l))) fault k))

    -- a question whether a piece lies in the region of an argument
    pub each_question_counted : (region : Region) (fault : CoverFault) (r : PreFault) → IsBuiltOf about 0 rs region → IsOfCover fault r → IsRefusal about budget (AsksOf (λ q. AsksEach q rs) region.pieces.items) fault → IsCountedFor about budget most (each_of (statements_of ss)) r
    each_question_counted region fault r b is k plain m o f parts e =
        let w = each_is (comparison_lists about.variables) (statements_of ss) f e in
        let bound = greatest_count about.cases m (all_of w.0) in
        let asked = IsAsked about (each_of (statements_of ss)) (all_steps_back most (statements_of ss)) in
        subst (λ g. IsWithinFew about budget asked (greatest_count about.cases m g) r) (sym w.1)
        (cover_few about budget (AsksOf (λ q. AsksEach q rs) region.pieces.items) asked bound (each_asks about most ss rs ns h region b)
        (λ a x. each_few about bound x.0 rs a x.2 (λ y c l. trans (count_at l y) (greatest_counts about.cases m w.0 l) (bound l) (argument_few plain m o l ss rs ns h w.0 w.2 y c) (le-max_right (count about.cases m (all_of w.0) l) (greatest_counts about.cases m w.0 l))))
        fault r is k)

    pub some_counted : (fault : PreFault) → IsWithin (λ l. sum (counts_at l rs)) fault → IsCountedFor about budget most (one_of (statements_of ss)) fault
    some_counted fault k plain m is f parts e =
        let w = one_is (comparison_lists about.variables) (statements_of ss) f e in
        let asked = IsAsked about (one_of (statements_of ss)) (all_steps_back most (statements_of ss)) in
        subst (λ g. IsWithinFew about budget asked (greatest_count about.cases m g) fault) (sym w.1)
        (call_few about budget asked (greatest_count about.cases m (some_of w.0)) fault (within_more (λ l. sum (counts_at l rs)) (greatest_count about.cases m (some_of w.0))
        (λ l. trans (sum (counts_at l rs)) (sum_count about.cases m w.0 l) (greatest_count about.cases m (some_of w.0) l) (argument_sum about most plain m is l ss rs ns h w.0 w.2) (le-max_left (sum_count about.cases m w.0 l) (greatest_counts about.cases m w.0 l))) fault k))

    -- a question whether a piece lies in the regions of all arguments together
    pub some_question_counted : (region : Region) (fault : CoverFault) (r : PreFault) → IsBuiltOf about 0 rs region → IsOfCover fault r → IsRefusal about budget (AsksOf (λ q a. a ≡ lies q (joined_pieces rs)) region.pieces.items) fault → IsCountedFor about budget most (one_of (statements_of ss)) r
    some_question_counted region fault r b is k plain m o f parts e =
        let w = one_is (comparison_lists about.variables) (statements_of ss) f e in
        let bound = greatest_count about.cases m (some_of w.0) in
        let asked = IsAsked about (one_of (statements_of ss)) (all_steps_back most (statements_of ss)) in
        subst (λ g. IsWithinFew about budget asked (greatest_count about.cases m g) r) (sym w.1)
        (cover_few about budget (AsksOf (λ q a. a ≡ lies q (joined_pieces rs)) region.pieces.items) asked bound (some_asks about most ss rs ns h region b)
        (λ a x. lies_few about bound x.0 (joined_pieces rs) a x.2 (λ l.
        trans (length (lists_at l (joined_pieces rs))) (sum (counts_at l rs)) (bound l) (joined_sum l rs)
        (trans (sum (counts_at l rs)) (sum_count about.cases m w.0 l) (bound l) (argument_sum about most plain m o l ss rs ns h w.0 w.2) (le-max_left (sum_count about.cases m w.0 l) (greatest_counts about.cases m w.0 l)))))
        fault r is k)

  module _ (path : Path) (s : Statement) (child : Found) (h : IsFound about most s child) where
    pub after_counted : (fault : PreFault) → IsCountedBefore about path child.part.region fault → IsCountedFor about budget most (after path s) fault
    after_counted fault k plain m is f parts e =
        let w = after_is (comparison_lists about.variables) path s f e in
        let whole = next path w.0 in
        let b = λ (j : ℕ). count about.cases m w.0 j in
        let asked = IsAsked about (after path s) ((most + 2) + steps_back most s) in
        subst (λ g. IsWithinFew about budget asked (greatest_count about.cases m g) fault) (sym w.1)
        (call_few about budget asked (greatest_count about.cases m whole) fault
        (within_more (next_count about.cases path b) (greatest_count about.cases m whole) (λ l. le-max_left (next_count about.cases path b l) (greatest_count about.cases m w.0 l)) fault (k plain b (λ j. h.bounded plain m is w.0 w.2 j))))

    -- a question how the steps from a piece lead into the region of the argument
    pub after_question_counted : (region : Region) (fault : CoverFault) (r : PreFault) → IsBuiltOf about 1 (child.part.region ∷ []) region → IsOfCover fault r → IsRefusal about budget (AsksOf (λ q. AsksNext about path q child.part.region.pieces.items) region.pieces.items) fault → IsCountedFor about budget most (after path s) r
    after_question_counted region fault r b is k plain m o f parts e =
        let w = after_is (comparison_lists about.variables) path s f e in
        let own = greatest_count about.cases m w.0 in
        let bound = greatest_count about.cases m (next path w.0) in
        let into = child.part.region in
        let asked = IsAsked about (after path s) ((most + 2) + steps_back most s) in
        subst (λ g. IsWithinFew about budget asked (greatest_count about.cases m g) r) (sym w.1)
        (cover_few about budget (AsksOf (λ q. AsksNext about path q into.pieces.items) region.pieces.items) asked bound (after_asks about most path s child h region b)
        (λ a x. next_few about bound path x.0 into.pieces.items a x.2 (λ l.
        trans (count_at l into) (own l) (bound l) (trans (count_at l into) (count about.cases m w.0 l) (own l) (h.bounded plain m o w.0 w.2 l) (own_count about.cases m l w.0)) (le-max_right (count about.cases m (next path w.0) l) (own l))))
        fault r is k)

  pub along_counted : (fault : PreFault) (path : Path) (shape : Shape) (s t : Statement) (first second : Found) → IsFound about most s first → IsFound about most t second → (asks : Question → Type 0) → ((a : Question) → asks a → IsAsked about (along path shape s t) ((most + 2) + (steps_back most s + steps_back most t)) a) →
      (HasNoDraws about → (m : ℕ) → IsLastRound about 9 m → (a b : ℕ → ℕ) → ((l : ℕ) → count_at l first.part.region ≤ a l) → ((l : ℕ) → count_at l second.part.region ≤ b l) → ((l : ℕ) → 1 ≤ a l) → ((l : ℕ) → 1 ≤ b l) → IsWithinFew about budget asks (fix_count about.cases m path shape a b) fault) → IsCountedFor about budget most (along path shape s t) fault
  along_counted fault path shape s t first second h g asks asked k plain m is f parts e =
      let w = along_is (comparison_lists about.variables) path shape s t f e in
      let have : HasParts w.0 × HasParts w.1 = subst HasParts w.2 parts in
      let whole = fix path shape w.0 w.1 in
      let a = λ (j : ℕ). count about.cases m w.0 j in
      let b = λ (j : ℕ). count about.cases m w.1 j in
      let is_asked = IsAsked about (along path shape s t) ((most + 2) + (steps_back most s + steps_back most t)) in
      subst (λ z. IsWithinFew about budget is_asked (greatest_count about.cases m z) fault) (sym w.2)
      (few_more about budget asks is_asked (fix_count about.cases m path shape a b) (greatest_count about.cases m whole) asked
      (λ l. le-max_left (fix_count about.cases m path shape a b l) (max (greatest_count about.cases m w.0 l) (greatest_count about.cases m w.1 l))) fault
      (k plain m is a b (λ j. h.bounded plain m is w.0 w.3 j) (λ j. g.bounded plain m is w.1 w.4 j) (λ j. count_one about.cases m j w.0 have.0) (λ j. count_one about.cases m j w.1 have.1)))
