-- a program steps exactly where one of its cases does
use Rattle.std.proofs.Common.{◌≡◌, ◌↔◌, ◌⊎◌, inl, inr, ℕ, zero, suc, ◌+◌, ◌<◌, ◌≤◌, ◌∙◌, List, [], ◌∷◌, ◌++◌, map, length, get_or, refl, sym, ap, arith, ℤ, pos, ◌≤ℤ◌, Bool, true, false, subst, length-append}
use Rattle.std.specs.Prelude.{Some, cond, All, Contains, Ok, Err}
use Rattle.std.specs.Int.RustNames.{int_le}
use Rattle.std.proofs.lemmas.Int.{ints}
use Rattle.std.proofs.lemmas.List.{get_or-append-add}
use Rattle.std.proofs.lemmas.List.Elements.{Contains-append_left, Contains-append_right, Contains-append_cases, All-contains}
use Rattle.tv_linear.specs.Linear.{Linear, linear, value, IsMet}
use Rattle.tv_linear.specs.Known.{term_value}
use Rattle.tv_linear.specs.Terms.{terms_after}
use Rattle.tv_program.specs.Trees.{Transition}
use Rattle.tv_program.specs.Meaning.{executed, only_if}
use Rattle.tv_program.specs.Steps.{State, Steps}
use Rattle.tv_program.specs.Systems.{System}
use Rattle.tv_cases.specs.Linearity.{instructions_are_linear}
use Rattle.tv_cases.specs.LinearCases.{LinearCase, CaseSystem, CaseSteps}
use Rattle.tv_cases.specs.EdgeCases.{columns_from, beginning, updates_from, case_of, edge_end, edge_cases, edge_is_narrow}
use Rattle.tv_cases.specs.ProgramCases.{too_many, wide, are_few, cases_from, linear_cases}
use Rattle.tv_cases.proofs.FormValues.{values}
use Rattle.tv_cases.proofs.ListsMet.{is_met, all_met, some_met}
use Rattle.tv_cases.proofs.Executed.{after-gives, values-beginning, after-kept}
use Rattle.tv_cases.proofs.Updated.{updates-give}
use Rattle.tv_cases.proofs.ContainsLemmas.{Contains-here, Contains-later, Contains-cases, Contains-none, Contains-map, Contains-from_map, some_passes, some_passes-back, All-from_test, test_from-All}

pub zero_row : Linear
zero_row = linear [] (pos 0)

pub length-columns_from : (w v n : ℕ) → length (columns_from w v n) ≡ n
length-columns_from w v zero = refl
length-columns_from w v (suc n) = ap suc (length-columns_from w (suc v) n)

only_if-some : (b : Bool) (vs ys : List ℤ) → only_if b (Some vs) ≡ Some ys → (b ≡ true) × (vs ≡ ys)
only_if-some true vs ys h = (refl, cc)
only_if-some false vs ys h = cc

pub at_most-true : (z : ℤ) → int_le z (pos 0) ≡ true → z ≤ℤ pos 0
at_most-true z h = grind (arith, ints)

pub true-at_most : (z : ℤ) → z ≤ℤ pos 0 → int_le z (pos 0) ≡ true
true-at_most z h = grind (arith, ints)

get_or-values : (point : List ℤ) (ts : List Linear) (k : ℕ) (d : Linear) → k < length ts → get_or (values point ts) k (pos 0) ≡ value (get_or ts k d) point
get_or-values point [] k d h = absurd (omega arith)
get_or-values point (t ∷ ts) zero d h = refl
get_or-values point (t ∷ ts) (suc k) d h = get_or-values point ts k d (omega arith)

pub front-get_or : (xs ds : List ℤ) (k : ℕ) → k < length xs → get_or (xs ++ ds) k (pos 0) ≡ get_or xs k (pos 0)
front-get_or [] ds k h = absurd (omega arith)
front-get_or (x ∷ xs) ds zero h = refl
front-get_or (x ∷ xs) ds (suc k) h = front-get_or xs ds k (omega arith)

-- some case is met at the values and draws, and its updates give the values after
pub record GivenByCase (cases : List LinearCase) (xs ds ys : List ℤ) : Type 0 where
  pub taken : LinearCase
  pub among : Contains cases taken
  pub guards : All (IsMet (xs ++ ds)) taken.guards
  pub gives : ys ≡ map (term_value (xs ++ ds)) (terms_after (length xs) taken.updates)

module _ (n : ℕ) (e : Transition) (xs ds : List ℤ) (many : length xs ≡ n) (drawn : length ds ≡ e.draws) (plain : instructions_are_linear e.instructions ≡ true) where
  draws_read : (d : ℕ) → get_or (xs ++ ds) (n + d) (pos 0) ≡ get_or ds d (pos 0)
  draws_read d = ap (λ k. get_or (xs ++ ds) (k + d) (pos 0)) (sym many) ∙ get_or-append-add xs ds d (pos 0)

  narrow_enough : length (xs ++ ds) ≤ n + e.draws
  narrow_enough = omega (arith, length-append xs ds)

  first : values (xs ++ ds) (columns_from (n + e.draws) 0 n) ≡ xs
  first = values-beginning n (n + e.draws) xs ds many (omega arith)

  -- execution gives the values of the terms at the end, where some list is met
  execution : executed e.instructions xs ds ≡ only_if (some_met (xs ++ ds) (edge_end n e).lists) (Some (values (xs ++ ds) (edge_end n e).terms))
  execution =
      ap (λ zs. executed e.instructions zs ds) (sym first)
      ∙ after-gives n (n + e.draws) (xs ++ ds) ds narrow_enough draws_read e.instructions (beginning n (n + e.draws)) plain

  -- and so do the updates
  updates : map (term_value (xs ++ ds)) (terms_after (length xs) (updates_from e.instructions 0 (edge_end n e).terms)) ≡ values (xs ++ ds) (edge_end n e).terms
  updates =
      let kept = after-kept n (n + e.draws) e.instructions (beginning n (n + e.draws)) in
      let d = zero_row in
      updates-give e.instructions (xs ++ ds) (edge_end n e).terms (length xs) d
      (kept.counted ∙ length-columns_from (n + e.draws) 0 n ∙ sym many)
      (λ k inside free.
      ap (λ t. value t (xs ++ ds)) (kept.same k d free)
      ∙ sym (get_or-values (xs ++ ds) (columns_from (n + e.draws) 0 n) k d (omega (arith, inside, many, length-columns_from (n + e.draws) 0 n)))
      ∙ ap (λ zs. get_or zs k (pos 0)) first
      ∙ sym (front-get_or xs ds k inside))

  forth : (ys : List ℤ) → executed e.instructions xs ds ≡ Some ys → GivenByCase (edge_cases n e) xs ds ys
  forth ys h =
      let there = only_if-some (some_met (xs ++ ds) (edge_end n e).lists) (values (xs ++ ds) (edge_end n e).terms) ys (sym execution ∙ h) in
      let l = some_passes (all_met (xs ++ ds)) (edge_end n e).lists there.0 in
      record {
        taken = case_of e (edge_end n e).terms l.0;
        among = Contains-map (case_of e (edge_end n e).terms) (edge_end n e).lists l.0 l.1;
        guards = All-from_test (IsMet (xs ++ ds)) (is_met (xs ++ ds)) (λ r k. at_most-true (value r (xs ++ ds)) k) l.0 l.2;
        gives = sym there.1 ∙ sym updates;
      }

  back : (ys : List ℤ) → GivenByCase (edge_cases n e) xs ds ys → executed e.instructions xs ds ≡ Some ys
  back ys g =
      let l = Contains-from_map (case_of e (edge_end n e).terms) (edge_end n e).lists g.taken g.among in
      let met = test_from-All (IsMet (xs ++ ds)) (is_met (xs ++ ds)) (λ r k. true-at_most (value r (xs ++ ds)) k) l.0 (subst (λ (c : LinearCase). All (IsMet (xs ++ ds)) c.guards) (sym l.2) g.guards) in
      let some = some_passes-back (all_met (xs ++ ds)) (edge_end n e).lists l.0 l.1 met in
      let ends : values (xs ++ ds) (edge_end n e).terms ≡ ys = sym updates ∙ ap (λ (c : LinearCase). map (term_value (xs ++ ds)) (terms_after (length xs) c.updates)) l.2 ∙ sym g.gives in
      execution ∙ (λ i. only_if (some i) (Some (ends i)))

  -- the edge's execution gives the values that some case gives
  pub edge-same : (ys : List ℤ) → (executed e.instructions xs ds ≡ Some ys) ↔ GivenByCase (edge_cases n e) xs ds ys
  edge-same ys = (forth ys, back ys)

-- the cases of an edge go where it goes, with its draws
pub record OfEdge (e : Transition) (c : LinearCase) : Type 0 where
  pub from : c.from ≡ e.from
  pub to : c.to ≡ e.to
  pub draws : c.draws ≡ e.draws

edge_cases-ends : (n : ℕ) (e : Transition) (c : LinearCase) → Contains (edge_cases n e) c → OfEdge e c
edge_cases-ends n e c among =
    let l = Contains-from_map (case_of e (edge_end n e).terms) (edge_end n e).lists c among in
    record { from = ap (λ (c : LinearCase). c.from) (sym l.2); to = ap (λ (c : LinearCase). c.to) (sym l.2); draws = ap (λ (c : LinearCase). c.draws) (sym l.2) }

-- ---- the program

pub record AllOf (n k : ℕ) (before all : List LinearCase) (e : Transition) (es : List Transition) : Type 0 where
  pub bounded : are_few (before ++ edge_cases n e) ≡ true
  pub later : cases_from n (suc k) (before ++ edge_cases n e) es ≡ Ok all

pub cases_from-ok : (n k : ℕ) (before all : List LinearCase) (e : Transition) (es : List Transition) → cases_from n k before (e ∷ es) ≡ Ok all → AllOf n k before all e es
cases_from-ok n k before all e es h = by_width (edge_is_narrow n e) h where
  by_count : (b : Bool) → are_few (before ++ edge_cases n e) ≡ b → cond b (cases_from n (suc k) (before ++ edge_cases n e) es) (Err (too_many k)) ≡ Ok all → AllOf n k before all e es
  by_count true is h = record { bounded = is; later = h }
  by_count false is h = cc

  by_width : (b : Bool) → cond b (cond (are_few (before ++ edge_cases n e)) (cases_from n (suc k) (before ++ edge_cases n e) es) (Err (too_many k))) (Err (wide k)) ≡ Ok all → AllOf n k before all e es
  by_width true h = by_count (are_few (before ++ edge_cases n e)) refl h
  by_width false h = cc

cases_from-keeps : (n k : ℕ) (before : List LinearCase) (edges : List Transition) (all : List LinearCase) → cases_from n k before edges ≡ Ok all → (c : LinearCase) → Contains before c → Contains all c
cases_from-keeps n k before [] all h c among = let e : before ≡ all = cc in subst (λ cs. Contains cs c) e among
cases_from-keeps n k before (e ∷ edges) all h c among =
    cases_from-keeps n (suc k) (before ++ edge_cases n e) edges all (cases_from-ok n k before all e edges h).later c (Contains-append_left before (edge_cases n e) c among)

-- the cases of each edge are among all cases
cases_from-collects : (n k : ℕ) (before : List LinearCase) (edges : List Transition) (all : List LinearCase) → cases_from n k before edges ≡ Ok all → (e : Transition) → Contains edges e → (c : LinearCase) → Contains (edge_cases n e) c → Contains all c
cases_from-collects n k before [] all h e among c inside = absurd (Contains-none e among)
cases_from-collects n k before (f ∷ edges) all h e among c inside =
    let later = (cases_from-ok n k before all f edges h).later in
    elim (Contains-cases f e edges among) [
      | inl here ↦ cases_from-keeps n (suc k) (before ++ edge_cases n f) edges all later c (Contains-append_right before (edge_cases n f) c (subst (λ g. Contains (edge_cases n g) c) (sym here) inside))
      | inr there ↦ cases_from-collects n (suc k) (before ++ edge_cases n f) edges all later e there c inside
    ]

-- it is a case of some edge
record IsOfSome (n : ℕ) (edges : List Transition) (c : LinearCase) : Type 0 where
  edge : Transition
  among : Contains edges edge
  inside : Contains (edge_cases n edge) c

cases_from-only : (n k : ℕ) (before : List LinearCase) (edges : List Transition) (all : List LinearCase) → cases_from n k before edges ≡ Ok all → (c : LinearCase) → Contains all c → Contains before c ⊎ IsOfSome n edges c
cases_from-only n k before [] all h c among = let e : all ≡ before = cc in inl (subst (λ cs. Contains cs c) e among)
cases_from-only n k before (e ∷ edges) all h c among =
    elim (cases_from-only n (suc k) (before ++ edge_cases n e) edges all (cases_from-ok n k before all e edges h).later c among) [
      | inl early ↦ elim (Contains-append_cases before (edge_cases n e) c early) [
        | inl b ↦ inl b
        | inr here ↦ inr (record { edge = e; among = Contains-here e edges; inside = here })
      ]
      | inr o ↦ inr (record { edge = o.edge; among = Contains-later e o.edge edges o.among; inside = o.inside })
    ]

abbrev pub IsPlain : Transition → Type 0
IsPlain e = instructions_are_linear e.instructions ≡ true

-- The program steps from s to t exactly where some case does.
pub same-steps : (p : System) (about : CaseSystem) → linear_cases p ≡ Ok about.cases → All IsPlain p.edges → (s t : State) → length s.values ≡ length p.variables → Steps p s t ↔ CaseSteps about s t
same-steps p about ok plain s t many = (forth, back) where
  forth : Steps p s t → CaseSteps about s t
  forth step =
      let g = edge-same (length p.variables) step.edge s.values step.draws many step.does.drawn (All-contains IsPlain p.edges step.edge plain step.among) t.values in
      let by = g.0 step.does.gives in
      let of = edge_cases-ends (length p.variables) step.edge by.taken by.among in
      record {
        taken = by.taken;
        among = cases_from-collects (length p.variables) 0 [] p.edges about.cases ok step.edge step.among by.taken by.among;
        draws = step.draws;
        does = record {
          leaves = step.does.leaves ∙ sym of.from;
          enters = step.does.enters ∙ sym of.to;
          drawn = step.does.drawn ∙ sym of.draws;
          guards = by.guards;
          gives = by.gives;
        };
      }

  from_edge : (step : CaseSteps about s t) → IsOfSome (length p.variables) p.edges step.taken → Steps p s t
  from_edge step o =
      let of = edge_cases-ends (length p.variables) o.edge step.taken o.inside in
      let g = edge-same (length p.variables) o.edge s.values step.draws many (step.does.drawn ∙ of.draws) (All-contains IsPlain p.edges o.edge plain o.among) t.values in
      record {
        edge = o.edge;
        among = o.among;
        draws = step.draws;
        does = record {
          leaves = step.does.leaves ∙ of.from;
          enters = step.does.enters ∙ of.to;
          drawn = step.does.drawn ∙ of.draws;
          gives = g.1 (record { taken = step.taken; among = o.inside; guards = step.does.guards; gives = step.does.gives });
        };
      }

  back : CaseSteps about s t → Steps p s t
  back step =
      elim (cases_from-only (length p.variables) 0 [] p.edges about.cases ok step.taken step.among) [
        | inl none ↦ absurd (Contains-none step.taken none)
        | inr o ↦ from_edge step o
      ]
