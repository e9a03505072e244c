-- what the limits of a program say of its edges and its cases
use Rattle.std.proofs.Common.{◌≡◌, ℕ, suc, ◌<◌, ◌∙◌, List, [], ◌∷◌, ◌++◌, map, length, refl, sym, ap, true, subst}
use Rattle.std.specs.Prelude.{◌&&◌, nat_le, nat_lt, All, Result, Ok, Err, sum}
use Rattle.std.specs.List.{list_all}
use Rattle.std.proofs.lemmas.List.Elements.{All-nil, All-cons, All-head, All-tail, All-append}
use Rattle.tv_program.specs.declared.tree.Edge.{Edge}
use Rattle.tv_program.specs.Views.{transition, transitions}
use Rattle.tv_program.specs.Trees.{Expression, number, variable, draw, minus, sum as added, product, Expressions, no_part, part, Condition, truth, compare, negated, all_of, some_of, Conditions, no_test, test, Instruction, assume, assign, Transition}
use Rattle.tv_program.specs.Limits.{is_linear_product, expression_fits, expressions_fit, expression_depth, condition_fits, conditions_fit, condition_depth, instruction_fits, transition_fits, IsWithinLimits}
use Rattle.tv_cases.specs.Linearity.{is_linear, are_linear, condition_is_linear, conditions_are_linear, instruction_is_linear, instructions_are_linear, IsLinearEdge}
use Rattle.tv_cases.specs.LinearCases.{LinearCase, IsCase, AreCases, coefficients}
use Rattle.tv_cases.specs.EdgeCases.{edge_cases}
use Rattle.tv_cases.specs.ProgramCases.{are_few, cases_from}
use Rattle.std.specs.Prelude.{IfOk}
use Rattle.tv_program.specs.Systems.{System, IsLimited}
use Rattle.tv_cases.specs.declared.case.Cases.{Cases}
use Rattle.tv_cases.specs.declared.case.CaseFault.{CaseFault}
use Rattle.tv_cases.specs.Systems.{cases_of}
use Rattle.tv_cases.specs.Answers.{Answers, HaveSameSteps}
use Rattle.tv_cases.proofs.SameSteps.{cases_from-ok, IsPlain, same-steps}
use Rattle.tv_cases.proofs.EdgeLimits.{edge-are_cases}
use Rattle.tv_cases.proofs.EdgeRoom.{at_most-true}
use Rattle.std.proofs.lemmas.Bool.{and_parts, ltb-true}

module _ (variables draws : ℕ) where
  mutual
    pub fits-linear : (e : Expression) → expression_fits variables draws e ≡ true → is_linear e ≡ true
    fits-linear (number z) h = refl
    fits-linear (variable v) h = refl
    fits-linear (draw d) h = refl
    fits-linear (minus e) h = fits-linear e h
    fits-linear (added es) h = fit-linear es h
    fits-linear (product es) h =
        let both = and_parts (is_linear_product es) (expressions_fit variables draws es) h in
        let rest = fit-linear es both.1 in
        (λ i. both.0 i && rest i)

    fit-linear : (es : Expressions) → expressions_fit variables draws es ≡ true → are_linear es ≡ true
    fit-linear no_part h = refl
    fit-linear (part e es) h =
        let both = and_parts (expression_fits variables draws e) (expressions_fit variables draws es) h in
        let here = fits-linear e both.0 in
        let rest = fit-linear es both.1 in
        (λ i. here i && rest i)

  mutual
    condition-linear : (c : Condition) → condition_fits variables draws c ≡ true → condition_is_linear c ≡ true
    condition-linear (truth b) h = refl
    condition-linear (compare r e f) h =
        let both = and_parts (expression_fits variables draws e) (expression_fits variables draws f) h in
        let here = fits-linear e both.0 in
        let rest = fits-linear f both.1 in
        (λ i. here i && rest i)
    condition-linear (negated c) h = condition-linear c h
    condition-linear (all_of cs) h = conditions-linear cs h
    condition-linear (some_of cs) h = conditions-linear cs h

    conditions-linear : (cs : Conditions) → conditions_fit variables draws cs ≡ true → conditions_are_linear cs ≡ true
    conditions-linear no_test h = refl
    conditions-linear (test c cs) h =
        let both = and_parts (condition_fits variables draws c) (conditions_fit variables draws cs) h in
        let here = condition-linear c both.0 in
        let rest = conditions-linear cs both.1 in
        (λ i. here i && rest i)

  instruction-linear : (i : Instruction) → instruction_fits variables draws i ≡ true → instruction_is_linear i ≡ true
  instruction-linear (assume c) h = condition-linear c (and_parts (condition_fits variables draws c) (nat_le (condition_depth c) 400) h).0
  instruction-linear (assign v e) h =
      fits-linear e (and_parts (nat_lt v variables) (expression_fits variables draws e) (and_parts (nat_lt v variables && expression_fits variables draws e) (nat_le (expression_depth e) 400) h).0).1

  instructions-linear : (is : List Instruction) → list_all (instruction_fits variables draws) is ≡ true → instructions_are_linear is ≡ true
  instructions-linear [] h = refl
  instructions-linear (i ∷ is) h =
      let both = and_parts (instruction_fits variables draws i) (list_all (instruction_fits variables draws) is) h in
      let here = instruction-linear i both.0 in
      let rest = instructions-linear is both.1 in
      (λ j. here j && rest j)

-- what is known of an edge that fits
pub record IsFit (variables locations : ℕ) (e : Transition) : Type 0 where
  pub from : e.from < locations
  pub to : e.to < locations
  pub linear : IsLinearEdge e

fits-edge : (variables locations : ℕ) (e : Transition) → transition_fits variables locations e ≡ true → IsFit variables locations e
fits-edge variables locations e h =
    let three = and_parts ((nat_lt e.from locations && nat_lt e.to locations) && nat_le e.draws 64) (list_all (instruction_fits variables e.draws) e.instructions) h in
    let two = and_parts (nat_lt e.from locations && nat_lt e.to locations) (nat_le e.draws 64) three.0 in
    let one = and_parts (nat_lt e.from locations) (nat_lt e.to locations) two.0 in
    record {
      from = ltb-true e.from locations one.0;
      to = ltb-true e.to locations one.1;
      linear = record { few_draws = at_most-true e.draws 64 two.1; linear = instructions-linear variables e.draws e.instructions three.1 };
    }

fits-edges : (variables locations : ℕ) (es : List Transition) → list_all (transition_fits variables locations) es ≡ true → All (IsFit variables locations) es
fits-edges variables locations [] h = All-nil (IsFit variables locations)
fits-edges variables locations (e ∷ es) h =
    let both = and_parts (transition_fits variables locations e) (list_all (transition_fits variables locations) es) h in
    All-cons (IsFit variables locations) e es (fits-edge variables locations e both.0) (fits-edges variables locations es both.1)

pub plain-edges : (variables locations start : ℕ) (es : List Transition) → IsWithinLimits variables locations start es → All IsPlain es
plain-edges variables locations start es h = each es (fits-edges variables locations es h.edges_fit) where
  each : (es : List Transition) → All (IsFit variables locations) es → All IsPlain es
  each [] k = All-nil IsPlain
  each (e ∷ es) k = All-cons IsPlain e es (All-head (IsFit variables locations) e es k).linear.linear (each es (All-tail (IsFit variables locations) e es k))

pub linear-edges : (variables locations start : ℕ) (edges : List Edge) → IsWithinLimits variables locations start (transitions edges) → All (λ e. IsLinearEdge (transition e)) edges
linear-edges variables locations start edges h = each edges h.edges_fit where
  each : (es : List Edge) → list_all (transition_fits variables locations) (transitions es) ≡ true → All (λ e. IsLinearEdge (transition e)) es
  each [] k = All-nil (λ e. IsLinearEdge (transition e))
  each (e ∷ es) k =
      let both = and_parts (transition_fits variables locations (transition e)) (list_all (transition_fits variables locations) (transitions es)) k in
      All-cons (λ e. IsLinearEdge (transition e)) e es (fits-edge variables locations (transition e) both.0).linear (each es both.1)

-- ---- the limits of the cases

cases-bounded : (n k : ℕ) (before : List LinearCase) (es : List Transition) (all : List LinearCase) → cases_from n k before es ≡ Ok all → are_few before ≡ true → are_few all ≡ true
cases-bounded n k before [] all h bounded = let e : before ≡ all = cc in ap are_few (sym e) ∙ bounded
cases-bounded n k before (e ∷ es) all h bounded =
    let r = cases_from-ok n k before all e es h in
    cases-bounded n (suc k) (before ++ edge_cases n e) es all r.later r.bounded

cases-are : (n locations k : ℕ) (before : List LinearCase) (es : List Transition) (all : List LinearCase) → cases_from n k before es ≡ Ok all → All (IsFit n locations) es → All (IsCase n locations) before → All (IsCase n locations) all
cases-are n locations k before [] all h fit cases = let e : before ≡ all = cc in subst (All (IsCase n locations)) e cases
cases-are n locations k before (e ∷ es) all h fit cases =
    let here = All-head (IsFit n locations) e es fit in
    cases-are n locations (suc k) (before ++ edge_cases n e) es all (cases_from-ok n k before all e es h).later (All-tail (IsFit n locations) e es fit)
    (All-append (IsCase n locations) before (edge_cases n e) cases (edge-are_cases n locations e here.from here.to here.linear.few_draws))

pub are-cases : (n locations start : ℕ) (es : List Transition) (all : List LinearCase) → IsWithinLimits n locations start es → cases_from n 0 [] es ≡ Ok all → AreCases (record { variables = n; locations = locations; start = start; cases = all })
are-cases n locations start es all h ok =
    let bounded = and_parts (nat_le (length all) 8192) (nat_le (sum (map coefficients all)) 8000000) (cases-bounded n 0 [] es all ok refl) in
    record {
      few_variables = at_most-true n 512 h.few_variables;
      few_locations = at_most-true locations 1024 h.few_locations;
      starts = ltb-true start locations h.starts;
      few_cases = at_most-true (length all) 8192 bounded.0;
      few_coefficients = at_most-true (sum (map coefficients all)) 8000000 bounded.1;
      cases = cases-are n locations 0 [] es all ok (fits-edges n locations es h.edges_fit) (All-nil (IsCase n locations));
    }

-- ---- the same steps

pub answer-same_steps : (p : System) (answer : Result Cases CaseFault) → IsLimited p → Answers p answer → IfOk answer (λ c. HaveSameSteps p (cases_of c))
answer-same_steps p (Ok c) h ok = λ s t many. same-steps p (cases_of c) ok (plain-edges (length p.variables) (length p.locations) p.start p.edges h) s t many
answer-same_steps p (Err fault) h ok = tt
