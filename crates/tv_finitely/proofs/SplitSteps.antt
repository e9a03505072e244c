-- The cases with a mark lead exactly along the steps to states of one kind.
use Rattle.std.proofs.Common.{◌≡◌, ◌∙◌, ◌↔◌, ℕ, List, [], ◌∷◌, ◌++◌, length, refl, sym, ap, subst, ℤ, Bool, true, false}
use Rattle.std.specs.Prelude.{Some, Ok}
use Rattle.std.specs.List.{Contains, flat_map}
use Rattle.std.proofs.lemmas.List.Elements.{All-contains}
use Rattle.tv_program.specs.Meaning.{truth_of, executed, only_if}
use Rattle.tv_program.specs.Steps.{State, Steps}
use Rattle.tv_program.specs.Systems.{System, IsLimited}
use Rattle.tv_program.specs.Trees.{Condition, Instruction, assume, assign, Transition}
use Rattle.tv_formula.specs.Limits.{property_fits}
use Rattle.tv_formula.specs.Properties.{Property}
use Rattle.tv_meaning.specs.Meaning.{Holds}
use Rattle.tv_cases.specs.Answers.{IsOfProgram}
use Rattle.tv_cases.specs.EdgeCases.{case_of, edge_end, edge_cases}
use Rattle.tv_cases.specs.LinearCases.{LinearCase}
use Rattle.tv_cases.specs.ProgramCases.{linear_cases}
use Rattle.tv_cases.proofs.CaseLimits.{plain-edges}
use Rattle.tv_cases.proofs.ContainsLemmas.{Contains-from_map}
use Rattle.tv_cases.proofs.SameSteps.{edge-same, OfEdge, IsPlain}
use Rattle.tv_edges.proofs.EdgeLemmas.{cases-are_all}
use Rattle.tv_finitely.specs.Doubling.{copies, doubled}
use Rattle.tv_finitely.specs.Splits.{SplitSystem, with_marks, marked_cases, edge_marks, StepsBy, IsSplitOf, IsSplitIn}
use Rattle.tv_finitely.proofs.Assumed.{Tells, holds-at, fails-at, holds-decided}
use Rattle.tv_finitely.proofs.Doubled.{assumed, copy, copy-among}
use Rattle.tv_finitely.proofs.Marked.{marked_copies, in-copies, from-copies}

-- ---- an assumption after the others

record BothHold (is : List Instruction) (c : Condition) (xs ds ys : List ℤ) : Type 0 where
  before : executed is xs ds ≡ Some ys
  last : truth_of c ys ds ≡ true

with-last : (is : List Instruction) (c : Condition) (xs ds ys : List ℤ) → executed is xs ds ≡ Some ys → truth_of c ys ds ≡ true → executed (is ++ assume c ∷ []) xs ds ≡ Some ys
with-last [] c xs ds ys h t =
    let same : xs ≡ ys = cc in
    subst (λ zs. only_if (truth_of c zs ds) (Some zs) ≡ Some ys) (sym same) (ap (λ b. only_if b (Some ys)) t)
with-last (assume d ∷ is) c xs ds ys h t = by_test (truth_of d xs ds) h (λ k. with-last is c xs ds ys k t) where
  by_test : (b : Bool) → only_if b (executed is xs ds) ≡ Some ys → (executed is xs ds ≡ Some ys → executed (is ++ assume c ∷ []) xs ds ≡ Some ys) → only_if b (executed (is ++ assume c ∷ []) xs ds) ≡ Some ys
  by_test true k later = later k
  by_test false k later = absurd cc
with-last (assign v e ∷ is) c xs ds ys h t = with-last is c _ ds ys h t

without-last : (is : List Instruction) (c : Condition) (xs ds ys : List ℤ) → executed (is ++ assume c ∷ []) xs ds ≡ Some ys → BothHold is c xs ds ys
without-last [] c xs ds ys h = by_test (truth_of c xs ds) refl h where
  by_test : (b : Bool) → truth_of c xs ds ≡ b → only_if b (Some xs) ≡ Some ys → BothHold [] c xs ds ys
  by_test true t k = let same : xs ≡ ys = cc in record { before = k; last = subst (λ zs. truth_of c zs ds ≡ true) same t }
  by_test false t k = absurd cc
without-last (assume d ∷ is) c xs ds ys h = by_test (truth_of d xs ds) refl h (λ k. without-last is c xs ds ys k) where
  by_test : (b : Bool) → truth_of d xs ds ≡ b → only_if b (executed (is ++ assume c ∷ []) xs ds) ≡ Some ys → (executed (is ++ assume c ∷ []) xs ds ≡ Some ys → BothHold is c xs ds ys) → BothHold (assume d ∷ is) c xs ds ys
  by_test true t k later = let r = later k in record { before = ap (λ b. only_if b (executed is xs ds)) t ∙ r.before; last = r.last }
  by_test false t k later = absurd cc
without-last (assign v e ∷ is) c xs ds ys h = let r = without-last is c _ ds ys h in record { before = r.before; last = r.last }

-- ---- steps of the copies with a mark

case-ends : (n : ℕ) (e : Transition) (c : LinearCase) → Contains (edge_cases n e) c → OfEdge e c
case-ends n e c among =
    let l = Contains-from_map (case_of e (edge_end n e).terms) (edge_end n e).lists c among in
    record { from = ap (λ (x : LinearCase). x.from) (sym l.2); to = ap (λ (x : LinearCase). x.to) (sym l.2); draws = ap (λ (x : LinearCase). x.draws) (sym l.2) }

module _ (p : System) (f : Property) (s : SplitSystem) (cases : linear_cases (doubled f p) ≡ Ok s.system.cases) (marks : s.enters ≡ edge_marks (length p.variables) (doubled f p).edges) (limited : IsLimited (doubled f p)) where
  these : marked_cases s ≡ marked_copies (length p.variables) f p.edges
  these = let all = cases-are_all (doubled f p) s.system.cases cases in (λ i. with_marks (all i) (marks i))

  plain : (mark : Bool) (e : Transition) → Contains p.edges e → IsPlain (copy mark f e)
  plain mark e among =
      All-contains IsPlain (flat_map (copies f) p.edges) (copy mark f e) (plain-edges (length p.variables) (length p.locations) p.start (flat_map (copies f) p.edges) limited) (copy-among mark f p.edges e among)

  module _ (mark : Bool) (kind : State → Type 0) (tells : (b : State) (ds : List ℤ) → Tells (truth_of (assumed mark b.location f) b.values ds) (kind b)) (a b : State) (many : length a.values ≡ length p.variables) where
    forth : Steps p a b × kind b → StepsBy s mark a b
    forth (step, is) =
        let e = step.edge in
        let last = subst (λ l. truth_of (assumed mark l f) b.values step.draws ≡ true) step.does.enters ((tells b step.draws).1 is) in
        let gives = with-last e.instructions (assumed mark e.to f) a.values step.draws b.values step.does.gives last in
        let by = (edge-same (length p.variables) (copy mark f e) a.values step.draws many step.does.drawn (plain mark e step.among) b.values).0 gives in
        let of = case-ends (length p.variables) (copy mark f e) by.taken by.among in
        record {
          taken = by.taken;
          among = subst (λ cs. Contains cs (by.taken, mark)) (sym these) (in-copies (length p.variables) f p.edges mark e by.taken step.among by.among);
          draws = step.draws;
          does = record {
            leaves = step.does.leaves ∙ sym of.from;
            enters = step.does.enters ∙ sym of.to;
            drawn = step.does.drawn ∙ sym of.draws;
            guards = by.guards;
            gives = by.gives;
          };
        }

    back : StepsBy s mark a b → Steps p a b × kind b
    back step =
        let o = from-copies (length p.variables) f p.edges mark step.taken (subst (λ cs. Contains cs (step.taken, mark)) these step.among) in
        let e = o.edge in
        let of = case-ends (length p.variables) (copy mark f e) step.taken o.inside in
        let drawn = step.does.drawn ∙ of.draws in
        let gives = (edge-same (length p.variables) (copy mark f e) a.values step.draws many drawn (plain mark e o.among) b.values).1
        (record { taken = step.taken; among = o.inside; guards = step.does.guards; gives = step.does.gives }) in
        let parts = without-last e.instructions (assumed mark e.to f) a.values step.draws b.values gives in
        let enters = step.does.enters ∙ of.to in (
          record {
            edge = e;
            among = o.among;
            draws = step.draws;
            does = record { leaves = step.does.leaves ∙ of.from; enters = enters; drawn = drawn; gives = parts.before };
          },
          (tells b step.draws).0 (subst (λ l. truth_of (assumed mark l f) b.values step.draws ≡ true) (sym enters) parts.last),
        )

    pub steps-by : (Steps p a b × kind b) ↔ StepsBy s mark a b
    steps-by = (forth, back)

-- it is the program split by the property
pub is-split : (p : System) (f : Property) (s : SplitSystem) (locations : ℕ) → IsSplitIn p f s → IsOfProgram (doubled f p) s.system → IsLimited (doubled f p) → property_fits (length p.variables) locations f ≡ true → IsSplitOf p f s
is-split p f s locations made of limited fits =
    let n = length p.variables in
    record {
      program = record { variables = of.variables; locations = of.locations; start = of.start };
      decided = λ a. holds-decided (Steps p) n locations f made.local fits a;
      entering = λ a b many. steps-by p f s made.cases made.marks limited true (λ x. Holds (Steps p) f x) (λ x ds. holds-at (Steps p) n locations f made.local fits x ds) a b many;
      leaving = λ a b many. steps-by p f s made.cases made.marks limited false (λ x. ¬ (Holds (Steps p) f x)) (λ x ds. fails-at (Steps p) n locations f made.local fits x ds) a b many;
    }
