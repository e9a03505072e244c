use Rattle.std.proofs.Common.{◌≡◌, ◌<◌, ◌≤◌, ◌+◌, ◌-◌, ◌∙◌, length, drop, sym, subst, ap, arith}
use Rattle.tv_program.specs.Programs.{system_of}
use Rattle.tv_program.specs.Views.{transition, transitions}
use Rattle.tv_cases.specs.EdgeCases.{edge_cases}
use Rattle.tv_edges.specs.Edges.{edge_at, IsOfEdge}
use Rattle.tv_edges.proofs.EdgeLemmas.{Left, all_cases, cases-are_all, few_cases, own_counted, edge_here, edge_later, left_later, is-of_edge}
use Rattle.tv_edges.proofs.edges.edge_of.Goals as goal

pub loop-number-init : goal.loop-number-init
loop-number-init c =
    let p = system_of c.args.program.now in
    let n = length p.variables in
    let inside : c.args.taken < length (all_cases n p.edges) = subst (λ cs. c.args.taken < length cs) (cases-are_all p c.requires.cases c.requires.are) c.requires.inside in
    let first : Left n p.edges c.args.taken = record { inside = inside; few = few_cases p c.requires.cases c.edges-edges.ensures.limits c.requires.are } in
    let at : edge_at n p.edges c.args.taken ≡ edge_at n (transitions c.edges-edges.result.now) c.from-left.result = rw (c.edges-edges.ensures.same, c.from-left.ensures) in
    record {
      at = omega (arith, at);
      left = rw (c.edges-edges.ensures.same, c.from-left.ensures) first;
    }

pub returns-then-left-here-clause-at : goal.returns-then-left-here-clause-at
returns-then-left-here-clause-at c =
    let n = length c.args.program.now.variables in
    let edges = c.edges-edges.result.now in
    let e = c.index-edges-number.result in
    let inv = c.loop-number.invariant in
    let many = own_counted n edges c.loop-number.number c.loop-number.left e c.loop-number-test.true c.index-edges-number.is inv.left c.deref.result.now (c.amount_of_commands-here.result).lists c.deref.ensures.value (ap (λ a. a.lists) c.amount_of_commands-here.ensures.is) in
    let below : c.loop-number.left < length (edge_cases n (transition e)) = subst (λ m. c.loop-number.left < m) many c.if-left-here.true in
    let here = edge_here n edges c.loop-number.number c.loop-number.left e c.loop-number-test.true c.index-edges-number.is inv.left below in
    let at = inv.at in
    omega (arith, at, here)

pub returns-then-left-here-clause-of : goal.returns-then-left-here-clause-of
returns-then-left-here-clause-of c cases h =
    let p = system_of c.args.program.now in
    let same = cases-are_all p cases h ∙ sym (cases-are_all p c.requires.cases c.requires.are) in
    subst (IsOfEdge p cases c.args.taken) (sym (returns-then-left-here-clause-at c))
    (is-of_edge p cases c.args.taken h (subst (λ cs. c.args.taken < length cs) (sym same) c.requires.inside))

pub loop-number-preserved : goal.loop-number-preserved
loop-number-preserved c =
    let n = length c.args.program.now.variables in
    let edges = c.edges-edges.result.now in
    let i = c.loop-number.number in
    let k = c.loop-number.left in
    let e = c.index-edges-number.result in
    let inv = c.loop-number.invariant in
    let many = own_counted n edges i k e c.loop-number-test.true c.index-edges-number.is inv.left c.deref.result.now (c.amount_of_commands-here.result).lists c.deref.ensures.value (ap (λ a. a.lists) c.amount_of_commands-here.ensures.is) in
    let past : length (edge_cases n (transition e)) ≤ k = subst (λ m. m ≤ k) many c.if-left-here.false in
    let later = edge_later n edges i k e c.loop-number-test.true c.index-edges-number.is inv.left past in
    let left = left_later n edges i k e c.loop-number-test.true c.index-edges-number.is inv.left past in
    let at : edge_at n (system_of c.args.program.now).edges c.args.taken ≡ i + 1 + edge_at n (transitions (drop (i + 1) edges)) (k - length (edge_cases n (transition e))) = (let at = inv.at in omega (arith, at, later)) in
    record { at = rw many at; left = rw many left }
