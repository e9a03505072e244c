use Rattle.std.proofs.Common.{◌≡◌, ℕ, ◌+◌, ◌<◌, inl, inr, ◌++◌, ◌∷◌, [], length, get_or, slice_set, sym, ◌∙◌, ap, subst, arith, length-append}
use Rattle.std.proofs.lemmas.Grind.{common_steps}
use Rattle.std.proofs.lemmas.List.{length-set, get_or-set_same, get_or-set_other}
use Rattle.std.proofs.Math.ListN.{get_or-append}
use Rattle.std.proofs.Math.Seq.{get_or-append_seam}
use Rattle.std.proofs.lemmas.Bool.{cases_lt, cases_eq}
use Rattle.tv_graph.specs.Arcs.{IsPastLast, from_at}
use Rattle.tv_graph.proofs.ReachLemmas.{last_here, last_on}
use Rattle.tv_graph.proofs.adjacency.AdjacencyLists.new.Goals as goal

pub arcs-preserved : goal.arcs-preserved
arcs-preserved c =
    let node : ℕ = from_at c.args.arcs.now c.arcs.a in
    let wide : length c.arcs.latest.items ≡ c.args.nodes = c.arcs.invariant.nodes in
    let many : length c.arcs.earlier.items ≡ c.arcs.a = c.arcs.invariant.many in
    let inside : from_at c.args.arcs.now c.arcs.a < c.args.nodes = c.requires.from_in c.arcs.a (omega arith) in
    let pushes : c.push_item.new.items.items ≡ c.arcs.earlier.items ++ c.index.result.now ∷ [] = c.in_ok-push_item.ensures in
    let read : c.index.result.now ≡ get_or c.arcs.latest.items (from_at c.args.arcs.now c.arcs.a) 0 = grind (arith, common_steps) in
    record {
      nodes = length-set c.arcs.latest.items (from_at c.args.arcs.now c.arcs.a) (c.arcs.a + 1) ∙ c.arcs.invariant.nodes;
      many = omega (arith, ap length pushes, length-append c.arcs.earlier.items (c.index.result.now ∷ []));
      latest = λ u lt. elim (cases_eq u (from_at c.args.arcs.now c.arcs.a)) [
        | inl same ↦ subst (λ k. IsPastLast c.args.arcs.now u (c.arcs.a + 1) k)
            (sym (ap (λ v. get_or (slice_set c.arcs.latest.items (from_at c.args.arcs.now c.arcs.a) (c.arcs.a + 1)) v 0) same ∙ get_or-set_same c.arcs.latest.items (from_at c.args.arcs.now c.arcs.a) (c.arcs.a + 1) 0 (omega arith)))
            (last_here c.args.arcs.now u c.arcs.a (sym same))
        | inr ne ↦ subst (λ k. IsPastLast c.args.arcs.now u (c.arcs.a + 1) k)
            (sym (get_or-set_other c.arcs.latest.items (from_at c.args.arcs.now c.arcs.a) u (c.arcs.a + 1) 0 ne))
            (last_on c.args.arcs.now u c.arcs.a (get_or c.arcs.latest.items u 0) (c.arcs.invariant.latest u lt) (λ e. ne (sym e)))
      ];
      earlier = λ b lt. elim (cases_lt b c.arcs.a) [
        | inl l ↦ subst (λ k. IsPastLast c.args.arcs.now (from_at c.args.arcs.now b) b k)
            (sym (ap (λ xs. get_or xs b 0) pushes ∙ get_or-append c.arcs.earlier.items (c.index.result.now ∷ []) 0 b (omega arith)))
            (c.arcs.invariant.earlier b l)
        | inr g ↦
            let e : b ≡ c.arcs.a = omega arith in
            let seam : get_or c.push_item.new.items.items c.arcs.a 0 ≡ c.index.result.now = ap (λ xs. get_or xs c.arcs.a 0) pushes ∙ (ap (λ k. get_or (c.arcs.earlier.items ++ c.index.result.now ∷ []) k 0) (sym many) ∙ get_or-append_seam c.arcs.earlier.items c.index.result.now [] 0) in
            subst (λ k. IsPastLast c.args.arcs.now (from_at c.args.arcs.now k) k (get_or c.push_item.new.items.items k 0)) (sym e)
            (subst (λ k. IsPastLast c.args.arcs.now (from_at c.args.arcs.now c.arcs.a) c.arcs.a k) (sym (seam ∙ read)) (c.arcs.invariant.latest (from_at c.args.arcs.now c.arcs.a) inside))
      ];
    }

pub returns-clause-latest : goal.returns-clause-latest
returns-clause-latest c =
    let all : c.arcs.a ≡ length c.args.arcs.now = omega arith in
    record {
      many = c.arcs.invariant.nodes;
      links = λ u lt. subst (λ n. IsPastLast c.args.arcs.now u n (get_or c.arcs.latest.items u 0)) all (c.arcs.invariant.latest u lt);
    }
