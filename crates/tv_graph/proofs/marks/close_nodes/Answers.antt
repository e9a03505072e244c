use Rattle.std.proofs.Common.{◌≡◌, ℕ, ◌-◌, ◌<◌, ◌≤◌, length, take, get_or, slice_set, refl, sym, ◌∙◌, ap, subst, arith}
use Rattle.std.specs.Prelude.{sum_by}
use Rattle.std.proofs.lemmas.Grind.{common_steps}
use Rattle.std.proofs.lemmas.List.{length-set, get_or-take, length-take, length-take-le}
use Rattle.std.proofs.Math.Seq.{take-length}
use Rattle.tv_graph.specs.Marks.{mark_at, unseen, Closes}
use Rattle.tv_graph.specs.declared.marks.Mark.TheVariants.{Open, Closed}
use Rattle.tv_graph.proofs.StackLemmas.{take_take_less}
use Rattle.tv_graph.proofs.SearchLemmas.{closes_less, unseen_less}
use Rattle.tv_graph.proofs.marks.close_nodes.Goals as goal

pub nodes-init : goal.nodes-init
nodes-init c = record {
  inside = c.requires.inside;
  path = sym (take-length c.args.path.now.items);
  closing = record {
    take = λ u i mu pi. (let h : i < length c.args.path.now.items = (c.requires.placed u i mu).0 in absurd (omega arith));
    keep = λ u i mu lt. mu;
    new = λ u mu. mu;
    old = λ u d mu. mu;
  };
  nodes = refl;
  unseen = refl;
}

pub index_mut-requires : goal.index_mut-requires
index_mut-requires c =
    let n : ℕ = length c.nodes.path.items - 1 in
    let some : 0 < length c.nodes.path.items = grind (arith, common_steps) in
    let long : length c.nodes.path.items ≤ length c.args.path.now.items = omega (arith, ap length c.nodes.invariant.path, length-take (length c.nodes.path.items) c.args.path.now.items) in
    let read0 : c.index.result.now ≡ get_or c.nodes.path.items (length c.nodes.path.items - 1) 0 = grind (arith, common_steps) in
    let less : length c.nodes.path.items - 1 < length c.nodes.path.items = omega arith in
    let read : c.index.result.now ≡ get_or c.args.path.now.items (length c.nodes.path.items - 1) 0 = read0 ∙ (ap (λ xs. get_or xs (length c.nodes.path.items - 1) 0) c.nodes.invariant.path ∙ get_or-take (length c.nodes.path.items) c.args.path.now.items (length c.nodes.path.items - 1) 0 less) in
    let lt : get_or c.args.path.now.items (length c.nodes.path.items - 1) 0 < length c.args.marks.now.items = c.requires.nodes (length c.nodes.path.items - 1) (omega arith) in
    let nodes : length c.nodes.marks.items ≡ length c.args.marks.now.items = c.nodes.invariant.nodes in
    omega arith

pub nodes-preserved : goal.nodes-preserved
nodes-preserved c =
    let n : ℕ = length c.nodes.path.items - 1 in
    let some : 0 < length c.nodes.path.items = grind (arith, common_steps) in
    let long : length c.nodes.path.items ≤ length c.args.path.now.items = omega (arith, ap length c.nodes.invariant.path, length-take (length c.nodes.path.items) c.args.path.now.items) in
    let read0 : c.index.result.now ≡ get_or c.nodes.path.items (length c.nodes.path.items - 1) 0 = grind (arith, common_steps) in
    let less : length c.nodes.path.items - 1 < length c.nodes.path.items = omega arith in
    let read : c.index.result.now ≡ get_or c.args.path.now.items (length c.nodes.path.items - 1) 0 = read0 ∙ (ap (λ xs. get_or xs (length c.nodes.path.items - 1) 0) c.nodes.invariant.path ∙ get_or-take (length c.nodes.path.items) c.args.path.now.items (length c.nodes.path.items - 1) 0 less) in
    let lt : get_or c.args.path.now.items (length c.nodes.path.items - 1) 0 < length c.args.marks.now.items = c.requires.nodes (length c.nodes.path.items - 1) (omega arith) in
    let nodes : length c.nodes.marks.items ≡ length c.args.marks.now.items = c.nodes.invariant.nodes in
    let rest : c.pop.new.self.items ≡ take (length c.nodes.path.items - 1) c.nodes.path.items = grind (arith, common_steps) in
    let short : length c.pop.new.self.items ≡ length c.nodes.path.items - 1 = ap length rest ∙ length-take-le (length c.nodes.path.items - 1) c.nodes.path.items (omega arith) in
    let place : c.args.place < length c.nodes.path.items = grind (arith, common_steps) in
    let here : mark_at c.args.marks.now.items (get_or c.args.path.now.items (length c.nodes.path.items - 1) 0) ≡ Open (length c.nodes.path.items - 1) = c.requires.seated (length c.nodes.path.items - 1) (omega arith) in
    let within : get_or c.args.path.now.items (length c.nodes.path.items - 1) 0 < length c.nodes.marks.items = omega arith in
    let closing : Closes (mark_at c.args.marks.now.items) (mark_at (slice_set c.nodes.marks.items (get_or c.args.path.now.items (length c.nodes.path.items - 1) 0) (Closed c.args.number))) (length c.nodes.path.items - 1) c.args.number
    = closes_less c.args.marks.now.items c.nodes.marks.items c.args.path.now.items (length c.nodes.path.items - 1) (length c.nodes.path.items) c.args.number c.requires.placed c.requires.seated (omega arith) (omega arith) within c.nodes.invariant.closing in
    let unseen_kept : sum_by unseen (slice_set c.nodes.marks.items (get_or c.args.path.now.items (length c.nodes.path.items - 1) 0) (Closed c.args.number)) ≡ sum_by unseen c.nodes.marks.items
    = unseen_less c.args.marks.now.items c.nodes.marks.items (get_or c.args.path.now.items (length c.nodes.path.items - 1) 0) (length c.nodes.path.items - 1) (length c.nodes.path.items) c.args.number here less within c.nodes.invariant.closing in
    record {
      inside = omega arith;
      path = rest ∙ (ap (take (length c.nodes.path.items - 1)) c.nodes.invariant.path ∙ (take_take_less (length c.nodes.path.items - 1) (length c.nodes.path.items) c.args.path.now.items (omega arith) ∙ ap (λ k. take k c.args.path.now.items) (sym short)));
      closing = subst (λ v. Closes (mark_at c.args.marks.now.items) (mark_at (slice_set c.nodes.marks.items v (Closed c.args.number))) (length c.pop.new.self.items) c.args.number) (sym read)
          (subst (λ k. Closes (mark_at c.args.marks.now.items) (mark_at (slice_set c.nodes.marks.items (get_or c.args.path.now.items (length c.nodes.path.items - 1) 0) (Closed c.args.number))) k c.args.number) (sym short) closing);
      nodes = length-set c.nodes.marks.items c.index.result.now (Closed c.args.number) ∙ c.nodes.invariant.nodes;
      unseen = ap (λ v. sum_by unseen (slice_set c.nodes.marks.items v (Closed c.args.number))) read ∙ (unseen_kept ∙ c.nodes.invariant.unseen);
    }
