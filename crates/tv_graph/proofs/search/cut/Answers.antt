use Rattle.std.proofs.Common.{◌≡◌, ℕ, ◌-◌, ◌<◌, inl, inr, length, take, get_or, List, sym, subst, arith}
use Rattle.std.proofs.lemmas.Grind.{common_steps}
use Rattle.tv_graph.specs.Stacks.{Has, Cuts, whole, less}
use Rattle.tv_graph.proofs.StackLemmas.{has_some, has_rest}
use Rattle.tv_graph.proofs.search.cut.Goals as goal

pub cut-preserved : goal.cut-preserved
cut-preserved c =
    let xs : List ℕ = c.cut.boundaries.items in
    let some : 0 < length c.cut.boundaries.items = has_some c.cut.boundaries.items 0 c.cut.invariant.bottom in
    let top : c.index.result.now ≡ get_or c.cut.boundaries.items (length c.cut.boundaries.items - 1) 0 = grind (arith, common_steps) in
    let above : c.args.place < get_or c.cut.boundaries.items (length c.cut.boundaries.items - 1) 0 = omega arith in
    let rest : c.pop.new.self.items ≡ take (length c.cut.boundaries.items - 1) c.cut.boundaries.items = grind (arith, common_steps) in
    record {
      bottom = elim (has_rest c.cut.boundaries.items 0 c.cut.invariant.bottom) [ inl h ↦ subst (λ ys. Has ys 0) (sym rest) h | inr e ↦ absurd (omega arith) ];
      cuts = λ ys h. c.cut.invariant.cuts ys (less c.cut.boundaries.items ys some above (subst (λ zs. Cuts c.args.place zs ys) rest h));
    }

pub returns-clause-cuts : goal.returns-clause-cuts
returns-clause-cuts c = c.cut.invariant.cuts c.cut.boundaries.items (whole c.cut.boundaries.items)
