use Rattle.std.proofs.Common.{◌+◌, ◌*◌, ◌-◌, ◌/◌, drop, subst, sym, ap, ◌∙◌}
use Rattle.tv_linear.specs.Packed.{ArePacked}
use Rattle.tv_cert.proofs.MarkedLemmas.{ranks_packed}
use Rattle.tv_cert.proofs.node.Marked.ranks.Goals as goal

pub new-requires : goal.new-requires
new-requires c =
    let m = c.self.inside in
    subst (λ (x : Type 0). x) (λ i. ArePacked m.columns (sym (c.len.ensures ∙ m.numbers.ok.0) i / (m.columns + 1) - m.rows) (sym (c.split_at.ensures.back ∙ ap (drop (m.rows * (m.columns + 1))) c.deref.ensures.value) i)) (ranks_packed m.columns m.rows m.numbers.items c.self.invariant)
