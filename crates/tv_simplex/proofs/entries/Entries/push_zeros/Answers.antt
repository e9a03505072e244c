use Rattle.std.proofs.Common.{◌≡◌, ◌++◌, length, arith, sym, ap, ◌∙◌}
use Rattle.tv_linear.specs.Arithmetic.{zeros}
use Rattle.tv_simplex.proofs.EntriesLemmas.{length-dense, ordered_wider, dense_zeros}
use Rattle.tv_simplex.proofs.entries.Entries.push_zeros.Goals as goal

pub overflow_add-self : goal.overflow_add-self
overflow_add-self c =
    let e : c.self.inside.length ≡ length c.args.self.now = sym (length-dense c.self.inside.kept.items c.self.inside.length) ∙ ap length c.self.view_is in
    omega (arith, e)

pub invariant_of-self : goal.invariant_of-self
invariant_of-self c = ordered_wider 0 c.self.inside.length _ c.self.inside.kept.items c.self.invariant (omega arith)

pub returns : goal.returns
returns c = dense_zeros c.self.inside.kept.items c.self.inside.length c.args.count c.self.invariant ∙ ap (λ xs. xs ++ zeros c.args.count) c.self.view_is
