use Rattle.std.proofs.Common.{rules, FitsSigned, ◌≡◌, ◌+◌, ◌∷◌, [], ◌++◌, length, arith, refl, sym, ap, subst, ◌∙◌}
use Rattle.std.specs.Int.{w128}
use Rattle.std.proofs.lemmas.Int.{to_z-of_z}
use Rattle.tv_simplex.specs.Entries.{dense, AreOrdered}
use Rattle.tv_simplex.proofs.EntriesLemmas.{length-dense, ordered_push, dense_push}
use Rattle.tv_simplex.proofs.entries.Entries.push.Goals as goal

pub overflow_add-self : goal.overflow_add-self
overflow_add-self c =
    let e : c.self.inside.length ≡ length c.args.self.now = sym (length-dense c.self.inside.kept.items c.self.inside.length) ∙ ap length c.self.view_is in
    omega (arith, e)

pub invariant_of-self-2 : goal.invariant_of-self-2
invariant_of-self-2 c =
    subst (λ ks. AreOrdered 0 (c.self.inside.length + 1) ks) (sym c.in_ok-push.ensures.items) (ordered_push c.self.inside.length c.self.inside.kept.items _ c.self.invariant refl)

pub returns : goal.returns
returns c =
    let f : FitsSigned w128 c.args.number = search rules in
    ap (λ ks. dense ks (c.self.inside.length + 1)) c.in_ok-push.ensures.items
    ∙ dense_push c.self.inside.kept.items c.self.inside.length _ c.self.invariant refl
    ∙ (λ i. c.self.view_is i ++ to_z-of_z w128 c.args.number f i ∷ [])
