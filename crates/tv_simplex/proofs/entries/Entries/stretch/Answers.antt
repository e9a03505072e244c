use Rattle.std.proofs.Common.{◌≡◌, ◌+◌, ◌≤◌, length, take, drop, get_or, arith, sym, ap, subst, ◌∙◌, pos}
use Rattle.tv_simplex.specs.Entries.{AreOrdered, AreKept}
use Rattle.tv_simplex.proofs.EntriesLemmas.{length-dense, places_fit, ordered_dropped, ordered_passed, stretch_kept}
use Rattle.tv_simplex.proofs.entries.Entries.stretch.Goals as goal

pub overflow_sub-zeros : goal.overflow_sub-zeros
overflow_sub-zeros c =
    let kept = c.len.ensures in
    let fit = places_fit 0 c.self.inside.length c.self.inside.kept.items c.self.invariant (omega arith) in
    omega (arith, kept, fit)

pub split_at-requires : goal.split_at-requires
split_at-requires c =
    let kept = c.len.ensures in
    let passed = c.saturating_sub-passed.ensures in
    let slice = c.deref.ensures.len in
    let within = c.requires.within in
    let e : c.self.inside.length ≡ length c.args.self.now = sym (length-dense c.self.inside.kept.items c.self.inside.length) ∙ ap length c.self.view_is in
    omega (arith, kept, passed, slice, within, e)

pub returns : goal.returns
returns c =
    let ks = c.self.inside.kept.items in
    let n = c.self.inside.length in
    let first = c.args.first in
    let end = c.args.first + c.args.count in
    let passed = c.saturating_sub-passed.result in
    let near = c.split_at.result.1.now in
    let i = c.count_before.result in
    let m = c.count_before-2.result in
    let e : n ≡ length c.args.self.now = sym (length-dense ks n) ∙ ap length c.self.view_is in
    let asked = c.requires.within in
    let within : end ≤ n = omega (arith, asked, e) in
    let count = c.len.ensures in
    let less = c.saturating_sub-passed.ensures in
    let before = ordered_passed 0 n first passed ks c.self.invariant (λ p. omega (arith, p, count, less)) in
    let parted = c.split_at.ensures.back ∙ ap (λ z. drop passed z) c.deref.ensures.value in
    let left = subst (λ z. AreOrdered passed n z) (sym parted) (ordered_dropped 0 n passed passed ks c.self.invariant (omega arith)) in
    let front = c.count_before.ensures.front passed n left in
    let back = c.count_before.ensures.back passed n left (omega (arith, less)) in
    let b = c.split_at-2.ensures.back in
    let behind = subst (λ z. AreOrdered first n z) (sym b) back in
    let inside = subst (λ z. AreOrdered first end (take m z)) b (c.count_before-2.ensures.front first n behind) in
    let after = subst (λ z. AreOrdered end n (drop m z)) b (c.count_before-2.ensures.back first n behind (omega arith)) in
    let kept = stretch_kept ks near n first c.args.count passed i m parted c.self.invariant within before front back inside after in
    subst (λ z. AreKept (λ j. get_or c.args.self.now (first + j) (pos 0)) first 0 c.args.count z) (sym (c.split_at-3.ensures.front ∙ ap (λ z. take m z) b))
    (subst (λ xs. AreKept (λ j. get_or xs (first + j) (pos 0)) first 0 c.args.count (take m (drop i near))) c.self.view_is kept)
