use Rattle.std.proofs.Common.{◌∙◌, ap, map}
use Rattle.tv_invariant.specs.Thinning.{picked}
use Rattle.tv_invariant.proofs.PickLemmas.{thinned-into}
use Rattle.tv_invariant.proofs.thinning.+thinned.Goals as goal

pub returns-in_ok-thin_lists-in-Into : goal.returns-in_ok-thin_lists-in-Into
returns-in_ok-thin_lists-in-Into t c =
    let marks = c.args.marks.now in
    let lists = c.in_ok-thin_lists-in-Into.ensures ∙ ap (map (λ l. picked marks l.items)) c.deref-in-Into.ensures.value in
    thinned-into marks c.args.tree.now c.in-Into.target c.in-Into.fall c.in-Into.refutations c.in_ok-thin_lists-in-Into.field-0 c.in-Into.is lists
