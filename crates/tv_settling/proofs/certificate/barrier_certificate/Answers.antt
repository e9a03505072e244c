use Rattle.std.proofs.Common.{sym, subst}
use Rattle.tv_formula.specs.Properties.{Property}
use Rattle.tv_cases.specs.Systems.{cases_of}
use Rattle.tv_shape.specs.Narrow.{CoverNarrow}
use Rattle.tv_lexrank.specs.Certified.{IsRoot}
use Rattle.tv_settling.proofs.RootLemmas.{is_root}
use Rattle.tv_settling.proofs.certificate.barrier_certificate.Goals as goal

pub proved_certificate-requires-clause-root : goal.proved_certificate-requires-clause-root
proved_certificate-requires-clause-root c =
    let b = c.args.barrier.now in
    let node = c.in-Ok.node in
    let start = c.in-Ok-start_cover.start in
    subst (λ (f : Property). IsRoot (cases_of b.about.now) f node start) (sym c.requires.safety)
    (is_root b node start c.in-Ok.ensures.shows c.in-Ok-start_cover.ensures.covers (subst CoverNarrow c.tree.ensures.same c.narrow_tree.ensures))
