use Rattle.std.proofs.Common.{◌↔◌, IsTrue, ap, ◌∙◌, subst}
use Rattle.tv_linear.specs.Known.{given}
use Rattle.tv_cert.specs.Shapes.{CoverShape, owed_count}
use Rattle.tv_finitely.proofs.shape.root_has_shape.Goals as goal

pub returns : goal.returns
returns c =
    let wide = c.variables.ensures.same ∙ ap (λ x. x.variables) c.cases.ensures.same in
    subst (λ (x : Type 0). x) (λ i. IsTrue c.cover_has_shape.result ↔ CoverShape (wide i) (owed_count (c.entrance_at_start-start.ensures given i)) 0 c.args.root.now) c.cover_has_shape.ensures
