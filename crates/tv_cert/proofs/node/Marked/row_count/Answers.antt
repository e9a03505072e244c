use Rattle.std.proofs.Common.{◌≡◌, length, subst, sym}
use Rattle.tv_linear.proofs.PackedLemmas.{length-unpacked}
use Rattle.tv_cert.specs.MarkedRows.{MarkedRows}
use Rattle.tv_cert.proofs.node.Marked.row_count.Goals as goal

pub returns : goal.returns
returns c =
    let m = c.self.inside in
    subst (λ (p : MarkedRows). m.rows ≡ length p.rows) c.self.view_is (sym (length-unpacked m.columns m.rows m.numbers.items))
