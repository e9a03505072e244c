use Rattle.std.proofs.Common.{◌≡◌, subst}
use Rattle.std.specs.Prelude.{All}
use Rattle.tv_linear.specs.Linear.{columns, IsNarrow}
use Rattle.tv_cert.specs.MarkedRows.{MarkedRows}
use Rattle.tv_cert.proofs.MarkedLemmas.{rows_columns, ranks_columns, ranks_packed, unpacked_narrow}
use Rattle.tv_cert.proofs.node.Marked.columns.Goals as goal

pub returns-clause-rows : goal.returns-clause-rows
returns-clause-rows c =
    let m = c.self.inside in
    subst (λ (p : MarkedRows). All (λ r. columns r ≡ p.columns) p.rows) c.self.view_is (rows_columns m.columns m.rows m.numbers.items c.self.invariant)

pub returns-clause-ranks : goal.returns-clause-ranks
returns-clause-ranks c =
    let m = c.self.inside in
    subst (λ (p : MarkedRows). All (λ r. columns r ≡ p.columns) p.ranks) c.self.view_is (ranks_columns m.columns m.rows m.numbers.items)

pub returns-clause-narrow : goal.returns-clause-narrow
returns-clause-narrow c =
    let m = c.self.inside in
    subst (λ (p : MarkedRows). All IsNarrow p.rows × All IsNarrow p.ranks) c.self.view_is
    (unpacked_narrow m.columns m.rows m.numbers.items c.self.invariant, unpacked_narrow m.columns _ _ (ranks_packed m.columns m.rows m.numbers.items c.self.invariant))
