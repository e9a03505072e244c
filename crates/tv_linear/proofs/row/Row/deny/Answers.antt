use Rattle.std.proofs.Common.{◌↔◌, List, ℤ}
use Rattle.tv_linear.specs.Linear.{columns, IsMet}
use Rattle.tv_linear.specs.Arithmetic.{denial}
use Rattle.tv_linear.specs.Fits.{IsNarrowAt}
use Rattle.tv_linear.proofs.Building.{given-ok}
use Rattle.tv_linear.proofs.RowValues.{denial-met}
use Rattle.tv_linear.proofs.row.Row.deny.Goals as goal

pub returns-clause-denied : goal.returns-clause-denied
returns-clause-denied c =
    let meant = denial c.args.self.now in
    given-ok (IsNarrowAt meant) (columns meant) meant c.build.result (λ row. (xs : List ℤ) → IsMet xs row ↔ (¬ IsMet xs c.args.self.now)) c.build.ensures (λ xs. denial-met c.args.self.now xs)
