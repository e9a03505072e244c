use Rattle.std.proofs.Common.{◌≡◌, inl, inr, subst, pos, negsuc, cond}
use Rattle.tv_region.specs.Made.{last_of}
use Rattle.tv_region.proofs.RowLemmas.{has_at, take_has}
use Rattle.tv_region.proofs.MetLemmas.{said_no}
use Rattle.tv_region.proofs.draws.all_units.Goals as goal

pub has_unit-requires : goal.has_unit-requires
has_unit-requires c = c.requires c.row-item.result (has_at c.args.rows.now c.rows.row-index c.row-item.result c.rows-test.true c.row-item.is)

pub returns-then-not-has_unit : goal.returns-then-not-has_unit
returns-then-not-has_unit c = (
  λ no r h. cc,
  λ all. absurd (said_no c.has_unit.result (last_of c.args.column c.row-item.result ≡ cond c.args.above (pos 1) (negsuc 0)) c.if-not-has_unit.true c.has_unit.ensures.1
      (all c.row-item.result (has_at c.args.rows.now c.rows.row-index c.row-item.result c.rows-test.true c.row-item.is))),
)

pub rows-preserved : goal.rows-preserved
rows-preserved c = λ r h. elim (take_has c.args.rows.now c.rows.row-index c.row-item.result r c.rows-test.true c.row-item.is h) [
  | inl m ↦ c.rows.invariant r m
  | inr e ↦ subst (λ x. last_of c.args.column x ≡ cond c.args.above (pos 1) (negsuc 0)) e (c.has_unit.ensures.0 c.if-not-has_unit.false)
]
