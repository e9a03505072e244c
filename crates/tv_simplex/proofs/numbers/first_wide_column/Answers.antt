use Rattle.std.proofs.Common.{rules, FitsSigned, inl, inr, ◌+◌, ◌-◌, ◌*◌, arith, subst, sym, ◌∙◌}
use Rattle.std.specs.Int.{w128}
use Rattle.std.proofs.lemmas.Int.{to_z-of_z}
use Rattle.tv_linear.proofs.ListLaws.{last_or_below}
use Rattle.tv_simplex.specs.Systems.{entry_at}
use Rattle.tv_simplex.specs.Outcomes.{IsNarrow}
use Rattle.tv_simplex.specs.Views.{equations}
use Rattle.tv_simplex.proofs.RowLemmas.{tested_true, tested_false}
use Rattle.tv_simplex.proofs.SettleLemmas.{given_left}
use Rattle.tv_simplex.proofs.KeptLemmas.{first_of, next_kept, narrow_before, given_before}
use Rattle.tv_simplex.proofs.numbers.first_wide_column.Goals as goal

pub kept-preserved : goal.kept-preserved
kept-preserved c =
    let s = equations c.args.system.now in
    let start = c.args.row * s.columns in
    let numbers = entry_at s c.args.row in
    let k = c.kept.invariant in
    let e = first_of c.kept.left.now in
    let n = next_kept numbers start k.0 s.columns c.kept.left.now c.in-len1-up.len_at_least k.2 in
    let below = n.below in
    let f : FitsSigned w128 e.number = search rules in
    let here = subst (λ z. IsNarrow z) (to_z-of_z w128 e.number f) (tested_true c.is_narrow.result c.is_narrow.ensures c.if-not-is_narrow.false) in (
      e.place - start + 1,
      omega (arith, below),
      n.behind,
      λ j l. elim (last_or_below (e.place - start) j l) [
        | inl g ↦ subst (λ z. IsNarrow (numbers z)) (sym g) (subst (λ z. IsNarrow z) (sym n.is) here)
        | inr g ↦ narrow_before numbers k.0 (e.place - start) k.3 n.zeros j g
      ],
    )

pub returns-then-not-is_narrow : goal.returns-then-not-is_narrow
returns-then-not-is_narrow c =
    let s = equations c.args.system.now in
    let start = c.args.row * s.columns in
    let numbers = entry_at s c.args.row in
    let k = c.kept.invariant in
    let e = first_of c.kept.left.now in
    let n = next_kept numbers start k.0 s.columns c.kept.left.now c.in-len1-up.len_at_least k.2 in
    let below = n.below in
    let f : FitsSigned w128 e.number = search rules in
    let is = given_left s c.args.row (e.place - start) below ∙ n.is ∙ sym (to_z-of_z w128 e.number f) in
    record {
      column_given = inl below;
      wide = λ w. tested_false c.is_narrow.result c.is_narrow.ensures c.if-not-is_narrow.true (subst (λ z. IsNarrow z) is w);
      before = λ j given l. given_before s c.args.row (e.place - start) (omega (arith, below)) (narrow_before numbers k.0 (e.place - start) k.3 n.zeros) j l;
    }
