use Rattle.std.proofs.Common.{rules, FitsSigned, refl, sym, subst, pos, ◌∙◌}
use Rattle.std.specs.Int.{w128}
use Rattle.std.proofs.lemmas.Int.{to_z-of_z}
use Rattle.tv_simplex.specs.Ratios.{IsRatio}
use Rattle.tv_simplex.specs.Rows.{ratio}
use Rattle.tv_simplex.specs.Starting.{IsNumber}
use Rattle.tv_simplex.proofs.RowLemmas.{row_put, tested_false}
use Rattle.tv_simplex.proofs.StartLemmas.{number_none}
use Rattle.tv_simplex.proofs.starting.put_objective.Goals as goal

pub returns-then-not-is_narrow : goal.returns-then-not-is_narrow
returns-then-not-is_narrow c =
    let f : FitsSigned w128 c.objective_at.result = search rules in
    record {
      row_is = refl;
      column_within = c.requires.column;
      fraction = c.whole-entry.result;
      same = subst (λ k. IsRatio (ratio c.whole-entry.result) k (pos 1)) (to_z-of_z w128 c.objective_at.result f ∙ c.objective_at.ensures.value) c.whole-entry.ensures.same;
      wide = tested_false c.is_narrow.result c.is_narrow.ensures c.if-not-is_narrow.true;
    }

pub returns : goal.returns
returns c = λ numbers from l e zero h.
    let f : FitsSigned w128 c.objective_at.result = search rules in
    row_put (IsNumber numbers) from c.args.column (ratio c.whole-entry.result) c.args.entries.now.items _ l h (λ j low up. number_none numbers j (zero j low up))
    (subst (λ k. IsRatio (ratio c.whole-entry.result) k (pos 1)) (to_z-of_z w128 c.objective_at.result f ∙ c.objective_at.ensures.value ∙ sym e) c.whole-entry.ensures.same) c.in_ok-put_last.ensures
