use Rattle.std.proofs.Common.{rules, FitsSigned, subst, sym, pos, ◌∙◌}
use Rattle.std.proofs.lemmas.Result.{IfOk-weaker}
use Rattle.std.specs.Int.{w128}
use Rattle.std.proofs.lemmas.Int.{to_z-of_z}
use Rattle.tv_simplex.specs.Outcomes.{IsNarrow}
use Rattle.tv_simplex.specs.Ratios.{IsRatio}
use Rattle.tv_simplex.specs.Rows.{ratio, IsPut}
use Rattle.tv_simplex.specs.Starting.{IsNumber, IsNumberPut}
use Rattle.tv_simplex.proofs.RowLemmas.{row_put}
use Rattle.tv_simplex.proofs.StartLemmas.{number_none}
use Rattle.tv_simplex.proofs.starting.put_number.Goals as goal

pub returns : goal.returns
returns c =
    let old = c.args.entries.now.items in
    let new = c.put_last.new.row.items in
    let column = c.args.column in
    let f : FitsSigned w128 c.args.number = search rules in
    let v = to_z-of_z w128 c.args.number f in
    IfOk-weaker c.put_last.result (λ x. IsPut column (ratio c.whole.result) old new) (λ x. IsNumberPut column c.args.number old new)
    (λ x put. λ numbers from l e zero h. row_put (IsNumber numbers) from column (ratio c.whole.result) old new l h (λ j low up. number_none numbers j (zero j low up))
    (subst (λ z. IsRatio (ratio c.whole.result) z (pos 1)) (v ∙ sym e) c.whole.ensures.same) put)
    c.put_last.ensures

pub put_last-requires-clause-narrow : goal.put_last-requires-clause-narrow
put_last-requires-clause-narrow c =
    let f : FitsSigned w128 c.args.number = search rules in
    c.whole.ensures.narrow (subst (λ z. IsNarrow z) (sym (to_z-of_z w128 c.args.number f)) c.requires.narrow)
