use Rattle.std.proofs.Common.{rules, ap, sym, ◌∙◌, get_or, FitsSigned}
use Rattle.std.specs.Int.{w128}
use Rattle.std.proofs.lemmas.Int.{to_z-of_z}
use Rattle.tv_linear.specs.Known.{kept, put, number, term_number}
use Rattle.tv_refute.specs.Blocks.{further}
use Rattle.tv_refute.specs.Terms.{terms_of}
use Rattle.tv_linear.specs.Views.{row_seen}
use Rattle.tv_refute.proofs.Telling.{AreTold_added, put_number}
use Rattle.tv_refute.proofs.blocks.add_multiple.Goals as goal

pub returns-in-None-clause-told : goal.returns-in-None-clause-told
returns-in-None-clause-told c =
    let factor_fits : FitsSigned w128 c.args.factor = search rules in
    let w = simp to_z-of_z at c.add_kept.ensures.told in
    AreTold_added c.add_kept.result c.args.count c.args.factor (λ k. term_number (further c.args.column k) (kept c.args.v)) (λ k. term_number (further c.args.column k) (get_or (terms_of c.args.terms.now) c.args.v (kept 0))) c.args.totals.now c.add_kept.new.totals
    (λ k. ap (term_number (further c.args.column k)) (sym c.in-None.ensures)) w

pub returns-in-Some-clause-told : goal.returns-in-Some-clause-told
returns-in-Some-clause-told c =
    let factor_fits : FitsSigned w128 c.args.factor = search rules in
    let w = simp to_z-of_z at c.add_row.ensures.told in
    AreTold_added c.add_row.result c.args.count c.args.factor (λ k. number (further c.args.column k) (row_seen c.of.result)) (λ k. term_number (further c.args.column k) (get_or (terms_of c.args.terms.now) c.args.v (kept 0))) c.args.totals.now c.add_row.new.totals
    (λ k. put_number (row_seen c.of.result) (further c.args.column k) (get_or (terms_of c.args.terms.now) c.args.v (kept 0)) (c.in-Some.ensures ∙ ap (λ r. put r) (sym c.of.ensures))) w
