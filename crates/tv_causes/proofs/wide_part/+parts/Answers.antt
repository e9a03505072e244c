use Rattle.std.proofs.Common.{◌≡◌, ◌+◌, ◌∙◌, sym, ap, subst, map, take, drop, List, refl, suc}
use Rattle.std.specs.Prelude.{None}
use Rattle.std.proofs.lemmas.Bool.{and_parts}
use Rattle.tv_program.specs.declared.tree.Expr.{Expr, Expr-F, fold-roll-Expr}
use Rattle.tv_program.specs.declared.tree.Expr.TheVariants.{rolls-Variable, rolls-Draw, rolls-Minus, rolls-Sum, rolls-Product}
use Rattle.tv_program.specs.Trees.{Expression, variable, draw, minus, sum, product}
use Rattle.tv_program.specs.Views.{expression, expressions, expression_node}
use Rattle.tv_program.proofs.PartLemmas.{expressions-next}
use Rattle.tv_cases.specs.Comparisons.{own_form}
use Rattle.tv_cases.specs.Linearity.{is_linear, are_linear}
use Rattle.tv_causes.specs.Walks.{joined, all_forms}
use Rattle.tv_causes.specs.Widths.{parts, parts_of_all, TellsWide}
use Rattle.tv_causes.specs.declared.join.Join.TheVariants.{Sum, Product}
use Rattle.tv_causes.proofs.FormLemmas.{have_own, variable_narrow, column_narrow, minus_told, front_wide, last_told, middle_wide, more_narrow, sum_is, product_is, parts_more, parts_at}
use Rattle.tv_causes.proofs.WideLemmas.{one_narrow, on_ok}
use Rattle.tv_causes.proofs.wide_part.+parts.Goals as goal

pub wide_part-wide_whole-requires-clause-narrow : goal.wide_part-wide_whole-requires-clause-narrow
wide_part-wide_whole-requires-clause-narrow t c =
    let n = c.args.variables in
    let told = subst (TellsWide (map (own_form n) (parts_of_all (expressions c.deref-in-Sum.result.now)))) c.in-None.is c.in_ok-column-in-Sum.ensures in
    have_own n (expressions c.deref-in-None.result.now)
    (subst (λ (es : List Expr). TellsWide (map (own_form n) (parts_of_all (expressions es))) None) (c.deref-in-Sum.ensures.value ∙ sym c.deref-in-None.ensures.value) told)

pub wide_part-wide_whole-requires-in-None-2-clause-narrow : goal.wide_part-wide_whole-requires-in-None-2-clause-narrow
wide_part-wide_whole-requires-in-None-2-clause-narrow t c =
    let n = c.args.variables in
    let told = subst (TellsWide (map (own_form n) (parts_of_all (expressions c.deref-in-Product.result.now)))) c.in-None-2.is c.in_ok-column-in-Product.ensures in
    have_own n (expressions c.deref-in-None-2.result.now)
    (subst (λ (es : List Expr). TellsWide (map (own_form n) (parts_of_all (expressions es))) None) (c.deref-in-Product.ensures.value ∙ sym c.deref-in-None-2.ensures.value) told)

pub wide_part-returns-in-Variable : goal.wide_part-returns-in-Variable
wide_part-returns-in-Variable t c =
    let n = c.args.variables in
    let v = c.in-Variable.field-0 in
    let e : expression c.args.expr.now ≡ variable c.in-Variable.field-0 =
    ap expression c.in-Variable.is ∙ ap expression (sym (rolls-Variable c.in-Variable.field-0)) ∙ fold-roll-Expr Expression expression_node (Expr-F.Variable c.in-Variable.field-0) in
    subst (λ e. TellsWide (map (own_form n) (parts e)) None) (sym e) (one_narrow (own_form n (variable v)) (variable_narrow n v))

pub wide_part-returns-in-Draw : goal.wide_part-returns-in-Draw
wide_part-returns-in-Draw t c =
    let n = c.args.variables in
    let d = c.in-Draw.field-0 in
    let e : expression c.args.expr.now ≡ draw c.in-Draw.field-0 =
    ap expression c.in-Draw.is ∙ ap expression (sym (rolls-Draw c.in-Draw.field-0)) ∙ fold-roll-Expr Expression expression_node (Expr-F.Draw c.in-Draw.field-0) in
    subst (λ e. TellsWide (map (own_form n) (parts e)) None) (sym e) (one_narrow (own_form n (draw d)) (column_narrow n (n + d)))

pub wide_part-returns-in-Minus : goal.wide_part-returns-in-Minus
wide_part-returns-in-Minus t c =
    let n = c.args.variables in
    let inner = expression c.deref.result.now in
    let e : expression c.args.expr.now ≡ minus (expression c.in-Minus.inner.value) =
    ap expression c.in-Minus.is ∙ ap expression (sym (rolls-Minus c.in-Minus.inner)) ∙ fold-roll-Expr Expression expression_node (Expr-F.Minus c.in-Minus.inner) in
    on_ok (TellsWide (map (own_form n) (parts inner))) (TellsWide (map (own_form n) (parts (expression c.args.expr.now))))
    (λ found k. minus_told n (expression c.args.expr.now) inner found (e ∙ ap (λ (x : Expr). minus (expression x)) (sym c.deref.ensures)) k) c.wide_part.result c.wide_part.ensures

pub wide_part-returns-in-Some : goal.wide_part-returns-in-Some
wide_part-returns-in-Some t c =
    let n = c.args.variables in
    let es = expressions c.deref-in-Sum.result.now in
    let e : expression c.args.expr.now ≡ sum (expressions c.in-Sum.exprs.items) =
    ap expression c.in-Sum.is ∙ ap expression (sym (rolls-Sum c.in-Sum.exprs)) ∙ fold-roll-Expr Expression expression_node (Expr-F.Sum c.in-Sum.exprs) in
    front_wide n (expression c.args.expr.now) (sum es) (parts_of_all es) c.in-Some.column (e ∙ ap (λ (xs : List Expr). sum (expressions xs)) (sym c.deref-in-Sum.ensures.value)) refl
    (subst (TellsWide (map (own_form n) (parts_of_all es))) c.in-Some.is c.in_ok-column-in-Sum.ensures)

pub wide_part-returns-in-None : goal.wide_part-returns-in-None
wide_part-returns-in-None t c =
    let n = c.args.variables in
    let xs = c.deref-in-None.result.now in
    let es = expressions xs in
    let e : expression c.args.expr.now ≡ sum (expressions c.in-Sum.exprs.items) =
    ap expression c.in-Sum.is ∙ ap expression (sym (rolls-Sum c.in-Sum.exprs)) ∙ fold-roll-Expr Expression expression_node (Expr-F.Sum c.in-Sum.exprs) in
    let told = subst (TellsWide (map (own_form n) (parts_of_all (expressions c.deref-in-Sum.result.now)))) c.in-None.is c.in_ok-column-in-Sum.ensures in
    let narrow = subst (λ (ys : List Expr). TellsWide (map (own_form n) (parts_of_all (expressions ys))) None) (c.deref-in-Sum.ensures.value ∙ sym c.deref-in-None.ensures.value) told in
    last_told n (expression c.args.expr.now) (sum es) (parts_of_all es) (joined Sum n (all_forms n xs)) c.wide_whole.result
    (e ∙ ap (λ (ys : List Expr). sum (expressions ys)) (sym c.deref-in-None.ensures.value)) refl (sum_is n xs) narrow c.wide_whole.ensures

pub wide_part-returns-in-Some-2 : goal.wide_part-returns-in-Some-2
wide_part-returns-in-Some-2 t c =
    let n = c.args.variables in
    let es = expressions c.deref-in-Product.result.now in
    let e : expression c.args.expr.now ≡ product (expressions c.in-Product.exprs.items) =
    ap expression c.in-Product.is ∙ ap expression (sym (rolls-Product c.in-Product.exprs)) ∙ fold-roll-Expr Expression expression_node (Expr-F.Product c.in-Product.exprs) in
    front_wide n (expression c.args.expr.now) (product es) (parts_of_all es) c.in-Some-2.column (e ∙ ap (λ (xs : List Expr). product (expressions xs)) (sym c.deref-in-Product.ensures.value)) refl
    (subst (TellsWide (map (own_form n) (parts_of_all es))) c.in-Some-2.is c.in_ok-column-in-Product.ensures)

pub wide_part-returns-in-None-2 : goal.wide_part-returns-in-None-2
wide_part-returns-in-None-2 t c =
    let n = c.args.variables in
    let xs = c.deref-in-None-2.result.now in
    let es = expressions xs in
    let e : expression c.args.expr.now ≡ product (expressions c.in-Product.exprs.items) =
    ap expression c.in-Product.is ∙ ap expression (sym (rolls-Product c.in-Product.exprs)) ∙ fold-roll-Expr Expression expression_node (Expr-F.Product c.in-Product.exprs) in
    let told = subst (TellsWide (map (own_form n) (parts_of_all (expressions c.deref-in-Product.result.now)))) c.in-None-2.is c.in_ok-column-in-Product.ensures in
    let narrow = subst (λ (ys : List Expr). TellsWide (map (own_form n) (parts_of_all (expressions ys))) None) (c.deref-in-Product.ensures.value ∙ sym c.deref-in-None-2.ensures.value) told in
    last_told n (expression c.args.expr.now) (product es) (parts_of_all es) (joined Product n (all_forms n xs)) c.wide_whole-in-None-2.result
    (e ∙ ap (λ (ys : List Expr). product (expressions ys)) (sym c.deref-in-None-2.ensures.value)) refl (product_is n xs) narrow c.wide_whole-in-None-2.ensures

pub wide_part_of-returns-in-Some : goal.wide_part_of-returns-in-Some
wide_part_of-returns-in-Some t c =
    let n = c.args.variables in
    let es = c.args.exprs.now in
    let i = c.exprs.expr-index in
    let item = c.expr-item.result in
    middle_wide n (parts_of_all (expressions es)) (parts_of_all (expressions (take i es))) (parts (expression item)) (parts_of_all (expressions (drop (suc i) es))) c.in-Some.column
    (parts_at es i item c.exprs-test.true c.expr-item.is) c.exprs.invariant.narrow (subst (TellsWide (map (own_form n) (parts (expression item)))) c.in-Some.is c.in_ok-column.ensures)

pub wide_part_of-exprs-preserved : goal.wide_part_of-exprs-preserved
wide_part_of-exprs-preserved t c =
    let n = c.args.variables in
    let es = c.args.exprs.now in
    let i = c.exprs.expr-index in
    let item = c.expr-item.result in
    let next = expressions-next es i item c.exprs-test.true c.expr-item.is in
    let narrow = subst (TellsWide (map (own_form n) (parts (expression item)))) c.in-None.is c.in_ok-column.ensures in
    record {
      narrow = more_narrow n (parts_of_all (expressions (take (i + 1) es))) (parts_of_all (expressions (take i es))) (parts (expression item))
          (parts_more es i item c.exprs-test.true c.expr-item.is) c.exprs.invariant.narrow narrow;
      linear = (and_parts (is_linear (expression item)) (are_linear (expressions (drop (i + 1) es))) (ap are_linear (sym next) ∙ c.exprs.invariant.linear)).1;
    }
