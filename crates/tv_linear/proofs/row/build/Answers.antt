use Rattle.std.proofs.Common.{◌≡◌, ◌∙◌, ◌++◌, ◌∷◌, [], arith, rules, subst, FitsSigned}
use Rattle.std.specs.Int.{w64, w128}
use Rattle.std.proofs.lemmas.Int.{to_z-of_z}
use Rattle.std.proofs.lemmas.List.Elements.{All-push}
use Rattle.tv_linear.specs.Linear.{IsWithin, entry}
use Rattle.tv_linear.proofs.Building.{IsMadeTo, one_more, all_made}
use Rattle.tv_linear.proofs.row.build.Goals as goal

pub loop-column-preserved : goal.loop-column-preserved
loop-column-preserved g c =
    let fits : FitsSigned w128 c.in-Some.number = search rules in
    let short_fits : FitsSigned w64 c.short.result = search rules in
    let short_is : c.short.result ≡ c.in-Some.number = simp to_z-of_z at c.short.ensures.exact in
    let items : c.push.new.self.items ≡ c.loop-column.coefficients.items ++ c.short.result ∷ [] = rw to_z-of_z at c.in_ok-push-in-Some.ensures.items in
    let here : g.C.Columns.fits c.args.wanted.now c.loop-column.column × (c.in-Some.number ≡ entry (g.C.Columns.meant c.args.wanted.now) c.loop-column.column) = c.in-Some.ensures.is in
    record {
      made = one_more (g.C.Columns.fits c.args.wanted.now) (g.C.Columns.meant c.args.wanted.now) _ _ c.loop-column.invariant.made _ c.short.result here.0 (short_is ∙ here.1) items;
      narrow = rw items (All-push (IsWithin 62) _ _ c.loop-column.invariant.narrow c.short.ensures.narrow);
    }

pub returns-in-Some-number : goal.returns-in-Some-number
returns-in-Some-number g c =
    let wanted = c.args.wanted.now in
    let fits : FitsSigned w128 c.in-Some-number.constant = search rules in
    let short_fits : FitsSigned w64 c.short-in-Some-number.result = search rules in
    let short_is : c.short-in-Some-number.result ≡ c.in-Some-number.constant = simp to_z-of_z at c.short-in-Some-number.ensures.exact in
    let here : g.C.Columns.fits wanted c.width-width.result × (c.in-Some-number.constant ≡ entry (g.C.Columns.meant wanted) c.width-width.result) = c.in-Some-number.ensures.is in
    let last : c.loop-column.column ≡ c.width-width.result = omega arith in
    let made = subst (IsMadeTo (g.C.Columns.fits wanted) (g.C.Columns.meant wanted) c.loop-column.coefficients.items) last c.loop-column.invariant.made in
    rw (to_z-of_z w64 c.short-in-Some-number.result short_fits) (all_made (g.C.Columns.fits wanted) (g.C.Columns.meant wanted) _ _ made c.short-in-Some-number.result c.width-width.ensures.is here.0 (short_is ∙ here.1))
