use Rattle.std.proofs.Common.{◌≡◌, ◌∙◌, ap, arith, rules, get_or, FitsSigned, pos, neg_ℤ, ◌++◌, ◌∷◌, []}
use mir.Syntax.{w64, w128}
use Rattle.std.proofs.lemmas.Grind.{common_steps}
use Rattle.std.proofs.lemmas.Int.{to_z-of_z}
use Rattle.std.proofs.lemmas.List.Elements.{All-push}
use Rattle.tv_linear.specs.Linear.{IsWithin}
use Rattle.tv_linear.proofs.PlainLists.{map-more}
use Rattle.tv_linear.proofs.lists.all_opposite.Goals as goal

pub loop-number-preserved : goal.loop-number-preserved
loop-number-preserved c =
    let number = get_or c.args.numbers.now c.loop-number.number-index (pos 0) in
    let number_fits : FitsSigned w64 (get_or c.args.numbers.now c.loop-number.number-index (pos 0)) = search rules in
    let wide_fits : FitsSigned w128 c.from.result = search rules in
    let turned_fits : FitsSigned w128 c.opposite.result = search rules in
    let short_fits : FitsSigned w64 c.short.result = search rules in
    let wide_is : c.from.result ≡ number = simp to_z-of_z at c.from.ensures in
    let turned_is : c.opposite.result ≡ neg_ℤ c.from.result = simp to_z-of_z at c.opposite.ensures.exact in
    let short_is : c.short.result ≡ c.opposite.result = simp to_z-of_z at c.short.ensures.exact in
    let items : c.push.new.self.items ≡ c.loop-number.turned.items ++ c.short.result ∷ [] = rw to_z-of_z at c.in_ok-push.ensures.items in
    record {
      exact = map-more neg_ℤ c.args.numbers.now _ _ c.loop-number.number-index c.short.result (omega arith) c.loop-number.invariant.exact (short_is ∙ turned_is ∙ ap neg_ℤ wide_is) items;
      counted = grind (arith, common_steps);
      narrow = rw items (All-push (IsWithin 62) c.loop-number.turned.items c.short.result c.loop-number.invariant.narrow c.short.ensures.narrow);
    }
