use Rattle.std.proofs.Common.{◌≡◌, ◌∙◌, ap, sym, rules, take, get_or, FitsSigned, pos, ◌++◌, ◌∷◌, []}
use mir.Syntax.{w64, w128}
use Rattle.std.proofs.lemmas.Int.{to_z-of_z}
use Rattle.std.proofs.lemmas.List.{take_more}
use Rattle.tv_linear.proofs.lists.widened.Goals as goal

pub loop-number-preserved : goal.loop-number-preserved
loop-number-preserved c =
    let numbers = c.args.numbers.now in
    let i = c.loop-number.number-index in
    let number_fits : FitsSigned w64 (get_or numbers i (pos 0)) = search rules in
    let wide_fits : FitsSigned w128 c.from.result = search rules in
    let wide_is : c.from.result ≡ get_or numbers i (pos 0) = simp to_z-of_z at c.from.ensures in
    let items : c.push.new.self.items ≡ c.loop-number.wide.items ++ c.from.result ∷ [] = rw to_z-of_z at c.in_ok-push.ensures.items in
    let so_far : c.loop-number.wide.items ≡ take i numbers = c.loop-number.invariant in
    items ∙ ap (λ xs. xs ++ c.from.result ∷ []) so_far ∙ ap (λ z. take i numbers ++ z ∷ []) wide_is ∙ sym (take_more numbers i (pos 0) c.loop-number-test.true)
