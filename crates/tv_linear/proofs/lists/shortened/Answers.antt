use Rattle.std.proofs.Common.{◌≡◌, ◌∙◌, ap, sym, rules, take, get_or, FitsSigned, pos, ◌++◌, ◌∷◌, []}
use mir.Syntax.{w64, w128}
use Rattle.std.proofs.lemmas.Int.{to_z-of_z}
use Rattle.std.proofs.lemmas.List.{take_more}
use Rattle.tv_linear.proofs.lists.shortened.Goals as goal

pub loop-number-preserved : goal.loop-number-preserved
loop-number-preserved c =
    let numbers = c.args.numbers.now in
    let i = c.loop-number.number-index in
    let number_fits : FitsSigned w128 (get_or numbers i (pos 0)) = search rules in
    let short_fits : FitsSigned w64 c.short.result = search rules in
    let short_is : c.short.result ≡ get_or numbers i (pos 0) = simp to_z-of_z at c.short.ensures.exact in
    let items : c.push.new.self.items ≡ c.loop-number.half.items ++ c.short.result ∷ [] = rw to_z-of_z at c.in_ok-push.ensures.items in
    let so_far : c.loop-number.half.items ≡ take i numbers = c.loop-number.invariant in
    items ∙ ap (λ xs. xs ++ c.short.result ∷ []) so_far ∙ ap (λ z. take i numbers ++ z ∷ []) short_is ∙ sym (take_more numbers i (pos 0) c.loop-number-test.true)
