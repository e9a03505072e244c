use Rattle.std.proofs.Common.{◌∙◌, ◌++◌, ◌-◌, [], ◌∷◌, pos, sym, ap}
use Rattle.std.proofs.lemmas.List.{append_assoc}
use Rattle.tv_linear.specs.Arithmetic.{zeros}
use Rattle.tv_linear.proofs.PlainLists.{zeros-are}
use Rattle.tv_pre.proofs.atoms.own_line.Goals as goal

pub returns : goal.returns
returns c =
    let count = c.args.count in
    let place = c.args.place in
    let front = c.in_ok-line.ensures.items_if_clones_equal (λ y e. e) ∙ sym (zeros-are place) in
    let back = c.in_ok-rest.ensures.items_if_clones_equal (λ y e. e) ∙ sym (zeros-are (count - place - 1)) in
    let whole = c.in_ok-append.ensures.items ∙ (λ i. (c.in_ok-push_item.ensures ∙ ap (λ z. z ++ pos 1 ∷ []) front) i ++ back i) in
    c.in_ok-push_item-2.ensures ∙ ap (λ z. z ++ pos 1 ∷ []) whole
    ∙ append_assoc (zeros place ++ pos 1 ∷ []) (zeros (count - place - 1)) (pos 1 ∷ [])
    ∙ append_assoc (zeros place) (pos 1 ∷ []) (zeros (count - place - 1) ++ pos 1 ∷ [])
