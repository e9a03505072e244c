use Rattle.std.proofs.Common.{◌∙◌, ◌++◌, ◌-◌, [], ◌∷◌, pos, sym, ap}
use Rattle.std.proofs.lemmas.List.{append_assoc}
use Rattle.tv_linear.specs.Arithmetic.{zeros}
use Rattle.tv_linear.proofs.PlainLists.{zeros-are}
use Rattle.tv_nested.proofs.splitting.one_before.Goals as goal

pub returns : goal.returns
returns c =
    let many = c.args.many in
    let place = c.args.place in
    let line = c.args.line.now in
    let front = c.in_ok-all.ensures.items_if_clones_equal (λ y e. e) ∙ sym (zeros-are place) in
    let back = c.in_ok-rest.ensures.items_if_clones_equal (λ y e. e) ∙ sym (zeros-are (many - place - 1)) in
    let whole = c.in_ok-append.ensures.items ∙ (λ i. (c.in_ok-push_item.ensures ∙ ap (λ z. z ++ pos 1 ∷ []) front) i ++ back i) in
    c.in_ok-extend_from_slice.ensures.items ∙ ap (λ z. z ++ line) whole
    ∙ append_assoc (zeros place ++ pos 1 ∷ []) (zeros (many - place - 1)) line
    ∙ append_assoc (zeros place) (pos 1 ∷ []) (zeros (many - place - 1) ++ line)
