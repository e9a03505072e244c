use Rattle.std.proofs.Common.{◌≡◌, ◌∙◌, ◌+◌, ◌++◌, ◌∷◌, [], suc, ap, arith}
use Rattle.std.proofs.lemmas.List.{map-append, append_assoc}
use Rattle.tv_rank.specs.Given.{lists}
use Rattle.tv_lexrank.proofs.ZeroLines.{zero_line}
use Rattle.tv_finitely.specs.Lines.{zero_lines}
use Rattle.tv_finitely.proofs.shown.push_zero_lines.Goals as goal

pub zeros-preserved : goal.zeros-preserved
zeros-preserved c =
    let met = c.args.met in
    let z = c.zeros.zero in
    let old = lists c.args.lines.now.items in
    ap lists c.in_ok-push_item.ensures ∙ map-append (λ v. v.items) c.zeros.lines.items (c.in_ok-zero_line.field-0 ∷ [])
    ∙ (λ i. c.zeros.invariant i ++ c.in_ok-zero_line.ensures i ∷ [])
    ∙ append_assoc old (zero_lines met z) (zero_line met ∷ [])
    ∙ ap (λ n. old ++ zero_lines met n) (let e : suc z ≡ z + 1 = omega arith in e)
