use Rattle.std.proofs.Common.{◌≡◌, ◌∙◌, ◌-◌, length, take, arith, ap}
use Rattle.tv_nested.specs.Lines.{under_line}
use Rattle.tv_nested.specs.SetFalls.{family_line, end_line}
use Rattle.tv_nested.proofs.shown.end_line.Goals as goal

pub returns : goal.returns
returns c =
    let family = c.args.family.now in
    let place = c.args.place in
    let many : c.len-terms.result ≡ length c.args.family.now.terms.items = (let a = c.len-terms.ensures in let o = c.args.family.now.terms.ok in omega (arith, a, o)) in
    let line = c.identity_line-line.ensures ∙ ap (family_line c.args.family.now c.args.place) many in
    let front = c.split_at.ensures.front ∙ ap (λ k. take k c.identity_line-line.result.now) c.saturating_sub.ensures ∙ ap (λ z. take (length z - 1) z) line in
    let e : under_line c.len-terms.result c.len-terms.result c.split_at.result.0.now ≡ end_line c.args.family.now c.args.place = (λ i. under_line (many i) (many i) (front i)) in
    rw (← e) c.under_line.ensures
