use Rattle.std.proofs.Common.{◌≡◌, ◌∙◌, ◌+◌, ◌++◌, [], ◌∷◌, suc, arith, ap, sym, append_assoc}
use Rattle.std.proofs.lemmas.List.{map_push}
use Rattle.tv_linear.specs.Terms.{table}
use Rattle.tv_linear.proofs.ListLaws.{table-push}
use Rattle.tv_rank.specs.Given.{lists}
use Rattle.tv_nested.specs.Lines.{under_line}
use Rattle.tv_nested.specs.SetFalls.{family_line}
use Rattle.tv_nested.proofs.shown.push_steps.Goals as goal

pub terms-preserved : goal.terms-preserved
terms-preserved c =
    let family = c.args.family.now in
    let place = c.args.place in
    let many = c.args.piece + 1 in
    let k = c.terms.index in
    let line = c.in_ok-under_line.ensures ∙ ap (under_line (c.args.piece + 1) c.terms.index) c.identity_line-line.ensures in
    ap lists c.in_ok-push_item.ensures
    ∙ map_push (λ v. v.items) c.terms.all.items c.in_ok-under_line.field-0
    ∙ (λ i. c.terms.invariant i ++ line i ∷ [])
    ∙ append_assoc (lists c.args.all.now.items) (table c.terms.index (λ j. under_line (c.args.piece + 1) j (family_line c.args.family.now c.args.place j))) (under_line (c.args.piece + 1) c.terms.index (family_line c.args.family.now c.args.place c.terms.index) ∷ [])
    ∙ ap (λ z. lists c.args.all.now.items ++ z) (sym (table-push c.terms.index (λ j. under_line (c.args.piece + 1) j (family_line c.args.family.now c.args.place j))) ∙ ap (λ n. table n (λ j. under_line (c.args.piece + 1) j (family_line c.args.family.now c.args.place j))) (let e : suc c.terms.index ≡ c.terms.index + 1 = omega arith in e))

pub returns : goal.returns
returns c =
    let t = c.terms-test.false in
    let e = c.terms.auto.index-end in
    c.terms.invariant ∙ ap (λ n. lists c.args.all.now.items ++ table n (λ j. under_line (c.args.piece + 1) j (family_line c.args.family.now c.args.place j))) (let q : c.terms.index ≡ suc c.args.piece = omega (arith, t, e) in q)
