use Rattle.std.proofs.Common.{◌∙◌, ◌∷◌, [], map, subst, ap}
use Rattle.tv_choice.specs.Looking.{IsShown}
use Rattle.tv_cover.specs.Trying.{IsWideDenialAt, IsWideIn}
use Rattle.tv_choice.specs.Asked.{query_of}
use Rattle.tv_choice.proofs.LookLemmas.{shown_more, look_other, wide_in}
use Rattle.tv_choice.proofs.looking.all_shown.Goals as goal
use Rattle.std.proofs.lemmas.List.{map-append}

pub owed-preserved : goal.owed-preserved
owed-preserved c =
    let shown = subst (λ o. IsShown c.args.question.now.columns c.args.place.now.rows.now c.index-owed-number.result o) c.in-Ok-Some.field-0-is c.in-Ok-Some.ensures.shown in
    shown_more c.args.question.now.columns c.args.place.now.rows.now c.args.owed.now c.owed.number c.index-owed-number.result (map (λ x. x.items) c.owed.lists.items) (map (λ x. x.items) c.push_item.new.items.items) c.in-Ok-Some.multipliers.items c.owed-test.true c.index-owed-number.is
    (ap (λ ls. map (λ x. x.items) ls) c.in_ok-push_item-in-Ok-Some.ensures ∙ map-append (λ x. x.items) c.owed.lists.items (c.in-Ok-Some.multipliers ∷ [])) shown c.owed.invariant

pub returns-in-Err-clause-refusals : goal.returns-in-Err-clause-refusals
returns-in-Err-clause-refusals c =
    let q = c.args.question.now in
    let r = c.index-owed-number.result in
    look_other (IsWideDenialAt r) (IsWideIn q.columns c.args.place.now.rows.now c.args.owed.now) q.columns (query_of q) c.args.place.now.rows.now q.pivots c.in-Err.fault
    (λ column w. wide_in q.columns c.args.place.now.rows.now c.args.owed.now c.owed.number r (map (λ x. x.items) c.owed.lists.items) column c.owed-test.true c.index-owed-number.is c.owed.invariant w) c.in-Err.ensures.refusals
