use Rattle.std.proofs.Common.{◌^◌, ◌<◌, arith, subst}
use Rattle.tv_cases.specs.Systems.{cases_of}
use Rattle.tv_cases.specs.Views.{case_view}
use Rattle.tv_cover.specs.Single.{IsCoveredByOne}
use Rattle.tv_recur.proofs.LeadLemmas.{owed_wide, lead_by, left_by}
use Rattle.std.proofs.Common.{◌≡◌, All}
use Rattle.tv_linear.specs.Linear.{columns}
use Rattle.tv_recur.proofs.RefusalLemmas.{cover_refused, owed_from}
use Rattle.tv_recur.proofs.taking.leading.Goals as goal
use Rattle.std.proofs.lemmas.Option.{slice_get_within}
use Rattle.tv_linear.proofs.ListLaws.{contains_at}

pub cover_one-requires-clause-same : goal.cover_one-requires-clause-same
cover_one-requires-clause-same c =
    let t = c.args.taking.now in
    owed_wide (cases_of t.about.now).variables c.args.from.now.columns (case_view t.case.now) t.draws.now c.args.into.now c.in-Ok.target.items c.requires.over c.in-Ok.ensures.owed

pub returns-in-Ok-Tree-clause-found : goal.returns-in-Ok-Tree-clause-found
returns-in-Ok-Tree-clause-found c =
    let t = c.args.taking.now in
    let bounded = t.about.now.are_cases.few_cases in
    let inside = slice_get_within (cases_of t.about.now).cases t.number (case_view t.case.now) c.requires.taking.found in
    let small : t.number < 2 ^ 32 = omega (arith, bounded, inside) in
    let covered = subst (IsCoveredByOne c.args.from.now.columns c.args.from.now.rows.items c.in-Ok.target.items) c.in-Ok-Tree.field-0-is c.in-Ok-Tree.ensures.answers in
    lead_by t c.requires.taking c.args.from.now.columns c.requires.over c.args.from.now.rows.items c.args.into.now c.in-Ok.target.items c.requires.same c.in-Ok.ensures.owed c.in-Ok-Tree.cover c.in_ok-choice-in-Ok-Tree.choice small c.requires.taking.near covered c.in_ok-choice-in-Ok-Tree.ensures

pub returns-in-Ok-Hole-clause-found : goal.returns-in-Ok-Hole-clause-found
returns-in-Ok-Hole-clause-found c =
    let t = c.args.taking.now in
    let hole = subst (IsCoveredByOne c.args.from.now.columns c.args.from.now.rows.items c.in-Ok.target.items) c.in-Ok-Hole.field-0-is c.in-Ok-Hole.ensures.answers in
    left_by t c.requires.taking c.args.from.now.columns c.requires.over c.args.from.now.rows.items c.args.into.now c.in-Ok.target.items c.requires.same c.in-Ok.ensures.owed c.in-Ok-Hole.field-0-0.items hole

pub returns-clause-refusals : goal.returns-clause-refusals
returns-clause-refusals c =
    let t = c.args.taking.now in
    let about = cases_of t.about.now in
    let case = case_view t.case.now in
    cover_refused about t.budget.now case.from c.args.from.now.rows.items c.in-Ok.target.items c.args.from.now.columns c.in-Err-cover_one.fault c.requires.over c.requires.derived
    (owed_from about t.budget.now case t.draws.now c.args.into.now c.in-Ok.target.items (contains_at about.cases t.number case c.requires.taking.found) c.requires.taking.counted c.requires.taking.may
    (subst (λ k. All (λ r. columns r ≡ k) c.args.into.now) c.requires.over c.requires.same) c.requires.entered c.in-Ok.ensures.owed)
    c.in-Err-cover_one.ensures.refusals
