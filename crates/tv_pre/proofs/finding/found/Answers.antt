use Rattle.std.proofs.Common.{◌≡◌, ℕ, sym, subst}
use Rattle.std.specs.Prelude.{All, IfOk, IfSome, None, false}
use Rattle.tv_cases.specs.LinearCases.{IsCase}
use Rattle.std.specs.Result.{IfErr}
use Rattle.tv_known.specs.Cycles.{IsLastRound}
use Rattle.tv_region.proofs.AlgebraLemmas.{if_ok, if_err}
use Rattle.tv_pre.specs.Built.{IsBuilt}
use Rattle.tv_cases.specs.Systems.{cases_of}
use Rattle.tv_cert.specs.AimViews.{aim_states}
use Rattle.tv_pre.specs.declared.setting.Setting.{Setting}
use Rattle.tv_pre.specs.Finding.{IsGapOf, IsGapFor, IsExactFor, HasNoGapIfPlain, IsEvenStatement, steps_back, IsPartFor, IsFullFor, IsRefusedFor}
use Rattle.tv_pre.specs.Sized.{IsFewFor}
use Rattle.tv_pre.proofs.EvenLemmas.{stated_even}
use Rattle.tv_pre.proofs.FoundLemmas.{one_last}
use Rattle.tv_pre.proofs.ToldLemmas.{exact_for, no_gap}
use Rattle.tv_pre.proofs.GapLemmas.{gap_weaker, gap_drawn}
use Rattle.tv_pre.specs.Counted.{IsCountedFor}
use Rattle.tv_pre.specs.KnownStates.{IsKnownFor}
use Rattle.tv_pre.proofs.KnownFormulas.{known_so}
use Rattle.tv_pre.proofs.finding.found.Goals as goal

pub found_of-requires-clause-even : goal.found_of-requires-clause-even
found_of-requires-clause-even c =
    let about = cases_of c.args.setting.now.about.now in
    subst (λ (z : Setting). IsEvenStatement (cases_of z.about.now).variables (aim_states c.args.aim.now)) (sym c.in_ok-search.ensures.setting)
    (subst (IsEvenStatement about.variables) (sym c.requires.stated.1) (stated_even about.variables c.requires.stated.0))

pub returns-clause-part : goal.returns-clause-part
returns-clause-part c =
    let r = c.found_of.result in
    let s = aim_states c.args.aim.now in
    subst (λ (z : Setting). IfOk r (λ found. IsPartFor (cases_of z.about.now) s found.part.region found.part.node)) c.in_ok-search.ensures.setting
    (if_ok r (λ x h. h.shows) c.found_of.ensures.found)

pub returns-clause-built : goal.returns-clause-built
returns-clause-built c =
    let r = c.found_of.result in
    let s = aim_states c.args.aim.now in
    let search = c.in_ok-search.search in
    let about = cases_of search.setting.now.about.now in
    subst (λ (z : Setting). IfOk r (λ found. (last : ℕ) → IsLastRound (cases_of z.about.now) 8 last → IsBuilt (cases_of z.about.now) s (steps_back last s) found.part.region)) c.in_ok-search.ensures.setting
    (if_ok r (λ x h last l. subst (λ n. IsBuilt about s (steps_back n s) x.part.region) (one_last about search.last last c.in_ok-search.ensures.search.last l) h.built) c.found_of.ensures.found)

pub returns-clause-gap : goal.returns-clause-gap
returns-clause-gap c =
    let r = c.found_of.result in
    let s = aim_states c.args.aim.now in
    let search = c.in_ok-search.search in
    let about = cases_of search.setting.now.about.now in
    subst (λ (z : Setting). IfOk r (λ found. IfSome found.gap (IsGapOf (cases_of z.about.now)))) c.in_ok-search.ensures.setting
    (if_ok r (λ x h. gap_weaker (IsGapFor about search.last s) (IsGapOf about) x.gap (gap_drawn about search.last s) h.gap) c.found_of.ensures.found)

pub returns-clause-tells : goal.returns-clause-tells
returns-clause-tells c =
    let r = c.found_of.result in
    let s = aim_states c.args.aim.now in
    let search = c.in_ok-search.search in
    let about = cases_of search.setting.now.about.now in
    subst (λ (z : Setting). IfOk r (λ found. (last : ℕ) → IsLastRound (cases_of z.about.now) 8 last → IfSome found.gap (IsGapFor (cases_of z.about.now) last s))) c.in_ok-search.ensures.setting
    (if_ok r (λ x h last l. subst (λ n. IfSome x.gap (IsGapFor about n s)) (one_last about search.last last c.in_ok-search.ensures.search.last l) h.gap) c.found_of.ensures.found)

pub returns-clause-full : goal.returns-clause-full
returns-clause-full c =
    let r = c.found_of.result in
    let s = aim_states c.args.aim.now in
    subst (λ (z : Setting). IfOk r (λ found. found.gap ≡ None → IsFullFor (cases_of z.about.now) s found.part.region)) c.in_ok-search.ensures.setting
    (if_ok r (λ x h. h.full) c.found_of.ensures.found)

pub returns-clause-exact : goal.returns-clause-exact
returns-clause-exact c =
    let r = c.found_of.result in
    let s = aim_states c.args.aim.now in
    let search = c.in_ok-search.search in
    let about = cases_of search.setting.now.about.now in
    subst (λ (z : Setting). IfOk r (λ found. found.gap ≡ None → IsExactFor (cases_of z.about.now) s found.part.region)) c.in_ok-search.ensures.setting
    (if_ok r (λ x h none. exact_for about s x.part.region x.part.node h.over h.shows (h.full none)) c.found_of.ensures.found)

pub returns-clause-plain : goal.returns-clause-plain
returns-clause-plain c =
    let r = c.found_of.result in
    let s = aim_states c.args.aim.now in
    let search = c.in_ok-search.search in
    let about = cases_of search.setting.now.about.now in
    let cases = subst (λ (z : Setting). All (IsCase (cases_of z.about.now).variables (cases_of z.about.now).locations) (cases_of z.about.now).cases) (sym c.in_ok-search.ensures.setting) c.variables-variables.ensures.limits.cases in
    subst (λ (z : Setting). IfOk r (λ found. HasNoGapIfPlain (cases_of z.about.now) s found.gap)) c.in_ok-search.ensures.setting
    (if_ok r (λ x h. no_gap about cases search.last c.in_ok-search.ensures.search.last s x.gap h.gap) c.found_of.ensures.found)

pub returns-clause-refused : goal.returns-clause-refused
returns-clause-refused c =
    let r = c.found_of.result in
    let s = aim_states c.args.aim.now in
    let search = c.in_ok-search.search in
    let about = cases_of search.setting.now.about.now in
    subst (λ (z : Setting). IfErr r (λ fault. (last : ℕ) → IsLastRound (cases_of z.about.now) 8 last → IsRefusedFor (cases_of z.about.now) z.budget.now last s fault)) c.in_ok-search.ensures.setting
    (if_err r (λ x h last l. subst (λ n. IsRefusedFor about search.setting.now.budget.now n s x) (one_last about search.last last c.in_ok-search.ensures.search.last l) h) c.found_of.ensures.refused)

pub returns-clause-bounded : goal.returns-clause-bounded
returns-clause-bounded c =
    let r = c.found_of.result in
    let s = aim_states c.args.aim.now in
    subst (λ (z : Setting). IfOk r (λ found. IsFewFor (cases_of z.about.now) s found.part.region)) c.in_ok-search.ensures.setting
    (if_ok r (λ x h. h.bounded) c.found_of.ensures.found)

pub returns-clause-counted : goal.returns-clause-counted
returns-clause-counted c =
    let r = c.found_of.result in
    let s = aim_states c.args.aim.now in
    let search = c.in_ok-search.search in
    let about = cases_of search.setting.now.about.now in
    subst (λ (z : Setting). IfErr r (λ fault. (last : ℕ) → IsLastRound (cases_of z.about.now) 8 last → IsCountedFor (cases_of z.about.now) z.budget.now last s fault)) c.in_ok-search.ensures.setting
    (if_err r (λ x h last l. subst (λ n. IsCountedFor about search.setting.now.budget.now n s x) (one_last about search.last last c.in_ok-search.ensures.search.last l) h) c.found_of.ensures.counted)

pub returns-clause-known : goal.returns-clause-known
returns-clause-known c =
    let r = c.found_of.result in
    let s = aim_states c.args.aim.now in
    let search = c.in_ok-search.search in
    let about = cases_of search.setting.now.about.now in
    subst (λ (z : Setting). IfOk r (λ found. (last : ℕ) → IsLastRound (cases_of z.about.now) 8 last → IsKnownFor (cases_of z.about.now) last false s found.part.region)) c.in_ok-search.ensures.setting
    (if_ok r (λ x h last l. known_so about last search.alone s x.part.region (subst (λ n. IsKnownFor about n search.alone s x.part.region) (one_last about search.last last c.in_ok-search.ensures.search.last l) h.states)) c.found_of.ensures.known)
