use Rattle.std.proofs.Common.{◌≡◌, ◌↔◌, ◌++◌, IsTrue, None, Some, map, sym, ◌∙◌, subst}
use Rattle.std.specs.Option.{option_map}
use Rattle.tv_linear.specs.Known.{given, composed}
use Rattle.tv_linear.specs.Covers.{Shown, ShownAt}
use Rattle.tv_linear.specs.Terms.{terms_after, draw_terms}
use Rattle.tv_refute.specs.Frames.{known_at}
use Rattle.tv_cases.specs.Systems.{cases_of}
use Rattle.tv_cases.specs.Views.{case_view}
use Rattle.tv_cert.specs.Choices.{drawn_change, drawn_guards}
use Rattle.tv_cert.specs.Entering.{entered_listed}
use Rattle.tv_cert.specs.OwesViews.{destination_owes}
use Rattle.tv_check.proofs.choosing.take_is_shown.Goals as goal

pub returns-in_default : goal.returns-in_default
returns-in_default c =
    let choosing = c.args.choosing.now in
    let n = (cases_of choosing.about.now).variables in
    let take = c.args.take.now in
    let case = case_view c.args.case.now in
    let draws = take.draws.now in
    let none : destination_owes n choosing.piece.now choosing.destination.now case draws take.target take.fall ≡ None = (λ i. sym (c.targets_after-targets.ensures.owed n draws) i take.target take.fall) ∙ c.in_default.ensures (drawn_change n case draws) in
    (λ t. cc, λ h. absurd (subst (λ o. ShownAt n (known_at c.args.frames.now) (option_map (λ rows. drawn_guards n case draws ++ rows) o) (map (λ l. l.items) take.refutations.now)) none h))

pub returns : goal.returns
returns c =
    let choosing = c.args.choosing.now in
    let take = c.args.take.now in
    let n = (cases_of choosing.about.now).variables in
    let case = case_view c.args.case.now in
    let draws = take.draws.now in
    let known = known_at c.args.frames.now in
    let lists = map (λ l. l.items) take.refutations.now in
    let x = c.in-Some.entered in
    let some : destination_owes n choosing.piece.now choosing.destination.now case draws take.target take.fall ≡ Some (entered_listed (drawn_change n case draws) x) = (λ i. sym (c.targets_after-targets.ensures.owed n draws) i take.target take.fall) ∙ c.in-Some.ensures (drawn_change n case draws) in
    let here : IsTrue c.rows_are_shown.result ↔ Shown n known (drawn_guards n case draws ++ entered_listed (drawn_change n case draws) x) lists =
    subst (λ (x : Type 0). x) (λ i. let m = c.variables-columns.ensures.same i in IsTrue c.rows_are_shown.result ↔ Shown m known (map (λ r. composed (given r) (draw_terms m draws)) (c.deref-2.ensures.value i) ++ entered_listed (λ r. composed (composed (given r) (terms_after m (c.deref.ensures.value i))) (draw_terms m draws)) x) lists) c.rows_are_shown.ensures in
    subst (λ o. IsTrue c.rows_are_shown.result ↔ ShownAt n known (option_map (λ rows. drawn_guards n case draws ++ rows) o) lists) (sym some) here
