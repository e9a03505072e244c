use Rattle.std.proofs.Common.{◌≡◌, ◌∙◌, ℕ, ◌<◌, length, map, All, ap, sym, subst}
use Rattle.std.specs.Prelude.{◌↔◌, slice_index}
use Rattle.tv_cases.specs.Systems.{cases_of}
use Rattle.tv_graph.specs.Graph.{IsBetween, AreStronglyConnected}
use Rattle.tv_lexrank.specs.First.{arc_of}
use Rattle.tv_lexrank.proofs.FirstLemmas.{arcs_between}
use Rattle.tv_pre.specs.Finding.{AreBetween, StaysTogether}
use Rattle.tv_pre.proofs.CycleLemmas.{between, cycle_is}
use Rattle.tv_pre.proofs.cycle.has_cycle.Goals as goal

pub components-requires-clause-in_range : goal.components-requires-clause-in_range
components-requires-clause-in_range c =
    let about = cases_of c.args.about.now in
    let arcs = c.deref.ensures.value ∙ c.in_ok-arcs.ensures ∙ ap (map arc_of) c.list-list.ensures.same in
    subst (λ n. All (IsBetween n) c.deref.result.now) (sym c.locations.ensures.same) (subst (All (IsBetween about.locations)) (sym arcs) (arcs_between about c.list-list.ensures.limits))

pub some_stays-requires : goal.some_stays-requires
some_stays-requires c =
    let about = cases_of c.args.about.now in
    let numbers = c.deref-2.ensures.value in
    let many = ap length numbers ∙ c.in_ok-numbers.ensures.one_each ∙ c.locations.ensures.same in
    subst (AreBetween (length c.deref-2.result.now)) (sym c.list-list.ensures.same) (between about (length c.deref-2.result.now) many c.list-list.ensures.limits)

pub returns : goal.returns
returns c =
    let about = cases_of c.args.about.now in
    let arcs = c.deref.ensures.value ∙ c.in_ok-arcs.ensures ∙ ap (map arc_of) c.list-list.ensures.same in
    let numbers = c.deref-2.result.now in
    let same = subst (λ ns. (u v : ℕ) → u < about.locations → v < about.locations → (slice_index ns u ≡ slice_index ns v) ↔ AreStronglyConnected (map arc_of about.cases) u v) (sym c.deref-2.ensures.value)
    (subst (λ a. (u v : ℕ) → u < about.locations → v < about.locations → (slice_index c.in_ok-numbers.numbers.items u ≡ slice_index c.in_ok-numbers.numbers.items v) ↔ AreStronglyConnected a u v) arcs
    (subst (λ l. (u v : ℕ) → u < l → v < l → (slice_index c.in_ok-numbers.numbers.items u ≡ slice_index c.in_ok-numbers.numbers.items v) ↔ AreStronglyConnected c.deref.result.now u v) c.locations.ensures.same c.in_ok-numbers.ensures.same_number))
    in
    let told = cycle_is about numbers c.list-list.ensures.limits same in
    let found = c.some_stays.ensures in
    (λ t. told.0 (subst (StaysTogether numbers) c.list-list.ensures.same (found.0 t)), λ h. found.1 (subst (StaysTogether numbers) (sym c.list-list.ensures.same) (told.1 h)))
