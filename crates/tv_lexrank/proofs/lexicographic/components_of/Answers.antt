use Rattle.std.proofs.Common.{◌≡◌, ◌∙◌, ℕ, ◌<◌, ◌≤◌, map, All, ap, sym, subst}
use Rattle.std.specs.Prelude.{◌↔◌, slice_index}
use Rattle.tv_cases.specs.Systems.{cases_of}
use Rattle.tv_graph.specs.Graph.{IsBetween, AreStronglyConnected}
use Rattle.tv_lexrank.specs.First.{arc_of}
use Rattle.tv_lexrank.proofs.FirstLemmas.{arcs_between, are_components}
use Rattle.tv_lexrank.proofs.lexicographic.components_of.Goals as goal

pub components-requires-clause-in_range : goal.components-requires-clause-in_range
components-requires-clause-in_range c =
    let about = cases_of c.args.about.now in
    let arcs = c.deref.ensures.value ∙ c.in_ok-arcs.ensures ∙ ap (map arc_of) c.list.ensures.same in
    subst (λ n. All (IsBetween n) c.deref.result.now) (sym c.locations.ensures.same) (subst (All (IsBetween about.locations)) (sym arcs) (arcs_between about c.list.ensures.limits))

pub returns-clause-components : goal.returns-clause-components
returns-clause-components c =
    let about = cases_of c.args.about.now in
    let arcs = c.deref.ensures.value ∙ c.in_ok-arcs.ensures ∙ ap (map arc_of) c.list.ensures.same in
    let numbers = c.in_ok-numbers.numbers.items in
    are_components about numbers (c.in_ok-numbers.ensures.one_each ∙ c.locations.ensures.same)
    (subst (λ a. (u v : ℕ) → u < about.locations → v < about.locations → (slice_index numbers u ≡ slice_index numbers v) ↔ AreStronglyConnected a u v) arcs
    (subst (λ l. (u v : ℕ) → u < l → v < l → (slice_index numbers u ≡ slice_index numbers v) ↔ AreStronglyConnected c.deref.result.now u v) c.locations.ensures.same c.in_ok-numbers.ensures.same_number))
    (subst (All (λ arc. slice_index numbers arc.to ≤ slice_index numbers arc.from)) arcs c.in_ok-numbers.ensures.never_greater)
    c.in_ok-numbers.ensures.no_gap
