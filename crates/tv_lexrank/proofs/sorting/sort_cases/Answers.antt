use Rattle.std.proofs.Common.{◌≡◌, ◌∙◌, ℕ, length, sym, subst, arith}
use Rattle.std.specs.Prelude.{Some, None, Option}
use Rattle.std.proofs.lemmas.Option.{slice_get-get_or}
use Rattle.tv_cases.specs.Systems.{cases_of}
use Rattle.tv_places.specs.Places.{places_of}
use Rattle.tv_rank.specs.Given.{lists}
use Rattle.tv_lexrank.specs.Inside.{inside_keys}
use Rattle.tv_lexrank.specs.Sorting.{AreSorted}
use Rattle.tv_lexrank.proofs.GapLemmas.{inside_at, sorted_next, sorted_all, behind_next}
use Rattle.tv_lexrank.proofs.SettleLemmas.{case_refused}
use Rattle.tv_lexrank.proofs.sorting.sort_cases.Goals as goal

pub sort_inside-requires-clause-number : goal.sort_inside-requires-clause-number
sort_inside-requires-clause-number c =
    let q = c.args.component.now in
    let about = cases_of q.about.now in
    let h = sym (c.place_at.ensures (inside_keys about q.numbers.now q.count) q.indexed) ∙ c.in-Some.is in
    (inside_at about q.numbers.now q.number q.count c.places.place c.in-Some.number q.below h).within

pub sort_inside-requires-clause-inside : goal.sort_inside-requires-clause-inside
sort_inside-requires-clause-inside c =
    let q = c.args.component.now in
    let about = cases_of q.about.now in
    let h = sym (c.place_at.ensures (inside_keys about q.numbers.now q.count) q.indexed) ∙ c.in-Some.is in
    (inside_at about q.numbers.now q.number q.count c.places.place c.in-Some.number q.below h).inside

pub places-preserved : goal.places-preserved
places-preserved c =
    let q = c.args.component.now in
    let about = cases_of q.about.now in
    let h = sym (c.place_at.ensures (inside_keys about q.numbers.now q.count) q.indexed) ∙ c.in-Some.is in
    let at = inside_at about q.numbers.now q.number q.count c.places.place c.in-Some.number q.below h in
    let s = c.places.sorted in
    let n = c.sort_inside.new.sorted in
    let until = sorted_next about q.numbers.now q.number q.count q.known.now.pieces.items c.places.place c.in-Some.number s.set.items s.empty.items (lists s.refutations.items) h at c.places.invariant in
    subst (λ z. AreSorted about q.known.now.pieces.items q.numbers.now q.number z n.set.items n.empty.items (lists n.refutations.items)) (behind_next about q.numbers.now q.number q.count c.places.place c.in-Some.number at) (c.in-Ok.ensures.sorted until)

pub returns-in-Err-clause-refusals : goal.returns-in-Err-clause-refusals
returns-in-Err-clause-refusals c =
    let q = c.args.component.now in
    let about = cases_of q.about.now in
    let known = q.known.now.pieces.items in
    let h = sym (c.place_at.ensures (inside_keys about q.numbers.now q.count) q.indexed) ∙ c.in-Some.is in
    let at = inside_at about q.numbers.now q.number q.count c.places.place c.in-Some.number q.below h in
    let s = c.places.sorted in
    let until = sorted_next about q.numbers.now q.number q.count known c.places.place c.in-Some.number s.set.items s.empty.items (lists s.refutations.items) h at c.places.invariant in
    case_refused about known q.numbers.now q.number q.pivots c.in-Some.number c.in-Err.fault at.within at.inside (s.set.items, s.empty.items, lists s.refutations.items, until) c.in-Err.ensures.refusals

none_not_some : (o : Option ℕ) (x : ℕ) → o ≡ None → o ≡ Some x → ⊥
none_not_some o x e f = absurd cc

pub unreachable-requires : goal.unreachable-requires
unreachable-requires c =
    let q = c.args.component.now in
    let keys = inside_keys (cases_of q.about.now) q.numbers.now q.count in
    let t = c.places-test.true in
    let n = c.count_of-place-end.ensures keys q.indexed in
    none_not_some c.place_at.result _ c.in-None.is (c.place_at.ensures keys q.indexed ∙ slice_get-get_or (places_of q.number keys) c.places.place 0 (omega (arith, t, n)))

pub returns-clause-sorted : goal.returns-clause-sorted
returns-clause-sorted c =
    let q = c.args.component.now in
    let about = cases_of q.about.now in
    let keys = inside_keys about q.numbers.now q.count in
    let s = c.places.sorted in
    let t = c.places-test.false in
    let e = c.places.auto.place-end in
    let n = c.count_of-place-end.ensures keys q.indexed in
    let all : c.places.place ≡ length (places_of q.number keys) = omega (arith, t, e, n) in
    sorted_all about q.numbers.now q.number q.count q.known.now.pieces.items c.places.place s.set.items s.empty.items (lists s.refutations.items) all c.places.invariant
