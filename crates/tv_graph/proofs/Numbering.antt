use Rattle.std.proofs.Common.{◌≡◌, ◌≢◌, ℕ, ◌<◌, ◌≤◌, inl, inr, List, length, get_or, sym, ◌∙◌, ap, arith}
use Rattle.std.specs.Prelude.{map}
use Rattle.std.specs.List.{All, Contains}
use Rattle.std.proofs.lemmas.List.{get_or_past, get_or-map, get_or_default}
use Rattle.std.proofs.lemmas.List.Elements.{All-from_get_or}
use Rattle.std.proofs.lemmas.Bool.{cases_lt}
use Rattle.tv_graph.specs.declared.Arc.{Arc}
use Rattle.tv_graph.specs.declared.marks.Mark.TheVariants.{New, Closed}
use Rattle.tv_graph.specs.declared.search.PathSearch.{PathSearch}
use Rattle.tv_graph.specs.Graph.{IsNumbering}
use Rattle.tv_graph.specs.Arcs.{no_arc, from_at, to_at, InRange}
use Rattle.tv_graph.specs.Marks.{mark_at, number_of}
use Rattle.tv_graph.specs.PathSearch.{IsValid}
use Rattle.tv_graph.proofs.StateLemmas.{mark_cases}
use Rattle.tv_graph.proofs.ReachLemmas.{reaches_falls}

-- a number that stands at a place
contains_at : (xs : List ℕ) (i n : ℕ) → i < length xs → get_or xs i 0 ≡ n → Contains xs n
contains_at xs i n lt e = (i, lt, get_or_default xs i n 0 lt ∙ e)

-- where all nodes were reached and none is on the path, the numbers of the marks are those of the components
pub numbering : (arcs : List Arc) (x : PathSearch) (nodes : ℕ) (xs : List ℕ) → IsValid arcs x → InRange nodes arcs → length x.path.items ≡ 0 → length x.marks.items ≡ nodes → ((u : ℕ) → u < nodes → mark_at x.marks.items u ≢ New) → xs ≡ map number_of x.marks.items → length xs ≡ nodes → IsNumbering nodes arcs xs
numbering arcs x nodes xs g range empty many seen is wide =
    let shut : (u : ℕ) → u < nodes → (c : ℕ) × (mark_at x.marks.items u ≡ Closed c) = λ u lt. elim (mark_cases (mark_at x.marks.items u)) [
      | inl n ↦ absurd (seen u lt n)
      | inr o ↦ elim o [
        | inl h ↦ (let l : h.0 < length x.path.items = (g.state.placed u h.0 h.1).0 in absurd (omega arith))
        | inr h ↦ h
      ]
    ] in
    let num : (u c : ℕ) → u < nodes → mark_at x.marks.items u ≡ Closed c → get_or xs u 0 ≡ c = λ u c lt e. ap (λ ys. get_or ys u 0) is ∙ (get_or-map number_of x.marks.items u New 0 (omega arith) ∙ ap number_of e) in
    let inside : (u c : ℕ) → mark_at x.marks.items u ≡ Closed c → u < nodes = λ u c e. elim (cases_lt u nodes) [
      | inl l ↦ l
      | inr o ↦ (let h : Closed c ≡ New = sym e ∙ get_or_past x.marks.items u New (omega arith) in cc)
    ] in
    let falls : All (λ arc. get_or xs arc.to 0 ≤ get_or xs arc.from 0) arcs = All-from_get_or (λ arc. get_or xs arc.to 0 ≤ get_or xs arc.from 0) arcs no_arc (λ a am.
    let c : (c : ℕ) × (mark_at x.marks.items (from_at arcs a) ≡ Closed c) = shut (from_at arcs a) (range.from_in a am) in
    let d : (d : ℕ) × (mark_at x.marks.items (to_at arcs a) ≡ Closed d) × (d ≤ c.0) = g.state.falling a c.0 am c.1 in
    let le : d.0 ≤ c.0 = d.2 in
    omega (arith, num (from_at arcs a) c.0 (range.from_in a am) c.1, num (to_at arcs a) d.0 (range.to_in a am) d.1)) in
    let under : (u : ℕ) → u < nodes → get_or xs u 0 < x.count = λ u lt.
    let d : (d : ℕ) × (mark_at x.marks.items u ≡ Closed d) = shut u lt in
    let du : get_or xs u 0 ≡ d.0 = num u d.0 lt d.1 in
    let dc : d.0 < x.count = g.state.numbered u d.0 d.1 in
    omega arith in
    record {
      one_each = wide;
      same_number = λ u v ul vl. (
        (λ e.
            let c : (c : ℕ) × (mark_at x.marks.items u ≡ Closed c) = shut u ul in
            let d : (d : ℕ) × (mark_at x.marks.items v ≡ Closed d) = shut v vl in
            let cd : d.0 ≡ c.0 = sym (num v d.0 vl d.1) ∙ (sym e ∙ num u c.0 ul c.1) in
            let vc : mark_at x.marks.items v ≡ Closed c.0 = d.1 ∙ ap Closed cd in
            (g.state.joined u v c.0 c.1 vc, g.state.joined v u c.0 vc c.1)),
        (λ h.
            let a : get_or xs v 0 ≤ get_or xs u 0 = reaches_falls arcs (λ w. get_or xs w 0) falls u v h.0 in
            let b : get_or xs u 0 ≤ get_or xs v 0 = reaches_falls arcs (λ w. get_or xs w 0) falls v u h.1 in
            omega arith),
      );
      never_greater = falls;
      no_gap = λ number lesser h le.
          let is : get_or xs h.0 number ≡ number = h.2 in
          let at : h.0 < nodes = (let l : h.0 < length xs = h.1 in omega arith) in
          let same : get_or xs h.0 0 ≡ get_or xs h.0 number = get_or_default xs h.0 0 number h.1 in
          let up : get_or xs h.0 0 < x.count = under h.0 at in
          let w : (w : ℕ) × (mark_at x.marks.items w ≡ Closed lesser) = g.state.used lesser (omega arith) in
          let inw : w.0 < nodes = inside w.0 lesser w.1 in
          contains_at xs w.0 lesser (omega arith) (num w.0 lesser inw w.1);
      below = All-from_get_or (λ number. number < nodes) xs 0 (λ u lt. let h : get_or xs u 0 < x.count = under u (omega arith) in let room : x.count ≤ length x.marks.items = (let r = g.room in omega arith) in omega arith);
    }
