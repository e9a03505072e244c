use Rattle.std.proofs.Common.{◌≡◌, ◌∙◌, ℕ, ◌<◌, ◌≤◌, List, [], ◌∷◌, length, map, get_or, All, sym, ap, subst, arith, ℤ}
use Rattle.std.specs.Prelude.{◌↔◌, slice_index, Contains}
use Rattle.std.proofs.lemmas.List.{length-map, get_or-map}
use Rattle.tv_farkas.proofs.SystemLemmas.{at_of}
use Rattle.tv_linear.specs.declared.region.Piece.{Piece}
use Rattle.tv_cases.specs.LinearCases.{LinearCase, CaseSystem, AreCases}
use Rattle.tv_graph.specs.declared.Arc.{Arc}
use Rattle.tv_graph.specs.Graph.{IsBetween, Reaches, here, along, AreStronglyConnected, HasNoGap}
use Rattle.tv_rank.specs.Ways.{case_at, no_case, rows_at}
use Rattle.tv_lexrank.specs.declared.fault.RankFault.{RankFault}
use Rattle.tv_lexrank.specs.declared.fault.RankFault.TheVariants as fault
use Rattle.tv_known.specs.Cycles.{Leads}
use Rattle.tv_known.specs.Cycles as cycles
use Rattle.tv_lexrank.specs.Known.{AreBare}
use Rattle.tv_rank.specs.Given.{lists}
use Rattle.tv_lexrank.specs.Attempt.{NeverRises, RefusesAttempt}
use Rattle.tv_lexrank.specs.First.{arc_of, AreComponents, IsOutcome, RefusesFirst}
use Rattle.std.specs.List.{AllZip}
use Rattle.tv_cert.specs.declared.node.Marked.{Marked}
use Rattle.tv_cert.specs.Nodes.{pieces_of}
use Rattle.tv_lexrank.specs.declared.shown.CaseShown.{CaseShown}
use Rattle.tv_lexrank.specs.Shown.{IsShownBy, ranks_there, IsShownIn}
use Rattle.tv_lexrank.specs.declared.ranked.Ranked.{Ranked}
use Rattle.tv_lexrank.specs.declared.ranked.Ranked.TheVariants as ranked
use Rattle.tv_lexrank.specs.Outcomes.{IsAnswer, Refuses}
use Rattle.tv_farkas.specs.declared.budget.Budget.{Budget}
use Rattle.tv_linear.specs.Linear.{Linear}
use Rattle.tv_simplex.specs.Outcomes.{IsBarrierOf}
use Rattle.tv_rank.specs.RankingSystem.{ranking_system}
use Rattle.tv_rank.specs.Rankings.{HasPoint, NoneRanks}
use Rattle.tv_lexrank.specs.Parts.{IsStuck}
use Rattle.tv_lexrank.proofs.NotStuck.{bare_ways}
use Rattle.tv_lexrank.proofs.SortLemmas.{of_case}
use Rattle.std.proofs.lemmas.List.Elements.{All-from_get_or}

arc_at : (cases : List LinearCase) (k : ℕ) (d : Arc) → k < length cases → get_or (map arc_of cases) k d ≡ arc_of (case_at cases k)
arc_at cases k d l = get_or-map arc_of cases k no_case d l

no_arc : Arc
no_arc = record { from = 0; to = 0 }

pub arcs_between : (about : CaseSystem) → AreCases about → All (IsBetween about.locations) (map arc_of about.cases)
arcs_between about h = All-from_get_or (IsBetween about.locations) (map arc_of about.cases) no_arc (λ k l.
    let q : k < length about.cases = (let e = length-map about.cases arc_of in omega (arith, e, l)) in
    let c = of_case about k h q in
    subst (IsBetween about.locations) (sym (arc_at about.cases k no_arc q)) (c.leaves, c.enters))

never_rises : (about : CaseSystem) (numbers : List ℕ) → All (λ arc. slice_index numbers arc.to ≤ slice_index numbers arc.from) (map arc_of about.cases) → NeverRises about numbers
never_rises about numbers h = λ k l. subst (λ a. slice_index numbers a.to ≤ slice_index numbers a.from) (arc_at about.cases k no_arc l) (at_of (λ arc. slice_index numbers arc.to ≤ slice_index numbers arc.from) (map arc_of about.cases) no_arc h k (let e = length-map about.cases arc_of in omega (arith, e, l)))

leads : (cases : List LinearCase) (u v : ℕ) → Reaches (map arc_of cases) u v → Leads cases u v
leads cases u v (here w) = cycles.here w
leads cases u v (along arc t (k, l, e) r) =
    let q : k < length cases = (let m = length-map cases arc_of in omega (arith, m, l)) in
    let a = sym (arc_at cases k arc q) ∙ e in
    subst (λ z. Leads cases z.from t) a (cycles.along k t q (subst (λ z. Leads cases z.to t) (sym a) (leads cases arc.to t r)))

pub are_components : (about : CaseSystem) (numbers : List ℕ) → length numbers ≡ about.locations → ((u v : ℕ) → u < about.locations → v < about.locations → (slice_index numbers u ≡ slice_index numbers v) ↔ AreStronglyConnected (map arc_of about.cases) u v) → All (λ arc. slice_index numbers arc.to ≤ slice_index numbers arc.from) (map arc_of about.cases) → HasNoGap numbers → AreComponents about numbers
are_components about numbers e s n g = record {
  one_each = e;
  grouped = λ u v a b q. let r = (s u v a b).0 q in (leads about.cases u v r.0, leads about.cases v u r.1);
  never_rises = never_rises about numbers n;
  no_gap = g;
}

-- a set that is stuck under pieces without rows is stuck without known rows
pub stuck_bare : (about : CaseSystem) (known : List Piece) (set : List ℕ) (barriers : List (List ℤ)) → AreBare known → IsStuck about known set barriers → IsStuck about [] set barriers
stuck_bare about known set barriers bare h =
    let e = bare_ways about.cases known set bare in
    record {
      nonempty = h.nonempty;
      ascends = h.ascends;
      inside = h.inside;
      points = subst (λ w. (k : ℕ) → k < length set → HasPoint about.variables (w k)) e h.points;
      each_barred = record {
        as_many = h.each_barred.as_many;
        each = subst (λ w. (k : ℕ) → k < length set → IsBarrierOf (ranking_system w (length set) k about.variables about.locations) (get_or barriers k [])) e h.each_barred.each;
        excluded = subst (λ w. (k : ℕ) → k < length set → NoneRanks about.variables (length set) w k) e h.each_barred.excluded;
      };
    }

-- ---- where no rows are known
none_among : (known : List Piece) (l : ℕ) (r : Linear) → AreBare known → Contains (rows_at known l) r → ⊥
none_among known l r bare c = (let e = ap length (bare l) in let q = c.1 in omega (arith, e, q))

-- what shows a case under pieces without rows shows it without known rows
each_bare : (about : CaseSystem) (known : List Piece) (pieces : List Marked) (cases : List LinearCase) (shown : List CaseShown) → AreBare known → AllZip (IsShownIn about known pieces) cases shown → AllZip (IsShownIn about [] pieces) cases shown
each_bare about known pieces [] [] bare h = tt
each_bare about known pieces [] (s ∷ shown) bare h = absurd h
each_bare about known pieces (c ∷ cases) [] bare h = absurd h
each_bare about known pieces (c ∷ cases) (s ∷ shown) bare h = (
  subst (λ rows. IsShownBy about.variables (record { taken = c; known = rows }) (ranks_there pieces c.from) (ranks_there pieces c.to) s) (bare c.from) h.0,
  each_bare about known pieces cases shown bare h.1,
)

pub answered_bare : (about : CaseSystem) (known : List Piece) (r : Ranked) → AreBare known → IsAnswer about known r → IsOutcome about r
answered_bare about known (ranked.Node node shown) bare h = record {
  ends = record {
    fits = h.ends.fits;
    met = h.ends.met;
    pieces = λ l i. let p = h.ends.pieces l i in record { piece = p.piece; first = p.first; has = p.has ∙ bare l };
    single = h.ends.single;
  };
  each = each_bare about known (pieces_of node) about.cases shown.items bare h.each;
}
answered_bare about known (ranked.Stuck set barriers) bare h = stuck_bare about known set.items (lists barriers.items) bare h

pub refused_bare : (about : CaseSystem) (known : List Piece) (budget : Budget) (pivots : ℕ) (e : RankFault) → AreBare known → budget.pivots ≡ pivots → Refuses about known budget e → RefusesFirst about pivots e
refused_bare about known budget pivots (fault.Open taken values) bare same h = none_among known h.new.location h.row bare h.among
refused_bare about known budget pivots (fault.Cover f) bare same (k, h) = (let e = ap length (bare (case_at about.cases k).to) in let s = h.some in omega (arith, e, s))
refused_bare about known budget pivots (fault.Solve system e) bare same (numbers, are, h) =
    (numbers, known, are, bare, subst (λ z. RefusesAttempt about known numbers z (fault.Solve system e)) same h)
refused_bare about known budget pivots fault.Memory bare same h = tt
