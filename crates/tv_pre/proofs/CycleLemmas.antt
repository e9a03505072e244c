-- Cycles of cases, as cases that stay in their component.
use Rattle.std.proofs.Common.{◌≡◌, ℕ, ◌+◌, ◌<◌, List, length, get_or, take, map, sym, ap, ◌∙◌, subst, arith}
use Rattle.std.specs.Prelude.{All, Contains, ◌↔◌, slice_index}
use Rattle.std.proofs.lemmas.List.{get_or_default}
use Rattle.std.proofs.lemmas.List.Elements.{Contains-get_or, All-more, All-contains}
use Rattle.tv_cases.specs.LinearCases.{LinearCase, CaseSystem, AreCases, IsCase}
use Rattle.tv_cases.specs.declared.case.Case.{Case}
use Rattle.tv_cases.specs.Views.{case_view, case_views}
use Rattle.tv_cases.proofs.ContainsLemmas.{Contains-map, Contains-from_map}
use Rattle.tv_graph.specs.declared.Arc.{Arc}
use Rattle.tv_graph.specs.Graph.{Reaches, here, along, AreStronglyConnected}
use Rattle.tv_known.specs.Cycles.{Leads, HasCycle, case_at, no_case}
use Rattle.tv_known.specs.Cycles as cycles
use Rattle.tv_lexrank.specs.First.{arc_of}
use Rattle.tv_pre.specs.Finding.{AreBetween, StaysTogether}

pub case_there : (list : List Case) (i : ℕ) (c : Case) → i < length list → c ≡ get_or list i c → Contains (case_views list) (case_view c)
case_there list i c l e = Contains-map case_view list c (subst (Contains list) (sym e) (Contains-get_or list i c l))

pub case_kept : (P : Case → Type 0) (list : List Case) (i : ℕ) (c : Case) → i < length list → c ≡ get_or list i c → All P (take i list) → P c → All P (take (i + 1) list)
case_kept P list i c l e h w = All-more P list i c l h (subst P e w)

pub none_stays : (numbers : List ℕ) (list : List Case) → All (λ (c : Case). slice_index numbers c.from ≡ slice_index numbers c.to → ⊥) list → StaysTogether numbers (case_views list) → ⊥
none_stays numbers list h s =
    let w = Contains-from_map case_view list s.0 s.1 in
    All-contains (λ (c : Case). slice_index numbers c.from ≡ slice_index numbers c.to → ⊥) list w.0 h w.1
    (subst (λ (c : LinearCase). slice_index numbers c.from ≡ slice_index numbers c.to) (sym w.2) s.2)

pub between : (about : CaseSystem) (n : ℕ) → n ≡ about.locations → AreCases about → AreBetween n about.cases
between about n e h = λ c m. (let k = All-contains (IsCase about.variables about.locations) about.cases c h.cases m in
    (let a = k.leaves in omega (arith, a, e), let b = k.enters in omega (arith, b, e)))

module _ (cases : List LinearCase) where
  leads : (u v : ℕ) → Reaches (map arc_of cases) u v → Leads cases u v
  leads u v (here w) = cycles.here w
  leads u v (along arc t m r) =
      let w = Contains-from_map arc_of cases arc m in
      let k = w.1.0 in
      let q = w.1.1 in
      let c : arc_of (case_at cases k) ≡ arc = ap arc_of (get_or_default cases k no_case w.0 q ∙ w.1.2) ∙ w.2 in
      subst (λ (z : Arc). Leads cases z.from t) c (cycles.along k t q (subst (λ (z : Arc). Leads cases z.to t) (sym c) (leads arc.to t r)))

  there : (k : ℕ) → k < length cases → Contains (map arc_of cases) (arc_of (case_at cases k))
  there k l = Contains-map arc_of cases (case_at cases k) (Contains-get_or cases k no_case l)

  reaches : (u v : ℕ) → Leads cases u v → Reaches (map arc_of cases) u v
  reaches u v (cycles.here w) = here w
  reaches u v (cycles.along k t l r) = along (arc_of (case_at cases k)) t (there k l) (reaches (case_at cases k).to t r)

pub cycle_is : (about : CaseSystem) (numbers : List ℕ) → AreCases about → ((u v : ℕ) → u < about.locations → v < about.locations → (slice_index numbers u ≡ slice_index numbers v) ↔ AreStronglyConnected (map arc_of about.cases) u v) → StaysTogether numbers about.cases ↔ HasCycle about
cycle_is about numbers limits same = (
  λ s. (let k = s.1.0 in
      let l = s.1.1 in
      let at : case_at about.cases k ≡ s.0 = get_or_default about.cases k no_case s.0 l ∙ s.1.2 in
      let c = All-contains (IsCase about.variables about.locations) about.cases s.0 limits.cases s.1 in
      (k, l, subst (λ (z : LinearCase). Leads about.cases z.to z.from) (sym at) (leads about.cases s.0.to s.0.from ((same s.0.from s.0.to c.leaves c.enters).0 s.2).1))),
  λ h. (let z = case_at about.cases h.0 in
      let m = Contains-get_or about.cases h.0 no_case h.1 in
      let c = All-contains (IsCase about.variables about.locations) about.cases z limits.cases m in
      (z, m, (same z.from z.to c.leaves c.enters).1 (along (arc_of z) z.to (there about.cases h.0 h.1) (here z.to), reaches about.cases z.to z.from h.2))),
)
