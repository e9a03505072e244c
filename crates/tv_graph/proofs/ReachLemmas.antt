use Rattle.std.proofs.Common.{◌≡◌, ◌≢◌, ℕ, ◌+◌, ◌<◌, ◌≤◌, inl, inr, List, length, get_or, sym, ◌∙◌, ap, arith}
use Rattle.std.specs.List.{All}
use Rattle.std.proofs.lemmas.List.Elements.{All-contains, Contains-get_or}
use Rattle.std.proofs.lemmas.Bool.{cases_lt}
use Rattle.tv_graph.specs.declared.Arc.{Arc}
use Rattle.tv_graph.specs.Graph.{Reaches, here, along}
use Rattle.tv_graph.specs.Arcs.{no_arc, from_at, to_at, IsPastLast}
use Rattle.tv_graph.specs.Invariant.{Follows}

pub last_here : (arcs : List Arc) (u n : ℕ) → from_at arcs n ≡ u → IsPastLast arcs u (n + 1) (n + 1)
last_here arcs u n e = record {
  past = λ k a b h. omega arith;
  hits = λ k h. (let kn : k ≡ n = omega arith in (omega arith, ap (from_at arcs) kn ∙ e));
}

pub last_on : (arcs : List Arc) (u n c : ℕ) → IsPastLast arcs u n c → from_at arcs n ≢ u → IsPastLast arcs u (n + 1) c
last_on arcs u n c l ne = record {
  past = λ k a b h. elim (cases_lt k n) [
    | inl less ↦ l.past k a less h
    | inr more ↦ (let kn : k ≡ n = omega arith in ne (sym (ap (from_at arcs) kn) ∙ h))
  ];
  hits = λ k h. (let g : (k < n) × (from_at arcs k ≡ u) = l.hits k h in (omega arith, g.1));
}

-- a path goes on by another
reaches_chain : (arcs : List Arc) (u v w : ℕ) → Reaches arcs u v → Reaches arcs v w → Reaches arcs u w
reaches_chain arcs u v w (here x) h = h
reaches_chain arcs u v w (along arc x inside rest) h = along arc w inside (reaches_chain arcs arc.to v w rest h)

-- reach goes along the arcs
pub follows_arcs : (arcs : List Arc) → Follows (length arcs) (from_at arcs) (to_at arcs) (Reaches arcs)
follows_arcs arcs = record {
  loop = λ u. here u;
  chain = reaches_chain arcs;
  arc = λ a lt. along (get_or arcs a no_arc) (to_at arcs a) (Contains-get_or arcs a no_arc lt) (here (to_at arcs a));
}

-- a number that is never greater at the end of an arc is never greater at the end of a path
pub reaches_falls : (arcs : List Arc) (number : ℕ → ℕ) → All (λ arc. number arc.to ≤ number arc.from) arcs → (u v : ℕ) → Reaches arcs u v → number v ≤ number u
reaches_falls arcs number falls u v (here x) = omega arith
reaches_falls arcs number falls u v (along arc x inside rest) =
    let h : number v ≤ number arc.to = reaches_falls arcs number falls arc.to v rest in
    let g : number arc.to ≤ number arc.from = All-contains (λ arc. number arc.to ≤ number arc.from) arcs arc falls inside in
    omega arith
