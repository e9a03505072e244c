-- The cases of the copies of edges, each with the mark of its copy.
use Rattle.std.proofs.Common.{◌≡◌, ◌<◌, ◌≤◌, ◌∙◌, inl, inr, ℕ, ◌+◌, List, [], ◌∷◌, ◌++◌, length, get_or, drop, map, refl, sym, ap, subst, arith, Bool, true, false, not, length-append}
use Rattle.std.specs.List.{Contains, flat_map}
use Rattle.std.proofs.Math.ListN.{replicate}
use Rattle.std.proofs.lemmas.List.{append-nil, append_assoc, length-map}
use Rattle.std.proofs.lemmas.List.Elements.{Contains-append_left, Contains-append_right, Contains-append_cases}
use Rattle.std.proofs.lemmas.List.Folds.{flat_map-map, length-flat_map-take}
use Rattle.tv_program.specs.declared.tree.Edge.{Edge}
use Rattle.tv_program.specs.Trees.{Transition}
use Rattle.tv_program.specs.Views.{transition, transitions}
use Rattle.tv_formula.specs.Properties.{Property}
use Rattle.tv_cases.specs.Amounts.{amount, amount_after}
use Rattle.tv_cases.specs.EdgeCases.{edge_cases}
use Rattle.tv_cases.specs.LinearCases.{LinearCase}
use Rattle.tv_cases.proofs.ContainsLemmas.{Contains-here, Contains-later, Contains-cases, Contains-none, Contains-map, Contains-from_map}
use Rattle.tv_edges.proofs.EdgeLemmas.{all_cases, left_from, length-edge_cases}
use Rattle.tv_finitely.specs.Doubling.{copies}
use Rattle.tv_finitely.specs.Splits.{with_marks, all_marked, edge_marks}
use Rattle.tv_finitely.proofs.Doubled.{copy}

-- the cases with one mark
abbrev marked : Bool → List LinearCase → List (LinearCase × Bool)
marked mark cs = map (λ c. (c, mark)) cs

marks-joined : (mark : Bool) (xs ys : List LinearCase) (marks : List Bool) → with_marks (xs ++ ys) (all_marked mark xs ++ marks) ≡ marked mark xs ++ with_marks ys marks
marks-joined mark [] ys marks = refl
marks-joined mark (x ∷ xs) ys marks = ap (λ cs. (x, mark) ∷ cs) (marks-joined mark xs ys marks)

abbrev pub copied_cases : ℕ → Property → List Transition → List LinearCase
copied_cases n f es = all_cases n (flat_map (copies f) es)

abbrev pub copied_marks : ℕ → Property → List Transition → List Bool
copied_marks n f es = edge_marks n (flat_map (copies f) es)

abbrev pub marked_copies : ℕ → Property → List Transition → List (LinearCase × Bool)
marked_copies n f es = with_marks (copied_cases n f es) (copied_marks n f es)

-- the cases of the copy of an edge with this mark
abbrev own : ℕ → Property → Transition → Bool → List (LinearCase × Bool)
own n f e mark = marked mark (edge_cases n (copy mark f e))

next-edge : (n : ℕ) (f : Property) (e : Transition) (es : List Transition) → marked_copies n f (e ∷ es) ≡ own n f e true ++ (own n f e false ++ marked_copies n f es)
next-edge n f e es =
    let first = edge_cases n (copy true f e) in
    let second = edge_cases n (copy false f e) in
    marks-joined true first (second ++ copied_cases n f es) (all_marked false second ++ copied_marks n f es)
    ∙ ap (λ cs. marked true first ++ cs) (marks-joined false second (copied_cases n f es) (copied_marks n f es))

in-own : (n : ℕ) (f : Property) (e : Transition) (mark : Bool) (c : LinearCase) → Contains (edge_cases n (copy mark f e)) c → Contains (own n f e mark) (c, mark)
in-own n f e mark c h = Contains-map (λ (x : LinearCase). (x, mark)) (edge_cases n (copy mark f e)) c h

in-these : (n : ℕ) (f : Property) (e : Transition) (es : List Transition) (mark : Bool) (c : LinearCase) → Contains (edge_cases n (copy mark f e)) c → Contains (own n f e true ++ (own n f e false ++ marked_copies n f es)) (c, mark)
in-these n f e es true c h = Contains-append_left (own n f e true) (own n f e false ++ marked_copies n f es) (c, true) (in-own n f e true c h)
in-these n f e es false c h =
    Contains-append_right (own n f e true) (own n f e false ++ marked_copies n f es) (c, false)
    (Contains-append_left (own n f e false) (marked_copies n f es) (c, false) (in-own n f e false c h))

in-later : (n : ℕ) (f : Property) (e : Transition) (es : List Transition) (p : LinearCase × Bool) → Contains (marked_copies n f es) p → Contains (own n f e true ++ (own n f e false ++ marked_copies n f es)) p
in-later n f e es p h =
    Contains-append_right (own n f e true) (own n f e false ++ marked_copies n f es) p (Contains-append_right (own n f e false) (marked_copies n f es) p h)

-- a case of the copy of an edge with a mark is there with that mark
pub in-copies : (n : ℕ) (f : Property) (es : List Transition) (mark : Bool) (e : Transition) (c : LinearCase) → Contains es e → Contains (edge_cases n (copy mark f e)) c → Contains (marked_copies n f es) (c, mark)
in-copies n f [] mark e c among inside = absurd (Contains-none e among)
in-copies n f (d ∷ es) mark e c among inside =
    rw (next-edge n f d es)
    (elim (Contains-cases d e es among) [
      | inl is ↦ in-these n f d es mark c (rw is inside)
      | inr later ↦ in-later n f d es (c, mark) (in-copies n f es mark e c later inside)
    ])

-- and there is no other
pub record OfCopy (n : ℕ) (f : Property) (es : List Transition) (mark : Bool) (c : LinearCase) : Type 0 where
  pub edge : Transition
  pub among : Contains es edge
  pub inside : Contains (edge_cases n (copy mark f edge)) c

of-this : (n : ℕ) (f : Property) (e : Transition) (es : List Transition) (other mark : Bool) (c : LinearCase) → Contains (own n f e other) (c, mark) → OfCopy n f (e ∷ es) mark c
of-this n f e es other mark c h =
    let m = Contains-from_map (λ (x : LinearCase). (x, other)) (edge_cases n (copy other f e)) (c, mark) h in
    let same : m.0 ≡ c = ap (λ (p : LinearCase × Bool). p.0) m.2 in
    let mine : other ≡ mark = ap (λ (p : LinearCase × Bool). p.1) m.2 in
    record { edge = e; among = Contains-here e es; inside = rw (← mine) (subst (Contains (edge_cases n (copy other f e))) same m.1) }

of-later : (n : ℕ) (f : Property) (e : Transition) (es : List Transition) (mark : Bool) (c : LinearCase) → OfCopy n f es mark c → OfCopy n f (e ∷ es) mark c
of-later n f e es mark c o = record { edge = o.edge; among = Contains-later e o.edge es o.among; inside = o.inside }

pub from-copies : (n : ℕ) (f : Property) (es : List Transition) (mark : Bool) (c : LinearCase) → Contains (marked_copies n f es) (c, mark) → OfCopy n f es mark c
from-copies n f [] mark c h = absurd (Contains-none (c, mark) h)
from-copies n f (e ∷ es) mark c h =
    elim (Contains-append_cases (own n f e true) (own n f e false ++ marked_copies n f es) (c, mark) (rw (← (next-edge n f e es)) h)) [
      | inl first ↦ of-this n f e es true mark c first
      | inr rest ↦ elim (Contains-append_cases (own n f e false) (marked_copies n f es) (c, mark) rest) [
        | inl second ↦ of-this n f e es false mark c second
        | inr later ↦ of-later n f e es mark c (from-copies n f es mark c later)
      ]
    ]

-- ---- the marks, edge by edge

-- those of edges that enter by turns, the first as is said
abbrev pub marks_from : Bool → ℕ → List Transition → List Bool
marks_from mark n [] = []
marks_from mark n (e ∷ es) = all_marked mark (edge_cases n e) ++ marks_from (not mark) n es

pub by-turns : (n : ℕ) (es : List Transition) → edge_marks n es ≡ marks_from true n es
by-turns n [] = refl
by-turns n (e ∷ []) = sym (append-nil (all_marked true (edge_cases n e)))
by-turns n (e ∷ g ∷ es) = ap (λ marks. all_marked true (edge_cases n e) ++ (all_marked false (edge_cases n g) ++ marks)) (by-turns n es)

turns-counted : (mark : Bool) (n : ℕ) (es : List Transition) → length (marks_from mark n es) ≡ length (all_cases n es)
turns-counted mark n [] = refl
turns-counted mark n (e ∷ es) =
    length-append (all_marked mark (edge_cases n e)) (marks_from (not mark) n es)
    ∙ (λ i. length-map (edge_cases n e) (λ x. mark) i + turns-counted (not mark) n es i)
    ∙ sym (length-append (edge_cases n e) (all_cases n es))

pub marks-counted : (n : ℕ) (es : List Transition) → length (edge_marks n es) ≡ length (all_cases n es)
marks-counted n es = ap length (by-turns n es) ∙ turns-counted true n es

marked-times : (mark : Bool) (cs : List LinearCase) → all_marked mark cs ≡ replicate (length cs) mark
marked-times mark [] = refl
marked-times mark (c ∷ cs) = ap (λ marks. mark ∷ marks) (marked-times mark cs)

module _ (n : ℕ) (edges : List Edge) (i : ℕ) (e : Edge) (below : i < length edges) (is : e ≡ get_or edges i e) (few : length (all_cases n (transitions edges)) ≤ 8192) where
  own_few : length (edge_cases n (transition e)) ≤ 8192
  own_few =
      let these = length-flat_map-take (λ (x : Edge). edge_cases n (transition x)) edges i e below in
      let all = ap length (flat_map-map (edge_cases n) transition edges) in
      let here = ap (λ (x : Edge). length (edge_cases n (transition x))) is in
      omega (arith, these, all, here, few)

  -- one edge further
  pub next-turn : (mark : Bool) (so_far made whole : List Bool) (here : ℕ) → so_far ++ marks_from mark n (transitions (drop i edges)) ≡ whole → made ≡ so_far ++ replicate here mark →
      here ≡ (amount_after (amount 1 0) (transition e).instructions).lists → made ++ marks_from (not mark) n (transitions (drop (i + 1) edges)) ≡ whole
  next-turn mark so_far made whole here so more counted =
      let later = marks_from (not mark) n (transitions (drop (i + 1) edges)) in
      let many = counted ∙ length-edge_cases n (transition e) own_few in
      let marks = ap (λ k. replicate k mark) many ∙ sym (marked-times mark (edge_cases n (transition e))) in
      ap (λ ms. ms ++ later) (more ∙ ap (λ ms. so_far ++ ms) marks)
      ∙ append_assoc so_far (all_marked mark (edge_cases n (transition e))) later
      ∙ ap (λ es. so_far ++ marks_from mark n (transitions es)) (sym (left_from edges i e below is))
      ∙ so
