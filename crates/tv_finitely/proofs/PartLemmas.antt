-- The components with their rounds, one after the other.
use Rattle.std.proofs.Common.{◌≡◌, ◌⊎◌, inl, inr, ℕ, zero, suc, ◌+◌, ◌<◌, ◌≤◌, List, [], ◌∷◌, ◌++◌, length, get_or, ℤ, Bool, arith, refl, sym, ap, ◌∙◌, subst}
use Rattle.std.proofs.lemmas.List.{get_or-map}
use Rattle.tv_linear.specs.declared.region.Piece.{Piece}
use Rattle.tv_cases.specs.LinearCases.{CaseSystem, AreCases}
use Rattle.tv_lexrank.specs.declared.fault.RankFault.{RankFault}
use Rattle.tv_lexrank.specs.declared.fault.RankFault.TheVariants as fault
use Rattle.tv_lexrank.specs.Parts.{AreGrouped}
use Rattle.tv_lexrank.specs.Sorting.{AreSorted}
use Rattle.tv_lexrank.proofs.NotStuck.{inside_left}
use Rattle.tv_lexrank.proofs.PartLemmas.{are_inside}
use Rattle.tv_lexrank.proofs.Removing.{ascends_left}
use Rattle.tv_lexrank.proofs.SortLemmas.{few_below}
use Rattle.tv_finitely.specs.declared.part.Part.{Part}
use Rattle.tv_finitely.specs.Parts.{IsPart, IsStuckOf, PartsFrom, rounds_in, RefusesPart, AreDoneBefore, RefusesAttempt}
use Rattle.tv_finitely.specs.Rounds.{AreStuck}
use Rattle.tv_finitely.specs.Splits.{SplitSystem}
use Rattle.tv_finitely.proofs.Taken.{taken_by, taken_length}

-- what is left is stuck
pub stuck_left : (about : CaseSystem) (marks : List Bool) (known : List Piece) (numbers : List ℕ) (component : ℕ) (set empty : List ℕ) (refutations : List (List ℤ)) (left : List ℕ) (barriers : List (List ℤ)) → AreCases about → AreGrouped about numbers → AreSorted about known numbers component (length about.cases) set empty refutations → AreStuck about known marks set left barriers → IsStuckOf about marks known left barriers
stuck_left about marks known numbers component set empty refutations left barriers limits grouped sorted h = record {
  enters = h.enters;
  stuck = record {
    nonempty = (let l = h.enters.1 in omega (arith, l));
    ascends = ascends_left about known set h.rounds left h.lead sorted.ascends;
    inside = inside_left about known set h.rounds left h.lead (are_inside about known numbers component set empty refutations limits grouped sorted);
    points = h.points;
    each_barred = h.each_barred;
  };
}

module _ (s : SplitSystem) (known : List Piece) (numbers : List ℕ) where
  parts_from : (c d : ℕ) (ps : List Part) (p : Part) → PartsFrom s known numbers c ps → d ≡ c + length ps → IsPart s known numbers d p → PartsFrom s known numbers c (ps ++ p ∷ [])
  parts_from c d [] p h e i = (subst (λ z. IsPart s known numbers z p) (let q : d ≡ c = omega (arith, e) in q) i, tt)
  parts_from c d (q ∷ ps) p h e i = (h.0, parts_from (suc c) d ps p h.1 (omega (arith, e)) i)

  pub parts_more : (d : ℕ) (ps news : List Part) (p : Part) → PartsFrom s known numbers 0 ps → length ps ≡ d → IsPart s known numbers d p → news ≡ ps ++ p ∷ [] → PartsFrom s known numbers 0 news
  parts_more d ps news p h e i m = subst (λ z. PartsFrom s known numbers 0 z) (sym m) (parts_from 0 d ps p h (omega (arith, e)) i)

  part_from : (c k : ℕ) (ps : List Part) (d : Part) → PartsFrom s known numbers c ps → k < length ps → IsPart s known numbers (c + k) (get_or ps k d)
  part_from c k [] d h l = absurd (omega (arith, l))
  part_from c zero (p ∷ ps) d h l = subst (λ z. IsPart s known numbers z p) (let q : c ≡ c + 0 = omega arith in q) h.0
  part_from c (suc k) (p ∷ ps) d h l = subst (λ z. IsPart s known numbers z (get_or ps k d)) (let q : suc c + k ≡ c + suc k = omega arith in q) (part_from (suc c) k ps d h.1 (omega (arith, l)))

  pub part_is : (k : ℕ) (ps : List Part) (p : Part) → PartsFrom s known numbers 0 ps → k < length ps → p ≡ get_or ps k p → IsPart s known numbers k p
  part_is k ps p h l e = subst (λ z. IsPart s known numbers k z) (sym e) (subst (λ z. IsPart s known numbers z (get_or ps k p)) (let q : 0 + k ≡ k = omega arith in q) (part_from 0 k ps p h l))

  pub part_refused : (component pivots : ℕ) (e : RankFault) → AreDoneBefore s known numbers component → RefusesPart s.system s.enters known numbers component pivots e → RefusesAttempt s known numbers pivots e
  part_refused component pivots (fault.Solve system e) before h = (component, h, before)
  part_refused component pivots (fault.Open taken values) before h = absurd h
  part_refused component pivots (fault.Cover f) before h = absurd h
  part_refused component pivots fault.Memory before h = tt

  -- the part that has the rounds of a component
  pub rounds_part : (d c : ℕ) (ps : List Part) → PartsFrom s known numbers d ps → c < length ps → (p : Part) × IsPart s known numbers (d + c) p × (p.rounds.items ≡ rounds_in ps c)
  rounds_part d c [] h l = absurd (omega (arith, l))
  rounds_part d zero (p ∷ ps) h l = (p, subst (λ z. IsPart s known numbers z p) (let q : d ≡ d + 0 = omega arith in q) h.0, refl)
  rounds_part d (suc c) (p ∷ ps) h l =
      let r = rounds_part (suc d) c ps h.1 (omega (arith, l)) in
      (r.0, subst (λ z. IsPart s known numbers z r.0) (let q : suc d + c ≡ d + suc c = omega arith in q) r.1, r.2)

  part_few : (c : ℕ) (p : Part) → length s.system.cases ≤ 8192 → IsPart s known numbers c p → length p.rounds.items ≤ 8192
  part_few c p bounded h =
      let a = taken_length s.system known h.enough.left p.sorted.set.items p.rounds.items (taken_by s.system known p.sorted.set.items p.rounds.items h.enough.left h.enough.lead) in
      let b = few_below (length s.system.cases) p.sorted.set.items h.sorted.ascends h.sorted.numbered in
      omega (arith, a, b, bounded)

  none_there : (ps : List Part) (c : ℕ) → length ps ≤ c → rounds_in ps c ≡ []
  none_there [] c h = refl
  none_there (p ∷ ps) zero h = absurd (omega (arith, h))
  none_there (p ∷ ps) (suc c) h = none_there ps c (omega (arith, h))

  pub parts_few : (ps : List Part) → length s.system.cases ≤ 8192 → PartsFrom s known numbers 0 ps → (c : ℕ) → length (rounds_in ps c) ≤ 8192
  parts_few ps bounded h c = by_either (grind arith)
    where
      by_either : (c < length ps) ⊎ (length ps ≤ c) → length (rounds_in ps c) ≤ 8192
      by_either (inl l) = let r = rounds_part 0 c ps h l in subst (λ z. length z ≤ 8192) r.2 (part_few (0 + c) r.0 bounded r.1)
      by_either (inr l) = subst (λ z. length z ≤ 8192) (sym (none_there ps c l)) (omega arith)

pub rounds_are : (k : ℕ) (ps : List Part) (p : Part) → k < length ps → p ≡ get_or ps k p → rounds_in ps k ≡ p.rounds.items
rounds_are k ps p l e = get_or-map (λ q. q.rounds.items) ps k p [] l ∙ ap (λ q. q.rounds.items) (sym e)
