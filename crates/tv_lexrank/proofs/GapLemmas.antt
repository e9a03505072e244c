-- Between the places of a number in a list it does not stand.
use Rattle.std.proofs.Common.{◌≡◌, ◌⊎◌, inl, inr, ℕ, zero, suc, ◌+◌, ◌-◌, ◌<◌, ◌≤◌, List, [], ◌∷◌, ◌++◌, length, map, take, get_or, ℤ, Bool, true, false, cond, ◌==◌, if◌then◌else◌, arith, refl, sym, ap, ◌∙◌}
use Rattle.std.specs.Prelude.{slice_get, Some}
use Rattle.std.specs.List.{filter}
use Rattle.std.proofs.lemmas.List.{length-map, map-append, get_or-map, get_or_past}
use Rattle.std.proofs.lemmas.Option.{slice_get_within, slice_get-get_or, get_or_from_slice_get}
use Rattle.std.proofs.lemmas.Bool.{eq-eqb, eqb-true, cases_lt}
use Rattle.tv_places.specs.Places.{places_from, places_of}
use Rattle.tv_places.proofs.PlaceLemmas.{place_told, places_counted}
use Rattle.tv_linear.specs.declared.region.Piece.{Piece}
use Rattle.tv_linear.proofs.ListLaws.{take_more}
use Rattle.tv_cases.specs.LinearCases.{LinearCase, CaseSystem}
use Rattle.tv_rank.specs.Ways.{case_at, no_case}
use Rattle.tv_lexrank.specs.Inside.{inside_key, inside_keys, behind}
use Rattle.tv_lexrank.specs.Sorting.{LeadsInside, AreSorted}
use Rattle.tv_lexrank.proofs.StandLemmas.{kept_holds}
use Rattle.tv_places.proofs.IndexLemmas.{false_test}

abbrev behind_from : ℕ → List ℕ → ℕ → ℕ
behind_from start xs zero = start
behind_from start xs (suc p) = get_or xs p 0 + 1

-- the number does not stand between a place of it and the next
record Gap (l start : ℕ) (keys xs : List ℕ) (p : ℕ) : Type 0 where
  from : start ≤ behind_from start xs p
  ordered : behind_from start xs p ≤ get_or xs p (start + length keys)
  none : (k : ℕ) → behind_from start xs p ≤ k → k < get_or xs p (start + length keys) → get_or keys (k - start) 0 ≡ l → ⊥

more_keys : (start x : ℕ) (ks : List ℕ) → start + length (x ∷ ks) ≡ start + 1 + length ks
more_keys start x ks = omega arith

later_key : (start k x l : ℕ) (ks : List ℕ) → start + 1 ≤ k → get_or (x ∷ ks) (k - start) 0 ≡ l → get_or ks (k - (start + 1)) 0 ≡ l
later_key start k x l ks h e = sym (ap (λ z. get_or (x ∷ ks) z 0) (let q : k - start ≡ suc (k - (start + 1)) = omega (arith, h) in q)) ∙ e

gap_first : (l start x : ℕ) (ks rest : List ℕ) (b : Bool) → (x == l) ≡ b → (p : ℕ) → p ≤ length (cond b (start ∷ rest) rest) → ((q : ℕ) → q ≤ length rest → Gap l (start + 1) ks rest q) → Gap l start (x ∷ ks) (cond b (start ∷ rest) rest) p
gap_first l start x ks rest true t zero h ih = record {
  from = omega arith;
  ordered = omega arith;
  none = λ k a b e. absurd (omega (arith, a, b));
}
gap_first l start x ks rest true t (suc q) h ih =
    let g = ih q (omega (arith, h)) in
    let e = low q in
    let u = ap (get_or rest q) (more_keys start x ks) in
    let f = g.from in
    let o = g.ordered in
    record {
      from = omega (arith, e, f);
      ordered = omega (arith, e, u, o);
      none = λ k a b s. g.none k (omega (arith, e, a)) (omega (arith, u, b)) (later_key start k x l ks (omega (arith, e, a, f)) s);
    }
  where
    low : (q : ℕ) → behind_from start (start ∷ rest) (suc q) ≡ behind_from (start + 1) rest q
    low zero = refl
    low (suc q) = refl
gap_first l start x ks rest false t p h ih =
    let g = ih p h in
    let u = ap (get_or rest p) (more_keys start x ks) in
    let f = low p g.from in
    let o = g.ordered in
    let w = below p in
    record {
      from = f;
      ordered = omega (arith, u, o, w);
      none = λ k a b s. elim (first_or_later start k (omega (arith, f, a))) [
        | inl e ↦ false_test x l t (sym (ap (λ z. get_or (x ∷ ks) z 0) (let z : k - start ≡ 0 = omega (arith, e) in z)) ∙ s)
        | inr e ↦ g.none k (next p k e a) (omega (arith, u, b)) (later_key start k x l ks (omega (arith, e)) s)
      ];
    }
  where
    low : (p : ℕ) → start + 1 ≤ behind_from (start + 1) rest p → start ≤ behind_from start rest p
    low zero g = omega arith
    low (suc q) g = omega (arith, g)

    below : (p : ℕ) → behind_from start rest p ≤ behind_from (start + 1) rest p
    below zero = omega arith
    below (suc q) = omega arith

    next : (p k : ℕ) → start < k → behind_from start rest p ≤ k → behind_from (start + 1) rest p ≤ k
    next zero k e a = omega (arith, e)
    next (suc q) k e a = a

    first_or_later : (start k : ℕ) → start ≤ k → (k ≡ start) ⊎ (start < k)
    first_or_later start k h = grind arith

gap_from : (l start : ℕ) (keys : List ℕ) (p : ℕ) → p ≤ length (places_from l start keys) → Gap l start keys (places_from l start keys) p
unfolding places_from
gap_from l start [] zero h = record {
  from = omega arith;
  ordered = omega arith;
  none = λ k a b e. absurd (omega (arith, a, b));
}
gap_from l start [] (suc p) h = absurd (omega (arith, h))
gap_from l start (x ∷ ks) p h = gap_first l start x ks (places_from l (start + 1) ks) (x == l) refl p h (λ q g. gap_from l (start + 1) ks q g)

-- ---- the cases inside a component
module _ (about : CaseSystem) (numbers : List ℕ) (component count : ℕ) where
  abbrev keys : List ℕ
  keys = inside_keys about numbers count

  abbrev places : List ℕ
  places = places_of component keys

  key_at : (k : ℕ) → k < length about.cases → get_or keys k 0 ≡ inside_key numbers count (case_at about.cases k)
  key_at k l = get_or-map (inside_key numbers count) about.cases k no_case 0 l

  inside_has_key : (c : LinearCase) → LeadsInside numbers component c → inside_key numbers count c ≡ component
  inside_has_key c h = by_test (get_or numbers c.from 0 == get_or numbers c.to 0) (eq-eqb (get_or numbers c.from 0) (get_or numbers c.to 0) (h.0 ∙ sym h.1))
    where
      by_test : (b : Bool) → b ≡ true → (if b then get_or numbers c.from 0 else count) ≡ component
      by_test true e = h.0
      by_test false e = absurd cc

  key_is_inside : (c : LinearCase) → component < count → inside_key numbers count c ≡ component → LeadsInside numbers component c
  key_is_inside c below h = by_test (get_or numbers c.from 0 == get_or numbers c.to 0) refl h
    where
      by_test : (b : Bool) → (get_or numbers c.from 0 == get_or numbers c.to 0) ≡ b → (if b then get_or numbers c.from 0 else count) ≡ component → LeadsInside numbers component c
      by_test true t e = (e, sym (eqb-true (get_or numbers c.from 0) (get_or numbers c.to 0) t) ∙ e)
      by_test false t e = absurd (omega (arith, e, below))

  -- the case at a place
  pub record IsInside (p number : ℕ) : Type 0 where
    pub within : number < length about.cases
    pub inside : LeadsInside numbers component (case_at about.cases number)
    pub place : get_or places p 0 ≡ number
    pub counted : p < length places

  pub inside_at : (p number : ℕ) → component < count → slice_get places p ≡ Some number → IsInside p number
  inside_at p number below h =
      let counted = slice_get_within places p number h in
      let stands = slice_get_kept p number h in
      record {
        within = stands.0;
        inside = key_is_inside (case_at about.cases number) below stands.1;
        place = get_or_from_slice_get places p number 0 h;
        counted = counted;
      }
    where
      slice_get_kept : (p number : ℕ) → slice_get places p ≡ Some number → (number < length about.cases) × (inside_key numbers count (case_at about.cases number) ≡ component)
      slice_get_kept p number h =
          let told = place_told (inside_key numbers count) about.cases component p number h in
          let a = slice_get_within places p number h in
          let b = places_counted (inside_key numbers count) about.cases component in
          let kept = filter (λ c. inside_key numbers count c == component) about.cases in
          let there = slice_get-get_or kept p no_case (omega (arith, a, b)) in
          let stands = told ∙ there in
          let is = get_or_from_slice_get about.cases number (get_or kept p no_case) no_case stands in
          let found = there ∙ ap Some (sym is) in (
            slice_get_within about.cases number (get_or kept p no_case) stands,
            eqb-true (inside_key numbers count (case_at about.cases number)) component (kept_holds (λ c. inside_key numbers count c == component) about.cases p (case_at about.cases number) found),
          )

  behind_same : (p : ℕ) → behind_from 0 places p ≡ behind places p
  behind_same zero = refl
  behind_same (suc p) = refl

  -- sorted up to the next place, where no case inside is passed over
  pub sorted_until : (known : List Piece) (p many : ℕ) (set empty : List ℕ) (refutations : List (List ℤ)) → p ≤ length places → many ≤ length about.cases → many ≡ get_or places p (length about.cases) → AreSorted about known numbers component (behind places p) set empty refutations → AreSorted about known numbers component many set empty refutations
  sorted_until known p many set empty refutations h bounded e s =
      let g = gap_from component 0 keys p h in
      let low = behind_same p in
      let upper = ap (get_or places p) (let n = length-map about.cases (inside_key numbers count) in let q : 0 + length keys ≡ length about.cases = omega (arith, n) in q) in
      let o = g.ordered in
      let ordered : behind places p ≤ many = omega (arith, low, upper, e, o) in
      record {
        numbered = λ j l. let a = s.numbered j l in omega (arith, a, ordered);
        ascends = s.ascends;
        inside = s.inside;
        points = s.points;
        counted = s.counted;
        refuted = s.refuted;
        narrow = s.narrow;
        each = λ k l inside. elim (cases_lt k (behind places p)) [
          | inl b ↦ s.each k b inside
          | inr a ↦ absurd (g.none k (omega (arith, low, a)) (omega (arith, upper, e, l)) (ap (λ z. get_or keys z 0) (let q : k - 0 ≡ k = omega arith in q) ∙ key_at k (omega (arith, l, bounded)) ∙ inside_has_key (case_at about.cases k) inside))
        ];
      }

  pub sorted_all : (known : List Piece) (p : ℕ) (set empty : List ℕ) (refutations : List (List ℤ)) → p ≡ length places → AreSorted about known numbers component (behind places p) set empty refutations → AreSorted about known numbers component (length about.cases) set empty refutations
  sorted_all known p set empty refutations e s = sorted_until known p (length about.cases) set empty refutations (omega (arith, e)) (omega arith) (sym (get_or_past places p (length about.cases) (omega (arith, e)))) s

  pub sorted_next : (known : List Piece) (p number : ℕ) (set empty : List ℕ) (refutations : List (List ℤ)) → slice_get places p ≡ Some number → IsInside p number → AreSorted about known numbers component (behind places p) set empty refutations → AreSorted about known numbers component number set empty refutations
  sorted_next known p number set empty refutations h at s = (let a = at.counted in let b = at.within in sorted_until known p number set empty refutations (omega (arith, a)) (omega (arith, b)) (sym (get_or_from_slice_get places p number (length about.cases) h)) s)

  pub behind_next : (p number : ℕ) → IsInside p number → number + 1 ≡ behind places (p + 1)
  behind_next p number at = ap (λ z. z + 1) (sym at.place) ∙ ap (behind places) (let e : suc p ≡ p + 1 = omega arith in e)

-- one more key
pub keys_more : (f : LinearCase → ℕ) (cases : List LinearCase) (n x : ℕ) (old news : List ℕ) → n < length cases → x ≡ f (case_at cases n) → old ≡ map f (take n cases) → news ≡ old ++ x ∷ [] → news ≡ map f (take (n + 1) cases)
keys_more f cases n x old news l e h m =
    m ∙ (λ i. h i ++ e i ∷ []) ∙ sym (ap (map f) (take_more cases n (case_at cases n) (slice_get-get_or cases n no_case l)) ∙ map-append f (take n cases) (case_at cases n ∷ []))
