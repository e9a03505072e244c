-- What rounds show that take cases out of a set, up to those that are left.
use Rattle.std.proofs.Common.{◌≡◌, ℕ, zero, suc, ◌+◌, ◌<◌, ◌≤◌, List, [], ◌∷◌, ◌++◌, length, map, get_or, All, Bool, true, false, ◌==◌, if◌then◌else◌, arith, refl, sym, ap, ◌∙◌, subst, ℤ, pos}
use Rattle.std.proofs.lemmas.List.{append_assoc, append-nil, length-map}
use Rattle.std.proofs.lemmas.List.Elements.{All-nil, All-cons, All-head, All-tail}
use Rattle.std.proofs.lemmas.Bool.{eq-eqb, eqb-true, ne_eqb}
use Rattle.tv_linear.specs.Linear.{columns, IsWithin}
use Rattle.tv_linear.specs.Known.{Known, as_given}
use Rattle.tv_linear.specs.Falls.{fall_rows_at}
use Rattle.tv_linear.specs.Covers.{Shown, ShownAt}
use Rattle.tv_linear.specs.declared.region.Piece.{Piece}
use Rattle.tv_cases.specs.LinearCases.{CaseSystem}
use Rattle.tv_rank.specs.Given.{lists}
use Rattle.tv_rank.specs.Ways.{Way, way_of}
use Rattle.tv_rank.specs.Rankings.{local_term, change_row, bound_row, IsShownBy, fall_of}
use Rattle.tv_rank.proofs.Over.{if_true, if_false}
use Rattle.tv_lexrank.specs.declared.round.Round.{Round}
use Rattle.tv_lexrank.specs.Covering.{IsLined}
use Rattle.tv_lexrank.specs.Known.{way_rows}
use Rattle.tv_lexrank.specs.Closing.{changed}
use Rattle.tv_lexrank.specs.Greedy.{without, Lead, none, more, IsRound}
use Rattle.tv_lexrank.specs.Rounds.{place_in, line_at, falling_of, lines_of, falls_in, terms_at}
use Rattle.tv_lexrank.specs.Sorting.{StandsIn}
use Rattle.tv_lexrank.proofs.Chained.{still_there, found_at, shown_more}
use Rattle.tv_lexrank.proofs.Removing.{length-without}
use Rattle.tv_lexrank.proofs.ShowLemmas.{local_wide}
use Rattle.tv_finitely.specs.Kept.{kept_rows}

false_test : (x k : ℕ) → (x == k) ≡ false → x ≡ k → ⊥
false_test x k t q = (let e = eq-eqb x k q in cc)

-- each round takes a case out of what is left, until these are left
pub data Taken (about : CaseSystem) (known : List Piece) (left : List ℕ) : List ℕ → List Round → Type 0 where
  stop : Taken about known left left []
  next : (set : List ℕ) (round : Round) (rounds : List Round) → IsRound about known set round → Taken about known left (without set round.place) rounds → Taken about known left set (round ∷ rounds)

lead_then : (about : CaseSystem) (known : List Piece) (set : List ℕ) (rounds : List Round) (mid : List ℕ) (rs : List Round) (left : List ℕ) → Lead about known set rounds mid → Taken about known left mid rs → Taken about known left set (rounds ++ rs)
lead_then about known set rounds mid rs left (none s) h = h
lead_then about known set rounds mid rs left (more s l front r lead round) h = subst (λ z. Taken about known left s z) (sym (append_assoc front (r ∷ []) rs)) (lead_then about known s front l (r ∷ rs) left lead (next l r rs round h))

pub taken_by : (about : CaseSystem) (known : List Piece) (set : List ℕ) (rounds : List Round) (left : List ℕ) → Lead about known set rounds left → Taken about known left set rounds
taken_by about known set rounds left h = subst (λ z. Taken about known left set z) (append-nil rounds) (lead_then about known set rounds left [] left h stop)

-- ---- of the rounds alone
module _ (about : CaseSystem) (known : List Piece) (left : List ℕ) where
  abbrev Narrow : ℤ → Type 0
  Narrow z = IsWithin 62 z

  lined : (set : List ℕ) (r : Round) → IsRound about known set r → IsLined r
  lined set r h = record {
    within = (let a = ap length h.set_is in let b = h.within in omega (arith, a, b));
    counted = (let a = ap length h.set_is in let b = h.family.counted in let c = length-map r.multipliers.items (λ m. m.items) in omega (arith, a, b, c));
  }

  pub taken_lined : (set : List ℕ) (rounds : List Round) → Taken about known left set rounds → All IsLined rounds
  taken_lined set rounds stop = All-nil IsLined
  taken_lined set rounds (next s r rs h rest) = All-cons IsLined r rs (lined s r h) (taken_lined (without s r.place) rs rest)

  pub taken_length : (set : List ℕ) (rounds : List Round) → Taken about known left set rounds → length rounds ≤ length set
  taken_length set rounds stop = omega arith
  taken_length set rounds (next s r rs round rest) =
      let h = taken_length (without s r.place) rs rest in
      let e = length-without s r.place round.within in
      let q : suc (length rs) ≤ length s = omega (arith, h, e) in
      q

  pub taken_wide : (set : List ℕ) (rounds : List Round) → Taken about known left set rounds → (l : ℕ) → All (λ q. columns q ≡ about.variables) (terms_at about.variables rounds l)
  taken_wide set rounds stop l = All-nil (λ q. columns q ≡ about.variables)
  taken_wide set rounds (next s r rs round rest) l = All-cons (λ q. columns q ≡ about.variables) (local_term about.variables r.terms.items l) (terms_at about.variables rs l) (local_wide about.variables r.terms.items l round.family.wide) (taken_wide (without s r.place) rs rest l)

  line_narrow : (ls : List (List ℤ)) (i : ℕ) → All (All Narrow) ls → All Narrow (get_or ls i [])
  line_narrow [] i h = All-nil Narrow
  line_narrow (l ∷ ls) zero h = All-head (All Narrow) l ls h
  line_narrow (l ∷ ls) (suc i) h = line_narrow ls i (All-tail (All Narrow) l ls h)

  pub taken_narrow : (set : List ℕ) (rounds : List Round) → Taken about known left set rounds → (k : ℕ) → All (All Narrow) (lines_of k rounds)
  taken_narrow set rounds stop k = All-nil (All Narrow)
  taken_narrow set rounds (next s r rs round rest) k = by_test (falling_of r == k) (taken_narrow (without s r.place) rs rest k)
    where
      one : (i : ℕ) → All Narrow (line_at r i)
      one i = line_narrow (lists r.multipliers.items) i round.family.narrow

      by_test : (b : Bool) → All (All Narrow) (lines_of k rs) → All (All Narrow) (if b then line_at r r.place ∷ line_at r (length r.set.items) ∷ [] else line_at r (place_in r.set.items k) ∷ lines_of k rs)
      by_test true h = All-cons (All Narrow) (line_at r r.place) (line_at r (length r.set.items) ∷ []) (one r.place) (All-cons (All Narrow) (line_at r (length r.set.items)) [] (one (length r.set.items)) (All-nil (All Narrow)))
      by_test false h = All-cons (All Narrow) (line_at r (place_in r.set.items k)) (lines_of k rs) (one (place_in r.set.items k)) h

  -- ---- of a case
  module _ (k : ℕ) where
    abbrev v : ℕ
    v = about.variables

    abbrev w : Way
    w = way_of about.cases known k

    -- the terms of rounds before the case, and after it
    abbrev pub terms_before : List Round → List Known
    terms_before rs = as_given (terms_at v rs w.taken.from)

    abbrev pub terms_later : List Round → List Known
    terms_later rs = map (changed v w) (terms_at v rs w.taken.to)

    -- one round
    module _ (s : List ℕ) (r : Round) (round : IsRound about known s r) where
      falling_is : falling_of r ≡ get_or s r.place 0
      falling_is = ap (λ z. get_or z r.place 0) round.set_is

      at_place : (q : ℕ) (z : ℤ) → q < length s → get_or s q 0 ≡ k → fall_of r.place q ≡ z → IsShownBy v w (change_row v r.terms.items w z) (line_at r q)
      at_place q z l f g = subst (λ y. IsShownBy v (way_of about.cases known k) (change_row v r.terms.items (way_of about.cases known k) y) (line_at r q)) g (subst (λ y. IsShownBy v (way_of about.cases known y) (change_row v r.terms.items (way_of about.cases known y) (fall_of r.place q)) (line_at r q)) f (round.family.steps q l))

      round_falls : falling_of r ≡ k → Shown (v + w.taken.draws) (way_rows w) (change_row v r.terms.items w (pos 1) ∷ bound_row v r.terms.items w ∷ []) (line_at r r.place ∷ line_at r (length r.set.items) ∷ [])
      round_falls t =
          let f = sym falling_is ∙ t in (
            at_place r.place (pos 1) round.within f (if_true (r.place == r.place) (pos 1) (pos 0) (eq-eqb r.place r.place refl)),
            (subst (λ y. IsShownBy v (way_of about.cases known k) (bound_row v r.terms.items (way_of about.cases known k)) (line_at r (length y))) (sym round.set_is) (subst (λ y. IsShownBy v (way_of about.cases known y) (bound_row v r.terms.items (way_of about.cases known y)) (line_at r (length s))) f round.family.bound), tt),
          )

      round_keeps : (j : ℕ) → j < length s → get_or s j 0 ≡ k → (falling_of r ≡ k → ⊥) → Shown (v + w.taken.draws) (way_rows w) (change_row v r.terms.items w (pos 0) ∷ []) (line_at r (place_in r.set.items k) ∷ [])
      round_keeps j h e n =
          let p = found_at s k j h e in
          let o : r.place ≡ place_in s k → ⊥ = λ q. n (falling_is ∙ ap (λ z. get_or s z 0) q ∙ p.1) in
          let z = if_false (place_in s k == r.place) (pos 1) (pos 0) (ne_eqb (place_in s k) r.place (λ q. o (sym q))) in
          (subst (λ y. IsShownBy v w (change_row v r.terms.items w (pos 0)) (line_at r (place_in y k))) (sym round.set_is) (at_place (place_in s k) (pos 0) p.0 p.1 z), tt)

      stays : (j : ℕ) → j < length s → get_or s j 0 ≡ k → (falling_of r ≡ k → ⊥) → (i : ℕ) × (i < length (without s r.place)) × (get_or (without s r.place) i 0 ≡ k)
      stays j h e n = let i = still_there s r.place j h (λ q. n (falling_is ∙ q ∙ e)) in (i.0, i.1, i.2 ∙ e)

    -- a case that some round takes out falls there
    pub taken_falls : (set : List ℕ) (rounds : List Round) → Taken about known left set rounds → (j : ℕ) → j < length set → get_or set j 0 ≡ k → falls_in k rounds < length rounds → ShownAt (v + w.taken.draws) (way_rows w) (fall_rows_at (terms_before rounds) (terms_later rounds) (falls_in k rounds)) (lines_of k rounds)
    taken_falls set rounds stop j h e l = absurd (omega (arith, l))
    taken_falls set rounds (next s r rs round rest) j h e l = by_test (falling_of r == k) refl l (λ n m. let i = stays s r round j h e n in taken_falls (without s r.place) rs rest i.0 i.1 i.2 m)
      where
        by_test : (b : Bool) → (falling_of r == k) ≡ b → (if b then 0 else suc (falls_in k rs)) < suc (length rs) → ((falling_of r ≡ k → ⊥) → falls_in k rs < length rs → ShownAt (v + w.taken.draws) (way_rows w) (fall_rows_at (terms_before rs) (terms_later rs) (falls_in k rs)) (lines_of k rs)) → ShownAt (v + w.taken.draws) (way_rows w) (fall_rows_at (terms_before (r ∷ rs)) (terms_later (r ∷ rs)) (if b then 0 else suc (falls_in k rs))) (if b then line_at r r.place ∷ line_at r (length r.set.items) ∷ [] else line_at r (place_in r.set.items k) ∷ lines_of k rs)
        by_test true t m later = round_falls s r round (eqb-true (falling_of r) k t)
        by_test false t m later =
            let n = false_test (falling_of r) k t in
            shown_more (v + w.taken.draws) (way_rows w) (change_row v r.terms.items w (pos 0)) (fall_rows_at (terms_before rs) (terms_later rs) (falls_in k rs)) (line_at r (place_in r.set.items k)) (lines_of k rs) (round_keeps s r round j h e n) (later n (omega (arith, m)))

    -- a case that no round takes out is left, and no term of the rounds grows over it
    pub taken_keeps : (set : List ℕ) (rounds : List Round) → Taken about known left set rounds → (j : ℕ) → j < length set → get_or set j 0 ≡ k → length rounds ≤ falls_in k rounds → ShownAt (v + w.taken.draws) (way_rows w) (kept_rows (terms_before rounds) (terms_later rounds)) (lines_of k rounds) × StandsIn left k
    taken_keeps set rounds stop j h e l = (tt, (j, h, e))
    taken_keeps set rounds (next s r rs round rest) j h e l = by_test (falling_of r == k) refl l (λ n m. let i = stays s r round j h e n in taken_keeps (without s r.place) rs rest i.0 i.1 i.2 m)
      where
        by_test : (b : Bool) → (falling_of r == k) ≡ b → suc (length rs) ≤ (if b then 0 else suc (falls_in k rs)) → ((falling_of r ≡ k → ⊥) → length rs ≤ falls_in k rs → ShownAt (v + w.taken.draws) (way_rows w) (kept_rows (terms_before rs) (terms_later rs)) (lines_of k rs) × StandsIn left k) → ShownAt (v + w.taken.draws) (way_rows w) (kept_rows (terms_before (r ∷ rs)) (terms_later (r ∷ rs))) (if b then line_at r r.place ∷ line_at r (length r.set.items) ∷ [] else line_at r (place_in r.set.items k) ∷ lines_of k rs) × StandsIn left k
        by_test true t m later = absurd (omega (arith, m))
        by_test false t m later =
            let n = false_test (falling_of r) k t in
            let g = later n (omega (arith, m)) in (
              shown_more (v + w.taken.draws) (way_rows w) (change_row v r.terms.items w (pos 0)) (kept_rows (terms_before rs) (terms_later rs)) (line_at r (place_in r.set.items k)) (lines_of k rs) (round_keeps s r round j h e n) g.0,
              g.1,
            )
