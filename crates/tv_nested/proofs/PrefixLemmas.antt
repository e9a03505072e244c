-- Over the cases that rounds leave no term of the rounds grows.
use Rattle.std.proofs.Common.{◌≡◌, ℕ, zero, suc, ◌+◌, ◌<◌, ◌≤◌, List, [], ◌∷◌, ◌++◌, length, map, get_or, All, Bool, true, false, ◌==◌, if◌then◌else◌, inl, inr, arith, refl, sym, ap, ◌∙◌, subst, ℤ, pos}
use Rattle.std.proofs.lemmas.Bool.{ne_eqb, cases_lt}
use Rattle.std.proofs.lemmas.List.Elements.{All-nil, All-cons, All-head, All-tail, All-push, All-get_or}
use Rattle.tv_linear.specs.Linear.{Linear, IsWithin}
use Rattle.tv_linear.specs.Known.{Known, denied, as_given}
use Rattle.tv_linear.specs.Falls.{fall_rows_at}
use Rattle.tv_linear.specs.Refutation.{Refutes}
use Rattle.tv_linear.specs.Covers.{ShownAt}
use Rattle.tv_linear.specs.declared.region.Piece.{Piece}
use Rattle.tv_cases.specs.LinearCases.{CaseSystem}
use Rattle.tv_rank.specs.Given.{lists}
use Rattle.tv_rank.specs.Rankings.{change_row, IsShownBy, fall_of}
use Rattle.tv_rank.specs.Ways.{Way, way_of}
use Rattle.tv_rank.proofs.Over.{if_false}
use Rattle.tv_lexrank.specs.Closing.{changed}
use Rattle.tv_lexrank.specs.Falling.{AreNarrowLines}
use Rattle.tv_lexrank.specs.Greedy.{without, Lead, none, more, IsRound}
use Rattle.tv_lexrank.specs.Rounds.{place_in, line_at, falling_of, lines_of, falls_in, terms_at}
use Rattle.tv_lexrank.specs.Sorting.{Ascends}
use Rattle.tv_lexrank.specs.declared.round.Round.{Round}
use Rattle.tv_lexrank.proofs.Chained.{found_at, shown_more}
use Rattle.tv_lexrank.proofs.Removing.{ascends_left}
use Rattle.tv_nested.specs.Lines.{under_line}

-- what is left stood in the list before, and not at the place that is taken out
stood_else : (xs : List ℕ) (p k : ℕ) → k < length (without xs p) → (j : ℕ) × (j < length xs) × (get_or (without xs p) k 0 ≡ get_or xs j 0) × (j ≡ p → ⊥)
stood_else [] p k h = absurd (omega (arith, h))
stood_else (x ∷ xs) zero k h = (suc k, (let e : suc k < suc (length xs) = omega (arith, h) in e), refl, λ e. omega (arith, e))
stood_else (x ∷ xs) (suc p) zero h = (0, (let e : 0 < suc (length xs) = omega arith in e), refl, λ e. omega (arith, e))
stood_else (x ∷ xs) (suc p) (suc k) h =
    let s = stood_else xs p k (omega (arith, h)) in
    let n = s.3 in
    (suc s.0, (let l = s.1 in let e : suc s.0 < suc (length xs) = omega (arith, l) in e), s.2, λ e. n (omega (arith, e)))

-- in an ascending list the items at two places differ
differ : (xs : List ℕ) (i j : ℕ) → Ascends xs → i < length xs → j < length xs → (i ≡ j → ⊥) → get_or xs i 0 ≡ get_or xs j 0 → ⊥
differ xs i j a i_in j_in n e = elim (cases_lt i j) [
  | inl l ↦ (let q = a i j l j_in in omega (arith, q, e))
  | inr l ↦ (let other : j < i = below i j l n in let q = a j i other i_in in omega (arith, q, e))
]
  where
    below : (i j : ℕ) → j ≤ i → (i ≡ j → ⊥) → j < i
    below i j l n = elim (cases_lt j i) [
      | inl b ↦ b
      | inr b ↦ absurd (n (omega (arith, l, b)))
    ]

module _ (about : CaseSystem) (known : List Piece) (k : ℕ) where
  abbrev v : ℕ
  v = about.variables

  abbrev w : Way
  w = way_of about.cases known k

  -- the round takes out another case, and its term does not grow over this one
  pub record IsKept (r : Round) : Type 0 where
    pub other : (falling_of r == k) ≡ false
    pub shown : IsShownBy v w (change_row v r.terms.items w (pos 0)) (line_at r (place_in r.set.items k))
    pub narrow : All (IsWithin 62) (line_at r (place_in r.set.items k))

  kept_round : (set : List ℕ) (r : Round) (j : ℕ) → IsRound about known set r → r.place < length set → j < length set → get_or set j 0 ≡ k → (get_or set j 0 ≡ get_or set r.place 0 → ⊥) → IsKept r
  kept_round set r j round p_in j_in e n =
      let falling = ap (λ z. get_or z r.place 0) round.set_is in
      let found = found_at set k j j_in e in
      let o : place_in set k ≡ r.place → ⊥ = λ q. n (e ∙ sym found.1 ∙ ap (λ z. get_or set z 0) q) in
      record {
        other = ne_eqb (falling_of r) k (λ q. n (e ∙ sym (sym falling ∙ q)));
        shown = subst (λ y. IsShownBy v w (change_row v r.terms.items w (pos 0)) (line_at r (place_in y k))) (sym round.set_is)
            (subst (λ y. IsShownBy v w (change_row v r.terms.items w y) (line_at r (place_in set k))) (if_false (place_in set k == r.place) (pos 1) (pos 0) (ne_eqb (place_in set k) r.place o))
            (subst (λ y. IsShownBy v (way_of about.cases known y) (change_row v r.terms.items (way_of about.cases known y) (fall_of r.place (place_in set k))) (line_at r (place_in set k))) found.1 (round.family.steps (place_in set k) found.0)));
        narrow = subst (λ y. All (IsWithin 62) (line_at r (place_in y k))) (sym round.set_is)
            (All-get_or (All (IsWithin 62)) (lists r.multipliers.items) (place_in set k) [] (let c = round.family.counted in let l = found.0 in omega (arith, c, l)) round.family.narrow);
      }

  pub all_kept : (set : List ℕ) (rounds : List Round) (left : List ℕ) → Lead about known set rounds left → Ascends set → (j : ℕ) → j < length left → get_or left j 0 ≡ k → All IsKept rounds
  all_kept set rounds left (none s) a j j_in e = All-nil IsKept
  all_kept set rounds left (more s l rs r lead round) a j j_in e =
      let stood = stood_else l r.place j j_in in
      let before = ascends_left about known s rs l lead a in
      let there = sym stood.2 ∙ e in
      let n = differ l stood.0 r.place before stood.1 round.within stood.3 in
      All-push IsKept rs r (all_kept s rs l lead a stood.0 stood.1 there) (kept_round l r stood.0 round round.within stood.1 there n)

  pub falls_all : (rounds : List Round) → All IsKept rounds → falls_in k rounds ≡ length rounds
  falls_all [] h = refl
  falls_all (r ∷ rounds) h = by_test (falling_of r == k) (All-head IsKept r rounds h).other (falls_all rounds (All-tail IsKept r rounds h))
    where
      by_test : (b : Bool) → b ≡ false → falls_in k rounds ≡ length rounds → (if b then 0 else suc (falls_in k rounds)) ≡ suc (length rounds)
      by_test true e rest = absurd cc
      by_test false e rest = ap suc rest

  -- ---- the lines of the rounds, where more rows are known
  module _ (n : ℕ) (ks : List Known) (more : ℕ) (spread : (row : Known) (line : List ℤ) → IsShownBy v w row line → Refutes n (ks ++ denied row ∷ []) (under_line more 0 line)) where
    pub prefix_shown : (rounds : List Round) → All IsKept rounds → (fs gs : List Linear) (q j : ℕ) (rest : List (List ℤ)) → j ≡ falls_in k rounds + q → ShownAt n ks (fall_rows_at (as_given fs) (map (changed v w) gs) q) rest → ShownAt n ks (fall_rows_at (as_given (terms_at v rounds w.taken.from ++ fs)) (map (changed v w) (terms_at v rounds w.taken.to ++ gs)) j) (map (under_line more 0) (lines_of k rounds) ++ rest)
    prefix_shown [] h fs gs q j rest e shown = subst (λ z. ShownAt n ks (fall_rows_at (as_given fs) (map (changed v w) gs) z) rest) (let p : q ≡ j = omega (arith, e) in p) shown
    prefix_shown (r ∷ rounds) h fs gs q j rest e shown = by_test (falling_of r == k) (All-head IsKept r rounds h).other j e (λ i f. prefix_shown rounds (All-tail IsKept r rounds h) fs gs q i rest f shown)
      where
        by_test : (b : Bool) → b ≡ false → (j : ℕ) → j ≡ (if b then 0 else suc (falls_in k rounds)) + q → ((i : ℕ) → i ≡ falls_in k rounds + q → ShownAt n ks (fall_rows_at (as_given (terms_at v rounds w.taken.from ++ fs)) (map (changed v w) (terms_at v rounds w.taken.to ++ gs)) i) (map (under_line more 0) (lines_of k rounds) ++ rest)) → ShownAt n ks (fall_rows_at (as_given (terms_at v (r ∷ rounds) w.taken.from ++ fs)) (map (changed v w) (terms_at v (r ∷ rounds) w.taken.to ++ gs)) j) (map (under_line more 0) (if b then line_at r r.place ∷ line_at r (length r.set.items) ∷ [] else line_at r (place_in r.set.items k) ∷ lines_of k rounds) ++ rest)
        by_test true f j e later = absurd cc
        by_test false f zero e later = absurd (omega (arith, e))
        by_test false f (suc j) e later =
            shown_more n ks (change_row v r.terms.items w (pos 0)) (fall_rows_at (as_given (terms_at v rounds w.taken.from ++ fs)) (map (changed v w) (terms_at v rounds w.taken.to ++ gs)) j) (under_line more 0 (line_at r (place_in r.set.items k))) (map (under_line more 0) (lines_of k rounds) ++ rest)
            (spread (change_row v r.terms.items w (pos 0)) (line_at r (place_in r.set.items k)) (All-head IsKept r rounds h).shown, tt)
            (later j (omega (arith, e)))

  -- ---- the lines are narrow
  pub kept_narrow : (rounds : List Round) → All IsKept rounds → AreNarrowLines (lines_of k rounds)
  kept_narrow [] h = All-nil (All (IsWithin 62))
  kept_narrow (r ∷ rounds) h = by_test (falling_of r == k) (All-head IsKept r rounds h).other (kept_narrow rounds (All-tail IsKept r rounds h))
    where
      by_test : (b : Bool) → b ≡ false → AreNarrowLines (lines_of k rounds) → AreNarrowLines (if b then line_at r r.place ∷ line_at r (length r.set.items) ∷ [] else line_at r (place_in r.set.items k) ∷ lines_of k rounds)
      by_test true e rest = absurd cc
      by_test false e rest = All-cons (All (IsWithin 62)) (line_at r (place_in r.set.items k)) (lines_of k rounds) (All-head IsKept r rounds h).narrow rest
