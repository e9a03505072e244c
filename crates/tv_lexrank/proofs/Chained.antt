use Rattle.std.proofs.Common.{◌≡◌, ℕ, zero, suc, ◌+◌, ◌<◌, List, [], ◌∷◌, ◌++◌, length, map, get_or, Option, None, Some, Bool, true, false, ◌==◌, if◌then◌else◌, arith, refl, sym, ap, ◌∙◌, subst, ℤ, pos}
use Rattle.std.proofs.lemmas.List.{append_assoc, append-nil}
use Rattle.std.specs.Option.{option_map}
use Rattle.std.proofs.lemmas.Bool.{eq-eqb, eqb-true, ne_eqb}
use Rattle.tv_linear.specs.Known.{Known, as_given}
use Rattle.tv_linear.specs.Falls.{fall_rows_at}
use Rattle.tv_linear.specs.Covers.{Shown, ShownAt}
use Rattle.tv_linear.specs.declared.region.Piece.{Piece}
use Rattle.tv_cases.specs.LinearCases.{CaseSystem}
use Rattle.tv_rank.specs.Ways.{Way, way_of}
use Rattle.tv_rank.specs.Rankings.{change_row, bound_row, IsShownBy, fall_of}
use Rattle.tv_rank.proofs.Over.{if_true, if_false}
use Rattle.tv_lexrank.specs.declared.round.Round.{Round}
use Rattle.tv_lexrank.specs.Known.{way_rows}
use Rattle.tv_lexrank.specs.Closing.{changed}
use Rattle.tv_lexrank.specs.Greedy.{without, Lead, none, more}
use Rattle.tv_lexrank.specs.Rounds.{place_in, line_at, falling_of, lines_of, falls_in, terms_at, Chain, end, next}
use Rattle.tv_places.proofs.IndexLemmas.{false_test}

pub lead_then : (about : CaseSystem) (known : List Piece) (set : List ℕ) (rounds : List Round) (left : List ℕ) (rs : List Round) → Lead about known set rounds left → Chain about known left rs → Chain about known set (rounds ++ rs)
lead_then about known set rounds left rs (none s) h = h
lead_then about known set rounds left rs (more s l front r lead round) h = subst (λ z. Chain about known s z) (sym (append_assoc front (r ∷ []) rs)) (lead_then about known s front l (r ∷ rs) lead (next l r rs round h))

pub emptied_chain : (about : CaseSystem) (known : List Piece) (set : List ℕ) (rounds : List Round) → Lead about known set rounds [] → Chain about known set rounds
emptied_chain about known set rounds h = subst (λ z. Chain about known set z) (append-nil rounds) (lead_then about known set rounds [] [] h end)

-- what is not taken out is still there
pub still_there : (xs : List ℕ) (p j : ℕ) → j < length xs → (get_or xs p 0 ≡ get_or xs j 0 → ⊥) → (i : ℕ) × (i < length (without xs p)) × (get_or (without xs p) i 0 ≡ get_or xs j 0)
still_there [] p j h n = absurd (omega (arith, h))
still_there (x ∷ xs) zero zero h n = absurd (n refl)
still_there (x ∷ xs) zero (suc j) h n = (j, omega (arith, h), refl)
still_there (x ∷ xs) (suc p) zero h n = (0, (let e : 0 < suc (length (without xs p)) = omega arith in e), refl)
still_there (x ∷ xs) (suc p) (suc j) h n = (let s = still_there xs p j (omega (arith, h)) n in (suc s.0, (let l = s.1 in let e : suc s.0 < suc (length (without xs p)) = omega (arith, l) in e), s.2))

-- the first place of a number that stands in the list
pub found_at : (xs : List ℕ) (k j : ℕ) → j < length xs → get_or xs j 0 ≡ k → (place_in xs k < length xs) × (get_or xs (place_in xs k) 0 ≡ k)
found_at [] k j h e = absurd (omega (arith, h))
found_at (x ∷ xs) k j h e = by_test (x == k) refl (λ n. let i = later j h e n in found_at xs k i.0 i.1 i.2)
  where
    later : (j : ℕ) → j < suc (length xs) → get_or (x ∷ xs) j 0 ≡ k → (x ≡ k → ⊥) → (i : ℕ) × (i < length xs) × (get_or xs i 0 ≡ k)
    later zero h e n = absurd (n e)
    later (suc i) h e n = (i, omega (arith, h), e)

    by_test : (b : Bool) → (x == k) ≡ b → ((x ≡ k → ⊥) → (place_in xs k < length xs) × (get_or xs (place_in xs k) 0 ≡ k)) → ((if b then 0 else suc (place_in xs k)) < suc (length xs)) × (get_or (x ∷ xs) (if b then 0 else suc (place_in xs k)) 0 ≡ k)
    by_test true t rest = (omega arith, eqb-true x k t)
    by_test false t rest =
        let r = rest (false_test x k t) in
        let l = r.0 in
        ((let q : suc (place_in xs k) < suc (length xs) = omega (arith, l) in q), r.1)

pub shown_more : (n : ℕ) (known : List Known) (r : Known) (o : Option (List Known)) (m : List ℤ) (ls : List (List ℤ)) → Shown n known (r ∷ []) (m ∷ []) → ShownAt n known o ls → ShownAt n known (option_map (λ rows. r ∷ rows) o) (m ∷ ls)
shown_more n known r None m ls h g = absurd g
shown_more n known r (Some rows) m ls h g = (h.0, g)

-- the rows of the fall of each case of the set are shown by the multipliers of its rounds
pub chain_shown : (about : CaseSystem) (known : List Piece) (set : List ℕ) (rounds : List Round) → Chain about known set rounds → (k j : ℕ) → j < length set → get_or set j 0 ≡ k → ShownAt (about.variables + (way_of about.cases known k).taken.draws) (way_rows (way_of about.cases known k)) (fall_rows_at (as_given (terms_at about.variables rounds (way_of about.cases known k).taken.from)) (map (changed about.variables (way_of about.cases known k)) (terms_at about.variables rounds (way_of about.cases known k).taken.to)) (falls_in k rounds)) (lines_of k rounds)
chain_shown about known set rounds end k j h e = absurd (omega (arith, h))
chain_shown about known set rounds (next s r rs round chain) k j h e = by_test (falling_of r == k) refl (λ n. let i = still_there s r.place j h n in chain_shown about known (without s r.place) rs chain k i.0 i.1 (i.2 ∙ e))
  where
    w : Way
    w = way_of about.cases known k

    -- what a round shows of the case at a place
    at_place : (q : ℕ) (z : ℤ) → q < length s → get_or s q 0 ≡ k → fall_of r.place q ≡ z → IsShownBy about.variables (way_of about.cases known k) (change_row about.variables r.terms.items (way_of about.cases known k) z) (line_at r q)
    at_place q z l f g = subst (λ y. IsShownBy about.variables (way_of about.cases known k) (change_row about.variables r.terms.items (way_of about.cases known k) y) (line_at r q)) g (subst (λ y. IsShownBy about.variables (way_of about.cases known y) (change_row about.variables r.terms.items (way_of about.cases known y) (fall_of r.place q)) (line_at r q)) f (round.family.steps q l))

    falling_is : falling_of r ≡ get_or s r.place 0
    falling_is = ap (λ z. get_or z r.place 0) round.set_is

    by_test : (b : Bool) → (falling_of r == k) ≡ b → ((get_or s r.place 0 ≡ get_or s j 0 → ⊥) → ShownAt (about.variables + (way_of about.cases known k).taken.draws) (way_rows (way_of about.cases known k)) (fall_rows_at (as_given (terms_at about.variables rs (way_of about.cases known k).taken.from)) (map (changed about.variables (way_of about.cases known k)) (terms_at about.variables rs (way_of about.cases known k).taken.to)) (falls_in k rs)) (lines_of k rs)) → ShownAt (about.variables + (way_of about.cases known k).taken.draws) (way_rows (way_of about.cases known k)) (fall_rows_at (as_given (terms_at about.variables (r ∷ rs) (way_of about.cases known k).taken.from)) (map (changed about.variables (way_of about.cases known k)) (terms_at about.variables (r ∷ rs) (way_of about.cases known k).taken.to)) (if b then 0 else suc (falls_in k rs))) (if b then line_at r r.place ∷ line_at r (length r.set.items) ∷ [] else line_at r (place_in r.set.items k) ∷ lines_of k rs)
    by_test true t rest =
        let f = sym falling_is ∙ eqb-true (falling_of r) k t in (
          at_place r.place (pos 1) round.within f (if_true (r.place == r.place) (pos 1) (pos 0) (eq-eqb r.place r.place refl)),
          (subst (λ y. IsShownBy about.variables (way_of about.cases known k) (bound_row about.variables r.terms.items (way_of about.cases known k)) (line_at r (length y))) (sym round.set_is) (subst (λ y. IsShownBy about.variables (way_of about.cases known y) (bound_row about.variables r.terms.items (way_of about.cases known y)) (line_at r (length s))) f round.family.bound), tt),
        )
    by_test false t rest =
        let n = false_test (falling_of r) k t in
        let p = found_at s k j h e in
        let o : r.place ≡ place_in s k → ⊥ = λ q. n (falling_is ∙ ap (λ z. get_or s z 0) q ∙ p.1) in
        let z = if_false (place_in s k == r.place) (pos 1) (pos 0) (ne_eqb (place_in s k) r.place (λ q. o (sym q))) in
        let head = subst (λ y. IsShownBy about.variables (way_of about.cases known k) (change_row about.variables r.terms.items (way_of about.cases known k) (pos 0)) (line_at r (place_in y k))) (sym round.set_is) (at_place (place_in s k) (pos 0) p.0 p.1 z) in
        shown_more (about.variables + (way_of about.cases known k).taken.draws) (way_rows (way_of about.cases known k)) (change_row about.variables r.terms.items (way_of about.cases known k) (pos 0)) (fall_rows_at (as_given (terms_at about.variables rs (way_of about.cases known k).taken.from)) (map (changed about.variables (way_of about.cases known k)) (terms_at about.variables rs (way_of about.cases known k).taken.to)) (falls_in k rs)) (line_at r (place_in r.set.items k)) (lines_of k rs) (head, tt) (rest (λ q. n (falling_is ∙ q ∙ e)))
