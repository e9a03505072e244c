-- Rounds that take cases out of a set, down to what they leave.
use Rattle.std.proofs.Common.{All, ◌≡◌, ℕ, zero, suc, ◌+◌, ◌<◌, ◌^◌, List, [], ◌∷◌, ◌++◌, length, map, get_or, Bool, true, false, ◌==◌, if◌then◌else◌, arith, refl, sym, ap, ◌∙◌, subst, ℤ, pos, unsigned_abs}
use Rattle.std.proofs.lemmas.Bool.{eq-eqb, eqb-true, ne_eqb}
use Rattle.std.proofs.lemmas.Int.{ints}
use Rattle.std.proofs.lemmas.List.{append_assoc, append-nil, length-map}
use Rattle.std.proofs.lemmas.List.Elements.{All-nil, All-cons, All-push, All-head, All-tail}
use Rattle.tv_linear.specs.Arithmetic.{zeros, constant_row}
use Rattle.tv_linear.specs.Linear.{columns, IsWithin}
use Rattle.tv_linear.specs.Known.{given, less, as_given}
use Rattle.tv_linear.specs.Covers.{ShownAt}
use Rattle.tv_linear.specs.Falls.{fall_rows_at}
use Rattle.tv_linear.specs.Terms.{terms_after}
use Rattle.tv_linear.specs.declared.region.Piece.{Piece}
use Rattle.tv_linear.proofs.PlainLists.{zeros-narrow}
use Rattle.tv_cases.specs.LinearCases.{CaseSystem}
use Rattle.tv_places.proofs.IndexLemmas.{false_test}
use Rattle.tv_rank.specs.Given.{lists, AreNumbered}
use Rattle.tv_rank.specs.Rankings.{local_term, change_row, bound_row, IsShownBy, fall_of}
use Rattle.tv_rank.specs.Ways.{Way, way_of, met_rows}
use Rattle.tv_rank.proofs.Over.{if_true, if_false}
use Rattle.tv_lexrank.specs.declared.round.Round.{Round}
use Rattle.tv_lexrank.specs.Closing.{changed}
use Rattle.tv_lexrank.specs.Covering.{IsLined}
use Rattle.tv_lexrank.specs.Greedy.{without, Lead, none, more, IsRound}
use Rattle.tv_lexrank.specs.Known.{way_rows}
use Rattle.tv_lexrank.specs.Rounds.{place_in, line_at, falling_of, lines_of, falls_in, terms_at, ranks_at}
use Rattle.tv_lexrank.specs.Shown.{owed_fall}
use Rattle.tv_lexrank.specs.Sorting.{StandsIn}
use Rattle.tv_lexrank.proofs.Chained.{still_there, found_at, shown_more}
use Rattle.tv_lexrank.proofs.Removing.{length-without, numbered_without}
use Rattle.tv_lexrank.proofs.ShowLemmas.{local_wide}
use Rattle.tv_lexrank.proofs.ZeroLines.{zero_line, change_shown}

-- the rounds take cases out of the first set, one after the other, down to the second
abbrev pub TakeDown : CaseSystem → List Piece → List ℕ → List Round → List ℕ → Type 0
TakeDown about known set [] left = set ≡ left
TakeDown about known set (r ∷ rounds) left = IsRound about known set r × TakeDown about known (without set r.place) rounds left

lead_then : (about : CaseSystem) (known : List Piece) (set : List ℕ) (rounds : List Round) (mid : List ℕ) (rs : List Round) (left : List ℕ) → Lead about known set rounds mid → TakeDown about known mid rs left → TakeDown about known set (rounds ++ rs) left
lead_then about known set rounds mid rs left (none s) h = h
lead_then about known set rounds mid rs left (more s l front r lead round) h = subst (λ z. TakeDown about known s z left) (sym (append_assoc front (r ∷ []) rs)) (lead_then about known s front l (r ∷ rs) left lead (round, h))

pub lead_down : (about : CaseSystem) (known : List Piece) (set : List ℕ) (rounds : List Round) (left : List ℕ) → Lead about known set rounds left → TakeDown about known set rounds left
lead_down about known set rounds left h = subst (λ z. TakeDown about known set z left) (append-nil rounds) (lead_then about known set rounds left [] left h refl)

pub numbered_left : (about : CaseSystem) (known : List Piece) (many : ℕ) (set : List ℕ) (rounds : List Round) (left : List ℕ) → Lead about known set rounds left → AreNumbered many set → AreNumbered many left
numbered_left about known many set rounds left (none s) h = h
numbered_left about known many set rounds left (more s l rs r lead round) h = numbered_without many l r.place (numbered_left about known many s rs l lead h)

pub down_length : (about : CaseSystem) (known : List Piece) (set : List ℕ) (rounds : List Round) (left : List ℕ) → TakeDown about known set rounds left → length rounds + length left ≡ length set
down_length about known set [] left h = (let e = ap length h in let q : 0 + length left ≡ length set = omega (arith, e) in q)
down_length about known set (r ∷ rounds) left h =
    let rest = down_length about known (without set r.place) rounds left h.1 in
    let e = length-without set r.place h.0.within in
    let q : suc (length rounds) + length left ≡ length set = omega (arith, rest, e) in
    q

-- ---- the terms and the lines of the rounds
pub down_wide : (about : CaseSystem) (known : List Piece) (set : List ℕ) (rounds : List Round) (left : List ℕ) → TakeDown about known set rounds left → (l : ℕ) → All (λ r. columns r ≡ about.variables) (terms_at about.variables rounds l)
down_wide about known set [] left h l = All-nil (λ r. columns r ≡ about.variables)
down_wide about known set (r ∷ rounds) left h l =
    All-cons (λ q. columns q ≡ about.variables) (local_term about.variables r.terms.items l) (terms_at about.variables rounds l)
    (local_wide about.variables r.terms.items l h.0.family.wide) (down_wide about known (without set r.place) rounds left h.1 l)

lined : (about : CaseSystem) (known : List Piece) (set : List ℕ) (r : Round) → IsRound about known set r → IsLined r
lined about known set r h = record {
  within = (let a = ap length h.set_is in let b = h.within in omega (arith, a, b));
  counted = (let a = ap length h.set_is in let b = h.family.counted in let c = length-map r.multipliers.items (λ v. v.items) in omega (arith, a, b, c));
}

pub down_lined : (about : CaseSystem) (known : List Piece) (set : List ℕ) (rounds : List Round) (left : List ℕ) → TakeDown about known set rounds left → All IsLined rounds
down_lined about known set [] left h = All-nil IsLined
down_lined about known set (r ∷ rounds) left h = All-cons IsLined r rounds (lined about known set r h.0) (down_lined about known (without set r.place) rounds left h.1)

abbrev Narrow : ℤ → Type 0
Narrow z = IsWithin 62 z

pub line_narrow : (ls : List (List ℤ)) (i : ℕ) → All (All (IsWithin 62)) ls → All (IsWithin 62) (get_or ls i [])
line_narrow [] i h = All-nil Narrow
line_narrow (l ∷ ls) zero h = All-head (All Narrow) l ls h
line_narrow (l ∷ ls) (suc i) h = line_narrow ls i (All-tail (All Narrow) l ls h)

pub down_narrow : (about : CaseSystem) (known : List Piece) (set : List ℕ) (rounds : List Round) (left : List ℕ) → TakeDown about known set rounds left → (k : ℕ) → All (All (IsWithin 62)) (lines_of k rounds)
down_narrow about known set [] left h k = All-nil (All Narrow)
down_narrow about known set (r ∷ rounds) left h k = by_test (falling_of r == k) (down_narrow about known (without set r.place) rounds left h.1 k)
  where
    one : (i : ℕ) → All Narrow (line_at r i)
    one i = line_narrow (lists r.multipliers.items) i h.0.family.narrow

    by_test : (b : Bool) → All (All Narrow) (lines_of k rounds) → All (All Narrow) (if b then line_at r r.place ∷ line_at r (length r.set.items) ∷ [] else line_at r (place_in r.set.items k) ∷ lines_of k rounds)
    by_test true rest = All-cons (All Narrow) (line_at r r.place) (line_at r (length r.set.items) ∷ []) (one r.place) (All-cons (All Narrow) (line_at r (length r.set.items)) [] (one (length r.set.items)) (All-nil (All Narrow)))
    by_test false rest = All-cons (All Narrow) (line_at r (place_in r.set.items k)) (lines_of k rounds) (one (place_in r.set.items k)) rest

pub zero_narrow : (n : ℕ) → All (IsWithin 62) (zero_line n)
zero_narrow n = All-push Narrow (zeros n) (pos 1) (zeros-narrow n) (let q : unsigned_abs (pos 1) < 2 ^ 62 = omega arith in q)

-- ---- what the rounds show
-- the rows of the fall of each case of the set that is not left are shown by the multipliers of its rounds
pub down_shown : (about : CaseSystem) (known : List Piece) (set : List ℕ) (rounds : List Round) (left : List ℕ) → TakeDown about known set rounds left → (k j : ℕ) → j < length set → get_or set j 0 ≡ k → (StandsIn left k → ⊥) → ShownAt (about.variables + (way_of about.cases known k).taken.draws) (way_rows (way_of about.cases known k)) (fall_rows_at (as_given (terms_at about.variables rounds (way_of about.cases known k).taken.from)) (map (changed about.variables (way_of about.cases known k)) (terms_at about.variables rounds (way_of about.cases known k).taken.to)) (falls_in k rounds)) (lines_of k rounds)
down_shown about known set [] left down k j h e out = absurd (out (j, subst (λ z. j < length z) down h, ap (λ z. get_or z j 0) (sym down) ∙ e))
down_shown about known set (r ∷ rs) left down k j h e out = by_test (falling_of r == k) refl (λ n. let i = still_there set r.place j h n in down_shown about known (without set r.place) rs left down.1 k i.0 i.1 (i.2 ∙ e) out)
  where
    w : Way
    w = way_of about.cases known k

    round : IsRound about known set r
    round = down.0

    -- what a round shows of the case at a place
    at_place : (q : ℕ) (z : ℤ) → q < length set → get_or set q 0 ≡ k → fall_of r.place q ≡ z → IsShownBy about.variables (way_of about.cases known k) (change_row about.variables r.terms.items (way_of about.cases known k) z) (line_at r q)
    at_place q z l f g = subst (λ y. IsShownBy about.variables (way_of about.cases known k) (change_row about.variables r.terms.items (way_of about.cases known k) y) (line_at r q)) g (subst (λ y. IsShownBy about.variables (way_of about.cases known y) (change_row about.variables r.terms.items (way_of about.cases known y) (fall_of r.place q)) (line_at r q)) f (round.family.steps q l))

    falling_is : falling_of r ≡ get_or set r.place 0
    falling_is = ap (λ z. get_or z r.place 0) round.set_is

    by_test : (b : Bool) → (falling_of r == k) ≡ b → ((get_or set r.place 0 ≡ get_or set j 0 → ⊥) → ShownAt (about.variables + (way_of about.cases known k).taken.draws) (way_rows (way_of about.cases known k)) (fall_rows_at (as_given (terms_at about.variables rs (way_of about.cases known k).taken.from)) (map (changed about.variables (way_of about.cases known k)) (terms_at about.variables rs (way_of about.cases known k).taken.to)) (falls_in k rs)) (lines_of k rs)) → ShownAt (about.variables + (way_of about.cases known k).taken.draws) (way_rows (way_of about.cases known k)) (fall_rows_at (as_given (terms_at about.variables (r ∷ rs) (way_of about.cases known k).taken.from)) (map (changed about.variables (way_of about.cases known k)) (terms_at about.variables (r ∷ rs) (way_of about.cases known k).taken.to)) (if b then 0 else suc (falls_in k rs))) (if b then line_at r r.place ∷ line_at r (length r.set.items) ∷ [] else line_at r (place_in r.set.items k) ∷ lines_of k rs)
    by_test true t rest =
        let f = sym falling_is ∙ eqb-true (falling_of r) k t in (
          at_place r.place (pos 1) round.within f (if_true (r.place == r.place) (pos 1) (pos 0) (eq-eqb r.place r.place refl)),
          (subst (λ y. IsShownBy about.variables (way_of about.cases known k) (bound_row about.variables r.terms.items (way_of about.cases known k)) (line_at r (length y))) (sym round.set_is) (subst (λ y. IsShownBy about.variables (way_of about.cases known y) (bound_row about.variables r.terms.items (way_of about.cases known y)) (line_at r (length set))) f round.family.bound), tt),
        )
    by_test false t rest =
        let n = false_test (falling_of r) k t in
        let p = found_at set k j h e in
        let o : r.place ≡ place_in set k → ⊥ = λ q. n (falling_is ∙ ap (λ z. get_or set z 0) q ∙ p.1) in
        let z = if_false (place_in set k == r.place) (pos 1) (pos 0) (ne_eqb (place_in set k) r.place (λ q. o (sym q))) in
        let head = subst (λ y. IsShownBy about.variables (way_of about.cases known k) (change_row about.variables r.terms.items (way_of about.cases known k) (pos 0)) (line_at r (place_in y k))) (sym round.set_is) (at_place (place_in set k) (pos 0) p.0 p.1 z) in
        shown_more (about.variables + (way_of about.cases known k).taken.draws) (way_rows (way_of about.cases known k)) (change_row about.variables r.terms.items (way_of about.cases known k) (pos 0)) (fall_rows_at (as_given (terms_at about.variables rs (way_of about.cases known k).taken.from)) (map (changed about.variables (way_of about.cases known k)) (terms_at about.variables rs (way_of about.cases known k).taken.to)) (falls_in k rs)) (line_at r (place_in r.set.items k)) (lines_of k rs) (head, tt) (rest (λ q. n (falling_is ∙ q ∙ e)))

-- a case that the rounds take out falls at its round
pub round_falls : (about : CaseSystem) (known : List Piece) (set : List ℕ) (rounds : List Round) (left : List ℕ) (component k fall : ℕ) → TakeDown about known set rounds left → StandsIn set k → (StandsIn left k → ⊥) → component < 2 ^ 32 → fall ≡ falls_in k rounds + 2 → (lines : List (List ℤ)) → lines ≡ zero_line (length (met_rows (way_of about.cases known k))) ∷ lines_of k rounds → ShownAt (about.variables + (way_of about.cases known k).taken.draws) (way_rows (way_of about.cases known k)) (owed_fall about.variables (way_of about.cases known k) (ranks_at about.variables component rounds (way_of about.cases known k).taken.from) (ranks_at about.variables component rounds (way_of about.cases known k).taken.to) fall) lines
round_falls about known set rounds left component k fall down (j, l, e) out small f lines g =
    let v = about.variables in
    let w = way_of about.cases known k in
    let old = ranks_at v component rounds w.taken.from in
    let new = ranks_at v component rounds w.taken.to in
    let head = change_shown v w (terms_after v w.taken.updates) (pos component) (pos component) (pos 0) (omega (arith, ints)) (omega (arith, small)) (omega (arith, small)) (omega arith) in
    let rest = down_shown about known set rounds left down k j l e out in
    let all = shown_more (v + w.taken.draws) (way_rows w) (less (changed v w (constant_row v (pos component))) (given (constant_row v (pos component))) (pos 0)) (fall_rows_at (as_given (terms_at v rounds w.taken.from)) (map (changed v w) (terms_at v rounds w.taken.to)) (falls_in k rounds)) (zero_line (length (met_rows w))) (lines_of k rounds) (head, tt) rest in
    let n : suc (suc (falls_in k rounds)) ≡ fall = omega (arith, f) in
    subst (λ z. ShownAt (v + w.taken.draws) (way_rows w) (owed_fall v w old new fall) z) (sym g) (subst (λ z. ShownAt (v + w.taken.draws) (way_rows w) (owed_fall v w old new z) (zero_line (length (met_rows w)) ∷ lines_of k rounds)) n all)
