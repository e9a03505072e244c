use Rattle.std.proofs.Common.{◌≡◌, ℕ, zero, suc, ◌+◌, ◌<◌, List, [], ◌∷◌, ◌++◌, length, get_or, take, drop, arith, refl, sym, ap, ◌∙◌, subst}
use Rattle.tv_linear.specs.declared.region.Piece.{Piece}
use Rattle.tv_rank.specs.Sets.{PointsOf}
use Rattle.tv_cases.specs.LinearCases.{CaseSystem}
use Rattle.tv_rank.specs.Given.{AreNumbered}
use Rattle.tv_rank.specs.Ways.{way_of}
use Rattle.tv_rank.specs.Rankings.{HasPoint}
use Rattle.tv_lexrank.specs.declared.round.Round.{Round}
use Rattle.tv_lexrank.specs.Greedy.{without, Lead, none, more}
use Rattle.tv_lexrank.specs.Sorting.{Ascends}

pub length-without : (xs : List ℕ) (k : ℕ) → k < length xs → length (without xs k) + 1 ≡ length xs
length-without [] k h = absurd (omega (arith, h))
length-without (x ∷ xs) zero h = omega arith
length-without (x ∷ xs) (suc k) h = (let e = length-without xs k (omega (arith, h)) in omega (arith, e))

-- what is left stood in the list before
pub stood : (xs : List ℕ) (p k : ℕ) → k < length (without xs p) → (j : ℕ) × (j < length xs) × (get_or (without xs p) k 0 ≡ get_or xs j 0)
stood [] p k h = absurd (omega (arith, h))
stood (x ∷ xs) zero k h = (suc k, (let e : suc k < suc (length xs) = omega (arith, h) in e), refl)
stood (x ∷ xs) (suc p) zero h = (0, (let e : 0 < suc (length xs) = omega arith in e), refl)
stood (x ∷ xs) (suc p) (suc k) h = (let s = stood xs p k (omega (arith, h)) in (suc s.0, (let l = s.1 in let e : suc s.0 < suc (length xs) = omega (arith, l) in e), s.2))

pub numbered_without : (many : ℕ) (xs : List ℕ) (p : ℕ) → AreNumbered many xs → AreNumbered many (without xs p)
numbered_without many xs p h = λ k l. let s = stood xs p k l in subst (λ z. z < many) (sym s.2) (h s.0 s.1)

pub points_without : (about : CaseSystem) (known : List Piece) (xs : List ℕ) (p : ℕ) → PointsOf about known xs → PointsOf about known (without xs p)
points_without about known xs p h = λ k l. let s = stood xs p k l in subst (λ z. HasPoint about.variables (way_of about.cases known z)) (sym s.2) (h s.0 s.1)

-- the items before a place and after it
pub taken_apart : (xs : List ℕ) (k : ℕ) → k < length xs → without xs k ≡ take k xs ++ drop (k + 1) xs
taken_apart [] k h = absurd (omega (arith, h))
taken_apart (x ∷ xs) zero h = refl
taken_apart (x ∷ xs) (suc k) h = ap (λ zs. x ∷ zs) (taken_apart xs k (omega (arith, h))) ∙ ap (λ z. x ∷ (take k xs ++ drop z (x ∷ xs))) (let e : suc (k + 1) ≡ suc k + 1 = omega arith in e)

-- where what is left at a place stood
abbrev shift : ℕ → ℕ → ℕ
shift zero k = suc k
shift (suc p) zero = zero
shift (suc p) (suc k) = suc (shift p k)

shift_within : (xs : List ℕ) (p k : ℕ) → k < length (without xs p) → shift p k < length xs
shift_within [] p k h = absurd (omega (arith, h))
shift_within (x ∷ xs) zero k h = (let e : suc k < suc (length xs) = omega (arith, h) in e)
shift_within (x ∷ xs) (suc p) zero h = (let e : 0 < suc (length xs) = omega arith in e)
shift_within (x ∷ xs) (suc p) (suc k) h = (let l = shift_within xs p k (omega (arith, h)) in let e : suc (shift p k) < suc (length xs) = omega (arith, l) in e)

shift_grows : (p i j : ℕ) → i < j → shift p i < shift p j
shift_grows zero i j h = (let e : suc i < suc j = omega (arith, h) in e)
shift_grows (suc p) i zero h = absurd (omega (arith, h))
shift_grows (suc p) zero (suc j) h = (let e : 0 < suc (shift p j) = omega arith in e)
shift_grows (suc p) (suc i) (suc j) h = (let l = shift_grows p i j (omega (arith, h)) in let e : suc (shift p i) < suc (shift p j) = omega (arith, l) in e)

shift_is : (xs : List ℕ) (p k : ℕ) → k < length (without xs p) → get_or (without xs p) k 0 ≡ get_or xs (shift p k) 0
shift_is [] p k h = absurd (omega (arith, h))
shift_is (x ∷ xs) zero k h = refl
shift_is (x ∷ xs) (suc p) zero h = refl
shift_is (x ∷ xs) (suc p) (suc k) h = shift_is xs p k (omega (arith, h))

ascends_without : (xs : List ℕ) (p : ℕ) → Ascends xs → Ascends (without xs p)
ascends_without xs p h = λ i j l m.
    let a = shift_is xs p i (omega (arith, l, m)) in
    let b = shift_is xs p j m in
    let q = h (shift p i) (shift p j) (shift_grows p i j l) (shift_within xs p j m) in
    omega (arith, a, b, q)

-- what rounds leave of an ascending list ascends
pub ascends_left : (about : CaseSystem) (known : List Piece) (set : List ℕ) (rounds : List Round) (left : List ℕ) → Lead about known set rounds left → Ascends set → Ascends left
ascends_left about known set rounds left (none s) h = h
ascends_left about known set rounds left (more s l rs r lead round) h = ascends_without l r.place (ascends_left about known s rs l lead h)
