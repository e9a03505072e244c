use Rattle.std.proofs.Common.{◌≡◌, ℕ, inl, inr, ◌+◌, ◌<◌, ◌≤◌, List, [], ◌∷◌, length, map, true, false, arith, sym, ap, ◌∙◌, ℤ, ◌*ℤ◌}
use Rattle.std.specs.List.{AllByRecursion, IsDistinct, list_any}
use Rattle.std.proofs.lemmas.Int.{ints}
use Rattle.std.proofs.lemmas.Bool.Decides.{nat_tests, eqb_tells}
use Rattle.std.proofs.lemmas.Map.Steps.{length-le_from_distinct_below}
use lib.Dec.{eqb}
use Rattle.tv_simplex.proofs.Ring.{times_zero}
use Rattle.tv_simplex.proofs.Sums.{delta-same, delta-other}
use Rattle.tv_simplex.proofs.Counting.{rank, rank-below, rank-same, is_column, is_column-from, is_column-at, count-columns, or_true}
use Rattle.tv_simplex.proofs.Chains.{last_of, none_twice}
use Rattle.tv_simplex.proofs.GoesOn.{goes_on}
use Rattle.tv_simplex.proofs.Steps.{feasible-any}
use Rattle.tv_simplex.specs.Choices.{choices}
use Rattle.tv_simplex.specs.Tableaus.{Tableau}
use Rattle.tv_simplex.specs.Chains.{column, IsChain, IsSystem, Settles}
use Rattle.tv_simplex.specs.Orders.{IsWithin, NoneTwice}
use Rattle.std.proofs.lemmas.List.{length-map}

-- the columns of a basis are different
pub columns_apart : (a : ℕ → ℕ → ℤ) (m n : ℕ) (b : ℕ → ℕ) (x : Tableau a m n b) (i l : ℕ) → i < m → l < i → b i ≡ b l → ⊥
columns_apart a m n b x i l i_in l_in e =
    let p = x.unit i i i_in i_in in
    let q = x.unit i l i_in (omega arith) in
    let r = ap (x.entry i) e in
    let u = ap (λ z. x.scale *ℤ z) (delta-same i) in
    let v = times_zero x.scale _ (delta-other i l (λ h. absurd (omega arith))) in
    let w = x.positive in
    absurd (omega (arith, ints, p, q, r, u, v, w))

pub record Good (m n : ℕ) (b : List ℕ) : Type 0 where
  pub inside : (i : ℕ) → i < m → column b i < n + m
  pub apart : (i l : ℕ) → i < m → l < i → column b i ≡ column b l → ⊥

abbrev pub code : ℕ → ℕ → List ℕ → ℕ
code m n b = rank (n + m) (is_column m (column b))

code-below : (m n : ℕ) (b : List ℕ) → Good m n b → code m n b < choices (n + m) m
code-below m n b g =
    let c = ap (λ k. choices (n + m) k) (count-columns (n + m) m (column b) g.inside g.apart) in
    let r = rank-below (n + m) (is_column m (column b)) in
    omega arith

code-same : (m n : ℕ) (b o : List ℕ) → Good m n b → Good m n o → code m n b ≡ code m n o → IsWithin m o b
code-same m n b o g h e l l_in =
    let c = count-columns (n + m) m (column b) g.inside g.apart ∙ sym (count-columns (n + m) m (column o) h.inside h.apart) in
    let s = rank-same (n + m) (is_column m (column b)) (is_column m (column o)) c e (column o l) (h.inside l l_in) in
    is_column-from m (column b) (column o l) (s ∙ is_column-at m (column o) l l_in)

good_all : (a : ℕ → ℕ → ℤ) (m n : ℕ) (s : IsSystem a m n) (bs : List (List ℕ)) → IsChain a m n bs → AllByRecursion (Good m n) bs
good_all a m n s [] h = tt
good_all a m n s (b ∷ []) h = let last = last_of a m n s b [] h in (record { inside = last.inside; apart = columns_apart a m n (column b) last.table }, tt)
good_all a m n s (b ∷ (old ∷ bs)) h = let last = last_of a m n s b (old ∷ bs) h in (record { inside = last.inside; apart = columns_apart a m n (column b) last.table }, good_all a m n s (old ∷ bs) h.1)

codes_apart : (m n : ℕ) (b : List ℕ) (bs : List (List ℕ)) → Good m n b → AllByRecursion (Good m n) bs → AllByRecursion (λ old. IsWithin m old b → ⊥) bs → AllByRecursion (λ y. eqb (code m n b) y ≡ false) (map (code m n) bs)
codes_apart m n b [] g h k = tt
codes_apart m n b (o ∷ bs) g h k = (
  elim (eqb_tells (code m n b) (code m n o)) [
    | inl w ↦ absurd (k.0 (code-same m n b o g h.0 w.1))
    | inr w ↦ w.0
  ],
  codes_apart m n b bs g h.1 k.1,
)

codes_distinct : (m n : ℕ) (bs : List (List ℕ)) → AllByRecursion (Good m n) bs → NoneTwice m bs → IsDistinct eqb (map (code m n) bs)
unfolding IsDistinct
codes_distinct m n [] g h = tt
codes_distinct m n (b ∷ bs) g h = (codes_apart m n b bs g.0 g.1 h.0, codes_distinct m n bs g.1 h.1)

codes_below : (m n : ℕ) (bs : List (List ℕ)) → AllByRecursion (Good m n) bs → (q : ℕ) → list_any (eqb q) (map (code m n) bs) ≡ true → q < choices (n + m) m
codes_below m n [] g q h = cc
codes_below m n (b ∷ bs) g q h = elim (or_true (eqb q (code m n b)) (list_any (eqb q) (map (code m n) bs)) h) [
  | inl e ↦ (let k : q ≡ code m n b = grind (arith, nat_tests) in let l = code-below m n b g.0 in omega arith)
  | inr e ↦ codes_below m n bs g.1 q e
]

-- a chain has at most as many bases as there are choices of m columns out of n + m
pub bounded : (a : ℕ → ℕ → ℤ) (m n : ℕ) → IsSystem a m n → (bs : List (List ℕ)) → IsChain a m n bs → length bs ≤ choices (n + m) m
bounded a m n s bs h =
    let g = good_all a m n s bs h in
    let k = length-le_from_distinct_below (map (code m n) bs) (choices (n + m) m) (codes_distinct m n bs g (none_twice a m n s bs h)) (codes_below m n bs g) in
    let l = length-map bs (code m n) in
    omega arith

-- one whose last basis does not settle is shorter
pub budget_suffices : (a : ℕ → ℕ → ℤ) (m n : ℕ) → IsSystem a m n → (b : List ℕ) (bs : List (List ℕ)) → IsChain a m n (b ∷ bs) → (x : Tableau a m n (column b)) → (Settles a m n (column b) x → ⊥) → length (b ∷ bs) < choices (n + m) m
budget_suffices a m n s b bs h x unsettled =
    let last = last_of a m n s b bs h in
    elim (goes_on a m n b x (feasible-any a m n (column b) last.table x last.feasible)) [
      | inl k ↦ absurd (unsettled k)
      | inr w ↦ (let k = bounded a m n s (w.0 ∷ (b ∷ bs)) (w.1, h) in omega arith)
    ]
