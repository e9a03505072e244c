-- integers in three parts
use Rattle.std.proofs.Common.{◌≡◌, ℕ, ◌+◌, ◌<◌, ◌≤◌, ◌^◌, ◌∙◌, List, length, drop, get_or, ap, arith, ℤ, pos, ◌+ℤ◌, ◌*ℤ◌}
use Rattle.std.proofs.lemmas.Int.{ints}
use Rattle.std.proofs.lemmas.List.{drop_more, drop_all}
use Rattle.tv_linear.specs.Linear.{dot}
use Rattle.tv_linear.proofs.Ring.{distribute_z, mul_assoc_z}
use Rattle.tv_refute.specs.Wide.{whole}

-- a product by its parts
pub whole-product : (c v vh vl h m k l : ℤ) → v ≡ (vh *ℤ pos (2 ^ 62)) +ℤ vl → c *ℤ vh ≡ (h *ℤ pos (2 ^ 62)) +ℤ m → c *ℤ vl ≡ (k *ℤ pos (2 ^ 62)) +ℤ l → whole h (m +ℤ k) l ≡ c *ℤ v
whole-product c v vh vl h m k l is upper lower =
    let parts = ap (λ z. c *ℤ z) is ∙ distribute_z c (vh *ℤ pos (2 ^ 62)) vl in
    let assoc = mul_assoc_z c vh (pos (2 ^ 62)) in
    omega (arith, ints, parts, assoc, upper, lower)

-- the products so far, and those that are left
pub summed_more : (cs xs : List ℤ) (i : ℕ) (total product next : ℤ) → i < length cs → i < length xs → total +ℤ dot (drop i cs) (drop i xs) ≡ dot cs xs → product ≡ get_or cs i (pos 0) *ℤ get_or xs i (pos 0) → next ≡ total +ℤ product → next +ℤ dot (drop (i + 1) cs) (drop (i + 1) xs) ≡ dot cs xs
summed_more cs xs i total product next in_cs in_xs so_far is sum =
    let split : dot (drop i cs) (drop i xs) ≡ (get_or cs i (pos 0) *ℤ get_or xs i (pos 0)) +ℤ dot (drop (i + 1) cs) (drop (i + 1) xs) = (λ k. dot (drop_more cs i (pos 0) in_cs k) (drop_more xs i (pos 0) in_xs k)) in
    omega (arith, ints, so_far, is, sum, split)

pub summed_all : (cs xs : List ℤ) (i : ℕ) (total : ℤ) → length cs ≤ i → total +ℤ dot (drop i cs) (drop i xs) ≡ dot cs xs → total ≡ dot cs xs
summed_all cs xs i total past so_far =
    let none : dot (drop i cs) (drop i xs) ≡ pos 0 = ap (λ ys. dot ys (drop i xs)) (drop_all i cs past) in
    omega (arith, ints, so_far, none)
