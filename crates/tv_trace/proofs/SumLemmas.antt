-- One product more in a sum.
use Rattle.std.proofs.Common.{◌≡◌, ◌-◌, ◌≤◌, ◌∙◌, List, [], ◌∷◌, length, take, drop, get_or, ℤ, pos, ◌+ℤ◌, ◌*ℤ◌, Option, None, Some, Bool, true, false, cond, ap, arith}
use Rattle.std.specs.Prelude.{◌&&◌}
use Rattle.std.proofs.lemmas.Int.{ints}
use Rattle.tv_linear.specs.Linear.{dot}
use Rattle.tv_linear.proofs.ListLaws.{take_past}
use Rattle.tv_exec.specs.Held.{is_held}
use Rattle.tv_trace.specs.Widths.{sums_are_held}

-- the sum from a number on, where it is held
abbrev pub summed : ℤ → List ℤ → List ℤ → Option ℤ
summed total cs xs = cond (sums_are_held total cs xs) (Some (total +ℤ dot cs xs)) None

one_more : (total product sum : ℤ) (cs xs : List ℤ) (a b : Bool) → Some sum ≡ cond (a && b) (Some (total +ℤ product)) None →
    summed sum cs xs ≡ cond (a && (b && sums_are_held (total +ℤ product) cs xs)) (Some (total +ℤ (product +ℤ dot cs xs))) None
one_more total product sum cs xs true true e =
    let same : sum ≡ total +ℤ product = cc in
    let grouped : (total +ℤ product) +ℤ dot cs xs ≡ total +ℤ (product +ℤ dot cs xs) = omega (arith, ints) in
    ap (λ z. summed z cs xs) same ∙ ap (λ z. cond (sums_are_held (total +ℤ product) cs xs) (Some z) None) grouped
one_more total product sum cs xs true false e = cc
one_more total product sum cs xs false b e = cc

rest_is : (c : ℤ) (cs : List ℤ) → take (length (c ∷ cs) - 1) (drop 1 (c ∷ cs)) ≡ cs
rest_is c cs = take_past cs (length (c ∷ cs) - 1) (omega arith)

pub summed-next : (total sum : ℤ) (cs xs : List ℤ) (result : Option ℤ) → 1 ≤ length cs → 1 ≤ length xs →
    Some sum ≡ cond (is_held (get_or cs 0 (pos 0) *ℤ get_or xs 0 (pos 0)) && is_held (total +ℤ get_or cs 0 (pos 0) *ℤ get_or xs 0 (pos 0))) (Some (total +ℤ get_or cs 0 (pos 0) *ℤ get_or xs 0 (pos 0))) None →
    result ≡ summed sum (take (length cs - 1) (drop 1 cs)) (take (length xs - 1) (drop 1 xs)) →
    result ≡ summed total cs xs
summed-next total sum [] xs result l m here later = absurd (omega arith)
summed-next total sum (c ∷ cs) [] result l m here later = absurd (omega arith)
summed-next total sum (c ∷ cs) (x ∷ xs) result l m here later =
    later
    ∙ (λ i. summed sum (rest_is c cs i) (rest_is x xs i))
    ∙ one_more total (c *ℤ x) sum cs xs (is_held (c *ℤ x)) (is_held (total +ℤ c *ℤ x)) here
