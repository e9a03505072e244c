-- The number that a front of the digits writes.
use Rattle.std.proofs.Common.{◌≡◌, ℕ, ◌+◌, ◌-◌, ◌*◌, ◌<◌, ◌≤◌, List, [], ◌∷◌, length, take, drop, get_or, refl, subst, arith, take-append-drop}
use Rattle.std.specs.List.{fold}
use Rattle.std.proofs.lemmas.List.Sums.{fold-append}
use Rattle.std.proofs.lemmas.List.{take_more}
use Rattle.tv_lines.specs.Numbers.{value}

grows : (v : ℕ) (ds : List ℕ) → v ≤ fold (λ v d. 10 * v + (d - 48)) v ds
grows v [] = omega arith
grows v (d ∷ ds) = omega (arith, grows (10 * v + (d - 48)) ds)

pub value_grows : (i : ℕ) (ds : List ℕ) → value (take i ds) ≤ value ds
value_grows i ds = subst (λ (all : List ℕ). value (take i ds) ≤ value all) (take-append-drop i ds) (rw (fold-append (λ v d. 10 * v + (d - 48)) 0 (take i ds) (drop i ds)) (grows (value (take i ds)) (drop i ds)))

pub value_more : (ds : List ℕ) (i : ℕ) → i < length ds → value (take (i + 1) ds) ≡ 10 * value (take i ds) + (get_or ds i 0 - 48)
value_more ds i lt = rw (take_more ds i 0 lt, fold-append (λ v d. 10 * v + (d - 48)) 0 (take i ds) (get_or ds i 0 ∷ [])) refl
