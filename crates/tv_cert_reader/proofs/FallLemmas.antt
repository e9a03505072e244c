-- How many rows a fall owes.
use Rattle.std.proofs.Common.{◌≡◌, ℕ, zero, suc, ◌≤◌, List, [], ◌∷◌, length, map, Option, None, Some, refl, ap, arith}
use Rattle.std.specs.Option.{option_map}
use Rattle.tv_linear.specs.Linear.{Linear}
use Rattle.tv_linear.specs.Known.{given, as_given}
use Rattle.tv_linear.specs.Falls.{fall_rows, fall_rows_at}

fall_at_long : (old new : List Linear) (j : ℕ) → suc j ≤ length old → suc j ≤ length new → option_map length (fall_rows_at (as_given old) (map given new) j) ≡ Some (suc (suc j))
fall_at_long [] new j h k = absurd (omega arith)
fall_at_long (r ∷ old) [] j h k = absurd (omega arith)
fall_at_long (r ∷ old) (q ∷ new) zero h k = refl
fall_at_long (r ∷ old) (q ∷ new) (suc j) h k = grown _ _ _ (fall_at_long old new j (omega arith) (omega arith))
  where
    grown : {A : Type 0} (x : A) (o : Option (List A)) (n : ℕ) → option_map length o ≡ Some n → option_map length (option_map (λ xs. x ∷ xs) o) ≡ Some (suc n)
    grown x None n e = absurd (let h : ⊥ = cc in h)
    grown x (Some xs) n e = (let h : length xs ≡ n = cc in ap (λ m. Some (suc m)) h)

fall_at_some : (old new : List Linear) (j n : ℕ) → option_map length (fall_rows_at (as_given old) (map given new) j) ≡ Some n → (suc j ≤ length old) × (suc j ≤ length new)
fall_at_some [] new j n e = absurd (let h : ⊥ = cc in h)
fall_at_some (r ∷ old) [] j n e = absurd (let h : ⊥ = cc in h)
fall_at_some (r ∷ old) (q ∷ new) zero n e = (omega arith, omega arith)
fall_at_some (r ∷ old) (q ∷ new) (suc j) n e = let h = below _ _ n e in let k = fall_at_some old new j h.0 h.1 in (omega (arith, k.0), omega (arith, k.1))
  where
    below : {A : Type 0} (x : A) (o : Option (List A)) (n : ℕ) → option_map length (option_map (λ xs. x ∷ xs) o) ≡ Some n → (m : ℕ) × (option_map length o ≡ Some m)
    below x None n e = absurd (let h : ⊥ = cc in h)
    below x (Some xs) n e = (length xs, refl)

pub fall_long : (old new : List Linear) (j : ℕ) → 1 ≤ j → j ≤ length old → j ≤ length new → option_map length (fall_rows (as_given old) (map given new) j) ≡ Some (suc j)
fall_long old new zero p h k = absurd (omega arith)
fall_long old new (suc j) p h k = fall_at_long old new j h k

pub fall_some : (old new : List Linear) (j n : ℕ) → option_map length (fall_rows (as_given old) (map given new) j) ≡ Some n → (1 ≤ j) × (j ≤ length old) × (j ≤ length new)
fall_some old new zero n e = absurd (let h : ⊥ = cc in h)
fall_some old new (suc j) n e = let k = fall_at_some old new j n e in (omega arith, k.0, k.1)
