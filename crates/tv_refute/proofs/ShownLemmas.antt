use Rattle.std.proofs.Common.{◌≡◌, ◌↔◌, ℕ, suc, List, [], ◌∷◌, ◌++◌, length, map, arith, refl, ap, ℤ, Vec, Global}
use Rattle.tv_linear.specs.Covers.{Shown}
use Rattle.tv_linear.specs.Known.{Known}

-- the lists of multipliers
abbrev pub numbers : List (Vec ℤ Global) → List (List ℤ)
numbers lists = map (λ l. l.items) lists

-- unequal numbers are not shown
pub Shown_many : (n : ℕ) (known : List Known) (owed : List Known) (lists : List (List ℤ)) → Shown n known owed lists → length owed ≡ length lists
Shown_many n known [] [] h = refl
Shown_many n known [] (l ∷ lists) h = absurd h
Shown_many n known (r ∷ owed) [] h = absurd h
Shown_many n known (r ∷ owed) (l ∷ lists) h = ap suc (Shown_many n known owed lists h.1)

-- rows joined are shown by lists joined
pub shown_join : (n : ℕ) (known : List Known) (xs ys : List Known) (ls ms : List (List ℤ)) → length xs ≡ length ls → Shown n known (xs ++ ys) (ls ++ ms) ↔ (Shown n known xs ls × Shown n known ys ms)
shown_join n known [] ys [] ms e = (λ h. (tt, h), λ h. h.1)
shown_join n known [] ys (l ∷ ls) ms e = absurd (omega arith)
shown_join n known (x ∷ xs) ys [] ms e = absurd (omega arith)
shown_join n known (x ∷ xs) ys (l ∷ ls) ms e =
    let h = shown_join n known xs ys ls ms (omega arith) in
    (λ k. let r = h.0 k.1 in ((k.0, r.0), r.1), λ k. (k.0.0, h.1 (k.0.1, k.1)))
