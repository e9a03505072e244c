use Rattle.std.proofs.Common.{ℕ, ◌⊎◌, inl, inr, List, ◌∷◌, ℤ}
use Rattle.tv_simplex.proofs.Chains.{last_of}
use Rattle.tv_simplex.proofs.GoesOn.{solves_or_not, leads_value}
use Rattle.tv_simplex.proofs.Steps.{feasible-any}
use Rattle.tv_simplex.proofs.Answered.{solution, barrier}
use Rattle.tv_simplex.specs.Tableaus.{Tableau}
use Rattle.tv_simplex.specs.Chains.{column, order, IsSystem, IsChain, Settles}
use Rattle.tv_simplex.specs.Answers.{IsSolution, IsBarrier, values_of, barrier_of}

pub settled : (a : ℕ → ℕ → ℤ) (m n : ℕ) → IsSystem a m n → (b : List ℕ) (bs : List (List ℕ)) → IsChain a m n (b ∷ bs) → (x : Tableau a m n (column b)) → Settles a m n (column b) x → IsSolution a m n (values_of a m n (column b) x) x.scale ⊎ IsBarrier a m n (barrier_of a m n (column b) x)
settled a m n s b bs h x k =
    let last = last_of a m n s b bs h in
    let f = feasible-any a m n (column b) last.table x last.feasible in
    elim (solves_or_not a m n (column b) x f) [
      | inl solves ↦ inl (solution a m n (column b) x solves)
      | inr never ↦ inr (barrier a m n (column b) x (λ i l. leads_value m (λ q. x.entry i (order m n q)) (f i l)) last.inside never (elim k [ inl solves ↦ absurd (never solves) | inr none ↦ none ]))
    ]
