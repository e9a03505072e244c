use Rattle.std.proofs.Common.{◌≡◌, ℕ, inl, inr, ◌+◌, ◌<◌, List, [], ◌∷◌, length, arith, ap, ◌∙◌, ℤ}
use Rattle.std.specs.List.{AllByRecursion}
use Rattle.std.proofs.lemmas.List.{get_or-set_same, get_or-set_other, length-set}
use Rattle.tv_simplex.proofs.Steps.{next_tableau, next_feasible, next_above, feasible-any, below-any, below-trans, never_below, start_tableau, start_feasible}
use Rattle.tv_simplex.specs.Tableaus.{Tableau, Exchange}
use Rattle.tv_simplex.specs.Chains.{column, Step, IsChain, IsSystem}
use Rattle.tv_simplex.specs.Orders.{Feasible, ObjectiveBelow, IsWithin, NoneTwice}
use Rattle.std.proofs.lemmas.Bool.{cases_eq}

pub all-weaker : {X : Type 0} (P Q : X → Type 0) → ((x : X) → P x → Q x) → (xs : List X) → AllByRecursion P xs → AllByRecursion Q xs
all-weaker P Q f [] h = tt
all-weaker P Q f (x ∷ xs) h = (f x h.0, all-weaker P Q f xs h.1)

-- what holds of the last basis of a chain
pub record Last (a : ℕ → ℕ → ℤ) (m n : ℕ) (b : List ℕ) (bs : List (List ℕ)) : Type 0 where
  pub size : length b ≡ m
  pub inside : (i : ℕ) → i < m → column b i < n + m
  pub table : Tableau a m n (column b)
  pub feasible : Feasible a m n (column b) table
  pub above : AllByRecursion (λ old. (x : Tableau a m n (column old)) × ObjectiveBelow a m n (column old) (column b) x table) bs

module _ (a : ℕ → ℕ → ℤ) (m n : ℕ) (s : IsSystem a m n) where
  pub exchange_of : (old new : List ℕ) (x : Step a m n old new) → length old ≡ m → Exchange m (column old) (column new) x.leaving x.entering
  exchange_of old new x size = record {
    at_place = ap (λ l. column l x.leaving) x.next ∙ get_or-set_same old x.leaving x.entering 0 (let l = x.leaves.within in omega arith);
    elsewhere = λ i i_in h. ap (λ l. column l i) x.next ∙ get_or-set_other old x.leaving i x.entering 0 h;
  }

  -- one more
  more : (old new : List ℕ) (bs : List (List ℕ)) → Step a m n old new → Last a m n old bs → Last a m n new (old ∷ bs)
  more old new bs x last =
      let e = exchange_of old new x last.size in
      let f = feasible-any a m n (column old) last.table x.table last.feasible in
      let y = next_tableau a m n (column old) (column new) x.table x.leaving x.entering x.leaves e in
      let g = next_above a m n (column old) (column new) x.table x.leaving x.entering x.leaves e f x.enters.negative in
      let here = below-any a m n (column old) (column new) x.table last.table y g in
      record {
        size = (let l = length-set old x.leaving x.entering in let k = last.size in ap length x.next ∙ l ∙ k);
        inside = λ i i_in. elim (cases_eq i x.leaving) [
          | inl h ↦ (let k = ap (column new) h ∙ e.at_place in let l = x.enters.within in omega arith)
          | inr h ↦ (let k = e.elsewhere i i_in h in let l = last.inside i i_in in omega arith)
        ];
        table = y;
        feasible = next_feasible a m n (column old) (column new) x.table x.leaving x.entering x.leaves e f;
        above = ((last.table, here), all-weaker (λ o. (z : Tableau a m n (column o)) × ObjectiveBelow a m n (column o) (column old) z last.table) (λ o. (z : Tableau a m n (column o)) × ObjectiveBelow a m n (column o) (column new) z y) (λ o h. (h.0, below-trans a m n (column o) (column old) (column new) h.0 last.table y h.1 here)) bs last.above);
      }

  pub last_of : (b : List ℕ) (bs : List (List ℕ)) → IsChain a m n (b ∷ bs) → Last a m n b bs
  last_of b [] h = record {
    size = h.size;
    inside = λ i i_in. (let k = h.columns i i_in in omega arith);
    table = start_tableau a m n s (column b) h.columns;
    feasible = start_feasible a m n s (column b) h.columns;
    above = tt;
  }
  last_of b (old ∷ bs) h = more old b bs h.0 (last_of old bs h.1)

  -- no basis of the chain comes twice, in whatever order of its columns
  pub none_twice : (bs : List (List ℕ)) → IsChain a m n bs → NoneTwice m bs
  none_twice [] h = tt
  none_twice (b ∷ []) h = (tt, tt)
  none_twice (b ∷ (old ∷ bs)) h =
      let last = last_of b (old ∷ bs) h in (
        all-weaker (λ o. (z : Tableau a m n (column o)) × ObjectiveBelow a m n (column o) (column b) z last.table) (λ o. IsWithin m o b → ⊥) (λ o k w. never_below a m n (column o) (column b) k.0 last.table w k.1) (old ∷ bs) last.above,
        none_twice (old ∷ bs) h.1,
      )
