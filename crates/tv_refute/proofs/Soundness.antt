-- what refutations and covers mean at points
use Rattle.std.proofs.Common.{◌≡◌, ℕ, ℤ, List, [], ◌∷◌, ◌++◌, All, Option, inl, inr}
use Rattle.std.proofs.lemmas.List.Elements.{All-push}
use Rattle.tv_linear.specs.Known.{Known, denied, IsKnownMet}
use Rattle.tv_linear.specs.Refutation.{Refutes}
use Rattle.tv_linear.specs.Covers.{ShownAt}
use Rattle.tv_linear.proofs.KnownLemmas.{refuted, met_or_denied}
use Rattle.tv_linear.proofs.Covered.{shown_at_met}
use Rattle.tv_refute.specs.Points.{ShareNoPoint, Imply, AllEnter}

pub refuted_rows : (n : ℕ) (rows : List Known) (ms : List ℤ) → Refutes n rows ms → ShareNoPoint n rows
refuted_rows n rows ms h xs e k = refuted n rows ms xs h e k

pub refuted_denial : (n : ℕ) (known : List Known) (row : Known) (ms : List ℤ) → Refutes n (known ++ denied row ∷ []) ms → Imply n known row
refuted_denial n known row ms h xs e k = elim (met_or_denied xs row) [
  | inl met ↦ met
  | inr not_met ↦ absurd (refuted n (known ++ denied row ∷ []) ms xs h e (All-push (IsKnownMet xs) known (denied row) k not_met))
]

pub shown_enter : (n : ℕ) (known : List Known) (owed : ℕ → ℕ → Option (List Known)) (target fall : ℕ) (lists : List (List ℤ)) → ShownAt n known (owed target fall) lists → AllEnter n known owed
shown_enter n known owed target fall lists h xs e k =
    let met = shown_at_met n known (owed target fall) lists xs h e k in
    record { target = target; fall = fall; rows = met.0; owing = met.1; met = met.2 }

-- a row is met or its denial is
pub split_enter : (n : ℕ) (known : List Known) (owed : ℕ → ℕ → Option (List Known)) (row : Known) → AllEnter n (known ++ row ∷ []) owed → AllEnter n (known ++ denied row ∷ []) owed → AllEnter n known owed
split_enter n known owed row holds fails xs e k = elim (met_or_denied xs row) [
  | inl met ↦ holds xs e (All-push (IsKnownMet xs) known row k met)
  | inr not_met ↦ fails xs e (All-push (IsKnownMet xs) known (denied row) k not_met)
]
