use Rattle.std.proofs.Common.{◌≡◌, ℕ, inl, inr, List, [], ◌∷◌, ◌++◌, length, All, map, Option, None, Some, refl, ℤ}
use Rattle.std.proofs.lemmas.List.Elements.{All-nil, All-cons, All-push}
use Rattle.tv_linear.specs.declared.cover.CoverTree.{CoverTree, Split', Empty, Into}
use Rattle.tv_linear.specs.Known.{Known, given, denied, IsKnownMet}
use Rattle.tv_linear.specs.Covers.{Shown, ShownAt, IsMetCover}
use Rattle.tv_linear.proofs.KnownLemmas.{refuted, met_or_denied}

shown_met : (n : ℕ) (known owed : List Known) (lists : List (List ℤ)) (xs : List ℤ) → Shown n known owed lists → length xs ≡ n → All (IsKnownMet xs) known → All (IsKnownMet xs) owed
shown_met n known [] lists xs h e k = All-nil (IsKnownMet xs)
shown_met n known (r ∷ owed) [] xs h e k = absurd h
shown_met n known (r ∷ owed) (ms ∷ lists) xs h e k =
    All-cons (IsKnownMet xs) r owed
    (elim (met_or_denied xs r) [ inl met ↦ met | inr not_met ↦ absurd (refuted n (known ++ denied r ∷ []) ms xs h.0 e (All-push (IsKnownMet xs) known (denied r) k not_met)) ])
    (shown_met n known owed lists xs h.1 e k)

pub shown_at_met : (n : ℕ) (known : List Known) (owed : Option (List Known)) (lists : List (List ℤ)) (xs : List ℤ) → ShownAt n known owed lists → length xs ≡ n → All (IsKnownMet xs) known → (rows : List Known) × (owed ≡ Some rows) × All (IsKnownMet xs) rows
shown_at_met n known None lists xs h e k = absurd h
shown_at_met n known (Some rows) lists xs h e k = (rows, refl, shown_met n known rows lists xs h e k)

-- a point of the known rows meets all rows that some target and fall of the cover owe
pub covered : (n : ℕ) (owed : ℕ → ℕ → Option (List Known)) (known : List Known) (tree : CoverTree) (xs : List ℤ) → IsMetCover n owed known tree → length xs ≡ n → All (IsKnownMet xs) known → (target : ℕ) × (fall : ℕ) × (rows : List Known) × (owed target fall ≡ Some rows) × All (IsKnownMet xs) rows
covered n owed known (Split' r p a q b) xs h e k =
    elim (met_or_denied xs (given r)) [
      | inl met ↦ covered n owed (known ++ given r ∷ []) a xs h.0 e (All-push (IsKnownMet xs) known (given r) k met)
      | inr met ↦ covered n owed (known ++ denied (given r) ∷ []) b xs h.1 e (All-push (IsKnownMet xs) known (denied (given r)) k met)
    ]
covered n owed known (Empty ms) xs h e k = absurd (refuted n known ms.items xs h e k)
covered n owed known (Into target fall lists) xs h e k =
    let met = shown_at_met n known (owed target fall) (map (λ l. l.items) lists.items) xs h e k in
    (target, fall, met.0, met.1, met.2)
