use Rattle.std.specs.Prelude.{◌≡◌, ℕ, ◌+◌, ◌≤◌, List, [], ◌∷◌, ◌++◌, length, map, ℤ, slice_get, Option, None, Some, Bool, IsTrue}
use Rattle.std.specs.List.{AllZip}
use Rattle.std.specs.Option.{option_map}
use Rattle.tv_linear.specs.declared.choice.ChoiceTree.{ChoiceTree, Split', Empty, NoStep, Take}
use Rattle.tv_linear.specs.declared.cover.CoverTree.{CoverTree}
use Rattle.tv_linear.specs.Linear.{Linear, columns}
use Rattle.tv_linear.specs.Known.{Known, given, denied, composed, as_given}
use Rattle.tv_linear.specs.Refutation.{Refutes}
use Rattle.tv_linear.specs.Covers.{no_target, ShownAt, IsMetCover}
use Rattle.tv_linear.specs.Terms.{terms_after, draw_terms}
use Rattle.tv_cases.specs.LinearCases.{LinearCase, leaving}

-- a row of a target after a case, with terms put in for its draws
abbrev pub drawn_change : ℕ → LinearCase → List Linear → Linear → Known
drawn_change n c draws r = composed (composed (given r) (terms_after n c.updates)) (draw_terms n draws)

-- the guards of a case, with terms put in for its draws
abbrev pub drawn_guards : ℕ → LinearCase → List Linear → List Known
drawn_guards n c draws = map (λ r. composed (given r) (draw_terms n draws)) c.guards

-- the case is from this location and has as many draws as terms; its guards, and the rows owed on entering the target, are shown
abbrev pub TakeMet : ℕ → ℕ → (LinearCase → List Linear → ℕ → ℕ → Option (List Known)) → List Known → Option LinearCase → ℕ → ℕ → List Linear → List (List ℤ) → Type 0
TakeMet n l owed known None k j draws lists = ⊥
TakeMet n l owed known (Some c) k j draws lists =
    (c.from ≡ l) × (length draws ≡ c.draws) × ShownAt n known (option_map (λ rows. drawn_guards n c draws ++ rows) (owed c draws k j)) lists

-- for each case from the location a cover without targets is met
abbrev pub NoStepMet : ℕ → List Known → List LinearCase → List CoverTree → Type 0
NoStepMet n known cases covers = AllZip (λ c cover. IsMetCover (n + c.draws) no_target (known ++ as_given c.guards) cover) cases covers

-- The choice is met at the known rows, which have n columns, at a location. `stop` says whether it may show that there is no step;
-- `owed` gives the rows to be shown on entering a target by a case with these terms for its draws.
abbrev pub IsMetChoice : ℕ → List LinearCase → ℕ → Bool → (LinearCase → List Linear → ℕ → ℕ → Option (List Known)) → List Known → ChoiceTree → Type 0
IsMetChoice n cases l stop owed known (Split' r p a q b) =
    IsMetChoice n cases l stop owed (known ++ given r ∷ []) a × IsMetChoice n cases l stop owed (known ++ denied (given r) ∷ []) b
IsMetChoice n cases l stop owed known (Empty ms) = Refutes n known ms.items
IsMetChoice n cases l stop owed known (NoStep covers) = IsTrue stop × NoStepMet n known (leaving l cases) covers.items
IsMetChoice n cases l stop owed known (Take k target j draws lists) =
    TakeMet n l owed known (slice_get cases k) target j draws.items (map (λ x. x.items) lists.items)

-- the split rows of a choice speak of n variables alone
abbrev pub ChoiceFits : ℕ → ChoiceTree → Type 0
ChoiceFits n (Split' r p a q b) = (columns r ≤ n) × ChoiceFits n a × ChoiceFits n b
ChoiceFits n (Empty ms) = Unit {0}
ChoiceFits n (NoStep covers) = Unit {0}
ChoiceFits n (Take k target j draws lists) = Unit {0}
