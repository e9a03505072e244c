-- What a proposer still offers.
use Rattle.std.specs.Prelude.{◌≡◌, ℕ, ◌<◌, List, [], ◌∷◌, Option, None, Some}
use Rattle.tv_candidates.specs.declared.candidate.Candidate.{Candidate}

-- less is left after a candidate, and nothing after none
abbrev pub IsFewer : ℕ → ℕ → Option Candidate → Type 0
IsFewer old new (Some c) = new < old
IsFewer old new None = new ≡ 0

-- the first of the old list was taken, and there was none exactly where it has none
abbrev pub IsFirstOf : {A : Type 0} → List A → List A → Option A → Type 0
IsFirstOf old new (Some x) = old ≡ x ∷ new
IsFirstOf old new None = (old ≡ []) × (new ≡ [])

-- a list that is reported gives its first item, and one that is not reported stays so
abbrev pub IsGiven : Option (List Candidate) → Option (List Candidate) → Option Candidate → Type 0
IsGiven None new given = new ≡ None
IsGiven (Some old) new given = (rest : List Candidate) × (new ≡ Some rest) × IsFirstOf old rest given
