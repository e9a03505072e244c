-- Obligations that are visited one after another.
use Rattle.std.specs.Prelude.{◌≡◌, ℕ, ◌+◌, ◌≤◌, List, [], ◌∷◌, ◌++◌, length, Bool, true, false}
use Rattle.tv_cert.specs.Obligations.{Obligation}

-- From one state to another over all these obligations; each of them is passed.
pub data Passed {S : Type 0} (passes : S → Obligation → S → Type 0) : S → List Obligation → S → Type 0 where
  none : {s : S} → Passed passes s [] s
  one : {s t u : S} {o : Obligation} {os : List Obligation} → passes s o t → Passed passes t os u → Passed passes s (o ∷ os) u

-- Some of the obligations are passed, and the next one stops.
pub record Stopped {S : Type 0} (passes stops : S → Obligation → S → Type 0) (s : S) (os : List Obligation) (u : S) : Type 0 where
  pub before : List Obligation
  pub last : Obligation
  pub after : List Obligation
  pub parts : os ≡ before ++ last ∷ after
  pub at : S
  pub passed : Passed passes s before at
  pub stopped : stops at last u

-- whether the visit of the obligations went on after the last, and that room was taken for no more than these
abbrev pub Visits : {S : Type 0} → (S → Obligation → S → Type 0) → (S → Obligation → S → Type 0) → (S → ℕ) → Bool → S → List Obligation → S → Type 0
Visits passes stops room true s os u = Passed passes s os u × (room s ≤ room u + length os)
Visits passes stops room false s os u = Stopped passes stops s os u × (room s ≤ room u + length os)
