-- The first obligation that is not met.
use Rattle.std.specs.Prelude.{◌≡◌, ℕ, ◌+◌, List, ◌∷◌, ◌++◌, length, Result, MatchResult}
use Rattle.tv_cert.specs.declared.failing.Failing.{Failing}
use Rattle.tv_cert.specs.Obligations.{Entry, IsMetEntry, AllMet}

-- the first entry that is not met, where `from` entries come before the list
pub record IsFirstFailing (es : List Entry) (from : ℕ) (f : Failing) : Type 0 where
  pub before : List Entry
  pub failing : Entry
  pub after : List Entry
  pub parts : es ≡ before ++ failing ∷ after
  pub met : AllMet before
  pub fails : IsMetEntry failing → ⊥
  pub number : f.number ≡ from + length before + 1
  pub node : f.node ≡ failing.obligation.node
  pub kind : f.kind ≡ failing.obligation.kind

-- the answer is that every obligation of the entries is met, or the first that is not
abbrev pub Checks : List Entry → Result (Unit {0}) Failing → Type 0
Checks es result = MatchResult result (λ done. AllMet es) (λ f. IsFirstFailing es 0 f)
