-- The first obligation that is not met, over one part of a certificate after another.
use Rattle.std.specs.Prelude.{◌≡◌, ℕ, ◌+◌, ◌-◌, Bool, true, false, List, [], ◌∷◌, Option, None, Some}
use Rattle.tv_cert.specs.Obligations.{Entry, AllMet}
use Rattle.tv_cert.specs.declared.failing.Failing.{Failing}
use Rattle.tv_cert.specs.FirstFailing.{IsFirstFailing}
use Rattle.tv_check_text.specs.declared.checker.Checker.{Checker}

-- Where `from` entries come before the list: one that is not met before it stays the first, else it is the first of the list.
abbrev pub Settles : ℕ → Option Failing → List Entry → Option Failing → Type 0
Settles from (Some f) es told = told ≡ Some f
Settles from None es None = AllMet es
Settles from None es (Some f) = IsFirstFailing es from f

-- the first that is not met, after one more obligation
abbrev pub first_failing : Option Failing → Bool → Failing → Option Failing
first_failing (Some earlier) met f = Some earlier
first_failing None true f = None
first_failing None false f = Some f

-- an obligation is checked by its proof
pub record ChecksEntry (old : Checker) (e : Entry) (new : Checker) : Type 0 where
  pub seen : new.seen ≡ old.seen + 1
  pub settles : Settles old.seen old.failing (e ∷ []) new.failing

-- how many obligations more can be counted
abbrev pub uncounted : Checker → ℕ
uncounted checker = 18446744073709551615 - checker.seen
