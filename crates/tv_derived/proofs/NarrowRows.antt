-- derived rows are narrow where those are that they come from
use Rattle.std.proofs.Common.{ℕ, zero, suc, ◌≤◌, List, [], ◌∷◌, ◌++◌, length, get_or, arith, ℤ, pos}
use Rattle.tv_linear.specs.Linear.{Linear, IsWithin}
use Rattle.tv_linear.specs.Arithmetic.{zeros}
use Rattle.tv_cases.specs.LinearCases.{CaseSystem}
use Rattle.tv_derived.specs.Scopes.{Scope, Placed}
use Rattle.tv_derived.specs.Derived.{IsDerived, AllNarrow, handed, never, guard, made, shorter, settled}
use Rattle.tv_derived.specs.Laws.{AreNarrowlyHanded}

-- each number of the list, and the one after it, is below 2^62 in magnitude
abbrev pub AreWithin : List ℤ → ℤ → Type 0
AreWithin cs k = (column : ℕ) → column ≤ length cs → IsWithin 62 (get_or cs column k)

zeros_within : (n : ℕ) (k : ℤ) → IsWithin 62 k → AreWithin (zeros n) k
zeros_within zero k h column l = h
zeros_within (suc n) k h zero l = omega arith
zeros_within (suc n) k h (suc column) l = zeros_within n k h column (omega arith)

less_within : (cs : List ℤ) (k : ℤ) → AreWithin (cs ++ pos 0 ∷ []) k → AreWithin cs k
less_within [] k h column l = h 1 (omega arith)
less_within (c ∷ cs) k h zero l = h 0 (omega arith)
less_within (c ∷ cs) k h (suc column) l = less_within cs k (λ j m. h (suc j) (omega arith)) column (omega arith)

module _ (about : CaseSystem) (base : List Placed) (handed_in : AreNarrowlyHanded about base) where
  pub narrow : {f : Scope} {h : ℕ} {r : Linear} → IsDerived about base f h r → AllNarrow r
  narrow (handed p among) = handed_in.rows p among
  narrow (never l) = zeros_within about.variables (pos 1) (omega arith)
  narrow (guard c r among of) = handed_in.guards c r among of
  narrow (made r d fits) = fits
  narrow (shorter r d) = less_within r.coefficients r.constant (narrow d)
  narrow (settled r d) = narrow d
