-- Cases by their numbers.
use Rattle.std.proofs.Common.{◌≡◌, ℕ, zero, suc, ◌+◌, ◌<◌, List, [], ◌∷◌, length, get_or, All, Option, Some, slice_get, arith, ap, subst}
use Rattle.tv_linear.specs.Linear.{columns}
use Rattle.tv_cases.specs.LinearCases.{CaseSystem, LinearCase, AreCases, IsCase}
use Rattle.tv_recur.specs.OwedRows.{IsTaking}
use Rattle.tv_recur.specs.declared.taking.Taking.{Taking}
use Rattle.tv_cases.specs.Systems.{cases_of}
use Rattle.tv_cases.specs.Views.{case_view}
use Rattle.tv_points.proofs.PlaceLemmas.{got_all}

-- ---- what stands in a list is read at its place
pub read_at : {A : Type 0} (xs : List A) (k : ℕ) (x : A) → k < length xs → get_or xs k x ≡ x → slice_get xs k ≡ Some x
read_at [] k x l e = absurd (omega (arith, l))
read_at (y ∷ xs) zero x l e = ap Some e
read_at (y ∷ xs) (suc k) x l e = read_at xs k x (omega (arith, l)) e

pub same_read : {A : Type 0} (o : Option A) (x y : A) → o ≡ Some x → o ≡ Some y → x ≡ y
same_read o x y e f = cc

-- ---- a case of a program
pub case_is : (about : CaseSystem) (k : ℕ) (c : LinearCase) → AreCases about → slice_get about.cases k ≡ Some c → IsCase about.variables about.locations c
case_is about k c all found = got_all (IsCase about.variables about.locations) about.cases k c all.cases found

pub taking_case : (t : Taking) → IsTaking t → IsCase (cases_of t.about.now).variables (cases_of t.about.now).locations (case_view t.case.now)
taking_case t h = case_is (cases_of t.about.now) t.number (case_view t.case.now) t.about.now.are_cases h.found

pub undrawn_wide : (n : ℕ) (c : LinearCase) → c.draws ≡ 0 → All (λ r. columns r ≡ n + c.draws) c.guards → All (λ r. columns r ≡ n) c.guards
undrawn_wide n c none h = subst (λ k. All (λ r. columns r ≡ k) c.guards) (let e : n + c.draws ≡ n = omega (arith, none) in e) h
