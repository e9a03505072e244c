-- How many pieces the region of an atom has.
use Rattle.std.proofs.Common.{◌≡◌, ℕ, ◌<◌, ◌≤◌, ◌==◌, length, refl, sym, subst, arith, Bool, true, false}
use Rattle.std.specs.Prelude.{not, nat_lt}
use Rattle.std.proofs.lemmas.Bool.Decides.{nat_tests}
use Rattle.tv_formula.specs.Properties.{Property}
use Rattle.tv_formula.specs.Properties as props
use Rattle.tv_linear.specs.declared.region.Region.{Region}
use Rattle.tv_cases.specs.LinearCases.{CaseSystem}
use Rattle.tv_cert.specs.Obligations.{truth_targets}
use Rattle.tv_known.specs.Sizes.{count, negated_count, comparison_count}
use Rattle.tv_region.specs.Regions.{count_at}
use Rattle.tv_pre.specs.declared.test.Test.{Test}
use Rattle.tv_pre.specs.declared.test.Test.TheVariants.{Rows, Here, Elsewhere}
use Rattle.tv_pre.specs.Atoms.{IsTested, IsTestOf, test_lists}
use Rattle.tv_pre.proofs.ComingLemmas.{past_lists}
use Rattle.tv_pre.proofs.SizedLemmas.{none_less, comparison_few}

module _ (about : CaseSystem) where
  truth_few : (b : Bool) → length (truth_targets b) ≤ 1
  truth_few true = omega arith
  truth_few false = omega arith

  -- the lists of a test are no more than the formula counts that it is
  pub test_few : (m : ℕ) (t : Test) (f : Property) → IsTestOf about.variables t f → (l : ℕ) → length (test_lists t l) ≤ count about.cases m f l
  test_few m (Rows lists) (props.truth b) e l = subst (λ ls. length ls ≤ 1) (sym e) (truth_few b)
  test_few m (Rows lists) (props.compare r a b) e l = subst (λ ls. length ls ≤ comparison_count r) (sym e) (comparison_few about.variables r a b)
  test_few m (Rows lists) (props.at k) e l = absurd e
  test_few m (Rows lists) props.term e l = absurd e
  test_few m (Rows lists) (props.negated f) e l = absurd e
  test_few m (Rows lists) (props.all_of fs) e l = absurd e
  test_few m (Rows lists) (props.some_of fs) e l = absurd e
  test_few m (Rows lists) (props.next path f) e l = absurd e
  test_few m (Rows lists) (props.fix path shape f g) e l = absurd e
  test_few m (Here k) (props.at j) e l = truth_few (l == k)
  test_few m (Here k) (props.truth b) e l = absurd e
  test_few m (Here k) (props.compare r a b) e l = absurd e
  test_few m (Here k) props.term e l = absurd e
  test_few m (Here k) (props.negated f) e l = absurd e
  test_few m (Here k) (props.all_of fs) e l = absurd e
  test_few m (Here k) (props.some_of fs) e l = absurd e
  test_few m (Here k) (props.next path f) e l = absurd e
  test_few m (Here k) (props.fix path shape f g) e l = absurd e
  test_few m (Elsewhere k) (props.negated f) e l = denied_few f e where
    denied_few : (f : Property) → IsTestOf about.variables (Elsewhere k) (props.negated f) → length (test_lists (Elsewhere k) l) ≤ negated_count about.cases m f l
    denied_few (props.at j) e = truth_few (not (l == k))
    denied_few (props.truth b) e = absurd e
    denied_few (props.compare r a b) e = absurd e
    denied_few props.term e = absurd e
    denied_few (props.negated f) e = absurd e
    denied_few (props.all_of fs) e = absurd e
    denied_few (props.some_of fs) e = absurd e
    denied_few (props.next path f) e = absurd e
    denied_few (props.fix path shape f g) e = absurd e
  test_few m (Elsewhere k) (props.at j) e l = absurd e
  test_few m (Elsewhere k) (props.truth b) e l = absurd e
  test_few m (Elsewhere k) (props.compare r a b) e l = absurd e
  test_few m (Elsewhere k) props.term e l = absurd e
  test_few m (Elsewhere k) (props.all_of fs) e l = absurd e
  test_few m (Elsewhere k) (props.some_of fs) e l = absurd e
  test_few m (Elsewhere k) (props.next path f) e l = absurd e
  test_few m (Elsewhere k) (props.fix path shape f g) e l = absurd e

  -- at a location of the program, and past the last one
  pub tested_few : (t : Test) (region : Region) → IsTested about t region → (n l : ℕ) → length (test_lists t l) ≤ n → count_at l region ≤ n
  tested_few t region h n l bounded = by_place (nat_lt l about.locations) refl where
    by_place : (b : Bool) → nat_lt l about.locations ≡ b → count_at l region ≤ n
    by_place true e = subst (λ ls. length ls ≤ n) (sym (h.lists l (let k : l < about.locations = grind (arith, nat_tests, e) in k))) bounded
    by_place false e = subst (λ ls. length ls ≤ n) (sym (past_lists about.variables about.locations l region.pieces.items h.over.pieces (let k : about.locations ≤ l = grind (arith, nat_tests, e) in k))) (none_less n)
