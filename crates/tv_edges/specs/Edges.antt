-- The edge that a case of a program is from.
use Rattle.std.specs.Prelude.{◌≡◌, ◌<◌, ◌-◌, ◌++◌, ℕ, suc, ℤ, List, ◌∷◌, [], length, map, All, Contains, slice_get, Some, Ok, nat_lt, if◌then◌else◌}
use Rattle.tv_linear.specs.Linear.{IsMet}
use Rattle.tv_linear.specs.Known.{term_value}
use Rattle.tv_linear.specs.Terms.{terms_after}
use Rattle.tv_program.specs.Trees.{Transition}
use Rattle.tv_program.specs.Meaning.{executed}
use Rattle.tv_program.specs.Systems.{System}
use Rattle.tv_cases.specs.LinearCases.{LinearCase}
use Rattle.tv_cases.specs.EdgeCases.{edge_cases}
use Rattle.tv_cases.specs.ProgramCases.{linear_cases}

-- in a program of n variables: the place of the edge whose cases, with those of the edges before it, go past case k
abbrev pub edge_at : ℕ → List Transition → ℕ → ℕ
edge_at n [] k = 0
edge_at n (e ∷ es) k = (if nat_lt k (length (edge_cases n e)) then 0 else suc (edge_at n es (k - length (edge_cases n e))))

-- the program has linear cases, and one of this number
pub record HasCase (p : System) (k : ℕ) : Type 0 where
  pub cases : List LinearCase
  pub are : linear_cases p ≡ Ok cases
  pub inside : k < length cases

-- case k of these is one of the cases of the edge with this number
pub record IsOfEdge (p : System) (cases : List LinearCase) (k number : ℕ) : Type 0 where
  pub edge : Transition
  pub there : slice_get p.edges number ≡ Some edge
  pub case : LinearCase
  pub taken : slice_get cases k ≡ Some case
  pub among : Contains (edge_cases (length p.variables) edge) case

-- The case goes where the edge does, with its draws, and where its guards are met at n values and as many draws, execution of the edge
-- gives the values of its updates.
pub record CaseGives (n : ℕ) (e : Transition) (c : LinearCase) : Type 0 where
  pub from : c.from ≡ e.from
  pub to : c.to ≡ e.to
  pub draws : c.draws ≡ e.draws
  pub gives : (xs ds : List ℤ) → length xs ≡ n → length ds ≡ e.draws → All (IsMet (xs ++ ds)) c.guards →
      executed e.instructions xs ds ≡ Some (map (term_value (xs ++ ds)) (terms_after n c.updates))
