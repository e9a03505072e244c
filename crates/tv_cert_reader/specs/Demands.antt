-- What proofs a node wants, by what the lines of its pieces say.
use Rattle.std.specs.Prelude.{◌≡◌, ℕ, zero, suc, ◌+◌, List, [], ◌∷◌, length, map, slice_get, Option, None, Some, Bool, true, false, not, nat_lt, ◌==◌, if◌then◌else◌}
use Rattle.std.specs.List.{filter, flat_map}
use Rattle.std.specs.Option.{option_map}
use Rattle.tv_formula.specs.declared.tree.Path.{Path}
use Rattle.tv_formula.specs.declared.tree.Path.TheVariants.{Every, Any}
use Rattle.tv_formula.specs.declared.tree.Shape.{Shape}
use Rattle.tv_formula.specs.declared.tree.Shape.TheVariants.{Until, Weak, Release, Strong}
use Rattle.tv_linear.specs.Linear.{Linear}
use Rattle.tv_cases.specs.LinearCases.{LinearCase, CaseSystem, leaving}
use Rattle.tv_cert.specs.declared.node.Marked.{Marked}
use Rattle.tv_cert.specs.Pieces.{place_of, rows_of, goes}
use Rattle.tv_cert.specs.Obligations.{Owed, hold_side, end_sides}
use Rattle.tv_cert.specs.Obligations as obligations
use Rattle.tv_cert.specs.Shapes.{owed_count}
use Rattle.tv_cert.specs.Statements.{Statement, rows, here, elsewhere, ends, never_ends, each_of, one_of, after, along, unsaid}

-- what of a piece the shape of proofs rests on: its location, whether it goes on, and how many rows it has
pub record Outline : Type 0 where
  pub place : ℕ
  pub going : Bool
  pub rows : ℕ

abbrev pub outline : Marked → Outline
outline p = record { place = place_of p; going = goes p; rows = length (rows_of p) }

abbrev pub outlines : List Marked → List Outline
outlines ps = map outline ps

-- the pieces at a location, in order
abbrev pub outlines_at : List Outline → ℕ → List Outline
outlines_at os l = filter (λ o. o.place == l) os

-- ---- how many rows are owed on entering a target, given its number and that of the fall

-- how many rows a fall owes: where there are m ranks, fall 1 to m on entering a piece that goes on, and else none
abbrev pub fall_count : Option ℕ → Bool → ℕ → Option ℕ
fall_count None going zero = Some 0
fall_count None going (suc j) = None
fall_count (Some m) false zero = Some 0
fall_count (Some m) false (suc j) = None
fall_count (Some m) true zero = None
fall_count (Some m) true (suc j) = if nat_lt j m then Some (j + 2) else None

abbrev pub entered_count : Option ℕ → Option Outline → ℕ → Option ℕ
entered_count falls None j = None
entered_count falls (Some o) j = option_map (λ n. o.rows + n) (fall_count falls o.going j)

-- the targets are the pieces at a location, in order
abbrev pub into_counts : Option ℕ → List Outline → ℕ → ℕ → ℕ → Option ℕ
into_counts falls os l k j = entered_count falls (slice_get (outlines_at os l) k) j

-- the targets are lists, and `counts` has the number of rows of each
abbrev pub list_counts : List ℕ → ℕ → ℕ → Option ℕ
list_counts counts k zero = slice_get counts k
list_counts counts k (suc j) = None

-- true has one target without rows, and false has none
abbrev pub truth_counts : Bool → ℕ → ℕ → Option ℕ
truth_counts true = list_counts (0 ∷ [])
truth_counts false = list_counts []

-- there is no target
abbrev pub no_counts : ℕ → ℕ → Option ℕ
no_counts k j = None

-- ---- what is wanted

pub data Demand : Type 0 where
  -- a cover: how many columns its split rows have, how many rows are known, and how many a target and fall owe
  a_cover : ℕ → ℕ → (ℕ → ℕ → Option ℕ) → Demand
  -- a choice over n variables, with these cases, at a location, where it may show that there is no step or may not; how many rows
  -- are known, and how many a target and fall owe after a case
  a_choice : ℕ → List LinearCase → ℕ → Bool → ℕ → (LinearCase → ℕ → ℕ → Option ℕ) → Demand

-- what is wanted for what is owed
abbrev pub demand_of : Owed → Demand
demand_of (obligations.a_cover n known owed) = a_cover n (length known) (owed_count owed)
demand_of (obligations.a_choice n cases l stop owed known) = a_choice n cases l stop (length known) (λ c. owed_count (owed c []))
demand_of (obligations.a_point xs met) = a_cover 0 0 no_counts

-- a cover of a piece
abbrev pub cover_demand : CaseSystem → Outline → (ℕ → ℕ → Option ℕ) → Demand
cover_demand system o counts = a_cover system.variables o.rows counts

-- a cover of a piece by the pieces of a region at its location
abbrev pub into_demand : CaseSystem → Outline → List Outline → Demand
into_demand system o into = cover_demand system o (into_counts None into o.place)

-- a cover of a piece and the guards of a case by the pieces where the case leads
abbrev pub step_demand : CaseSystem → Outline → Option ℕ → List Outline → LinearCase → Demand
step_demand system o falls into c = a_cover (system.variables + c.draws) (o.rows + length c.guards) (into_counts falls into c.to)

-- one for each case from the location of the piece
abbrev pub step_demands : CaseSystem → Outline → Option ℕ → List Outline → List Demand
step_demands system o falls into = map (step_demand system o falls into) (leaving o.place system.cases)

abbrev pub choice_demand : CaseSystem → Outline → Bool → (LinearCase → ℕ → ℕ → Option ℕ) → Demand
choice_demand system o stop counts = a_choice system.variables system.cases o.place stop o.rows counts

-- a choice of a case into the pieces where it leads
abbrev pub case_counts : Option ℕ → List Outline → LinearCase → ℕ → ℕ → Option ℕ
case_counts falls into c = into_counts falls into c.to

-- what follows the hold cover of a piece that goes on, where there are m ranks
abbrev pub go_demands : CaseSystem → Path → Shape → ℕ → List Outline → Outline → List Demand
go_demands system Every Until m os o = choice_demand system o false (λ c. truth_counts true) ∷ step_demands system o (Some m) os
go_demands system Every Strong m os o = choice_demand system o false (λ c. truth_counts true) ∷ step_demands system o (Some m) os
go_demands system Every Weak m os o = step_demands system o None os
go_demands system Every Release m os o = step_demands system o None os
go_demands system Any Until m os o = choice_demand system o false (case_counts (Some m) os) ∷ []
go_demands system Any Strong m os o = choice_demand system o false (case_counts (Some m) os) ∷ []
go_demands system Any Weak m os o = choice_demand system o true (case_counts None os) ∷ []
go_demands system Any Release m os o = choice_demand system o true (case_counts None os) ∷ []

-- what a piece of a fixpoint wants, where a and b are the pieces of its arguments, and it goes on or is done
abbrev pub fix_demands : CaseSystem → Path → Shape → ℕ → List Outline → List Outline → List Outline → Outline → Bool → List Demand
fix_demands system path shape m os a b o false = map (into_demand system o) (end_sides shape a b)
fix_demands system path shape m os a b o true = into_demand system o (hold_side shape a b) ∷ go_demands system path shape m os o

abbrev pub first_outlines : List (List Outline) → List Outline
first_outlines [] = []
first_outlines (a ∷ kids) = a

abbrev pub second_outlines : List (List Outline) → List Outline
second_outlines [] = []
second_outlines (a ∷ kids) = first_outlines kids

-- what a node with m ranks wants at one of its pieces, told all its pieces and those of its children
abbrev pub demands_at : CaseSystem → Statement → ℕ → List Outline → List (List Outline) → Outline → List Demand
demands_at system (rows lists) m os kids o = cover_demand system o (list_counts (map length lists)) ∷ []
demands_at system (here l) m os kids o = cover_demand system o (truth_counts (o.place == l)) ∷ []
demands_at system (elsewhere l) m os kids o = cover_demand system o (truth_counts (not (o.place == l))) ∷ []
demands_at system ends m os kids o = step_demands system o (Some m) os
demands_at system never_ends m os kids o = choice_demand system o false (case_counts None os) ∷ []
demands_at system (each_of ss) m os kids o = map (into_demand system o) kids
demands_at system (one_of ss) m os kids o = into_demand system o (flat_map (λ a. a) kids) ∷ []
demands_at system (after Every s) m os kids o = step_demands system o None (first_outlines kids)
demands_at system (after Any s) m os kids o = choice_demand system o false (case_counts None (first_outlines kids)) ∷ []
demands_at system (along path shape s t) m os kids o = fix_demands system path shape m os (first_outlines kids) (second_outlines kids) o o.going
demands_at system unsaid m os kids o = []

-- what it wants, by pieces in order
abbrev pub demands : CaseSystem → Statement → ℕ → List Outline → List (List Outline) → List Demand
demands system s m os kids = flat_map (demands_at system s m os kids) os

-- how many rows a choice owes does not depend on the terms of its draws
abbrev pub IsDrawFree : Owed → Type 0
IsDrawFree (obligations.a_cover n known owed) = Unit {0}
IsDrawFree (obligations.a_choice n cases l stop owed known) = (c : LinearCase) (draws : List Linear) → owed_count (owed c draws) ≡ owed_count (owed c [])
IsDrawFree (obligations.a_point values needed) = Unit {0}
