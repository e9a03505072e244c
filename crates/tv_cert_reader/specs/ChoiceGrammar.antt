-- The lines of choices.
use Rattle.std.specs.Prelude.{ℕ, zero, suc, ◌+◌, Bool, true, false, List, length, Option, Some, None, slice_get, ◌==◌}
use Rattle.tv_grammar.specs.Langs.{mapped, stop, go, headed, each}
use Rattle.tv_lines.specs.Lines.{PlainLine, formed, formless, wide}
use Rattle.tv_lines.specs.declared.head.Head.TheVariants as heads
use Rattle.tv_cases.specs.LinearCases.{LinearCase, leaving}
use Rattle.tv_cert_reader.specs.declared.kind.LineKind.TheVariants.{Syntax, Wide, Shape}
use Rattle.tv_cert_reader.specs.Demands.{Demand, a_cover, a_choice, no_counts}
use Rattle.tv_cert_reader.specs.LineGrammar.{Grammar, Behind, many, by, draw, with_three}
use Rattle.tv_cert_reader.specs.CoverGrammar.{cover, both, empty_behind, sides_behind, too_deep}

-- what a choice is read with: how many variables there are, the cases, its location, whether it may show that there is no step, and how
-- many rows a target and fall owe after a case
pub record Choosing : Type 0 where
  pub variables : ℕ
  pub cases : List LinearCase
  pub place : ℕ
  pub may_stop : Bool
  pub counts : LinearCase → ℕ → ℕ → Option ℕ

-- a cover without targets of the known rows and the guards of a case
abbrev pub stop_cover : Bool → ℕ → ℕ → ℕ → LinearCase → Grammar (Unit {0})
stop_cover over left n known c = cover over left (n + c.draws) (known + length c.guards) no_counts

-- one for each case from the location
abbrev pub no_step : Bool → ℕ → Choosing → ℕ → Grammar (Unit {0})
no_step over left x known = mapped (λ all. tt) (each (stop_cover over left x.variables known) (leaving x.place x.cases))

abbrev pub no_step_behind : Grammar (Unit {0}) → Bool → Behind (Unit {0})
no_step_behind covers true = go covers
no_step_behind covers false = stop Shape

-- the case that is taken, and how many rows its target owes
pub record Taken : Type 0 where
  pub case : LinearCase
  pub owed : ℕ

abbrev pub taken_rows : LinearCase → Option ℕ → Option Taken
taken_rows c None = None
taken_rows c (Some count) = Some (record { case = c; owed = count })

abbrev pub only_where : Bool → Option Taken → Option Taken
only_where true t = t
only_where false t = None

-- a case is taken from its own location alone
abbrev pub taken_case : ℕ → (LinearCase → ℕ → ℕ → Option ℕ) → Option LinearCase → ℕ → ℕ → Option Taken
taken_case l counts None k j = None
taken_case l counts (Some c) k j = only_where (c.from == l) (taken_rows c (counts c k j))

-- the terms of its draws, and multipliers for its guards and what is owed
abbrev pub take_behind : ℕ → ℕ → Option Taken → Behind (Unit {0})
take_behind n known None = stop Shape
take_behind n known (Some t) = go (both (many t.case.draws (draw n)) (many (length t.case.guards + t.owed) (by (known + 1))))

-- what may stand after the first line of a choice
abbrev pub choice_cases : (Bool → Behind (Unit {0})) → Grammar (Unit {0}) → Choosing → ℕ → PlainLine → Behind (Unit {0})
choice_cases sides covers x known (formed heads.Split zs) = sides (length zs == x.variables + 1)
choice_cases sides covers x known (formed heads.Empty zs) = empty_behind (length zs == known)
choice_cases sides covers x known (formed heads.NoStep zs) = no_step_behind covers x.may_stop
choice_cases sides covers x known (formed heads.Take zs) = take_behind x.variables known (with_three zs (λ c k j. taken_case x.place x.counts (slice_get x.cases c) k j))
choice_cases sides covers x known (formed head zs) = stop Shape
choice_cases sides covers x known formless = stop Syntax
choice_cases sides covers x known wide = stop Wide

-- A choice with at most n splits on a path, its covers' counted. n is the second argument. `over` lets one more through.
unfoldable pub choice : Bool → ℕ → Choosing → ℕ → Grammar (Unit {0})
choice over zero x known = headed Syntax (choice_cases (too_deep over) (no_step over 0 x known) x known)
choice over (suc left) x known =
    headed Syntax (choice_cases (sides_behind (go (both (choice over left x (known + 1)) (choice over left x (known + 1))))) (no_step over (suc left) x known) x known)

-- what is wanted, with at most 128 splits on a path
abbrev pub demanded : Bool → Demand → Grammar (Unit {0})
demanded over (a_cover width known counts) = cover over 128 width known counts
demanded over (a_choice n cases l may_stop known counts) = choice over 128 (record { variables = n; cases = cases; place = l; may_stop = may_stop; counts = counts }) known
