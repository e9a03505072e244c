-- What the words ask for.
use Rattle.std.specs.Prelude.{ℕ, ◌+◌, ◌==◌, List, [], ◌∷◌, length, Bool, true, false, ◌&&◌, not, nat_lt, Option, None, Some, option_and_then, option_map, codes, if◌then◌else◌}
use Rattle.std.specs.Char.{is_ascii_digit}
use Rattle.std.specs.List.{list_all}
use Rattle.std.specs.Option.{option_map_or}
use Rattle.std.specs.Str.{bytes_eq}
use Rattle.clap.specs.Walk.{Row, Text, first_of}
use Rattle.clap.specs.Simple.{matches_of}
use Rattle.clap.specs.Faults.{fault_of}
use Rattle.tv_language.specs.Numbers.{value_of_digits}
use Rattle.tv_top.specs.CommandLine.{command}

-- a property that words can name
pub data Query : Type 0 where
  -- no run comes to the location with this label
  safety : Text → Query
  -- every run ends
  termination : Query
  -- the formula with this text
  ctl : Text → Query
  -- on every run the formula with this text, which is one of states, holds only finitely often
  finitely : Text → Query

-- how far a search goes
pub record Limits : Type 0 where
  -- how many bases of a linear system are tried
  pub pivots : ℕ
  -- how many splits lie on a path
  pub splits : ℕ
  -- how many pieces a region has
  pub disjuncts : ℕ

-- what is written after `Proved`, or after `Disproved` and its values
pub data Wanted : Type 0 where
  nothing_more : Wanted
  -- the text of the certificate that is found
  its_text : Wanted
  -- how many loops, cases and obligations there are, of a program with n loops that is made
  its_counts : ℕ → Wanted
  -- the first states of a run that never ends, at most n
  its_trace : ℕ → Wanted

pub record Task : Type 0 where
  pub query : Query
  -- a certificate follows the program, and is to be checked
  pub checks : Bool
  pub wanted : Wanted
  pub limits : Limits

-- how many loops the program has, where it is made and not read
abbrev pub made_loops : Wanted → Option ℕ
made_loops nothing_more = None
made_loops its_text = None
made_loops (its_counts loops) = Some loops
made_loops (its_trace states) = None

-- ---- numbers

-- there is a first byte, which is not the digit 0
abbrev pub begins_above_zero : Text → Bool
begins_above_zero [] = false
begins_above_zero (b ∷ bs) = not (b == 48)

-- decimal digits, and the first is not 0
abbrev pub is_decimal : Text → Bool
is_decimal word = begins_above_zero word && list_all is_ascii_digit word

-- the number from 1 to a greatest one that a word writes
abbrev pub number_within : ℕ → Text → Option ℕ
number_within most word = if is_decimal word && nat_lt (value_of_digits word) (most + 1) then Some (value_of_digits word) else None

-- the number that an option gives, and the usual one where it is not there
abbrev pub limit_of : ℕ → ℕ → Option Text → Option ℕ
limit_of most usual None = Some usual
limit_of most usual (Some word) = number_within most word

-- ---- what was matched

abbrev pub is_given : Text → List Row → Bool
is_given name rows = option_map_or (λ value. bytes_eq value (codes "true")) (first_of name rows) false

-- the one property that is named by termination, safety or a formula over runs
abbrev pub query_named : Bool → Option Text → Option Text → Option Query
query_named true None None = Some termination
query_named false (Some label) None = Some (safety label)
query_named false None (Some text) = Some (ctl text)
query_named true None (Some text) = None
query_named true (Some label) formula = None
query_named false None None = None
query_named false (Some label) (Some text) = None

-- where no property is named so
abbrev pub unless_named : Bool → Option Text → Option Text → Option Query → Option Query
unless_named true label formula query = None
unless_named false (Some label) formula query = None
unless_named false None (Some text) query = None
unless_named false None None query = query

-- the one property that is named, where the program is read
abbrev pub query_read : Bool → Option Text → Option Text → Option Text → Option Query
query_read terminates label formula None = query_named terminates label formula
query_read terminates label formula (Some visited) = unless_named terminates label formula (Some (finitely visited))

-- of a program that is made it is asked whether every run ends
abbrev pub query_made : Bool → Option Text → Option Text → Option Text → Option Query
query_made terminates label formula None = unless_named terminates label formula (Some termination)
query_made terminates label formula (Some visited) = None

abbrev pub query_of_made : Option Text → Bool → Option Text → Option Text → Option Text → Option Query
query_of_made None terminates label formula visited = query_read terminates label formula visited
query_of_made (Some loops) terminates label formula visited = query_made terminates label formula visited

abbrev pub query_in : List Row → Option Query
query_in rows =
    query_of_made (first_of (codes "generate") rows) (is_given (codes "termination") rows) (first_of (codes "safety") rows)
    (first_of (codes "ctl") rows) (first_of (codes "finitely") rows)

-- what is written after the verdict: a certificate, states, or of a program that is made, numbers alone
abbrev pub wanted_of : Bool → Option Text → Option Text → Option Wanted
wanted_of writes None None = Some (if writes then its_text else nothing_more)
wanted_of true (Some states) None = None
wanted_of false (Some states) None = option_map its_trace (number_within 1000 states)
wanted_of true None (Some loops) = None
wanted_of false None (Some loops) = option_map its_counts (number_within 1000 loops)
wanted_of writes (Some states) (Some loops) = None

abbrev pub wanted_in : List Row → Option Wanted
wanted_in rows = wanted_of (is_given (codes "certificate") rows) (first_of (codes "trace") rows) (first_of (codes "generate") rows)

abbrev pub limits_in : List Row → Option Limits
limits_in rows =
    option_and_then (λ pivots. option_and_then (λ splits. option_and_then (λ disjuncts. Some (record {
      pivots = pivots;
      splits = splits;
      disjuncts = disjuncts;
    })) (limit_of 4096 256 (first_of (codes "disjuncts") rows))) (limit_of 128 64 (first_of (codes "splits") rows)))
    (limit_of 1000000 100000 (first_of (codes "pivots") rows))

-- certificates are of formulas, and so not of what holds only finitely often
abbrev pub has_certificates : Query → Bool
has_certificates termination = true
has_certificates (safety label) = true
has_certificates (ctl text) = true
has_certificates (finitely text) = false

-- states are written only where it is asked whether every run ends
abbrev pub is_answerable : Wanted → Query → Bool
is_answerable (its_trace states) termination = true
is_answerable (its_trace states) (safety label) = false
is_answerable (its_trace states) (ctl text) = false
is_answerable (its_trace states) (finitely text) = false
is_answerable nothing_more query = true
is_answerable its_text query = has_certificates query
is_answerable (its_counts loops) query = has_certificates query

-- where a certificate is to be checked, nothing is written after the verdict
abbrev pub task_checked : Wanted → Query → Limits → Option Task
task_checked nothing_more query limits =
    if has_certificates query then Some (record { query = query; checks = true; wanted = nothing_more; limits = limits }) else None
task_checked its_text query limits = None
task_checked (its_counts loops) query limits = None
task_checked (its_trace states) query limits = None

abbrev pub task_with : Bool → Wanted → Query → Limits → Option Task
task_with true wanted query limits = task_checked wanted query limits
task_with false wanted query limits =
    if is_answerable wanted query then Some (record { query = query; checks = false; wanted = wanted; limits = limits }) else None

abbrev pub task_in : List Row → Option Task
task_in rows =
    option_and_then (λ query. option_and_then (λ limits. option_and_then (λ wanted. task_with (is_given (codes "check") rows) wanted query limits)
    (wanted_in rows)) (limits_in rows)) (query_in rows)

-- ---- the words

-- the command takes the words
abbrev pub are_taken : List Text → Bool
are_taken words = length (fault_of command words) == 0

-- what the words ask for, if anything
abbrev pub task_of : List Text → Option Task
task_of words = if are_taken words then task_in (matches_of command words) else None
