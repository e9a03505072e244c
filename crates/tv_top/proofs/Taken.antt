use Rattle.std.proofs.Common.{◌≡◌, inl, inr, refl, suc, arith, sym, ap, ◌∙◌, length, ◌==◌, List, [], ◌∷◌, true, None, if◌then◌else◌}
use Rattle.std.proofs.lemmas.Bool.{ne_eqb}
use Rattle.clap.specs.Walk.{Text, rows_of}
use Rattle.clap.specs.Matches.{found_of}
use Rattle.clap.specs.Simple.{App, HasMatchesOf, is_simple, matches_of}
use Rattle.clap.specs.Faults.{fault_of, is_simple_and_free}
use Rattle.clap.specs.Kinds.{Kinds, HasKind, IsAmong}
use Rattle.clap.specs.Values.{kind_of}
use Rattle.clap.specs.declared.error.Error.{Error}
use Rattle.clap.specs.declared.error.kind.ErrorKind.{ErrorKind}
use Rattle.clap.specs.declared.error.kind.ErrorKind.TheVariants.{OutOfMemory}
use Rattle.clap.specs.declared.parser.matches.ArgMatches.{ArgMatches}
use Rattle.tv_top.specs.CommandLine.{command}
use Rattle.tv_top.specs.Tasks.{task_in, task_of}

pub simple : is_simple command ≡ true
simple = refl

pub simple_and_free : is_simple_and_free command ≡ true
simple_and_free = refl

-- what was matched gives the task of the words
pub taken : (a : App) (words : List Text) (m : ArgMatches) → a ≡ command → (is_simple_and_free a ≡ true → fault_of a words ≡ []) → HasMatchesOf a words m → task_in (rows_of (found_of m)) ≡ task_of words
taken a words m e k h =
    let f : fault_of command words ≡ [] = ap (λ c. fault_of c words) (sym e) ∙ k (ap is_simple_and_free e ∙ simple_and_free) in
    let r : rows_of (found_of m) ≡ matches_of command words = (h (ap is_simple e ∙ simple)).0 ∙ ap (λ c. matches_of c words) e in
    ap task_in r ∙ sym (ap (λ (x : Kinds). if length x == 0 then task_in (matches_of command words) else None) f)

-- words of which some kind of error comes ask for nothing
unasked : (words : List Text) (kinds : Kinds) → fault_of command words ≡ kinds → (kind : ErrorKind) → IsAmong kind kinds → None ≡ task_of words
unasked words [] e kind among = absurd among
unasked words (k ∷ kinds) e kind among =
    sym (ap (λ (x : Kinds). if length x == 0 then task_in (matches_of command words) else None) e
    ∙ ap (λ b. if b then task_in (matches_of command words) else None) (ne_eqb (suc (length kinds)) 0 (λ z. omega (arith, z))))

-- words that are not taken, and not for want of memory, ask for nothing
pub untaken : (a : App) (words : List Text) (error : Error) → a ≡ command → (is_simple_and_free a ≡ true → HasKind (fault_of a words) error) → (kind_of error ≡ OutOfMemory → ⊥) → None ≡ task_of words
untaken a words error e kinds enough = by_kind (kinds (ap is_simple_and_free e ∙ simple_and_free))
  where
    by_kind : HasKind (fault_of a words) error → None ≡ task_of words
    by_kind (inl m) = absurd (enough m)
    by_kind (inr among) = unasked words (fault_of a words) (ap (λ c. fault_of c words) (sym e)) (kind_of error) among
