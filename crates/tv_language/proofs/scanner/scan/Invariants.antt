use Rattle.std.proofs.Common.{◌-◌, ◌≤◌, ◌++◌, length, drop, List}
use Rattle.tv_language.specs.declared.token.Token.{Token}
use Rattle.tv_language.specs.Tokens.{IsTokens}
use Rattle.tv_language.proofs.scanner.scan.Given as goal

abbrev pub invariant-loop-n : goal.invariant-loop-n
invariant-loop-n l = record { within : l.at ≤ length l.text; rest : (r : List Token) → IsTokens l.at (drop l.at l.text) r → IsTokens 0 l.text (l.list.items ++ r) }

abbrev pub decreases-loop-n : goal.decreases-loop-n
decreases-loop-n l = length l.text - l.at
