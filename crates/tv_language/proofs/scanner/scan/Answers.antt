use Rattle.std.proofs.Common.{◌≡◌, ℕ, List, ◌-◌, drop, length, length-drop, arith, ap, sym, ◌∙◌}
use Rattle.tv_language.specs.Fronts.{end_of_last, front_of}
use Rattle.tv_language.specs.Tokens.{end, unread}
use Rattle.tv_language.proofs.FrontLemmas.{end_of_last-drop}
use Rattle.tv_language.proofs.ScanLemmas.{after_gap, after_token, at_last}
use Rattle.tv_language.proofs.scanner.scan.Goals as goal

behind : (close reach r at : ℕ) (text rest : List ℕ) → reach ≡ end_of_last close text → rest ≡ drop at text → r ≡ reach - at → r ≡ end_of_last close rest
behind close reach r at text rest h e d = d ∙ sym (ap (end_of_last close) e ∙ end_of_last-drop close at text ∙ omega (arith, h))

pub front_at-requires-clause-semicolon : goal.front_at-requires-clause-semicolon
front_at-requires-clause-semicolon c = behind 59 _ _ _ _ _ c.end_of_last-semicolon.ensures.exact c.split_at.ensures.back c.saturating_sub.ensures

pub front_at-requires-clause-round : goal.front_at-requires-clause-round
front_at-requires-clause-round c = behind 41 _ _ _ _ _ c.end_of_last-round.ensures.exact c.split_at.ensures.back c.saturating_sub-in-loop-n.ensures

pub loop-n-preserved-in-Gap : goal.loop-n-preserved-in-Gap
loop-n-preserved-in-Gap c = record { within = omega (arith, c.in-Gap.ensures.fits, ap length c.split_at.ensures.back, length-drop c.loop-n.at c.args.text.now); rest = λ r is. after_gap _ _ _ _ _ _ c.loop-n.invariant.rest c.split_at.ensures.back c.in-Gap.ensures.exact is }

pub loop-n-preserved : goal.loop-n-preserved
loop-n-preserved c = record { within = omega (arith, c.in-Token.ensures.fits, ap length c.split_at.ensures.back, length-drop c.loop-n.at c.args.text.now); rest = λ r is. after_token _ _ _ _ _ _ _ _ c.loop-n.invariant.rest c.in_ok-push-in-Token.ensures.items c.split_at.ensures.back c.in-Token.ensures.exact is }

pub returns-in-End : goal.returns-in-End
returns-in-End c = at_last _ _ _ _ _ c.loop-n.invariant.rest c.in_ok-push-in-End.ensures.items (end (ap front_of (sym c.split_at.ensures.back) ∙ sym c.in-End.ensures.exact))

pub returns-in-Unread : goal.returns-in-Unread
returns-in-Unread c = at_last _ _ _ _ _ c.loop-n.invariant.rest c.in_ok-push-in-Unread.ensures.items (unread (ap front_of (sym c.split_at.ensures.back) ∙ sym c.in-Unread.ensures.exact))
