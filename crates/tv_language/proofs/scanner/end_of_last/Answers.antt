use Rattle.std.proofs.Common.{rules, ◌≡◌, ◌∙◌, ◌-◌, true, false, length, get_or, refl, sym, arith}
use Rattle.std.specs.Prelude.{◌==◌}
use Rattle.std.proofs.lemmas.Bool.Decides.{nat_tests}
use Rattle.tv_language.proofs.FrontLemmas.{end_of_last-last}
use Rattle.tv_language.proofs.scanner.end_of_last.Goals as goal

pub loop-rest-init : goal.loop-rest-init
loop-rest-init c = record { same = refl; within = omega arith }

pub returns-then-byte-close-clause-exact : goal.returns-then-byte-close-clause-exact
returns-then-byte-close-clause-exact c =
    let last : (get_or c.loop-rest.rest.now (length c.loop-rest.rest.now - 1) 0 == c.args.close) ≡ true = grind (arith, nat_tests) in
    sym (c.loop-rest.invariant.same ∙ end_of_last-last c.args.close c.loop-rest.rest.now c.in-len1-up.len_at_least ∙ rw last refl)

pub loop-rest-preserved : goal.loop-rest-preserved
loop-rest-preserved c =
    let other : (get_or c.loop-rest.rest.now (length c.loop-rest.rest.now - 1) 0 == c.args.close) ≡ false = grind (arith, nat_tests) in
    record { same = c.loop-rest.invariant.same ∙ end_of_last-last c.args.close c.loop-rest.rest.now c.in-len1-up.len_at_least ∙ rw other refl; within = search rules }
