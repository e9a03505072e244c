use Rattle.std.proofs.Common.{◌≡◌, ℕ, List, [], ◌∷◌, length, sym, subst, ◌∙◌, arith}
use Rattle.std.specs.Prelude.{IsTrue}
use Rattle.tv_language.specs.declared.token.TokenKind.TheVariants.{End}
use Rattle.tv_language.specs.declared.token.Token.{Token}
use Rattle.tv_language.specs.Tokens.{IsTokens}
use Rattle.tv_program.specs.Limits.{condition_fits}
use Rattle.tv_program.specs.Views.{condition}
use Rattle.tv_program.specs.Words.{Word}
use Rattle.tv_language.specs.Symbols.{fixed}
use Rattle.tv_language.proofs.DrawLemmas.{none_tested}
use Rattle.tv_reading.specs.Marks.{plain}
use Rattle.tv_spelling.specs.Named.{test_is_named}
use Rattle.tv_spelling.specs.ReadAgain.{IsConditionReadAgain}
use Rattle.tv_spelling.proofs.NamedLemmas.{test_fits_named}
use Rattle.tv_spelling.proofs.ReadTwice.{memory_alone, condition_twice}
use Rattle.texts_tests.proofs.spelling_again.condition_again.Goals as goal

pub write_condition-requires-clause-named : goal.write_condition-requires-clause-named
write_condition-requires-clause-named c =
    let e = condition c.in-Ok.tested in
    let u = c.condition.new.self in
    subst (λ (ws : List Word). IsTrue (test_is_named (length ws) e)) (sym c.finish-names.ensures) (test_fits_named (length u.names) u.draws e c.in-Ok.ensures.fits)

pub returns-in-Ok-condition : goal.returns-in-Ok-condition
returns-in-Ok-condition c =
    let e = condition c.in-Ok.tested in
    let u = c.condition.new.self in
    let bounded = c.if-draws-gt0.false in
    let zero : u.draws ≡ 0 = omega (arith, c.draws.ensures) in
    let undrawn = none_tested (length u.names) e (subst (λ (d : ℕ). IsTrue (condition_fits (length u.names) d e)) zero c.in-Ok.ensures.fits) in
    let scanned = subst (λ (ts : List Token). IsTokens 0 c.args.text.now ts) (sym c.deref.ensures.value) c.in_ok-list.ensures in
    let again = subst (λ (ts : List Token). IsTokens 0 c.deref-3.result.now ts) (sym c.deref-4.ensures.value) (subst (λ (text : List ℕ). IsTokens 0 text c.in_ok-tokens.tokens.items) (c.deref-2.ensures.value ∙ sym c.deref-3.ensures.value) c.in_ok-tokens.ensures) in
    let read = subst (λ (text : List ℕ). IsConditionReadAgain c.finish-names.result e text) (sym c.deref-3.ensures.value) c.in_ok-written.ensures.read in
    let found = condition_twice c.args.text.now c.deref-3.result.now c.deref.result.now c.deref-4.result.now c.new.result c.finish-names.result c.new-reading.result u c.new-second.result c.new.ensures c.new-reading.ensures scanned c.condition.ensures.passed c.finish-names.ensures again c.new-second.ensures e undrawn c.in-Ok.ensures.found read in
    (c.in-Ok-condition.ensures.only e (plain (fixed End) ∷ []) found).0

pub no_memory-requires : goal.no_memory-requires
no_memory-requires c =
    let e = condition c.in-Ok.tested in
    let u = c.condition.new.self in
    let bounded = c.if-draws-gt0.false in
    let zero : u.draws ≡ 0 = omega (arith, c.draws.ensures) in
    let undrawn = none_tested (length u.names) e (subst (λ (d : ℕ). IsTrue (condition_fits (length u.names) d e)) zero c.in-Ok.ensures.fits) in
    let scanned = subst (λ (ts : List Token). IsTokens 0 c.args.text.now ts) (sym c.deref.ensures.value) c.in_ok-list.ensures in
    let again = subst (λ (ts : List Token). IsTokens 0 c.deref-3.result.now ts) (sym c.deref-4.ensures.value) (subst (λ (text : List ℕ). IsTokens 0 text c.in_ok-tokens.tokens.items) (c.deref-2.ensures.value ∙ sym c.deref-3.ensures.value) c.in_ok-tokens.ensures) in
    let read = subst (λ (text : List ℕ). IsConditionReadAgain c.finish-names.result e text) (sym c.deref-3.ensures.value) c.in_ok-written.ensures.read in
    let found = condition_twice c.args.text.now c.deref-3.result.now c.deref.result.now c.deref-4.result.now c.new.result c.finish-names.result c.new-reading.result u c.new-second.result c.new.ensures c.new-reading.ensures scanned c.condition.ensures.passed c.finish-names.ensures again c.new-second.ensures e undrawn c.in-Ok.ensures.found read in
    memory_alone _ c.in-Err.fault (c.in-Err.ensures.only e (plain (fixed End) ∷ []) found)
