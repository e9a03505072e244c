use Rattle.std.proofs.Common.{◌≡◌, [], List, take, drop, ap, sym, ◌∙◌, arith}
use Rattle.tv_language.specs.declared.token.Token.{Token}
use Rattle.tv_language.specs.Symbols.{lexemes, variable_words, label_words, by_first_place}
use Rattle.tv_reader.proofs.WordLemmas.{take_all, past_all}
use Rattle.tv_reader.proofs.words.first_words.Goals as goal

pub returns-clause-variables : goal.returns-clause-variables
returns-clause-variables c =
    let none : drop c.loop-token.token-index c.args.list.now ≡ [] = past_all c.args.list.now c.loop-token.token-index (omega (arith, c.loop-token-test.false)) in
    sym (take_all c.loop-token.known.variables 512 c.loop-token.invariant.variables)
    ∙ ap (λ (ts : List Token). take 512 (by_first_place c.loop-token.known.variables (variable_words c.loop-token.behind_colon (lexemes c.args.text.now ts)))) (sym none)
    ∙ c.loop-token.invariant.names

pub returns-clause-labels : goal.returns-clause-labels
returns-clause-labels c =
    let none : drop c.loop-token.token-index c.args.list.now ≡ [] = past_all c.args.list.now c.loop-token.token-index (omega (arith, c.loop-token-test.false)) in
    sym (take_all c.loop-token.known.labels 1024 c.loop-token.invariant.labels)
    ∙ ap (λ (ts : List Token). take 1024 (by_first_place c.loop-token.known.labels (label_words c.loop-token.behind_colon (lexemes c.args.text.now ts)))) (sym none)
    ∙ c.loop-token.invariant.places
