use Rattle.std.proofs.Common.{◌≡◌, ◌≤◌, ◌+◌, ◌∷◌, [], length, take, ap, sym, subst, ◌∙◌, arith, List, ℕ, add-one}
use Rattle.tv_program.specs.Words.{Word, words_with}
use Rattle.tv_language.specs.Symbols.{by_first_place}
use Rattle.tv_reader.proofs.WordLemmas.{place_next, length_more, led_no_longer, some_is, take_all}
use Rattle.tv_reader.proofs.words.moved_in_front.Goals as goal

pub loop-number-preserved : goal.loop-number-preserved
loop-number-preserved c =
    let added : c.put-in-loop-number.new.self ≡ words_with c.text.result.now c.loop-number.names = c.in_ok-put-2.ensures.added in
    let bounded : length c.put-in-loop-number.new.self ≤ length c.loop-number.names + 1 = subst (λ (ws : List Word). length ws ≤ length c.loop-number.names + 1) (sym added) (length_more c.loop-number.names c.text.result.now) in
    record {
      placed = added ∙ ap (λ (ws : List Word). words_with c.text.result.now ws) c.loop-number.invariant.placed ∙ sym (ap (λ (n : ℕ). by_first_place (c.args.word.now ∷ []) (take n c.args.labels.now)) (add-one c.loop-number.number) ∙ place_next (c.args.word.now ∷ []) c.args.labels.now c.loop-number.number c.text.result.now c.text.ensures);
      bounded = omega (arith, bounded, c.loop-number.invariant.bounded);
    }

pub returns-clause-bounded : goal.returns-clause-bounded
returns-clause-bounded c =
    let moved : c.loop-number.names ≡ by_first_place (c.args.word.now ∷ []) c.args.labels.now = c.loop-number.invariant.placed ∙ ap (by_first_place (c.args.word.now ∷ [])) (take_all c.args.labels.now c.loop-number.number (omega (arith, c.loop-number-test.false, c.len-number-end.ensures.counted))) in
    let no_longer = led_no_longer c.args.word.now c.args.labels.now (some_is _ c.requires.among) in
    let bounded : length c.loop-number.names ≤ length c.args.labels.now = subst (λ (ws : List Word). length ws ≤ length c.args.labels.now) (sym moved) no_longer in
    omega (arith, bounded, c.requires.bounded)
