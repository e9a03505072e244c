use Rattle.std.proofs.Common.{◌≡◌, ℕ, List, ◌∷◌, ◌+◌, ◌-◌, drop, suc, ap, sym, ◌∙◌, arith}
use Rattle.tv_language.specs.Fronts.{end_of_last}
use Rattle.tv_language.proofs.FrontLemmas.{end_of_last-drop}
use Rattle.tv_language.proofs.front.name_front.Goals as goal

-- what is left after the first byte and n more
behind : (close reach r n : ℕ) (text rest back : List ℕ) → (byte : ℕ) × (text ≡ byte ∷ rest) → reach ≡ end_of_last close text → back ≡ drop n rest → r ≡ reach - (1 + n) → r ≡ end_of_last close back
behind close reach r n text rest back first h e d =
    let again : end_of_last close (drop (suc n) text) ≡ end_of_last close (drop n rest) = ap (λ t. end_of_last close (drop (suc n) t)) first.1 in
    d ∙ sym (ap (end_of_last close) e ∙ sym again ∙ end_of_last-drop close (suc n) text ∙ omega (arith, h))

pub word_front-requires-clause-semicolon : goal.word_front-requires-clause-semicolon
word_front-requires-clause-semicolon c = behind 59 _ _ _ _ _ _ c.requires.text c.requires.semicolon c.split_at-2.ensures.back c.saturating_sub.ensures

pub word_front-requires-clause-round : goal.word_front-requires-clause-round
word_front-requires-clause-round c = behind 41 _ _ _ _ _ _ c.requires.text c.requires.round c.split_at-2.ensures.back c.saturating_sub-2.ensures
