use Rattle.std.proofs.Common.{◌≡◌, ℕ, List, ◌+◌, ◌-◌, drop, ap, sym, ◌∙◌, arith}
use Rattle.tv_language.specs.Fronts.{end_of_last}
use Rattle.tv_language.proofs.FrontLemmas.{end_of_last-drop}
use Rattle.tv_language.proofs.front.span.Goals as goal

-- what is left after n bytes and one more
behind : (close reach r n : ℕ) (text rest back : List ℕ) → reach ≡ end_of_last close text → rest ≡ drop n text → back ≡ drop 1 rest → r ≡ reach - (n + 1) → r ≡ end_of_last close back
behind close reach r n text rest back h e f d =
    d ∙ sym (ap (end_of_last close) f ∙ end_of_last-drop close 1 rest ∙ ap (λ t. end_of_last close t - 1) e ∙ omega (arith, h, end_of_last-drop close n text))

pub place_of-requires : goal.place_of-requires
place_of-requires c = behind c.args.close _ _ _ _ _ _ c.requires.reach (c.split_at.ensures.back) c.split_at-2.ensures.back c.saturating_sub.ensures
