-- The number of a word that is seen at a place.
use Rattle.std.proofs.Common.{◌≡◌, ℕ, zero, suc, Bool, false, List, [], ◌∷◌, Some, ap, sym, subst, ◌∙◌}
use Rattle.std.proofs.lemmas.Slice.Eq.{bytes_eq-Decides}
use Rattle.std.specs.Prelude.{slice_get}
use Rattle.std.specs.List.{AllByRecursion, IsDistinct}
use Rattle.std.specs.Str.{bytes_eq}
use Rattle.tv_program.specs.Words.{Word, number_of}
use Rattle.tv_language.proofs.PlaceOfWords.{shifted, here_or, number_first}
use Rattle.tv_program.proofs.WordLemmas.{differs_too}

differs_from : (x : Word) (ws : List Word) (n : ℕ) (w : Word) → slice_get ws n ≡ Some w → AllByRecursion (λ v. bytes_eq x v ≡ false) ws → bytes_eq x w ≡ false
differs_from x [] n w e h = absurd cc
differs_from x (v ∷ ws) zero w e h = let is : v ≡ w = cc in subst (λ (u : Word). bytes_eq x u ≡ false) is h.0
differs_from x (v ∷ ws) (suc n) w e h = differs_from x ws n w e h.1

-- Where no two words are the same, a word has the number of its place.
pub number_at : (ws : List Word) (n : ℕ) (w : Word) → slice_get ws n ≡ Some w → IsDistinct bytes_eq ws → number_of w ws ≡ Some n
unfolding IsDistinct
number_at [] n w e h = absurd cc
number_at (x ∷ ws) zero w e h = let is : x ≡ w = cc in number_first w x ws ∙ ap (λ (b : Bool). here_or b (number_of w ws)) ((bytes_eq-Decides w x).1 (sym is))
number_at (x ∷ ws) (suc n) w e h = number_first w x ws ∙ ap (λ (b : Bool). here_or b (number_of w ws)) (differs_too x w (differs_from x ws n w e h.0)) ∙ ap shifted (number_at ws n w e h.1)
