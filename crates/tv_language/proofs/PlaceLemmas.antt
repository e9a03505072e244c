-- The word that was seen first keeps the number 0.
use Rattle.std.proofs.Common.{◌≡◌, ℕ, suc, true, List, [], ◌∷◌, ◌++◌, length, Option, Some, None, refl, ap, ◌∙◌, arith}
use Rattle.std.proofs.lemmas.Bool.{lt-ltb}
use Rattle.std.specs.Str.{bytes_eq}
use Rattle.std.proofs.lemmas.Slice.Eq.{bytes_eq-Decides}
use Rattle.tv_program.specs.Words.{Word, number_of, words_with, with_new}
use Rattle.tv_language.specs.Symbols.{by_first_place}

-- w comes first
pub record Leads (w : Word) (ws : List Word) : Type 0 where
  pub behind : List Word
  pub same : ws ≡ w ∷ behind

leads-new : (w u : Word) (ws : List Word) (place : Option ℕ) → Leads w ws → Leads w (with_new place u ws)
leads-new w u ws None h = record { behind = h.behind ++ u ∷ []; same = ap (λ (vs : List Word). vs ++ u ∷ []) h.same }
leads-new w u ws (Some n) h = h

pub leads : (w : Word) (known ws : List Word) → Leads w known → Leads w (by_first_place known ws)
leads w known [] h = h
leads w known (u ∷ ws) h = leads w (words_with u known) ws (leads-new w u known (number_of u known) h)

pub bytes-same : (w : Word) → bytes_eq w w ≡ true
bytes-same w = (bytes_eq-Decides w w).1 refl

pub leader-number : (w : Word) (ws : List Word) → Leads w ws → number_of w ws ≡ Some 0
leader-number w ws h = ap (number_of w) h.same ∙ rw (bytes-same w, lt-ltb 0 (suc (length h.behind)) (omega arith)) refl
