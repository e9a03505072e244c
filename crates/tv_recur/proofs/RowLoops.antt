-- One more row of a loop.
use Rattle.std.proofs.Common.{◌≡◌, ℕ, ◌+◌, ◌<◌, List, [], ◌∷◌, ◌++◌, length, take, get_or, sym, ◌∙◌, subst}
use Rattle.std.proofs.lemmas.List.{map-append}
use Rattle.std.proofs.lemmas.List.Elements.{All-push}
use Rattle.tv_linear.specs.Linear.{Linear}
use Rattle.tv_linear.specs.Arithmetic.{composed}
use Rattle.tv_recur.specs.Making.{FitsPut, ArePut}
use Rattle.tv_linear.proofs.ListLaws.{take_next}

pub row_put : (terms rows : List Linear) (i : ℕ) (r s : Linear) (all new : List Linear) → i < length rows → r ≡ get_or rows i r → s ≡ composed r terms → FitsPut terms r → new ≡ all ++ s ∷ [] → ArePut terms (take i rows) all → ArePut terms (take (i + 1) rows) new
row_put terms rows i r s all new l e same fits m h = subst (λ z. ArePut terms z new) (sym (take_next rows i r l e)) (record {
  exact = m ∙ (λ k. h.exact k ++ same k ∷ []) ∙ sym (map-append (λ q. composed q terms) (take i rows) (r ∷ []));
  fits = All-push (FitsPut terms) (take i rows) r h.fits fits;
})
