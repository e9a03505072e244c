-- copies of rows, and rows with more columns, each of them narrow
use Rattle.std.proofs.Common.{◌≡◌, ℕ, ◌+◌, ◌-◌, ◌<◌, List, [], ◌∷◌, ◌++◌, length, get_or, take, All, sym, ap, ◌∙◌, subst, append_assoc}
use Rattle.std.proofs.lemmas.List.{take_more}
use Rattle.std.proofs.lemmas.List.Elements.{All-push}
use Rattle.tv_linear.specs.Linear.{Linear, IsNarrow}

module _ (old items new rows : List Linear) (i : ℕ) (r s : Linear) where
  pub copied_more : i < length rows → r ≡ get_or rows i r → s ≡ r → IsNarrow r → new ≡ items ++ s ∷ [] → (items ≡ old ++ take i rows) × All IsNarrow (take i rows) → (new ≡ old ++ take (i + 1) rows) × All IsNarrow (take (i + 1) rows)
  copied_more l e same narrow en h =
      let more : take (i + 1) rows ≡ take i rows ++ r ∷ [] = take_more rows i r l ∙ (λ j. take i rows ++ sym e j ∷ []) in (
        en ∙ (λ j. h.0 j ++ same j ∷ []) ∙ append_assoc old (take i rows) (r ∷ []) ∙ ap (λ rs. old ++ rs) (sym more),
        subst (All IsNarrow) (sym more) (All-push IsNarrow (take i rows) r h.1 narrow),
      )
