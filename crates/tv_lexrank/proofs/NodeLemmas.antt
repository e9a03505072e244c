-- Further ranks at the end change nothing of what is owed.
use Rattle.std.proofs.Common.{◌≡◌, ℕ, zero, suc, List, [], ◌∷◌, ◌++◌, map, Option, None, Some, refl, sym, ap, ◌∙◌, subst, pos}
use Rattle.std.specs.Option.{option_map}
use Rattle.std.proofs.lemmas.List.{map-append}
use Rattle.tv_linear.specs.Linear.{Linear}
use Rattle.tv_linear.specs.Known.{Known, given, denied, less, as_given}
use Rattle.tv_linear.specs.Covers.{ShownAt, IsMetCover}
use Rattle.tv_linear.specs.Falls.{fall_rows_at}
use Rattle.tv_linear.specs.declared.cover.CoverTree.{CoverTree}
use Rattle.tv_linear.specs.declared.cover.CoverTree as cover
use Rattle.tv_rank.specs.Ways.{Way}
use Rattle.tv_lexrank.specs.Closing.{changed}
use Rattle.tv_lexrank.specs.Shown.{owed_fall}

rows_padded : (old new more more' : List Known) (j : ℕ) (rows : List Known) → fall_rows_at old new j ≡ Some rows → fall_rows_at (old ++ more) (new ++ more') j ≡ Some rows
rows_padded [] new more more' j rows h = absurd cc
rows_padded (f ∷ old) [] more more' j rows h = absurd cc
rows_padded (f ∷ old) (g ∷ new) more more' zero rows h = h
rows_padded (f ∷ old) (g ∷ new) more more' (suc j) rows h = by_rest (fall_rows_at old new j) refl h (λ rs e. rows_padded old new more more' j rs e)
  where
    by_rest : (o : Option (List Known)) → fall_rows_at old new j ≡ o → option_map (λ rs. less g f (pos 0) ∷ rs) o ≡ Some rows → ((rs : List Known) → fall_rows_at old new j ≡ Some rs → fall_rows_at (old ++ more) (new ++ more') j ≡ Some rs) → option_map (λ rs. less g f (pos 0) ∷ rs) (fall_rows_at (old ++ more) (new ++ more') j) ≡ Some rows
    by_rest None e k rest = absurd cc
    by_rest (Some rs) e k rest = ap (option_map (λ rs. less g f (pos 0) ∷ rs)) (rest rs e) ∙ k

-- further ranks at the end do not change a fall
pub fall_padded : (v : ℕ) (w : Way) (old new more more' : List Linear) (j : ℕ) (rows : List Known) → owed_fall v w old new j ≡ Some rows → owed_fall v w (old ++ more) (new ++ more') j ≡ Some rows
fall_padded v w old new more more' zero rows h = absurd cc
fall_padded v w old new more more' (suc j) rows h =
    ap (λ z. fall_rows_at z (map (changed v w) (new ++ more')) j) (map-append (λ r. given r) old more)
    ∙ ap (λ z. fall_rows_at (as_given old ++ as_given more) z j) (map-append (changed v w) new more')
    ∙ rows_padded (as_given old) (map (changed v w) new) (as_given more) (map (changed v w) more') j rows h

-- a cover that is met is met where all that was owed is owed
pub met_weaker : (n : ℕ) (owed wanted : ℕ → ℕ → Option (List Known)) → ((k j : ℕ) (rows : List Known) → owed k j ≡ Some rows → wanted k j ≡ Some rows) → (known : List Known) (tree : CoverTree) → IsMetCover n owed known tree → IsMetCover n wanted known tree
met_weaker n owed wanted e known (cover.Split' r p a q b) h = (met_weaker n owed wanted e (known ++ given r ∷ []) a h.0, met_weaker n owed wanted e (known ++ denied (given r) ∷ []) b h.1)
met_weaker n owed wanted e known (cover.Empty ms) h = h
met_weaker n owed wanted e known (cover.Into k j ls) h = by_rows (owed k j) refl h
  where
    by_rows : (o : Option (List Known)) → owed k j ≡ o → ShownAt n known o (map (λ l. l.items) ls.items) → ShownAt n known (wanted k j) (map (λ l. l.items) ls.items)
    by_rows None f g = absurd g
    by_rows (Some rows) f g = subst (λ o. ShownAt n known o (map (λ l. l.items) ls.items)) (sym (e k j rows f)) g
