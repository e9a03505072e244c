-- the fall that is owed
use Rattle.std.proofs.Common.{◌≡◌, List, [], ◌∷◌, refl, ap, ◌∙◌, Bool, true, false}
use Rattle.tv_linear.specs.Linear.{Linear}
use Rattle.tv_linear.specs.Known.{Known}
use Rattle.tv_cert.specs.declared.node.Marked.{Marked}
use Rattle.tv_cert.specs.Pieces.{ranks_of}
use Rattle.tv_points.specs.Taking.{fall_list, fall_owed}
use Rattle.tv_points.specs.Entering.{fall_rows}

module _ (change : Linear → Known) (p q : Marked) where
  pub not_owed : (b : Bool) → b ≡ false → fall_owed b change p q ≡ []
  not_owed true e = absurd cc
  not_owed false e = refl

  pub no_rank_before : (b : Bool) → ranks_of p ≡ [] → fall_owed b change p q ≡ []
  no_rank_before true e = ap (λ fs. fall_list change fs (ranks_of q)) e
  no_rank_before false e = refl

  none_after : (fs : List Linear) → fall_list change fs [] ≡ []
  none_after [] = refl
  none_after (f ∷ fs) = refl

  pub no_rank_after : (b : Bool) → ranks_of q ≡ [] → fall_owed b change p q ≡ []
  no_rank_after true e = ap (λ gs. fall_list change (ranks_of p) gs) e ∙ none_after (ranks_of p)
  no_rank_after false e = refl

  pub owed_fall : (b : Bool) (f g : Linear) (fs gs : List Linear) → b ≡ true → ranks_of p ≡ f ∷ fs → ranks_of q ≡ g ∷ gs → fall_owed b change p q ≡ fall_rows change f g
  owed_fall true f g fs gs t e h = (λ i. fall_list change (e i) (h i))
  owed_fall false f g fs gs t e h = absurd cc
