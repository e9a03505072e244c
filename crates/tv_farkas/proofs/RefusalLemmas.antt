use Rattle.std.proofs.Common.{◌≡◌, ℕ, ◌+◌, List, [], ◌∷◌, ◌++◌, length, length-append, map, All, get_or, arith, subst, ℤ, pos, neg_ℤ}
use Rattle.std.proofs.lemmas.Int.{ints}
use Rattle.tv_linear.specs.Linear.{Linear, columns}
use Rattle.tv_simplex.specs.Outcomes.{IsShort, IsBarrierOf, GivesBarrier}
use Rattle.tv_farkas.specs.declared.refuted.Refuted.{Refuted}
use Rattle.tv_farkas.specs.declared.refuted.Refuted.TheVariants.{Empty, Point}
use Rattle.tv_farkas.specs.RefutationSystem.{refutation_system}
use Rattle.tv_farkas.specs.Refuting.{IsRefuted, GivesRefuted, IsOppositePoint, IsShortRefuted}
use Rattle.tv_farkas.proofs.PointLemmas.{point_meets, inner_is, last_is}
use Rattle.std.proofs.lemmas.List.{length-map}

count_of : (values : List ℤ) (scale : ℤ) (n : ℕ) → length (map neg_ℤ (values ++ scale ∷ [])) ≡ n + 1 → length values ≡ n
count_of values scale n e = (let a = length-map (values ++ scale ∷ []) neg_ℤ in let b = length-append values (scale ∷ []) in omega (arith, a, b, e))

-- the point of a barrier of the refutation system
pub point_answers : (n : ℕ) (rows : List Linear) (y : List ℤ) (point : Refuted) → All (λ r. columns r ≡ n) rows → IsBarrierOf (refutation_system n rows) y → IsOppositePoint y point → IsRefuted n rows point
point_answers n rows y (Empty m) even b h = absurd h
point_answers n rows y (Point values scale) even b h =
    let b' = subst (λ z. IsBarrierOf (refutation_system n rows) z) h b in
    let size = count_of values.items scale n b'.as_many in
    (size, point_meets n rows even values.items scale size b')

pub point_gives : (n : ℕ) (rows : List Linear) (y : List ℤ) (point : Refuted) → GivesBarrier (refutation_system n rows) y → IsOppositePoint y point → GivesRefuted n rows point
point_gives n rows y (Empty m) b h = absurd h
point_gives n rows y (Point values scale) b h =
    let b' = subst (λ z. GivesBarrier (refutation_system n rows) z) h b in
    record { as_many = count_of values.items scale n b'.as_many; barrier = b' }

pub point_short : (n : ℕ) (rows : List Linear) (y : List ℤ) (point : Refuted) → IsBarrierOf (refutation_system n rows) y → IsOppositePoint y point → IsShortRefuted point
point_short n rows y (Empty m) b h = absurd h
point_short n rows y (Point values scale) b h =
    let b' = subst (λ z. IsBarrierOf (refutation_system n rows) z) h b in
    let size = count_of values.items scale n b'.as_many in (
      λ j l. opposite_short (get_or values.items j (pos 0)) (subst (λ z. IsShort z) (inner_is values.items scale j l) (b'.short j (omega (arith, size, l)))),
      opposite_short scale (subst (λ z. IsShort z) (last_is values.items scale n size) (b'.short n (omega arith))),
    )
  where
    opposite_short : (z : ℤ) → IsShort (neg_ℤ z) → IsShort z
    opposite_short z k = omega (arith, ints, k)
