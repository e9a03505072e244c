use Rattle.std.proofs.Common.{take, ◌≡◌, ℕ, zero, suc, ◌+◌, ◌<◌, List, [], ◌∷◌, ◌++◌, length, length-append, map, get_or, All, arith, refl, sym, ap, ◌∙◌, ℤ, pos, neg_ℤ, ◌*ℤ◌, ◌<ℤ◌, ◌≤ℤ◌}
use Rattle.std.proofs.lemmas.Int.{ints}
use Rattle.std.proofs.Math.IntN.{*ℤ_comm, neg_ℤ-neg_ℤ}
use Rattle.tv_linear.specs.Linear.{Linear, columns, entry, scaled_value, IsScaledPoint}
use Rattle.tv_refute.proofs.Places.{get_or-left, get_or-right}
use Rattle.tv_linear.proofs.Ring.{neg_times_z}
use Rattle.tv_simplex.specs.Sums.{total}
use Rattle.tv_simplex.specs.Systems.{entry_at, right_at}
use Rattle.tv_simplex.specs.Outcomes.{IsBarrierOf}
use Rattle.tv_farkas.specs.RefutationSystem.{refutation_system}
use Rattle.tv_farkas.proofs.SystemLemmas.{row_at, get_or-any, at_of, entry_is, right_inner, right_last, dot-total}
use Rattle.std.proofs.lemmas.List.{get_or-map, get_or_past}
use Rattle.std.proofs.lemmas.List.Elements.{All-from_get_or}
use Rattle.tv_simplex.proofs.Sums.{total-last, total-zero}
use Rattle.tv_simplex.proofs.Ring.{times_zero}

opposite_at : (xs : List ℤ) (k : ℕ) → k < length xs → get_or (map neg_ℤ xs) k (pos 0) ≡ neg_ℤ (get_or xs k (pos 0))
opposite_at xs k l = get_or-map neg_ℤ xs k (pos 0) (pos 0) l

-- the numbers of the barrier
pub inner_is : (values : List ℤ) (scale : ℤ) (k : ℕ) → k < length values → get_or (map neg_ℤ (values ++ scale ∷ [])) k (pos 0) ≡ neg_ℤ (get_or values k (pos 0))
inner_is values scale k l = opposite_at (values ++ scale ∷ []) k (let h = length-append values (scale ∷ []) in omega (arith, h, l)) ∙ ap neg_ℤ (get_or-left values (scale ∷ []) k (pos 0) l)

pub last_is : (values : List ℤ) (scale : ℤ) (n : ℕ) → length values ≡ n → get_or (map neg_ℤ (values ++ scale ∷ [])) n (pos 0) ≡ neg_ℤ scale
last_is values scale n e = opposite_at (values ++ scale ∷ []) n (let h = length-append values (scale ∷ []) in omega (arith, h, e)) ∙ ap neg_ℤ (get_or-right values (scale ∷ []) n 0 (pos 0) (omega (arith, e)))

total-neg : (n : ℕ) (f g : ℕ → ℤ) → ((k : ℕ) → k < n → f k ≡ neg_ℤ (g k)) → total n f ≡ neg_ℤ (total n g)
total-neg zero f g h = refl
total-neg (suc n) f g h = (let a = total-neg n f g (λ k l. h k (omega arith)) in let b = h n (omega arith) in omega (arith, ints, a, b))

module _ (n : ℕ) (rows : List Linear) (even : All (λ r. columns r ≡ n) rows) (values : List ℤ) (scale : ℤ) (size : length values ≡ n) (h : IsBarrierOf (refutation_system n rows) (map neg_ℤ (values ++ scale ∷ []))) where
  -- the sum of the barrier's numbers and those of a row is the opposite of the row's value at the point
  sum_is : (i : ℕ) → i < length rows → total (n + 1) (λ k. get_or (map neg_ℤ (values ++ scale ∷ [])) k (pos 0) *ℤ entry_at (refutation_system n rows) k i) ≡ neg_ℤ (scaled_value (row_at rows i) values scale)
  sum_is i l =
      let r = row_at rows i in
      let y = λ (k : ℕ). get_or (map neg_ℤ (values ++ scale ∷ [])) k (pos 0) in
      let cols : columns r ≡ n = at_of (λ q. columns q ≡ n) rows (record { coefficients = []; constant = pos 0 }) even i l in
      let inner = total-neg n (λ k. y k *ℤ entry_at (refutation_system n rows) k i) (λ k. get_or r.coefficients k (pos 0) *ℤ get_or values k (pos 0)) (λ k g. each k g cols) in
      let d = dot-total r.coefficients values (cols ∙ sym size) ∙ ap (λ z. total z (λ k. get_or r.coefficients k (pos 0) *ℤ get_or values k (pos 0))) cols in
      let e : y n *ℤ entry_at (refutation_system n rows) n i ≡ neg_ℤ (r.constant *ℤ scale) =
      (λ q. last_is values scale n size q *ℤ (entry_is n rows n i (omega arith) l ∙ constant_is r cols) q) ∙ neg_times_z scale r.constant ∙ ap neg_ℤ (*ℤ_comm scale r.constant) in
      let s = total-last n (λ k. y k *ℤ entry_at (refutation_system n rows) k i) in
      omega (arith, ints, inner, d, e, s)
    where
      constant_is : (r : Linear) → columns r ≡ n → entry r n ≡ r.constant
      constant_is r e = get_or_past r.coefficients n r.constant (omega (arith, e))

      each : (k : ℕ) → k < n → columns (row_at rows i) ≡ n → get_or (map neg_ℤ (values ++ scale ∷ [])) k (pos 0) *ℤ entry_at (refutation_system n rows) k i ≡ neg_ℤ (get_or (row_at rows i).coefficients k (pos 0) *ℤ get_or values k (pos 0))
      each k g cols =
          (λ q. inner_is values scale k (omega (arith, size, g)) q *ℤ (entry_is n rows k i (omega (arith, g)) l ∙ get_or-any (row_at rows i).coefficients k (row_at rows i).constant (pos 0) (omega (arith, cols, g))) q)
          ∙ neg_times_z (get_or values k (pos 0)) (get_or (row_at rows i).coefficients k (pos 0))
          ∙ ap neg_ℤ (*ℤ_comm (get_or values k (pos 0)) (get_or (row_at rows i).coefficients k (pos 0)))

  scale_above : pos 0 <ℤ scale
  scale_above =
      let y = λ (k : ℕ). get_or (map neg_ℤ (values ++ scale ∷ [])) k (pos 0) in
      let zero_sum = total-zero n (λ k. y k *ℤ right_at (refutation_system n rows) k) (λ k g. ap (λ z. y k *ℤ z) (right_inner n rows k g) ∙ times_zero (y k) (pos 0) refl) in
      let e : y n *ℤ right_at (refutation_system n rows) n ≡ neg_ℤ scale = (λ q. last_is values scale n size q *ℤ right_last n rows q) ∙ omega (arith, ints) in
      let s = total-last n (λ k. y k *ℤ right_at (refutation_system n rows) k) in
      let b = h.below in
      omega (arith, ints, zero_sum, e, s, b)

  -- the point of a barrier meets the rows
  pub point_meets : IsScaledPoint rows values scale
  point_meets = record {
    positive = scale_above;
    met = All-from_get_or (λ r. scaled_value r values scale ≤ℤ pos 0) rows (record { coefficients = []; constant = pos 0 }) (λ i l. let b = h.not_under i l in let e = sum_is i l in omega (arith, ints, b, e));
  }

-- the opposites of a list, the last one apart
parted : (y : List ℤ) (n : ℕ) → length y ≡ n + 1 → y ≡ take n y ++ get_or y n (pos 0) ∷ []
parted [] n e = absurd (omega (arith, e))
parted (x ∷ []) zero e = refl
parted (x ∷ (z ∷ zs)) zero e = absurd (omega (arith, e))
parted (x ∷ xs) (suc n) e = ap (λ w. x ∷ w) (parted xs n (omega (arith, e)))

opposites_back : (xs : List ℤ) (z : ℤ) → map neg_ℤ (map neg_ℤ xs ++ neg_ℤ z ∷ []) ≡ xs ++ z ∷ []
opposites_back [] z = ap (λ w. w ∷ []) (neg_ℤ-neg_ℤ z)
opposites_back (x ∷ xs) z = (λ i. neg_ℤ-neg_ℤ x i ∷ opposites_back xs z i)

pub opposites : (y : List ℤ) (n : ℕ) (values : List ℤ) (scale : ℤ) → length y ≡ n + 1 → values ≡ map neg_ℤ (take n y) → scale ≡ neg_ℤ (get_or y n (pos 0)) → y ≡ map neg_ℤ (values ++ scale ∷ [])
opposites y n values scale size e g =
    parted y n size ∙ sym (opposites_back (take n y) (get_or y n (pos 0))) ∙ (λ i. map neg_ℤ (sym e i ++ sym g i ∷ []))
