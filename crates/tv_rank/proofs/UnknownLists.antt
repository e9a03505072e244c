use Rattle.std.proofs.Common.{◌≡◌, ℕ, zero, suc, inl, inr, ◌+◌, ◌*◌, ◌<◌, List, [], ◌∷◌, ◌++◌, length, length-append, map, get_or, Option, None, Some, Bool, true, false, if◌then◌else◌, arith, refl, sym, ap, ◌∙◌, subst, ℤ, pos, ◌+ℤ◌, ◌*ℤ◌}
use Rattle.std.proofs.lemmas.Int.{ints}
use Rattle.std.specs.List.{AllByRecursion, flat_map}
use Rattle.tv_simplex.specs.Sums.{total}
use Rattle.tv_simplex.proofs.Sums.{total-same}
use Rattle.tv_refute.proofs.Places.{get_or-left, get_or-right}
use Rattle.tv_rank.specs.declared.unknown.Identity.{Identity}
use Rattle.tv_rank.specs.declared.unknown.Identity.TheVariants.{Step}
use Rattle.tv_rank.specs.declared.unknown.Unknown.{Unknown}
use Rattle.tv_rank.specs.declared.unknown.Unknown.TheVariants.{Positive, Negative, Multiplier, Slack}
use Rattle.tv_rank.specs.declared.unknown.Line.{Line}
use Rattle.tv_rank.specs.Ways.{Way, met_rows, touches}
use Rattle.tv_rank.specs.RankingSystem.{pairs_below, term_unknowns, terms_below, multipliers_below, identity_unknowns, steps_below, columns_below, identity_lines, step_lines}
use Rattle.tv_rank.proofs.Over.{Inside}
use Rattle.tv_cases.proofs.AmountLemmas.{suc-times}
use Rattle.tv_farkas.proofs.SystemLemmas.{total-front}
use Rattle.tv_linear.proofs.ListLaws.{same_or_below}

-- ---- what holds of each item
pub all_first : {A : Type 0} (P : A → Type 0) (xs ys : List A) → AllByRecursion P (xs ++ ys) → AllByRecursion P xs
all_first P [] ys h = tt
all_first P (x ∷ xs) ys h = (h.0, all_first P xs ys h.1)

pub all_second : {A : Type 0} (P : A → Type 0) (xs ys : List A) → AllByRecursion P (xs ++ ys) → AllByRecursion P ys
all_second P [] ys h = h
all_second P (x ∷ xs) ys h = all_second P xs ys h.1

pub all_both : {A : Type 0} (P : A → Type 0) (xs ys : List A) → AllByRecursion P xs → AllByRecursion P ys → AllByRecursion P (xs ++ ys)
all_both P [] ys h g = g
all_both P (x ∷ xs) ys h g = (h.0, all_both P xs ys h.1 g)

pub all_by_place : {A : Type 0} (P : A → Type 0) (xs : List A) (d : A) → ((k : ℕ) → k < length xs → P (get_or xs k d)) → AllByRecursion P xs
all_by_place P [] d h = tt
all_by_place P (x ∷ xs) d h = (h 0 (omega arith), all_by_place P xs d (λ k l. h (suc k) (omega (arith, l))))

-- ---- each unknown is in the list
module _ (P : Unknown → Type 0) where
  of_pairs : (l v j : ℕ) → AllByRecursion P (pairs_below l v) → j < v → P (Positive l (Some j)) × P (Negative l (Some j))
  of_pairs l zero j h g = absurd (omega (arith, g))
  of_pairs l (suc v) j h g = elim (same_or_below v j g) [
    | inl e ↦ (let t = all_second P (pairs_below l v) (Positive l (Some v) ∷ Negative l (Some v) ∷ []) h in subst (λ z. P (Positive l (Some z)) × P (Negative l (Some z))) (sym e) (t.0, t.1.0))
    | inr b ↦ of_pairs l v j (all_first P (pairs_below l v) (Positive l (Some v) ∷ Negative l (Some v) ∷ []) h) b
  ]

  of_term : (l v : ℕ) (n : Option ℕ) → AllByRecursion P (term_unknowns v l) → Inside v n → P (Positive l n) × P (Negative l n)
  of_term l v None h g = (let t = all_second P (pairs_below l v) (Positive l None ∷ Negative l None ∷ []) h in (t.0, t.1.0))
  of_term l v (Some j) h g = of_pairs l v j (all_first P (pairs_below l v) (Positive l None ∷ Negative l None ∷ []) h) g

  of_if : (b : Bool) (us : List Unknown) → b ≡ true → AllByRecursion P (if b then us else []) → AllByRecursion P us
  of_if true us e h = h
  of_if false us e h = absurd cc

  pub of_terms : (ways : ℕ → Way) (many v locations l : ℕ) (n : Option ℕ) → AllByRecursion P (terms_below ways many v locations) → l < locations → touches ways many l ≡ true → Inside v n → P (Positive l n) × P (Negative l n)
  of_terms ways many v zero l n h k t g = absurd (omega (arith, k))
  of_terms ways many v (suc m) l n h k t g = elim (same_or_below m l k) [
    | inl e ↦ of_term l v n (of_if (touches ways many l) (term_unknowns v l) t (subst (λ z. AllByRecursion P (if touches ways many z then term_unknowns v z else [])) (sym e) (all_second P (terms_below ways many v m) (if touches ways many m then term_unknowns v m else []) h))) g
    | inr b ↦ of_terms ways many v m l n (all_first P (terms_below ways many v m) (if touches ways many m then term_unknowns v m else []) h) b t g
  ]

  of_multipliers : (id : Identity) (m i : ℕ) → AllByRecursion P (multipliers_below id m) → i < m → P (Multiplier id i)
  of_multipliers id zero i h g = absurd (omega (arith, g))
  of_multipliers id (suc m) i h g = elim (same_or_below m i g) [
    | inl e ↦ subst (λ z. P (Multiplier id z)) (sym e) (all_second P (multipliers_below id m) (Multiplier id m ∷ []) h).0
    | inr b ↦ of_multipliers id m i (all_first P (multipliers_below id m) (Multiplier id m ∷ []) h) b
  ]

  pub of_identity : (id : Identity) (w : Way) → AllByRecursion P (identity_unknowns id w) → ((i : ℕ) → i < length (met_rows w) → P (Multiplier id i)) × P (Slack id)
  of_identity id w h = (
    λ i l. of_multipliers id (length (met_rows w)) i (all_first P (multipliers_below id (length (met_rows w))) (Slack id ∷ []) h) l,
    (all_second P (multipliers_below id (length (met_rows w))) (Slack id ∷ []) h).0,
  )

  pub of_steps : (ways : ℕ → Way) (many k : ℕ) → AllByRecursion P (steps_below ways many) → k < many → AllByRecursion P (identity_unknowns (Step k) (ways k))
  of_steps ways zero k h g = absurd (omega (arith, g))
  of_steps ways (suc m) k h g = elim (same_or_below m k g) [
    | inl e ↦ subst (λ z. AllByRecursion P (identity_unknowns (Step z) (ways z))) (sym e) (all_second P (steps_below ways m) (identity_unknowns (Step m) (ways m)) h)
    | inr b ↦ of_steps ways m k (all_first P (steps_below ways m) (identity_unknowns (Step m) (ways m)) h) b
  ]

-- ---- each row is in the list
module _ (P : Line → Type 0) where
  of_columns : (id : Identity) (n j : ℕ) → AllByRecursion P (columns_below id n) → j < n → P (record { identity = id; column = Some j })
  of_columns id zero j h g = absurd (omega (arith, g))
  of_columns id (suc n) j h g = elim (same_or_below n j g) [
    | inl e ↦ subst (λ z. P (record { identity = id; column = Some z })) (sym e) (all_second P (columns_below id n) (record { identity = id; column = Some n } ∷ []) h).0
    | inr b ↦ of_columns id n j (all_first P (columns_below id n) (record { identity = id; column = Some n } ∷ []) h) b
  ]

  pub of_lines : (v : ℕ) (id : Identity) (w : Way) (c : Option ℕ) → AllByRecursion P (identity_lines v id w) → Inside (v + w.taken.draws) c → P (record { identity = id; column = c })
  of_lines v id w None h g = (all_second P (columns_below id (v + w.taken.draws)) (record { identity = id; column = None } ∷ []) h).0
  of_lines v id w (Some j) h g = of_columns id (v + w.taken.draws) j (all_first P (columns_below id (v + w.taken.draws)) (record { identity = id; column = None } ∷ []) h) g

  pub of_step_lines : (ways : ℕ → Way) (v many k : ℕ) → AllByRecursion P (step_lines ways v many) → k < many → AllByRecursion P (identity_lines v (Step k) (ways k))
  of_step_lines ways v zero k h g = absurd (omega (arith, g))
  of_step_lines ways v (suc m) k h g = elim (same_or_below m k g) [
    | inl e ↦ subst (λ z. AllByRecursion P (identity_lines v (Step z) (ways z))) (sym e) (all_second P (step_lines ways v m) (identity_lines v (Step m) (ways m)) h)
    | inr b ↦ of_step_lines ways v m k (all_first P (step_lines ways v m) (identity_lines v (Step m) (ways m)) h) b
  ]

-- ---- sums over a list, each item's number times one of a list of numbers, from a place on
abbrev pub weighted : {A : Type 0} → (A → ℤ) → List A → List ℤ → ℕ → ℤ
weighted g [] xs p = pos 0
weighted g (u ∷ us) xs p = g u *ℤ get_or xs p (pos 0) +ℤ weighted g us xs (suc p)

pub weighted-append : {A : Type 0} (g : A → ℤ) (us vs : List A) (xs : List ℤ) (p q : ℕ) → q ≡ p + length us → weighted g (us ++ vs) xs p ≡ weighted g us xs p +ℤ weighted g vs xs q
weighted-append g [] vs xs p q e = ap (λ z. weighted g vs xs z) (let f : p ≡ q = omega (arith, e) in f) ∙ omega (arith, ints)
weighted-append g (u ∷ us) vs xs p q e = (let h = weighted-append g us vs xs (suc p) q (omega (arith, e)) in omega (arith, ints, h))

pub weighted-last : {A : Type 0} (g : A → ℤ) (us : List A) (u : A) (xs : List ℤ) (p q : ℕ) → q ≡ p + length us → weighted g (us ++ u ∷ []) xs p ≡ weighted g us xs p +ℤ g u *ℤ get_or xs q (pos 0)
weighted-last g us u xs p q e = (let h = weighted-append g us (u ∷ []) xs p q e in omega (arith, ints, h))

pub weighted-total : {A : Type 0} (g : A → ℤ) (us : List A) (xs : List ℤ) (p : ℕ) → total (length us) (λ j. get_or (map g us) j (pos 0) *ℤ get_or xs (p + j) (pos 0)) ≡ weighted g us xs p
weighted-total g [] xs p = refl
weighted-total g (u ∷ us) xs p =
    let f = total-front (length us) (λ j. get_or (map g (u ∷ us)) j (pos 0) *ℤ get_or xs (p + j) (pos 0)) in
    let h = weighted-total g us xs (suc p) in
    let s = total-same (length us) (λ j. get_or (map g us) j (pos 0) *ℤ get_or xs (p + suc j) (pos 0)) (λ j. get_or (map g us) j (pos 0) *ℤ get_or xs (suc p + j) (pos 0)) (λ j l. ap (λ z. get_or (map g us) j (pos 0) *ℤ get_or xs z (pos 0)) (let e : p + suc j ≡ suc p + j = omega arith in e)) in
    let z : get_or xs (p + 0) (pos 0) ≡ get_or xs p (pos 0) = ap (λ z. get_or xs z (pos 0)) (let e : p + 0 ≡ p = omega arith in e) in
    let y = ap (λ z. g u *ℤ z) z in
    omega (arith, ints, f, h, s, y)

-- ---- the entries, row by row
pub flat_at : {A : Type 0} (f : A → List ℤ) (n : ℕ) (ls : List A) (d : A) → ((a : A) → length (f a) ≡ n) → (k j : ℕ) → k < length ls → j < n → get_or (flat_map f ls) (k * n + j) (pos 0) ≡ get_or (f (get_or ls k d)) j (pos 0)
flat_at f n [] d s k j l g = absurd (omega (arith, l))
flat_at f n (a ∷ ls) d s zero j l g = ap (λ z. get_or (f a ++ flat_map f ls) z (pos 0)) (let e : 0 * n + j ≡ j = omega arith in e) ∙ get_or-left (f a) (flat_map f ls) j (pos 0) (let e = s a in omega (arith, e, g))
flat_at f n (a ∷ ls) d s (suc k) j l g =
    get_or-right (f a) (flat_map f ls) (suc k * n + j) (k * n + j) (pos 0) (let e = s a in let m = suc-times k n in omega (arith, e, m))
    ∙ flat_at f n ls d s k j (omega (arith, l)) g

pub length-flat : {A : Type 0} (f : A → List ℤ) (n : ℕ) (ls : List A) → ((a : A) → length (f a) ≡ n) → length (flat_map f ls) ≡ length ls * n
length-flat f n [] s = omega arith
length-flat f n (a ∷ ls) s = length-append (f a) (flat_map f ls) ∙ (let e = s a in let h = length-flat f n ls s in let m = suc-times (length ls) n in omega (arith, e, h, m))
