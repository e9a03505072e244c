-- How many unknowns stand before a place, and that the rows of each identity are in the list of rows.
use Rattle.std.proofs.Common.{◌≡◌, inl, inr, ℕ, zero, suc, ◌+◌, ◌*◌, ◌<◌, ◌≤◌, ◌-◌, [], ◌∷◌, ◌++◌, length, length-append, Option, None, Some, true, if◌then◌else◌, arith, refl, sym, ap, ◌∙◌, subst}
use Rattle.std.specs.List.{AllByRecursion}
use Rattle.tv_linear.proofs.ListLaws.{same_or_below}
use Rattle.tv_cases.proofs.AmountLemmas.{suc-times}
use Rattle.tv_rank.specs.Ways.{Way, met_rows, touches}
use Rattle.tv_rank.proofs.Over.{Inside}
use Rattle.tv_rank.proofs.UnknownLists.{all_first, all_second}
use Rattle.tv_nested.specs.declared.unknown.Identity.{Identity}
use Rattle.tv_nested.specs.declared.unknown.Unknown.TheVariants.{Positive, Negative, Multiplier, Slack}
use Rattle.tv_nested.specs.declared.unknown.Line.{Line}
use Rattle.tv_nested.specs.NestedSystem.{identity, line, pairs_below, term_unknowns, local_unknowns, terms_below, multipliers_below, identity_unknowns, way_unknowns, steps_below, columns_below, identity_lines, way_lines, lines}

pub length-pairs : (l j v : ℕ) → length (pairs_below l j v) ≡ 2 * v
length-pairs l j zero = refl
length-pairs l j (suc v) = length-append (pairs_below l j v) (Positive l j (Some v) ∷ Negative l j (Some v) ∷ []) ∙ (let h = length-pairs l j v in omega (arith, h))

pub length-term : (v l j : ℕ) → length (term_unknowns v l j) ≡ 2 * v + 2
length-term v l j = length-append (pairs_below l j v) (Positive l j None ∷ Negative l j None ∷ []) ∙ (let h = length-pairs l j v in omega (arith, h))

pub length-local : (v l d : ℕ) → length (local_unknowns v l d) ≡ d * (2 * v + 2)
length-local v l zero = omega arith
length-local v l (suc d) = length-append (local_unknowns v l d) (term_unknowns v l d) ∙ (let h = length-local v l d in let t = length-term v l d in let m = suc-times d (2 * v + 2) in omega (arith, h, t, m))

pub terms-more : (ways : ℕ → Way) (many d v l : ℕ) → touches ways many l ≡ true → length (terms_below ways many d v (l + 1)) ≡ length (terms_below ways many d v l) + d * (2 * v + 2)
terms-more ways many d v l e =
    ap (λ z. length (terms_below ways many d v z)) (let s : l + 1 ≡ suc l = omega arith in s)
    ∙ ap (λ b. length (terms_below ways many d v l ++ (if b then local_unknowns v l d else []))) e
    ∙ length-append (terms_below ways many d v l) (local_unknowns v l d)
    ∙ ap (λ z. length (terms_below ways many d v l) + z) (length-local v l d)

terms-grow : (ways : ℕ → Way) (many d v l n : ℕ) → length (terms_below ways many d v l) ≤ length (terms_below ways many d v (l + n))
terms-grow ways many d v l zero = (let e = ap (λ z. length (terms_below ways many d v z)) (let s : l + 0 ≡ l = omega arith in s) in omega (arith, e))
terms-grow ways many d v l (suc n) =
    let h = terms-grow ways many d v l n in
    let e = ap (λ z. length (terms_below ways many d v z)) (let s : l + suc n ≡ suc (l + n) = omega arith in s) in
    let a = length-append (terms_below ways many d v (l + n)) (if touches ways many (l + n) then local_unknowns v (l + n) d else []) in
    omega (arith, h, e, a)

pub terms-within : (ways : ℕ → Way) (many d v l n : ℕ) → l ≤ n → length (terms_below ways many d v l) ≤ length (terms_below ways many d v n)
terms-within ways many d v l n h = (let g = terms-grow ways many d v l (n - l) in let e = ap (λ z. length (terms_below ways many d v z)) (let s : l + (n - l) ≡ n = omega (arith, h) in s) in omega (arith, g, e))

pub length-multipliers : (id : Identity) (n : ℕ) → length (multipliers_below id n) ≡ n
length-multipliers id zero = refl
length-multipliers id (suc n) = length-append (multipliers_below id n) (Multiplier id n ∷ []) ∙ (let h = length-multipliers id n in omega (arith, h))

pub length-identity : (id : Identity) (w : Way) → length (identity_unknowns id w) ≡ length (met_rows w) + 1
length-identity id w = length-append (multipliers_below id (length (met_rows w))) (Slack id ∷ []) ∙ (let h = length-multipliers id (length (met_rows w)) in omega (arith, h))

pub length-way : (k : ℕ) (w : Way) (n : ℕ) → length (way_unknowns k w n) ≡ n * (length (met_rows w) + 1)
length-way k w zero = omega arith
length-way k w (suc n) = length-append (way_unknowns k w n) (identity_unknowns (identity k n) w) ∙ (let h = length-way k w n in let t = length-identity (identity k n) w in let m = suc-times n (length (met_rows w) + 1) in omega (arith, h, t, m))

pub steps-more : (ways : ℕ → Way) (d k : ℕ) → length (steps_below ways d (k + 1)) ≡ length (steps_below ways d k) + suc d * (length (met_rows (ways k)) + 1)
steps-more ways d k =
    ap (λ z. length (steps_below ways d z)) (let s : k + 1 ≡ suc k = omega arith in s)
    ∙ length-append (steps_below ways d k) (way_unknowns k (ways k) (suc d))
    ∙ ap (λ z. length (steps_below ways d k) + z) (length-way k (ways k) (suc d))

steps-grow : (ways : ℕ → Way) (d k n : ℕ) → length (steps_below ways d k) ≤ length (steps_below ways d (k + n))
steps-grow ways d k zero = (let e = ap (λ z. length (steps_below ways d z)) (let s : k + 0 ≡ k = omega arith in s) in omega (arith, e))
steps-grow ways d k (suc n) =
    let h = steps-grow ways d k n in
    let e = ap (λ z. length (steps_below ways d z)) (let s : k + suc n ≡ suc (k + n) = omega arith in s) in
    let a = length-append (steps_below ways d (k + n)) (way_unknowns (k + n) (ways (k + n)) (suc d)) in
    omega (arith, h, e, a)

pub steps-within : (ways : ℕ → Way) (d k n : ℕ) → k ≤ n → length (steps_below ways d k) ≤ length (steps_below ways d n)
steps-within ways d k n h = (let g = steps-grow ways d k (n - k) in let e = ap (λ z. length (steps_below ways d z)) (let s : k + (n - k) ≡ n = omega (arith, h) in s) in omega (arith, g, e))

-- ---- each row is in the list
module _ (P : Line → Type 0) where
  of_columns : (id : Identity) (n j : ℕ) → AllByRecursion P (columns_below id n) → j < n → P (line id (Some j))
  of_columns id zero j h g = absurd (omega (arith, g))
  of_columns id (suc n) j h g = elim (same_or_below n j g) [
    | inl e ↦ subst (λ z. P (line id (Some z))) (sym e) (all_second P (columns_below id n) (line id (Some n) ∷ []) h).0
    | inr b ↦ of_columns id n j (all_first P (columns_below id n) (line id (Some n) ∷ []) h) b
  ]

  pub of_lines : (v : ℕ) (id : Identity) (w : Way) (c : Option ℕ) → AllByRecursion P (identity_lines v id w) → Inside (v + w.taken.draws) c → P (line id c)
  of_lines v id w None h g = (all_second P (columns_below id (v + w.taken.draws)) (line id None ∷ []) h).0
  of_lines v id w (Some j) h g = of_columns id (v + w.taken.draws) j (all_first P (columns_below id (v + w.taken.draws)) (line id None ∷ []) h) g

  of_way_lines : (v k : ℕ) (w : Way) (n i : ℕ) → AllByRecursion P (way_lines v k w n) → i < n → AllByRecursion P (identity_lines v (identity k i) w)
  of_way_lines v k w zero i h g = absurd (omega (arith, g))
  of_way_lines v k w (suc n) i h g = elim (same_or_below n i g) [
    | inl e ↦ subst (λ z. AllByRecursion P (identity_lines v (identity k z) w)) (sym e) (all_second P (way_lines v k w n) (identity_lines v (identity k n) w) h)
    | inr b ↦ of_way_lines v k w n i (all_first P (way_lines v k w n) (identity_lines v (identity k n) w) h) b
  ]

  pub of_all_lines : (ways : ℕ → Way) (d v many k i : ℕ) → AllByRecursion P (lines ways d v many) → k < many → i < suc d → AllByRecursion P (identity_lines v (identity k i) (ways k))
  of_all_lines ways d v zero k i h g l = absurd (omega (arith, g))
  of_all_lines ways d v (suc m) k i h g l = elim (same_or_below m k g) [
    | inl e ↦ of_way_lines v k (ways k) (suc d) i (subst (λ z. AllByRecursion P (way_lines v z (ways z) (suc d))) (sym e) (all_second P (lines ways d v m) (way_lines v m (ways m) (suc d)) h)) l
    | inr b ↦ of_all_lines ways d v m k i (all_first P (lines ways d v m) (way_lines v m (ways m) (suc d)) h) b l
  ]
