use Rattle.std.proofs.Common.{◌≡◌, ℕ, zero, suc, ◌+◌, ◌*◌, ◌≤◌, ◌-◌, List, [], ◌∷◌, ◌++◌, length, length-append, None, Some, true, if◌then◌else◌, arith, refl, ap, ◌∙◌}
use Rattle.std.proofs.Common.{ℤ}
use Rattle.tv_rank.specs.Reading.{difference, differences}
use Rattle.tv_rank.specs.declared.unknown.Identity.{Identity}
use Rattle.tv_rank.specs.declared.unknown.Identity.TheVariants.{Step}
use Rattle.tv_rank.specs.declared.unknown.Unknown.TheVariants.{Positive, Negative, Multiplier, Slack}
use Rattle.tv_rank.specs.Ways.{Way, met_rows, touches}
use Rattle.tv_rank.specs.RankingSystem.{pairs_below, term_unknowns, terms_below, multipliers_below, identity_unknowns, steps_below}

pub length-pairs : (l v : ℕ) → length (pairs_below l v) ≡ 2 * v
length-pairs l zero = refl
length-pairs l (suc v) = length-append (pairs_below l v) (Positive l (Some v) ∷ Negative l (Some v) ∷ []) ∙ (let h = length-pairs l v in omega (arith, h))

pub length-term : (v l : ℕ) → length (term_unknowns v l) ≡ 2 * v + 2
length-term v l = length-append (pairs_below l v) (Positive l None ∷ Negative l None ∷ []) ∙ (let h = length-pairs l v in omega (arith, h))

pub terms-more : (ways : ℕ → Way) (many v l : ℕ) → touches ways many l ≡ true → length (terms_below ways many v (l + 1)) ≡ length (terms_below ways many v l) + (2 * v + 2)
terms-more ways many v l e =
    ap (λ z. length (terms_below ways many v z)) (let s : l + 1 ≡ suc l = omega arith in s)
    ∙ ap (λ b. length (terms_below ways many v l ++ (if b then term_unknowns v l else []))) e
    ∙ length-append (terms_below ways many v l) (term_unknowns v l)
    ∙ (let h = length-term v l in omega (arith, h))

terms-grow : (ways : ℕ → Way) (many v l d : ℕ) → length (terms_below ways many v l) ≤ length (terms_below ways many v (l + d))
terms-grow ways many v l zero = (let e = ap (λ z. length (terms_below ways many v z)) (let s : l + 0 ≡ l = omega arith in s) in omega (arith, e))
terms-grow ways many v l (suc d) =
    let h = terms-grow ways many v l d in
    let e = ap (λ z. length (terms_below ways many v z)) (let s : l + suc d ≡ suc (l + d) = omega arith in s) in
    let a = length-append (terms_below ways many v (l + d)) (if touches ways many (l + d) then term_unknowns v (l + d) else []) in
    omega (arith, h, e, a)

pub terms-within : (ways : ℕ → Way) (many v l n : ℕ) → l ≤ n → length (terms_below ways many v l) ≤ length (terms_below ways many v n)
terms-within ways many v l n h = (let g = terms-grow ways many v l (n - l) in let e = ap (λ z. length (terms_below ways many v z)) (let s : l + (n - l) ≡ n = omega (arith, h) in s) in omega (arith, g, e))

pub length-multipliers : (id : Identity) (n : ℕ) → length (multipliers_below id n) ≡ n
length-multipliers id zero = refl
length-multipliers id (suc n) = length-append (multipliers_below id n) (Multiplier id n ∷ []) ∙ (let h = length-multipliers id n in omega (arith, h))

pub length-identity : (id : Identity) (w : Way) → length (identity_unknowns id w) ≡ length (met_rows w) + 1
length-identity id w = length-append (multipliers_below id (length (met_rows w))) (Slack id ∷ []) ∙ (let h = length-multipliers id (length (met_rows w)) in omega (arith, h))

pub steps-more : (ways : ℕ → Way) (k : ℕ) → length (steps_below ways (k + 1)) ≡ length (steps_below ways k) + (length (met_rows (ways k)) + 1)
steps-more ways k =
    ap (λ z. length (steps_below ways z)) (let s : k + 1 ≡ suc k = omega arith in s)
    ∙ length-append (steps_below ways k) (identity_unknowns (Step k) (ways k))
    ∙ (let h = length-identity (Step k) (ways k) in omega (arith, h))

steps-grow : (ways : ℕ → Way) (k d : ℕ) → length (steps_below ways k) ≤ length (steps_below ways (k + d))
steps-grow ways k zero = (let e = ap (λ z. length (steps_below ways z)) (let s : k + 0 ≡ k = omega arith in s) in omega (arith, e))
steps-grow ways k (suc d) =
    let h = steps-grow ways k d in
    let e = ap (λ z. length (steps_below ways z)) (let s : k + suc d ≡ suc (k + d) = omega arith in s) in
    let a = length-append (steps_below ways (k + d)) (identity_unknowns (Step (k + d)) (ways (k + d))) in
    omega (arith, h, e, a)

pub steps-within : (ways : ℕ → Way) (k n : ℕ) → k ≤ n → length (steps_below ways k) ≤ length (steps_below ways n)
steps-within ways k n h = (let g = steps-grow ways k (n - k) in let e = ap (λ z. length (steps_below ways z)) (let s : k + (n - k) ≡ n = omega (arith, h) in s) in omega (arith, g, e))

pub length-differences : (xs : List ℤ) (s v : ℕ) → length (differences xs s v) ≡ v
length-differences xs s zero = refl
length-differences xs s (suc v) = length-append (differences xs s v) (difference xs s v ∷ []) ∙ (let h = length-differences xs s v in omega (arith, h))

-- there is room for the pairs of a location below another
pub room_for_term : (ways : ℕ → Way) (many v l n : ℕ) → touches ways many l ≡ true → length (terms_below ways many v (l + 1)) ≤ n → length (terms_below ways many v l) + (2 * v + 2) ≤ n
room_for_term ways many v l n t h = (let e = terms-more ways many v l t in omega (arith, e, h))
