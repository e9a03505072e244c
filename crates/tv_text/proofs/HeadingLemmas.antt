use Rattle.std.proofs.Common.{◌≡◌, ℕ, zero, suc, ◌+◌, ◌<◌, ◌≤◌, List, [], ◌∷◌, length, take, refl, sym, ap, ◌∙◌, subst, arith, length-append, length-drop, inl, inr, ◌⊎◌}
use Rattle.std.specs.Prelude.{codes}
use Rattle.tv_text.specs.Headings.{EndsLine, at_end, feed, return_and_feed, IsHeadingAt, IsSplit, parted}

pub ends_at_end : (text : List ℕ) → text ≡ [] → EndsLine text text
ends_at_end text e = subst (λ (bs : List ℕ). EndsLine bs bs) (sym e) at_end

pub ends_by_feed : (text rest : List ℕ) (b : ℕ) → text ≡ b ∷ rest → b ≡ 10 → EndsLine text rest
ends_by_feed text rest b e is = subst (λ (bs : List ℕ). EndsLine bs rest) (sym (e ∙ ap (λ b. b ∷ rest) is)) feed

pub ends_by_return : (text more rest : List ℕ) (b c : ℕ) → text ≡ b ∷ more → b ≡ 13 → more ≡ c ∷ rest → c ≡ 10 → EndsLine text rest
ends_by_return text more rest b c e is f then =
    subst (λ (bs : List ℕ). EndsLine bs rest) (sym (e ∙ ap (λ b. b ∷ more) is ∙ ap (λ (bs : List ℕ). 13 ∷ bs) (f ∙ ap (λ c. c ∷ rest) then))) return_and_feed

no_more : (text rest : List ℕ) → EndsLine text rest → length rest ≤ length text
no_more text rest at_end = omega arith
no_more text rest feed = omega arith
no_more text rest return_and_feed = omega arith

-- what is left after a heading is no longer than the text
pub left_within : (text rest : List ℕ) (at : ℕ) → IsHeadingAt text at rest → length rest ≤ length text
left_within text rest at h =
    let heading = codes "CERTIFICATE:" in
    let less = no_more h.begins.behind rest h.begins.ends in
    let all = ap length h.begins.heading ∙ length-append heading h.begins.behind in
    let part = length-drop at text in
    omega (arith, less, all, part)

-- no heading is there, nor before
pub none_up_to : (text : List ℕ) (at : ℕ) → ((k : ℕ) (rest : List ℕ) → k < at → IsHeadingAt text k rest → ⊥) → ((rest : List ℕ) → IsHeadingAt text at rest → ⊥) → (k : ℕ) (rest : List ℕ) → k < at + 1 → IsHeadingAt text k rest → ⊥
none_up_to text at before here k rest below h = elim (less_or_same k at below) [
  | inl less ↦ before k rest less h
  | inr same ↦ here rest (subst (λ k. IsHeadingAt text k rest) same h)
]
  where
    less_or_same : (k n : ℕ) → k < n + 1 → (k < n) ⊎ (k ≡ n)
    less_or_same zero zero h = inr refl
    less_or_same zero (suc n) h = inl (omega arith)
    less_or_same (suc k) zero h = absurd (omega (arith, h))
    less_or_same (suc k) (suc n) h = elim (less_or_same k n (omega (arith, h))) [
      | inl less ↦ inl (omega (arith, less))
      | inr same ↦ inr (ap suc same)
    ]

-- none is in the text
pub none_anywhere : (text : List ℕ) → ((k : ℕ) (rest : List ℕ) → k < length text → IsHeadingAt text k rest → ⊥) → (k : ℕ) (rest : List ℕ) → IsHeadingAt text k rest → ⊥
none_anywhere text none k rest h =
    let all = ap length h.begins.heading ∙ length-append (codes "CERTIFICATE:") h.begins.behind in
    let part = length-drop k text in
    none k rest (omega (arith, all, part)) h

pub parted_at : (text program certificate : List ℕ) (at : ℕ) → program ≡ take at text → IsHeadingAt text at certificate → ((k : ℕ) (rest : List ℕ) → k < at → IsHeadingAt text k rest → ⊥) → IsSplit text program certificate
parted_at text program certificate at same h before = subst (λ (p : List ℕ). IsSplit text p certificate) (sym same) (parted at h before)
