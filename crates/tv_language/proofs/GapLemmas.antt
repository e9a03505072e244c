use Rattle.std.proofs.Common.{◌≡◌, ℕ, zero, suc, ◌+◌, ◌<◌, ◌≤◌, List, [], ◌∷◌, length, drop, Some, ap, sym, ◌∙◌, arith, zero-add}
use Rattle.tv_language.specs.Gaps.{gap_of, with_gap, gaps_after, gap_length}

-- the bytes left of the present gap, and then those after it
pub gaps_after-drop : (n : ℕ) (bs : List ℕ) → n ≤ length bs → gaps_after n bs ≡ n + gap_length (drop n bs)
gaps_after-drop zero bs h = sym (zero-add _)
gaps_after-drop (suc n) [] h = absurd (omega arith)
gaps_after-drop (suc n) (b ∷ bs) h = let again = gaps_after-drop n bs (omega arith) in omega arith

-- a gap at the front, and those after it
pub gap_length-gap : (n : ℕ) (bs : List ℕ) → gap_of bs ≡ Some n → 0 < n → n ≤ length bs → gap_length bs ≡ n + gap_length (drop n bs)
gap_length-gap n [] is h k = absurd (omega arith)
gap_length-gap zero (b ∷ bs) is h k = absurd (omega arith)
gap_length-gap (suc n) (b ∷ bs) is h k = ap (λ o. with_gap o (λ m. 1 + gaps_after m bs)) is ∙ (let again = gaps_after-drop n bs (omega arith) in omega arith)
