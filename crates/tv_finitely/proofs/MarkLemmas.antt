-- Cases with their marks.
use Rattle.std.proofs.Common.{◌≡◌, ℕ, zero, suc, ◌<◌, List, [], ◌∷◌, length, get_or, slice_get, Some, Bool, false, arith, refl, ap}
use Rattle.tv_cases.specs.LinearCases.{LinearCase}
use Rattle.tv_rank.specs.Ways.{no_case}
use Rattle.tv_finitely.specs.Splits.{with_marks}

pub length_marked : (cases : List LinearCase) (marks : List Bool) → length (with_marks cases marks) ≡ length cases
length_marked [] marks = refl
length_marked (c ∷ cases) [] = ap suc (length_marked cases [])
length_marked (c ∷ cases) (m ∷ marks) = ap suc (length_marked cases marks)

pub marked_got : (cases : List LinearCase) (marks : List Bool) (k : ℕ) → k < length cases → slice_get (with_marks cases marks) k ≡ Some (get_or cases k no_case, get_or marks k false)
marked_got [] marks k h = absurd (omega (arith, h))
marked_got (c ∷ cases) [] zero h = refl
marked_got (c ∷ cases) [] (suc k) h = marked_got cases [] k (omega (arith, h))
marked_got (c ∷ cases) (m ∷ marks) zero h = refl
marked_got (c ∷ cases) (m ∷ marks) (suc k) h = marked_got cases marks k (omega (arith, h))
