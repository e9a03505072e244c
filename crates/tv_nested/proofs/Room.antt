-- There is room for what is read off a solution.
use Rattle.std.proofs.Common.{◌≡◌, ℕ, suc, ◌+◌, ◌*◌, ◌<◌, ◌≤◌, length, length-append, true, arith}
use Rattle.tv_cases.proofs.AmountLemmas.{suc-times}
use Rattle.tv_simplex.proofs.ScaleLemmas.{scaled_up}
use Rattle.tv_rank.specs.Questions.{ways_of, many_of}
use Rattle.tv_rank.specs.Ways.{touches}
use Rattle.tv_nested.specs.declared.solution.Solved.{Solved}
use Rattle.tv_nested.specs.NestedSystem.{steps_below}
use Rattle.tv_nested.specs.ReadOff.{terms_until, size_at, line_place}
use Rattle.tv_nested.proofs.Places.{terms-more, terms-within, steps-more, steps-within}

module _ (s : Solved) where
  pub whole : length s.values.now ≡ length (terms_until s s.asked.now.locations) + length (steps_below (ways_of s.asked.now) s.depth (many_of s.asked.now))
  whole = (let a = s.as_many in let b = length-append (terms_until s s.asked.now.locations) (steps_below (ways_of s.asked.now) s.depth (many_of s.asked.now)) in omega (arith, a, b))

  -- the terms of a location end within the values
  pub terms_end : (l : ℕ) → l < s.asked.now.locations → touches (ways_of s.asked.now) (many_of s.asked.now) l ≡ true → length (terms_until s l) + s.depth * (2 * s.asked.now.variables + 2) ≤ length s.values.now
  terms_end l l_in t =
      let m = terms-more (ways_of s.asked.now) (many_of s.asked.now) s.depth s.asked.now.variables l t in
      let w = terms-within (ways_of s.asked.now) (many_of s.asked.now) s.depth s.asked.now.variables (l + 1) s.asked.now.locations (omega (arith, l_in)) in
      let e = whole in
      omega (arith, m, w, e)

  -- so does one of them
  pub term_ends : (j l : ℕ) → j < s.depth → l < s.asked.now.locations → touches (ways_of s.asked.now) (many_of s.asked.now) l ≡ true → length (terms_until s l) + (j * (2 * s.asked.now.variables + 2) + (2 * s.asked.now.variables + 2)) ≤ length s.values.now
  term_ends j l j_in l_in t =
      let e = terms_end l l_in t in
      let u = scaled_up (suc j) s.depth (2 * s.asked.now.variables + 2) (omega (arith, j_in)) in
      let m = suc-times j (2 * s.asked.now.variables + 2) in
      omega (arith, e, u, m)

  -- the multipliers of a case end within the values
  pub lines_end : (k : ℕ) → k < many_of s.asked.now → line_place s k + suc s.depth * size_at s k ≤ length s.values.now
  lines_end k k_in =
      let m = steps-more (ways_of s.asked.now) s.depth k in
      let w = steps-within (ways_of s.asked.now) s.depth (k + 1) (many_of s.asked.now) (omega (arith, k_in)) in
      let e = whole in
      omega (arith, m, w, e)

  -- so do those of one of its identities
  pub line_ends : (k i : ℕ) → k < many_of s.asked.now → i < suc s.depth → line_place s k + (i * size_at s k + size_at s k) ≤ length s.values.now
  line_ends k i k_in i_in =
      let e = lines_end k k_in in
      let u = scaled_up (suc i) (suc s.depth) (size_at s k) (omega (arith, i_in)) in
      let m = suc-times i (size_at s k) in
      omega (arith, e, u, m)
