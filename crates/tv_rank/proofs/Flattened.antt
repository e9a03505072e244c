use Rattle.std.proofs.Common.{◌≡◌, ℕ, zero, suc, ◌+◌, ◌<◌, List, [], ◌∷◌, ◌++◌, length, length-append, map, get_or, Option, None, Some, arith, refl, sym, ap, ◌∙◌, subst, ℤ, pos, ◌*ℤ◌, ◌≤ℤ◌}
use Rattle.std.proofs.lemmas.Int.{ints}
use Rattle.std.proofs.lemmas.List.{length-map, get_or-map}
use Rattle.std.proofs.Math.IntN.{*ℤ_comm}
use Rattle.std.specs.List.{AllByRecursion}
use Rattle.tv_simplex.specs.Sums.{total}
use Rattle.tv_simplex.specs.Systems.{entry_at, right_at}
use Rattle.tv_simplex.specs.Outcomes.{IsBarrierOf}
use Rattle.tv_simplex.proofs.Sums.{total-same}
use Rattle.tv_rank.specs.declared.unknown.Identity.{Identity}
use Rattle.tv_rank.specs.declared.unknown.Identity.TheVariants.{Step, Bound}
use Rattle.tv_rank.specs.declared.unknown.Unknown.{Unknown}
use Rattle.tv_rank.specs.declared.unknown.Unknown.TheVariants.{Slack}
use Rattle.tv_rank.specs.declared.unknown.Line.{Line}
use Rattle.tv_rank.specs.Ways.{Way}
use Rattle.tv_rank.specs.RankingSystem.{entry, right_of, terms_below, steps_below, identity_unknowns, unknowns, columns_below, identity_lines, step_lines, lines, ranking_system}
use Rattle.tv_rank.specs.Rankings.{HasPoint, NoneRanks}
use Rattle.tv_rank.proofs.Over.{over}
use Rattle.tv_rank.proofs.UnknownLists.{all_first, all_second, all_by_place, of_terms, of_identity, of_steps, weighted, weighted-append, weighted-last, weighted-total, flat_at}
use Rattle.tv_rank.proofs.Barriers.{line, width, Balance, row_sum, column_sum, multiplier_sum, slack_sum, last_multiplier_sum, last_slack_sum, right_sum, balanced}
use Rattle.tv_rank.proofs.Excluded.{excluded}
use Rattle.tv_rank.proofs.Points.{pointed, ranks_at, terms_wide, numbers_at}

-- ---- the numbers of a barrier by identity
-- the numbers from a place on, as those of n columns and the constant
abbrev pub point_from : List ℤ → ℕ → ℕ → Option ℕ → ℤ
point_from y s n None = get_or y (s + n) (pos 0)
point_from y s n (Some j) = get_or y (s + j) (pos 0)

length-columns : (id : Identity) (n : ℕ) → length (columns_below id n) ≡ n
length-columns id zero = refl
length-columns id (suc n) = length-append (columns_below id n) (line id (Some n) ∷ []) ∙ (let h = length-columns id n in omega (arith, h))

pub length-lines : (v : ℕ) (id : Identity) (w : Way) → length (identity_lines v id w) ≡ width v w + 1
length-lines v id w = length-append (columns_below id (width v w)) (line id None ∷ []) ∙ (let h = length-columns id (width v w) in omega (arith, h))

columns-sum : (g : Line → ℤ) (id : Identity) (n : ℕ) (y : List ℤ) (s : ℕ) → weighted g (columns_below id n) y s ≡ total n (λ j. g (line id (Some j)) *ℤ get_or y (s + j) (pos 0))
columns-sum g id zero y s = refl
columns-sum g id (suc n) y s =
    let h = columns-sum g id n y s in
    let l = weighted-last g (columns_below id n) (line id (Some n)) y s (s + n) (let e = length-columns id n in omega (arith, e)) in
    omega (arith, ints, h, l)

lines-sum : (g : Line → ℤ) (v : ℕ) (id : Identity) (w : Way) (y : List ℤ) (s : ℕ) → weighted g (identity_lines v id w) y s ≡ over (width v w) (λ c. g (line id c) *ℤ point_from y s (width v w) c)
lines-sum g v id w y s =
    let h = columns-sum g id (width v w) y s in
    let l = weighted-last g (columns_below id (width v w)) (line id None) y s (s + width v w) (let e = length-columns id (width v w) in omega (arith, e)) in
    omega (arith, ints, h, l)

module _ (v locations many : ℕ) (ways : ℕ → Way) (falling : ℕ) (falling_in : falling < many) (y : List ℤ) where
  abbrev pub start : ℕ → ℕ
  start k = length (step_lines ways v k)

  abbrev pub numbers : ℕ → Option ℕ → ℤ
  numbers k = point_from y (start k) (width v (ways k))

  abbrev pub last_numbers : Option ℕ → ℤ
  last_numbers = point_from y (start many) (width v (ways falling))

  steps-sum : (g : Line → ℤ) (m : ℕ) → weighted g (step_lines ways v m) y 0 ≡ total m (λ k. over (width v (ways k)) (λ c. g (line (Step k) c) *ℤ numbers k c))
  steps-sum g zero = refl
  steps-sum g (suc m) =
      let h = steps-sum g m in
      let a = weighted-append g (step_lines ways v m) (identity_lines v (Step m) (ways m)) y 0 (start m) (omega arith) in
      let l = lines-sum g v (Step m) (ways m) y (start m) in
      omega (arith, ints, h, a, l)

  pub all-sum : (g : Line → ℤ) → weighted g (lines ways many falling v) y 0 ≡ row_sum v locations many ways falling falling_in numbers last_numbers (λ id c. g (line id c))
  all-sum g =
      let h = steps-sum g many in
      let a = weighted-append g (step_lines ways v many) (identity_lines v Bound (ways falling)) y 0 (start many) (omega arith) in
      let l = lines-sum g v Bound (ways falling) y (start many) in
      omega (arith, ints, h, a, l)

  abbrev pub the_unknowns : List Unknown
  the_unknowns = unknowns ways many falling v locations

  abbrev pub the_lines : List Line
  the_lines = lines ways many falling v

  pub entry_of : (k j : ℕ) → k < length the_lines → j < length the_unknowns → entry_at (ranking_system ways many falling v locations) k j ≡ entry ways falling (get_or the_lines k (line Bound None)) (get_or the_unknowns j (Slack Bound))
  entry_of k j l g =
      flat_at (λ x. map (entry ways falling x) the_unknowns) (length the_unknowns) the_lines (line Bound None) (λ x. length-map the_unknowns (entry ways falling x)) k j l g
      ∙ get_or-map (entry ways falling (get_or the_lines k (line Bound None))) the_unknowns j (Slack Bound) (pos 0) g

  -- the sum of a column, as a sum over the lines
  column_is : (j : ℕ) → j < length the_unknowns → total (length the_lines) (λ k. get_or y k (pos 0) *ℤ entry_at (ranking_system ways many falling v locations) k j) ≡ column_sum v locations many ways falling falling_in numbers last_numbers (get_or the_unknowns j (Slack Bound))
  column_is j g =
      let u = get_or the_unknowns j (Slack Bound) in
      total-same (length the_lines) (λ k. get_or y k (pos 0) *ℤ entry_at (ranking_system ways many falling v locations) k j) (λ k. get_or (map (λ x. entry ways falling x u) the_lines) k (pos 0) *ℤ get_or y (0 + k) (pos 0)) (λ k l.
      *ℤ_comm (get_or y k (pos 0)) (entry_at (ranking_system ways many falling v locations) k j)
      ∙ (λ i. (entry_of k j l g ∙ sym (get_or-map (λ x. entry ways falling x u) the_lines k (line Bound None) (pos 0) l)) i *ℤ get_or y (plain k i) (pos 0)))
      ∙ weighted-total (λ x. entry ways falling x u) the_lines y 0
      ∙ all-sum (λ x. entry ways falling x u)
    where
      plain : (k : ℕ) → k ≡ 0 + k
      plain k = omega arith

  right_is : total (length the_lines) (λ k. get_or y k (pos 0) *ℤ right_at (ranking_system ways many falling v locations) k) ≡ row_sum v locations many ways falling falling_in numbers last_numbers (right_of falling)
  right_is =
      total-same (length the_lines) (λ k. get_or y k (pos 0) *ℤ right_at (ranking_system ways many falling v locations) k) (λ k. get_or (map (λ x. right_of falling x.identity x.column) the_lines) k (pos 0) *ℤ get_or y (0 + k) (pos 0)) (λ k l.
      *ℤ_comm (get_or y k (pos 0)) (right_at (ranking_system ways many falling v locations) k)
      ∙ ap (λ z. right_at (ranking_system ways many falling v locations) k *ℤ get_or y z (pos 0)) (plain k))
      ∙ weighted-total (λ x. right_of falling x.identity x.column) the_lines y 0
      ∙ all-sum (λ x. right_of falling x.identity x.column)
    where
      plain : (k : ℕ) → k ≡ 0 + k
      plain k = omega arith

  module _ (b : IsBarrierOf (ranking_system ways many falling v locations) y) (from_in : (k : ℕ) → k < many → (ways k).taken.from < locations) (to_in : (k : ℕ) → k < many → (ways k).taken.to < locations) where
    abbrev NotUnder : Unknown → Type 0
    NotUnder u = pos 0 ≤ℤ column_sum v locations many ways falling falling_in numbers last_numbers u

    each_unknown : AllByRecursion NotUnder the_unknowns
    each_unknown = all_by_place NotUnder the_unknowns (Slack Bound) (λ j l. subst (λ z. pos 0 ≤ℤ z) (column_is j l) (b.not_under j l))

    of_all_terms : AllByRecursion NotUnder (terms_below ways many v locations)
    of_all_terms = all_first NotUnder (terms_below ways many v locations) (steps_below ways many) (all_first NotUnder (terms_below ways many v locations ++ steps_below ways many) (identity_unknowns Bound (ways falling)) each_unknown)

    of_all_steps : AllByRecursion NotUnder (steps_below ways many)
    of_all_steps = all_second NotUnder (terms_below ways many v locations) (steps_below ways many) (all_first NotUnder (terms_below ways many v locations ++ steps_below ways many) (identity_unknowns Bound (ways falling)) each_unknown)

    of_the_bound : AllByRecursion NotUnder (identity_unknowns Bound (ways falling))
    of_the_bound = all_second NotUnder (terms_below ways many v locations ++ steps_below ways many) (identity_unknowns Bound (ways falling)) each_unknown

    pub read_barrier : Balance v many ways falling numbers last_numbers
    read_barrier = record {
      meets = λ k l i i_in.
          let s = (of_identity NotUnder (Step k) (ways k) (of_steps NotUnder ways many k of_all_steps l)).0 i i_in in
          let e = multiplier_sum v locations many ways falling falling_in numbers last_numbers k i l in
          omega (arith, ints, s, e);
      not_under = λ k l.
          let s = (of_identity NotUnder (Step k) (ways k) (of_steps NotUnder ways many k of_all_steps l)).1 in
          let e = slack_sum v locations many ways falling falling_in numbers last_numbers k l in
          omega (arith, ints, s, e);
      last_meets = λ i i_in.
          let s = (of_identity NotUnder Bound (ways falling) of_the_bound).0 i i_in in
          let e = last_multiplier_sum v locations many ways falling falling_in numbers last_numbers i in
          omega (arith, ints, s, e);
      last_not_under =
          (let s = (of_identity NotUnder Bound (ways falling) of_the_bound).1 in
          let e = last_slack_sum v locations many ways falling falling_in numbers last_numbers in
          omega (arith, ints, s, e));
      above =
          (let s = b.below in
          let e = right_is in
          let r = right_sum v locations many ways falling falling_in numbers last_numbers in
          omega (arith, ints, s, e, r));
      balance = balanced v locations many ways falling falling_in numbers last_numbers from_in to_in (λ l m l_in t g. of_terms NotUnder ways many v locations l m of_all_terms l_in t g);
    }

-- A barrier of the ranking system of ways that each have a rational point excludes every family of terms over the rationals.
pub barrier_excludes : (v locations many : ℕ) (ways : ℕ → Way) (falling : ℕ) → falling < many → ((k : ℕ) → k < many → (ways k).taken.from < locations) → ((k : ℕ) → k < many → (ways k).taken.to < locations) → ((k : ℕ) → k < many → HasPoint v (ways k)) → (y : List ℤ) → IsBarrierOf (ranking_system ways many falling v locations) y → NoneRanks v many ways falling
barrier_excludes v locations many ways falling falling_in from_in to_in points y b = λ terms wide ranks.
    excluded v many ways falling falling_in (λ k l. pointed v (ways k) (points k l))
    (numbers v locations many ways falling falling_in y) (last_numbers v locations many ways falling falling_in y)
    (read_barrier v locations many ways falling falling_in y b from_in to_in)
    (numbers_at terms) (ranks_at v many ways falling terms (λ l. terms_wide v terms l wide) ranks)
