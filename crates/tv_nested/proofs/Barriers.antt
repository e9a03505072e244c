-- A barrier of the nested system, read as numbers for each identity: it excludes every nested tuple.
use Rattle.std.proofs.Common.{◌≡◌, ℕ, zero, suc, ◌+◌, ◌<◌, List, [], ◌∷◌, length, length-append, map, get_or, Option, None, Some, arith, refl, sym, ap, ◌∙◌, ℤ, pos, ◌*ℤ◌, ◌≤ℤ◌, ◌≤◌}
use Rattle.std.proofs.lemmas.Int.{ints}
use Rattle.std.proofs.lemmas.List.{length-map, get_or-map}
use Rattle.std.proofs.Math.IntN.{*ℤ_comm}
use Rattle.std.specs.List.{AllByRecursion}
use Rattle.tv_simplex.specs.Sums.{total}
use Rattle.tv_simplex.specs.Systems.{entry_at, right_at}
use Rattle.tv_simplex.specs.Outcomes.{IsBarrierOf}
use Rattle.tv_simplex.proofs.Sums.{total-same}
use Rattle.tv_rank.specs.Ways.{Way}
use Rattle.tv_rank.specs.Given.{IsBetween}
use Rattle.tv_linear.specs.Linear.{Linear, columns}
use Rattle.tv_rank.specs.Rankings.{HasPoint, term_at}
use Rattle.tv_rank.proofs.Over.{over}
use Rattle.tv_rank.proofs.UnknownLists.{all_first, all_second, all_by_place, weighted, weighted-append, weighted-last, weighted-total, flat_at}
use Rattle.tv_rank.proofs.Barriers.{width}
use Rattle.tv_rank.proofs.Flattened.{point_from}
use Rattle.tv_rank.proofs.Points.{pointed, listed_point, list_of, numbers_at, terms_wide, before_listed, after_listed}
use Rattle.tv_nested.specs.declared.unknown.Identity.{Identity}
use Rattle.tv_nested.specs.declared.unknown.Unknown.{Unknown}
use Rattle.tv_nested.specs.declared.unknown.Unknown.TheVariants.{Slack}
use Rattle.tv_nested.specs.declared.unknown.Line.{Line}
use Rattle.tv_nested.specs.NestedSystem.{identity, line, entry, right_of, terms_below, steps_below, unknowns, columns_below, identity_lines, way_lines, lines, nested_system}
use Rattle.tv_nested.specs.Tuples.{terms_of, earlier, IsNested, NoneNested}
use Rattle.tv_nested.proofs.UnknownLists.{of_terms, of_identity, of_steps}
use Rattle.tv_nested.proofs.Balances.{row_sum, column_sum, multiplier_sum, slack_sum, right_sum, balanced}
use Rattle.tv_nested.proofs.Excluded.{earlier_at, NestedAt, Balance, excluded}

-- ---- the numbers of a barrier by identity
length-columns : (id : Identity) (n : ℕ) → length (columns_below id n) ≡ n
length-columns id zero = refl
length-columns id (suc n) = length-append (columns_below id n) (line id (Some n) ∷ []) ∙ (let h = length-columns id n in omega (arith, h))

pub length-lines : (v : ℕ) (id : Identity) (w : Way) → length (identity_lines v id w) ≡ width v w + 1
length-lines v id w = length-append (columns_below id (width v w)) (line id None ∷ []) ∙ (let h = length-columns id (width v w) in omega (arith, h))

columns-sum : (g : Line → ℤ) (id : Identity) (n : ℕ) (y : List ℤ) (s : ℕ) → weighted g (columns_below id n) y s ≡ total n (λ j. g (line id (Some j)) *ℤ get_or y (s + j) (pos 0))
columns-sum g id zero y s = refl
columns-sum g id (suc n) y s =
    let h = columns-sum g id n y s in
    let l = weighted-last g (columns_below id n) (line id (Some n)) y s (s + n) (let e = length-columns id n in omega (arith, e)) in
    omega (arith, ints, h, l)

lines-sum : (g : Line → ℤ) (v : ℕ) (id : Identity) (w : Way) (y : List ℤ) (s : ℕ) → weighted g (identity_lines v id w) y s ≡ over (width v w) (λ c. g (line id c) *ℤ point_from y s (width v w) c)
lines-sum g v id w y s =
    let h = columns-sum g id (width v w) y s in
    let l = weighted-last g (columns_below id (width v w)) (line id None) y s (s + width v w) (let e = length-columns id (width v w) in omega (arith, e)) in
    omega (arith, ints, h, l)

module _ (v locations many d : ℕ) (ways : ℕ → Way) (y : List ℤ) where
  -- where the rows of an identity stand
  abbrev pub start : ℕ → ℕ → ℕ
  start k i = length (lines ways d v k) + length (way_lines v k (ways k) i)

  abbrev pub numbers : ℕ → ℕ → Option ℕ → ℤ
  numbers k i = point_from y (start k i) (width v (ways k))

  way-sum : (g : Line → ℤ) (k n : ℕ) → weighted g (way_lines v k (ways k) n) y (length (lines ways d v k)) ≡ total n (λ i. over (width v (ways k)) (λ c. g (line (identity k i) c) *ℤ numbers k i c))
  way-sum g k zero = refl
  way-sum g k (suc n) =
      let h = way-sum g k n in
      let a = weighted-append g (way_lines v k (ways k) n) (identity_lines v (identity k n) (ways k)) y (length (lines ways d v k)) (start k n) refl in
      let l = lines-sum g v (identity k n) (ways k) y (start k n) in
      omega (arith, ints, h, a, l)

  all-sum : (g : Line → ℤ) (m : ℕ) → weighted g (lines ways d v m) y 0 ≡ total m (λ k. total (suc d) (λ i. over (width v (ways k)) (λ c. g (line (identity k i) c) *ℤ numbers k i c)))
  all-sum g zero = refl
  all-sum g (suc m) =
      let h = all-sum g m in
      let a = weighted-append g (lines ways d v m) (way_lines v m (ways m) (suc d)) y 0 (length (lines ways d v m)) (omega arith) in
      let l = way-sum g m (suc d) in
      omega (arith, ints, h, a, l)

  abbrev pub the_unknowns : List Unknown
  the_unknowns = unknowns ways many d v locations

  abbrev pub the_lines : List Line
  the_lines = lines ways d v many

  abbrev pub some_line : Line
  some_line = line (identity 0 0) None

  abbrev pub some_unknown : Unknown
  some_unknown = Slack (identity 0 0)

  pub entry_of : (k j : ℕ) → k < length the_lines → j < length the_unknowns → entry_at (nested_system ways many d v locations) k j ≡ entry ways (get_or the_lines k some_line) (get_or the_unknowns j some_unknown)
  entry_of k j l g =
      flat_at (λ x. map (entry ways x) the_unknowns) (length the_unknowns) the_lines some_line (λ x. length-map the_unknowns (entry ways x)) k j l g
      ∙ get_or-map (entry ways (get_or the_lines k some_line)) the_unknowns j some_unknown (pos 0) g

  -- the sum of a column, as a sum over the lines
  column_is : (j : ℕ) → j < length the_unknowns → total (length the_lines) (λ k. get_or y k (pos 0) *ℤ entry_at (nested_system ways many d v locations) k j) ≡ column_sum v d many ways numbers (get_or the_unknowns j some_unknown)
  column_is j g =
      let u = get_or the_unknowns j some_unknown in
      total-same (length the_lines) (λ k. get_or y k (pos 0) *ℤ entry_at (nested_system ways many d v locations) k j) (λ k. get_or (map (λ x. entry ways x u) the_lines) k (pos 0) *ℤ get_or y (0 + k) (pos 0)) (λ k l.
      *ℤ_comm (get_or y k (pos 0)) (entry_at (nested_system ways many d v locations) k j)
      ∙ (λ i. (entry_of k j l g ∙ sym (get_or-map (λ x. entry ways x u) the_lines k some_line (pos 0) l)) i *ℤ get_or y (plain k i) (pos 0)))
      ∙ weighted-total (λ x. entry ways x u) the_lines y 0
      ∙ all-sum (λ x. entry ways x u) many
    where
      plain : (k : ℕ) → k ≡ 0 + k
      plain k = omega arith

  right_is : total (length the_lines) (λ k. get_or y k (pos 0) *ℤ right_at (nested_system ways many d v locations) k) ≡ row_sum v d many ways numbers (right_of d)
  right_is =
      total-same (length the_lines) (λ k. get_or y k (pos 0) *ℤ right_at (nested_system ways many d v locations) k) (λ k. get_or (map (λ x. right_of d x.identity x.column) the_lines) k (pos 0) *ℤ get_or y (0 + k) (pos 0)) (λ k l.
      *ℤ_comm (get_or y k (pos 0)) (right_at (nested_system ways many d v locations) k)
      ∙ ap (λ z. right_at (nested_system ways many d v locations) k *ℤ get_or y z (pos 0)) (plain k))
      ∙ weighted-total (λ x. right_of d x.identity x.column) the_lines y 0
      ∙ all-sum (λ x. right_of d x.identity x.column) many
    where
      plain : (k : ℕ) → k ≡ 0 + k
      plain k = omega arith

  module _ (b : IsBarrierOf (nested_system ways many d v locations) y) (from_in : (k : ℕ) → k < many → (ways k).taken.from < locations) (to_in : (k : ℕ) → k < many → (ways k).taken.to < locations) where
    abbrev NotUnder : Unknown → Type 0
    NotUnder u = pos 0 ≤ℤ column_sum v d many ways numbers u

    each_unknown : AllByRecursion NotUnder the_unknowns
    each_unknown = all_by_place NotUnder the_unknowns some_unknown (λ j l. rw (← (column_is j l)) (b.not_under j l))

    of_all_terms : AllByRecursion NotUnder (terms_below ways many d v locations)
    of_all_terms = all_first NotUnder (terms_below ways many d v locations) (steps_below ways d many) each_unknown

    of_all_steps : AllByRecursion NotUnder (steps_below ways d many)
    of_all_steps = all_second NotUnder (terms_below ways many d v locations) (steps_below ways d many) each_unknown

    pub read_barrier : Balance v d many ways numbers
    read_barrier = record {
      meets = λ k i l g m m_in.
          let s = (of_identity NotUnder (identity k i) (ways k) (of_steps NotUnder ways d many k i of_all_steps l g)).0 m m_in in
          let e = multiplier_sum v d many ways numbers k i m l g in
          omega (arith, ints, s, e);
      not_under = λ k i l g.
          let s = (of_identity NotUnder (identity k i) (ways k) (of_steps NotUnder ways d many k i of_all_steps l g)).1 in
          let e = slack_sum v d many ways numbers k i l g in
          omega (arith, ints, s, e);
      above =
          (let s = b.below in
          let e = right_is in
          let r = right_sum v d many ways numbers in
          omega (arith, ints, s, e, r));
      balance = balanced v d many ways numbers locations from_in to_in (λ l j m l_in t j_in g. of_terms NotUnder ways many d v locations l j m of_all_terms l_in t j_in g);
    }

-- ---- tuples in lists are tuples at points
nested_at : (v d many : ℕ) (ways : ℕ → Way) (tuple : List (List Linear)) → ((j l : ℕ) → columns (term_at (terms_of tuple j) l) ≤ v) → IsNested v d many ways tuple → NestedAt v d many ways (λ j. numbers_at (terms_of tuple j))
nested_at v d many ways tuple wide h = record {
  falls = λ k l j g p q.
      let w = ways k in
      let f = h.falls k l j g (list_of (width v w) p) (p None) (listed_point v w p q) in
      let a = after_listed v (terms_of tuple j) w p in
      let b = before_listed v (terms_of tuple j) w p (wide j w.taken.from) in
      let e = before j w p in
      omega (arith, ints, f, a, b, e);
  bounded = λ k l p q.
      let w = ways k in
      let f = h.bounded k l (list_of (width v w) p) (p None) (listed_point v w p q) in
      let e = before d w p in
      omega (arith, ints, f, e);
}
  where
    before : (j : ℕ) (w : Way) (p : Option ℕ → ℤ) → earlier tuple j w (list_of (width v w) p) (p None) ≡ earlier_at v (λ j. numbers_at (terms_of tuple j)) j w p
    before zero w p = refl
    before (suc j) w p = before_listed v (terms_of tuple j) w p (wide j w.taken.from)

-- A barrier of the nested system of ways that each have a rational point excludes every nested tuple over the rationals.
pub barrier_excludes : (v locations many d : ℕ) (ways : ℕ → Way) → ((k : ℕ) → k < many → IsBetween locations (ways k).taken) → ((k : ℕ) → k < many → HasPoint v (ways k)) → (y : List ℤ) → IsBarrierOf (nested_system ways many d v locations) y → NoneNested v d many ways
barrier_excludes v locations many d ways between points y b = λ tuple wide nested.
    excluded v d many ways (λ j. numbers_at (terms_of tuple j))
    (nested_at v d many ways tuple (λ j l. terms_wide v (terms_of tuple j) l (wide j)) nested)
    (numbers v locations many d ways y)
    (read_barrier v locations many d ways y b (λ k l. (between k l).leaves) (λ k l. (between k l).enters))
    (λ k l. pointed v (ways k) (points k l))
