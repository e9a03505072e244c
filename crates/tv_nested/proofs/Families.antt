-- What is read off a solution of the nested system is a nested family.
use Rattle.std.proofs.Common.{◌≡◌, inl, inr, ℕ, zero, suc, ◌+◌, ◌*◌, ◌^◌, ◌<◌, ◌≤◌, List, [], length, length-append, map, get_or, All, Option, None, Some, Bool, true, false, ◌==◌, ◌&&◌, if◌then◌else◌, arith, refl, sym, ap, ◌∙◌, subst, ℤ, pos, neg_ℤ, ◌+ℤ◌, ◌-ℤ◌, ◌*ℤ◌, ◌≤ℤ◌, unsigned_abs}
use Rattle.std.proofs.lemmas.Int.{ints}
use Rattle.std.proofs.lemmas.List.{length-map, get_or_past}
use Rattle.std.proofs.lemmas.List.Elements.{All-nil, All-push, All-from_get_or}
use Rattle.std.proofs.lemmas.Bool.{cases_lt, eq-eqb}
use Rattle.std.specs.List.{AllByRecursion}
use Rattle.tv_linear.specs.Arithmetic.{constant_row}
use Rattle.tv_linear.proofs.PlainLists.{get_or-zeros, length-table}
use Rattle.tv_linear.specs.Falls.{zero_row}
use Rattle.tv_linear.specs.Linear.{Linear, linear, columns, IsWithin}
use Rattle.tv_linear.specs.Known.{Known, given, composed, less, number, known_number, term_number, KnownHeld, PlacesHeld, place_sum}
use Rattle.tv_linear.specs.Terms.{table, update_of, terms_after}
use Rattle.tv_linear.proofs.ListLaws.{get_or-table, map-table}
use Rattle.tv_cases.proofs.AmountLemmas.{suc-times}
use Rattle.tv_simplex.proofs.SettleLemmas.{given_left}
use Rattle.tv_simplex.specs.Outcomes.{IsShort, IsNarrow, IsSolutionOf, IsNarrowSystem}
use Rattle.tv_rank.specs.Ways.{Way, met_rows, touches}
use Rattle.tv_rank.specs.RankingSystem.{unit_at, after, entered, left}
use Rattle.tv_rank.specs.Rankings.{term_at, listed_terms, IsShownBy}
use Rattle.tv_rank.specs.Reading.{difference, differences, term_read, multipliers_read, line_read}
use Rattle.tv_rank.specs.declared.found.LocalTerm.{LocalTerm}
use Rattle.tv_rank.proofs.Over.{Inside, if_true, over}
use Rattle.tv_rank.proofs.UnknownLists.{all_first, all_second, all_by_place}
use Rattle.tv_rank.proofs.Barriers.{row_of, width, before_at, after_at, there_before, there_after}
use Rattle.tv_rank.proofs.Points.{numbers_at, terms_wide}
use Rattle.tv_rank.proofs.Lengths.{length-differences}
use Rattle.tv_rank.proofs.Families.{touched_to, unit_small, if_small}
use Rattle.tv_rank.proofs.Solved.{get-differences, of_term_number, rows_sum, slack_of}
use Rattle.tv_rank.proofs.ShownRows.{places_held, shown}
use Rattle.tv_nested.specs.declared.unknown.Unknown.{Unknown}
use Rattle.tv_nested.specs.declared.unknown.Unknown.TheVariants.{Slack}
use Rattle.tv_nested.specs.declared.unknown.Line.{Line}
use Rattle.tv_nested.specs.NestedSystem.{identity, line, entry, terms_below, steps_below, unknowns, lines, nested_system}
use Rattle.tv_nested.specs.Reading.{read_at, tuple_read, lines_read}
use Rattle.tv_nested.specs.Tuples.{terms_of}
use Rattle.tv_nested.specs.Families.{row_before, step_row, line_at, IsColumn, IsNestedFamily}
use Rattle.tv_nested.proofs.Barriers.{entry_of}
use Rattle.tv_nested.proofs.UnknownLists.{of_terms, of_identity, of_steps}
use Rattle.tv_nested.proofs.Places.{of_lines, of_all_lines, steps-more, steps-within}
use Rattle.tv_nested.proofs.Equations.{line_start, before}
use Rattle.tv_nested.proofs.Rational.{step_equation, end_equation, nested_there, nested_listed, right_in, right_last}
use Rattle.tv_nested.proofs.Excluded.{earlier_at, NestedAt}
use Rattle.tv_nested.proofs.Read.{nested-read, line-read, length-lines, tuple-length, tuple-all, lines-all, listed-read, listed-wide}

module _ (v locations many d : ℕ) (ways : ℕ → Way) (xs : List ℤ) (scale : ℤ) (h : IsSolutionOf (nested_system ways many d v locations) xs scale) (narrow : IsNarrowSystem (nested_system ways many d v locations)) (from_in : (k : ℕ) → k < many → (ways k).taken.from < locations) (to_in : (k : ℕ) → k < many → (ways k).taken.to < locations) (bounded : v ≤ 512) (size : length (unknowns ways many d v locations) ≤ 4000000) (some : 0 < d) where
  -- ---- each number of the solution is short and at least 0, past the end too
  short : (j : ℕ) → IsShort (get_or xs j (pos 0))
  short j = elim (cases_lt j (length xs)) [
    | inl l ↦ h.short j (let e = h.as_many in omega (arith, e, l))
    | inr p ↦ subst IsShort (sym (get_or_past xs j (pos 0) p)) (omega arith)
  ]

  positive : (j : ℕ) → pos 0 ≤ℤ get_or xs j (pos 0)
  positive j = elim (cases_lt j (length xs)) [
    | inl l ↦ h.none_negative j (let e = h.as_many in omega (arith, e, l))
    | inr p ↦ subst (λ z. pos 0 ≤ℤ z) (sym (get_or_past xs j (pos 0) p)) (omega (arith, ints))
  ]

  difference_short : (s j : ℕ) → unsigned_abs (difference xs s j) < 2 ^ 62
  difference_short s j =
      let a = short (s + 2 * j) in
      let b = short (s + 2 * j + 1) in
      let c = positive (s + 2 * j) in
      let e = positive (s + 2 * j + 1) in
      omega (arith, ints, a, b, c, e)

  term_short : (j l : ℕ) (m : Option ℕ) → unsigned_abs (number m (read_at ways many d v xs j l)) < 2 ^ 62
  term_short j l m = by_touch (touches ways many l) (length (terms_below ways many d v l) + j * (2 * v + 2)) m
    where
      by_touch : (b : Bool) (s : ℕ) (m : Option ℕ) → unsigned_abs (number m (if b then term_read v xs s else constant_row v (pos 0))) < 2 ^ 62
      by_touch true s None = difference_short s v
      by_touch true s (Some j) = elim (cases_lt j v) [
        | inl l ↦ subst (λ z. unsigned_abs z < 2 ^ 62) (sym (get-differences xs s v j l)) (difference_short s j)
        | inr p ↦ subst (λ z. unsigned_abs z < 2 ^ 62) (sym (get_or_past (differences xs s v) j (pos 0) (let e = length-differences xs s v in omega (arith, e, p)))) (omega arith)
      ]
      by_touch false s None = omega arith
      by_touch false s (Some j) = subst (λ z. unsigned_abs z < 2 ^ 62) (sym (get_or-zeros v j)) (omega arith)

  earlier_short : (k i : ℕ) (m : Option ℕ) → unsigned_abs (number m (before v locations many d ways xs k i)) < 2 ^ 62
  earlier_short k zero None = omega arith
  earlier_short k zero (Some j) = omega arith
  earlier_short k (suc i) m = term_short i (ways k).taken.from m

  -- ---- each entry is narrow
  abbrev NarrowRow : Line → Type 0
  NarrowRow x = AllByRecursion (λ u. IsNarrow (entry ways x u)) (unknowns ways many d v locations)

  narrow_rows : AllByRecursion NarrowRow (lines ways d v many)
  narrow_rows = all_by_place NarrowRow (lines ways d v many) (line (identity 0 0) None) (λ k l. all_by_place (λ u. IsNarrow (entry ways (get_or (lines ways d v many) k (line (identity 0 0) None)) u)) (unknowns ways many d v locations) (Slack (identity 0 0)) (λ j g. subst IsNarrow (given_left (nested_system ways many d v locations) k j g ∙ entry_of v locations many d ways xs k j l g) (narrow k j l (inl g))))

  narrow_first : (k : ℕ) (c : Option ℕ) → k < many → Inside (width v (ways k)) c → NarrowRow (line (identity k 0) c)
  narrow_first k c k_in c_in = of_lines NarrowRow v (identity k 0) (ways k) c (of_all_lines NarrowRow ways d v many k 0 narrow_rows k_in (omega arith)) c_in

  row_narrow : (k i : ℕ) (c : Option ℕ) → k < many → i < length (met_rows (ways k)) → Inside (width v (ways k)) c → unsigned_abs (row_of (ways k) i c) < 2 ^ 41
  row_narrow k i c k_in i_in c_in =
      let P = λ (u : Unknown). IsNarrow (entry ways (line (identity k 0) c) u) in
      let a = (of_identity P (identity k 0) (ways k) (of_steps P ways d many k 0 (all_second P (terms_below ways many d v locations) (steps_below ways d many) (narrow_first k c k_in c_in)) k_in (omega arith))).0 i i_in in
      let e = if_true (k == k && 0 == 0) (neg_ℤ (row_of (ways k) i c)) (pos 0) (ap (λ b. b && 0 == 0) (eq-eqb k k refl)) in
      plain (row_of (ways k) i c) (subst IsNarrow e a)
    where
      plain : (z : ℤ) → unsigned_abs (neg_ℤ z) < 2 ^ 40 → unsigned_abs z < 2 ^ 41
      plain z q = omega (arith, ints, q)

  update_narrow : (k j : ℕ) (c : Option ℕ) → k < many → j < v → Inside (width v (ways k)) c → unsigned_abs (term_number c (update_of (ways k).taken.updates j)) < 2 ^ 41
  update_narrow k j c k_in j_in c_in =
      let P = λ (u : Unknown). IsNarrow (entry ways (line (identity k 0) c) u) in
      let l = (ways k).taken.to in
      let a = (of_terms P ways many d v locations l 0 (Some j) (all_first P (terms_below ways many d v locations) (steps_below ways d many) (narrow_first k c k_in c_in)) (to_in k k_in) (touched_to ways many k k_in) some j_in).0 in
      let e = if_true (l == l) (after (ways k).taken (Some j) c) (pos 0) (eq-eqb l l refl) in
      let o = of_term_number (update_of (ways k).taken.updates j) c in
      let u = if_small ((ways k).taken.from == l) (unit_at (Some j) c) (unit_small (Some j) c) in
      plain (entered (ways k).taken l (Some j) c) (left (ways k).taken l (Some j) c) (term_number c (update_of (ways k).taken.updates j)) (e ∙ o) u a
    where
      plain : (x y z : ℤ) → x ≡ z → unsigned_abs y ≤ 1 → unsigned_abs ((x -ℤ y) +ℤ pos 0) < 2 ^ 40 → unsigned_abs z < 2 ^ 41
      plain x y z e p q = omega (arith, ints, e, p, q)

  updates_narrow : (k : ℕ) (c : Option ℕ) → k < many → Inside (width v (ways k)) c → All (λ x. unsigned_abs x < 2 ^ 41) (map (term_number c) (terms_after v (ways k).taken.updates))
  updates_narrow k c k_in c_in = subst (All (λ x. unsigned_abs x < 2 ^ 41)) (sym (map-table (term_number c) v (update_of (ways k).taken.updates))) (All-from_get_or (λ x. unsigned_abs x < 2 ^ 41) (table v (λ j. term_number c (update_of (ways k).taken.updates j))) (pos 0) (λ i l.
      let i_in : i < v = (let e = length-table v (λ j. term_number c (update_of (ways k).taken.updates j)) in omega (arith, e, l)) in
      subst (λ z. unsigned_abs z < 2 ^ 41) (sym (get_or-table v (λ j. term_number c (update_of (ways k).taken.updates j)) i (pos 0) i_in)) (update_narrow k i c k_in i_in c_in)))

  few : (k : ℕ) → k < many → length (met_rows (ways k)) ≤ 4000000
  few k k_in =
      let b = length-append (terms_below ways many d v locations) (steps_below ways d many) in
      let m = steps-more ways d k in
      let t = suc-times d (length (met_rows (ways k)) + 1) in
      let w = steps-within ways d (k + 1) many (omega (arith, k_in)) in
      omega (arith, b, m, t, w, size)

  -- ---- a term after a way
  module _ (k : ℕ) (k_in : k < many) (j : ℕ) where
    abbrev moved : Known
    moved = composed (given (read_at ways many d v xs j (ways k).taken.to)) (terms_after v (ways k).taken.updates)

    abbrev kept_term : Linear
    kept_term = read_at ways many d v xs j (ways k).taken.from

    many_terms : (c : Option ℕ) → length (map (term_number c) (terms_after v (ways k).taken.updates)) ≡ v
    many_terms c = length-map (terms_after v (ways k).taken.updates) (term_number c) ∙ length-table v (update_of (ways k).taken.updates)

    places : (c : Option ℕ) → Inside (width v (ways k)) c → PlacesHeld (λ w. Unit {0}) (λ w. number (Some w) (read_at ways many d v xs j (ways k).taken.to)) (pos 0) 0 (map (term_number c) (terms_after v (ways k).taken.updates)) × (unsigned_abs (pos 0 +ℤ place_sum (λ n. number (Some (0 + n)) (read_at ways many d v xs j (ways k).taken.to)) (map (term_number c) (terms_after v (ways k).taken.updates))) ≤ (0 + length (map (term_number c) (terms_after v (ways k).taken.updates))) * 2 ^ 103)
    places c c_in = places_held (λ w. number (Some w) (read_at ways many d v xs j (ways k).taken.to)) (map (term_number c) (terms_after v (ways k).taken.updates)) 0 0 (pos 0) (let e = many_terms c in omega (arith, e, bounded)) (omega arith) (λ w. term_short j (ways k).taken.to (Some w)) (updates_narrow k c k_in c_in)

    place_bound : (c : Option ℕ) → Inside (width v (ways k)) c → unsigned_abs (place_sum (λ n. number (Some n) (read_at ways many d v xs j (ways k).taken.to)) (map (term_number c) (terms_after v (ways k).taken.updates))) ≤ 512 * 2 ^ 103
    place_bound c c_in =
        let b = (places c c_in).1 in
        let e = many_terms c in
        let p : place_sum (λ n. number (Some (0 + n)) (read_at ways many d v xs j (ways k).taken.to)) (map (term_number c) (terms_after v (ways k).taken.updates)) ≡ place_sum (λ n. number (Some n) (read_at ways many d v xs j (ways k).taken.to)) (map (term_number c) (terms_after v (ways k).taken.updates)) = (λ i. place_sum (λ n. number (Some (plain n i)) (read_at ways many d v xs j (ways k).taken.to)) (map (term_number c) (terms_after v (ways k).taken.updates))) in
        omega (arith, ints, b, e, bounded, p)
      where
        plain : (n : ℕ) → 0 + n ≡ n
        plain n = omega arith

    moved_bound : (c : Option ℕ) → Inside (width v (ways k)) c → unsigned_abs (known_number moved c) < 2 ^ 113
    moved_bound None c_in = (let b = place_bound None tt in let t = term_short j (ways k).taken.to None in omega (arith, ints, b, t))
    moved_bound (Some n) c_in = (let b = place_bound (Some n) c_in in omega (arith, ints, b))

    abbrev row : Known
    row = less (less moved (given kept_term) (pos 0)) (given (before v locations many d ways xs k j)) scale

    row_held : (c : Option ℕ) → Inside (width v (ways k)) c → KnownHeld row c
    row_held None c_in =
        let b = moved_bound None tt in
        let t = term_short j (ways k).taken.from None in
        let e = earlier_short k j None in
        let s = h.scale_short in (
          (
            ((places None tt).0, tt, (let w : unsigned_abs (known_number moved None) < 2 ^ 127 = omega (arith, b) in w)),
            tt,
            (let w : unsigned_abs (known_number moved None -ℤ number None kept_term) < 2 ^ 127 = omega (arith, ints, b, t) in w),
            (let w : unsigned_abs (known_number moved None -ℤ number None kept_term +ℤ pos 0) < 2 ^ 127 = omega (arith, ints, b, t) in w),
          ),
          tt,
          (let w : unsigned_abs ((known_number moved None -ℤ number None kept_term +ℤ pos 0) -ℤ number None (before v locations many d ways xs k j)) < 2 ^ 127 = omega (arith, ints, b, t, e) in w),
          (let w : unsigned_abs ((known_number moved None -ℤ number None kept_term +ℤ pos 0) -ℤ number None (before v locations many d ways xs k j) +ℤ scale) < 2 ^ 127 = omega (arith, ints, b, t, e, s) in w),
        )
    row_held (Some n) c_in =
        let b = moved_bound (Some n) c_in in
        let t = term_short j (ways k).taken.from (Some n) in
        let e = earlier_short k j (Some n) in (
          (
            (places (Some n) c_in).0,
            tt,
            (let w : unsigned_abs (known_number moved (Some n) -ℤ number (Some n) kept_term) < 2 ^ 127 = omega (arith, ints, b, t) in w),
          ),
          tt,
          (let w : unsigned_abs ((known_number moved (Some n) -ℤ number (Some n) kept_term) -ℤ number (Some n) (before v locations many d ways xs k j)) < 2 ^ 127 = omega (arith, ints, b, t, e) in w),
        )

    row_small : (c : Option ℕ) → Inside (width v (ways k)) c → unsigned_abs (known_number row c) < 2 ^ 126
    row_small None c_in = (let b = moved_bound None tt in let t = term_short j (ways k).taken.from None in let e = earlier_short k j None in let s = h.scale_short in omega (arith, ints, b, t, e, s))
    row_small (Some n) c_in = (let b = moved_bound (Some n) c_in in let t = term_short j (ways k).taken.from (Some n) in let e = earlier_short k j (Some n) in omega (arith, ints, b, t, e))

    module _ (j_in : j < d) where
      abbrev start : ℕ
      start = line_start v locations many d ways xs k j

      in_column : (n : ℕ) → n < width v (ways k) → rows_sum (ways k) xs start (Some n) ≡ known_number row (Some n)
      in_column n l = (let e = step_equation v locations many d ways xs scale h positive from_in to_in k j (Some n) k_in j_in l in let z : scale *ℤ pos 0 ≡ pos 0 = omega (arith, ints) in let u : pos 0 *ℤ slack_of (ways k) xs start ≡ pos 0 = omega (arith, ints) in omega (arith, ints, e, z, u))

      in_constant : (rows_sum (ways k) xs start None -ℤ slack_of (ways k) xs start) ≡ known_number row None
      in_constant =
          let e = step_equation v locations many d ways xs scale h positive from_in to_in k j None k_in j_in tt in
          let r = ap (λ z. scale *ℤ z) (right_in d j j_in) in
          let m : scale *ℤ neg_ℤ (pos 1) ≡ neg_ℤ scale = omega (arith, ints) in
          let u : pos 1 *ℤ slack_of (ways k) xs start ≡ slack_of (ways k) xs start = omega (arith, ints) in
          omega (arith, ints, e, r, m, u)

      step_shown : IsShownBy v (ways k) row (line_read xs start (ways k))
      step_shown = shown v (ways k) row xs start
          (few k k_in)
          (λ i l. short (start + i))
          (λ i l. positive (start + i))
          (λ i c l c_in. row_narrow k i c k_in l c_in)
          in_column
          (let e = in_constant in let a = positive (start + length (met_rows (ways k))) in omega (arith, ints, e, a))
          (let e = in_constant in let b = short (start + length (met_rows (ways k))) in omega (arith, ints, e, b))
          row_held
          row_small

  -- ---- the last term
  module _ (k : ℕ) (k_in : k < many) where
    abbrev last : Linear
    last = before v locations many d ways xs k d

    abbrev end : ℕ
    end = line_start v locations many d ways xs k d

    last_row : Known
    last_row = less (given zero_row) (given (before v locations many d ways xs k d)) (pos 0)

    end_constant : (rows_sum (ways k) xs end None -ℤ slack_of (ways k) xs end) ≡ neg_ℤ (number None last)
    end_constant =
        let e = end_equation v locations many d ways xs scale h positive from_in to_in k None k_in tt in
        let r = ap (λ z. scale *ℤ z) (right_last d) in
        let m : scale *ℤ pos 0 ≡ pos 0 = omega (arith, ints) in
        let u : pos 1 *ℤ slack_of (ways k) xs end ≡ slack_of (ways k) xs end = omega (arith, ints) in
        omega (arith, ints, e, r, m, u)

    end_shown : IsShownBy v (ways k) (less (given zero_row) (given (before v locations many d ways xs k d)) (pos 0)) (line_read xs end (ways k))
    end_shown = shown v (ways k) (less (given zero_row) (given (before v locations many d ways xs k d)) (pos 0)) xs end
        (few k k_in)
        (λ i l. short (end + i))
        (λ i l. positive (end + i))
        (λ i c l c_in. row_narrow k i c k_in l c_in)
        (λ n l. let e = end_equation v locations many d ways xs scale h positive from_in to_in k (Some n) k_in l in let z : scale *ℤ pos 0 ≡ pos 0 = omega (arith, ints) in let u : pos 0 *ℤ slack_of (ways k) xs end ≡ pos 0 = omega (arith, ints) in omega (arith, ints, e, z, u))
        (let e = end_constant in let a = positive (end + length (met_rows (ways k))) in omega (arith, ints, e, a))
        (let e = end_constant in let b = short (end + length (met_rows (ways k))) in omega (arith, ints, e, b))
        held
        small
      where
        held : (c : Option ℕ) → Inside (width v (ways k)) c → KnownHeld (less (given zero_row) (given (before v locations many d ways xs k d)) (pos 0)) c
        held None c_in =
            let t = earlier_short k d None in
            (tt, tt, (let w : unsigned_abs (pos 0 -ℤ number None last) < 2 ^ 127 = omega (arith, ints, t) in w), (let w : unsigned_abs (pos 0 -ℤ number None last +ℤ pos 0) < 2 ^ 127 = omega (arith, ints, t) in w))
        held (Some n) c_in =
            let t = earlier_short k d (Some n) in
            (tt, tt, (let w : unsigned_abs (pos 0 -ℤ number (Some n) last) < 2 ^ 127 = omega (arith, ints, t) in w))

        small : (c : Option ℕ) → Inside (width v (ways k)) c → unsigned_abs (known_number (less (given zero_row) (given (before v locations many d ways xs k d)) (pos 0)) c) < 2 ^ 126
        small None c_in = (let t = earlier_short k d None in omega (arith, ints, t))
        small (Some n) c_in = (let t = earlier_short k d (Some n) in omega (arith, ints, t))

  -- ---- the family
  abbrev tuple : List (List LocalTerm)
  tuple = tuple_read ways many d v xs locations d

  abbrev all_lines : List (List (List ℤ))
  all_lines = lines_read ways d xs (length (terms_below ways many d v locations)) many

  line_short : (s : ℕ) (w : Way) → All (IsWithin 62) (line_read xs s w)
  line_short s w = All-push (IsWithin 62) (multipliers_read xs s (length (met_rows w))) (pos 1) (multipliers_short s (length (met_rows w))) (let q : unsigned_abs (pos 1) < 2 ^ 62 = omega arith in q)
    where
      multipliers_short : (s n : ℕ) → All (IsWithin 62) (multipliers_read xs s n)
      multipliers_short s zero = All-nil (IsWithin 62)
      multipliers_short s (suc n) = All-push (IsWithin 62) (multipliers_read xs s n) (get_or xs (s + n) (pos 0)) (multipliers_short s n) (short (s + n))

  earlier_same : (k i : ℕ) → k < many → i < suc d → row_before v tuple i (ways k) ≡ before v locations many d ways xs k i
  earlier_same k zero k_in i_in = refl
  earlier_same k (suc i) k_in i_in = nested-read ways many d v xs locations d i (ways k).taken.from (omega (arith, i_in)) (from_in k k_in)

  step_same : (k j : ℕ) (k_in : k < many) → j < d → row k k_in j ≡ step_row v tuple (ways k) scale j
  step_same k j k_in j_in = (λ i. less (less (composed (given (sym (nested-read ways many d v xs locations d j (ways k).taken.to j_in (to_in k k_in)) i)) (terms_after v (ways k).taken.updates)) (given (sym (nested-read ways many d v xs locations d j (ways k).taken.from j_in (from_in k k_in)) i)) (pos 0)) (given (sym (earlier_same k j k_in (omega (arith, j_in))) i)) scale)

  -- ---- nested at all rational points
  abbrev listed : List (List Linear)
  listed = map (listed_terms v locations) tuple

  listed_term : (j l : ℕ) → j < d → l < locations → term_at (terms_of listed j) l ≡ read_at ways many d v xs j l
  listed_term j l j_in l_in = listed-read ways many d v xs locations d j l j_in l_in

  pub solution_is_family : IsNestedFamily v locations many d ways (tuple_read ways many d v xs locations d) scale (lines_read ways d xs (length (terms_below ways many d v locations)) many)
  solution_is_family = record {
    as_many = tuple-length ways many d v xs locations d;
    each = tuple-all ways many d v xs locations (λ t. t.location < locations) d (λ j l j_in l_in. l_in);
    wide = tuple-all ways many d v xs locations (λ t. columns t.row ≡ v) d (λ j l j_in l_in. length-differences xs (length (terms_below ways many d v l) + j * (2 * v + 2)) v);
    positive = h.positive;
    short = h.scale_short;
    counted = length-lines ways d xs (length (terms_below ways many d v locations)) many;
    falls = λ k k_in j j_in. subst (λ z. IsShownBy v (ways k) z (line_at all_lines k j)) (step_same k j k_in j_in) (subst (λ z. IsShownBy v (ways k) (row k k_in j) z) (sym (line-read ways d xs (length (terms_below ways many d v locations)) many k j k_in (omega (arith, j_in)))) (step_shown k k_in j j_in));
    bounded = λ k k_in. subst (λ z. IsShownBy v (ways k) (less (given zero_row) (given z) (pos 0)) (line_at all_lines k d)) (sym (earlier_same k d k_in (omega arith))) (subst (λ z. IsShownBy v (ways k) (less (given zero_row) (given (before v locations many d ways xs k d)) (pos 0)) z) (sym (line-read ways d xs (length (terms_below ways many d v locations)) many k d k_in (omega arith))) (end_shown k k_in));
    narrow = lines-all ways d xs (length (terms_below ways many d v locations)) (All (IsWithin 62)) many (λ k i. line_short (line_start v locations many d ways xs k i) (ways k));
    nested = nested_listed v d many ways listed wide_terms there;
    room = record {
      few = few;
      rows = λ k k_in c c_in. All-from_get_or (λ r. unsigned_abs (number c r) < 2 ^ 41) (met_rows (ways k)) (linear [] (pos 0)) (λ i l. row_narrow k i c k_in l (column_in (width v (ways k)) c c_in));
      kept = λ k k_in j j_in c. subst (λ t. unsigned_abs (number c t) < 2 ^ 62) (sym (nested-read ways many d v xs locations d j (ways k).taken.from j_in (from_in k k_in))) (term_short j (ways k).taken.from c);
      told = λ k k_in j j_in c c_in. subst (λ t. KnownHeld (composed (given t) (terms_after v (ways k).taken.updates)) c) (sym (nested-read ways many d v xs locations d j (ways k).taken.to j_in (to_in k k_in))) (moved_told k k_in j c c_in);
      moved = λ k k_in j j_in c c_in. subst (λ t. unsigned_abs (known_number (composed (given t) (terms_after v (ways k).taken.updates)) c) < 2 ^ 113) (sym (nested-read ways many d v xs locations d j (ways k).taken.to j_in (to_in k k_in))) (moved_bound k k_in j c (column_in (width v (ways k)) c c_in));
      ones = λ k k_in i i_in. (multipliers_read xs (line_start v locations many d ways xs k i) (length (met_rows (ways k))), line-read ways d xs (length (terms_below ways many d v locations)) many k i k_in (omega (arith, i_in)));
    };
  }
    where
      column_in : (n : ℕ) (c : Option ℕ) → IsColumn n c → Inside n c
      column_in n None h = h
      column_in n (Some j) h = h

      moved_told : (k : ℕ) (k_in : k < many) (j : ℕ) (c : Option ℕ) → IsColumn (width v (ways k)) c → KnownHeld (composed (given (read_at ways many d v xs j (ways k).taken.to)) (terms_after v (ways k).taken.updates)) c
      moved_told k k_in j None h = (row_held k k_in j None h).0.0
      moved_told k k_in j (Some m) h = (row_held k k_in j (Some m) h).0.0

      wide_terms : (j l : ℕ) → columns (term_at (terms_of listed j) l) ≤ v
      wide_terms j l = terms_wide v (terms_of listed j) l (listed-wide ways many d v xs locations d j)

      numbers : ℕ → ℕ → Option ℕ → ℤ
      numbers j l m = number m (read_at ways many d v xs j l)

      before_same : (k j : ℕ) → k < many → j < d → (p : Option ℕ → ℤ) → before_at v (numbers_at (terms_of listed j)) (ways k) p ≡ before_at v (numbers j) (ways k) p
      before_same k j k_in j_in p = ap (λ f. over v (λ m. number m f *ℤ there_before v (ways k) p m)) (listed_term j (ways k).taken.from j_in (from_in k k_in))

      after_same : (k j : ℕ) → k < many → j < d → (p : Option ℕ → ℤ) → after_at v (numbers_at (terms_of listed j)) (ways k) p ≡ after_at v (numbers j) (ways k) p
      after_same k j k_in j_in p = ap (λ f. over v (λ m. number m f *ℤ there_after v (ways k) p m)) (listed_term j (ways k).taken.to j_in (to_in k k_in))

      earlier_same_at : (k i : ℕ) → k < many → i < suc d → (p : Option ℕ → ℤ) → earlier_at v (λ j. numbers_at (terms_of listed j)) i (ways k) p ≡ earlier_at v numbers i (ways k) p
      earlier_same_at k zero k_in i_in p = refl
      earlier_same_at k (suc i) k_in i_in p = before_same k i k_in (omega (arith, i_in)) p

      there : NestedAt v d many ways (λ j. numbers_at (terms_of listed j))
      there =
          let n = nested_there v locations many d ways xs scale h positive from_in to_in in
          record {
            falls = λ k k_in j j_in p q.
                let f = n.falls k k_in j j_in p q in
                let a = after_same k j k_in j_in p in
                let b = before_same k j k_in j_in p in
                let e = earlier_same_at k j k_in (omega (arith, j_in)) p in
                omega (arith, ints, f, a, b, e);
            bounded = λ k k_in p q. let f = n.bounded k k_in p q in let e = earlier_same_at k d k_in (omega arith) p in omega (arith, ints, f, e);
          }
