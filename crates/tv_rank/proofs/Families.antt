use Rattle.std.proofs.Common.{◌≡◌, inl, inr, ℕ, zero, suc, ◌+◌, ◌*◌, ◌^◌, ◌<◌, ◌≤◌, List, [], ◌∷◌, ◌++◌, length, length-append, map, get_or, All, Option, None, Some, Bool, true, false, ◌==◌, ◌||◌, if◌then◌else◌, arith, refl, sym, ap, ◌∙◌, subst, ℤ, pos, neg_ℤ, ◌+ℤ◌, ◌-ℤ◌, ◌*ℤ◌, ◌≤ℤ◌, ◌<ℤ◌, unsigned_abs}
use Rattle.std.proofs.lemmas.Int.{ints}
use Rattle.std.proofs.lemmas.List.{length-map, get_or_past}
use Rattle.std.proofs.lemmas.List.Elements.{All-nil, All-push, All-from_get_or}
use Rattle.std.specs.List.{AllByRecursion}
use Rattle.tv_linear.specs.Arithmetic.{constant_row}
use Rattle.tv_linear.proofs.PlainLists.{get_or-zeros, length-table}
use Rattle.tv_linear.specs.Falls.{zero_row}
use Rattle.tv_linear.specs.Linear.{Linear, columns, IsWithin}
use Rattle.tv_linear.specs.Known.{Known, given, composed, less, number, known_number, term_number, KnownHeld, PlacesHeld, place_sum}
use Rattle.tv_linear.specs.Terms.{table, update_of, terms_after}
use Rattle.tv_linear.proofs.ListLaws.{get_or-table, map-table, same_or_below}
use Rattle.tv_refute.proofs.Places.{get_or-left, get_or-right}
use Rattle.tv_simplex.proofs.SettleLemmas.{given_left}
use Rattle.tv_simplex.specs.Outcomes.{IsShort, IsNarrow, IsSolutionOf, IsNarrowSystem}
use Rattle.tv_rank.specs.declared.unknown.Identity.TheVariants.{Step, Bound}
use Rattle.tv_rank.specs.declared.unknown.Unknown.{Unknown}
use Rattle.tv_rank.specs.declared.unknown.Unknown.TheVariants.{Slack}
use Rattle.tv_rank.specs.declared.unknown.Line.{Line}
use Rattle.tv_rank.specs.Ways.{Way, met_rows, touches}
use Rattle.tv_rank.specs.RankingSystem.{unit_at, after, entered, left, entry, right_of, terms_below, steps_below, identity_unknowns, unknowns, lines, step_lines, identity_lines, ranking_system}
use Rattle.tv_rank.specs.Rankings.{change_row, bound_row, IsShownBy, fall_of, IsFamily}
use Rattle.tv_rank.specs.Reading.{difference, differences, term_read, read_at, terms_read, multipliers_read, line_read, lines_read, all_read}
use Rattle.tv_rank.proofs.Over.{Inside, if_true}
use Rattle.tv_rank.proofs.UnknownLists.{all_first, all_second, all_by_place, of_lines, of_step_lines, of_terms, of_identity, of_steps}
use Rattle.tv_rank.proofs.Barriers.{line, row_of, width}
use Rattle.tv_rank.proofs.Locals.{local-read, all-read}
use Rattle.tv_rank.proofs.Lengths.{length-differences, steps-more, steps-within}
use Rattle.tv_rank.proofs.Flattened.{entry_of}
use Rattle.tv_rank.proofs.Solved.{get-differences, of_term_number, rows_sum, slack_of, step_start, step_sum, bound_sum, step_row, bound_row_is}
use Rattle.tv_rank.proofs.ShownRows.{places_held, shown}
use Rattle.tv_rank.proofs.Rational.{solution_ranks}
use Rattle.std.proofs.lemmas.Bool.{or_right, cases_lt, or_left, eq-eqb}

-- ---- what is read stands at its place
length-lines : (ways : ℕ → Way) (xs : List ℤ) (s n : ℕ) → length (lines_read ways xs s n) ≡ n
length-lines ways xs s zero = refl
length-lines ways xs s (suc n) = length-append (lines_read ways xs s n) (line_read xs (s + length (steps_below ways n)) (ways n) ∷ []) ∙ (let h = length-lines ways xs s n in omega (arith, h))

line-read : (ways : ℕ → Way) (xs : List ℤ) (s n k : ℕ) → k < n → get_or (lines_read ways xs s n) k [] ≡ line_read xs (s + length (steps_below ways k)) (ways k)
line-read ways xs s zero k h = absurd (omega (arith, h))
line-read ways xs s (suc n) k h = elim (same_or_below n k h) [
  | inl e ↦ get_or-right (lines_read ways xs s n) (line_read xs (s + length (steps_below ways n)) (ways n) ∷ []) k 0 [] (let f = length-lines ways xs s n in omega (arith, e, f)) ∙ ap (λ z. line_read xs (s + length (steps_below ways z)) (ways z)) (sym e)
  | inr b ↦ get_or-left (lines_read ways xs s n) (line_read xs (s + length (steps_below ways n)) (ways n) ∷ []) k [] (let f = length-lines ways xs s n in omega (arith, b, f)) ∙ line-read ways xs s n k b
]

pub touched_to : (ways : ℕ → Way) (many k : ℕ) → k < many → touches ways many (ways k).taken.to ≡ true
touched_to ways zero k h = absurd (omega (arith, h))
touched_to ways (suc m) k h = elim (same_or_below m k h) [
  | inl e ↦ or_right (touches ways m (ways k).taken.to) ((ways m).taken.from == (ways k).taken.to || (ways m).taken.to == (ways k).taken.to) (or_right ((ways m).taken.from == (ways k).taken.to) ((ways m).taken.to == (ways k).taken.to) (eq-eqb (ways m).taken.to (ways k).taken.to (ap (λ z. (ways z).taken.to) (sym e))))
  | inr b ↦ or_left (touches ways m (ways k).taken.to) ((ways m).taken.from == (ways k).taken.to || (ways m).taken.to == (ways k).taken.to) (touched_to ways m k b)
]

pub unit_small : (m c : Option ℕ) → unsigned_abs (unit_at m c) ≤ 1
unit_small None None = omega arith
unit_small None (Some j) = omega arith
unit_small (Some w) None = omega arith
unit_small (Some w) (Some j) = by_test (w == j)
  where
    by_test : (b : Bool) → unsigned_abs (if b then pos 1 else pos 0) ≤ 1
    by_test true = omega arith
    by_test false = omega arith

pub if_small : (b : Bool) (z : ℤ) → unsigned_abs z ≤ 1 → unsigned_abs (if b then z else pos 0) ≤ 1
if_small true z h = h
if_small false z h = omega arith

module _ (v locations many : ℕ) (ways : ℕ → Way) (falling : ℕ) (falling_in : falling < many) (xs : List ℤ) (scale : ℤ) (h : IsSolutionOf (ranking_system ways many falling v locations) xs scale) (narrow : IsNarrowSystem (ranking_system ways many falling v locations)) (from_in : (k : ℕ) → k < many → (ways k).taken.from < locations) (to_in : (k : ℕ) → k < many → (ways k).taken.to < locations) (bounded : v ≤ 512) (size : length (unknowns ways many falling v locations) ≤ 4000000) where
  -- ---- each number of the solution is short and at least 0, past the end too
  short : (j : ℕ) → IsShort (get_or xs j (pos 0))
  short j = elim (cases_lt j (length xs)) [
    | inl l ↦ h.short j (let e = h.as_many in omega (arith, e, l))
    | inr p ↦ subst IsShort (sym (get_or_past xs j (pos 0) p)) (omega arith)
  ]

  positive : (j : ℕ) → pos 0 ≤ℤ get_or xs j (pos 0)
  positive j = elim (cases_lt j (length xs)) [
    | inl l ↦ h.none_negative j (let e = h.as_many in omega (arith, e, l))
    | inr p ↦ subst (λ z. pos 0 ≤ℤ z) (sym (get_or_past xs j (pos 0) p)) (omega (arith, ints))
  ]

  difference_short : (s j : ℕ) → unsigned_abs (difference xs s j) < 2 ^ 62
  difference_short s j =
      let a = short (s + 2 * j) in
      let b = short (s + 2 * j + 1) in
      let c = positive (s + 2 * j) in
      let d = positive (s + 2 * j + 1) in
      omega (arith, ints, a, b, c, d)

  abbrev the_term : ℕ → Linear
  the_term l = read_at ways many v xs l

  term_short : (l : ℕ) (m : Option ℕ) → unsigned_abs (number m (read_at ways many v xs l)) < 2 ^ 62
  term_short l m = by_touch (touches ways many l) (length (terms_below ways many v l)) m
    where
      by_touch : (b : Bool) (s : ℕ) (m : Option ℕ) → unsigned_abs (number m (if b then term_read v xs s else constant_row v (pos 0))) < 2 ^ 62
      by_touch true s None = difference_short s v
      by_touch true s (Some j) = elim (cases_lt j v) [
        | inl l ↦ subst (λ z. unsigned_abs z < 2 ^ 62) (sym (get-differences xs s v j l)) (difference_short s j)
        | inr p ↦ subst (λ z. unsigned_abs z < 2 ^ 62) (sym (get_or_past (differences xs s v) j (pos 0) (let e = length-differences xs s v in omega (arith, e, p)))) (omega arith)
      ]
      by_touch false s None = omega arith
      by_touch false s (Some j) = subst (λ z. unsigned_abs z < 2 ^ 62) (sym (get_or-zeros v j)) (omega arith)

  -- ---- each entry is narrow
  abbrev NarrowRow : Line → Type 0
  NarrowRow x = AllByRecursion (λ u. IsNarrow (entry ways falling x u)) (unknowns ways many falling v locations)

  narrow_rows : AllByRecursion NarrowRow (lines ways many falling v)
  narrow_rows = all_by_place NarrowRow (lines ways many falling v) (line Bound None) (λ k l. all_by_place (λ u. IsNarrow (entry ways falling (get_or (lines ways many falling v) k (line Bound None)) u)) (unknowns ways many falling v locations) (Slack Bound) (λ j g. subst IsNarrow (given_left (ranking_system ways many falling v locations) k j g ∙ entry_of v locations many ways falling falling_in xs k j l g) (narrow k j l (inl g))))

  narrow_step : (k : ℕ) (c : Option ℕ) → k < many → Inside (width v (ways k)) c → NarrowRow (line (Step k) c)
  narrow_step k c k_in c_in = of_lines NarrowRow v (Step k) (ways k) c (of_step_lines NarrowRow ways v many k (all_first NarrowRow (step_lines ways v many) (identity_lines v Bound (ways falling)) narrow_rows) k_in) c_in

  narrow_terms : (k : ℕ) (c : Option ℕ) → k < many → Inside (width v (ways k)) c → AllByRecursion (λ u. IsNarrow (entry ways falling (line (Step k) c) u)) (terms_below ways many v locations ++ steps_below ways many)
  narrow_terms k c k_in c_in = all_first (λ u. IsNarrow (entry ways falling (line (Step k) c) u)) (terms_below ways many v locations ++ steps_below ways many) (identity_unknowns Bound (ways falling)) (narrow_step k c k_in c_in)

  row_narrow : (k i : ℕ) (c : Option ℕ) → k < many → i < length (met_rows (ways k)) → Inside (width v (ways k)) c → unsigned_abs (row_of (ways k) i c) < 2 ^ 41
  row_narrow k i c k_in i_in c_in =
      let P = λ (u : Unknown). IsNarrow (entry ways falling (line (Step k) c) u) in
      let a = (of_identity P (Step k) (ways k) (of_steps P ways many k (all_second P (terms_below ways many v locations) (steps_below ways many) (narrow_terms k c k_in c_in)) k_in)).0 i i_in in
      let e = if_true (k == k) (neg_ℤ (row_of (ways k) i c)) (pos 0) (eq-eqb k k refl) in
      plain (row_of (ways k) i c) (subst IsNarrow e a)
    where
      plain : (z : ℤ) → unsigned_abs (neg_ℤ z) < 2 ^ 40 → unsigned_abs z < 2 ^ 41
      plain z q = omega (arith, ints, q)

  update_narrow : (k j : ℕ) (c : Option ℕ) → k < many → j < v → Inside (width v (ways k)) c → unsigned_abs (term_number c (update_of (ways k).taken.updates j)) < 2 ^ 41
  update_narrow k j c k_in j_in c_in =
      let P = λ (u : Unknown). IsNarrow (entry ways falling (line (Step k) c) u) in
      let l = (ways k).taken.to in
      let a = (of_terms P ways many v locations l (Some j) (all_first P (terms_below ways many v locations) (steps_below ways many) (narrow_terms k c k_in c_in)) (to_in k k_in) (touched_to ways many k k_in) j_in).0 in
      let e = if_true (l == l) (after (ways k).taken (Some j) c) (pos 0) (eq-eqb l l refl) in
      let o = of_term_number (update_of (ways k).taken.updates j) c in
      let u = if_small ((ways k).taken.from == l) (unit_at (Some j) c) (unit_small (Some j) c) in
      plain (entered (ways k).taken l (Some j) c) (left (ways k).taken l (Some j) c) (term_number c (update_of (ways k).taken.updates j)) (e ∙ o) u a
    where
      plain : (x y z : ℤ) → x ≡ z → unsigned_abs y ≤ 1 → unsigned_abs (x -ℤ y) < 2 ^ 40 → unsigned_abs z < 2 ^ 41
      plain x y z e p q = omega (arith, ints, e, p, q)

  updates_narrow : (k : ℕ) (c : Option ℕ) → k < many → Inside (width v (ways k)) c → All (λ x. unsigned_abs x < 2 ^ 41) (map (term_number c) (terms_after v (ways k).taken.updates))
  updates_narrow k c k_in c_in = subst (All (λ x. unsigned_abs x < 2 ^ 41)) (sym (map-table (term_number c) v (update_of (ways k).taken.updates))) (All-from_get_or (λ x. unsigned_abs x < 2 ^ 41) (table v (λ j. term_number c (update_of (ways k).taken.updates j))) (pos 0) (λ i l.
      let i_in : i < v = (let e = length-table v (λ j. term_number c (update_of (ways k).taken.updates j)) in omega (arith, e, l)) in
      subst (λ z. unsigned_abs z < 2 ^ 41) (sym (get_or-table v (λ j. term_number c (update_of (ways k).taken.updates j)) i (pos 0) i_in)) (update_narrow k i c k_in i_in c_in)))

  -- ---- the room of an identity
  step_few : (k : ℕ) → k < many → length (met_rows (ways k)) ≤ 4000000
  step_few k k_in =
      let a = length-append (terms_below ways many v locations ++ steps_below ways many) (identity_unknowns Bound (ways falling)) in
      let b = length-append (terms_below ways many v locations) (steps_below ways many) in
      let m = steps-more ways k in
      let w = steps-within ways (k + 1) many (omega (arith, k_in)) in
      omega (arith, a, b, m, w, size)

  -- ---- the row of a step
  module _ (k : ℕ) (k_in : k < many) where
    abbrev changed : Known
    changed = composed (given (read_at ways many v xs (ways k).taken.to)) (terms_after v (ways k).taken.updates)

    abbrev before : Linear
    before = read_at ways many v xs (ways k).taken.from

    places : (c : Option ℕ) → Inside (width v (ways k)) c → PlacesHeld (λ w. Unit {0}) (λ w. number (Some w) (read_at ways many v xs (ways k).taken.to)) (pos 0) 0 (map (term_number c) (terms_after v (ways k).taken.updates)) × (unsigned_abs (pos 0 +ℤ place_sum (λ j. number (Some (0 + j)) (read_at ways many v xs (ways k).taken.to)) (map (term_number c) (terms_after v (ways k).taken.updates))) ≤ (0 + length (map (term_number c) (terms_after v (ways k).taken.updates))) * 2 ^ 103)
    places c c_in = places_held (λ w. number (Some w) (read_at ways many v xs (ways k).taken.to)) (map (term_number c) (terms_after v (ways k).taken.updates)) 0 0 (pos 0) (let e = many_terms c in omega (arith, e, bounded)) (omega arith) (λ w. term_short (ways k).taken.to (Some w)) (updates_narrow k c k_in c_in)
      where
        many_terms : (c : Option ℕ) → length (map (term_number c) (terms_after v (ways k).taken.updates)) ≡ v
        many_terms c = length-map (terms_after v (ways k).taken.updates) (term_number c) ∙ length-table v (update_of (ways k).taken.updates)

    place_bound : (c : Option ℕ) → Inside (width v (ways k)) c → unsigned_abs (place_sum (λ j. number (Some j) (read_at ways many v xs (ways k).taken.to)) (map (term_number c) (terms_after v (ways k).taken.updates))) ≤ 512 * 2 ^ 103
    place_bound c c_in =
        let b = (places c c_in).1 in
        let e = length-map (terms_after v (ways k).taken.updates) (term_number c) ∙ length-table v (update_of (ways k).taken.updates) in
        let p : place_sum (λ j. number (Some (0 + j)) (read_at ways many v xs (ways k).taken.to)) (map (term_number c) (terms_after v (ways k).taken.updates)) ≡ place_sum (λ j. number (Some j) (read_at ways many v xs (ways k).taken.to)) (map (term_number c) (terms_after v (ways k).taken.updates)) = (λ i. place_sum (λ j. number (Some (plain j i)) (read_at ways many v xs (ways k).taken.to)) (map (term_number c) (terms_after v (ways k).taken.updates))) in
        omega (arith, ints, b, e, bounded, p)
      where
        plain : (j : ℕ) → 0 + j ≡ j
        plain j = omega arith

    changed_bound : (c : Option ℕ) → Inside (width v (ways k)) c → unsigned_abs (known_number changed c) < 2 ^ 113
    changed_bound None c_in = (let b = place_bound None tt in let t = term_short (ways k).taken.to None in omega (arith, ints, b, t))
    changed_bound (Some j) c_in = (let b = place_bound (Some j) c_in in omega (arith, ints, b))

    row_held : (z : ℤ) → unsigned_abs z ≤ 1 → (c : Option ℕ) → Inside (width v (ways k)) c → KnownHeld (less changed (given before) z) c
    row_held z z_small None c_in =
        let b = changed_bound None tt in
        let t = term_short (ways k).taken.from None in (
          ((places None tt).0, tt, wide (known_number changed None) b),
          tt,
          (let w : unsigned_abs (known_number changed None -ℤ number None before) < 2 ^ 127 = omega (arith, ints, b, t) in w),
          (let w : unsigned_abs (known_number changed None -ℤ number None before +ℤ z) < 2 ^ 127 = omega (arith, ints, b, t, z_small) in w),
        )
      where
        wide : (y : ℤ) → unsigned_abs y < 2 ^ 113 → unsigned_abs y < 2 ^ 127
        wide y q = omega (arith, q)
    row_held z z_small (Some j) c_in =
        let b = changed_bound (Some j) c_in in
        let t = term_short (ways k).taken.from (Some j) in (
          (places (Some j) c_in).0,
          tt,
          (let w : unsigned_abs (known_number changed (Some j) -ℤ number (Some j) before) < 2 ^ 127 = omega (arith, ints, b, t) in w),
        )

    row_small : (z : ℤ) → unsigned_abs z ≤ 1 → (c : Option ℕ) → Inside (width v (ways k)) c → unsigned_abs (known_number (less changed (given before) z) c) < 2 ^ 126
    row_small z z_small None c_in = (let b = changed_bound None tt in let t = term_short (ways k).taken.from None in omega (arith, ints, b, t, z_small))
    row_small z z_small (Some j) c_in = (let b = changed_bound (Some j) c_in in let t = term_short (ways k).taken.from (Some j) in omega (arith, ints, b, t))

    equation : (c : Option ℕ) → Inside (width v (ways k)) c → (known_number changed c -ℤ number c before) +ℤ (unit_at None c *ℤ slack_of (ways k) xs (step_start v locations many ways falling falling_in xs k) -ℤ rows_sum (ways k) xs (step_start v locations many ways falling falling_in xs k) c) ≡ scale *ℤ right_of falling (Step k) c
    equation c c_in = sym (step_sum v locations many ways falling falling_in xs k c k_in (from_in k k_in) (to_in k k_in)) ∙ step_row v locations many ways falling falling_in xs scale h k c k_in c_in

    step_shown : IsShownBy v (ways k) (less changed (given before) (fall_of falling k)) (line_read xs (step_start v locations many ways falling falling_in xs k) (ways k))
    step_shown = shown v (ways k) (less changed (given before) (fall_of falling k)) xs (step_start v locations many ways falling falling_in xs k)
        (step_few k k_in)
        (λ i l. short (step_start v locations many ways falling falling_in xs k + i))
        (λ i l. positive (step_start v locations many ways falling falling_in xs k + i))
        (λ i c l c_in. row_narrow k i c k_in l c_in)
        (λ j l. let e = equation (Some j) l in omega (arith, ints, e))
        (by_test (k == falling) (let e = equation None tt in e)).0
        (by_test (k == falling) (let e = equation None tt in e)).1
        (row_held (fall_of falling k) (fall_small (k == falling)))
        (row_small (fall_of falling k) (fall_small (k == falling)))
      where
        fall_small : (b : Bool) → unsigned_abs (if b then pos 1 else pos 0) ≤ 1
        fall_small true = omega arith
        fall_small false = omega arith

        by_test : (b : Bool) → (known_number changed None -ℤ number None before) +ℤ (pos 1 *ℤ slack_of (ways k) xs (step_start v locations many ways falling falling_in xs k) -ℤ rows_sum (ways k) xs (step_start v locations many ways falling falling_in xs k) None) ≡ scale *ℤ (if b then neg_ℤ (pos 1) else pos 0) → (pos 0 <ℤ (rows_sum (ways k) xs (step_start v locations many ways falling falling_in xs k) None +ℤ (pos 1 -ℤ (known_number changed None -ℤ number None before +ℤ (if b then pos 1 else pos 0))))) × ((rows_sum (ways k) xs (step_start v locations many ways falling falling_in xs k) None +ℤ (pos 1 -ℤ (known_number changed None -ℤ number None before +ℤ (if b then pos 1 else pos 0)))) <ℤ pos (2 ^ 126))
        by_test true e =
            let p = h.positive in
            let q = h.scale_short in
            let a = positive (step_start v locations many ways falling falling_in xs k + length (met_rows (ways k))) in
            let b = short (step_start v locations many ways falling falling_in xs k + length (met_rows (ways k))) in
            (omega (arith, ints, e, p, a), omega (arith, ints, e, q, b))
        by_test false e =
            let a = positive (step_start v locations many ways falling falling_in xs k + length (met_rows (ways k))) in
            let b = short (step_start v locations many ways falling falling_in xs k + length (met_rows (ways k))) in
            (omega (arith, ints, e, a), omega (arith, ints, e, b))

  -- ---- the row of the bound
  abbrev last : Linear
  last = read_at ways many v xs (ways falling).taken.from

  bound_equation : (c : Option ℕ) → Inside (width v (ways falling)) c → neg_ℤ (number c last) +ℤ (unit_at None c *ℤ slack_of (ways falling) xs (step_start v locations many ways falling falling_in xs many) -ℤ rows_sum (ways falling) xs (step_start v locations many ways falling falling_in xs many) c) ≡ scale *ℤ pos 0
  bound_equation c c_in = sym (bound_sum v locations many ways falling falling_in xs c (from_in falling falling_in)) ∙ bound_row_is v locations many ways falling falling_in xs scale h c c_in

  bound_shown : IsShownBy v (ways falling) (less (given zero_row) (given last) (pos 0)) (line_read xs (step_start v locations many ways falling falling_in xs many) (ways falling))
  bound_shown = shown v (ways falling) (less (given zero_row) (given last) (pos 0)) xs (step_start v locations many ways falling falling_in xs many)
      (step_few falling falling_in)
      (λ i l. short (step_start v locations many ways falling falling_in xs many + i))
      (λ i l. positive (step_start v locations many ways falling falling_in xs many + i))
      (λ i c l c_in. row_narrow falling i c falling_in l c_in)
      (λ j l. let e = bound_equation (Some j) l in omega (arith, ints, e))
      (let e = bound_equation None tt in let a = positive (step_start v locations many ways falling falling_in xs many + length (met_rows (ways falling))) in omega (arith, ints, e, a))
      (let e = bound_equation None tt in let b = short (step_start v locations many ways falling falling_in xs many + length (met_rows (ways falling))) in omega (arith, ints, e, b))
      held
      small
    where
      held : (c : Option ℕ) → Inside (width v (ways falling)) c → KnownHeld (less (given zero_row) (given last) (pos 0)) c
      held None c_in =
          let t = term_short (ways falling).taken.from None in
          (tt, tt, (let w : unsigned_abs (pos 0 -ℤ number None last) < 2 ^ 127 = omega (arith, ints, t) in w), (let w : unsigned_abs (pos 0 -ℤ number None last +ℤ pos 0) < 2 ^ 127 = omega (arith, ints, t) in w))
      held (Some j) c_in =
          let t = term_short (ways falling).taken.from (Some j) in
          (tt, tt, (let w : unsigned_abs (pos 0 -ℤ number (Some j) last) < 2 ^ 127 = omega (arith, ints, t) in w))

      small : (c : Option ℕ) → Inside (width v (ways falling)) c → unsigned_abs (known_number (less (given zero_row) (given last) (pos 0)) c) < 2 ^ 126
      small None c_in = (let t = term_short (ways falling).taken.from None in omega (arith, ints, t))
      small (Some j) c_in = (let t = term_short (ways falling).taken.from (Some j) in omega (arith, ints, t))

  -- ---- the family
  multipliers_short : (s n : ℕ) → All (IsWithin 62) (multipliers_read xs s n)
  multipliers_short s zero = All-nil (IsWithin 62)
  multipliers_short s (suc n) = All-push (IsWithin 62) (multipliers_read xs s n) (get_or xs (s + n) (pos 0)) (multipliers_short s n) (short (s + n))

  line_short : (s : ℕ) (w : Way) → All (IsWithin 62) (line_read xs s w)
  line_short s w = All-push (IsWithin 62) (multipliers_read xs s (length (met_rows w))) (pos 1) (multipliers_short s (length (met_rows w))) (let q : unsigned_abs (pos 1) < 2 ^ 62 = omega arith in q)

  lines_short : (s n : ℕ) → All (All (IsWithin 62)) (lines_read ways xs s n)
  lines_short s zero = All-nil (All (IsWithin 62))
  lines_short s (suc n) = All-push (All (IsWithin 62)) (lines_read ways xs s n) (line_read xs (s + length (steps_below ways n)) (ways n)) (lines_short s n) (line_short (s + length (steps_below ways n)) (ways n))

  pub solution_is_family : IsFamily v locations many ways falling (terms_read ways many v xs locations) (all_read ways many falling xs (length (terms_below ways many v locations)))
  solution_is_family = record {
    each = all-read ways many v xs (λ t. t.location < locations) locations (λ l k. k);
    wide = all-read ways many v xs (λ t. columns t.row ≡ v) locations (λ l k. length-differences xs (length (terms_below ways many v l)) v);
    counted = length-append (lines_read ways xs s many) (line_read xs (s + length (steps_below ways many)) (ways falling) ∷ []) ∙ (let e = length-lines ways xs s many in omega (arith, e));
    steps = λ k k_in. subst (λ z. IsShownBy v (ways k) z (get_or (all_read ways many falling xs s) k [])) (sym (step_same k k_in)) (subst (λ z. IsShownBy v (ways k) (less (changed k k_in) (given (before k k_in)) (fall_of falling k)) z) (sym (get_or-left (lines_read ways xs s many) (line_read xs (s + length (steps_below ways many)) (ways falling) ∷ []) k [] (let e = length-lines ways xs s many in omega (arith, e, k_in)) ∙ line-read ways xs s many k k_in)) (step_shown k k_in));
    bound = subst (λ z. IsShownBy v (ways falling) z (get_or (all_read ways many falling xs s) many [])) (sym bound_same) (subst (λ z. IsShownBy v (ways falling) (less (given zero_row) (given last) (pos 0)) z) (sym (get_or-right (lines_read ways xs s many) (line_read xs (s + length (steps_below ways many)) (ways falling) ∷ []) many 0 [] (let e = length-lines ways xs s many in omega (arith, e)))) bound_shown);
    narrow = All-push (All (IsWithin 62)) (lines_read ways xs s many) (line_read xs (s + length (steps_below ways many)) (ways falling)) (lines_short s many) (line_short (s + length (steps_below ways many)) (ways falling));
    ranks = solution_ranks v locations many ways falling falling_in xs scale h positive from_in to_in;
  }
    where
      s : ℕ
      s = length (terms_below ways many v locations)

      step_same : (k : ℕ) (k_in : k < many) → change_row v (terms_read ways many v xs locations) (ways k) (fall_of falling k) ≡ less (changed k k_in) (given (before k k_in)) (fall_of falling k)
      step_same k k_in = (λ i. less (composed (given (local-read ways many v xs locations (ways k).taken.to (to_in k k_in) i)) (terms_after v (ways k).taken.updates)) (given (local-read ways many v xs locations (ways k).taken.from (from_in k k_in) i)) (fall_of falling k))

      bound_same : bound_row v (terms_read ways many v xs locations) (ways falling) ≡ less (given zero_row) (given last) (pos 0)
      bound_same = (λ i. less (given zero_row) (given (local-read ways many v xs locations (ways falling).taken.from (from_in falling falling_in) i)) (pos 0))
