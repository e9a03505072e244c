-- the rows that a step owes are met where it leads
use Rattle.std.proofs.Common.{◌≡◌, ℕ, zero, suc, ◌+◌, ◌<◌, ◌≤◌, List, [], ◌∷◌, ◌++◌, length, All, map, get_or, Bool, true, false, ◌&&◌, arith, refl, sym, ap, subst, ◌∙◌, ℤ, pos, ◌+ℤ◌, ◌≤ℤ◌}
use Rattle.std.proofs.lemmas.Int.{ints}
use Rattle.std.proofs.lemmas.List.Elements.{All-nil, All-cons, All-head, All-tail, All-append}
use Rattle.tv_linear.specs.declared.region.Update.{Update}
use Rattle.tv_linear.specs.Linear.{Linear, IsNarrow, IsMet, value}
use Rattle.tv_linear.specs.Arithmetic.{constant_row, opposite}
use Rattle.tv_linear.specs.Known.{kept, put, Known, given, composed, less, known_value, term_value}
use Rattle.tv_linear.specs.Terms.{table, terms_after, draw_terms}
use Rattle.tv_linear.specs.Falls.{zero_row}
use Rattle.tv_linear.proofs.KnownLemmas.{value-composed, value-given, value-less}
use Rattle.tv_linear.proofs.RowValues.{value-constant_row, value-column_row, value-opposite}
use Rattle.tv_linear.proofs.ListLaws.{table_of, map-table}
use Rattle.tv_cases.specs.LinearCases.{LinearCase}
use Rattle.tv_cert.specs.Pieces.{rows_of, goes}
use Rattle.tv_cert.specs.Choices.{drawn_guards, drawn_change}
use Rattle.tv_points.specs.PointRows.{at_most_row, rows_from, point_rows, number_rows}
use Rattle.tv_points.specs.Lines.{IsShowable}
use Rattle.tv_points.specs.StatePieces.{state_piece}
use Rattle.tv_points.specs.Taking.{fall_owed, entered_rows, taken_rows}
use Rattle.tv_points.specs.declared.state.State.{State}
use Rattle.tv_points.proofs.FlatLemmas.{IsLone, AreNarrowUpdates, guard_flat, changed_flat, less_flat, not_below_flat, at_most_lone, opposite_lone}
use Rattle.std.proofs.lemmas.List.{map-append}

-- ---- the numbers for the draws stand after the values

draw_values : (n : ℕ) (xs ds : List ℤ) → map (term_value xs) (map (λ d. put d) (number_rows n ds)) ≡ ds
draw_values n xs [] = refl
draw_values n xs (d ∷ ds) = (λ i. value-constant_row n d xs i ∷ draw_values n xs ds i)

drawn_point : (n : ℕ) (xs ds : List ℤ) → length xs ≡ n → map (term_value xs) (draw_terms n (number_rows n ds)) ≡ xs ++ ds
drawn_point n xs ds e =
    map-append (term_value xs) (table n (λ v. kept v)) (map (λ d. put d) (number_rows n ds))
    ∙ (λ i. (map-table (term_value xs) n (λ v. kept v) ∙ table_of n xs e) i ++ draw_values n xs ds i)

guard_value : (n : ℕ) (xs ds : List ℤ) (r : Linear) → length xs ≡ n → known_value xs (composed (given r) (draw_terms n (number_rows n ds))) ≡ value r (xs ++ ds)
guard_value n xs ds r e = value-composed xs (given r) (draw_terms n (number_rows n ds)) ∙ ap (λ p. known_value p (given r)) (drawn_point n xs ds e) ∙ value-given (xs ++ ds) r

changed_value : (n : ℕ) (us : List Update) (xs ds ts : List ℤ) (r : Linear) → length xs ≡ n → ts ≡ map (term_value (xs ++ ds)) (terms_after n us) → known_value xs (composed (composed (given r) (terms_after n us)) (draw_terms n (number_rows n ds))) ≡ value r ts
changed_value n us xs ds ts r e gives =
    value-composed xs (composed (given r) (terms_after n us)) (draw_terms n (number_rows n ds))
    ∙ ap (λ p. known_value p (composed (given r) (terms_after n us))) (drawn_point n xs ds e)
    ∙ value-composed (xs ++ ds) (given r) (terms_after n us)
    ∙ ap (λ p. known_value p (given r)) (sym gives)
    ∙ value-given ts r

-- ---- a point meets its rows
at_most_zero : (n v : ℕ) (k : ℤ) (xs : List ℤ) → length xs ≤ n → get_or xs v (pos 0) ≡ k → value (at_most_row n v k) xs ≡ pos 0
at_most_zero n v k xs l e = let c = value-column_row n v xs l in omega (arith, ints, c, e)

shift : (v i : ℕ) (xs ks : List ℤ) (k : ℤ) → ((j : ℕ) → get_or (k ∷ ks) j (pos 0) ≡ get_or xs (v + j) (pos 0)) → get_or ks i (pos 0) ≡ get_or xs (suc v + i) (pos 0)
shift v i xs ks k h = h (suc i) ∙ ap (λ j. get_or xs j (pos 0)) (let e : v + suc i ≡ suc v + i = omega arith in e)

rows_met : (n v : ℕ) (xs ks : List ℤ) → length xs ≤ n → ((j : ℕ) → get_or ks j (pos 0) ≡ get_or xs (v + j) (pos 0)) → All (IsMet xs) (rows_from n v ks)
rows_met n v xs [] l h = All-nil (IsMet xs)
rows_met n v xs (k ∷ ks) l h =
    let here : get_or xs v (pos 0) ≡ k = sym (h 0 ∙ ap (λ j. get_or xs j (pos 0)) (let e : v + 0 ≡ v = omega arith in e)) in
    let z = at_most_zero n v k xs l here in
    let o = value-opposite (at_most_row n v k) xs in
    All-cons (IsMet xs) (at_most_row n v k) (opposite (at_most_row n v k) ∷ rows_from n (suc v) ks) (omega (arith, ints, z))
    (All-cons (IsMet xs) (opposite (at_most_row n v k)) (rows_from n (suc v) ks) (omega (arith, ints, z, o)) (rows_met n (suc v) xs ks l (λ i. shift v i xs ks k h)))

pub point_met : (xs : List ℤ) → All (IsMet xs) (point_rows xs)
point_met xs = rows_met (length xs) 0 xs xs (omega arith) (λ j. ap (λ i. get_or xs i (pos 0)) (let e : j ≡ 0 + j = omega arith in e))

rows_lone : (n v : ℕ) (ks : List ℤ) → All IsLone (rows_from n v ks)
rows_lone n v [] = All-nil IsLone
rows_lone n v (k ∷ ks) = All-cons IsLone (at_most_row n v k) (opposite (at_most_row n v k) ∷ rows_from n (suc v) ks) (at_most_lone n v k)
    (All-cons IsLone (opposite (at_most_row n v k)) (rows_from n (suc v) ks) (opposite_lone n v k) (rows_lone n (suc v) ks))

-- ---- the rows that the step owes can be shown
module _ (n : ℕ) (c : LinearCase) (xs ds ts : List ℤ) (as_many : length xs ≡ n) (narrow : AreNarrowUpdates c.updates) (gives : ts ≡ map (term_value (xs ++ ds)) (terms_after n c.updates)) where
  abbrev change : Linear → Known
  change = drawn_change n c (number_rows n ds)

  abbrev CanShow : Known → Type 0
  CanShow row = IsShowable xs row

  guards_show : (gs : List Linear) → All IsNarrow gs → All (IsMet (xs ++ ds)) gs → All CanShow (map (λ r. composed (given r) (draw_terms n (number_rows n ds))) gs)
  guards_show [] h m = All-nil CanShow
  guards_show (g ∷ gs) h m =
      All-cons CanShow (composed (given g) (draw_terms n (number_rows n ds))) (map (λ r. composed (given r) (draw_terms n (number_rows n ds))) gs)
      (record {
        flat = λ j l. guard_flat n ds g j (omega (arith, l, as_many)) (All-head IsNarrow g gs h);
        met = (let v = guard_value n xs ds g as_many in let k = All-head (IsMet (xs ++ ds)) g gs m in omega (arith, ints, v, k));
      })
      (guards_show gs (All-tail IsNarrow g gs h) (All-tail (IsMet (xs ++ ds)) g gs m))

  rows_show : (rs : List Linear) → All IsLone rs → All (IsMet ts) rs → All CanShow (map change rs)
  rows_show [] h m = All-nil CanShow
  rows_show (r ∷ rs) h m =
      All-cons CanShow (change r) (map change rs)
      (record {
        flat = λ j l. changed_flat n c.updates ds r j (omega (arith, l, as_many)) (All-head IsLone r rs h) narrow;
        met = (let v = changed_value n c.updates xs ds ts r as_many gives in let k = All-head (IsMet ts) r rs m in omega (arith, ints, v, k));
      })
      (rows_show rs (All-tail IsLone r rs h) (All-tail (IsMet ts) r rs m))

  fall_show : (f g : ℕ) → suc g ≤ f → All CanShow (less (change (constant_row n (pos g))) (given (constant_row n (pos f))) (pos 1) ∷ less (given zero_row) (given (constant_row n (pos f))) (pos 0) ∷ [])
  fall_show f g l =
      let a = changed_value n c.updates xs ds ts (constant_row n (pos g)) as_many gives in
      let b = value-constant_row n (pos g) ts in
      let d = value-given xs (constant_row n (pos f)) in
      let e = value-constant_row n (pos f) xs in
      let first = value-less xs (change (constant_row n (pos g))) (given (constant_row n (pos f))) (pos 1) in
      let second = value-less xs (given zero_row) (given (constant_row n (pos f))) (pos 0) in
      let z = value-given xs zero_row in
      let below : (pos g +ℤ pos 1) ≤ℤ pos f = omega (arith, ints, l) in
      All-cons CanShow (less (change (constant_row n (pos g))) (given (constant_row n (pos f))) (pos 1)) (less (given zero_row) (given (constant_row n (pos f))) (pos 0) ∷ [])
      (record {
        flat = λ j k. less_flat n c.updates ds (pos f) (pos g) (pos 1) j (omega (arith, k, as_many)) narrow;
        met = omega (arith, ints, a, b, d, e, first, below);
      })
      (All-cons CanShow (less (given zero_row) (given (constant_row n (pos f))) (pos 0)) []
      (record {
        flat = λ j k. not_below_flat n (pos f) (pos 0) j;
        met = omega (arith, ints, d, e, second, z, l);
      })
      (All-nil CanShow))

  falls_show : (ends : Bool) (left rest : ℕ) (s t : State) → (ends ≡ true → rest < left) → All CanShow (fall_owed (ends && goes (state_piece n ends rest t)) change (state_piece n ends left s) (state_piece n ends rest t))
  falls_show false left rest s t h = All-nil CanShow
  falls_show true left zero s t h = All-nil CanShow
  falls_show true zero (suc rest) s t h = absurd (let l = h refl in omega (arith, l))
  falls_show true (suc left) (suc rest) s t h = fall_show (suc left) (suc rest) (let l = h refl in omega (arith, l))

  -- all of them
  pub taken_show : (ends : Bool) (left rest : ℕ) (s t : State) → s.values.items ≡ xs → t.values.items ≡ ts → All IsNarrow c.guards → All (IsMet (xs ++ ds)) c.guards → (ends ≡ true → rest < left) → All CanShow (taken_rows n c (number_rows n ds) ends (state_piece n ends left s) (state_piece n ends rest t))
  taken_show ends left rest s t from into guards met h =
      All-append CanShow (drawn_guards n c (number_rows n ds)) (entered_rows ends change (state_piece n ends left s) (state_piece n ends rest t)) (guards_show c.guards guards met)
      (All-append CanShow (map change (rows_of (state_piece n ends rest t))) (fall_owed (ends && goes (state_piece n ends rest t)) change (state_piece n ends left s) (state_piece n ends rest t))
      (subst (λ ys. All CanShow (map change (point_rows ys))) (sym into) (rows_show (point_rows ts) (rows_lone (length ts) 0 ts) (point_met ts)))
      (falls_show ends left rest s t h))
