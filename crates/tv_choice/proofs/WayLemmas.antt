-- Rows of cases, and ways made of them.
use Rattle.std.proofs.Common.{◌≡◌, ℕ, zero, suc, ◌+◌, ◌-◌, ◌<◌, ◌≤◌, List, [], ◌∷◌, ◌++◌, length, map, get_or, take, drop, drop-cons, All, Some, arith, refl, sym, ap, ◌∙◌, subst, ℤ, pos, ◌+ℤ◌, ◌-ℤ◌, ◌≤ℤ◌, length-append, append_assoc, inl, inr, neg_ℤ}
use Rattle.std.specs.Prelude.{slice_get, Result, Ok, Err, IfOk}
use Rattle.std.specs.Result.{IfErr}
use Rattle.std.proofs.lemmas.Option.{slice_get_read, slice_get_within, get_or_from_slice_get}
use Rattle.std.proofs.lemmas.Int.{ints}
use Rattle.std.proofs.lemmas.List.{get_or_past, map-append, append-nil, take-append-drop, length-map}
use Rattle.std.proofs.lemmas.List.Elements.{All-nil, All-cons, All-head, All-tail, All-push, All-append}
use Rattle.std.proofs.lemmas.Bool.{cases_lt}
use Rattle.tv_linear.specs.Linear.{Linear, columns, value, IsMet, IsWithin, IsNarrow}
use Rattle.tv_linear.specs.Arithmetic.{unit, column_row, composed as composed_row}
use Rattle.tv_linear.specs.Fits.{FitsComposed, IsFirstWide, IsFaultWhere}
use Rattle.tv_linear.specs.declared.fault.RowFault.{RowFault}
use Rattle.tv_linear.specs.declared.fault.RowFault.TheVariants as row_faults
use Rattle.tv_farkas.specs.declared.fault.CoverFault.{CoverFault}
use Rattle.tv_farkas.specs.declared.fault.CoverFault.TheVariants.{Splits, Solve, Wide, Memory}
use Rattle.tv_linear.specs.Known.{Known, given, composed, as_given, term_value}
use Rattle.tv_linear.specs.Terms.{terms_after, draw_terms}
use Rattle.tv_linear.specs.declared.region.Piece.{Piece}
use Rattle.tv_linear.proofs.PlainLists.{length-unit}
use Rattle.tv_linear.proofs.RowValues.{value-column_row, value-denial, value-composed}
use Rattle.tv_linear.specs.Same.{SameNumbers, AreSame}
use Rattle.tv_linear.proofs.SameLemmas.{all_same, same_push}
use Rattle.tv_linear.proofs.KnownLemmas.{as_given-append}
use Rattle.tv_linear.proofs.ListLaws.{all_back, all_front, take_next}
use Rattle.tv_farkas.specs.Paths.{at_most_row, at_least_row, IsWholePoint}
use Rattle.tv_farkas.specs.Unmade.{IsUnmadeBy}
use Rattle.tv_cases.specs.EdgeCases.{columns_from}
use Rattle.tv_cases.specs.Before.{before, rows_after, FitsTerms}
use Rattle.tv_cases.specs.LinearCases.{LinearCase, IsCase}
use Rattle.tv_cases.proofs.BeforeValue.{before-value}
use Rattle.tv_cases.proofs.BeforeLemmas.{composed_same, before_same, before_even}
use Rattle.tv_cert.specs.Choices.{drawn_change, drawn_guards}
use Rattle.tv_cert.specs.Obligations.{case_change}
use Rattle.tv_choice.specs.declared.ways.Way.{Way}
use Rattle.tv_cover.specs.Targets.{IsNarrowRow}
use Rattle.tv_choice.specs.Rows.{fixes, put_terms, put_rows, IsWideBefore, IsWidePut}
use Rattle.tv_choice.specs.Leading.{Query, pieces_at, piece_rows}
use Rattle.tv_choice.specs.ChoicePaths.{AreDrawTerms, IsWayIn}
use Rattle.tv_choice.specs.Ways.{AreCaseRows, AreComposed, IsWayOf, IsWay, IsUnmade}
use Rattle.tv_choice.proofs.ComposeLemmas.{drawn_terms, put_drawn, length-put_terms}
use Rattle.tv_cases.proofs.SameSteps.{front-get_or}

-- ---- lists
pub next_of : (j : ℕ) → j + 1 ≡ suc j
next_of j = omega arith

pub drop_more : {A : Type 0} (xs : List A) (i : ℕ) (x : A) → i < length xs → x ≡ get_or xs i x → drop i xs ≡ x ∷ drop (i + 1) xs
drop_more xs i x l e = drop-cons xs i x l ∙ (λ j. sym e j ∷ drop (sym (next_of i) j) xs)

-- ---- narrow rows
pub all_map : (P Q : Linear → Type 0) (xs : List Linear) → ((x : Linear) → P x → Q x) → All P xs → All Q xs
all_map P Q [] f h = All-nil Q
all_map P Q (x ∷ xs) f h = All-cons Q x xs (f x (All-head P x xs h)) (all_map P Q xs f (All-tail P x xs h))

narrow_at : (r : Linear) → IsNarrow r → IsNarrowRow r
narrow_at r h column l = elim (cases_lt column (columns r)) [
  | inl i ↦ h.coefficients column r.constant i
  | inr p ↦ subst (IsWithin 62) (sym (get_or_past r.coefficients column r.constant p)) h.constant
]

-- ---- rows that were not made
pub not_made : (Fits : ℕ → Type 0) (last : ℕ) (wide : ℕ → Type 0) (row_fault : RowFault) (fault : CoverFault) → IsUnmadeBy row_fault fault → IsFaultWhere Fits last row_fault → ((column : ℕ) → IsFirstWide Fits last column → wide column) → IsUnmade wide fault
not_made Fits last wide (row_faults.Wide column) fault e h w = subst (IsUnmade wide) (sym e) (w column h)
not_made Fits last wide row_faults.Memory fault e h w = subst (IsUnmade wide) (sym e) tt

pub unmade_more : (wide more : ℕ → Type 0) (fault : CoverFault) → ((column : ℕ) → wide column → more column) → IsUnmade wide fault → IsUnmade more fault
unmade_more wide more (Splits path) f h = absurd h
unmade_more wide more (Solve kept fault) f h = absurd h
unmade_more wide more (Wide column) f h = f column h
unmade_more wide more Memory f h = tt

pub if_ok : {T E : Type 0} (A B : Type 0) (r : Result T E) → (A → B) → IfOk r (λ x. A) → IfOk r (λ x. B)
if_ok A B (Ok x) f h = f h
if_ok A B (Err e) f h = tt

pub if_err : {T : Type 0} (wide more : ℕ → Type 0) (r : Result T CoverFault) → ((column : ℕ) → wide column → more column) → IfErr r (IsUnmade wide) → IfErr r (IsUnmade more)
if_err wide more (Ok x) f h = tt
if_err wide more (Err e) f h = unmade_more wide more e f h

-- ---- fixed columns
pub fixing_more : (w column : ℕ) (values : List ℤ) (v : ℤ) (rows one new : List Linear) (a b : Linear) → column < length values → v ≡ get_or values column v → a ≡ at_most_row w column v → b ≡ at_least_row w column (v -ℤ pos 1) → one ≡ rows ++ a ∷ [] → new ≡ one ++ b ∷ [] → fixes w 0 values ≡ rows ++ fixes w column (drop column values) → fixes w 0 values ≡ new ++ fixes w (column + 1) (drop (column + 1) values)
fixing_more w column values v rows one new a b l e ea eb eo en h =
    h
    ∙ ap (λ ds. rows ++ fixes w column ds) (drop_more values column v l e)
    ∙ (λ i. rows ++ sym ea i ∷ sym eb i ∷ fixes w (sym (next_of column) i) (drop (column + 1) values))
    ∙ sym (append_assoc rows (a ∷ []) (b ∷ fixes w (column + 1) (drop (column + 1) values)))
    ∙ ap (λ rs. rs ++ b ∷ fixes w (column + 1) (drop (column + 1) values)) (sym eo)
    ∙ sym (append_assoc one (b ∷ []) (fixes w (column + 1) (drop (column + 1) values)))
    ∙ ap (λ rs. rs ++ fixes w (column + 1) (drop (column + 1) values)) (sym en)

pub fixes_even : (w column : ℕ) (xs : List ℤ) → All (λ r. columns r ≡ w) (fixes w column xs)
fixes_even w column [] = All-nil (λ r. columns r ≡ w)
fixes_even w column (x ∷ xs) =
    All-cons (λ r. columns r ≡ w) (at_most_row w column x) (at_least_row w column (x -ℤ pos 1) ∷ fixes w (suc column) xs) (length-unit w column)
    (All-cons (λ r. columns r ≡ w) (at_least_row w column (x -ℤ pos 1)) (fixes w (suc column) xs) (length-map (unit w column) neg_ℤ ∙ length-unit w column) (fixes_even w (suc column) xs))

low_value : (w c : ℕ) (k : ℤ) (zs : List ℤ) → length zs ≡ w → value (at_most_row w c k) zs ≡ get_or zs c (pos 0) -ℤ k
low_value w c k zs e = let h = value-column_row w c zs (omega (arith, e)) in omega (arith, ints, h)

high_value : (w c : ℕ) (k : ℤ) (zs : List ℤ) → length zs ≡ w → value (at_least_row w c k) zs ≡ k +ℤ pos 1 -ℤ get_or zs c (pos 0)
high_value w c k zs e =
    let d = value-denial (at_most_row w c k) zs in
    let h = low_value w c k zs e in
    omega (arith, ints, d, h)

-- a point meets the rows that fix columns at its own numbers
pub fixes_met : (w column : ℕ) (xs zs : List ℤ) → length zs ≡ w → ((j : ℕ) → j < length xs → get_or zs (column + j) (pos 0) ≡ get_or xs j (pos 0)) → All (IsMet zs) (fixes w column xs)
fixes_met w column [] zs e h = All-nil (IsMet zs)
fixes_met w column (x ∷ xs) zs e h =
    let here : get_or zs column (pos 0) ≡ x = ap (λ k. get_or zs k (pos 0)) (let g : column ≡ column + 0 = omega arith in g) ∙ h 0 (omega arith) in
    let low = low_value w column x zs e in
    let high = high_value w column (x -ℤ pos 1) zs e in
    All-cons (IsMet zs) (at_most_row w column x) (at_least_row w column (x -ℤ pos 1) ∷ fixes w (suc column) xs) (omega (arith, ints, low, here))
    (All-cons (IsMet zs) (at_least_row w column (x -ℤ pos 1)) (fixes w (suc column) xs) (omega (arith, ints, high, here))
    (fixes_met w (suc column) xs zs e (λ j l. ap (λ k. get_or zs k (pos 0)) (let g : suc column + j ≡ column + suc j = omega arith in g) ∙ h (suc j) (omega (arith, l)))))

-- and a point that meets them has those numbers
pub fixes_equal : (w column : ℕ) (xs zs : List ℤ) → length zs ≡ w → All (IsMet zs) (fixes w column xs) → (j : ℕ) → j < length xs → get_or zs (column + j) (pos 0) ≡ get_or xs j (pos 0)
fixes_equal w column [] zs e h j l = absurd (omega (arith, l))
fixes_equal w column (x ∷ xs) zs e h zero l =
    let a = All-head (IsMet zs) (at_most_row w column x) (at_least_row w column (x -ℤ pos 1) ∷ fixes w (suc column) xs) h in
    let r = All-tail (IsMet zs) (at_most_row w column x) (at_least_row w column (x -ℤ pos 1) ∷ fixes w (suc column) xs) h in
    let b = All-head (IsMet zs) (at_least_row w column (x -ℤ pos 1)) (fixes w (suc column) xs) r in
    let low = low_value w column x zs e in
    let high = high_value w column (x -ℤ pos 1) zs e in
    let g : get_or zs column (pos 0) ≡ x = omega (arith, ints, a, b, low, high) in
    ap (λ k. get_or zs k (pos 0)) (let q : column + 0 ≡ column = omega arith in q) ∙ g
fixes_equal w column (x ∷ xs) zs e h (suc j) l =
    let r = All-tail (IsMet zs) (at_most_row w column x) (at_least_row w column (x -ℤ pos 1) ∷ fixes w (suc column) xs) h in
    let s = All-tail (IsMet zs) (at_least_row w column (x -ℤ pos 1)) (fixes w (suc column) xs) r in
    ap (λ k. get_or zs k (pos 0)) (let g : column + suc j ≡ suc column + j = omega arith in g) ∙ fixes_equal w (suc column) xs zs e s j (omega (arith, l))

-- ---- lists of numbers
pub same_front : (xs zs : List ℤ) → length xs ≤ length zs → ((j : ℕ) → j < length xs → get_or zs j (pos 0) ≡ get_or xs j (pos 0)) → take (length xs) zs ≡ xs
same_front [] zs l h = refl
same_front (x ∷ xs) [] l h = absurd (omega (arith, l))
same_front (x ∷ xs) (z ∷ zs) l h = (λ i. h 0 (omega arith) i ∷ same_front xs zs (omega (arith, l)) (λ j k. h (suc j) (omega (arith, k))) i)

-- ---- the rows of a case
given_guards : (n : ℕ) (c : LinearCase) → as_given c.guards ++ map (case_change n c) [] ≡ as_given c.guards
given_guards n c = append-nil (as_given c.guards)

pub case_rows_none : (n : ℕ) (c : LinearCase) (rows : List Linear) → All (λ r. columns r ≡ n + c.draws) c.guards → All IsNarrow c.guards → rows ≡ c.guards → AreCaseRows n c [] rows
case_rows_none n c rows even narrow e = subst (λ rs. AreCaseRows n c [] rs) (sym e) record {
  exact = sym (append-nil c.guards);
  even = even;
  narrow = all_map IsNarrow IsNarrowRow c.guards narrow_at narrow;
  seen = subst (λ ks. AreSame (n + c.draws) (as_given c.guards) ks) (sym (given_guards n c)) (all_same (n + c.draws) (as_given c.guards));
}

-- the same, and each row of the piece fits before the case
pub record AreMade (n : ℕ) (c : LinearCase) (owed rows : List Linear) : Type 0 where
  pub are : AreCaseRows n c owed rows
  pub fits : All (λ r. (column : ℕ) → column ≤ columns (before r c) → FitsTerms (columns r + c.draws) r (rows_after r c) column) owed

pub made_none : (n : ℕ) (c : LinearCase) (rows : List Linear) → All (λ r. columns r ≡ n + c.draws) c.guards → All IsNarrow c.guards → rows ≡ c.guards → AreMade n c [] rows
made_none n c rows even narrow e = record { are = case_rows_none n c rows even narrow e; fits = All-nil (λ r. (column : ℕ) → column ≤ columns (before r c) → FitsTerms (columns r + c.draws) r (rows_after r c) column) }

pub made_wide : (n : ℕ) (c : LinearCase) (owed : List Linear) (i : ℕ) (r : Linear) (rows : List Linear) (column : ℕ) → i < length owed → r ≡ get_or owed i r → AreMade n c (take i owed) rows → IsFirstWide (FitsTerms (columns r + c.draws) r (rows_after r c)) (columns (before r c)) column → IsWideBefore c owed column
made_wide n c owed i r rows column l e h w = record { place = i; row = r; found = slice_get_read owed (length owed) i r refl l e; earlier = h.fits; wide = w }

pub composed_wide : (rows terms : List Linear) (i : ℕ) (r : Linear) (all : List Linear) (column : ℕ) → i < length rows → r ≡ get_or rows i r → AreComposed (take i rows) terms all → IsFirstWide (FitsComposed r terms) (columns (composed_row r terms)) column → IsWidePut terms rows column
composed_wide rows terms i r all column l e h w = record { place = i; row = r; found = slice_get_read rows (length rows) i r refl l e; earlier = h.fits; wide = w }

-- one more row
pub case_rows_more : (n : ℕ) (c : LinearCase) (owed : List Linear) (i : ℕ) (r s : Linear) (rows new : List Linear) → i < length owed → r ≡ get_or owed i r → columns r ≡ n → All (λ u. columns u.term ≡ n + c.draws) c.updates → s ≡ before r c → ((column : ℕ) → column ≤ columns (before r c) → FitsTerms (columns r + c.draws) r (rows_after r c) column) → new ≡ rows ++ s ∷ [] → AreCaseRows n c (take i owed) rows → AreCaseRows n c (take (i + 1) owed) new
case_rows_more n c owed i r s rows new l e wide us same fits en h =
    subst (λ os. AreCaseRows n c os new) (sym (take_next owed i r l e)) (subst (λ rs. AreCaseRows n c (take i owed ++ r ∷ []) rs) (sym (en ∙ ap (λ x. rows ++ x ∷ []) same)) record {
      exact = ap (λ rs. rs ++ before r c ∷ []) h.exact ∙ append_assoc c.guards (map (λ q. before q c) (take i owed)) (before r c ∷ []) ∙ ap (λ rs. c.guards ++ rs) (sym (map-append (λ q. before q c) (take i owed) (r ∷ [])));
      even = All-push (λ q. columns q ≡ n + c.draws) rows (before r c) h.even (before_even n c r wide us fits);
      narrow = All-push IsNarrowRow rows (before r c) h.narrow (λ column l. (fits column l).narrow);
      seen = subst (λ ks. AreSame (n + c.draws) ks (as_given c.guards ++ map (case_change n c) (take i owed ++ r ∷ []))) (sym (as_given-append rows (before r c ∷ [])))
          (subst (λ ks. AreSame (n + c.draws) (as_given rows ++ given (before r c) ∷ []) ks)
          (append_assoc (as_given c.guards) (map (case_change n c) (take i owed)) (case_change n c r ∷ []) ∙ ap (λ ks. as_given c.guards ++ ks) (sym (map-append (case_change n c) (take i owed) (r ∷ []))))
          (same_push (n + c.draws) (as_given rows) (as_given c.guards ++ map (case_change n c) (take i owed)) (given (before r c)) (case_change n c r) h.seen one));
    })
  where
    one : SameNumbers (n + c.draws) (given (before r c)) (case_change n c r)
    one = before_same n c r wide us fits

pub made_more : (n : ℕ) (c : LinearCase) (owed : List Linear) (i : ℕ) (r s : Linear) (rows new : List Linear) → i < length owed → r ≡ get_or owed i r → columns r ≡ n → All (λ u. columns u.term ≡ n + c.draws) c.updates → s ≡ before r c → ((column : ℕ) → column ≤ columns (before r c) → FitsTerms (columns r + c.draws) r (rows_after r c) column) → new ≡ rows ++ s ∷ [] → AreMade n c (take i owed) rows → AreMade n c (take (i + 1) owed) new
made_more n c owed i r s rows new l e wide us same fits en h = record {
  are = case_rows_more n c owed i r s rows new l e wide us same fits en h.are;
  fits = subst (All Fits) (sym (take_next owed i r l e)) (All-push Fits (take i owed) r h.fits fits);
}
  where
    Fits : Linear → Type 0
    Fits q = (column : ℕ) → column ≤ columns (before q c) → FitsTerms (columns q + c.draws) q (rows_after q c) column

-- ---- terms put in
pub columns_more : (n column : ℕ) (terms new : List Linear) → column < n → new ≡ terms ++ column_row n column ∷ [] → columns_from n 0 n ≡ terms ++ columns_from n column (n - column) → columns_from n 0 n ≡ new ++ columns_from n (column + 1) (n - (column + 1))
columns_more n column terms new l e h =
    h
    ∙ ap (λ k. terms ++ columns_from n column k) (let g : n - column ≡ suc (n - (column + 1)) = omega (arith, l) in g)
    ∙ ap (λ k. terms ++ column_row n column ∷ columns_from n k (n - (column + 1))) (sym (next_of column))
    ∙ sym (append_assoc terms (column_row n column ∷ []) (columns_from n (column + 1) (n - (column + 1))))
    ∙ ap (λ ts. ts ++ columns_from n (column + 1) (n - (column + 1))) (sym e)

pub composed_more : (rows terms : List Linear) (i : ℕ) (r s : Linear) (all new : List Linear) → i < length rows → r ≡ get_or rows i r → s ≡ composed_row r terms → ((column : ℕ) → column ≤ columns (composed_row r terms) → FitsComposed r terms column) → new ≡ all ++ s ∷ [] → AreComposed (take i rows) terms all → AreComposed (take (i + 1) rows) terms new
composed_more rows terms i r s all new l e same fits en h =
    subst (λ rs. AreComposed rs terms new) (sym (take_next rows i r l e)) record {
      exact = en ∙ (λ j. h.exact j ++ same j ∷ []) ∙ sym (map-append (λ q. composed_row q terms) (take i rows) (r ∷ []));
      fits = All-push (λ q. (column : ℕ) → column ≤ columns (composed_row q terms) → FitsComposed q terms column) (take i rows) r h.fits fits;
    }

-- the rows of a way have the numbers of what a certificate makes of them
drawn_same : (n w : ℕ) (draws rows : List Linear) (known : List Known) → w ≡ n + length draws → All (λ t. columns t ≡ n) draws → All (λ r. columns r ≡ w) rows → All (λ r. (column : ℕ) → column ≤ columns (composed_row r (put_terms n draws)) → FitsComposed r (put_terms n draws) column) rows → AreSame w (as_given rows) known → AreSame n (as_given (map (λ r. composed_row r (put_terms n draws)) rows)) (map (λ k. composed k (draw_terms n draws)) known)
drawn_same n w draws [] [] e d wide fits h = tt
drawn_same n w draws [] (k ∷ known) e d wide fits h = absurd h
drawn_same n w draws (r ∷ rows) [] e d wide fits h = absurd h
drawn_same n w draws (r ∷ rows) (k ∷ known) e d wide fits h =
    let P = λ (q : Linear). (column : ℕ) → column ≤ columns (composed_row q (put_terms n draws)) → FitsComposed q (put_terms n draws) column in (
      composed_same w n r (composed_row r (put_terms n draws)) k (draw_terms n draws) (put_terms n draws) (All-head (λ q. columns q ≡ w) r rows wide) (length-put_terms n draws ∙ sym e) h.0 (drawn_terms n draws d) (put_drawn n r draws d (All-head P r rows fits)),
      drawn_same n w draws rows known e d (All-tail (λ q. columns q ≡ w) r rows wide) (All-tail P r rows fits) h.1,
    )

drawn_even : (n w : ℕ) (draws rows : List Linear) → All (λ t. columns t ≡ n) draws → All (λ r. (column : ℕ) → column ≤ columns (composed_row r (put_terms n draws)) → FitsComposed r (put_terms n draws) column) rows → All (λ r. columns r ≡ n) (map (λ r. composed_row r (put_terms n draws)) rows)
drawn_even n w draws [] d fits = All-nil (λ r. columns r ≡ n)
drawn_even n w draws (r ∷ rows) d fits =
    let P = λ (q : Linear). (column : ℕ) → column ≤ columns (composed_row q (put_terms n draws)) → FitsComposed q (put_terms n draws) column in
    All-cons (λ r. columns r ≡ n) (composed_row r (put_terms n draws)) (map (λ r. composed_row r (put_terms n draws)) rows) (put_drawn n r draws d (All-head P r rows fits)).even (drawn_even n w draws rows d (All-tail P r rows fits))

change_all : (n : ℕ) (c : LinearCase) (draws owed : List Linear) → map (λ k. composed k (draw_terms n draws)) (as_given c.guards ++ map (case_change n c) owed) ≡ drawn_guards n c draws ++ map (drawn_change n c draws) owed
change_all n c draws owed =
    map-append (λ k. composed k (draw_terms n draws)) (as_given c.guards) (map (case_change n c) owed)
    ∙ (λ i. map-map (λ k. composed k (draw_terms n draws)) (λ r. given r) c.guards i ++ map-map (λ k. composed k (draw_terms n draws)) (case_change n c) owed i)
  where
    map-map : {A B C : Type 0} (f : B → C) (g : A → B) (xs : List A) → map f (map g xs) ≡ map (λ x. f (g x)) xs
    map-map f g [] = refl
    map-map f g (x ∷ xs) = ap (λ ys. f (g x) ∷ ys) (map-map f g xs)

put_narrow : (rows terms : List Linear) → All (λ r. (column : ℕ) → column ≤ columns (composed_row r terms) → FitsComposed r terms column) rows → All IsNarrowRow (map (λ r. composed_row r terms) rows)
put_narrow [] terms h = All-nil IsNarrowRow
put_narrow (r ∷ rows) terms h =
    let P = λ (x : Linear). (column : ℕ) → column ≤ columns (composed_row x terms) → FitsComposed x terms column in
    All-cons IsNarrowRow (composed_row r terms) (map (λ x. composed_row x terms) rows) (λ column l. (All-head P r rows h column l).narrow) (put_narrow rows terms (All-tail P r rows h))

-- the case is taken into the piece
pub in_way : (n : ℕ) (q : Query) (c : LinearCase) (p : Piece) (taken target : ℕ) (rows : List Linear) → slice_get q.system.cases taken ≡ Some c → c.from ≡ q.location → slice_get (pieces_at q.pieces c.to) target ≡ Some p → AreCaseRows n c (piece_rows p) rows → IsWayIn n q c p
in_way n q c p taken target rows found leaves enters h = record {
  entry = record {
    among = (taken, slice_get_within q.system.cases taken c found, get_or_from_slice_get q.system.cases taken c c found);
    leaves = leaves;
    enters = (target, slice_get_within (pieces_at q.pieces c.to) target p enters, get_or_from_slice_get (pieces_at q.pieces c.to) target p p enters);
  };
  even = subst (All (λ r. columns r ≡ n + c.draws)) h.exact h.even;
  narrow = subst (All IsNarrowRow) h.exact h.narrow;
}

-- the way is one by its case into its piece
pub is_way : (n : ℕ) (q : Query) (above : List Linear) (c : LinearCase) (p : Piece) (taken target : ℕ) (rows draws : List Linear) (w : Way) → slice_get q.system.cases taken ≡ Some c → c.from ≡ q.location → slice_get (pieces_at q.pieces c.to) target ≡ Some p → IsCase q.system.variables q.system.locations c → All (λ r. columns r ≡ n) (piece_rows p) → length draws ≡ c.draws → All (λ r. columns r ≡ n) draws → AreDrawTerms n q above c p draws → AreCaseRows n c (piece_rows p) rows → IsWayOf n taken target rows draws w → IsWay n q above w
is_way n q above c p taken target rows draws w found leaves enters case owed drawn terms origin h m = record {
  case = c;
  found = ap (λ k. slice_get q.system.cases k) m.taken_is ∙ found;
  leaves = leaves;
  piece = p;
  enters = ap (λ k. slice_get (pieces_at q.pieces c.to) k) m.target_is ∙ enters;
  is_case = case;
  way_in = in_way n q c p taken target rows found leaves enters h;
  owed = owed;
  drawn = ap length m.draws_are ∙ drawn;
  terms = subst (λ ds. All (λ r. columns r ≡ n) ds) (sym m.draws_are) terms;
  origin = subst (λ ds. AreDrawTerms n q above c p ds) (sym m.draws_are) origin;
  exact = m.made.exact ∙ (λ i. map (λ r. composed_row r (put_terms n (sym m.draws_are i))) (h.exact i));
  even = subst (λ rs. All (λ r. columns r ≡ n) rs) (sym m.made.exact) (drawn_even n (n + c.draws) draws rows terms m.made.fits);
  narrow = subst (All IsNarrowRow) (sym m.made.exact) (put_narrow rows (put_terms n draws) m.made.fits);
  seen = subst (λ ds. AreSame n (as_given w.rows.items) (drawn_guards n c ds ++ map (drawn_change n c ds) (piece_rows p))) (sym m.draws_are)
      (subst (λ rs. AreSame n (as_given rs) (drawn_guards n c draws ++ map (drawn_change n c draws) (piece_rows p))) (sym m.made.exact)
      (subst (λ ks. AreSame n (as_given (map (λ r. composed_row r (put_terms n draws)) rows)) ks) (change_all n c draws (piece_rows p))
      (drawn_same n (n + c.draws) draws rows (as_given c.guards ++ map (case_change n c) (piece_rows p)) (ap (λ k. n + k) (sym drawn)) terms h.even m.made.fits h.seen)));
}

-- ---- values of a way
column_values : (n v m : ℕ) (xs : List ℤ) → length xs ≡ n → v + m ≡ n → map (λ t. value t xs) (columns_from n v m) ≡ drop v xs
column_values n v zero xs e g = sym (drop_all v xs (omega (arith, e, g)))
  where
    drop_all : (k : ℕ) (ys : List ℤ) → length ys ≤ k → drop k ys ≡ []
    drop_all zero [] l = refl
    drop_all zero (y ∷ ys) l = absurd (omega (arith, l))
    drop_all (suc k) [] l = refl
    drop_all (suc k) (y ∷ ys) l = drop_all k ys (omega (arith, l))
column_values n v (suc m) xs e g =
    (λ i. value-column_row n v xs (omega (arith, e)) i ∷ column_values n (suc v) m xs e (omega (arith, g)) i)
    ∙ sym (drop-cons xs v (pos 0) (omega (arith, e, g)))

-- the values that are put in for the columns
drawn_values : (n : ℕ) (draws : List Linear) (xs : List ℤ) → length xs ≡ n → map (λ t. value t xs) (put_terms n draws) ≡ xs ++ map (λ t. value t xs) draws
drawn_values n draws xs e =
    map-append (λ t. value t xs) (columns_from n 0 n) draws
    ∙ ap (λ ys. ys ++ map (λ t. value t xs) draws) (column_values n 0 n xs e (omega arith))

-- where the rows with terms put in are met, the rows are met with the values of the terms
pub put_met : (n : ℕ) (draws : List Linear) (xs : List ℤ) (rows : List Linear) → length xs ≡ n → All (IsMet xs) (put_rows n draws rows) → All (IsMet (xs ++ map (λ t. value t xs) draws)) rows
put_met n draws xs [] e h = All-nil (IsMet (xs ++ map (λ t. value t xs) draws))
put_met n draws xs (r ∷ rows) e h =
    let terms = put_terms n draws in
    All-cons (IsMet (xs ++ map (λ t. value t xs) draws)) r rows
    (subst (λ z. z ≤ℤ pos 0) (value-composed r terms xs ∙ ap (value r) (drawn_values n draws xs e)) (All-head (IsMet xs) (composed_row r terms) (put_rows n draws rows) h))
    (put_met n draws xs rows e (All-tail (IsMet xs) (composed_row r terms) (put_rows n draws rows) h))

-- and the other way
met_put : (n : ℕ) (draws : List Linear) (xs : List ℤ) (rows : List Linear) → length xs ≡ n → All (IsMet (xs ++ map (λ t. value t xs) draws)) rows → All (IsMet xs) (put_rows n draws rows)
met_put n draws xs [] e h = All-nil (IsMet xs)
met_put n draws xs (r ∷ rows) e h =
    let terms = put_terms n draws in
    All-cons (IsMet xs) (composed_row r terms) (put_rows n draws rows)
    (subst (λ z. z ≤ℤ pos 0) (sym (value-composed r terms xs ∙ ap (value r) (drawn_values n draws xs e))) (All-head (IsMet (xs ++ map (λ t. value t xs) draws)) r rows h))
    (met_put n draws xs rows e (All-tail (IsMet (xs ++ map (λ t. value t xs) draws)) r rows h))

-- a way is met where the rows of the case are met with the values of the terms
pub way_met : (n taken target : ℕ) (rows draws : List Linear) (xs : List ℤ) (w : Way) → length xs ≡ n → All (IsMet (xs ++ map (λ t. value t xs) draws)) rows → IsWayOf n taken target rows draws w → All (IsMet xs) w.rows.items
way_met n taken target rows draws xs w e h m = subst (λ rs. All (IsMet xs) rs) (sym m.made.exact) (met_put n draws xs rows e h)

-- ---- what is met before a case
pub before_met : (n : ℕ) (c : LinearCase) (owed : List Linear) (xs ds : List ℤ) → All (λ r. columns r ≡ n) owed → length xs ≡ n → length ds ≡ c.draws → All (IsMet (map (term_value (xs ++ ds)) (terms_after n c.updates))) owed → All (IsMet (xs ++ ds)) (map (λ r. before r c) owed)
before_met n c [] xs ds even e d h = All-nil (IsMet (xs ++ ds))
before_met n c (r ∷ owed) xs ds even e d h =
    let wide = All-head (λ r. columns r ≡ n) r owed even in
    let v = before-value r c xs ds (e ∙ sym wide) d ∙ ap (λ k. value r (map (term_value (xs ++ ds)) (terms_after k c.updates))) e in
    All-cons (IsMet (xs ++ ds)) (before r c) (map (λ r. before r c) owed)
    (subst (λ z. z ≤ℤ pos 0) (sym v) (All-head (IsMet (map (term_value (xs ++ ds)) (terms_after n c.updates))) r owed h))
    (before_met n c owed xs ds (All-tail (λ r. columns r ≡ n) r owed even) e d (All-tail (IsMet (map (term_value (xs ++ ds)) (terms_after n c.updates))) r owed h))

-- and the other way
pub met_before : (n : ℕ) (c : LinearCase) (owed : List Linear) (xs ds : List ℤ) → All (λ r. columns r ≡ n) owed → length xs ≡ n → length ds ≡ c.draws → All (IsMet (xs ++ ds)) (map (λ r. before r c) owed) → All (IsMet (map (term_value (xs ++ ds)) (terms_after n c.updates))) owed
met_before n c [] xs ds even e d h = All-nil (IsMet (map (term_value (xs ++ ds)) (terms_after n c.updates)))
met_before n c (r ∷ owed) xs ds even e d h =
    let wide = All-head (λ r. columns r ≡ n) r owed even in
    let v = before-value r c xs ds (e ∙ sym wide) d ∙ ap (λ k. value r (map (term_value (xs ++ ds)) (terms_after k c.updates))) e in
    All-cons (IsMet (map (term_value (xs ++ ds)) (terms_after n c.updates))) r owed
    (subst (λ z. z ≤ℤ pos 0) v (All-head (IsMet (xs ++ ds)) (before r c) (map (λ r. before r c) owed) h))
    (met_before n c owed xs ds (All-tail (λ r. columns r ≡ n) r owed even) e d (All-tail (IsMet (xs ++ ds)) (before r c) (map (λ r. before r c) owed) h))

-- the point with draws meets the rows that are asked
pub asked_met : (n : ℕ) (c : LinearCase) (owed rows : List Linear) (xs ds : List ℤ) → AreCaseRows n c owed rows → All (λ r. columns r ≡ n) owed → length xs ≡ n → length ds ≡ c.draws → All (IsMet (xs ++ ds)) c.guards → All (IsMet (map (term_value (xs ++ ds)) (terms_after n c.updates))) owed → IsWholePoint (n + c.draws) (fixes (n + c.draws) 0 xs ++ rows) (xs ++ ds)
asked_met n c owed rows xs ds h even e d guards met = record {
  width = long;
  met = All-append (IsMet (xs ++ ds)) (fixes (n + c.draws) 0 xs) rows
      (fixes_met (n + c.draws) 0 xs (xs ++ ds) long (λ j l. ap (λ k. get_or (xs ++ ds) k (pos 0)) (let g : 0 + j ≡ j = omega arith in g) ∙ front-get_or xs ds j l))
      (subst (λ rs. All (IsMet (xs ++ ds)) rs) (sym h.exact) (All-append (IsMet (xs ++ ds)) c.guards (map (λ r. before r c) owed) guards (before_met n c owed xs ds even e d met)));
}
  where
    long : length (xs ++ ds) ≡ n + c.draws
    long = length-append xs ds ∙ (λ i. e i + d i)

pub answered : (n d : ℕ) (rows : List Linear) (xs zs : List ℤ) → length xs ≡ n → IsWholePoint (n + d) (fixes (n + d) 0 xs ++ rows) zs → zs ≡ xs ++ drop n zs
answered n d rows xs zs e p =
    let f = fixes_equal (n + d) 0 xs zs p.width (all_front (IsMet zs) (fixes (n + d) 0 xs) rows p.met) in
    let w = p.width in
    let t = same_front xs zs (omega (arith, e, w)) (λ j l. ap (λ k. get_or zs k (pos 0)) (let g : j ≡ 0 + j = omega arith in g) ∙ f j l) in
    sym (take-append-drop n zs) ∙ ap (λ ys. ys ++ drop n zs) (ap (λ k. take k zs) (sym e) ∙ t)

pub answered_front : (n d : ℕ) (rows : List Linear) (xs zs : List ℤ) → length xs ≡ n → IsWholePoint (n + d) (fixes (n + d) 0 xs ++ rows) zs → take n zs ≡ xs
answered_front n d rows xs zs e p = ap (λ k. take k zs) (sym e) ∙ ap (take (length xs)) (answered n d rows xs zs e p) ∙ take_all xs (drop n zs)
  where
    take_all : (ys later : List ℤ) → take (length ys) (ys ++ later) ≡ ys
    take_all [] later = refl
    take_all (y ∷ ys) later = ap (λ k. y ∷ k) (take_all ys later)

pub answered_met : (n d : ℕ) (rows : List Linear) (xs zs : List ℤ) → length xs ≡ n → IsWholePoint (n + d) (fixes (n + d) 0 xs ++ rows) zs → All (IsMet (xs ++ drop n zs)) rows
answered_met n d rows xs zs e p = subst (λ ys. All (IsMet ys) rows) (answered n d rows xs zs e p) (all_back (IsMet zs) (fixes (n + d) 0 xs) rows p.met)

pub asked_even : (n : ℕ) (c : LinearCase) (owed rows : List Linear) (xs : List ℤ) → AreCaseRows n c owed rows → All (λ r. columns r ≡ n + c.draws) (fixes (n + c.draws) 0 xs ++ rows)
asked_even n c owed rows xs h = All-append (λ r. columns r ≡ n + c.draws) (fixes (n + c.draws) 0 xs) rows (fixes_even (n + c.draws) 0 xs) h.even
