use Rattle.std.proofs.Common.{◌≡◌, ◌↔◌, ℕ, suc, zero, ◌+◌, ◌-◌, ◌<◌, ◌≤◌, List, [], ◌∷◌, ◌++◌, map, length, take, drop, get_or, arith, refl, sym, ap, ◌∙◌, ℤ, pos, ◌+ℤ◌, ◌*ℤ◌, subst, Option, Bool, true, false, length-take, length-append}
use Rattle.std.proofs.lemmas.Int.{ints}
use Rattle.std.proofs.lemmas.List.{take_more, length-map, get_or-map}
use Rattle.tv_linear.specs.Fits.{SumsHeld, IsHeld}
use Rattle.tv_linear.specs.Known.{number, Known, KnownHeld, known_number, given, as_given}
use Rattle.tv_linear.specs.Linear.{Linear}
use Rattle.tv_linear.specs.Refutation.{RowsHeld}
use Rattle.tv_linear.specs.Linear.{dot}
use Rattle.tv_linear.proofs.KnownLemmas.{weighted}
use Rattle.tv_linear.proofs.Summing.{IsSummedTo, one_summed, held_here}
use Rattle.tv_refute.specs.Blocks.{AreTold, IsAddedHeld, further}
use Rattle.tv_refute.proofs.Telling.{AreTold_iff}
use Rattle.tv_refute.specs.Built.{built}
use Rattle.tv_refute.specs.Frames.{known_at}
use Rattle.tv_refute.specs.declared.frames.Frames.{Frames}
use Rattle.tv_refute.specs.declared.frames.Frames.TheVariants.{Rows as At, More}
use Rattle.tv_refute.specs.declared.built.Built.{Built}
use Rattle.tv_linear.specs.declared.rows.Rows.{Rows}
use Rattle.tv_linear.specs.Views.{rows_seen}
use Rattle.std.specs.Borrow.{Bor}
use Rattle.std.proofs.Math.Seq.{take-length}

-- ---- given rows
weighted-given : (column : Option ℕ) (ms : List ℤ) (rows : List Linear) → weighted (λ k. known_number k column) ms (as_given rows) ≡ weighted (number column) ms rows
weighted-given column [] rows = refl
weighted-given column (m ∷ ms) [] = refl
weighted-given column (m ∷ ms) (r ∷ rows) = ap (λ z. m *ℤ number column r +ℤ z) (weighted-given column ms rows)

pub RowsHeld-given : (column : Option ℕ) (sum : ℤ) (ms : List ℤ) (rows : List Linear) → RowsHeld (λ k. KnownHeld k column) sum (λ k. known_number k column) ms (as_given rows) ↔ SumsHeld sum ms (map (number column) rows)
RowsHeld-given column sum [] rows = (λ h. tt, λ h. tt)
RowsHeld-given column sum (m ∷ ms) [] = (λ h. tt, λ h. tt)
RowsHeld-given column sum (m ∷ ms) (r ∷ rows) =
    let later = RowsHeld-given column (sum +ℤ m *ℤ number column r) ms rows in
    (λ h. (h.1, h.2, later.0 h.3), λ h. (tt, h.0, h.1, later.1 h.2))

-- ---- lists joined
weighted-join : {A : Type 0} (p : A → ℤ) (ms ns : List ℤ) (rows qs : List A) → length ms ≡ length rows → weighted p (ms ++ ns) (rows ++ qs) ≡ weighted p ms rows +ℤ weighted p ns qs
weighted-join p [] ns [] qs e = omega (arith, ints)
weighted-join p [] ns (x ∷ rows) qs e = absurd (omega arith)
weighted-join p (x ∷ ms) ns [] qs e = absurd (omega arith)
weighted-join p (x ∷ ms) ns (y ∷ rows) qs e = let h = weighted-join p ms ns rows qs (omega arith) in omega (arith, ints, h)

RowsHeld-join : {A : Type 0} (held : A → Type 0) (p : A → ℤ) (sum : ℤ) (ms ns : List ℤ) (rows qs : List A) → length ms ≡ length rows → RowsHeld held sum p (ms ++ ns) (rows ++ qs) ↔ (RowsHeld held sum p ms rows × RowsHeld held (sum +ℤ weighted p ms rows) p ns qs)
RowsHeld-join held p sum [] ns [] qs e = let same : sum +ℤ pos 0 ≡ sum = omega (arith, ints) in (λ h. (tt, subst (λ z. RowsHeld held z p ns qs) (sym same) h), λ h. subst (λ z. RowsHeld held z p ns qs) same h.1)
RowsHeld-join held p sum [] ns (x ∷ rows) qs e = absurd (omega arith)
RowsHeld-join held p sum (x ∷ ms) ns [] qs e = absurd (omega arith)
RowsHeld-join held p sum (x ∷ ms) ns (y ∷ rows) qs e =
    let later = RowsHeld-join held p (sum +ℤ x *ℤ p y) ms ns rows qs (omega arith) in
    let same : (sum +ℤ x *ℤ p y) +ℤ weighted p ms rows ≡ sum +ℤ (x *ℤ p y +ℤ weighted p ms rows) = omega (arith, ints) in (
      λ h. let k = later.0 h.3 in ((h.0, h.1, h.2, k.0), subst (λ z. RowsHeld held z p ns qs) same k.1),
      λ h. (h.0.0, h.0.1, h.0.2, later.1 (h.0.3, subst (λ z. RowsHeld held z p ns qs) (sym same) h.1)),
    )

pub split_is : {A : Type 0} (xs : List A) (k : ℕ) → xs ≡ take k xs ++ drop k xs
split_is [] zero = refl
split_is [] (suc k) = refl
split_is (x ∷ xs) zero = refl
split_is (x ∷ xs) (suc k) = ap (λ ys. x ∷ ys) (split_is xs k)

last_is : (ms : List ℤ) → 1 ≤ length ms → ms ≡ take (length ms - 1) ms ++ get_or ms (length ms - 1) (pos 0) ∷ []
last_is ms h =
    let n : (length ms - 1) + 1 ≡ length ms = omega arith in
    let l : length ms - 1 < length ms = omega arith in
    sym (take-length ms) ∙ ap (λ k. take k ms) (sym n) ∙ take_more ms (length ms - 1) (pos 0) l

-- ---- the sum at a place: `above` and what follows
abbrev pub Fit : Option ℕ → ℤ → List ℤ → List Known → Type 0
Fit column sum ms rows = RowsHeld (λ k. KnownHeld k column) sum (λ k. known_number k column) ms rows

-- the sum of the products with the rows
abbrev pub Sum : Option ℕ → List ℤ → List Known → ℤ
Sum column ms rows = weighted (λ k. known_number k column) ms rows

module _ (column : Option ℕ) (all rows qs : List Known) (ms before after : List ℤ) (parts : all ≡ rows ++ qs) (split : ms ≡ before ++ after) (many : length before ≡ length rows) where
  pub joins : Fit column (pos 0) ms all ↔ (Fit column (pos 0) before rows × Fit column (pos 0 +ℤ Sum column before rows) after qs)
  joins =
      let j = RowsHeld-join (λ k. KnownHeld k column) (λ k. known_number k column) (pos 0) before after rows qs many in
      let same : Fit column (pos 0) ms all ≡ Fit column (pos 0) (before ++ after) (rows ++ qs) = (λ i. Fit column (pos 0) (split i) (parts i)) in
      (λ h. j.0 (subst (λ (t : Type 0). t) same h), λ h. subst (λ (t : Type 0). t) (sym same) (j.1 h))

  pub rest_iff : (sum : ℤ) → Fit column (pos 0) before rows → sum ≡ Sum column before rows → Fit column sum after qs ↔ Fit column (pos 0) ms all
  rest_iff sum fit e =
      let same : sum ≡ pos 0 +ℤ Sum column before rows = omega (arith, ints, e) in
      (λ k. joins.1 (fit, subst (λ z. Fit column z after qs) same k), λ k. subst (λ z. Fit column z after qs) (sym same) (joins.0 k).1)

  pub rest_sum : (sum : ℤ) → sum ≡ Sum column before rows → sum +ℤ Sum column after qs ≡ Sum column ms all
  rest_sum sum e =
      let w = weighted-join (λ k. known_number k column) before after rows qs many in
      ap (λ z. z +ℤ Sum column after qs) e ∙ sym w ∙ (λ i. Sum column (sym split i) (sym parts i))

-- ---- the same for several columns at once
module _ (column : Option ℕ) (count : ℕ) (all rows qs : List Known) (ms before after : List ℤ) (parts : all ≡ rows ++ qs) (split : ms ≡ before ++ after) (many : length before ≡ length rows) where
  pub above_fails : (xs ys : List ℤ) → AreTold false count (λ k. Fit (further column k) (pos 0) before rows) (λ k. Sum (further column k) before rows) xs → AreTold false count (λ k. Fit (further column k) (pos 0) ms all) (λ k. Sum (further column k) ms all) ys
  above_fails xs ys never = λ fits. never (λ k l. ((joins (further column k) all rows qs ms before after parts split many).0 (fits k l)).0)

  pub rest_is : (r : Bool) (mid xs : List ℤ) → AreTold true count (λ k. Fit (further column k) (pos 0) before rows) (λ k. Sum (further column k) before rows) mid → AreTold r count (λ k. Fit (further column k) (get_or mid k (pos 0)) after qs) (λ k. get_or mid k (pos 0) +ℤ Sum (further column k) after qs) xs → AreTold r count (λ k. Fit (further column k) (pos 0) ms all) (λ k. Sum (further column k) ms all) xs
  rest_is r mid xs told =
      AreTold_iff r count (λ k. Fit (further column k) (get_or mid k (pos 0)) after qs) (λ k. Fit (further column k) (pos 0) ms all) (λ k. get_or mid k (pos 0) +ℤ Sum (further column k) after qs) (λ k. Sum (further column k) ms all) xs
      (λ k l. rest_iff (further column k) all rows qs ms before after parts split many (get_or mid k (pos 0)) (told k l).0 (told k l).1)
      (λ k l p. rest_sum (further column k) all rows qs ms before after parts split many (get_or mid k (pos 0)) (told k l).1)

pub given_rest : (column : Option ℕ) (count : ℕ) (mid ms : List ℤ) (rows : List Linear) (r : Bool) (xs : List ℤ) → AreTold r count (λ k. SumsHeld (get_or mid k (pos 0)) ms (map (number (further column k)) rows)) (λ k. get_or mid k (pos 0) +ℤ weighted (number (further column k)) ms rows) xs → AreTold r count (λ k. Fit (further column k) (get_or mid k (pos 0)) ms (as_given rows)) (λ k. get_or mid k (pos 0) +ℤ Sum (further column k) ms (as_given rows)) xs
given_rest column count mid ms rows r xs =
    AreTold_iff r count (λ k. SumsHeld (get_or mid k (pos 0)) ms (map (number (further column k)) rows)) (λ k. Fit (further column k) (get_or mid k (pos 0)) ms (as_given rows)) (λ k. get_or mid k (pos 0) +ℤ weighted (number (further column k)) ms rows) (λ k. get_or mid k (pos 0) +ℤ Sum (further column k) ms (as_given rows)) xs
    (λ k l. let g = RowsHeld-given (further column k) (get_or mid k (pos 0)) ms rows in (g.1, g.0))
    (λ k l p. ap (λ z. get_or mid k (pos 0) +ℤ z) (sym (weighted-given (further column k) ms rows)))

pub one_rest : (column : Option ℕ) (count : ℕ) (mid : List ℤ) (m : ℤ) (row : Known) (r : Bool) (xs : List ℤ) → AreTold r count (λ k. KnownHeld row (further column k) × IsAddedHeld (get_or mid k (pos 0)) m (known_number row (further column k))) (λ k. get_or mid k (pos 0) +ℤ m *ℤ known_number row (further column k)) xs → AreTold r count (λ k. Fit (further column k) (get_or mid k (pos 0)) (m ∷ []) (row ∷ [])) (λ k. get_or mid k (pos 0) +ℤ Sum (further column k) (m ∷ []) (row ∷ [])) xs
one_rest column count mid m row r xs =
    AreTold_iff r count (λ k. KnownHeld row (further column k) × IsAddedHeld (get_or mid k (pos 0)) m (known_number row (further column k))) (λ k. Fit (further column k) (get_or mid k (pos 0)) (m ∷ []) (row ∷ [])) (λ k. get_or mid k (pos 0) +ℤ m *ℤ known_number row (further column k)) (λ k. get_or mid k (pos 0) +ℤ Sum (further column k) (m ∷ []) (row ∷ [])) xs
    (λ k l. (λ p. (p.0, p.1.0, p.1.1, tt), λ p. (p.0, (p.1, p.2))))
    (λ k l p. omega (arith, ints))

-- ---- given rows, as far as they are added
abbrev pub AreSummed : Option ℕ → ℕ → List ℤ → List Linear → List ℤ → List ℤ → ℕ → Type 0
AreSummed column count ms rows old now i = (k : ℕ) → k < count → IsSummedTo ms (map (number (further column k)) rows) (get_or old k (pos 0)) (get_or now k (pos 0)) i × IsHeld (get_or now k (pos 0))

module _ (column : Option ℕ) (count : ℕ) (ms : List ℤ) (rows : List Linear) (old now : List ℤ) (i : ℕ) (so_far : AreSummed column count ms rows old now i) where
  module _ (many : length ms ≡ length rows) (inside : i < length ms) (row : Linear) (row_is : row ≡ get_or rows i row) (xs : List ℤ) where
    number_there : (k : ℕ) → number (further column k) row ≡ get_or (map (number (further column k)) rows) i (pos 0)
    number_there k = ap (number (further column k)) row_is ∙ sym (get_or-map (number (further column k)) rows i row (pos 0) (omega (arith, many, inside)))

    long : (k : ℕ) → i < length (map (number (further column k)) rows)
    long k = let e = length-map rows (number (further column k)) in omega (arith, e, many, inside)

    pub summed_next : AreTold true count (λ k. IsAddedHeld (get_or now k (pos 0)) (get_or ms i (pos 0)) (number (further column k) row)) (λ k. get_or now k (pos 0) +ℤ get_or ms i (pos 0) *ℤ number (further column k) row) xs → AreSummed column count ms rows old xs (i + 1)
    summed_next added = λ k l.
        let w = added k l in
        (one_summed ms (map (number (further column k)) rows) (get_or old k (pos 0)) (get_or now k (pos 0)) i (so_far k l).0 (get_or ms i (pos 0)) (number (further column k) row) inside (long k) refl (number_there k) (get_or xs k (pos 0)) w.0.0 w.0.1 w.1, subst IsHeld (sym w.1) w.0.1)

    pub summed_fails : (ys : List ℤ) → AreTold false count (λ k. IsAddedHeld (get_or now k (pos 0)) (get_or ms i (pos 0)) (number (further column k) row)) (λ k. get_or now k (pos 0) +ℤ get_or ms i (pos 0) *ℤ number (further column k) row) xs → AreTold false count (λ k. SumsHeld (get_or old k (pos 0)) ms (map (number (further column k)) rows)) (λ k. get_or old k (pos 0) +ℤ dot ms (map (number (further column k)) rows)) ys
    summed_fails ys never = λ fits. never (λ k l.
        let w = held_here ms (map (number (further column k)) rows) (get_or old k (pos 0)) (get_or now k (pos 0)) i (so_far k l).0 (get_or ms i (pos 0)) (number (further column k) row) inside (long k) refl (number_there k) (fits k l) in
        (w.0, w.1))

-- ---- the parts at a frame
module _ (frames : Frames) (ms : List ℤ) (many : length ms ≡ length (known_at frames)) where
  pub at_rows : (rows : Rows) (above : Bor Frames) → frames ≡ At rows above → known_at frames ≡ known_at above.now ++ as_given (rows_seen rows)
  at_rows rows above e = ap known_at e

  pub rows_many : (rows : Rows) (above : Bor Frames) → frames ≡ At rows above → length (take (length ms - length (rows_seen rows)) ms) ≡ length (known_at above.now)
  rows_many rows above e = omega (arith, length-take {A = ℤ}, many, ap length (at_rows rows above e), length-append (known_at above.now) (as_given (rows_seen rows)), length-map (rows_seen rows) (λ r. given r))

  pub at_more : (row : Bor Built) (above : Bor Frames) → frames ≡ More row above → known_at frames ≡ known_at above.now ++ built row.now ∷ []
  at_more row above e = ap known_at e

  pub more_some : (row : Bor Built) (above : Bor Frames) → frames ≡ More row above → 1 ≤ length ms
  more_some row above e = omega (arith, many, ap length (at_more row above e), length-append (known_at above.now) (built row.now ∷ []))

  pub more_many : (row : Bor Built) (above : Bor Frames) → frames ≡ More row above → length (take (length ms - 1) ms) ≡ length (known_at above.now)
  more_many row above e = omega (arith, length-take {A = ℤ}, many, ap length (at_more row above e), length-append (known_at above.now) (built row.now ∷ []))

  pub more_split : (row : Bor Built) (above : Bor Frames) → frames ≡ More row above → ms ≡ take (length ms - 1) ms ++ get_or ms (length ms - 1) (pos 0) ∷ []
  more_split row above e = last_is ms (more_some row above e)
