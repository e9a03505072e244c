use Rattle.std.proofs.Common.{◌≡◌, ℕ, zero, suc, ◌+◌, ◌*◌, ◌-◌, ◌<◌, ◌≤◌, List, [], ◌∷◌, ◌++◌, length, drop, get_or, arith, refl, sym, ap, ◌∙◌, ℤ, pos, All}
use Rattle.std.proofs.lemmas.List.{append_assoc, at_drop_more, drop-drop, get_or_at, drop_at, length-append, length-drop, length-take-le, take_at}
use Rattle.std.proofs.lemmas.List.Elements.{All-nil, All-cons, All-head, All-tail, All-append}
use Rattle.std.proofs.lemmas.Nat.{mul-add-lt}
use Rattle.tv_linear.specs.Linear.{Linear, linear, columns, IsNarrow, IsWithin}
use Rattle.tv_linear.specs.Packed.{first_row, unpacked, packed}

pub length-unpacked : (n count : ℕ) (zs : List ℤ) → length (unpacked n count zs) ≡ count
length-unpacked n zero zs = refl
length-unpacked n (suc count) zs = ap suc (length-unpacked n count (drop (suc n) zs))

-- the row at a place begins after the rows before it
pub get_or-unpacked : (n count : ℕ) (zs : List ℤ) (i : ℕ) (d : Linear) → i < count → get_or (unpacked n count zs) i d ≡ first_row n (drop (i * (n + 1)) zs)
get_or-unpacked n zero zs i d h = absurd (omega arith)
get_or-unpacked n (suc count) zs zero d h = let e : 0 ≡ 0 * (n + 1) = omega arith in ap (λ k. first_row n (drop k zs)) e
get_or-unpacked n (suc count) zs (suc i) d h =
    let e : suc n + i * (n + 1) ≡ suc i * (n + 1) = omega arith in
    get_or-unpacked n count (drop (suc n) zs) i d (omega arith) ∙ ap (first_row n) (drop-drop (i * (n + 1)) (suc n) zs ∙ ap (λ k. drop k zs) e)

-- a row ends before the numbers do
pub row_ends : (n count i : ℕ) (zs : List ℤ) → count * (n + 1) ≤ length zs → i < count → i * (n + 1) + n < length zs
row_ends n count i zs enough h = let e = mul-add-lt i (n + 1) n count h (omega arith) in omega (arith, enough, e)

pub unpacked-cons : (n count : ℕ) (zs : List ℤ) → 0 < count → unpacked n count zs ≡ first_row n zs ∷ unpacked n (count - 1) (drop (n + 1) zs)
unpacked-cons n zero zs h = absurd (omega arith)
unpacked-cons n (suc count) zs h =
    let fewer : count ≡ suc count - 1 = omega arith in
    let next : suc n ≡ n + 1 = omega arith in
    λ i. first_row n zs ∷ unpacked n (fewer i) (drop (next i) zs)

-- each of the rows has n columns
pub unpacked-columns : (n count : ℕ) (zs : List ℤ) → count * (n + 1) ≤ length zs → All (λ r. columns r ≡ n) (unpacked n count zs)
unpacked-columns n zero zs enough = All-nil (λ r. columns r ≡ n)
unpacked-columns n (suc count) zs enough =
    All-cons (λ r. columns r ≡ n) (first_row n zs) (unpacked n count (drop (suc n) zs)) (length-take-le n zs (omega arith)) (unpacked-columns n count (drop (suc n) zs) (omega (arith, length-drop (suc n) zs)))

pub length-packed : (n : ℕ) (rows : List Linear) → All (λ r. columns r ≡ n) rows → length (packed rows) ≡ length rows * (n + 1)
length-packed n [] even = omega arith
length-packed n (r ∷ rows) even =
    let here = All-head (λ r. columns r ≡ n) r rows even in
    let later = length-packed n rows (All-tail (λ r. columns r ≡ n) r rows even) in
    omega (arith, here, later, length-append (r.coefficients ++ r.constant ∷ []) (packed rows), length-append r.coefficients (r.constant ∷ []))

-- rows are found again in their numbers, whatever stands after these
pub unpacked-packed : (n : ℕ) (rows : List Linear) (zs : List ℤ) → All (λ r. columns r ≡ n) rows → unpacked n (length rows) (packed rows ++ zs) ≡ rows
unpacked-packed n [] zs even = refl
unpacked-packed n (r ∷ rows) zs even =
    let here = All-head (λ r. columns r ≡ n) r rows even in
    let shape : (r.coefficients ++ r.constant ∷ [] ++ packed rows) ++ zs ≡ r.coefficients ++ (r.constant ∷ (packed rows ++ zs)) = simp append_assoc in
    let one : first_row n (r.coefficients ++ (r.constant ∷ (packed rows ++ zs))) ≡ r = (λ i. linear (take_at r.coefficients (r.constant ∷ (packed rows ++ zs)) n here i) (get_or_at r.coefficients r.constant (packed rows ++ zs) (pos 0) n here i)) in
    let rest : drop (suc n) (r.coefficients ++ (r.constant ∷ (packed rows ++ zs))) ≡ packed rows ++ zs = dropped r.coefficients r.constant (packed rows ++ zs) n here in
    ap (unpacked n (suc (length rows))) shape ∙ (λ i. one i ∷ unpacked n (length rows) (rest i)) ∙ ap (λ xs. r ∷ xs) (unpacked-packed n rows zs (All-tail (λ r. columns r ≡ n) r rows even))
  where
    dropped : (cs : List ℤ) (k : ℤ) (ys : List ℤ) (n : ℕ) → length cs ≡ n → drop (suc n) (cs ++ (k ∷ ys)) ≡ ys
    dropped [] k ys zero e = refl
    dropped [] k ys (suc n) e = absurd (omega arith)
    dropped (c ∷ cs) k ys zero e = absurd (omega arith)
    dropped (c ∷ cs) k ys (suc n) e = dropped cs k ys n (omega arith)

-- the rows after others are found after their numbers
pub drop-packed : (n : ℕ) (rows : List Linear) (zs : List ℤ) → All (λ r. columns r ≡ n) rows → drop (length rows * (n + 1)) (packed rows ++ zs) ≡ zs
drop-packed n rows zs even = drop_at (packed rows) zs (length rows * (n + 1)) (length-packed n rows even)

-- all numbers of narrow rows are narrow
pub narrow-packed : (rows : List Linear) → All (λ r. IsNarrow r) rows → All (IsWithin 62) (packed rows)
narrow-packed [] all = All-nil (IsWithin 62)
narrow-packed (r ∷ rows) all =
    let here = All-head (λ r. IsNarrow r) r rows all in
    All-append (IsWithin 62) (r.coefficients ++ r.constant ∷ []) (packed rows)
    (All-append (IsWithin 62) r.coefficients (r.constant ∷ []) here.coefficients (All-cons (IsWithin 62) r.constant [] here.constant (All-nil (IsWithin 62))))
    (narrow-packed rows (All-tail (λ r. IsNarrow r) r rows all))

-- one row more is packed
pub packed_more : (rows : List Linear) (i : ℕ) (r : Linear) (whole old new : List ℤ) → i < length rows → r ≡ get_or rows i r → new ≡ old ++ (r.coefficients ++ r.constant ∷ []) → old ++ packed (drop i rows) ≡ whole → new ++ packed (drop (i + 1) rows) ≡ whole
packed_more rows i r whole old new below is more e =
    ap (λ xs. xs ++ packed (drop (i + 1) rows)) more
    ∙ append_assoc old (r.coefficients ++ r.constant ∷ []) (packed (drop (i + 1) rows))
    ∙ ap (λ xs. old ++ xs) (sym (at_drop_more packed rows i r below ∙ ap (λ q. packed (q ∷ drop (i + 1) rows)) (sym is)))
    ∙ e
