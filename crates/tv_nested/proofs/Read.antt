-- What is read off a solution, by its places.
use Rattle.std.proofs.Common.{◌≡◌, inl, inr, ℕ, zero, suc, ◌+◌, ◌-◌, ◌*◌, ◌<◌, ◌≤◌, List, [], ◌∷◌, ◌++◌, length, length-append, map, get_or, All, Bool, true, false, ◌==◌, if◌then◌else◌, arith, refl, sym, ap, ◌∙◌, subst, ℤ, pos}
use Rattle.std.proofs.lemmas.List.{length-map, get_or_past, get_or-map, append-nil}
use Rattle.std.proofs.lemmas.List.Elements.{All-nil, All-cons, All-append, All-push, All-from_get_or}
use Rattle.std.proofs.lemmas.Bool.{cases_lt, eq-eqb}
use Rattle.tv_linear.specs.Linear.{Linear, linear, columns}
use Rattle.tv_linear.specs.Arithmetic.{constant_row}
use Rattle.tv_linear.proofs.ListLaws.{same_or_below, get_or-table}
use Rattle.tv_linear.proofs.PlainLists.{length-table, length-zeros}
use Rattle.tv_refute.proofs.Places.{get_or-left, get_or-right}
use Rattle.tv_rank.specs.Ways.{Way, met_rows, touches}
use Rattle.tv_rank.specs.Rankings.{term_at, local_term, listed_terms}
use Rattle.tv_rank.specs.Reading.{term_read, line_read}
use Rattle.tv_rank.specs.declared.found.LocalTerm.{LocalTerm}
use Rattle.tv_rank.proofs.Lengths.{length-differences}
use Rattle.tv_rank.proofs.Locals.{row_if, Nowhere, nowhere_both, nowhere_left, nowhere_right}
use Rattle.tv_nested.specs.NestedSystem.{terms_below, steps_below}
use Rattle.tv_nested.specs.Reading.{read_at, term_there, terms_read, tuple_read, way_read, lines_read}
use Rattle.tv_nested.specs.Tuples.{terms_of}
use Rattle.tv_nested.specs.Families.{nested_term, line_at}

module _ (ways : ℕ → Way) (many d v : ℕ) (xs : List ℤ) where
  -- ---- the terms with one number
  module _ (j : ℕ) where
    elsewhere : (n l : ℕ) → (n ≡ l → ⊥) → Nowhere l (term_there ways many d v xs j n)
    elsewhere n l h = by_test (touches ways many n)
      where
        by_test : (b : Bool) → Nowhere l (if b then record { location = n; row = term_read v xs (length (terms_below ways many d v n) + j * (2 * v + 2)) } ∷ [] else [])
        by_test true = (h, tt)
        by_test false = tt

    none_past : (n l : ℕ) → n ≤ l → Nowhere l (terms_read ways many d v xs j n)
    none_past zero l h = tt
    none_past (suc n) l h = nowhere_both l (terms_read ways many d v xs j n) (term_there ways many d v xs j n) (none_past n l (omega (arith, h))) (elsewhere n l (λ e. omega (arith, h, e)))

    local-read : (n l : ℕ) → l < n → local_term v (terms_read ways many d v xs j n) l ≡ read_at ways many d v xs j l
    local-read zero l h = absurd (omega (arith, h))
    local-read (suc n) l h = elim (same_or_below n l h) [
      | inl e ↦ nowhere_left v l (terms_read ways many d v xs j n) (term_there ways many d v xs j n) (none_past n l (omega (arith, e))) ∙ rw (← e) (by_test (touches ways many l))
      | inr b ↦ nowhere_right v l (terms_read ways many d v xs j n) (term_there ways many d v xs j n) (elsewhere n l (λ e. omega (arith, b, e))) ∙ local-read n l b
    ]
      where
        by_test : (b : Bool) → local_term v (if b then record { location = l; row = term_read v xs (length (terms_below ways many d v l) + j * (2 * v + 2)) } ∷ [] else []) l ≡ (if b then term_read v xs (length (terms_below ways many d v l) + j * (2 * v + 2)) else constant_row v (pos 0))
        by_test true = row_if (l == l) (term_read v xs (length (terms_below ways many d v l) + j * (2 * v + 2))) (constant_row v (pos 0)) (eq-eqb l l refl)
        by_test false = refl

    terms-all : (P : LocalTerm → Type 0) (n : ℕ) → ((l : ℕ) → l < n → P (record { location = l; row = term_read v xs (length (terms_below ways many d v l) + j * (2 * v + 2)) })) → All P (terms_read ways many d v xs j n)
    terms-all P zero h = All-nil P
    terms-all P (suc n) h = All-append P (terms_read ways many d v xs j n) (term_there ways many d v xs j n) (terms-all P n (λ l k. h l (omega (arith, k)))) (by_test (touches ways many n))
      where
        by_test : (b : Bool) → All P (if b then record { location = n; row = term_read v xs (length (terms_below ways many d v n) + j * (2 * v + 2)) } ∷ [] else [])
        by_test true = All-cons P (record { location = n; row = term_read v xs (length (terms_below ways many d v n) + j * (2 * v + 2)) }) [] (h n (omega arith)) (All-nil P)
        by_test false = All-nil P

  -- ---- the terms with all numbers
  module _ (locations : ℕ) where
    pub tuple-length : (n : ℕ) → length (tuple_read ways many d v xs locations n) ≡ n
    tuple-length zero = refl
    tuple-length (suc n) = length-append (tuple_read ways many d v xs locations n) (terms_read ways many d v xs n locations ∷ []) ∙ (let h = tuple-length n in omega (arith, h))

    get-tuple : (n j : ℕ) → j < n → get_or (tuple_read ways many d v xs locations n) j [] ≡ terms_read ways many d v xs j locations
    get-tuple zero j h = absurd (omega (arith, h))
    get-tuple (suc n) j h = elim (same_or_below n j h) [
      | inl e ↦ get_or-right (tuple_read ways many d v xs locations n) (terms_read ways many d v xs n locations ∷ []) j 0 [] (let l = tuple-length n in omega (arith, e, l)) ∙ ap (λ z. terms_read ways many d v xs z locations) (sym e)
      | inr b ↦ get_or-left (tuple_read ways many d v xs locations n) (terms_read ways many d v xs n locations ∷ []) j [] (let l = tuple-length n in omega (arith, b, l)) ∙ get-tuple n j b
    ]

    pub nested-read : (n j l : ℕ) → j < n → l < locations → nested_term v (tuple_read ways many d v xs locations n) j l ≡ read_at ways many d v xs j l
    nested-read n j l j_in l_in = ap (λ z. local_term v z l) (get-tuple n j j_in) ∙ local-read j locations l l_in

    pub tuple-all : (P : LocalTerm → Type 0) (n : ℕ) → ((j l : ℕ) → j < n → l < locations → P (record { location = l; row = term_read v xs (length (terms_below ways many d v l) + j * (2 * v + 2)) })) → All (All P) (tuple_read ways many d v xs locations n)
    tuple-all P zero h = All-nil (All P)
    tuple-all P (suc n) h = All-push (All P) (tuple_read ways many d v xs locations n) (terms_read ways many d v xs n locations) (tuple-all P n (λ j l j_in l_in. h j l (omega (arith, j_in)) l_in)) (terms-all n P locations (λ l l_in. h n l (omega arith) l_in))

    -- ---- listed by location
    abbrev listed : ℕ → List (List Linear)
    listed n = map (listed_terms v locations) (tuple_read ways many d v xs locations n)

    of_listed : (n j : ℕ) → j < n → terms_of (listed n) j ≡ listed_terms v locations (terms_read ways many d v xs j locations)
    of_listed n j l = get_or-map (listed_terms v locations) (tuple_read ways many d v xs locations n) j [] [] (let e = tuple-length n in omega (arith, e, l)) ∙ ap (listed_terms v locations) (get-tuple n j l)

    pub listed-read : (n j l : ℕ) → j < n → l < locations → term_at (terms_of (map (listed_terms v locations) (tuple_read ways many d v xs locations n)) j) l ≡ read_at ways many d v xs j l
    listed-read n j l j_in l_in = ap (λ z. term_at z l) (of_listed n j j_in) ∙ get_or-table locations (local_term v (terms_read ways many d v xs j locations)) l (linear [] (pos 0)) l_in ∙ local-read j locations l l_in

    width-read : (j l : ℕ) → columns (read_at ways many d v xs j l) ≡ v
    width-read j l = by_touch (touches ways many l) (length (terms_below ways many d v l) + j * (2 * v + 2))
      where
        by_touch : (b : Bool) (s : ℕ) → columns (if b then term_read v xs s else constant_row v (pos 0)) ≡ v
        by_touch true s = length-differences xs s v
        by_touch false s = length-zeros v

    pub listed-wide : (n j : ℕ) → All (λ t. columns t ≡ v) (terms_of (map (listed_terms v locations) (tuple_read ways many d v xs locations n)) j)
    listed-wide n j = elim (cases_lt j n) [
      | inl j_in ↦ subst (All (λ t. columns t ≡ v)) (sym (of_listed n j j_in)) (All-from_get_or (λ t. columns t ≡ v) (listed_terms v locations (terms_read ways many d v xs j locations)) (linear [] (pos 0)) (λ l k.
          let l_in : l < locations = (let e = length-table locations (local_term v (terms_read ways many d v xs j locations)) in omega (arith, e, k)) in
          ap columns (get_or-table locations (local_term v (terms_read ways many d v xs j locations)) l (linear [] (pos 0)) l_in ∙ local-read j locations l l_in) ∙ width-read j l))
      | inr p ↦ subst (All (λ t. columns t ≡ v)) (sym (get_or_past (listed n) j [] (let e = length-map (tuple_read ways many d v xs locations n) (listed_terms v locations) in let f = tuple-length n in omega (arith, e, f, p)))) (All-nil (λ t. columns t ≡ v))
    ]

-- ---- the multipliers
length-way : (xs : List ℤ) (s : ℕ) (w : Way) (n : ℕ) → length (way_read xs s w n) ≡ n
length-way xs s w zero = refl
length-way xs s w (suc n) = length-append (way_read xs s w n) (line_read xs (s + n * (length (met_rows w) + 1)) w ∷ []) ∙ (let h = length-way xs s w n in omega (arith, h))

get-way : (xs : List ℤ) (s : ℕ) (w : Way) (n i : ℕ) → i < n → get_or (way_read xs s w n) i [] ≡ line_read xs (s + i * (length (met_rows w) + 1)) w
get-way xs s w zero i h = absurd (omega (arith, h))
get-way xs s w (suc n) i h = elim (same_or_below n i h) [
  | inl e ↦ get_or-right (way_read xs s w n) (line_read xs (s + n * (length (met_rows w) + 1)) w ∷ []) i 0 [] (let l = length-way xs s w n in omega (arith, e, l)) ∙ ap (λ z. line_read xs (s + z * (length (met_rows w) + 1)) w) (sym e)
  | inr b ↦ get_or-left (way_read xs s w n) (line_read xs (s + n * (length (met_rows w) + 1)) w ∷ []) i [] (let l = length-way xs s w n in omega (arith, b, l)) ∙ get-way xs s w n i b
]

way-all : (xs : List ℤ) (s : ℕ) (w : Way) (P : List ℤ → Type 0) (n : ℕ) → ((i : ℕ) → P (line_read xs (s + i * (length (met_rows w) + 1)) w)) → All P (way_read xs s w n)
way-all xs s w P zero h = All-nil P
way-all xs s w P (suc n) h = All-push P (way_read xs s w n) (line_read xs (s + n * (length (met_rows w) + 1)) w) (way-all xs s w P n h) (h n)

module _ (ways : ℕ → Way) (d : ℕ) (xs : List ℤ) (s : ℕ) where
  pub length-lines : (n : ℕ) → length (lines_read ways d xs s n) ≡ n
  length-lines zero = refl
  length-lines (suc n) = length-append (lines_read ways d xs s n) (way_read xs (s + length (steps_below ways d n)) (ways n) (suc d) ∷ []) ∙ (let h = length-lines n in omega (arith, h))

  get-lines : (n k : ℕ) → k < n → get_or (lines_read ways d xs s n) k [] ≡ way_read xs (s + length (steps_below ways d k)) (ways k) (suc d)
  get-lines zero k h = absurd (omega (arith, h))
  get-lines (suc n) k h = elim (same_or_below n k h) [
    | inl e ↦ get_or-right (lines_read ways d xs s n) (way_read xs (s + length (steps_below ways d n)) (ways n) (suc d) ∷ []) k 0 [] (let l = length-lines n in omega (arith, e, l)) ∙ ap (λ z. way_read xs (s + length (steps_below ways d z)) (ways z) (suc d)) (sym e)
    | inr b ↦ get_or-left (lines_read ways d xs s n) (way_read xs (s + length (steps_below ways d n)) (ways n) (suc d) ∷ []) k [] (let l = length-lines n in omega (arith, b, l)) ∙ get-lines n k b
  ]

  pub line-read : (n k i : ℕ) → k < n → i < suc d → line_at (lines_read ways d xs s n) k i ≡ line_read xs ((s + length (steps_below ways d k)) + i * (length (met_rows (ways k)) + 1)) (ways k)
  line-read n k i k_in i_in = ap (λ z. get_or z i []) (get-lines n k k_in) ∙ get-way xs (s + length (steps_below ways d k)) (ways k) (suc d) i i_in

  pub lines-all : (P : List ℤ → Type 0) (n : ℕ) → ((k i : ℕ) → P (line_read xs ((s + length (steps_below ways d k)) + i * (length (met_rows (ways k)) + 1)) (ways k))) → All (All P) (lines_read ways d xs s n)
  lines-all P zero h = All-nil (All P)
  lines-all P (suc n) h = All-push (All P) (lines_read ways d xs s n) (way_read xs (s + length (steps_below ways d n)) (ways n) (suc d)) (lines-all P n h) (way-all xs (s + length (steps_below ways d n)) (ways n) P (suc d) (h n))

-- ---- outside the span nothing is read
module _ (ways : ℕ → Way) (many d v : ℕ) (xs : List ℤ) (j : ℕ) where
  abbrev here : ℕ → List LocalTerm
  here n = record { location = n; row = term_read v xs (length (terms_below ways many d v n) + j * (2 * v + 2)) } ∷ []

  pub no_terms : (n : ℕ) → ((l : ℕ) → l < n → touches ways many l ≡ false) → terms_read ways many d v xs j n ≡ []
  no_terms zero h = refl
  no_terms (suc n) h = ap (λ b. terms_read ways many d v xs j n ++ (if b then here n else [])) (h n (omega arith)) ∙ append-nil (terms_read ways many d v xs j n) ∙ no_terms n (λ l k. h l (omega (arith, k)))

  more_terms : (n m : ℕ) → ((l : ℕ) → n ≤ l → touches ways many l ≡ false) → terms_read ways many d v xs j (n + m) ≡ terms_read ways many d v xs j n
  more_terms n zero h = ap (terms_read ways many d v xs j) (let e : n + 0 ≡ n = omega arith in e)
  more_terms n (suc m) h =
      ap (terms_read ways many d v xs j) (let e : n + suc m ≡ suc (n + m) = omega arith in e)
      ∙ ap (λ b. terms_read ways many d v xs j (n + m) ++ (if b then here (n + m) else [])) (h (n + m) (omega arith))
      ∙ append-nil (terms_read ways many d v xs j (n + m)) ∙ more_terms n m h

  pub all_terms : (n m : ℕ) → n ≤ m → ((l : ℕ) → n ≤ l → touches ways many l ≡ false) → terms_read ways many d v xs j m ≡ terms_read ways many d v xs j n
  all_terms n m k h = ap (terms_read ways many d v xs j) (let e : m ≡ n + (m - n) = omega (arith, k) in e) ∙ more_terms n (m - n) h
