-- Rows that are shown by themselves.
use Rattle.std.proofs.Common.{◌≡◌, ℕ, zero, suc, ◌+◌, ◌-◌, ◌^◌, ◌<◌, ◌≤◌, List, [], ◌∷◌, ◌++◌, length, length-append, map, All, Option, None, Some, arith, refl, sym, ap, ◌∙◌, subst, ℤ, pos, neg_ℤ, ◌+ℤ◌, ◌-ℤ◌, ◌*ℤ◌, ◌≤ℤ◌, unsigned_abs, slice_get, slice_index_or}
use Rattle.std.specs.Option.{option_map}
use Rattle.std.proofs.lemmas.Int.{ints}
use Rattle.std.proofs.lemmas.List.{length-map, append_assoc}
use Rattle.std.proofs.lemmas.List.Elements.{All-nil, All-cons, All-head, All-tail, All-append}
use Rattle.tv_linear.specs.Linear.{Linear, columns, dot, IsNarrow, IsWithin}
use Rattle.tv_linear.specs.Arithmetic.{zeros}
use Rattle.tv_linear.specs.Fits.{IsHeld}
use Rattle.tv_linear.specs.Known.{Known, given, denied, number, known_number, KnownHeld, as_given}
use Rattle.tv_linear.specs.Refutation.{RowsHeld, Refutes}
use Rattle.tv_linear.specs.Covers.{Shown, ShownAt, IsMetCover}
use Rattle.tv_linear.specs.Depth.{splits}
use Rattle.tv_linear.specs.declared.cover.CoverTree.{CoverTree}
use Rattle.tv_linear.specs.declared.cover.CoverTree as cover
use Rattle.tv_linear.proofs.PlainLists.{length-zeros, zeros-narrow}
use Rattle.tv_linear.proofs.KnownLemmas.{as_given-append}
use Rattle.tv_farkas.specs.Trees.{TreeRows}
use Rattle.tv_cases.specs.LinearCases.{CaseSystem}
use Rattle.tv_cert.specs.declared.node.Proof.TheVariants.{Covered}
use Rattle.tv_cert.specs.Claims.{about_with}
use Rattle.tv_cert.specs.Obligations.{atom_of}
use Rattle.tv_cert.specs.Targets.{changed_lists}
use Rattle.tv_shape.specs.Narrow.{AreNarrow, CountNarrow, CoverNarrow}
use Rattle.tv_shape.specs.Made.{IsOffered}
use Rattle.tv_lexrank.proofs.OfferLemmas.{met_shape}
use Rattle.tv_pre.specs.Atoms.{atom_piece, own_line, own_lines, IsOwnCover}
use Rattle.tv_cover.proofs.SharedLemmas.{zeros_signs}
use Rattle.tv_linear.proofs.ListLaws.{all_unmapped}

-- ---- multipliers 0 for the first rows
zeros_dot : (c : Option ℕ) (xs : List Linear) (ms : List ℤ) (ks : List Known) → dot (zeros (length xs) ++ ms) (map (λ k. known_number k c) (as_given xs ++ ks)) ≡ dot ms (map (λ k. known_number k c) ks)
zeros_dot c [] ms ks = refl
zeros_dot c (x ∷ xs) ms ks = (let h = zeros_dot c xs ms ks in omega (arith, ints, h))

zeros_held : (c : Option ℕ) (sum : ℤ) (xs : List Linear) (ms : List ℤ) (ks : List Known) → IsHeld sum → RowsHeld (λ k. KnownHeld k c) sum (λ k. known_number k c) ms ks → RowsHeld (λ k. KnownHeld k c) sum (λ k. known_number k c) (zeros (length xs) ++ ms) (as_given xs ++ ks)
zeros_held c sum [] ms ks s h = h
zeros_held c sum (x ∷ xs) ms ks s h =
    let p : pos 0 *ℤ number c x ≡ pos 0 = omega (arith, ints) in
    let q : sum +ℤ pos 0 *ℤ number c x ≡ sum = omega (arith, ints) in
    (tt, subst IsHeld (sym p) (let w : unsigned_abs (pos 0) < 2 ^ 127 = omega arith in w), subst IsHeld (sym q) s, subst (λ z. RowsHeld (λ k. KnownHeld k c) z (λ k. known_number k c) (zeros (length xs) ++ ms) (as_given xs ++ ks)) (sym q) (zeros_held c sum xs ms ks s h))

-- ---- the row and its denial
abbrev line_between : ℕ → ℕ → List ℤ
line_between a b = zeros a ++ pos 1 ∷ (zeros b ++ pos 1 ∷ [])

module _ (xs : List Linear) (r : Linear) (ys : List Linear) (narrow : (c : Option ℕ) → IsWithin 62 (number c r)) where
  known : List Known
  known = as_given xs ++ given r ∷ (as_given ys ++ denied (given r) ∷ [])

  sum_is : (c : Option ℕ) → dot (line_between (length xs) (length ys)) (map (λ k. known_number k c) (as_given xs ++ given r ∷ (as_given ys ++ denied (given r) ∷ []))) ≡ number c r +ℤ known_number (denied (given r)) c
  sum_is c =
      zeros_dot c xs (pos 1 ∷ (zeros (length ys) ++ pos 1 ∷ [])) (given r ∷ (as_given ys ++ denied (given r) ∷ []))
      ∙ (let h = zeros_dot c ys (pos 1 ∷ []) (denied (given r) ∷ []) in omega (arith, ints, h))

  told : (c : Option ℕ) → KnownHeld (denied (given r)) c
  told None = (tt, (let w = narrow None in let x : unsigned_abs (pos 1 -ℤ r.constant) < 2 ^ 127 = omega (arith, ints, w) in x))
  told (Some j) = (tt, (let w = narrow (Some j) in let x : unsigned_abs (neg_ℤ (number (Some j) r)) < 2 ^ 127 = omega (arith, ints, w) in x))

  small : (c : Option ℕ) → IsWithin 63 (known_number (denied (given r)) c)
  small None = (let w = narrow None in omega (arith, ints, w))
  small (Some j) = (let w = narrow (Some j) in omega (arith, ints, w))

  held : (c : Option ℕ) → RowsHeld (λ k. KnownHeld k c) (pos 0) (λ k. known_number k c) (line_between (length xs) (length ys)) (as_given xs ++ given r ∷ (as_given ys ++ denied (given r) ∷ []))
  held c =
      let a = number c r in
      let b = known_number (denied (given r)) c in
      let w = narrow c in
      let v = small c in
      let first : pos 1 *ℤ a ≡ a = omega (arith, ints) in
      let sum : pos 0 +ℤ pos 1 *ℤ a ≡ a = omega (arith, ints) in
      let last : pos 1 *ℤ b ≡ b = omega (arith, ints) in
      let all : a +ℤ pos 1 *ℤ b ≡ a +ℤ b = omega (arith, ints) in
      let a_held : IsHeld a = omega (arith, w) in
      zeros_held c (pos 0) xs (pos 1 ∷ (zeros (length ys) ++ pos 1 ∷ [])) (given r ∷ (as_given ys ++ denied (given r) ∷ [])) (let z : unsigned_abs (pos 0) < 2 ^ 127 = omega arith in z) (
        tt,
        subst IsHeld (sym first) a_held,
        subst IsHeld (sym sum) a_held,
        subst (λ z. RowsHeld (λ k. KnownHeld k c) z (λ k. known_number k c) (zeros (length ys) ++ pos 1 ∷ []) (as_given ys ++ denied (given r) ∷ [])) (sym sum)
            (zeros_held c a ys (pos 1 ∷ []) (denied (given r) ∷ []) a_held (told c, subst IsHeld (sym last) (let x : IsHeld b = omega (arith, v) in x), subst IsHeld (sym all) (let x : unsigned_abs (a +ℤ b) < 2 ^ 127 = omega (arith, ints, w, v) in x), tt)),
      )

  least : All (λ m. pos 0 ≤ℤ m) (line_between (length xs) (length ys))
  least =
      All-append (λ m. pos 0 ≤ℤ m) (zeros (length xs)) (pos 1 ∷ (zeros (length ys) ++ pos 1 ∷ [])) (zeros_signs (length xs))
      (All-cons (λ m. pos 0 ≤ℤ m) (pos 1) (zeros (length ys) ++ pos 1 ∷ []) (omega (arith, ints))
      (All-append (λ m. pos 0 ≤ℤ m) (zeros (length ys)) (pos 1 ∷ []) (zeros_signs (length ys)) (All-cons (λ m. pos 0 ≤ℤ m) (pos 1) [] (omega (arith, ints)) (All-nil (λ m. pos 0 ≤ℤ m)))))

  many : length (line_between (length xs) (length ys)) ≡ length (as_given xs ++ given r ∷ (as_given ys ++ denied (given r) ∷ []))
  many =
      let a = length-append (zeros (length xs)) (pos 1 ∷ (zeros (length ys) ++ pos 1 ∷ [])) in
      let b = length-append (zeros (length ys)) (pos 1 ∷ []) in
      let p = length-append (as_given xs) (given r ∷ (as_given ys ++ denied (given r) ∷ [])) in
      let q = length-append (as_given ys) (denied (given r) ∷ []) in
      let x = length-zeros (length xs) in
      let y = length-zeros (length ys) in
      let u = length-map xs (λ z. given z) in
      let v = length-map ys (λ z. given z) in
      omega (arith, a, b, p, q, x, y, u, v)

  pub row_shown : (n : ℕ) → Refutes n (as_given xs ++ given r ∷ (as_given ys ++ denied (given r) ∷ [])) (line_between (length xs) (length ys))
  row_shown n = record {
    as_many = many;
    none_negative = least;
    columns = λ j l. sum_is (Some j) ∙ (let x : number (Some j) r +ℤ neg_ℤ (number (Some j) r) ≡ pos 0 = omega (arith, ints) in x);
    constant = (let s = sum_is None in omega (arith, ints, s));
    columns_held = λ j l. held (Some j);
    constant_held = held None;
  }

-- ---- the lines of all rows
more_from : (count place k : ℕ) → own_lines count place (suc k) ≡ own_lines count place k ++ own_line count (place + k) ∷ []
more_from count place zero = ap (λ p. own_line count p ∷ []) (let e : place ≡ place + 0 = omega arith in e)
more_from count place (suc k) = ap (λ ls. own_line count place ∷ ls) (more_from count (suc place) k ∙ ap (λ p. own_lines count (suc place) k ++ own_line count p ∷ []) (let e : suc place + k ≡ place + suc k = omega arith in e))

pub lines_more : (count k : ℕ) → own_lines count 0 (k + 1) ≡ own_lines count 0 k ++ own_line count k ∷ []
lines_more count k = ap (own_lines count 0) (let e : k + 1 ≡ suc k = omega arith in e) ∙ more_from count 0 k ∙ ap (λ p. own_lines count 0 k ++ own_line count p ∷ []) (let e : 0 + k ≡ k = omega arith in e)

number_narrow : (r : Linear) → IsNarrow r → (c : Option ℕ) → IsWithin 62 (number c r)
number_narrow r h None = h.constant
number_narrow r h (Some j) = at_place r.coefficients j h.coefficients
  where
    at_place : (cs : List ℤ) (j : ℕ) → All (IsWithin 62) cs → IsWithin 62 (slice_index_or cs j (pos 0))
    at_place [] j g = omega arith
    at_place (c ∷ cs) zero g = All-head (IsWithin 62) c cs g
    at_place (c ∷ cs) (suc j) g = at_place cs j (All-tail (IsWithin 62) c cs g)

-- the rows from a place on are shown by their own lines
own_shown : (n : ℕ) (xs rest : List Linear) → All IsNarrow rest → Shown n (as_given (xs ++ rest)) (as_given rest) (own_lines (length (xs ++ rest)) (length xs) (length rest))
own_shown n xs [] h = tt
own_shown n xs (r ∷ ys) h = (
  subst (λ ks. Refutes n ks (own_line (length (xs ++ r ∷ ys)) (length xs))) (sym known) (subst (λ k. Refutes n (as_given xs ++ given r ∷ (as_given ys ++ denied (given r) ∷ [])) (zeros (length xs) ++ pos 1 ∷ (zeros k ++ pos 1 ∷ []))) (sym left)
      (row_shown xs r ys (number_narrow r (All-head IsNarrow r ys h)) n)),
  subst (λ zs. Shown n (as_given zs) (as_given ys) (own_lines (length zs) (suc (length xs)) (length ys))) (append_assoc xs (r ∷ []) ys)
      (subst (λ k. Shown n (as_given ((xs ++ r ∷ []) ++ ys)) (as_given ys) (own_lines (length ((xs ++ r ∷ []) ++ ys)) k (length ys))) (length-append xs (r ∷ []) ∙ (let e : length xs + 1 ≡ suc (length xs) = omega arith in e))
      (own_shown n (xs ++ r ∷ []) ys (All-tail IsNarrow r ys h))),
)
  where
    known : as_given (xs ++ r ∷ ys) ++ denied (given r) ∷ [] ≡ as_given xs ++ given r ∷ (as_given ys ++ denied (given r) ∷ [])
    known = ap (λ ks. ks ++ denied (given r) ∷ []) (as_given-append xs (r ∷ ys)) ∙ append_assoc (as_given xs) (given r ∷ as_given ys) (denied (given r) ∷ [])

    left : length (xs ++ r ∷ ys) - length xs - 1 ≡ length ys
    left = (let a = length-append xs (r ∷ ys) in omega (arith, a))

-- ---- the cover
line_narrow : (a b : ℕ) → All (IsWithin 62) (line_between a b)
line_narrow a b =
    All-append (IsWithin 62) (zeros a) (pos 1 ∷ (zeros b ++ pos 1 ∷ [])) (zeros-narrow a)
    (All-cons (IsWithin 62) (pos 1) (zeros b ++ pos 1 ∷ []) (omega arith)
    (All-append (IsWithin 62) (zeros b) (pos 1 ∷ []) (zeros-narrow b) (All-cons (IsWithin 62) (pos 1) [] (omega arith) (All-nil (IsWithin 62)))))

lines_narrow : (count place k : ℕ) → All (All (IsWithin 62)) (own_lines count place k)
lines_narrow count place zero = All-nil (All (IsWithin 62))
lines_narrow count place (suc k) = All-cons (All (IsWithin 62)) (own_line count place) (own_lines count (suc place) k) (line_narrow place (count - place - 1)) (lines_narrow count (suc place) k)

own_met : (n k : ℕ) (rows : List Linear) (lists : List (List Linear)) (tree : CoverTree) → slice_get lists k ≡ Some rows → All IsNarrow rows → IsOwnCover (length rows) k tree → IsMetCover n (changed_lists given lists) (as_given rows) tree
own_met n k rows lists (cover.Split' r p a q b) got narrow h = absurd h
own_met n k rows lists (cover.Empty ms) got narrow h = absurd h
own_met n k rows lists (cover.Into target fall ls) got narrow h =
    subst (λ x. x) (sym (λ i. ShownAt n (as_given rows) (changed_lists given lists (h.0 i) (h.1 i)) (h.2 i)))
    (subst (λ o. ShownAt n (as_given rows) (option_map as_given o) (own_lines (length rows) 0 (length rows))) (sym got) (own_shown n [] rows narrow))

own_narrow : (count k : ℕ) (tree : CoverTree) → k < 2 ^ 32 → IsOwnCover count k tree → CoverNarrow tree
own_narrow count k (cover.Split' r p a q b) bounded h = absurd h
own_narrow count k (cover.Empty ms) bounded h = absurd h
own_narrow count k (cover.Into target fall ls) bounded h = (
  subst CountNarrow (sym h.0) (omega (arith, bounded)),
  subst CountNarrow (sym h.1) (omega arith),
  all_unmapped AreNarrow (λ l. l.items) ls.items (subst (All AreNarrow) (sym h.2) (lines_narrow count 0 count)),
)

own_even : (n count k : ℕ) (tree : CoverTree) → IsOwnCover count k tree → TreeRows (λ r. columns r ≡ n) tree
own_even n count k (cover.Split' r p a q b) h = absurd h
own_even n count k (cover.Empty ms) h = absurd h
own_even n count k (cover.Into target fall ls) h = tt

own_splits : (count k : ℕ) (tree : CoverTree) → IsOwnCover count k tree → splits tree ≤ 128
own_splits count k (cover.Split' r p a q b) h = absurd h
own_splits count k (cover.Empty ms) h = absurd h
own_splits count k (cover.Into target fall ls) h = omega arith

pub own_offered : (about : CaseSystem) (number l k count : ℕ) (rows : List Linear) (lists : List (List Linear)) (tree : CoverTree) → slice_get lists k ≡ Some rows → count ≡ length rows → k < 2 ^ 32 → All IsNarrow rows → IsOwnCover count k tree → IsOffered (atom_of number (about_with about) (atom_piece about.variables l rows) lists) (Covered tree)
own_offered about number l k count rows lists tree got many bounded narrow own =
    let h = subst (λ c. IsOwnCover c k tree) many own in
    let met = own_met about.variables k rows lists tree got narrow h in
    record {
      shape = (met_shape about.variables (changed_lists given lists) (as_given rows) tree (own_even about.variables (length rows) k tree h) met, own_splits (length rows) k tree h);
      met = met;
      narrow = own_narrow (length rows) k tree bounded h;
    }
