-- Laws of lists and of tests of numbers.
use Rattle.std.proofs.Common.{◌≡◌, ℕ, zero, suc, ◌+◌, ◌<◌, ◌≤◌, ◌⊎◌, true, List, [], ◌∷◌, ◌++◌, length, take, drop, get_or, All, arith, refl, ap, ◌∙◌, ℤ, pos, map, sym, Some, slice_get, subst, ◌≤ℤ◌}
use Rattle.std.specs.List.{AllZip, Contains}
use Rattle.std.proofs.lemmas.List.Elements.{All-nil, All-cons, All-head, All-tail, All-get_or}
use Rattle.tv_linear.specs.Terms.{table}
use Rattle.std.proofs.Math.Seq.{take-suc}
use Rattle.std.proofs.lemmas.Option.{get_or_from_slice_get, slice_get_within}
use Rattle.std.specs.Int.RustNames.{int_le}
use Rattle.std.proofs.lemmas.Int.{ints}

pub last_or_below : (n j : ℕ) → j < n + 1 → (j ≡ n) ⊎ (j < n)
last_or_below n j h = grind arith

pub same_or_below : (n j : ℕ) → j < suc n → (j ≡ n) ⊎ (j < n)
same_or_below n j h = grind arith

pub drop_past : {A : Type 0} (xs : List A) (i : ℕ) → length xs ≤ i → drop i xs ≡ []
drop_past [] zero h = refl
drop_past [] (suc i) h = refl
drop_past (x ∷ xs) zero h = absurd (omega arith)
drop_past (x ∷ xs) (suc i) h = drop_past xs i (omega arith)

pub take_past : {A : Type 0} (xs : List A) (i : ℕ) → length xs ≤ i → take i xs ≡ xs
take_past [] zero l = refl
take_past [] (suc i) l = refl
take_past (x ∷ xs) zero l = absurd (omega (arith, l))
take_past (x ∷ xs) (suc i) l = ap (λ ys. x ∷ ys) (take_past xs i (omega (arith, l)))

pub length-back : (n d : ℕ) (zs : List ℤ) → length zs ≡ n + d → length (drop n zs) ≡ d
length-back zero d zs e = e ∙ (let g : 0 + d ≡ d = omega arith in g)
length-back (suc n) d [] e = absurd (omega (arith, e))
length-back (suc n) d (z ∷ zs) e = length-back n d zs (omega (arith, e))

pub length-front : (n d : ℕ) (zs : List ℤ) → length zs ≡ n + d → length (take n zs) ≡ n
length-front zero d zs e = refl
length-front (suc n) d [] e = absurd (omega (arith, e))
length-front (suc n) d (z ∷ zs) e = ap suc (length-front n d zs (omega (arith, e)))

pub zip_push : {A B : Type 0} (R : A → B → Type 0) (xs : List A) (ys : List B) (x : A) (y : B) → AllZip R xs ys → R x y → AllZip R (xs ++ x ∷ []) (ys ++ y ∷ [])
zip_push R [] [] x y h r = (r, tt)
zip_push R [] (b ∷ ys) x y h r = absurd h
zip_push R (a ∷ xs) [] x y h r = absurd h
zip_push R (a ∷ xs) (b ∷ ys) x y h r = (h.0, zip_push R xs ys x y h.1 r)

pub zip_both : {A B : Type 0} (R : A → B → Type 0) (xs us : List A) (ys vs : List B) → AllZip R xs ys → AllZip R us vs → AllZip R (xs ++ us) (ys ++ vs)
zip_both R [] us [] vs h g = g
zip_both R [] us (y ∷ ys) vs h g = absurd h
zip_both R (x ∷ xs) us [] vs h g = absurd h
zip_both R (x ∷ xs) us (y ∷ ys) vs h g = (h.0, zip_both R xs us ys vs h.1 g)

pub all_back : {A : Type 0} (P : A → Type 0) (xs ys : List A) → All P (xs ++ ys) → All P ys
all_back P [] ys h = h
all_back P (x ∷ xs) ys h = all_back P xs ys (All-tail P x (xs ++ ys) h)

pub all_front : {A : Type 0} (P : A → Type 0) (xs ys : List A) → All P (xs ++ ys) → All P xs
all_front P [] ys h = All-nil P
all_front P (x ∷ xs) ys h = All-cons P x xs (All-head P x (xs ++ ys) h) (all_front P xs ys (All-tail P x (xs ++ ys) h))

pub table-push : {A : Type 0} (n : ℕ) (f : ℕ → A) → table (suc n) f ≡ table n f ++ f n ∷ []
table-push zero f = refl
table-push (suc n) f = ap (λ xs. f 0 ∷ xs) (table-push n (λ j. f (suc j)))

pub get_or-table : {A : Type 0} (n : ℕ) (f : ℕ → A) (k : ℕ) (d : A) → k < n → get_or (table n f) k d ≡ f k
get_or-table zero f k d h = absurd (omega arith)
get_or-table (suc n) f zero d h = refl
get_or-table (suc n) f (suc k) d h = get_or-table n (λ j. f (suc j)) k d (omega arith)

pub table_of : (n : ℕ) (xs : List ℤ) → length xs ≡ n → table n (λ j. get_or xs j (pos 0)) ≡ xs
table_of zero [] e = refl
table_of zero (x ∷ xs) e = absurd (omega arith)
table_of (suc n) [] e = absurd (omega arith)
table_of (suc n) (x ∷ xs) e = ap (λ ys. x ∷ ys) (table_of n xs (omega arith))

pub map-table : {A B : Type 0} (f : A → B) (n : ℕ) (g : ℕ → A) → map f (table n g) ≡ table n (λ j. f (g j))
map-table f zero g = refl
map-table f (suc n) g = ap (λ zs. f (g 0) ∷ zs) (map-table f n (λ j. g (suc j)))

pub take_next : {A : Type 0} (rows : List A) (i : ℕ) (r : A) → i < length rows → r ≡ get_or rows i r → take (i + 1) rows ≡ take i rows ++ r ∷ []
take_next rows i r l e = (let g : i + 1 ≡ suc i = omega arith in ap (λ k. take k rows) g) ∙ take-suc rows i r l ∙ ap (λ x. take i rows ++ x ∷ []) (sym e)

pub contains_at : {A : Type 0} (xs : List A) (i : ℕ) (x : A) → slice_get xs i ≡ Some x → Contains xs x
contains_at xs i x e = (i, slice_get_within xs i x e, get_or_from_slice_get xs i x x e)

pub all_at : {A : Type 0} (P : A → Type 0) (xs : List A) (k : ℕ) (x : A) → All P xs → k < length xs → x ≡ get_or xs k x → P x
all_at P xs k x all inside is = subst P (sym is) (All-get_or P xs k x inside all)

pub all_unmapped : {A B : Type 0} (P : B → Type 0) (f : A → B) (xs : List A) → All P (map f xs) → All (λ x. P (f x)) xs
all_unmapped P f [] h = All-nil (λ x. P (f x))
all_unmapped P f (x ∷ xs) h = All-cons (λ x. P (f x)) x xs (All-head P (f x) (map f xs) h) (all_unmapped P f xs (All-tail P (f x) (map f xs) h))

pub le_from_test : (a b : ℤ) → int_le a b ≡ true → a ≤ℤ b
le_from_test a b h = grind (arith, ints)

pub take_more : {A : Type 0} (xs : List A) (k : ℕ) (x : A) → slice_get xs k ≡ Some x → take (k + 1) xs ≡ take k xs ++ x ∷ []
take_more [] k x h = absurd cc
take_more (y ∷ ys) zero x h = (let e : y ≡ x = cc in ap (λ z. z ∷ []) e)
take_more (y ∷ ys) (suc k) x h = ap (λ n. take n (y ∷ ys)) (let e : suc k + 1 ≡ suc (k + 1) = omega arith in e) ∙ ap (λ zs. y ∷ zs) (take_more ys k x h)
