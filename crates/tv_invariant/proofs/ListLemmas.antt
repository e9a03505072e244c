-- Elements of lists.
use Rattle.std.proofs.Common.{◌≡◌, inl, inr, ℕ, zero, suc, ◌+◌, ◌<◌, List, [], ◌∷◌, ◌++◌, length, map, take, drop, get_or, All, Bool, true, false, rules, arith, refl, sym, ap, ◌∙◌, subst}
use Rattle.std.specs.List.{Contains}
use Rattle.tv_cases.proofs.ContainsLemmas.{Contains-here, Contains-later, Contains-cases, Contains-none}
use Rattle.std.proofs.lemmas.List.Elements.{All-nil, All-cons, All-head, All-tail}

pub in_one : {A : Type 0} (y x : A) → Contains (y ∷ []) x → y ≡ x
in_one y x c = elim (Contains-cases y x [] c) [ inl e ↦ e | inr r ↦ absurd (Contains-none x r) ]

-- All by membership
pub all_by : {A : Type 0} (P : A → Type 0) (xs : List A) → ((x : A) → Contains xs x → P x) → All P xs
all_by P [] h = All-nil P
all_by P (x ∷ xs) h = All-cons P x xs (h x (Contains-here x xs)) (all_by P xs (λ y c. h y (Contains-later x y xs c)))

pub length-front : {A : Type 0} (n d : ℕ) (zs : List A) → length zs ≡ n + d → length (take n zs) ≡ n
length-front zero d zs e = refl
length-front (suc n) d [] e = absurd (omega (arith, e))
length-front (suc n) d (z ∷ zs) e = ap suc (length-front n d zs (omega (arith, e)))

pub length-back : {A : Type 0} (n d : ℕ) (zs : List A) → length zs ≡ n + d → length (drop n zs) ≡ d
length-back zero d zs e = e ∙ (let g : 0 + d ≡ d = omega arith in g)
length-back (suc n) d [] e = absurd (omega (arith, e))
length-back (suc n) d (z ∷ zs) e = length-back n d zs (omega (arith, e))

-- an element of a list that is mapped
pub all_mapped : {A B : Type 0} (P : B → Type 0) (f : A → B) (xs : List A) (k : ℕ) (x : A) → All P (map f xs) → k < length xs → x ≡ get_or xs k x → P (f x)
all_mapped P f [] k x h l e = absurd (omega (arith, l))
all_mapped P f (y ∷ xs) zero x h l e = subst (λ z. P (f z)) (sym e) (All-head P (f y) (map f xs) h)
all_mapped P f (y ∷ xs) (suc k) x h l e = all_mapped P f xs k x (All-tail P (f y) (map f xs) h) (omega (arith, l)) e

pub all_mapped_push : {A B : Type 0} (P : B → Type 0) (f : A → B) (xs : List A) (x : A) → All P (map f xs) → P (f x) → All P (map f (xs ++ x ∷ []))
all_mapped_push P f [] x h p = All-cons P (f x) [] p (All-nil P)
all_mapped_push P f (y ∷ xs) x h p = All-cons P (f y) (map f (xs ++ x ∷ [])) (All-head P (f y) (map f xs) h) (all_mapped_push P f xs x (All-tail P (f y) (map f xs) h) p)

-- what is written back of as many items is these items
pub written_back : {A : Type 0} (xs ys : List A) (n : ℕ) → length xs ≡ n → length ys ≡ n → take n (xs ++ drop (length xs) ys) ≡ xs
written_back [] [] zero e f = refl
written_back [] ys (suc n) e f = absurd (omega (arith, e))
written_back [] (y ∷ ys) zero e f = absurd (omega (arith, f))
written_back (x ∷ xs) ys zero e f = absurd (omega (arith, e))
written_back (x ∷ xs) [] (suc n) e f = absurd (omega (arith, f))
written_back (x ∷ xs) (y ∷ ys) (suc n) e f = ap (λ zs. x ∷ zs) (written_back xs ys n (omega (arith, e)) (omega (arith, f)))
