-- The terms that are read, by their locations, and the span of a set.
use Rattle.std.proofs.Common.{◌≡◌, inl, inr, ℕ, zero, suc, ◌+◌, ◌-◌, ◌<◌, ◌≤◌, List, [], ◌∷◌, ◌++◌, length, Bool, true, false, ◌==◌, if◌then◌else◌, All, arith, refl, ap, ◌∙◌, subst, ℤ, pos}
use Rattle.std.proofs.lemmas.List.{append-nil}
use Rattle.std.proofs.lemmas.List.Elements.{All-nil, All-cons, All-append}
use Rattle.std.proofs.lemmas.Bool.{eq-eqb, ne_eqb}
use Rattle.tv_linear.specs.Linear.{Linear}
use Rattle.tv_linear.specs.Arithmetic.{constant_row}
use Rattle.tv_linear.proofs.ListLaws.{same_or_below}
use Rattle.tv_rank.specs.declared.found.LocalTerm.{LocalTerm}
use Rattle.tv_rank.specs.Ways.{Way, touches}
use Rattle.tv_rank.specs.RankingSystem.{term_unknowns, terms_below}
use Rattle.tv_rank.specs.Reading.{term_read, read_at, term_there, terms_read}
use Rattle.tv_rank.specs.Rankings.{local_term}

pub row_if : (b : Bool) (x y : Linear) → b ≡ true → (if b then x else y) ≡ x
row_if true x y e = refl
row_if false x y e = absurd cc

pub row_else : (b : Bool) (x y : Linear) → b ≡ false → (if b then x else y) ≡ y
row_else true x y e = absurd cc
row_else false x y e = refl

-- ---- the term at a location
-- none of the terms stands at the location
abbrev pub Nowhere : ℕ → List LocalTerm → Type 0
Nowhere l [] = Unit {0}
Nowhere l (t ∷ ts) = (t.location ≡ l → ⊥) × Nowhere l ts

pub nowhere_both : (l : ℕ) (ts us : List LocalTerm) → Nowhere l ts → Nowhere l us → Nowhere l (ts ++ us)
nowhere_both l [] us h g = g
nowhere_both l (t ∷ ts) us h g = (h.0, nowhere_both l ts us h.1 g)

pub nowhere_left : (v l : ℕ) (ts us : List LocalTerm) → Nowhere l ts → local_term v (ts ++ us) l ≡ local_term v us l
nowhere_left v l [] us h = refl
nowhere_left v l (t ∷ ts) us h = row_else (t.location == l) t.row (local_term v (ts ++ us) l) (ne_eqb t.location l h.0) ∙ nowhere_left v l ts us h.1

pub nowhere_right : (v l : ℕ) (ts us : List LocalTerm) → Nowhere l us → local_term v (ts ++ us) l ≡ local_term v ts l
nowhere_right v l [] us h = none us h
  where
    none : (us : List LocalTerm) → Nowhere l us → local_term v us l ≡ constant_row v (pos 0)
    none [] h = refl
    none (t ∷ us) h = row_else (t.location == l) t.row (local_term v us l) (ne_eqb t.location l h.0) ∙ none us h.1
nowhere_right v l (t ∷ ts) us h = ap (λ r. if t.location == l then t.row else r) (nowhere_right v l ts us h)

module _ (ways : ℕ → Way) (many v : ℕ) (xs : List ℤ) where
  elsewhere : (n l : ℕ) → (n ≡ l → ⊥) → Nowhere l (term_there ways many v xs n)
  elsewhere n l h = by_test (touches ways many n)
    where
      by_test : (b : Bool) → Nowhere l (if b then record { location = n; row = term_read v xs (length (terms_below ways many v n)) } ∷ [] else [])
      by_test true = (h, tt)
      by_test false = tt

  none_past : (n l : ℕ) → n ≤ l → Nowhere l (terms_read ways many v xs n)
  none_past zero l h = tt
  none_past (suc n) l h = nowhere_both l (terms_read ways many v xs n) (term_there ways many v xs n) (none_past n l (omega (arith, h))) (elsewhere n l (λ e. omega (arith, h, e)))

  pub local-read : (n l : ℕ) → l < n → local_term v (terms_read ways many v xs n) l ≡ read_at ways many v xs l
  local-read zero l h = absurd (omega (arith, h))
  local-read (suc n) l h = elim (same_or_below n l h) [
    | inl e ↦ nowhere_left v l (terms_read ways many v xs n) (term_there ways many v xs n) (none_past n l (omega (arith, e))) ∙ subst (λ z. local_term v (term_there ways many v xs z) l ≡ read_at ways many v xs l) e (by_test (touches ways many l))
    | inr b ↦ nowhere_right v l (terms_read ways many v xs n) (term_there ways many v xs n) (elsewhere n l (λ e. omega (arith, b, e))) ∙ local-read n l b
  ]
    where
      by_test : (b : Bool) → local_term v (if b then record { location = l; row = term_read v xs (length (terms_below ways many v l)) } ∷ [] else []) l ≡ (if b then term_read v xs (length (terms_below ways many v l)) else constant_row v (pos 0))
      by_test true = row_if (l == l) (term_read v xs (length (terms_below ways many v l))) (constant_row v (pos 0)) (eq-eqb l l refl)
      by_test false = refl

  -- each stands at one of the first locations, and is over the variables
  pub all-read : (P : LocalTerm → Type 0) (n : ℕ) → ((l : ℕ) → l < n → P (record { location = l; row = term_read v xs (length (terms_below ways many v l)) })) → All P (terms_read ways many v xs n)
  all-read P zero h = All-nil P
  all-read P (suc n) h = All-append P (terms_read ways many v xs n) (term_there ways many v xs n) (all-read P n (λ l k. h l (omega (arith, k)))) (by_test (touches ways many n))
    where
      by_test : (b : Bool) → All P (if b then record { location = n; row = term_read v xs (length (terms_below ways many v n)) } ∷ [] else [])
      by_test true = All-cons P (record { location = n; row = term_read v xs (length (terms_below ways many v n)) }) [] (h n (omega arith)) (All-nil P)
      by_test false = All-nil P

-- ---- outside the span nothing is read
module _ (ways : ℕ → Way) (many v : ℕ) where
  pub no_unknowns : (n : ℕ) → ((l : ℕ) → l < n → touches ways many l ≡ false) → terms_below ways many v n ≡ []
  no_unknowns zero h = refl
  no_unknowns (suc n) h = ap (λ b. terms_below ways many v n ++ (if b then term_unknowns v n else [])) (h n (omega arith)) ∙ append-nil (terms_below ways many v n) ∙ no_unknowns n (λ l k. h l (omega (arith, k)))

  more_unknowns : (n d : ℕ) → ((l : ℕ) → n ≤ l → touches ways many l ≡ false) → terms_below ways many v (n + d) ≡ terms_below ways many v n
  more_unknowns n zero h = ap (terms_below ways many v) (let e : n + 0 ≡ n = omega arith in e)
  more_unknowns n (suc d) h =
      ap (terms_below ways many v) (let e : n + suc d ≡ suc (n + d) = omega arith in e)
      ∙ ap (λ b. terms_below ways many v (n + d) ++ (if b then term_unknowns v (n + d) else [])) (h (n + d) (omega arith))
      ∙ append-nil (terms_below ways many v (n + d)) ∙ more_unknowns n d h

  pub all_unknowns : (n m : ℕ) → n ≤ m → ((l : ℕ) → n ≤ l → touches ways many l ≡ false) → terms_below ways many v m ≡ terms_below ways many v n
  all_unknowns n m k h = ap (terms_below ways many v) (let e : m ≡ n + (m - n) = omega (arith, k) in e) ∙ more_unknowns n (m - n) h

  module _ (xs : List ℤ) where
    pub no_terms : (n : ℕ) → ((l : ℕ) → l < n → touches ways many l ≡ false) → terms_read ways many v xs n ≡ []
    no_terms zero h = refl
    no_terms (suc n) h = ap (λ b. terms_read ways many v xs n ++ (if b then record { location = n; row = term_read v xs (length (terms_below ways many v n)) } ∷ [] else [])) (h n (omega arith)) ∙ append-nil (terms_read ways many v xs n) ∙ no_terms n (λ l k. h l (omega (arith, k)))

    more_terms : (n d : ℕ) → ((l : ℕ) → n ≤ l → touches ways many l ≡ false) → terms_read ways many v xs (n + d) ≡ terms_read ways many v xs n
    more_terms n zero h = ap (terms_read ways many v xs) (let e : n + 0 ≡ n = omega arith in e)
    more_terms n (suc d) h =
        ap (terms_read ways many v xs) (let e : n + suc d ≡ suc (n + d) = omega arith in e)
        ∙ ap (λ b. terms_read ways many v xs (n + d) ++ (if b then record { location = n + d; row = term_read v xs (length (terms_below ways many v (n + d))) } ∷ [] else [])) (h (n + d) (omega arith))
        ∙ append-nil (terms_read ways many v xs (n + d)) ∙ more_terms n d h

    pub all_terms : (n m : ℕ) → n ≤ m → ((l : ℕ) → n ≤ l → touches ways many l ≡ false) → terms_read ways many v xs m ≡ terms_read ways many v xs n
    all_terms n m k h = ap (terms_read ways many v xs) (let e : m ≡ n + (m - n) = omega (arith, k) in e) ∙ more_terms n (m - n) h
