use Rattle.std.proofs.Common.{◌≡◌, ◌↔◌, ℕ, suc, ◌+◌, ◌<◌, ◌≤◌, List, [], ◌∷◌, map, length, drop, get_or, arith, refl, sym, ap, ◌∙◌, ℤ, pos, ◌+ℤ◌, ◌*ℤ◌, subst, Option, Some, drop-cons}
use Rattle.std.proofs.lemmas.Int.{ints}
use Rattle.tv_linear.specs.Fits.{IsHeld}
use Rattle.tv_linear.specs.Known.{Term, kept, term_number, place_sum, PlacesHeld, Known, KnownHeld, known_number}
use Rattle.std.proofs.lemmas.List.{get_or-map}
use Rattle.tv_linear.proofs.ListLaws.{drop_past}

-- the sum of f j times the number at j - v
abbrev pub place_from : ℕ → (ℕ → ℤ) → List ℤ → ℤ
place_from v f [] = pos 0
place_from v f (x ∷ xs) = f v *ℤ x +ℤ place_from (suc v) f xs

place_from_is : (v : ℕ) (f g : ℕ → ℤ) (xs : List ℤ) → ((j : ℕ) → g j ≡ f (v + j)) → place_sum g xs ≡ place_from v f xs
place_from_is v f g [] h = refl
place_from_is v f g (x ∷ xs) h =
    let here = ap (λ z. z *ℤ x) (h 0 ∙ ap f (let e : v + 0 ≡ v = omega arith in e)) in
    let later = place_from_is (suc v) f (λ j. g (suc j)) xs (λ j. h (suc j) ∙ ap f (let e : v + suc j ≡ suc v + j = omega arith in e)) in
    omega (arith, ints, here, later)

module _ (told : ℕ → Type 0) (f : ℕ → ℤ) (xs : List ℤ) where
  -- what is left to sum from place v on
  pub record Going (sum : ℤ) (v : ℕ) : Type 0 where
    pub fits : PlacesHeld told f (pos 0) 0 xs ↔ PlacesHeld told f sum v (drop v xs)
    pub total : place_sum f xs ≡ sum +ℤ place_from v f (drop v xs)

  pub Going_all : Going (pos 0) 0
  Going_all = record { fits = (λ h. h, λ h. h); total = (let e = place_from_is 0 f f xs (λ j. ap f (let e : j ≡ 0 + j = omega arith in e)) in omega (arith, ints, e)) }

  module _ (sum : ℤ) (v : ℕ) (x : ℤ) (l : v < length xs) (e : x ≡ get_or xs v (pos 0)) (h : Going sum v) where
    here : drop v xs ≡ x ∷ drop (v + 1) xs
    here = drop-cons xs v (pos 0) l ∙ (let k : suc v ≡ v + 1 = omega arith in λ i. sym e i ∷ drop (k i) xs)

    next : suc v ≡ v + 1
    next = omega arith

    split : PlacesHeld told f sum v (drop v xs) ≡ (told v × IsHeld (f v *ℤ x) × IsHeld (sum +ℤ f v *ℤ x) × PlacesHeld told f (sum +ℤ f v *ℤ x) (v + 1) (drop (v + 1) xs))
    split = ap (PlacesHeld told f sum v) here ∙ ap (λ k. told v × IsHeld (f v *ℤ x) × IsHeld (sum +ℤ f v *ℤ x) × PlacesHeld told f (sum +ℤ f v *ℤ x) k (drop (v + 1) xs)) next

    pub Going_fit : PlacesHeld told f (pos 0) 0 xs → told v × IsHeld (f v *ℤ x) × IsHeld (sum +ℤ f v *ℤ x) × PlacesHeld told f (sum +ℤ f v *ℤ x) (v + 1) (drop (v + 1) xs)
    Going_fit k = subst (λ (t : Type 0). t) split (h.fits.0 k)

    pub Going_next : told v → IsHeld (f v *ℤ x) → IsHeld (sum +ℤ f v *ℤ x) → Going (sum +ℤ f v *ℤ x) (v + 1)
    Going_next a b c = record {
      fits = (λ k. (Going_fit k).3, λ k. h.fits.1 (subst (λ (t : Type 0). t) (sym split) (a, b, c, k)));
      total = (
          let t = h.total in
          let w : place_from v f (drop v xs) ≡ f v *ℤ x +ℤ place_from (v + 1) f (drop (v + 1) xs) = ap (place_from v f) here ∙ ap (λ k. f v *ℤ x +ℤ place_from k f (drop (v + 1) xs)) next in
          omega (arith, ints, w, t));
    }

  pub Going_end : (sum : ℤ) (v : ℕ) → length xs ≤ v → Going sum v → PlacesHeld told f (pos 0) 0 xs × (sum ≡ place_sum f xs)
  Going_end sum v l h =
      let none = drop_past xs v l in
      (h.fits.1 (subst (PlacesHeld told f sum v) (sym none) tt), let t = h.total in let z : place_from v f (drop v xs) ≡ pos 0 = ap (place_from v f) none in omega (arith, ints, t, z))

-- the sum of a composed row's number, as far as it has come
abbrev pub Composing : Known → List Term → Option ℕ → ℤ → ℕ → Type 0
Composing k terms column sum v = Going (λ v. KnownHeld k (Some v)) (λ v. known_number k (Some v)) (map (term_number column) terms) sum v

pub term_there : (column : Option ℕ) (terms : List Term) (v : ℕ) → v < length terms → term_number column (get_or terms v (kept 0)) ≡ get_or (map (term_number column) terms) v (pos 0)
term_there column terms v l = sym (get_or-map (term_number column) terms v (kept 0) (pos 0) l)
