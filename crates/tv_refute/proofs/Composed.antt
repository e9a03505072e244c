-- sums over terms, for several columns at once, as far as they have come
use Rattle.std.proofs.Common.{◌≡◌, ◌↔◌, ℕ, zero, suc, ◌+◌, ◌<◌, ◌≤◌, List, [], ◌∷◌, map, length, get_or, arith, sym, ap, ◌∙◌, ℤ, pos, ◌+ℤ◌, ◌*ℤ◌, subst, Option, Some, None, Bool, true, false, refl}
use Rattle.std.proofs.lemmas.List.{length-map}
use Rattle.tv_linear.specs.Fits.{IsHeld}
use Rattle.tv_linear.specs.Known.{Term, kept, term_number, PlacesHeld, Known, composed, KnownHeld, known_number}
use Rattle.tv_refute.specs.Blocks.{AreTold, IsAddedHeld, TermsHeld, terms_sum, further, ConstantHeld, with_constant}
use Rattle.tv_refute.proofs.Going.{Going_all, Going_fit, Going_next, Going_end, Composing, term_there}
use Rattle.tv_refute.proofs.Telling.{told_always}

-- each sum has come as far as the place, and is held
abbrev pub AreComposing : Known → List Term → Option ℕ → ℕ → List ℤ → ℕ → Type 0
AreComposing k terms column count totals v = (c : ℕ) → c < count → Composing k terms (further column c) (get_or totals c (pos 0)) v × IsHeld (get_or totals c (pos 0))

module _ (k : Known) (terms : List Term) (column : Option ℕ) (count : ℕ) where
  pub all_cleared : (r : Bool) (totals : List ℤ) → AreTold r count (λ c. Unit {0}) (λ c. pos 0) totals → AreComposing k terms column count totals 0
  all_cleared r totals told = λ c h.
      let e = told_always r count (λ c. pos 0) totals told c h in
      let small : IsHeld (pos 0) = omega arith in
      (subst (λ z. Composing k terms (further column c) z 0) (sym e) (Going_all (λ v. KnownHeld k (Some v)) (λ v. known_number k (Some v)) (map (term_number (further column c)) terms)), subst IsHeld (sym e) small)

  module _ (totals : List ℤ) (v : ℕ) (h : AreComposing k terms column count totals v) (below : v < length terms) (a : ℤ) (is : a ≡ known_number k (Some v)) (xs : List ℤ) where
    inside : (c : ℕ) → v < length (map (term_number (further column c)) terms)
    inside c = let e = length-map terms (term_number (further column c)) in omega (arith, e, below)

    pub composed_next : KnownHeld k (Some v) → AreTold true count (λ c. IsAddedHeld (get_or totals c (pos 0)) a (term_number (further column c) (get_or terms v (kept 0)))) (λ c. get_or totals c (pos 0) +ℤ a *ℤ term_number (further column c) (get_or terms v (kept 0))) xs → AreComposing k terms column count xs (v + 1)
    composed_next told added = λ c l.
        let w = added c l in
        let x : ℤ = term_number (further column c) (get_or terms v (kept 0)) in
        let total : ℤ = get_or totals c (pos 0) in (
          subst (λ z. Composing k terms (further column c) z (v + 1)) (ap (λ b. total +ℤ b *ℤ x) (sym is) ∙ sym w.1)
              (Going_next (λ v. KnownHeld k (Some v)) (λ v. known_number k (Some v)) (map (term_number (further column c)) terms) total v x (inside c) (term_there (further column c) terms v below) (h c l).0
              told (subst (λ b. IsHeld (b *ℤ x)) is w.0.0) (subst (λ b. IsHeld (total +ℤ b *ℤ x)) is w.0.1)),
          subst IsHeld (sym w.1) w.0.1,
        )

    pub compose_fails : (ys : List ℤ) → AreTold false count (λ c. IsAddedHeld (get_or totals c (pos 0)) a (term_number (further column c) (get_or terms v (kept 0)))) (λ c. get_or totals c (pos 0) +ℤ a *ℤ term_number (further column c) (get_or terms v (kept 0))) xs → AreTold false count (λ c. TermsHeld k terms (further column c)) (λ c. terms_sum k terms (further column c)) ys
    compose_fails ys never = λ all. never (λ c l.
        let x : ℤ = term_number (further column c) (get_or terms v (kept 0)) in
        let total : ℤ = get_or totals c (pos 0) in
        let w = Going_fit (λ v. KnownHeld k (Some v)) (λ v. known_number k (Some v)) (map (term_number (further column c)) terms) total v x (inside c) (term_there (further column c) terms v below) (h c l).0 (all c l) in
        (subst (λ b. IsHeld (b *ℤ x)) (sym is) w.1, subst (λ b. IsHeld (total +ℤ b *ℤ x)) (sym is) w.2))

  pub composed_all : (totals : List ℤ) (v : ℕ) → AreComposing k terms column count totals v → length terms ≤ v → AreTold true count (λ c. TermsHeld k terms (further column c)) (λ c. terms_sum k terms (further column c)) totals
  composed_all totals v h past = λ c l.
      Going_end (λ v. KnownHeld k (Some v)) (λ v. known_number k (Some v)) (map (term_number (further column c)) terms) (get_or totals c (pos 0)) v (let e = length-map terms (term_number (further column c)) in omega (arith, e, past)) (h c l).0

  places_told : (told : ℕ → Type 0) (f : ℕ → ℤ) (sum : ℤ) (v : ℕ) (xs : List ℤ) (i : ℕ) → i < length xs → PlacesHeld told f sum v xs → told (v + i)
  places_told told f sum v [] i h p = absurd (omega arith)
  places_told told f sum v (x ∷ xs) zero h p = let e : v ≡ v + 0 = omega arith in subst told e p.0
  places_told told f sum v (x ∷ xs) (suc i) h p = let e : suc v + i ≡ v + suc i = omega arith in subst told e (places_told told f (sum +ℤ f v *ℤ x) (suc v) xs i (omega arith) p.3)

  pub read_fails : (first width : ℕ) (f : ℕ → ℤ) (xs ys : List ℤ) → first + width ≤ length terms → 0 < count → AreTold false width (λ i. KnownHeld k (further (Some first) i)) f xs → AreTold false count (λ c. TermsHeld k terms (further column c)) (λ c. terms_sum k terms (further column c)) ys
  read_fails first width f xs ys fits some never = λ all. never (λ i l.
      let e = length-map terms (term_number (further column 0)) in
      let z : 0 + (first + i) ≡ first + i = omega arith in
      subst (λ v. KnownHeld k (Some v)) z (places_told (λ v. KnownHeld k (Some v)) (λ v. known_number k (Some v)) (pos 0) 0 (map (term_number (further column 0)) terms) (first + i) (omega (arith, e, fits, l)) (all 0 some)))

-- the sums over the terms, and the constant: the numbers of the composed row
with_constant_held : (k : Known) (terms : List Term) (column : Option ℕ) (c : ℕ) → (TermsHeld k terms (further column c) × ConstantHeld k column (terms_sum k terms (further column c))) ↔ KnownHeld (composed k terms) (further column c)
with_constant_held k terms None c = (λ h. (h.0, h.1.0, h.1.1), λ h. (h.0, (h.1, h.2)))
with_constant_held k terms (Some j) c = (λ h. h.0, λ h. (h, tt))

with_constant_is : (k : Known) (terms : List Term) (column : Option ℕ) (c : ℕ) → with_constant k column (terms_sum k terms (further column c)) ≡ known_number (composed k terms) (further column c)
with_constant_is k terms None c = refl
with_constant_is k terms (Some j) c = refl

module _ (K k : Known) (terms : List Term) (column : Option ℕ) (count : ℕ) (is : K ≡ composed k terms) where
  pub sums_fail : (xs ys : List ℤ) → AreTold false count (λ c. TermsHeld k terms (further column c)) (λ c. terms_sum k terms (further column c)) xs → AreTold false count (λ c. KnownHeld K (further column c)) (λ c. known_number K (further column c)) ys
  sums_fail xs ys never = λ all. never (λ c l. ((with_constant_held k terms column c).1 (subst (λ x. KnownHeld x (further column c)) is (all c l))).0)

  pub constant_added : (r : Bool) (xs ys : List ℤ) → AreTold true count (λ c. TermsHeld k terms (further column c)) (λ c. terms_sum k terms (further column c)) xs → AreTold r count (λ c. ConstantHeld k column (get_or xs c (pos 0))) (λ c. with_constant k column (get_or xs c (pos 0))) ys → AreTold r count (λ c. KnownHeld K (further column c)) (λ c. known_number K (further column c)) ys
  constant_added false xs ys sums never = λ all. never (λ c l.
      subst (ConstantHeld k column) (sym (sums c l).1) ((with_constant_held k terms column c).1 (subst (λ x. KnownHeld x (further column c)) is (all c l))).1)
  constant_added true xs ys sums told = λ c l.
      let w = told c l in (
        subst (λ x. KnownHeld x (further column c)) (sym is) ((with_constant_held k terms column c).0 ((sums c l).0, subst (ConstantHeld k column) (sums c l).1 w.0)),
        w.1 ∙ ap (with_constant k column) (sums c l).1 ∙ with_constant_is k terms column c ∙ ap (λ x. known_number x (further column c)) (sym is),
      )
