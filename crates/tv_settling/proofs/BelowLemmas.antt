-- Pieces by their locations.
use Rattle.std.proofs.Common.{◌≡◌, ◌⊎◌, inl, inr, ℕ, zero, suc, ◌<◌, ◌≤◌, List, [], ◌∷◌, ◌++◌, length, length-append, All, Bool, true, false, ◌==◌, if◌then◌else◌, arith, refl, sym, ap, ◌∙◌}
use Rattle.std.specs.Prelude.{slice_get}
use Rattle.std.proofs.lemmas.List.Elements.{All-nil, All-cons, All-head, All-tail, All-append, filter-append}
use Rattle.tv_linear.specs.Known.{given}
use Rattle.tv_linear.proofs.ListLaws.{same_or_below}
use Rattle.tv_cert.specs.declared.node.Marked.{Marked}
use Rattle.tv_cert.specs.Pieces.{place_of, pieces_at}
use Rattle.tv_cert.specs.Targets.{target_rows, no_fall}
use Rattle.tv_points.specs.Nodes.{whole_piece}
use Rattle.tv_points.proofs.BareMet.{LeadsInto}
use Rattle.tv_settling.specs.Below.{pieces_below, elsewhere}
use Rattle.std.proofs.lemmas.List.{append-nil}
use Rattle.std.proofs.lemmas.Bool.{eq-eqb, ne_eqb}

-- all of them are at the location
abbrev pub AreAt : ℕ → List Marked → Type 0
AreAt l ps = All (λ p. place_of p ≡ l) ps

all_at : (l m : ℕ) (ps : List Marked) → l ≡ m → AreAt l ps → pieces_at ps m ≡ ps
all_at l m [] e h = refl
all_at l m (p ∷ ps) e h =
    by_test (place_of p == m) (eq-eqb (place_of p) m (All-head (λ q. place_of q ≡ l) p ps h ∙ e)) (all_at l m ps e (All-tail (λ q. place_of q ≡ l) p ps h))
  where
    by_test : (b : Bool) → b ≡ true → pieces_at ps m ≡ ps → (if b then p ∷ pieces_at ps m else pieces_at ps m) ≡ p ∷ ps
    by_test true t g = ap (λ qs. p ∷ qs) g
    by_test false t g = absurd cc

none_at : (l m : ℕ) (ps : List Marked) → (l ≡ m → ⊥) → AreAt l ps → pieces_at ps m ≡ []
none_at l m [] n h = refl
none_at l m (p ∷ ps) n h =
    by_test (place_of p == m) (ne_eqb (place_of p) m (λ e. n (sym (All-head (λ q. place_of q ≡ l) p ps h) ∙ e))) (none_at l m ps n (All-tail (λ q. place_of q ≡ l) p ps h))
  where
    by_test : (b : Bool) → b ≡ false → pieces_at ps m ≡ [] → (if b then p ∷ pieces_at ps m else pieces_at ps m) ≡ []
    by_test true t g = absurd cc
    by_test false t g = g

module _ (there : ℕ → List Marked) (placed : (l : ℕ) → AreAt l (there l)) where
  none_past : (n l : ℕ) → n ≤ l → pieces_at (pieces_below there n) l ≡ []
  none_past zero l h = refl
  none_past (suc n) l h =
      filter-append (λ p. place_of p == l) (pieces_below there n) (there n)
      ∙ (λ i. none_past n l (omega (arith, h)) i ++ none_at n l (there n) (λ e. omega (arith, h, e)) (placed n) i)

  pub found : (n l : ℕ) → l < n → pieces_at (pieces_below there n) l ≡ there l
  found zero l h = absurd (omega (arith, h))
  found (suc n) l h = filter-append (λ p. place_of p == l) (pieces_below there n) (there n) ∙ by_place (same_or_below n l h) (λ b. found n l b)
    where
      by_place : (l ≡ n) ⊎ (l < n) → (l < n → pieces_at (pieces_below there n) l ≡ there l) → pieces_at (pieces_below there n) l ++ pieces_at (there n) l ≡ there l
      by_place (inl e) rest = (λ i. none_past n l (omega (arith, e)) i ++ all_at n l (there n) (sym e) (placed n) i) ∙ ap there (sym e)
      by_place (inr b) rest = (λ i. rest b i ++ none_at n l (there n) (λ e. omega (arith, b, e)) (placed n) i) ∙ append-nil (there l)

  pub each_below : (P : Marked → Type 0) (n : ℕ) → ((l : ℕ) → l < n → All P (there l)) → All P (pieces_below there n)
  each_below P zero h = All-nil P
  each_below P (suc n) h = All-append P (pieces_below there n) (there n) (each_below P n (λ l b. h l (omega (arith, b)))) (h n (omega arith))

  pub length_below : (n : ℕ) → ((l : ℕ) → length (there l) ≤ 1) → length (pieces_below there n) ≤ n
  length_below zero h = omega arith
  length_below (suc n) h =
      let a = length-append (pieces_below there n) (there n) in
      let b = length_below n h in
      let d = h n in
      omega (arith, a, b, d)

-- ---- the pieces of all states that are not at a location
module _ (n location : ℕ) where
  pub elsewhere_placed : (l : ℕ) → AreAt l (elsewhere n location l)
  elsewhere_placed l = by_test (l == location)
    where
      by_test : (b : Bool) → AreAt l (if b then [] else whole_piece n l ∷ [])
      by_test true = All-nil (λ p. place_of p ≡ l)
      by_test false = All-cons (λ p. place_of p ≡ l) (whole_piece n l) [] refl (All-nil (λ p. place_of p ≡ l))

  pub elsewhere_short : (l : ℕ) → length (elsewhere n location l) ≤ 1
  elsewhere_short l = by_test (l == location)
    where
      by_test : (b : Bool) → length (if b then [] else whole_piece n l ∷ []) ≤ 1
      by_test true = omega arith
      by_test false = omega arith

  pub elsewhere_is : (l : ℕ) → (l ≡ location → ⊥) → elsewhere n location l ≡ whole_piece n l ∷ []
  elsewhere_is l h = by_test (l == location) (ne_eqb l location h)
    where
      by_test : (b : Bool) → b ≡ false → (if b then [] else whole_piece n l ∷ []) ≡ whole_piece n l ∷ []
      by_test true e = absurd cc
      by_test false e = refl

  pub elsewhere_leads : (locations l : ℕ) → l < locations → (l ≡ location → ⊥) → LeadsInto (pieces_below (elsewhere n location) locations) l
  elsewhere_leads locations l h other =
      ap (λ ps. target_rows given no_fall (slice_get ps 0) 0) (found (elsewhere n location) elsewhere_placed locations l h ∙ elsewhere_is l other)

  -- what holds of the piece of all states wherever it stands
  pub each_elsewhere : (P : Marked → Type 0) (locations : ℕ) → ((l : ℕ) → l < locations → (l == location) ≡ false → P (whole_piece n l)) → All P (pieces_below (elsewhere n location) locations)
  each_elsewhere P locations h = each_below (elsewhere n location) elsewhere_placed P locations (λ l b. by_test l (l == location) refl (h l b))
    where
      by_test : (l : ℕ) (b : Bool) → (l == location) ≡ b → ((l == location) ≡ false → P (whole_piece n l)) → All P (if b then [] else whole_piece n l ∷ [])
      by_test l true e k = All-nil P
      by_test l false e k = All-cons P (whole_piece n l) [] (k e) (All-nil P)
