-- Entries of targets.
use Rattle.std.proofs.Common.{◌≡◌, ℕ, ◌<◌, ◌≤◌, List, [], ◌∷◌, ◌++◌, map, arith, refl, ap, ◌∙◌, ℤ}
use Rattle.tv_pre.specs.Ranked.{IsFallingEntry, last_line}
use Rattle.std.proofs.lemmas.List.{map_push}

pub entry_before : (first count k fall : ℕ) (lists new : List (List ℤ)) → k < first → new ≡ lists → IsFallingEntry first count k fall k fall lists new
entry_before first count k fall lists new l e = record { same = refl; before = λ t. (refl, e); onward = λ t. absurd (omega (arith, l, t)) }

pub entry_onward : (first count k fall : ℕ) (lists new : List (List ℤ)) → first ≤ k → new ≡ lists ++ last_line count ∷ last_line count ∷ [] → IsFallingEntry first count k fall k 1 lists new
entry_onward first count k fall lists new l e = record { same = refl; before = λ t. absurd (omega (arith, l, t)); onward = λ t. (refl, e) }

two_more : {W : Type 0} (ms : List W) (x y : W) → (ms ++ x ∷ []) ++ y ∷ [] ≡ ms ++ x ∷ y ∷ []
two_more [] x y = refl
two_more (m ∷ ms) x y = ap (λ zs. m ∷ zs) (two_more ms x y)

pub two_pushed : {V W : Type 0} (f : V → W) (a b c : List V) (x y : V) (ms : List W) (p : W) → b ≡ a ++ x ∷ [] → c ≡ b ++ y ∷ [] → map f a ≡ ms → f x ≡ p → f y ≡ p → map f c ≡ ms ++ p ∷ p ∷ []
two_pushed f a b c x y ms p eb ec ea ex ey =
    ap (map f) ec ∙ map_push f b y ∙ ap (λ zs. zs ++ f y ∷ []) (ap (map f) eb ∙ map_push f a x)
    ∙ two_more (map f a) (f x) (f y) ∙ (λ i. ea i ++ ex i ∷ ey i ∷ [])
