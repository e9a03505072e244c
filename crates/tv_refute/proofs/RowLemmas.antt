-- rows that are met, one after another
use Rattle.std.proofs.Common.{◌≡◌, ◌↔◌, ℕ, suc, ◌+◌, ◌<◌, List, ◌∷◌, length, drop, get_or, arith, sym, ◌∙◌, subst, drop-cons}
use Rattle.std.specs.Prelude.{All}
use Rattle.std.proofs.lemmas.List.Elements.{All-cons, All-tail}

-- all from one place on have P exactly where all have it, and so from the next place on
pub all_onward : {A : Type 0} (P : A → Type 0) (xs : List A) (i : ℕ) (x : A) → i < length xs → x ≡ get_or xs i x → P x → (All P (drop i xs) ↔ All P xs) → All P (drop (i + 1) xs) ↔ All P xs
all_onward P xs i x below is p h =
    let there : drop i xs ≡ x ∷ drop (i + 1) xs = drop-cons xs i x below ∙ (let k : suc i ≡ i + 1 = omega arith in λ j. sym is j ∷ drop (k j) xs) in
    (λ all. h.0 (subst (All P) (sym there) (All-cons P x (drop (i + 1) xs) p all)), λ all. All-tail P x (drop (i + 1) xs) (subst (All P) there (h.1 all)))
