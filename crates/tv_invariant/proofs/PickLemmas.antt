-- Marked items of the front of a list.
use Rattle.std.proofs.Common.{◌≡◌, inl, inr, ℕ, ℤ, Vec, Global, map, zero, suc, List, [], ◌∷◌, ◌++◌, take, get_or, Bool, true, false, cond, Some, ◌+◌, ◌<◌, length, add-one, append-nil, length-append, subst, arith, rules, refl, sym, ap, ◌∙◌}
use Rattle.std.proofs.lemmas.Option.{slice_get-get_or}
use Rattle.std.specs.Prelude.{slice_get}
use Rattle.std.specs.Prelude.{◌↔◌, IsTrue}
use Rattle.std.proofs.lemmas.List.{get_or_append_left}
use Rattle.tv_linear.specs.declared.cover.CoverTree.{CoverTree, Into}
use Rattle.tv_simplex.proofs.ScaleLemmas.{get_or-append-last}
use Rattle.tv_invariant.specs.Thinning.{AreMarks, IsThinned, Uses, picked}
use Rattle.tv_linear.proofs.ListLaws.{last_or_below}

pub picked-none : {A : Type 0} (marks : List Bool) → picked {A = A} marks [] ≡ []
picked-none [] = refl
picked-none (m ∷ marks) = refl

none_there : {A : Type 0} (k : ℕ) (x : A) → slice_get {X = A} [] k ≡ Some x → ⊥
none_there zero x e = search rules
none_there (suc k) x e = search rules

only_some : {A : Type 0} {y x : A} → Some y ≡ Some x → y ≡ x
only_some e = search rules

-- one item more is taken where it is marked, or after the marks
pub picked-more : {A : Type 0} (marks : List Bool) (xs : List A) (k : ℕ) (x : A) → slice_get xs k ≡ Some x
    → picked marks (take (suc k) xs) ≡ picked marks (take k xs) ++ cond (get_or marks k true) (x ∷ []) []
picked-more [] [] k x e = absurd (none_there k x e)
picked-more [] (y ∷ ys) zero x e = ap (λ z. z ∷ []) (only_some e)
picked-more [] (y ∷ ys) (suc k) x e = ap (λ zs. y ∷ zs) (picked-more [] ys k x e)
picked-more (m ∷ marks) [] k x e = absurd (none_there k x e)
picked-more (true ∷ marks) (y ∷ ys) zero x e = ap (λ zs. y ∷ zs) (picked-none marks) ∙ ap (λ z. z ∷ []) (only_some e)
picked-more (false ∷ marks) (y ∷ ys) zero x e = picked-none marks
picked-more (true ∷ marks) (y ∷ ys) (suc k) x e = ap (λ zs. y ∷ zs) (picked-more marks ys k x e)
picked-more (false ∷ marks) (y ∷ ys) (suc k) x e = picked-more marks ys k x e

pub picked-marked : {A : Type 0} (marks : List Bool) (xs : List A) (k : ℕ) (d : A) → k < length xs → get_or marks k true ≡ true
    → picked marks (take (k + 1) xs) ≡ picked marks (take k xs) ++ get_or xs k d ∷ []
picked-marked marks xs k d l e = ap (λ n. picked marks (take n xs)) (add-one k) ∙ picked-more marks xs k (get_or xs k d) (slice_get-get_or xs k d l) ∙ ap (λ b. picked marks (take k xs) ++ cond b (get_or xs k d ∷ []) []) e

pub picked-left : {A : Type 0} (marks : List Bool) (xs : List A) (k : ℕ) (d : A) → k < length xs → get_or marks k true ≡ false
    → picked marks (take (k + 1) xs) ≡ picked marks (take k xs)
picked-left marks xs k d l e =
    ap (λ n. picked marks (take n xs)) (add-one k) ∙ picked-more marks xs k (get_or xs k d) (slice_get-get_or xs k d l) ∙ ap (λ b. picked marks (take k xs) ++ cond b (get_or xs k d ∷ []) []) e ∙ append-nil (picked marks (take k xs))

pub marks-none : (tree : CoverTree) (marks : List Bool) → marks ≡ [] → AreMarks tree 0 marks
marks-none tree marks e = record { each = ap length e; used = λ i l. absurd (omega (arith, l)) }

pub marks-more : (tree : CoverTree) (k : ℕ) (marks more : List Bool) (b : Bool) → AreMarks tree k marks → more ≡ marks ++ b ∷ [] → IsTrue b ↔ Uses tree k → AreMarks tree (k + 1) more
marks-more tree k marks more b old e h =
    let all = ap length e ∙ length-append marks (b ∷ []) ∙ ap (λ n. n + 1) old.each in
    let last : IsTrue (get_or (marks ++ b ∷ []) k false) ↔ Uses tree k = subst (λ c. IsTrue c ↔ Uses tree k) (sym (get_or-append-last marks b k false old.each)) h in
    let before : (i : ℕ) → i < k → IsTrue (get_or (marks ++ b ∷ []) i false) ↔ Uses tree i = λ i l.
    subst (λ c. IsTrue c ↔ Uses tree i) (sym (get_or_append_left marks (b ∷ []) false i (subst (λ n. i < n) (sym old.each) l))) (old.used i l) in
    record {
      each = all;
      used = λ i l. subst (λ ms. IsTrue (get_or ms i false) ↔ Uses tree i) (sym e) (elim (last_or_below k i l) [
        | inl f ↦ subst (λ j. IsTrue (get_or (marks ++ b ∷ []) j false) ↔ Uses tree j) (sym f) last
        | inr g ↦ before i g
      ]);
    }

-- a tree that enters a target is thinned where its lists are
pub thinned-into : (marks : List Bool) (tree : CoverTree) (target fall : ℕ) (lists thin : Vec (Vec ℤ Global) Global) → tree ≡ Into target fall lists → map (λ l. l.items) thin.items ≡ map (λ l. picked marks l.items) lists.items
    → IsThinned marks tree (Into target fall thin)
thinned-into marks tree target fall lists thin e h = subst (λ t. IsThinned marks t (Into target fall thin)) (sym e) (refl, refl, h)
