-- numbers of several columns at once
use Rattle.std.proofs.Common.{⊎_elim, set, ◌≡◌, ◌↔◌, ℕ, ◌+◌, ◌<◌, ◌∙◌, List, length, drop, get_or, refl, sym, ap, arith, subst, ℤ, pos, ◌+ℤ◌, ◌*ℤ◌, Bool, true, false, Option, None, Some}
use Rattle.std.proofs.lemmas.Bool.{cases_eq}
use Rattle.std.proofs.lemmas.Int.{ints}
use Rattle.std.proofs.lemmas.List.{get_or-drop, get_or-set_same, get_or-set_other}
use Rattle.tv_linear.specs.Fits.{IsHeld}
use Rattle.tv_linear.specs.Known.{Term, number, kept, put, term_number, unit_number}
use Rattle.tv_linear.specs.Linear.{Linear}
use Rattle.tv_refute.specs.Blocks.{AreTold, AreHeld, IsAddedHeld, further}

pub AreTold_iff : (r : Bool) (count : ℕ) (P Q : ℕ → Type 0) (f g : ℕ → ℤ) (xs : List ℤ) → ((k : ℕ) → k < count → P k ↔ Q k) → ((k : ℕ) → k < count → P k → f k ≡ g k) → AreTold r count P f xs → AreTold r count Q g xs
AreTold_iff false count P Q f g xs same is never = λ all. never (λ k h. (same k h).1 (all k h))
AreTold_iff true count P Q f g xs same is told = λ k h. let w = told k h in ((same k h).0 w.0, w.1 ∙ is k h w.0)

-- what is known of each place anyway
pub AreTold_plain : (r : Bool) (count : ℕ) (P : ℕ → Type 0) (f : ℕ → ℤ) (xs : List ℤ) → AreTold r count (λ k. Unit {0} × P k) f xs → AreTold r count P f xs
AreTold_plain r count P f xs told = AreTold_iff r count (λ k. Unit {0} × P k) P f f xs (λ k h. (λ w. w.1, λ w. (tt, w))) (λ k h w. refl) told

pub AreTold_added : (r : Bool) (count : ℕ) (a : ℤ) (x y : ℕ → ℤ) (old xs : List ℤ) → ((k : ℕ) → x k ≡ y k) → AreTold r count (λ k. IsAddedHeld (get_or old k (pos 0)) a (x k)) (λ k. get_or old k (pos 0) +ℤ a *ℤ x k) xs → AreTold r count (λ k. IsAddedHeld (get_or old k (pos 0)) a (y k)) (λ k. get_or old k (pos 0) +ℤ a *ℤ y k) xs
AreTold_added r count a x y old xs same =
    AreTold_iff r count (λ k. IsAddedHeld (get_or old k (pos 0)) a (x k)) (λ k. IsAddedHeld (get_or old k (pos 0)) a (y k)) (λ k. get_or old k (pos 0) +ℤ a *ℤ x k) (λ k. get_or old k (pos 0) +ℤ a *ℤ y k) xs
    (λ k h. (subst (IsAddedHeld (get_or old k (pos 0)) a) (same k), subst (IsAddedHeld (get_or old k (pos 0)) a) (sym (same k))))
    (λ k h w. ap (λ z. get_or old k (pos 0) +ℤ a *ℤ z) (same k))

pub tail_number : (row : Linear) (column : Option ℕ) (j : ℕ) (cs tail : List ℤ) → column ≡ Some j → cs ≡ row.coefficients → tail ≡ drop j cs → (k : ℕ) → get_or tail k (pos 0) ≡ number (further column k) row
tail_number row column j cs tail e c t k =
    ap (λ xs. get_or xs k (pos 0)) (t ∙ ap (drop j) c) ∙ get_or-drop j row.coefficients k (pos 0) ∙ ap (λ o. number (further o k) row) (sym e)

pub constant_number : (row : Linear) (column : Option ℕ) (z : ℤ) → column ≡ None → z ≡ row.constant → (k : ℕ) → z ≡ number (further column k) row
constant_number row column z e c k = c ∙ ap (λ o. number (further o k) row) (sym e)

-- nothing is added where a number is 0
pub zero_added : (a sum x : ℤ) → x ≡ pos 0 → IsHeld sum → IsAddedHeld sum a x × (sum ≡ sum +ℤ a *ℤ x)
zero_added a sum x zero held =
    let none : a *ℤ pos 0 ≡ pos 0 = omega (arith, ints) in
    let product : a *ℤ x ≡ pos 0 = ap (λ z. a *ℤ z) zero ∙ none in
    let total : sum +ℤ a *ℤ x ≡ sum = omega (arith, ints, product) in
    let small : IsHeld (pos 0) = omega arith in
    ((subst IsHeld (sym product) small, subst IsHeld (sym total) held), sym total)

pub nothing_added : (count : ℕ) (a : ℤ) (x : ℕ → ℤ) (old : List ℤ) → ((k : ℕ) → k < count → x k ≡ pos 0) → AreHeld count old → AreTold true count (λ k. IsAddedHeld (get_or old k (pos 0)) a (x k)) (λ k. get_or old k (pos 0) +ℤ a *ℤ x k) old
nothing_added count a x old none_there held k h = zero_added a (get_or old k (pos 0)) (x k) (none_there k h) (held k h)

-- one number is added where it is 1 at one place and 0 elsewhere
pub one_added : (count : ℕ) (a : ℤ) (x : ℕ → ℤ) (old : List ℤ) (i : ℕ) (s : ℤ) → i < length old → x i ≡ pos 1 → ((k : ℕ) → k < count → (k ≡ i → ⊥) → x k ≡ pos 0) → AreHeld count old → IsAddedHeld (get_or old i (pos 0)) a (pos 1) → s ≡ get_or old i (pos 0) +ℤ a *ℤ pos 1 → AreTold true count (λ k. IsAddedHeld (get_or old k (pos 0)) a (x k)) (λ k. get_or old k (pos 0) +ℤ a *ℤ x k) (set old i s)
one_added count a x old i s inside one none_there held fits is k h =
    ⊎_elim
    (λ (e : k ≡ i). subst (λ k. IsAddedHeld (get_or old k (pos 0)) a (x k) × (get_or (set old i s) k (pos 0) ≡ get_or old k (pos 0) +ℤ a *ℤ x k)) (sym e)
    (subst (IsAddedHeld (get_or old i (pos 0)) a) (sym one) fits, get_or-set_same old i s (pos 0) inside ∙ is ∙ ap (λ z. get_or old i (pos 0) +ℤ a *ℤ z) (sym one)))
    (λ (n : k ≡ i → ⊥).
    let w = zero_added a (get_or old k (pos 0)) (x k) (none_there k h n) (held k h) in
    (w.0, get_or-set_other old i k s (pos 0) n ∙ w.1))
    (cases_eq k i)

pub kept_number : (column : Option ℕ) (j k v : ℕ) → column ≡ Some j → term_number (further column k) (kept v) ≡ unit_number (j + k) v
kept_number column j k v e = ap (λ o. term_number (further o k) (kept v)) e

pub told_always : (r : Bool) (count : ℕ) (f : ℕ → ℤ) (xs : List ℤ) → AreTold r count (λ k. Unit {0}) f xs → (k : ℕ) → k < count → get_or xs k (pos 0) ≡ f k
told_always false count f xs never k h = absurd (never (λ k h. tt))
told_always true count f xs told k h = (told k h).1

pub put_number : (row : Linear) (column : Option ℕ) (term : Term) → term ≡ put row → number column row ≡ term_number column term
put_number row None term e = sym (ap (term_number None) e)
put_number row (Some j) term e = sym (ap (term_number (Some j)) e)
