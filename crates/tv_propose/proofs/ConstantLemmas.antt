-- The ordered set of constants.
use Rattle.std.proofs.Common.{◌≡◌, ℕ, ◌+◌, ◌<◌, List, [], ◌∷◌, ◌++◌, length, take, get_or, All, refl, sym, ap, ◌∙◌, ℤ}
use Rattle.std.specs.List.{flat_map}
use Rattle.std.specs.BTreeSet.{insert_key}
use Rattle.std.specs.Ordering.{int_cmp, match_ordering}
use Rattle.std.specs.declared.cmp.Ordering.{Ordering}
use Rattle.std.specs.declared.cmp.Ordering.TheVariants.{Less, Equal, Greater}
use Rattle.std.proofs.lemmas.List.{flat_map_more, take_more}
use Rattle.std.proofs.lemmas.List.Elements.{All-cons, All-head, All-tail}
use Rattle.tv_propose.specs.Constants.{with_numbers}

pub with_append : (keys xs ys : List ℤ) → with_numbers keys (xs ++ ys) ≡ with_numbers (with_numbers keys xs) ys
with_append keys [] ys = refl
with_append keys (x ∷ xs) ys = with_append (insert_key int_cmp keys x) xs ys

at_order : (P : ℤ → Type 0) (o : Ordering) (z x : ℤ) (xs more : List ℤ) → P z → All P (x ∷ xs) → All P more → All P (match_ordering o (z ∷ x ∷ xs) (x ∷ xs) (x ∷ more))
at_order P Less z x xs more p h m = All-cons P z (x ∷ xs) p h
at_order P Equal z x xs more p h m = h
at_order P Greater z x xs more p h m = All-cons P x more (All-head P x xs h) m

pub insert_all : (P : ℤ → Type 0) (keys : List ℤ) (z : ℤ) → P z → All P keys → All P (insert_key int_cmp keys z)
insert_all P [] z p h = All-cons P z [] p h
insert_all P (x ∷ xs) z p h = at_order P (int_cmp z x) z x xs (insert_key int_cmp xs z) p h (insert_all P xs z p (All-tail P x xs h))

-- one more element of a list whose numbers are put in
pub put_more : {X : Type 0} (f : X → List ℤ) (xs : List X) (i : ℕ) (x : X) (keys now next : List ℤ) → i < length xs → x ≡ get_or xs i x → now ≡ with_numbers keys (flat_map f (take i xs)) → next ≡ with_numbers now (f x) → next ≡ with_numbers keys (flat_map f (take (i + 1) xs))
put_more f xs i x keys now next l e old new =
    new
    ∙ ap (λ ks. with_numbers ks (f x)) old
    ∙ sym (with_append keys (flat_map f (take i xs)) (f x))
    ∙ ap (λ zs. with_numbers keys zs) (ap (λ y. flat_map f (take i xs) ++ f y) e ∙ flat_map_more f [] (take i xs) (get_or xs i x) ∙ ap (flat_map f) (sym (take_more xs i x l)))
