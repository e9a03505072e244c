-- What is so of the items of a list is so of the items that are the same in another list.
use Rattle.std.proofs.Common.{◌≡◌, ℕ, ◌+◌, ◌<◌, List, [], ◌∷◌, ◌++◌, length, take, get_or, subst, sym, ℤ}
use Rattle.std.specs.Prelude.{All}
use Rattle.std.specs.Global.{Vec}
use Rattle.std.specs.List.{AllZip}
use Rattle.std.proofs.lemmas.List.Elements.{All-nil, All-cons, All-head, All-tail, All-map, all_zip_more}
use Rattle.tv_linear.proofs.ListLaws.{all_unmapped}
use Rattle.tv_copy.specs.SameProofs.{numbers_of}

pub all_carried : {A : Type 0} (P : A → Type 0) (S : A → A → Type 0) → ((a b : A) → S a b → P a → P b) → (xs ys : List A) → AllZip S xs ys → All P xs → All P ys
all_carried P S carry [] [] same h = All-nil P
all_carried P S carry [] (y ∷ ys) same h = absurd same
all_carried P S carry (x ∷ xs) [] same h = absurd same
all_carried P S carry (x ∷ xs) (y ∷ ys) same h = All-cons P y ys (carry x y same.0 (All-head P x xs h)) (all_carried P S carry xs ys same.1 (All-tail P x xs h))

pub zip_carried : {C A : Type 0} (R : C → A → Type 0) (S : A → A → Type 0) → ((c : C) (a b : A) → S a b → R c a → R c b) → (cs : List C) (xs ys : List A) → AllZip S xs ys → AllZip R cs xs → AllZip R cs ys
zip_carried R S carry [] [] [] same h = tt
zip_carried R S carry [] [] (y ∷ ys) same h = absurd same
zip_carried R S carry [] (x ∷ xs) ys same h = absurd h
zip_carried R S carry (c ∷ cs) [] ys same h = absurd h
zip_carried R S carry (c ∷ cs) (x ∷ xs) [] same h = absurd same
zip_carried R S carry (c ∷ cs) (x ∷ xs) (y ∷ ys) same h = (carry c x y same.0 h.0, zip_carried R S carry cs xs ys same.1 h.1)

-- what is so of the numbers of each list
pub lists_carried : (P : List ℤ → Type 0) (lists others : List (Vec ℤ)) → numbers_of others ≡ numbers_of lists → All (λ l. P l.items) lists → All (λ l. P l.items) others
lists_carried P lists others same h = all_unmapped P (λ l. l.items) others (subst (All P) (sym same) (All-map P (λ l. l.items) lists h))

-- one more item and its copy
pub zipped_more : {A : Type 0} (S : A → A → Type 0) (xs ys zs : List A) (i : ℕ) (x y : A) → i < length xs → x ≡ get_or xs i x → AllZip S (take i xs) ys → S x y → zs ≡ ys ++ y ∷ [] → AllZip S (take (i + 1) xs) zs
zipped_more S xs ys zs i x y below is h same made = subst (AllZip S (take (i + 1) xs)) (sym made) (all_zip_more S xs ys i x y below is h same)
