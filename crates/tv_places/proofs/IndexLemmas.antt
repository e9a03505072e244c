use Rattle.std.proofs.Common.{◌≡◌, ℕ, zero, suc, ◌+◌, ◌<◌, ◌≤◌, List, [], ◌∷◌, ◌++◌, map, length, take, drop, get_or, Some, None, Bool, true, false, cond, not, ◌&&◌, ◌==◌, refl, sym, ap, ◌∙◌, subst, arith, ltb, inl, inr}
use Rattle.std.proofs.lemmas.Bool.Decides.{nat_tests}
use Rattle.std.proofs.lemmas.List.{take-append-drop, take_more, map-append, length-map, append-nil, get_or-drop, get_or-take, length-drop, length-take-le}
use Rattle.std.proofs.lemmas.List.Elements.{All-head, All-tail, filter-append, filter_agree}
use Rattle.std.proofs.lemmas.List.Sorted.{IsNonDecreasingBy-drop}
use Rattle.std.proofs.lemmas.Option.{slice_get-map, slice_get_past, slice_get_read}
use Rattle.std.proofs.lemmas.Map.Entries.{option_filter}
use Rattle.std.specs.List.{filter, slice_get, All}
use Rattle.std.specs.List.Sorted.{IsNonDecreasingBy, IsPartitionedBy, IsPartitionPoint, IsStableByKey}
use Rattle.std.specs.Ordering.{is_lt, nat_cmp}
use Rattle.std.specs.declared.cmp.Ordering.TheVariants.{Less, Equal, Greater}
use Rattle.std.specs.Option.{option_map}
use Rattle.tv_places.specs.declared.places.Stand.{Stand}
use Rattle.tv_places.specs.Places.{places_from, places_of, number_of, place_of, stands_of, IsIndexOf, IsFrom}
use Rattle.std.proofs.lemmas.Bool.{ltb-false, cases_Bool, eq-eqb, eqb-true, ne_eqb}

pub false_test : (a b : ℕ) → (a == b) ≡ false → a ≡ b → ⊥
false_test a b h e = grind (arith, nat_tests)

below_other : (a b : ℕ) → ltb a b ≡ true → (a == b) ≡ false
below_other a b h = grind (arith, nat_tests)

-- a filter of a list in which each element passes, and in which none does
filter_all : {X : Type 0} (test : X → Bool) (xs : List X) → All (λ x. test x ≡ true) xs → filter test xs ≡ xs
filter_all test [] h = refl
filter_all test (x ∷ xs) h = ap (λ b. cond b (x ∷ filter test xs) (filter test xs)) (All-head (λ x. test x ≡ true) x xs h) ∙ ap (λ ys. x ∷ ys) (filter_all test xs (All-tail (λ x. test x ≡ true) x xs h))

filter_none : {X : Type 0} (test : X → Bool) (xs : List X) → All (λ x. test x ≡ false) xs → filter test xs ≡ []
filter_none test [] h = refl
filter_none test (x ∷ xs) h = ap (λ b. cond b (x ∷ filter test xs) (filter test xs)) (All-head (λ x. test x ≡ false) x xs h) ∙ filter_none test xs (All-tail (λ x. test x ≡ false) x xs h)

got_none : {X : Type 0} (test : X → Bool) (xs : List X) (k : ℕ) → All (λ x. test x ≡ false) xs → option_filter test (slice_get xs k) ≡ None
got_none test [] k h = refl
got_none test (x ∷ xs) zero h = ap (λ b. cond b (Some x) None) (All-head (λ x. test x ≡ false) x xs h)
got_none test (x ∷ xs) (suc k) h = got_none test xs k (All-tail (λ x. test x ≡ false) x xs h)

-- what a filter keeps is what it keeps of a front and of the rest
filter_parts : {X : Type 0} (test : X → Bool) (xs : List X) (i : ℕ) → filter test xs ≡ filter test (take i xs) ++ filter test (drop i xs)
filter_parts test xs i = ap (filter test) (sym (take-append-drop i xs)) ∙ filter-append test (take i xs) (drop i xs)

-- the elements past a front in which none passes
filter_from : {X : Type 0} (test : X → Bool) (xs : List X) (i : ℕ) → All (λ x. test x ≡ false) (take i xs) → filter test xs ≡ filter test (drop i xs)
filter_from test xs i none = filter_parts test xs i ∙ ap (λ ys. ys ++ filter test (drop i xs)) (filter_none test (take i xs) none)

filter_front : {X : Type 0} (test : X → Bool) (xs : List X) (i : ℕ) → All (λ x. test x ≡ true) (take i xs) → All (λ x. test x ≡ false) (drop i xs) → filter test xs ≡ take i xs
filter_front test xs i all none = filter_parts test xs i ∙ (λ j. filter_all test (take i xs) all j ++ filter_none test (drop i xs) none j) ∙ append-nil (take i xs)

-- what a partition point says of the elements before it, and of those from it on
front_of : {X : Type 0} (P Q : X → Type 0) (xs : List X) (i : ℕ) → i ≤ length xs → IsPartitionPoint P Q xs i → All P (take i xs)
front_of P Q xs i within point k d below =
    let low : k < i = omega (arith, length-take-le i xs within, below) in
    subst P (sym (get_or-take i xs k d low)) (point.0 k d (omega arith) low)

rest_of : {X : Type 0} (P Q : X → Type 0) (xs : List X) (i : ℕ) → IsPartitionPoint P Q xs i → All Q (drop i xs)
rest_of P Q xs i point k d below = subst Q (sym (get_or-drop i xs k d)) (point.1 (i + k) d (omega arith) (omega (arith, length-drop i xs, below)))

-- the stands from the first on whose number is not less
pub from_first : (l : ℕ) (stands rest : List Stand) (first : ℕ) → IsNonDecreasingBy number_of stands → first ≤ length stands → IsPartitionPoint (λ y. ltb (number_of y) l ≡ true) (λ y. ltb (number_of y) l ≡ false) stands first → drop first stands ≡ rest → IsFrom l stands rest
from_first l stands rest first rises within point is =
    let front = front_of (λ y. ltb (number_of y) l ≡ true) (λ y. ltb (number_of y) l ≡ false) stands first within point in
    let back = rest_of (λ y. ltb (number_of y) l ≡ true) (λ y. ltb (number_of y) l ≡ false) stands first point in
    subst (IsFrom l stands) is (record {
      rises = IsNonDecreasingBy-drop number_of first stands rises;
      least = λ k d below. ltb-false (number_of (get_or (drop first stands) k d)) l (back k d below);
      same = sym (filter_from (λ y. number_of y == l) stands first (λ k d below. below_other (number_of (get_or (take first stands) k d)) l (front k d below)));
    })

kept_first : {X : Type 0} (test : X → Bool) (x : X) (xs : List X) (k : ℕ) → test x ≡ true → ((k : ℕ) → slice_get (filter test xs) k ≡ option_filter test (slice_get xs k)) → slice_get (filter test (x ∷ xs)) k ≡ option_filter test (slice_get (x ∷ xs) k)
kept_first test x xs zero e rest = ap (λ b. slice_get (cond b (x ∷ filter test xs) (filter test xs)) 0) e ∙ sym (ap (λ b. cond b (Some x) None) e)
kept_first test x xs (suc k) e rest = ap (λ b. slice_get (cond b (x ∷ filter test xs) (filter test xs)) (suc k)) e ∙ rest k

-- where the numbers do not fall and none is less than l, the elements with the number l stand first
first_kept : {X : Type 0} (n : X → ℕ) (l : ℕ) (xs : List X) → IsNonDecreasingBy n xs → All (λ x. l ≤ n x) xs → (k : ℕ) → slice_get (filter (λ x. n x == l) xs) k ≡ option_filter (λ x. n x == l) (slice_get xs k)
first_kept n l [] rises least k = refl
first_kept n l (x ∷ xs) rises least k =
    elim (cases_Bool (n x == l)) [
      | inl e ↦ kept_first (λ y. n y == l) x xs k e (first_kept n l xs (IsNonDecreasingBy-drop n 1 (x ∷ xs) rises) (All-tail (λ y. l ≤ n y) x xs least))
      | inr e ↦
          let other = false_test (n x) l e in
          let none : All (λ y. (n y == l) ≡ false) (x ∷ xs) = λ j d below. ne_eqb (n (get_or (x ∷ xs) j d)) l (λ q. other (omega (arith, q, rises 0 j d (omega arith) below, least 0 x (omega arith)))) in
          ap (λ ys. slice_get ys k) (filter_none (λ y. n y == l) (x ∷ xs) none) ∙ sym (got_none (λ y. n y == l) (x ∷ xs) k none)
    ]

module _ (numbers : List ℕ) (stands rest : List Stand) (l : ℕ) (index : IsIndexOf numbers stands) (from : IsFrom l stands rest) where
  -- the k-th place of the number is that of the k-th stand from it on, if this is of the number
  place_found : (k : ℕ) → slice_get (places_of l numbers) k ≡ option_map place_of (option_filter (λ stand. number_of stand == l) (slice_get rest k))
  place_found k = ap (λ ps. slice_get ps k) (sym (index.places l)) ∙ ap (λ ss. slice_get (map place_of ss) k) (sym from.same) ∙ slice_get-map place_of (stands_of l rest) k ∙ ap (option_map place_of) (first_kept number_of l rest from.rises from.least k)

  pub place_here : (k : ℕ) (stand : Stand) → k < length rest → stand ≡ get_or rest k stand → number_of stand ≡ l → Some (place_of stand) ≡ slice_get (places_of l numbers) k
  place_here k stand below is e = sym (place_found k ∙ ap (λ s. option_map place_of (option_filter (λ stand. number_of stand == l) s)) (slice_get_read rest (length rest) k stand refl below is) ∙ ap (λ b. option_map place_of (cond b (Some stand) None)) (eq-eqb (number_of stand) l e))

  pub place_other : (k : ℕ) (stand : Stand) → k < length rest → stand ≡ get_or rest k stand → (number_of stand ≡ l → ⊥) → None ≡ slice_get (places_of l numbers) k
  place_other k stand below is e = sym (place_found k ∙ ap (λ s. option_map place_of (option_filter (λ stand. number_of stand == l) s)) (slice_get_read rest (length rest) k stand refl below is) ∙ ap (λ b. option_map place_of (cond b (Some stand) None)) (ne_eqb (number_of stand) l e))

  pub place_past : (k : ℕ) → length rest ≤ k → None ≡ slice_get (places_of l numbers) k
  place_past k past = sym (place_found k ∙ ap (λ s. option_map place_of (option_filter (λ stand. number_of stand == l) s)) (slice_get_past rest k past))

  -- the stands of the number come before the others
  pub parted : IsPartitionedBy (λ stand. number_of stand == l) rest
  parted i j d le below t = eq-eqb (number_of (get_or rest i d)) l (omega (arith, from.rises i j d le below, from.least i d (omega arith), eqb-true (number_of (get_or rest j d)) l t))

  pub places_told : (count : ℕ) → count ≤ length rest → IsPartitionPoint (λ stand. (number_of stand == l) ≡ true) (λ stand. (number_of stand == l) ≡ false) rest count → count ≡ length (places_of l numbers)
  places_told count within point =
      let test : Stand → Bool = λ stand. number_of stand == l in
      let front = front_of (λ stand. test stand ≡ true) (λ stand. test stand ≡ false) rest count within point in
      let back = rest_of (λ stand. test stand ≡ true) (λ stand. test stand ≡ false) rest count point in
      sym (ap length (sym (index.places l)) ∙ length-map (stands_of l stands) place_of ∙ ap length (sym from.same) ∙ ap length (filter_front test rest count front back) ∙ length-take-le count rest within)

put_first : (b : Bool) (start : ℕ) (before after more : List ℕ) → after ≡ before ++ more → cond b (start ∷ after) after ≡ cond b (start ∷ before) before ++ more
put_first true start before after more h = ap (λ ps. start ∷ ps) h
put_first false start before after more h = h

-- the places of a list with one more number at its end
last_place : (l start : ℕ) (xs : List ℕ) (x : ℕ) → places_from l start (xs ++ x ∷ []) ≡ places_from l start xs ++ cond (x == l) ((start + length xs) ∷ []) []
unfolding places_from
last_place l start [] x = let e : start ≡ start + 0 = omega arith in ap (λ s. cond (x == l) (s ∷ []) []) e
last_place l start (y ∷ xs) x =
    let e : start + 1 + length xs ≡ start + suc (length xs) = omega arith in
    put_first (y == l) start (places_from l (start + 1) xs) (places_from l (start + 1) (xs ++ x ∷ [])) _ (last_place l (start + 1) xs x ∙ ap (λ s. places_from l (start + 1) xs ++ cond (x == l) (s ∷ []) []) e)

one_place : (b : Bool) (stand : Stand) → map place_of (cond b (stand ∷ []) []) ≡ cond b (place_of stand ∷ []) []
one_place true stand = refl
one_place false stand = refl

-- the stand of one more number is put at the end
pub stand_added : (numbers : List ℕ) (stands : List Stand) (place d l : ℕ) → place < length numbers → map place_of (stands_of l stands) ≡ places_of l (take place numbers) → map place_of (stands_of l (stands ++ record { number = get_or numbers place d; place = place } ∷ [])) ≡ places_of l (take (place + 1) numbers)
stand_added numbers stands place d l below so_far =
    let new : Stand = record { number = get_or numbers place d; place = place } in
    let long : 0 + length (take place numbers) ≡ place = omega (arith, length-take-le place numbers (omega arith)) in
    ap (map place_of) (filter-append (λ stand. number_of stand == l) stands (new ∷ [])) ∙ map-append place_of (stands_of l stands) (stands_of l (new ∷ [])) ∙ ap (λ ps. ps ++ map place_of (stands_of l (new ∷ []))) so_far ∙ ap (λ ps. places_of l (take place numbers) ++ ps) (one_place (get_or numbers place d == l) new) ∙ sym (ap (places_of l) (take_more numbers place d below) ∙ last_place l 0 (take place numbers) (get_or numbers place d) ∙ ap (λ n. places_of l (take place numbers) ++ cond (get_or numbers place d == l) (n ∷ []) []) long)

is_less : (p q : Bool) → is_lt (cond p Less (cond q Equal Greater)) ≡ p
is_less true q = refl
is_less false true = refl
is_less false false = refl

-- numbers that tie are equal
ties_test : (a b : ℕ) → (not (is_lt (nat_cmp a b)) && not (is_lt (nat_cmp b a))) ≡ (b == a)
ties_test a b =
    let both : (not (ltb a b) && not (ltb b a)) ≡ (b == a) = grind (arith, nat_tests) in
    (λ j. not (is_less (ltb a b) (a == b) j) && not (is_less (ltb b a) (b == a) j)) ∙ both

-- a stable sort by number makes the index
pub sorted_index : (numbers : List ℕ) (before after : List Stand) → ((l : ℕ) → map place_of (stands_of l before) ≡ places_of l numbers) → IsNonDecreasingBy number_of after → IsStableByKey number_of nat_cmp before after → IsIndexOf numbers after
sorted_index numbers before after places rises stable =
    record {
      rises = rises;
      places = λ l.
          let agree = λ (stand : Stand). ties_test l (number_of stand) in
          ap (map place_of) (sym (filter_agree _ (λ stand. number_of stand == l) agree after) ∙ stable (record { number = l; place = 0 }) ∙ filter_agree _ (λ stand. number_of stand == l) agree before) ∙ places l;
    }
