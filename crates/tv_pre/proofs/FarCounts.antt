-- At a location from which no case leads, a property counts no more than at another one.
use Rattle.std.proofs.Common.{◌≡◌, ℕ, zero, suc, ◌+◌, ◌*◌, ◌<◌, ◌≤◌, List, [], ◌∷◌, map, length, refl, sym, subst, arith, Bool, true, false, cond}
use Rattle.std.specs.Prelude.{All, max, sum, ◌==◌}
use Rattle.std.proofs.Math.Nat.{le-max_left, le-max_right, max-le, le_refl}
use Rattle.std.proofs.lemmas.Bool.Decides.{nat_tests}
use Rattle.std.proofs.lemmas.List.Elements.{All-head, All-tail}
use Rattle.tv_formula.specs.declared.tree.Path.{Path}
use Rattle.tv_formula.specs.declared.tree.Path.TheVariants.{Every, Any}
use Rattle.tv_formula.specs.declared.tree.Shape.{Shape}
use Rattle.tv_formula.specs.declared.tree.Shape.TheVariants.{Until, Weak, Release, Strong}
use Rattle.tv_formula.specs.Properties.{Property, truth, compare, at, term, negated, all_of, some_of, next, fix, Properties, none, more}
use Rattle.tv_cases.specs.LinearCases.{LinearCase, IsCase, from_of, leaving}
use Rattle.tv_known.specs.Sizes.{product, some_count, all_count, stop_count, next_count, going_count, staying_count, growing_count, shrinking_count, round_count, greatest_up_to, fix_count, comparison_count, term_count, no_term_count, negated_count, count, product_count, sum_count, greatest_of_negated, greatest_count, greatest_counts}
use Rattle.tv_rounds.proofs.CountLemmas.{all_one, some_one}
use Rattle.tv_pre.proofs.SizedLemmas.{all_of_none, plus}
use Rattle.tv_known.proofs.SizeLemmas.{trans}
use Rattle.std.proofs.lemmas.Nat.{mul-le}

greater : (a b c d : ℕ) → a ≤ c → b ≤ d → max a b ≤ max c d
greater a b c d h k = max-le (trans a c (max c d) h (le-max_left c d)) (trans b d (max c d) k (le-max_right c d))

-- past the last location no case leads on
pub none_leaving : (n m l : ℕ) → m ≤ l → (cases : List LinearCase) → All (IsCase n m) cases → leaving l cases ≡ []
none_leaving n m l far [] all = refl
none_leaving n m l far (c ∷ cs) all = by_test (from_of c == l) (elsewhere (from_of c) (All-head (IsCase n m) c cs all).leaves) (none_leaving n m l far cs (All-tail (IsCase n m) c cs all)) where
  elsewhere : (k : ℕ) → k < m → (k == l) ≡ false
  elsewhere k h = grind (arith, nat_tests, far)

  by_test : (b : Bool) → b ≡ false → leaving l cs ≡ [] → cond b (c ∷ leaving l cs) (leaving l cs) ≡ []
  by_test true e h = absurd cc
  by_test false e h = h

module _ (cases : List LinearCase) (l k : ℕ) (far : leaving l cases ≡ []) where
  -- ---- steps
  far_some : (b c : ℕ → ℕ) → some_count cases b l ≤ some_count cases c k
  far_some b c = subst (λ cs. max 1 (sum (map (λ (x : LinearCase). b x.to) cs)) ≤ some_count cases c k) (sym far) (some_one cases c k)

  far_all : (b c : ℕ → ℕ) → all_count cases b l ≤ all_count cases c k
  far_all b c = subst (λ cs. product (map (λ (x : LinearCase). max 1 (length x.guards + b x.to)) cs) ≤ all_count cases c k) (sym far) (all_one cases c k)

  stop_one : (j : ℕ) → 1 ≤ stop_count cases j
  stop_one j = trans 1 (all_count cases (λ i. 0) j) (stop_count cases j) (all_one cases (λ i. 0) j) (all_of_none cases j)

  far_stop : stop_count cases l ≤ stop_count cases k
  far_stop = subst (λ cs. product (map (λ (x : LinearCase). max 1 (length x.guards)) cs) ≤ stop_count cases k) (sym far) (stop_one k)

  far_next : (path : Path) (b c : ℕ → ℕ) → next_count cases path b l ≤ next_count cases path c k
  far_next Every b c = far_all b c
  far_next Any b c = far_some b c

  far_going : (path : Path) (b c : ℕ → ℕ) → going_count cases path b l ≤ going_count cases path c k
  far_going Every b c = mul-le (some_count cases (λ j. 1) l) (all_count cases b l) (some_count cases (λ j. 1) k) (all_count cases c k) (far_some (λ j. 1) (λ j. 1)) (far_all b c)
  far_going Any b c = far_some b c

  far_staying : (path : Path) (b c : ℕ → ℕ) → staying_count cases path b l ≤ staying_count cases path c k
  far_staying Every b c = far_all b c
  far_staying Any b c = plus (some_count cases b l) (stop_count cases l) (some_count cases c k) (stop_count cases k) (far_some b c) far_stop

  -- ---- rounds
  module _ (path : Path) (f g : ℕ → ℕ) (first : f l ≤ f k) (second : g l ≤ g k) where
    far_growing : (j : ℕ) → growing_count cases path f g j l ≤ growing_count cases path f g j k
    far_growing zero = second
    far_growing (suc j) =
        let b = growing_count cases path f g j in
        plus (b l) (f l * going_count cases path b l) (b k) (f k * going_count cases path b k) (far_growing j)
        (mul-le (f l) (going_count cases path b l) (f k) (going_count cases path b k) first (far_going path b b))

    far_shrinking : (j : ℕ) → shrinking_count cases path f g j l ≤ shrinking_count cases path f g j k
    far_shrinking zero = plus (f l) (g l) (f k) (g k) first second
    far_shrinking (suc j) =
        let b = shrinking_count cases path f g j in
        plus (g l) (f l * staying_count cases path b l) (g k) (f k * staying_count cases path b k) second
        (mul-le (f l) (staying_count cases path b l) (f k) (staying_count cases path b k) first (far_staying path b b))

  far_round : (path : Path) (shape : Shape) (f g : ℕ → ℕ) → f l ≤ f k → g l ≤ g k → (j : ℕ) → round_count cases path shape f g j l ≤ round_count cases path shape f g j k
  far_round path Until f g a b j = far_growing path f g a b j
  far_round path Strong f g a b j = far_growing path g (λ x. f x * g x) b (mul-le (f l) (g l) (f k) (g k) a b) j
  far_round path Weak f g a b j = far_shrinking path f g a b j
  far_round path Release f g a b j = far_shrinking path g (λ x. f x * g x) b (mul-le (f l) (g l) (f k) (g k) a b) j

  greatest_more : (p q : ℕ → ℕ) → ((j : ℕ) → p j ≤ q j) → (n : ℕ) → greatest_up_to n p ≤ greatest_up_to n q
  greatest_more p q w zero = w 0
  greatest_more p q w (suc n) = greater (greatest_up_to n p) (p (suc n)) (greatest_up_to n q) (q (suc n)) (greatest_more p q w n) (w (suc n))

  -- ---- properties
  module _ (m : ℕ) where
    far_fix : (path : Path) (shape : Shape) (f g : ℕ → ℕ) → f l ≤ f k → g l ≤ g k → fix_count cases m path shape f g l ≤ fix_count cases m path shape f g k
    far_fix path shape f g a b = greatest_more (λ j. round_count cases path shape f g j l) (λ j. round_count cases path shape f g j k) (far_round path shape f g a b) m

    far_term : term_count cases m l ≤ term_count cases m k
    far_term = far_fix Every Until (λ j. 1) (next_count cases Every (λ j. 1)) (le_refl 1) (far_next Every (λ j. 1) (λ j. 1))

    far_no_term : no_term_count cases m l ≤ no_term_count cases m k
    far_no_term = far_fix Any Release (λ j. 1) (next_count cases Any (λ j. 1)) (le_refl 1) (far_next Any (λ j. 1) (λ j. 1))

    far_negated : (f : Property) → negated_count cases m f l ≤ negated_count cases m f k
    far_negated term = far_no_term
    far_negated (truth b) = le_refl 1
    far_negated (compare r a b) = le_refl 1
    far_negated (at j) = le_refl 1
    far_negated (negated f) = le_refl 1
    far_negated (all_of fs) = le_refl 1
    far_negated (some_of fs) = le_refl 1
    far_negated (next path f) = le_refl 1
    far_negated (fix path shape f g) = le_refl 1

    mutual
      far_count : (f : Property) → count cases m f l ≤ count cases m f k
      far_count (truth b) = le_refl 1
      far_count (compare r a b) = le_refl (comparison_count r)
      far_count (at j) = le_refl 1
      far_count term = far_term
      far_count (negated f) = far_negated f
      far_count (all_of fs) = far_product fs
      far_count (some_of fs) = far_sum fs
      far_count (next path f) = far_next path (λ j. count cases m f j) (λ j. count cases m f j)
      far_count (fix path shape f g) = far_fix path shape (λ j. count cases m f j) (λ j. count cases m g j) (far_count f) (far_count g)

      far_product : (fs : Properties) → product_count cases m fs l ≤ product_count cases m fs k
      far_product none = le_refl 1
      far_product (more f fs) = mul-le (count cases m f l) (product_count cases m fs l) (count cases m f k) (product_count cases m fs k) (far_count f) (far_product fs)

      far_sum : (fs : Properties) → sum_count cases m fs l ≤ sum_count cases m fs k
      far_sum none = le_refl 0
      far_sum (more f fs) = plus (count cases m f l) (sum_count cases m fs l) (count cases m f k) (sum_count cases m fs k) (far_count f) (far_sum fs)

    far_greatest_negated : (f : Property) → greatest_of_negated cases m f l ≤ greatest_of_negated cases m f k
    far_greatest_negated term = greater (no_term_count cases m l) (next_count cases Any (λ j. 1) l) (no_term_count cases m k) (next_count cases Any (λ j. 1) k) far_no_term (far_next Any (λ j. 1) (λ j. 1))
    far_greatest_negated (truth b) = le_refl 1
    far_greatest_negated (compare r a b) = le_refl 1
    far_greatest_negated (at j) = le_refl 1
    far_greatest_negated (negated f) = le_refl 1
    far_greatest_negated (all_of fs) = le_refl 1
    far_greatest_negated (some_of fs) = le_refl 1
    far_greatest_negated (next path f) = le_refl 1
    far_greatest_negated (fix path shape f g) = le_refl 1

    mutual
      pub far_greatest : (f : Property) → greatest_count cases m f l ≤ greatest_count cases m f k
      far_greatest (truth b) = le_refl 1
      far_greatest (compare r a b) = le_refl (comparison_count r)
      far_greatest (at j) = le_refl 1
      far_greatest term = greater (term_count cases m l) (next_count cases Every (λ j. 1) l) (term_count cases m k) (next_count cases Every (λ j. 1) k) far_term (far_next Every (λ j. 1) (λ j. 1))
      far_greatest (negated f) = far_greatest_negated f
      far_greatest (all_of fs) = greater (count cases m (all_of fs) l) (greatest_counts cases m fs l) (count cases m (all_of fs) k) (greatest_counts cases m fs k) (far_count (all_of fs)) (far_greatests fs)
      far_greatest (some_of fs) = greater (count cases m (some_of fs) l) (greatest_counts cases m fs l) (count cases m (some_of fs) k) (greatest_counts cases m fs k) (far_count (some_of fs)) (far_greatests fs)
      far_greatest (next path f) = greater (count cases m (next path f) l) (greatest_count cases m f l) (count cases m (next path f) k) (greatest_count cases m f k) (far_count (next path f)) (far_greatest f)
      far_greatest (fix path shape f g) =
          let a = greatest_count cases m f in
          let b = greatest_count cases m g in
          greater (count cases m (fix path shape f g) l) (max (a l) (b l)) (count cases m (fix path shape f g) k) (max (a k) (b k)) (far_count (fix path shape f g)) (greater (a l) (b l) (a k) (b k) (far_greatest f) (far_greatest g))

      far_greatests : (fs : Properties) → greatest_counts cases m fs l ≤ greatest_counts cases m fs k
      far_greatests none = le_refl 0
      far_greatests (more f fs) = greater (greatest_count cases m f l) (greatest_counts cases m fs l) (greatest_count cases m f k) (greatest_counts cases m fs k) (far_greatest f) (far_greatests fs)
