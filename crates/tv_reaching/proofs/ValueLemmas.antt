-- values of variables after a case
use Rattle.std.proofs.Common.{◌≡◌, ℕ, ◌+◌, ◌-◌, ◌<◌, ◌≤◌, ◌∙◌, List, [], ◌∷◌, ◌++◌, length, map, take, drop, get_or, All, ℤ, pos, ◌+ℤ◌, ◌*ℤ◌, sym, ap, subst, arith}
use Rattle.std.proofs.lemmas.List.Elements.{All-get_or}
use Rattle.tv_linear.specs.Linear.{IsWithin, dot}
use Rattle.tv_linear.specs.Known.{term_value}
use Rattle.tv_linear.specs.Terms.{update_of, terms_after}
use Rattle.tv_linear.specs.declared.region.Update.{Update}
use Rattle.tv_linear.proofs.PlainLists.{length-table}
use Rattle.tv_linear.proofs.ListLaws.{get_or-table}
use Rattle.tv_cases.proofs.BeforeValue.{length-terms}
use Rattle.tv_reaching.specs.FoundRuns.{IsWideAt}
use Rattle.std.proofs.Math.Seq.{take-length}
use Rattle.std.proofs.lemmas.List.{get_or-map}

-- ---- lists without their first item
abbrev pub rest_of : {A : Type 0} → List A → List A
rest_of xs = take (length xs - 1) (drop 1 xs)

pub rest_is : {A : Type 0} (x : A) (xs : List A) → rest_of (x ∷ xs) ≡ xs
rest_is x xs =
    let k : length (x ∷ xs) - 1 ≡ length xs = omega arith in
    ap (λ j. take j xs) k ∙ take-length xs

pub length-rest : {A : Type 0} (xs : List A) → 1 ≤ length xs → length (rest_of xs) + 1 ≡ length xs
length-rest [] l = absurd (omega (arith, l))
length-rest (x ∷ xs) l = (let e = ap length (rest_is x xs) in omega (arith, e))

-- ---- sums of products
pub dot_first : (cs xs : List ℤ) (c x : ℤ) → 1 ≤ length cs → 1 ≤ length xs → c ≡ get_or cs 0 (pos 0) → x ≡ get_or xs 0 (pos 0) → dot cs xs ≡ (c *ℤ x) +ℤ dot (rest_of cs) (rest_of xs)
dot_first [] xs c x h k e f = absurd (omega (arith, h))
dot_first (d ∷ cs) [] c x h k e f = absurd (omega (arith, k))
dot_first (d ∷ cs) (y ∷ xs) c x h k e f = (λ i. (sym e i *ℤ sym f i) +ℤ dot (sym (rest_is d cs) i) (sym (rest_is y xs) i))

-- ---- terms one by one

value_at : (point : List ℤ) (us : List Update) (n v : ℕ) → v < n → get_or (map (term_value point) (terms_after n us)) v (pos 0) ≡ term_value point (update_of us v)
value_at point us n v h =
    let l = length-table n (update_of us) in
    get_or-map (term_value point) (terms_after n us) v (update_of us v) (pos 0) (omega (arith, h, l))
    ∙ ap (term_value point) (get_or-table n (update_of us) v (update_of us v) h)

-- the first value that is too wide
pub wide_here : (point : List ℤ) (us : List Update) (n v : ℕ) (items : List ℤ) → v < n → items ≡ map (term_value point) (terms_after v us) → All (IsWithin 62) items → ¬ IsWithin 62 (term_value point (update_of us v)) → IsWideAt v (map (term_value point) (terms_after n us))
wide_here point us n v items h same narrow k = record {
  inside = (let l = length-terms (term_value point) us n in omega (arith, h, l));
  wide = subst (λ z. ¬ IsWithin 62 z) (sym (value_at point us n v h)) k;
  earlier = λ i j. subst (IsWithin 62)
      (ap (λ zs. get_or zs i (pos 0)) same ∙ value_at point us v i j ∙ sym (value_at point us n i (omega (arith, h, j))))
      (All-get_or (IsWithin 62) items i (pos 0) (let l = ap length same ∙ length-terms (term_value point) us v in omega (arith, j, l)) narrow);
}
