-- The rows of the tables.
use Rattle.std.proofs.Common.{◌≡◌, ℕ, zero, suc, ◌+◌, ◌-◌, ◌<◌, ◌≤◌, List, [], ◌∷◌, length, map, set, get_or, All, arith, refl, sym, ap, ◌∙◌, subst, None, Some, Bool, true, false, ◌&&◌, cond, ◌==◌, ℤ, pos, negsuc, neg_ℤ, ◌+ℤ◌}
use Rattle.std.specs.List.{slice_get}
use Rattle.std.specs.Prelude.{IfOk, Result, Ok, Err}
use Rattle.std.proofs.lemmas.Int.{ints}
use Rattle.std.proofs.lemmas.Bool.Decides.{nat_tests}
use Rattle.std.proofs.lemmas.List.{get_or-map, length-map}
use Rattle.std.proofs.lemmas.List.Elements.{All-head, All-tail}
use Rattle.std.proofs.lemmas.Bool.{ne_eqb}
use Rattle.tv_linear.specs.Linear.{Linear, columns}
use Rattle.tv_linear.specs.Arithmetic.{zeros, unit, plus_each}
use Rattle.tv_linear.specs.Terms.{table}
use Rattle.tv_linear.proofs.PlainLists.{length-table}
use Rattle.tv_linear.proofs.ListLaws.{get_or-table}
use Rattle.tv_cases.specs.LinearCases.{LinearCase, CaseSystem, AreCases, IsCase}
use Rattle.tv_cases.specs.declared.case.Case.{Case}
use Rattle.tv_cases.specs.Views.{case_view, case_views}
use Rattle.tv_propose.specs.GuardLists.{has_no_draw, has_narrow_denial, over_variables, guard_at, denial_at, guard_rows, guard_table}
use Rattle.tv_propose.specs.DifferenceLists.{difference, difference_rows, difference_table}
use Rattle.tv_propose.specs.BoundLists.{upper_bound, lower_bound, bound_table}

-- ---- guards

pub length-views : (cs : List Case) → length (case_views cs) ≡ length cs
length-views [] = refl
length-views (c ∷ cs) = ap suc (length-views cs)

group_of_view : (n : ℕ) (cs : List Case) (g : ℕ) (x : Case) → g < length cs → x ≡ get_or cs g x → get_or (map (λ c. map (guard_rows n) c.guards) (case_views cs)) g [] ≡ map (guard_rows n) x.guards.rows.items
group_of_view n [] g x l e = absurd (omega (arith, l))
group_of_view n (c ∷ cs) zero x l e = ap (λ y. map (guard_rows n) y.guards.rows.items) (sym e)
group_of_view n (c ∷ cs) (suc g) x l e = group_of_view n cs g x (omega (arith, l)) e

case_of_view : (P : LinearCase → Type 0) (cs : List Case) (g : ℕ) (x : Case) → All P (case_views cs) → g < length cs → x ≡ get_or cs g x → P (case_view x)
case_of_view P [] g x h l e = absurd (omega (arith, l))
case_of_view P (c ∷ cs) zero x h l e = subst (λ y. P (case_view y)) (sym e) (All-head P (case_view c) (case_views cs) h)
case_of_view P (c ∷ cs) (suc g) x h l e = case_of_view P cs g x (All-tail P (case_view c) (case_views cs) h) (omega (arith, l)) e

pub guard_place : (n : ℕ) (rows : List Linear) (p : ℕ) (r : Linear) → p < length rows → r ≡ get_or rows p r → get_or (map (guard_rows n) rows) p [] ≡ guard_rows n r
guard_place n rows p r l e = get_or-map (guard_rows n) rows p r [] l ∙ ap (guard_rows n) (sym e)

module _ (about : CaseSystem) (cs : List Case) (is : case_views cs ≡ about.cases) where
  -- how many groups there are
  pub guard_groups : length cs ≡ length (guard_table about)
  guard_groups = sym (length-views cs) ∙ (ap length is ∙ counted about.cases) where
    counted : (ds : List LinearCase) → length ds ≡ length (map (λ c. map (guard_rows about.variables) c.guards) ds)
    counted [] = refl
    counted (d ∷ ds) = ap suc (counted ds)

  pub case_within : (i : ℕ) → i < length cs → i < length about.cases
  case_within i l = subst (λ n. i < n) (sym (length-views cs) ∙ ap length is) l

  pub case_here : (i : ℕ) (x : Case) → i < length cs → x ≡ get_or cs i x → case_view x ≡ get_or about.cases i (case_view x)
  case_here i x l e = view_at cs i x l e ∙ ap (λ ds. get_or ds i (case_view x)) is where
    view_at : (ds : List Case) (k : ℕ) (y : Case) → k < length ds → y ≡ get_or ds k y → case_view y ≡ get_or (case_views ds) k (case_view y)
    view_at [] k y m h = absurd (omega (arith, m))
    view_at (d ∷ ds) zero y m h = ap case_view h
    view_at (d ∷ ds) (suc k) y m h = view_at ds k y (omega (arith, m)) h

  module _ (g : ℕ) (x : Case) (here : x ≡ get_or cs g x) where
    pub guard_group : g < length cs → get_or (guard_table about) g [] ≡ map (guard_rows about.variables) x.guards.rows.items
    guard_group l = sym (ap (λ ds. get_or (map (λ c. map (guard_rows about.variables) c.guards) ds) g []) is) ∙ group_of_view about.variables cs g x l here

    -- a group that is there has a place for each guard
    pub guard_within : g < length (guard_table about) → g < length cs
    guard_within l = subst (λ n. g < n) (sym guard_groups) l

    pub guard_places : g < length cs → length (get_or (guard_table about) g []) ≡ length x.guards.rows.items
    guard_places l = ap length (guard_group l) ∙ length-map x.guards.rows.items (guard_rows about.variables)

    -- the rows at a place
    pub guard_there : g < length cs → (p : ℕ) (r : Linear) (k : ℕ) → p < length x.guards.rows.items → r ≡ get_or x.guards.rows.items p r → slice_get (get_or (get_or (guard_table about) g []) p []) k ≡ slice_get (guard_rows about.variables r) k
    guard_there l p r k m e =
        ap (λ xs. slice_get (get_or xs p []) k) (guard_group l)
        ∙ ap (λ xs. slice_get xs k) (guard_place about.variables x.guards.rows.items p r m e)

    -- a guard has a column for each variable
    pub guard_wide : AreCases about → g < length cs → (p : ℕ) (r : Linear) → p < length x.guards.rows.items → r ≡ get_or x.guards.rows.items p r → about.variables ≤ columns r
    guard_wide are l p r m e =
        let case : IsCase about.variables about.locations (case_view x) = case_of_view (IsCase about.variables about.locations) cs g x (subst (All (IsCase about.variables about.locations)) (sym is) are.cases) l here in
        let wide : columns r ≡ about.variables + x.draws = subst (λ q. columns q ≡ about.variables + x.draws) (sym e) (case.guards p r m) in
        omega (arith, wide)

first_of : (b d : Bool) (x y : Linear) → slice_get (cond b (x ∷ cond d (y ∷ []) []) []) 0 ≡ cond b (Some x) None
first_of true d x y = refl
first_of false d x y = refl

second_of : (b d : Bool) (x y : Linear) → slice_get (cond b (x ∷ cond d (y ∷ []) []) []) 1 ≡ cond (b && d) (Some y) None
second_of true true x y = refl
second_of true false x y = refl
second_of false d x y = refl

none_of : (b d : Bool) (x y : Linear) (k : ℕ) → slice_get (cond b (x ∷ cond d (y ∷ []) []) []) (suc (suc k)) ≡ None
none_of true true x y k = refl
none_of true false x y k = refl
none_of false d x y k = refl

pub first_row : (n : ℕ) (r : Linear) → slice_get (guard_rows n r) 0 ≡ guard_at n r
first_row n r = first_of (has_no_draw n r) (has_narrow_denial r) (over_variables n r) _

pub second_row : (n : ℕ) (r : Linear) → slice_get (guard_rows n r) 1 ≡ denial_at n r
second_row n r = second_of (has_no_draw n r) (has_narrow_denial r) (over_variables n r) _

pub no_row : (n : ℕ) (r : Linear) (k : ℕ) → 2 ≤ k → slice_get (guard_rows n r) k ≡ None
no_row n r zero l = absurd (omega (arith, l))
no_row n r (suc zero) l = absurd (omega (arith, l))
no_row n r (suc (suc k)) l = none_of (has_no_draw n r) (has_narrow_denial r) (over_variables n r) _ k

-- ---- differences

pub difference_groups : (about : CaseSystem) → length (difference_table about) ≡ about.variables
difference_groups about = length-table about.variables (λ x. table about.variables (λ y. difference_rows about.variables x y))

pub difference_places : (about : CaseSystem) (g : ℕ) → g < about.variables → length (get_or (difference_table about) g []) ≡ about.variables
difference_places about g l =
    ap length (get_or-table about.variables (λ x. table about.variables (λ y. difference_rows about.variables x y)) g [] l)
    ∙ length-table about.variables (λ y. difference_rows about.variables g y)

pub difference_place : (about : CaseSystem) (g p : ℕ) → g < about.variables → p < about.variables → get_or (get_or (difference_table about) g []) p [] ≡ difference_rows about.variables g p
difference_place about g p l m =
    ap (λ xs. get_or xs p []) (get_or-table about.variables (λ x. table about.variables (λ y. difference_rows about.variables x y)) g [] l)
    ∙ get_or-table about.variables (λ y. difference_rows about.variables g y) p [] m

same_none : (b : Bool) (xs : List Linear) (k : ℕ) → b ≡ true → slice_get (cond b [] xs) k ≡ None
same_none true xs k e = refl
same_none false xs k e = absurd cc

pub no_difference : (n g p k : ℕ) → g ≡ p → slice_get (difference_rows n g p) k ≡ None
no_difference n g p k e = same_none (g == p) _ k (test e) where
  test : g ≡ p → (g == p) ≡ true
  test h = grind (arith, nat_tests)

past_three : (b : Bool) (x y z : Linear) (k : ℕ) → 2 < k → slice_get (cond b [] (x ∷ y ∷ z ∷ [])) k ≡ None
past_three true x y z k l = refl
past_three false x y z zero l = absurd (omega (arith, l))
past_three false x y z (suc zero) l = absurd (omega (arith, l))
past_three false x y z (suc (suc zero)) l = absurd (omega (arith, l))
past_three false x y z (suc (suc (suc k))) l = refl

pub no_more_differences : (n g p k : ℕ) → 2 < k → slice_get (difference_rows n g p) k ≡ None
no_more_differences n g p k l = past_three (g == p) _ _ _ k l

one_of : (f : ℤ → Linear) (b : Bool) (k : ℕ) (z : ℤ) → b ≡ false → k ≤ 2 → z +ℤ pos 1 ≡ pos k → slice_get (cond b [] (map f (negsuc 0 ∷ pos 0 ∷ pos 1 ∷ []))) k ≡ Some (f z)
one_of f true k z e l h = absurd cc
one_of f false zero z e l h = ap (λ y. Some (f y)) (let g : negsuc 0 ≡ z = omega (arith, ints, h) in g)
one_of f false (suc zero) z e l h = ap (λ y. Some (f y)) (let g : pos 0 ≡ z = omega (arith, ints, h) in g)
one_of f false (suc (suc zero)) z e l h = ap (λ y. Some (f y)) (let g : pos 1 ≡ z = omega (arith, ints, h) in g)
one_of f false (suc (suc (suc k))) z e l h = absurd (omega (arith, l))

one_difference : (n g p k : ℕ) (z : ℤ) → (g ≡ p → ⊥) → k ≤ 2 → z +ℤ pos 1 ≡ pos k → slice_get (difference_rows n g p) k ≡ Some (difference n g p z)
one_difference n g p k z d l h = one_of (difference n g p) (g == p) k z (ne_eqb g p d) l h

pub difference_there : (about : CaseSystem) (g p k n : ℕ) (row : Linear) (z : ℤ) → row ≡ difference n g p z → z +ℤ pos 1 ≡ pos k → g < about.variables → p < about.variables → n ≡ about.variables → (g ≡ p → ⊥) → k ≤ 2 → Some row ≡ slice_get (get_or (get_or (difference_table about) g []) p []) k
difference_there about g p k n row z e h l m v d i =
    ap Some (e ∙ ap (λ j. difference j g p z) v)
    ∙ sym (ap (λ xs. slice_get xs k) (difference_place about g p l m) ∙ one_difference about.variables g p k z d i h)

-- ---- the row of a difference

set_zeros : (n y : ℕ) → y < n → set (zeros n) y (negsuc 0) ≡ plus_each (zeros n) (map neg_ℤ (unit n y))
set_zeros zero y l = absurd (omega (arith, l))
set_zeros (suc n) zero l = ap (λ zs. negsuc 0 ∷ zs) (all_zero n) where
  all_zero : (m : ℕ) → zeros m ≡ plus_each (zeros m) (map neg_ℤ (zeros m))
  all_zero zero = refl
  all_zero (suc m) = ap (λ zs. pos 0 ∷ zs) (all_zero m)
set_zeros (suc n) (suc y) l = ap (λ zs. pos 0 ∷ zs) (set_zeros n y (omega (arith, l)))

pub set_unit : (n x y : ℕ) → x < n → y < n → (x ≡ y → ⊥) → set (unit n x) y (negsuc 0) ≡ plus_each (unit n x) (map neg_ℤ (unit n y))
set_unit zero x y l m d = absurd (omega (arith, l))
set_unit (suc n) zero zero l m d = absurd (d refl)
set_unit (suc n) zero (suc y) l m d = ap (λ zs. pos 1 ∷ zs) (set_zeros n y (omega (arith, m)))
set_unit (suc n) (suc x) zero l m d = ap (λ zs. negsuc 0 ∷ zs) (kept n x) where
  plus_zeros : (xs : List ℤ) → xs ≡ plus_each xs (map neg_ℤ (zeros (length xs)))
  plus_zeros [] = refl
  plus_zeros (z ∷ zs) = (λ i. (let g : z ≡ z +ℤ pos 0 = omega (arith, ints) in g) i ∷ plus_zeros zs i)

  long : (k j : ℕ) → length (unit k j) ≡ k
  long zero j = refl
  long (suc k) zero = ap suc (zeros_long k) where
    zeros_long : (i : ℕ) → length (zeros i) ≡ i
    zeros_long zero = refl
    zeros_long (suc i) = ap suc (zeros_long i)
  long (suc k) (suc j) = ap suc (long k j)

  kept : (k j : ℕ) → unit k j ≡ plus_each (unit k j) (map neg_ℤ (zeros k))
  kept k j = plus_zeros (unit k j) ∙ ap (λ i. plus_each (unit k j) (map neg_ℤ (zeros i))) (long k j)
set_unit (suc n) (suc x) (suc y) l m d = ap (λ zs. pos 0 ∷ zs) (set_unit n x y (omega (arith, l)) (omega (arith, m)) (λ e. d (ap suc e)))

-- ---- bounds

pub bound_groups : (about : CaseSystem) (numbers : List ℤ) → length (bound_table about numbers) ≡ about.variables
bound_groups about numbers = length-table about.variables (λ x. map (λ c. upper_bound about.variables x c ∷ lower_bound about.variables x c ∷ []) numbers)

bound_group : (about : CaseSystem) (numbers : List ℤ) (g : ℕ) → g < about.variables → get_or (bound_table about numbers) g [] ≡ map (λ c. upper_bound about.variables g c ∷ lower_bound about.variables g c ∷ []) numbers
bound_group about numbers g l = get_or-table about.variables (λ x. map (λ c. upper_bound about.variables x c ∷ lower_bound about.variables x c ∷ []) numbers) g [] l

pub bound_places : (about : CaseSystem) (numbers : List ℤ) (g : ℕ) → g < about.variables → length (get_or (bound_table about numbers) g []) ≡ length numbers
bound_places about numbers g l = ap length (bound_group about numbers g l) ∙ length-map numbers (λ c. upper_bound about.variables g c ∷ lower_bound about.variables g c ∷ [])

bound_place : (about : CaseSystem) (numbers : List ℤ) (g p : ℕ) (z : ℤ) → g < about.variables → p < length numbers → z ≡ get_or numbers p z → get_or (get_or (bound_table about numbers) g []) p [] ≡ upper_bound about.variables g z ∷ lower_bound about.variables g z ∷ []
bound_place about numbers g p z l m e =
    ap (λ xs. get_or xs p []) (bound_group about numbers g l)
    ∙ get_or-map (λ c. upper_bound about.variables g c ∷ lower_bound about.variables g c ∷ []) numbers p z [] m
    ∙ ap (λ c. upper_bound about.variables g c ∷ lower_bound about.variables g c ∷ []) (sym e)

module _ (about : CaseSystem) (numbers : List ℤ) (g p k : ℕ) (z : ℤ) (l : g < about.variables) (m : p < length numbers) (e : z ≡ get_or numbers p z) where
  bound_at : slice_get (get_or (get_or (bound_table about numbers) g []) p []) k ≡ slice_get (upper_bound about.variables g z ∷ lower_bound about.variables g z ∷ []) k
  bound_at = ap (λ xs. slice_get xs k) (bound_place about numbers g p z l m e)

  pub upper_there : (row : Linear) (n : ℕ) → n ≡ about.variables → k ≡ 0 → row ≡ upper_bound n g z → Some row ≡ slice_get (get_or (get_or (bound_table about numbers) g []) p []) k
  upper_there row n v is r =
      ap Some (r ∙ ap (λ i. upper_bound i g z) v)
      ∙ ap (λ i. slice_get (upper_bound about.variables g z ∷ lower_bound about.variables g z ∷ []) i) (sym is) ∙ sym bound_at

  pub lower_there : (row : Linear) (n : ℕ) → n ≡ about.variables → k ≡ 1 → row ≡ lower_bound n g z → Some row ≡ slice_get (get_or (get_or (bound_table about numbers) g []) p []) k
  lower_there row n v is r =
      ap Some (r ∙ ap (λ i. lower_bound i g z) v)
      ∙ ap (λ i. slice_get (upper_bound about.variables g z ∷ lower_bound about.variables g z ∷ []) i) (sym is) ∙ sym bound_at

  pub no_bound_there : 2 ≤ k → None ≡ slice_get (get_or (get_or (bound_table about numbers) g []) p []) k
  no_bound_there i = sym (bound_at ∙ past k i) where
    past : (j : ℕ) → 2 ≤ j → slice_get (upper_bound about.variables g z ∷ lower_bound about.variables g z ∷ []) j ≡ None
    past zero h = absurd (omega (arith, h))
    past (suc zero) h = absurd (omega (arith, h))
    past (suc (suc j)) h = refl

pub if_ok : {A E : Type 0} (P Q : A → Type 0) (r : Result A E) → ((x : A) → P x → Q x) → IfOk r P → IfOk r Q
if_ok P Q (Ok x) f h = f x h
if_ok P Q (Err e) f h = tt
