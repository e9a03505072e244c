-- Rows over the columns of a case, and rows that others imply.
use Rattle.std.proofs.Common.{◌≡◌, inl, inr, ℕ, ◌+◌, ◌-◌, List, [], ◌∷◌, ◌++◌, All, arith, sym, ap, ◌∙◌, subst, ℤ}
use Rattle.std.specs.List.{Contains}
use Rattle.std.proofs.lemmas.Int.{ints}
use Rattle.std.proofs.lemmas.List.Elements.{All-head, All-push, Contains-append_left, Contains-append_right, Contains-append_cases}
use Rattle.tv_linear.specs.Linear.{Linear, columns, dot, IsMet}
use Rattle.tv_linear.specs.declared.region.Poly.{Poly}
use Rattle.tv_linear.proofs.ListLaws.{all_front, all_back}
use Rattle.std.specs.Prelude.{Result, Ok, Err, IfOk}
use Rattle.tv_farkas.specs.declared.fault.CoverFault.{CoverFault}
use Rattle.tv_cover.specs.declared.covered.Covered.{Covered}
use Rattle.tv_cover.specs.declared.covered.Covered.TheVariants.{Tree, Hole}
use Rattle.tv_cover.specs.Covering.{IsCovered, HasNoHole}
use Rattle.tv_invariant.specs.Seen.{IsAsked}
use Rattle.tv_cover.specs.Targets.{IsInTarget, IsOutside, lists_of}
use Rattle.tv_invariant.specs.Rows.{Implies}
use Rattle.tv_invariant.proofs.ListLemmas.{in_one}

-- ---- rows that others imply

pub implied : (strong weak : Linear) → Implies strong weak → (xs : List ℤ) → IsMet xs strong → IsMet xs weak
implied strong weak h xs m =
    let e : dot strong.coefficients xs ≡ dot weak.coefficients xs = ap (λ cs. dot cs xs) h.same in
    let k = h.more in
    omega (arith, ints, e, k, m)

-- ---- one target of one row

pub one_list : (targets new polys : List Poly) (p : Poly) (old : List Linear) (r : Linear) → targets ≡ new → new ≡ polys ++ p ∷ [] → polys ≡ [] → p.rows.items ≡ old ++ r ∷ [] → old ≡ [] → lists_of targets ≡ (r ∷ []) ∷ []
one_list targets new polys p old r e f g h k =
    ap lists_of (e ∙ f ∙ ap (λ ps. ps ++ p ∷ []) g) ∙ ap (λ rs. rs ∷ []) (h ∙ ap (λ rs. rs ++ r ∷ []) k)

pub in_only : (r : Linear) (xs : List ℤ) (lists : List (List Linear)) → lists ≡ (r ∷ []) ∷ [] → IsInTarget lists xs → IsMet xs r
in_only r xs lists e h =
    All-head (IsMet xs) r [] (subst (All (IsMet xs)) (sym (in_one (r ∷ []) h.rows (subst (λ ls. Contains ls h.rows) e h.target))) h.met)

pub out_of_only : (r : Linear) (xs : List ℤ) (lists : List (List Linear)) → lists ≡ (r ∷ []) ∷ [] → All (IsOutside xs) lists → IsMet xs r → ⊥
out_of_only r xs lists e h m =
    let o = All-head (IsOutside xs) (r ∷ []) [] (subst (All (IsOutside xs)) e h) in
    o.2 (subst (IsMet xs) (in_one r o.0 o.1) m)

pub asked_of : (n : ℕ) (rows : List Linear) (r : Linear) (lists : List (List Linear)) → lists ≡ (r ∷ []) ∷ [] → (result : Result Covered CoverFault) → IfOk result (IsCovered n lists rows) → IfOk result (HasNoHole n lists rows) → IfOk result (IsAsked n rows r)
asked_of n rows r lists e (Ok (Tree cover)) h none = λ xs w. in_only r xs lists e (none xs w)
asked_of n rows r lists e (Ok (Hole point)) h none = (h.point, out_of_only r point.items lists e h.outside)
asked_of n rows r lists e (Err fault) h none = tt

-- ---- the last row of a list is looked at

module _ (all rest kept : List Linear) (row : Linear) where
  pub rest_from : ((r : Linear) → Contains (rest ++ row ∷ []) r → Contains all r) → (r : Linear) → Contains rest r → Contains all r
  rest_from h r c = h r (Contains-append_left rest (row ∷ []) r c)

  pub kept_from : ((r : Linear) → Contains (rest ++ row ∷ []) r → Contains all r) → ((r : Linear) → Contains kept r → Contains all r) → (r : Linear) → Contains (kept ++ row ∷ []) r → Contains all r
  kept_from h g r c = elim (Contains-append_cases kept (row ∷ []) r c) [ inl k ↦ g r k | inr o ↦ h r (Contains-append_right rest (row ∷ []) r o) ]

  pub kept_met : (xs : List ℤ) → (All (IsMet xs) (rest ++ row ∷ []) → All (IsMet xs) kept → All (IsMet xs) all) → All (IsMet xs) rest → All (IsMet xs) (kept ++ row ∷ []) → All (IsMet xs) all
  kept_met xs h rested more = h (All-push (IsMet xs) rest row rested (All-head (IsMet xs) row [] (all_back (IsMet xs) kept (row ∷ []) more))) (all_front (IsMet xs) kept (row ∷ []) more)

  pub dropped_met : (xs : List ℤ) → (All (IsMet xs) kept → IsMet xs row) → (All (IsMet xs) (rest ++ row ∷ []) → All (IsMet xs) kept → All (IsMet xs) all) → All (IsMet xs) rest → All (IsMet xs) kept → All (IsMet xs) all
  dropped_met xs implied h rested had = h (All-push (IsMet xs) rest row rested (implied had)) had
