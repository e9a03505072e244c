-- Lists without those that lie inside of others.
use Rattle.std.proofs.Common.{◌≡◌, ◌∙◌, inl, inr, ℕ, ◌+◌, ◌≤◌, List, [], ◌∷◌, ◌++◌, length, refl, sym, ap, subst, arith, ℤ, Bool, true, false}
use Rattle.std.specs.Prelude.{◌||◌}
use Rattle.tv_linear.specs.Linear.{Linear}
use Rattle.tv_linear.specs.declared.region.Piece.{Piece}
use Rattle.tv_cases.specs.LinearCases.{LinearCase}
use Rattle.tv_region.specs.Met.{all_met, some_met, Has, InSome, AreApart}
use Rattle.tv_region.specs.Adding.{IsUnder, AreReduced, IsEach, IsProduct, IsUnion}
use Rattle.tv_region.specs.Inclusion.{LiesInSome, IsPruned}
use Rattle.tv_region.specs.Steps.{IsBeforeAny}
use Rattle.tv_region.proofs.MetLemmas.{has_push, has_left, has_right, apart_push, apart_front, some_met-push}
use Rattle.tv_region.proofs.AddLemmas.{in_some-has, none_reduced}
use Rattle.std.proofs.lemmas.List.{length_push}

-- ---- one by one
-- what is left and what is kept of all
pub record IsPruning (n : ℕ) (all left kept : List (List Linear)) : Type 0 where
  pub met : (xs : List ℤ) → length xs ≡ n → (some_met xs left || some_met xs kept) ≡ some_met xs all
  pub among_left : (list : List Linear) → Has left list → Has all list
  pub among_kept : (list : List Linear) → Has kept list → Has all list
  pub apart_left : AreApart IsUnder all → AreApart IsUnder left
  pub apart_kept : AreApart IsUnder all → AreApart IsUnder kept
  pub apart : AreApart IsUnder all → (first second : List Linear) → Has left first → Has kept second → (IsUnder first second → ⊥) × (IsUnder second first → ⊥)
  pub bounded : length left + length kept ≤ length all

or_dropped : (a l k : Bool) → (l ≡ true → k ≡ true) → (a || k) ≡ ((a || l) || k)
or_dropped true l k h = refl
or_dropped false true k h = h refl
or_dropped false false k h = refl

or_moved : (a l k : Bool) → (a || (k || l)) ≡ ((a || l) || k)
or_moved true l k = refl
or_moved false true true = refl
or_moved false true false = refl
or_moved false false true = refl
or_moved false false false = refl

module _ (n : ℕ) (all left rest kept : List (List Linear)) (list : List Linear) (e : left ≡ rest ++ list ∷ []) (h : IsPruning n all left kept) where
  in_left : (l : List Linear) → Has rest l → Has left l
  in_left l m = subst (λ ls. Has ls l) (sym e) (has_left rest (list ∷ []) l m)

  pub last_left : Has left list
  last_left = subst (λ ls. Has ls list) (sym e) (has_right rest (list ∷ []) list (inl refl))

  apart_rest : AreApart IsUnder all → AreApart IsUnder rest × ((l : List Linear) → Has rest l → (IsUnder l list → ⊥) × (IsUnder list l → ⊥))
  apart_rest o = apart_front IsUnder rest list (subst (AreApart IsUnder) e (h.apart_left o))

  pub pruning_dropped : LiesInSome n list kept → IsPruning n all rest kept
  pruning_dropped i = record {
    met = λ xs w. or_dropped (some_met xs rest) (all_met xs list) (some_met xs kept) (i xs w) ∙ ap (λ b. b || some_met xs kept) (sym (some_met-push xs rest list) ∙ ap (some_met xs) (sym e)) ∙ h.met xs w;
    among_left = λ l m. h.among_left l (in_left l m);
    among_kept = h.among_kept;
    apart_left = λ o. (apart_rest o).0;
    apart_kept = h.apart_kept;
    apart = λ o l k m i. h.apart o l k (in_left l m) i;
    bounded = (let d = length_push rest list in let g = ap (λ (ls : List (List Linear)). length ls) e in let f = h.bounded in omega (arith, d, g, f));
  }

  pub pruning_kept : (new : List (List Linear)) → new ≡ kept ++ list ∷ [] → IsPruning n all rest new
  pruning_kept new g = subst (λ ks. IsPruning n all rest ks) (sym g) record {
    met = λ xs w. ap (λ b. some_met xs rest || b) (some_met-push xs kept list) ∙ or_moved (some_met xs rest) (all_met xs list) (some_met xs kept) ∙ ap (λ b. b || some_met xs kept) (sym (some_met-push xs rest list) ∙ ap (some_met xs) (sym e)) ∙ h.met xs w;
    among_left = λ l m. h.among_left l (in_left l m);
    among_kept = λ l m. elim (has_push kept list l m) [ inl k ↦ h.among_kept l k | inr k ↦ subst (Has all) k (h.among_left list last_left) ];
    apart_left = λ o. (apart_rest o).0;
    apart_kept = λ o. apart_push IsUnder kept list (h.apart_kept o) (λ l m. (let w = h.apart o list l last_left m in (w.1, w.0)));
    apart = λ o l k m i. elim (has_push kept list k i) [ inl j ↦ h.apart o l k (in_left l m) j | inr j ↦ subst (λ x. (IsUnder l x → ⊥) × (IsUnder x l → ⊥)) j ((apart_rest o).1 l m) ];
    bounded = (let d = length_push rest list in let q = length_push kept list in let g = ap (λ (ls : List (List Linear)). length ls) e in let f = h.bounded in omega (arith, d, q, g, f));
  }

-- ---- what stays so
list_of : (ls : List (List Linear)) (r : Linear) → InSome ls r → (list : List Linear) × Has ls list × Has list r
list_of [] r h = absurd h
list_of (l ∷ ls) r (inl h) = (l, inl refl, h)
list_of (l ∷ ls) r (inr h) = (let w = list_of ls r h in (w.0, inr w.1, w.2))

module _ (n : ℕ) (old new : List (List Linear)) (p : IsPruned n old new) where
  row_stays : (r : Linear) → InSome new r → InSome old r
  row_stays r h = (let w = list_of new r h in in_some-has old w.0 r (p.among w.0 w.1) w.2)

  reduced_stays : AreReduced n old → AreReduced n new
  reduced_stays k = record { points = λ list m. k.points list (p.among list m); sparse = λ list m. k.sparse list (p.among list m); apart = p.apart k.apart }

  pub product_pruned : (first second : List (List Linear)) → IsProduct n first second old → IsProduct n first second new
  product_pruned first second h = record {
    met = λ xs e. p.met xs e ∙ h.met xs e;
    reduced = reduced_stays h.reduced;
    from = λ r m. h.from r (row_stays r m);
    bounded = (let a = p.bounded in let b = h.bounded in omega (arith, a, b));
  }

  pub union_pruned : (first second : List (List Linear)) → IsUnion n first second old → IsUnion n first second new
  union_pruned first second h = record {
    met = λ xs e. p.met xs e ∙ h.met xs e;
    reduced = reduced_stays h.reduced;
    from = λ r m. h.from r (row_stays r m);
    bounded = (let a = p.bounded in let b = h.bounded in omega (arith, a, b));
  }

  pub any_pruned : (l : ℕ) (cs : List LinearCase) (target : List Piece) → IsBeforeAny n l cs target old → IsBeforeAny n l cs target new
  any_pruned l cs target h = record {
    right = λ xs e m. h.right xs e (sym (p.met xs e) ∙ m);
    all = λ tame xs e s. p.met xs e ∙ h.all tame xs e s;
    reduced = reduced_stays h.reduced;
    from = λ r m. h.from r (row_stays r m);
    bounded = (let a = p.bounded in let b = h.bounded in omega (arith, a, b));
  }

-- lists that are added to none, and others after them
pub union_is : (n : ℕ) (first second kept new : List (List Linear)) → IsEach n [] [] first kept → IsEach n kept [] second new → IsUnion n first second new
union_is n first second kept new g h = record {
  met = λ xs e. h.met xs e ∙ (λ i. g.met xs e i || some_met xs second);
  reduced = h.reduced (g.reduced (none_reduced n));
  from = λ r m. elim (h.from r m) [
    | inl x ↦ elim (g.from r x) [ inl y ↦ absurd y | inr y ↦ elim y [ inl z ↦ absurd z | inr z ↦ inl z ] ]
    | inr x ↦ elim x [ inl z ↦ absurd z | inr z ↦ inr z ]
  ];
  bounded = (let a = g.bounded in let b = h.bounded in omega (arith, a, b));
}
