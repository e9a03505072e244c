-- How many rows are owed does not depend on what they become on the way.
use Rattle.std.proofs.Common.{◌≡◌, ℕ, zero, suc, Bool, true, false, List, [], ◌∷◌, ◌++◌, length, map, slice_get, Option, None, Some, refl, sym, ap, ◌∙◌, arith, length-append, cond}
use Rattle.std.specs.Borrow.{Bor}
use Rattle.std.specs.List.{flat_map}
use Rattle.std.specs.Option.{option_map}
use Rattle.std.proofs.lemmas.List.{length-map}
use Rattle.tv_linear.specs.Linear.{Linear}
use Rattle.tv_linear.specs.Known.{Known, given, as_given}
use Rattle.tv_linear.specs.Falls.{fall_rows, fall_rows_at}
use Rattle.tv_cert.specs.declared.node.Marked.{Marked}
use Rattle.tv_cert.specs.declared.targets.Targets.{Targets}
use Rattle.tv_cert.specs.declared.targets.Targets.TheVariants as targets
use Rattle.tv_cert.specs.NodeViews.{pieces_list}
use Rattle.tv_cert.specs.Obligations.{truth_targets}
use Rattle.tv_cert.specs.Pieces.{rows_of, ranks_of, goes, pieces_at}
use Rattle.tv_cert.specs.OwesViews.{falls_where}
use Rattle.tv_cert.specs.Shapes.{owed_count}
use Rattle.tv_cert.specs.Targets.{changed_lists, owed_into, target_rows, no_fall, fall_from}
use Rattle.tv_cert.specs.TargetViews.{counts_of, falls_past, owed_at}

one_more : {A B : Type 0} (x : A) (y : B) (o : Option (List A)) (u : Option (List B)) → option_map length o ≡ option_map length u → option_map length (option_map (λ xs. x ∷ xs) o) ≡ option_map length (option_map (λ ys. y ∷ ys) u)
one_more x y None None e = refl
one_more x y None (Some ys) e = absurd (let k : ⊥ = cc in k)
one_more x y (Some xs) None e = absurd (let k : ⊥ = cc in k)
one_more x y (Some xs) (Some ys) e = (let k : length xs ≡ length ys = cc in ap (λ n. Some (suc n)) k)

where_goes : (t : Bool) (o u w : Option (List Known)) → option_map length o ≡ option_map length u → option_map length (cond t o w) ≡ option_map length (cond t u w)
where_goes true o u w e = e
where_goes false o u w e = refl

joined_same : (xs ys : List Known) (o u : Option (List Known)) → length xs ≡ length ys → option_map length o ≡ option_map length u → option_map length (option_map (λ zs. xs ++ zs) o) ≡ option_map length (option_map (λ zs. ys ++ zs) u)
joined_same xs ys None None e k = refl
joined_same xs ys None (Some b) e k = absurd (let h : ⊥ = cc in h)
joined_same xs ys (Some a) None e k = absurd (let h : ⊥ = cc in h)
joined_same xs ys (Some a) (Some b) e k =
    let h : length a ≡ length b = cc in
    ap Some (let l = length-append xs a in let m = length-append ys b in omega (arith, l, m, e, h))

module _ (f g : Linear → Known) where
  fall_same_at : (old new : List Linear) (j : ℕ) → option_map length (fall_rows_at (as_given old) (map f new) j) ≡ option_map length (fall_rows_at (as_given old) (map g new) j)
  fall_same_at [] new j = refl
  fall_same_at (r ∷ old) [] j = refl
  fall_same_at (r ∷ old) (q ∷ new) zero = refl
  fall_same_at (r ∷ old) (q ∷ new) (suc j) = one_more _ _ _ _ (fall_same_at old new j)

  fall_same : (old new : List Linear) (j : ℕ) → option_map length (fall_rows (as_given old) (map f new) j) ≡ option_map length (fall_rows (as_given old) (map g new) j)
  fall_same old new zero = refl
  fall_same old new (suc j) = fall_same_at old new j

  ranks_same : (ranks : List Linear) (q : Marked) (j : ℕ) → option_map length (fall_from f ranks q j) ≡ option_map length (fall_from g ranks q j)
  ranks_same ranks q j = where_goes (goes q) _ _ (no_fall q j) (fall_same ranks (ranks_of q) j)

  target_same : (a b : Marked → ℕ → Option (List Known)) → ((q : Marked) (j : ℕ) → option_map length (a q j) ≡ option_map length (b q j)) → (q : Option Marked) (j : ℕ) → option_map length (target_rows f a q j) ≡ option_map length (target_rows g b q j)
  target_same a b same None j = refl
  target_same a b same (Some q) j = joined_same (map f (rows_of q)) (map g (rows_of q)) _ _ (length-map (rows_of q) f ∙ sym (length-map (rows_of q) g)) (same q j)

  past_same : (from : Option (Bor Marked)) (q : Marked) (j : ℕ) → option_map length (falls_past f from q j) ≡ option_map length (falls_past g from q j)
  past_same None q j = refl
  past_same (Some p) q j = ranks_same (ranks_of p.now) q j

  where_same : (falls : Bool) (p q : Marked) (j : ℕ) → option_map length (falls_where falls f p q j) ≡ option_map length (falls_where falls g p q j)
  where_same false p q j = refl
  where_same true p q j = ranks_same (ranks_of p) q j

  pub count_same : (falls : Bool) (p : Marked) (into : List Marked) (l k j : ℕ) → owed_count (owed_into into l f (falls_where falls f p)) k j ≡ owed_count (owed_into into l g (falls_where falls g p)) k j
  count_same falls p into l k j = target_same (falls_where falls f p) (falls_where falls g p) (where_same falls p) (slice_get (pieces_at into l) k) j

  lists_same : (lists : List (List Linear)) (k j : ℕ) → owed_count (changed_lists f lists) k j ≡ owed_count (changed_lists g lists) k j
  lists_same lists k zero = rows (slice_get lists k) where
    rows : (o : Option (List Linear)) → option_map length (option_map (map f) o) ≡ option_map length (option_map (map g) o)
    rows None = refl
    rows (Some rs) = ap Some (length-map rs f ∙ sym (length-map rs g))
  lists_same lists k (suc j) = refl

  counts_same : (ts : Targets) (k j : ℕ) → owed_count (owed_at f ts) k j ≡ owed_count (owed_at g ts) k j
  counts_same targets.Nowhere k j = refl
  counts_same (targets.Lists lists) k j = lists_same (map (λ l. l.items) lists.now) k j
  counts_same (targets.Truth truth) k j = lists_same (truth_targets truth) k j
  counts_same (targets.Joined nodes l) k j = target_same no_fall no_fall (λ q j. refl) (slice_get (pieces_at (flat_map (λ a. a) (map pieces_list nodes.now)) l) k) j
  counts_same (targets.Pieces from into l) k j = target_same (falls_past f from) (falls_past g from) (past_same from) (slice_get (pieces_at into.now l) k) j

pub counts_at : (change : Linear → Known) (ts : Targets) (k j : ℕ) → owed_count (owed_at change ts) k j ≡ counts_of ts k j
counts_at change ts k j = counts_same change given ts k j

-- how many rows are owed, where it is known which
pub counts_as : (change : Linear → Known) (ts : Targets) (owed : ℕ → ℕ → Option (List Known)) → owed_at change ts ≡ owed → (k j : ℕ) → counts_of ts k j ≡ owed_count owed k j
counts_as change ts owed e k j = sym (counts_at change ts k j) ∙ ap (λ o. owed_count o k j) e
