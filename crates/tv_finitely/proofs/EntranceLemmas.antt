-- Rows that show that no rank grows, as they are lent one by one.
use Rattle.std.proofs.Common.{◌≡◌, ℕ, zero, suc, ◌+◌, ◌<◌, pos, Bool, true, false, List, [], ◌∷◌, ◌++◌, length, map, get_or, slice_get, Option, None, Some, refl, sym, ap, ◌∙◌, arith, length-append}
use Rattle.std.specs.Borrow.{Bor}
use Rattle.std.specs.Option.{option_map}
use Rattle.std.proofs.lemmas.List.{length-map}
use Rattle.tv_linear.specs.Linear.{Linear}
use Rattle.tv_linear.specs.Known.{Known, given, less, as_given}
use Rattle.tv_linear.specs.Views.{rows_seen}
use Rattle.tv_cert.specs.declared.node.Marked.{Marked}
use Rattle.tv_cert.specs.Pieces.{rows_of, ranks_of, pieces_at}
use Rattle.tv_cert.specs.Targets.{owed_into, target_rows}
use Rattle.tv_cert.specs.TargetViews.{falls_past, owed_at}
use Rattle.tv_cert.specs.declared.targets.Targets.TheVariants as targets
use Rattle.tv_cert.specs.Shapes.{owed_count}
use Rattle.tv_cert.proofs.TargetLemmas.{counts_as}
use Rattle.tv_finitely.specs.Entrances.{kept_list, kept_listed, entrance_fall, entrance_owes}
use Rattle.tv_finitely.specs.declared.entering.Entrance.{Entrance}
use Rattle.tv_finitely.specs.Kept.{kept_rows, visit_fall}
use Rattle.tv_finitely.specs.declared.kept.Kept.{Kept}

module _ (change : Linear → Known) where
  pub kept_there : (old new : List Linear) → length old ≡ length new → kept_rows (as_given old) (map change new) ≡ Some (kept_list change old new)
  kept_there [] [] e = refl
  kept_there [] (q ∷ new) e = absurd (omega (arith, e))
  kept_there (r ∷ old) [] e = absurd (omega (arith, e))
  kept_there (r ∷ old) (q ∷ new) e = ap (option_map (λ rows. less (change q) (given r) (pos 0) ∷ rows)) (kept_there old new (omega (arith, e)))

  pub not_kept : (old new : List Linear) → (length old ≡ length new → ⊥) → kept_rows (as_given old) (map change new) ≡ None
  not_kept [] [] h = absurd (h refl)
  not_kept [] (q ∷ new) h = refl
  not_kept (r ∷ old) [] h = refl
  not_kept (r ∷ old) (q ∷ new) h = ap (option_map (λ rows. less (change q) (given r) (pos 0) ∷ rows)) (not_kept old new (λ e. h (ap suc e)))

  pub kept_many : (old new : List Linear) → length old ≡ length new → length (kept_list change old new) ≡ length old
  kept_many [] new e = refl
  kept_many (r ∷ old) [] e = absurd (omega (arith, e))
  kept_many (r ∷ old) (q ∷ new) e = ap suc (kept_many old new (omega (arith, e)))

  pub kept_at : (old new : List Linear) (i : ℕ) (r q : Linear) → i < length old → i < length new → r ≡ get_or old i r → q ≡ get_or new i q → slice_get (kept_list change old new) i ≡ Some (less (change q) (given r) (pos 0))
  kept_at [] new i r q a b er eq = absurd (omega (arith, a))
  kept_at (s ∷ old) [] i r q a b er eq = absurd (omega (arith, b))
  kept_at (s ∷ old) (p ∷ new) zero r q a b er eq = λ k. Some (less (change (sym eq k)) (given (sym er k)) (pos 0))
  kept_at (s ∷ old) (p ∷ new) (suc i) r q a b er eq = kept_at old new i r q (omega (arith, a)) (omega (arith, b)) er eq

  -- how many rows there are
  pub kept_counted : (k : Kept) → length (kept_listed change k) ≡ length (rows_seen k.rows) + length (rows_seen k.old)
  kept_counted k =
      let a = length-append (map change (rows_seen k.rows)) (kept_list change (rows_seen k.old) (rows_seen k.new)) in
      let b = length-map (rows_seen k.rows) change in
      let d = kept_many (rows_seen k.old) (rows_seen k.new) k.as_many in
      omega (arith, a, b, d)

-- ---- without a piece that is left, or by a fall, it is what targets owe
target_same : (change : Linear → Known) (f g : Marked → ℕ → Option (List Known)) (o : Option Marked) (j : ℕ) → ((q : Marked) → f q j ≡ g q j) → target_rows change f o j ≡ target_rows change g o j
target_same change f g None j h = refl
target_same change f g (Some q) j h = ap (option_map (λ falls. map change (rows_of q) ++ falls)) (h q)

some_left : (p : Bor Marked) → ◌≡◌ {A = Option (Bor Marked)} (Some p) None → ⊥
some_left p e = cc

fall_same : (left : Option (Bor Marked)) (enters : Bool) (change : Linear → Known) (j : ℕ) → (j ≡ 0 → left ≡ None) → (q : Marked) → entrance_fall left enters change q j ≡ falls_past change left q j
fall_same None enters change j h q = refl
fall_same (Some p) enters change zero h q = absurd (some_left p (h refl))
fall_same (Some p) enters change (suc j) h q = refl

pub as_targets : (e : Entrance) (change : Linear → Known) (k j : ℕ) → (j ≡ 0 → e.left ≡ None) → entrance_owes change e k j ≡ owed_at change (targets.Pieces e.left e.into e.location) k j
as_targets e change k j h = target_same change (entrance_fall e.left e.enters change) (falls_past change e.left) (slice_get (pieces_at e.into.now e.location) k) j (fall_same e.left e.enters change j h)

-- ---- how many rows are owed does not depend on what they become on the way
one_more : (x y : Known) (o u : Option (List Known)) → option_map length o ≡ option_map length u → option_map length (option_map (λ xs. x ∷ xs) o) ≡ option_map length (option_map (λ ys. y ∷ ys) u)
one_more x y None None e = refl
one_more x y None (Some ys) e = absurd (let k : ⊥ = cc in k)
one_more x y (Some xs) None e = absurd (let k : ⊥ = cc in k)
one_more x y (Some xs) (Some ys) e = (let k : length xs ≡ length ys = cc in ap (λ n. Some (suc n)) k)

joined_same : (xs ys : List Known) (o u : Option (List Known)) → length xs ≡ length ys → option_map length o ≡ option_map length u → option_map length (option_map (λ zs. xs ++ zs) o) ≡ option_map length (option_map (λ zs. ys ++ zs) u)
joined_same xs ys None None e k = refl
joined_same xs ys None (Some b) e k = absurd (let h : ⊥ = cc in h)
joined_same xs ys (Some a) None e k = absurd (let h : ⊥ = cc in h)
joined_same xs ys (Some a) (Some b) e k =
    let h : length a ≡ length b = cc in
    ap Some (let l = length-append xs a in let m = length-append ys b in omega (arith, l, m, e, h))

module _ (f g : Linear → Known) where
  kept_same : (old new : List Linear) → option_map length (kept_rows (as_given old) (map f new)) ≡ option_map length (kept_rows (as_given old) (map g new))
  kept_same [] [] = refl
  kept_same [] (q ∷ new) = refl
  kept_same (r ∷ old) [] = refl
  kept_same (r ∷ old) (q ∷ new) = one_more _ _ _ _ (kept_same old new)

  step_same : (enters : Bool) (ranks : List Linear) (q : Marked) → option_map length (visit_fall enters f ranks q 0) ≡ option_map length (visit_fall enters g ranks q 0)
  step_same true ranks q = refl
  step_same false ranks q = kept_same ranks (ranks_of q)

  kept_into_same : (enters : Bool) (ranks : List Linear) (o : Option Marked) → option_map length (target_rows f (visit_fall enters f ranks) o 0) ≡ option_map length (target_rows g (visit_fall enters g ranks) o 0)
  kept_into_same enters ranks None = refl
  kept_into_same enters ranks (Some q) = joined_same (map f (rows_of q)) (map g (rows_of q)) _ _ (length-map (rows_of q) f ∙ sym (length-map (rows_of q) g)) (step_same enters ranks q)

fell_same : (e : Entrance) (change : Linear → Known) (k j : ℕ) → (j ≡ 0 → e.left ≡ None) → owed_count (entrance_owes given e) k j ≡ owed_count (entrance_owes change e) k j
fell_same e change k j h =
    let ts = targets.Pieces e.left e.into e.location in
    ap (option_map length) (as_targets e given k j h) ∙ counts_as change ts (owed_at change ts) refl k j ∙ ap (option_map length) (sym (as_targets e change k j h))

count_by : (left : Option (Bor Marked)) (enters : Bool) (into : Bor (List Marked)) (l : ℕ) (change : Linear → Known) (k j : ℕ) → ((j ≡ 0 → left ≡ None) → option_map length (owed_into into.now l given (entrance_fall left enters given) k j) ≡ option_map length (owed_into into.now l change (entrance_fall left enters change) k j)) → option_map length (owed_into into.now l given (entrance_fall left enters given) k j) ≡ option_map length (owed_into into.now l change (entrance_fall left enters change) k j)
count_by None enters into l change k j h = h (λ z. refl)
count_by (Some p) enters into l change k zero h = kept_into_same given change enters (ranks_of p.now) (slice_get (pieces_at into.now l) k)
count_by (Some p) enters into l change k (suc j) h = h (λ z. absurd (omega (arith, z)))

pub count_same : (e : Entrance) (change : Linear → Known) (k j : ℕ) → owed_count (entrance_owes given e) k j ≡ owed_count (entrance_owes change e) k j
count_same e change k j = count_by e.left e.enters e.into e.location change k j (fell_same e change k j)
