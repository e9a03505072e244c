use Rattle.std.proofs.Common.{◌≡◌, inl, inr, ℕ, zero, suc, ◌+◌, ◌<◌, ◌≤◌, List, [], ◌∷◌, ◌++◌, take, length, length-append, get_or, All, Some, arith, refl, sym, ap, ◌∙◌, subst, slice_get}
use Rattle.std.specs.List.{Contains}
use Rattle.std.proofs.lemmas.List.Elements.{All-nil, All-cons, All-head, All-tail, All-push, All-contains, All-from_get_or, Contains-get_or}
use Rattle.std.proofs.lemmas.Option.{slice_get-get_or, get_or_from_slice_get, slice_get_within, same_Some}
use Rattle.tv_linear.specs.Linear.{Linear, columns}
use Rattle.tv_linear.specs.Arithmetic.{denial}
use Rattle.tv_linear.specs.declared.region.Poly.{Poly}
use Rattle.tv_linear.proofs.ListLaws.{last_or_below, take_next, contains_at}
use Rattle.tv_cover.specs.declared.witness.Witness.{Witness}
use Rattle.tv_cover.specs.Targets.{AreEven, HasPoint, IsTargetRow, IsNarrowRow, lists_of}
use Rattle.tv_cover.specs.CoverPaths.{IsShut, IsLeftOpen}
use Rattle.tv_farkas.specs.declared.splitting.Halves.{Halves}
use Rattle.tv_cover.specs.Halving.{AreRowSides}
use Rattle.tv_cover.specs.Trying.{IsOpenAt, IsOpenTarget, IsWideIn, IsWideAt}
use Rattle.tv_cover.specs.Looking.{AreWitnesses, IsLookedAt, AreEntered}
use Rattle.tv_cover.specs.Stepping.{AreOpenTargets, MayEnter, AreHalves}
use Rattle.tv_cover.proofs.HalfLemmas.{row_halves}
use Rattle.tv_cover.proofs.LookLemmas.{looked_none, looked_again}
use Rattle.std.proofs.lemmas.List.{length-map}

-- ---- the rows of a target
get_or-lists : (targets : List Poly) (i : ℕ) (p : Poly) → i < length targets → get_or (lists_of targets) i p.rows.items ≡ (get_or targets i p).rows.items
get_or-lists [] i p l = absurd (omega arith)
get_or-lists (t ∷ targets) zero p l = refl
get_or-lists (t ∷ targets) (suc i) p l = get_or-lists targets i p (omega (arith, l))

pub list_at : (targets : List Poly) (i : ℕ) (p : Poly) (rows : List Linear) → i < length targets → rows ≡ (get_or targets i p).rows.items → slice_get (lists_of targets) i ≡ Some rows
list_at targets i p rows l g =
    slice_get-get_or (lists_of targets) i p.rows.items (let h = length-map targets (λ (t : Poly). t.rows.items) in omega (arith, h, l))
    ∙ ap Some (get_or-lists targets i p l ∙ sym g)

pub list_among : (targets : List Poly) (i : ℕ) (p : Poly) (rows : List Linear) → i < length targets → rows ≡ (get_or targets i p).rows.items → Contains (lists_of targets) rows
list_among targets i p rows l g =
    let h = length-map targets (λ (t : Poly). t.rows.items) in
    subst (λ k. Contains (lists_of targets) k) (get_or-lists targets i p l ∙ sym g) (Contains-get_or (lists_of targets) i p.rows.items (omega (arith, h, l)))

pub list_even : (n : ℕ) (targets : List Poly) (rows : List Linear) → All (AreEven n) (lists_of targets) → Contains (lists_of targets) rows → AreEven n rows
list_even n targets rows h c = All-contains (AreEven n) (lists_of targets) rows h c

-- ---- loops over the targets
pub record OpenTo (n : ℕ) (lists : List (List Linear)) (old new : List Linear) (points : List Witness) (number : ℕ) (places : List ℕ) : Type 0 where
  pub looked : IsLookedAt n old new points
  pub as_many : length places ≡ number
  pub each : (k : ℕ) → k < number → IsOpenTarget n lists old k (get_or places k 0)

pub record ShutTo (n : ℕ) (old new : List Linear) (points : List Witness) (lists : List (List Linear)) : Type 0 where
  pub looked : IsLookedAt n old new points
  pub shut : All (IsShut n old) lists

pub open_none : (n : ℕ) (lists : List (List Linear)) (rows : List Linear) (points : List Witness) (places : List ℕ) → AreWitnesses n rows points → places ≡ [] → OpenTo n lists rows rows points 0 places
open_none n lists rows points places h e = record {
  looked = looked_none n rows points h;
  as_many = ap length e;
  each = λ k l. absurd (omega (arith, l));
}

get_last : (places : List ℕ) (place : ℕ) → get_or (places ++ place ∷ []) (length places) 0 ≡ place
get_last [] place = refl
get_last (p ∷ places) place = get_last places place

get_before : (places : List ℕ) (place k : ℕ) → k < length places → get_or (places ++ place ∷ []) k 0 ≡ get_or places k 0
get_before [] place k l = absurd (omega arith)
get_before (p ∷ places) place zero l = refl
get_before (p ∷ places) place (suc k) l = get_before places place k (omega (arith, l))

pub open_more : (n : ℕ) (lists : List (List Linear)) (old mid new : List Linear) (points after : List Witness) (number : ℕ) (target : List Linear) (place : ℕ) (places more : List ℕ) → OpenTo n lists old mid points number places → IsLookedAt n mid new after → IsOpenAt n mid target place → slice_get lists number ≡ Some target → more ≡ places ++ place ∷ [] → OpenTo n lists old new after (number + 1) more
open_more n lists old mid new points after number target place places more h looked o e g = record {
  looked = looked_again n old mid new after h.looked.same looked;
  as_many = ap length g ∙ length-append places (place ∷ []) ∙ (let m = h.as_many in let f : length places + 1 ≡ number + 1 = omega (arith, m) in f);
  each = λ k l. subst (λ q. IsOpenTarget n lists old k (get_or q k 0)) (sym g) (elim (last_or_below number k l) [
    | inl same ↦ subst (λ j. IsOpenTarget n lists old j (get_or (places ++ place ∷ []) j 0)) (sym same) (subst (λ j. IsOpenTarget n lists old number (get_or (places ++ place ∷ []) j 0)) h.as_many (subst (λ p. IsOpenTarget n lists old number p) (sym (get_last places place)) here))
    | inr below ↦ subst (λ p. IsOpenTarget n lists old k p) (sym (get_before places place k (let m = h.as_many in omega (arith, m, below)))) (h.each k below)
  ]);
}
  where
    here : IsOpenTarget n lists old number place
    here = record { target = target; found = e; here = subst (λ k. IsOpenAt n k target place) h.looked.same o }

pub shut_none : (n : ℕ) (rows : List Linear) (points : List Witness) → AreWitnesses n rows points → ShutTo n rows rows points []
shut_none n rows points h = record { looked = looked_none n rows points h; shut = All-nil (IsShut n rows) }

pub shut_more : (n : ℕ) (lists : List (List Linear)) (old mid new : List Linear) (points after : List Witness) (number : ℕ) (target : List Linear) → ShutTo n old mid points (take number lists) → IsLookedAt n mid new after → IsShut n mid target → number < length lists → target ≡ get_or lists number target → ShutTo n old new after (take (number + 1) lists)
shut_more n lists old mid new points after number target h looked s l e = record {
  looked = looked_again n old mid new after h.looked.same looked;
  shut = subst (λ t. All (IsShut n old) t) (sym (take_next lists number target l e)) (All-push (IsShut n old) (take number lists) target h.shut (subst (λ k. IsShut n k target) h.looked.same s));
}

pub list_count : (targets : List Poly) → length (lists_of targets) ≡ length targets
list_count targets = length-map targets (λ (t : Poly). t.rows.items)

pub list_same : (targets : List Poly) (i : ℕ) (p : Poly) (rows : List Linear) → i < length targets → rows ≡ (get_or targets i p).rows.items → rows ≡ get_or (lists_of targets) i rows
list_same targets i p rows l g = read (lists_of targets) i rows (list_at targets i p rows l g)
  where
    read : (xs : List (List Linear)) (j : ℕ) (x : List Linear) → slice_get xs j ≡ Some x → x ≡ get_or xs j x
    read [] j x h = refl
    read (y ∷ xs) zero x h = (let s : y ≡ x = cc in sym s)
    read (y ∷ xs) (suc j) x h = read xs j x h

pub all_of_take : {A : Type 0} (P : A → Type 0) (k : ℕ) (xs : List A) → length xs ≤ k → All P (take k xs) → All P xs
all_of_take P k [] l h = All-nil P
all_of_take P zero (x ∷ xs) l h = absurd (omega (arith, l))
all_of_take P (suc k) (x ∷ xs) l h = All-cons P x xs (All-head P x (take k xs) h) (all_of_take P k xs (omega (arith, l)) (All-tail P x (take k xs) h))

-- ---- splits at a row
pub all_open : (n : ℕ) (lists : List (List Linear)) (kept : List Linear) (places : List ℕ) → AreOpenTargets n lists kept places → All (IsLeftOpen n kept) lists
all_open n lists kept places h = All-from_get_or (IsLeftOpen n kept) lists [] (λ k l.
    let o = h.each k l in
    subst (IsLeftOpen n kept) (sym (get_or_from_slice_get lists k o.target [] o.found)) (o.here.row, contains_at o.target (get_or places k 0) o.here.row o.here.found, o.here.point))

-- the row where the target at the number is open
pub record EntersAt (n : ℕ) (lists : List (List Linear)) (kept : List Linear) (number : ℕ) (places : List ℕ) : Type 0 where
  pub target : List Linear
  pub row : Linear
  pub number_within : number < length lists
  pub place_within : get_or places number 0 < length target
  pub found : slice_get lists number ≡ Some target
  pub at : slice_get target (get_or places number 0) ≡ Some row
  pub of_target : IsTargetRow lists row
  pub narrow : IsNarrowRow (denial row)
  pub met : HasPoint n (kept ++ row ∷ [])
  pub denied : HasPoint n (kept ++ denial row ∷ [])

pub enters_at : (n : ℕ) (lists : List (List Linear)) (kept : List Linear) (number : ℕ) (places : List ℕ) → MayEnter n lists kept number places → EntersAt n lists kept number places
enters_at n lists kept number places h =
    let l = slice_get_within lists number h.entered.target h.entered.found in
    let o = h.left_open.each number l in
    let same : h.entered.target ≡ o.target = same_Some h.entered.target o.target (sym h.entered.found ∙ o.found) in
    let among = contains_at o.target (get_or places number 0) o.here.row o.here.found in record {
      target = o.target;
      row = o.here.row;
      number_within = l;
      place_within = slice_get_within o.target (get_or places number 0) o.here.row o.here.found;
      found = o.found;
      at = o.here.found;
      of_target = record { rows = o.target; target = contains_at lists number o.target o.found; among = among };
      narrow = o.here.narrow;
      met = All-contains (λ r. HasPoint n (kept ++ r ∷ [])) o.target o.here.row (subst (AreEntered n kept) same h.entered.entered) among;
      denied = o.here.point;
    }

-- the row in the code
pub entered_row : (targets : List Poly) (n : ℕ) (kept : List Linear) (number : ℕ) (places : List ℕ) (p : Poly) (row : Linear) (e : EntersAt n (lists_of targets) kept number places) → row ≡ get_or (get_or targets number p).rows.items (get_or places number 0) row → row ≡ e.row
entered_row targets n kept number places p row e r =
    let c = list_count targets in
    let i = e.number_within in
    let same : (get_or targets number p).rows.items ≡ e.target = same_Some (get_or targets number p).rows.items e.target (sym (list_at targets number p (get_or targets number p).rows.items (omega (arith, c, i)) refl) ∙ e.found) in
    r ∙ ap (λ xs. get_or xs (get_or places number 0) row) same ∙ get_or_from_slice_get e.target (get_or places number 0) e.row row e.at

pub row_step : (n : ℕ) (lists : List (List Linear)) (kept : List Linear) (number : ℕ) (places : List ℕ) (row : Linear) (halves : Halves) → All (AreEven n) lists → MayEnter n lists kept number places → (e : EntersAt n lists kept number places) → row ≡ e.row → AreRowSides row halves → AreHalves n lists kept halves
row_step n lists kept number places row halves even h e same s =
    let t = subst (λ r. AreRowSides r halves) same s in
    row_halves n lists kept e.row halves t (All-contains (λ r. columns r ≡ n) e.of_target.rows e.row (All-contains (AreEven n) lists e.of_target.rows even e.of_target.target) e.of_target.among) e.of_target e.met e.denied (all_open n lists kept places h.left_open)

-- a wide denial in a target, before which each target is open
pub wide_target : (n : ℕ) (lists : List (List Linear)) (old new : List Linear) (points : List Witness) (number : ℕ) (places : List ℕ) (target : List Linear) (column : ℕ) → HasPoint n old → OpenTo n lists old new points number places → slice_get lists number ≡ Some target → IsWideIn n new target column → IsWideAt n lists old column
wide_target n lists old new points number places target column p h e w = record {
  point = p;
  number = number;
  target = target;
  found = e;
  earlier = λ k l. (get_or places k 0, h.each k l);
  here = subst (λ k. IsWideIn n k target column) h.looked.same w;
}
