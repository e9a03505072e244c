-- Rows before a case, and their denials.
use Rattle.std.proofs.Common.{inl, inr, Vec, ◌≡◌, ℕ, zero, suc, ◌+◌, ◌^◌, ◌<◌, ◌≤◌, List, [], ◌∷◌, ◌++◌, length, length-append, map, All, Option, None, Some, arith, refl, sym, ap, ◌∙◌, subst, ℤ, pos, neg_ℤ, ◌+ℤ◌, ◌-ℤ◌, ◌*ℤ◌, unsigned_abs}
use Rattle.std.specs.Prelude.{slice_get}
use Rattle.std.specs.Global.{Global}
use Rattle.std.specs.Option.{option_map}
use Rattle.std.proofs.lemmas.Int.{ints}
use Rattle.std.proofs.lemmas.List.{append-nil, length-map}
use Rattle.std.proofs.lemmas.List.Elements.{All-nil, All-head, All-tail}
use Rattle.tv_linear.specs.Linear.{Linear, columns, IsWithin}
use Rattle.tv_linear.specs.Arithmetic.{denial}
use Rattle.tv_linear.specs.Known.{Known, Term, given, denied, composed, number, term_number, PlacesHeld, place_sum, as_given}
use Rattle.tv_linear.specs.Terms.{terms_after}
use Rattle.tv_linear.specs.Covers.{ShownAt, IsMetCover}
use Rattle.tv_linear.specs.Same.{SameNumbers}
use Rattle.tv_linear.specs.declared.cover.CoverTree.{CoverTree, Empty}
use Rattle.tv_linear.proofs.KnownLemmas.{place_sum-neg, as_given-append, length-given}
use Rattle.tv_linear.proofs.ListLaws.{same_or_below}
use Rattle.tv_linear.proofs.Ring.{neg_times_z}
use Rattle.tv_linear.proofs.SameLemmas.{same_self}
use Rattle.tv_cases.specs.Before.{before, FitsBefore, rows_before, AreRowsBefore}
use Rattle.tv_cases.specs.LinearCases.{LinearCase}
use Rattle.tv_cases.proofs.BeforeLemmas.{before_same, all_before_even}
use Rattle.tv_rank.specs.Given.{lists}
use Rattle.tv_rank.specs.Ways.{Way}
use Rattle.tv_lexrank.specs.Closing.{changed}
use Rattle.tv_lexrank.specs.Falling.{AllHeld}
use Rattle.tv_lexrank.specs.Known.{way_rows}
use Rattle.tv_lexrank.specs.More.{way_with}
use Rattle.tv_lexrank.specs.Shown.{owed_fall}
use Rattle.tv_lexrank.specs.declared.falling.Fall.{Fall}
use Rattle.tv_lexrank.specs.declared.shown.CaseShown.TheVariants.{Untaken, Falls}
use Rattle.tv_lexrank.proofs.MoreLemmas.{given_held}
use Rattle.tv_cert.specs.Targets.{changed_lists}
use Rattle.tv_nested.specs.Signs.{sign_rows, first_pieces, sign_pieces}
use Rattle.tv_nested.specs.Splitting.{AreChanged, IsSplitTree}
use Rattle.tv_nested.specs.Steps.{owed_rows, owed_signs, ShowsSignStep, IsSignStart}
use Rattle.tv_nested.proofs.SplitLemmas.{index_neg}

-- ---- denials
denial_number : (r : Linear) (j : ℕ) → number (Some j) (denial r) ≡ neg_ℤ (number (Some j) r)
denial_number r j = index_neg r.coefficients j

-- the denial of a given row has the numbers of the row that denies it
pub given_denial : (n : ℕ) (b : Linear) → SameNumbers n (denied (given b)) (given (denial b))
given_denial n b = record {
  inner = λ j l. denial_number b j;
  constant = refl;
  inner_held = λ j l h. tt;
  constant_held = λ h. tt;
}

-- where each number is the opposite, the sums on the way are held too
places_neg : (told : ℕ → Type 0) (f g : ℕ → ℤ) (sum less : ℤ) (v : ℕ) (xs : List ℤ) → ((w : ℕ) → g w ≡ neg_ℤ (f w)) → less ≡ neg_ℤ sum → ((w : ℕ) → told w) → PlacesHeld told f sum v xs → PlacesHeld told g less v xs
places_neg told f g sum less v [] e l t h = tt
places_neg told f g sum less v (x ∷ xs) e l t h =
    let a : g v *ℤ x ≡ neg_ℤ (f v *ℤ x) = ap (λ z. z *ℤ x) (e v) ∙ neg_times_z (f v) x in
    let b = h.1 in
    let c = h.2 in (
      t v,
      (let q : unsigned_abs (g v *ℤ x) < 2 ^ 127 = omega (arith, ints, a, b) in q),
      (let q : unsigned_abs (less +ℤ g v *ℤ x) < 2 ^ 127 = omega (arith, ints, a, c, l) in q),
      places_neg told f g (sum +ℤ f v *ℤ x) (less +ℤ g v *ℤ x) (suc v) xs e (omega (arith, ints, a, l)) t h.3,
    )

pub denied_composed : (n : ℕ) (b r : Linear) (ts : List Term) → SameNumbers n (given b) (composed (given r) ts) → SameNumbers n (denied (given b)) (composed (given (denial r)) ts)
denied_composed n b r ts s = record {
  inner = λ j l. opposite_sum (Some j) ∙ ap neg_ℤ (s.inner j l);
  constant = (let a = opposite_sum None in let c = s.constant in omega (arith, ints, a, c));
  inner_held = λ j l h. places_neg (λ v. Unit {0}) (λ v. number (Some v) r) (λ v. number (Some v) (denial r)) (pos 0) (pos 0) 0 (map (term_number (Some j)) ts) (denial_number r) (omega (arith, ints)) (λ v. tt) (s.inner_held j l tt);
  constant_held = λ h.
      let k = s.constant_held tt in
      let a = opposite_sum None in
      let c = s.constant in
      let b = h.1 in (
        places_neg (λ v. Unit {0}) (λ v. number (Some v) r) (λ v. number (Some v) (denial r)) (pos 0) (pos 0) 0 (map (term_number None) ts) (denial_number r) (omega (arith, ints)) (λ v. tt) k.0,
        tt,
        (let q : unsigned_abs (place_sum (λ v. number (Some v) (denial r)) (map (term_number None) ts) +ℤ (pos 1 -ℤ r.constant)) < 2 ^ 127 = omega (arith, ints, a, b, c) in q),
      );
}
  where
    opposite_sum : (c : Option ℕ) → place_sum (λ v. number (Some v) (denial r)) (map (term_number c) ts) ≡ neg_ℤ (place_sum (λ v. number (Some v) r) (map (term_number c) ts))
    opposite_sum c = (λ i. place_sum (λ v. denial_number r v i) (map (term_number c) ts)) ∙ place_sum-neg (λ v. number (Some v) r) (map (term_number c) ts)

-- ---- the signs before a case, and the signs as they are
pub changed_before : (v : ℕ) (c : LinearCase) (known signs : List Linear) → All (λ r. columns r ≡ v) signs → All (λ u. columns u.term ≡ v + c.draws) c.updates → All (FitsBefore c) signs → AreChanged (v + c.draws) (changed v (way_with c known)) signs (rows_before c signs)
changed_before v c known [] wide us fits = tt
changed_before v c known (r ∷ signs) wide us fits =
    let s = before_same v c r (All-head (λ r. columns r ≡ v) r signs wide) us (All-head (FitsBefore c) r signs fits) in (
      s,
      denied_composed (v + c.draws) (before r c) r (terms_after v c.updates) s,
      changed_before v c known signs (All-tail (λ r. columns r ≡ v) r signs wide) us (All-tail (FitsBefore c) r signs fits),
    )

unchanged : (n : ℕ) (signs : List Linear) → AreChanged n (λ r. given r) signs signs
unchanged n [] = tt
unchanged n (r ∷ signs) = (same_self n (given r), given_denial n r, unchanged n signs)

-- ---- the pieces by their numbers
get_last : {A : Type 0} (xs : List A) (x : A) (q : ℕ) → q ≡ length xs → slice_get (xs ++ x ∷ []) q ≡ Some x
get_last [] x zero e = refl
get_last [] x (suc q) e = absurd (omega (arith, e))
get_last (y ∷ xs) x zero e = absurd (omega (arith, e))
get_last (y ∷ xs) x (suc q) e = get_last xs x q (omega (arith, e))

get_before : {A : Type 0} (xs : List A) (x y : A) (q : ℕ) → slice_get xs q ≡ Some y → slice_get (xs ++ x ∷ []) q ≡ Some y
get_before [] x y q e = absurd cc
get_before (z ∷ xs) x y zero e = e
get_before (z ∷ xs) x y (suc q) e = get_before xs x y q e

pub first_length : (signs : List Linear) (k : ℕ) → length (first_pieces signs k) ≡ k
first_length signs zero = refl
first_length signs (suc k) = length-append (first_pieces signs k) (sign_rows signs k ∷ []) ∙ (let h = first_length signs k in omega (arith, h))

pub piece_there : (signs : List Linear) (k q : ℕ) → q < k → slice_get (first_pieces signs k) q ≡ Some (sign_rows signs q)
piece_there signs zero q h = absurd (omega (arith, h))
piece_there signs (suc k) q h = elim (same_or_below k q h) [
  | inl e ↦ ap (λ z. slice_get (first_pieces signs k ++ sign_rows signs z ∷ []) q) (sym e) ∙ get_last (first_pieces signs k) (sign_rows signs q) q (let l = first_length signs k in omega (arith, e, l))
  | inr b ↦ get_before (first_pieces signs k) (sign_rows signs k) (sign_rows signs q) q (piece_there signs k q b)
]

-- ---- steps
known_length : (known guards : List Linear) → length (as_given known ++ as_given guards) ≡ length known + length guards
known_length known guards = length-append (as_given known) (as_given guards) ∙ (let a = length-given known in let b = length-given guards in omega (arith, a, b))

pub falls_step : (v : ℕ) (c : LinearCase) (signs rows : List Linear) (above : ℕ) (fall : Fall) (tree : CoverTree) → All (λ r. columns r ≡ v) signs → All (λ u. columns u.term ≡ v + c.draws) c.updates → AreRowsBefore c signs rows → length signs ≤ 4 → IsSplitTree rows (above + length c.guards) fall tree → ShowsSignStep v c signs above (Falls fall) tree
falls_step v c signs rows above fall tree wide us made few h known old new many shown = record {
  met = by_falls (owed_fall v w old new fall.number) refl shown.shown;
  shallow = (let d = h.deep in let l = ap length made.exact ∙ length-map signs (λ r. before_of r) in omega (arith, d, l, few));
  even = h.even (v + c.draws) (subst (All (λ r. columns r ≡ v + c.draws)) (sym made.exact) (all_before_even v c signs wide us made.fits));
  narrow = h.narrow shown.narrow;
}
  where
    w : Way
    w = way_with c known

    before_of : Linear → Linear
    before_of r = before r c

    by_falls : (o : Option (List Known)) → owed_fall v w old new fall.number ≡ o → ShownAt (v + c.draws) (way_rows w) o (lists fall.lines.items) → IsMetCover (v + c.draws) (owed_signs v w signs old new) (way_rows w) tree
    by_falls None e s = absurd s
    by_falls (Some falls) e s = rw (← (append-nil (way_rows w)))
        (h.leads (v + c.draws) (way_rows w) falls (changed v w) signs (owed_signs v w signs old new)
        (known_length known c.guards ∙ (let q : length known + length c.guards ≡ above + length c.guards = omega (arith, many) in q))
        (subst (AllHeld (v + c.draws)) (as_given-append known c.guards) (given_held (v + c.draws) (known ++ c.guards)))
        (subst (AreChanged (v + c.draws) (changed v w) signs) (sym made.exact) (changed_before v c known signs wide us made.fits)) s
        (λ q l. ap (λ o. owed_rows v w o (owed_fall v w old new fall.number)) (piece_there signs (suc (length signs)) q (omega (arith, l))) ∙ ap (option_map (λ falls. map (changed v w) (sign_rows signs q) ++ falls)) e))

pub untaken_step : (v : ℕ) (c : LinearCase) (signs : List Linear) (above : ℕ) (ms new_ms : Vec ℤ Global) → new_ms.items ≡ ms.items → ShowsSignStep v c signs above (Untaken ms) (Empty new_ms)
untaken_step v c signs above ms new_ms e known old new many shown = record {
  met = rw e shown.refutes;
  shallow = omega arith;
  even = tt;
  narrow = subst (All (IsWithin 62)) (sym e) shown.narrow;
}

pub start_met : (v : ℕ) (signs : List Linear) (fall : Fall) (tree : CoverTree) → All (λ r. columns r ≡ v) signs → length signs ≤ 4 → fall.number ≡ 0 → fall.lines.items ≡ [] → IsSplitTree signs 0 fall tree → IsSignStart v signs tree
start_met v signs fall tree wide few none empty h = record {
  met = h.leads v [] [] (λ r. given r) signs (changed_lists (λ r. given r) (sign_pieces signs)) refl tt (unchanged v signs) (rw empty tt)
      (λ q l. ap (changed_lists (λ r. given r) (sign_pieces signs) q) none ∙ ap (option_map (map (λ r. given r))) (piece_there signs (suc (length signs)) q (omega (arith, l))) ∙ ap Some (sym (append-nil (map (λ r. given r) (sign_rows signs q)))));
  shallow = (let d = h.deep in omega (arith, d, few));
  even = h.even v wide;
  narrow = h.narrow (rw empty (All-nil (All (IsWithin 62))));
}
