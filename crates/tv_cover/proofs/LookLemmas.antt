use Rattle.std.proofs.Common.{All, Global, ◌≡◌, ◌⊎◌, inr, ℕ, ◌+◌, ◌<◌, List, [], ◌∷◌, ◌++◌, take, length, get_or, map, Bool, true, false, Option, None, Some, Vec, refl, sym, ap, ◌∙◌, subst, ℤ, pos, ◌≤ℤ◌, IsTrue, ◌↔◌, MatchBool, MatchOption}
use Rattle.std.specs.List.{Contains}
use Rattle.std.proofs.lemmas.Option.{slice_get-get_or}
use Rattle.std.proofs.lemmas.List.Elements.{All-nil, All-cons, All-push, All-get_or}
use Rattle.tv_linear.specs.Linear.{Linear, scaled_value, IsScaledPoint}
use Rattle.tv_linear.specs.Arithmetic.{denial}
use Rattle.tv_linear.specs.Known.{as_given}
use Rattle.tv_linear.specs.Refutation.{Refutes}
use Rattle.tv_linear.proofs.ListLaws.{all_front, take_next}
use Rattle.tv_farkas.specs.declared.refuted.Refuted.{Refuted}
use Rattle.tv_farkas.specs.declared.refuted.Refuted.TheVariants.{Empty, Point}
use Rattle.tv_farkas.specs.declared.fault.CoverFault.{CoverFault}
use Rattle.tv_farkas.specs.declared.fault.CoverFault.TheVariants as faults
use Rattle.std.specs.Int.{w128}
use Rattle.std.proofs.lemmas.Int.{to_z-of_z}
use mir.Val.{to_z, of_z}
use Rattle.tv_simplex.proofs.AnswerLemmas.{short_fits}
use Rattle.tv_farkas.specs.Refuting.{IsSystemFault, IsRefuted, IsShortRefuted, AreShort}
use Rattle.tv_cover.specs.declared.witness.Witness.{Witness}
use Rattle.tv_cover.specs.Targets.{HasPoint}
use Rattle.tv_cover.specs.Covering.{IsRowOrDenial}
use Rattle.tv_cover.specs.Trying.{IsShownRow, IsOpenAt, IsWideDenialAt, IsWideIn}
use Rattle.tv_cover.specs.Looking.{IsWitness, AreWitnesses, IsRefutedWith, IsRefusedAt, IsOneMoreOf, IsOpenRow, IsPlaceFault, IsLookedAt, IsShowing, AreShowing, AreEntered}
use Rattle.tv_cover.proofs.PointLemmas.{point_with, point_among, refuted_points}

-- ---- witnesses
-- a witness that meets a row
pub met_by : (n : ℕ) (kept : List Linear) (points : List Witness) (i : ℕ) (point : Witness) (row : Linear) → i < length points → point ≡ get_or points i point → AreWitnesses n kept points → scaled_value row point.values.items point.scale ≤ℤ pos 0 → HasPoint n (kept ++ row ∷ [])
met_by n kept points i point row l e h m =
    let w = subst (IsWitness n kept) (sym e) (All-get_or (IsWitness n kept) points i point l h) in
    point_with n kept row point.values.items point.scale w.size w.meets m

pub among_or_new : (n : ℕ) (kept : List Linear) (row : Linear) (b : Bool) → (IsTrue b ↔ Contains kept row) → HasPoint n kept → MatchBool b (HasPoint n (kept ++ row ∷ [])) (Contains kept row → ⊥)
among_or_new n kept row true h p = point_among n kept row (h.0 refl) p
among_or_new n kept row false h p = λ c. cc_false (h.1 c)
  where
    cc_false : IsTrue false → ⊥
    cc_false e = cc

-- one more witness, of the rows and one more
pub one_witness : (n : ℕ) (kept : List Linear) (row : Linear) (points : List Witness) (point : Witness) → AreWitnesses n kept points → length point.values.items ≡ n → IsScaledPoint (kept ++ row ∷ []) point.values.items point.scale → AreWitnesses n kept (points ++ point ∷ [])
one_witness n kept row points point h e m = All-push (IsWitness n kept) points point h record {
  size = e;
  meets = record { positive = m.positive; met = all_front (λ r. scaled_value r point.values.items point.scale ≤ℤ pos 0) kept (row ∷ []) m.met };
}

-- ---- refusals
pub refused_with : (wide : ℕ → Type 0) (n : ℕ) (lists : List (List Linear)) (kept : List Linear) (row : Linear) (pivots : ℕ) (fault : CoverFault) → IsRowOrDenial lists row → (Contains kept row → ⊥) → IsRefusedAt n (kept ++ row ∷ []) pivots fault → IsPlaceFault wide n lists kept pivots fault
refused_with wide n lists kept row pivots (faults.Splits path) r new h = absurd h
refused_with wide n lists kept row pivots (faults.Wide column) r new h = absurd h
refused_with wide n lists kept row pivots faults.Memory r new h = tt
refused_with wide n lists kept row pivots (faults.Solve rows fault) r new h = (inr record { more = row; row = r; new = new; same = h.0 }, subst (λ k. IsSystemFault n k pivots fault) (sym h.0) h.1)

-- a place with other rows that are equal, where a wide column is said otherwise
pub other_place_fault : (wide more : ℕ → Type 0) (n : ℕ) (lists : List (List Linear)) (old new : List Linear) (pivots : ℕ) (fault : CoverFault) → new ≡ old → ((column : ℕ) → wide column → more column) → IsPlaceFault wide n lists new pivots fault → IsPlaceFault more n lists old pivots fault
other_place_fault wide more n lists old new pivots (faults.Splits path) e f h = absurd h
other_place_fault wide more n lists old new pivots (faults.Wide column) e f h = f column h
other_place_fault wide more n lists old new pivots faults.Memory e f h = tt
other_place_fault wide more n lists old new pivots (faults.Solve rows fault) e f h = subst (λ k. ((rows.items ≡ k) ⊎ IsOneMoreOf lists k rows.items) × IsSystemFault n rows.items pivots fault) e h

-- ---- targets, row by row
pub showing_short : (n : ℕ) (marks : List Bool) (kept target : List Linear) (lists : List (List ℤ)) → AreShowing n marks kept target lists → All AreShort lists
showing_short n marks kept [] [] h = All-nil AreShort
showing_short n marks kept [] (ms ∷ lists) h = absurd h
showing_short n marks kept (r ∷ target) [] h = absurd h
showing_short n marks kept (r ∷ target) (ms ∷ lists) h = All-cons AreShort ms lists h.0.short (showing_short n marks kept target lists h.1)

pub showing_rows : (n : ℕ) (marks : List Bool) (kept target : List Linear) (lists : List (List ℤ)) → AreShowing n marks kept target lists → All (IsShownRow n kept) target
showing_rows n marks kept [] lists h = All-nil (IsShownRow n kept)
showing_rows n marks kept (r ∷ target) [] h = absurd h
showing_rows n marks kept (r ∷ target) (ms ∷ lists) h =
    All-cons (IsShownRow n kept) r target (h.0.narrow, λ p. refuted_points n (kept ++ denial r ∷ []) h.0.multipliers h.0.refutes p) (showing_rows n marks kept target lists h.1)

pub showing_more : (n : ℕ) (marks : List Bool) (kept target : List Linear) (lists : List (List ℤ)) (row : Linear) (numbers : List ℤ) → AreShowing n marks kept target lists → IsShowing n marks kept row numbers → AreShowing n marks kept (target ++ row ∷ []) (lists ++ numbers ∷ [])
showing_more n marks kept [] [] row numbers h g = (g, tt)
showing_more n marks kept [] (ms ∷ lists) row numbers h g = absurd h
showing_more n marks kept (r ∷ target) [] row numbers h g = absurd h
showing_more n marks kept (r ∷ target) (ms ∷ lists) row numbers h g = (h.0, showing_more n marks kept target lists row numbers h.1 g)

-- ---- what the solver says of the rows and one more
pub refuted_with : (n : ℕ) (kept : List Linear) (copy row : Linear) (refuted : Refuted) (ms : Vec ℤ Global) → copy ≡ row → refuted ≡ Empty ms → IsRefutedWith n kept copy refuted → Refutes n (as_given (kept ++ row ∷ [])) ms.items
refuted_with n kept copy row refuted ms e g h = subst (λ r. Refutes n (as_given (kept ++ r ∷ [])) ms.items) e (subst (λ x. IsRefuted n (kept ++ copy ∷ []) x) g h.answers)

pub short_with : (n : ℕ) (kept : List Linear) (copy : Linear) (refuted : Refuted) (ms : Vec ℤ Global) → refuted ≡ Empty ms → IsRefutedWith n kept copy refuted → AreShort ms.items
short_with n kept copy refuted ms g h = subst (λ x. IsShortRefuted x) g h.short

-- a point of the rows and one more
pub record HasWitness (n : ℕ) (kept : List Linear) (row : Linear) (values : List ℤ) (scale : ℤ) : Type 0 where
  pub size : length values ≡ n
  pub meets : IsScaledPoint (kept ++ row ∷ []) values scale
  pub fits : to_z w128 (of_z w128 scale) ≡ scale

pub witness_with : (n : ℕ) (kept : List Linear) (copy row : Linear) (refuted : Refuted) (values : Vec ℤ Global) (scale : ℤ) → copy ≡ row → refuted ≡ Point values scale → IsRefutedWith n kept copy refuted → HasWitness n kept row values.items scale
witness_with n kept copy row refuted values scale e g h =
    let a = subst (λ x. IsRefuted n (kept ++ copy ∷ []) x) g h.answers in
    let s = subst (λ x. IsShortRefuted x) g h.short in record {
      size = a.0;
      meets = subst (λ r. IsScaledPoint (kept ++ r ∷ []) values.items scale) e a.1;
      fits = to_z-of_z w128 scale (short_fits scale s.1);
    }

pub looked_point : (n : ℕ) (kept new : List Linear) (row : Linear) (values : Vec ℤ Global) (scale : ℤ) (points more : List Witness) → HasWitness n kept row values.items scale → AreWitnesses n kept points → new ≡ kept → more ≡ points ++ record { values = values; scale = to_z w128 (of_z w128 scale) } ∷ [] → IsLookedAt n kept new more × HasPoint n (kept ++ row ∷ [])
looked_point n kept new row values scale points more h w e g =
    let point : Witness = record { values = values; scale = to_z w128 (of_z w128 scale) } in (
      record {
        same = e;
        witnesses = subst (λ p. AreWitnesses n kept p) (sym g) (one_witness n kept row points point w h.size (subst (λ z. IsScaledPoint (kept ++ row ∷ []) values.items z) (sym h.fits) h.meets));
      },
      record { values = values.items; scale = scale; size = h.size; meets = h.meets },
    )

-- ---- loops over the rows of a target
pub record ShownTo (n : ℕ) (marks : List Bool) (old new : List Linear) (points : List Witness) (target : List Linear) (lists : List (List ℤ)) : Type 0 where
  pub looked : IsLookedAt n old new points
  pub shown : AreShowing n marks old target lists

pub record EnteredTo (n : ℕ) (old new : List Linear) (points : List Witness) (target : List Linear) : Type 0 where
  pub looked : IsLookedAt n old new points
  pub entered : AreEntered n old target

pub looked_none : (n : ℕ) (rows : List Linear) (points : List Witness) → AreWitnesses n rows points → IsLookedAt n rows rows points
looked_none n rows points h = record { same = refl; witnesses = h }

pub looked_again : (n : ℕ) (old mid new : List Linear) (points : List Witness) → mid ≡ old → IsLookedAt n mid new points → IsLookedAt n old new points
looked_again n old mid new points e h = subst (λ k. IsLookedAt n k new points) e h

pub items_more : {B : Type 0} (lists : List (Vec B Global)) (last : Vec B Global) → map (λ v. v.items) (lists ++ last ∷ []) ≡ map (λ v. v.items) lists ++ last.items ∷ []
items_more [] last = refl
items_more (l ∷ lists) last = ap (λ k. l.items ∷ k) (items_more lists last)

pub shown_none : (n : ℕ) (marks : List Bool) (rows : List Linear) (points : List Witness) (lists : List (Vec ℤ Global)) → AreWitnesses n rows points → lists ≡ [] → ShownTo n marks rows rows points [] (map (λ v. v.items) lists)
shown_none n marks rows points lists h e = record {
  looked = looked_none n rows points h;
  shown = subst (λ k. AreShowing n marks rows [] (map (λ v. v.items) k)) (sym e) tt;
}

pub shown_more : (n : ℕ) (marks : List Bool) (old mid new : List Linear) (points after : List Witness) (target : List Linear) (i : ℕ) (row : Linear) (lists more : List (Vec ℤ Global)) (last : Vec ℤ Global) → ShownTo n marks old mid points (take i target) (map (λ v. v.items) lists) → IsLookedAt n mid new after → IsShowing n marks mid row last.items → i < length target → row ≡ get_or target i row → more ≡ lists ++ last ∷ [] → ShownTo n marks old new after (take (i + 1) target) (map (λ v. v.items) more)
shown_more n marks old mid new points after target i row lists more last h looked s l e g = record {
  looked = looked_again n old mid new after h.looked.same looked;
  shown = subst (λ k. AreShowing n marks old (take (i + 1) target) k) (sym (ap (λ k. map (λ v. v.items) k) g ∙ items_more lists last))
      (subst (λ t. AreShowing n marks old t (map (λ v. v.items) lists ++ last.items ∷ [])) (sym (take_next target i row l e))
      (showing_more n marks old (take i target) (map (λ v. v.items) lists) row last.items h.shown (subst (λ k. IsShowing n marks k row last.items) h.looked.same s)));
}

pub entered_none : (n : ℕ) (rows : List Linear) (points : List Witness) → AreWitnesses n rows points → EnteredTo n rows rows points []
entered_none n rows points h = record { looked = looked_none n rows points h; entered = All-nil (λ r. HasPoint n (rows ++ r ∷ [])) }

pub entered_more : (n : ℕ) (old mid new : List Linear) (points after : List Witness) (target : List Linear) (i : ℕ) (row : Linear) → EnteredTo n old mid points (take i target) → IsLookedAt n mid new after → HasPoint n (mid ++ row ∷ []) → i < length target → row ≡ get_or target i row → EnteredTo n old new after (take (i + 1) target)
entered_more n old mid new points after target i row h looked p l e = record {
  looked = looked_again n old mid new after h.looked.same looked;
  entered = subst (λ t. AreEntered n old t) (sym (take_next target i row l e)) (All-push (λ r. HasPoint n (old ++ r ∷ [])) (take i target) row h.entered (subst (λ k. HasPoint n (k ++ row ∷ [])) h.looked.same p));
}

-- the rows before a place are shown
pub shown_to : (n : ℕ) (marks : List Bool) (old new : List Linear) (points : List Witness) (target : List Linear) (place : ℕ) (lists : List (List ℤ)) → ShownTo n marks old new points (take place target) lists → All (IsShownRow n old) (take place target)
shown_to n marks old new points target place lists h = showing_rows n marks old (take place target) lists h.shown

pub open_here : (n : ℕ) (old new : List Linear) (target : List Linear) (place : ℕ) (row : Linear) → new ≡ old → place < length target → row ≡ get_or target place row → All (IsShownRow n old) (take place target) → IsOpenRow n new row → IsOpenAt n old target place
open_here n old new target place row e l g shown o =
    let here = subst (λ k. IsOpenRow n k row) e o in record {
      row = row;
      found = slice_get-get_or target place row l ∙ ap Some (sym g);
      shown = shown;
      narrow = here.0;
      point = here.1;
    }

pub wide_here : (n : ℕ) (old : List Linear) (target : List Linear) (place : ℕ) (row : Linear) (column : ℕ) → place < length target → row ≡ get_or target place row → All (IsShownRow n old) (take place target) → IsWideDenialAt row column → IsWideIn n old target column
wide_here n old target place row column l g shown w = record {
  place = place;
  row = row;
  found = slice_get-get_or target place row l ∙ ap Some (sym g);
  shown = shown;
  wide = w;
}

-- ---- cases
pub case_some : {A : Type 0} (P : Type 0) (Q : A → Type 0) (o : Option A) (x : A) → o ≡ Some x → MatchOption o P Q → Q x
case_some P Q o x e h = subst (λ y. MatchOption y P Q) e h

pub case_none : {A : Type 0} (P : Type 0) (Q : A → Type 0) (o : Option A) → o ≡ None → MatchOption o P Q → P
case_none P Q o e h = subst (λ y. MatchOption y P Q) e h

pub case_true : (P Q : Type 0) (b : Bool) → b ≡ true → MatchBool b P Q → P
case_true P Q b e h = subst (λ y. MatchBool y P Q) e h

pub case_false : (P Q : Type 0) (b : Bool) → b ≡ false → MatchBool b P Q → Q
case_false P Q b e h = subst (λ y. MatchBool y P Q) e h
