-- The first of some rows that is too wide.
use Rattle.std.proofs.Common.{◌≡◌, ℕ, ◌≤◌, List, [], ◌∷◌, ◌++◌, append_assoc, refl, sym, ap, ◌∙◌, true, subst}
use Rattle.std.specs.Prelude.{◌&&◌, Option, Some, None, Result, Ok, Err, IfOk}
use Rattle.std.specs.List.{list_all}
use Rattle.std.proofs.lemmas.Bool.{and_parts}
use Rattle.std.proofs.lemmas.List.Folds.{list_all-append}
use Rattle.tv_linear.specs.Linear.{Linear, columns}
use Rattle.tv_linear.specs.Fits.{IsNarrowAt, IsFirstWide, GivesTight}
use Rattle.tv_linear.specs.declared.fault.RowFault.{RowFault}
use Rattle.tv_linear.specs.declared.fault.RowFault.TheVariants.{Wide}
use Rattle.tv_cases.specs.Forms.{is_narrow}
use Rattle.tv_cases.proofs.NarrowRows.{is_narrow-columns}
use Rattle.tv_causes.specs.Widths.{IsFirstWideOf, TellsWide}

-- ---- rows that are narrow
pub both_narrow : (xs ys : List Linear) → list_all is_narrow xs ≡ true → list_all is_narrow ys ≡ true → list_all is_narrow (xs ++ ys) ≡ true
both_narrow xs ys h k = list_all-append is_narrow xs ys ∙ (λ i. h i && k i)

pub split_narrow : (xs ys : List Linear) → list_all is_narrow (xs ++ ys) ≡ true → (list_all is_narrow xs ≡ true) × (list_all is_narrow ys ≡ true)
split_narrow xs ys h = and_parts (list_all is_narrow xs) (list_all is_narrow ys) (sym (list_all-append is_narrow xs ys) ∙ h)

pub one_narrow : (r : Linear) → is_narrow r ≡ true → list_all is_narrow (r ∷ []) ≡ true
one_narrow r h = ap (λ b. b && true) h

pub head_narrow : (r : Linear) (rows : List Linear) → list_all is_narrow (r ∷ rows) ≡ true → is_narrow r ≡ true
head_narrow r rows h = (and_parts (is_narrow r) (list_all is_narrow rows) h).0

pub narrow_row : (r : Linear) → ((k : ℕ) → k ≤ columns r → IsNarrowAt r k) → list_all is_narrow (r ∷ []) ≡ true
narrow_row r h = one_narrow r (is_narrow-columns r h)

-- ---- the first that is not
pub wide_here : (r : Linear) (after : List Linear) (column : ℕ) → IsFirstWide (IsNarrowAt r) (columns r) column → IsFirstWideOf (r ∷ after) column
wide_here r after column h = record { before = []; row = r; after = after; parted = refl; narrow = refl; wide = h }

pub wide_before : (xs ys : List Linear) (column : ℕ) → IsFirstWideOf xs column → IsFirstWideOf (xs ++ ys) column
wide_before xs ys column h = record {
  before = h.before;
  row = h.row;
  after = h.after ++ ys;
  parted = ap (λ zs. zs ++ ys) h.parted ∙ append_assoc h.before (h.row ∷ h.after) ys;
  narrow = h.narrow;
  wide = h.wide;
}

pub wide_after : (xs ys : List Linear) (column : ℕ) → list_all is_narrow xs ≡ true → IsFirstWideOf ys column → IsFirstWideOf (xs ++ ys) column
wide_after xs ys column n h = record {
  before = xs ++ h.before;
  row = h.row;
  after = h.after;
  parted = ap (λ zs. xs ++ zs) h.parted ∙ sym (append_assoc xs h.before (h.row ∷ h.after));
  narrow = both_narrow xs h.before n h.narrow;
  wide = h.wide;
}

-- what is told of later rows, where those before them are narrow
pub tells_after : (xs ys : List Linear) (found : Option ℕ) → list_all is_narrow xs ≡ true → TellsWide ys found → TellsWide (xs ++ ys) found
tells_after xs ys None n h = both_narrow xs ys n h
tells_after xs ys (Some column) n h = wide_after xs ys column n h

-- ---- what calls answer
pub on_ok : {E : Type 0} (P Q : Option ℕ → Type 0) → ((found : Option ℕ) → P found → Q found) → (result : Result (Option ℕ) E) → IfOk result P → IfOk result Q
on_ok P Q step (Ok found) h = step found h
on_ok P Q step (Err e) h = tt

-- a row that is tightened
pub tight_narrow : (exact row : Linear) (made : Result Linear RowFault) → made ≡ Ok row → GivesTight exact made → list_all is_narrow (exact ∷ []) ≡ true
tight_narrow exact row made is h = narrow_row exact (subst (λ (r : Result Linear RowFault). GivesTight exact r) is h).fits

pub tight_wide : (exact : Linear) (made : Result Linear RowFault) (fault : RowFault) (column : ℕ) → made ≡ Err fault → fault ≡ Wide column → GivesTight exact made → IsFirstWideOf (exact ∷ []) column
tight_wide exact made fault column is e h = wide_here exact [] column (subst (λ (r : Result Linear RowFault). GivesTight exact r) (is ∙ ap Err e) h)
