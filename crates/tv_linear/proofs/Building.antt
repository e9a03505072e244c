-- a row that is made column by column
use Rattle.std.proofs.Common.{◌≡◌, ℕ, ◌+◌, ◌<◌, ◌≤◌, ◌∙◌, List, [], ◌∷◌, ◌++◌, ⊎_elim, length, get_or, sym, ap, arith, subst, ℤ, pos}
use Rattle.std.specs.Prelude.{Result, Ok, Err, IfOk}
use Rattle.std.proofs.lemmas.Grind.{common_steps}
use Rattle.std.proofs.lemmas.Bool.{cases_lt}
use Rattle.std.proofs.lemmas.List.{same_lists, get_or_default}
use Rattle.tv_linear.specs.Linear.{Linear, linear, columns, entry}
use Rattle.tv_linear.specs.Fits.{IsRowWhere, IsFirstWide, GivesWhere}
use Rattle.tv_linear.specs.declared.fault.RowFault.{RowFault}

-- the columns before this one fit, and their numbers stand in the list
pub record IsMadeTo (Fits : ℕ → Type 0) (meant : Linear) (made : List ℤ) (column : ℕ) : Type 0 where
  pub counted : length made ≡ column
  pub fits : (k : ℕ) → k < column → Fits k
  pub numbers : (k : ℕ) → k < column → get_or made k (pos 0) ≡ entry meant k

module _ (Fits : ℕ → Type 0) (meant : Linear) where
  module _ (made : List ℤ) (column : ℕ) (so_far : IsMadeTo Fits meant made column) where
    at_or_before : (P : ℕ → Type 0) → ((k : ℕ) → k < column → P k) → P column → (k : ℕ) → k ≤ column → P k
    at_or_before P before here k h =
        ⊎_elim (λ l. before k l) (λ l. let e : column ≡ k = omega arith in subst P e here) (cases_lt k column)

    pub one_more : (more : List ℤ) (number : ℤ) → Fits column → number ≡ entry meant column → more ≡ made ++ number ∷ [] → IsMadeTo Fits meant more (column + 1)
    one_more more number fits is items =
        let counted = so_far.counted in
        record {
          counted = grind (arith, common_steps);
          fits = λ k h. at_or_before Fits so_far.fits fits k (omega arith);
          numbers = λ k h. at_or_before (λ k. get_or more k (pos 0) ≡ entry meant k)
              (λ k l. let e = so_far.numbers k l in grind (arith, common_steps))
              (grind (arith, common_steps)) k (omega arith);
        }

    pub all_made : (number : ℤ) → column ≡ columns meant → Fits column → number ≡ entry meant column → IsRowWhere Fits (columns meant) meant (linear made number)
    all_made number last fits is =
        let counted = so_far.counted in
        let same : made ≡ meant.coefficients = same_lists made meant.coefficients (counted ∙ last) (λ k d h.
        get_or_default made k d (pos 0) h ∙ so_far.numbers k (omega arith) ∙ get_or_default meant.coefficients k meant.constant d (omega arith)) in
        let end : number ≡ meant.constant = is ∙ ap (entry meant) last ∙ last_is meant in
        record {
          same = λ i. linear (same i) (end i);
          fits = λ k h. at_or_before Fits so_far.fits fits k (omega arith);
        }
      where
        last_is : (r : Linear) → entry r (columns r) ≡ r.constant
        last_is r = let n : length r.coefficients ≤ columns r = omega arith in grind (arith, common_steps)

    pub first_wide : (last : ℕ) → column ≤ last → (Fits column → ⊥) → IsFirstWide Fits last column
    first_wide last h never = record { inside = h; wide = never; earlier = so_far.fits }

-- what holds of the row that is meant holds of the row that is given
pub given-ok : (Fits : ℕ → Type 0) (last : ℕ) (meant : Linear) (r : Result Linear RowFault) (P : Linear → Type 0) → GivesWhere Fits last meant r → P meant → IfOk r P
given-ok Fits last meant (Ok row) P h p = subst P (sym h.same) p
given-ok Fits last meant (Err fault) P h p = tt
