-- columns in which the sum is 0, block by block
use Rattle.std.proofs.Common.{◌≡◌, ℕ, ◌+◌, ◌-◌, ◌<◌, List, get_or, arith, subst, sym, ⊎_elim, ◌∙◌, ℤ, pos, Some, true}
use Rattle.std.proofs.lemmas.Bool.{cases_lt}
use Rattle.tv_linear.specs.Known.{Known}
use Rattle.tv_linear.specs.Refutation.{ColumnHeld, column_sum}
use Rattle.tv_refute.specs.Blocks.{AreTold, AreCancelled, further}

module _ (ms : List ℤ) (rows : List Known) (first width : ℕ) (xs : List ℤ) where
  pub cancelled_next : AreCancelled ms rows first → AreTold true width (λ k. ColumnHeld ms rows (further (Some first) k)) (λ k. column_sum ms rows (further (Some first) k)) xs → ((k : ℕ) → k < width → get_or xs k (pos 0) ≡ pos 0) → AreCancelled ms rows (first + width)
  cancelled_next before told none = λ j h.
      ⊎_elim
      (λ l. before j l)
      (λ l.
      let there : first + (j - first) ≡ j = omega arith in
      let inside : j - first < width = omega arith in
      let w = told (j - first) inside in
      subst (λ j. ColumnHeld ms rows (Some j) × (column_sum ms rows (Some j) ≡ pos 0)) there (w.0, sym w.1 ∙ none (j - first) inside))
      (cases_lt j first)
