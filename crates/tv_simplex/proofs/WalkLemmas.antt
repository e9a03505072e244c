use Rattle.std.proofs.Common.{◌≡◌, ◌⊎◌, inl, inr, ℕ, suc, ◌+◌, ◌<◌, ◌≤◌, List, [], ◌∷◌, length, set, Bool, true, false, cond, arith, refl, sym, ap, ◌∙◌, subst}
use Rattle.std.specs.Prelude.{nat_lt}
use Rattle.std.specs.List.{AllByRecursion}
use Rattle.std.proofs.lemmas.Bool.Decides.{nat_tests}
use Rattle.std.proofs.lemmas.List.{length-set}
use Rattle.tv_simplex.proofs.GoesOn.{entry_above}
use Rattle.tv_simplex.proofs.Matrices.{matrix_is_system}
use Rattle.tv_simplex.proofs.Reduced.{lowest_narrow}
use Rattle.tv_simplex.proofs.Shown.{enters, unsolved, next_chain, next_is, next_row, next_objective, shows_next}
use Rattle.tv_simplex.proofs.Transferred.{settles_any}
use Rattle.tv_simplex.specs.Systems.{Equations, matrix}
use Rattle.tv_simplex.specs.Chains.{column, objective, Enters, Leaves, Solves, Settles, IsChain}
use Rattle.tv_simplex.specs.Ratios.{Shows, IsExchanged}
use Rattle.tv_simplex.specs.Outcomes.{HasNarrow, IsWide, TableauOf, AreUnsettled}
use Rattle.tv_simplex.specs.declared.table.Table.{Table}
use Rattle.tv_simplex.specs.declared.stop.Stop.{Stop}
use Rattle.tv_simplex.specs.declared.stop.Stop.TheVariants.{Wide, Scale, Memory}
use Rattle.tv_simplex.specs.Rows.{ratio, IsGrid}
use Rattle.tv_simplex.specs.Marks.{AreMarked}
use Rattle.tv_simplex.specs.Tables.{shown, width_of}
use Rattle.tv_simplex.specs.Exchanges.{IsNext, IsWideNext}
use Rattle.tv_simplex.specs.Stops.{IsExchangeStop}
use Rattle.tv_simplex.specs.Choosing.{NoneAbove, IsLeast}
use Rattle.tv_simplex.specs.Walking.{StandsAt, IsEntering, IsStepStop}
use Rattle.tv_simplex.proofs.LeavingLemmas.{entry_not_above}

-- the sizes of the table
pub height : (s : Equations) (n : ℕ) (t : Table) → StandsAt s n t → length t.rows.items ≡ s.rows + 1
height s n t st = (let h = st.table.height in let b = st.size.basis in omega (arith, h, b))

pub width : (s : Equations) (n : ℕ) (t : Table) → StandsAt s n t → width_of t ≡ s.columns + s.rows + 1
width s n t st = (let b = st.size.basis in let k = st.size.columns in omega (arith, b, k))

module _ (s : Equations) (n : ℕ) (t : Table) (st : StandsAt s n t) (c : ℕ) (e : IsEntering s t c) where
  abbrev never_solves : Solves (matrix s) s.rows s.columns (column t.basis.items) st.shows.table → ⊥
  never_solves = unsolved (matrix s) s.rows s.columns (matrix_is_system s) t.basis.items st.earlier (shown t) st.shows e.place e.unsolved.within e.unsolved.artificial e.unsolved.valued

  abbrev does_enter : Enters (matrix s) s.rows s.columns (column t.basis.items) st.shows.table c
  does_enter = enters (matrix s) s.rows s.columns (matrix_is_system s) t.basis.items st.earlier (shown t) st.shows c e.first.within e.first.negative e.first.first

  -- some row leaves
  pub some_leaves : NoneAbove (shown t) c s.rows → ⊥
  some_leaves none = entry_above (matrix s) s.rows s.columns (column t.basis.items) st.shows.table c e.first.within does_enter.negative
      (λ i l. entry_not_above (shown t i c) (st.shows.table.entry i c) st.shows.table.scale st.shows.table.positive (st.shows.rows i c l (let g = e.first.within in omega arith)) (none i l))

  module _ (r : ℕ) (least : IsLeast s.rows s.columns (shown t) c s.rows r) where
    abbrev does_leave : Leaves (matrix s) s.rows s.columns (column t.basis.items) st.shows.table c r
    does_leave = (let l = least.least (matrix s) t.basis.items st.earlier st.shows in record { within = l.within; above = l.above; least = l.least })

    -- the next basis
    pub next_stands : (t' : Table) → t'.basis.items ≡ set t.basis.items r c → t'.columns ≡ t.columns → IsNext (width_of t) r c t.rows.items t'.rows.items → AreMarked t.columns (length t.basis.items) t'.rows.items t'.marks.items → StandsAt s (n + 1) t'
    next_stands t' basis columns next marks = record {
      table = record {
        height = next.size ∙ st.table.height ∙ ap (λ k. k + 1) (sym size);
        grid = subst (λ k. IsGrid k t'.rows.items) (let e : width_of t ≡ width_of t' = omega (arith, size, columns) in e) next.grid;
        marks = subst (λ k. AreMarked t'.columns k t'.rows.items t'.marks.items) (sym size) (subst (λ k. AreMarked k (length t.basis.items) t'.rows.items t'.marks.items) (sym columns) marks);
      };
      size = record { basis = size ∙ st.size.basis; columns = columns ∙ st.size.columns };
      earlier = t.basis.items ∷ st.earlier;
      many = (let k : suc (length st.earlier) ≡ n + 1 = (let m = st.many in omega (arith, m)) in k);
      shows = subst (λ b. Shows (matrix s) s.rows s.columns b (t.basis.items ∷ st.earlier) (shown t')) (sym basis)
          (shows_next (matrix s) s.rows s.columns (matrix_is_system s) t.basis.items st.earlier (shown t) st.shows c r never_solves does_enter does_leave (shown t')
          (λ i j i_in j_in. next.exchanged i j (let h = height s n t st in omega (arith, h, i_in)) (let h = width s n t st in omega (arith, h, j_in))));
    }
      where
        size : length t'.basis.items ≡ length t.basis.items
        size = ap length basis ∙ length-set t.basis.items r c

    pub wide_next : (i j : ℕ) → IsWideNext (width_of t) r c t.rows.items i j → IsWide s (set t.basis.items r c) i j
    wide_next i j w = record {
      in_chain = record {
        earlier = t.basis.items ∷ st.earlier;
        chain = next_chain (matrix s) s.rows s.columns (matrix_is_system s) t.basis.items st.earlier (shown t) st.shows c r never_solves does_enter does_leave;
        table = next;
      };
      row_within = row_in;
      column_within = column_in;
      wide = λ h. at (nat_lt i s.rows) (λ l. grind (arith, nat_tests)) (λ l. grind (arith, nat_tests)) h;
    }
      where
        next : TableauOf s (set t.basis.items r c)
        next = next_is (matrix s) s.rows s.columns (matrix_is_system s) t.basis.items st.earlier (shown t) st.shows c r never_solves does_enter does_leave

        row_in : i ≤ s.rows
        row_in = (let h = height s n t st in let l = w.row_within in omega (arith, h, l))

        column_in : j ≤ s.columns + s.rows
        column_in = (let h = width s n t st in let l = w.column_within in omega (arith, h, l))

        at : (p : Bool) → (p ≡ true → i < s.rows) → (p ≡ false → s.rows ≤ i) → HasNarrow (cond p (next.entry i j) (objective (matrix s) s.rows s.columns (column (set t.basis.items r c)) next j)) next.scale → ⊥
        at true f g h = w.wide (lowest_narrow w.fraction (next.entry i j) next.scale next.positive
            (next_row (matrix s) s.rows s.columns (matrix_is_system s) t.basis.items st.earlier (shown t) st.shows c r never_solves does_enter does_leave i j (ratio w.fraction) (f refl) column_in w.is).same h)
        at false f g h = w.wide (lowest_narrow w.fraction (objective (matrix s) s.rows s.columns (column (set t.basis.items r c)) next j) next.scale next.positive
            (next_objective (matrix s) s.rows s.columns (matrix_is_system s) t.basis.items st.earlier (shown t) st.shows c r never_solves does_enter does_leave j (ratio w.fraction) column_in
            (subst (λ k. IsExchanged r c (shown t) k j (ratio w.fraction)) (let l = g refl in let m = row_in in let q : i ≡ s.rows = omega (arith, l, m) in q) w.is)).same h)

    pub step_stops : (basis : List ℕ) (stop : Stop) → basis ≡ set t.basis.items r c → IsExchangeStop (width_of t) r c t.rows.items stop → IsStepStop s basis stop
    step_stops basis (Wide i j) is h = subst (λ b. IsWide s b i j) (sym is) (wide_next i j h)
    step_stops basis Scale is h = h
    step_stops basis Memory is h = tt

-- ---- the budget
unsettled_before : (s : Equations) (b : List ℕ) (bs : List (List ℕ)) → IsChain (matrix s) s.rows s.columns (b ∷ bs) → AllByRecursion (λ o. (x : TableauOf s o) → Settles (matrix s) s.rows s.columns (column o) x → ⊥) bs
unsettled_before s b [] h = tt
unsettled_before s b (old ∷ bs) h = (λ x k. h.0.unsettled (settles_any (matrix s) s.rows s.columns (column old) x h.0.table k), unsettled_before s old bs h.1)

first_before : (s : Equations) (b : List ℕ) (bs : List (List ℕ)) → IsChain (matrix s) s.rows s.columns (b ∷ bs) → (bs ≡ []) ⊎ IsChain (matrix s) s.rows s.columns bs
first_before s b [] h = inl refl
first_before s b (old ∷ bs) h = inr h.1

pub budget_spent : (s : Equations) (n : ℕ) (t : Table) → StandsAt s n t → AreUnsettled s n
budget_spent s n t st = record {
  bases = st.earlier;
  as_many = st.many;
  first = first_before s t.basis.items st.earlier st.shows.chain;
  unsettled = unsettled_before s t.basis.items st.earlier st.shows.chain;
}
