-- What is settled of the rows that are met where a case inside a component is taken.
use Rattle.std.proofs.Common.{◌≡◌, ℕ, ◌+◌, ◌<◌, List, length, Option, Vec, refl, sym, subst, ℤ}
use Rattle.std.specs.Global.{Global}
use Rattle.tv_linear.specs.Linear.{Linear}
use Rattle.tv_linear.specs.declared.region.Piece.{Piece}
use Rattle.tv_cases.specs.LinearCases.{CaseSystem}
use Rattle.tv_farkas.specs.Paths.{TakenOnce}
use Rattle.tv_farkas.specs.Refuting.{IsRefusal, IsSystemFault}
use Rattle.tv_simplex.specs.declared.fault.SolveFault.{SolveFault}
use Rattle.tv_simplex.specs.declared.fault.SolveFault.TheVariants as solve
use Rattle.tv_rank.specs.declared.name.Name.{Name}
use Rattle.tv_rank.specs.declared.name.Name.TheVariants as name
use Rattle.tv_rank.specs.Ways.{Way, case_at, way_of}
use Rattle.tv_lexrank.specs.declared.fault.RankFault.{RankFault}
use Rattle.tv_lexrank.specs.declared.fault.RankFault.TheVariants as fault
use Rattle.tv_lexrank.specs.Known.{AreBare, HaveRows, padded_rows}
use Rattle.tv_lexrank.specs.Sorting.{IsSettled, IsTaken, LeadsInside, RefusesGuards, RefusesRows, RefusesCase, AreSortedBefore, RefusesSorting}
use Rattle.tv_lexrank.specs.Refusing.{refusal_of}
use Rattle.tv_lexrank.proofs.MetLemmas.{taken_padded}

pub taken_met : (v n : ℕ) (w : Way) (rows : List Linear) (o : Option (Vec ℤ Global)) → n ≡ v + w.taken.draws → rows ≡ padded_rows w → IsSettled n rows o → IsTaken v w o
taken_met v n w rows o e f h = taken_padded v w o (rw (← e) (rw (← f) h))

-- the refusal of the refutation system of the guards of a case
pub guards_unsolved : (n pivots k : ℕ) (rows : List Linear) (e : SolveFault) → IsRefusal n rows pivots e → RefusesGuards n rows pivots k (refusal_of (name.Empty k) e)
guards_unsolved n pivots k rows (solve.Width basis row column) h = (refl, h)
guards_unsolved n pivots k rows (solve.Scale basis) h = (refl, h)
guards_unsolved n pivots k rows (solve.Pivots bases) h = (refl, h)
guards_unsolved n pivots k rows (solve.Size height width) h = (refl, h)
guards_unsolved n pivots k rows solve.Memory h = tt

module _ (about : CaseSystem) (known : List Piece) (pivots k n : ℕ) (rows : List Linear) (wide : n ≡ about.variables + (case_at about.cases k).draws) where
  pub rows_refused : HaveRows known → rows ≡ padded_rows (way_of about.cases known k) → (e : RankFault) → RefusesRows n rows pivots e → RefusesCase about known pivots k e
  rows_refused have f (fault.Open taken values) h = absurd h
  rows_refused have f (fault.Cover g) h = absurd h
  rows_refused have f (fault.Solve system e) h = by_name system h
    where
      by_name : (system : Name) → RefusesRows n rows pivots (fault.Solve system e) → RefusesCase about known pivots k (fault.Solve system e)
      by_name (name.Empty number) g = absurd g
      by_name (name.Rank c r falling) g = absurd g
      by_name (name.Rows kept) g = (have, rw (← f) g.0, rw (← wide) g.1)
      by_name (name.Later s falling) g = absurd g
  rows_refused have f fault.Memory h = tt

  pub guards_refused : AreBare known → rows ≡ (case_at about.cases k).guards → (e : RankFault) → RefusesGuards n rows pivots k e → RefusesCase about known pivots k e
  guards_refused bare f (fault.Open taken values) h = absurd h
  guards_refused bare f (fault.Cover g) h = absurd h
  guards_refused bare f (fault.Solve system e) h = by_name system h
    where
      at_case : IsSystemFault n rows pivots e → IsSystemFault (about.variables + (case_at about.cases k).draws) (case_at about.cases k).guards pivots e
      at_case g = rw (← wide) (rw (← f) g)

      by_name : (system : Name) → RefusesGuards n rows pivots k (fault.Solve system e) → RefusesCase about known pivots k (fault.Solve system e)
      by_name (name.Empty number) g = (bare, g.0, at_case g.1)
      by_name (name.Rank c r falling) g = absurd g
      by_name (name.Rows kept) g = absurd g
      by_name (name.Later s falling) g = absurd g
  guards_refused bare f fault.Memory h = tt

-- the refusal of a case inside a component, where those inside that stand before it are sorted
pub case_refused : (about : CaseSystem) (known : List Piece) (numbers : List ℕ) (component pivots k : ℕ) (e : RankFault) → k < length about.cases → LeadsInside numbers component (case_at about.cases k) → AreSortedBefore about known numbers component k → RefusesCase about known pivots k e → RefusesSorting about known numbers component pivots e
case_refused about known numbers component pivots k (fault.Open taken values) k_in inside before h = absurd h
case_refused about known numbers component pivots k (fault.Cover g) k_in inside before h = absurd h
case_refused about known numbers component pivots k (fault.Solve system e) k_in inside before h = by_name system h
  where
    by_name : (system : Name) → RefusesCase about known pivots k (fault.Solve system e) → RefusesSorting about known numbers component pivots (fault.Solve system e)
    by_name (name.Empty number) g = rw g.1 (g.0, k_in, inside, g.2, before)
    by_name (name.Rank c r falling) g = absurd g
    by_name (name.Rows rows) g = (g.0, (k, k_in, inside, g.1, g.2, before))
    by_name (name.Later s falling) g = absurd g
case_refused about known numbers component pivots k fault.Memory k_in inside before h = tt
