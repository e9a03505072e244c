use Rattle.std.proofs.Common.{ℕ, List, sym, subst, ℤ, pos, ◌≤ℤ◌}
use Rattle.tv_linear.specs.Linear.{Linear, scaled_value, IsScaledPoint}
use Rattle.tv_simplex.specs.Outcomes.{IsShort}
use Rattle.tv_simplex.specs.declared.fault.SolveFault.{SolveFault}
use Rattle.tv_simplex.specs.declared.fault.SolveFault.TheVariants as faults
use Rattle.tv_farkas.specs.declared.fault.CoverFault.{CoverFault}
use Rattle.tv_farkas.specs.declared.fault.CoverFault.TheVariants.{Splits, Solve, Wide, Memory}
use Rattle.tv_farkas.specs.RefutationSystem.{IsPointOf}
use Rattle.tv_farkas.specs.Refuting.{AreShort, IsRefusal, IsSystemFault}
use Rattle.tv_farkas.specs.Paths.{TakenOnce}
use Rattle.tv_farkas.specs.Judging.{IsPointAt, IsJudgeFault, IsHandedOn, IsShown}
use Rattle.tv_farkas.proofs.TakenLemmas.{all_taken}

pub point_at : (n : ℕ) (rows kept : List Linear) (values : List ℤ) (scale : ℤ) → TakenOnce rows kept → IsPointOf n kept values scale → IsScaledPoint kept values scale → AreShort values → IsShort scale → IsPointAt n rows values scale
point_at n rows kept values scale t p m s z = record {
  kept = kept;
  taken = t;
  point = p;
  met = record { positive = m.positive; met = all_taken (λ r. scaled_value r values scale ≤ℤ pos 0) rows kept t m.met };
  short = s;
  scale_short = z;
}

-- a refusal that is shown is one of the system
pub real_fault : (n pivots : ℕ) (rows : List Linear) (fault : SolveFault) → IsRefusal n rows pivots fault → IsShown fault → IsSystemFault n rows pivots fault
real_fault n pivots rows (faults.Width basis row column) r s = r
real_fault n pivots rows (faults.Scale basis) r s = r
real_fault n pivots rows (faults.Pivots bases) r s = r
real_fault n pivots rows (faults.Size height width) r s = r
real_fault n pivots rows faults.Memory r s = absurd s

pub judge_refuses : (n pivots : ℕ) (rows kept : List Linear) (fault : SolveFault) (result : CoverFault) → TakenOnce rows kept → IsRefusal n kept pivots fault → IsHandedOn kept fault result → IsJudgeFault n rows pivots result
judge_refuses n pivots rows kept fault (Splits path) t r h = absurd h
judge_refuses n pivots rows kept fault (Solve same f) t r h = (
  subst (λ k. TakenOnce rows k) (sym h.0) t,
  subst (λ k. IsSystemFault n k pivots f) (sym h.0) (real_fault n pivots kept f (subst (λ x. IsRefusal n kept pivots x) (sym h.1) r) h.2),
)
judge_refuses n pivots rows kept fault (Wide column) t r h = absurd h
judge_refuses n pivots rows kept fault Memory t r h = tt
