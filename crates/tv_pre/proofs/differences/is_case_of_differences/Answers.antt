use Rattle.std.proofs.Common.{sym, subst, All}
use Rattle.tv_linear.specs.declared.region.Update.{Update}
use Rattle.tv_region.specs.Differences.{IsDifference, IsShift}
use Rattle.tv_pre.proofs.DifferenceLemmas.{all_has, not_false}
use Rattle.tv_pre.proofs.differences.is_case_of_differences.Goals as goal
use Rattle.tv_region.proofs.MetLemmas.{all_has as has_all}

pub returns-clause-found : goal.returns-clause-found
returns-clause-found c = λ t. record {
  guards = all_has IsDifference c.args.case.now.guards.rows.items (subst (All IsDifference) c.deref.ensures.value (c.are_differences.ensures.found c.if-not-are_differences.false));
  updates = subst (All (λ (u : Update). IsShift u.term)) c.deref-2.ensures.value (c.are_shifts.ensures.found t);
}

pub returns-then-not-are_differences-clause-all : goal.returns-then-not-are_differences-clause-all
returns-then-not-are_differences-clause-all c = λ h.
    not_false _ (c.are_differences.ensures.all (subst (All IsDifference) (sym c.deref.ensures.value) (has_all IsDifference c.args.case.now.guards.rows.items h.guards))) c.if-not-are_differences.true
