use Rattle.std.proofs.Common.{sym, subst}
use Rattle.tv_cert.specs.AimViews.{aims_state}
use Rattle.tv_pre.specs.Tame.{IsOfDifferencesIn, AreOfDifferencesIn}
use Rattle.tv_pre.proofs.EqualityLemmas.{each_is, one_is}
use Rattle.tv_pre.proofs.TameAims.{all_in, in_all, aims_more, whole_aims}
use Rattle.tv_pre.proofs.tame.+tame.Goals as goal

pub are_aims_of_differences-aims-preserved : goal.are_aims_of_differences-aims-preserved
are_aims_of_differences-aims-preserved t c =
    aims_more c.args.aims.now c.aims.aim-index c.aim-item.result c.aims-test.true c.aim-item.is c.aims.invariant
    (c.is_aim_of_differences.ensures.found c.if-not-is_aim_of_differences.false)

pub are_aims_of_differences-returns-clause-found : goal.are_aims_of_differences-returns-clause-found
are_aims_of_differences-returns-clause-found t c = λ h. whole_aims c.args.aims.now c.aims.aim-index c.aims-test.false c.aims.invariant

pub is_aim_of_differences-returns-in-EachOf-clause-found : goal.is_aim_of_differences-returns-in-EachOf-clause-found
is_aim_of_differences-returns-in-EachOf-clause-found t c = λ h.
    let told = all_in c.deref-in-EachOf.result.now (c.are_aims_of_differences.ensures.found h) in
    subst IsOfDifferencesIn (sym (each_is c.args.aim.now c.in-EachOf.aims c.in-EachOf.is))
    (subst (λ xs. AreOfDifferencesIn (aims_state xs)) c.deref-in-EachOf.ensures.value told)

pub is_aim_of_differences-returns-in-EachOf-clause-all : goal.is_aim_of_differences-returns-in-EachOf-clause-all
is_aim_of_differences-returns-in-EachOf-clause-all t c = λ h.
    let told = subst IsOfDifferencesIn (each_is c.args.aim.now c.in-EachOf.aims c.in-EachOf.is) h in
    c.are_aims_of_differences.ensures.all
    (in_all c.deref-in-EachOf.result.now (subst (λ xs. AreOfDifferencesIn (aims_state xs)) (sym c.deref-in-EachOf.ensures.value) told))

pub is_aim_of_differences-returns-in-OneOf-clause-found : goal.is_aim_of_differences-returns-in-OneOf-clause-found
is_aim_of_differences-returns-in-OneOf-clause-found t c = λ h.
    let told = all_in c.deref-in-OneOf.result.now (c.are_aims_of_differences-in-OneOf.ensures.found h) in
    subst IsOfDifferencesIn (sym (one_is c.args.aim.now c.in-OneOf.aims c.in-OneOf.is))
    (subst (λ xs. AreOfDifferencesIn (aims_state xs)) c.deref-in-OneOf.ensures.value told)

pub is_aim_of_differences-returns-in-OneOf-clause-all : goal.is_aim_of_differences-returns-in-OneOf-clause-all
is_aim_of_differences-returns-in-OneOf-clause-all t c = λ h.
    let told = subst IsOfDifferencesIn (one_is c.args.aim.now c.in-OneOf.aims c.in-OneOf.is) h in
    c.are_aims_of_differences-in-OneOf.ensures.all
    (in_all c.deref-in-OneOf.result.now (subst (λ xs. AreOfDifferencesIn (aims_state xs)) (sym c.deref-in-OneOf.ensures.value) told))
