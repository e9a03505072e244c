use Rattle.std.proofs.Common.{◌≡◌, All, ◌∙◌, sym, subst, ap}
use Rattle.std.specs.Int.{w128}
use Rattle.std.proofs.lemmas.Int.{to_z-of_z}
use Rattle.tv_linear.specs.Linear.{IsWithin, columns as width, IsScaledPoint}
use Rattle.tv_linear.specs.Known.{as_given}
use Rattle.tv_linear.specs.Refutation.{Refutes}
use Rattle.tv_simplex.proofs.AnswerLemmas.{short_fits}
use Rattle.tv_farkas.specs.RefutationSystem.{IsPointOf}
use Rattle.tv_farkas.specs.Refuting.{IsRefusal, IsRefuted, GivesRefuted, IsShortRefuted}
use Rattle.tv_farkas.specs.Stretching.{stretched}
use Rattle.tv_farkas.specs.Judging.{AreJudging, IsPointAt}
use Rattle.tv_farkas.proofs.TakenLemmas.{kept_even}
use Rattle.tv_farkas.proofs.StretchLemmas.{stretched_all, stretched_short, short_all}
use Rattle.tv_farkas.proofs.JudgeLemmas.{point_at, judge_refuses}
use Rattle.tv_farkas.proofs.judging.judge.Goals as goal

pub refute-requires-clause-even : goal.refute-requires-clause-even
refute-requires-clause-even c =
    subst (λ rs. All (λ r. width r ≡ c.args.columns) rs) (sym c.deref.ensures.value) (kept_even c.args.columns _ c.args.rows.now c.in_ok-kept.field-0.rows.items c.in_ok-kept.ensures.marked c.requires.even)

pub shortened-requires : goal.shortened-requires
shortened-requires c =
    let s = subst (λ r. IsShortRefuted r) c.in-Ok-Empty.field-0-is c.in-Ok-Empty.ensures.short in
    subst (λ rs. All (IsWithin 62) rs) (sym c.deref-in-Ok-Empty.ensures.value) (short_all c.in-Ok-Empty.multipliers.items s)

pub returns-in-Ok-Empty : goal.returns-in-Ok-Empty
returns-in-Ok-Empty c =
    let n = c.args.columns in
    let h : Refutes n (as_given c.deref.result.now) c.in-Ok-Empty.multipliers.items = subst (λ r. IsRefuted n c.deref.result.now r) c.in-Ok-Empty.field-0-is c.in-Ok-Empty.ensures.answers in
    let s = subst (λ r. IsShortRefuted r) c.in-Ok-Empty.field-0-is c.in-Ok-Empty.ensures.short in
    let g = subst (λ k. Refutes n (as_given k) c.in-Ok-Empty.multipliers.items) c.deref.ensures.value h in
    let marks = c.in_ok-kept.field-0.repeated.items in
    let a = stretched_all n marks c.args.rows.now c.in_ok-kept.field-0.rows.items c.in-Ok-Empty.multipliers.items c.in_ok-kept.ensures.marked g in
    let e = c.in_ok-all-in-Ok-Empty.ensures ∙ (λ i. stretched (c.deref-in-Ok-Empty-2.ensures.value i) (c.deref-in-Ok-Empty-3.ensures.value i)) ∙ ap (λ m. stretched marks m) (c.in_ok-short-in-Ok-Empty.ensures ∙ c.deref-in-Ok-Empty.ensures.value) in
    record { answers = subst (λ m. AreJudging n c.args.rows.now m) (sym e) record { refutes = a; short = stretched_short marks c.in-Ok-Empty.multipliers.items s }; refusals = tt }

pub returns-in-Ok-Point : goal.returns-in-Ok-Point
returns-in-Ok-Point c =
    let n = c.args.columns in
    let rows = c.args.rows.now in
    let kept = c.in_ok-kept.field-0.rows.items in
    let v = c.in-Ok-Point.values.items in
    let z = c.in-Ok-Point.scale in
    let same = c.deref.ensures.value in
    let answers = subst (λ r. IsRefuted n c.deref.result.now r) c.in-Ok-Point.field-0-is c.in-Ok-Point.ensures.answers in
    let gives = subst (λ r. GivesRefuted n c.deref.result.now r) c.in-Ok-Point.field-0-is c.in-Ok-Point.ensures.last in
    let short = subst (λ r. IsShortRefuted r) c.in-Ok-Point.field-0-is c.in-Ok-Point.ensures.short in
    let e = to_z-of_z w128 z (short_fits z short.1) in
    record {
      answers = subst (λ y. IsPointAt n rows v y) (sym e)
          (point_at n rows kept v z c.in_ok-kept.ensures.taken (subst (λ k. IsPointOf n k v z) same gives) (subst (λ k. IsScaledPoint k v z) same answers.1) short.0 short.1);
      refusals = tt;
    }

pub returns-clause-refusals : goal.returns-clause-refusals
returns-clause-refusals c =
    judge_refuses c.args.columns c.args.pivots c.args.rows.now c.in_ok-kept.field-0.rows.items c.in-Err.fault c.unsolved.result c.in_ok-kept.ensures.taken
    (subst (λ rs. IsRefusal c.args.columns rs c.args.pivots c.in-Err.fault) c.deref.ensures.value c.in-Err.ensures.refusals) c.unsolved.ensures
