use Rattle.std.proofs.Common.{◌∙◌, ap, refl, sym, subst}
use Rattle.tv_linear.specs.Known.{as_given}
use Rattle.tv_linear.specs.Refutation.{Refutes}
use Rattle.tv_farkas.specs.Refuting.{AreShort, IsRefuted, IsShortRefuted}
use Rattle.tv_farkas.specs.Stretching.{stretched}
use Rattle.tv_farkas.proofs.StretchLemmas.{stretched_short}
use Rattle.tv_cover.proofs.stepping.next_step.Goals as goal

pub returns-in_ok-all-in-Ok-Empty : goal.returns-in_ok-all-in-Ok-Empty
returns-in_ok-all-in-Ok-Empty c =
    let n = c.args.question.now.columns in
    let marks = c.args.question.now.repeated.now in
    let ms = c.in-Ok-Empty.multipliers.items in
    let h : Refutes n (as_given c.deref.result.now) ms = subst (λ r. IsRefuted n c.deref.result.now r) c.in-Ok-Empty.field-0-is c.in-Ok-Empty.ensures.answers in
    let s = subst (λ r. IsShortRefuted r) c.in-Ok-Empty.field-0-is c.in-Ok-Empty.ensures.short in
    let e = c.in_ok-all-in-Ok-Empty.ensures ∙ ap (λ m. stretched marks m) (c.deref-in-Ok-Empty-2.ensures.value ∙ c.in_ok-short-in-Ok-Empty.ensures ∙ c.deref-in-Ok-Empty.ensures.value) in (
      refl,
      record {
        short = subst (λ m. AreShort m) (sym e) (stretched_short marks ms s);
        multipliers = ms;
        refutes = subst (λ k. Refutes n (as_given k) ms) c.deref.ensures.value h;
        stretch = e;
      },
    )
