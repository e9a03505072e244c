use Rattle.std.proofs.Common.{◌∙◌, ap, sym, subst}
use Rattle.tv_lexrank.specs.declared.shown.CaseShown.TheVariants.{Untaken, Falls}
use Rattle.tv_lexrank.specs.Falling.{put_in}
use Rattle.tv_lexrank.specs.More.{IsUnderMore}
use Rattle.tv_lexrank.proofs.MoreLemmas.{untaken_more, falls_more}
use Rattle.tv_lexrank.proofs.more.under_more.Goals as goal

pub returns-in_ok-multipliers-in-Untaken : goal.returns-in_ok-multipliers-in-Untaken
returns-in_ok-multipliers-in-Untaken c =
    let new = c.in_ok-multipliers-in-Untaken.multipliers in
    subst (λ s. IsUnderMore c.args.place c.args.many s (Untaken new)) (sym c.in-Untaken.is)
    (untaken_more c.args.place c.args.many c.in-Untaken.multipliers new (c.in_ok-multipliers-in-Untaken.ensures ∙ ap (put_in c.args.place c.args.many) c.deref.ensures.value))

pub returns-in_ok-fall-in-Falls : goal.returns-in_ok-fall-in-Falls
returns-in_ok-fall-in-Falls c =
    let new = c.in_ok-fall-in-Falls.fall in
    subst (λ s. IsUnderMore c.args.place c.args.many s (Falls new)) (sym c.in-Falls.is)
    (falls_more c.args.place c.args.many c.in-Falls.fall new c.in_ok-fall-in-Falls.ensures.number c.in_ok-fall-in-Falls.ensures.lines)
