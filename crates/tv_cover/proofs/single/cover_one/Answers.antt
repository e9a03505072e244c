use Rattle.tv_cover.proofs.SingleLemmas.{one_target, covered_one}
use Rattle.tv_cover.proofs.single.cover_one.Goals as goal

pub returns-in-Ok-clause-answers : goal.returns-in-Ok-clause-answers
returns-in-Ok-clause-answers c =
    let e = one_target _ _ _ _ c.deref.ensures.value c.in_ok-push_item.ensures c.new-targets.ensures.items in
    let h = c.in-Ok.ensures in
    covered_one c.args.ambient.now.columns c.args.budget.now.splits c.args.ambient.now.rows.items c.args.target.items _ c.in-Ok.covered e c.requires.splits h.answers h.shallow h.short h.split_rows
