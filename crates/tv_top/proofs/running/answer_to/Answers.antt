use Rattle.std.proofs.Common.{◌∙◌, [], sym, ap, refl}
use Rattle.std.specs.Prelude.{option_map}
use Rattle.tv_text.proofs.StreamLemmas.{gave_nothing}
use Rattle.tv_top.specs.Headline.{unasked, without_memory}
use Rattle.tv_top.specs.Views.{task_view}
use Rattle.tv_top.proofs.running.answer_to.Goals as goal

pub returns-in-Ok-None-clause-answer : goal.returns-in-Ok-None-clause-answer
returns-in-Ok-None-clause-answer g c = unasked (sym c.in-Ok-None.ensures ∙ ap (option_map task_view) c.in-Ok-None.field-0-is) refl

pub returns-in-Err-clause-answer : goal.returns-in-Err-clause-answer
returns-in-Err-clause-answer g c = without_memory (record { bytes = []; gave = gave_nothing (g.S.Source.seen c.args.source.now) })
