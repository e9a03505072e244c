use Rattle.std.proofs.Common.{◌≡◌, ◌≤◌, ap, ◌∙◌, Err, length, rules, subst}
use Rattle.std.specs.Prelude.{◌↔◌, ◌<◌}
use Rattle.tv_text.specs.Stream.{count_passed}
use Rattle.tv_text.specs.declared.reading.ReadError.{ReadError}
use Rattle.tv_top.specs.Headline.{too_long, decided, failed, without_memory, most_bytes}
use Rattle.tv_top.proofs.Asking.{above, means_same}
use Rattle.tv_top.proofs.running.answered.Goals as goal

pub returns-in-Ok-clause-answer : goal.returns-in-Ok-clause-answer
returns-in-Ok-clause-answer g c = λ words asks.
    let short : length c.in-Ok.bytes.items ≤ most_bytes c.args.task.now.checks = search rules in
    decided c.in-Ok.bytes.items asks c.requires c.in-Ok.ensures.whole c.in-Ok.ensures.end short (means_same _ _ _ _ c.decide.result c.deref.ensures.value c.decide.ensures)

pub returns-in-Err-Fault-clause-answer : goal.returns-in-Err-Fault-clause-answer
returns-in-Err-Fault-clause-answer g c = λ words asks. failed asks c.requires c.read_all.ensures.lost

pub returns-in-Err-TooLong-clause-answer : goal.returns-in-Err-TooLong-clause-answer
returns-in-Err-TooLong-clause-answer g c = λ words asks.
    let old = g.S.Source.seen c.args.source.now in
    let new = g.S.Source.seen c.read_all.new.source in
    let is : (c.read_all.result ≡ Err ReadError.TooLong) ↔ (most_bytes c.args.task.now.checks < count_passed old new) =
    subst (λ most. (c.read_all.result ≡ Err ReadError.TooLong) ↔ (most < count_passed old new)) c.most_bytes.ensures c.read_all.ensures.long in
    let long = above (most_bytes c.args.task.now.checks) (c.read_all.result ≡ Err ReadError.TooLong) old new c.read_all.ensures.lost is (c.in-Err-TooLong.is ∙ ap (λ e. Err e) c.in-Err-TooLong.field-0-is) in
    too_long asks c.requires long.0 long.1 long.2

pub returns-in-Err-Memory-clause-answer : goal.returns-in-Err-Memory-clause-answer
returns-in-Err-Memory-clause-answer g c = λ words asks. without_memory c.read_all.ensures.lost
