use Rattle.std.proofs.Common.{ℕ, ◌<◌, List, length, take, sym, ◌∙◌, subst}
use Rattle.tv_text.specs.Stream.{Took}
use Rattle.tv_text.proofs.StreamLemmas.{took_nothing}
use Rattle.tv_top.specs.declared.answer.Answer.TheVariants.{Memory}
use Rattle.tv_top.specs.Headline.{without_memory, IsWritten, whole, front}
use Rattle.tv_top.proofs.Asking.{came}
use Rattle.tv_top.proofs.running.run.Goals as goal

pub returns-in-Err-clause-headline : goal.returns-in-Err-clause-headline
returns-in-Err-clause-headline g c = record {
  answer = Memory;
  is_answer = without_memory (came _ _ _ _ c.answer_to-answer.ensures.answer);
  is_written = whole (took_nothing (g.K.Sink.seen c.args.sink.now));
}

pub returns-in-Ok-write_all-clause-headline : goal.returns-in-Ok-write_all-clause-headline
returns-in-Ok-write_all-clause-headline g c =
    let old = g.K.Sink.seen c.args.sink.now in
    let new = g.K.Sink.seen c.write_all.new.sink in
    let answer = c.answer_to-answer.result in
    let lines = c.deref.ensures.value ∙ c.in-Ok.ensures in
    record {
      answer = answer;
      is_answer = c.answer_to-answer.ensures.answer;
      is_written = subst (λ status. IsWritten old new answer status) (sym c.status.ensures) (whole (subst (λ (bytes : List ℕ). Took old new bytes) lines c.in-Ok-write_all.ensures.all));
    }

pub returns-clause-headline : goal.returns-clause-headline
returns-clause-headline g c =
    let old = g.K.Sink.seen c.args.sink.now in
    let new = g.K.Sink.seen c.write_all.new.sink in
    let lines = c.deref.ensures.value ∙ c.in-Ok.ensures in
    let some = c.in-Err-write_all.ensures.front in
    record {
      answer = c.answer_to-answer.result;
      is_answer = c.answer_to-answer.ensures.answer;
      is_written = front some.0 (subst (λ (bytes : List ℕ). some.0 < length bytes) lines some.1) (subst (λ (bytes : List ℕ). Took old new (take some.0 bytes)) lines some.2);
    }
