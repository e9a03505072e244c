use Rattle.std.proofs.Common.{arith, take, drop}
use Rattle.std.proofs.lemmas.Grind.{common_steps}
use Rattle.tv_text.specs.Stream.{Took}
use Rattle.tv_text.proofs.StreamLemmas.{took_next}
use Rattle.tv_text.proofs.writing.write_all.Goals as goal

pub pieces-preserved : goal.pieces-preserved
pieces-preserved g c =
    let next : Took (g.K.Sink.seen c.pieces.sink) (g.K.Sink.seen c.write.new.self) (take c.in_ok-at.field-0 (drop c.pieces.at c.args.bytes.now)) = grind (arith, common_steps) in
    record {
      within = grind (arith, common_steps);
      took = took_next _ _ _ c.args.bytes.now c.pieces.at c.in_ok-at.field-0 c.pieces.invariant.took next;
      later = grind (arith, common_steps);
    }
