use Rattle.std.proofs.Common.{refl}
use Rattle.tv_cert.specs.TargetViews.{counts_of}
use Rattle.tv_cert_reader.specs.Covers.{ReadsTree}
use Rattle.tv_cert_reader.proofs.ReadingLemmas.{at_exit}
use Rattle.tv_cert_reader.proofs.CoverLemmas.{target_stops, lists_stop, into_read}
use Rattle.tv_cert_reader.proofs.context.Context.entered.Goals as goal

pub returns-in_default : goal.returns-in_default
returns-in_default c = λ width left old at. target_stops width (counts_of c.args.targets.now) c.args.known left old c.args.cursor.now c.args.numbers.now at c.in_default.ensures

pub returns-in_err-refutations : goal.returns-in_err-refutations
returns-in_err-refutations c = λ width left old at.
    at_exit (ReadsTree width (counts_of c.args.targets.now) c.args.known left old c.lists.new.cursor) c.from_residual.result c.in_err-refutations.field-0.0 c.from_residual.ensures.1
    (lists_stop width (counts_of c.args.targets.now) c.args.known left old c.args.cursor.now c.args.numbers.now at c.in-Some.target c.in-Some.fall c.in-Some.owed c.in-Some.ensures c.in_err-refutations.field-0.0 c.in_err-refutations.ensures)

pub returns : goal.returns
returns c = λ width left old at.
    into_read width (counts_of c.args.targets.now) c.args.known left old c.args.cursor.now c.args.numbers.now at c.in-Some.target c.in-Some.fall c.in-Some.owed c.in-Some.ensures c.in_ok-refutations.refutations c.lists.new.cursor c.in_ok-refutations.ensures.0 c.in_ok-refutations.ensures.1 _ refl
