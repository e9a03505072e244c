use Rattle.std.proofs.Common.{length}
use Rattle.tv_refute.specs.Built.{change_of}
use Rattle.tv_refute.specs.Frames.{known_at}
use Rattle.tv_cert.specs.Shapes.{owed_count}
use Rattle.tv_cert_reader.proofs.CoverLemmas.{target_stops}
use Rattle.tv_cert.specs.Entering.{entered_listed}
use Rattle.tv_cert.specs.TargetViews.{owed_at}
use Rattle.tv_check_text.proofs.TreeLemmas.{names_none, into_checks}
use Rattle.tv_check_text.proofs.covers.Covering.is_shown.Goals as goal

pub returns-in_default : goal.returns-in_default
returns-in_default c = λ left old at.
    let s = c.args.self.now in
    let owed = owed_at (change_of s.change.now) s.targets.now in
    target_stops s.columns (owed_count owed) (length (known_at c.args.frames.now)) left old c.args.cursor.now c.args.numbers.now at (names_none owed c.args.numbers.now (c.in_default.ensures (change_of s.change.now)))

pub returns : goal.returns
returns c = λ left old at.
    let s = c.args.self.now in
    let owed = owed_at (change_of s.change.now) s.targets.now in
    let e = c.in-Some.ensures (change_of s.change.now) in
    into_checks s.columns owed (known_at c.args.frames.now) left old c.args.cursor.now c.args.numbers.now at e.target e.fall (entered_listed (change_of s.change.now) c.in-Some.entered) e.numbers e.owes s.alloc c.rows_are_shown.new.cursor c.rows_are_shown.result c.rows_are_shown.ensures
