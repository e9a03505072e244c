use Rattle.std.proofs.Common.{◌↔◌, ◌+◌, IsTrue, arith, subst}
use Rattle.tv_refute.specs.Frames.{known_at}
use Rattle.tv_cert_reader.specs.declared.number_line.NumberLine.TheVariants.{By}
use Rattle.tv_cert_reader.specs.NumberLines.{line_with}
use Rattle.tv_cert_reader.specs.Reading.{FailsBy}
use Rattle.tv_cert_reader.specs.Parts.{AreNumbers}
use Rattle.tv_cert_reader.proofs.ReadingLemmas.{at_exit}
use Rattle.tv_check_text.specs.Checking.{ChecksLists}
use Rattle.tv_cert.specs.Entering.{owed_listed, ShowsRow}
use Rattle.tv_check_text.proofs.ShownLemmas.{lines_fail, lines_end, shown_next, joined_true, joined_false}
use Rattle.tv_check_text.proofs.shown.rows_are_shown.Goals as goal
use Rattle.tv_check_text.proofs.shown.rows_are_shown.Goals.{then-met, else-met}

pub returns-in_err-multipliers : goal.returns-in_err-multipliers
returns-in_err-multipliers c =
    let known = known_at c.args.frames.now in
    let rows = owed_listed c.args.owed.now in
    let f = c.in_err-multipliers.field-0.0 in
    at_exit (ChecksLists c.args.columns known rows c.args.cursor.now c.numbers.new.cursor) c.from_residual.result f c.from_residual.ensures.1
    (lines_fail c.args.columns known rows c.args.cursor.now c.rows.place c.rows.cursor c.rows.met c.rows.invariant f (let a = c.rows-test.true in let b = c.count-place-end.ensures in omega (arith, a, b))
    (subst (λ n. FailsBy (line_with By (n + 1)) c.rows.cursor f) c.requires.counted c.in_err-multipliers.ensures))

pub rows-preserved : goal.rows-preserved
rows-preserved c =
    let known = known_at c.args.frames.now in
    let rows = owed_listed c.args.owed.now in
    let ms = c.in_ok-multipliers.multipliers in
    let both : IsTrue c.if-met.met ↔ (IsTrue c.rows.met × IsTrue c.is_shown-shown.result) = elim c.if-met.branch [
      | then-met w ↦ joined_true c.rows.met c.is_shown-shown.result c.if-met.met w.if-met.true w.met-is
      | else-met w ↦ joined_false c.rows.met c.is_shown-shown.result c.if-met.met w.if-met.false w.met-is
    ] in
    shown_next c.args.columns known rows c.args.cursor.now c.rows.place c.rows.cursor c.rows.met c.rows.invariant c.numbers.new.cursor ms (subst (λ n. AreNumbers (n + 1) ms.items) c.requires.counted c.in_ok-multipliers.ensures.0) c.in_ok-multipliers.ensures.1
    (let a = c.rows-test.true in let b = c.count-place-end.ensures in omega (arith, a, b)) c.is_shown-shown.result (subst (λ zs. ShowsRow c.args.columns known rows c.rows.place zs c.is_shown-shown.result) c.deref.ensures.value c.is_shown-shown.ensures) c.if-met.met both

pub returns : goal.returns
returns c = lines_end c.args.columns (known_at c.args.frames.now) (owed_listed c.args.owed.now) c.args.cursor.now c.rows.place c.rows.cursor c.rows.met c.rows.invariant (let a = c.rows-test.false in let b = c.count-place-end.ensures in omega (arith, a, b))
