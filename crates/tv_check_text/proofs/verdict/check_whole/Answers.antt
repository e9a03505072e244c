use Rattle.std.proofs.Common.{[], ◌∷◌, subst, arith}
use Rattle.tv_lines.specs.Lines.{formed}
use Rattle.tv_lines.specs.declared.head.Head.TheVariants as heads
use Rattle.tv_cases.specs.Systems.{cases_of}
use Rattle.tv_cert_reader.specs.Reading.{Takes}
use Rattle.tv_cert_reader.specs.Texts.{sides_of}
use Rattle.tv_cert_reader.proofs.ReadingLemmas.{at_exit}
use Rattle.tv_cert_reader.proofs.ReadLemmas.{opening_fails, saying_fails}
use Rattle.tv_check_text.specs.Verdicts.{ChecksWhole}
use Rattle.tv_check_text.proofs.verdict.check_whole.Goals as goal
use Rattle.tv_cases.proofs.BeforeValue.{no_columns}

pub returns-in_err-numbers : goal.returns-in_err-numbers
returns-in_err-numbers c =
    let system = cases_of c.args.context.now.about.now in
    let sides = sides_of c.args.claim.now in
    let a = c.args.context.now.about.now.are_cases.starts in
    at_exit (ChecksWhole system sides c.args.walk.now _) c.from_residual.result c.in_err-numbers.field-0.0 c.from_residual.ensures.1
    (opening_fails system (omega (arith, a)) sides c.args.walk.now.cursor c.in_err-numbers.field-0.0 c.in_err-numbers.ensures)

pub returns-in_err-says_proved : goal.returns-in_err-says_proved
returns-in_err-says_proved c =
    let system = cases_of c.args.context.now.about.now in
    let sides = sides_of c.args.claim.now in
    let a = c.args.context.now.about.now.are_cases.starts in
    let none = no_columns c.in_ok-numbers.field-0.items c.in_ok-numbers.ensures.0.many in
    at_exit (ChecksWhole system sides c.args.walk.now _) c.from_residual-in_err-says_proved.result c.in_err-says_proved.field-0.0 c.from_residual-in_err-says_proved.ensures.1
    (saying_fails system (omega (arith, a)) sides c.args.walk.now.cursor c.numbers.new.cursor c.in_err-says_proved.field-0.0
    (subst (λ zs. Takes (formed heads.Header zs ∷ []) c.args.walk.now.cursor c.numbers.new.cursor) none c.in_ok-numbers.ensures.1) c.in_err-says_proved.ensures)
