use Rattle.std.proofs.Common.{[], length, refl, sym, ap, ◌∙◌, subst, arith}
use Rattle.tv_lines.specs.Lines.{formed}
use Rattle.tv_lines.specs.declared.head.Head.TheVariants as heads
use Rattle.tv_cases.specs.Systems.{cases_of}
use Rattle.tv_cert_reader.specs.Wholes.{says, said_head}
use Rattle.std.specs.Prelude.{IfErr}
use Rattle.tv_cert_reader.specs.Texts.{IsRefusedText}
use Rattle.tv_cert_reader.proofs.ReadingLemmas.{at_exit}
use Rattle.tv_cert_reader.proofs.FitLemmas.{read_fits, read_lines}
use Rattle.tv_cert_reader.proofs.FitLines.{AreFit, behind_two, text_fit}
use Rattle.tv_cert_reader.proofs.ReadLemmas.{lines_few, found, refused}
use Rattle.tv_cert_reader.proofs.read.read_certificate.Goals as goal

pub invariant_of-cursor : goal.invariant_of-cursor
invariant_of-cursor c = record {
  room = (let f = lines_few c.args.text.now in let e = ap length c.new.ensures in let r = c.requires.bounded in omega (arith, f, e, r));
}

pub certified-requires-clause-fits : goal.certified-requires-clause-fits
certified-requires-clause-fits c =
    read_fits (cases_of c.args.about.now) c.args.claim.now c.requires.variables c.in_ok-root.ensures.0 c.in_ok-root.root c.in_ok-root.verdict c.in_ok-root.ensures.2
    (behind_two (formed heads.Header []) (said_head (says c.in_ok-root.verdict)) c.in_ok-root.ensures.0 (subst AreFit (sym c.new.ensures ∙ c.in_ok-root.ensures.1) (text_fit c.args.text.now)))

pub returns-clause-found : goal.returns-clause-found
returns-clause-found c =
    let system = cases_of c.args.about.now in
    let a = c.args.about.now.are_cases.starts in
    found system (omega (arith, a)) c.args.claim.now c.requires.variables c.args.text.now c.in_ok-root.root c.in_ok-root.verdict c.certified.result
    (sym c.new.ensures ∙ c.in_ok-root.ensures.1 ∙ read_lines system c.args.claim.now c.requires.variables c.in_ok-root.ensures.0 c.in_ok-root.root c.in_ok-root.verdict c.in_ok-root.ensures.2) c.certified.ensures

pub returns-in_err-root-clause-refused : goal.returns-in_err-root-clause-refused
returns-in_err-root-clause-refused c =
    let system = cases_of c.args.about.now in
    let a = c.args.about.now.are_cases.starts in
    at_exit (λ r. IfErr r (λ f. IsRefusedText system c.args.claim.now c.args.text.now f)) c.from_residual.result c.in_err-root.field-0.0 c.from_residual.ensures.1
    (refused system (omega (arith, a)) c.args.claim.now c.requires.variables c.args.text.now c.in_err-root.field-0.0
    (record { lines = c.new.result; taken = 0; room = (let f = lines_few c.args.text.now in let e = ap length c.new.ensures in let r = c.requires.bounded in omega (arith, f, e, r)) }) c.new.ensures refl c.in_err-root.ensures)
