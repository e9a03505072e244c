use Rattle.std.proofs.Common.{◌≡◌, Bool, false, Ok, ap, sym, subst, ◌∙◌}
use Rattle.std.proofs.lemmas.Result.{err_from_is_err_and}
use Rattle.tv_program.specs.Views.{condition}
use Rattle.tv_grammar.specs.Reads.{fault}
use Rattle.tv_reading.specs.SumGrammar.{every}
use Rattle.tv_reading.specs.ConditionGrammar.{condition_at}
use Rattle.tv_reader.specs.Readers.{Steady, IsSteady}
use Rattle.tv_reader.proofs.StepLemmas.{left_of}
use Rattle.tv_reading.proofs.PassedLemmas.{passes_kept}
use Rattle.tv_reader.proofs.CallLemmas.{fixture_of, same_fixture, condition_found, condition_refused}
use Rattle.tv_reader.proofs.reader.Reader.condition.Goals as goal

pub returns-clause-steady : goal.returns-clause-steady
returns-clause-steady c =
    let r = c.args.self.now in
    let u = c.condition.new.self in
    let w : Steady false r.reading = subst (λ (b : Bool). Steady b r.reading) c.requires.behind c.requires.steady.reads in
    let f = condition_found r.labels r.reading u c.condition.ensures.passed w c.in_ok-condition.field-0 c.in_ok-condition.ensures.reads in
    record { text = c.requires.steady.text ∙ sym (passes_kept r.reading u c.condition.ensures.passed).text; reads = subst (λ (b : Bool). Steady b u) (sym c.requires.behind) f.went.steady }

pub returns-clause-kept : goal.returns-clause-kept
returns-clause-kept c = λ x is.
    let r = c.args.self.now in
    let u = c.condition.new.self in
    let w : Steady false r.reading = subst (λ (b : Bool). Steady b r.reading) c.requires.behind c.requires.steady.reads in
    let f = condition_found r.labels r.reading u c.condition.ensures.passed w c.in_ok-condition.field-0 c.in_ok-condition.ensures.reads in
    same_fixture r.labels r.reading u c.condition.ensures.passed f.went ∙ is

pub returns-clause-reads : goal.returns-clause-reads
returns-clause-reads c =
    let r = c.args.self.now in
    let u = c.condition.new.self in
    let w : Steady false r.reading = subst (λ (b : Bool). Steady b r.reading) c.requires.behind c.requires.steady.reads in
    let f = condition_found r.labels r.reading u c.condition.ensures.passed w c.in_ok-condition.field-0 c.in_ok-condition.ensures.reads in
    ap (λ (b : Bool). (condition_at every 63).read (left_of r.labels b r.reading)) c.requires.behind ∙ f.read ∙ ap (λ (b : Bool). Ok (condition c.in_ok-condition.field-0, left_of r.labels b u)) (sym c.requires.behind)

pub returns-clause-draws : goal.returns-clause-draws
returns-clause-draws c =
    let r = c.args.self.now in
    let u = c.condition.new.self in
    let w : Steady false r.reading = subst (λ (b : Bool). Steady b r.reading) c.requires.behind c.requires.steady.reads in
    let f = condition_found r.labels r.reading u c.condition.ensures.passed w c.in_ok-condition.field-0 c.in_ok-condition.ensures.reads in
    f.draws

pub returns-in_err-condition-clause-steady : goal.returns-in_err-condition-clause-steady
returns-in_err-condition-clause-steady c =
    let r = c.args.self.now in
    let u = c.condition.new.self in
    let w : Steady false r.reading = subst (λ (b : Bool). Steady b r.reading) c.requires.behind c.requires.steady.reads in
    let p = err_from_is_err_and c.from_residual.result c.from_residual.ensures.1 in
    rw (p.1, p.2) (condition_refused r.labels r.reading u c.condition.ensures.passed w (λ k. IsSteady (record r { reading = u })) (λ k went e. record { text = c.requires.steady.text ∙ sym (passes_kept r.reading u c.condition.ensures.passed).text; reads = subst (λ (b : Bool). Steady b u) (sym c.requires.behind) went.steady }) c.in_err-condition.field-0.0 c.in_err-condition.ensures.reads)

pub returns-in_err-condition-clause-kept : goal.returns-in_err-condition-clause-kept
returns-in_err-condition-clause-kept c = λ x is.
    let r = c.args.self.now in
    let u = c.condition.new.self in
    let w : Steady false r.reading = subst (λ (b : Bool). Steady b r.reading) c.requires.behind c.requires.steady.reads in
    let p = err_from_is_err_and c.from_residual.result c.from_residual.ensures.1 in
    rw (p.1, p.2) (condition_refused r.labels r.reading u c.condition.ensures.passed w (λ k. fixture_of r.labels u ≡ x) (λ k went e. same_fixture r.labels r.reading u c.condition.ensures.passed went ∙ is) c.in_err-condition.field-0.0 c.in_err-condition.ensures.reads)

pub returns-in_err-condition-clause-reads : goal.returns-in_err-condition-clause-reads
returns-in_err-condition-clause-reads c =
    let r = c.args.self.now in
    let u = c.condition.new.self in
    let w : Steady false r.reading = subst (λ (b : Bool). Steady b r.reading) c.requires.behind c.requires.steady.reads in
    let p = err_from_is_err_and c.from_residual.result c.from_residual.ensures.1 in
    rw (p.1, p.2) (condition_refused r.labels r.reading u c.condition.ensures.passed w (λ k. (condition_at every 63).read (left_of r.labels r.behind_colon r.reading) ≡ fault k (left_of r.labels r.behind_colon u)) (λ k went e. ap (λ (b : Bool). (condition_at every 63).read (left_of r.labels b r.reading)) c.requires.behind ∙ e ∙ ap (λ (b : Bool). fault k (left_of r.labels b u)) (sym c.requires.behind)) c.in_err-condition.field-0.0 c.in_err-condition.ensures.reads)
