use Rattle.std.proofs.Common.{◌≡◌, Bool, true, false, Ok, ap, sym, subst, ◌∙◌}
use Rattle.std.proofs.lemmas.Result.{err_from_is_err_and}
use Rattle.tv_program.specs.Views.{expression}
use Rattle.tv_grammar.specs.Reads.{fault}
use Rattle.tv_reading.specs.SumGrammar.{every, sum_at}
use Rattle.tv_reader.specs.Readers.{Steady, IsSteady}
use Rattle.tv_reader.proofs.StepLemmas.{left_of}
use Rattle.tv_reading.proofs.PassedLemmas.{passes_kept}
use Rattle.tv_reader.proofs.CallLemmas.{fixture_of, same_fixture, sum_found, sum_refused}
use Rattle.tv_reader.proofs.reader.Reader.sum.Goals as goal

pub returns-clause-steady : goal.returns-clause-steady
returns-clause-steady c =
    let r = c.args.self.now in
    let u = c.sum.new.self in
    let w : Steady false r.reading = subst (λ (b : Bool). Steady b r.reading) c.requires.behind c.requires.steady.reads in
    let f = sum_found r.labels r.reading u c.sum.ensures.passed w c.in_ok-sum.field-0 c.in_ok-sum.ensures.reads in
    record { text = c.requires.steady.text ∙ sym (passes_kept r.reading u c.sum.ensures.passed).text; reads = subst (λ (b : Bool). Steady b u) (sym c.requires.behind) f.went.steady }

pub returns-clause-kept : goal.returns-clause-kept
returns-clause-kept c = λ x is.
    let r = c.args.self.now in
    let u = c.sum.new.self in
    let w : Steady false r.reading = subst (λ (b : Bool). Steady b r.reading) c.requires.behind c.requires.steady.reads in
    let f = sum_found r.labels r.reading u c.sum.ensures.passed w c.in_ok-sum.field-0 c.in_ok-sum.ensures.reads in
    same_fixture r.labels r.reading u c.sum.ensures.passed f.went ∙ is

pub returns-clause-reads : goal.returns-clause-reads
returns-clause-reads c =
    let r = c.args.self.now in
    let u = c.sum.new.self in
    let w : Steady false r.reading = subst (λ (b : Bool). Steady b r.reading) c.requires.behind c.requires.steady.reads in
    let f = sum_found r.labels r.reading u c.sum.ensures.passed w c.in_ok-sum.field-0 c.in_ok-sum.ensures.reads in
    ap (λ (b : Bool). (sum_at every 64 true).read (left_of r.labels b r.reading)) c.requires.behind ∙ f.read ∙ ap (λ (b : Bool). Ok (expression c.in_ok-sum.field-0, left_of r.labels b u)) (sym c.requires.behind)

pub returns-clause-draws : goal.returns-clause-draws
returns-clause-draws c =
    let r = c.args.self.now in
    let u = c.sum.new.self in
    let w : Steady false r.reading = subst (λ (b : Bool). Steady b r.reading) c.requires.behind c.requires.steady.reads in
    let f = sum_found r.labels r.reading u c.sum.ensures.passed w c.in_ok-sum.field-0 c.in_ok-sum.ensures.reads in
    f.draws

pub returns-in_err-sum-clause-steady : goal.returns-in_err-sum-clause-steady
returns-in_err-sum-clause-steady c =
    let r = c.args.self.now in
    let u = c.sum.new.self in
    let w : Steady false r.reading = subst (λ (b : Bool). Steady b r.reading) c.requires.behind c.requires.steady.reads in
    let p = err_from_is_err_and c.from_residual.result c.from_residual.ensures.1 in
    rw (p.1, p.2) (sum_refused r.labels r.reading u c.sum.ensures.passed w (λ k. IsSteady (record r { reading = u })) (λ k went e. record { text = c.requires.steady.text ∙ sym (passes_kept r.reading u c.sum.ensures.passed).text; reads = subst (λ (b : Bool). Steady b u) (sym c.requires.behind) went.steady }) c.in_err-sum.field-0.0 c.in_err-sum.ensures.reads)

pub returns-in_err-sum-clause-kept : goal.returns-in_err-sum-clause-kept
returns-in_err-sum-clause-kept c = λ x is.
    let r = c.args.self.now in
    let u = c.sum.new.self in
    let w : Steady false r.reading = subst (λ (b : Bool). Steady b r.reading) c.requires.behind c.requires.steady.reads in
    let p = err_from_is_err_and c.from_residual.result c.from_residual.ensures.1 in
    rw (p.1, p.2) (sum_refused r.labels r.reading u c.sum.ensures.passed w (λ k. fixture_of r.labels u ≡ x) (λ k went e. same_fixture r.labels r.reading u c.sum.ensures.passed went ∙ is) c.in_err-sum.field-0.0 c.in_err-sum.ensures.reads)

pub returns-in_err-sum-clause-reads : goal.returns-in_err-sum-clause-reads
returns-in_err-sum-clause-reads c =
    let r = c.args.self.now in
    let u = c.sum.new.self in
    let w : Steady false r.reading = subst (λ (b : Bool). Steady b r.reading) c.requires.behind c.requires.steady.reads in
    let p = err_from_is_err_and c.from_residual.result c.from_residual.ensures.1 in
    rw (p.1, p.2) (sum_refused r.labels r.reading u c.sum.ensures.passed w (λ k. (sum_at every 64 true).read (left_of r.labels r.behind_colon r.reading) ≡ fault k (left_of r.labels r.behind_colon u)) (λ k went e. ap (λ (b : Bool). (sum_at every 64 true).read (left_of r.labels b r.reading)) c.requires.behind ∙ e ∙ ap (λ (b : Bool). fault k (left_of r.labels b u)) (sym c.requires.behind)) c.in_err-sum.field-0.0 c.in_err-sum.ensures.reads)
