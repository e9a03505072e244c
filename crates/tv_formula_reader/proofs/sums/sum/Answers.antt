use Rattle.std.proofs.Common.{◌≡◌, ℕ, ◌-◌, length, ap, subst, ◌∙◌, arith, true, Ok, Err}
use Rattle.std.proofs.lemmas.Result.{err_from_is_err_and}
use Rattle.tv_program.specs.Views.{expression}
use Rattle.tv_reading.specs.Marks as marking
use Rattle.tv_reading.specs.Marks.{Stand, Passes}
use Rattle.tv_reading.specs.SumGrammar.{every, sum_at}
use Rattle.tv_reading.specs.Readings.{moved, sum_levels, IsKept, IsRead}
use Rattle.tv_formula_reader.proofs.SumRead.{sum_stays, sum_given, sum_refused, sum_at_end}
use Rattle.tv_formula_reader.proofs.sums.sum.Goals as goal

pub returns-then-at-source-clause-reads : goal.returns-then-at-source-clause-reads
returns-then-at-source-clause-reads c =
    let tokens = ap length c.requires.over.tokens in
    let inside = c.requires.over.inside in
    let at : c.place-at.result ≡ c.args.reading.now.at = c.place-at.ensures in
    sum_at_end c.args.source.now c.args.reading.now c.args.levels c.requires.over (omega arith)

pub returns-clause-reads : goal.returns-clause-reads
returns-clause-reads c =
    let s = c.args.reading.now in
    let inside = c.requires.over.inside in
    let at : c.place-at.result ≡ c.args.reading.now.at = c.place-at.ensures in
    let is : c.go.new.self ≡ moved s s.at (64 - c.args.levels) = c.go.ensures ∙ ap (λ (n : ℕ). moved s n (64 - c.args.levels)) at in
    sum_given c.args.source.now s c.sum.new.self (64 - c.args.levels) c.requires.over
    (subst (λ (g : Stand). IsKept g c.sum.new.self) is c.sum.ensures.kept) (subst (λ (g : Stand). Passes g c.sum.new.self) is c.sum.ensures.passed)
    c.args.levels (omega arith) (expression c.in_ok-sum.field-0)
    (subst (λ (g : Stand). (sum_at every (sum_levels g) true).read (marking.left g) ≡ Ok (expression c.in_ok-sum.field-0, marking.left c.sum.new.self)) is c.in_ok-sum.ensures.reads)

pub returns-clause-stays : goal.returns-clause-stays
returns-clause-stays c =
    let s = c.args.reading.now in
    let inside = c.requires.over.inside in
    let at : c.place-at.result ≡ c.args.reading.now.at = c.place-at.ensures in
    let is : c.go.new.self ≡ moved s s.at (64 - c.args.levels) = c.go.ensures ∙ ap (λ (n : ℕ). moved s n (64 - c.args.levels)) at in
    sum_stays c.args.source.now s c.sum.new.self (64 - c.args.levels) c.requires.over
    (subst (λ (g : Stand). IsKept g c.sum.new.self) is c.sum.ensures.kept) (subst (λ (g : Stand). Passes g c.sum.new.self) is c.sum.ensures.passed)

pub returns-in_err-sum-clause-reads : goal.returns-in_err-sum-clause-reads
returns-in_err-sum-clause-reads c =
    let s = c.args.reading.now in
    let inside = c.requires.over.inside in
    let at : c.place-at.result ≡ c.args.reading.now.at = c.place-at.ensures in
    let is : c.go.new.self ≡ moved s s.at (64 - c.args.levels) = c.go.ensures ∙ ap (λ (n : ℕ). moved s n (64 - c.args.levels)) at in
    let p = err_from_is_err_and c.from_residual.result c.from_residual.ensures.1 in
    rw (p.1, p.2) (sum_refused c.args.source.now s c.sum.new.self (64 - c.args.levels) c.requires.over
    (subst (λ (g : Stand). IsKept g c.sum.new.self) is c.sum.ensures.kept) (subst (λ (g : Stand). Passes g c.sum.new.self) is c.sum.ensures.passed)
    expression c.args.levels (omega arith) c.in_err-sum.field-0.0
    (subst (λ (g : Stand). IsRead expression (Err c.in_err-sum.field-0.0) c.sum.new.self ((sum_at every (sum_levels g) true).read (marking.left g))) is c.in_err-sum.ensures.reads))

pub returns-in_err-sum-clause-stays : goal.returns-in_err-sum-clause-stays
returns-in_err-sum-clause-stays c =
    let s = c.args.reading.now in
    let inside = c.requires.over.inside in
    let at : c.place-at.result ≡ c.args.reading.now.at = c.place-at.ensures in
    let is : c.go.new.self ≡ moved s s.at (64 - c.args.levels) = c.go.ensures ∙ ap (λ (n : ℕ). moved s n (64 - c.args.levels)) at in
    sum_stays c.args.source.now s c.sum.new.self (64 - c.args.levels) c.requires.over
    (subst (λ (g : Stand). IsKept g c.sum.new.self) is c.sum.ensures.kept) (subst (λ (g : Stand). Passes g c.sum.new.self) is c.sum.ensures.passed)
