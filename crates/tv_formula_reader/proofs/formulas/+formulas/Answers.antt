use Rattle.std.proofs.Common.{◌≡◌, ◌-◌, length, Ok, arith, ap, subst, sym, ◌∙◌}
use Rattle.std.proofs.lemmas.Result.{err_from_is_err_and}
use Rattle.tv_formula.specs.Views.{property}
use Rattle.tv_grammar.specs.Reads.{fault}
use Rattle.tv_grammar.specs.Langs.{then}
use Rattle.tv_reading.specs.Marks as marks
use Rattle.tv_reading.specs.Marks.{Stand}
use Rattle.tv_reading.specs.SumGrammar.{every}
use Rattle.tv_reading.specs.Answers.{kind_of, Unless}
use Rattle.tv_formula_reader.specs.Answers.{left, trees_view}
use Rattle.tv_formula_reader.specs.Seen.{seen_all}
use Rattle.tv_reading.specs.ConditionGrammar.{is_and, is_or}
use Rattle.tv_formula_reader.specs.FormulaGrammar.{closed, comparison, more_cases, conjunction_over, plain_at, literal_at, formula_at}
use Rattle.tv_formula_reader.proofs.FormulaLemmas.{turn_branch, conjunction_exact}
use Rattle.tv_formula_reader.proofs.FormulaExact.{literal_exact}
use Rattle.tv_formula_reader.proofs.SourceLemmas.{words, none_at, back_left, left_less, left_more}
use Rattle.tv_reading.proofs.AnswerLemmas.{gives_along, turn_failed, turn_on, turn_less, turn_off}
use Rattle.tv_formula_reader.proofs.Steps.{opened_on, literal_none, literal_second, literal_further, literal_again, plain_left, plain_not, plain_square, deep_left, deep_not, deep_square, plain_flat}
use Rattle.tv_formula_reader.proofs.formulas.+formulas.Goals as goal

pub ands-returns-in_err-more-clause-reads : goal.ands-returns-in_err-more-clause-reads
ands-returns-in_err-more-clause-reads t c =
    let p = err_from_is_err_and c.from_residual.result c.from_residual.ensures.1 in
    rw (p.1, p.2) (turn_failed trees_view (more_cases is_and (literal_at every c.args.levels)) (turn_branch is_and (literal_at every c.args.levels) (literal_exact every c.args.levels)) _ (trees_view c.turns.trees) (left c.args.source.now c.turns.reading) (left c.args.source.now c.and.new.reading) c.turns.invariant.reads c.in_err-more.field-0.0 c.in_err-more.ensures.reads)

pub ands-turns-smaller : goal.ands-turns-smaller
ands-turns-smaller t c = turn_less trees_view (more_cases is_and (literal_at every c.args.levels)) (turn_branch is_and (literal_at every c.args.levels) (literal_exact every c.args.levels)) _ (trees_view c.turns.trees) (left c.args.source.now c.turns.reading) (left c.args.source.now c.and.new.reading) c.turns.invariant.reads c.in-On.more (rw c.in-On.is at c.in_ok-more.ensures.reads)

pub ands-turns-preserved : goal.ands-turns-preserved
ands-turns-preserved t c = record {
  reads = turn_on trees_view (more_cases is_and (literal_at every c.args.levels)) (turn_branch is_and (literal_at every c.args.levels) (literal_exact every c.args.levels)) _ (trees_view c.turns.trees) (left c.args.source.now c.turns.reading) (left c.args.source.now c.and.new.reading) c.turns.invariant.reads c.in-On.more (rw c.in-On.is at c.in_ok-more.ensures.reads);
  stays = record { over = c.and.ensures.stays.over; names = c.and.ensures.stays.names ∙ c.turns.invariant.stays.names };
}

pub ands-returns-in-Off-clause-reads : goal.ands-returns-in-Off-clause-reads
ands-returns-in-Off-clause-reads t c = turn_off trees_view (more_cases is_and (literal_at every c.args.levels)) (turn_branch is_and (literal_at every c.args.levels) (literal_exact every c.args.levels)) _ (trees_view c.turns.trees) (left c.args.source.now c.turns.reading) (left c.args.source.now c.and.new.reading) c.turns.invariant.reads c.in-Off.all (rw c.in-Off.is at c.in_ok-more.ensures.reads)

pub ors-returns-in_err-more-clause-reads : goal.ors-returns-in_err-more-clause-reads
ors-returns-in_err-more-clause-reads t c =
    let p = err_from_is_err_and c.from_residual.result c.from_residual.ensures.1 in
    rw (p.1, p.2) (turn_failed trees_view (more_cases is_or (conjunction_over (literal_at every c.args.levels))) (turn_branch is_or (conjunction_over (literal_at every c.args.levels)) (conjunction_exact (literal_at every c.args.levels) (literal_exact every c.args.levels))) _ (trees_view c.turns.trees) (left c.args.source.now c.turns.reading) (left c.args.source.now c.or.new.reading) c.turns.invariant.reads c.in_err-more.field-0.0 c.in_err-more.ensures.reads)

pub ors-turns-smaller : goal.ors-turns-smaller
ors-turns-smaller t c = turn_less trees_view (more_cases is_or (conjunction_over (literal_at every c.args.levels))) (turn_branch is_or (conjunction_over (literal_at every c.args.levels)) (conjunction_exact (literal_at every c.args.levels) (literal_exact every c.args.levels))) _ (trees_view c.turns.trees) (left c.args.source.now c.turns.reading) (left c.args.source.now c.or.new.reading) c.turns.invariant.reads c.in-On.more (rw c.in-On.is at c.in_ok-more.ensures.reads)

pub ors-turns-preserved : goal.ors-turns-preserved
ors-turns-preserved t c = record {
  reads = turn_on trees_view (more_cases is_or (conjunction_over (literal_at every c.args.levels))) (turn_branch is_or (conjunction_over (literal_at every c.args.levels)) (conjunction_exact (literal_at every c.args.levels) (literal_exact every c.args.levels))) _ (trees_view c.turns.trees) (left c.args.source.now c.turns.reading) (left c.args.source.now c.or.new.reading) c.turns.invariant.reads c.in-On.more (rw c.in-On.is at c.in_ok-more.ensures.reads);
  stays = record { over = c.or.ensures.stays.over; names = c.or.ensures.stays.names ∙ c.turns.invariant.stays.names };
}

pub ors-returns-in-Off-clause-reads : goal.ors-returns-in-Off-clause-reads
ors-returns-in-Off-clause-reads t c = turn_off trees_view (more_cases is_or (conjunction_over (literal_at every c.args.levels))) (turn_branch is_or (conjunction_over (literal_at every c.args.levels)) (conjunction_exact (literal_at every c.args.levels) (literal_exact every c.args.levels))) _ (trees_view c.turns.trees) (left c.args.source.now c.turns.reading) (left c.args.source.now c.or.new.reading) c.turns.invariant.reads c.in-Off.all (rw c.in-Off.is at c.in_ok-more.ensures.reads)

pub plain-returns-then-levels-eq0-clause-reads : goal.plain-returns-then-levels-eq0-clause-reads
plain-returns-then-levels-eq0-clause-reads t c = deep_left c.args.levels (left c.args.source.now c.args.reading.now) c.if-levels-eq0.true c.in-LeftRound.ensures

pub plain-returns-then-levels-eq0-2-clause-reads : goal.plain-returns-then-levels-eq0-2-clause-reads
plain-returns-then-levels-eq0-2-clause-reads t c = deep_not c.args.levels (left c.args.source.now c.args.reading.now) c.if-levels-eq0-2.true c.in-Not.ensures

pub plain-returns-then-levels-eq0-3-clause-reads : goal.plain-returns-then-levels-eq0-3-clause-reads
plain-returns-then-levels-eq0-3-clause-reads t c = deep_square c.args.levels (left c.args.source.now c.args.reading.now) c.if-levels-eq0-3.true c.in-LeftSquare.ensures

pub plain-returns-else-levels-eq0-clause-reads : goal.plain-returns-else-levels-eq0-clause-reads
plain-returns-else-levels-eq0-clause-reads t c = gives_along property c.enclosed.result (left c.args.source.now c.enclosed.new.reading) _ _ (plain_left (c.args.levels - 1) (left c.args.source.now c.args.reading.now) (left c.args.source.now c.pass_kind.new.reading) c.pass_kind.ensures.rest c.args.levels (omega arith) c.in-LeftRound.ensures) c.enclosed.ensures.reads

pub plain-returns-else-levels-eq0-2-clause-reads : goal.plain-returns-else-levels-eq0-2-clause-reads
plain-returns-else-levels-eq0-2-clause-reads t c = gives_along property c.denied.result (left c.args.source.now c.denied.new.reading) _ _ (plain_not (c.args.levels - 1) (left c.args.source.now c.args.reading.now) (left c.args.source.now c.pass_kind-in-Not.new.reading) c.pass_kind-in-Not.ensures.rest c.args.levels (omega arith) c.in-Not.ensures) c.denied.ensures.reads

pub plain-returns-else-levels-eq0-3-clause-reads : goal.plain-returns-else-levels-eq0-3-clause-reads
plain-returns-else-levels-eq0-3-clause-reads t c = gives_along property c.operated.result (left c.args.source.now c.operated.new.reading) _ _ (plain_square (c.args.levels - 1) (left c.args.source.now c.args.reading.now) (left c.args.source.now c.pass_kind-in-LeftSquare.new.reading) c.pass_kind-in-LeftSquare.ensures.rest c.args.levels (omega arith) c.in-LeftSquare.ensures) c.operated.ensures.reads

pub plain-returns-in_default : goal.plain-returns-in_default
plain-returns-in_default t c = record {
  reads = gives_along property c.leaf.result (left c.args.source.now c.leaf.new.reading) _ _ (plain_flat c.args.levels (left c.args.source.now c.args.reading.now) c.next_kind.result c.next_kind.ensures c.in_default.not-LeftRound c.in_default.not-Not c.in_default.not-LeftSquare) c.leaf.ensures.reads;
  stays = c.leaf.ensures.stays;
}

pub argument-returns-clause-reads : goal.argument-returns-clause-reads
argument-returns-clause-reads t c = gives_along property c.enclosed.result (left c.args.source.now c.enclosed.new.reading) _ _ (opened_on (then (formula_at every c.args.levels) closed) (left c.args.source.now c.args.reading.now) (left c.args.source.now c.open.new.reading) c.in_ok-open.ensures.reads) c.enclosed.ensures.reads

pub literal-returns-then-start-source-clause-reads : goal.literal-returns-then-start-source-clause-reads
literal-returns-then-start-source-clause-reads t c =
    let s = c.args.reading.now in
    let at = c.place-start.ensures in
    let tokens = ap length c.requires.over.tokens in
    literal_none c.args.levels (left c.args.source.now s) (ap (seen_all (words c.args.source.now s) s.text) (none_at s.tokens s.at (omega arith)))

pub literal-returns-then-place-stop-clause-reads : goal.literal-returns-then-place-stop-clause-reads
literal-returns-then-place-stop-clause-reads t c =
    let source = c.args.source.now in
    let s = c.args.reading.now in
    let u = c.comparison.new.reading in
    let v = c.plain.new.reading in
    let start = c.place-start.ensures in
    let halted : (comparison every c.args.levels).read (left source s) ≡ fault marks.Syntax (left source u) = rw c.in-Err-Syntax.field-0-is at c.in-Err-Syntax.ensures.reads in
    let stop = c.place-stop.ensures in
    let here = c.place.ensures in
    let back = back_left source s u c.go.new.self c.place-start.result 0 c.requires.over c.comparison.ensures.stays.over c.comparison.ensures.stays.names start c.go.ensures in
    let less = left_less source u v c.comparison.ensures.stays.over c.plain.ensures.stays.over (omega arith) in
    literal_further c.args.levels (left source s) (left source u) c.in-Err-plain.reason (left source v) halted less
    (subst (λ ts. Unless c.in-Err-plain.reason ((plain_at every c.args.levels).read ts ≡ fault (kind_of c.in-Err-plain.reason) (left source v))) back c.in-Err-plain.ensures.reads)

pub literal-returns-in-Ok-plain-clause-reads : goal.literal-returns-in-Ok-plain-clause-reads
literal-returns-in-Ok-plain-clause-reads t c =
    let source = c.args.source.now in
    let s = c.args.reading.now in
    let u = c.comparison.new.reading in
    let v = c.plain.new.reading in
    let start = c.place-start.ensures in
    let halted : (comparison every c.args.levels).read (left source s) ≡ fault marks.Syntax (left source u) = rw c.in-Err-Syntax.field-0-is at c.in-Err-Syntax.ensures.reads in
    let back = back_left source s u c.go.new.self c.place-start.result 0 c.requires.over c.comparison.ensures.stays.over c.comparison.ensures.stays.names start c.go.ensures in
    literal_second c.args.levels (left source s) (left source u) (property c.in-Ok-plain.tree) (left source v) halted
    (subst (λ ts. (plain_at every c.args.levels).read ts ≡ Ok (property c.in-Ok-plain.tree, left source v)) back c.in-Ok-plain.ensures.reads)

pub literal-returns-else-place-stop-clause-reads : goal.literal-returns-else-place-stop-clause-reads
literal-returns-else-place-stop-clause-reads t c =
    let source = c.args.source.now in
    let s = c.args.reading.now in
    let u = c.comparison.new.reading in
    let v = c.plain.new.reading in
    let start = c.place-start.ensures in
    let halted : (comparison every c.args.levels).read (left source s) ≡ fault marks.Syntax (left source u) = rw c.in-Err-Syntax.field-0-is at c.in-Err-Syntax.ensures.reads in
    let stop = c.place-stop.ensures in
    let here = c.place.ensures in
    let back = back_left source s u c.go.new.self c.place-start.result 0 c.requires.over c.comparison.ensures.stays.over c.comparison.ensures.stays.names start c.go.ensures in
    let names = c.plain.ensures.stays.names ∙ ap (λ (g : Stand). g.names) c.go.ensures ∙ c.comparison.ensures.stays.names in
    let again = back_left source s v c.go-in-Err-plain.new.self c.place-start.result 0 c.requires.over c.plain.ensures.stays.over names start c.go-in-Err-plain.ensures in
    let more = left_more source u v c.comparison.ensures.stays.over c.plain.ensures.stays.over (omega arith) in
    let second = subst (λ ts. Unless c.in-Err-plain.reason ((plain_at every c.args.levels).read ts ≡ fault (kind_of c.in-Err-plain.reason) (left source v))) back c.in-Err-plain.ensures.reads in
    gives_along property c.comparison-in-Err-plain.result (left source c.comparison-in-Err-plain.new.reading) _ _
    (literal_again c.args.levels (left source s) (left source u) c.in-Err-plain.reason (left source v) (sym c.is_memory.ensures ∙ c.if-is_memory.false) halted second more ∙ ap (comparison every c.args.levels).read (sym again)) c.comparison-in-Err-plain.ensures.reads
