use Rattle.std.proofs.Common.{ap, sym, ◌∙◌}
use Rattle.tv_propose.specs.Constants.{with_numbers, row_constants, term_constants}
use Rattle.tv_propose.proofs.ConstantLemmas.{with_append}
use Rattle.tv_propose.proofs.constants.put_case.Goals as goal

pub returns-clause-put : goal.returns-clause-put
returns-clause-put c =
    let d = c.args.case.now in
    let old = c.args.numbers.now.keys in
    c.in_ok-put_terms.ensures.put
    ∙ ap (λ us. with_numbers c.put_rows.new.numbers.keys (term_constants us)) c.deref-2.ensures.value
    ∙ ap (λ ks. with_numbers ks (term_constants d.updates.items)) (c.in_ok-put_rows.ensures.put ∙ ap (λ rs. with_numbers old (row_constants rs)) c.deref.ensures.value)
    ∙ sym (with_append old (row_constants d.guards.rows.items) (term_constants d.updates.items))
