use Rattle.std.proofs.Common.{sym, ap, ◌∙◌}
use Rattle.tv_simplex.specs.Views.{equations}
use Rattle.tv_simplex.specs.Systems.{matrix}
use Rattle.tv_simplex.specs.Tables.{shown}
use Rattle.tv_simplex.proofs.Matrices.{matrix_is_system}
use Rattle.tv_simplex.proofs.Shown.{read_solved, read_unsolved}
use Rattle.tv_simplex.proofs.answering.is_solved.Goals as goal

pub returns-clause-solved : goal.returns-clause-solved
returns-clause-solved c = λ yes_zero.
    let s = equations c.args.system.now in
    let t = c.args.table.now in
    let st = c.requires.stands.1 in
    read_solved (matrix s) s.rows s.columns (matrix_is_system s) t.basis.items st.earlier (shown t) st.shows (sym (ap (λ f. f.numerator) c.entry_at.ensures.is) ∙ c.is_zero.ensures.0 yes_zero)

pub returns-clause-unsolved : goal.returns-clause-unsolved
returns-clause-unsolved c = λ never.
    let s = equations c.args.system.now in
    let t = c.args.table.now in
    let st = c.requires.stands.1 in
    let p = read_unsolved (matrix s) s.rows s.columns (matrix_is_system s) t.basis.items st.earlier (shown t) st.shows (λ e. never (c.is_zero.ensures.1 (ap (λ f. f.numerator) c.entry_at.ensures.is ∙ e))) in
    (p.0, record { within = p.1; artificial = p.2; valued = p.3 })
