use Rattle.std.proofs.Common.{◌≡◌, ◌<◌, ◌^◌, rules, ◌++◌, length, refl, subst, sym, ap, ◌∙◌}
use Rattle.tv_linear.specs.Packed.{ArePacked, packed}
use Rattle.tv_cert.specs.MarkedRows.{marked_in}
use Rattle.tv_cert.proofs.MarkedLemmas.{both_packed, marked_packed}
use Rattle.tv_cert.proofs.node.Marked.from_rows.Goals as goal

pub invariant_of-result : goal.invariant_of-result
invariant_of-result c =
    let rows = c.args.rows.now in
    let ranks = c.args.ranks.now in
    let numbers : c.shrink_to_fit.new.self.items ≡ packed c.args.rows.now ++ packed c.args.ranks.now = c.shrink_to_fit.ensures.items ∙ c.in_ok-append_rows-2.ensures.appended ∙ ap (λ xs. xs ++ packed ranks) (c.in_ok-append_rows.ensures.appended ∙ ap (λ xs. xs ++ packed rows) c.new-numbers.ensures.items) in
    subst (ArePacked c.args.columns (length rows)) (sym numbers)
    (both_packed c.args.columns rows ranks (c.if-not-have_columns.ensures.0 refl) (c.if-not-have_columns-2.ensures.0 refl) c.requires c.in_ok-append_rows.ensures.narrow c.in_ok-append_rows-2.ensures.narrow)

pub returns : goal.returns
returns c =
    let rows = c.args.rows.now in
    let ranks = c.args.ranks.now in
    let numbers : c.shrink_to_fit.new.self.items ≡ packed c.args.rows.now ++ packed c.args.ranks.now = c.shrink_to_fit.ensures.items ∙ c.in_ok-append_rows-2.ensures.appended ∙ ap (λ xs. xs ++ packed ranks) (c.in_ok-append_rows.ensures.appended ∙ ap (λ xs. xs ++ packed rows) c.new-numbers.ensures.items) in
    let even = c.if-not-have_columns.ensures.0 refl in
    let level = c.if-not-have_columns-2.ensures.0 refl in
    let bounded : length rows < 2 ^ 32 = search rules in
    ((bounded, even, level), ap (marked_in c.args.location c.args.columns c.args.mark (length rows)) numbers ∙ marked_packed c.args.columns rows ranks even level c.args.location c.args.mark)
