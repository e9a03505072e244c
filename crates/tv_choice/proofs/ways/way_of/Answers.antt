use Rattle.std.proofs.Common.{◌≡◌, ◌∙◌, ap, subst, sym, length}
use Rattle.std.specs.Prelude.{All}
use Rattle.tv_linear.specs.Linear.{columns as width}
use Rattle.tv_linear.specs.Arithmetic.{width_of}
use Rattle.tv_choice.specs.Rows.{put_terms}
use Rattle.tv_choice.proofs.ComposeLemmas.{length-put_terms, even_put_terms, width_put_terms}
use Rattle.tv_choice.proofs.ways.way_of.Goals as goal

pub all_composed-requires-clause-each : goal.all_composed-requires-clause-each
all_composed-requires-clause-each c =
    let n = c.args.columns in
    let is = c.deref-2.ensures.value ∙ c.in_ok-terms.ensures ∙ ap (put_terms n) c.deref.ensures.value in
    subst (λ k. All (λ r. width r ≡ k) c.args.rows.now) (sym (length-put_terms n c.args.draws.items) ∙ ap length (sym is)) c.requires.each

pub all_composed-requires-clause-even : goal.all_composed-requires-clause-even
all_composed-requires-clause-even c =
    let n = c.args.columns in
    let is = c.deref-2.ensures.value ∙ c.in_ok-terms.ensures ∙ ap (put_terms n) c.deref.ensures.value in
    subst (λ ts. All (λ t. width t ≡ width_of ts) ts) (sym is)
    (subst (λ k. All (λ t. width t ≡ k) (put_terms n c.args.draws.items)) (sym (width_put_terms n c.args.draws.items c.requires.even)) (even_put_terms n c.args.draws.items c.requires.even))
