use Rattle.std.proofs.Common.{◌≡◌, ◌∙◌, ◌∷◌, ◌++◌, [], inl, inr, ap, sym, subst}
use Rattle.std.specs.Prelude.{All}
use Rattle.tv_linear.specs.Linear.{Linear, columns}
use Rattle.tv_linear.specs.Known.{as_given}
use Rattle.tv_linear.specs.Refutation.{Refutes}
use Rattle.tv_region.proofs.MetLemmas.{all_has, has_push}
use Rattle.tv_region.proofs.InclusionLemmas.{no_point}
use Rattle.tv_region.proofs.inclusion.is_refuted.Goals as goal

pub refute-requires-clause-even : goal.refute-requires-clause-even
refute-requires-clause-even c =
    let n = c.args.limits.now.columns in
    let e : c.deref.result.now ≡ c.args.rows.now ++ c.args.more ∷ [] = c.deref.ensures.value ∙ c.in_ok-push.ensures.items ∙ ap (λ rs. rs ++ c.args.more ∷ []) c.in_ok-all.ensures in
    subst (λ rs. All (λ r. columns r ≡ n) rs) (sym e)
    (all_has (λ r. columns r ≡ n) (c.args.rows.now ++ c.args.more ∷ []) (λ r h. elim (has_push c.args.rows.now c.args.more r h) [ inl m ↦ c.requires.rows r m | inr m ↦ subst (λ (x : Linear). columns x ≡ n) m c.requires.more ]))

pub returns-in-Ok-Empty : goal.returns-in-Ok-Empty
returns-in-Ok-Empty c = λ yes.
    let n = c.args.limits.now.columns in
    let e : c.deref.result.now ≡ c.args.rows.now ++ c.args.more ∷ [] = c.deref.ensures.value ∙ c.in_ok-push.ensures.items ∙ ap (λ rs. rs ++ c.args.more ∷ []) c.in_ok-all.ensures in
    let refutes = rw c.in-Ok-Empty.field-0-is at c.in-Ok-Empty.ensures.answers in
    no_point n c.args.rows.now c.args.more c.in-Ok-Empty.field-0-0.items (subst (λ rs. Refutes n (as_given rs) c.in-Ok-Empty.field-0-0.items) e refutes)
