use Rattle.std.proofs.Common.{◌≡◌, ◌∙◌, ◌∷◌, [], ◌++◌, All, subst, sym, ap, neg_ℤ}
use Rattle.std.proofs.lemmas.List.{length-map}
use Rattle.std.proofs.lemmas.List.Elements.{All-push}
use Rattle.tv_linear.specs.Linear.{columns as width}
use Rattle.tv_linear.specs.Arithmetic.{denial}
use Rattle.tv_linear.specs.Fits.{IsNarrowAt}
use Rattle.tv_linear.specs.Known.{as_given}
use Rattle.tv_linear.specs.Refutation.{Refutes}
use Rattle.tv_farkas.specs.Judging.{IsJudged}
use Rattle.tv_cover.specs.Targets.{HasPoint}
use Rattle.tv_cover.proofs.PointLemmas.{point_with}
use Rattle.tv_choice.specs.Asked.{query_of}
use Rattle.tv_cover.specs.Trying.{IsWideDenialAt}
use Rattle.tv_choice.proofs.WayLemmas.{not_made}
use Rattle.tv_choice.proofs.LookLemmas.{judge_tried, denial_tried, look_unmade, point_of}
use Rattle.tv_choice.proofs.looking.show.Goals as goal

pub judge-requires-clause-even : goal.judge-requires-clause-even
judge-requires-clause-even c =
    let n = c.args.question.now.columns in
    let is = c.deref.ensures.value ∙ c.in_ok-all.ensures in
    let even : width c.in-Ok.denied ≡ n = ap (λ r. width r) c.in-Ok.ensures.exact.same ∙ length-map c.args.row.now.coefficients neg_ℤ ∙ c.requires.same in
    subst (All (λ r. width r ≡ n)) (sym is) (All-push (λ r. width r ≡ n) c.args.place.now.rows.now c.in-Ok.denied c.requires.place.even even)

pub returns-in-Err-clause-refusals : goal.returns-in-Err-clause-refusals
returns-in-Err-clause-refusals c =
    let q = c.args.question.now in
    let r = c.args.row.now in
    look_unmade (IsWideDenialAt r) q.columns (query_of q) c.args.place.now.rows.now q.pivots c.unmade.result
    (not_made (IsNarrowAt (denial r)) (width (denial r)) (IsWideDenialAt r) c.in-Err.fault c.unmade.result c.unmade.ensures c.in-Err.ensures.exact (λ column w. w))

pub returns-in-Err-judge-clause-refusals : goal.returns-in-Err-judge-clause-refusals
returns-in-Err-judge-clause-refusals c =
    let q = c.args.question.now in
    let g = c.in-Ok.ensures.exact in
    judge_tried (IsWideDenialAt c.args.row.now) q.columns (query_of q) c.args.place.now.rows.now c.deref.result.now c.in-Ok.denied q.pivots c.in-Err-judge.fault (c.deref.ensures.value ∙ c.in_ok-all.ensures)
    (denial_tried q.columns (query_of q) c.args.place.now.rows.now c.args.row.now c.in-Ok.denied g.same g.fits c.requires.way) c.in-Err-judge.ensures.refusals

pub returns-in-Ok-Refuted : goal.returns-in-Ok-Refuted
returns-in-Ok-Refuted c =
    let n = c.args.question.now.columns in
    let g = c.in-Ok.ensures.exact in
    let is = c.deref.ensures.value ∙ c.in_ok-all.ensures ∙ ap (λ r. c.args.place.now.rows.now ++ r ∷ []) g.same in
    let h = subst (IsJudged n c.deref.result.now) c.in-Ok-Refuted.field-0-is c.in-Ok-Refuted.ensures.answers in
    record {
      shown = record { refutes = subst (λ rs. Refutes n (as_given rs) c.in-Ok-Refuted.multipliers.items) is h.refutes; narrow = g.fits; short = h.short };
      refusals = tt;
    }

pub returns : goal.returns
returns c =
    let n = c.args.question.now.columns in
    let g = c.in-Ok.ensures.exact in
    let is = c.deref.ensures.value ∙ c.in_ok-all.ensures ∙ ap (λ r. c.args.place.now.rows.now ++ r ∷ []) g.same in
    let h = subst (IsJudged n c.deref.result.now) c.in-Ok-Point.field-0-is c.in-Ok-Point.ensures.answers in
    record { shown = (g.fits, subst (HasPoint n) is (point_of n c.deref.result.now c.in-Ok-Point.field-0-0.items c.in-Ok-Point.field-0-1 h)); refusals = tt }

pub returns-then-is_met-clause-shown : goal.returns-then-is_met-clause-shown
returns-then-is_met-clause-shown c =
    let n = c.args.question.now.columns in
    let p = c.args.place.now in
    let g = c.in-Ok.ensures.exact in (
      g.fits,
      subst (λ r. HasPoint n (p.rows.now ++ r ∷ [])) g.same (point_with n p.rows.now c.in-Ok.denied p.values.now p.scale c.requires.place.size c.requires.place.meets (c.is_met.ensures c.if-is_met.true)),
    )
