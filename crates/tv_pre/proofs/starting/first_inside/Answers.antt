use Rattle.std.proofs.Common.{◌∙◌, [], ◌+◌, length, take, slice_get, sym, refl, ap, subst}
use Rattle.tv_cases.specs.Systems.{cases_of}
use Rattle.tv_region.specs.Regions.{lists_at}
use Rattle.tv_choice.specs.Leading.{piece_rows}
use Rattle.tv_pre.specs.Questions.{lies}
use Rattle.tv_pre.specs.Starting.{CoversOrLeaves, AsksEmpty}
use Rattle.tv_pre.proofs.RefusalLemmas.{refusal_of}
use Rattle.tv_pre.proofs.StartLemmas.{place_there, none_here, none_there, none_at_all, count_here, count_there}
use Rattle.tv_pre.proofs.starting.first_inside.Goals.{then-piece-start+in-Ok-Tree+else-place, else-piece-start}
use Rattle.tv_pre.proofs.starting.first_inside.Goals as goal
use Rattle.tv_farkas.proofs.StretchLemmas.{short_all}

pub returns-in-Err-clause-refusals : goal.returns-in-Err-clause-refusals
returns-in-Err-clause-refusals c =
    let about = cases_of c.args.setting.now.about.now in
    let q = c.piece-item.result in
    refusal_of about c.args.setting.now.budget.now (AsksEmpty about c.args.pieces.now) (lies q []) c.in-Err.fault
    (q, (c.pieces.piece-index, c.pieces-test.true, sym c.piece-item.is), c.if-piece-start.true ∙ c.start-start.ensures.same, refl) c.in-Err.ensures.refusals

pub returns-in-Ok-Hole-clause-answer : goal.returns-in-Ok-Hole-clause-answer
returns-in-Ok-Hole-clause-answer c =
    let about = cases_of c.args.setting.now.about.now in
    let q = c.piece-item.result in
    let left = subst (CoversOrLeaves about q []) c.in-Ok-Hole.field-0-is c.in-Ok-Hole.ensures.answers in
    record {
      rows = piece_rows q;
      there = ap (λ k. slice_get (lists_at about.start c.args.pieces.now) k) (c.pieces.invariant.count ∙ ap (λ l. length (lists_at l (take c.pieces.piece-index c.args.pieces.now))) c.start-start.ensures.same)
          ∙ place_there about.start c.args.pieces.now c.pieces.piece-index q c.pieces-test.true c.piece-item.is (c.if-piece-start.true ∙ c.start-start.ensures.same);
      point = left.hole.point;
      narrow = short_all c.in-Ok-Hole.values.items left.short;
    }

pub pieces-preserved : goal.pieces-preserved
pieces-preserved c = elim c.if-piece-start.branch [
  | then-piece-start+in-Ok-Tree+else-place w ↦ (
      let about = cases_of c.args.setting.now.about.now in
      let q = c.piece-item.result in
      let pieces = c.args.pieces.now in
      let i = c.pieces.piece-index in
      let here = w.if-piece-start.true ∙ c.start-start.ensures.same in
      let cover = subst (CoversOrLeaves about q []) w.in-Ok-Tree.field-0-is w.in-Ok-Tree.ensures.answers in
      record {
        count = w.place-is ∙ (λ k. c.pieces.invariant.count k + 1) ∙ sym (count_here c.start-start.result pieces i q c.pieces-test.true c.piece-item.is w.if-piece-start.true);
        none = none_here about pieces i q c.pieces-test.true c.piece-item.is here c.pieces.invariant.none cover.inside;
      })
  | else-piece-start w ↦ (
      let about = cases_of c.args.setting.now.about.now in
      let q = c.piece-item.result in
      let pieces = c.args.pieces.now in
      let i = c.pieces.piece-index in
      record {
        count = w.place-is ∙ c.pieces.invariant.count ∙ sym (count_there c.start-start.result pieces i q c.pieces-test.true c.piece-item.is w.if-piece-start.false);
        none = none_there about pieces i q c.pieces-test.true c.piece-item.is (λ h. w.if-piece-start.false (h ∙ sym c.start-start.ensures.same)) c.pieces.invariant.none;
      })
]

pub returns-clause-answer : goal.returns-clause-answer
returns-clause-answer c = none_at_all (cases_of c.args.setting.now.about.now) c.args.pieces.now c.pieces.piece-index c.pieces-test.false c.pieces.invariant.none
