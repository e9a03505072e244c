use Rattle.std.proofs.Common.{◌+◌, [], ◌∷◌, take, sym, subst, refl}
use Rattle.tv_cases.specs.Views.{case_view}
use Rattle.tv_cases.specs.Before.{AreRowsBefore}
use Rattle.tv_cover.specs.Targets.{lists_of}
use Rattle.tv_region.specs.Regions.{lists_at}
use Rattle.tv_region.proofs.RegionLemmas.{lists_at-there}
use Rattle.tv_choice.specs.Leading.{piece_rows}
use Rattle.tv_pre.specs.Targets.{AreBefore, IsUnmade}
use Rattle.tv_pre.proofs.TargetLemmas.{target_before}
use Rattle.tv_pre.proofs.StepLemmas.{listed}
use Rattle.tv_pre.proofs.RefusalLemmas.{unmade_target}
use Rattle.tv_pre.proofs.targets.targets_before.Goals.{then-piece-case+in-Ok+in_ok-push_item, else-piece-case}
use Rattle.tv_pre.proofs.targets.targets_before.Goals as goal

pub returns-in-Err-clause-refusals : goal.returns-in-Err-clause-refusals
returns-in-Err-clause-refusals c =
    let case = case_view c.args.case.now in
    let p = c.piece-item.result in
    unmade_target case (lists_at case.to c.args.pieces.now) (piece_rows p) c.in-Err.fault
    (listed c.args.pieces.now p case.to c.if-piece-case.true (c.pieces.piece-index, c.pieces-test.true, sym c.piece-item.is))
    (subst (λ rows. IsUnmade case (rows ∷ []) c.in-Err.fault) c.deref.ensures.value c.in-Err.ensures.refusals)

pub pieces-preserved : goal.pieces-preserved
pieces-preserved c = elim c.if-piece-case.branch [
  | then-piece-case+in-Ok+in_ok-push_item w ↦ (
      let case = case_view c.args.case.now in
      let p = c.piece-item.result in
      subst (λ v. AreBefore case (lists_at case.to (take (c.pieces.piece-index + 1) c.args.pieces.now)) (lists_of v.items)) (sym w.targets-is)
      (target_before case c.args.pieces.now c.pieces.piece-index p w.in-Ok.rows.items c.pieces.targets.items w.push_item.new.items.items (record { columns = c.args.variables + c.args.case.now.draws; rows = w.in-Ok.rows }) c.pieces-test.true c.piece-item.is w.if-piece-case.true
      (subst (λ rows. AreRowsBefore case rows w.in-Ok.rows.items) w.deref.ensures.value w.in-Ok.ensures.rows) refl w.in_ok-push_item.ensures c.pieces.invariant))
  | else-piece-case w ↦ (
      let case = case_view c.args.case.now in
      let p = c.piece-item.result in
      subst (λ v. AreBefore case (lists_at case.to (take (c.pieces.piece-index + 1) c.args.pieces.now)) (lists_of v.items)) (sym w.targets-is)
      (subst (λ ls. AreBefore case ls (lists_of c.pieces.targets.items)) (sym (lists_at-there case.to c.args.pieces.now c.pieces.piece-index p c.pieces-test.true c.piece-item.is w.if-piece-case.false)) c.pieces.invariant))
]
