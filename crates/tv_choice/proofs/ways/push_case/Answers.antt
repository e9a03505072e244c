use Rattle.std.proofs.Common.{arith}
use Rattle.tv_cases.specs.Views.{case_view}
use Rattle.tv_choice.specs.Leading.{pieces_at}
use Rattle.tv_choice.specs.Ways.{lists_of}
use Rattle.tv_choice.specs.Targets.{IsWideInto, IsFirstWideInto}
use Rattle.tv_choice.proofs.FitLemmas.{piece_within, place_fits}
use Rattle.tv_choice.proofs.DrawLemmas.{pieces_next, pieces_done, piece_left, piece_wide, pieces_fit}
use Rattle.tv_choice.proofs.WayLemmas.{unmade_more}
use Rattle.tv_choice.proofs.ways.push_case.Goals as goal

pub overflow_add-target : goal.overflow_add-target
overflow_add-target c =
    let l = place_fits c.args.question.now.pieces.now c.args.case.now.to c.pieces.target c.in-Some.piece.now c.args.question.now.bounded c.in-Some.ensures in
    omega (arith, l)

pub pieces-smaller : goal.pieces-smaller
pieces-smaller c = let below = piece_within c.args.question.now.pieces.now c.args.case.now.to c.pieces.target c.in-Some.piece.now c.in-Some.ensures in omega (arith, below)

pub pieces-preserved : goal.pieces-preserved
pieces-preserved c = (
  c.in-Ok.ensures.ways,
  pieces_next c.args.question.now.columns (case_view c.args.case.now) (pieces_at c.args.question.now.pieces.now c.args.case.now.to) c.pieces.target c.in-Some.piece.now _ (lists_of c.pieces.ways.items) (lists_of c.push_ways.new.ways.items) c.in-Some.ensures c.in-Ok.ensures.lists c.pieces.invariant.1,
  piece_left c.args.question.now.columns (case_view c.args.case.now) (pieces_at c.args.question.now.pieces.now c.args.case.now.to) c.pieces.target c.in-Some.piece.now c.in-Some.ensures c.in-Ok.ensures.fits c.pieces.invariant.2,
)

pub returns : goal.returns
returns c = record {
  ways = c.pieces.invariant.0;
  lists = pieces_done c.args.question.now.columns (case_view c.args.case.now) (pieces_at c.args.question.now.pieces.now c.args.case.now.to) c.pieces.target _ (lists_of c.pieces.ways.items) c.in_default.ensures c.pieces.invariant.1;
  fits = pieces_fit c.args.question.now.columns (case_view c.args.case.now) (pieces_at c.args.question.now.pieces.now c.args.case.now.to) c.pieces.target c.in_default.ensures c.pieces.invariant.2;
  refusals = tt;
}

pub returns-in-Err-clause-refusals : goal.returns-in-Err-clause-refusals
returns-in-Err-clause-refusals c =
    let n = c.args.question.now.columns in
    let case = case_view c.args.case.now in
    let ps = pieces_at c.args.question.now.pieces.now c.args.case.now.to in
    unmade_more (IsWideInto n case c.in-Some.piece.now) (λ column. IsFirstWideInto n case column ps) c.in-Err.fault
    (piece_wide n case ps c.pieces.target c.in-Some.piece.now c.in-Some.ensures c.pieces.invariant.2) c.in-Err.ensures.refusals
