use Rattle.std.proofs.Common.{refl, suc, ◌+◌, ◌∷◌, arith}
use Rattle.tv_known.specs.Rounds.{must_end}
use Rattle.tv_rounds.specs.declared.fixed_point.FixedPoint.{FixedPoint}
use Rattle.tv_pre.specs.Search.{system_of}
use Rattle.tv_pre.specs.Along.{arguments, IsOfSides}
use Rattle.tv_pre.specs.Built.{IsFaultOf}
use Rattle.tv_pre.proofs.PassedLemmas.{passed_on, rounds_fault, compared_asked}
use Rattle.tv_pre.proofs.BuiltLemmas.{asked_to, fault_to}
use Rattle.tv_pre.proofs.AlongLemmas.{asked_less, tame_sides, over_sides, hold_side_built, end_side_built}
use Rattle.tv_pre.specs.Counted.{IsCountedAlong}
use Rattle.tv_pre.proofs.CountedLemmas.{rounds_along}
use Rattle.tv_pre.specs.Questions.{lies}
use Rattle.tv_pre.proofs.along.rounds_of.Goals as goal

pub rounds-requires-clause-sides : goal.rounds-requires-clause-sides
rounds-requires-clause-sides c =
    let sides = c.args.sides.now in
    let point : FixedPoint = record { path = sides.path; shape = sides.shape; hold = c.hold_of.result; end = c.args.end } in
    let of : IsOfSides sides c.args.end.now point = record { path = refl; shape = refl; hold = c.hold_of.ensures; ends = refl } in
    over_sides (system_of c.args.search.now) sides c.args.end.now point of c.requires.sides c.requires.end

pub rounds-requires-clause-tame : goal.rounds-requires-clause-tame
rounds-requires-clause-tame c =
    let sides = c.args.sides.now in
    let point : FixedPoint = record { path = sides.path; shape = sides.shape; hold = c.hold_of.result; end = c.args.end } in
    let of : IsOfSides sides c.args.end.now point = record { path = refl; shape = refl; hold = c.hold_of.ensures; ends = refl } in
    tame_sides (system_of c.args.search.now) sides c.args.end.now point of c.requires.tame

pub returns-in_err-answer-clause-refused : goal.returns-in_err-answer-clause-refused
returns-in_err-answer-clause-refused c =
    let about = system_of c.args.search.now in
    let budget = c.args.search.now.setting.now.budget.now in
    let last = c.args.search.now.last in
    let sides = c.args.sides.now in
    let end = c.args.end.now in
    let point : FixedPoint = record { path = sides.path; shape = sides.shape; hold = c.hold_of.result; end = c.args.end } in
    let of : IsOfSides sides end point = record { path = refl; shape = refl; hold = c.hold_of.ensures; ends = refl } in
    let fault = c.in_err-answer.field-0.0 in
    passed_on (IsFaultOf about budget (last + 1) (end ∷ arguments sides)) c.from_residual.result c.from_residual.ensures.1
    (λ r is s h m. fault_to about s budget (suc last + h) ((last + 1) + h) r (omega arith)
    (rounds_fault about budget s h point (hold_side_built about sides end point of s h m) (end_side_built about sides end point of s h m) last (must_end sides.shape) fault r is c.in_err-answer.ensures.refused))

pub returns-clause-rounds : goal.returns-clause-rounds
returns-clause-rounds c =
    let about = system_of c.args.search.now in
    let sides = c.args.sides.now in
    let end = c.args.end.now in
    let point : FixedPoint = record { path = sides.path; shape = sides.shape; hold = c.hold_of.result; end = c.args.end } in
    let of : IsOfSides sides end point = record { path = refl; shape = refl; hold = c.hold_of.ensures; ends = refl } in record {
      point = point;
      of = of;
      tame = tame_sides about sides end point of c.requires.tame;
      rounds = c.in_ok-answer.ensures.rounds;
      exact = c.in_ok-answer.ensures.exact;
      full = c.in_ok-answer.ensures.full;
    }

pub returns-in_err-answer-clause-counted : goal.returns-in_err-answer-clause-counted
returns-in_err-answer-clause-counted c =
    let about = system_of c.args.search.now in
    let budget = c.args.search.now.setting.now.budget.now in
    let last = c.args.search.now.last in
    let sides = c.args.sides.now in
    let end = c.args.end.now in
    let limits = c.variables-variables.ensures.limits in
    let point : FixedPoint = record { path = sides.path; shape = sides.shape; hold = c.hold_of.result; end = c.args.end } in
    let of : IsOfSides sides end point = record { path = refl; shape = refl; hold = c.hold_of.ensures; ends = refl } in
    passed_on (IsCountedAlong about budget (last + 2) sides) c.from_residual.result c.from_residual.ensures.1
    (λ r is. rounds_along about sides end c.requires.end_few point of limits.cases limits.starts last c.requires.search.last budget (last + 2)
    (λ k inner outer early compared q among. asked_less about (last + 1) (last + 2) end (arguments sides) (lies q outer.pieces.items) (omega arith) c.requires.built
    (λ s h m. asked_to about s (suc last + h) ((last + 1) + h) (lies q outer.pieces.items) (omega arith)
    (compared_asked about budget s h point (hold_side_built about sides end point of s h m) (end_side_built about sides end point of s h m) last (must_end sides.shape) k inner outer early compared q among)))
    c.in_err-answer.field-0.0 r is c.in_err-answer.ensures.refused c.in_err-answer.ensures.counted)
