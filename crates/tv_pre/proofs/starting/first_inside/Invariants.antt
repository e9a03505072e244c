use Rattle.std.proofs.Common.{◌≡◌, length, take}
use Rattle.tv_cases.specs.Systems.{cases_of}
use Rattle.tv_region.specs.Regions.{lists_at}
use Rattle.tv_pre.specs.Starting.{HasNoStart}
use Rattle.tv_pre.proofs.starting.first_inside.Given as goal

abbrev pub invariant-pieces : goal.invariant-pieces
invariant-pieces l = record {
  count : l.place ≡ length (lists_at l.start (take l.piece-index l.pieces));
  none : HasNoStart (cases_of l.setting.about.now) (take l.piece-index l.pieces);
}
