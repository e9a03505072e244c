use Rattle.std.proofs.Common.{subst}
use Rattle.tv_cases.specs.Systems.{cases_of}
use Rattle.tv_cover.specs.Targets.{lists_of}
use Rattle.tv_choice.specs.Leading.{piece_rows}
use Rattle.tv_pre.specs.Starting.{CoversOrLeaves}
use Rattle.tv_pre.proofs.OfferLemmas.{no_hole}
use Rattle.tv_pre.proofs.inside.cover_by.Goals as goal

pub unreachable-requires : goal.unreachable-requires
unreachable-requires c =
    let about = cases_of c.args.setting.now.about.now in
    let piece = c.args.piece.now in
    let lists = lists_of c.args.targets.now in
    let xs = c.in-Ok-Hole.field-0-0.items in
    let left = subst (CoversOrLeaves about piece lists) c.in-Ok-Hole.field-0-is c.in-Ok-Hole.ensures.answers in
    no_hole about.variables lists (piece_rows piece) xs (c.requires.inside xs left.hole.point) left.hole

pub returns-in-Ok-Tree-clause-shows : goal.returns-in-Ok-Tree-clause-shows
returns-in-Ok-Tree-clause-shows c into e =
    let about = cases_of c.args.setting.now.about.now in
    let left = subst (CoversOrLeaves about c.args.piece.now (lists_of c.args.targets.now)) c.in-Ok-Tree.field-0-is c.in-Ok-Tree.ensures.answers in
    left.shows into e
