use Rattle.std.proofs.Common.{◌∷◌, [], refl}
use Rattle.tv_linear.specs.Known.{as_given}
use Rattle.tv_linear.proofs.KnownLemmas.{met-as_given}
use Rattle.tv_cover.proofs.SearchLemmas.{known_covered}
use Rattle.tv_invariant.proofs.RowLemmas.{in_only}
use Rattle.tv_invariant.proofs.showing.is_shown_by.Goals as goal

pub returns-clause-follows : goal.returns-clause-follows
returns-clause-follows c = λ t xs l m.
    let rows = c.args.rows.now in
    let row = c.args.row.now in
    let lists = (row ∷ []) ∷ [] in
    in_only row xs lists refl (known_covered c.args.columns lists (as_given rows) c.args.tree.now xs (c.cover_is_met.ensures.exact.0 t) l ((met-as_given xs rows).0 m))
