use Rattle.tv_cert.specs.AimViews.{aim_states}
use Rattle.tv_pre.specs.Search.{system_of}
use Rattle.tv_pre.proofs.SameFoundLemmas.{copy_same, copy_known}
use Rattle.tv_pre.proofs.copying.found_alike.Goals as goal

pub returns-in_ok-copy_found-clause-found : goal.returns-in_ok-copy_found-clause-found
returns-in_ok-copy_found-clause-found c =
    copy_same (system_of c.args.search.now) c.args.search.now.last (aim_states c.args.earlier.now) (aim_states c.args.aim.now) c.args.found.now
    c.in_ok-copy_found.field-0 (c.are_equal.ensures.0 c.if-are_equal.true) c.requires.found c.in_ok-copy_found.ensures

pub returns-in_ok-copy_found-clause-known : goal.returns-in_ok-copy_found-clause-known
returns-in_ok-copy_found-clause-known c =
    copy_known (system_of c.args.search.now) c.args.search.now.last c.args.search.now.alone (aim_states c.args.earlier.now) (aim_states c.args.aim.now) c.args.found.now
    c.in_ok-copy_found.field-0 (c.are_equal.ensures.0 c.if-are_equal.true) c.requires.known c.in_ok-copy_found.ensures
