use Rattle.std.proofs.Common.{sym, subst}
use Rattle.tv_cases.specs.Systems.{cases_of}
use Rattle.tv_cert_reader.specs.Heads.{IsNodeHead}
use Rattle.tv_cert_reader.specs.Regions.{ReadsRegion}
use Rattle.tv_cert_reader.proofs.ReadingLemmas.{at_exit}
use Rattle.tv_cert_reader.proofs.RegionLemmas.{node_stops, pieces_stop}
use Rattle.tv_cert_reader.proofs.context.Context.region.Goals as goal

pub returns-in_default : goal.returns-in_default
returns-in_default c =
    let system = cases_of c.args.self.now.about.now in
    node_stops system c.args.kind c.args.ranked c.args.done c.args.cursor.now c.take.new.cursor c.in_ok-head.head c.in_ok-head.numbers.items c.in_ok-head.ensures.line.0 c.in_ok-head.ensures.line.1
    (λ count m is. c.in_default.ensures count m (subst (λ zs. IsNodeHead c.args.kind c.args.ranked c.in_ok-head.head zs count m) (sym c.deref.ensures.value) is))

pub returns-in_err-list : goal.returns-in_err-list
returns-in_err-list c =
    let system = cases_of c.args.self.now.about.now in
    at_exit (ReadsRegion system c.args.kind c.args.ranked c.args.done c.args.cursor.now c.pieces.new.cursor) c.from_residual-in_err-list.result c.in_err-list.field-0.0 c.from_residual-in_err-list.ensures.1
    (pieces_stop system c.args.kind c.args.ranked c.args.done c.args.cursor.now c.take.new.cursor c.in_ok-head.head c.in_ok-head.numbers.items c.in_ok-head.ensures.line.0 c.in-Some.count c.in-Some.ranks
    (subst (λ zs. IsNodeHead c.args.kind c.args.ranked c.in_ok-head.head zs c.in-Some.count c.in-Some.ranks) c.deref.ensures.value c.in-Some.ensures)
    c.in_err-list.field-0.0 c.in_err-list.ensures)
