use Rattle.std.proofs.Common.{sym, subst}
use Rattle.tv_linear.specs.declared.region.Region.{Region}
use Rattle.tv_cases.specs.Systems.{cases_of}
use Rattle.tv_pre.specs.Atoms.{IsTested}
use Rattle.tv_pre.specs.Parts.{IsPart}
use Rattle.tv_pre.proofs.AtomLemmas.{atom_part, atom_lists}
use Rattle.tv_pre.proofs.atoms.atom.Goals as goal

pub returns-clause-region : goal.returns-clause-region
returns-clause-region c =
    let about = cases_of c.args.about.now in
    let test = c.args.test.now in
    let got = c.in_ok-pieces in
    let m = got.field-0 in
    let all = got.ensures in
    subst (IsTested about test) (sym c.in_ok-plain_with.ensures.region) (record {
      over = record { variables = c.variables.ensures.same; locations = c.locations.ensures.same; pieces = all.over };
      lists = λ l inside. atom_lists about test m.pieces.items m.proofs.items l all inside;
    })

pub returns-clause-part : goal.returns-clause-part
returns-clause-part c f h =
    let about = cases_of c.args.about.now in
    let test = c.args.test.now in
    let got = c.in_ok-pieces in
    let m = got.field-0 in
    let all = got.ensures in
    let node = c.in_ok-plain_with.field-0.node in
    let region : Region = record { variables = c.variables.result; locations = c.locations.result; pieces = m.pieces } in
    subst (λ r. IsPart about f r node) (sym c.in_ok-plain_with.ensures.region)
    (atom_part about test f region node c.new.result.items m.proofs.items h c.new.ensures.items all c.in_ok-plain_with.ensures.made)
