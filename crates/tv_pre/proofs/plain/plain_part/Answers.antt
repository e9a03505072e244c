use Rattle.std.proofs.Common.{subst, sym}
use Rattle.std.specs.List.{AllZip, flat_map}
use Rattle.tv_cases.specs.Systems.{cases_of}
use Rattle.tv_pre.specs.Making.{plain_pieces}
use Rattle.tv_pre.proofs.AddLemmas.{all_added}
use Rattle.tv_pre.proofs.plain.plain_part.Goals as goal

pub returns-clause-plain : goal.returns-clause-plain
returns-clause-plain g c =
    let about = cases_of c.args.setting.now.about.now in
    let plain = plain_pieces about.variables c.args.region in
    let proofs = c.prove_all.new.proofs.items in
    record {
      proofs = proofs;
      made = c.in_ok-plain_with.ensures.made;
      offers = λ a z. all_added (flat_map (g.O.PieceProver.owes c.args.prover.now about a) plain) c.new-proofs.result.items proofs c.new-proofs.ensures.items
          (c.in-Ok.ensures.adds a plain (subst (AllZip (g.O.PieceProver.fits c.args.prover.now about a) plain) (sym c.deref.ensures.value) z));
    }
