use Rattle.std.proofs.Common.{map, take}
use Rattle.tv_cases.specs.Systems.{cases_of}
use Rattle.tv_cert.specs.declared.node.Kind.TheVariants as kind
use Rattle.tv_cert.specs.declared.node.Marked.{Marked}
use Rattle.tv_cert.specs.Claims.{about_with}
use Rattle.tv_cert.specs.Obligations.{cover_of}
use Rattle.tv_pre.specs.Pieces.{IsMarked}
use Rattle.tv_pre.specs.Offers.{Adds}
use Rattle.tv_pre.specs.Around.{Around, AreKids}
use Rattle.tv_pre.proofs.junction.InEachPieceProver.prove.Given as goal

abbrev pub invariant-regions : goal.invariant-regions
invariant-regions l =
    (a : Around) (p : Marked) → IsMarked p l.piece → AreKids a.kids l.self.regions.now →
    Adds (map (cover_of a.number kind.Child (about_with (cases_of l.setting.about.now)) p) (take l.region-index a.kids)) l.fn.proofs.items l.proofs.items
