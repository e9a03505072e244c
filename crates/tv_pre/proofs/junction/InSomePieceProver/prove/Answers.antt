use Rattle.std.specs.List.{flat_map}
use Rattle.tv_cases.specs.Systems.{cases_of}
use Rattle.tv_cert.specs.declared.node.Kind.TheVariants as kind
use Rattle.tv_cert.specs.declared.node.Proof.TheVariants.{Covered}
use Rattle.tv_cert.specs.Claims.{about_with}
use Rattle.tv_cert.specs.Obligations.{cover_of}
use Rattle.tv_pre.proofs.AddLemmas.{adds_one}
use Rattle.tv_pre.proofs.junction.InSomePieceProver.prove.Goals as goal

pub returns-in_ok-push_item-in-Ok-clause-adds : goal.returns-in_ok-push_item-in-Ok-clause-adds
returns-in_ok-push_item-in-Ok-clause-adds c a p f =
    let joined = flat_map (λ kid. kid) a.kids in
    adds_one (cover_of a.number kind.Child (about_with (cases_of c.args.setting.now.about.now)) p joined) (Covered c.in-Ok.cover) c.args.proofs.now.items c.push_item.new.items.items c.in_ok-push_item-in-Ok.ensures
    (c.in-Ok.ensures.shows a.number kind.Child p joined f.0 f.1)
