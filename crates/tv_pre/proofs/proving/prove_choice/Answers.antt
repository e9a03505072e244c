use Rattle.tv_cases.specs.Systems.{cases_of}
use Rattle.tv_cert.specs.declared.node.Proof.TheVariants.{Chosen}
use Rattle.tv_cert.specs.Obligations.{choice_of, choice_into}
use Rattle.tv_cert.specs.Targets.{no_fall}
use Rattle.tv_cert.specs.Claims.{about_with}
use Rattle.tv_pre.proofs.AddLemmas.{adds_one}
use Rattle.tv_pre.proofs.proving.prove_choice.Goals as goal

pub returns-in_ok-push_item-in-Ok-clause-adds : goal.returns-in_ok-push_item-in-Ok-clause-adds
returns-in_ok-push_item-in-Ok-clause-adds c number k p ps m h =
    let about = about_with (cases_of c.args.setting.now.about.now) in
    adds_one (choice_of number k about p c.args.stop (choice_into about ps (λ c draws. no_fall))) (Chosen c.in-Ok.choice) c.args.proofs.now.items c.push_item.new.items.items c.in_ok-push_item-in-Ok.ensures
    (c.in-Ok.ensures.shows number k p ps m h)
