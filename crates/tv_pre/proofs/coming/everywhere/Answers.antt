use Rattle.std.proofs.Common.{ap, ◌∙◌, map}
use Rattle.tv_cases.specs.Systems.{cases_of}
use Rattle.tv_pre.proofs.ComingLemmas.{everywhere_is}
use Rattle.tv_pre.proofs.coming.everywhere.Goals as goal

pub returns : goal.returns
returns c =
    let about = cases_of c.args.about.now in
    let g = c.in_ok-part.ensures.region in
    everywhere_is about c.in_ok-part.part.region g.over (λ l d. g.lists l d ∙ (ap (map (λ r. r.items)) c.deref.ensures.value ∙ c.in_ok-whole.ensures))
