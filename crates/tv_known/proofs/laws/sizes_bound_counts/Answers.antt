use Rattle.tv_known.proofs.SizeLemmas.{bounds_counts, bounds_rounds, each_counts}
use Rattle.tv_known.proofs.laws.sizes_bound_counts.Goals as goal

pub returns : goal.returns
returns c = record {
  properties = λ about last f part l stands inside. bounds_counts about last f part l stands inside;
  rounds = λ about last f path shape left right k l stands early inside. bounds_rounds about last f path shape left right k l stands early inside;
  branches = λ cases count d among. each_counts cases count d among;
}
