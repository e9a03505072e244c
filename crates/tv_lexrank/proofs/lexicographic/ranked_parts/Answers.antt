use Rattle.tv_cases.specs.Systems.{cases_of}
use Rattle.tv_lexrank.proofs.RankedSets.{has_ranking}
use Rattle.tv_lexrank.proofs.ShowLemmas.{parts_few}
use Rattle.tv_lexrank.proofs.lexicographic.ranked_parts.Goals as goal

pub rank_count-count-requires : goal.rank_count-count-requires
rank_count-count-requires c = parts_few (cases_of c.args.about.now) c.args.known.now.pieces.items c.args.numbers.now c.args.parts.now c.args.about.now.are_cases.few_cases c.requires.parts

pub returns-in-Ok-clause-lexicographic : goal.returns-in-Ok-clause-lexicographic
returns-in-Ok-clause-lexicographic c = λ bare. has_ranking (cases_of c.args.about.now) c.args.known.now.pieces.items c.args.numbers.now c.args.parts.now c.args.about.now.are_cases bare c.requires.components c.requires.below c.requires.parts
