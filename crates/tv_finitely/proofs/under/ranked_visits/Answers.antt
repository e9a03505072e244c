use Rattle.tv_finitely.specs.Splits.{split_of}
use Rattle.tv_finitely.proofs.PartLemmas.{parts_few}
use Rattle.tv_finitely.proofs.under.ranked_visits.Goals as goal

pub rank_count-count-requires : goal.rank_count-count-requires
rank_count-count-requires c = parts_few (split_of c.args.about.now) c.args.known.now.pieces.items c.args.numbers.now c.args.parts.now c.args.about.now.cases.are_cases.few_cases c.requires.parts
