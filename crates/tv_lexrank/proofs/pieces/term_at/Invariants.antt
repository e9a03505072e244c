use Rattle.std.proofs.Common.{◌≡◌, drop}
use Rattle.tv_rank.specs.Rankings.{local_term}
use Rattle.tv_lexrank.proofs.pieces.term_at.Given as goal

abbrev pub invariant-terms : goal.invariant-terms
invariant-terms l = local_term l.variables l.terms l.location ≡ local_term l.variables (drop l.term-index l.terms) l.location
