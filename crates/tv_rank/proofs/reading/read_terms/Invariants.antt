use Rattle.std.proofs.Common.{◌≡◌, length}
use Rattle.tv_rank.specs.Questions.{ways_of, many_of}
use Rattle.tv_rank.specs.RankingSystem.{terms_below}
use Rattle.tv_rank.specs.Reading.{terms_read}
use Rattle.tv_rank.proofs.reading.read_terms.Given as goal

abbrev pub invariant-locations : goal.invariant-locations
invariant-locations l = record {
  terms : l.terms.items ≡ terms_read (ways_of l.asked) (many_of l.asked) l.asked.variables l.values l.location;
  place : l.place ≡ length (terms_below (ways_of l.asked) (many_of l.asked) l.asked.variables l.location);
}
