use Rattle.std.specs.Prelude.{ℕ, List, length}
use Rattle.tv_cases.specs.Views.{case_views}
use Rattle.tv_simplex.specs.Systems.{Equations}
use Rattle.tv_rank.specs.declared.question.Question.{Question}
use Rattle.tv_rank.specs.Ways.{Way, way_at}
use Rattle.tv_rank.specs.declared.unknown.Unknown.{Unknown}
use Rattle.tv_rank.specs.RankingSystem.{terms_below, unknowns, ranking_system}

-- the ways of a question: the cases of its set, each with the rows that are known where it starts
abbrev pub ways_of : Question → ℕ → Way
ways_of q = way_at (case_views q.cases.now) q.known.now q.set.now

abbrev pub many_of : Question → ℕ
many_of q = length q.set.now

-- the ranking system that a question asks to solve
abbrev pub system_asked : Question → Equations
system_asked q = ranking_system (ways_of q) (many_of q) q.falling q.variables q.locations

-- the unknowns of the terms at the first locations
abbrev pub terms_until : Question → ℕ → List Unknown
terms_until q l = terms_below (ways_of q) (many_of q) q.variables l

-- all unknowns
abbrev pub unknowns_of : Question → List Unknown
unknowns_of q = unknowns (ways_of q) (many_of q) q.falling q.variables q.locations
