-- What is asked for a number of terms at each location.
use Rattle.std.specs.Prelude.{ℕ, List}
use Rattle.tv_simplex.specs.Systems.{Equations}
use Rattle.tv_rank.specs.declared.question.Question.{Question}
use Rattle.tv_rank.specs.Questions.{ways_of, many_of}
use Rattle.tv_nested.specs.declared.unknown.Line.{Line}
use Rattle.tv_nested.specs.declared.unknown.Unknown.{Unknown}
use Rattle.tv_nested.specs.NestedSystem.{unknowns, lines, nested_system}

-- the nested system that a question asks to solve for d terms at each location
abbrev pub system_asked : Question → ℕ → Equations
system_asked q d = nested_system (ways_of q) (many_of q) d q.variables q.locations

abbrev pub unknowns_of : Question → ℕ → List Unknown
unknowns_of q d = unknowns (ways_of q) (many_of q) d q.variables q.locations

abbrev pub lines_of : Question → ℕ → List Line
lines_of q d = lines (ways_of q) d q.variables (many_of q)
