use Rattle.tv_cases.specs.Systems.{cases_of}
use Rattle.tv_choice.specs.declared.question.Question.{Question}
use Rattle.tv_choice.specs.Leading.{Query}

-- what is asked
abbrev pub query_of : Question → Query
query_of q = record { system = cases_of q.about.now; location = q.location; stop = q.stop; pieces = q.pieces.now }
