-- What a question is answered.
use Rattle.std.specs.Prelude.{◌≡◌, ℕ, List, ℤ, length}
use Rattle.tv_rank.specs.declared.question.Question.{Question}
use Rattle.tv_rank.specs.Questions.{ways_of, many_of}
use Rattle.tv_nested.specs.declared.nesting.Family.{Family}
use Rattle.tv_nested.specs.declared.nesting.Nesting.{Nesting}
use Rattle.tv_nested.specs.Answers.{IsAnswered}
use Rattle.tv_nested.specs.NestedSystem.{terms_below}
use Rattle.tv_nested.specs.Reading.{tuple_read, lines_read, tuple_of, lines_of_cases}

-- the family is read off these values
pub record IsReadFrom (q : Question) (d : ℕ) (values : List ℤ) (scale : ℤ) (family : Family) : Type 0 where
  pub terms_are : tuple_of family.terms.items ≡ tuple_read (ways_of q) (many_of q) d q.variables values q.locations d
  pub scale_is : family.scale ≡ scale
  pub lines_are :
      lines_of_cases family.lines.items
      ≡ lines_read (ways_of q) d values (length (terms_below (ways_of q) (many_of q) d q.variables q.locations)) (many_of q)

-- the terms or the barrier of a question
abbrev pub IsNestingOf : Question → ℕ → Nesting → Type 0
IsNestingOf q d n = IsAnswered q.variables q.locations (many_of q) d (ways_of q) n
