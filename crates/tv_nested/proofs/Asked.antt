-- What is read off a solution answers the question.
use Rattle.std.proofs.Common.{ℕ, ◌*◌, ◌<◌, ◌≤◌, List, ℤ, arith, sym, subst}
use Rattle.tv_simplex.specs.Outcomes.{IsSolutionOf, IsNarrowSystem, GivesSolution}
use Rattle.tv_rank.specs.declared.question.Question.{Question}
use Rattle.tv_rank.specs.Questions.{ways_of, many_of}
use Rattle.tv_rank.proofs.Asked.{asked_between}
use Rattle.tv_nested.specs.declared.nesting.Family.{Family}
use Rattle.tv_nested.specs.declared.nesting.Nesting.TheVariants.{Terms}
use Rattle.tv_nested.specs.Found.{IsReadFrom, IsNestingOf}
use Rattle.tv_nested.specs.Questions.{system_asked}
use Rattle.tv_nested.proofs.Families.{solution_is_family}
use Rattle.tv_nested.proofs.Wholes.{few_unknowns}

pub read_answers : (q : Question) (d : ℕ) (values : List ℤ) (scale : ℤ) → 0 < d → IsSolutionOf (system_asked q d) values scale → GivesSolution (system_asked q d) values scale → IsNarrowSystem (system_asked q d) → (system_asked q d).rows * (system_asked q d).columns ≤ 4000000 → (family : Family) → IsReadFrom q d values scale family → IsNestingOf q d (Terms family)
read_answers q d values scale some s last narrow small family h = record {
  found =
      rw h.terms_are
      (rw h.lines_are
      (rw h.scale_is
      (solution_is_family q.variables q.locations (many_of q) d (ways_of q) values scale s narrow (λ k l. (asked_between q k l).leaves) (λ k l. (asked_between q k l).enters) q.bounded (few_unknowns (ways_of q) (many_of q) d q.variables q.locations (let f = q.falls in omega (arith, f)) small) some)));
  last = record {
    values = values;
    last = subst (GivesSolution (system_asked q d) values) (sym h.scale_is) last;
    terms_are = h.terms_are;
    lines_are = h.lines_are;
  };
}
