-- What a question has: cases between the locations, and its system.
use Rattle.std.proofs.Common.{◌≡◌, ℕ, ◌*◌, ◌<◌, ◌≤◌, List, length, ℤ, arith, sym, ◌∙◌, subst}
use Rattle.std.proofs.lemmas.List.{length-map}
use Rattle.tv_cases.specs.declared.case.Case.{Case}
use Rattle.tv_cases.specs.Views.{case_view, case_views}
use Rattle.tv_simplex.specs.Systems.{Equations}
use Rattle.tv_rank.specs.declared.question.Question.{Question}
use Rattle.tv_rank.specs.declared.unknown.Unknown.{Unknown}
use Rattle.tv_rank.specs.declared.unknown.Line.{Line}
use Rattle.tv_rank.specs.Given.{IsBetween, AreNumbered}
use Rattle.tv_rank.specs.RankingSystem.{lines, system_over}
use Rattle.tv_rank.specs.Questions.{ways_of, many_of, unknowns_of, system_asked}
use Rattle.tv_simplex.specs.Outcomes.{IsSolutionOf, IsNarrowSystem, GivesSolution}
use Rattle.tv_rank.specs.declared.found.Found.{Found}
use Rattle.tv_rank.specs.declared.found.Found.TheVariants as found
use Rattle.tv_rank.specs.Given.{lists}
use Rattle.tv_rank.specs.Reading.{terms_of, IsReadFrom}
use Rattle.tv_rank.specs.Rankings.{IsFamily}
use Rattle.tv_rank.specs.Answers.{IsAnswered}
use Rattle.tv_rank.proofs.Families.{solution_is_family}
use Rattle.tv_rank.proofs.Wholes.{between, few_unknowns}

pub numbered_views : (cases : List Case) (set : List ℕ) → AreNumbered (length cases) set → AreNumbered (length (case_views cases)) set
numbered_views cases set h = λ k l. let e = length-map cases case_view in let a = h k l in omega (arith, e, a)

pub asked_between : (q : Question) (k : ℕ) → k < many_of q → IsBetween q.locations (ways_of q k).taken
asked_between q k l = between (case_views q.cases.now) q.known.now q.set.now q.locations (numbered_views q.cases.now q.set.now q.numbered) q.within k l

-- the system that is built is that of the question
pub is_asked : (q : Question) (s : Equations) (us : List Unknown) (ls : List Line) → s ≡ system_over (ways_of q) q.falling us ls → us ≡ unknowns_of q → ls ≡ lines (ways_of q) (many_of q) q.falling q.variables → s ≡ system_asked q
is_asked q s us ls e a b = e ∙ (λ i. system_over (ways_of q) q.falling (a i) (b i))

-- what is read off a solution answers the question
pub read_answers : (q : Question) (values : List ℤ) (scale : ℤ) → IsSolutionOf (system_asked q) values scale → GivesSolution (system_asked q) values scale → IsNarrowSystem (system_asked q) → (system_asked q).rows * (system_asked q).columns ≤ 4000000 → (f : Found) → IsReadFrom q values f → IsAnswered q f
read_answers q values scale s last narrow small (found.Family terms multipliers) (t, m) = record {
  found =
      subst (λ z. IsFamily q.variables q.locations (many_of q) (ways_of q) q.falling z (lists multipliers.items)) (sym t)
      (subst (λ z. IsFamily q.variables q.locations (many_of q) (ways_of q) q.falling (terms_of q values) z) (sym m)
      (solution_is_family q.variables q.locations (many_of q) (ways_of q) q.falling q.falls values scale s narrow (λ k l. (asked_between q k l).leaves) (λ k l. (asked_between q k l).enters) q.bounded (few_unknowns (ways_of q) (many_of q) q.falling q.variables q.locations small)));
  last = record { values = values; scale = scale; last = last; terms_are = t; multipliers_are = m };
}
read_answers q values scale s last narrow small (found.None barrier) h = absurd h
