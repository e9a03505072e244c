use Rattle.std.proofs.Common.{subst}
use Rattle.tv_simplex.specs.Views.{IsAnswer, GivesAnswer}
use Rattle.tv_rank.specs.Questions.{ways_of, many_of, system_asked}
use Rattle.tv_rank.specs.Reading.{IsReadFrom}
use Rattle.tv_rank.proofs.Asked.{asked_between, read_answers}
use Rattle.tv_rank.proofs.Flattened.{barrier_excludes}
use Rattle.tv_rank.proofs.ranking.found_of.Goals as goal

pub returns-in-Barrier : goal.returns-in-Barrier
returns-in-Barrier c =
    let q = c.args.asked.now in
    let b = subst (λ a. IsAnswer (system_asked q) a) c.in-Barrier.is c.requires.answers in
    record {
      found = (
        b,
        barrier_excludes q.variables q.locations (many_of q) (ways_of q) q.falling q.falls (λ k l. (asked_between q k l).leaves) (λ k l. (asked_between q k l).enters) c.requires.points c.in-Barrier.y.items b,
      );
      last = subst (λ a. GivesAnswer (system_asked q) a) c.in-Barrier.is c.requires.last;
    }

pub returns-in_ok-found-in-Solution : goal.returns-in_ok-found-in-Solution
returns-in_ok-found-in-Solution c =
    let q = c.args.asked.now in
    let s = subst (λ a. IsAnswer (system_asked q) a) c.in-Solution.is c.requires.answers in
    let l = subst (λ a. GivesAnswer (system_asked q) a) c.in-Solution.is c.requires.last in
    read_answers q c.in-Solution.values.items c.in-Solution.scale s l c.requires.narrow c.requires.small c.in_ok-found-in-Solution.found (subst (λ z. IsReadFrom q z c.in_ok-found-in-Solution.found) c.deref.ensures.value c.in_ok-found-in-Solution.ensures)
