use Rattle.std.proofs.Common.{rules, length, ap, arith, subst, FitsSigned, to_z, of_z}
use Rattle.std.specs.Int.{w128}
use Rattle.std.proofs.lemmas.Int.{to_z-of_z}
use Rattle.tv_simplex.specs.Views.{IsAnswer, GivesAnswer}
use Rattle.tv_rank.specs.Questions.{ways_of, many_of}
use Rattle.tv_rank.proofs.Asked.{asked_between}
use Rattle.tv_nested.specs.Found.{IsReadFrom}
use Rattle.tv_nested.specs.Questions.{system_asked}
use Rattle.tv_nested.proofs.Asked.{read_answers}
use Rattle.tv_nested.proofs.Barriers.{barrier_excludes}
use Rattle.tv_nested.proofs.Wholes.{few_unknowns}
use Rattle.tv_nested.proofs.solving.nesting_of.Goals as goal

pub returns-in-Barrier : goal.returns-in-Barrier
returns-in-Barrier c =
    let q = c.args.asked.now in
    let b = subst (λ a. IsAnswer (system_asked q c.args.depth) a) c.in-Barrier.is c.requires.answers in
    record {
      found = (b, barrier_excludes q.variables q.locations (many_of q) c.args.depth (ways_of q) (asked_between q) c.requires.points c.in-Barrier.y.items b);
      last = subst (λ a. GivesAnswer (system_asked q c.args.depth) a) c.in-Barrier.is c.requires.last;
    }

pub returns-in_ok-family-in-Solution : goal.returns-in_ok-family-in-Solution
returns-in_ok-family-in-Solution c =
    let q = c.args.asked.now in
    let s = subst (λ a. IsAnswer (system_asked q c.args.depth) a) c.in-Solution.is c.requires.answers in
    let l = subst (λ a. GivesAnswer (system_asked q c.args.depth) a) c.in-Solution.is c.requires.last in
    let fits : FitsSigned w128 c.in-Solution.scale = search rules in
    read_answers q c.args.depth c.in-Solution.values.items c.in-Solution.scale c.requires.some s l c.requires.narrow c.requires.small c.in_ok-family-in-Solution.family
    (subst (λ y. IsReadFrom q c.args.depth c.in-Solution.values.items y c.in_ok-family-in-Solution.family) (to_z-of_z w128 c.in-Solution.scale fits)
    (subst (λ z. IsReadFrom q c.args.depth z (to_z w128 (of_z w128 c.in-Solution.scale)) c.in_ok-family-in-Solution.family) c.deref.ensures.value c.in_ok-family-in-Solution.ensures))

pub family_of-requires-clause-few : goal.family_of-requires-clause-few
family_of-requires-clause-few c =
    let q = c.args.asked.now in
    let s = subst (λ a. IsAnswer (system_asked q c.args.depth) a) c.in-Solution.is c.requires.answers in
    let a = s.as_many in
    let f = few_unknowns (ways_of q) (many_of q) c.args.depth q.variables q.locations (let p = q.falls in omega (arith, p)) c.requires.small in
    let e = ap length c.deref.ensures.value in
    omega (arith, a, f, e)
