use Rattle.std.proofs.Common.{rules, FitsSigned, subst, sym}
use Rattle.std.specs.Int.{w128}
use Rattle.std.specs.Prelude.{All}
use Rattle.std.proofs.lemmas.Int.{to_z-of_z}
use Rattle.tv_linear.specs.Linear.{IsWithin}
use Rattle.tv_propose.proofs.ConstantLemmas.{insert_all}
use Rattle.tv_propose.proofs.constants.put.Goals as goal

pub returns-clause-all : goal.returns-clause-all
returns-clause-all c =
    let f : FitsSigned w128 c.args.number = search rules in
    let g : FitsSigned w128 c.opposite.result = search rules in
    let first = subst (All (IsWithin 62)) (sym (simp to_z-of_z at c.in_ok-insert.ensures.keys)) (insert_all (IsWithin 62) c.args.numbers.now.keys c.args.number c.requires.narrow c.requires.all) in
    subst (All (IsWithin 62)) (sym (simp to_z-of_z at c.in_ok-insert-2.ensures.keys)) (insert_all (IsWithin 62) c.insert.new.self.keys c.opposite.result c.opposite.ensures.narrow first)
