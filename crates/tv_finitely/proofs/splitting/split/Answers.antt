use Rattle.tv_program.specs.Programs.{system_of}
use Rattle.tv_formula.specs.Formulas.{property_of, variables_of, locations_of}
use Rattle.tv_formula.specs.Views.{property}
use Rattle.tv_cases.specs.Systems.{cases_of}
use Rattle.tv_finitely.specs.Splits.{split_of}
use Rattle.tv_finitely.proofs.Answered.{IsAsked, asked, limited-copies, as-many, split-in, split-of, refused}
use Rattle.tv_finitely.proofs.splitting.split.Goals as goal
use Rattle.tv_finitely.proofs.splitting.split.Goals.{Else-not-is_within}

known : (c : Else-not-is_within) → IsAsked (system_of c.args.program.now) (property_of c.args.condition.now) (locations_of c.args.condition.now)
known c =
    asked (system_of c.args.program.now) (property_of c.args.condition.now) (property c.tree-tree.result.now) (variables_of c.args.condition.now) (locations_of c.args.condition.now) c.edges.result.now
    c.is_local.result c.is_within.result c.edges.ensures.same c.edges.ensures.limits c.tree-tree.ensures.same c.tree-tree.ensures.limits c.requires c.is_local.ensures c.if-not-is_local.false
    c.if-count-gt4096.false c.is_within.ensures c.if-not-is_within.false

pub doubled-requires : goal.doubled-requires
doubled-requires c =
    limited-copies (system_of c.args.program.now) (property_of c.args.condition.now) (property c.tree-tree.result.now) (locations_of c.args.condition.now) c.tree-tree.ensures.same (known c)

pub new-requires : goal.new-requires
new-requires c =
    as-many (system_of c.in_ok-doubled.doubled) (cases_of c.in-Ok.cases).cases c.in_ok-entering-in-Ok.entering.items c.in-Ok.ensures.exact c.in_ok-entering-in-Ok.ensures

pub returns-in-Ok-clause-exact : goal.returns-in-Ok-clause-exact
returns-in-Ok-clause-exact c =
    split-in (system_of c.args.program.now) (system_of c.in_ok-doubled.doubled) (property_of c.args.condition.now) (property c.tree-tree.result.now) (locations_of c.args.condition.now)
    (known (goal.at.returns-in-Ok-clause-exact c).Else-not-is_within) c.tree-tree.ensures.same c.in_ok-doubled.ensures (cases_of c.in-Ok.cases) c.in_ok-entering-in-Ok.entering.items (split_of c.new.result) c.in-Ok.ensures.exact
    c.in_ok-entering-in-Ok.ensures c.new.ensures

pub returns-in-Ok-clause-meaning : goal.returns-in-Ok-clause-meaning
returns-in-Ok-clause-meaning c =
    split-of (system_of c.args.program.now) (system_of c.in_ok-doubled.doubled) (property_of c.args.condition.now) (property c.tree-tree.result.now) (locations_of c.args.condition.now)
    (known (goal.at.returns-in-Ok-clause-meaning c).Else-not-is_within) c.tree-tree.ensures.same c.in_ok-doubled.ensures (cases_of c.in-Ok.cases) c.in_ok-entering-in-Ok.entering.items (split_of c.new.result) c.in-Ok.ensures.exact
    c.in_ok-entering-in-Ok.ensures c.new.ensures c.in-Ok.ensures.same_program

pub returns : goal.returns
returns c = record {
  exact = refused (system_of c.args.program.now) (system_of c.in_ok-doubled.doubled) (property_of c.args.condition.now) (property c.tree-tree.result.now) (locations_of c.args.condition.now)
      (known (goal.at.returns c).Else-not-is_within) c.tree-tree.ensures.same c.in_ok-doubled.ensures c.in-Err.fault c.split_fault.result c.in-Err.ensures.exact c.split_fault.ensures;
  meaning = tt;
}
