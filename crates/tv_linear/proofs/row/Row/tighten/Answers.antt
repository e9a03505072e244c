use Rattle.std.proofs.Common.{◌≡◌, rules, to_z, of_z}
use mir.Syntax.{w64}
use Rattle.tv_linear.specs.Linear.{linear}
use Rattle.tv_linear.specs.Tight.{divisor}
use Rattle.tv_linear.proofs.Tightened.{tight-same_points, tight-tightened, tight-copied}
use Rattle.tv_linear.proofs.row.Row.tighten.Goals as goal

pub returns-clause-same_points : goal.returns-clause-same_points
returns-clause-same_points c =
    tight-same_points c.args.self.now (linear c.in_ok-all_rounded_up.field-0.items (to_z w64 (of_z w64 c.rounded_up.result))) (search rules)

pub returns-then-divisor-eq0-clause-divided : goal.returns-then-divisor-eq0-clause-divided
returns-then-divisor-eq0-clause-divided c =
    let none : divisor c.args.self.now.coefficients ≡ 0 = search rules in
    tight-copied c.args.self.now c.copy.result none c.copy.ensures

pub returns-clause-divided : goal.returns-clause-divided
returns-clause-divided c =
    tight-tightened c.args.self.now (linear c.in_ok-all_rounded_up.field-0.items (to_z w64 (of_z w64 c.rounded_up.result))) (search rules)
