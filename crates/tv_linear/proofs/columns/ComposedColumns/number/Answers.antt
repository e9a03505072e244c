use Rattle.std.proofs.Common.{◌≡◌, ◌∙◌, ap, arith, rules, map, FitsSigned, pos, ◌+ℤ◌}
use Rattle.std.specs.Int.{w128}
use Rattle.std.proofs.lemmas.Int.{to_z-of_z}
use Rattle.tv_linear.specs.Linear.{entry, dot}
use Rattle.tv_linear.specs.Fits.{SumsHeld, IsHeld}
use Rattle.tv_linear.proofs.Entries.{columns-composed, composed_inner, composed_last, composed_too_wide}
use Rattle.tv_linear.proofs.columns.ComposedColumns.number.Goals as goal

pub returns-in-Some-clause-is : goal.returns-in-Some-clause-is
returns-in-Some-clause-is c =
    let row = c.args.self.now.row.now in
    let terms = c.args.self.now.terms.now in
    let fits : FitsSigned w128 c.in-Some.total = search rules in
    let counted = columns-composed row terms c.args.self.now.even in
    let h : SumsHeld (pos 0) c.coefficients.result.now (map (λ t. entry t c.args.column) terms) × (c.in-Some.total ≡ pos 0 +ℤ dot c.coefficients.result.now (map (λ t. entry t c.args.column) terms)) = c.in-Some.ensures in
    composed_inner row terms c.args.self.now.even c.args.column c.coefficients.result.now c.in-Some.total c.coefficients.ensures.is h.0 h.1 c.narrow.result (omega (arith, counted)) (simp to_z-of_z at c.narrow.ensures.exact)

pub returns-in-None-sum-clause-is : goal.returns-in-None-sum-clause-is
returns-in-None-sum-clause-is c =
    let row = c.args.self.now.row.now in
    let terms = c.args.self.now.terms.now in
    let fits : FitsSigned w128 c.in-Some.total = search rules in
    let constant_fits : FitsSigned w128 c.constant.result = search rules in
    let counted = columns-composed row terms c.args.self.now.even in
    let h : SumsHeld (pos 0) c.coefficients.result.now (map (λ t. entry t c.args.column) terms) × (c.in-Some.total ≡ pos 0 +ℤ dot c.coefficients.result.now (map (λ t. entry t c.args.column) terms)) = c.in-Some.ensures in
    let never : IsHeld (c.in-Some.total +ℤ c.constant.result) → ⊥ = simp to_z-of_z at c.in-None-sum.ensures in
    composed_too_wide row terms c.args.self.now.even c.args.column c.coefficients.result.now c.in-Some.total c.coefficients.ensures.is h.0 h.1 (omega (arith, counted)) (rw c.constant.ensures.is at never)

pub returns-in-Some-sum-clause-is : goal.returns-in-Some-sum-clause-is
returns-in-Some-sum-clause-is c =
    let row = c.args.self.now.row.now in
    let terms = c.args.self.now.terms.now in
    let fits : FitsSigned w128 c.in-Some.total = search rules in
    let constant_fits : FitsSigned w128 c.constant.result = search rules in
    let number_fits : FitsSigned w128 c.in-Some-sum.number = search rules in
    let counted = columns-composed row terms c.args.self.now.even in
    let h : SumsHeld (pos 0) c.coefficients.result.now (map (λ t. entry t c.args.column) terms) × (c.in-Some.total ≡ pos 0 +ℤ dot c.coefficients.result.now (map (λ t. entry t c.args.column) terms)) = c.in-Some.ensures in
    let sum : IsHeld (c.in-Some.total +ℤ c.constant.result) × (c.in-Some-sum.number ≡ c.in-Some.total +ℤ c.constant.result) = simp to_z-of_z at c.in-Some-sum.ensures in
    composed_last row terms c.args.self.now.even c.args.column c.coefficients.result.now c.in-Some.total c.coefficients.ensures.is h.0 h.1 c.in-Some-sum.number c.narrow-in-Some-sum.result (omega (arith, counted)) (sum.1 ∙ ap (λ z. c.in-Some.total +ℤ z) c.constant.ensures.is) (simp to_z-of_z at c.narrow-in-Some-sum.ensures.exact)
