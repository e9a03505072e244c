use Rattle.std.proofs.Common.{◌≡◌, length, arith, rules, FitsSigned, ap, ◌∙◌, set, negsuc}
use Rattle.std.specs.Int.{w64}
use Rattle.std.proofs.lemmas.Int.{to_z-of_z}
use Rattle.tv_linear.specs.Linear.{linear}
use Rattle.tv_linear.proofs.PlainLists.{length-unit}
use Rattle.tv_propose.proofs.TableLemmas.{set_unit}
use Rattle.tv_propose.proofs.differences.difference.Goals as goal

pub index_mut-requires : goal.index_mut-requires
index_mut-requires c =
    let l = c.in_ok-coefficients.ensures.len in
    let k : length c.coefficients.result.now ≡ c.args.columns = ap length (c.coefficients.ensures.is ∙ ap (λ r. r.coefficients) c.in_ok-first.ensures) ∙ length-unit c.args.columns c.args.x in
    let y = c.requires.y in
    omega (arith, l, k, y)

pub returns : goal.returns
returns c =
    let f : FitsSigned w64 c.args.more = search rules in
    let e = simp to_z-of_z at c.from_narrow.ensures in
    let items = c.in_ok-coefficients.ensures.items ∙ c.coefficients.ensures.is ∙ ap (λ r. r.coefficients) c.in_ok-first.ensures in
    e ∙ ap (λ cs. linear cs c.args.more) (ap (λ zs. set zs c.args.y (negsuc 0)) items ∙ set_unit c.args.columns c.args.x c.args.y c.requires.x c.requires.y c.requires.different)
