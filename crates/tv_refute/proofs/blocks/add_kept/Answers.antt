use Rattle.std.proofs.Common.{rules, arith, ◌≡◌, ◌+◌, ◌-◌, ◌<◌, ℕ, get_or, pos, sym, ◌∙◌, FitsSigned}
use Rattle.std.specs.Int.{w128}
use Rattle.std.proofs.lemmas.Int.{to_z-of_z}
use Rattle.tv_linear.specs.Known.{kept, term_number}
use Rattle.tv_refute.specs.Blocks.{further}
use Rattle.tv_refute.proofs.Telling.{nothing_added, one_added, kept_number}
use Rattle.tv_refute.proofs.Places.{unit_same, unit_other}
use Rattle.tv_refute.proofs.blocks.add_kept.Goals.{then-v-j-via-then-v-j, then-v-j-via-else-v-j+then-v-j-2}
use Rattle.tv_refute.proofs.blocks.add_kept.Goals as goal

pub returns-then-v-j-clause-told : goal.returns-then-v-j-clause-told
returns-then-v-j-clause-told c =
    let out : (k : ℕ) → k < c.args.count → c.in-Some.j + k ≡ c.args.v → ⊥ = elim c.then-v-j.branch [ then-v-j-via-then-v-j w ↦ (λ k h e. omega (arith, w.if-v-j.true, h, e)) | then-v-j-via-else-v-j+then-v-j-2 w ↦ (λ k h e. omega (arith, w.if-v-j.false, w.if-v-j-2.true, h, e)) ] in
    nothing_added c.args.count c.args.factor (λ k. term_number (further c.args.column k) (kept c.args.v)) c.args.totals.now
    (λ k h. kept_number c.args.column c.in-Some.j k c.args.v c.in-Some.is ∙ sym (unit_other (c.in-Some.j + k) c.args.v (out k h)))
    c.requires.held

pub returns-in-None-add_product-clause-told : goal.returns-in-None-add_product-clause-told
returns-in-None-add_product-clause-told c =
    let total_fits : FitsSigned w128 (get_or c.args.totals.now (c.args.v - c.in-Some.j) (pos 0)) = search rules in
    let factor_fits : FitsSigned w128 c.args.factor = search rules in
    let never = simp to_z-of_z at c.in-None-add_product.ensures in
    let there : c.in-Some.j + (c.args.v - c.in-Some.j) ≡ c.args.v = omega (arith, c.if-v-j.false) in
    λ all. never (rw (kept_number c.args.column c.in-Some.j (c.args.v - c.in-Some.j) c.args.v c.in-Some.is ∙ sym (unit_same (c.in-Some.j + (c.args.v - c.in-Some.j)) c.args.v there)) at (all (c.args.v - c.in-Some.j) (omega (arith, c.if-v-j.false, c.if-v-j-2.false))))

pub returns-in-Some-add_product-clause-told : goal.returns-in-Some-add_product-clause-told
returns-in-Some-add_product-clause-told c =
    let total_fits : FitsSigned w128 (get_or c.args.totals.now (c.args.v - c.in-Some.j) (pos 0)) = search rules in
    let factor_fits : FitsSigned w128 c.args.factor = search rules in
    let sum_fits : FitsSigned w128 c.in-Some-add_product.sum = search rules in
    let w = simp to_z-of_z at c.in-Some-add_product.ensures in
    let there : c.in-Some.j + (c.args.v - c.in-Some.j) ≡ c.args.v = omega (arith, c.if-v-j.false) in
    rw (to_z-of_z w128 c.in-Some-add_product.sum sum_fits)
    (one_added c.args.count c.args.factor (λ k. term_number (further c.args.column k) (kept c.args.v)) c.args.totals.now (c.args.v - c.in-Some.j) c.in-Some-add_product.sum (omega arith)
    (kept_number c.args.column c.in-Some.j (c.args.v - c.in-Some.j) c.args.v c.in-Some.is ∙ sym (unit_same (c.in-Some.j + (c.args.v - c.in-Some.j)) c.args.v there))
    (λ k h n. kept_number c.args.column c.in-Some.j k c.args.v c.in-Some.is ∙ sym (unit_other (c.in-Some.j + k) c.args.v (λ e. n (omega (arith, e, there)))))
    c.requires.held w.0 w.1)
