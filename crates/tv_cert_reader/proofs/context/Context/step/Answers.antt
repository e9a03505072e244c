use Rattle.std.proofs.Common.{◌≡◌, ◌+◌, ◌++◌, length, arith, refl, ap, ◌∙◌, subst, length-append}
use Rattle.std.proofs.lemmas.List.{length-map}
use Rattle.tv_linear.specs.Known.{given, as_given}
use Rattle.tv_cases.specs.Systems.{cases_of}
use Rattle.tv_cases.specs.Views.{case_view}
use Rattle.tv_cert.specs.Obligations.{a_cover, case_change}
use Rattle.tv_cert.specs.Pieces.{rows_of}
use Rattle.tv_cert.specs.TargetViews.{owed_at}
use Rattle.tv_cert.proofs.TargetLemmas.{counts_as}
use Rattle.tv_cert_reader.specs.Proofs.{ReadsProof}
use Rattle.tv_cert_reader.proofs.context.Context.step.Goals as goal

pub returns : goal.returns
returns c =
    let p = c.args.piece.now in
    let k = c.args.case.now in
    let change = case_change (cases_of c.args.self.now.about.now).variables (case_view k) in
    let rows = as_given (rows_of p) ++ as_given k.guards.rows.items in
    let owed = owed_at change c.args.targets.now in
    let a = c.len.ensures.counted ∙ ap length c.rows.ensures in
    let b = c.len-2.ensures in
    let many : length (as_given (rows_of p) ++ as_given k.guards.rows.items) ≡ c.len.result + c.len-2.result = omega (arith, a, b, k.guards.rows.ok.0, length-map (rows_of p) given, length-map k.guards.rows.items given, length-append (as_given (rows_of p)) (as_given k.guards.rows.items)) in
    subst (λ n. ReadsProof (a_cover (n + k.draws) rows owed) c.args.cursor.now c.cover.new.cursor c.cover.result) c.variables.ensures.same (c.cover.ensures rows owed many (λ i x y. counts_as change c.args.targets.now owed refl x y i))
