use Rattle.std.proofs.Common.{inr, arith, ◌≡◌, ◌<◌, ◌^◌, refl, ap, ◌∙◌}
use Rattle.tv_cases.specs.Comparisons.{comparison_lists}
use Rattle.tv_cases.specs.Systems.{cases_of}
use Rattle.tv_cert.specs.AimViews.{aim_states}
use Rattle.tv_cert.specs.Claims.{about_with, shown}
use Rattle.tv_cert.specs.Nodes.{size}
use Rattle.tv_cert.specs.Statements.{stated}
use Rattle.tv_shape.specs.Kinds.{kinds_stated}
use Rattle.tv_shape.proofs.AmountLemmas.{obligations_counted, told}
use Rattle.tv_shape.proofs.FitLemmas.{refused}
use Rattle.tv_shape.proofs.certificate.Certificate.new.Goals as goal

pub returns-in-Err : goal.returns-in-Err
returns-in-Err c =
    let about = about_with (cases_of c.args.about.now) in
    let f = shown c.args.claim.now c.args.verdict in
    let aim_is : aim_states c.aim-aim.result.now ≡ stated about.tests f = c.aim-aim.ensures ∙ ap (λ n. stated (comparison_lists n) f) c.requires.variables in
    refused about f c.args.root c.args.verdict c.in-Err.fault (c.in-Err.ensures about f refl aim_is)

pub returns-in-Ok-kinds_of : goal.returns-in-Ok-kinds_of
returns-in-Ok-kinds_of c =
    let about = about_with (cases_of c.args.about.now) in
    let f = shown c.args.claim.now c.args.verdict in
    let root = c.args.root in
    let verdict = c.args.verdict in
    let aim_is : aim_states c.aim-aim.result.now ≡ stated about.tests f = c.aim-aim.ensures ∙ ap (λ n. stated (comparison_lists n) f) c.requires.variables in
    let fits = c.in-Ok.ensures about f refl aim_is in
    let many = obligations_counted about f root verdict fits.nodes.shape in
    let count = c.in-Some.ensures in (
      record {
        fits = fits;
        named = c.in-Ok-kinds_of.ensures ∙ ap kinds_stated aim_is;
        counted = omega (arith, many, count);
        few_nodes = told c.node_count.result (size root < 2 ^ 32) (size root) c.if-is_none.ensures c.node_count.ensures;
        few_obligations = omega (arith, many, count);
      },
      refl,
      refl,
    )

pub returns-in-None : goal.returns-in-None
returns-in-None c =
    let about = about_with (cases_of c.args.about.now) in
    let f = shown c.args.claim.now c.args.verdict in
    let aim_is : aim_states c.aim-aim.result.now ≡ stated about.tests f = c.aim-aim.ensures ∙ ap (λ n. stated (comparison_lists n) f) c.requires.variables in
    inr (c.in-Ok.ensures about f refl aim_is)

pub returns-in-Err-kinds_of : goal.returns-in-Err-kinds_of
returns-in-Err-kinds_of c =
    let about = about_with (cases_of c.args.about.now) in
    let f = shown c.args.claim.now c.args.verdict in
    let aim_is : aim_states c.aim-aim.result.now ≡ stated about.tests f = c.aim-aim.ensures ∙ ap (λ n. stated (comparison_lists n) f) c.requires.variables in
    inr (c.in-Ok.ensures about f refl aim_is)
