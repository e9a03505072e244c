use Rattle.std.proofs.Common.{sym, subst, ◌+◌, ◌∷◌, []}
use Rattle.tv_cases.specs.Systems.{cases_of}
use Rattle.tv_formula.specs.declared.tree.Path.{Path}
use Rattle.tv_pre.specs.Along.{AreBefore, OthersLeadOut}
use Rattle.tv_pre.specs.Sized.{IsFewBefore}
use Rattle.tv_pre.specs.Built.{in_any, in_every, of_any, of_every, IsFaultOf}
use Rattle.tv_pre.proofs.BuiltLemmas.{first_built, one_more, one_more_refused}
use Rattle.tv_pre.proofs.PassedLemmas.{passed_on, region_fault}
use Rattle.tv_pre.proofs.SetLemmas.{every_before, every_others, any_others}
use Rattle.tv_pre.proofs.SizedLemmas.{every_back_few, any_back_few}
use Rattle.tv_formula.specs.declared.tree.Path.TheVariants.{Every, Any}
use Rattle.tv_pre.specs.Counted.{IsCountedBefore}
use Rattle.tv_pre.proofs.CountedLemmas.{before_counted}
use Rattle.tv_pre.proofs.regions.back_into.Goals as goal

pub returns-in_err-before_every-in-Every-clause-refused : goal.returns-in_err-before_every-in-Every-clause-refused
returns-in_err-before_every-in-Every-clause-refused c =
    let about = cases_of c.args.setting.now.about.now in
    let budget = c.args.setting.now.budget.now in
    let region = c.args.region.now in
    passed_on (IsFaultOf about budget 1 (region ∷ [])) c.from_residual.result c.from_residual.ensures.1
    (λ r is s h m. region_fault about budget s (1 + h) c.in_err-before_every-in-Every.field-0.0 r is
    (one_more_refused about s budget h c.in_err-before_every-in-Every.field-0.0 (in_every h region c.in_err-before_every-in-Every.field-0.0 (first_built about s h region [] m) c.in_err-before_every-in-Every.ensures.refused)))

pub returns-in_err-before_any-in-Any-clause-refused : goal.returns-in_err-before_any-in-Any-clause-refused
returns-in_err-before_any-in-Any-clause-refused c =
    let about = cases_of c.args.setting.now.about.now in
    let budget = c.args.setting.now.budget.now in
    let region = c.args.region.now in
    passed_on (IsFaultOf about budget 1 (region ∷ [])) c.from_residual-in_err-before_any-in-Any.result c.from_residual-in_err-before_any-in-Any.ensures.1
    (λ r is s h m. region_fault about budget s (1 + h) c.in_err-before_any-in-Any.field-0.0 r is
    (one_more_refused about s budget h c.in_err-before_any-in-Any.field-0.0 (in_any h region c.in_err-before_any-in-Any.field-0.0 (first_built about s h region [] m) c.in_err-before_any-in-Any.ensures.refused)))

pub returns-in_ok-before_every-in-Every-clause-before : goal.returns-in_ok-before_every-in-Every-clause-before
returns-in_ok-before_every-in-Every-clause-before c =
    let about = cases_of c.args.setting.now.about.now in
    let region = c.args.region.now in
    let back = c.in_ok-before_every-in-Every.field-0 in
    subst (λ (p : Path). AreBefore about p region back) (sym c.in-Every.is) (every_before about region back c.in_ok-before_every-in-Every.ensures.before)

pub returns-in_ok-before_every-in-Every-clause-built : goal.returns-in_ok-before_every-in-Every-clause-built
returns-in_ok-before_every-in-Every-clause-built c =
    let about = cases_of c.args.setting.now.about.now in
    let region = c.args.region.now in
    let back = c.in_ok-before_every-in-Every.field-0 in
    (λ s h m. one_more about s h back (of_every h region back (first_built about s h region [] m) c.in_ok-before_every-in-Every.ensures.before))

pub returns-in_ok-before_any-in-Any-clause-built : goal.returns-in_ok-before_any-in-Any-clause-built
returns-in_ok-before_any-in-Any-clause-built c =
    let about = cases_of c.args.setting.now.about.now in
    let region = c.args.region.now in
    let back = c.in_ok-before_any-in-Any.field-0 in
    (λ s h m. one_more about s h back (of_any h region back (first_built about s h region [] m) c.in_ok-before_any-in-Any.ensures.before))

pub returns-in_ok-before_every-in-Every-clause-others : goal.returns-in_ok-before_every-in-Every-clause-others
returns-in_ok-before_every-in-Every-clause-others c =
    let about = cases_of c.args.setting.now.about.now in
    let region = c.args.region.now in
    let back = c.in_ok-before_every-in-Every.field-0 in
    subst (λ (p : Path). OthersLeadOut about p region back) (sym c.in-Every.is) (every_others about region back c.in_ok-before_every-in-Every.ensures.before)

pub returns-in_ok-before_any-in-Any-clause-others : goal.returns-in_ok-before_any-in-Any-clause-others
returns-in_ok-before_any-in-Any-clause-others c =
    let about = cases_of c.args.setting.now.about.now in
    let region = c.args.region.now in
    let back = c.in_ok-before_any-in-Any.field-0 in
    subst (λ (p : Path). OthersLeadOut about p region back) (sym c.in-Any.is) (any_others about region back c.in_ok-before_any-in-Any.ensures.before)

pub returns-in_ok-before_every-in-Every-clause-bounded : goal.returns-in_ok-before_every-in-Every-clause-bounded
returns-in_ok-before_every-in-Every-clause-bounded c =
    let about = cases_of c.args.setting.now.about.now in
    let region = c.args.region.now in
    let back = c.in_ok-before_every-in-Every.field-0 in
    subst (λ (p : Path). IsFewBefore about p region back) (sym c.in-Every.is) (every_back_few about region back c.in_ok-before_every-in-Every.ensures.before)

pub returns-in_ok-before_any-in-Any-clause-bounded : goal.returns-in_ok-before_any-in-Any-clause-bounded
returns-in_ok-before_any-in-Any-clause-bounded c =
    let about = cases_of c.args.setting.now.about.now in
    let region = c.args.region.now in
    let back = c.in_ok-before_any-in-Any.field-0 in
    subst (λ (p : Path). IsFewBefore about p region back) (sym c.in-Any.is) (any_back_few about region back c.in_ok-before_any-in-Any.ensures.before)

pub returns-in_err-before_every-in-Every-clause-counted : goal.returns-in_err-before_every-in-Every-clause-counted
returns-in_err-before_every-in-Every-clause-counted c =
    let about = cases_of c.args.setting.now.about.now in
    let region = c.args.region.now in
    let fault = c.in_err-before_every-in-Every.field-0.0 in
    passed_on (IsCountedBefore about c.args.path region) c.from_residual.result c.from_residual.ensures.1
    (λ r is. subst (λ (p : Path). IsCountedBefore about p region r) (sym c.in-Every.is) (before_counted about Every region c.args.setting.now.budget.now fault r is c.in_err-before_every-in-Every.ensures.refused))

pub returns-in_err-before_any-in-Any-clause-counted : goal.returns-in_err-before_any-in-Any-clause-counted
returns-in_err-before_any-in-Any-clause-counted c =
    let about = cases_of c.args.setting.now.about.now in
    let region = c.args.region.now in
    let fault = c.in_err-before_any-in-Any.field-0.0 in
    passed_on (IsCountedBefore about c.args.path region) c.from_residual-in_err-before_any-in-Any.result c.from_residual-in_err-before_any-in-Any.ensures.1
    (λ r is. subst (λ (p : Path). IsCountedBefore about p region r) (sym c.in-Any.is) (before_counted about Any region c.args.setting.now.budget.now fault r is c.in_err-before_any-in-Any.ensures.refused))
