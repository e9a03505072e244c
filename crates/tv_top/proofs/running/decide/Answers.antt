use Rattle.std.proofs.Common.{length, subst, sym, ◌∙◌}
use Rattle.tv_program.specs.Programs.{system_of}
use Rattle.tv_formula.specs.Formulas.{property_of}
use Rattle.tv_cases.specs.Systems.{cases_of}
use Rattle.tv_invariant.specs.Asking.{Gave}
use Rattle.tv_top.specs.Finding.{Offers}
use Rattle.tv_top.specs.Headline.{Given, Asked, Tells, Means}
use Rattle.tv_top.specs.Views.{task_view}
use Rattle.tv_top.proofs.Asking.{below_index, no_property, no_cases, told, visited}
use Rattle.tv_top.proofs.running.decide.Goals as goal

pub check_certificate-requires-clause-bounded : goal.check_certificate-requires-clause-bounded
check_certificate-requires-clause-bounded g c = below_index c.args.task.now.checks (length c.texts_in.result.1.now) (length c.args.bytes.now) c.texts_in.ensures.certificate c.requires

pub returns-in-Err-property : goal.returns-in-Err-property
returns-in-Err-property g c =
    let task = task_view c.args.task.now in
    let given : Given task c.args.bytes.now = record {
      program_text = c.texts_in.result.0.now;
      certificate_text = c.texts_in.result.1.now;
      texts = c.texts_in.ensures.texts;
      program = system_of c.in-Ok.program;
      is_program = c.in-Ok.ensures.found;
    } in
    let offers : Offers = λ about. Gave (λ p. (goal.Proposer-dyn g (p.vtable, p.value)).rest p.value about) c.args.proposers.now.items in
    subst (λ answer. Means offers task c.args.bytes.now answer) (sym c.without_property.ensures)
    (no_property offers task c.args.bytes.now given c.in-Err-property.fault c.in-Err-property.ensures.unnamed)

pub returns-in-Err-cases : goal.returns-in-Err-cases
returns-in-Err-cases g c =
    let task = task_view c.args.task.now in
    let given : Given task c.args.bytes.now = record {
      program_text = c.texts_in.result.0.now;
      certificate_text = c.texts_in.result.1.now;
      texts = c.texts_in.ensures.texts;
      program = system_of c.in-Ok.program;
      is_program = c.in-Ok.ensures.found;
    } in
    let asked : Asked task c.args.bytes.now = record { given = given; property = property_of c.in-Ok-property.property; named = c.in-Ok-property.ensures.named } in
    let offers : Offers = λ about. Gave (λ p. (goal.Proposer-dyn g (p.vtable, p.value)).rest p.value about) c.args.proposers.now.items in
    subst (λ answer. Means offers task c.args.bytes.now answer) (sym c.without_cases.ensures)
    (no_cases offers task c.args.bytes.now asked c.in-Err-cases.fault c.in-Err-cases.ensures.exact)

pub returns-then-task : goal.returns-then-task
returns-then-task g c =
    let task = task_view c.args.task.now in
    let given : Given task c.args.bytes.now = record {
      program_text = c.texts_in.result.0.now;
      certificate_text = c.texts_in.result.1.now;
      texts = c.texts_in.ensures.texts;
      program = system_of c.in-Ok.program;
      is_program = c.in-Ok.ensures.found;
    } in
    let asked : Asked task c.args.bytes.now = record { given = given; property = property_of c.in-Ok-property.property; named = c.in-Ok-property.ensures.named } in
    let about = cases_of c.in-Ok-cases.about in
    let offers : Offers = λ about. Gave (λ p. (goal.Proposer-dyn g (p.vtable, p.value)).rest p.value about) c.args.proposers.now.items in
    told offers task c.args.bytes.now asked (sym c.has_certificates.ensures ∙ c.if-not-has_certificates.false) about c.in-Ok-cases.ensures.exact c.in-Ok-cases.ensures.same_program c.check_certificate.result
    (subst (λ checks. Tells checks offers task given.program asked.property about given.certificate_text c.check_certificate.result) (sym c.if-task.true) c.check_certificate.ensures)

pub returns : goal.returns
returns g c =
    let task = task_view c.args.task.now in
    let given : Given task c.args.bytes.now = record {
      program_text = c.texts_in.result.0.now;
      certificate_text = c.texts_in.result.1.now;
      texts = c.texts_in.ensures.texts;
      program = system_of c.in-Ok.program;
      is_program = c.in-Ok.ensures.found;
    } in
    let asked : Asked task c.args.bytes.now = record { given = given; property = property_of c.in-Ok-property.property; named = c.in-Ok-property.ensures.named } in
    let about = cases_of c.in-Ok-cases.about in
    let offers : Offers = λ about. Gave (λ p. (goal.Proposer-dyn g (p.vtable, p.value)).rest p.value about) c.args.proposers.now.items in
    told offers task c.args.bytes.now asked (sym c.has_certificates.ensures ∙ c.if-not-has_certificates.false) about c.in-Ok-cases.ensures.exact c.in-Ok-cases.ensures.same_program c.find.result
    (subst (λ checks. Tells checks offers task given.program asked.property about given.certificate_text c.find.result) (sym c.if-task.false) c.find.ensures)

pub returns-then-not-has_certificates : goal.returns-then-not-has_certificates
returns-then-not-has_certificates g c =
    let task = task_view c.args.task.now in
    let given : Given task c.args.bytes.now = record {
      program_text = c.texts_in.result.0.now;
      certificate_text = c.texts_in.result.1.now;
      texts = c.texts_in.ensures.texts;
      program = system_of c.in-Ok.program;
      is_program = c.in-Ok.ensures.found;
    } in
    let asked : Asked task c.args.bytes.now = record { given = given; property = property_of c.in-Ok-property.property; named = c.in-Ok-property.ensures.named } in
    let offers : Offers = λ about. Gave (λ p. (goal.Proposer-dyn g (p.vtable, p.value)).rest p.value about) c.args.proposers.now.items in
    visited offers task c.args.bytes.now asked (sym c.has_certificates.ensures ∙ c.if-not-has_certificates.true) c.visited.result c.visited.ensures
