use Rattle.std.proofs.Common.{List, drop, refl, sym, subst, ◌∙◌}
use Rattle.tv_language.specs.declared.token.Token.{Token}
use Rattle.tv_language.specs.Tokens.{IsTokens}
use Rattle.tv_program.specs.Programs.{system_of}
use Rattle.tv_formula.specs.Properties.{Property}
use Rattle.tv_formula.specs.Views.{property}
use Rattle.tv_formula_reader.specs.FormulaTexts.{IsFormulaText}
use Rattle.tv_formula_reader.proofs.FormulaKinds.{one_start, room}
use Rattle.tv_formula_reader.proofs.ReadLemmas.{read_given, read_refused, read_same, read_only}
use Rattle.tv_formula_reader.proofs.read.read.Goals as goal

pub new-requires : goal.new-requires
new-requires c =
    let given = read_given (system_of c.args.program.now) (record { text = c.args.text; list = c.deref.result; labels = c.locations.result; alloc = c.args.alloc }) c.args.text.now c.deref-2.result.now c.in_ok-names.names c.new-reading.result c.new-reading.ensures (c.in_ok-names.ensures ∙ c.variables.ensures.same) c.locations.ensures.same
    (subst (λ (ts : List Token). IsTokens 0 c.args.text.now ts) (sym c.deref-2.ensures.value) c.in_ok-list.ensures) (property c.in-Ok.tree) _ c.in-Ok.ensures.reads in
    rw (c.len-variables.ensures.counted, c.len-locations.ensures.counted, c.variables-in-Ok.ensures.same, c.locations-in-Ok.ensures.same) given.limits

pub returns-in-Ok-clause-found : goal.returns-in-Ok-clause-found
returns-in-Ok-clause-found c =
    let given = read_given (system_of c.args.program.now) (record { text = c.args.text; list = c.deref.result; labels = c.locations.result; alloc = c.args.alloc }) c.args.text.now c.deref-2.result.now c.in_ok-names.names c.new-reading.result c.new-reading.ensures (c.in_ok-names.ensures ∙ c.variables.ensures.same) c.locations.ensures.same
    (subst (λ (ts : List Token). IsTokens 0 c.args.text.now ts) (sym c.deref-2.ensures.value) c.in_ok-list.ensures) (property c.in-Ok.tree) _ c.in-Ok.ensures.reads in
    subst (λ (f : Property). IsFormulaText (system_of c.args.program.now) c.args.text.now f) (sym c.new.ensures.same) given.whole

pub fault_at-requires-clause-one_start : goal.fault_at-requires-clause-one_start
fault_at-requires-clause-one_start c =
    let u = c.whole.new.reading in
    one_start (record { variables = u.names; labels = c.locations.result.now }) u.text (drop u.at u.tokens) _ 64 c.in-Err.reason c.in-Err.ensures.reads

pub fault_at-requires-clause-room : goal.fault_at-requires-clause-room
fault_at-requires-clause-room c =
    let u = c.whole.new.reading in
    room (record { variables = u.names; labels = c.locations.result.now }) u.text (drop u.at u.tokens) _ 64 c.in-Err.reason c.in-Err.ensures.reads

pub returns-clause-refused : goal.returns-clause-refused
returns-clause-refused c =
    read_refused (system_of c.args.program.now) (record { text = c.args.text; list = c.deref.result; labels = c.locations.result; alloc = c.args.alloc }) c.args.text.now c.deref-2.result.now c.in_ok-names.names c.new-reading.result c.new-reading.ensures (c.in_ok-names.ensures ∙ c.variables.ensures.same) c.locations.ensures.same
    (subst (λ (ts : List Token). IsTokens 0 c.args.text.now ts) (sym c.deref-2.ensures.value) c.in_ok-list.ensures)
    c.whole.new.reading refl (c.deref.ensures.value ∙ sym c.deref-2.ensures.value) c.in-Err.ensures.stays c.in-Err.reason c.fault_at.result c.peek.result c.in-Err.ensures.reads c.peek.ensures c.fault_at.ensures

pub returns-in-Ok-clause-only : goal.returns-in-Ok-clause-only
returns-in-Ok-clause-only c = λ f w. c.new.ensures.same ∙ read_same (system_of c.args.program.now) (record { text = c.args.text; list = c.deref.result; labels = c.locations.result; alloc = c.args.alloc }) c.args.text.now c.deref-2.result.now c.in_ok-names.names c.new-reading.result c.new-reading.ensures (c.in_ok-names.ensures ∙ c.variables.ensures.same) c.locations.ensures.same
    (subst (λ (ts : List Token). IsTokens 0 c.args.text.now ts) (sym c.deref-2.ensures.value) c.in_ok-list.ensures) f w (property c.in-Ok.tree) _ c.in-Ok.ensures.reads

pub returns-clause-only : goal.returns-clause-only
returns-clause-only c = λ f w. read_only (system_of c.args.program.now) (record { text = c.args.text; list = c.deref.result; labels = c.locations.result; alloc = c.args.alloc }) c.args.text.now c.deref-2.result.now c.in_ok-names.names c.new-reading.result c.new-reading.ensures (c.in_ok-names.ensures ∙ c.variables.ensures.same) c.locations.ensures.same
    (subst (λ (ts : List Token). IsTokens 0 c.args.text.now ts) (sym c.deref-2.ensures.value) c.in_ok-list.ensures) f w _ c.in-Err.reason c.fault_at.result c.peek.result.at _ c.in-Err.ensures.reads c.fault_at.ensures
