use Rattle.std.proofs.Common.{◌≡◌, ◌≤◌, false, true, ℕ, List, length, take, drop, refl, ap, sym, subst, ◌∙◌}
use Rattle.tv_language.specs.declared.token.Token.{Token}
use Rattle.tv_program.specs.Words.{Word}
use Rattle.tv_language.specs.Symbols.{lexemes}
use Rattle.tv_reading.specs.Readings.{begun, token_at}
use Rattle.tv_reader.specs.ProgramMarks.{vocabulary}
use Rattle.tv_reader.specs.Readers.{words_of, left, Fixture}
use Rattle.tv_reader.specs.Places.{line_of, column_of}
use Rattle.tv_reader.specs.FirstFaults.{ends_with_colon, brought_in, IsTold}
use Rattle.tv_reader.proofs.ProgramKinds.{known_names}
use Rattle.tv_reader.proofs.FinalLemmas.{Begun, begun_steady, found_in, refused_in, only_found, only_fault, fault_answer}
use Rattle.tv_reader.proofs.read.read_program.Goals as goal

pub program-requires-clause-steady : goal.program-requires-clause-steady
program-requires-clause-steady c =
    let text = c.args.text.now in
    let tokens = c.in_ok-list.list.items in
    let names : c.in_ok-variables.field-0.variables ≡ (vocabulary (lexemes text tokens)).variables = c.in_ok-variables.ensures.variables ∙ ap (λ (ts : List Token). (vocabulary (lexemes text ts)).variables) c.deref.ensures.value in
    let w : Begun text tokens (record { alloc = c.args.alloc; text = c.args.text; labels = c.in_ok-variables.field-0.labels; reading = c.new.result; behind_colon = false }) = record {
      text_is = refl;
      reading = c.new.ensures ∙ ap (λ (ts : List Token). begun text ts c.in_ok-variables.field-0.variables true) c.deref-2.ensures.value ∙ ap (λ (ns : List Word). begun text tokens ns true) names;
      labels = c.in_ok-variables.ensures.labels ∙ ap (λ (ts : List Token). (vocabulary (lexemes text ts)).labels) c.deref.ensures.value;
      behind = refl;
    } in
    begun_steady text tokens c.in_ok-list.ensures _ w

pub located-requires-clause-known : goal.located-requires-clause-known
located-requires-clause-known c =
    let u = c.program.new.self in
    known_names (words_of u) u.behind_colon u.reading.draws (lexemes u.reading.text (drop u.reading.at u.reading.tokens)) _ 63 c.in-Err.reason c.in-Err.ensures.reads

pub finished-requires-clause-bounded : goal.finished-requires-clause-bounded
finished-requires-clause-bounded c =
    let kept = c.in-Ok.ensures.kept _ refl in
    subst (λ (ls : List Word). length ls ≤ 1024) (sym (ap (λ (x : Fixture). x.labels) kept)) c.in_ok-variables.ensures.few_labels

pub returns-in-Ok-clause-found : goal.returns-in-Ok-clause-found
returns-in-Ok-clause-found c =
    let text = c.args.text.now in
    let tokens = c.in_ok-list.list.items in
    let names : c.in_ok-variables.field-0.variables ≡ (vocabulary (lexemes text tokens)).variables = c.in_ok-variables.ensures.variables ∙ ap (λ (ts : List Token). (vocabulary (lexemes text ts)).variables) c.deref.ensures.value in
    let w : Begun text tokens (record { alloc = c.args.alloc; text = c.args.text; labels = c.in_ok-variables.field-0.labels; reading = c.new.result; behind_colon = false }) = record {
      text_is = refl;
      reading = c.new.ensures ∙ ap (λ (ts : List Token). begun text ts c.in_ok-variables.field-0.variables true) c.deref-2.ensures.value ∙ ap (λ (ns : List Word). begun text tokens ns true) names;
      labels = c.in_ok-variables.ensures.labels ∙ ap (λ (ts : List Token). (vocabulary (lexemes text ts)).labels) c.deref.ensures.value;
      behind = refl;
    } in
    found_in text tokens c.in_ok-list.ensures _ w c.program.new.self (c.in-Ok.ensures.kept _ refl) c.in-Ok.items c.in-Ok.ensures.reads c.finished.result c.finished.ensures

pub returns-in-Ok-clause-only : goal.returns-in-Ok-clause-only
returns-in-Ok-clause-only c = λ p t.
    let text = c.args.text.now in
    let tokens = c.in_ok-list.list.items in
    let names : c.in_ok-variables.field-0.variables ≡ (vocabulary (lexemes text tokens)).variables = c.in_ok-variables.ensures.variables ∙ ap (λ (ts : List Token). (vocabulary (lexemes text ts)).variables) c.deref.ensures.value in
    let w : Begun text tokens (record { alloc = c.args.alloc; text = c.args.text; labels = c.in_ok-variables.field-0.labels; reading = c.new.result; behind_colon = false }) = record {
      text_is = refl;
      reading = c.new.ensures ∙ ap (λ (ts : List Token). begun text ts c.in_ok-variables.field-0.variables true) c.deref-2.ensures.value ∙ ap (λ (ns : List Word). begun text tokens ns true) names;
      labels = c.in_ok-variables.ensures.labels ∙ ap (λ (ts : List Token). (vocabulary (lexemes text ts)).labels) c.deref.ensures.value;
      behind = refl;
    } in
    only_found text tokens c.in_ok-list.ensures _ w p t c.program.new.self (c.in-Ok.ensures.kept _ refl) c.in-Ok.items c.in-Ok.ensures.reads c.finished.result c.finished.ensures

pub returns-in-Ok-clause-refused : goal.returns-in-Ok-clause-refused
returns-in-Ok-clause-refused c =
    let text = c.args.text.now in
    let tokens = c.in_ok-list.list.items in
    let names : c.in_ok-variables.field-0.variables ≡ (vocabulary (lexemes text tokens)).variables = c.in_ok-variables.ensures.variables ∙ ap (λ (ts : List Token). (vocabulary (lexemes text ts)).variables) c.deref.ensures.value in
    let w : Begun text tokens (record { alloc = c.args.alloc; text = c.args.text; labels = c.in_ok-variables.field-0.labels; reading = c.new.result; behind_colon = false }) = record {
      text_is = refl;
      reading = c.new.ensures ∙ ap (λ (ts : List Token). begun text ts c.in_ok-variables.field-0.variables true) c.deref-2.ensures.value ∙ ap (λ (ns : List Word). begun text tokens ns true) names;
      labels = c.in_ok-variables.ensures.labels ∙ ap (λ (ts : List Token). (vocabulary (lexemes text ts)).labels) c.deref.ensures.value;
      behind = refl;
    } in
    refused_in text tokens c.in_ok-list.ensures _ w c.program.new.self (c.in-Ok.ensures.kept _ refl) c.in-Ok.items c.in-Ok.ensures.reads c.finished.result c.finished.ensures

pub returns-clause-only : goal.returns-clause-only
returns-clause-only c = λ p t.
    let text = c.args.text.now in
    let tokens = c.in_ok-list.list.items in
    let names : c.in_ok-variables.field-0.variables ≡ (vocabulary (lexemes text tokens)).variables = c.in_ok-variables.ensures.variables ∙ ap (λ (ts : List Token). (vocabulary (lexemes text ts)).variables) c.deref.ensures.value in
    let w : Begun text tokens (record { alloc = c.args.alloc; text = c.args.text; labels = c.in_ok-variables.field-0.labels; reading = c.new.result; behind_colon = false }) = record {
      text_is = refl;
      reading = c.new.ensures ∙ ap (λ (ts : List Token). begun text ts c.in_ok-variables.field-0.variables true) c.deref-2.ensures.value ∙ ap (λ (ns : List Word). begun text tokens ns true) names;
      labels = c.in_ok-variables.ensures.labels ∙ ap (λ (ts : List Token). (vocabulary (lexemes text ts)).labels) c.deref.ensures.value;
      behind = refl;
    } in
    only_fault text tokens c.in_ok-list.ensures _ w p t c.in-Err.reason (left c.program.new.self) _ _ _ c.located.result c.in-Err.ensures.reads c.located.ensures

pub returns-clause-refused : goal.returns-clause-refused
returns-clause-refused c =
    let text = c.args.text.now in
    let tokens = c.in_ok-list.list.items in
    let names : c.in_ok-variables.field-0.variables ≡ (vocabulary (lexemes text tokens)).variables = c.in_ok-variables.ensures.variables ∙ ap (λ (ts : List Token). (vocabulary (lexemes text ts)).variables) c.deref.ensures.value in
    let w : Begun text tokens (record { alloc = c.args.alloc; text = c.args.text; labels = c.in_ok-variables.field-0.labels; reading = c.new.result; behind_colon = false }) = record {
      text_is = refl;
      reading = c.new.ensures ∙ ap (λ (ts : List Token). begun text ts c.in_ok-variables.field-0.variables true) c.deref-2.ensures.value ∙ ap (λ (ns : List Word). begun text tokens ns true) names;
      labels = c.in_ok-variables.ensures.labels ∙ ap (λ (ts : List Token). (vocabulary (lexemes text ts)).labels) c.deref.ensures.value;
      behind = refl;
    } in
    let u = c.program.new.self in
    let told : IsTold c.in-Err.reason (brought_in (ends_with_colon false (take u.reading.at tokens)) (token_at u.reading).kind) (line_of text (token_at u.reading).at) (column_of text (token_at u.reading).at) c.located.result =
    subst (λ (t : Token). IsTold c.in-Err.reason (brought_in (ends_with_colon false (take u.reading.at tokens)) t.kind) (line_of text t.at) (column_of text t.at) c.located.result) c.peek-token.ensures
    (subst (λ (n : ℕ). IsTold c.in-Err.reason (brought_in (ends_with_colon false (take n tokens)) c.peek-token.result.kind) (line_of text c.peek-token.result.at) (column_of text c.peek-token.result.at) c.located.result) c.place-place.ensures
    (subst (λ (ts : List Token). IsTold c.in-Err.reason (brought_in (ends_with_colon false (take c.place-place.result ts)) c.peek-token.result.kind) (line_of text c.peek-token.result.at) (column_of text c.peek-token.result.at) c.located.result) c.deref-in-Err.ensures.value c.located.ensures)) in
    fault_answer text tokens c.in_ok-list.ensures _ w u c.in-Err.reason (line_of text (token_at u.reading).at) (column_of text (token_at u.reading).at) c.located.result (c.in-Err.ensures.kept _ refl) c.in-Err.ensures.steady c.in-Err.ensures.reads refl refl told
