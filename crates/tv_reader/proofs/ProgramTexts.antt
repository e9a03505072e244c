-- What is read as a program is one.
use Rattle.std.proofs.Common.{◌≡◌, ℕ, Bool, true, false, List, [], ◌∷◌, ◌++◌, ◌⊎◌, inl, inr, refl, sym, ap, subst, ◌∙◌, append_assoc}
use Rattle.std.proofs.lemmas.List.{append-nil}
use Rattle.std.specs.Prelude.{◌&&◌}
use Rattle.tv_language.specs.declared.token.TokenKind.{TokenKind}
use Rattle.tv_language.specs.declared.token.TokenKind.TheVariants as kinds
use Rattle.tv_program.specs.Trees.{Instruction, assume, assign, Transition}
use Rattle.tv_language.specs.Symbols.{Symbol, name, label, fixed, is_colon}
use Rattle.tv_language.specs.Programs as programs
use Rattle.tv_language.specs.Programs.{edge_of, IsCommand, assumption, assignment, AreCommands, no_command, command, AreItems, no_item, start, passed}
use Rattle.tv_grammar.specs.Langs.{unit, then, mapped, OfBranch, branch_text, branch_value, headed, Turns, done, turn, turns_text, turns_value}
use Rattle.tv_grammar.specs.Exact.{IsText}
use Rattle.tv_reading.specs.Marks.{Kind, Syntax, TwoStarts, TooMany, Mark, plain, refused, symbols_of}
use Rattle.tv_reading.specs.SumGrammar.{Grammar, every, refuse_by, sum_at}
use Rattle.tv_reading.specs.ConditionGrammar.{condition_at}
use Rattle.tv_reading.proofs.SumTexts.{sum_is}
use Rattle.tv_reading.proofs.ConditionTexts.{condition_is}
use Rattle.tv_reader.specs.ProgramGrammar as grammar
use Rattle.tv_reader.specs.ProgramGrammar.{go_if, token_cases, token, is_semicolon, is_left, is_right, is_assign, ended, semicolon_cases, perhaps_ended, label_cases, place, command_cases, Items, no_items, with_start, with_edge, last_of_edge, has_start, is_full, item_cases, last_of_program, program_at}

-- ---- one token

record Opened {X : Type 0} (b : Bool) (l : Grammar X) (d : OfBranch (go_if b l)) : Type 0 where
  it : l.Of
  text : (rest : List Mark) → branch_text (go_if b l) d rest ≡ l.text it rest
  value : branch_value (go_if b l) d ≡ l.value it
  is : b ≡ true

opened : {X : Type 0} (b : Bool) (l : Grammar X) (d : OfBranch (go_if b l)) → Opened b l d
opened true l d = record { it = d; text = λ rest. refl; value = refl; is = refl }
opened false l d = absurd d

-- the token stands in front, and a derivation of l after it
pub record Taken {X : Type 0} (is : TokenKind → Bool) (kind : TokenKind) (l : Grammar X) (d : (token is l).Of) : Type 0 where
  pub it : l.Of
  pub text : (rest : List Mark) → (token is l).text d rest ≡ plain (fixed kind) ∷ l.text it rest
  pub value : (token is l).value d ≡ l.value it

pub taken : {X : Type 0} (is : TokenKind → Bool) (kind : TokenKind) → ((k : TokenKind) → is k ≡ true → k ≡ kind) → (l : Grammar X) (d : (token is l).Of) → Taken is kind l d
taken {X} is kind one l d = at d.0 d.1
  where
    at : (m : Mark) (e : OfBranch (token_cases is l m)) → Taken is kind l (m, e)
    at (plain (fixed k)) e =
        let o : Opened (is k) l e = opened (is k) l e in
        record { it = o.it; text = λ rest. ap (λ (us : List Mark). plain (fixed k) ∷ us) (o.text rest) ∙ ap (λ (j : TokenKind). plain (fixed j) ∷ l.text o.it rest) (one k o.is); value = o.value }
    at _ e = absurd e

pub one_colon : (k : TokenKind) → is_colon k ≡ true → k ≡ kinds.Colon
one_colon kinds.Colon e = refl
one_colon k e = absurd cc

pub one_semicolon : (k : TokenKind) → is_semicolon k ≡ true → k ≡ kinds.Semicolon
one_semicolon kinds.Semicolon e = refl
one_semicolon k e = absurd cc

pub one_left : (k : TokenKind) → is_left k ≡ true → k ≡ kinds.LeftRound
one_left kinds.LeftRound e = refl
one_left k e = absurd cc

pub one_right : (k : TokenKind) → is_right k ≡ true → k ≡ kinds.RightRound
one_right kinds.RightRound e = refl
one_right k e = absurd cc

pub one_assign : (k : TokenKind) → is_assign k ≡ true → k ≡ kinds.Assign
one_assign kinds.Assign e = refl
one_assign k e = absurd cc

-- ---- labels

label_is : (d : (headed Syntax (label_cases every)).Of) (rest : List Mark) → symbols_of ((headed Syntax (label_cases every)).text d rest) ≡ label ((headed Syntax (label_cases every)).value d) ∷ symbols_of rest
label_is d rest = at d.0 d.1
  where
    at : (m : Mark) (e : OfBranch (label_cases every m)) → symbols_of (m ∷ branch_text (label_cases every m) e rest) ≡ label (branch_value (label_cases every m) e) ∷ symbols_of rest
    at (plain (label l)) e = refl
    at (plain (fixed kinds.Wide)) e = absurd e
    at (refused k kinds.Number) e = absurd e
    at _ e = absurd e

pub place_is : (d : (place every).Of) (rest : List Mark) → symbols_of ((place every).text d rest) ≡ fixed kinds.Colon ∷ label ((place every).value d) ∷ fixed kinds.Semicolon ∷ symbols_of rest
place_is d rest =
    let behind : Grammar ℕ = then (headed Syntax (label_cases every)) ended in
    let t = taken is_colon kinds.Colon one_colon behind d in
    let l : ℕ = (headed Syntax (label_cases every)).value t.it.0 in
    let u = taken is_semicolon kinds.Semicolon one_semicolon (unit l) t.it.1 in
    ap symbols_of (t.text rest)
    ∙ ap (λ (ss : List Symbol). fixed kinds.Colon ∷ ss) (label_is t.it.0 ((ended l).text t.it.1 rest) ∙ ap (λ (us : List Mark). label l ∷ symbols_of us) (u.text rest))
    ∙ ap (λ (k : ℕ). fixed kinds.Colon ∷ label k ∷ fixed kinds.Semicolon ∷ symbols_of rest) (sym (t.value ∙ u.value))

-- ---- a ";" that may come

pub perhaps_is : {X : Type 0} (x : X) (d : (perhaps_ended x).Of) (rest : List Mark) → ((perhaps_ended x).text d rest ≡ rest) ⊎ ((perhaps_ended x).text d rest ≡ plain (fixed kinds.Semicolon) ∷ rest)
perhaps_is x d rest = at d.0
  where
    last : (t : Turns semicolon_cases false) → turns_text semicolon_cases false t rest ≡ rest
    last done = refl
    last (turn m e es) = absurd e

    at : (t : Turns semicolon_cases true) → (turns_text semicolon_cases true t rest ≡ rest) ⊎ (turns_text semicolon_cases true t rest ≡ plain (fixed kinds.Semicolon) ∷ rest)
    at done = inl refl
    at (turn (plain (fixed kinds.Semicolon)) e es) = inr (ap (λ (us : List Mark). plain (fixed kinds.Semicolon) ∷ us) (last es))
    at (turn m e es) = absurd e

-- ---- commands

record One (cs all : List Instruction) (ts rest : List Symbol) : Type 0 where
  it : Instruction
  is : IsCommand it ts rest
  joined : all ≡ cs ++ it ∷ []

assumption_is : (cs : List Instruction) (d : (grammar.assumption every 63 cs).Of) (rest : List Mark) → One cs ((grammar.assumption every 63 cs).value d) (fixed kinds.Assume ∷ symbols_of ((grammar.assumption every 63 cs).text d rest)) (symbols_of rest)
assumption_is cs d rest =
    let t = taken is_left kinds.LeftRound one_left (then (condition_at every 63) (λ c. token is_right (ended (cs ++ assume c ∷ [])))) d in
    let c = (condition_at every 63).value t.it.0 in
    let all : List Instruction = cs ++ assume c ∷ [] in
    let u = taken is_right kinds.RightRound one_right (ended all) t.it.1 in
    let v = taken is_semicolon kinds.Semicolon one_semicolon (unit all) u.it in
    let behind : (token is_right (ended all)).text t.it.1 rest ≡ plain (fixed kinds.RightRound) ∷ plain (fixed kinds.Semicolon) ∷ rest = u.text rest ∙ ap (λ (us : List Mark). plain (fixed kinds.RightRound) ∷ us) (v.text rest) in
    let text : (grammar.assumption every 63 cs).text d rest ≡ plain (fixed kinds.LeftRound) ∷ (condition_at every 63).text t.it.0 (plain (fixed kinds.RightRound) ∷ plain (fixed kinds.Semicolon) ∷ rest) = t.text rest ∙ ap (λ (us : List Mark). plain (fixed kinds.LeftRound) ∷ (condition_at every 63).text t.it.0 us) behind in
    record {
      it = assume c;
      is = subst (λ (us : List Mark). IsCommand (assume c) (fixed kinds.Assume ∷ symbols_of us) (symbols_of rest)) (sym text) (assumption (condition_is 63 t.it.0 (plain (fixed kinds.RightRound) ∷ plain (fixed kinds.Semicolon) ∷ rest)));
      joined = t.value ∙ u.value ∙ v.value;
    }

assignment_is : (cs : List Instruction) (w : ℕ) (d : (grammar.assignment every 63 cs w).Of) (rest : List Mark) → One cs ((grammar.assignment every 63 cs w).value d) (name w ∷ symbols_of ((grammar.assignment every 63 cs w).text d rest)) (symbols_of rest)
assignment_is cs w d rest =
    let t = taken is_assign kinds.Assign one_assign (then (sum_at every 64 true) (λ e. ended (cs ++ assign w e ∷ []))) d in
    let e = (sum_at every 64 true).value t.it.0 in
    let all : List Instruction = cs ++ assign w e ∷ [] in
    let v = taken is_semicolon kinds.Semicolon one_semicolon (unit all) t.it.1 in
    let text : (grammar.assignment every 63 cs w).text d rest ≡ plain (fixed kinds.Assign) ∷ (sum_at every 64 true).text t.it.0 (plain (fixed kinds.Semicolon) ∷ rest) = t.text rest ∙ ap (λ (us : List Mark). plain (fixed kinds.Assign) ∷ (sum_at every 64 true).text t.it.0 us) (v.text rest) in
    record {
      it = assign w e;
      is = subst (λ (us : List Mark). IsCommand (assign w e) (name w ∷ symbols_of us) (symbols_of rest)) (sym text) (assignment (sum_is 64 true t.it.0 (plain (fixed kinds.Semicolon) ∷ rest)));
      joined = t.value ∙ v.value;
    }

-- the commands that turns add
pub record Commanded (cs all : List Instruction) (ts rest : List Symbol) : Type 0 where
  pub more : List Instruction
  pub are : AreCommands more ts rest
  pub joined : all ≡ cs ++ more

commands_are : (cs : List Instruction) (d : Turns (command_cases every 63) cs) (rest : List Mark) → Commanded cs (turns_value (command_cases every 63) cs d) (symbols_of (turns_text (command_cases every 63) cs d rest)) (symbols_of rest)
commands_are cs done rest = record { more = []; are = no_command; joined = sym (append-nil cs) }
commands_are cs (turn (plain (fixed kinds.Assume)) d ds) rest =
    let all : List Instruction = (grammar.assumption every 63 cs).value d in
    let w = commands_are all ds rest in
    let one = assumption_is cs d (turns_text (command_cases every 63) all ds rest) in
    record { more = one.it ∷ w.more; are = command one.is w.are; joined = w.joined ∙ ap (λ (xs : List Instruction). xs ++ w.more) one.joined ∙ append_assoc cs (one.it ∷ []) w.more }
commands_are cs (turn (plain (name v)) d ds) rest =
    let all : List Instruction = (grammar.assignment every 63 cs v).value d in
    let w = commands_are all ds rest in
    let one = assignment_is cs v d (turns_text (command_cases every 63) all ds rest) in
    record { more = one.it ∷ w.more; are = command one.is w.are; joined = w.joined ∙ ap (λ (xs : List Instruction). xs ++ w.more) one.joined ∙ append_assoc cs (one.it ∷ []) w.more }
commands_are cs (turn (refused k kinds.Name) d ds) rest = absurd d
commands_are cs (turn (plain (fixed kinds.Mark)) d ds) rest =
    let w = commands_are cs ds rest in
    let behind : List Mark = turns_text (command_cases every 63) cs ds rest in
    elim (perhaps_is cs d behind) [
      | inl e ↦ record { more = w.more; are = subst (λ (us : List Mark). AreCommands w.more (fixed kinds.Mark ∷ symbols_of us) (symbols_of rest)) (sym e) (programs.AreCommands.mark w.are); joined = w.joined }
      | inr e ↦ record { more = w.more; are = subst (λ (us : List Mark). AreCommands w.more (fixed kinds.Mark ∷ symbols_of us) (symbols_of rest)) (sym e) (programs.AreCommands.ended_mark w.are); joined = w.joined }
    ]
commands_are cs (turn m d ds) rest = absurd d

-- ---- edges

-- the edge stands in front of what other items there are
pub record Edged (s all : Items) (ts rest : List Symbol) : Type 0 where
  pub it : Transition
  pub is : (starts : List ℕ) (edges : List Transition) → AreItems starts edges rest → AreItems starts (it ∷ edges) (fixed kinds.From ∷ ts)
  pub starts_stay : all.starts ≡ s.starts
  pub joined : all.edges ≡ s.edges ++ it ∷ []

record Lasted (s : Items) (from : ℕ) (cs : List Instruction) (all : Items) (ts rest : List Symbol) : Type 0 where
  to : ℕ
  text : ts ≡ fixed kinds.To ∷ fixed kinds.Colon ∷ label to ∷ fixed kinds.Semicolon ∷ rest
  value : all ≡ with_edge s from cs to

last_is : (s : Items) (from : ℕ) (cs : List Instruction) (d : (headed Syntax (last_of_edge every s from cs)).Of) (rest : List Mark) → Lasted s from cs ((headed Syntax (last_of_edge every s from cs)).value d) (symbols_of ((headed Syntax (last_of_edge every s from cs)).text d rest)) (symbols_of rest)
last_is s from cs d rest = at d.0 d.1
  where
    at : (m : Mark) (e : OfBranch (last_of_edge every s from cs m)) → Lasted s from cs (branch_value (last_of_edge every s from cs m) e) (symbols_of (m ∷ branch_text (last_of_edge every s from cs m) e rest)) (symbols_of rest)
    at (plain (fixed kinds.To)) e = record { to = (place every).value e.0; text = ap (λ (ss : List Symbol). fixed kinds.To ∷ ss) (place_is e.0 rest); value = refl }
    at (refused k kinds.Name) e = absurd e
    at _ e = absurd e

edge_is : (s : Items) (d : (grammar.edge every 63 s).Of) (rest : List Mark) → Edged s ((grammar.edge every 63 s).value d) (symbols_of ((grammar.edge every 63 s).text d rest)) (symbols_of rest)
edge_is s d rest =
    let from : ℕ = (place every).value d.0 in
    let all : List Instruction = turns_value (command_cases every 63) [] d.1.0 in
    let end : List Mark = (headed Syntax (last_of_edge every s from all)).text d.1.1 rest in
    let l = last_is s from all d.1.1 rest in
    let cs = commands_are [] d.1.0 end in
    let behind : List Mark = turns_text (command_cases every 63) [] d.1.0 end in
    record {
      it = edge_of from l.to cs.more;
      is = λ starts edges are.
          let commands : AreCommands cs.more (symbols_of behind) (fixed kinds.To ∷ fixed kinds.Colon ∷ label l.to ∷ fixed kinds.Semicolon ∷ symbols_of rest) = subst (λ (ss : List Symbol). AreCommands cs.more (symbols_of behind) ss) l.text cs.are in
          subst (λ (ss : List Symbol). AreItems starts (edge_of from l.to cs.more ∷ edges) (fixed kinds.From ∷ ss)) (sym (place_is d.0 behind)) (programs.AreItems.edge commands are);
      starts_stay = ap (λ (x : Items). x.starts) l.value;
      joined = ap (λ (x : Items). x.edges) l.value ∙ ap (λ (xs : List Instruction). s.edges ++ edge_of from l.to xs ∷ []) cs.joined;
    }

-- ---- items

-- the items that turns add, up to the end of the text
pub record Listed (s all : Items) (ts : List Symbol) : Type 0 where
  pub starts : List ℕ
  pub edges : List Transition
  pub are : AreItems starts edges ts
  pub starts_joined : all.starts ≡ s.starts ++ starts
  pub edges_joined : all.edges ≡ s.edges ++ edges

record Refusable {X : Type 0} (b : Bool) (k : Kind) (l : Grammar X) (d : OfBranch (refuse_by b k l)) : Type 0 where
  it : l.Of
  text : (rest : List Mark) → branch_text (refuse_by b k l) d rest ≡ l.text it rest
  value : branch_value (refuse_by b k l) d ≡ l.value it
  is : b ≡ false

refusable : {X : Type 0} (b : Bool) (k : Kind) (l : Grammar X) (d : OfBranch (refuse_by b k l)) → Refusable b k l d
refusable true k l d = absurd d
refusable false k l d = record { it = d; text = λ rest. refl; value = refl; is = refl }

abbrev Final : List Mark
Final = plain (fixed kinds.End) ∷ []

items_are : (s : Items) (d : Turns (item_cases every 63) s) → Listed s (turns_value (item_cases every 63) s d) (symbols_of (turns_text (item_cases every 63) s d Final))
items_are s done = record { starts = []; edges = []; are = no_item; starts_joined = sym (append-nil s.starts); edges_joined = sym (append-nil s.edges) }
items_are s (turn (plain (fixed kinds.Start)) d ds) =
    let one : Grammar Items = mapped (with_start s) (place every) in
    let b : Bool = has_start s.starts && true in
    let r = refusable b TwoStarts one d in
    let all : Items = branch_value (refuse_by b TwoStarts one) d in
    let w = items_are all ds in
    let behind : List Mark = turns_text (item_cases every 63) all ds Final in
    let l : ℕ = (place every).value r.it.0 in
    let text : symbols_of (branch_text (refuse_by b TwoStarts one) d behind) ≡ fixed kinds.Colon ∷ label l ∷ fixed kinds.Semicolon ∷ symbols_of behind = ap symbols_of (r.text behind) ∙ place_is r.it.0 behind in
    record {
      starts = l ∷ w.starts;
      edges = w.edges;
      are = subst (λ (ss : List Symbol). AreItems (l ∷ w.starts) w.edges (fixed kinds.Start ∷ ss)) (sym text) (start w.are);
      starts_joined = w.starts_joined ∙ ap (λ (x : Items). x.starts ++ w.starts) r.value ∙ append_assoc s.starts (l ∷ []) w.starts;
      edges_joined = w.edges_joined ∙ ap (λ (x : Items). x.edges ++ w.edges) r.value;
    }
items_are s (turn (plain (fixed kinds.From)) d ds) =
    let one : Grammar Items = grammar.edge every 63 s in
    let b : Bool = is_full s.edges && true in
    let r = refusable b TooMany one d in
    let all : Items = branch_value (refuse_by b TooMany one) d in
    let w = items_are all ds in
    let behind : List Mark = turns_text (item_cases every 63) all ds Final in
    let e = edge_is s r.it behind in
    record {
      starts = w.starts;
      edges = e.it ∷ w.edges;
      are = subst (λ (us : List Mark). AreItems w.starts (e.it ∷ w.edges) (fixed kinds.From ∷ symbols_of us)) (sym (r.text behind)) (e.is w.starts w.edges w.are);
      starts_joined = w.starts_joined ∙ ap (λ (x : Items). x.starts ++ w.starts) r.value ∙ ap (λ (xs : List ℕ). xs ++ w.starts) e.starts_stay;
      edges_joined = w.edges_joined ∙ ap (λ (x : Items). x.edges ++ w.edges) r.value ∙ ap (λ (xs : List Transition). xs ++ w.edges) e.joined ∙ append_assoc s.edges (e.it ∷ []) w.edges;
    }
items_are s (turn (plain (fixed kinds.Passed)) d ds) =
    let w = items_are s ds in
    record { starts = w.starts; edges = w.edges; are = passed w.are; starts_joined = w.starts_joined; edges_joined = w.edges_joined }
items_are s (turn (plain (fixed kinds.Mark)) d ds) =
    let w = items_are s ds in
    let behind : List Mark = turns_text (item_cases every 63) s ds Final in
    elim (perhaps_is s d behind) [
      | inl e ↦ record { starts = w.starts; edges = w.edges; are = subst (λ (us : List Mark). AreItems w.starts w.edges (fixed kinds.Mark ∷ symbols_of us)) (sym e) (programs.AreItems.mark w.are); starts_joined = w.starts_joined; edges_joined = w.edges_joined }
      | inr e ↦ record { starts = w.starts; edges = w.edges; are = subst (λ (us : List Mark). AreItems w.starts w.edges (fixed kinds.Mark ∷ symbols_of us)) (sym e) (programs.AreItems.ended_mark w.are); starts_joined = w.starts_joined; edges_joined = w.edges_joined }
    ]
items_are s (turn m d ds) = absurd d

end_text : (s : Items) (d : (headed Syntax (last_of_program s)).Of) → ((headed Syntax (last_of_program s)).text d [] ≡ Final) × ((headed Syntax (last_of_program s)).value d ≡ s)
end_text s d = at d.0 d.1
  where
    at : (m : Mark) (e : OfBranch (last_of_program s m)) → (m ∷ branch_text (last_of_program s m) e [] ≡ Final) × (branch_value (last_of_program s m) e ≡ s)
    at (plain (fixed kinds.End)) e = (refl, refl)
    at (plain (fixed kinds.Start)) e = absurd e
    at (plain (fixed kinds.From)) e = absurd e
    at _ e = absurd e

-- The text of a program's grammar is items up to the end.
pub program_is : (ms : List Mark) (x : Items) → IsText (program_at every 63) ms x → AreItems x.starts x.edges (symbols_of ms)
program_is ms x t =
    let d = t.it in
    let all : Items = turns_value (item_cases every 63) no_items d.0 in
    let e = end_text all d.1 in
    let w = items_are no_items d.0 in
    let value : x ≡ all = sym t.is ∙ e.1 in
    let text : ms ≡ turns_text (item_cases every 63) no_items d.0 Final = t.text ∙ ap (turns_text (item_cases every 63) no_items d.0) e.0 in
    let starts : w.starts ≡ x.starts = sym w.starts_joined ∙ ap (λ (y : Items). y.starts) (sym value) in
    let edges : w.edges ≡ x.edges = sym w.edges_joined ∙ ap (λ (y : Items). y.edges) (sym value) in
    subst (λ (ls : List ℕ). AreItems ls x.edges (symbols_of ms)) starts (subst (λ (es : List Transition). AreItems w.starts es (symbols_of ms)) edges (subst (λ (us : List Mark). AreItems w.starts w.edges (symbols_of us)) (sym text) w.are))
