-- What is a program is read as one.
use Rattle.std.proofs.Common.{◌≡◌, ℕ, ◌+◌, ◌≤◌, Bool, true, false, List, [], ◌∷◌, ◌++◌, length, refl, sym, ap, ◌∙◌, append_assoc, length-append, arith}
use Rattle.std.proofs.lemmas.List.{append-nil}
use Rattle.std.proofs.lemmas.Bool.Decides.{nat_tests}
use Rattle.std.specs.Prelude.{◌&&◌, nat_lt}
use Rattle.tv_language.specs.declared.token.TokenKind.TheVariants as kinds
use Rattle.tv_program.specs.Trees.{Instruction, assume, assign, Transition}
use Rattle.tv_language.specs.Symbols.{Symbol, name, label, fixed}
use Rattle.tv_language.specs.Programs as programs
use Rattle.tv_language.specs.Programs.{edge_of, IsCommand, assumption, assignment, AreCommands, no_command, command, AreItems, no_item, start, passed}
use Rattle.tv_grammar.specs.Langs.{mapped, OfBranch, branch_text, branch_value, Turns, done, turn, turns_text, turns_value}
use Rattle.tv_grammar.specs.Exact.{IsText}
use Rattle.tv_reading.specs.Marks.{Kind, TwoStarts, TooMany, Mark, plain, symbols_of}
use Rattle.tv_reading.specs.SumGrammar.{Grammar, every, refuse_by, sum_at}
use Rattle.tv_reading.specs.ConditionGrammar.{condition_at}
use Rattle.tv_reading.proofs.SumTexts.{Back, front, sum_is_read}
use Rattle.tv_reading.proofs.ConditionsRead.{condition_is_read}
use Rattle.tv_reader.specs.ProgramGrammar as grammar
use Rattle.tv_reader.specs.ProgramGrammar.{place, command_cases, Items, no_items, with_start, with_edge, has_start, is_full, item_cases, program_at}

-- ---- labels

place_back : (l : ℕ) (ms : List Mark) (rest : List Symbol) → symbols_of ms ≡ fixed kinds.Colon ∷ label l ∷ fixed kinds.Semicolon ∷ rest → Back (place every) l ms rest
place_back l ms rest e =
    let a = front (fixed kinds.Colon) ms (label l ∷ fixed kinds.Semicolon ∷ rest) (λ e. cc) e in
    let b = front (label l) a.rest (fixed kinds.Semicolon ∷ rest) (λ e. cc) a.same in
    let c = front (fixed kinds.Semicolon) b.rest rest (λ e. cc) b.same in
    record {
      it = (plain (fixed kinds.Colon), ((plain (label l), tt), (plain (fixed kinds.Semicolon), tt)));
      left = c.rest;
      text = a.text ∙ ap (λ (us : List Mark). plain (fixed kinds.Colon) ∷ us) (b.text ∙ ap (λ (us : List Mark). plain (label l) ∷ us) c.text);
      same = c.same;
      is = refl;
    }

-- ---- commands

-- one turn of commands
record Turned (cs : List Instruction) (c : Instruction) (ms : List Mark) (rest : List Symbol) : Type 0 where
  head : Mark
  it : OfBranch (command_cases every 63 cs head)
  left : List Mark
  text : ms ≡ head ∷ branch_text (command_cases every 63 cs head) it left
  same : symbols_of left ≡ rest
  is : branch_value (command_cases every 63 cs head) it ≡ cs ++ c ∷ []

command_back : (cs : List Instruction) (c : Instruction) (ts rest : List Symbol) → IsCommand c ts rest → (ms : List Mark) → symbols_of ms ≡ ts → Turned cs c ms rest
command_back cs c ts rest (assumption {c = d} {ts = us} w) ms e =
    let a = front (fixed kinds.Assume) ms (fixed kinds.LeftRound ∷ us) (λ e. cc) e in
    let b = front (fixed kinds.LeftRound) a.rest us (λ e. cc) a.same in
    let k = condition_is_read w b.rest b.same in
    let r = front (fixed kinds.RightRound) k.left (fixed kinds.Semicolon ∷ rest) (λ e. cc) k.same in
    let z = front (fixed kinds.Semicolon) r.rest rest (λ e. cc) r.same in
    record {
      head = plain (fixed kinds.Assume);
      it = (plain (fixed kinds.LeftRound), (k.it, (plain (fixed kinds.RightRound), (plain (fixed kinds.Semicolon), tt))));
      left = z.rest;
      text = a.text ∙ ap (λ (us : List Mark). plain (fixed kinds.Assume) ∷ us) (b.text ∙ ap (λ (us : List Mark). plain (fixed kinds.LeftRound) ∷ us) (k.text ∙ ap ((condition_at every 63).text k.it) (r.text ∙ ap (λ (us : List Mark). plain (fixed kinds.RightRound) ∷ us) z.text)));
      same = z.same;
      is = ap (λ x. cs ++ assume x ∷ []) k.is;
    }
command_back cs c ts rest (assignment {v} {e = d} {ts = us} w) ms e =
    let a = front (name v) ms (fixed kinds.Assign ∷ us) (λ e. cc) e in
    let b = front (fixed kinds.Assign) a.rest us (λ e. cc) a.same in
    let k = sum_is_read w b.rest b.same in
    let z = front (fixed kinds.Semicolon) k.left rest (λ e. cc) k.same in
    record {
      head = plain (name v);
      it = (plain (fixed kinds.Assign), (k.it, (plain (fixed kinds.Semicolon), tt)));
      left = z.rest;
      text = a.text ∙ ap (λ (us : List Mark). plain (name v) ∷ us) (b.text ∙ ap (λ (us : List Mark). plain (fixed kinds.Assign) ∷ us) (k.text ∙ ap ((sum_at every 64 true).text k.it) z.text));
      same = z.same;
      is = ap (λ x. cs ++ assign v x ∷ []) k.is;
    }

record Commanding (cs more : List Instruction) (ms : List Mark) (rest : List Symbol) : Type 0 where
  it : Turns (command_cases every 63) cs
  left : List Mark
  text : ms ≡ turns_text (command_cases every 63) cs it left
  same : symbols_of left ≡ rest
  is : turns_value (command_cases every 63) cs it ≡ cs ++ more

commands_back : (cs more : List Instruction) (ts rest : List Symbol) → AreCommands more ts rest → (ms : List Mark) → symbols_of ms ≡ ts → Commanding cs more ms rest
commands_back cs more ts rest no_command ms e = record { it = done; left = ms; text = refl; same = e; is = sym (append-nil cs) }
commands_back cs more ts rest (command {c} {cs = others} {us} one are) ms e =
    let t = command_back cs c ts us one ms e in
    let all : List Instruction = branch_value (command_cases every 63 cs t.head) t.it in
    let w = commands_back all others us rest are t.left t.same in
    record {
      it = turn t.head t.it w.it;
      left = w.left;
      text = t.text ∙ ap (λ (us : List Mark). t.head ∷ branch_text (command_cases every 63 cs t.head) t.it us) w.text;
      same = w.same;
      is = w.is ∙ ap (λ (xs : List Instruction). xs ++ others) t.is ∙ append_assoc cs (c ∷ []) others;
    }
commands_back cs more ts rest (programs.AreCommands.mark {ts = us} are) ms e =
    let a = front (fixed kinds.Mark) ms us (λ e. cc) e in
    let w = commands_back cs more us rest are a.rest a.same in
    record { it = turn (plain (fixed kinds.Mark)) (done, tt) w.it; left = w.left; text = a.text ∙ ap (λ (us : List Mark). plain (fixed kinds.Mark) ∷ us) w.text; same = w.same; is = w.is }
commands_back cs more ts rest (programs.AreCommands.ended_mark {ts = us} are) ms e =
    let a = front (fixed kinds.Mark) ms (fixed kinds.Semicolon ∷ us) (λ e. cc) e in
    let b = front (fixed kinds.Semicolon) a.rest us (λ e. cc) a.same in
    let w = commands_back cs more us rest are b.rest b.same in
    record { it = turn (plain (fixed kinds.Mark)) (turn (plain (fixed kinds.Semicolon)) tt done, tt) w.it; left = w.left; text = a.text ∙ ap (λ (us : List Mark). plain (fixed kinds.Mark) ∷ us) (b.text ∙ ap (λ (us : List Mark). plain (fixed kinds.Semicolon) ∷ us) w.text); same = w.same; is = w.is }

-- ---- edges

edge_back : (s : Items) (l m : ℕ) (commands : List Instruction) (ts us : List Symbol) → AreCommands commands ts (fixed kinds.To ∷ fixed kinds.Colon ∷ label m ∷ fixed kinds.Semicolon ∷ us) → (ms : List Mark) → symbols_of ms ≡ fixed kinds.Colon ∷ label l ∷ fixed kinds.Semicolon ∷ ts → Back (grammar.edge every 63 s) (with_edge s l commands m) ms us
edge_back s l m commands ts us are ms e =
    let a = place_back l ms ts e in
    let w = commands_back [] commands ts (fixed kinds.To ∷ fixed kinds.Colon ∷ label m ∷ fixed kinds.Semicolon ∷ us) are a.left a.same in
    let t = front (fixed kinds.To) w.left (fixed kinds.Colon ∷ label m ∷ fixed kinds.Semicolon ∷ us) (λ e. cc) w.same in
    let z = place_back m t.rest us t.same in
    let all : List Instruction = turns_value (command_cases every 63) [] w.it in
    record {
      it = (a.it, (w.it, (plain (fixed kinds.To), (z.it, tt))));
      left = z.left;
      text = a.text ∙ ap ((place every).text a.it) (w.text ∙ ap (turns_text (command_cases every 63) [] w.it) (t.text ∙ ap (λ (us : List Mark). plain (fixed kinds.To) ∷ us) z.text));
      same = z.same;
      is =
          ap (λ (k : ℕ). with_edge s k all ((place every).value z.it)) a.is
          ∙ ap (λ (k : ℕ). with_edge s l all k) z.is
          ∙ ap (λ (xs : List Instruction). with_edge s l xs m) w.is;
    }

-- ---- items

record Allowed {X : Type 0} (k : Kind) (b : Bool) (l : Grammar X) (d : l.Of) : Type 0 where
  it : OfBranch (refuse_by b k l)
  text : (rest : List Mark) → branch_text (refuse_by b k l) it rest ≡ l.text d rest
  value : branch_value (refuse_by b k l) it ≡ l.value d

allowed : {X : Type 0} (k : Kind) (b : Bool) → b ≡ false → (l : Grammar X) (d : l.Of) → Allowed k b l d
allowed k true e l d = absurd cc
allowed k false e l d = record { it = d; text = λ rest. refl; value = refl }

-- no START so far
not_started : (ls more : List ℕ) (l : ℕ) → length (ls ++ l ∷ more) ≤ 1 → (has_start ls && true) ≡ false
not_started [] more l h = refl
not_started (k ∷ ls) more l h = absurd (omega (arith, length-append ls (l ∷ more)))

not_full : (es more : List Transition) (e : Transition) → length es + length (e ∷ more) ≤ 4096 → (is_full es && true) ≡ false
not_full es more e h = let bounded : nat_lt (length es) 4096 ≡ true = grind (arith, nat_tests) in rw bounded refl

record Listing (s : Items) (starts : List ℕ) (edges : List Transition) (ms : List Mark) : Type 0 where
  it : Turns (item_cases every 63) s
  text : ms ≡ turns_text (item_cases every 63) s it (plain (fixed kinds.End) ∷ [])
  starts_are : (turns_value (item_cases every 63) s it).starts ≡ s.starts ++ starts
  edges_are : (turns_value (item_cases every 63) s it).edges ≡ s.edges ++ edges

items_back : (s : Items) (starts : List ℕ) (edges : List Transition) (ts : List Symbol) → AreItems starts edges ts → length (s.starts ++ starts) ≤ 1 → length s.edges + length edges ≤ 4096 → (ms : List Mark) → symbols_of ms ≡ ts → Listing s starts edges ms
items_back s starts edges ts no_item h i ms e =
    let a = front (fixed kinds.End) ms [] (λ e. cc) e in
    let none : a.rest ≡ [] = nothing a.rest a.same in
    record { it = done; text = a.text ∙ ap (λ (us : List Mark). plain (fixed kinds.End) ∷ us) none; starts_are = sym (append-nil s.starts); edges_are = sym (append-nil s.edges) }
  where
    nothing : (us : List Mark) → symbols_of us ≡ [] → us ≡ []
    nothing [] e = refl
    nothing (u ∷ us) e = absurd cc
items_back s starts edges ts (start {l} {starts = more} {ts = us} are) h i ms e =
    let a = front (fixed kinds.Start) ms (fixed kinds.Colon ∷ label l ∷ fixed kinds.Semicolon ∷ us) (λ e. cc) e in
    let b = place_back l a.rest us a.same in
    let one : Grammar Items = mapped (with_start s) (place every) in
    let w = allowed TwoStarts (has_start s.starts && true) (not_started s.starts more l h) one (b.it, tt) in
    let all : Items = branch_value (refuse_by (has_start s.starts && true) TwoStarts one) w.it in
    let value : all ≡ with_start s l = w.value ∙ ap (with_start s) b.is in
    let starts_are : all.starts ++ more ≡ s.starts ++ l ∷ more = ap (λ (x : Items). x.starts ++ more) value ∙ append_assoc s.starts (l ∷ []) more in
    let edges_are : all.edges ≡ s.edges = ap (λ (x : Items). x.edges) value in
    let bounded : length (all.starts ++ more) ≤ 1 = rw starts_are h in
    let fits : length all.edges + length edges ≤ 4096 = rw edges_are i in
    let z = items_back all more edges us are bounded fits b.left b.same in
    record {
      it = turn (plain (fixed kinds.Start)) w.it z.it;
      text = a.text ∙ ap (λ (us : List Mark). plain (fixed kinds.Start) ∷ us) (b.text ∙ sym (w.text b.left) ∙ ap (branch_text (refuse_by (has_start s.starts && true) TwoStarts one) w.it) z.text);
      starts_are = z.starts_are ∙ starts_are;
      edges_are = z.edges_are ∙ ap (λ (xs : List Transition). xs ++ edges) edges_are;
    }
items_back s starts edges ts (programs.AreItems.edge {l} {m} {commands} {edges = more} {ts = us} {us = vs} cs are) h i ms e =
    let a = front (fixed kinds.From) ms (fixed kinds.Colon ∷ label l ∷ fixed kinds.Semicolon ∷ us) (λ e. cc) e in
    let b = edge_back s l m commands us vs cs a.rest a.same in
    let one : Grammar Items = grammar.edge every 63 s in
    let it : Transition = edge_of l m commands in
    let w = allowed TooMany (is_full s.edges && true) (not_full s.edges more it i) one b.it in
    let all : Items = branch_value (refuse_by (is_full s.edges && true) TooMany one) w.it in
    let value : all ≡ with_edge s l commands m = w.value ∙ b.is in
    let starts_are : all.starts ≡ s.starts = ap (λ (x : Items). x.starts) value in
    let edges_are : all.edges ≡ s.edges ++ it ∷ [] = ap (λ (x : Items). x.edges) value in
    let bounded : length (all.starts ++ starts) ≤ 1 = rw starts_are h in
    let counted : length all.edges ≡ length s.edges + 1 = ap length edges_are ∙ length-append s.edges (it ∷ []) in
    let fits : length all.edges + length more ≤ 4096 = omega (arith, counted, i) in
    let z = items_back all starts more vs are bounded fits b.left b.same in
    record {
      it = turn (plain (fixed kinds.From)) w.it z.it;
      text = a.text ∙ ap (λ (us : List Mark). plain (fixed kinds.From) ∷ us) (b.text ∙ sym (w.text b.left) ∙ ap (branch_text (refuse_by (is_full s.edges && true) TooMany one) w.it) z.text);
      starts_are = z.starts_are ∙ ap (λ (xs : List ℕ). xs ++ starts) starts_are;
      edges_are = z.edges_are ∙ ap (λ (xs : List Transition). xs ++ more) edges_are ∙ append_assoc s.edges (it ∷ []) more;
    }
items_back s starts edges ts (passed {ts = us} are) h i ms e =
    let a = front (fixed kinds.Passed) ms us (λ e. cc) e in
    let z = items_back s starts edges us are h i a.rest a.same in
    record { it = turn (plain (fixed kinds.Passed)) tt z.it; text = a.text ∙ ap (λ (us : List Mark). plain (fixed kinds.Passed) ∷ us) z.text; starts_are = z.starts_are; edges_are = z.edges_are }
items_back s starts edges ts (programs.AreItems.mark {ts = us} are) h i ms e =
    let a = front (fixed kinds.Mark) ms us (λ e. cc) e in
    let z = items_back s starts edges us are h i a.rest a.same in
    record { it = turn (plain (fixed kinds.Mark)) (done, tt) z.it; text = a.text ∙ ap (λ (us : List Mark). plain (fixed kinds.Mark) ∷ us) z.text; starts_are = z.starts_are; edges_are = z.edges_are }
items_back s starts edges ts (programs.AreItems.ended_mark {ts = us} are) h i ms e =
    let a = front (fixed kinds.Mark) ms (fixed kinds.Semicolon ∷ us) (λ e. cc) e in
    let b = front (fixed kinds.Semicolon) a.rest us (λ e. cc) a.same in
    let z = items_back s starts edges us are h i b.rest b.same in
    record { it = turn (plain (fixed kinds.Mark)) (turn (plain (fixed kinds.Semicolon)) tt done, tt) z.it; text = a.text ∙ ap (λ (us : List Mark). plain (fixed kinds.Mark) ∷ us) (b.text ∙ ap (λ (us : List Mark). plain (fixed kinds.Semicolon) ∷ us) z.text); starts_are = z.starts_are; edges_are = z.edges_are }

-- Items up to the end, with one START at most and no more than 4,096 edges, are a text of the grammar.
pub program_is_read : (starts : List ℕ) (edges : List Transition) (ms : List Mark) → AreItems starts edges (symbols_of ms) → length starts ≤ 1 → length edges ≤ 4096 → IsText (program_at every 63) ms (record { starts = starts; edges = edges })
program_is_read starts edges ms are h i =
    let z = items_back no_items starts edges (symbols_of ms) are h (omega (arith, i)) ms refl in
    let value : turns_value (item_cases every 63) no_items z.it ≡ record { starts = starts; edges = edges } = ap (λ (xs : List ℕ). record { starts = xs; edges = (turns_value (item_cases every 63) no_items z.it).edges }) z.starts_are ∙ ap (λ (es : List Transition). record { starts = starts; edges = es }) z.edges_are in
    record { it = (z.it, (plain (fixed kinds.End), tt)); text = z.text; is = value }
