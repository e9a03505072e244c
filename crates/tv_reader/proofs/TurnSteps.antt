-- One turn of the commands of an edge, or of the items of a program.
use Rattle.std.proofs.Common.{◌≡◌, ℕ, ◌^◌, Bool, true, false, cond, List, [], ◌∷◌, Option, Some, None, Result, Ok, refl, ap, ◌∙◌}
use Rattle.std.specs.Prelude.{nat_lt, ◌&&◌, MatchOption}
use Rattle.tv_language.specs.declared.token.TokenKind.{TokenKind}
use Rattle.tv_language.specs.declared.token.TokenKind.TheVariants as kinds
use Rattle.tv_language.specs.Numbers.{value_of_digits}
use Rattle.tv_program.specs.Words.{Word, number_of}
use Rattle.tv_program.specs.Trees.{Instruction}
use Rattle.tv_language.specs.Symbols.{number, name, drawn, fixed, Vocabulary}
use Rattle.tv_grammar.specs.Reads.{Fault, fault, next, ◌>>=◌}
use Rattle.tv_grammar.specs.Langs.{is_go, branch_read, headed_read, headed, goes_at, turns, mapped}
use Rattle.tv_grammar.proofs.TurningLemmas.{loop_ends, loop_goes}
use Rattle.tv_reading.specs.Marks.{Mark, plain, refused, Syntax, TwoStarts, TooMany, Kind}
use Rattle.tv_reading.specs.SumGrammar.{Grammar, Behind, every, refuse_by}
use Rattle.tv_reading.specs.Views.{kind_at}
use Rattle.tv_reader.proofs.ProgramExact.{semicolon_branch}
use Rattle.tv_reader.specs.ProgramMarks.{numbered, mark_by}
use Rattle.tv_reader.specs.ProgramGrammar as grammar
use Rattle.tv_reader.specs.ProgramGrammar.{command_cases, Items, with_start, place, perhaps_ended, semicolon_cases, last_of_edge, has_start, is_full, item_cases, last_of_program}
use Rattle.tv_reading.specs.Answers.{Turned}
use Rattle.tv_reading.specs.declared.reason.Turn.TheVariants.{On}
use Rattle.std.proofs.Math.Bool.{and-true}

-- ---- a turn that is taken

abbrev pub Out : Type 0 → Type 0
Out X = Result (X × List Mark) (Fault Mark Kind)

-- the next mark begins a turn, whose rest is read so
abbrev pub Begins : {S : Type 0} → (S → Mark → Behind S) → S → List Mark → Out S → Type 0
Begins cases s ms out = (goes_at (cases s) (next ms) ≡ true) × (headed_read Syntax (cases s) ms ≡ out)

pub turn_given : {X S : Type 0} (view : X → S) (cases : S → Mark → Behind S) (s : S) (ms rest : List Mark) (x : X) (out : Out S) → Begins cases s ms out → out ≡ Ok (view x, rest) → Turned view (Ok (On x)) rest cases s ms
turn_given view cases s ms rest x out b e = (b.0, b.1 ∙ e)

-- ---- commands

pub mark_begins : (cs : List Instruction) (ms us : List Mark) → ms ≡ plain (fixed kinds.Mark) ∷ us → Begins (command_cases every 63) cs ms ((perhaps_ended cs).read us)
mark_begins cs ms us e = (ap (λ x. goes_at (command_cases every 63 cs) (next x)) e, ap (headed_read Syntax (command_cases every 63 cs)) e)

pub other_off : (v : Vocabulary) (d : ℕ) (kind : TokenKind) (w : Word) (cs : List Instruction) → (kind ≡ kinds.Assume → ⊥) → (kind ≡ kinds.Name → ⊥) → (kind ≡ kinds.Mark → ⊥) → goes_at (command_cases every 63 cs) (Some (mark_by v false d kind w)) ≡ false
other_off v d kinds.Assume w cs a b c = absurd (a refl)
other_off v d kinds.Name w cs a b c = absurd (b refl)
other_off v d kinds.Mark w cs a b c = absurd (c refl)
other_off v d kinds.Number w cs a b c = by (nat_lt (value_of_digits w) (2 ^ 62))
  where
    by : (t : Bool) → goes_at (command_cases every 63 cs) (Some (cond t (plain (number (value_of_digits w))) (plain (fixed kinds.Wide)))) ≡ false
    by true = refl
    by false = refl
other_off v d kinds.Nondet w cs a b c = by (nat_lt d 64)
  where
    by : (t : Bool) → goes_at (command_cases every 63 cs) (Some (cond t (plain (drawn d)) (refused TooMany kinds.Nondet))) ≡ false
    by true = refl
    by false = refl
other_off v d kind w cs a b c = refl

-- ---- what ends the commands

to_none : (v : Vocabulary) (d : ℕ) (kind : TokenKind) (w : Word) (s : Items) (from : ℕ) (cs : List Instruction) → (kind ≡ kinds.To → ⊥) → (kind ≡ kinds.Name → ⊥) → (ms us : List Mark) → branch_read (last_of_edge every s from cs (mark_by v false d kind w)) ms us ≡ fault Syntax ms
to_none v d kinds.To w s from cs a b ms us = absurd (a refl)
to_none v d kinds.Name w s from cs a b ms us = absurd (b refl)
to_none v d kinds.Number w s from cs a b ms us = by (nat_lt (value_of_digits w) (2 ^ 62))
  where
    by : (t : Bool) → branch_read (last_of_edge every s from cs (cond t (plain (number (value_of_digits w))) (plain (fixed kinds.Wide)))) ms us ≡ fault Syntax ms
    by true = refl
    by false = refl
to_none v d kinds.Nondet w s from cs a b ms us = by (nat_lt d 64)
  where
    by : (t : Bool) → branch_read (last_of_edge every s from cs (cond t (plain (drawn d)) (refused TooMany kinds.Nondet))) ms us ≡ fault Syntax ms
    by true = refl
    by false = refl
to_none v d kind w s from cs a b ms us = refl

pub to_syntax : (v : Vocabulary) (d : ℕ) (kind : TokenKind) (w : Word) (s : Items) (from : ℕ) (cs : List Instruction) → (kind ≡ kinds.To → ⊥) → (kind ≡ kinds.Name → ⊥) → (ms : List Mark) → next ms ≡ Some (mark_by v false d kind w) → (headed Syntax (last_of_edge every s from cs)).read ms ≡ fault Syntax ms
to_syntax v d kind w s from cs a b [] e = absurd cc
to_syntax v d kind w s from cs a b (m ∷ us) e = let is : m ≡ mark_by v false d kind w = cc in ap (λ x. branch_read (last_of_edge every s from cs x) (m ∷ us) us) is ∙ to_none v d kind w s from cs a b (m ∷ us) us

-- ---- items

stop_refusable : {X : Type 0} (b : Bool) → b ≡ true → (k : Kind) (l : Grammar X) → is_go (refuse_by b k l) ≡ false
stop_refusable true e k l = refl
stop_refusable false e k l = absurd cc

pub item_mark_begins : (s : Items) (ms us : List Mark) → ms ≡ plain (fixed kinds.Mark) ∷ us → Begins (item_cases every 63) s ms ((perhaps_ended s).read us)
item_mark_begins s ms us e = (ap (λ x. goes_at (item_cases every 63 s) (next x)) e, ap (headed_read Syntax (item_cases every 63 s)) e)

pub start_off : (s : Items) (ms : List Mark) → has_start s.starts ≡ true → next ms ≡ Some (plain (fixed kinds.Start)) → goes_at (item_cases every 63 s) (next ms) ≡ false
start_off s ms h e = ap (goes_at (item_cases every 63 s)) e ∙ stop_refusable (has_start s.starts && true) (and-true (has_start s.starts) ∙ h) TwoStarts (mapped (with_start s) (place every))

pub from_off : (s : Items) (ms : List Mark) → is_full s.edges ≡ true → next ms ≡ Some (plain (fixed kinds.From)) → goes_at (item_cases every 63 s) (next ms) ≡ false
from_off s ms h e = ap (goes_at (item_cases every 63 s)) e ∙ stop_refusable (is_full s.edges && true) (and-true (is_full s.edges) ∙ h) TooMany (grammar.edge every 63 s)

pub item_off : (v : Vocabulary) (d : ℕ) (kind : TokenKind) (w : Word) (s : Items) → (kind ≡ kinds.Start → ⊥) → (kind ≡ kinds.From → ⊥) → (kind ≡ kinds.Passed → ⊥) → (kind ≡ kinds.Mark → ⊥) → goes_at (item_cases every 63 s) (Some (mark_by v false d kind w)) ≡ false
item_off v d kinds.Start w s a b c e = absurd (a refl)
item_off v d kinds.From w s a b c e = absurd (b refl)
item_off v d kinds.Passed w s a b c e = absurd (c refl)
item_off v d kinds.Mark w s a b c e = absurd (e refl)
item_off v d kinds.Name w s a b c e = by (number_of w v.variables)
  where
    by : (o : Option ℕ) → goes_at (item_cases every 63 s) (Some (numbered kinds.Name name o)) ≡ false
    by (Some n) = refl
    by None = refl
item_off v d kinds.Number w s a b c e = by (nat_lt (value_of_digits w) (2 ^ 62))
  where
    by : (t : Bool) → goes_at (item_cases every 63 s) (Some (cond t (plain (number (value_of_digits w))) (plain (fixed kinds.Wide)))) ≡ false
    by true = refl
    by false = refl
item_off v d kinds.Nondet w s a b c e = by (nat_lt d 64)
  where
    by : (t : Bool) → goes_at (item_cases every 63 s) (Some (cond t (plain (drawn d)) (refused TooMany kinds.Nondet))) ≡ false
    by true = refl
    by false = refl
item_off v d kind w s a b c e = refl

-- ---- the end of the text

end_none : (v : Vocabulary) (d : ℕ) (kind : TokenKind) (w : Word) (s : Items) → (kind ≡ kinds.End → ⊥) → (kind ≡ kinds.Start → ⊥) → (kind ≡ kinds.From → ⊥) → (ms us : List Mark) → branch_read (last_of_program s (mark_by v false d kind w)) ms us ≡ fault Syntax ms
end_none v d kinds.End w s a b c ms us = absurd (a refl)
end_none v d kinds.Start w s a b c ms us = absurd (b refl)
end_none v d kinds.From w s a b c ms us = absurd (c refl)
end_none v d kinds.Name w s a b c ms us = by (number_of w v.variables)
  where
    by : (o : Option ℕ) → branch_read (last_of_program s (numbered kinds.Name name o)) ms us ≡ fault Syntax ms
    by (Some n) = refl
    by None = refl
end_none v d kinds.Number w s a b c ms us = by (nat_lt (value_of_digits w) (2 ^ 62))
  where
    by : (t : Bool) → branch_read (last_of_program s (cond t (plain (number (value_of_digits w))) (plain (fixed kinds.Wide)))) ms us ≡ fault Syntax ms
    by true = refl
    by false = refl
end_none v d kinds.Nondet w s a b c ms us = by (nat_lt d 64)
  where
    by : (t : Bool) → branch_read (last_of_program s (cond t (plain (drawn d)) (refused TooMany kinds.Nondet))) ms us ≡ fault Syntax ms
    by true = refl
    by false = refl
end_none v d kind w s a b c ms us = refl

pub end_syntax : (v : Vocabulary) (d : ℕ) (kind : TokenKind) (w : Word) (s : Items) → (kind ≡ kinds.End → ⊥) → (kind ≡ kinds.Start → ⊥) → (kind ≡ kinds.From → ⊥) → (ms : List Mark) → next ms ≡ Some (mark_by v false d kind w) → (headed Syntax (last_of_program s)).read ms ≡ fault Syntax ms
end_syntax v d kind w s a b c [] e = absurd cc
end_syntax v d kind w s a b c (m ∷ us) e = let is : m ≡ mark_by v false d kind w = cc in ap (λ x. branch_read (last_of_program s x) (m ∷ us) us) is ∙ end_none v d kind w s a b c (m ∷ us) us

pub end_starts : (s : Items) (ms : List Mark) → next ms ≡ Some (plain (fixed kinds.Start)) → (headed Syntax (last_of_program s)).read ms ≡ fault TwoStarts ms
end_starts s [] e = absurd cc
end_starts s (m ∷ us) e = let is : m ≡ plain (fixed kinds.Start) = cc in ap (λ x. branch_read (last_of_program s x) (m ∷ us) us) is

pub end_many : (s : Items) (ms : List Mark) → next ms ≡ Some (plain (fixed kinds.From)) → (headed Syntax (last_of_program s)).read ms ≡ fault TooMany ms
end_many s [] e = absurd cc
end_many s (m ∷ us) e = let is : m ≡ plain (fixed kinds.From) = cc in ap (λ x. branch_read (last_of_program s x) (m ∷ us) us) is

-- ---- a ";" that may come

pub semicolon_came : {X : Type 0} (x : X) (ms us : List Mark) → ms ≡ plain (fixed kinds.Semicolon) ∷ us → (perhaps_ended x).read ms ≡ Ok (x, us)
semicolon_came x ms us e =
    let first : (turns semicolon_cases true).read ms ≡ (turns semicolon_cases false).read us = loop_goes semicolon_cases semicolon_branch Syntax true ms false us (ap (λ y. goes_at (semicolon_cases true) (next y)) e) (ap (headed_read Syntax (semicolon_cases true)) e) in
    ap (λ (o : Out Bool). o >>= λ y. Ok (x, y.1)) (first ∙ loop_ends semicolon_cases semicolon_branch false us (off (next us)))
  where
    off : (o : Option Mark) → goes_at (semicolon_cases false) o ≡ false
    off None = refl
    off (Some m) = refl

pub no_semicolon : {X : Type 0} (x : X) (ms : List Mark) → goes_at (semicolon_cases true) (next ms) ≡ false → (perhaps_ended x).read ms ≡ Ok (x, ms)
no_semicolon x ms e = ap (λ (o : Out Bool). o >>= λ y. Ok (x, y.1)) (loop_ends semicolon_cases semicolon_branch true ms e)

pub semicolon_off : (ms : List Mark) → (kind_at (next ms) ≡ kinds.Semicolon → ⊥) → goes_at (semicolon_cases true) (next ms) ≡ false
semicolon_off [] h = refl
semicolon_off (plain (fixed kinds.Semicolon) ∷ us) h = absurd (h refl)
semicolon_off (m ∷ us) h = refl

-- ---- a name

pub name_marked : (o : Option ℕ) (ms : List Mark) → next ms ≡ Some (numbered kinds.Name name o) → MatchOption o (next ms ≡ Some (refused TooMany kinds.Name)) (λ v. next ms ≡ Some (plain (name v)))
name_marked (Some v) ms e = e
name_marked None ms e = e
