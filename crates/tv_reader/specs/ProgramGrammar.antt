-- The grammar of programs as it is read from left to right. Faults of the kinds that are not kept are none.
use Rattle.std.specs.Prelude.{ℕ, suc, Bool, true, false, not, ◌&&◌, List, [], ◌∷◌, ◌++◌, length, nat_lt}
use Rattle.tv_language.specs.declared.token.TokenKind.{TokenKind}
use Rattle.tv_language.specs.declared.token.TokenKind.TheVariants as kinds
use Rattle.tv_program.specs.Trees.{Instruction, assume, assign, Transition}
use Rattle.tv_language.specs.Symbols.{name, label, fixed, is_colon}
use Rattle.tv_language.specs.Programs.{edge_of}
use Rattle.tv_grammar.specs.Langs.{unit, then, mapped, stop, go, headed, turns}
use Rattle.tv_reading.specs.Marks.{Kind, Syntax, Wide, TwoStarts, TooMany, Mark, plain, refused}
use Rattle.tv_reading.specs.SumGrammar.{Grammar, Behind, refuse_by, sum_at}
use Rattle.tv_reading.specs.ConditionGrammar.{condition_at}

-- ---- single tokens

abbrev pub go_if : {X : Type 0} → Bool → Grammar X → Behind X
go_if true l = go l
go_if false l = stop Syntax

abbrev pub token_cases : {X : Type 0} → (TokenKind → Bool) → Grammar X → Mark → Behind X
token_cases is l (plain (fixed kind)) = go_if (is kind) l
token_cases is l _ = stop Syntax

-- a token of this kind, and l after it
abbrev pub token : {X : Type 0} → (TokenKind → Bool) → Grammar X → Grammar X
token is l = headed Syntax (token_cases is l)

abbrev pub is_semicolon : TokenKind → Bool
is_semicolon kinds.Semicolon = true
is_semicolon kind = false

abbrev pub is_left : TokenKind → Bool
is_left kinds.LeftRound = true
is_left kind = false

abbrev pub is_right : TokenKind → Bool
is_right kinds.RightRound = true
is_right kind = false

abbrev pub is_assign : TokenKind → Bool
is_assign kinds.Assign = true
is_assign kind = false

abbrev pub is_to : TokenKind → Bool
is_to kinds.To = true
is_to kind = false

abbrev pub ended : {X : Type 0} → X → Grammar X
ended x = token is_semicolon (unit x)

-- a ";" that may be missing
abbrev pub semicolon_cases : Bool → Mark → Behind Bool
semicolon_cases true (plain (fixed kinds.Semicolon)) = go (unit false)
semicolon_cases may_come _ = stop Syntax

abbrev pub perhaps_ended : {X : Type 0} → X → Grammar X
perhaps_ended x = mapped (λ came. x) (turns semicolon_cases true)

-- ---- labels

-- a wide number stands for a label too, where that is no fault
abbrev pub label_cases : (Kind → Bool) → Mark → Behind ℕ
label_cases kept (plain (label l)) = go (unit l)
label_cases kept (plain (fixed kinds.Wide)) = refuse_by (kept Wide) Wide (unit 0)
label_cases kept (refused k kinds.Number) = refuse_by (kept k) k (unit 0)
label_cases kept _ = stop Syntax

-- ":" label ";"
abbrev pub place : (Kind → Bool) → Grammar ℕ
place kept = token is_colon (then (headed Syntax (label_cases kept)) ended)

-- ---- commands

-- "(" condition ")" ";"
abbrev pub assumption : (Kind → Bool) → ℕ → List Instruction → Grammar (List Instruction)
assumption kept n cs = token is_left (then (condition_at kept n) (λ c. token is_right (ended (cs ++ assume c ∷ []))))

-- ":=" sum ";"
abbrev pub assignment : (Kind → Bool) → ℕ → List Instruction → ℕ → Grammar (List Instruction)
assignment kept n cs v = token is_assign (then (sum_at kept (suc n) true) (λ e. ended (cs ++ assign v e ∷ [])))

-- command = "assume" "(" condition ")" ";" | name ":=" sum ";" | mark [ ";" ]
-- The bracket of an assumption opens a level: n are left in it.
abbrev pub command_cases : (Kind → Bool) → ℕ → List Instruction → Mark → Behind (List Instruction)
command_cases kept n cs (plain (fixed kinds.Assume)) = go (assumption kept n cs)
command_cases kept n cs (plain (name v)) = go (assignment kept n cs v)
command_cases kept n cs (refused k kinds.Name) = refuse_by (kept k) k (assignment kept n cs 0)
command_cases kept n cs (plain (fixed kinds.Mark)) = go (perhaps_ended cs)
command_cases kept n cs _ = stop Syntax

-- ---- items

-- what the items so far say: the locations of START, and the edges
pub record Items : Type 0 where
  pub starts : List ℕ
  pub edges : List Transition

abbrev pub no_items : Items
no_items = record { starts = []; edges = [] }

abbrev pub with_start : Items → ℕ → Items
with_start s l = record { starts = s.starts ++ l ∷ []; edges = s.edges }

abbrev pub with_edge : Items → ℕ → List Instruction → ℕ → Items
with_edge s from cs to = record { starts = s.starts; edges = s.edges ++ edge_of from to cs ∷ [] }

-- turns up to a token that ends them, and what follows it
abbrev pub until : {S X : Type 0} → (S → Mark → Behind S) → (S → Mark → Behind X) → S → Grammar X
until cases last s = then (turns cases s) (λ x. headed Syntax (last x))

-- "TO" ":" label ";", which ends the commands; a name one too many would begin a command
abbrev pub last_of_edge : (Kind → Bool) → Items → ℕ → List Instruction → Mark → Behind Items
last_of_edge kept s from cs (plain (fixed kinds.To)) = go (mapped (with_edge s from cs) (place kept))
last_of_edge kept s from cs (refused k kinds.Name) = stop k
last_of_edge kept s from cs _ = stop Syntax

-- ":" label ";" { command } "TO" ":" label ";"
abbrev pub edge : (Kind → Bool) → ℕ → Items → Grammar Items
edge kept n s = then (place kept) (λ from. until (command_cases kept n) (last_of_edge kept s from) [])

abbrev pub has_start : List ℕ → Bool
has_start [] = false
has_start (l ∷ ls) = true

-- 4,096 edges are all that there may be
abbrev pub is_full : List Transition → Bool
is_full edges = not (nat_lt (length edges) 4096)

-- item = "START" ":" label ";" | "FROM" ":" label ";" { command } "TO" ":" label ";" | passed | mark [ ";" ]
abbrev pub item_cases : (Kind → Bool) → ℕ → Items → Mark → Behind Items
item_cases kept n s (plain (fixed kinds.Start)) = refuse_by (has_start s.starts && kept TwoStarts) TwoStarts (mapped (with_start s) (place kept))
item_cases kept n s (plain (fixed kinds.From)) = refuse_by (is_full s.edges && kept TooMany) TooMany (edge kept n s)
item_cases kept n s (plain (fixed kinds.Passed)) = go (unit s)
item_cases kept n s (plain (fixed kinds.Mark)) = go (perhaps_ended s)
item_cases kept n s _ = stop Syntax

-- the end of the text, which ends the items; a START and a FROM that are refused begin none
abbrev pub last_of_program : Items → Mark → Behind Items
last_of_program s (plain (fixed kinds.End)) = go (unit s)
last_of_program s (plain (fixed kinds.Start)) = stop TwoStarts
last_of_program s (plain (fixed kinds.From)) = stop TooMany
last_of_program s _ = stop Syntax

-- programs whose conditions nest n levels at most, in the bracket of their assumption
abbrev pub program_at : (Kind → Bool) → ℕ → Grammar Items
program_at kept n = until (item_cases kept n) last_of_program no_items
