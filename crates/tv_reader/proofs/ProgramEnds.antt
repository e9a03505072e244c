-- Where a program may end: nothing in it goes on at the tokens after it.
use Rattle.std.proofs.Common.{◌≡◌, ℕ, suc, Bool, true, false, List, [], ◌∷◌, ◌++◌, Option, Some, None, refl}
use Rattle.std.specs.Prelude.{◌&&◌}
use Rattle.tv_language.specs.declared.token.TokenKind.{TokenKind}
use Rattle.tv_language.specs.declared.token.TokenKind.TheVariants as kinds
use Rattle.tv_program.specs.Trees.{Instruction, assume, assign}
use Rattle.tv_language.specs.Symbols.{name, label, fixed, is_colon}
use Rattle.tv_grammar.specs.Langs.{unit, then, mapped, OfBranch, headed, goes_at, turns}
use Rattle.tv_grammar.specs.Exact.{Outside, Ends, nowhere}
use Rattle.tv_grammar.proofs.OutsideLemmas.{BranchOutside, mapped_outside, headed_outside, then_outside, outside_ends, turns_outside}
use Rattle.tv_reading.specs.Marks.{Kind, Syntax, Wide, TwoStarts, TooMany, Mark, plain, refused}
use Rattle.tv_reading.specs.SumGrammar.{Grammar, Behind, refuse_by, sum_at}
use Rattle.tv_reading.specs.ConditionGrammar.{condition_at}
use Rattle.tv_reading.proofs.SumLemmas.{sum_goes_on}
use Rattle.tv_reading.proofs.ConditionEnds.{condition_closes}
use Rattle.tv_reader.specs.ProgramGrammar.{go_if, token_cases, token, is_semicolon, is_left, is_right, is_assign, ended, semicolon_cases, perhaps_ended, label_cases, place, assumption, assignment, command_cases, Items, no_items, with_start, with_edge, until, last_of_edge, edge, has_start, is_full, item_cases, last_of_program, program_at}
use Rattle.tv_reader.proofs.ProgramTexts.{one_semicolon, one_right}
use Rattle.std.proofs.lemmas.Bool.{or_from}

-- nothing goes on
abbrev Stops : {X : Type 0} → Grammar X → Type 0
Stops l = Outside l nowhere

abbrev BranchStops : {X : Type 0} → Behind X → Type 0
BranchStops b = BranchOutside b nowhere

unit_stops : {X : Type 0} (x : X) → Stops (unit x)
unit_stops x d t e = refl

go_if_stops : {X : Type 0} (b : Bool) (l : Grammar X) → Stops l → BranchStops (go_if b l)
go_if_stops true l h d t e = h d t e
go_if_stops false l h d t e = absurd d

token_branch : {X : Type 0} (is : TokenKind → Bool) (l : Grammar X) → Stops l → (m : Mark) → BranchStops (token_cases is l m)
token_branch is l h (plain (fixed kind)) d t e = go_if_stops (is kind) l h d t e
token_branch is l h _ d t e = absurd d

token_stops : {X : Type 0} (is : TokenKind → Bool) (l : Grammar X) → Stops l → Stops (token is l)
token_stops is l h = headed_outside Syntax (token_cases is l) nowhere (token_branch is l h)

ended_stops : {X : Type 0} (x : X) → Stops (ended x)
ended_stops x = token_stops is_semicolon (unit x) (unit_stops x)

-- after what never goes on
behind_stops : {X Y : Type 0} (a : Grammar X) (b : X → Grammar Y) → Stops a → ((x : X) → Stops (b x)) → Stops (then a b)
behind_stops a b h i = then_outside a b nowhere nowhere h i (λ x d t e. refl)

passes : {X : Type 0} (b : Bool) (l : Grammar X) → OfBranch (go_if b l) → b ≡ true
passes true l d = refl
passes false l d = absurd d

-- the first mark of a token that is wanted
token_head : {X : Type 0} (is : TokenKind → Bool) (l : Grammar X) (kind : TokenKind) → ((k : TokenKind) → is k ≡ true → k ≡ kind) → (m : Mark) → OfBranch (token_cases is l m) → m ≡ plain (fixed kind)
token_head is l kind one (plain (fixed k)) d = let e = one k (passes (is k) l d) in rw e refl
token_head is l kind one _ d = absurd d

-- a front that does not go on at the token that ends it
then_token : {X Y : Type 0} (a : Grammar X) (is : TokenKind → Bool) (kind : TokenKind) → ((k : TokenKind) → is k ≡ true → k ≡ kind) → ((d : a.Of) → a.goes_on d (Some (plain (fixed kind))) ≡ false) → (b : X → Grammar Y) → ((x : X) → Stops (b x)) → Stops (then a (λ x. token is (b x)))
then_token a is kind one h b i d t e =
    let m : Mark = d.1.0 in
    let head : m ≡ plain (fixed kind) = token_head is (b (a.value d.0)) kind one d.1.0 d.1.1 in
    or_from _ _ (token_stops is (b (a.value d.0)) (i (a.value d.0)) d.1 t e) (rw head (h d.0))

refuse_stops : {X : Type 0} (b : Bool) (k : Kind) (l : Grammar X) → Stops l → BranchStops (refuse_by b k l)
refuse_stops true k l h d t e = absurd d
refuse_stops false k l h d t e = h d t e

label_branch : (kept : Kind → Bool) (m : Mark) → BranchStops (label_cases kept m)
label_branch kept (plain (label l)) d t e = refl
label_branch kept (plain (fixed kinds.Wide)) d t e = refuse_stops (kept Wide) Wide (unit 0) (unit_stops {X = ℕ} 0) d t e
label_branch kept (refused k kinds.Number) d t e = refuse_stops (kept k) k (unit 0) (unit_stops {X = ℕ} 0) d t e
label_branch kept _ d t e = absurd d

place_stops : (kept : Kind → Bool) → Stops (place kept)
place_stops kept = token_stops is_colon (then (headed Syntax (label_cases kept)) ended) (behind_stops (headed Syntax (label_cases kept)) ended (headed_outside Syntax (label_cases kept) nowhere (label_branch kept)) ended_stops)

assumption_stops : (kept : Kind → Bool) (n : ℕ) (cs : List Instruction) → Stops (assumption kept n cs)
assumption_stops kept n cs = token_stops is_left (then (condition_at kept n) (λ c. token is_right (ended (cs ++ assume c ∷ [])))) (then_token (condition_at kept n) is_right kinds.RightRound one_right (condition_closes kept n) (λ c. ended (cs ++ assume c ∷ [])) (λ c. ended_stops (cs ++ assume c ∷ [])))

assignment_stops : (kept : Kind → Bool) (n : ℕ) (cs : List Instruction) (v : ℕ) → Stops (assignment kept n cs v)
assignment_stops kept n cs v = token_stops is_assign (then (sum_at kept (suc n) true) (λ e. ended (cs ++ assign v e ∷ []))) (then_token (sum_at kept (suc n) true) is_semicolon kinds.Semicolon one_semicolon (λ d. sum_goes_on kept (suc n) true d (Some (plain (fixed kinds.Semicolon)))) (λ e. unit (cs ++ assign v e ∷ [])) (λ e. unit_stops (cs ++ assign v e ∷ [])))

-- ---- a ";" that may come

abbrev semicolons : Option Mark → Bool
semicolons (Some (plain (fixed kinds.Semicolon))) = true
semicolons _ = false

semicolon_starts : (may_come : Bool) (t : Option Mark) → semicolons t ≡ false → goes_at (semicolon_cases may_come) t ≡ false
semicolon_starts true (Some (plain (fixed kinds.Semicolon))) e = absurd cc
semicolon_starts true None e = refl
semicolon_starts true (Some _) e = refl
semicolon_starts false None e = refl
semicolon_starts false (Some _) e = refl

semicolon_stops : (may_come : Bool) (m : Mark) → BranchStops (semicolon_cases may_come m)
semicolon_stops true (plain (fixed kinds.Semicolon)) d t e = refl
semicolon_stops true _ d t e = absurd d
semicolon_stops false _ d t e = absurd d

perhaps_outside : {X : Type 0} (x : X) → Outside (perhaps_ended x) semicolons
perhaps_outside x = mapped_outside (λ came. x) (turns semicolon_cases true) semicolons (turns_outside semicolon_cases nowhere (λ s t d. refl) semicolons semicolon_starts semicolon_stops (λ t e. refl) true)

-- ---- commands

command_outside : (kept : Kind → Bool) (n : ℕ) (cs : List Instruction) (m : Mark) → BranchOutside (command_cases kept n cs m) semicolons
command_outside kept n cs (plain (fixed kinds.Assume)) d t e = assumption_stops kept n cs d t refl
command_outside kept n cs (plain (name v)) d t e = assignment_stops kept n cs v d t refl
command_outside kept n cs (refused k kinds.Name) d t e = refuse_stops (kept k) k (assignment kept n cs 0) (assignment_stops kept n cs 0) d t refl
command_outside kept n cs (plain (fixed kinds.Mark)) d t e = perhaps_outside cs d t e
command_outside kept n cs _ d t e = absurd d

-- a command begins with no ";"
command_split : (kept : Kind → Bool) (n : ℕ) (cs : List Instruction) (m : Mark) → OfBranch (command_cases kept n cs m) → semicolons (Some m) ≡ false
command_split kept n cs (plain (fixed kinds.Semicolon)) d = absurd d
command_split kept n cs (plain (fixed kinds.Assume)) d = refl
command_split kept n cs (plain (name v)) d = refl
command_split kept n cs (refused k kinds.Name) d = refl
command_split kept n cs (plain (fixed kinds.Mark)) d = refl
command_split kept n cs _ d = absurd d

-- the tokens at which commands may go on
abbrev commanding : Option Mark → Bool
commanding (Some (plain (fixed kinds.Semicolon))) = true
commanding (Some (plain (fixed kinds.Assume))) = true
commanding (Some (plain (fixed kinds.Mark))) = true
commanding (Some (plain (name v))) = true
commanding (Some (refused k kind)) = true
commanding _ = false

command_starts : (kept : Kind → Bool) (n : ℕ) (cs : List Instruction) (t : Option Mark) → commanding t ≡ false → goes_at (command_cases kept n cs) t ≡ false
command_starts kept n cs None e = refl
command_starts kept n cs (Some (plain (fixed kinds.Assume))) e = absurd cc
command_starts kept n cs (Some (plain (fixed kinds.Mark))) e = absurd cc
command_starts kept n cs (Some (plain (name v))) e = absurd cc
command_starts kept n cs (Some (refused k kind)) e = absurd cc
command_starts kept n cs (Some _) e = refl

not_semicolon : (t : Option Mark) → commanding t ≡ false → semicolons t ≡ false
not_semicolon (Some (plain (fixed kinds.Semicolon))) e = absurd cc
not_semicolon None e = refl
not_semicolon (Some _) e = refl

commands_outside : (kept : Kind → Bool) (n : ℕ) (cs : List Instruction) → Outside (turns (command_cases kept n) cs) commanding
commands_outside kept n cs = turns_outside (command_cases kept n) semicolons (command_split kept n) commanding (command_starts kept n) (command_outside kept n) not_semicolon cs

-- ---- items

last_stops : (kept : Kind → Bool) (s : Items) (from : ℕ) (cs : List Instruction) (m : Mark) → BranchStops (last_of_edge kept s from cs m)
last_stops kept s from cs (plain (fixed kinds.To)) d t e = mapped_outside (with_edge s from cs) (place kept) nowhere (place_stops kept) d t e
last_stops kept s from cs (refused k kinds.Name) d t e = absurd d
last_stops kept s from cs _ d t e = absurd d

last_head : (kept : Kind → Bool) (s : Items) (from : ℕ) (cs : List Instruction) (m : Mark) → OfBranch (last_of_edge kept s from cs m) → m ≡ plain (fixed kinds.To)
last_head kept s from cs (plain (fixed kinds.To)) d = refl
last_head kept s from cs (refused k kinds.Name) d = absurd d
last_head kept s from cs _ d = absurd d

until_stops : {S X : Type 0} (cases : S → Mark → Behind S) (last : S → Mark → Behind X) (out : Option Mark → Bool) → ((s : S) → Outside (turns cases s) out) → ((s : S) (m : Mark) → BranchStops (last s m)) → ((s : S) (m : Mark) → OfBranch (last s m) → out (Some m) ≡ false) → (s : S) → Stops (until cases last s)
until_stops cases last out h i head s = then_outside (turns cases s) (λ x. headed Syntax (last x)) out nowhere (h s) (λ x. headed_outside Syntax (last x) nowhere (i x)) (λ x d t e. head x d.0 d.1)

edge_stops : (kept : Kind → Bool) (n : ℕ) (s : Items) → Stops (edge kept n s)
edge_stops kept n s = behind_stops (place kept) (λ from. until (command_cases kept n) (last_of_edge kept s from) []) (place_stops kept) (λ from. until_stops (command_cases kept n) (last_of_edge kept s from) commanding (commands_outside kept n) (last_stops kept s from) (λ cs m d. let e = last_head kept s from cs m d in rw e refl) [])

item_outside : (kept : Kind → Bool) (n : ℕ) (s : Items) (m : Mark) → BranchOutside (item_cases kept n s m) semicolons
item_outside kept n s (plain (fixed kinds.Start)) d t e = refuse_stops (has_start s.starts && kept TwoStarts) TwoStarts (mapped (with_start s) (place kept)) (mapped_outside (with_start s) (place kept) nowhere (place_stops kept)) d t refl
item_outside kept n s (plain (fixed kinds.From)) d t e = refuse_stops (is_full s.edges && kept TooMany) TooMany (edge kept n s) (edge_stops kept n s) d t refl
item_outside kept n s (plain (fixed kinds.Passed)) d t e = refl
item_outside kept n s (plain (fixed kinds.Mark)) d t e = perhaps_outside s d t e
item_outside kept n s _ d t e = absurd d

item_split : (kept : Kind → Bool) (n : ℕ) (s : Items) (m : Mark) → OfBranch (item_cases kept n s m) → semicolons (Some m) ≡ false
item_split kept n s (plain (fixed kinds.Semicolon)) d = absurd d
item_split kept n s (plain (fixed kinds.Start)) d = refl
item_split kept n s (plain (fixed kinds.From)) d = refl
item_split kept n s (plain (fixed kinds.Passed)) d = refl
item_split kept n s (plain (fixed kinds.Mark)) d = refl
item_split kept n s _ d = absurd d

-- the tokens at which items may go on
abbrev itemizing : Option Mark → Bool
itemizing (Some (plain (fixed kinds.Semicolon))) = true
itemizing (Some (plain (fixed kinds.Start))) = true
itemizing (Some (plain (fixed kinds.From))) = true
itemizing (Some (plain (fixed kinds.Passed))) = true
itemizing (Some (plain (fixed kinds.Mark))) = true
itemizing _ = false

item_starts : (kept : Kind → Bool) (n : ℕ) (s : Items) (t : Option Mark) → itemizing t ≡ false → goes_at (item_cases kept n s) t ≡ false
item_starts kept n s None e = refl
item_starts kept n s (Some (plain (fixed kinds.Start))) e = absurd cc
item_starts kept n s (Some (plain (fixed kinds.From))) e = absurd cc
item_starts kept n s (Some (plain (fixed kinds.Passed))) e = absurd cc
item_starts kept n s (Some (plain (fixed kinds.Mark))) e = absurd cc
item_starts kept n s (Some _) e = refl

items_not_semicolon : (t : Option Mark) → itemizing t ≡ false → semicolons t ≡ false
items_not_semicolon (Some (plain (fixed kinds.Semicolon))) e = absurd cc
items_not_semicolon None e = refl
items_not_semicolon (Some _) e = refl

items_outside : (kept : Kind → Bool) (n : ℕ) (s : Items) → Outside (turns (item_cases kept n) s) itemizing
items_outside kept n s = turns_outside (item_cases kept n) semicolons (item_split kept n) itemizing (item_starts kept n) (item_outside kept n) items_not_semicolon s

end_stops : (s : Items) (m : Mark) → BranchStops (last_of_program s m)
end_stops s (plain (fixed kinds.End)) d t e = refl
end_stops s (plain (fixed kinds.Start)) d t e = absurd d
end_stops s (plain (fixed kinds.From)) d t e = absurd d
end_stops s _ d t e = absurd d

end_head : (s : Items) (m : Mark) → OfBranch (last_of_program s m) → m ≡ plain (fixed kinds.End)
end_head s (plain (fixed kinds.End)) d = refl
end_head s (plain (fixed kinds.Start)) d = absurd d
end_head s (plain (fixed kinds.From)) d = absurd d
end_head s _ d = absurd d

pub program_ends : (kept : Kind → Bool) (n : ℕ) → Ends (program_at kept n)
program_ends kept n = outside_ends (program_at kept n) nowhere (until_stops (item_cases kept n) last_of_program itemizing (items_outside kept n) end_stops (λ s m d. let e = end_head s m d in rw e refl) no_items) refl
