-- Programs are read exactly.
use Rattle.std.proofs.Common.{◌≡◌, ℕ, suc, Bool, true, false, List, [], ◌∷◌, ◌++◌, refl}
use Rattle.std.specs.Prelude.{◌&&◌}
use Rattle.tv_language.specs.declared.token.TokenKind.{TokenKind}
use Rattle.tv_language.specs.declared.token.TokenKind.TheVariants as kinds
use Rattle.tv_program.specs.Trees.{Instruction, assume, assign}
use Rattle.tv_language.specs.Symbols.{name, label, fixed, is_colon}
use Rattle.tv_grammar.specs.Langs.{unit, then, mapped, OfBranch, headed, turns}
use Rattle.tv_grammar.specs.Exact.{Exact, ExactBranch}
use Rattle.tv_grammar.proofs.ExactLemmas.{unit_exact, then_exact, mapped_exact, headed_exact}
use Rattle.tv_grammar.proofs.TurnLemmas.{turns_exact}
use Rattle.tv_reading.specs.Marks.{Kind, Syntax, Wide, TwoStarts, TooMany, Mark, plain, refused}
use Rattle.tv_reading.specs.SumGrammar.{Grammar, Behind, sum_at}
use Rattle.tv_reading.specs.ConditionGrammar.{condition_at}
use Rattle.tv_reading.proofs.SumLemmas.{sum_exact, refuse_exact}
use Rattle.tv_reading.proofs.ConditionLemmas.{condition_exact}
use Rattle.tv_reader.specs.ProgramGrammar.{go_if, token_cases, token, is_semicolon, is_left, is_right, is_assign, ended, semicolon_cases, perhaps_ended, label_cases, place, assumption, assignment, command_cases, Items, no_items, with_start, with_edge, until, last_of_edge, edge, has_start, is_full, item_cases, last_of_program, program_at}

go_if_exact : {X : Type 0} (b : Bool) (l : Grammar X) → Exact l → ExactBranch (go_if b l)
go_if_exact true l h = h
go_if_exact false l h = tt

go_if_some : {X : Type 0} (b : Bool) (l : Grammar X) → Exact l → b ≡ true → OfBranch (go_if b l)
go_if_some true l h e = h.some
go_if_some false l h e = absurd cc

token_branch : {X : Type 0} (is : TokenKind → Bool) (l : Grammar X) → Exact l → (m : Mark) → ExactBranch (token_cases is l m)
token_branch is l h (plain (fixed kind)) = go_if_exact (is kind) l h
token_branch is l h _ = tt

-- a token of a kind that there is
pub token_exact : {X : Type 0} (is : TokenKind → Bool) (kind : TokenKind) → is kind ≡ true → (l : Grammar X) → Exact l → Exact (token is l)
token_exact is kind e l h = headed_exact Syntax (token_cases is l) (token_branch is l h) (plain (fixed kind)) (go_if_some (is kind) l h e)

pub ended_exact : {X : Type 0} (x : X) → Exact (ended x)
ended_exact x = token_exact is_semicolon kinds.Semicolon refl (unit x) (unit_exact x)

pub semicolon_branch : (may_come : Bool) (m : Mark) → ExactBranch (semicolon_cases may_come m)
semicolon_branch true (plain (fixed kinds.Semicolon)) = unit_exact false
semicolon_branch true _ = tt
semicolon_branch false _ = tt

pub perhaps_exact : {X : Type 0} (x : X) → Exact (perhaps_ended x)
perhaps_exact x = mapped_exact (λ came. x) (turns semicolon_cases true) (turns_exact semicolon_cases semicolon_branch true)

label_branch : (kept : Kind → Bool) (m : Mark) → ExactBranch (label_cases kept m)
label_branch kept (plain (label l)) = unit_exact l
label_branch kept (plain (fixed kinds.Wide)) = refuse_exact (kept Wide) Wide (unit 0) (unit_exact 0)
label_branch kept (refused k kinds.Number) = refuse_exact (kept k) k (unit 0) (unit_exact 0)
label_branch kept _ = tt

pub label_exact : (kept : Kind → Bool) → Exact (headed Syntax (label_cases kept))
label_exact kept = headed_exact Syntax (label_cases kept) (label_branch kept) (plain (label 0)) tt

pub place_exact : (kept : Kind → Bool) → Exact (place kept)
place_exact kept = token_exact is_colon kinds.Colon refl (then (headed Syntax (label_cases kept)) ended) (then_exact (headed Syntax (label_cases kept)) ended (label_exact kept) ended_exact)

pub assumption_exact : (kept : Kind → Bool) (n : ℕ) (cs : List Instruction) → Exact (assumption kept n cs)
assumption_exact kept n cs = token_exact is_left kinds.LeftRound refl (then (condition_at kept n) (λ c. token is_right (ended (cs ++ assume c ∷ [])))) (then_exact (condition_at kept n) (λ c. token is_right (ended (cs ++ assume c ∷ []))) (condition_exact kept n) (λ c. token_exact is_right kinds.RightRound refl (ended (cs ++ assume c ∷ [])) (ended_exact (cs ++ assume c ∷ []))))

pub assignment_exact : (kept : Kind → Bool) (n : ℕ) (cs : List Instruction) (v : ℕ) → Exact (assignment kept n cs v)
assignment_exact kept n cs v = token_exact is_assign kinds.Assign refl (then (sum_at kept (suc n) true) (λ e. ended (cs ++ assign v e ∷ []))) (then_exact (sum_at kept (suc n) true) (λ e. ended (cs ++ assign v e ∷ [])) (sum_exact kept (suc n) true) (λ e. ended_exact (cs ++ assign v e ∷ [])))

pub command_branch : (kept : Kind → Bool) (n : ℕ) (cs : List Instruction) (m : Mark) → ExactBranch (command_cases kept n cs m)
command_branch kept n cs (plain (fixed kinds.Assume)) = assumption_exact kept n cs
command_branch kept n cs (plain (name v)) = assignment_exact kept n cs v
command_branch kept n cs (refused k kinds.Name) = refuse_exact (kept k) k (assignment kept n cs 0) (assignment_exact kept n cs 0)
command_branch kept n cs (plain (fixed kinds.Mark)) = perhaps_exact cs
command_branch kept n cs _ = tt

pub until_exact : {S X : Type 0} (cases : S → Mark → Behind S) (last : S → Mark → Behind X) → ((s : S) (m : Mark) → ExactBranch (cases s m)) → ((s : S) (m : Mark) → ExactBranch (last s m)) → (t : Mark) → ((s : S) → OfBranch (last s t)) → (s : S) → Exact (until cases last s)
until_exact cases last h i t d s = then_exact (turns cases s) (λ x. headed Syntax (last x)) (turns_exact cases h s) (λ x. headed_exact Syntax (last x) (i x) t (d x))

last_branch : (kept : Kind → Bool) (s : Items) (from : ℕ) (cs : List Instruction) (m : Mark) → ExactBranch (last_of_edge kept s from cs m)
last_branch kept s from cs (plain (fixed kinds.To)) = mapped_exact (with_edge s from cs) (place kept) (place_exact kept)
last_branch kept s from cs (refused k kinds.Name) = tt
last_branch kept s from cs _ = tt

pub commands_exact : (kept : Kind → Bool) (n : ℕ) (s : Items) (from : ℕ) (cs : List Instruction) → Exact (until (command_cases kept n) (last_of_edge kept s from) cs)
commands_exact kept n s from cs = until_exact (command_cases kept n) (last_of_edge kept s from) (command_branch kept n) (last_branch kept s from) (plain (fixed kinds.To)) (λ cs. (mapped_exact (with_edge s from cs) (place kept) (place_exact kept)).some) cs

pub edge_exact : (kept : Kind → Bool) (n : ℕ) (s : Items) → Exact (edge kept n s)
edge_exact kept n s = then_exact (place kept) (λ from. until (command_cases kept n) (last_of_edge kept s from) []) (place_exact kept) (λ from. commands_exact kept n s from [])

pub item_branch : (kept : Kind → Bool) (n : ℕ) (s : Items) (m : Mark) → ExactBranch (item_cases kept n s m)
item_branch kept n s (plain (fixed kinds.Start)) = refuse_exact (has_start s.starts && kept TwoStarts) TwoStarts (mapped (with_start s) (place kept)) (mapped_exact (with_start s) (place kept) (place_exact kept))
item_branch kept n s (plain (fixed kinds.From)) = refuse_exact (is_full s.edges && kept TooMany) TooMany (edge kept n s) (edge_exact kept n s)
item_branch kept n s (plain (fixed kinds.Passed)) = unit_exact s
item_branch kept n s (plain (fixed kinds.Mark)) = perhaps_exact s
item_branch kept n s _ = tt

end_branch : (s : Items) (m : Mark) → ExactBranch (last_of_program s m)
end_branch s (plain (fixed kinds.End)) = unit_exact s
end_branch s (plain (fixed kinds.Start)) = tt
end_branch s (plain (fixed kinds.From)) = tt
end_branch s _ = tt

pub items_exact : (kept : Kind → Bool) (n : ℕ) (s : Items) → Exact (until (item_cases kept n) last_of_program s)
items_exact kept n s = until_exact (item_cases kept n) last_of_program (item_branch kept n) end_branch (plain (fixed kinds.End)) (λ s. tt) s

pub program_exact : (kept : Kind → Bool) (n : ℕ) → Exact (program_at kept n)
program_exact kept n = items_exact kept n no_items
