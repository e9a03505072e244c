-- No program is refused for an unknown name.
use Rattle.std.proofs.Common.{◌≡◌, ℕ, suc, ◌^◌, Bool, true, false, List, [], ◌∷◌, ◌++◌, Option, Some, None, cond, refl, subst}
use Rattle.std.specs.Prelude.{◌&&◌, ◌≢◌, nat_lt}
use Rattle.tv_language.specs.declared.token.TokenKind.{TokenKind}
use Rattle.tv_language.specs.declared.token.TokenKind.TheVariants as kinds
use Rattle.tv_language.specs.Numbers.{value_of_digits}
use Rattle.tv_language.specs.Symbols.{Symbol, number, name, label, drawn, fixed, Lexeme, Vocabulary, is_colon}
use Rattle.tv_program.specs.Words.{Word, number_of}
use Rattle.tv_program.specs.Trees.{Instruction, assume, assign}
use Rattle.tv_grammar.specs.Reads.{fault, next}
use Rattle.tv_grammar.specs.Langs.{unit, then, mapped, headed, turns}
use Rattle.tv_grammar.specs.Faults.{Kinded, KindedBranch, KindedTurn}
use Rattle.tv_grammar.proofs.KindLemmas.{unit_kinded, then_kinded, mapped_kinded, headed_kinded, turns_kinded}
use Rattle.tv_reading.specs.Marks as marks
use Rattle.tv_reading.specs.Marks.{Kind, Syntax, Mark, plain, refused}
use Rattle.tv_reading.specs.SumGrammar.{Grammar, Behind, every, refuse_by, sum_at}
use Rattle.tv_reading.specs.ConditionGrammar.{condition_at}
use Rattle.tv_reading.specs.Answers.{kind_of, Unless}
use Rattle.tv_reading.specs.declared.reason.Reason.{Reason}
use Rattle.tv_reading.specs.declared.reason.Reason.TheVariants as reasons
use Rattle.tv_reading.proofs.KindsOfFaults.{refusal, Marked, kinded_by, sums_kinded, conditions_kinded}
use Rattle.tv_reader.specs.ProgramMarks.{numbered, mark_by, marks_from}
use Rattle.tv_reader.specs.ProgramGrammar.{go_if, token_cases, token, is_semicolon, is_left, is_right, is_assign, ended, semicolon_cases, perhaps_ended, label_cases, place, assumption, assignment, command_cases, Items, no_items, with_start, with_edge, until, last_of_edge, edge, has_start, is_full, item_cases, last_of_program, program_at}

-- ---- the grammar

-- a fault of this kind comes only at a mark of it
abbrev Named : Kind → Option Mark → Type 0
Named marks.UnknownName t = refusal t ≡ Some marks.UnknownName
Named k t = Unit {0}

named_by : (k : Kind) (t : Option Mark) → Marked k t → Named k t
named_by marks.UnknownName t h = h
named_by k t h = tt

named : (k : Kind) (kind : TokenKind) → Named k (Some (refused k kind))
named marks.UnknownName kind = refl
named k kind = tt

go_if_kinded : {X : Type 0} (b : Bool) (l : Grammar X) → Kinded Named l → (m : Mark) → KindedBranch Named m (go_if b l)
go_if_kinded true l h m = h
go_if_kinded false l h m = tt

token_branch : {X : Type 0} (is : TokenKind → Bool) (l : Grammar X) → Kinded Named l → (m : Mark) → KindedBranch Named m (token_cases is l m)
token_branch is l h (plain (fixed kind)) = go_if_kinded (is kind) l h (plain (fixed kind))
token_branch is l h _ = tt

token_kinded : {X : Type 0} (is : TokenKind → Bool) (l : Grammar X) → Kinded Named l → Kinded Named (token is l)
token_kinded is l h = headed_kinded Named Syntax (token_cases is l) tt (token_branch is l h)

ended_kinded : {X : Type 0} (x : X) → Kinded Named (ended x)
ended_kinded x = token_kinded is_semicolon (unit x) (unit_kinded Named x)

semicolon_kinded : (may_come : Bool) (m : Mark) → KindedTurn Named (semicolon_cases may_come m)
semicolon_kinded true (plain (fixed kinds.Semicolon)) = unit_kinded Named false
semicolon_kinded true _ = tt
semicolon_kinded false _ = tt

perhaps_kinded : {X : Type 0} (x : X) → Kinded Named (perhaps_ended x)
perhaps_kinded x = mapped_kinded Named (λ came. x) (turns semicolon_cases true) (turns_kinded Named semicolon_cases semicolon_kinded true)

label_kinded : (m : Mark) → KindedBranch Named m (label_cases every m)
label_kinded (plain (label l)) = unit_kinded Named l
label_kinded (plain (fixed kinds.Wide)) = tt
label_kinded (refused k kinds.Number) = named k kinds.Number
label_kinded _ = tt

place_kinded : Kinded Named (place every)
place_kinded = token_kinded is_colon (then (headed Syntax (label_cases every)) ended) (then_kinded Named (headed Syntax (label_cases every)) ended (headed_kinded Named Syntax (label_cases every) tt label_kinded) ended_kinded)

assumption_kinded : (n : ℕ) (cs : List Instruction) → Kinded Named (assumption every n cs)
assumption_kinded n cs = token_kinded is_left (then (condition_at every n) (λ c. token is_right (ended (cs ++ assume c ∷ [])))) (then_kinded Named (condition_at every n) (λ c. token is_right (ended (cs ++ assume c ∷ []))) (kinded_by Marked Named named_by (condition_at every n) (conditions_kinded n)) (λ c. token_kinded is_right (ended (cs ++ assume c ∷ [])) (ended_kinded (cs ++ assume c ∷ []))))

assignment_kinded : (n : ℕ) (cs : List Instruction) (v : ℕ) → Kinded Named (assignment every n cs v)
assignment_kinded n cs v = token_kinded is_assign (then (sum_at every (suc n) true) (λ e. ended (cs ++ assign v e ∷ []))) (then_kinded Named (sum_at every (suc n) true) (λ e. ended (cs ++ assign v e ∷ [])) (kinded_by Marked Named named_by (sum_at every (suc n) true) (sums_kinded (suc n) true)) (λ e. ended_kinded (cs ++ assign v e ∷ [])))

command_kinded : (n : ℕ) (cs : List Instruction) (m : Mark) → KindedTurn Named (command_cases every n cs m)
command_kinded n cs (plain (fixed kinds.Assume)) = assumption_kinded n cs
command_kinded n cs (plain (name v)) = assignment_kinded n cs v
command_kinded n cs (plain (fixed kinds.Mark)) = perhaps_kinded cs
command_kinded n cs (refused k kinds.Name) = tt
command_kinded n cs _ = tt

until_kinded : {S X : Type 0} (cases : S → Mark → Behind S) (last : S → Mark → Behind X) → ((s : S) (m : Mark) → KindedTurn Named (cases s m)) → ((s : S) (m : Mark) → KindedBranch Named m (last s m)) → (s : S) → Kinded Named (until cases last s)
until_kinded cases last h i s = then_kinded Named (turns cases s) (λ x. headed Syntax (last x)) (turns_kinded Named cases h s) (λ x. headed_kinded Named Syntax (last x) tt (i x))

edge_end_kinded : (s : Items) (from : ℕ) (cs : List Instruction) (m : Mark) → KindedBranch Named m (last_of_edge every s from cs m)
edge_end_kinded s from cs (plain (fixed kinds.To)) = mapped_kinded Named (with_edge s from cs) (place every) place_kinded
edge_end_kinded s from cs (refused k kinds.Name) = named k kinds.Name
edge_end_kinded s from cs _ = tt

edge_kinded : (n : ℕ) (s : Items) → Kinded Named (edge every n s)
edge_kinded n s = then_kinded Named (place every) (λ from. until (command_cases every n) (last_of_edge every s from) []) place_kinded (λ from. until_kinded (command_cases every n) (last_of_edge every s from) (command_kinded n) (edge_end_kinded s from) [])

refusable : (b : Bool) (k : Kind) (l : Grammar Items) → Kinded Named l → KindedTurn Named (refuse_by (b && true) k l)
refusable true k l h = tt
refusable false k l h = h

item_kinded : (n : ℕ) (s : Items) (m : Mark) → KindedTurn Named (item_cases every n s m)
item_kinded n s (plain (fixed kinds.Start)) = refusable (has_start s.starts) marks.TwoStarts (mapped (with_start s) (place every)) (mapped_kinded Named (with_start s) (place every) place_kinded)
item_kinded n s (plain (fixed kinds.From)) = refusable (is_full s.edges) marks.TooMany (edge every n s) (edge_kinded n s)
item_kinded n s (plain (fixed kinds.Passed)) = unit_kinded Named s
item_kinded n s (plain (fixed kinds.Mark)) = perhaps_kinded s
item_kinded n s _ = tt

program_end_kinded : (s : Items) (m : Mark) → KindedBranch Named m (last_of_program s m)
program_end_kinded s (plain (fixed kinds.End)) = unit_kinded Named s
program_end_kinded s (plain (fixed kinds.Start)) = tt
program_end_kinded s (plain (fixed kinds.From)) = tt
program_end_kinded s _ = tt

program_kinded : (n : ℕ) → Kinded Named (program_at every n)
program_kinded n = until_kinded (item_cases every n) last_of_program (item_kinded n) program_end_kinded no_items

-- ---- the marks

abbrev IsKnown : Option Mark → Type 0
IsKnown t = refusal t ≡ Some marks.UnknownName → ⊥

numbered_known : (kind : TokenKind) (make : ℕ → Symbol) (o : Option ℕ) → IsKnown (Some (numbered kind make o))
numbered_known kind make (Some n) e = cc
numbered_known kind make None e = cc

mark_known : (v : Vocabulary) (behind_colon : Bool) (d : ℕ) (kind : TokenKind) (w : Word) → IsKnown (Some (mark_by v behind_colon d kind w))
mark_known v true d kinds.Name w = numbered_known kinds.Number label (number_of w v.labels)
mark_known v true d kinds.Number w = numbered_known kinds.Number label (number_of w v.labels)
mark_known v false d kinds.Name w = numbered_known kinds.Name name (number_of w v.variables)
mark_known v false d kinds.Number w = by (nat_lt (value_of_digits w) (2 ^ 62))
  where
    by : (b : Bool) → IsKnown (Some (cond b (plain (number (value_of_digits w))) (plain (fixed kinds.Wide))))
    by true e = cc
    by false e = cc
mark_known v behind_colon d kinds.Nondet w = by (nat_lt d 64)
  where
    by : (b : Bool) → IsKnown (Some (cond b (plain (drawn d)) (refused marks.TooMany kinds.Nondet)))
    by true e = cc
    by false e = cc
mark_known v behind_colon d kind w = λ e. cc

marks_known : (v : Vocabulary) (behind_colon : Bool) (d : ℕ) (xs : List Lexeme) → IsKnown (next (marks_from v behind_colon d xs))
unfolding marks_from
marks_known v behind_colon d [] e = cc
marks_known v behind_colon d (x ∷ xs) e = mark_known v behind_colon d x.kind x.word e

-- ---- what is reported

pub known_names : (v : Vocabulary) (behind_colon : Bool) (d : ℕ) (xs : List Lexeme) (ms : List Mark) (n : ℕ) (e : Reason) → Unless e ((program_at every n).read ms ≡ fault (kind_of e) (marks_from v behind_colon d xs)) → e ≢ reasons.UnknownName
known_names v behind_colon d xs ms n e reads is =
    let reads : (program_at every n).read ms ≡ fault marks.UnknownName (marks_from v behind_colon d xs) = subst (λ (r : Reason). Unless r ((program_at every n).read ms ≡ fault (kind_of r) (marks_from v behind_colon d xs))) is reads in
    marks_known v behind_colon d xs ((program_kinded n).kind ms marks.UnknownName (marks_from v behind_colon d xs) reads)
