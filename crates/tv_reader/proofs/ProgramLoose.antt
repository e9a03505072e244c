-- A grammar of programs with fewer kinds of fault asks less.
use Rattle.std.proofs.Common.{◌≡◌, ℕ, suc, Bool, true, false, List, [], ◌∷◌, ◌++◌, refl, arith}
use Rattle.std.specs.Prelude.{◌&&◌}
use Rattle.tv_language.specs.declared.token.TokenKind.{TokenKind}
use Rattle.tv_language.specs.declared.token.TokenKind.TheVariants as kinds
use Rattle.tv_program.specs.Trees.{Instruction, assume, assign}
use Rattle.tv_language.specs.Symbols.{name, label, fixed, is_colon}
use Rattle.tv_grammar.specs.Langs.{unit, then, mapped, stop, headed, turns}
use Rattle.tv_grammar.specs.Exact.{Exact}
use Rattle.tv_grammar.specs.Faults.{Loosens, LoosensBranch, LoosensTurn}
use Rattle.tv_grammar.proofs.ExactLemmas.{unit_exact, mapped_exact}
use Rattle.tv_grammar.proofs.LooseLemmas.{unit_loose, then_loose, mapped_loose, headed_loose, turns_loose}
use Rattle.tv_reading.specs.Marks.{Kind, Syntax, Wide, Deep, TwoStarts, TooMany, Mark, plain, refused}
use Rattle.tv_reading.specs.SumGrammar.{Grammar, every, refuse_by, sum_at}
use Rattle.tv_reading.specs.ConditionGrammar.{condition_at}
use Rattle.tv_reading.specs.Refusals.{Levels}
use Rattle.tv_reading.proofs.LooseSums.{refuse_loose, sums_loose}
use Rattle.tv_reading.proofs.LooseConditions.{conditions_loose}
use Rattle.tv_reader.specs.ProgramGrammar.{go_if, token_cases, token, is_semicolon, is_left, is_right, is_assign, ended, semicolon_cases, perhaps_ended, label_cases, place, assumption, assignment, command_cases, Items, no_items, with_start, with_edge, until, last_of_edge, edge, has_start, is_full, item_cases, last_of_program, program_at}
use Rattle.tv_reader.proofs.UntilLemmas.{LoosensStep, until_loose}
use Rattle.tv_reader.proofs.ProgramExact.{token_exact, ended_exact, perhaps_exact, place_exact, assumption_exact, assignment_exact, command_branch, commands_exact, edge_exact, item_branch, items_exact}

levels_more : (b : Bool) (n m : ℕ) → Levels b n m → Levels b (suc n) (suc m)
levels_more true n m h = omega arith
levels_more false n m h = omega arith

module _ (kept : Kind → Bool) (syntax : kept Syntax ≡ true) where
  go_if_loose : {X : Type 0} (b : Bool) (l m : Grammar X) → Loosens kept l m → LoosensBranch kept (go_if b l) (go_if b m)
  go_if_loose true l m h = h
  go_if_loose false l m h = (syntax, refl)

  token_branch_loose : {X : Type 0} (is : TokenKind → Bool) (l m : Grammar X) → Loosens kept l m → (t : Mark) → LoosensBranch kept (token_cases is l t) (token_cases is m t)
  token_branch_loose is l m h (plain (fixed kind)) = go_if_loose (is kind) l m h
  token_branch_loose is l m h _ = (syntax, refl)

  token_loose : {X : Type 0} (is : TokenKind → Bool) (l m : Grammar X) → Loosens kept l m → Loosens kept (token is l) (token is m)
  token_loose is l m h = headed_loose kept Syntax (token_cases is l) (token_cases is m) syntax (token_branch_loose is l m h)

  ended_loose : {X : Type 0} (x : X) → Loosens kept (ended x) (ended x)
  ended_loose x = token_loose is_semicolon (unit x) (unit x) (unit_loose kept x)

  semicolon_loose : (may_come : Bool) (m : Mark) → LoosensTurn kept (semicolon_cases may_come m) (semicolon_cases may_come m)
  semicolon_loose true (plain (fixed kinds.Semicolon)) = (unit_loose kept false, unit_exact false)
  semicolon_loose true _ = tt
  semicolon_loose false _ = tt

  perhaps_loose : {X : Type 0} (x : X) → Loosens kept (perhaps_ended x) (perhaps_ended x)
  perhaps_loose x = mapped_loose kept (λ came. x) (turns semicolon_cases true) (turns semicolon_cases true) (turns_loose kept semicolon_cases semicolon_cases semicolon_loose true)

  label_loose : (m : Mark) → LoosensBranch kept (label_cases every m) (label_cases kept m)
  label_loose (plain (label l)) = unit_loose kept l
  label_loose (plain (fixed kinds.Wide)) = refuse_loose kept (kept Wide) Wide refl (unit 0) (unit_exact 0)
  label_loose (refused k kinds.Number) = refuse_loose kept (kept k) k refl (unit 0) (unit_exact 0)
  label_loose _ = (syntax, refl)

  place_loose : Loosens kept (place every) (place kept)
  place_loose = token_loose is_colon (then (headed Syntax (label_cases every)) ended) (then (headed Syntax (label_cases kept)) ended) (then_loose kept (headed Syntax (label_cases every)) (headed Syntax (label_cases kept)) ended ended (headed_loose kept Syntax (label_cases every) (label_cases kept) syntax label_loose) ended_loose ended_exact)

  assumption_loose : (n m : ℕ) → Levels (kept Deep) n m → (cs : List Instruction) → Loosens kept (assumption every n cs) (assumption kept m cs)
  assumption_loose n m h cs = token_loose is_left (then (condition_at every n) (λ c. token is_right (ended (cs ++ assume c ∷ [])))) (then (condition_at kept m) (λ c. token is_right (ended (cs ++ assume c ∷ [])))) (then_loose kept (condition_at every n) (condition_at kept m) (λ c. token is_right (ended (cs ++ assume c ∷ []))) (λ c. token is_right (ended (cs ++ assume c ∷ []))) (conditions_loose kept syntax n m h) (λ c. token_loose is_right (ended (cs ++ assume c ∷ [])) (ended (cs ++ assume c ∷ [])) (ended_loose (cs ++ assume c ∷ []))) (λ c. token_exact is_right kinds.RightRound refl (ended (cs ++ assume c ∷ [])) (ended_exact (cs ++ assume c ∷ []))))

  assignment_loose : (n m : ℕ) → Levels (kept Deep) n m → (cs : List Instruction) (v : ℕ) → Loosens kept (assignment every n cs v) (assignment kept m cs v)
  assignment_loose n m h cs v = token_loose is_assign (then (sum_at every (suc n) true) (λ e. ended (cs ++ assign v e ∷ []))) (then (sum_at kept (suc m) true) (λ e. ended (cs ++ assign v e ∷ []))) (then_loose kept (sum_at every (suc n) true) (sum_at kept (suc m) true) (λ e. ended (cs ++ assign v e ∷ [])) (λ e. ended (cs ++ assign v e ∷ [])) (sums_loose kept syntax (suc n) (suc m) (levels_more (kept Deep) n m h) true) (λ e. ended_loose (cs ++ assign v e ∷ [])) (λ e. ended_exact (cs ++ assign v e ∷ [])))

  -- ---- commands

  name_step : (b : Bool) (k : Kind) → kept k ≡ b → (l : Grammar (List Instruction)) → Exact l → LoosensStep {X = Items} kept (stop k) (stop k) (refuse_by b k l) (stop k)
  name_step true k e l h = (e, refl)
  name_step false k e l h = (e, h)

  module _ (n m : ℕ) (h : Levels (kept Deep) n m) where
    command_step : (s : Items) (from : ℕ) (cs : List Instruction) (t : Mark) → LoosensStep kept (command_cases every n cs t) (last_of_edge every s from cs t) (command_cases kept m cs t) (last_of_edge kept s from cs t)
    command_step s from cs (plain (fixed kinds.Assume)) = (assumption_loose n m h cs, assumption_exact kept m cs)
    command_step s from cs (plain (name v)) = (assignment_loose n m h cs v, assignment_exact kept m cs v)
    command_step s from cs (refused k kinds.Name) = name_step (kept k) k refl (assignment kept m cs 0) (assignment_exact kept m cs 0)
    command_step s from cs (plain (fixed kinds.Mark)) = (perhaps_loose cs, perhaps_exact cs)
    command_step s from cs (plain (fixed kinds.To)) = mapped_loose kept (with_edge s from cs) (place every) (place kept) place_loose
    command_step s from cs _ = (syntax, refl)

    edge_loose : (s : Items) → Loosens kept (edge every n s) (edge kept m s)
    edge_loose s = then_loose kept (place every) (place kept) (λ from. until (command_cases every n) (last_of_edge every s from) []) (λ from. until (command_cases kept m) (last_of_edge kept s from) []) place_loose (λ from. until_loose kept syntax (command_cases every n) (command_cases kept m) (last_of_edge every s from) (last_of_edge kept s from) (command_branch every n) (command_branch kept m) (commands_exact kept m s from) (command_step s from) []) (λ from. commands_exact kept m s from [])

    -- ---- items

    refused_step : (b : Bool) (k : Kind) (l l' : Grammar Items) → Loosens kept l l' → Exact l' → (c : Bool) → kept k ≡ c → LoosensStep {X = Items} kept (refuse_by (b && true) k l) (stop k) (refuse_by (b && c) k l') (stop k)
    refused_step true k l l' w e true is = (is, refl)
    refused_step true k l l' w e false is = (is, e)
    refused_step false k l l' w e c is = (w, e)

    item_step : (s : Items) (t : Mark) → LoosensStep kept (item_cases every n s t) (last_of_program s t) (item_cases kept m s t) (last_of_program s t)
    item_step s (plain (fixed kinds.Start)) = refused_step (has_start s.starts) TwoStarts (mapped (with_start s) (place every)) (mapped (with_start s) (place kept)) (mapped_loose kept (with_start s) (place every) (place kept) place_loose) (mapped_exact (with_start s) (place kept) (place_exact kept)) (kept TwoStarts) refl
    item_step s (plain (fixed kinds.From)) = refused_step (is_full s.edges) TooMany (edge every n s) (edge kept m s) (edge_loose s) (edge_exact kept m s) (kept TooMany) refl
    item_step s (plain (fixed kinds.Passed)) = (unit_loose kept s, unit_exact s)
    item_step s (plain (fixed kinds.Mark)) = (perhaps_loose s, perhaps_exact s)
    item_step s (plain (fixed kinds.End)) = unit_loose kept s
    item_step s _ = (syntax, refl)

    pub program_loose : Loosens kept (program_at every n) (program_at kept m)
    program_loose = until_loose kept syntax (item_cases every n) (item_cases kept m) last_of_program last_of_program (item_branch every n) (item_branch kept m) (items_exact kept m) item_step no_items
