-- Commands and edges that are added fit as those before.
use Rattle.std.proofs.Common.{◌≡◌, ℕ, ◌+◌, ◌≤◌, Bool, true, false, List, [], ◌∷◌, ◌++◌, length, Vec, Option, Some, None, Result, Ok, Err, refl, ap, sym, ◌∙◌, arith}
use Rattle.std.specs.Prelude.{IsTrue, is_some, nat_lt, MatchResult}
use Rattle.std.specs.List.{list_all}
use Rattle.std.specs.Global.{Global}
use Rattle.std.proofs.lemmas.Bool.Decides.{nat_tests}
use Rattle.tv_program.specs.declared.tree.Command.{Command}
use Rattle.std.proofs.lemmas.List.{length-map}
use Rattle.tv_program.specs.declared.tree.Edge.{Edge}
use Rattle.tv_program.specs.Views.{transition, transitions}
use Rattle.tv_program.specs.Words.{Word}
use Rattle.tv_program.specs.Trees.{Instruction}
use Rattle.tv_program.specs.Limits.{instruction_fits}
use Rattle.tv_language.specs.Programs.{draws_of, draws_counted}
use Rattle.tv_reader.specs.Readers.{instructions, CommandsFit, starts_view}
use Rattle.tv_reader.specs.ProgramGrammar.{has_start, is_full}
use Rattle.tv_reader.specs.declared.reader.Reader.{Reader}
use Rattle.tv_reader.proofs.MoreLemmas.{all_more, all_with, counted_with}

pub more_fit : (r s : Reader) (cs ds : Vec Command Global) (i : Instruction) → s.reading.names ≡ r.reading.names → CommandsFit r cs → s.reading.draws ≡ r.reading.draws + draws_of i → IsTrue (instruction_fits (length s.reading.names) s.reading.draws i) → instructions ds ≡ instructions cs ++ i ∷ [] → CommandsFit s ds
more_fit r s cs ds i names w draws fits e =
    let n : ℕ = length s.reading.names in
    let d : ℕ = s.reading.draws in
    let le : r.reading.draws ≤ d = omega (arith, draws) in
    let before : list_all (instruction_fits n r.reading.draws) (instructions cs) ≡ true = ap (λ (ns : List Word). list_all (instruction_fits (length ns) r.reading.draws) (instructions cs)) names ∙ w.fit in
    record {
      fit = ap (list_all (instruction_fits n d)) e ∙ all_with (instruction_fits n d) (instructions cs) i (all_more n r.reading.draws d le (instructions cs) before) fits;
      counted = ap draws_counted e ∙ counted_with (instructions cs) i ∙ ap (λ (k : ℕ). k + draws_of i) w.counted ∙ sym draws;
    }

-- what holds in either case
pub in_both : {X E : Type 0} (r : Result X E) (x a b : Bool) → MatchResult r (λ _. x ≡ a) (λ _. x ≡ b) → a ≡ b → x ≡ b
in_both (Ok y) x a b h e = h ∙ e
in_both (Err y) x a b h e = h

-- ---- items

pub has_start_of : (o : Option ℕ) → is_some o ≡ true → has_start (starts_view o) ≡ true
has_start_of (Some l) e = refl
has_start_of None e = absurd cc

pub full : (edges : Vec Edge Global) → 4096 ≤ length edges.items → is_full (transitions edges.items) ≡ true
full edges le = let counted : length (transitions edges.items) ≡ length edges.items = length-map edges.items transition in let off : nat_lt (length (transitions edges.items)) 4096 ≡ false = grind (arith, nat_tests) in rw off refl
