use Rattle.std.proofs.Common.{rules, ◌≡◌, ℕ, List, sym, subst}
use Rattle.tv_program.specs.Programs.{system_of}
use Rattle.tv_spelling.specs.Programs.{program_text, IsProgramAgain}
use Rattle.tv_spelling.proofs.ProgramAgain.{read_program_again}
use Rattle.tv_spelling.proofs.programs.write_program.Goals as goal

pub returns-clause-again : goal.returns-clause-again
returns-clause-again c =
    let p = system_of c.args.program.now in
    let written : c.append_edges.new.out.items ≡ program_text p = search rules in
    subst (λ (text : List ℕ). IsProgramAgain p text) (sym written) (read_program_again p)
