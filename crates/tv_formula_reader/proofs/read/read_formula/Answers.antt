use Rattle.tv_program.specs.Programs.{system_of}
use Rattle.tv_formula_reader.proofs.FormulaParts.{read_parts}
use Rattle.tv_formula_reader.proofs.read.read_formula.Goals as goal

pub returns-clause-parts : goal.returns-clause-parts
returns-clause-parts c = read_parts (system_of c.args.program.now) c.args.text.now c.read.result c.read.ensures.found
