use Rattle.tv_lexrank.proofs.MemoryLemmas.{first_has_memory, known_has_memory}
use Rattle.tv_lexrank.proofs.laws.systems_do_not_lack_memory.Goals as goal

pub returns-clause-first : goal.returns-clause-first
returns-clause-first c about pivots system = first_has_memory about pivots system

pub returns-clause-known : goal.returns-clause-known
returns-clause-known c about known budget system = known_has_memory about known budget system
