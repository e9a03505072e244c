use Rattle.tv_simplex.proofs.Matrices.{matrix_is_system}
use Rattle.tv_simplex.proofs.laws.system_with_artificial_columns.Goals as goal

pub returns : goal.returns
returns c = matrix_is_system
