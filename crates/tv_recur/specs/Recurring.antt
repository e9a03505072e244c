-- Recurrences that are found.
use Rattle.tv_shape.specs.Made.{IsFitted}
use Rattle.tv_cases.specs.LinearCases.{CaseSystem}
use Rattle.tv_cert.specs.Claims.{about_with}
use Rattle.tv_cert.specs.Nodes.{pieces_of}
use Rattle.tv_points.specs.Nodes.{endless, IsInside}
use Rattle.tv_recur.specs.declared.recurrence.Recurrence.{Recurrence}

-- The root fits as a node that shows that from each state of its pieces some run never ends, with all its obligations met whatever its
-- number, and the values are those of an initial state in the piece.
pub record IsRecurrence (about : CaseSystem) (r : Recurrence) : Type 0 where
  pub fitted : IsFitted (about_with about) endless 1 r.root
  pub inside : IsInside about (pieces_of r.root) r.piece r.values.items
