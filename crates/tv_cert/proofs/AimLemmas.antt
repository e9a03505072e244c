-- What an aim with a list of parts states.
use Rattle.std.proofs.Common.{◌≡◌, ℕ, zero, suc, ◌<◌, List, [], ◌∷◌, length, get_or, ap, arith}
use Rattle.tv_cert.specs.declared.aim.Aim.{Aim}
use Rattle.tv_cert.specs.Statements.{count, part_at}
use Rattle.tv_cert.specs.AimViews.{aim_states, aims_state}

pub many_parts : (aims : List Aim) (i : ℕ) → i < count (aims_state aims) → i < length aims
many_parts [] i h = h
many_parts (a ∷ aims) zero h = omega arith
many_parts (a ∷ aims) (suc i) h = let k = many_parts aims i (omega (arith, h)) in omega (arith, k)

pub nth_part : (aims : List Aim) (i : ℕ) (a : Aim) → i < length aims → a ≡ get_or aims i a → aim_states a ≡ part_at i (aims_state aims)
nth_part [] i a h e = absurd (omega arith)
nth_part (b ∷ aims) zero a h e = ap aim_states e
nth_part (b ∷ aims) (suc i) a h e = nth_part aims i a (omega arith) e
