-- How many rows targets and falls owe.
use Rattle.std.proofs.Common.{◌≡◌, ℕ, zero, suc, ◌<◌, ◌≤◌, ◌^◌, ℤ, pos, negsuc, Bool, true, false, List, [], ◌∷◌, ◌++◌, length, map, Option, Some, None, refl, ap, ◌∙◌, arith, cond, slice_get}
use Rattle.std.specs.Prelude.{◌==◌}
use Rattle.std.specs.Global.{Vec}
use Rattle.std.specs.Borrow.{Bor}
use Rattle.std.specs.List.{flat_map}
use Rattle.std.specs.Option.{option_map}
use Rattle.std.proofs.lemmas.List.{length-map}
use Rattle.tv_linear.specs.Linear.{Linear}
use Rattle.tv_linear.specs.Known.{Known, given, as_given}
use Rattle.tv_linear.specs.declared.row.Row.{Row}
use Rattle.tv_linear.specs.Falls.{fall_rows}
use Rattle.tv_cert.specs.declared.node.Marked.{Marked}
use Rattle.tv_cert.specs.NodeViews.{pieces_list}
use Rattle.tv_cert.specs.Obligations.{truth_targets}
use Rattle.tv_cert.specs.Pieces.{place_of, rows_of, ranks_of, goes, pieces_at}
use Rattle.tv_cert.specs.Targets.{changed_lists, target_rows, owed_into, no_fall, fall_from}
use Rattle.tv_cert.specs.declared.targets.Targets.{Targets}
use Rattle.tv_cert.specs.declared.targets.Targets.TheVariants as targets
use Rattle.tv_cert.specs.TargetViews.{falls_past, counts_of, ranks_past, AreFew}
use Rattle.tv_cert_reader.proofs.FallLemmas.{fall_some}
use Rattle.tv_cert_reader.specs.LineGrammar.{with_two}
use Rattle.tv_cert_reader.specs.Covers.{IsTarget, NamesNone}
use Rattle.tv_cert.proofs.RoomLemmas.{few_left}
use Rattle.std.proofs.lemmas.Option.{slice_get_within}

-- what is not there
pub none_or : {X : Type 0} (o : Option X) → ((x : X) → o ≡ Some x → ⊥) → o ≡ None
none_or None h = refl
none_or (Some x) h = absurd (h x refl)

-- ---- targets and falls that are there are few

fall_within : (p q : Marked) (j n : ℕ) → option_map length (fall_from given (ranks_of p) q j) ≡ Some n → j ≤ length (ranks_of p)
fall_within p q j n e = going (goes q) e where
  zero_fall : (j : ℕ) → option_map length (no_fall q j) ≡ Some n → j ≤ length (ranks_of p)
  zero_fall zero e = omega arith
  zero_fall (suc j) e = absurd (let h : ⊥ = cc in h)

  going : (b : Bool) → option_map length (cond b (fall_rows (as_given (ranks_of p)) (map given (ranks_of q)) j) (no_fall q j)) ≡ Some n → j ≤ length (ranks_of p)
  going true e = (fall_some (ranks_of p) (ranks_of q) j n e).1
  going false e = zero_fall j e

few_falls : (from : Option (Bor Marked)) (q : Marked) (j n : ℕ) → option_map length (falls_past given from q j) ≡ Some n → j ≤ length (ranks_past from)
few_falls None q zero n e = omega arith
few_falls None q (suc j) n e = absurd (let h : ⊥ = cc in h)
few_falls (Some p) q j n e = fall_within p.now q j n e

mapped_some : (xs : List Known) (o : Option (List Known)) (n : ℕ) → option_map length (option_map (λ ys. xs ++ ys) o) ≡ Some n → (m : ℕ) × (option_map length o ≡ Some m)
mapped_some xs None n e = absurd (let h : ⊥ = cc in h)
mapped_some xs (Some ys) n e = (length ys, refl)

few_rows : (from : Option (Bor Marked)) (ps : List Marked) (o : Option Marked) (k j n : ℕ) → slice_get ps k ≡ o → option_map length (target_rows given (falls_past given from) o j) ≡ Some n → (k < length ps) × (j ≤ length (ranks_past from))
few_rows from ps None k j n is e = absurd (let h : ⊥ = cc in h)
few_rows from ps (Some q) k j n is e = (slice_get_within ps k q is, (let h = mapped_some (map given (rows_of q)) (falls_past given from q j) n e in few_falls from q j h.0 h.1))

pub few_into : (from : Option (Bor Marked)) (ps : List Marked) (l k j n : ℕ) → option_map length (owed_into ps l given (falls_past given from) k j) ≡ Some n → (k < length ps) × (j ≤ length (ranks_past from))
few_into from ps l k j n e =
    let h = few_rows from (pieces_at ps l) (slice_get (pieces_at ps l) k) k j n refl e in
    let m = few_left (λ p. place_of p == l) ps in
    (omega (arith, h.0, m), h.1)

few_entered : (p : Marked) (ps : List Marked) (o : Option Marked) (k j n : ℕ) → slice_get ps k ≡ o → option_map length (target_rows given (fall_from given (ranks_of p)) o j) ≡ Some n → (k < length ps) × (j ≤ length (ranks_of p))
few_entered p ps None k j n is e = absurd (let h : ⊥ = cc in h)
few_entered p ps (Some q) k j n is e = (slice_get_within ps k q is, (let h = mapped_some (map given (rows_of q)) (fall_from given (ranks_of p) q j) n e in fall_within p q j h.0 h.1))

-- a fall from the ranks of a piece
pub few_ranked : (p : Marked) (ps : List Marked) (l k j n : ℕ) → option_map length (owed_into ps l given (fall_from given (ranks_of p)) k j) ≡ Some n → (k < length ps) × (j ≤ length (ranks_of p))
few_ranked p ps l k j n e =
    let h = few_entered p (pieces_at ps l) (slice_get (pieces_at ps l) k) k j n refl e in
    let m = few_left (λ p. place_of p == l) ps in
    (omega (arith, h.0, m), h.1)

pub few_lists : (lists : List (List Linear)) (k j n : ℕ) → option_map length (changed_lists given lists k j) ≡ Some n → (k < length lists) × (j ≡ 0)
few_lists lists k zero n e = (got (slice_get lists k) refl e, refl) where
  got : (o : Option (List Linear)) → slice_get lists k ≡ o → option_map length (option_map (map given) o) ≡ Some n → k < length lists
  got None is e = absurd (let h : ⊥ = cc in h)
  got (Some rows) is e = slice_get_within lists k rows is
few_lists lists k (suc j) n e = absurd (let h : ⊥ = cc in h)

few_truths : (t : Bool) → length (truth_targets t) ≤ 1
few_truths true = omega arith
few_truths false = omega arith

pub few_targets : (ts : Targets) (k j n : ℕ) → AreFew ts → counts_of ts k j ≡ Some n → (k < 2 ^ 32) × (j < 2 ^ 32)
few_targets targets.Nowhere k j n bounded e = absurd (let h : ⊥ = cc in h)
few_targets (targets.Lists lists) k j n bounded e = (let h = few_lists (map (λ l. l.items) lists.now) k j n e in let m = length-map lists.now (λ (l : Vec Row). l.items) in (omega (arith, h.0, m, bounded), omega (arith, h.1)))
few_targets (targets.Truth t) k j n bounded e = (let h = few_lists (truth_targets t) k j n e in let m = few_truths t in (omega (arith, h.0, m), omega (arith, h.1)))
few_targets (targets.Joined nodes l) k j n bounded e = (let h = few_into None (flat_map (λ a. a) (map pieces_list nodes.now)) l k j n e in (omega (arith, h.0, bounded), omega (arith, h.1)))
few_targets (targets.Pieces from into l) k j n bounded e = (let h = few_into from into.now l k j n e in (omega (arith, h.0, bounded.0), omega (arith, h.1, bounded.1)))

-- ---- the numbers of a target and a fall

pub two_none : (counts : ℕ → ℕ → Option ℕ) (zs : List ℤ) → NamesNone counts zs → with_two zs counts ≡ None
two_none counts (pos k ∷ pos j ∷ []) h = none_or (counts k j) (λ n e. h k j n refl e)
two_none counts (pos k ∷ negsuc j ∷ []) h = refl
two_none counts (negsuc k ∷ j ∷ []) h = refl
two_none counts [] h = refl
two_none counts (a ∷ []) h = refl
two_none counts (a ∷ b ∷ c ∷ zs) h = refl

pub two_some : (counts : ℕ → ℕ → Option ℕ) (zs : List ℤ) (k j n : ℕ) → IsTarget counts zs k j n → with_two zs counts ≡ Some n
two_some counts zs k j n is = ap (λ ys. with_two ys counts) is.numbers ∙ is.owes
