-- The rows that are owed on entering a target, whatever is entered.
use Rattle.std.specs.Prelude.{ℕ, ◌<◌, ◌^◌, List, [], length, map, Option, None, Some}
use Rattle.std.specs.Borrow.{Bor}
use Rattle.std.specs.List.{flat_map}
use Rattle.tv_linear.specs.Linear.{Linear}
use Rattle.tv_linear.specs.Known.{Known, given}
use Rattle.tv_linear.specs.Covers.{no_target}
use Rattle.tv_cert.specs.declared.node.Marked.{Marked}
use Rattle.tv_cert.specs.declared.owes.Destination.{Destination}
use Rattle.tv_cert.specs.declared.owes.Destination.TheVariants.{Anywhere, Into}
use Rattle.tv_cert.specs.declared.targets.Targets.{Targets}
use Rattle.tv_cert.specs.declared.targets.Targets.TheVariants as targets
use Rattle.tv_cert.specs.NodeViews.{pieces_list}
use Rattle.tv_cert.specs.Obligations.{truth_targets}
use Rattle.tv_cert.specs.Pieces.{ranks_of}
use Rattle.tv_cert.specs.Shapes.{owed_count}
use Rattle.tv_cert.specs.Targets.{changed_lists, owed_into, no_fall, fall_from}

-- the falls that are owed from a piece, or none
abbrev pub falls_past : (Linear → Known) → Option (Bor Marked) → Marked → ℕ → Option (List Known)
falls_past change None = no_fall
falls_past change (Some p) = fall_from change (ranks_of p.now)

-- the rows that are owed on entering a target by a fall, which are changed
abbrev pub owed_at : (Linear → Known) → Targets → ℕ → ℕ → Option (List Known)
owed_at change targets.Nowhere = no_target
owed_at change (targets.Lists lists) = changed_lists change (map (λ l. l.items) lists.now)
owed_at change (targets.Truth truth) = changed_lists change (truth_targets truth)
owed_at change (targets.Joined nodes location) = owed_into (flat_map (λ a. a) (map pieces_list nodes.now)) location change no_fall
owed_at change (targets.Pieces from into location) = owed_into into.now location change (falls_past change from)

-- how many rows are owed; it is the same whatever the rows become on the way
abbrev pub counts_of : Targets → ℕ → ℕ → Option ℕ
counts_of ts = owed_count (owed_at given ts)

-- the ranks of a piece, or none
abbrev pub ranks_past : Option (Bor Marked) → List Linear
ranks_past None = []
ranks_past (Some p) = ranks_of p.now

-- the targets and their falls can be counted with 32 bits
abbrev pub AreFew : Targets → Type 0
AreFew targets.Nowhere = Unit {0}
AreFew (targets.Lists lists) = length lists.now < 2 ^ 32
AreFew (targets.Truth truth) = Unit {0}
AreFew (targets.Joined nodes location) = length (flat_map (λ a. a) (map pieces_list nodes.now)) < 2 ^ 32
AreFew (targets.Pieces from into location) = (length into.now < 2 ^ 32) × (length (ranks_past from) < 2 ^ 32)

-- the pieces that are chosen from, and the ranks that fall, can be counted with 32 bits
abbrev pub AreFewAt : Marked → Destination → Type 0
AreFewAt p Anywhere = Unit {0}
AreFewAt p (Into pieces falls) = (length pieces.now < 2 ^ 32) × (length (ranks_of p) < 2 ^ 32)
