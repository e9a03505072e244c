-- Ranks that do not grow, and what is owed on entering a piece over a case that enters or does not.
use Rattle.std.specs.Prelude.{◌≡◌, ℕ, zero, suc, ◌<◌, List, [], ◌∷◌, length, map, ℤ, pos, ◌≤ℤ◌, slice_index_or, Option, None, Some, Bool, if◌then◌else◌}
use Rattle.std.specs.Option.{option_map}
use Rattle.tv_linear.specs.Linear.{Linear}
use Rattle.tv_linear.specs.Known.{Known, less, as_given}
use Rattle.tv_cert.specs.declared.node.Marked.{Marked}
use Rattle.tv_cert.specs.Pieces.{ranks_of}
use Rattle.tv_cert.specs.Targets.{fall_from}

-- there are as many ranks after as before, and none grows
pub record NoneGrows (old new : List ℤ) : Type 0 where
  pub as_many : length new ≡ length old
  pub none_grows : (i : ℕ) → i < length old → slice_index_or new i (pos 0) ≤ℤ slice_index_or old i (pos 0)

-- the rows that show that none of as many ranks grows: new_i - old_i for each
abbrev pub kept_rows : List Known → List Known → Option (List Known)
kept_rows [] [] = Some []
kept_rows [] (g ∷ new) = None
kept_rows (f ∷ old) [] = None
kept_rows (f ∷ old) (g ∷ new) = option_map (λ rows. less g f (pos 0) ∷ rows) (kept_rows old new)

-- What is owed of the ranks on entering q over a case: fall j of 1 or more, and over a case that does not enter either that or, where j is
-- 0, that no rank grows.
abbrev pub visit_fall : Bool → (Linear → Known) → List Linear → Marked → ℕ → Option (List Known)
visit_fall enters change ranks q zero = (if enters then None else kept_rows (as_given ranks) (map change (ranks_of q)))
visit_fall enters change ranks q (suc j) = fall_from change ranks q (suc j)
