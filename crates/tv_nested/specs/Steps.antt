-- The covers of steps into pieces by signs, and of the start by them.
use Rattle.std.specs.Prelude.{◌≡◌, ℕ, ◌+◌, ◌≤◌, List, [], ◌++◌, length, map, slice_get, Option, None, Some}
use Rattle.std.specs.Option.{option_map}
use Rattle.tv_linear.specs.Linear.{Linear, columns}
use Rattle.tv_linear.specs.Known.{Known, given}
use Rattle.tv_linear.specs.Covers.{IsMetCover}
use Rattle.tv_linear.specs.Depth.{splits}
use Rattle.tv_linear.specs.declared.cover.CoverTree.{CoverTree}
use Rattle.tv_cases.specs.Before.{IsTooWide}
use Rattle.tv_cases.specs.LinearCases.{LinearCase}
use Rattle.tv_farkas.specs.Trees.{TreeRows}
use Rattle.tv_farkas.specs.declared.fault.CoverFault.{CoverFault}
use Rattle.tv_farkas.specs.declared.fault.CoverFault.TheVariants as cover
use Rattle.tv_cert.specs.Targets.{changed_lists}
use Rattle.tv_shape.specs.Narrow.{CoverNarrow}
use Rattle.tv_rank.specs.Ways.{Way}
use Rattle.tv_lexrank.specs.declared.shown.CaseShown.{CaseShown}
use Rattle.tv_lexrank.specs.Closing.{changed}
use Rattle.tv_lexrank.specs.Known.{way_rows}
use Rattle.tv_lexrank.specs.More.{way_with}
use Rattle.tv_lexrank.specs.Shown.{owed_fall, IsShownBy}
use Rattle.tv_nested.specs.declared.fault.NestFault.{NestFault}
use Rattle.tv_nested.specs.declared.fault.NestFault.TheVariants as fault
use Rattle.tv_nested.specs.Signs.{sign_pieces}

-- what is owed on entering a piece over a way, from these ranks to those: its rows, where there is such a piece, and then those of a fall
abbrev pub owed_rows : ℕ → Way → Option (List Linear) → Option (List Known) → Option (List Known)
owed_rows v w None falls = None
owed_rows v w (Some rows) falls = option_map (λ falls. map (changed v w) rows ++ falls) falls

abbrev pub owed_signs : ℕ → Way → List Linear → List Linear → List Linear → ℕ → ℕ → Option (List Known)
owed_signs v w signs old new q j = owed_rows v w (slice_get (sign_pieces signs) q) (owed_fall v w old new j)

-- The cover of a step over a way is met: it leads into the pieces by these signs, and these ranks fall to those, or the way is never taken.
pub record IsSignStep (v : ℕ) (w : Way) (signs old new : List Linear) (tree : CoverTree) : Type 0 where
  pub met : IsMetCover (v + w.taken.draws) (owed_signs v w signs old new) (way_rows w) tree
  pub shallow : splits tree ≤ 128
  pub even : TreeRows (λ r. columns r ≡ v + w.taken.draws) tree
  pub narrow : CoverNarrow tree

-- Whatever shows a case where `before` rows are known at its start, the cover shows its step into the pieces by these signs.
abbrev pub ShowsSignStep : ℕ → LinearCase → List Linear → ℕ → CaseShown → CoverTree → Type 0
ShowsSignStep v c signs before shown tree =
    (known old new : List Linear) → length known ≡ before → IsShownBy v (way_with c known) old new shown → IsSignStep v (way_with c known) signs old new tree

-- a cover of all values over v variables by the pieces by these signs
pub record IsSignStart (v : ℕ) (signs : List Linear) (tree : CoverTree) : Type 0 where
  pub met : IsMetCover v (changed_lists given (sign_pieces signs)) [] tree
  pub shallow : splits tree ≤ 128
  pub even : TreeRows (λ r. columns r ≡ v) tree
  pub narrow : CoverNarrow tree

-- a sign is too wide before the case, at the column of the fault
abbrev pub IsWideStep : LinearCase → List Linear → CoverFault → Type 0
IsWideStep c signs (cover.Splits path) = ⊥
IsWideStep c signs (cover.Solve kept e) = ⊥
IsWideStep c signs (cover.Wide column) = IsTooWide c signs column
IsWideStep c signs cover.Memory = ⊥

abbrev pub RefusesSignStep : LinearCase → List Linear → NestFault → Type 0
RefusesSignStep c signs (fault.Solve system e) = ⊥
RefusesSignStep c signs (fault.Cover f) = IsWideStep c signs f
RefusesSignStep c signs fault.Memory = Unit {0}
