-- The rows of pieces before a case.
use Rattle.std.specs.Prelude.{◌≡◌, List, map, All}
use Rattle.tv_linear.specs.Linear.{Linear}
use Rattle.tv_cases.specs.LinearCases.{LinearCase}
use Rattle.tv_cases.specs.Before.{FitsBefore, rows_before}
use Rattle.tv_farkas.specs.declared.fault.CoverFault.{CoverFault}
use Rattle.tv_farkas.specs.declared.fault.CoverFault.TheVariants.{Splits, Solve, Wide, Memory}
use Rattle.tv_pre.specs.Questions.{IsTooWide}

-- the lists of rows before the case, where each row fits
pub record AreBefore (c : LinearCase) (lists made : List (List Linear)) : Type 0 where
  pub exact : made ≡ map (rows_before c) lists
  pub fits : All (All (FitsBefore c)) lists

-- a row of the lists is too wide before the case, or there is no memory
abbrev pub IsUnmade : LinearCase → List (List Linear) → CoverFault → Type 0
IsUnmade c lists (Splits path) = ⊥
IsUnmade c lists (Solve kept fault) = ⊥
IsUnmade c lists (Wide column) = IsTooWide c lists column
IsUnmade c lists Memory = Unit {0}
