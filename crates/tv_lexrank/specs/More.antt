-- More rows that are known.
use Rattle.std.specs.Prelude.{◌≡◌, ℕ, List, ◌++◌, length}
use Rattle.tv_linear.specs.Linear.{Linear}
use Rattle.tv_cases.specs.LinearCases.{LinearCase}
use Rattle.tv_rank.specs.Ways.{Way}
use Rattle.tv_lexrank.specs.declared.shown.CaseShown.{CaseShown}
use Rattle.tv_lexrank.specs.Shown.{IsShownBy}

-- the case, where these rows are known
abbrev pub way_with : LinearCase → List Linear → Way
way_with c known = record { taken = c; known = known }

-- Whatever the first shows under some rows, the second shows it where `many` more are known, after the first `place` of these.
abbrev pub IsUnderMore : ℕ → ℕ → CaseShown → CaseShown → Type 0
IsUnderMore place many old new =
    (v : ℕ) (c : LinearCase) (front more back : List Linear) (before after : List Linear) → length front ≡ place → length more ≡ many →
    IsShownBy v (way_with c (front ++ back)) before after old → IsShownBy v (way_with c (front ++ (more ++ back))) before after new
