-- What a piece of a node owes, by what the node is made of.
use Rattle.std.specs.Prelude.{ℕ, List, [], ◌∷◌}
use Rattle.std.specs.List.{AllZip}
use Rattle.tv_formula.specs.declared.tree.Path.{Path}
use Rattle.tv_formula.specs.declared.tree.Path.TheVariants.{Every, Any}
use Rattle.tv_linear.specs.declared.region.Region.{Region}
use Rattle.tv_cases.specs.LinearCases.{CaseSystem}
use Rattle.std.specs.Prelude.{Bool, true, false}
use Rattle.tv_formula.specs.declared.tree.Shape.{Shape}
use Rattle.tv_formula.specs.declared.tree.Shape.TheVariants.{Until, Weak, Release, Strong}
use Rattle.tv_cert.specs.declared.node.Kind.TheVariants as kind
use Rattle.tv_cert.specs.declared.node.Marked.{Marked}
use Rattle.tv_cert.specs.Claims.{about_with}
use Rattle.tv_cert.specs.Obligations.{Obligation, steps_of, choice_of, choice_into}
use Rattle.tv_cert.specs.Targets.{no_fall}
use Rattle.tv_pre.specs.Pieces.{AreMarked}

-- what a node is made of around a piece: its number, its pieces and those of its children
pub record Around : Type 0 where
  pub number : ℕ
  pub pieces : List Marked
  pub kids : List (List Marked)

-- the pieces of each child are those of a region
abbrev pub AreKids : List (List Marked) → List Region → Type 0
AreKids kids regions = AllZip (λ ps r. AreMarked ps r.pieces.items) kids regions

-- what a piece owes where the next states are to be in the pieces of a child
abbrev pub next_of : CaseSystem → ℕ → Path → Marked → List Marked → List Obligation
next_of about number Every p kid = steps_of number (about_with about) p kid (λ c. no_fall)
next_of about number Any p kid = choice_of number kind.Choice (about_with about) p false (choice_into (about_with about) kid (λ c draws. no_fall)) ∷ []

-- whether both arguments of a fixpoint are to hold at the end
abbrev pub two_ends : Shape → Bool
two_ends Until = false
two_ends Weak = false
two_ends Release = true
two_ends Strong = true

-- what a piece owes whose steps are to stay in these pieces, or some step, unless none leads anywhere
abbrev pub stay_of : CaseSystem → ℕ → Path → Marked → List Marked → List Obligation
stay_of about number Every p ps = steps_of number (about_with about) p ps (λ c. no_fall)
stay_of about number Any p ps = choice_of number kind.Choice (about_with about) p true (choice_into (about_with about) ps (λ c draws. no_fall)) ∷ []
