-- The sides of fixpoints.
use Rattle.std.proofs.Common.{◌≡◌, ℕ, List, [], ◌∷◌, true, false, refl}
use Rattle.std.specs.Prelude.{Contains}
use Rattle.tv_program.specs.Steps.{State}
use Rattle.tv_linear.specs.declared.region.Region.{Region}
use Rattle.tv_cases.specs.LinearCases.{CaseSystem}
use Rattle.tv_cases.proofs.ContainsLemmas.{Contains-here, Contains-later}
use Rattle.tv_cert.specs.declared.node.Kind.TheVariants as kind
use Rattle.tv_cert.specs.declared.node.Marked.{Marked}
use Rattle.tv_cert.specs.Claims.{about_with}
use Rattle.tv_cert.specs.Obligations.{cover_of, fix_of, end_sides, hold_side}
use Rattle.tv_formula.specs.declared.tree.Path.{Path}
use Rattle.tv_formula.specs.declared.tree.Path.TheVariants.{Every, Any}
use Rattle.tv_formula.specs.declared.tree.Shape.{Shape}
use Rattle.tv_formula.specs.declared.tree.Shape.TheVariants.{Until, Weak, Release, Strong}
use Rattle.tv_known.specs.Rounds.{EndSides, HoldSide, must_end}
use Rattle.tv_region.specs.StepRegions.{InState}
use Rattle.tv_pre.specs.Pieces.{AreMarked}
use Rattle.tv_pre.specs.Around.{two_ends, stay_of}

pub ends_second : {S : Type 0} (shape : Shape) (f g : S → Type 0) (s : S) → EndSides shape f g s → g s
ends_second Until f g s h = h
ends_second Weak f g s h = h
ends_second Release f g s h = h.1
ends_second Strong f g s h = h.1

pub ends_first : {S : Type 0} (shape : Shape) (f g : S → Type 0) (s : S) → two_ends shape ≡ true → EndSides shape f g s → f s
ends_first Until f g s e h = absurd (let no : ⊥ = cc in no)
ends_first Weak f g s e h = absurd (let no : ⊥ = cc in no)
ends_first Release f g s e h = h.0
ends_first Strong f g s e h = h.0

pub one_end : {A : Type 0} (shape : Shape) (a b : A) → two_ends shape ≡ false → end_sides shape a b ≡ b ∷ []
one_end Until a b e = refl
one_end Weak a b e = refl
one_end Release a b e = absurd (let no : ⊥ = cc in no)
one_end Strong a b e = absurd (let no : ⊥ = cc in no)

pub both_ends : {A : Type 0} (shape : Shape) (a b : A) → two_ends shape ≡ true → end_sides shape a b ≡ a ∷ b ∷ []
both_ends Until a b e = absurd (let no : ⊥ = cc in no)
both_ends Weak a b e = absurd (let no : ⊥ = cc in no)
both_ends Release a b e = refl
both_ends Strong a b e = refl

pub second_among : {A : Type 0} (shape : Shape) (a b : A) → Contains (end_sides shape a b) b
second_among Until a b = Contains-here b []
second_among Weak a b = Contains-here b []
second_among Release a b = Contains-later a b (b ∷ []) (Contains-here b [])
second_among Strong a b = Contains-later a b (b ∷ []) (Contains-here b [])

pub first_among : {A : Type 0} (shape : Shape) (a b : A) → two_ends shape ≡ true → Contains (end_sides shape a b) a
first_among Until a b e = absurd (let no : ⊥ = cc in no)
first_among Weak a b e = absurd (let no : ⊥ = cc in no)
first_among Release a b e = Contains-here a (b ∷ [])
first_among Strong a b e = Contains-here a (b ∷ [])

-- ---- the side that holds on the way
pub hold_in : (shape : Shape) (a b : Region) (s : State) → HoldSide shape (InState a) (InState b) s → InState (hold_side shape a b) s
hold_in Until a b s h = h
hold_in Weak a b s h = h
hold_in Release a b s h = h
hold_in Strong a b s h = h

pub hold_over : (P : Region → Type 0) (shape : Shape) (a b : Region) → P a → P b → P (hold_side shape a b)
hold_over P Until a b h g = h
hold_over P Weak a b h g = h
hold_over P Release a b h g = g
hold_over P Strong a b h g = g

pub hold_marked : (shape : Shape) (first second : List Marked) (a b : Region) → AreMarked first a.pieces.items → AreMarked second b.pieces.items → AreMarked (hold_side shape first second) (hold_side shape a b).pieces.items
hold_marked Until first second a b h g = h
hold_marked Weak first second a b h g = h
hold_marked Release first second a b h g = g
hold_marked Strong first second a b h g = g

-- ---- what pieces owe
pub stay_is : (about : CaseSystem) (number : ℕ) (path : Path) (shape : Shape) (all first second : List Marked) (p : Marked) → must_end shape ≡ false → cover_of number kind.Hold (about_with about) p (hold_side shape first second) ∷ stay_of about number path p all ≡ fix_of number (about_with about) path shape all first second p true
stay_is about number path Until all first second p e = absurd (let no : ⊥ = cc in no)
stay_is about number path Strong all first second p e = absurd (let no : ⊥ = cc in no)
stay_is about number Every Weak all first second p e = refl
stay_is about number Any Weak all first second p e = refl
stay_is about number Every Release all first second p e = refl
stay_is about number Any Release all first second p e = refl
