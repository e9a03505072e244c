-- What the aim of a formula states.
use Rattle.std.proofs.Common.{◌≡◌, ℕ, true, ◌&&◌, List, [], ◌∷◌, map, refl, ap}
use Rattle.tv_program.specs.declared.tree.Relation.{Relation}
use Rattle.tv_program.specs.Trees.{Expression}
use Rattle.tv_program.specs.Limits.{expression_fits}
use Rattle.tv_linear.specs.Linear.{Linear}
use Rattle.tv_formula.specs.Properties.{Property, truth, compare, at, term, negated, all_of, some_of, next, fix, Properties, none, more}
use Rattle.tv_formula.specs.Limits.{property_fits, properties_fit, part_fits}
use Rattle.tv_formula.specs.Views.{properties_of}
use Rattle.tv_cases.specs.Linearity.{is_linear}
use Rattle.tv_cases.proofs.CaseLimits.{fits-linear}
use Rattle.tv_cert.specs.Statements.{stated, stated_all, statement}
use Rattle.tv_cert.specs.AimViews.{statements_of}
use Rattle.tv_cert.specs.Statable.{IsStatable, AreStatable}
use Rattle.tv_formula.specs.Forms.{is_normal, are_normal}
use Rattle.std.proofs.lemmas.Bool.{and_parts}

pub all_stated : (tests : Relation → Expression → Expression → List (List Linear)) (fs : List Property) → stated_all tests (properties_of fs) ≡ statements_of (map (stated tests) fs)
all_stated tests [] = refl
all_stated tests (f ∷ fs) = ap (statement (stated tests f)) (all_stated tests fs)

pub part_linear : (variables : ℕ) (e : Expression) → part_fits variables e ≡ true → is_linear e ≡ true
part_linear variables e h = fits-linear variables 0 e (and_parts (expression_fits variables 0 e) _ h).0

mutual
  -- a normal formula within its limits
  pub is_statable : (variables locations : ℕ) (f : Property) → is_normal f ≡ true → property_fits variables locations f ≡ true → IsStatable f
  is_statable variables locations (truth b) n h = tt
  is_statable variables locations (compare r a b) n h =
      let both = and_parts (part_fits variables a) (part_fits variables b) h in
      let first = part_linear variables a both.0 in
      let second = part_linear variables b both.1 in
      (λ i. first i && second i)
  is_statable variables locations (at l) n h = tt
  is_statable variables locations term n h = tt
  is_statable variables locations (negated f) n h = n
  is_statable variables locations (all_of fs) n h = are_statable variables locations fs n h
  is_statable variables locations (some_of fs) n h = are_statable variables locations fs n h
  is_statable variables locations (next p f) n h = is_statable variables locations f n h
  is_statable variables locations (fix p s f g) n h =
      let normal = and_parts (is_normal f) (is_normal g) n in
      let fit = and_parts (property_fits variables locations f) (property_fits variables locations g) h in
      (is_statable variables locations f normal.0 fit.0, is_statable variables locations g normal.1 fit.1)

  are_statable : (variables locations : ℕ) (fs : Properties) → are_normal fs ≡ true → properties_fit variables locations fs ≡ true → AreStatable fs
  are_statable variables locations none n h = tt
  are_statable variables locations (more f fs) n h =
      let normal = and_parts (is_normal f) (are_normal fs) n in
      let fit = and_parts (property_fits variables locations f) (properties_fit variables locations fs) h in
      (is_statable variables locations f normal.0 fit.0, are_statable variables locations fs normal.1 fit.1)
