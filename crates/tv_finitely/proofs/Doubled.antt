-- The program with two copies of each edge keeps the limits of a program.
use Rattle.std.proofs.Common.{◌≡◌, ◌≤◌, ◌∙◌, ℕ, ◌*◌, List, [], ◌∷◌, length, refl, arith, Bool, true, false}
use Rattle.std.specs.Prelude.{◌&&◌, nat_lt, nat_le}
use Rattle.std.specs.List.{Contains, flat_map, list_all}
use Rattle.std.proofs.lemmas.Bool.{and_parts}
use Rattle.std.proofs.lemmas.Bool.Decides.{nat_tests}
use Rattle.std.proofs.lemmas.List.Folds.{list_all-append}
use Rattle.std.proofs.Math.Logic.{⊎_elim}
use Rattle.tv_program.specs.Limits.{condition_fits, condition_depth, instruction_fits, transition_fits}
use Rattle.tv_program.specs.Systems.{System, IsLimited}
use Rattle.tv_program.specs.Trees as trees
use Rattle.tv_program.specs.Trees.{Condition, assume, Transition}
use Rattle.tv_formula.specs.Limits.{property_fits}
use Rattle.tv_formula.specs.Properties.{Property}
use Rattle.tv_cases.proofs.ContainsLemmas.{Contains-here, Contains-later, Contains-cases, Contains-none}
use Rattle.tv_finitely.specs.Doubling.{condition_at, assuming, copies, doubled, doubled_count}
use Rattle.tv_finitely.specs.Splits.{depth_of}
use Rattle.tv_finitely.proofs.Assumed.{depth-at, fits-at}

-- what is assumed by the copy with this mark
abbrev pub assumed : Bool → ℕ → Property → Condition
assumed true l f = condition_at l f
assumed false l f = trees.negated (condition_at l f)

-- the copy of an edge with a mark: the first has the mark true
abbrev pub copy : Bool → Property → Transition → Transition
copy mark f e = assuming (assumed mark e.to f) e

pub copy-among : (mark : Bool) (f : Property) (es : List Transition) (e : Transition) → Contains es e → Contains (flat_map (copies f) es) (copy mark f e)
copy-among mark f [] e c = absurd (Contains-none e c)
copy-among mark f (d ∷ es) e c = ⊎_elim (here mark) (λ later. Contains-later (copy true f d) (copy mark f e) (copy false f d ∷ flat_map (copies f) es)
    (Contains-later (copy false f d) (copy mark f e) (flat_map (copies f) es) (copy-among mark f es e later))) (Contains-cases d e es c) where
      here : (m : Bool) → d ≡ e → Contains (flat_map (copies f) (d ∷ es)) (copy m f e)
      here true is = rw (← is) (Contains-here (copy true f d) (copy false f d ∷ flat_map (copies f) es))
      here false is = rw (← is)
          (Contains-later (copy true f d) (copy false f d) (copy false f d ∷ flat_map (copies f) es) (Contains-here (copy false f d) (flat_map (copies f) es)))

pub copies-counted : (f : Property) (es : List Transition) → length (flat_map (copies f) es) ≡ 2 * length es
copies-counted f [] = refl
copies-counted f (e ∷ es) = let later = copies-counted f es in omega (arith, later)

-- ---- limits

from-most : (a b : ℕ) → a ≤ b → nat_le a b ≡ true
from-most a b h = grind (arith, nat_tests)

assuming-fits : (variables locations : ℕ) (c : Condition) (e : Transition) → transition_fits variables locations e ≡ true → condition_fits variables e.draws c ≡ true → condition_depth c ≤ 400 → transition_fits variables locations (assuming c e) ≡ true
assuming-fits variables locations c e h fits shallow =
    let ends = nat_lt e.from locations && nat_lt e.to locations && nat_le e.draws 64 in
    let both = and_parts ends (list_all (instruction_fits variables e.draws) e.instructions) h in
    let low = from-most (condition_depth c) 400 shallow in
    let one : list_all (instruction_fits variables e.draws) (assume c ∷ []) ≡ true = (λ i. (fits i && low i) && true) in
    let all = list_all-append (instruction_fits variables e.draws) e.instructions (assume c ∷ []) ∙ (λ i. both.1 i && one i) in
    (λ i. both.0 i && all i)

-- a property that fits and is shallow enough
record IsAssumable (variables : ℕ) (f : Property) : Type 0 where
  locations : ℕ
  fits : property_fits variables locations f ≡ true
  shallow : depth_of f ≤ 399

copy-fits : (variables locations : ℕ) (mark : Bool) (f : Property) (e : Transition) → IsAssumable variables f → transition_fits variables locations e ≡ true → transition_fits variables locations (copy mark f e) ≡ true
copy-fits variables locations true f e a h =
    let deep = depth-at e.to 0 f in
    let low = a.shallow in
    assuming-fits variables locations (condition_at e.to f) e h (fits-at variables e.draws a.locations e.to f a.fits) (omega (arith, deep, low))
copy-fits variables locations false f e a h =
    let deep = depth-at e.to 0 f in
    let low = a.shallow in
    assuming-fits variables locations (trees.negated (condition_at e.to f)) e h (fits-at variables e.draws a.locations e.to f a.fits) (omega (arith, deep, low))

copies-fit : (variables locations : ℕ) (f : Property) (es : List Transition) → IsAssumable variables f → list_all (transition_fits variables locations) es ≡ true → list_all (transition_fits variables locations) (flat_map (copies f) es) ≡ true
copies-fit variables locations f [] a h = refl
copies-fit variables locations f (e ∷ es) a h =
    let both = and_parts (transition_fits variables locations e) (list_all (transition_fits variables locations) es) h in
    let first = copy-fits variables locations true f e a both.0 in
    let second = copy-fits variables locations false f e a both.0 in
    let later = copies-fit variables locations f es a both.1 in
    (λ i. first i && (second i && later i))

pub doubled-limited : (p : System) (f : Property) (locations : ℕ) → IsLimited p → property_fits (length p.variables) locations f ≡ true → doubled_count p ≤ 4096 → depth_of f ≤ 399 → IsLimited (doubled f p)
doubled-limited p f locations limited fits few shallow =
    let count = copies-counted f p.edges in
    record {
      few_variables = limited.few_variables;
      few_locations = limited.few_locations;
      few_edges = from-most (length (flat_map (copies f) p.edges)) 4096 (omega (arith, count, few));
      starts = limited.starts;
      edges_fit = copies-fit (length p.variables) (length p.locations) f p.edges (record { locations = locations; fits = fits; shallow = shallow }) limited.edges_fit;
    }
