use Rattle.std.specs.Prelude.{◌≡◌, ◌⊎◌, IsTrue, []}
use Rattle.tv_formula.specs.declared.tree.Path.{Path}
use Rattle.tv_formula.specs.declared.tree.Path.TheVariants.{Every, Any}
use Rattle.tv_formula.specs.declared.tree.Shape.{Shape}
use Rattle.tv_formula.specs.declared.tree.Shape.TheVariants.{Until, Weak, Release, Strong}
use Rattle.tv_formula.specs.Properties.{Property, truth, compare, at, term, negated, all_of, some_of, next, fix, Properties, none, more}
use Rattle.tv_program.specs.Meaning.{value_of, compares}
use Rattle.tv_program.specs.Systems.{System}
use Rattle.tv_program.specs.Steps.{State, Steps, IsInitial}
use Rattle.tv_program.specs.Runs.{Must, Ends, WeakEvery, UntilAny, WeakAnyFails}

-- a fixed point of two properties of states
abbrev pub FixHolds : {S : Type 0} → (S → S → Type 0) → Path → Shape → (S → Type 0) → (S → Type 0) → S → Type 0
FixHolds step Any Until f g s = UntilAny step f g s
FixHolds step Every Weak f g s = WeakEvery step f g s
FixHolds step Every Until f g s = Must step f g s
FixHolds step Any Weak f g s = ¬ (WeakAnyFails step f g s)
FixHolds step Every Release f g s = WeakEvery step g (λ x. f x × g x) s
FixHolds step Any Release f g s = ¬ (WeakAnyFails step g (λ x. f x × g x) s)
FixHolds step Every Strong f g s = Must step g (λ x. f x × g x) s
FixHolds step Any Strong f g s = UntilAny step g (λ x. f x × g x) s

-- a property of states at every successor, or at some successor
abbrev pub NextHolds : {S : Type 0} → (S → S → Type 0) → Path → (S → Type 0) → S → Type 0
NextHolds {S} step Every f s = (t : S) → step s t → f t
NextHolds {S} step Any f s = (t : S) × step s t × f t

abbrev mutual
  -- the property holds at the state, over all runs of these steps
  pub Holds : (State → State → Type 0) → Property → State → Type 0
  Holds step (truth b) s = IsTrue b
  Holds step (compare r a b) s = IsTrue (compares r (value_of a s.values []) (value_of b s.values []))
  Holds step (at l) s = s.location ≡ l
  Holds step term s = Ends step s
  Holds step (negated f) s = ¬ (Holds step f s)
  Holds step (all_of fs) s = AllHold step fs s
  Holds step (some_of fs) s = SomeHolds step fs s
  Holds step (next path f) s = NextHolds step path (λ t. Holds step f t) s
  Holds step (fix path shape f g) s = FixHolds step path shape (λ t. Holds step f t) (λ t. Holds step g t) s

  pub AllHold : (State → State → Type 0) → Properties → State → Type 0
  AllHold step none s = Unit {0}
  AllHold step (more f fs) s = Holds step f s × AllHold step fs s

  pub SomeHolds : (State → State → Type 0) → Properties → State → Type 0
  SomeHolds step none s = ⊥
  SomeHolds step (more f fs) s = Holds step f s ⊎ SomeHolds step fs s

-- the property holds at every initial state of the program
abbrev pub HoldsInitially : System → Property → Type 0
HoldsInitially p f = (s : State) → IsInitial p s → Holds (Steps p) f s
