-- The states that the rounds of a property tell of.
use Rattle.std.specs.Prelude.{◌≡◌, ◌⊎◌, ℕ, ◌≤◌, [], IsTrue}
use Rattle.tv_formula.specs.declared.tree.Path.{Path}
use Rattle.tv_formula.specs.declared.tree.Path.TheVariants.{Every, Any}
use Rattle.tv_formula.specs.declared.tree.Shape.{Shape}
use Rattle.tv_formula.specs.declared.tree.Shape.TheVariants.{Until, Weak, Release, Strong}
use Rattle.tv_formula.specs.Properties.{Property, truth, compare, at, term, negated, all_of, some_of, next, fix, Properties, none, more}
use Rattle.tv_formula.specs.Normal.{normal, negation}
use Rattle.tv_program.specs.Meaning.{value_of, compares}
use Rattle.tv_program.specs.Steps.{State}
use Rattle.tv_cases.specs.LinearCases.{CaseSystem, CaseSteps}
use Rattle.tv_meaning.specs.Meaning.{NextHolds}
use Rattle.tv_known.specs.Cycles.{IsLastRound, IsStateOf, IsInitialAt}
use Rattle.tv_known.specs.Ranking.{HasLexicographicRanking}
use Rattle.tv_known.specs.Rounds.{HoldSide, EndSides, FixRound, IsFixSettled, Goes, Stops}

-- the cases have a lexicographic ranking, and each state is at the end, or is on the way and has a step
pub record IsRanked (about : CaseSystem) (shape : Shape) (f g : State → Type 0) : Type 0 where
  pub ranking : HasLexicographicRanking about
  pub goes : (s : State) → IsStateOf about s → EndSides shape f g s ⊎ (HoldSide shape f g s × Goes about s)

-- the state is in a round up to the last that equals the next one
pub record InSettledRound (about : CaseSystem) (last : ℕ) (path : Path) (shape : Shape) (f g : State → Type 0) (s : State) : Type 0 where
  pub round : ℕ
  pub early : round ≤ last
  pub settled : IsFixSettled about path shape f g round
  pub inside : FixRound about path shape f g round s

abbrev pub IsRankedOn : CaseSystem → Path → Shape → (State → Type 0) → (State → Type 0) → Type 0
IsRankedOn about Every shape f g = IsRanked about shape f g
IsRankedOn about Any shape f g = ⊥

-- for Until and Strong the states of the last round, or all states where the fixpoint is ranked; for Weak and Release those of a round
-- that equals the next one
abbrev pub FixKnown : CaseSystem → ℕ → Path → Shape → (State → Type 0) → (State → Type 0) → State → Type 0
FixKnown about last path Until f g s = FixRound about path Until f g last s ⊎ IsRankedOn about path Until f g
FixKnown about last path Strong f g s = FixRound about path Strong f g last s ⊎ IsRankedOn about path Strong f g
FixKnown about last path Weak f g s = InSettledRound about last path Weak f g s
FixKnown about last path Release f g s = InSettledRound about last path Release f g s

-- of a negation in a normal property
abbrev pub NotKnown : CaseSystem → ℕ → Property → State → Type 0
NotKnown about last (at l) s = s.location ≡ l → ⊥
NotKnown about last term s = FixKnown about last Any Release (λ x. ⊥) (Goes about) s
NotKnown about last f s = ⊥

abbrev mutual
  -- the states that the rounds of a normal property tell of, up to the last round
  pub Known : CaseSystem → ℕ → Property → State → Type 0
  Known about last (truth b) s = IsTrue b
  Known about last (compare r a b) s = IsTrue (compares r (value_of a s.values []) (value_of b s.values []))
  Known about last (at l) s = s.location ≡ l
  Known about last term s = FixKnown about last Every Until (λ x. Unit {0}) (Stops about) s
  Known about last (negated f) s = NotKnown about last f s
  Known about last (all_of fs) s = AllKnown about last fs s
  Known about last (some_of fs) s = SomeKnown about last fs s
  Known about last (next path f) s = NextHolds (CaseSteps about) path (λ t. Known about last f t) s
  Known about last (fix path shape f g) s = FixKnown about last path shape (λ t. Known about last f t) (λ t. Known about last g t) s

  pub AllKnown : CaseSystem → ℕ → Properties → State → Type 0
  AllKnown about last none s = Unit {0}
  AllKnown about last (more f fs) s = Known about last f s × AllKnown about last fs s

  pub SomeKnown : CaseSystem → ℕ → Properties → State → Type 0
  SomeKnown about last none s = ⊥
  SomeKnown about last (more f fs) s = Known about last f s ⊎ SomeKnown about last fs s

-- with the last round that counts
abbrev pub IsKnown : CaseSystem → Property → State → Type 0
IsKnown about f s = (last : ℕ) → IsLastRound about 8 last → Known about last f s

-- the rounds tell of each initial state that the property holds there, or of some initial state that its negation does
abbrev pub IsDecided : CaseSystem → Property → Type 0
IsDecided about f =
    ((s : State) → IsInitialAt about s → IsKnown about (normal f) s)
    ⊎ ((s : State) × IsInitialAt about s × IsKnown about (negation f) s)
