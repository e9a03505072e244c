-- Fixpoints whose regions lack only states where they fail.
use Rattle.std.proofs.Common.{◌≡◌, ◌⊎◌, inl, inr, ℕ, suc, ◌+◌, List, [], ◌∷◌, length, sym, subst, arith, Bool, true, false, not}
use Rattle.std.specs.Prelude.{All, Contains}
use Rattle.tv_formula.specs.declared.tree.Path.{Path}
use Rattle.tv_formula.specs.declared.tree.Path.TheVariants.{Every, Any}
use Rattle.tv_formula.specs.declared.tree.Shape.{Shape}
use Rattle.tv_formula.specs.declared.tree.Shape.TheVariants.{Until, Weak, Release, Strong}
use Rattle.tv_formula.specs.Normal.{negation, other_path, other_shape}
use Rattle.tv_formula.specs.Properties.{Property, fix}
use Rattle.tv_program.specs.Steps.{State}
use Rattle.tv_program.specs.Runs.{IsRun, last_of, Must, reached, further, AtOne, BeforeLast, UntilAny}
use Rattle.tv_meaning.specs.Meaning.{Holds, FixHolds}
use Rattle.tv_linear.specs.declared.region.Region.{Region}
use Rattle.tv_cases.specs.LinearCases.{CaseSystem, CaseSteps, IsCase}
use Rattle.tv_cases.proofs.ContainsLemmas.{Contains-here, Contains-later}
use Rattle.tv_known.specs.Cycles.{IsStateOf}
use Rattle.tv_known.specs.Laws.{Decides}
use Rattle.tv_known.specs.Rounds.{HoldSide, EndSides, HoldsBy, must_end}
use Rattle.tv_known.proofs.RoundLemmas.{stays_state}
use Rattle.tv_region.specs.StepRegions.{InState}
use Rattle.tv_rounds.specs.declared.fixed_point.FixedPoint.{FixedPoint}
use Rattle.tv_rounds.specs.Sides.{AreTame, RoundOf, IsSettledBy, FailsAt}
use Rattle.tv_rounds.specs.Sides as rounds
use Rattle.tv_rounds.specs.Answers.{IsRound, AreLayers, IsSettledAt}
use Rattle.tv_rounds.proofs.SetLemmas.{own_set, told}
use Rattle.tv_pre.specs.declared.sides.Sides.{Sides}
use Rattle.tv_pre.specs.Along.{IsOfSides, AreAtEnd, AreOnward, IsFullAlong}
use Rattle.tv_pre.specs.Fixed.{AreOver, IsJoined}
use Rattle.tv_pre.specs.Full.{IsFull}
use Rattle.tv_pre.specs.Parts.{joined_pieces}
use Rattle.tv_pre.specs.Pieces.{InPieces}
use Rattle.tv_pre.proofs.SetLemmas.{in_joined}
use Rattle.tv_pre.proofs.AlongLemmas.{settled_inside}
use Rattle.tv_pre.proofs.SideLemmas.{hold_in}

-- ---- fixpoints of wider sides
-- where the way is in the new way or at the new end, and the end is in the new end, of the states of the program
module _ (about : CaseSystem) (cases : All (IsCase about.variables about.locations) about.cases) (h e k n : State → Type 0) (a : (s : State) → IsStateOf about s → h s → k s ⊎ n s) (b : (s : State) → IsStateOf about s → e s → n s) where
  until_wider : (s : State) → IsStateOf about s → (ts : List State) → IsRun (CaseSteps about) s ts → e (last_of s ts) → BeforeLast h s ts → UntilAny (CaseSteps about) k n s
  until_wider s p [] run x before = ([], tt, b s p x, tt)
  until_wider s p (t ∷ ts) run x before = elim (a s p before.0) [
    | inl w ↦ (let u = until_wider t (stays_state about cases s t p run.0) ts run.1 x before.1 in (t ∷ u.0, (run.0, u.1), u.2, (w, u.3)))
    | inr w ↦ ([], tt, w, tt)
  ]

  must_wider : (s : State) → IsStateOf about s → Must (CaseSteps about) h e s → Must (CaseSteps about) k n s
  must_wider s p (reached x) = reached (b s p x)
  must_wider s p (further t x st later) = elim (a s p x) [
    | inl w ↦ further t w st (λ u su. must_wider u (stays_state about cases s u p su) (later u su))
    | inr w ↦ reached w
  ]

  at_last : (s : State) (ts : List State) → n (last_of s ts) → AtOne n s ts
  at_last s [] x = x
  at_last s (t ∷ ts) x = inr (at_last t ts x)

  weak_wider : (s : State) → IsStateOf about s → (ts : List State) → IsRun (CaseSteps about) s ts → h (last_of s ts) ⊎ AtOne e s ts → k (last_of s ts) ⊎ AtOne n s ts
  weak_wider s p [] run (inl x) = a s p x
  weak_wider s p [] run (inr x) = inr (b s p x)
  weak_wider s p (t ∷ ts) run (inl x) = elim (weak_wider t (stays_state about cases s t p run.0) ts run.1 (inl x)) [ inl y ↦ inl y | inr y ↦ inr (inr y) ]
  weak_wider s p (t ∷ ts) run (inr (inl x)) = inr (inl (b s p x))
  weak_wider s p (t ∷ ts) run (inr (inr x)) = elim (weak_wider t (stays_state about cases s t p run.0) ts run.1 (inr x)) [ inl y ↦ inl y | inr y ↦ inr (inr y) ]

  fails_back : (s : State) → IsStateOf about s → Must (CaseSteps about) (λ x. ¬ (n x)) (λ x. ¬ (k x) × ¬ (n x)) s → Must (CaseSteps about) (λ x. ¬ (e x)) (λ x. ¬ (h x) × ¬ (e x)) s
  fails_back s p (reached x) = reached ((λ y. elim (a s p y) [ inl w ↦ x.0 w | inr w ↦ x.1 w ]), (λ y. x.1 (b s p y)))
  fails_back s p (further t x st later) = further t (λ y. x (b s p y)) st (λ u su. fails_back u (stays_state about cases s u p su) (later u su))

  pub holds_wider : (grows : Bool) (path : Path) (s : State) → IsStateOf about s → HoldsBy grows (CaseSteps about) path h e s → HoldsBy grows (CaseSteps about) path k n s
  holds_wider true Any s p x = until_wider s p x.0 x.1 x.2 x.3
  holds_wider true Every s p x = must_wider s p x
  holds_wider false Every s p x = λ ts run. weak_wider s p ts run (x ts run)
  holds_wider false Any s p x = λ m. x (fails_back s p m)

-- ---- the negation of a fixpoint
with_until : {S : Type 0} (step : S → S → Type 0) (path : Path) (f g : S → Type 0) (s : S) → HoldsBy true step path f g s → FixHolds step path Until f g s
with_until step path f g s x = x

with_weak : {S : Type 0} (step : S → S → Type 0) (path : Path) (f g : S → Type 0) (s : S) → HoldsBy false step path f g s → FixHolds step path Weak f g s
with_weak step path f g s x = x

with_strong : {S : Type 0} (step : S → S → Type 0) (path : Path) (f g : S → Type 0) (s : S) → HoldsBy true step path g (λ x. f x × g x) s → FixHolds step path Strong f g s
with_strong step Every f g s x = x
with_strong step Any f g s x = x

with_release : {S : Type 0} (step : S → S → Type 0) (path : Path) (f g : S → Type 0) (s : S) → HoldsBy false step path g (λ x. f x × g x) s → FixHolds step path Release f g s
with_release step Every f g s x = x
with_release step Any f g s x = x

module _ (about : CaseSystem) (cases : All (IsCase about.variables about.locations) about.cases) (A B hold end P Q : State → Type 0)
    (told_first : Decides about A) (first : (s : State) → IsStateOf about s → ¬ (A s) → P s) (second : (s : State) → IsStateOf about s → ¬ (B s) → Q s) where
  abbrev Apart : State → Type 0
  Apart s = ¬ (end s)

  abbrev Neither : State → Type 0
  Neither s = ¬ (hold s) × ¬ (end s)

  pub shape_fails : (shape : Shape) (path : Path) → ((s : State) → IsStateOf about s → HoldSide shape A B s → hold s) → ((s : State) → IsStateOf about s → EndSides shape A B s → end s) →
      (s : State) → IsStateOf about s → HoldsBy (not (must_end shape)) (CaseSteps about) path Apart Neither s → FixHolds (CaseSteps about) path (other_shape shape) P Q s
  shape_fails Until path way ends s p x = with_release (CaseSteps about) path P Q s (holds_wider about cases Apart Neither Q (λ t. P t × Q t)
      (λ t q y. inl (second t q (λ m. y (ends t q m)))) (λ t q y. (first t q (λ m. y.0 (way t q m)), second t q (λ m. y.1 (ends t q m)))) false path s p x)
  shape_fails Weak path way ends s p x = with_strong (CaseSteps about) path P Q s (holds_wider about cases Apart Neither Q (λ t. P t × Q t)
      (λ t q y. inl (second t q (λ m. y (ends t q m)))) (λ t q y. (first t q (λ m. y.0 (way t q m)), second t q (λ m. y.1 (ends t q m)))) true path s p x)
  shape_fails Release path way ends s p x = with_until (CaseSteps about) path P Q s (holds_wider about cases Apart Neither P Q
      (λ t q y. elim (told_first t q) [ inl m ↦ inr (second t q (λ o. y (ends t q (m, o)))) | inr m ↦ inl (first t q m) ]) (λ t q y. second t q (λ m. y.0 (way t q m))) true path s p x)
  shape_fails Strong path way ends s p x = with_weak (CaseSteps about) path P Q s (holds_wider about cases Apart Neither P Q
      (λ t q y. elim (told_first t q) [ inl m ↦ inr (second t q (λ o. y (ends t q (m, o)))) | inr m ↦ inl (first t q m) ]) (λ t q y. second t q (λ m. y.0 (way t q m))) false path s p x)

-- ---- rounds and what they add
module _ (about : CaseSystem) (sides : Sides) (end : Region) (point : FixedPoint) (of : IsOfSides sides end point) where
  layers_have : (k : ℕ) (layers : List Region) → AreLayers about point k layers → (s : State) → IsStateOf about s → RoundOf true about point (k + length layers) s → RoundOf true about point k s ⊎ ((r : Region) × Contains layers r × InState r s)
  layers_have k [] h s p m = inl (subst (λ j. RoundOf true about point j s) (let e : k + 0 ≡ k = omega arith in e) m)
  layers_have k (layer ∷ layers) h s p m =
      elim (layers_have (suc k) layers h.1 s p (subst (λ j. RoundOf true about point j s) (let e : k + suc (length layers) ≡ suc k + length layers = omega arith in e) m)) [
        | inl x ↦ elim x [ inl y ↦ inl y | inr y ↦ inr (layer, Contains-here layer layers, (h.0.set.same s p).1 y) ]
        | inr x ↦ inr (x.0, Contains-later layer x.0 layers x.1, x.2)
      ]

  -- the last of them has the states of the end and of the layers
  pub grown_inside : (layers : List Region) → AreLayers about point 0 layers → (s : State) → IsStateOf about s → RoundOf true about point (length layers) s → InPieces (joined_pieces (end ∷ layers)) s
  grown_inside layers each s p m = elim (layers_have 0 layers each s p (subst (λ j. RoundOf true about point j s) (let e : length layers ≡ 0 + length layers = omega arith in e) m)) [
    | inl x ↦ in_joined (end ∷ layers) end s (Contains-here end layers) (subst (λ r. InState r s) of.ends x)
    | inr x ↦ in_joined (end ∷ layers) x.0 s (Contains-later end x.0 layers x.1) x.2
  ]

-- ---- parts of fixpoints
module _ (about : CaseSystem) (cases : All (IsCase about.variables about.locations) about.cases) (sides : Sides) (end : Region) (point : FixedPoint) (of : IsOfSides sides end point) (over : AreOver about sides) (ends : AreAtEnd about sides end) where
  fails_is : (f g : Property) → IsFull about f sides.first.now → IsFull about g sides.second.now → (s : State) → IsStateOf about s → FailsAt (must_end sides.shape) about point s → Holds (CaseSteps about) (negation (fix sides.path sides.shape f g)) s
  fails_is f g first second s p x =
      shape_fails about cases (InState sides.first.now) (InState sides.second.now) (InState point.hold.now) (InState point.end.now) (λ t. Holds (CaseSteps about) (negation f) t) (λ t. Holds (CaseSteps about) (negation g) t)
      (told about (InState sides.first.now) sides.first.now (own_set about sides.first.now over.first)) first second sides.shape (other_path sides.path)
      (λ t q m. subst (λ r. InState r t) (sym of.hold) (hold_in sides.shape sides.first.now sides.second.now t m))
      (λ t q m. subst (λ r. InState r t) (sym of.ends) (ends.all tt t q m))
      s p (subst (λ (z : Path). HoldsBy (not (must_end sides.shape)) (CaseSteps about) (other_path z) (λ t. ¬ (InState point.end.now t)) (λ t. ¬ (InState point.hold.now t) × ¬ (InState point.end.now t)) s) of.path x)

  -- the part has the states of a region, and outside of that region the fixpoint fails
  pub along_full : (round region : Region) → rounds.IsFull (must_end sides.shape) about point round → ((s : State) → IsStateOf about s → InState round s → InState region s) → IsFullAlong about sides region
  along_full round region full inside f g first second s p n = fails_is f g first second s p (full s p (λ m. n (inside s p m)))

  -- ---- rounds that grow
  pub grown_full : (last : ℕ) (round region : Region) (at : ℕ) (layers : List Region) → must_end sides.shape ≡ true → IsSettledAt true about point last round at layers → rounds.IsFull (must_end sides.shape) about point round → IsJoined about (end ∷ layers) region → IsFullAlong about sides region
  grown_full last round region at layers shape told full joined =
      along_full round region full (λ s p m. subst (λ qs. InPieces qs s) (sym joined.pieces) (grown_inside about sides end point of layers told.layers.each s p (subst (λ j. RoundOf true about point j s) (sym told.layers.many) ((told.round.set.same s p).0 m))))

  -- ---- rounds that shrink
  pub shrunk_full : (k : ℕ) (round onward region : Region) → IsRound false about point k round → IsSettledBy false about point k → AreTame about point → AreOnward about sides round onward → rounds.IsFull (must_end sides.shape) about point round → IsJoined about (end ∷ onward ∷ []) region → IsFullAlong about sides region
  shrunk_full k round onward region r settled tame o full joined =
      along_full round region full (λ s p m. subst (λ qs. InPieces qs s) (sym joined.pieces) (settled_inside about cases sides end point of k round onward r settled tame o s p m))

-- a region that has all states lacks none
pub all_full : (about : CaseSystem) (f : Property) (region : Region) → ((s : State) → IsStateOf about s → InState region s) → IsFull about f region
all_full about f region all s p n = absurd (n (all s p))
