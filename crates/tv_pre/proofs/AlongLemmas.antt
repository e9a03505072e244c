-- Fixpoints by their rounds.
use Rattle.std.proofs.Common.{Vec, ◌≡◌, ◌⊎◌, inl, inr, ℕ, suc, ◌+◌, ◌<◌, ◌≤◌, List, [], ◌∷◌, ◌++◌, length, sym, ap, ◌∙◌, subst, arith, true, false, append-nil}
use Rattle.std.specs.Prelude.{All}
use Rattle.std.proofs.lemmas.List.Elements.{Contains-append_left, Contains-append_right}
use Rattle.tv_formula.specs.declared.tree.Path.{Path}
use Rattle.tv_formula.specs.declared.tree.Path.TheVariants.{Every, Any}
use Rattle.tv_program.specs.Steps.{State}
use Rattle.tv_linear.specs.declared.region.Piece.{Piece}
use Rattle.tv_linear.specs.declared.region.Region.{Region}
use Rattle.tv_cases.specs.LinearCases.{CaseSystem, CaseSteps, IsCase}
use Rattle.tv_cases.proofs.ContainsLemmas.{Contains-here, Contains-later, Contains-cases, Contains-none}
use Rattle.tv_cert.specs.Obligations.{hold_side}
use Rattle.tv_cert.specs.Statements.{Statement}
use Rattle.tv_known.specs.Cycles.{IsStateOf}
use Rattle.tv_known.specs.Rounds.{GoesInto, StaysIn, HoldSide, must_end}
use Rattle.tv_known.proofs.RoundLemmas.{stays_state}
use Rattle.tv_region.specs.StepRegions.{InState}
use Rattle.tv_rounds.specs.declared.fixed_point.FixedPoint.{FixedPoint}
use Rattle.tv_rounds.specs.declared.answer.Rounds.{Rounds}
use Rattle.tv_rounds.specs.declared.answer.Rounds.TheVariants.{Settled, Open}
use Rattle.tv_rounds.specs.Sides.{AreSides, AreTame, RoundOf, IsSettledBy}
use Rattle.tv_rounds.specs.Answers.{Differ, IsRound, AreLayers, IsAnswer, IsSettledAt, IsOpenAt}
use Rattle.tv_rounds.proofs.MadeLemmas.{made_tame}
use Rattle.tv_pre.specs.declared.sides.Sides.{Sides}
use Rattle.tv_pre.specs.Pieces.{InPieces}
use Rattle.tv_pre.specs.Parts.{IsPart, AreParts, joined_pieces}
use Rattle.tv_pre.specs.declared.part.Part.{Part}
use Rattle.tv_cert.specs.declared.node.Node.{Node}
use Rattle.tv_formula.specs.Properties.{Property, none, more}
use Rattle.tv_formula.specs.Properties as props
use Rattle.tv_rounds.specs.Calls.{IsNowhere}
use Rattle.tv_pre.specs.Inclusions.{OfPieces}
use Rattle.tv_pre.specs.Fixed.{AreOver, AtEnd, AreStaying, IsJoined, AsksEnds, AsksStaying}
use Rattle.std.specs.Global.{Global}
use Rattle.tv_region.specs.Regions.{IsRegion}
use Rattle.tv_region.specs.Differences.{IsOfDifferences}
use Rattle.tv_pre.specs.Growing.{AreNextLayers, AsksLayers}
use Rattle.tv_pre.specs.Questions.{Question}
use Rattle.tv_pre.specs.Finding.{IsTameFor}
use Rattle.tv_pre.specs.Along.{arguments, IsOfSides, AreRoundsOf, AreOnward, AreAtEnd, IsAlong}
use Rattle.tv_pre.specs.Built.{IsBuilt, of_nowhere, of_joined, AreBuilt, IsAsked, IsBuiltOf, IsFaultOf, IsPreFault}
use Rattle.tv_farkas.specs.declared.budget.Budget.{Budget}
use Rattle.tv_pre.specs.declared.fault.PreFault.{PreFault}
use Rattle.tv_pre.proofs.BuiltLemmas.{fault_to, built_to, all_built_to, asked_to, made_built, hold_built, first_built, rest_built, more_built, one_built, pieces_of, joined_of}
use Rattle.tv_pre.proofs.AskedLemmas.{ends_asked, layers_asked, staying_asked}
use Rattle.tv_pre.proofs.SetLemmas.{hold_on, in_joined, hold_over, no_piece}

module _ (about : CaseSystem) (cases : All (IsCase about.variables about.locations) about.cases) where
  goes_more : (path : Path) (P Q : State → Type 0) (s : State) → IsStateOf about s → ((t : State) → IsStateOf about t → P t → Q t) → GoesInto (CaseSteps about) path P s → GoesInto (CaseSteps about) path Q s
  goes_more Every P Q s is w h = (h.0, λ t st. w t (stays_state about cases s t is st) (h.1 t st))
  goes_more Any P Q s is w h = (h.0, h.1, w h.0 (stays_state about cases s h.0 is h.1) h.2)

  pub stays_more : (path : Path) (P Q : State → Type 0) (s : State) → IsStateOf about s → ((t : State) → IsStateOf about t → P t → Q t) → StaysIn (CaseSteps about) path P s → StaysIn (CaseSteps about) path Q s
  stays_more Every P Q s is w h = λ t st. w t (stays_state about cases s t is st) (h t st)
  stays_more Any P Q s is w (inl h) = inl (h.0, h.1, w h.0 (stays_state about cases s h.0 is h.1) h.2)
  stays_more Any P Q s is w (inr h) = inr h

  module _ (sides : Sides) (end : Region) (fix : FixedPoint) (of : IsOfSides sides end fix) where
    pub on_way : (s : State) → InState fix.hold.now s → HoldSide sides.shape (InState sides.first.now) (InState sides.second.now) s
    on_way s h = hold_on sides.shape sides.first.now sides.second.now s (subst (λ r. InState r s) of.hold h)

    -- ---- rounds that grow
    pub next_layers : (k : ℕ) (earlier : List Piece) (layers : List Region) → ((s : State) → IsStateOf about s → RoundOf true about fix k s → InPieces earlier s) → AreLayers about fix k layers → AreNextLayers about sides earlier layers
    next_layers k earlier [] before h = tt
    next_layers k earlier (layer ∷ layers) before h = (
      record {
        over = h.0.set.fits;
        hold = λ s p m. on_way s ((h.0.set.same s p).0 m).0;
        goes = λ s p m. subst (λ (q : Path). GoesInto (CaseSteps about) q (InPieces earlier) s) of.path (goes_more fix.path (RoundOf true about fix k) (InPieces earlier) s p before ((h.0.set.same s p).0 m).1);
      },
      next_layers (suc k) (earlier ++ layer.pieces.items) layers (λ s p r. elim r [
        | inl x ↦ (let w = before s p x in (w.0, Contains-append_left earlier layer.pieces.items w.0 w.1, w.2))
        | inr x ↦ (let w = (h.0.set.same s p).1 x in (w.0, Contains-append_right earlier layer.pieces.items w.0 w.1, w.2))
      ]) h.1,
    )

    pub first_layers : (layers : List Region) → AreLayers about fix 0 layers → AreNextLayers about sides end.pieces.items layers
    first_layers layers h = next_layers 0 end.pieces.items layers (λ s p r. subst (λ z. InState z s) of.ends r) h

    -- ---- rounds that shrink
    pub settled_inside : (k : ℕ) (round onward : Region) → IsRound false about fix k round → IsSettledBy false about fix k → AreTame about fix → AreOnward about sides round onward →
        (t : State) → IsStateOf about t → InState round t → InPieces (joined_pieces (end ∷ onward ∷ [])) t
    settled_inside k round onward r settled tame o t p m = elim ((settled t p).0 ((r.set.same t p).0 m)) [
      | inl x ↦ in_joined (end ∷ onward ∷ []) end t (Contains-here end (onward ∷ [])) (subst (λ z. InState z t) of.ends x)
      | inr x ↦ in_joined (end ∷ onward ∷ []) onward t (Contains-later end onward (onward ∷ []) (Contains-here onward []))
          (o.all (made_tame about fix tame k round r.made) t p (
            on_way t x.0,
            subst (λ (q : Path). StaysIn (CaseSteps about) q (InState round) t) of.path
                (stays_more fix.path (RoundOf false about fix k) (InState round) t p (λ u q y. (r.set.same u q).1 y) x.1),
          ))
    ]

    pub settled_stays : (k : ℕ) (round onward : Region) → IsRound false about fix k round → IsSettledBy false about fix k → AreTame about fix → AreAtEnd about sides end → AreOnward about sides round onward →
        AreStaying about sides end.pieces.items onward.pieces.items (joined_pieces (end ∷ onward ∷ []))
    settled_stays k round onward r settled tame e o = record {
      ends = λ s p m. e.right s p m;
      hold = λ s p m. (o.right s p m).0;
      stays = λ s p m. stays_more sides.path (InState round) (InPieces (joined_pieces (end ∷ onward ∷ []))) s p (settled_inside k round onward r settled tame o) (o.right s p m).1;
    }

    -- ---- what they are made of
    module _ (s : Statement) (h : ℕ) (hold : IsBuilt about s h fix.hold.now) (ends : IsBuilt about s h fix.end.now) (last : ℕ) where
      pub layers_built : (k : ℕ) (layers : List Region) → k + length layers ≤ last → AreLayers about fix k layers → AreBuilt about s (last + h) layers
      layers_built k [] l m = λ x c. absurd (Contains-none x c)
      layers_built k (layer ∷ layers) l m = λ x c. elim (Contains-cases layer x layers c) [
        | inl e ↦ subst (IsBuilt about s (last + h)) e (built_to about s (suc k + h) (last + h) layer (omega (arith, l)) (made_built about s h fix hold ends (suc k) layer m.0.made))
        | inr n ↦ layers_built (suc k) layers (omega (arith, l)) m.1 x n
      ]

-- ---- parts
pub is_along : (about : CaseSystem) (k n : ℕ) (sides : Sides) (children : List Node) (part : Part) (regions given : List Region) → k < n → length regions ≤ k + 2 → IsJoined about regions part.region →
    ((f g : Property) → AreParts about (more f (more g none)) (arguments sides) children → IsPart about (props.fix sides.path sides.shape f g) part.region part.node) →
    ((s : Statement) (h : ℕ) → AreBuilt about s h given → AreBuilt about s (k + h) regions) → IsAlong about n given sides children part
is_along about k n sides children part regions given less few j p b = record {
  over = j.over;
  shows = p;
  built = λ s h m. built_to about s (suc (k + h)) (n + h) part.region (omega (arith, less)) (of_joined (k + h) regions part.region (b s h m) (omega (arith, few)) j);
}

-- a part that is made of regions which are made of others
pub along_more : (about : CaseSystem) (k n : ℕ) (given wider : List Region) (sides : Sides) (children : List Node) (part : Part) → k ≤ n →
    ((s : Statement) (h : ℕ) → AreBuilt about s h wider → AreBuilt about s (0 + h) given) → IsAlong about k given sides children part → IsAlong about n wider sides children part
along_more about k n given wider sides children part l b a = record {
  over = a.over;
  shows = a.shows;
  built = λ s h m. built_to about s (k + (0 + h)) (n + h) part.region (omega (arith, l)) (a.built s (0 + h) (b s h m));
}

-- what is made of the end and the arguments is made of the arguments alone, where the end is made of them
end_and_given : (about : CaseSystem) (end : Region) (given : List Region) → IsBuiltOf about 0 given end → (s : Statement) (h : ℕ) → AreBuilt about s h given → AreBuilt about s (0 + h) (end ∷ given)
end_and_given about end given e s h m = more_built about s (0 + h) end given (e s h m) (all_built_to about s h (0 + h) given (omega arith) m)

pub along_less : (about : CaseSystem) (k n : ℕ) (end : Region) (given : List Region) (sides : Sides) (children : List Node) (part : Part) → k ≤ n → IsBuiltOf about 0 given end → IsAlong about k (end ∷ given) sides children part → IsAlong about n given sides children part
along_less about k n end given sides children part l e a = along_more about k n (end ∷ given) given sides children part l (end_and_given about end given e) a

pub given_less : (about : CaseSystem) (budget : Budget) (k n : ℕ) (end : Region) (given : List Region) (fault r : PreFault) → k ≤ n → r ≡ fault → IsBuiltOf about 0 given end → IsFaultOf about budget k (end ∷ given) fault → IsFaultOf about budget n given r
given_less about budget k n end given fault r l i e f = λ s h m.
    subst (IsPreFault about s budget (n + h)) (sym i) (fault_to about s budget (k + (0 + h)) (n + h) fault (omega (arith, l)) (f s (0 + h) (end_and_given about end given e s h m)))

-- what is asked of the end and the arguments is asked of the arguments alone
pub asked_less : (about : CaseSystem) (k n : ℕ) (end : Region) (given : List Region) (a : Question) → k ≤ n → IsBuiltOf about 0 given end → ((s : Statement) (h : ℕ) → AreBuilt about s h (end ∷ given) → IsAsked about s (k + h) a) → (s : Statement) (h : ℕ) → AreBuilt about s h given → IsAsked about s (n + h) a
asked_less about k n end given a l e f s h m = asked_to about s (k + (0 + h)) (n + h) a (omega (arith, l)) (f s (0 + h) (end_and_given about end given e s h m))

-- ---- no states in place of those at the end
module _ (about : CaseSystem) (sides : Sides) (end none : Region) (n : IsNowhere about none) where
  pub none_at_end : OfPieces about none.pieces.items (AtEnd sides)
  none_at_end s p m = absurd (no_piece none.pieces.items s n.none m)

  none_given : (s : Statement) (h : ℕ) → AreBuilt about s h (end ∷ arguments sides) → AreBuilt about s (0 + h) (none ∷ arguments sides)
  none_given s h m = more_built about s (0 + h) none (arguments sides) (of_nowhere (0 + h) none n) (all_built_to about s h (0 + h) (arguments sides) (omega arith) (rest_built about s h end (arguments sides) m))

  pub none_along : (children : List Node) (part : Part) → IsAlong about 1 (none ∷ arguments sides) sides children part → IsAlong about 1 (end ∷ arguments sides) sides children part
  none_along children part a = along_more about 1 1 (none ∷ arguments sides) (end ∷ arguments sides) sides children part (omega arith) none_given a

  pub none_fault : (budget : Budget) (fault r : PreFault) → r ≡ fault → IsFaultOf about budget 1 (none ∷ arguments sides) fault → IsFaultOf about budget 1 (end ∷ arguments sides) r
  none_fault budget fault r e f = λ s h m. subst (IsPreFault about s budget (1 + h)) (sym e) (fault_to about s budget (1 + (0 + h)) (1 + h) fault (omega arith) (f s (0 + h) (none_given s h m)))

-- the pieces of a region and of none after it
pub one_joined : (end : Region) (rest : List Region) (qs : List Piece) → joined_pieces rest ≡ [] → qs ≡ joined_pieces (end ∷ rest) → qs ≡ end.pieces.items
one_joined end rest qs bare e = e ∙ ap (λ ps. end.pieces.items ++ ps) bare ∙ append-nil end.pieces.items

pub no_onward : (about : CaseSystem) (sides : Sides) (end onward : Region) → OfPieces about end.pieces.items (AtEnd sides) → IsNowhere about onward → AreStaying about sides end.pieces.items onward.pieces.items (joined_pieces (end ∷ onward ∷ []))
no_onward about sides end onward e n = record {
  ends = λ s p m. e s p m;
  hold = λ s p m. absurd (no_piece onward.pieces.items s n.none m);
  stays = λ s p m. absurd (no_piece onward.pieces.items s n.none m);
}

-- ---- rounds of given sides
pub tame_sides : (about : CaseSystem) (sides : Sides) (end : Region) (point : FixedPoint) → IsOfSides sides end point → IsTameFor about (hold_side sides.shape sides.first.now sides.second.now) end → AreTame about point
tame_sides about sides end point of (inl plain) = inl plain
tame_sides about sides end point of (inr d) = inr (record {
  cases = d.0;
  hold = subst IsOfDifferences (sym of.hold) d.1;
  end = subst IsOfDifferences (sym of.ends) d.2;
})

pub over_sides : (about : CaseSystem) (sides : Sides) (end : Region) (point : FixedPoint) → IsOfSides sides end point → AreOver about sides → AreAtEnd about sides end → AreSides about point
over_sides about sides end point of f e = record {
  hold = hold_over about sides point.hold.now of.hold f;
  end = subst (IsRegion about.variables about.locations) (sym of.ends) e.over;
}

-- the sides of a fixpoint are built as its arguments are
pub hold_side_built : (about : CaseSystem) (sides : Sides) (end : Region) (point : FixedPoint) → IsOfSides sides end point → (s : Statement) (h : ℕ) → AreBuilt about s h (end ∷ arguments sides) → IsBuilt about s h point.hold.now
hold_side_built about sides end point of s h m = subst (IsBuilt about s h) (sym of.hold) (hold_built about s h sides.shape sides.first.now sides.second.now (rest_built about s h end (arguments sides) m))

pub end_side_built : (about : CaseSystem) (sides : Sides) (end : Region) (point : FixedPoint) → IsOfSides sides end point → (s : Statement) (h : ℕ) → AreBuilt about s h (end ∷ arguments sides) → IsBuilt about s h point.end.now
end_side_built about sides end point of s h m = subst (IsBuilt about s h) (sym of.ends) (first_built about s h end (arguments sides) m)

pub settled_layers : (about : CaseSystem) (last : ℕ) (sides : Sides) (end : Region) (answer : Rounds) (region : Region) (at : ℕ) (layers : Vec Region Global) → answer ≡ Settled region at layers → must_end sides.shape ≡ true → (h : AreRoundsOf about last sides end answer) → IsSettledAt true about h.point last region at layers.items
settled_layers about last sides end answer region at layers e t h = subst (λ b. IsAnswer b about h.point last (Settled region at layers)) t (subst (IsAnswer (must_end sides.shape) about h.point last) e h.rounds)

pub open_layers : (about : CaseSystem) (last : ℕ) (sides : Sides) (end : Region) (answer : Rounds) (region : Region) (layers : Vec Region Global) → answer ≡ Open region layers → must_end sides.shape ≡ true → (h : AreRoundsOf about last sides end answer) → IsOpenAt true about h.point last region layers.items
open_layers about last sides end answer region layers e t h = subst (λ b. IsAnswer b about h.point last (Open region layers)) t (subst (IsAnswer (must_end sides.shape) about h.point last) e h.rounds)

-- the last round differs from the next one
pub open_rounds : (about : CaseSystem) (last : ℕ) (sides : Sides) (end : Region) (answer : Rounds) (region : Region) (layers : Vec Region Global) → answer ≡ Open region layers → (h : AreRoundsOf about last sides end answer) →
    Differ about (RoundOf (must_end sides.shape) about h.point last) (RoundOf (must_end sides.shape) about h.point (suc last))
open_rounds about last sides end answer region layers e h = let told = subst (IsAnswer (must_end sides.shape) about h.point last) e h.rounds in told.differs

pub settled_round : (about : CaseSystem) (last : ℕ) (sides : Sides) (end : Region) (answer : Rounds) (region : Region) (at : ℕ) (layers : Vec Region Global) → answer ≡ Settled region at layers → must_end sides.shape ≡ false → (h : AreRoundsOf about last sides end answer) → IsSettledAt false about h.point last region at layers.items
settled_round about last sides end answer region at layers e t h = subst (λ b. IsAnswer b about h.point last (Settled region at layers)) t (subst (IsAnswer (must_end sides.shape) about h.point last) e h.rounds)

pub open_round : (about : CaseSystem) (last : ℕ) (sides : Sides) (end : Region) (answer : Rounds) (region : Region) (layers : Vec Region Global) → answer ≡ Open region layers → must_end sides.shape ≡ false → (h : AreRoundsOf about last sides end answer) → IsOpenAt false about h.point last region layers.items
open_round about last sides end answer region layers e t h = subst (λ b. IsAnswer b about h.point last (Open region layers)) t (subst (IsAnswer (must_end sides.shape) about h.point last) e h.rounds)

-- ---- what is asked of the parts that are made of rounds
module _ (about : CaseSystem) (last : ℕ) (sides : Sides) (end : Region) (s : Statement) (h : ℕ) (m : AreBuilt about s h (end ∷ arguments sides)) where
  sides_up : AreBuilt about s (last + h) (end ∷ arguments sides)
  sides_up = all_built_to about s h (last + h) (end ∷ arguments sides) (omega arith) m

  pub until_asked : (layers : List Region) → AreBuilt about s (last + h) layers → (a : Question) → AsksEnds sides end.pieces.items a ⊎ AsksLayers about sides end.pieces.items layers a → IsAsked about s ((last + 2) + h) a
  until_asked layers b a w =
      let up = sides_up in
      let own = pieces_of about s (last + h) end (first_built about s (last + h) end (arguments sides) up) in
      let below = rest_built about s (last + h) end (arguments sides) up in
      asked_to about s (suc (last + h)) ((last + 2) + h) a (omega arith) (elim w [
        | inl x ↦ ends_asked about s (last + h) sides below end.pieces.items a own x
        | inr x ↦ layers_asked about s (last + h) sides below end.pieces.items layers a own b x
      ])

  pub until_built : (layers : List Region) → AreBuilt about s (last + h) layers → AreBuilt about s ((last + 1) + h) (end ∷ layers)
  until_built layers b = all_built_to about s (last + h) ((last + 1) + h) (end ∷ layers) (omega arith) (more_built about s (last + h) end layers (first_built about s (last + h) end (arguments sides) sides_up) b)

  pub round_sides : (round : Region) → IsBuilt about s (last + h) round → AreBuilt about s (last + h) (round ∷ arguments sides)
  round_sides round b = more_built about s (last + h) round (arguments sides) b (rest_built about s (last + h) end (arguments sides) sides_up)

  both_built : (onward : Region) → IsBuilt about s (1 + (last + h)) onward → AreBuilt about s ((last + 1) + h) (end ∷ onward ∷ [])
  both_built onward b =
      more_built about s ((last + 1) + h) end (onward ∷ []) (built_to about s h ((last + 1) + h) end (omega arith) (first_built about s h end (arguments sides) m))
      (one_built about s ((last + 1) + h) onward (built_to about s (1 + (last + h)) ((last + 1) + h) onward (omega arith) b))

  pub weak_built : (onward : Region) → IsBuilt about s (1 + (last + h)) onward → AreBuilt about s ((last + 1) + h) (end ∷ onward ∷ [])
  weak_built onward b = both_built onward b

  pub weak_asked : (onward : Region) → IsBuilt about s (1 + (last + h)) onward → (a : Question) → AsksStaying about sides end.pieces.items onward.pieces.items (joined_pieces (end ∷ onward ∷ [])) a → IsAsked about s ((last + 2) + h) a
  weak_asked onward b a w =
      let k = (last + 1) + h in
      let all = both_built onward b in
      let below = all_built_to about s h k (arguments sides) (omega arith) (rest_built about s h end (arguments sides) m) in
      asked_to about s (suc k) ((last + 2) + h) a (omega arith)
      (staying_asked about s k sides below end.pieces.items onward.pieces.items (joined_pieces (end ∷ onward ∷ [])) a
      (pieces_of about s k end (first_built about s k end (onward ∷ []) all)) (pieces_of about s k onward (first_built about s k onward [] (rest_built about s k end (onward ∷ []) all))) (joined_of about s k (end ∷ onward ∷ []) all) w)

  pub answer_built : (answer : Rounds) (r : AreRoundsOf about last sides end answer) (layers : List Region) → length layers ≤ last → AreLayers about r.point 0 layers → (cases : All (IsCase about.variables about.locations) about.cases) → AreBuilt about s (last + h) layers
  answer_built answer r layers l e cases =
      layers_built about cases sides end r.point r.of s h (hold_side_built about sides end r.point r.of s h m) (end_side_built about sides end r.point r.of s h m) last 0 layers (omega (arith, l)) e

  pub round_built : (answer : Rounds) (r : AreRoundsOf about last sides end answer) (k : ℕ) (round : Region) → k ≤ last → IsRound false about r.point k round → IsBuilt about s (last + h) round
  round_built answer r k round l e = built_to about s (k + h) (last + h) round (omega (arith, l)) (made_built about s h r.point (hold_side_built about sides end r.point r.of s h m) (end_side_built about sides end r.point r.of s h m) k round e.made)
