-- Regions that have the states that the rounds of a formula tell of, made of those of its arguments.
use Rattle.std.proofs.Common.{◌≡◌, inl, inr, ℕ, List, [], ◌∷◌, refl, sym, subst, Bool, true, false}
use Rattle.std.specs.Prelude.{All, ◌↔◌}
use Rattle.std.proofs.lemmas.List.Elements.{All-nil, All-cons, All-head, All-tail, All-weaker, Contains-append_cases}
use Rattle.tv_formula.specs.declared.tree.Path.{Path}
use Rattle.tv_formula.specs.declared.tree.Path.TheVariants.{Every, Any}
use Rattle.tv_formula.specs.declared.tree.Shape.{Shape}
use Rattle.tv_formula.specs.declared.tree.Shape.TheVariants.{Until, Weak, Release, Strong}
use Rattle.tv_formula.specs.Properties.{Property, truth, compare, at, term, negated, all_of, some_of, next, fix, Properties, none, more}
use Rattle.tv_program.specs.Steps.{State}
use Rattle.tv_meaning.specs.Meaning.{Holds, NextHolds}
use Rattle.tv_linear.specs.declared.region.Region.{Region}
use Rattle.tv_cases.specs.Comparisons.{comparison_lists}
use Rattle.tv_cases.specs.LinearCases.{CaseSystem, CaseSteps, IsCase}
use Rattle.tv_cases.proofs.ContainsLemmas.{Contains-none}
use Rattle.tv_cert.specs.declared.node.Node.{Node}
use Rattle.tv_cert.specs.AimViews.{statements_of}
use Rattle.tv_cert.specs.Statements.{Statement, each_of, one_of, after, along, stated, stated_all}
use Rattle.tv_known.specs.Cycles.{IsStateOf}
use Rattle.tv_known.specs.Known.{Known, AllKnown, SomeKnown, FixKnown}
use Rattle.tv_known.specs.Rounds.{HoldSide, EndSides, SidesHold, must_end}
use Rattle.tv_known.proofs.RoundLemmas.{stays_state}
use Rattle.tv_region.specs.StepRegions.{InState, IsTame}
use Rattle.tv_pre.specs.declared.test.Test.{Test}
use Rattle.tv_pre.specs.declared.test.Test.TheVariants.{Rows, Here, Elsewhere}
use Rattle.tv_pre.specs.Along.{AreBefore}
use Rattle.tv_pre.specs.Atoms.{IsTestOf, IsTested}
use Rattle.tv_pre.specs.Built.{IsBuilt, AreBuilt}
use Rattle.tv_pre.specs.Finding.{test_statement, IsTameStatement}
use Rattle.tv_pre.specs.Full.{HasRows, AllHaveRows}
use Rattle.tv_pre.specs.Inclusions.{OfPieces, LeadsTo}
use Rattle.tv_pre.specs.KnownStates.{HasStates, IsKnownFor, AreKnownFor, IsAloneIn}
use Rattle.tv_pre.specs.Parts.{IsPart, joined_pieces}
use Rattle.tv_pre.specs.Pieces.{InPieces}
use Rattle.tv_pre.proofs.ExactLemmas.{part_exact}
use Rattle.tv_pre.proofs.FormulaLemmas.{each_is, one_is, after_is, along_is}
use Rattle.tv_pre.proofs.FoundLemmas.{test_states}
use Rattle.tv_pre.proofs.FullLemmas.{atom_full}
use Rattle.tv_pre.proofs.GapLemmas.{tame_less}
use Rattle.tv_pre.proofs.TameLemmas.{tame_built}
use Rattle.tv_pre.proofs.KnownRounds.{weak_holds, until_wider, known_same}

module _ (about : CaseSystem) (last : ℕ) where
  -- whether or not it has these states alone, it has them
  pub known_so : (alone : Bool) (s : Statement) (region : Region) → IsKnownFor about last alone s region → IsKnownFor about last false s region
  known_so alone s region h tame f e rows = record { all = λ t p k. (h tame f e rows).all t p k; only = λ so. absurd cc }

  -- ---- atoms
  -- the rounds tell of an atom where it holds
  test_known : (t : Test) (f : Property) → IsTestOf about.variables t f → (s : State) → Holds (CaseSteps about) f s ↔ Known about last f s
  test_known t (truth b) h s = (λ k. k, λ k. k)
  test_known t (compare r a b) h s = (λ k. k, λ k. k)
  test_known t (at l) h s = (λ k. k, λ k. k)
  test_known t (negated (at l)) h s = (λ k. k, λ k. k)
  test_known (Rows lists) term h s = absurd h
  test_known (Rows lists) (negated (truth b)) h s = absurd h
  test_known (Rows lists) (negated (compare r a b)) h s = absurd h
  test_known (Rows lists) (negated term) h s = absurd h
  test_known (Rows lists) (negated (negated f)) h s = absurd h
  test_known (Rows lists) (negated (all_of fs)) h s = absurd h
  test_known (Rows lists) (negated (some_of fs)) h s = absurd h
  test_known (Rows lists) (negated (next path f)) h s = absurd h
  test_known (Rows lists) (negated (fix path shape f g)) h s = absurd h
  test_known (Rows lists) (all_of fs) h s = absurd h
  test_known (Rows lists) (some_of fs) h s = absurd h
  test_known (Rows lists) (next path f) h s = absurd h
  test_known (Rows lists) (fix path shape f g) h s = absurd h
  test_known (Here k) term h s = absurd h
  test_known (Here k) (negated (truth b)) h s = absurd h
  test_known (Here k) (negated (compare r a b)) h s = absurd h
  test_known (Here k) (negated term) h s = absurd h
  test_known (Here k) (negated (negated f)) h s = absurd h
  test_known (Here k) (negated (all_of fs)) h s = absurd h
  test_known (Here k) (negated (some_of fs)) h s = absurd h
  test_known (Here k) (negated (next path f)) h s = absurd h
  test_known (Here k) (negated (fix path shape f g)) h s = absurd h
  test_known (Here k) (all_of fs) h s = absurd h
  test_known (Here k) (some_of fs) h s = absurd h
  test_known (Here k) (next path f) h s = absurd h
  test_known (Here k) (fix path shape f g) h s = absurd h
  test_known (Elsewhere k) term h s = absurd h
  test_known (Elsewhere k) (negated (truth b)) h s = absurd h
  test_known (Elsewhere k) (negated (compare r a b)) h s = absurd h
  test_known (Elsewhere k) (negated term) h s = absurd h
  test_known (Elsewhere k) (negated (negated f)) h s = absurd h
  test_known (Elsewhere k) (negated (all_of fs)) h s = absurd h
  test_known (Elsewhere k) (negated (some_of fs)) h s = absurd h
  test_known (Elsewhere k) (negated (next path f)) h s = absurd h
  test_known (Elsewhere k) (negated (fix path shape f g)) h s = absurd h
  test_known (Elsewhere k) (all_of fs) h s = absurd h
  test_known (Elsewhere k) (some_of fs) h s = absurd h
  test_known (Elsewhere k) (next path f) h s = absurd h
  test_known (Elsewhere k) (fix path shape f g) h s = absurd h

  module _ (alone : Bool) where
    pub atom_known : (t : Test) (region : Region) (node : Node) → IsTested about t region → ((f : Property) → IsTestOf about.variables t f → IsPart about f region node) → IsKnownFor about last alone (test_statement t) region
    atom_known t region node h part tame f e rows =
        let is = test_states about last t f e in
        let same = part_exact about f region node h.over (part f is) (atom_full about t f region is rows h) in
        record {
          all = λ s p k. (same s p).1 ((test_known t f is s).1 k);
          only = λ so s p m. (test_known t f is s).0 ((same s p).0 m);
        }

    -- ---- conjunctions and disjunctions
    -- the regions have the known states of these formulas, in order
    abbrev HaveStates : Properties → List Region → Type 0
    HaveStates none [] = Unit {0}
    HaveStates none (region ∷ regions) = ⊥
    HaveStates (more f fs) [] = ⊥
    HaveStates (more f fs) (region ∷ regions) = HasStates about alone (λ t. Known about last f t) region × HaveStates fs regions

    states_each : (ss : List Statement) (rs : List Region) → AreKnownFor about last alone ss rs → IsTameStatement about (each_of (statements_of ss)) → (fs : Properties) → statements_of ss ≡ stated_all (comparison_lists about.variables) fs → AllHaveRows about.variables fs → HaveStates fs rs
    states_each [] [] h tame none e w = tt
    states_each [] [] h tame (more f fs) e w = absurd cc
    states_each [] (r ∷ rs) h tame fs e w = absurd h
    states_each (s ∷ ss) [] h tame fs e w = absurd h
    states_each (s ∷ ss) (r ∷ rs) h tame none e w = absurd cc
    states_each (s ∷ ss) (r ∷ rs) h tame (more f fs) e w = (
      h.0 (tame_less about s (each_of (statements_of (s ∷ ss))) (λ a x. inl x) tame) f (let first : s ≡ stated (comparison_lists about.variables) f = cc in first) w.0,
      states_each ss rs h.1 (tame_less about (each_of (statements_of ss)) (each_of (statements_of (s ∷ ss))) (λ a x. inr x) tame) fs
          (let rest : statements_of ss ≡ stated_all (comparison_lists about.variables) fs = cc in rest) w.1,
    )

    all_inside : (fs : Properties) (rs : List Region) → HaveStates fs rs → (s : State) → IsStateOf about s → AllKnown about last fs s → All (λ x. InState x s) rs
    all_inside none [] h s p k = All-nil (λ x. InState x s)
    all_inside none (r ∷ rs) h s p k = absurd h
    all_inside (more f fs) [] h s p k = absurd h
    all_inside (more f fs) (r ∷ rs) h s p k = All-cons (λ x. InState x s) r rs (h.0.all s p k.0) (all_inside fs rs h.1 s p k.1)

    inside_all : alone ≡ true → (fs : Properties) (rs : List Region) → HaveStates fs rs → (s : State) → IsStateOf about s → All (λ x. InState x s) rs → AllKnown about last fs s
    inside_all so none [] h s p m = tt
    inside_all so none (r ∷ rs) h s p m = absurd h
    inside_all so (more f fs) [] h s p m = absurd h
    inside_all so (more f fs) (r ∷ rs) h s p m = (h.0.only so s p (All-head (λ x. InState x s) r rs m), inside_all so fs rs h.1 s p (All-tail (λ x. InState x s) r rs m))

    pub each_known : (ss : List Statement) (rs : List Region) (region : Region) → AreKnownFor about last alone ss rs → ((s : State) → IsStateOf about s → All (λ x. InState x s) rs → InState region s) → All (λ x. OfPieces about region.pieces.items (InState x)) rs →
        IsKnownFor about last alone (each_of (statements_of ss)) region
    each_known ss rs region h all inside tame f e rows =
        let w = each_is (comparison_lists about.variables) (statements_of ss) f e in
        let sets = states_each ss rs h tame w.0 w.2 (subst (HasRows about.variables) w.1 rows) in
        subst (λ (g : Property). HasStates about alone (λ t. Known about last g t) region) (sym w.1) (record {
          all = λ s p k. all s p (all_inside w.0 rs sets s p k);
          only = λ so s p m. inside_all so w.0 rs sets s p (All-weaker (λ x. OfPieces about region.pieces.items (InState x)) (λ x. InState x s) (λ x o. o s p m) rs inside);
        })

    some_inside : (P : State → Type 0) (fs : Properties) (rs : List Region) → HaveStates fs rs → All (λ x. OfPieces about x.pieces.items P) rs → (s : State) → IsStateOf about s → SomeKnown about last fs s → P s
    some_inside P none [] h o s p k = absurd k
    some_inside P none (r ∷ rs) h o s p k = absurd h
    some_inside P (more f fs) [] h o s p k = absurd h
    some_inside P (more f fs) (r ∷ rs) h o s p (inl k) = All-head (λ x. OfPieces about x.pieces.items P) r rs o s p (h.0.all s p k)
    some_inside P (more f fs) (r ∷ rs) h o s p (inr k) = some_inside P fs rs h.1 (All-tail (λ x. OfPieces about x.pieces.items P) r rs o) s p k

    inside_some : alone ≡ true → (fs : Properties) (rs : List Region) → HaveStates fs rs → (s : State) → IsStateOf about s → InPieces (joined_pieces rs) s → SomeKnown about last fs s
    inside_some so none [] h s p m = absurd (Contains-none m.0 m.1)
    inside_some so none (r ∷ rs) h s p m = absurd h
    inside_some so (more f fs) [] h s p m = absurd h
    inside_some so (more f fs) (r ∷ rs) h s p m = elim (Contains-append_cases r.pieces.items (joined_pieces rs) m.0 m.1) [
      | inl c ↦ inl (h.0.only so s p (m.0, c, m.2))
      | inr c ↦ inr (inside_some so fs rs h.1 s p (m.0, c, m.2))
    ]

    pub some_known : (ss : List Statement) (rs : List Region) (region : Region) → AreKnownFor about last alone ss rs → OfPieces about region.pieces.items (InPieces (joined_pieces rs)) → All (λ x. OfPieces about x.pieces.items (InState region)) rs →
        IsKnownFor about last alone (one_of (statements_of ss)) region
    some_known ss rs region h inside all tame f e rows =
        let w = one_is (comparison_lists about.variables) (statements_of ss) f e in
        let each = tame_less about (each_of (statements_of ss)) (one_of (statements_of ss)) (λ a x. x) tame in
        let sets = states_each ss rs h each w.0 w.2 (subst (HasRows about.variables) w.1 rows) in
        subst (λ (g : Property). HasStates about alone (λ t. Known about last g t) region) (sym w.1) (record {
          all = λ s p k. some_inside (InState region) w.0 rs sets all s p k;
          only = λ so s p m. inside_some so w.0 rs sets s p (inside s p m);
        })

    module _ (cases : All (IsCase about.variables about.locations) about.cases) where
      -- ---- next states
      next_leads : (P Q : State → Type 0) → ((s : State) → IsStateOf about s → P s → Q s) → (path : Path) (s : State) → IsStateOf about s → NextHolds (CaseSteps about) path P s → LeadsTo about path Q s
      next_leads P Q a Every s p h = λ t st. a t (stays_state about cases s t p st) (h t st)
      next_leads P Q a Any s p h = (h.0, h.1, a h.0 (stays_state about cases s h.0 p h.1) h.2)

      leads_next : (P Q : State → Type 0) → ((s : State) → IsStateOf about s → P s → Q s) → (path : Path) (s : State) → IsStateOf about s → LeadsTo about path P s → NextHolds (CaseSteps about) path Q s
      leads_next P Q a Every s p h = λ t st. a t (stays_state about cases s t p st) (h t st)
      leads_next P Q a Any s p h = (h.0, h.1, a h.0 (stays_state about cases s h.0 p h.1) h.2)

      exact_into : (s : Statement) (k : ℕ) (into : Region) → IsTameStatement about s → IsBuilt about s k into → IsTame about into
      exact_into s k into tame built = elim (tame_built about s tame k k into into built built) [ inl plain ↦ inl plain | inr d ↦ inr (d.0, d.1) ]

      pub after_known : (path : Path) (s : Statement) (k : ℕ) (into region : Region) → IsBuilt about s k into → AreBefore about path into region → IsKnownFor about last alone s into → IsKnownFor about last alone (after path s) region
      after_known path s k into region built before h tame f e rows =
          let w = after_is (comparison_lists about.variables) path s f e in
          let under = tame_less about s (after path s) (λ a x. x) tame in
          let set = h under w.0 w.2 (subst (HasRows about.variables) w.1 rows) in
          let known = λ (t : State). Known about last w.0 t in
          subst (λ (g : Property). HasStates about alone (λ t. Known about last g t) region) (sym w.1) (record {
            all = λ t p m. before.all (exact_into s k into under built) t p (next_leads known (InState into) (λ u q x. set.all u q x) path t p m);
            only = λ so t p m. leads_next (InState into) known (λ u q x. set.only so u q x) path t p (before.right t p m);
          })

      -- ---- fixpoints
      -- where the sides have more states, as many where it need not come to its end, the rounds tell of more
      fix_wider : (P Q R S : State → Type 0) → ((s : State) → IsStateOf about s → P s → R s) → ((s : State) → IsStateOf about s → Q s → S s) → (path : Path) (shape : Shape) →
          (must_end shape ≡ false → ((s : State) → IsStateOf about s → R s → P s) × ((s : State) → IsStateOf about s → S s → Q s)) → (s : State) → IsStateOf about s → FixKnown about last path shape P Q s → FixKnown about last path shape R S s
      fix_wider P Q R S a b path Until back s is k = until_wider about cases last path P Q R S Until refl a b s is k
      fix_wider P Q R S a b path Strong back s is k = until_wider about cases last path P Q R S Strong refl a b s is k
      fix_wider P Q R S a b path Weak back s is k =
          known_same about cases last path P Q R S (λ t p. ((λ x. a t p x), (λ x. (back refl).0 t p x))) (λ t p. ((λ x. b t p x), (λ x. (back refl).1 t p x))) Weak s is k
      fix_wider P Q R S a b path Release back s is k =
          known_same about cases last path P Q R S (λ t p. ((λ x. a t p x), (λ x. (back refl).0 t p x))) (λ t p. ((λ x. b t p x), (λ x. (back refl).1 t p x))) Release s is k

      pub along_known : (inner : Bool) (path : Path) (shape : Shape) (s t : Statement) (h : ℕ) (first second region : Region) → IsAloneIn alone shape inner → AreBuilt about (along path shape s t) h (first ∷ second ∷ []) →
          IsKnownFor about last inner s first → IsKnownFor about last inner t second →
          ((w : Statement) (k : ℕ) → AreBuilt about w k (first ∷ second ∷ []) → IsTameStatement about w → HasStates about alone (λ u. FixKnown about last path shape (InState first) (InState second) u) region) →
          IsKnownFor about last alone (along path shape s t) region
      along_known inner path shape s t h first second region within built one two own tame f e rows =
          let whole = along path shape s t in
          let w = along_is (comparison_lists about.variables) path shape s t f e in
          let kept = subst (HasRows about.variables) w.2 rows in
          let a = one (tame_less about s whole (λ x y. inl y) tame) w.0 w.3 kept.0 in
          let b = two (tame_less about t whole (λ x y. inr y) tame) w.1 w.4 kept.1 in
          let set = own whole h built tame in
          let left = λ (u : State). Known about last w.0 u in
          let right = λ (u : State). Known about last w.1 u in
          subst (λ (g : Property). HasStates about alone (λ u. Known about last g u) region) (sym w.2) (record {
            all = λ u p k. set.all u p (fix_wider left right (InState first) (InState second) (λ v q x. a.all v q x) (λ v q x. b.all v q x) path shape
                (λ must. ((λ v q x. a.only (within.shrinking must) v q x), (λ v q x. b.only (within.shrinking must) v q x))) u p k);
            only = λ so u p m. fix_wider (InState first) (InState second) left right (λ v q x. a.only (within.kept so) v q x) (λ v q x. b.only (within.kept so) v q x) path shape
                (λ must. ((λ v q x. a.all v q x), (λ v q x. b.all v q x))) u p (set.only so u p m);
          })

      -- It need not come to its end, and the region has each state where that of the regions holds. So it has the known ones, whatever
      -- others the regions have too.
      pub weak_known : (path : Path) (shape : Shape) (s t : Statement) (first second region : Region) → must_end shape ≡ false → IsKnownFor about last alone s first → IsKnownFor about last alone t second →
          ((u : State) → IsStateOf about u → SidesHold about path shape (HoldSide shape (InState first) (InState second)) (EndSides shape (InState first) (InState second)) u → InState region u) →
          IsKnownFor about last false (along path shape s t) region
      weak_known path shape s t first second region may one two own tame f e rows =
          let whole = along path shape s t in
          let w = along_is (comparison_lists about.variables) path shape s t f e in
          let kept = subst (HasRows about.variables) w.2 rows in
          let a = one (tame_less about s whole (λ x y. inl y) tame) w.0 w.3 kept.0 in
          let b = two (tame_less about t whole (λ x y. inr y) tame) w.1 w.4 kept.1 in
          let left = λ (u : State). Known about last w.0 u in
          let right = λ (u : State). Known about last w.1 u in
          subst (λ (g : Property). HasStates about false (λ u. Known about last g u) region) (sym w.2) (record {
            all = λ u p k. own u p (weak_holds about cases last path left right (InState first) (InState second) shape may (λ v q x. a.all v q x) (λ v q x. b.all v q x) u p k);
            only = λ so. absurd cc;
          })
