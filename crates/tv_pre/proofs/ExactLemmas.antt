-- Regions that have exactly the states where a formula holds, and rounds of such regions.
use Rattle.std.proofs.Common.{◌⊎◌, inl, inr, ℕ, suc, List, [], ◌∷◌, sym, ◌∙◌, subst}
use Rattle.std.specs.Prelude.{All, Contains, ◌↔◌}
use Rattle.tv_formula.specs.declared.tree.Path.{Path}
use Rattle.tv_formula.specs.declared.tree.Shape.{Shape}
use Rattle.std.proofs.lemmas.List.Elements.{All-nil}
use Rattle.tv_formula.specs.Properties.{Property, term, fix}
use Rattle.tv_program.specs.Runs.{Ends}
use Rattle.tv_lexrank.specs.Nodes.{IsRankedNode}
use Rattle.tv_cert.proofs.PieceLemmas.{piece_got}
use Rattle.tv_program.specs.Steps.{State}
use Rattle.tv_meaning.specs.Meaning.{Holds}
use Rattle.tv_linear.specs.Linear.{IsMet}
use Rattle.tv_linear.specs.declared.region.Piece.{Piece}
use Rattle.tv_linear.specs.declared.region.Region.{Region}
use Rattle.tv_cases.specs.LinearCases.{CaseSystem, CaseSteps, IsCase}
use Rattle.tv_cases.proofs.ContainsLemmas.{Contains-here, Contains-later, Contains-cases, Contains-none}
use Rattle.tv_cert.specs.declared.node.Marked.{Marked}
use Rattle.tv_cert.specs.declared.node.Node.{Node}
use Rattle.tv_cert.specs.Claims.{about_with}
use Rattle.tv_cert.specs.Nodes.{pieces_of}
use Rattle.tv_cert.specs.Pieces as certificates
use Rattle.tv_cert.proofs.ShapeFits.{shape_fits}
use Rattle.tv_sound.proofs.NodesSound.{node_sound}
use Rattle.tv_sound.proofs.Soundness.{comparisons_show}
use Rattle.tv_known.specs.Cycles.{IsStateOf}
use Rattle.tv_formula.specs.Normal.{negation}
use Rattle.tv_meaning.proofs.Negation.{negation_excludes}
use Rattle.tv_known.specs.Laws.{Decides}
use Rattle.tv_known.specs.Rounds.{HoldSide, EndSides, RoundBy, must_end, FixRound, Goes}
use Rattle.tv_known.proofs.RoundLemmas.{stays_state}
use Rattle.tv_known.specs.Subformulas.{IsUnsettled}
use Rattle.tv_region.specs.Regions.{IsRegion}
use Rattle.tv_region.specs.StepRegions.{InState}
use Rattle.tv_rounds.specs.declared.fixed_point.FixedPoint.{FixedPoint}
use Rattle.tv_rounds.specs.Answers.{Differ}
use Rattle.tv_rounds.specs.Sides.{RoundOf}
use Rattle.tv_rounds.proofs.SetLemmas.{own_set, told}
use Rattle.tv_pre.specs.declared.sides.Sides.{Sides}
use Rattle.tv_pre.specs.Along.{IsOfSides, AreAtEnd, IsOpenAlong}
use Rattle.tv_pre.specs.Full.{IsFull, IsExactly}
use Rattle.tv_pre.specs.Parts.{IsPart}
use Rattle.tv_pre.specs.Pieces.{IsMarked, AreMarked}
use Rattle.tv_pre.proofs.FullLemmas.{full_has_all}
use Rattle.tv_pre.proofs.SetLemmas.{hold_on}
use Rattle.tv_pre.proofs.OppositeRounds.{opposite_open}
use Rattle.tv_pre.proofs.SettledRounds.{fix_settled_same, round_wider}
use Rattle.tv_pre.proofs.SideLemmas.{hold_in}

module _ (about : CaseSystem) where
  marked_has : (ps : List Marked) (qs : List Piece) (q : Piece) → AreMarked ps qs → Contains qs q → (p : Marked) × Contains ps p × IsMarked p q
  marked_has [] [] q h m = absurd (Contains-none q m)
  marked_has [] (y ∷ qs) q h m = absurd h
  marked_has (p ∷ ps) [] q h m = absurd h
  marked_has (p ∷ ps) (y ∷ qs) q h m = elim (Contains-cases y q qs m) [
    | inl e ↦ (p, Contains-here p ps, subst (IsMarked p) e h.0)
    | inr n ↦ (let w = marked_has ps qs q h.1 n in (w.0, Contains-later p w.0 ps w.1, w.2))
  ]

  node_has : (f : Property) (region : Region) (node : Node) → IsPart about f region node → (s : State) → InState region s → certificates.InPieces (pieces_of node) s
  node_has f region node part s m =
      let w = marked_has (pieces_of node) region.pieces.items m.0 part.pieces m.1 in
      record {
        piece = w.0;
        among = w.1;
        inside = record { place = m.2.place ∙ sym w.2.0; rows = subst (All (IsMet s.values)) (sym w.2.1) m.2.inside };
      }

  -- the region has only states where the formula holds
  pub part_right : (f : Property) (region : Region) (node : Node) → IsPart about f region node → (s : State) → IsStateOf about s → InState region s → Holds (CaseSteps about) f s
  part_right f region node part s is m =
      node_sound (about_with about) (comparisons_show about) 0 f node (shape_fits (about_with about) f node part.shows.shape) (part.shows.met 0) s is.values (node_has f region node part s m)

  pub part_exact : (f : Property) (region : Region) (node : Node) → IsRegion about.variables about.locations region → IsPart about f region node → IsFull about f region → IsExactly about f region
  part_exact f region node over part full s is = (λ m. part_right f region node part s is m, λ h. full_has_all about f region over full s is h)

  -- where a node ranks all states, every run ends
  pub ranked_end : (node : Node) → IsRankedNode about node → (s : State) → IsStateOf about s → Ends (CaseSteps about) s
  ranked_end node h s is =
      let p = h.pieces s.location is.location in
      let got = piece_got (pieces_of node) s.location 0 p.piece p.first in
      node_sound (about_with about) (comparisons_show about) 0 term node (shape_fits (about_with about) term node h.fits.shape) (h.met 0) s is.values (record {
        piece = p.piece;
        among = got.1;
        inside = record { place = sym got.0; rows = subst (All (IsMet s.values)) (sym p.has) (All-nil (IsMet s.values)) };
      })

  -- each state is in the region, or one where the negation holds
  in_or_denied : (f : Property) (region : Region) → IsRegion about.variables about.locations region → IsFull about f region → (s : State) → IsStateOf about s → InState region s ⊎ Holds (CaseSteps about) (negation f) s
  in_or_denied f region over full s is = elim (told about (InState region) region (own_set about region over) s is) [ inl m ↦ inl m | inr n ↦ inr (full s is n) ]

  module _ (cases : All (IsCase about.variables about.locations) about.cases) where
    -- where the regions of the arguments are exact, and a round of them differs from the next one, that of the arguments is not settled
    module _ (path : Path) (shape : Shape) (f k : Property) (a b : Region) (first : IsExactly about f a) (second : IsExactly about k b) (last : ℕ)
        (differs : Differ about (FixRound about path shape (InState a) (InState b) last) (FixRound about path shape (InState a) (InState b) (suc last))) where
      pub fix_open : IsUnsettled about last (fix path shape f k)
      fix_open settled =
          let same = fix_settled_same about cases path shape (InState a) (InState b) (λ s. Holds (CaseSteps about) f s) (λ s. Holds (CaseSteps about) k s) first second last settled in
          elim differs.1 [ inl o ↦ o.outside ((same differs.0 o.state).0 o.inside) | inr o ↦ o.outside ((same differs.0 o.state).1 o.inside) ]

      -- nor is that of the negation
      pub denied_open : IsRegion about.variables about.locations a → IsRegion about.variables about.locations b → IsFull about f a → IsFull about k b → Decides about (Goes about) → IsUnsettled about last (negation (fix path shape f k))
      denied_open over_first over_second full_first full_second goes settled =
          opposite_open about cases (InState a) (InState b) (λ s. Holds (CaseSteps about) (negation f) s) (λ s. Holds (CaseSteps about) (negation k) s)
          (λ s is x y. negation_excludes (CaseSteps about) f s y ((first s is).0 x)) (λ s is x y. negation_excludes (CaseSteps about) k s y ((second s is).0 x))
          (λ s is. in_or_denied f a over_first full_first s is) (λ s is. in_or_denied k b over_second full_second s is) goes last path shape
          differs.0 (elim differs.1 [ inl o ↦ o.state | inr o ↦ o.state ])
          (elim differs.1 [ inl o ↦ inl (o.inside, o.outside) | inr o ↦ inr (o.inside, o.outside) ]) settled

    -- the rounds of a fixpoint of these sides differ where those of the regions of the arguments do
    module _ (sides : Sides) (end : Region) (point : FixedPoint) (of : IsOfSides sides end point) (ends : AreAtEnd about sides end) where
      pub way_same : (s : State) → IsStateOf about s → InState point.hold.now s ↔ HoldSide sides.shape (InState sides.first.now) (InState sides.second.now) s
      way_same s is = (
        λ m. hold_on sides.shape sides.first.now sides.second.now s (subst (λ r. InState r s) of.hold m),
        λ m. subst (λ r. InState r s) (sym of.hold) (hold_in sides.shape sides.first.now sides.second.now s m),
      )

      pub end_same : (s : State) → IsStateOf about s → InState point.end.now s ↔ EndSides sides.shape (InState sides.first.now) (InState sides.second.now) s
      end_same s is = (λ m. ends.right s is (subst (λ r. InState r s) of.ends m), λ m. subst (λ r. InState r s) (sym of.ends) (ends.all tt s is m))

      pub to_sides : (j : ℕ) (s : State) → IsStateOf about s → RoundOf (must_end sides.shape) about point j s → FixRound about sides.path sides.shape (InState sides.first.now) (InState sides.second.now) j s
      to_sides j s is r =
          round_wider (CaseSteps about) (IsStateOf about) (λ t u q st. stays_state about cases t u q st) sides.path (InState point.hold.now) (InState point.end.now)
          (HoldSide sides.shape (InState sides.first.now) (InState sides.second.now)) (EndSides sides.shape (InState sides.first.now) (InState sides.second.now))
          (λ t q x. (way_same t q).0 x) (λ t q x. (end_same t q).0 x) (must_end sides.shape) j s is
          (subst (λ (q : Path). RoundBy (must_end sides.shape) (CaseSteps about) q (InState point.hold.now) (InState point.end.now) j s) of.path r)

      pub from_sides : (j : ℕ) (s : State) → IsStateOf about s → FixRound about sides.path sides.shape (InState sides.first.now) (InState sides.second.now) j s → RoundOf (must_end sides.shape) about point j s
      from_sides j s is r =
          subst (λ (q : Path). RoundBy (must_end sides.shape) (CaseSteps about) q (InState point.hold.now) (InState point.end.now) j s) (sym of.path)
          (round_wider (CaseSteps about) (IsStateOf about) (λ t u q st. stays_state about cases t u q st) sides.path
          (HoldSide sides.shape (InState sides.first.now) (InState sides.second.now)) (EndSides sides.shape (InState sides.first.now) (InState sides.second.now))
          (InState point.hold.now) (InState point.end.now)
          (λ t q x. (way_same t q).1 x) (λ t q x. (end_same t q).1 x) (must_end sides.shape) j s is r)

      pub open_sides : (last : ℕ) → Differ about (RoundOf (must_end sides.shape) about point last) (RoundOf (must_end sides.shape) about point (suc last)) → IsOpenAlong about last sides
      open_sides last d = (
        d.0,
        elim d.1 [
          | inl o ↦ inl (record { state = o.state; inside = to_sides last d.0 o.state o.inside; outside = λ r. o.outside (from_sides (suc last) d.0 o.state r) })
          | inr o ↦ inr (record { state = o.state; inside = to_sides (suc last) d.0 o.state o.inside; outside = λ r. o.outside (from_sides last d.0 o.state r) })
        ],
      )
