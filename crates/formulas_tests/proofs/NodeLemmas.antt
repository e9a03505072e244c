-- What is asked of nodes that are made of small regions.
use Rattle.std.proofs.Common.{◌≡◌, List, [], ◌∷◌, sym, subst}
use Rattle.std.specs.Prelude.{All}
use Rattle.std.proofs.lemmas.List.Elements.{All-nil, All-cons}
use Rattle.tv_formula.specs.declared.tree.Path.TheVariants.{Every}
use Rattle.tv_linear.specs.declared.region.Piece.{Piece}
use Rattle.tv_linear.specs.declared.region.Region.{Region}
use Rattle.tv_cases.specs.LinearCases.{CaseSystem}
use Rattle.tv_cases.proofs.ContainsLemmas.{Contains-here}
use Rattle.tv_region.specs.Algebra.{IsBoth}
use Rattle.tv_region.specs.Regions.{IsRegion}
use Rattle.tv_region.specs.StepRegions.{InState, IsBeforeAll}
use Rattle.tv_rounds.specs.Calls.{IsNowhere}
use Rattle.tv_rounds.specs.Sides.{IsSetOf}
use Rattle.tv_rounds.proofs.SetLemmas.{own_set, both_set}
use Rattle.tv_pre.specs.declared.sides.Sides.{Sides}
use Rattle.tv_pre.specs.Along.{AreAtEnd}
use Rattle.tv_pre.specs.Ending.{AreEndLayers}
use Rattle.tv_pre.specs.Growing.{AreNextLayers}
use Rattle.tv_pre.specs.Inclusions.{OfPieces, LeadsTo}
use Rattle.tv_pre.specs.Parts.{joined_pieces}
use Rattle.tv_pre.specs.Pieces.{InPieces}
use Rattle.tv_pre.specs.RankedUntil.{AreComing}
use Rattle.tv_pre.proofs.SetLemmas.{in_joined, no_piece, every_before}

-- what is so of the one item of a list is so of all
pub all_of_one : {A : Type 0} (P : A → Type 0) (x : A) (xs : List A) → xs ≡ x ∷ [] → P x → All P xs
all_of_one P x xs e h = subst (All P) (sym e) (All-cons P x [] h (All-nil P))

module _ (about : CaseSystem) where
  -- ---- a region twice
  same_set : (a same : Region) → IsRegion about.variables about.locations a → IsBoth a a same → IsSetOf about (λ s. InState a s × InState a s) same
  same_set a same f b = both_set about (InState a) (InState a) a a same (own_set about a f) (own_set about a f) b

  pub same_over : (a same : Region) → IsRegion about.variables about.locations a → IsBoth a a same → IsRegion about.variables about.locations same
  same_over a same f b = (same_set a same f b).fits

  pub same_inside : (a same : Region) → IsRegion about.variables about.locations a → IsBoth a a same → OfPieces about same.pieces.items (InState a)
  same_inside a same f b s p m = (((same_set a same f b).same s p).0 m).0

  -- ---- one argument
  pub in_each : (qs : List Piece) (r : Region) (rs : List Region) → rs ≡ r ∷ [] → OfPieces about qs (InState r) → All (λ x. OfPieces about qs (InState x)) rs
  in_each qs r rs e h = all_of_one (λ x. OfPieces about qs (InState x)) r rs e h

  pub in_some : (qs : List Piece) (r : Region) (rs : List Region) → rs ≡ r ∷ [] → OfPieces about qs (InState r) → OfPieces about qs (InPieces (joined_pieces rs))
  in_some qs r rs e h = subst (λ xs. OfPieces about qs (InPieces (joined_pieces xs))) (sym e) (λ s p m. in_joined (r ∷ []) r s (Contains-here r []) (h s p m))

  -- ---- steps
  pub leads_before : (into back : Region) → IsBeforeAll about into back → OfPieces about back.pieces.items (LeadsTo about Every (InState into))
  leads_before into back b s p m = (every_before about into back b).right s p m

  pub stops_first : (none stops : Region) (layers : List Region) → IsNowhere about none → IsBeforeAll about none stops → layers ≡ stops ∷ [] → AreEndLayers about [] layers
  stops_first none stops layers n b e = subst (AreEndLayers about []) (sym e) (
    record {
      over = b.fits;
      leads = λ s p m t st. absurd (no_piece none.pieces.items t n.none (leads_before none stops b s p m t st));
    },
    tt,
  )

  -- ---- the end alone
  pub no_layers : (sides : Sides) (end : Region) (layers : List Region) → layers ≡ [] → AreNextLayers about sides end.pieces.items layers
  no_layers sides end layers e = subst (AreNextLayers about sides end.pieces.items) (sym e) tt

  pub none_come : (sides : Sides) (end none : Region) → AreAtEnd about sides end → IsNowhere about none → AreComing about sides end.pieces.items none.pieces.items (joined_pieces (end ∷ none ∷ []))
  none_come sides end none e n = record {
    ends = λ s p m. e.right s p m;
    hold = λ s p m. absurd (no_piece none.pieces.items s n.none m);
    goes = λ s p m. absurd (no_piece none.pieces.items s n.none m);
  }
