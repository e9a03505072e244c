-- Covers are proofs of what is owed at the pieces of known rows.
use Rattle.std.proofs.Common.{◌≡◌, ℕ, zero, suc, ◌+◌, ◌<◌, ◌≤◌, List, [], length, map, Option, Some, refl, ap, ◌∙◌}
use Rattle.std.specs.Prelude.{slice_get}
use Rattle.std.proofs.lemmas.List.{append-nil}
use Rattle.std.proofs.lemmas.List.Elements.{All-nil, All-cons}
use Rattle.tv_linear.specs.Linear.{columns}
use Rattle.tv_linear.specs.Known.{Known, given, as_given}
use Rattle.tv_linear.specs.Covers.{no_target, IsMetCover}
use Rattle.tv_linear.specs.Depth.{splits}
use Rattle.tv_linear.specs.declared.cover.CoverTree.{CoverTree}
use Rattle.tv_cases.specs.LinearCases.{LinearCase}
use Rattle.tv_farkas.specs.Trees.{TreeRows}
use Rattle.tv_cert.specs.declared.node.Kind.TheVariants as kind
use Rattle.tv_cert.specs.declared.node.Proof.{Proof}
use Rattle.tv_cert.specs.declared.node.Proof.TheVariants.{Covered}
use Rattle.tv_cert.specs.Obligations.{case_change}
use Rattle.tv_cert.specs.Pieces.{place_of, pieces_at}
use Rattle.tv_cert.specs.Targets.{target_rows, owed_into, no_fall}
use Rattle.tv_shape.specs.Narrow.{CoverNarrow}
use Rattle.tv_rank.specs.Ways.{Way, way_of, rows_at, case_at}
use Rattle.tv_lexrank.specs.Closing.{owed_plain, changed, IsClosed}
use Rattle.tv_lexrank.specs.Known.{way_rows}
use Rattle.tv_lexrank.proofs.NodeLemmas.{met_weaker}
use Rattle.tv_lexrank.proofs.OfferLemmas.{met_shape}
use Rattle.tv_lexrank.proofs.SortLemmas.{of_case}
use Rattle.tv_points.specs.Nodes.{IsBare}
use Rattle.tv_points.proofs.BareMet.{bare_offered}
use Rattle.tv_settling.specs.Nodes.{system_of, known_piece, known_there, known_pieces, pieces_elsewhere, IsHoldProof, IsStepProof}
use Rattle.tv_settling.specs.declared.barrier.Barrier.{Barrier}
use Rattle.tv_settling.proofs.BelowLemmas.{AreAt, found, elsewhere_leads}

-- ---- that the states are not at the location
module _ (b : Barrier) where
  abbrev v : ℕ
  v = (system_of b).variables

  abbrev hold_owed : ℕ → ℕ → ℕ → Option (List Known)
  hold_owed l = owed_into (pieces_elsewhere b) l given no_fall

  pub bare_holds : (l : ℕ) (p : Proof) → l < (system_of b).locations → (l ≡ b.location → ⊥) → IsBare p → IsHoldProof b l p
  bare_holds l p inside other bare = λ number.
      bare_offered v (as_given (rows_at b.known.now.pieces.items l)) (hold_owed l) (elsewhere_leads v b.location (system_of b).locations l inside other) number kind.Hold p bare

  pub empty_holds : (tree : CoverTree) → IsMetCover v no_target (as_given (rows_at b.known.now.pieces.items b.location)) tree → splits tree ≤ 128 → TreeRows (λ r. columns r ≡ v) tree → CoverNarrow tree → IsHoldProof b b.location (Covered tree)
  empty_holds tree empty shallow even narrow = λ number.
      let rows = as_given (rows_at b.known.now.pieces.items b.location) in
      let met = met_weaker v no_target (hold_owed b.location) (λ k j more e. absurd cc) rows tree empty in
      record { shape = (met_shape v (hold_owed b.location) rows tree even met, shallow); met = met; narrow = narrow }

  -- ---- that a case leads into the known rows
  pub known_placed : (l : ℕ) → AreAt l (known_there b l)
  known_placed l = All-cons (λ p. place_of p ≡ l) (known_piece b l) [] refl (All-nil (λ p. place_of p ≡ l))

  pub known_found : (l : ℕ) → l < (system_of b).locations → slice_get (pieces_at (known_pieces b) l) 0 ≡ Some (known_piece b l)
  known_found l h = ap (λ ps. slice_get ps 0) (found (known_there b) known_placed (system_of b).locations l h)

  module _ (k : ℕ) (k_in : k < length (system_of b).cases) where
    abbrev w : Way
    w = way_of (system_of b).cases b.known.now.pieces.items k

    abbrev c : LinearCase
    c = case_at (system_of b).cases k

    abbrev step_owed : ℕ → ℕ → Option (List Known)
    step_owed = owed_into (known_pieces b) c.to (case_change v c) no_fall

    owed_there : (t j : ℕ) (rows : List Known) → owed_plain (map (changed v w) (rows_at b.known.now.pieces.items c.to)) t j ≡ Some rows → step_owed t j ≡ Some rows
    owed_there zero zero rows e =
        let enters = (of_case (system_of b) k b.about.now.are_cases k_in).enters in
        ap (λ z. target_rows (case_change v c) no_fall z 0) (known_found c.to enters)
        ∙ ap Some (append-nil (map (changed v w) (rows_at b.known.now.pieces.items c.to)))
        ∙ e
    owed_there zero (suc j) rows e = absurd cc
    owed_there (suc t) j rows e = absurd cc

    pub closed_shows : (tree : CoverTree) → IsClosed (system_of b) b.known.now.pieces.items k tree → CoverNarrow tree → IsStepProof b k (Covered tree)
    closed_shows tree h narrow = λ number.
        let n = v + c.draws in
        let met = met_weaker n (owed_plain (map (changed v w) (rows_at b.known.now.pieces.items c.to))) step_owed owed_there (way_rows w) tree h.met in
        record { shape = (met_shape n step_owed (way_rows w) tree h.even met, h.shallow); met = met; narrow = narrow }
