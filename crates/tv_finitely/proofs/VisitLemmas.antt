-- The visits by the rounds of all components.
use Rattle.std.proofs.Common.{◌≡◌, ℕ, zero, suc, List, [], ◌∷◌, Some, arith, sym, ap, ◌∙◌, subst}
use Rattle.std.specs.List.{AllZip}
use Rattle.std.proofs.lemmas.List.{append-nil}
use Rattle.tv_linear.specs.Known.{Known, given, as_given}
use Rattle.tv_linear.specs.declared.cover.CoverTree.{CoverTree}
use Rattle.tv_linear.specs.Covers.{IsMetCover}
use Rattle.tv_cert.specs.declared.node.Marked.{Marked}
use Rattle.tv_cert.specs.declared.node.Proof.{Proof}
use Rattle.tv_cert.specs.declared.node.Verdict.TheVariants.{Proved}
use Rattle.tv_cert.specs.AboutSystem.{about_of}
use Rattle.tv_cert.specs.Nodes.{root_entry}
use Rattle.tv_cert.specs.Obligations.{Obligation, AllMet, paired}
use Rattle.tv_cert.specs.Shapes.{ProofShape}
use Rattle.tv_cert.specs.Targets.{owed_into, target_rows, no_fall}
use Rattle.tv_cert.proofs.FailingLemmas.{all_join}
use Rattle.tv_rank.specs.Ways.{rows_at}
use Rattle.tv_lexrank.specs.Certified.{IsStartCover}
use Rattle.tv_lexrank.specs.Closing.{owed_plain}
use Rattle.tv_lexrank.proofs.NodeLemmas.{met_weaker}
use Rattle.tv_lexrank.proofs.OfferLemmas.{met_shape}
use Rattle.tv_finitely.specs.declared.ranking.Ranking.{Ranking}
use Rattle.tv_finitely.specs.Obligations.{VisitParts, steps_owed, visit_entries}
use Rattle.tv_finitely.specs.Proofs.{AreProofsBelow}
use Rattle.tv_finitely.specs.Ranked.{split_in, system_of, AreRanked, all_pieces, IsProvedBy}
use Rattle.tv_finitely.specs.Shapes.{VisitShape}
use Rattle.tv_finitely.proofs.PieceLemmas.{first_piece, pieces_shaped}

shaped : (os : List Obligation) (proofs : List Proof) → AllZip IsProvedBy os proofs → AllZip (λ o p. ProofShape o.owed p) os proofs
shaped [] [] h = tt
shaped [] (p ∷ proofs) h = absurd h
shaped (o ∷ os) [] h = absurd h
shaped (o ∷ os) (p ∷ proofs) h = (h.0.shape, shaped os proofs h.1)

all_met : (os : List Obligation) (proofs : List Proof) → AllZip IsProvedBy os proofs → AllMet (paired os proofs)
all_met [] [] h = tt
all_met [] (p ∷ proofs) h = absurd h
all_met (o ∷ os) [] h = absurd h
all_met (o ∷ os) (p ∷ proofs) h = (h.0.met, all_met os proofs h.1)

module _ (r : Ranking) (ranked : AreRanked r) (proofs : List Proof) (root : CoverTree) (below : AreProofsBelow r (system_of r).locations proofs) (begins : IsStartCover (system_of r).variables (rows_at r.known.now.pieces.items (system_of r).start) root) where
  abbrev v : ℕ
  v = (system_of r).variables

  abbrev start : ℕ
  start = (system_of r).start

  abbrev parts : VisitParts
  parts = record { pieces = all_pieces r; ranks = r.count; proofs = proofs; root = root }

  -- the start is covered by the piece there
  owed_start : (k j : ℕ) (rows : List Known) → owed_plain (as_given (rows_at r.known.now.pieces.items start)) k j ≡ Some rows → owed_into (all_pieces r) start given no_fall k j ≡ Some rows
  owed_start zero zero rows e =
      ap (λ z. target_rows given no_fall z 0) (first_piece r start r.about.now.cases.are_cases.starts)
      ∙ ap Some (append-nil (as_given (rows_at r.known.now.pieces.items start))) ∙ e
  owed_start zero (suc j) rows e = absurd cc
  owed_start (suc k) j rows e = absurd cc

  root_met : IsMetCover v (owed_into (all_pieces r) start given no_fall) [] root
  root_met = met_weaker v (owed_plain (as_given (rows_at r.known.now.pieces.items start))) (owed_into (all_pieces r) start given no_fall) owed_start [] root begins.met

  parts_shaped : VisitShape (split_in r) parts
  parts_shaped = record {
    each = pieces_shaped r ranked (system_of r).locations (omega arith);
    offered = shaped (steps_owed (split_in r) (all_pieces r)) proofs below;
    root = met_shape v (owed_into (all_pieces r) start given no_fall) [] root begins.even root_met;
  }

  parts_met : AllMet (visit_entries (split_in r) parts)
  parts_met = all_join (paired (steps_owed (split_in r) (all_pieces r)) proofs) (root_entry (about_of (system_of r)) (all_pieces r) (Proved root) ∷ []) (all_met (steps_owed (split_in r) (all_pieces r)) proofs below) (root_met, tt)

  -- whatever lists the pieces are
  pub visits_shaped : (pieces : List Marked) → pieces ≡ all_pieces r → VisitShape (split_in r) (record { pieces = pieces; ranks = r.count; proofs = proofs; root = root })
  visits_shaped pieces e = subst (λ z. VisitShape (split_in r) (record { pieces = z; ranks = r.count; proofs = proofs; root = root })) (sym e) parts_shaped

  pub visits_met : (pieces : List Marked) → pieces ≡ all_pieces r → AllMet (visit_entries (split_in r) (record { pieces = pieces; ranks = r.count; proofs = proofs; root = root }))
  visits_met pieces e = subst (λ z. AllMet (visit_entries (split_in r) (record { pieces = z; ranks = r.count; proofs = proofs; root = root }))) (sym e) parts_met
