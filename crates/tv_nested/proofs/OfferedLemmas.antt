-- The proofs of the node of nested terms.
use Rattle.std.proofs.Common.{◌≡◌, ℕ, suc, ◌+◌, ◌-◌, ◌<◌, List, [], ◌∷◌, ◌++◌, length, map, take, Option, None, Some, arith, refl, sym, ap, ◌∙◌, subst, append_assoc}
use Rattle.std.specs.Prelude.{slice_get}
use Rattle.std.specs.List.{AllZip, flat_map}
use Rattle.std.specs.Option.{option_map}
use Rattle.std.proofs.Math.Seq.{take-length}
use Rattle.std.proofs.lemmas.Grind.{flat_map-append}
use Rattle.std.proofs.lemmas.List.{append-nil, map_push}
use Rattle.std.proofs.lemmas.Option.{slice_get-map}
use Rattle.tv_linear.specs.Linear.{Linear}
use Rattle.tv_linear.specs.Known.{Known}
use Rattle.tv_linear.specs.declared.cover.CoverTree.{CoverTree}
use Rattle.tv_linear.proofs.ListLaws.{zip_push, zip_both, take_more}
use Rattle.tv_cases.specs.LinearCases.{LinearCase, leaving}
use Rattle.tv_cases.specs.Systems.{cases_of}
use Rattle.tv_cert.specs.declared.node.Marked.{Marked}
use Rattle.tv_cert.specs.declared.node.Proof.{Proof}
use Rattle.tv_cert.specs.declared.node.Proof.TheVariants.{Covered, Chosen}
use Rattle.tv_cert.specs.Claims.{about_with}
use Rattle.tv_cert.specs.Obligations.{case_change, step_fall}
use Rattle.tv_cert.specs.Shapes.{owed_count, CoverShape}
use Rattle.tv_cert.specs.Targets.{owed_into, target_rows, fall_from}
use Rattle.tv_shape.specs.Made.{IsOffered}
use Rattle.tv_rank.specs.Ways.{Way, case_at}
use Rattle.tv_lexrank.specs.Closing.{changed}
use Rattle.tv_lexrank.specs.Known.{way_rows}
use Rattle.tv_lexrank.specs.Pieces.{zero_ranks}
use Rattle.tv_lexrank.specs.Shown.{owed_fall}
use Rattle.tv_lexrank.specs.declared.shown.CaseShown.{CaseShown}
use Rattle.tv_lexrank.proofs.NodeLemmas.{fall_padded, met_weaker}
use Rattle.tv_lexrank.proofs.OfferLemmas.{met_shape}
use Rattle.tv_lexrank.proofs.SortLemmas.{of_case}
use Rattle.tv_lexrank.proofs.StandLemmas.{IsLeaving}
use Rattle.tv_nested.specs.declared.ranking.Ranking.{Ranking}
use Rattle.tv_nested.specs.Amounts.{amount_in}
use Rattle.tv_nested.specs.NodePieces.{piece_with, nested_piece, pieces_there, node_pieces, ArePieces}
use Rattle.tv_nested.specs.NodeProofs.{IsStepProof, step_owed, IsOfferedAt, AreStepsShown, owed_of, Offer, AreOffered}
use Rattle.tv_nested.specs.Ranks.{component_of, ranks_of, all_ranks, signs_at, way_from, ShowsCase, ShowsStep}
use Rattle.tv_nested.specs.Signs.{sign_rows, first_pieces, sign_pieces}
use Rattle.tv_nested.specs.Steps.{owed_rows, owed_signs, ShowsSignStep}

-- what is shown of a step, at the signs and the rows of a ranking
pub step_shown : (r : Ranking) (k q v before : ℕ) (c : LinearCase) (signs : List Linear) (shown : CaseShown) (tree : CoverTree) → v ≡ (cases_of r.about.now).variables → c ≡ case_at (cases_of r.about.now).cases k → signs ≡ signs_at r (case_at (cases_of r.about.now).cases k).to → before ≡ length (sign_rows (signs_at r (case_at (cases_of r.about.now).cases k).from) q) → ShowsSignStep v c signs before shown tree → ShowsCase r k q shown → ShowsStep r k q tree
step_shown r k q v before c signs shown tree a e b count h s =
    let case = case_at (cases_of r.about.now).cases k in
    let there : ShowsSignStep (cases_of r.about.now).variables (case_at (cases_of r.about.now).cases k) (signs_at r (case_at (cases_of r.about.now).cases k).to) before shown tree =
    subst (λ z. ShowsSignStep (cases_of r.about.now).variables z (signs_at r (case_at (cases_of r.about.now).cases k).to) before shown tree) e
    (subst (λ z. ShowsSignStep (cases_of r.about.now).variables c z before shown tree) b
    (subst (λ z. ShowsSignStep z c signs before shown tree) a h)) in
    there (sign_rows (signs_at r case.from) q) (ranks_of r case.from) (ranks_of r case.to) (sym count) s

-- ---- the step over a case, from a piece
module _ (r : Ranking) (k q : ℕ) (k_in : k < length (cases_of r.about.now).cases) (ps : List Marked) (pieces : ArePieces r ps) where
  abbrev v : ℕ
  v = (cases_of r.about.now).variables

  abbrev c : LinearCase
  c = case_at (cases_of r.about.now).cases k

  abbrev w : Way
  w = way_from r c q

  abbrev n : ℕ
  n = v + c.draws

  abbrev from : ℕ
  from = c.from

  abbrev to : ℕ
  to = c.to

  abbrev zeros_at : ℕ → List Linear
  zeros_at l = zero_ranks v (r.count - 1 - amount_in r.parts.now (component_of r l))

  abbrev paid : ℕ → ℕ → Option (List Known)
  paid = owed_signs v w (signs_at r to) (ranks_of r from) (ranks_of r to)

  abbrev owed : ℕ → ℕ → Option (List Known)
  owed = owed_into ps to (case_change v c) (step_fall (about_with (cases_of r.about.now)) (nested_piece r from q) c)

  -- the rows of a piece and of a fall
  abbrev rows_with : Option (List Linear) → ℕ → Option (List Known)
  rows_with o j = target_rows (case_change v c) (fall_from (case_change v c) (all_ranks r from)) (option_map (piece_with r to) o) j

  by_fall : (rows : List Linear) (j : ℕ) (o : Option (List Known)) (all : List Known) → owed_fall v w (ranks_of r from) (ranks_of r to) j ≡ o → option_map (λ falls. map (changed v w) rows ++ falls) o ≡ Some all → option_map (λ falls. map (changed v w) rows ++ falls) (owed_fall v w (all_ranks r from) (all_ranks r to) j) ≡ Some all
  by_fall rows j None all f g = absurd cc
  by_fall rows j (Some falls) all f g = ap (option_map (λ falls. map (changed v w) rows ++ falls)) (fall_padded v w (ranks_of r from) (ranks_of r to) (zeros_at from) (zeros_at to) j falls f) ∙ g

  by_rows : (o : Option (List Linear)) (j : ℕ) (all : List Known) → owed_rows v w o (owed_fall v w (ranks_of r from) (ranks_of r to) j) ≡ Some all → rows_with o j ≡ Some all
  by_rows None j all e = absurd cc
  by_rows (Some rows) j all e = by_fall rows j (owed_fall v w (ranks_of r from) (ranks_of r to) j) all refl e

  owed_all : (t j : ℕ) (rows : List Known) → paid t j ≡ Some rows → owed t j ≡ Some rows
  owed_all t j rows e =
      let enters = (of_case (cases_of r.about.now) k r.about.now.are_cases k_in).enters in
      subst (λ z. target_rows (case_change v c) (fall_from (case_change v c) (all_ranks r from)) z j ≡ Some rows) (sym (ap (λ z. slice_get z t) (pieces to enters) ∙ slice_get-map (piece_with r to) (sign_pieces (signs_at r to)) t))
      (by_rows (slice_get (sign_pieces (signs_at r to)) t) j rows e)

  pub step_offered : (number : ℕ) (tree : CoverTree) → ShowsStep r k q tree → IsOffered (step_owed r number ps from q (case_at (cases_of r.about.now).cases k)) (Covered tree)
  step_offered number tree h =
      let met = met_weaker n paid owed owed_all (way_rows w) tree h.met in
      record {
        shape = (subst (λ m. CoverShape n (owed_count owed) m tree) refl (met_shape n owed (way_rows w) tree h.even met), h.shallow);
        met = met;
        narrow = h.narrow;
      }

-- ---- the cases from a location, one after the other
proof_offered : (r : Ranking) (l q number : ℕ) (p : Proof) → number < length (cases_of r.about.now).cases → (case_at (cases_of r.about.now).cases number).from ≡ l → IsStepProof r number q p → IsOfferedAt r l q (case_at (cases_of r.about.now).cases number) p
proof_offered r l q number (Covered tree) k_in e h = λ n ps pieces. subst (λ z. IsOffered (step_owed r n ps z q (case_at (cases_of r.about.now).cases number)) (Covered tree)) e (step_offered r number q k_in ps pieces n tree h)
proof_offered r l q number (Chosen tree) k_in e h = absurd h

-- one more
pub steps_more : (r : Ranking) (l q k number : ℕ) (p : Proof) (old mid new : List Proof) → IsLeaving (cases_of r.about.now).cases l k number → IsStepProof r number q p → AreStepsShown r l q (take k (leaving l (cases_of r.about.now).cases)) old mid → new ≡ mid ++ p ∷ [] → AreStepsShown r l q (take (k + 1) (leaving l (cases_of r.about.now).cases)) old new
steps_more r l q k number p old mid new at shown h e = record {
  more = h.more ++ p ∷ [];
  parts = e ∙ ap (λ z. z ++ p ∷ []) h.parts ∙ append_assoc old h.more (p ∷ []);
  each = subst (λ z. AllZip (IsOfferedAt r l q) z (h.more ++ p ∷ [])) (sym (take_more (leaving l (cases_of r.about.now).cases) k (case_at (cases_of r.about.now).cases number) at.case))
      (zip_push (IsOfferedAt r l q) (take k (leaving l (cases_of r.about.now).cases)) h.more (case_at (cases_of r.about.now).cases number) p h.each (proof_offered r l q number p at.within at.leaves shown));
}

-- all of them
pub all_steps : (r : Ranking) (l q k : ℕ) (old new : List Proof) → k ≡ length (leaving l (cases_of r.about.now).cases) → AreStepsShown r l q (take k (leaving l (cases_of r.about.now).cases)) old new → AreStepsShown r l q (leaving l (cases_of r.about.now).cases) old new
all_steps r l q k old new e h = subst (λ z. AreStepsShown r l q z old new) (ap (λ n. take n (leaving l (cases_of r.about.now).cases)) e ∙ take-length (leaving l (cases_of r.about.now).cases)) h

-- ---- the pieces of a location, one after the other
steps_zip : (r : Ranking) (number l q : ℕ) (ps : List Marked) → ArePieces r ps → (cases : List LinearCase) (proofs : List Proof) → AllZip (IsOfferedAt r l q) cases proofs → AllZip IsOffered (map (step_owed r number ps l q) cases) proofs
steps_zip r number l q ps pieces [] [] h = tt
steps_zip r number l q ps pieces [] (p ∷ proofs) h = absurd h
steps_zip r number l q ps pieces (c ∷ cases) [] h = absurd h
steps_zip r number l q ps pieces (c ∷ cases) (p ∷ proofs) h = (h.0 number ps pieces, steps_zip r number l q ps pieces cases proofs h.1)

piece_offers : (r : Ranking) (l q : ℕ) (proofs : List Proof) → AllZip (IsOfferedAt r l q) (leaving l (cases_of r.about.now).cases) proofs → Offer r (nested_piece r l q ∷ []) proofs
piece_offers r l q proofs h = λ number ps pieces.
    subst (λ z. AllZip IsOffered z proofs) (sym (append-nil (owed_of r number ps (nested_piece r l q))))
    (steps_zip r number l q ps pieces (leaving l (cases_of r.about.now).cases) proofs h)

offer_both : (r : Ranking) (some others : List Marked) (front back : List Proof) → Offer r some front → Offer r others back → Offer r (some ++ others) (front ++ back)
offer_both r some others front back h g = λ number ps pieces.
    subst (λ z. AllZip IsOffered z (front ++ back)) (sym (flat_map-append (owed_of r number ps) some others))
    (zip_both IsOffered (flat_map (owed_of r number ps) some) (flat_map (owed_of r number ps) others) front back (h number ps pieces) (g number ps pieces))

pub none_offered : (r : Ranking) (proofs : List Proof) → AreOffered r [] proofs proofs
none_offered r proofs = record { more = []; parts = sym (append-nil proofs); offer = λ number ps pieces. tt }

pub pieces_more : (r : Ranking) (l q : ℕ) (old mid new : List Proof) → AreOffered r (map (piece_with r l) (first_pieces (signs_at r l) q)) old mid → AreStepsShown r l q (leaving l (cases_of r.about.now).cases) mid new → AreOffered r (map (piece_with r l) (first_pieces (signs_at r l) (q + 1))) old new
pieces_more r l q old mid new h g = record {
  more = h.more ++ g.more;
  parts = g.parts ∙ ap (λ z. z ++ g.more) h.parts ∙ append_assoc old h.more g.more;
  offer = subst (λ z. Offer r z (h.more ++ g.more)) (sym (ap (λ n. map (piece_with r l) (first_pieces (signs_at r l) n)) (let e : q + 1 ≡ suc q = omega arith in e) ∙ map_push (piece_with r l) (first_pieces (signs_at r l) q) (sign_rows (signs_at r l) q)))
      (offer_both r (map (piece_with r l) (first_pieces (signs_at r l) q)) (nested_piece r l q ∷ []) h.more g.more h.offer (piece_offers r l q g.more g.each));
}

pub all_pieces : (r : Ranking) (l q : ℕ) (old new : List Proof) → q ≡ length (signs_at r l) + 1 → AreOffered r (map (piece_with r l) (first_pieces (signs_at r l) q)) old new → AreOffered r (pieces_there r l) old new
all_pieces r l q old new e h = subst (λ n. AreOffered r (map (piece_with r l) (first_pieces (signs_at r l) n)) old new) (let f : q ≡ suc (length (signs_at r l)) = omega (arith, e) in f) h

-- ---- the locations, one after the other
pub locations_more : (r : Ranking) (l : ℕ) (mid new : List Proof) → Offer r (node_pieces r l) mid → AreOffered r (pieces_there r l) mid new → Offer r (node_pieces r (l + 1)) new
locations_more r l mid new h g =
    subst (λ n. Offer r (node_pieces r n) new) (let e : suc l ≡ l + 1 = omega arith in e)
    (subst (Offer r (node_pieces r l ++ pieces_there r l)) (sym g.parts) (offer_both r (node_pieces r l) (pieces_there r l) mid g.more h g.offer))
