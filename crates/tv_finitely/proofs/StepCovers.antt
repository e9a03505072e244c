-- The covers of the steps, and the proofs that they are.
use Rattle.std.proofs.Common.{◌≡◌, ℕ, suc, ◌+◌, ◌<◌, ◌≤◌, List, [], ◌∷◌, ◌++◌, length, map, take, Option, None, Some, Bool, arith, refl, sym, ap, ◌∙◌, subst, ℤ}
use Rattle.std.specs.Option.{option_map}
use Rattle.std.specs.List.{AllZip, flat_map}
use Rattle.std.proofs.lemmas.List.{append-nil, append_assoc}
use Rattle.std.proofs.lemmas.Grind.{flat_map-append}
use Rattle.std.proofs.Math.Seq.{take-length}
use Rattle.tv_linear.specs.Linear.{Linear}
use Rattle.tv_linear.specs.Known.{Known}
use Rattle.tv_linear.specs.Covers.{ShownAt, IsMetCover}
use Rattle.tv_linear.specs.declared.cover.CoverTree.{CoverTree}
use Rattle.tv_linear.specs.declared.cover.CoverTree as cover
use Rattle.tv_linear.specs.declared.region.Piece.{Piece}
use Rattle.tv_linear.proofs.ListLaws.{zip_both, take_more}
use Rattle.tv_cases.specs.LinearCases.{LinearCase}
use Rattle.tv_cert.specs.declared.node.Proof.{Proof}
use Rattle.tv_cert.specs.declared.node.Proof.TheVariants.{Covered}
use Rattle.tv_cert.specs.Obligations.{Obligation, case_change}
use Rattle.tv_cert.specs.Targets.{target_rows}
use Rattle.tv_rank.specs.Given.{lists}
use Rattle.tv_rank.specs.Ways.{Way, case_at, rows_at}
use Rattle.tv_lexrank.specs.declared.falling.Fall.{Fall}
use Rattle.tv_lexrank.specs.Closing.{IsClosed, owed_plain, changed}
use Rattle.tv_lexrank.specs.Falling.{HasFall}
use Rattle.tv_lexrank.specs.Known.{way_rows}
use Rattle.tv_lexrank.specs.Sorting.{IsNeverTaken}
use Rattle.tv_lexrank.specs.Steps.{IsRefutation}
use Rattle.tv_lexrank.proofs.OfferLemmas.{met_shape}
use Rattle.tv_lexrank.proofs.SortLemmas.{of_case}
use Rattle.tv_finitely.specs.declared.ranking.Ranking.{Ranking}
use Rattle.tv_finitely.specs.Kept.{visit_fall}
use Rattle.tv_finitely.specs.Obligations.{case_owes, piece_owes}
use Rattle.tv_finitely.specs.Proofs.{AreStepsOver, AreStepsOf, AreProofsBelow}
use Rattle.tv_finitely.specs.Ranked.{split_in, system_of, way_in, all_ranks, ranked_piece, ranked_pieces, all_pieces, fall_owed, FallsOver, owed_over, ShowsStep, IsProvedBy, owed_at, IsStepProof}
use Rattle.tv_finitely.specs.Splits.{marked_cases}
use Rattle.tv_finitely.specs.Walks.{marked_at}
use Rattle.tv_finitely.proofs.CaseLemmas.{one_owed, none_owed}
use Rattle.tv_finitely.proofs.MarkLemmas.{length_marked, marked_got}
use Rattle.tv_finitely.proofs.PieceLemmas.{first_piece}

module _ (r : Ranking) (k : ℕ) (k_in : k < length (system_of r).cases) where
  abbrev v : ℕ
  v = (system_of r).variables

  abbrev w : Way
  w = way_in r k

  abbrev n : ℕ
  n = v + w.taken.draws

  abbrev known : List Piece
  known = r.known.now.pieces.items

  abbrev into : List Linear
  into = rows_at known w.taken.to

  -- ---- covers
  owed_there : (j : ℕ) (falls : List Known) → fall_owed r k j ≡ Some falls → owed_over r k 0 j ≡ Some (map (changed v w) into ++ falls)
  owed_there j falls e =
      let change = case_change v w.taken in
      let enters = (of_case (system_of r) k r.about.now.cases.are_cases k_in).enters in
      ap (λ z. target_rows change (visit_fall (marked_at (split_in r) k).1 change (all_ranks r w.taken.from)) z j) (first_piece r w.taken.to enters)
      ∙ ap (option_map (λ falls. map (changed v w) into ++ falls)) e

  -- where a case leads into the known rows, and the lines show what is owed of the ranks, the cover with the lines is met
  pub falling_step : (fall : Fall) (base tree : CoverTree) → IsClosed (system_of r) known k base → FallsOver r k fall → HasFall fall 0 base tree → ShowsStep r k tree
  falling_step fall base tree leads falls h = record {
    met = by_falls (fall_owed r k fall.number) refl falls.shown;
    shallow = (let d = h.deep in let s = leads.shallow in omega (arith, d, s));
    even = h.even n leads.even;
  }
    where
      by_falls : (o : Option (List Known)) → fall_owed r k fall.number ≡ o → ShownAt n (way_rows w) o (lists fall.lines.items) → IsMetCover n (owed_over r k) (way_rows w) tree
      by_falls None e g = absurd g
      by_falls (Some rows) e g =
          subst (λ ks. IsMetCover n (owed_over r k) ks tree) (append-nil (way_rows w))
          (h.goes_on n (way_rows w) [] (map (changed v w) into) rows (owed_over r k) refl tt g (owed_there fall.number rows e)
          (subst (λ ks. IsMetCover n (owed_plain (map (changed v w) into)) ks base) (sym (append-nil (way_rows w))) leads.met))

  pub refuted_step : (ms : List ℤ) (tree : CoverTree) → IsRefutation ms tree → IsNeverTaken v w ms → ShowsStep r k tree
  refuted_step ms (cover.Split' q p a s b) h g = absurd h
  refuted_step ms (cover.Empty ns) h g = record { met = subst (IsNeverTaken v w) (sym h) g; shallow = (let z : 0 ≤ 128 = omega arith in z); even = tt }
  refuted_step ms (cover.Into target fall ls) h g = absurd h

  pub step_proved : (tree : CoverTree) → ShowsStep r k tree → IsStepProof r k (Covered tree)
  step_proved tree h = record {
    shape = (met_shape n (owed_over r k) (way_rows w) tree h.even h.met, h.shallow);
    met = h.met;
  }

-- ---- lists of proofs
module _ (r : Ranking) (l : ℕ) where
  abbrev owes : LinearCase × Bool → List Obligation
  owes m = case_owes (system_of r) (all_pieces r) (ranked_piece r l) m

  pub none_yet : (old new : List Proof) → new ≡ old → AreStepsOver r l [] old new
  none_yet old new e = record { more = []; parts = e ∙ sym (append-nil old); each = tt }

  -- one more case, from the location
  pub step_there : (k : ℕ) (p : Proof) (old new : List Proof) → (case_at (system_of r).cases k).from ≡ l → IsStepProof r k p → new ≡ old ++ p ∷ [] → AreStepsOver r l (marked_at (split_in r) k ∷ []) old new
  step_there k p old new e h m = record {
    more = p ∷ [];
    parts = m;
    each =
        subst (λ os. AllZip IsProvedBy (os ++ []) (p ∷ [])) (sym (one_owed (split_in r) (all_pieces r) (ranked_piece r l) k e))
        (subst (λ z. IsProvedBy (owed_at r z (marked_at (split_in r) k)) p) e h, tt);
  }

  -- one more case, from elsewhere
  pub step_elsewhere : (k : ℕ) (old new : List Proof) → ((case_at (system_of r).cases k).from ≡ l → ⊥) → new ≡ old → AreStepsOver r l (marked_at (split_in r) k ∷ []) old new
  step_elsewhere k old new n e = record {
    more = [];
    parts = e ∙ sym (append-nil old);
    each = subst (λ os. AllZip IsProvedBy (os ++ []) []) (sym (none_owed (split_in r) (all_pieces r) (ranked_piece r l) k n)) tt;
  }

  pub steps_joined : (xs ys : List (LinearCase × Bool)) (old mid new : List Proof) → AreStepsOver r l xs old mid → AreStepsOver r l ys mid new → AreStepsOver r l (xs ++ ys) old new
  steps_joined xs ys old mid new h g = record {
    more = h.more ++ g.more;
    parts = g.parts ∙ ap (λ z. z ++ g.more) h.parts ∙ append_assoc old h.more g.more;
    each =
        subst (λ os. AllZip IsProvedBy os (h.more ++ g.more)) (sym (flat_map-append owes xs ys))
        (zip_both IsProvedBy (flat_map owes xs) (flat_map owes ys) h.more g.more h.each g.each);
  }

  pub steps_more : (k : ℕ) (old mid new : List Proof) → k < length (system_of r).cases → AreStepsOver r l (take k (marked_cases (split_in r))) old mid → AreStepsOver r l (marked_at (split_in r) k ∷ []) mid new → AreStepsOver r l (take (k + 1) (marked_cases (split_in r))) old new
  steps_more k old mid new k_in h g =
      let s = split_in r in
      subst (λ z. AreStepsOver r l z old new) (sym (take_more (marked_cases s) k (marked_at s k) (marked_got s.system.cases s.enters k k_in)))
      (steps_joined (take k (marked_cases s)) (marked_at s k ∷ []) old mid new h g)

  pub all_steps : (k : ℕ) (old new : List Proof) → k ≡ length (system_of r).cases → AreStepsOver r l (take k (marked_cases (split_in r))) old new → AreStepsOf r l old new
  all_steps k old new e h =
      let s = split_in r in
      subst (λ z. AreStepsOver r l z old new) (ap (λ n. take n (marked_cases s)) (e ∙ sym (length_marked s.system.cases s.enters)) ∙ take-length (marked_cases s)) h

  -- one more location
  pub location_more : (front proofs : List Proof) → AreProofsBelow r l front → AreStepsOf r l front proofs → AreProofsBelow r (l + 1) proofs
  location_more front proofs h g =
      let f = piece_owes (split_in r) (all_pieces r) in
      subst (λ z. AreProofsBelow r z proofs) (let e : suc l ≡ l + 1 = omega arith in e)
      (subst (λ z. AllZip IsProvedBy (flat_map f (ranked_pieces r (suc l))) z) (sym g.parts)
      (subst (λ os. AllZip IsProvedBy os (front ++ g.more)) (sym (flat_map-append f (ranked_pieces r l) (ranked_piece r l ∷ []) ∙ ap (λ z. flat_map f (ranked_pieces r l) ++ z) (append-nil (f (ranked_piece r l)))))
      (zip_both IsProvedBy (flat_map f (ranked_pieces r l)) (f (ranked_piece r l)) front g.more h g.each)))
