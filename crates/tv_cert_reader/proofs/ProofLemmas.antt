-- What a walk has done with the proofs of a node.
use Rattle.std.proofs.Common.{◌≡◌, Bool, true, false, List, [], ◌∷◌, ◌++◌, map, All, Option, Some, Ok, refl, sym, ap, ◌∙◌, subst, arith}
use Rattle.std.specs.List.{flat_map}
use Rattle.std.proofs.lemmas.List.{append_assoc, append-nil}
use Rattle.std.proofs.lemmas.List.Elements.{All-head, All-tail}
use Rattle.tv_grammar.specs.Reads.{fault, ◌>>=◌}
use Rattle.tv_grammar.specs.Langs.{mapped, each}
use Rattle.tv_lines.specs.Lines.{PlainLine}
use Rattle.tv_cert.specs.declared.node.Proof.{Proof}
use Rattle.tv_cert.specs.Obligations.{Obligation, Entry}
use Rattle.tv_cert.specs.Visits.{Passed, none, one, Stopped}
use Rattle.tv_cert_reader.specs.CertificateLines.{proof_lines}
use Rattle.tv_cert_reader.specs.Demands.{Demand, demand_of, IsDrawFree}
use Rattle.tv_cert_reader.specs.ChoiceGrammar.{demanded}
use Rattle.tv_cert_reader.proofs.CompleteReads.{then_read}
use Rattle.tv_cert_reader.proofs.CompleteCovers.{proof_read}
use Rattle.tv_cert_reader.specs.declared.failure.Failure.{Failure}
use Rattle.tv_cert_reader.specs.declared.failure.Failure.TheVariants.{Fault, Memory}
use Rattle.tv_cert_reader.specs.declared.walk.Walk.{Walk}
use Rattle.tv_cert_reader.specs.Reading.{FaultAt, FailsBy}
use Rattle.tv_cert_reader.specs.Proofs.{AreProofsOf}
use Rattle.tv_cert_reader.specs.Visits.{IsStopped}
use Rattle.tv_cert_reader.specs.Walks.{kept_proofs, at_end, further, IsPassed, AreTaken}
use Rattle.tv_cert_reader.proofs.ReadingLemmas.{takes_none, takes_both}

abbrev pub wanted : List Obligation → List Demand
wanted os = map (λ o. demand_of o.owed) os

-- the next one is not read
pub next_fault : (os left : List Obligation) (o : Obligation) (ps : List Proof) (now r : List PlainLine) (k : _) → All (λ q. IsDrawFree q.owed) (os ++ o ∷ left) → AreProofsOf os ps → (demanded false (demand_of o.owed)).read now ≡ fault k r → (each (demanded false) (wanted (os ++ o ∷ left))).read (flat_map proof_lines ps ++ now) ≡ fault k r
unfolding each
next_fault [] left o [] now r k free h e = ap (λ d. d >>= λ x. (mapped (λ xs. x.0 ∷ xs) (each (demanded false) (wanted left))).read x.1) e
next_fault [] left o (p ∷ ps) now r k free h e = absurd h
next_fault (q ∷ os) left o [] now r k free h e = absurd h
next_fault (q ∷ os) left o (p ∷ ps) now r k free h e =
    ap (each (demanded false) (wanted (q ∷ (os ++ o ∷ left)))).read (append_assoc (proof_lines p) (flat_map proof_lines ps) now)
    ∙ then_read (demanded false (demand_of q.owed)) (λ x. mapped (λ xs. x ∷ xs) (each (demanded false) (wanted (os ++ o ∷ left)))) (proof_lines p ++ (flat_map proof_lines ps ++ now)) tt (flat_map proof_lines ps ++ now)
    (proof_read false q.owed p (flat_map proof_lines ps ++ now) (All-head (λ x. IsDrawFree x.owed) q (os ++ o ∷ left) free) h.0)
    ∙ ap (λ d. d >>= λ y. Ok (tt ∷ y.0, y.1)) (next_fault os left o ps now r k (All-tail (λ x. IsDrawFree x.owed) q (os ++ o ∷ left) free) h.1 e)

-- ---- proofs that are handed on

module _ {T : Type 0} (takes : T → Entry → T → Type 0) (whole : Bool) where
  abbrev pub Passes : Walk T → Obligation → Walk T → Type 0
  Passes v o w = IsPassed takes whole o v w

  abbrev pub Stops : Walk T → Obligation → Walk T → Type 0
  Stops v o w = IsStopped o v.cursor w.failure

  kept_more : (b : Bool) (p : Proof) (ps : List Proof) → kept_proofs b (p ∷ []) ++ kept_proofs b ps ≡ kept_proofs b (p ∷ ps)
  kept_more true p ps = refl
  kept_more false p ps = refl

  kept_none : (b : Bool) → kept_proofs b [] ≡ []
  kept_none true = refl
  kept_none false = refl

  pub all_taken : (os : List Obligation) (v w : Walk T) → Passed Passes v os w → AreTaken takes whole os v w v.proofs.items w.proofs.items
  all_taken [] v w none = record {
    proofs = [];
    are = tt;
    took = takes_none v.cursor;
    taken = at_end;
    nodes = refl;
    kept = sym (ap (λ ps. v.proofs.items ++ ps) (kept_none whole) ∙ append-nil v.proofs.items);
  }
  all_taken (o ∷ os) v w (one {t = t} h rest) =
      let later = all_taken os t w rest in
      record {
        proofs = h.proof ∷ later.proofs;
        are = (h.is_proof, later.are);
        took = takes_both (proof_lines h.proof) (flat_map proof_lines later.proofs) v.cursor t.cursor w.cursor h.took later.took;
        taken = further h.taken later.taken;
        nodes = later.nodes ∙ h.nodes;
        kept = later.kept ∙ ap (λ ps. ps ++ kept_proofs whole later.proofs) h.kept ∙ append_assoc v.proofs.items (kept_proofs whole (h.proof ∷ [])) (kept_proofs whole later.proofs)
            ∙ ap (λ ps. v.proofs.items ++ ps) (kept_more whole h.proof later.proofs);
      }

  pub taking_stopped : (os : List Obligation) (v w : Walk T) → All (λ q. IsDrawFree q.owed) os → Stopped Passes Stops v os w → (failure : Failure) → w.failure ≡ Some failure → FailsBy (each (demanded false) (wanted os)) v.cursor failure
  taking_stopped os v w free h Memory told = tt
  taking_stopped os v w free h (Fault k number) told =
      let a = all_taken h.before v h.at h.passed in
      let same : h.stopped.failure ≡ Fault k number = the_same h.stopped.failure (Fault k number) (sym h.stopped.is_told ∙ told) in
      let f : FaultAt (demanded false (demand_of h.last.owed)) h.at.cursor k number = subst (λ x. FailsBy (demanded false (demand_of h.last.owed)) h.at.cursor x) same h.stopped.fails in
      record {
        rest = f.rest;
        read = ap (λ qs. (each (demanded false) (wanted qs)).read v.cursor.lines) h.parts ∙ ap (each (demanded false) (wanted (h.before ++ h.last ∷ h.after))).read a.took.lines
            ∙ next_fault h.before h.after h.last a.proofs h.at.cursor.lines f.rest k (subst (All (λ q. IsDrawFree q.owed)) h.parts free) a.are f.read;
        counted = (let e = a.took.last in let c = f.counted in omega (arith, e, c));
      }
    where
      the_same : (x y : Failure) → ◌≡◌ {A = Option Failure} (Some x) (Some y) → x ≡ y
      the_same x y e = cc
