-- What a settler shows that went over obligations.
use Rattle.std.proofs.Common.{◌≡◌, ℕ, ◌+◌, List, [], ◌∷◌, ◌++◌, length, drop, Some, refl, sym, ap, ◌∙◌, subst, arith}
use Rattle.std.specs.Prelude.{Result, Ok, Err, MatchResult}
use Rattle.tv_cert.specs.declared.node.Proof.{Proof}
use Rattle.tv_cert.specs.Obligations.{Obligation, Entry, AllMet, IsMetEntry, OwedMet, paired}
use Rattle.tv_cert.specs.Visits.{Passed, none, one, Stopped}
use Rattle.tv_check.specs.declared.settler.Settler.{Settler}
use Rattle.tv_cert.specs.declared.failing.Failing.{Failing}
use Rattle.tv_cert.specs.FirstFailing.{IsFirstFailing}
use Rattle.tv_check.specs.Settling.{first_proof}
use Rattle.tv_cert.proofs.NodeLemmas.{length-paired}
use Rattle.tv_cert.proofs.FailingLemmas.{all_join, failing_right}

-- the obligation is met by the first proof, which is taken
abbrev pub Settles : Settler → Obligation → Settler → Type 0
Settles v o w = OwedMet o.owed (first_proof v.proofs.now) × (w.proofs.now ≡ drop 1 v.proofs.now) × (w.seen ≡ v.seen + 1)

abbrev pub Fails : Settler → Obligation → Settler → Type 0
Fails v o w = (¬ (OwedMet o.owed (first_proof v.proofs.now))) × (w.failing ≡ Some (record { number = v.seen + 1; node = o.node; kind = o.kind }))

paired-one : (o : Obligation) (os : List Obligation) (proofs : List Proof) → paired (o ∷ os) proofs ≡ record { obligation = o; proof = first_proof proofs } ∷ paired os (drop 1 proofs)
paired-one o os [] = refl
paired-one o os (p ∷ proofs) = refl

-- the entries that were passed, what is left of the proofs, and how many were seen
record Went (os more : List Obligation) (v w : Settler) : Type 0 where
  met : AllMet (paired os v.proofs.now)
  seen : w.seen ≡ v.seen + length os
  parts : paired (os ++ more) v.proofs.now ≡ paired os v.proofs.now ++ paired more w.proofs.now

went : (os more : List Obligation) (v w : Settler) → Passed Settles v os w → Went os more v w
went [] more v w none = record { met = tt; seen = omega arith; parts = refl }
went (o ∷ os) more v w (one {t = u} p h) =
    let later = went os more u w h in
    record {
      met = subst AllMet (sym (paired-one o os v.proofs.now ∙ ap (λ ps. record { obligation = o; proof = first_proof v.proofs.now } ∷ paired os ps) (sym p.1))) (p.0, later.met);
      seen = (let a = later.seen in let b = p.2 in omega (arith, a, b));
      parts =
          paired-one o (os ++ more) v.proofs.now
          ∙ ap (λ es. record { obligation = o; proof = first_proof v.proofs.now } ∷ es) (ap (paired (os ++ more)) (sym p.1) ∙ later.parts ∙ ap (λ ps. paired os ps ++ paired more w.proofs.now) p.1)
          ∙ ap (λ es. es ++ paired more w.proofs.now) (sym (paired-one o os v.proofs.now));
    }

-- all are met
pub settled_all : (os : List Obligation) (v w : Settler) → Passed Settles v os w → AllMet (paired os v.proofs.now) × (w.seen ≡ v.seen + length (paired os v.proofs.now))
settled_all os v w h =
    let all = went os [] v w h in
    (all.met, all.seen ∙ ap (λ n. v.seen + n) (sym (length-paired os v.proofs.now)))

-- the first that is not met is kept
pub settled_fails : (os : List Obligation) (v w : Settler) → Stopped Settles Fails v os w → (f : Failing) × (w.failing ≡ Some f) × IsFirstFailing (paired os v.proofs.now) v.seen f
settled_fails os v w h =
    let f : Failing = record { number = h.at.seen + 1; node = h.last.node; kind = h.last.kind } in
    let all = went h.before (h.last ∷ h.after) v h.at h.passed in
    let e : Entry = record { obligation = h.last; proof = first_proof h.at.proofs.now } in
    let parts = ap (λ xs. paired xs v.proofs.now) h.parts ∙ all.parts in
    let rest = paired-one h.last h.after h.at.proofs.now in
    let here : IsFirstFailing (paired (h.last ∷ h.after) h.at.proofs.now) h.at.seen f = record {
      before = [];
      failing = e;
      after = paired h.after (drop 1 h.at.proofs.now);
      parts = rest;
      met = tt;
      fails = h.stopped.0;
      number = omega arith;
      node = refl;
      kind = refl;
    } in
    (f, h.stopped.1, subst (λ es. IsFirstFailing es v.seen f) (sym parts) (failing_right (paired h.before v.proofs.now) (paired (h.last ∷ h.after) h.at.proofs.now) v.seen h.at.seen f all.met (all.seen ∙ ap (λ n. v.seen + n) (sym (length-paired h.before v.proofs.now))) here))

-- the last entry, after others that are met
pub last_settled : {A : Type 0} (es : List Entry) (e : Entry) (seen : ℕ) (result : Result A Failing) → AllMet es → seen ≡ 0 + length es → MatchResult result (λ done. IsMetEntry e) (λ f. (¬ (IsMetEntry e)) × (f ≡ record { number = seen + 1; node = e.obligation.node; kind = e.obligation.kind })) → MatchResult result (λ done. AllMet (es ++ e ∷ [])) (λ f. IsFirstFailing (es ++ e ∷ []) 0 f)
last_settled es e seen (Ok done) all count h = all_join es (e ∷ []) all (h, tt)
last_settled es e seen (Err f) all count h =
    failing_right es (e ∷ []) 0 seen f all count (record {
      before = [];
      failing = e;
      after = [];
      parts = refl;
      met = tt;
      fails = h.0;
      number = (let n = ap (λ g. g.number) h.1 in omega (arith, n));
      node = ap (λ g. g.node) h.1;
      kind = ap (λ g. g.kind) h.1;
    })
