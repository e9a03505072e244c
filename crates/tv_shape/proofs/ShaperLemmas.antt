-- What a shaper shows that went over obligations.
use Rattle.std.proofs.Common.{◌≡◌, ◌↔◌, suc, length, List, [], ◌∷◌, ◌++◌, drop, arith, refl, sym, ap, subst}
use Rattle.std.specs.List.{AllZip}
use Rattle.tv_cert.specs.declared.node.Proof.{Proof}
use Rattle.tv_cert.specs.Obligations.{Obligation}
use Rattle.tv_cert.specs.Shapes.{ProofShape}
use Rattle.tv_cert.specs.declared.aim.Aim.{Aim}
use Rattle.tv_cert.specs.AimViews.{aims_state}
use Rattle.tv_cert.specs.Statements.{count}
use Rattle.tv_cert.specs.Visits.{Passed, none, one, Stopped}
use Rattle.tv_shape.specs.declared.shaper.Shaper.{Shaper}
use Rattle.tv_shape.specs.Offered.{FirstShape}
use Rattle.std.proofs.lemmas.List.{append-nil}

abbrev pub Takes : Shaper → Obligation → Shaper → Type 0
Takes v o w = FirstShape o.owed v.proofs.now × (w.proofs.now ≡ drop 1 v.proofs.now)

abbrev pub Fails : Shaper → Obligation → Shaper → Type 0
Fails v o w = ¬ (FirstShape o.owed v.proofs.now)

abbrev pub Offered : List Obligation → List Proof → Type 0
Offered os proofs = AllZip (λ o p. ProofShape o.owed p) os proofs

one_taken : (o : Obligation) (os : List Obligation) (ps qs : List Proof) → FirstShape o.owed ps → qs ≡ drop 1 ps → Offered os qs ↔ Offered (o ∷ os) ps
one_taken o os [] qs h e = absurd h
one_taken o os (p ∷ ps) qs h e = (λ k. (h, subst (Offered os) e k), λ k. subst (Offered os) (sym e) k.1)

went : (os more : List Obligation) (v w : Shaper) → Passed Takes v os w → Offered more w.proofs.now ↔ Offered (os ++ more) v.proofs.now
went [] more v w none = (λ k. k, λ k. k)
went (o ∷ os) more v w (one {t = t} h rest) =
    let later = went os more t w rest in
    let here = one_taken o (os ++ more) v.proofs.now t.proofs.now h.0 h.1 in
    (λ k. here.0 (later.0 k), λ k. later.1 (here.1 k))

-- each obligation has its proof, where none is left
pub taken_all : (os : List Obligation) (v w : Shaper) → Passed Takes v os w → Offered [] w.proofs.now ↔ Offered os v.proofs.now
taken_all os v w h =
    let all = went os [] v w h in
    let same = ap (λ xs. Offered xs v.proofs.now) (append-nil os) in
    (λ k. subst (λ (x : Type 0). x) same (all.0 k), λ k. all.1 (subst (λ (x : Type 0). x) (sym same) k))

first_is : (o : Obligation) (os : List Obligation) (ps : List Proof) → Offered (o ∷ os) ps → FirstShape o.owed ps
first_is o os [] h = absurd h
first_is o os (p ∷ ps) h = h.0

-- some obligation has no proof of its shape
pub taken_fails : (os : List Obligation) (v w : Shaper) → Stopped Takes Fails v os w → Offered os v.proofs.now → ⊥
taken_fails os v w h all =
    let there = (went h.before (h.last ∷ h.after) v h.at h.passed).1 (subst (λ xs. Offered xs v.proofs.now) h.parts all) in
    h.stopped (first_is h.last h.after h.at.proofs.now there)

pub none_left : (ps : List Proof) → length ps ≡ 0 → Offered [] ps
none_left [] e = tt
none_left (p ∷ ps) e = absurd (omega (arith, e))

pub left_none : (ps : List Proof) → Offered [] ps → length ps ≡ 0
left_none [] h = refl
left_none (p ∷ ps) h = absurd h

-- as many statements as aims
pub aims_counted : (aims : List Aim) → count (aims_state aims) ≡ length aims
aims_counted [] = refl
aims_counted (a ∷ aims) = ap suc (aims_counted aims)
