-- What a piece owes over one case, and what is offered for it.
use Rattle.std.proofs.Common.{◌≡◌, ◌↔◌, ℕ, ◌+◌, ◌<◌, ◌≤◌, List, [], ◌∷◌, ◌++◌, length, drop, slice_get, Option, None, Some, Result, Ok, Err, Bool, true, false, IsTrue, arith, refl, sym, ap, ◌∙◌, subst, ◌==◌, cond}
use Rattle.std.specs.Prelude.{OnOk, MatchResult}
use Rattle.std.proofs.lemmas.Bool.{eq-eqb, eqb-true}
use Rattle.tv_linear.specs.Linear.{Linear}
use Rattle.tv_linear.specs.Known.{Known, given, as_given}
use Rattle.tv_linear.specs.Covers.{IsMetCover}
use Rattle.tv_linear.specs.Depth.{splits}
use Rattle.tv_linear.specs.declared.cover.CoverTree.{CoverTree}
use Rattle.tv_linear.proofs.ListLaws.{drop_past}
use Rattle.tv_cases.specs.LinearCases.{LinearCase, from_of}
use Rattle.tv_cases.proofs.LeavingLemmas.{first_left}
use Rattle.tv_cert.specs.declared.failing.Failing.{Failing}
use Rattle.tv_cert.specs.declared.node.Kind.TheVariants as kind
use Rattle.tv_cert.specs.declared.node.Marked.{Marked}
use Rattle.tv_cert.specs.declared.node.Proof.{Proof}
use Rattle.tv_cert.specs.declared.node.Proof.TheVariants.{Covered}
use Rattle.tv_cert.specs.FirstFailing.{IsFirstFailing}
use Rattle.tv_cert.specs.Obligations.{Obligation, OwedMet, AllMet, case_change, paired}
use Rattle.tv_cert.specs.Pieces.{place_of, ranks_of, rows_of}
use Rattle.tv_cert.specs.Shapes.{CoverShape, ProofShape, owed_count}
use Rattle.tv_cert.specs.Targets.{owed_into}
use Rattle.tv_rank.specs.Ways.{case_at}
use Rattle.tv_shape.proofs.OfferedLemmas.{cover_owed}
use Rattle.tv_finitely.specs.declared.entering.Entrance.{Entrance}
use Rattle.tv_finitely.specs.Entrances.{entrance_owes}
use Rattle.tv_finitely.specs.Kept.{visit_fall}
use Rattle.tv_finitely.specs.Obligations.{step_owed, case_owes}
use Rattle.tv_finitely.specs.Splits.{SplitSystem}
use Rattle.tv_finitely.specs.Walks.{marked_at, Offered, IsShaped, IsSettledFrom}
use Rattle.tv_finitely.proofs.EntranceLemmas.{count_same}

-- ---- one obligation

one_fails : (o : Obligation) (met : ℕ) (ps : List Proof) → o.node ≡ 0 → o.kind ≡ kind.Step → (p : Option Proof) → (OwedMet o.owed p → ⊥) → paired (o ∷ []) ps ≡ record { obligation = o; proof = p } ∷ [] → IsFirstFailing (paired (o ∷ []) ps) met (record { number = met + 1; node = 0; kind = kind.Step })
one_fails o met ps node is p h e = record { before = []; failing = record { obligation = o; proof = p }; after = []; parts = e; met = tt; fails = h; number = omega arith; node = sym node; kind = sym is }

module _ (s : SplitSystem) (ps : List Marked) (p : Marked) (k : ℕ) where
  abbrev pub here : LinearCase × Bool
  here = marked_at s k

  abbrev owed : Obligation
  owed = step_owed s.system ps p here

  pub one_owed : from_of here.0 ≡ place_of p → case_owes s.system ps p here ≡ owed ∷ []
  one_owed e = ap (λ b. cond b (owed ∷ []) []) (eq-eqb (from_of here.0) (place_of p) e)

  by_test : (b : Bool) → (from_of here.0 == place_of p) ≡ b → (from_of here.0 ≡ place_of p → ⊥) → cond b (owed ∷ []) [] ≡ []
  by_test true e h = absurd (h (eqb-true (from_of here.0) (place_of p) e))
  by_test false e h = refl

  pub none_owed : (from_of here.0 ≡ place_of p → ⊥) → case_owes s.system ps p here ≡ []
  none_owed h = by_test (from_of here.0 == place_of p) refl h

  module _ (proofs : List Proof) (from : ℕ) where
    -- ---- what is settled
    nothing : (os : List Obligation) → os ≡ [] → from ≤ length proofs → IsSettledFrom os proofs from (Ok from)
    nothing os e h = subst (λ xs. IsSettledFrom xs proofs from (Ok from)) (sym e) (tt, omega arith, h)

    pub settled_nothing : (from_of here.0 ≡ place_of p → ⊥) → from ≤ length proofs → IsSettledFrom (case_owes s.system ps p here) proofs from (Ok from)
    settled_nothing h l = nothing (case_owes s.system ps p here) (none_owed h) l

    pub settled_missing : from_of here.0 ≡ place_of p → length proofs ≤ from → IsSettledFrom (case_owes s.system ps p here) proofs from (Err (record { number = from + 1; node = 0; kind = kind.Step }))
    settled_missing e l = subst (λ xs. IsSettledFrom xs proofs from (Err (record { number = from + 1; node = 0; kind = kind.Step }))) (sym (one_owed e))
        (one_fails owed from (drop from proofs) refl refl None (λ h. h) (ap (paired (owed ∷ [])) (drop_past proofs from l)))

    module _ (x : Proof) (at : slice_get proofs from ≡ Some x) where
      first : paired (owed ∷ []) (drop from proofs) ≡ record { obligation = owed; proof = Some x } ∷ []
      first = ap (paired (owed ∷ [])) (first_left proofs from x at)

      pub settled_met : from_of here.0 ≡ place_of p → OwedMet owed.owed (Some x) → from < length proofs → IsSettledFrom (case_owes s.system ps p here) proofs from (Ok (from + 1))
      settled_met e met l = subst (λ xs. IsSettledFrom xs proofs from (Ok (from + 1))) (sym (one_owed e))
          (subst (λ es. AllMet es) (sym first) (met, tt), omega arith, omega (arith, l))

      pub settled_unmet : from_of here.0 ≡ place_of p → (OwedMet owed.owed (Some x) → ⊥) → IsSettledFrom (case_owes s.system ps p here) proofs from (Err (record { number = from + 1; node = 0; kind = kind.Step }))
      settled_unmet e h = subst (λ xs. IsSettledFrom xs proofs from (Err (record { number = from + 1; node = 0; kind = kind.Step }))) (sym (one_owed e))
          (one_fails owed from (drop from proofs) refl refl (Some x) h first)

    -- ---- what has its shape
    pub shaped_nothing : (from_of here.0 ≡ place_of p → ⊥) → from ≤ length proofs → IsShaped (case_owes s.system ps p here) proofs from (Some from)
    shaped_nothing h l = subst (λ xs. IsShaped xs proofs from (Some from)) (sym (none_owed h)) (omega arith, l, λ more. (λ t. t, λ t. t))

    pub shaped_missing : from_of here.0 ≡ place_of p → length proofs ≤ from → IsShaped (case_owes s.system ps p here) proofs from None
    shaped_missing e l = subst (λ xs. IsShaped xs proofs from None) (sym (one_owed e)) (λ more t. subst (λ xs. Offered (owed ∷ more) xs) (drop_past proofs from l) t)

    module _ (x : Proof) (at : slice_get proofs from ≡ Some x) where
      begins : (more : List Obligation) → Offered (owed ∷ more) (drop from proofs) ≡ (ProofShape owed.owed x × Offered more (drop (from + 1) proofs))
      begins more = ap (λ xs. Offered (owed ∷ more) xs) (first_left proofs from x at)

      pub shaped_one : from_of here.0 ≡ place_of p → ProofShape owed.owed x → from < length proofs → IsShaped (case_owes s.system ps p here) proofs from (Some (from + 1))
      shaped_one e h l = subst (λ xs. IsShaped xs proofs from (Some (from + 1))) (sym (one_owed e))
          (omega arith, omega (arith, l), λ more. (λ t. subst (λ (z : Type 0). z) (sym (begins more)) (h, t), λ t. (subst (λ (z : Type 0). z) (begins more) t).1))

      pub shaped_other : from_of here.0 ≡ place_of p → (ProofShape owed.owed x → ⊥) → IsShaped (case_owes s.system ps p here) proofs from None
      shaped_other e h = subst (λ xs. IsShaped xs proofs from None) (sym (one_owed e)) (λ more t. h (subst (λ (z : Type 0). z) (begins more) t).0)

  -- ---- covers
  module _ (t : Bool) (columns : ℕ) (taken : LinearCase) (tree : CoverTree) (proof : Proof) (e : Entrance) (wide : columns ≡ s.system.variables) (is : taken ≡ case_at s.system.cases k) (covers : proof ≡ Covered tree) (into : (change : Linear → Known) → entrance_owes change e ≡ owed_into ps here.0.to change (visit_fall here.1 change (ranks_of p))) where
    pub cover_met : (IsTrue t ↔ IsMetCover (columns + taken.draws) (entrance_owes (case_change columns taken) e) (as_given (rows_of p) ++ as_given taken.guards) tree) → IsTrue t ↔ OwedMet owed.owed (Some proof)
    cover_met h =
        let a : IsMetCover (columns + taken.draws) (entrance_owes (case_change columns taken) e) (as_given (rows_of p) ++ as_given taken.guards) tree ≡ IsMetCover (s.system.variables + here.0.draws) (entrance_owes (case_change s.system.variables here.0) e) (as_given (rows_of p) ++ as_given here.0.guards) tree = (λ i. IsMetCover (wide i + (is i).draws) (entrance_owes (case_change (wide i) (is i)) e) (as_given (rows_of p) ++ as_given (is i).guards) tree) in
        let b : IsMetCover (s.system.variables + here.0.draws) (entrance_owes (case_change s.system.variables here.0) e) (as_given (rows_of p) ++ as_given here.0.guards) tree ≡ OwedMet owed.owed (Some (Covered tree)) = (λ i. IsMetCover (s.system.variables + here.0.draws) (into (case_change s.system.variables here.0) i) (as_given (rows_of p) ++ as_given here.0.guards) tree) in
        let c : OwedMet owed.owed (Some (Covered tree)) ≡ OwedMet owed.owed (Some proof) = ap (λ q. OwedMet owed.owed (Some q)) (sym covers) in
        subst (λ (x : Type 0). IsTrue t ↔ x) c (subst (λ (x : Type 0). IsTrue t ↔ x) b (subst (λ (x : Type 0). IsTrue t ↔ x) a h))

    pub cover_shaped : (known : ℕ) (wider : ℕ) → known ≡ length (as_given (rows_of p) ++ as_given taken.guards) → wider ≡ columns + taken.draws → splits tree ≤ 128 → (IsTrue t ↔ CoverShape wider (owed_count (entrance_owes given e)) known tree) → IsTrue t ↔ ProofShape owed.owed proof
    cover_shaped known wider many more shallow h =
        let change = case_change s.system.variables here.0 in
        subst (λ q. IsTrue t ↔ ProofShape owed.owed q) (sym covers)
        (cover_owed t wider (s.system.variables + here.0.draws) known (as_given (rows_of p) ++ as_given here.0.guards) (owed_into ps here.0.to change (visit_fall here.1 change (ranks_of p))) (owed_count (entrance_owes given e)) tree
        (more ∙ (λ i. wide i + (is i).draws)) (many ∙ ap (λ c. length (as_given (rows_of p) ++ as_given c.guards)) is)
        (λ i j. count_same e change i j ∙ ap (λ o. owed_count o i j) (into change)) shallow h)

pub on_ok : (A B : Type 0) (P : Failing → Type 0) (result : Result (Unit {0}) Failing) → MatchResult result (λ done. A) P → (A → B) → OnOk result B
on_ok A B P (Ok done) h f = f h
on_ok A B P (Err failing) h f = tt
