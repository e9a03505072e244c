-- What the proofs of a node show where its obligations are met.
use Rattle.std.proofs.Common.{◌≡◌, ℕ, zero, suc, List, [], ◌∷◌, length, Option, None, Some, Bool, All, arith, refl, sym, subst, ◌==◌}
use Rattle.std.specs.Prelude.{slice_get, Contains}
use Rattle.std.specs.List.{flat_map}
use Rattle.std.specs.Option.{option_map}
use Rattle.std.proofs.lemmas.Bool.{eq-eqb}
use Rattle.tv_linear.specs.declared.cover.CoverTree.{CoverTree}
use Rattle.tv_linear.specs.declared.choice.ChoiceTree.{ChoiceTree}
use Rattle.tv_linear.specs.Linear.{Linear}
use Rattle.tv_linear.specs.Known.{Known, given, IsKnownMet, as_given}
use Rattle.tv_linear.specs.Covers.{IsMetCover}
use Rattle.tv_linear.proofs.Covered.{covered}
use Rattle.tv_linear.proofs.ListLaws.{contains_at}
use Rattle.tv_program.specs.Steps.{State}
use Rattle.tv_cases.specs.LinearCases.{LinearCase, leaving}
use Rattle.tv_cert.specs.declared.node.Kind.{Kind}
use Rattle.tv_cert.specs.declared.node.Marked.{Marked}
use Rattle.tv_cert.specs.declared.node.Proof.{Proof}
use Rattle.tv_cert.specs.declared.node.Proof.TheVariants.{Covered, Chosen}
use Rattle.tv_cert.specs.Pieces.{place_of, rows_of, InMarked}
use Rattle.tv_cert.specs.Targets.{changed_lists}
use Rattle.tv_cert.specs.Choices.{IsMetChoice, ChoiceFits}
use Rattle.tv_cert.specs.Obligations.{About, a_cover, a_choice, Obligation, OwedMet, AllMet, cover_of, atom_of, step_of, steps_of, choice_of, paired}
use Rattle.tv_cert.specs.Fits.{ProofFits}
use Rattle.tv_cases.proofs.ContainsLemmas.{Contains-here, Contains-later, Contains-map, Contains-filter}
use Rattle.tv_sound.proofs.Membership.{Contains-flat_map}
use Rattle.tv_sound.proofs.Shown.{PieceCovered, AtomCovered, AllStepsCovered, HasChoice}
use Rattle.tv_sound.proofs.Entering.{seen}
use Rattle.tv_cases.proofs.OptionLemmas.{some_same, none_or_some}

-- an obligation and what meets it
pub record Met (o : Obligation) (proofs : List Proof) : Type 0 where
  pub proof : Option Proof
  pub met : OwedMet o.owed proof
  pub from : (p : Proof) → proof ≡ Some p → Contains proofs p

no_proof : (p : Proof) → ◌≡◌ {A = Option Proof} None (Some p) → ⊥
no_proof p e = cc

later : (q : Proof) (o : Obligation) (proofs : List Proof) → Met o proofs → Met o (q ∷ proofs)
later q o proofs h = record { proof = h.proof; met = h.met; from = λ p e. Contains-later q p proofs (h.from p e) }

pub paired_some : (os : List Obligation) (proofs : List Proof) (o : Obligation) → AllMet (paired os proofs) → Contains os o → Met o proofs
paired_some [] proofs o h c = absurd (omega arith)
paired_some (x ∷ os) [] o h (zero, l, e) = record { proof = None; met = subst (λ z. OwedMet z.owed None) e h.0; from = λ p k. absurd (no_proof p k) }
paired_some (x ∷ os) [] o h (suc k, l, e) = paired_some os [] o h.1 (k, omega arith, e)
paired_some (x ∷ os) (q ∷ proofs) o h (zero, l, e) = record { proof = Some q; met = subst (λ z. OwedMet z.owed (Some q)) e h.0; from = λ p k. subst (Contains (q ∷ proofs)) (some_same q p k) (Contains-here q proofs) }
paired_some (x ∷ os) (q ∷ proofs) o h (suc k, l, e) = later q o proofs (paired_some os proofs o h.1 (k, omega arith, e))

cover_shown : (n : ℕ) (known : List Known) (owed : ℕ → ℕ → Option (List Known)) (proof : Option Proof) → OwedMet (a_cover n known owed) proof → (tree : CoverTree) × IsMetCover n owed known tree
cover_shown n known owed None h = absurd h
cover_shown n known owed (Some (Covered tree)) h = (tree, h)
cover_shown n known owed (Some (Chosen tree)) h = absurd h

choice_shown : (n : ℕ) (cases : List LinearCase) (l : ℕ) (stop : Bool) (owed : LinearCase → List Linear → ℕ → ℕ → Option (List Known)) (known : List Known) (proofs : List Proof) → ((p : Proof) → Contains proofs p → ProofFits n p) → (proof : Option Proof) → ((p : Proof) → proof ≡ Some p → Contains proofs p) → OwedMet (a_choice n cases l stop owed known) proof → (tree : ChoiceTree) × ChoiceFits n tree × IsMetChoice n cases l stop owed known tree
choice_shown n cases l stop owed known proofs widths None from h = absurd h
choice_shown n cases l stop owed known proofs widths (Some (Covered tree)) from h = absurd h
choice_shown n cases l stop owed known proofs widths (Some (Chosen tree)) from h = (tree, widths (Chosen tree) (from (Chosen tree) refl), h)

module _ (number : ℕ) (about : About) (ps : List Marked) (os : Marked → List Obligation) (proofs : List Proof) (widths : (p : Proof) → Contains proofs p → ProofFits about.system.variables p) (met : AllMet (paired (flat_map os ps) proofs)) where
  found : (p : Marked) → Contains ps p → (o : Obligation) → Contains (os p) o → Met o proofs
  found p among o h = paired_some (flat_map os ps) proofs o met (Contains-flat_map os ps p o among h)

  pub has_cover : (k : Kind) (p : Marked) → Contains ps p → (into : List Marked) → Contains (os p) (cover_of number k about p into) → PieceCovered about.system.variables p into
  has_cover k p among into h = let w = found p among (cover_of number k about p into) h in let t = cover_shown _ _ _ w.proof w.met in record { tree = t.0; met = t.1 }

  pub has_atom : (p : Marked) → Contains ps p → (targets : List (List Linear)) → Contains (os p) (atom_of number about p targets) → AtomCovered about.system.variables p targets
  has_atom p among targets h = let w = found p among (atom_of number about p targets) h in let t = cover_shown _ _ _ w.proof w.met in record { tree = t.0; met = t.1 }

  pub has_steps : (p : Marked) → Contains ps p → (into : List Marked) (fall : LinearCase → Marked → ℕ → Option (List Known)) → ((o : Obligation) → Contains (steps_of number about p into fall) o → Contains (os p) o) → AllStepsCovered about.system.variables about.system.cases p into fall
  has_steps p among into fall within c ca from =
      let w = found p among (step_of number about p into fall c) (within _ (Contains-map (step_of number about p into fall) (leaving (place_of p) about.system.cases) c (Contains-filter (λ c. c.from == place_of p) about.system.cases c (eq-eqb c.from (place_of p) from) ca))) in
      let t = cover_shown _ _ _ w.proof w.met in
      record { tree = t.0; met = t.1 }

  pub has_choice : (k : Kind) (p : Marked) → Contains ps p → (stop : Bool) (owed : LinearCase → List Linear → ℕ → ℕ → Option (List Known)) → Contains (os p) (choice_of number k about p stop owed) → HasChoice about.system.variables about.system.cases p stop owed
  has_choice k p among stop owed h =
      let w = found p among (choice_of number k about p stop owed) h in
      let t = choice_shown about.system.variables about.system.cases (place_of p) stop owed (as_given (rows_of p)) proofs widths w.proof w.from w.met in
      record { tree = t.0; fits = t.1; met = t.2 }

-- ---- covers into lists of rows
target_is : (targets : List (List Linear)) (k : ℕ) (o : Option (List Linear)) (rows : List Known) → slice_get targets k ≡ o → option_map as_given o ≡ Some rows → (lines : List Linear) × Contains targets lines × (as_given lines ≡ rows)
target_is targets k None rows e h = absurd (none_or_some rows h)
target_is targets k (Some lines) rows e h = (lines, contains_at targets k lines e, some_same (as_given lines) rows h)

target_at : (targets : List (List Linear)) (k j : ℕ) (rows : List Known) → changed_lists given targets k j ≡ Some rows → (lines : List Linear) × Contains targets lines × (as_given lines ≡ rows)
target_at targets k zero rows h = target_is targets k (slice_get targets k) rows refl h
target_at targets k (suc j) rows h = absurd (none_or_some rows h)

-- a state of a piece with a met cover meets one of the lists
pub atom_meets : (n : ℕ) (p : Marked) (targets : List (List Linear)) → AtomCovered n p targets → (s : State) → length s.values ≡ n → InMarked p s → (lines : List Linear) × Contains targets lines × All (IsKnownMet s.values) (as_given lines)
atom_meets n p targets h s wide inside =
    let c = covered n (changed_lists given targets) (as_given (rows_of p)) h.tree s.values h.met wide (seen p s inside) in
    let t = target_at targets c.0 c.1 c.2 c.3 in
    (t.0, t.1, subst (All (IsKnownMet s.values)) (sym t.2) c.4)
