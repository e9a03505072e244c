-- What is so of a proof is so of one that is the same.
use Rattle.std.proofs.Common.{◌≡◌, ◌≤◌, List, [], ◌∷◌, length, Some, sym, subst}
use Rattle.std.specs.List.{AllZip}
use Rattle.tv_cert.specs.declared.node.Proof.{Proof}
use Rattle.tv_cert.specs.declared.node.Proof.TheVariants.{Covered, Chosen}
use Rattle.tv_cert.specs.Obligations.{Obligation, Owed, a_cover, a_choice, a_point, OwedMet, AllMet, paired}
use Rattle.tv_cert.specs.Shapes.{owed_count, ProofShape}
use Rattle.tv_shape.specs.Depths.{proof_splits}
use Rattle.tv_shape.specs.Narrow.{ProofNarrow}
use Rattle.tv_copy.specs.SameProofs.{SameProof}
use Rattle.tv_copy.proofs.CoverLaws.{cover_met, cover_shaped, cover_splits, cover_narrow}
use Rattle.tv_copy.proofs.ChoiceLaws.{choice_met, choice_shaped, choice_splits_same, choice_narrow}

pub proof_met : (o : Owed) (p q : Proof) → SameProof p q → OwedMet o (Some p) → OwedMet o (Some q)
proof_met (a_cover n known owed) (Covered a) (Covered b) same h = cover_met n owed known a b same h
proof_met (a_cover n known owed) (Covered a) (Chosen b) same h = absurd same
proof_met (a_cover n known owed) (Chosen a) q same h = absurd h
proof_met (a_choice n cases l stop owed known) (Covered a) q same h = absurd h
proof_met (a_choice n cases l stop owed known) (Chosen a) (Covered b) same h = absurd same
proof_met (a_choice n cases l stop owed known) (Chosen a) (Chosen b) same h = choice_met n cases l stop owed known a b same h
proof_met (a_point xs rows) p q same h = h

pub proof_shaped : (o : Owed) (p q : Proof) → SameProof p q → ProofShape o p → ProofShape o q
proof_shaped (a_cover n known owed) (Covered a) (Covered b) same h =
    (cover_shaped n (owed_count owed) (length known) a b same h.0, subst (λ m. m ≤ 128) (sym (cover_splits a b same)) h.1)
proof_shaped (a_cover n known owed) (Covered a) (Chosen b) same h = absurd same
proof_shaped (a_cover n known owed) (Chosen a) q same h = absurd h
proof_shaped (a_choice n cases l stop owed known) (Covered a) q same h = absurd h
proof_shaped (a_choice n cases l stop owed known) (Chosen a) (Covered b) same h = absurd same
proof_shaped (a_choice n cases l stop owed known) (Chosen a) (Chosen b) same h =
    (choice_shaped n cases l stop owed (length known) a b same h.0, subst (λ m. m ≤ 128) (sym (choice_splits_same a b same)) h.1)
proof_shaped (a_point xs rows) p q same h = absurd h

pub proof_splits_same : (p q : Proof) → SameProof p q → proof_splits q ≡ proof_splits p
proof_splits_same (Covered a) (Covered b) same = cover_splits a b same
proof_splits_same (Covered a) (Chosen b) same = absurd same
proof_splits_same (Chosen a) (Covered b) same = absurd same
proof_splits_same (Chosen a) (Chosen b) same = choice_splits_same a b same

pub proof_narrow : (p q : Proof) → SameProof p q → ProofNarrow p → ProofNarrow q
proof_narrow (Covered a) (Covered b) same h = cover_narrow a b same h
proof_narrow (Covered a) (Chosen b) same h = absurd same
proof_narrow (Chosen a) (Covered b) same h = absurd same
proof_narrow (Chosen a) (Chosen b) same h = choice_narrow a b same h

-- where the proofs meet their obligations, so do those that are the same
pub paired_met : (os : List Obligation) (proofs others : List Proof) → AllZip SameProof proofs others → AllMet (paired os proofs) → AllMet (paired os others)
paired_met [] proofs others same h = tt
paired_met (o ∷ os) [] [] same h = h
paired_met (o ∷ os) [] (q ∷ others) same h = absurd same
paired_met (o ∷ os) (p ∷ proofs) [] same h = absurd same
paired_met (o ∷ os) (p ∷ proofs) (q ∷ others) same h = (proof_met o.owed p q same.0 h.0, paired_met os proofs others same.1 h.1)
