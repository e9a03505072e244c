-- What is offered for an obligation, where all of a list are met.
use Rattle.std.proofs.Common.{◌≡◌, ℕ, zero, suc, List, [], ◌∷◌, ◌++◌, Option, None, Some, arith, refl, ap, ◌∙◌, length, drop}
use Rattle.std.specs.Prelude.{Contains}
use Rattle.std.specs.List.{flat_map}
use Rattle.std.proofs.lemmas.List.Elements.{Contains-append_left, Contains-append_right}
use Rattle.tv_linear.specs.declared.cover.CoverTree.{CoverTree}
use Rattle.tv_linear.specs.Known.{Known}
use Rattle.tv_linear.specs.Covers.{IsMetCover}
use Rattle.tv_linear.proofs.ListLaws.{drop_past}
use Rattle.tv_cert.specs.declared.node.Proof.{Proof}
use Rattle.tv_cert.specs.declared.node.Proof.TheVariants.{Covered, Chosen}
use Rattle.tv_cert.specs.Obligations.{Obligation, a_cover, OwedMet, Entry, AllMet, paired}

pub Contains-flat_map : {A B : Type 0} (f : A → List B) (xs : List A) (x : A) (y : B) → Contains xs x → Contains (f x) y → Contains (flat_map f xs) y
Contains-flat_map f [] x y c d = absurd (omega arith)
Contains-flat_map f (a ∷ xs) x y (zero, l, e) d = Contains-append_left (f a) (flat_map f xs) y (rw e d)
Contains-flat_map f (a ∷ xs) x y (suc k, l, e) d = Contains-append_right (f a) (flat_map f xs) y (Contains-flat_map f xs x y (k, omega arith, e) d)

-- something meets each obligation of the list
pub paired_some : (os : List Obligation) (proofs : List Proof) (o : Obligation) → AllMet (paired os proofs) → Contains os o → (p : Option Proof) × OwedMet o.owed p
paired_some [] proofs o h c = absurd (omega arith)
paired_some (x ∷ os) [] o h (zero, l, e) = (None, rw (← e) h.0)
paired_some (x ∷ os) [] o h (suc k, l, e) = paired_some os [] o h.1 (k, omega arith, e)
paired_some (x ∷ os) (q ∷ proofs) o h (zero, l, e) = (Some q, rw (← e) h.0)
paired_some (x ∷ os) (q ∷ proofs) o h (suc k, l, e) = paired_some os proofs o h.1 (k, omega arith, e)

pub cover_shown : (n : ℕ) (known : List Known) (owed : ℕ → ℕ → Option (List Known)) (proof : Option Proof) → OwedMet (a_cover n known owed) proof → (tree : CoverTree) × IsMetCover n owed known tree
cover_shown n known owed None h = absurd h
cover_shown n known owed (Some (Covered tree)) h = (tree, h)
cover_shown n known owed (Some (Chosen tree)) h = absurd h

-- the entries of two lists one after the other
pub paired_append : (os qs : List Obligation) (proofs : List Proof) → paired (os ++ qs) proofs ≡ paired os proofs ++ paired qs (drop (length os) proofs)
paired_append [] qs proofs = refl
paired_append (o ∷ os) qs [] = ap (λ es. record { obligation = o; proof = None } ∷ es) (paired_append os qs [] ∙ ap (λ ps. paired os [] ++ paired qs ps) (drop_past {A = Proof} [] (length os) (omega arith)))
paired_append (o ∷ os) qs (p ∷ proofs) = ap (λ es. record { obligation = o; proof = Some p } ∷ es) (paired_append os qs proofs)

pub AllMet-left : (es fs : List Entry) → AllMet (es ++ fs) → AllMet es
AllMet-left [] fs h = tt
AllMet-left (e ∷ es) fs h = (h.0, AllMet-left es fs h.1)

pub AllMet-right : (es fs : List Entry) → AllMet (es ++ fs) → AllMet fs
AllMet-right [] fs h = h
AllMet-right (e ∷ es) fs h = AllMet-right es fs h.1
