-- Proofs that are equal up to where their lists lie in memory.
use Rattle.std.specs.Prelude.{◌≡◌, List, map, ℤ}
use Rattle.std.specs.Global.{Vec}
use Rattle.std.specs.List.{AllZip}
use Rattle.tv_linear.specs.declared.cover.CoverTree.{CoverTree}
use Rattle.tv_linear.specs.declared.cover.CoverTree as cover
use Rattle.tv_linear.specs.declared.choice.ChoiceTree.{ChoiceTree}
use Rattle.tv_linear.specs.declared.choice.ChoiceTree as choice
use Rattle.tv_cert.specs.declared.node.Proof.{Proof}
use Rattle.tv_cert.specs.declared.node.Proof.TheVariants.{Covered, Chosen}

-- the numbers of each list
abbrev pub numbers_of : List (Vec ℤ) → List (List ℤ)
numbers_of lists = map (λ l. l.items) lists

-- the covers have the same rows, targets and multipliers at the same places
abbrev pub SameCover : CoverTree → CoverTree → Type 0
SameCover (cover.Split' r p a q b) (cover.Split' s t x u y) = (s ≡ r) × SameCover a x × SameCover b y
SameCover (cover.Split' r p a q b) (cover.Empty ns) = ⊥
SameCover (cover.Split' r p a q b) (cover.Into m i others) = ⊥
SameCover (cover.Empty ms) (cover.Split' s t x u y) = ⊥
SameCover (cover.Empty ms) (cover.Empty ns) = ns.items ≡ ms.items
SameCover (cover.Empty ms) (cover.Into m i others) = ⊥
SameCover (cover.Into k j lists) (cover.Split' s t x u y) = ⊥
SameCover (cover.Into k j lists) (cover.Empty ns) = ⊥
SameCover (cover.Into k j lists) (cover.Into m i others) = (m ≡ k) × (i ≡ j) × (numbers_of others.items ≡ numbers_of lists.items)

-- the choices have the same rows, cases, targets, terms and multipliers at the same places, and the same covers where there is no step
abbrev pub SameChoice : ChoiceTree → ChoiceTree → Type 0
SameChoice (choice.Split' r p a q b) (choice.Split' s t x u y) = (s ≡ r) × SameChoice a x × SameChoice b y
SameChoice (choice.Split' r p a q b) (choice.Empty ns) = ⊥
SameChoice (choice.Split' r p a q b) (choice.NoStep others) = ⊥
SameChoice (choice.Split' r p a q b) (choice.Take d m i terms others) = ⊥
SameChoice (choice.Empty ms) (choice.Split' s t x u y) = ⊥
SameChoice (choice.Empty ms) (choice.Empty ns) = ns.items ≡ ms.items
SameChoice (choice.Empty ms) (choice.NoStep others) = ⊥
SameChoice (choice.Empty ms) (choice.Take d m i terms others) = ⊥
SameChoice (choice.NoStep covers) (choice.Split' s t x u y) = ⊥
SameChoice (choice.NoStep covers) (choice.Empty ns) = ⊥
SameChoice (choice.NoStep covers) (choice.NoStep others) = AllZip SameCover covers.items others.items
SameChoice (choice.NoStep covers) (choice.Take d m i terms others) = ⊥
SameChoice (choice.Take c k j draws lists) (choice.Split' s t x u y) = ⊥
SameChoice (choice.Take c k j draws lists) (choice.Empty ns) = ⊥
SameChoice (choice.Take c k j draws lists) (choice.NoStep others) = ⊥
SameChoice (choice.Take c k j draws lists) (choice.Take d m i terms others) =
    (d ≡ c) × (m ≡ k) × (i ≡ j) × (terms.items ≡ draws.items) × (numbers_of others.items ≡ numbers_of lists.items)

-- both are covers, or both are choices, and they are the same
abbrev pub SameProof : Proof → Proof → Type 0
SameProof (Covered a) (Covered b) = SameCover a b
SameProof (Covered a) (Chosen b) = ⊥
SameProof (Chosen a) (Covered b) = ⊥
SameProof (Chosen a) (Chosen b) = SameChoice a b
