-- A cover or a choice has the shape of what is owed.
use Rattle.std.proofs.Common.{◌≡◌, ◌↔◌, ℕ, ◌≤◌, Bool, IsTrue, List, length, Option, sym, subst}
use Rattle.tv_linear.specs.Linear.{Linear}
use Rattle.tv_linear.specs.Known.{Known}
use Rattle.tv_linear.specs.Depth.{splits}
use Rattle.tv_linear.specs.ChoiceDepth.{choice_splits}
use Rattle.tv_linear.specs.declared.cover.CoverTree.{CoverTree}
use Rattle.tv_linear.specs.declared.choice.ChoiceTree.{ChoiceTree}
use Rattle.tv_cases.specs.LinearCases.{LinearCase}
use Rattle.tv_cert.specs.declared.node.Proof.TheVariants.{Covered, Chosen}
use Rattle.tv_cert.specs.Obligations.{a_cover, a_choice}
use Rattle.tv_cert.specs.Shapes.{CoverShape, ChoiceShape, ProofShape, owed_count}

pub cover_owed : (t : Bool) (n m k : ℕ) (known : List Known) (owed : ℕ → ℕ → Option (List Known)) (counts : ℕ → ℕ → Option ℕ) (tree : CoverTree) → n ≡ m → k ≡ length known → ((i j : ℕ) → counts i j ≡ owed_count owed i j) → splits tree ≤ 128 → (IsTrue t ↔ CoverShape n counts k tree) → IsTrue t ↔ ProofShape (a_cover m known owed) (Covered tree)
cover_owed t n m k known owed counts tree p q same bounded h =
    let e : CoverShape n counts k tree ≡ CoverShape m (owed_count owed) (length known) tree = (λ i. CoverShape (p i) (λ x y. same x y i) (q i) tree) in
    (λ w. (subst (λ (x : Type 0). x) e (h.0 w), bounded), λ w. h.1 (subst (λ (x : Type 0). x) (sym e) w.0))

pub choice_owed : (t : Bool) (n l k : ℕ) (cases : List LinearCase) (known : List Known) (stop : Bool) (owed : LinearCase → List Linear → ℕ → ℕ → Option (List Known)) (tree : ChoiceTree) → k ≡ length known → choice_splits tree ≤ 128 → (IsTrue t ↔ ChoiceShape n cases l stop owed k tree) → IsTrue t ↔ ProofShape (a_choice n cases l stop owed known) (Chosen tree)
choice_owed t n l k cases known stop owed tree q bounded h =
    let e : ChoiceShape n cases l stop owed k tree ≡ ChoiceShape n cases l stop owed (length known) tree = (λ i. ChoiceShape n cases l stop owed (q i) tree) in
    (λ w. (subst (λ (x : Type 0). x) e (h.0 w), bounded), λ w. h.1 (subst (λ (x : Type 0). x) (sym e) w.0))
