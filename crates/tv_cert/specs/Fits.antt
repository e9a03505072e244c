use Rattle.std.specs.Prelude.{◌≡◌, ℕ, ◌≤◌, List, length, All, true, Contains}
use Rattle.tv_formula.specs.Properties.{Property, truth, compare, at, term, negated, all_of, some_of, next, fix, Properties, none, more}
use Rattle.tv_linear.specs.Linear.{columns}
use Rattle.tv_cert.specs.declared.node.Marked.{Marked}
use Rattle.tv_cert.specs.declared.node.Proof.{Proof}
use Rattle.tv_cert.specs.declared.node.Proof.TheVariants.{Covered, Chosen}
use Rattle.tv_cert.specs.declared.node.Node.{Node, Node', Row_of-Node, end_of-Node, more_of-Node}
use Rattle.tv_cert.specs.Pieces.{rows_of, ranks_of, goes}
use Rattle.tv_cert.specs.Choices.{ChoiceFits}
use Rattle.tv_cert.specs.Nodes.{parts}

-- the rows of a piece have no more than n columns, and where it goes on it has m ranks
pub record PieceFits (n m : ℕ) (p : Marked) : Type 0 where
  pub rows : All (λ r. columns r ≤ n) (rows_of p)
  pub ranks : All (λ r. columns r ≤ n) (ranks_of p)
  pub many : goes p ≡ true → length (ranks_of p) ≡ m

abbrev pub ProofFits : ℕ → Proof → Type 0
ProofFits n (Covered tree) = Unit {0}
ProofFits n (Chosen tree) = ChoiceFits n tree

-- the formula is normal, and the pieces of `term` go on
abbrev pub MarksFit : Property → List Marked → Type 0
MarksFit (truth b) ps = Unit {0}
MarksFit (compare r a b) ps = Unit {0}
MarksFit (at l) ps = Unit {0}
MarksFit term ps = (p : Marked) → Contains ps p → goes p ≡ true
MarksFit (negated (at l)) ps = Unit {0}
MarksFit (negated term) ps = Unit {0}
MarksFit (negated f) ps = ⊥
MarksFit (all_of fs) ps = Unit {0}
MarksFit (some_of fs) ps = Unit {0}
MarksFit (next path f) ps = Unit {0}
MarksFit (fix path shape f g) ps = Unit {0}

-- what of a node's own shape soundness rests on
pub record OwnFits (n m : ℕ) (f : Property) (ps : List Marked) (proofs : List Proof) : Type 0 where
  pub pieces : (p : Marked) → Contains ps p → PieceFits n m p
  pub widths : (p : Proof) → Contains proofs p → ProofFits n p
  pub marks : MarksFit f ps

abbrev mutual
  -- the node and those below it fit the formula and its arguments, over n variables
  pub NodeFits : ℕ → Property → Node → Type 0
  NodeFits n f (Node' ps m shape kids proofs) = OwnFits n m f ps proofs.items × KidsFit n (parts f) kids

  pub KidsFit : {k : _} → ℕ → Properties → Row_of-Node k → Type 0
  KidsFit n none end_of-Node = Unit {0}
  KidsFit n none (more_of-Node a kids) = ⊥
  KidsFit n (more f fs) end_of-Node = ⊥
  KidsFit n (more f fs) (more_of-Node a kids) = NodeFits n f a × KidsFit n fs kids
