-- How deep the splits of proofs go.
use Rattle.std.specs.Prelude.{ℕ}
use Rattle.tv_linear.specs.Depth.{splits}
use Rattle.tv_linear.specs.ChoiceDepth.{choice_splits}
use Rattle.tv_cert.specs.declared.node.Proof.{Proof}
use Rattle.tv_cert.specs.declared.node.Proof.TheVariants.{Covered, Chosen}

-- the greatest number of splits on a path of a proof
abbrev pub proof_splits : Proof → ℕ
proof_splits (Covered tree) = splits tree
proof_splits (Chosen tree) = choice_splits tree
