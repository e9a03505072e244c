use Rattle.std.proofs.Common.{ℕ, ◌<◌, List}
use Rattle.tv_text.specs.Headings.{IsHeadingAt}
use Rattle.tv_text.proofs.split.split_texts.Given as goal

abbrev pub invariant-loop-at : goal.invariant-loop-at
invariant-loop-at l = (k : ℕ) (rest : List ℕ) → k < l.at → IsHeadingAt l.text k rest → ⊥
