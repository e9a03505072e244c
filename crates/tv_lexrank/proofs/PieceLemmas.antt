-- The ranks of a location as they are built.
use Rattle.std.proofs.Common.{◌≡◌, ℕ, List, get_or, ap, ◌∙◌}
use Rattle.tv_linear.specs.Linear.{Linear}
use Rattle.tv_cases.specs.Systems.{cases_of}
use Rattle.tv_lexrank.specs.declared.round.Round.{Round}
use Rattle.tv_lexrank.specs.declared.ranking.Ranking.{Ranking}
use Rattle.tv_lexrank.specs.Attempt.{rounds_in}
use Rattle.tv_lexrank.specs.Pieces.{padded_ranks, all_ranks}

pub all_ranks_are : (r : Ranking) (l v component : ℕ) (rounds : List Round) (ranks : List Linear) → v ≡ (cases_of r.about.now).variables → component ≡ get_or r.numbers.now l 0 → rounds ≡ rounds_in r.parts.now component → ranks ≡ padded_ranks v component rounds l r.count → ranks ≡ all_ranks r l
all_ranks_are r l v component rounds ranks a b d e =
    e ∙ ap (λ z. padded_ranks z component rounds l r.count) a
    ∙ ap (λ rs. padded_ranks (cases_of r.about.now).variables component rs l r.count) d
    ∙ ap (λ n. padded_ranks (cases_of r.about.now).variables n (rounds_in r.parts.now n) l r.count) b
