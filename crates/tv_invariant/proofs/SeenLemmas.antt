use Rattle.std.proofs.Common.{◌≡◌, ℕ, List, [], All, map, sym, subst}
use Rattle.std.proofs.lemmas.List.Elements.{All-nil}
use Rattle.tv_linear.specs.Linear.{Linear, IsMet}
use Rattle.tv_farkas.specs.Paths.{IsWholePoint}
use Rattle.tv_invariant.specs.declared.seen.Seen.{Seen}
use Rattle.tv_invariant.specs.Seen.{IsSeen}

-- nothing was seen
pub nothing_seen : (n : ℕ) (rows : List Linear) (seen : Seen) → seen.points.items ≡ [] → seen.shown.items ≡ [] → IsSeen n rows seen
nothing_seen n rows seen e f = record {
  points = subst (λ ps. All (IsWholePoint n rows) (map (λ p. p.items) ps)) (sym e) (All-nil (IsWholePoint n rows));
  shown = λ xs w. subst (All (IsMet xs)) (sym f) (All-nil (IsMet xs));
}
