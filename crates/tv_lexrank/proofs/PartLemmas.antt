use Rattle.std.proofs.Common.{◌∙◌, ℕ, List, length, get_or, Vec, ℤ, sym}
use Rattle.tv_linear.specs.declared.region.Piece.{Piece}
use Rattle.tv_cases.specs.LinearCases.{CaseSystem, AreCases}
use Rattle.tv_rank.specs.Ways.{case_at}
use Rattle.std.specs.Global.{Global}
use Rattle.tv_rank.specs.Given.{lists}
use Rattle.tv_lexrank.specs.declared.greedy.Greedy.TheVariants as greedy
use Rattle.tv_lexrank.specs.declared.round.Round.{Round}
use Rattle.tv_lexrank.specs.Greedy.{IsGreedy}
use Rattle.tv_known.specs.Ranking.{AreInside}
use Rattle.tv_lexrank.specs.Sorting.{Ascends, AreSorted}
use Rattle.tv_lexrank.specs.Parts.{AreGrouped, IsStuck}
use Rattle.tv_lexrank.proofs.NotStuck.{inside_left}
use Rattle.tv_lexrank.proofs.Removing.{ascends_left}
use Rattle.tv_lexrank.proofs.SortLemmas.{of_case}

-- the cases of a component are inside
pub are_inside : (about : CaseSystem) (known : List Piece) (numbers : List ℕ) (component : ℕ) (set empty : List ℕ) (refutations : List (List ℤ)) → AreCases about → AreGrouped about numbers → AreSorted about known numbers component (length about.cases) set empty refutations → AreInside about set
are_inside about known numbers component set empty refutations limits grouped h = record {
  numbered = h.numbered;
  inside = λ k l. let c = of_case about (get_or set k 0) limits (h.numbered k l) in let i = h.inside k l in grouped (case_at about.cases (get_or set k 0)).from (case_at about.cases (get_or set k 0)).to c.leaves c.enters (i.0 ∙ sym i.1);
  together = λ k j l g.
      let c = of_case about (get_or set k 0) limits (h.numbered k l) in
      let d = of_case about (get_or set j 0) limits (h.numbered j g) in
      grouped (case_at about.cases (get_or set k 0)).from (case_at about.cases (get_or set j 0)).from c.leaves d.leaves ((h.inside k l).0 ∙ sym (h.inside j g).0);
}

-- what is left is stuck
pub stuck_left : (about : CaseSystem) (known : List Piece) (set : List ℕ) (rounds : Vec Round Global) (left : Vec ℕ Global) (barriers : Vec (Vec ℤ Global) Global) → Ascends set → AreInside about set → IsGreedy about known set (greedy.Left rounds left barriers) → IsStuck about known left.items (lists barriers.items)
stuck_left about known set rounds left barriers h within (lead, nonempty, points, bars) = record {
  nonempty = nonempty;
  ascends = ascends_left about known set rounds.items left.items lead h;
  inside = inside_left about known set rounds.items left.items lead within;
  points = points;
  each_barred = bars;
}
