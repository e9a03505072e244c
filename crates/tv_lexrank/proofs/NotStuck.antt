use Rattle.std.proofs.Common.{◌≡◌, ℕ, ◌<◌, List, [], length, get_or, sym, subst, ℤ, pos, ◌≤ℤ◌}
use Rattle.tv_linear.specs.Linear.{Linear, scaled_value}
use Rattle.tv_linear.specs.declared.region.Piece.{Piece}
use Rattle.tv_linear.proofs.ListLaws.{all_back}
use Rattle.tv_cases.specs.LinearCases.{LinearCase, CaseSystem}
use Rattle.tv_rank.specs.Ways.{case_at, way_at}
use Rattle.tv_rank.specs.Rankings.{IsWayPoint, Ranks}
use Rattle.tv_lexrank.specs.declared.round.Round.{Round}
use Rattle.tv_lexrank.specs.Greedy.{without, Lead, none, more}
use Rattle.tv_known.specs.Cycles.{AreTogether}
use Rattle.tv_known.specs.Ranking.{IsCasePoint, RanksCases, case_in, AreInside, HasLexicographicRanking}
use Rattle.tv_lexrank.specs.Known.{AreBare}
use Rattle.tv_lexrank.specs.Parts.{IsStuck}
use Rattle.tv_lexrank.proofs.Removing.{stood}

inside_without : (about : CaseSystem) (xs : List ℕ) (p : ℕ) → AreInside about xs → AreInside about (without xs p)
inside_without about xs p h = record {
  numbered = λ k l. let s = stood xs p k l in subst (λ z. z < length about.cases) (sym s.2) (h.numbered s.0 s.1);
  inside = λ k l. let s = stood xs p k l in subst (λ z. AreTogether about.cases (case_at about.cases z).from (case_at about.cases z).to) (sym s.2) (h.inside s.0 s.1);
  together = λ k j l g.
      let s = stood xs p k l in
      let t = stood xs p j g in
      subst (λ z. AreTogether about.cases (case_at about.cases z).from (case_at about.cases (get_or (without xs p) j 0)).from) (sym s.2)
      (subst (λ z. AreTogether about.cases (case_at about.cases (get_or xs s.0 0)).from (case_at about.cases z).from) (sym t.2) (h.together s.0 t.0 s.1 t.1));
}

pub inside_left : (about : CaseSystem) (known : List Piece) (set : List ℕ) (rounds : List Round) (left : List ℕ) → Lead about known set rounds left → AreInside about set → AreInside about left
inside_left about known set rounds left (none s) h = h
inside_left about known set rounds left (more s l rs r lead round) h = inside_without about l r.place (inside_left about known s rs l lead h)

pub bare_ways : (cases : List LinearCase) (known : List Piece) (set : List ℕ) → AreBare known → way_at cases known set ≡ way_at cases [] set
bare_ways cases known set bare = (λ i k. record { taken = case_at cases (get_or set k 0); known = bare (case_at cases (get_or set k 0)).from i })

-- a point of the rows that are met is one of the guards
point_of_guards : (v : ℕ) (about : CaseSystem) (known : List Piece) (set : List ℕ) (k : ℕ) (xs : List ℤ) (z : ℤ) → IsWayPoint v (way_at about.cases known set k) xs z → IsCasePoint v (case_in about set k) xs z
point_of_guards v about known set k xs z h = record {
  width = h.width;
  meets = record {
    positive = h.meets.positive;
    met = all_back (λ r. scaled_value r xs z ≤ℤ pos 0) (way_at about.cases known set k).known (case_in about set k).guards h.meets.met;
  };
}

-- what ranks cases ranks them under known rows
ranks_known : (v many : ℕ) (about : CaseSystem) (known : List Piece) (set : List ℕ) (falling : ℕ) (terms : List Linear) → RanksCases v many (case_in about set) falling terms → Ranks v many (way_at about.cases known set) falling terms
ranks_known v many about known set falling terms h = record {
  grows_nowhere = λ k l xs z p. h.grows_nowhere k l xs z (point_of_guards v about known set k xs z p);
  bounded = λ xs z p. h.bounded xs z (point_of_guards v about known set falling xs z p);
  falls = λ xs z p. h.falls xs z (point_of_guards v about known set falling xs z p);
}

-- where the cases have a ranking, no set is stuck
pub stuck_unranked : (about : CaseSystem) (known : List Piece) (set : List ℕ) (barriers : List (List ℤ)) → IsStuck about known set barriers → HasLexicographicRanking about → ⊥
stuck_unranked about known set barriers stuck ranking =
    let r = ranking set stuck.nonempty stuck.inside (λ k l. let (xs, z, p) = stuck.points k l in (xs, z, point_of_guards about.variables about known set k xs z p)) in
    stuck.each_barred.excluded r.0 r.1 r.2 r.3 (ranks_known about.variables (length set) about known set r.0 r.2 r.4)
