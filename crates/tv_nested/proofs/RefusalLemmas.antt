-- Refusals of signs that are too wide.
use Rattle.std.proofs.Common.{◌≡◌, inl, inr, ℕ, ◌<◌, List, length, ℤ, refl, sym, ap, subst}
use Rattle.std.specs.Prelude.{Contains}
use Rattle.tv_linear.specs.declared.region.Piece.{Piece}
use Rattle.tv_cases.specs.LinearCases.{CaseSystem}
use Rattle.tv_cases.specs.Systems.{cases_of}
use Rattle.tv_farkas.specs.declared.budget.Budget.{Budget}
use Rattle.tv_rank.specs.Ways.{case_at}
use Rattle.tv_lexrank.specs.First.{AreComponents}
use Rattle.tv_lexrank.specs.Known.{AreBare}
use Rattle.tv_lexrank.proofs.SortLemmas.{of_case}
use Rattle.tv_nested.specs.declared.fault.NestFault.{NestFault}
use Rattle.tv_nested.specs.declared.fault.NestFault.TheVariants as fault
use Rattle.tv_nested.specs.declared.part.Part.{Part}
use Rattle.tv_nested.specs.declared.ranking.Ranking.{Ranking}
use Rattle.tv_nested.specs.Attempts.{IsFirstUnnested, RefusesAttempt}
use Rattle.tv_nested.specs.Nested.{IsUnnested, RefusesNest, RefusesNode}
use Rattle.tv_nested.specs.Parts.{signs_in, tuple_in}
use Rattle.tv_nested.specs.Ranks.{AreRanked, component_of, tuple_of_place, signs_at, RefusesRanking}
use Rattle.tv_nested.specs.SignFaults.{RefusesSigns}
use Rattle.tv_nested.specs.Signs.{signs_there}
use Rattle.tv_nested.specs.Steps.{IsWideStep, RefusesSignStep}
use Rattle.tv_nested.proofs.RankingLemmas.{part_of}

module _ (r : Ranking) where
  -- the signs of a location are those of its component
  signs_of_part : (p : Part) (l : ℕ) → tuple_in p ≡ tuple_of_place r l → signs_in (cases_of r.about.now).variables p l ≡ signs_at r l
  signs_of_part p l e = ap (λ ts. signs_there (cases_of r.about.now).variables ts l) e

  -- a sign of a location is too wide when it is denied
  pub sign_refused : AreRanked r → (l : ℕ) → l < (cases_of r.about.now).locations → (e : NestFault) → RefusesSigns (signs_at r l) e → RefusesRanking r e
  sign_refused ranked l h (fault.Solve system e) g = g
  sign_refused (components, (known, bare, parts)) l h (fault.Cover f) (sign, among, wide) =
      let s = part_of r known parts l h in (
        known,
        bare,
        record {
          component = component_of r l;
          part = s.0;
          is_part = s.1;
          wide = inl (record {
            location = l;
            within = h;
            there = refl;
            sign = sign;
            among = subst (λ z. Contains z sign) (sym (signs_of_part s.0 l s.3)) among;
            wide = wide;
          });
        },
      )
  sign_refused ranked l h fault.Memory g = tt

  -- a sign where a case leads is too wide before it
  pub step_refused : AreRanked r → (k : ℕ) → k < length (cases_of r.about.now).cases → (e : NestFault) → RefusesSignStep (case_at (cases_of r.about.now).cases k) (signs_at r (case_at (cases_of r.about.now).cases k).to) e → RefusesRanking r e
  step_refused ranked k h (fault.Solve system e) g = g
  step_refused (components, (known, bare, parts)) k h (fault.Cover f) g =
      let l = (case_at (cases_of r.about.now).cases k).to in
      let s = part_of r known parts (case_at (cases_of r.about.now).cases k).to (of_case (cases_of r.about.now) k r.about.now.are_cases h).enters in (
        known,
        bare,
        record {
          component = component_of r l;
          part = s.0;
          is_part = s.1;
          wide = inr (record {
            taken = k;
            within = h;
            there = refl;
            wide = subst (λ z. IsWideStep (case_at (cases_of r.about.now).cases k) z f) (sym (signs_of_part s.0 (case_at (cases_of r.about.now).cases k).to s.3)) g;
          });
        },
      )
  step_refused ranked k h fault.Memory g = tt

  pub node_refused : AreRanked r → (e : NestFault) → RefusesRanking r e → RefusesNode (cases_of r.about.now) e
  node_refused ranked (fault.Solve system e) h = h
  node_refused ranked (fault.Cover f) (known, bare, w) = record {
    numbers = r.numbers.now;
    known = known;
    component = w.component;
    part = w.part;
    components = ranked.0;
    bare = bare;
    is_part = w.is_part;
    wide = w.wide;
  }
  node_refused ranked fault.Memory h = tt

-- ---- what is answered of a program
pub nest_refused : (about : CaseSystem) (budget : Budget) (e : NestFault) → RefusesNode about e → RefusesNest about budget e
nest_refused about budget (fault.Solve system e) h = absurd h
nest_refused about budget (fault.Cover f) h = h
nest_refused about budget fault.Memory h = tt

pub attempt_refused : (about : CaseSystem) (known : List Piece) (numbers : List ℕ) (budget : Budget) (e : NestFault) → AreComponents about numbers → AreBare known → RefusesAttempt about known numbers budget.pivots e → RefusesNest about budget e
attempt_refused about known numbers budget (fault.Solve system e) components bare h = (numbers, known, components, bare, h)
attempt_refused about known numbers budget (fault.Cover f) components bare h = absurd h
attempt_refused about known numbers budget fault.Memory components bare h = tt

pub unnested : (about : CaseSystem) (known : List Piece) (numbers : List ℕ) (component : ℕ) (set : List ℕ) (barriers : List (List ℤ)) → AreComponents about numbers → AreBare known → IsFirstUnnested about known numbers component set barriers → IsUnnested about component set barriers
unnested about known numbers component set barriers components bare (left, barred, before) = record {
  numbers = numbers;
  known = known;
  components = components;
  bare = bare;
  left = left;
  barred = barred;
  before = before;
}
