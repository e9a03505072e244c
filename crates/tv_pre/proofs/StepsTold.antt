-- Where going back is exact, it can be told whether a state has a step.
use Rattle.std.proofs.Common.{◌≡◌, ◌⊎◌, inl, inr, List, [], ◌∷◌, ◌++◌, length, map, refl, sym, subst, ℤ, true, ◌==◌}
use Rattle.std.specs.Prelude.{Contains}
use Rattle.std.proofs.lemmas.Bool.{eq-eqb, eqb-true}
use Rattle.tv_program.specs.Steps.{State}
use Rattle.tv_linear.specs.Linear.{Linear}
use Rattle.tv_linear.specs.Known.{term_value}
use Rattle.tv_linear.specs.Terms.{terms_after}
use Rattle.tv_cases.specs.LinearCases.{LinearCase, CaseSystem, CaseDoes}
use Rattle.tv_cases.proofs.ContainsLemmas.{Contains-here, Contains-later, Contains-cases, Contains-none}
use Rattle.tv_cert.specs.Statements.{Statement}
use Rattle.tv_known.specs.Rounds.{Goes}
use Rattle.tv_known.specs.Laws.{Decides}
use Rattle.tv_region.specs.Differences.{AreOfDifferences}
use Rattle.tv_region.specs.Met.{all_met}
use Rattle.tv_region.specs.StepRegions.{HasNoDraws}
use Rattle.tv_region.proofs.MetLemmas.{all_met-all, all-all_met}
use Rattle.tv_region.proofs.StepRegionLemmas.{contains_has}
use Rattle.tv_pre.specs.Finding.{IsTameStatement}
use Rattle.tv_pre.proofs.DifferenceDraws.{MeetsBehind, draws_told}
use Rattle.tv_cases.proofs.BeforeValue.{no_columns}
use Rattle.tv_rounds.proofs.SetLemmas.{in_or_out}

-- some draws meet the guards of the case, or none do
abbrev TellsDraws : LinearCase → State → Type 0
TellsDraws c s = MeetsBehind c.draws c.guards s.values ⊎ (MeetsBehind c.draws c.guards s.values → ⊥)

module _ (about : CaseSystem) (s : State) (tells : (c : LinearCase) → Contains about.cases c → TellsDraws c s) where
  abbrev after : LinearCase → List ℤ → State
  after c draws = record { location = c.to; values = map (term_value (s.values ++ draws)) (terms_after (length s.values) c.updates) }

  -- whether a step by the case leads on
  case_told : (c : LinearCase) → Contains about.cases c → Goes about s ⊎ ((draws : List ℤ) (t : State) → CaseDoes c draws s t → ⊥)
  case_told c m = elim (in_or_out (s.location == c.from)) [
    | inr n ↦ inr (λ draws t does. n (eq-eqb s.location c.from does.leaves))
    | inl here ↦ elim (tells c m) [
      | inr n ↦ inr (λ draws t does. n record { draws = draws; drawn = does.drawn; met = all-all_met (s.values ++ draws) c.guards does.guards })
      | inl w ↦ inl (
        after c w.draws,
        record {
          taken = c;
          among = m;
          draws = w.draws;
          does = record {
            leaves = eqb-true s.location c.from here;
            enters = refl;
            drawn = w.drawn;
            guards = all_met-all (s.values ++ w.draws) c.guards w.met;
            gives = refl;
          };
        },
      )
    ]
  ]

  -- whether some of these cases do
  cases_told : (cs : List LinearCase) → ((c : LinearCase) → Contains cs c → Contains about.cases c) → Goes about s ⊎ ((c : LinearCase) → Contains cs c → (draws : List ℤ) (t : State) → CaseDoes c draws s t → ⊥)
  cases_told [] sub = inr (λ c m. absurd (Contains-none c m))
  cases_told (c ∷ cs) sub = elim (case_told c (sub c (Contains-here c cs))) [
    | inl go ↦ inl go
    | inr none ↦ elim (cases_told cs (λ d m. sub d (Contains-later c d cs m))) [
      | inl go ↦ inl go
      | inr others ↦ inr (λ d m. elim (Contains-cases c d cs m) [
        | inl e ↦ subst (λ k. (draws : List ℤ) (t : State) → CaseDoes k draws s t → ⊥) e none
        | inr n ↦ others d n
      ])
    ]
  ]

  step_told : Goes about s ⊎ (Goes about s → ⊥)
  step_told = elim (cases_told about.cases (λ c m. m)) [
    | inl go ↦ inl go
    | inr none ↦ inr (λ g. none g.1.taken g.1.among g.1.draws g.0 g.1.does)
  ]

-- ---- no draws
undrawn_told : (guards : List Linear) (xs : List ℤ) → MeetsBehind 0 guards xs ⊎ (MeetsBehind 0 guards xs → ⊥)
undrawn_told guards xs = elim (in_or_out (all_met (xs ++ []) guards)) [
  | inl met ↦ inl record { draws = []; drawn = refl; met = met }
  | inr n ↦ inr (λ w. n (subst (λ ds. all_met (xs ++ ds) guards ≡ true) (no_columns w.draws w.drawn) w.met))
]

plain_draws : (c : LinearCase) (s : State) → c.draws ≡ 0 → TellsDraws c s
plain_draws c s e = subst (λ k. MeetsBehind k c.guards s.values ⊎ (MeetsBehind k c.guards s.values → ⊥)) (sym e) (undrawn_told c.guards s.values)

pub plain_goes : (about : CaseSystem) → HasNoDraws about → Decides about (Goes about)
plain_goes about plain s is = step_told about s (λ c m. plain_draws c s (plain c (contains_has about.cases c m)))

-- ---- differences
pub difference_goes : (about : CaseSystem) → AreOfDifferences about → Decides about (Goes about)
difference_goes about of s is = step_told about s (λ c m. draws_told c.draws c.guards (of c (contains_has about.cases c m)).guards s.values)

-- where going back is exact for a statement
pub tame_goes : (about : CaseSystem) (s : Statement) → IsTameStatement about s → Decides about (Goes about)
tame_goes about s (inl plain) = plain_goes about plain
tame_goes about s (inr d) = difference_goes about d.0
