-- What the edge of a case gives, and where a run goes on.
use Rattle.std.proofs.Common.{◌≡◌, ℕ, ◌<◌, ◌∙◌, List, ◌++◌, length, map, Bool, true, false, None, Some, sym, ap, subst}
use Rattle.std.specs.Prelude.{◌&&◌, slice_get}
use Rattle.std.proofs.Common.{ℤ}
use Rattle.std.proofs.lemmas.List.{length-map}
use Rattle.std.proofs.lemmas.Option.{slice_get_within}
use Rattle.tv_linear.specs.Known.{term_value}
use Rattle.tv_linear.specs.Linear.{Linear}
use Rattle.tv_linear.specs.Terms.{terms_after}
use Rattle.tv_program.specs.Meaning.{executed}
use Rattle.tv_program.specs.Systems.{System, IsLimited}
use Rattle.tv_exec.specs.Execution.{ended, execution, instructions_in, instructions_of, draws_in, draws_of}
use Rattle.tv_cases.specs.LinearCases.{LinearCase, CaseSystem}
use Rattle.tv_cases.proofs.OptionLemmas.{some_same, none_or_some}
use Rattle.tv_edges.specs.Edges.{edge_at, HasCase, IsOfEdge, CaseGives}
use Rattle.tv_edges.proofs.EdgeLemmas.{case-gives}
use Rattle.tv_cert.specs.declared.node.Marked.{Marked}
use Rattle.tv_cert.specs.declared.node.Proof.{Proof}
use Rattle.tv_sound.specs.Following.{Spot, TakesAt, offered_at, after_case, entering, taking, going, going_by, onward}
use Rattle.tv_trace.specs.declared.fault.StepFault.{StepFault}
use Rattle.tv_trace.specs.declared.fault.StepFault.TheVariants.{Wide, Memory}
use Rattle.tv_trace.specs.declared.shown.Shown.{Shown}
use Rattle.tv_trace.specs.Steps.{IsStepFault, AreCasesOf, Ends, IsEnabled, values_next, IsAt, IsOffered, Offers}
use Rattle.tv_trace.specs.Widths.{is_narrow_end, values_drawn, way_is_held, draws_are_held, edge_is_held, case_is_held, end_is_held, step_by, step_is_held}

-- ---- a case that can be taken, and its edge

module _ (p : System) (system : CaseSystem) (of_program : AreCasesOf p system) (limited : IsLimited p) (xs : List ℤ) (number : ℕ) (draws : List Linear) (c : LinearCase) (enabled : IsEnabled system xs number draws c) where
  pub case_within : number < length system.cases
  case_within = slice_get_within system.cases number c enabled.is

  pub has_case : HasCase p number
  has_case = record { cases = system.cases; are = of_program.cases; inside = case_within }

  module _ (edge : ℕ) (of : IsOfEdge p system.cases number edge) where
    pub edge_within : edge < length p.edges
    edge_within = slice_get_within p.edges edge of.edge of.there

    same : of.case ≡ c
    same = some_same of.case c (sym of.taken ∙ enabled.is)

    gives : CaseGives (length p.variables) of.edge c
    gives = subst (CaseGives (length p.variables) of.edge) same (case-gives p limited system.cases number edge of)

    drawn : length (values_drawn xs draws) ≡ of.edge.draws
    drawn = length-map draws _ ∙ enabled.many ∙ gives.draws

    pub draws_counted : length (values_drawn xs draws) ≡ draws_of p edge
    draws_counted = drawn ∙ ap draws_in (sym of.there)

    -- execution of the edge gives the values after the case
    pub executes : executed (instructions_of p edge) xs (values_drawn xs draws) ≡ Some (values_next system xs draws c)
    executes =
        ap (λ o. executed (instructions_in o) xs (values_drawn xs draws)) of.there
        ∙ gives.gives xs (values_drawn xs draws) (enabled.wide ∙ of_program.of_program.variables) drawn enabled.guards
        ∙ ap (λ n. Some (map (term_value (xs ++ values_drawn xs draws)) (terms_after n c.updates))) (sym of_program.of_program.variables)

    module _ (ds : List ℤ) (same_draws : ds ≡ values_drawn xs draws) where
      run : executed (instructions_of p edge) xs ds ≡ Some (values_next system xs draws c)
      run = ap (λ zs. executed (instructions_of p edge) xs zs) same_draws ∙ executes

      pub runs_to : (ys : List ℤ) → executed (instructions_of p edge) xs ds ≡ Some ys → ys ≡ values_next system xs draws c
      runs_to ys h = some_same ys (values_next system xs draws c) (sym h ∙ run)

      pub not_blocked : executed (instructions_of p edge) xs ds ≡ None → ⊥
      not_blocked h = none_or_some (values_next system xs draws c) (sym h ∙ run)

      pub all_held : (ys : List ℤ) → edge ≡ edge_at (length p.variables) p.edges number → draws_are_held xs draws ≡ true → execution (instructions_of p edge) xs ds ≡ ended ys → case_is_held p number xs draws ≡ true
      all_held ys at drawn_held h =
          let ran : edge_is_held p edge xs ds ≡ true = ap is_narrow_end h in
          let there : edge_is_held p (edge_at (length p.variables) p.edges number) xs (values_drawn xs draws) ≡ true = (λ i. edge_is_held p (sym at i) xs (sym same_draws i)) ∙ ran in
          (λ i. drawn_held i && there i)

pub fault_moved : (a b : Bool) → (a ≡ false → b ≡ false) → (fault : StepFault) → IsStepFault a fault → IsStepFault b fault
fault_moved a b h Wide e = h e
fault_moved a b h Memory e = tt

-- ---- where a run goes on

module _ (p : System) (system : CaseSystem) (all : List (Marked × Proof)) (piece : Marked) (proof : Proof) (l : ℕ) (xs : List ℤ) where
  abbrev pub standing : Spot
  standing = record { piece = piece; proof = proof; state = record { location = l; values = xs } }

  module _ (t : TakesAt system all standing) where
    abbrev pub ends_there : Ends proof xs
    ends_there = record { tree = t.tree; chosen = t.chosen; number = t.number; target = t.target; fall = t.fall; draws = t.draws; lists = t.lists; ends = t.ends }

    pub enabled_there : IsEnabled system xs t.number t.draws.items t.taken
    enabled_there = record { is = t.is; many = t.many; wide = t.wide; guards = t.guards }

    pub held_there : step_is_held p standing ≡ (way_is_held xs t.tree && case_is_held p t.number xs t.draws.items)
    held_there = ap (step_by p xs) t.chosen ∙ ap (λ end. way_is_held xs t.tree && end_is_held p xs end) t.ends

    further : Spot
    further = record { piece = t.entered.0; proof = t.entered.1; state = after_case system.variables t.taken t.draws.items (record { location = l; values = xs }) }

    onward_is : onward system all standing ≡ further
    unfolding further
    onward_is =
        ap (λ q. going_by system all q standing) t.chosen
        ∙ ap (λ end. going system all end standing) t.ends
        ∙ ap (λ c. taking system all c t.target t.draws.items standing) t.is
        ∙ ap (λ o. entering o (after_case system.variables t.taken t.draws.items standing.state) standing) t.offers

    pub not_held : way_is_held xs t.tree ≡ false → step_is_held p standing ≡ false
    not_held e = held_there ∙ ap (λ b. b && case_is_held p t.number xs t.draws.items) e

    -- what is taken, as it was read
    module _ (number target : ℕ) (draws : List Linear) (same_number : number ≡ t.number) (same_target : target ≡ t.target) (same_draws : draws ≡ t.draws.items) where
      pub enabled_as : IsEnabled system xs number draws t.taken
      enabled_as = subst (λ k. IsEnabled system xs k draws t.taken) (sym same_number) (subst (λ ds. IsEnabled system xs t.number ds t.taken) (sym same_draws) enabled_there)

      pub number_within : number < length system.cases
      number_within = subst (λ k. k < length system.cases) (sym same_number) (slice_get_within system.cases t.number t.taken t.is)

      held_as : way_is_held xs t.tree ≡ true → (b : Bool) → case_is_held p number xs draws ≡ b → step_is_held p standing ≡ b
      held_as way b e = held_there ∙ (λ i. way i && case_is_held p (sym same_number i) xs (sym same_draws i)) ∙ e

      pub refused : way_is_held xs t.tree ≡ true → (fault : StepFault) → IsStepFault (case_is_held p number xs draws) fault → IsStepFault (step_is_held p standing) fault
      refused way = fault_moved (case_is_held p number xs draws) (step_is_held p standing) (held_as way false)

      module _ (case : LinearCase) (is : slice_get system.cases number ≡ Some case) where
        case_same : case ≡ t.taken
        case_same = some_same case t.taken (sym is ∙ ap (slice_get system.cases) same_number ∙ t.is)

        offers_as : slice_get (offered_at all case.to) target ≡ Some t.entered
        offers_as = (λ i. slice_get (offered_at all (case_same i).to) (same_target i)) ∙ t.offers

        pub offered_as : IsOffered all case.to target
        offered_as = (t.entered, offers_as)

        pub went_on : way_is_held xs t.tree ≡ true → case_is_held p number xs draws ≡ true → (values : List ℤ) → values ≡ values_next system xs draws t.taken → (next : Proof) → Offers all case.to target next → (shown : Shown) → shown.location ≡ case.to → shown.values.items ≡ values →
            (step_is_held p standing ≡ true) × IsAt next shown (onward system all standing)
        unfolding further
        went_on way held values is_next next offers shown at given = (
          held_as way true held,
          record {
            proof_is = ap (λ (s : Spot). s.proof) onward_is ∙ offers t.entered offers_as;
            state_is = ap (λ (s : Spot). s.state) onward_is ∙ sym (λ i. record { location = (at ∙ ap (λ (c : LinearCase). c.to) case_same) i; values = (given ∙ is_next ∙ ap (λ ds. values_next system xs ds t.taken) same_draws) i });
          },
        )

-- a spot as it is seen
pub seen_as : (proof : Proof) (shown : Shown) (s : Spot) (xs : List ℤ) → IsAt proof shown s → xs ≡ shown.values.items → s ≡ record { piece = s.piece; proof = proof; state = record { location = shown.location; values = xs } }
seen_as proof shown s xs at e = (λ i. record { piece = s.piece; proof = at.proof_is i; state = (at.state_is ∙ ap (λ ys. record { location = shown.location; values = ys }) (sym e)) i })
