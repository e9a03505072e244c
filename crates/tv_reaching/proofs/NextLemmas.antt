-- the state after a step
use Rattle.std.proofs.Common.{◌≡◌, ℕ, ◌<◌, ◌∙◌, List, ◌++◌, length, map, Some, slice_get, ℤ, sym, ap, subst}
use Rattle.tv_linear.specs.Known.{term_value}
use Rattle.tv_linear.specs.Terms.{terms_after}
use Rattle.tv_program.specs.Steps as programs
use Rattle.tv_cases.specs.LinearCases.{LinearCase, CaseSystem, AreCases, IsCase}
use Rattle.tv_points.specs.States.{seen, IsState}
use Rattle.tv_points.specs.declared.state.State.{State}
use Rattle.tv_points.specs.declared.fault.PointFault.{PointFault}
use Rattle.tv_reaching.specs.FoundRuns.{Takes, state_at}
use Rattle.tv_reaching.specs.Making.{AreNumbers, IsNext, IsWideValue}
use Rattle.tv_cases.proofs.BeforeValue.{length-terms}
use Rattle.tv_points.proofs.PlaceLemmas.{got_one, got_all}

-- the state is what the case computes at the point of values and draws
module _ (about : CaseSystem) (c : LinearCase) (number n : ℕ) (draws point : List ℤ) (s : State) (found : slice_get about.cases number ≡ Some c) (counted : n ≡ about.variables) (state : IsState about s) (point_is : point ≡ s.values.items ++ draws) where
  abbrev meant : List ℤ
  meant = map (term_value point) (terms_after n c.updates)

  values_are : (t : programs.State) → Takes about number draws (seen s) t → t.values ≡ meant
  values_are t h =
      let same : h.taken ≡ c = got_one about.cases number h.taken c h.found found in
      let many : length s.values.items ≡ n = state.point.many ∙ sym counted in
      h.does.gives ∙ (λ i. map (term_value (sym point_is i)) (terms_after (many i) (same i).updates))

  pub next_is : AreCases about → (t : programs.State) → Takes about number draws (seen s) t → (next : State) → next.location ≡ c.to → AreNumbers meant next.values.items → IsNext about t next
  next_is limits t h next place numbers =
      let same : h.taken ≡ c = got_one about.cases number h.taken c h.found found in
      let to : next.location ≡ t.location = place ∙ ap (λ (d : LinearCase). d.to) (sym same) ∙ sym h.does.enters in
      let values : next.values.items ≡ t.values = numbers.same ∙ sym (values_are t h) in
      record {
        same = (λ i. state_at (to i) (values i));
        state = record {
          place = subst (λ l. l < about.locations) (sym place) (got_all (IsCase about.variables about.locations) about.cases number c limits.cases found).enters;
          point = record {
            many = ap length numbers.same ∙ length-terms (term_value point) c.updates n ∙ counted;
            narrow = numbers.narrow;
          };
        };
      }

  pub next_wide : (t : programs.State) → Takes about number draws (seen s) t → (fault : PointFault) → IsWideValue meant fault → IsWideValue t.values fault
  next_wide t h fault wide = subst (λ zs. IsWideValue zs fault) (sym (values_are t h)) wide
