-- What is found of the arguments of a formula, one after the other.
use Rattle.std.proofs.Common.{◌≡◌, Bool, ℕ, zero, suc, ◌+◌, ◌<◌, ◌≤◌, List, [], ◌∷◌, ◌++◌, length, map, get_or, arith, refl, sym, ap, ◌∙◌, subst, append-nil, append_assoc, length-append, None}
use Rattle.std.specs.List.{AllZip}
use Rattle.std.proofs.lemmas.List.{length-map}
use Rattle.tv_cases.specs.LinearCases.{CaseSystem}
use Rattle.tv_cert.specs.declared.aim.Aim.{Aim}
use Rattle.tv_cert.specs.AimViews.{aim_states}
use Rattle.tv_cert.specs.Statements.{Statement}
use Rattle.tv_pre.specs.declared.finding.Arguments.{Arguments}
use Rattle.tv_pre.specs.declared.outcome.Found.{Found}
use Rattle.tv_linear.specs.declared.region.Region.{Region}
use Rattle.tv_pre.specs.Arguments.{AreArguments, AreFoundFirst, AreKnownFirst}
use Rattle.tv_pre.specs.KnownStates.{HasKnownStates, AreKnownFor}
use Rattle.tv_pre.specs.Finding.{IsFound, first_of, gap_behind}
use Rattle.tv_pre.proofs.FoundLemmas.{argument_added, first_arguments}

-- ---- their regions
abbrev region_of : Found → Region
region_of found = found.part.region

pub one_region : (founds rest later : List Found) (found : Found) (old new : List Region) → rest ≡ found ∷ later → map region_of founds ≡ old ++ map region_of rest → new ≡ old ++ found.part.region ∷ [] → map region_of founds ≡ new ++ map region_of later
one_region founds rest later found old new e h r =
    h ∙ ap (λ fs. old ++ map region_of fs) e ∙ sym (append_assoc old (found.part.region ∷ []) (map region_of later)) ∙ ap (λ rs. rs ++ map region_of later) (sym r)

pub all_regions : (founds rest : List Found) (regions : List Region) → rest ≡ [] → map region_of founds ≡ regions ++ map region_of rest → regions ≡ map region_of founds
all_regions founds rest regions e h = sym (h ∙ ap (λ fs. regions ++ map region_of fs) e ∙ append-nil regions)

-- ---- what they have
module _ (about : CaseSystem) (last : ℕ) (alone : Bool) where
  known_more : (aims : List Aim) (founds : List Found) (i : ℕ) (aim : Aim) (found : Found) → i < length aims → aim ≡ get_or aims i aim → length founds ≡ i → AreKnownFirst about last alone (map aim_states aims) founds → HasKnownStates about last alone (aim_states aim) found →
      AreKnownFirst about last alone (map aim_states aims) (founds ++ found ∷ [])
  known_more [] founds i aim found below is many h f = absurd (omega (arith, below))
  known_more (a ∷ aims) [] zero aim found below is many h f = (subst (λ (z : Aim). HasKnownStates about last alone (aim_states z) found) is f, tt)
  known_more (a ∷ aims) [] (suc i) aim found below is many h f = absurd (omega (arith, many))
  known_more (a ∷ aims) (b ∷ founds) zero aim found below is many h f = absurd (omega (arith, many))
  known_more (a ∷ aims) (b ∷ founds) (suc i) aim found below is many h f = (h.0, known_more aims founds i aim found (omega (arith, below)) is (omega (arith, many)) h.1 f)

  pub one_known : (aims : List Aim) (founds pushed : List Found) (i : ℕ) (aim : Aim) (found : Found) → i < length aims → aim ≡ get_or aims i aim → length founds ≡ i → AreKnownFirst about last alone (map aim_states aims) founds → HasKnownStates about last alone (aim_states aim) found →
      pushed ≡ founds ++ found ∷ [] → AreKnownFirst about last alone (map aim_states aims) pushed
  one_known aims founds pushed i aim found below is many h f e = subst (AreKnownFirst about last alone (map aim_states aims)) (sym e) (known_more aims founds i aim found below is many h f)

  known_all : (ss : List Statement) (founds : List Found) → length founds ≡ length ss → AreKnownFirst about last alone ss founds → AreKnownFor about last alone ss (map region_of founds)
  known_all [] [] many h = tt
  known_all [] (b ∷ founds) many h = absurd h
  known_all (s ∷ ss) [] many h = absurd (omega (arith, many))
  known_all (s ∷ ss) (b ∷ founds) many h = (h.0.states, known_all ss founds (omega (arith, many)) h.1)

  pub all_known : (aims : List Aim) (founds : List Found) (regions : List Region) (i : ℕ) → length aims ≤ i → i ≤ length aims → length founds ≡ i → AreKnownFirst about last alone (map aim_states aims) founds → regions ≡ map region_of founds → AreKnownFor about last alone (map aim_states aims) regions
  all_known aims founds regions i past within many h e =
      subst (AreKnownFor about last alone (map aim_states aims)) (sym e) (known_all (map aim_states aims) founds (let k = length-map aims aim_states in omega (arith, k, past, within, many)) h)

module _ (about : CaseSystem) (last : ℕ) where
  -- one more is found
  first_more : (aims : List Aim) (founds : List Found) (i : ℕ) (aim : Aim) (found : Found) → i < length aims → aim ≡ get_or aims i aim → length founds ≡ i → AreFoundFirst about last (map aim_states aims) founds → IsFound about last (aim_states aim) found →
      AreFoundFirst about last (map aim_states aims) (founds ++ found ∷ [])
  first_more [] founds i aim found below is many h f = absurd (omega (arith, below))
  first_more (a ∷ aims) [] zero aim found below is many h f = (subst (λ (z : Aim). IsFound about last (aim_states z) found) is f, tt)
  first_more (a ∷ aims) [] (suc i) aim found below is many h f = absurd (omega (arith, many))
  first_more (a ∷ aims) (b ∷ founds) zero aim found below is many h f = absurd (omega (arith, many))
  first_more (a ∷ aims) (b ∷ founds) (suc i) aim found below is many h f = (h.0, first_more aims founds i aim found (omega (arith, below)) is (omega (arith, many)) h.1 f)

  pub one_first : (aims : List Aim) (founds pushed : List Found) (i : ℕ) (aim : Aim) (found : Found) → i < length aims → aim ≡ get_or aims i aim → length founds ≡ i → AreFoundFirst about last (map aim_states aims) founds → IsFound about last (aim_states aim) found →
      pushed ≡ founds ++ found ∷ [] → AreFoundFirst about last (map aim_states aims) pushed × (length pushed ≡ i + 1)
  one_first aims founds pushed i aim found below is many h f e = (
    subst (AreFoundFirst about last (map aim_states aims)) (sym e) (first_more aims founds i aim found below is many h f),
    ap (λ xs. length xs) e ∙ length-append founds (found ∷ []) ∙ omega (arith, many),
  )

  -- all are found
  first_all : (ss : List Statement) (founds : List Found) → length founds ≡ length ss → AreFoundFirst about last ss founds → AllZip (IsFound about last) ss founds
  first_all [] [] many h = tt
  first_all [] (b ∷ founds) many h = absurd h
  first_all (s ∷ ss) [] many h = absurd (omega (arith, many))
  first_all (s ∷ ss) (b ∷ founds) many h = (h.0, first_all ss founds (omega (arith, many)) h.1)

  pub all_first : (aims : List Aim) (founds : List Found) (i : ℕ) → length aims ≤ i → i ≤ length aims → length founds ≡ i → AreFoundFirst about last (map aim_states aims) founds → AllZip (IsFound about last) (map aim_states aims) founds
  all_first aims founds i past within many h = first_all (map aim_states aims) founds (let k = length-map aims aim_states in omega (arith, k, past, within, many)) h

  -- some of them stand in the arguments, and the others are left
  pub record IsTaken (ss : List Statement) (rest : List Found) (arguments : Arguments) : Type 0 where
    pub before : List Statement
    pub after : List Statement
    pub parts : ss ≡ before ++ after
    pub taken : AreArguments about last before arguments
    pub left : AllZip (IsFound about last) after rest

  pub none_taken : (ss : List Statement) (founds : List Found) (new : Arguments) → new.regions.items ≡ [] → new.nodes.items ≡ [] → new.size ≡ 0 → new.gap ≡ None → AllZip (IsFound about last) ss founds → IsTaken ss founds new
  none_taken ss founds new r n z g h = record { before = []; after = ss; parts = refl; taken = first_arguments about last new r n z g; left = h }

  pub one_taken : (ss : List Statement) (rest later : List Found) (found : Found) (old new : Arguments) → rest ≡ found ∷ later → IsTaken ss rest old →
      new.regions.items ≡ old.regions.items ++ found.part.region ∷ [] → new.nodes.items ≡ old.nodes.items ++ found.part.node ∷ [] → new.size ≡ old.size + found.size → new.gap ≡ first_of old.gap (gap_behind (1 + old.size) found.gap) → IsTaken ss later new
  one_taken ss rest later found old new e h r n z g = next h.after h.parts (subst (AllZip (IsFound about last) h.after) e h.left) where
    next : (after : List Statement) → ss ≡ h.before ++ after → AllZip (IsFound about last) after (found ∷ later) → IsTaken ss later new
    next [] parts left = absurd left
    next (s ∷ after) parts left = record {
      before = h.before ++ s ∷ [];
      after = after;
      parts = parts ∙ sym (append_assoc h.before (s ∷ []) after);
      taken = argument_added about last h.before s found old new h.taken left.0 r n z g;
      left = left.1;
    }

  pub all_taken : (ss : List Statement) (rest : List Found) (arguments : Arguments) → rest ≡ [] → IsTaken ss rest arguments → AreArguments about last ss arguments
  all_taken ss rest arguments e h = end h.after h.parts (subst (AllZip (IsFound about last) h.after) e h.left) where
    end : (after : List Statement) → ss ≡ h.before ++ after → AllZip (IsFound about last) after [] → AreArguments about last ss arguments
    end [] parts left = subst (λ z. AreArguments about last z arguments) (sym (parts ∙ append-nil h.before)) h.taken
    end (s ∷ after) parts left = absurd left
