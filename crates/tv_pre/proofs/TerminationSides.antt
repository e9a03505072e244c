-- The sides of the fixpoints that termination and its negation are.
use Rattle.std.proofs.Common.{inl, inr, ℕ, ◌+◌, ◌≤◌, [], ◌∷◌, refl, arith}
use Rattle.std.specs.Prelude.{All}
use Rattle.tv_formula.specs.declared.tree.Path.TheVariants.{Every, Any}
use Rattle.tv_linear.specs.declared.region.Region.{Region}
use Rattle.tv_cases.specs.LinearCases.{CaseSystem, IsCase}
use Rattle.tv_cert.specs.Statements.{Statement}
use Rattle.tv_cert.specs.Statements as statements
use Rattle.tv_known.proofs.RoundLemmas.{stays_state}
use Rattle.tv_known.proofs.SizeLemmas.{trans}
use Rattle.tv_region.specs.Regions.{count_at}
use Rattle.tv_region.specs.StepRegions.{IsTame}
use Rattle.tv_rounds.specs.Calls.{IsNowhere}
use Rattle.tv_pre.specs.Along.{AreBefore, OthersLeadOut}
use Rattle.tv_pre.specs.Built.{IsBuilt, of_everywhere, of_nowhere, IsBuiltOf}
use Rattle.tv_pre.specs.Finding.{IsTameFor, IsTameStatement}
use Rattle.tv_pre.specs.Growing.{IsEverywhere}
use Rattle.tv_pre.specs.Sized.{IsFewBefore}
use Rattle.tv_pre.specs.Termination.{anything, stopping, nothing, going, AreSidesOf}
use Rattle.tv_pre.proofs.BuiltLemmas.{built_to, one_built}
use Rattle.tv_pre.proofs.FullAlongLemmas.{all_full}
use Rattle.tv_pre.proofs.SetLemmas.{no_piece}
use Rattle.tv_pre.proofs.SizedLemmas.{none_less, everywhere_few, nowhere_few}
use Rattle.tv_pre.proofs.StepsTold.{tame_goes}
use Rattle.tv_pre.proofs.TameLemmas.{tame_built}
use Rattle.tv_pre.proofs.TerminationMeaning.{untrue}

module _ (about : CaseSystem) where
  -- no atom stands in termination
  tame_ends : (a b : Region) → IsTameFor about a b → IsTameStatement about statements.ends
  tame_ends a b (inl plain) = inl plain
  tame_ends a b (inr d) = inr (d.0, λ lists r k m. absurd k)

  alone : (a : Region) → IsTameFor about a a → IsTame about a
  alone a (inl plain) = inl plain
  alone a (inr d) = inr (d.0, d.1)

  tame_into : (a b into : Region) → IsTameFor about a b → IsBuilt about statements.ends 0 into → IsTame about into
  tame_into a b into t m = alone into (tame_built about statements.ends (tame_ends a b t) 0 0 into into m m)

  none_at : (none : Region) → IsNowhere about none → (l : ℕ) → count_at l none ≤ 1
  none_at none n l = trans (count_at l none) 0 1 (nowhere_few about none n l) (none_less 1)

  -- what is made by one step back
  pub back_built : (into back : Region) → IsBuiltOf about 1 (into ∷ []) back → (s : Statement) → IsBuilt about s 0 into → IsBuilt about s 1 back
  back_built into back b s m = built_to about s (1 + 0) 1 back (omega arith) (b s 0 (one_built about s 0 into m))

  module _ (cases : All (IsCase about.variables about.locations) about.cases) (anywhere none back : Region) (e : IsEverywhere about anywhere) (n : IsNowhere about none) where
    pub ends_sides : AreBefore about Every none back → OthersLeadOut about Every none back → IsFewBefore about Every none back → IsBuiltOf about 1 (none ∷ []) back → IsTameFor about anywhere back → AreSidesOf about Every anything stopping anywhere back
    ends_sides before others bounded built tame =
        let into = tame_into anywhere back none tame (of_nowhere 0 none n) in record {
          first_over = e.over;
          second_over = before.over;
          first_exact = λ s is. ((λ m. refl), (λ h. e.all s is.location));
          second_exact = λ s is. ((λ m t st. absurd (no_piece none.pieces.items t n.none (before.right s is m t st))), (λ h. before.all into s is (λ t st. absurd (untrue (h t st)))));
          first_full = all_full about anything anywhere (λ s is. e.all s is.location);
          second_full = λ s is m. (let w = others into s is m in (w.0, w.1, refl));
          first_built = λ s. of_everywhere 1 anywhere e;
          second_built = λ s. back_built none back built s (of_nowhere 0 none n);
          first_few = everywhere_few about anywhere e;
          second_few = λ plain l. bounded plain (λ k. 1) (none_at none n) l;
          goes = tame_goes about statements.ends (tame_ends anywhere back tame);
        }

    pub never_sides : AreBefore about Any anywhere back → OthersLeadOut about Any anywhere back → IsFewBefore about Any anywhere back → IsBuiltOf about 1 (anywhere ∷ []) back → IsTameFor about back none → AreSidesOf about Any nothing going none back
    never_sides before others bounded built tame =
        let into = tame_into back none anywhere tame (of_everywhere 0 anywhere e) in record {
          first_over = n.fits;
          second_over = before.over;
          first_exact = λ s is. ((λ m. absurd (no_piece none.pieces.items s n.none m)), (λ h. absurd (untrue h)));
          second_exact = λ s is. (
            (λ m. (let w = before.right s is m in (w.0, w.1, refl))),
            (λ h. before.all into s is (h.0, h.1, e.all h.0 (stays_state about cases s h.0 is h.1).location)),
          );
          first_full = λ s is m. refl;
          second_full = λ s is m t st. absurd (others into s is m t st (e.all t (stays_state about cases s t is st).location));
          first_built = λ s. of_nowhere 1 none n;
          second_built = λ s. back_built anywhere back built s (of_everywhere 0 anywhere e);
          first_few = none_at none n;
          second_few = λ plain l. bounded plain (λ k. 1) (everywhere_few about anywhere e) l;
          goes = tame_goes about statements.ends (tame_ends back none tame);
        }
