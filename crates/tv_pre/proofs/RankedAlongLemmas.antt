-- Fixpoints that are to come to an end, where all states are ranked.
use Rattle.std.proofs.Common.{◌≡◌, ◌⊎◌, inl, inr, ℕ, suc, ◌+◌, ◌≤◌, List, [], ◌∷◌, sym, subst, arith}
use Rattle.std.specs.Prelude.{All}
use Rattle.tv_formula.specs.declared.tree.Path.{Path}
use Rattle.tv_formula.specs.declared.tree.Path.TheVariants.{Every, Any}
use Rattle.tv_linear.specs.declared.region.Region.{Region}
use Rattle.tv_cases.specs.LinearCases.{CaseSystem, IsCase}
use Rattle.tv_cases.proofs.ContainsLemmas.{Contains-cases, Contains-none}
use Rattle.tv_cert.specs.Obligations.{hold_side}
use Rattle.tv_cert.specs.Statements.{Statement}
use Rattle.tv_known.proofs.RoundLemmas.{stays_state}
use Rattle.tv_region.specs.Algebra.{IsBoth}
use Rattle.tv_region.specs.Regions.{IsRegion, lists_at}
use Rattle.tv_region.specs.StepRegions.{InState, IsTame}
use Rattle.tv_rounds.proofs.SetLemmas.{own_set, both_set}
use Rattle.tv_pre.specs.declared.sides.Sides.{Sides}
use Rattle.tv_pre.specs.Along.{arguments, AreBefore, AreAtEnd}
use Rattle.tv_farkas.specs.declared.budget.Budget.{Budget}
use Rattle.tv_pre.specs.declared.fault.PreFault.{PreFault}
use Rattle.tv_pre.specs.Built.{IsBuilt, AreBuilt, IsAsked, IsPreFault, IsBuiltOf, IsFaultOf}
use Rattle.tv_pre.specs.Fixed.{AsksWay}
use Rattle.tv_pre.specs.Growing.{IsEverywhere, AsksCome}
use Rattle.tv_pre.specs.Parts.{joined_pieces}
use Rattle.tv_pre.specs.Questions.{Question, AsksOf}
use Rattle.tv_pre.specs.RankedAlong.{HasAll, AreGoing, AllGo}
use Rattle.tv_pre.specs.Unserved.{AreTameCases}
use Rattle.tv_pre.specs.RankedUntil.{AreComing, AsksComing}
use Rattle.tv_pre.proofs.AskedLemmas.{ends_asked, layers_asked}
use Rattle.tv_pre.proofs.BuiltLemmas.{asked_to, built_to, all_built_to, first_built, rest_built, more_built, one_built, pieces_of, joined_of, hold_built, fault_to}
use Rattle.tv_pre.proofs.SetLemmas.{joined_in, hold_on}
use Rattle.tv_pre.proofs.SideLemmas.{hold_in}
use Rattle.tv_pre.proofs.TameLemmas.{bare_rows}

module _ (about : CaseSystem) where
  -- ---- states with a step
  everywhere_tame : (anywhere : Region) → IsEverywhere about anywhere → AreTameCases about → IsTame about anywhere
  everywhere_tame anywhere e (inl plain) = inl plain
  everywhere_tame anywhere e (inr d) = inr (d, λ r m. absurd (bare_rows (lists_at m.0 anywhere.pieces.items) (e.bare m.0) r m.1))

  pub going_is : All (IsCase about.variables about.locations) about.cases → (sides : Sides) (anywhere goes hold region : Region) → IsEverywhere about anywhere → hold ≡ hold_side sides.shape sides.first.now sides.second.now → IsRegion about.variables about.locations hold →
      AreBefore about Any anywhere goes → IsBoth hold goes region → AreGoing about sides region
  going_is cases sides anywhere goes hold region every e f b is =
      let w = both_set about (InState hold) (InState goes) hold goes region (own_set about hold f) (own_set about goes b.over) is in record {
        over = w.fits;
        right = λ s p m. (
          hold_on sides.shape sides.first.now sides.second.now s (subst (λ r. InState r s) e ((w.same s p).0 m).0),
          (let step = b.right s p ((w.same s p).0 m).1 in (step.0, step.1)),
        );
        all = λ tame s p h. (w.same s p).1 (
          subst (λ r. InState r s) (sym e) (hold_in sides.shape sides.first.now sides.second.now s h.0),
          b.all (everywhere_tame anywhere every tame) s p (h.1.0, h.1.1, every.all h.1.0 (stays_state about cases s h.1.0 p h.1.1).location),
        );
      }

  -- ---- what they are made of
  pub hold_side_at : (sides : Sides) (hold : Region) → hold ≡ hold_side sides.shape sides.first.now sides.second.now → (s : Statement) (h : ℕ) → AreBuilt about s h (arguments sides) → IsBuilt about s (1 + h) hold
  hold_side_at sides hold e s h m = built_to about s h (1 + h) hold (let l : h ≤ 1 + h = omega arith in l) (subst (IsBuilt about s h) (sym e) (hold_built about s h sides.shape sides.first.now sides.second.now m))

  pub both_given : (s : Statement) (h : ℕ) (end onward : Region) (given : List Region) → AreBuilt about s h (end ∷ given) → IsBuilt about s (1 + h) onward → AreBuilt about s (1 + h) (end ∷ onward ∷ [])
  both_given s h end onward given m b =
      more_built about s (1 + h) end (onward ∷ []) (built_to about s h (1 + h) end (let l : h ≤ 1 + h = omega arith in l) (first_built about s h end given m))
      (one_built about s (1 + h) onward b)

  module _ (budget : Budget) (sides : Sides) (end : Region) where
    pub sides_fault : (fault r : PreFault) → r ≡ fault → IsFaultOf about budget 1 (arguments sides) fault → IsFaultOf about budget 2 (end ∷ arguments sides) r
    sides_fault fault r is f = λ s h m.
        subst (IsPreFault about s budget (2 + h)) (sym is) (fault_to about s budget (1 + h) (2 + h) fault (let l : 1 + h ≤ 2 + h = omega arith in l) (f s h (rest_built about s h end (arguments sides) m)))

    pub ends_fault : (onward : Region) (fault r : PreFault) → r ≡ fault → IsBuiltOf about 1 (arguments sides) onward → IsFaultOf about budget 0 (end ∷ onward ∷ []) fault → IsFaultOf about budget 2 (end ∷ arguments sides) r
    ends_fault onward fault r is b f = λ s h m.
        subst (IsPreFault about s budget (2 + h)) (sym is) (fault_to about s budget (0 + (1 + h)) (2 + h) fault (let l : 0 + (1 + h) ≤ 2 + h = omega arith in l)
        (f s (1 + h) (both_given s h end onward (arguments sides) m (b s h (rest_built about s h end (arguments sides) m)))))

  -- ---- the ranked node
  module _ (sides : Sides) (end onward : Region) where
    pub all_go : AreAtEnd about sides end → AreGoing about sides onward → HasAll about (joined_pieces (end ∷ onward ∷ [])) → AllGo about sides
    all_go e o all s is =
        let w = joined_in (end ∷ onward ∷ []) s (all s is) in
        elim (Contains-cases end w.0 (onward ∷ []) w.1) [
          | inl same ↦ inl (e.right s is (subst (λ x. InState x s) (sym same) w.2))
          | inr n ↦ elim (Contains-cases onward w.0 [] n) [
            | inl same ↦ inr (o.right s is (subst (λ x. InState x s) (sym same) w.2))
            | inr none ↦ absurd (Contains-none w.0 none)
          ]
        ]

    pub coming_is : All (IsCase about.variables about.locations) about.cases → AreAtEnd about sides end → AreGoing about sides onward → HasAll about (joined_pieces (end ∷ onward ∷ [])) →
        AreComing about sides end.pieces.items onward.pieces.items (joined_pieces (end ∷ onward ∷ []))
    coming_is cases e o all = record {
      ends = λ s p m. e.right s p m;
      hold = λ s p m. (o.right s p m).0;
      goes = λ s p m. ((o.right s p m).1, λ t st. all t (stays_state about cases s t p st));
    }

    module _ (s : Statement) (h : ℕ) (m : AreBuilt about s h (end ∷ arguments sides)) (b : IsBuilt about s (1 + h) onward) where
      pub both_built : AreBuilt about s (1 + h) (end ∷ onward ∷ [])
      both_built = both_given s h end onward (arguments sides) m b

      pub coming_asked : sides.path ≡ Every → (a : Question) → AsksComing about sides end.pieces.items onward.pieces.items (joined_pieces (end ∷ onward ∷ [])) a → IsAsked about s (2 + h) a
      coming_asked e a w =
          let k = 1 + h in
          let own = joined_pieces (end ∷ onward ∷ []) in
          let below = all_built_to about s h k (arguments sides) (let l : h ≤ 1 + h = omega arith in l) (rest_built about s h end (arguments sides) m) in
          let done = pieces_of about s k end (first_built about s k end (onward ∷ []) both_built) in
          asked_to about s (suc k) (2 + h) a (let l : suc (1 + h) ≤ 2 + h = omega arith in l) (elim w [
            | inl x ↦ ends_asked about s k sides below end.pieces.items a done x
            | inr x ↦ layers_asked about s k sides below own (onward ∷ []) a (joined_of about s k (end ∷ onward ∷ []) both_built) (one_built about s k onward b)
                (inl (subst (λ (p : Path). AsksOf (λ q c. AsksWay sides q c ⊎ AsksCome about p q own c) onward.pieces.items a) (sym e) x))
          ])
