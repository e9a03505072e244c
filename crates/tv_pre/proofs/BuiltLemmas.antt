-- Regions that are built of the atoms of a formula.
use Rattle.std.proofs.Common.{◌<◌, length, get_or, ◌≡◌, inl, inr, ℕ, suc, ◌+◌, ◌≤◌, List, [], ◌∷◌, refl, sym, subst, arith}
use Rattle.std.specs.Prelude.{Contains}
use Rattle.std.proofs.lemmas.List.{append-nil}
use Rattle.std.proofs.lemmas.List.Elements.{Contains-get_or}
use Rattle.tv_linear.specs.declared.region.Piece.{Piece}
use Rattle.tv_linear.specs.declared.region.Region.{Region}
use Rattle.tv_cases.specs.LinearCases.{CaseSystem}
use Rattle.tv_cases.proofs.ContainsLemmas.{Contains-here, Contains-later, Contains-cases, Contains-none}
use Rattle.tv_cert.specs.Statements.{Statement}
use Rattle.tv_cert.specs.Obligations.{hold_side}
use Rattle.tv_formula.specs.declared.tree.Shape.{Shape}
use Rattle.tv_formula.specs.declared.tree.Shape.TheVariants.{Until, Weak, Release, Strong}
use Rattle.tv_farkas.specs.declared.budget.Budget.{Budget}
use Rattle.tv_region.specs.declared.fault.RegionFault.{RegionFault}
use Rattle.tv_rounds.specs.declared.fixed_point.FixedPoint.{FixedPoint}
use Rattle.tv_rounds.specs.Calls.{IsMade, IsRefusedCall}
use Rattle.tv_rounds.specs.Calls as made
use Rattle.tv_pre.specs.declared.fault.PreFault.{PreFault}
use Rattle.tv_pre.specs.declared.fault.PreFault.TheVariants as faults
use Rattle.tv_pre.specs.Questions.{Question}
use Rattle.tv_pre.specs.Parts.{joined_pieces}
use Rattle.tv_pre.specs.Built.{HasAtom, IsBuilt, of_atom, of_everywhere, of_nowhere, of_joined, of_same, of_both, of_either, of_rest, of_any, of_every, AreBuilt, ArePiecesBuilt, IsRefusedRegion, in_both, in_either, in_rest, in_any, in_every, IsAsked, of_place, of_steps, of_choice, IsPreFault}
use Rattle.tv_rounds.proofs.MadeLemmas.{lift_to}

-- ---- more steps back
module _ (about : CaseSystem) where
  built_up : (s : Statement) (h : ℕ) (r : Region) → IsBuilt about s h r → IsBuilt about s (suc h) r
  built_up s h _ (of_atom _ a r m is) = of_atom (suc h) a r m is
  built_up s h _ (of_everywhere _ r is) = of_everywhere (suc h) r is
  built_up s h _ (of_nowhere _ r is) = of_nowhere (suc h) r is
  built_up s _ _ (of_joined h rs r each few is) = of_joined (suc h) rs r (λ x m. built_up s h x (each x m)) (omega (arith, few)) is
  built_up s h _ (of_same _ a r f e) = of_same (suc h) a r (built_up s h a f) e
  built_up s h _ (of_both _ a b r f g is) = of_both (suc h) a b r (built_up s h a f) (built_up s h b g) is
  built_up s h _ (of_either _ a b r f g is) = of_either (suc h) a b r (built_up s h a f) (built_up s h b g) is
  built_up s h _ (of_rest _ a r f is) = of_rest (suc h) a r (built_up s h a f) is
  built_up s _ _ (of_any h a r f is) = of_any (suc h) a r (built_up s h a f) is
  built_up s _ _ (of_every h a r f is) = of_every (suc h) a r (built_up s h a f) is

  pub built_to : (s : Statement) (h k : ℕ) (r : Region) → h ≤ k → IsBuilt about s h r → IsBuilt about s k r
  built_to s h k r l m = lift_to (λ x. IsBuilt about s x r) (λ x. built_up s x r) h k l m

  pub all_built_to : (s : Statement) (h k : ℕ) (rs : List Region) → h ≤ k → AreBuilt about s h rs → AreBuilt about s k rs
  all_built_to s h k rs l m = λ r c. built_to s h k r l (m r c)

  refused_up : (s : Statement) (budget : Budget) (h : ℕ) (fault : RegionFault) → IsRefusedRegion about s budget h fault → IsRefusedRegion about s budget (suc h) fault
  refused_up s budget h _ (in_both _ a b fault f g is) = in_both (suc h) a b fault (built_up s h a f) (built_up s h b g) is
  refused_up s budget h _ (in_either _ a b fault f g is) = in_either (suc h) a b fault (built_up s h a f) (built_up s h b g) is
  refused_up s budget h _ (in_rest _ a fault f is) = in_rest (suc h) a fault (built_up s h a f) is
  refused_up s budget _ _ (in_any h a fault f is) = in_any (suc h) a fault (built_up s h a f) is
  refused_up s budget _ _ (in_every h a fault f is) = in_every (suc h) a fault (built_up s h a f) is

  pieces_up : (s : Statement) (h : ℕ) (qs : List Piece) → ArePiecesBuilt about s h qs → ArePiecesBuilt about s (suc h) qs
  pieces_up s h qs m = record { regions = m.regions; built = λ r c. built_up s h r (m.built r c); whole = m.whole }

  asked_up : (s : Statement) (h : ℕ) (a : Question) → IsAsked about s h a → IsAsked about s (suc h) a
  asked_up s h _ (of_place _ own into q f m g) = of_place (suc h) own into q (pieces_up s h own f) m (pieces_up s h into g)
  asked_up s _ _ (of_steps h own into q c f m g n e) = of_steps (suc h) own into q c (pieces_up s h own f) m (pieces_up s h into g) n e
  asked_up s _ _ (of_choice h own into q stop f m g) = of_choice (suc h) own into q stop (pieces_up s h own f) m (pieces_up s h into g)

  pub asked_to : (s : Statement) (h k : ℕ) (a : Question) → h ≤ k → IsAsked about s h a → IsAsked about s k a
  asked_to s h k a l m = lift_to (λ x. IsAsked about s x a) (λ x. asked_up s x a) h k l m

  pub fault_to : (s : Statement) (budget : Budget) (h k : ℕ) (fault : PreFault) → h ≤ k → IsPreFault about s budget h fault → IsPreFault about s budget k fault
  fault_to s budget h k (faults.Region f) l m = (lift_to (λ x. IsRefusedRegion about s budget x f) (λ x. refused_up s budget x f) h k l m.0, m.1)
  fault_to s budget h k (faults.Cover f) l m = (record { question = m.0.question; asked = asked_to s h k m.0.question l m.0.asked; refuses = m.0.refuses }, m.1)
  fault_to s budget h k (faults.Rank system f) l m = m
  fault_to s budget h k faults.Memory l m = tt

  pub one_more : (s : Statement) (h : ℕ) (r : Region) → IsBuilt about s (suc h) r → IsBuilt about s (1 + h) r
  one_more s h r m = subst (λ x. IsBuilt about s x r) (let e : suc h ≡ 1 + h = omega arith in e) m

  pub one_more_refused : (s : Statement) (budget : Budget) (h : ℕ) (fault : RegionFault) → IsRefusedRegion about s budget (suc h) fault → IsRefusedRegion about s budget (1 + h) fault
  one_more_refused s budget h fault m = subst (λ x. IsRefusedRegion about s budget x fault) (let e : suc h ≡ 1 + h = omega arith in e) m

  -- ---- more atoms
  module _ (s t : Statement) (more : (a : Statement) → HasAtom s a → HasAtom t a) where
    pub built_wider : (h : ℕ) (r : Region) → IsBuilt about s h r → IsBuilt about t h r
    built_wider h _ (of_atom _ a r m is) = of_atom h a r (more a m) is
    built_wider h _ (of_everywhere _ r is) = of_everywhere h r is
    built_wider h _ (of_nowhere _ r is) = of_nowhere h r is
    built_wider _ _ (of_joined h rs r each few is) = of_joined h rs r (λ x m. built_wider h x (each x m)) few is
    built_wider h _ (of_same _ a r f e) = of_same h a r (built_wider h a f) e
    built_wider h _ (of_both _ a b r f g is) = of_both h a b r (built_wider h a f) (built_wider h b g) is
    built_wider h _ (of_either _ a b r f g is) = of_either h a b r (built_wider h a f) (built_wider h b g) is
    built_wider h _ (of_rest _ a r f is) = of_rest h a r (built_wider h a f) is
    built_wider _ _ (of_any h a r f is) = of_any h a r (built_wider h a f) is
    built_wider _ _ (of_every h a r f is) = of_every h a r (built_wider h a f) is

    refused_wider : (budget : Budget) (h : ℕ) (fault : RegionFault) → IsRefusedRegion about s budget h fault → IsRefusedRegion about t budget h fault
    refused_wider budget h _ (in_both _ a b fault f g is) = in_both h a b fault (built_wider h a f) (built_wider h b g) is
    refused_wider budget h _ (in_either _ a b fault f g is) = in_either h a b fault (built_wider h a f) (built_wider h b g) is
    refused_wider budget h _ (in_rest _ a fault f is) = in_rest h a fault (built_wider h a f) is
    refused_wider budget _ _ (in_any h a fault f is) = in_any h a fault (built_wider h a f) is
    refused_wider budget _ _ (in_every h a fault f is) = in_every h a fault (built_wider h a f) is

    pieces_wider : (h : ℕ) (qs : List Piece) → ArePiecesBuilt about s h qs → ArePiecesBuilt about t h qs
    pieces_wider h qs m = record { regions = m.regions; built = λ r c. built_wider h r (m.built r c); whole = m.whole }

    pub asked_wider : (h : ℕ) (a : Question) → IsAsked about s h a → IsAsked about t h a
    asked_wider h _ (of_place _ own into q f m g) = of_place h own into q (pieces_wider h own f) m (pieces_wider h into g)
    asked_wider _ _ (of_steps h own into q c f m g n e) = of_steps h own into q c (pieces_wider h own f) m (pieces_wider h into g) n e
    asked_wider _ _ (of_choice h own into q stop f m g) = of_choice h own into q stop (pieces_wider h own f) m (pieces_wider h into g)

    pub fault_wider : (budget : Budget) (h : ℕ) (fault : PreFault) → IsPreFault about s budget h fault → IsPreFault about t budget h fault
    fault_wider budget h (faults.Region f) m = (refused_wider budget h f m.0, m.1)
    fault_wider budget h (faults.Cover f) m = (record { question = m.0.question; asked = asked_wider h m.0.question m.0.asked; refuses = m.0.refuses }, m.1)
    fault_wider budget h (faults.Rank system f) m = m
    fault_wider budget h faults.Memory m = tt

  -- ---- pieces of regions
  pub one_built : (s : Statement) (h : ℕ) (r : Region) → IsBuilt about s h r → AreBuilt about s h (r ∷ [])
  one_built s h r m = λ x c. elim (Contains-cases r x [] c) [ inl e ↦ subst (IsBuilt about s h) e m | inr n ↦ absurd (Contains-none x n) ]

  pub more_built : (s : Statement) (h : ℕ) (r : Region) (rs : List Region) → IsBuilt about s h r → AreBuilt about s h rs → AreBuilt about s h (r ∷ rs)
  more_built s h r rs m n = λ x c. elim (Contains-cases r x rs c) [ inl e ↦ subst (IsBuilt about s h) e m | inr k ↦ n x k ]

  pub first_built : (s : Statement) (h : ℕ) (r : Region) (rs : List Region) → AreBuilt about s h (r ∷ rs) → IsBuilt about s h r
  first_built s h r rs m = m r (Contains-here r rs)

  pub rest_built : (s : Statement) (h : ℕ) (r : Region) (rs : List Region) → AreBuilt about s h (r ∷ rs) → AreBuilt about s h rs
  rest_built s h r rs m = λ x c. m x (Contains-later r x rs c)

  pub member_built : (s : Statement) (h : ℕ) (rs : List Region) (i : ℕ) (r : Region) → i < length rs → r ≡ get_or rs i r → AreBuilt about s h rs → IsBuilt about s (0 + h) r
  member_built s h rs i r l e m = built_to s h (0 + h) r (omega arith) (m r (subst (Contains rs) (sym e) (Contains-get_or rs i r l)))

  pub first_of_two : (s : Statement) (h : ℕ) (a b : Region) → AreBuilt about s h (a ∷ b ∷ []) → IsBuilt about s (0 + h) a
  first_of_two s h a b m = built_to s h (0 + h) a (omega arith) (m a (Contains-here a (b ∷ [])))

  pub second_of_two : (s : Statement) (h : ℕ) (a b : Region) → AreBuilt about s h (a ∷ b ∷ []) → IsBuilt about s (0 + h) b
  second_of_two s h a b m = built_to s h (0 + h) b (omega arith) (m b (Contains-later a b (b ∷ []) (Contains-here b [])))

  pub first_alone : (s : Statement) (h : ℕ) (a : Region) (rs : List Region) → AreBuilt about s h (a ∷ rs) → AreBuilt about s h (a ∷ [])
  first_alone s h a rs m = one_built s h a (first_built s h a rs m)

  pub hold_built : (s : Statement) (h : ℕ) (shape : Shape) (a b : Region) → AreBuilt about s h (a ∷ b ∷ []) → IsBuilt about s h (hold_side shape a b)
  hold_built s h Until a b m = m a (Contains-here a (b ∷ []))
  hold_built s h Weak a b m = m a (Contains-here a (b ∷ []))
  hold_built s h Release a b m = m b (Contains-later a b (b ∷ []) (Contains-here b []))
  hold_built s h Strong a b m = m b (Contains-later a b (b ∷ []) (Contains-here b []))

  pub asked_one : (s : Statement) (h : ℕ) (a : Question) → IsAsked about s (suc h) a → IsAsked about s (1 + h) a
  asked_one s h a m = subst (λ x. IsAsked about s x a) (let e : suc h ≡ 1 + h = omega arith in e) m

  pub pieces_of : (s : Statement) (h : ℕ) (r : Region) → IsBuilt about s h r → ArePiecesBuilt about s h r.pieces.items
  pieces_of s h r m = record { regions = r ∷ []; built = one_built s h r m; whole = sym (append-nil r.pieces.items) }

  pub joined_of : (s : Statement) (h : ℕ) (rs : List Region) → AreBuilt about s h rs → ArePiecesBuilt about s h (joined_pieces rs)
  joined_of s h rs m = record { regions = rs; built = m; whole = refl }

  -- ---- what rounds make
  module _ (s : Statement) (h : ℕ) (fix : FixedPoint) (hold : IsBuilt about s h fix.hold.now) (end : IsBuilt about s h fix.end.now) where
    at : (k : ℕ) (r : Region) → IsBuilt about s h r → IsBuilt about s (k + h) r
    at k r m = built_to s h (k + h) r (omega arith) m

    pub made_built : (k : ℕ) (r : Region) → IsMade about fix k r → IsBuilt about s (k + h) r
    made_built k _ (made.of_hold _) = at k fix.hold.now hold
    made_built k _ (made.of_end _) = at k fix.end.now end
    made_built k _ (made.of_nowhere _ a n) = of_nowhere (k + h) a n
    made_built k _ (made.of_both _ a b r f g is) = of_both (k + h) a b r (made_built k a f) (made_built k b g) is
    made_built k _ (made.of_either _ a b r f g is) = of_either (k + h) a b r (made_built k a f) (made_built k b g) is
    made_built k _ (made.of_rest _ a r f is) = of_rest (k + h) a r (made_built k a f) is
    made_built _ _ (made.of_any k a r f is) = subst (λ x. IsBuilt about s x r) (let e : suc (k + h) ≡ suc k + h = omega arith in e) (of_any (k + h) a r (made_built k a f) is)
    made_built _ _ (made.of_every k a r f is) = subst (λ x. IsBuilt about s x r) (let e : suc (k + h) ≡ suc k + h = omega arith in e) (of_every (k + h) a r (made_built k a f) is)

    pub call_built : (budget : Budget) (k : ℕ) (fault : RegionFault) → IsRefusedCall about fix budget k fault → IsRefusedRegion about s budget (k + h) fault
    call_built budget k _ (made.in_both _ a b fault f g is) = in_both (k + h) a b fault (made_built k a f) (made_built k b g) is
    call_built budget k _ (made.in_either _ a b fault f g is) = in_either (k + h) a b fault (made_built k a f) (made_built k b g) is
    call_built budget k _ (made.in_rest _ a fault f is) = in_rest (k + h) a fault (made_built k a f) is
    call_built budget _ _ (made.in_any k a fault f is) = subst (λ x. IsRefusedRegion about s budget x fault) (let e : suc (k + h) ≡ suc k + h = omega arith in e) (in_any (k + h) a fault (made_built k a f) is)
    call_built budget _ _ (made.in_every k a fault f is) = subst (λ x. IsRefusedRegion about s budget x fault) (let e : suc (k + h) ≡ suc k + h = omega arith in e) (in_every (k + h) a fault (made_built k a f) is)
