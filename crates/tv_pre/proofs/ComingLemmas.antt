-- Steps that lead to the end.
use Rattle.std.proofs.Common.{◌≡◌, ◌⊎◌, inl, inr, ℕ, zero, suc, ◌<◌, ◌≤◌, List, [], ◌∷◌, ◌++◌, map, length, All, Option, Some, slice_get, Bool, true, false, cond, ◌==◌, nat_lt, arith, refl, sym, ap, ◌∙◌, subst}
use Rattle.std.proofs.lemmas.Bool.Decides.{nat_tests}
use Rattle.std.proofs.lemmas.List.Elements.{All-head, All-tail}
use Rattle.tv_program.specs.Steps.{State}
use Rattle.tv_linear.specs.Linear.{Linear}
use Rattle.tv_linear.specs.Known.{Known, as_given}
use Rattle.tv_linear.specs.declared.choice.ChoiceTree.{ChoiceTree}
use Rattle.tv_linear.specs.declared.region.Piece.{Piece}
use Rattle.tv_linear.specs.declared.region.Region.{Region}
use Rattle.tv_linear.specs.Same.{OwedSame}
use Rattle.tv_cases.specs.LinearCases.{LinearCase, CaseSystem, AreCases}
use Rattle.tv_cert.specs.declared.node.Kind.TheVariants as kind
use Rattle.tv_cert.specs.declared.node.Mark.TheVariants.{Go}
use Rattle.tv_cert.specs.declared.node.Marked.{Marked}
use Rattle.tv_cert.specs.Choices.{IsMetChoice, drawn_change}
use Rattle.tv_cert.specs.Claims.{about_with}
use Rattle.tv_cert.specs.Obligations.{choice_into}
use Rattle.tv_cert.specs.Pieces.{place_of, rows_of, pieces_at}
use Rattle.tv_cert.specs.Targets.{owed_nothing, target_rows, no_fall}
use Rattle.tv_known.specs.Rounds.{Goes}
use Rattle.tv_region.specs.Met.{some_met}
use Rattle.tv_region.specs.Regions.{IsPieceOf, IsRegion, lists_at}
use Rattle.tv_region.proofs.AlgebraLemmas.{in_state}
use Rattle.tv_pre.specs.Growing.{IsEverywhere}
use Rattle.tv_pre.specs.Inclusions.{Chooses}
use Rattle.tv_pre.specs.Offers.{ShowsChoice, ShowsSuccessor}
use Rattle.tv_pre.specs.Pieces.{marked_as}
use Rattle.tv_pre.proofs.ChoiceLemmas.{choice_same, choice_shape}
use Rattle.tv_pre.proofs.OfferLemmas.{lists_marked}
use Rattle.tv_pre.proofs.PieceLemmas.{are_marked}
use Rattle.tv_cases.proofs.Updated.{other_number}
use Rattle.tv_cases.proofs.LeavingLemmas.{case_of_system}

-- ---- all states
cond_none : (b : Bool) (x : List Linear) (xs : List (List Linear)) → b ≡ false → cond b (x ∷ xs) xs ≡ xs
cond_none true x xs e = absurd (let no : ⊥ = cc in no)
cond_none false x xs e = refl

pub past_lists : (n m l : ℕ) (qs : List Piece) → All (IsPieceOf n m) qs → m ≤ l → lists_at l qs ≡ []
past_lists n m l [] h d = refl
past_lists n m l (q ∷ qs) h d =
    cond_none (q.location == l) q.poly.rows.items (lists_at l qs) (other_number q.location l (let p = (All-head (IsPieceOf n m) q qs h).place in omega (arith, p, d)))
    ∙ past_lists n m l qs (All-tail (IsPieceOf n m) q qs h) d

pub everywhere_is : (about : CaseSystem) (region : Region) → IsRegion about.variables about.locations region → ((l : ℕ) → l < about.locations → lists_at l region.pieces.items ≡ [] ∷ []) → IsEverywhere about region
everywhere_is about region over lists = record {
  over = over;
  bare = λ l. by_place l (nat_lt l about.locations) refl;
  all = λ s inside. in_state s.location s.values region (ap (some_met s.values) (lists s.location inside));
}
  where
    by_place : (l : ℕ) (b : Bool) → nat_lt l about.locations ≡ b → (lists_at l region.pieces.items ≡ [] ∷ []) ⊎ (lists_at l region.pieces.items ≡ [])
    by_place l true e = inl (lists l (let d : l < about.locations = grind (arith, nat_tests, e) in d))
    by_place l false e = inr (past_lists about.variables about.locations l region.pieces.items over.pieces (let d : about.locations ≤ l = grind (arith, nat_tests, e) in d))

-- ---- successors
pub goes_anywhere : (about : CaseSystem) (region : Region) (s : State) → AreCases about → IsEverywhere about region → Goes about s → Chooses about false region.pieces.items s
goes_anywhere about region s limits any (t, step) =
    inl (t, step, any.all t (let c = case_of_system about step.taken limits step.among in subst (λ l. l < about.locations) (sym step.does.enters) c.enters))

pub first_bare : (p : Marked) → rows_of p ∷ [] ≡ [] ∷ [] → rows_of p ≡ []
first_bare p e = cc

nothing_owed : (n : ℕ) (change : Linear → Known) (xs : List Marked) → (map rows_of xs ≡ [] ∷ []) ⊎ (map rows_of xs ≡ []) → (k j : ℕ) → OwedSame n (target_rows change no_fall (slice_get xs k) j) (owed_nothing k j)
nothing_owed n change [] h k zero = tt
nothing_owed n change [] h k (suc j) = tt
nothing_owed n change (x ∷ xs) (inr e) k j = absurd (let l = ap length e in omega (arith, l))
nothing_owed n change (x ∷ y ∷ xs) (inl e) k j = absurd (let l = ap length e in omega (arith, l))
nothing_owed n change (x ∷ []) (inl e) zero zero = subst (λ rs. OwedSame n (Some (map change rs ++ [])) (owed_nothing 0 0)) (sym (first_bare x e)) tt
nothing_owed n change (x ∷ []) (inl e) zero (suc j) = tt
nothing_owed n change (x ∷ []) (inl e) (suc k) zero = tt
nothing_owed n change (x ∷ []) (inl e) (suc k) (suc j) = tt

pub shows_successor : (about : CaseSystem) (q : Piece) (region : Region) (tree : ChoiceTree) → IsEverywhere about region → ShowsChoice about q false region.pieces.items tree → ShowsSuccessor about q tree
shows_successor about q region tree any shows number p m =
    let n = about.variables in
    let qs = region.pieces.items in
    let ps = map (marked_as n Go []) qs in
    let plain = shows number kind.Successor p ps m (are_marked n Go [] qs) in
    let owed : LinearCase → List Linear → ℕ → ℕ → Option (List Known) = choice_into (about_with about) ps (λ c draws. no_fall) in
    let wanted : LinearCase → List Linear → ℕ → ℕ → Option (List Known) = λ c draws. owed_nothing in
    let there = λ (l : ℕ). subst (λ ls. (ls ≡ [] ∷ []) ⊎ (ls ≡ [])) (sym (lists_marked l ps qs (are_marked n Go [] qs))) (any.bare l) in
    let met : IsMetChoice n about.cases (place_of p) false wanted (as_given (rows_of p)) tree =
    choice_same n about.cases (place_of p) false owed wanted (λ c draws k j. nothing_owed n (drawn_change n c draws) (pieces_at ps c.to) (there c.to) k j) (as_given (rows_of p)) tree plain.met
    in
    record {
      shape = (choice_shape n about.cases (place_of p) false owed wanted (as_given (rows_of p)) tree plain.shape.0 met, plain.shape.1);
      met = met;
      narrow = plain.narrow;
    }
