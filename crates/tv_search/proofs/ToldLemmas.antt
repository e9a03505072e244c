-- what all proposers tell is what they gave
use Rattle.std.proofs.Common.{◌≡◌, ℕ, ℤ, List, [], ◌∷◌, Option, None, Some, refl, ap, subst}
use Rattle.std.specs.List.{AllByRecursion}
use Rattle.tv_cases.proofs.ContainsLemmas.{Contains-here, Contains-later}
use Rattle.std.specs.List.{AllZip, Contains}
use Rattle.tv_cases.specs.LinearCases.{CaseSystem}
use Rattle.tv_candidates.specs.declared.candidate.Candidate.{Candidate}
use Rattle.tv_candidates.specs.Inductive.{IsLargestInductive}
use Rattle.tv_candidates.specs.Offered.{offered}
use Rattle.tv_invariant.specs.Asking.{IsTold, Gave}
use Rattle.tv_farkas.specs.declared.budget.Budget.{Budget}
use Rattle.tv_causes.specs.Invariants as invariants
use Rattle.tv_causes.specs.CasePaths.{IsOpenPath}
use Rattle.tv_causes.specs.Causes as causes
use Rattle.tv_search.specs.declared.search_fault.SearchFault.{SearchFault}
use Rattle.tv_search.specs.declared.search_fault.SearchFault.TheVariants.{Invariant, Paths, Cover, Memory}
use Rattle.tv_search.specs.Answers.{IsLeftPoint}
use Rattle.tv_search.specs.Laws.{ShutsOut, AreTold, IsCauseOf}

told_one : (told : Option (List Candidate)) (a b : List Candidate) → IsTold told a → told ≡ Some b → a ≡ b
told_one told a b h e = subst (λ o. IsTold o a) e h

told_all : {A : Type 0} (rest : A → Option (List Candidate)) (ps : List A) (xs ys : List (List Candidate)) → Gave rest ps xs → AllZip (λ p given. rest p ≡ Some given) ps ys → xs ≡ ys
told_all rest [] [] [] g h = refl
told_all rest [] [] (y ∷ ys) g h = absurd h
told_all rest [] (x ∷ xs) ys g h = absurd g
told_all rest (p ∷ ps) [] ys g h = absurd g
told_all rest (p ∷ ps) (x ∷ xs) [] g h = absurd h
told_all rest (p ∷ ps) (x ∷ xs) (y ∷ ys) g h =
    subst (λ z. x ∷ xs ≡ z ∷ ys) (told_one (rest p) x y g.0 h.0) (ap (λ zs. x ∷ zs) (told_all rest ps xs ys g.1 h.1))

pub shut_out : {A : Type 0} (rest : A → Option (List Candidate)) (ps : List A) (about : CaseSystem) (l : ℕ) (point : List ℤ) → ShutsOut rest ps about l → IsLeftPoint about (Gave rest ps) l point → ⊥
shut_out rest ps about l point s left = s.shut point left.left.counted (λ c inside. left.left.meets c (within c inside)) where
  given : IsLargestInductive about (offered about s.lists) left.list
  given = subst (λ lists. IsLargestInductive about (offered about lists) left.list) (told_all rest ps left.known.largest.0 s.lists left.known.largest.1 s.told) left.known.largest.2

  within : (c : Candidate) → Contains s.part c → Contains left.list c
  within = given.greatest s.part s.largest.within s.largest.inductive

-- ---- faults as causes

module _ {A : Type 0} (rest : A → Option (List Candidate)) (ps : List A) (about : CaseSystem) (l : ℕ) where
  greatest_told : (told : causes.Told) (lists : List (List Candidate)) (part : List Candidate) → AreTold rest ps told → Gave rest ps lists → IsLargestInductive about (offered about lists) part → invariants.IsLargestTold about told part
  greatest_told None lists part t g h = tt
  greatest_told (Some rests) lists part t g h = subst (λ xs. IsLargestInductive about (offered about xs) part) (told_all rest ps lists rests g t) h

  left_point : (told : causes.Told) (point : List ℤ) → AreTold rest ps told → IsLeftPoint about (Gave rest ps) l point → causes.IsLeftPoint about told l point
  left_point told point t h = record {
    known = h.list;
    strengthened = record {
      inductive = h.known.inductive;
      least = h.known.false_parts;
      greatest = greatest_told told h.known.largest.0 h.list t h.known.largest.1 h.known.largest.2;
    };
    counted = h.left.counted;
    meets = h.left.meets;
  }

  each_open : (steps : ℕ) (paths : List (List ℕ)) → ((path : List ℕ) → Contains paths path → IsOpenPath about steps path) → AllByRecursion (IsOpenPath about steps) paths
  each_open steps [] h = tt
  each_open steps (path ∷ paths) h = (h path (Contains-here path paths), each_open steps paths (λ q c. h q (Contains-later path q paths c)))

  pub cause_of : (budget : Budget) (fault : SearchFault) → IsCauseOf rest ps about l budget fault
  cause_of budget (Invariant point) f told safety t h = record {
    safety = safety;
    left = left_point told point.items t h.0;
    not_near = h.1;
  }
  cause_of budget (Paths count point) f told safety t h = record {
    l = l;
    safety = safety;
    point = point.items;
    left = left_point told point.items t h.0;
    above = h.1.above;
    steps = h.1.steps;
    few_steps = h.1.few_steps;
    paths = h.1.paths;
    as_many = h.1.as_many;
    different = h.1.different;
    are_open = each_open h.1.steps h.1.paths h.1.are_open;
  }
  cause_of budget (Cover fault) f told safety t h = tt
  cause_of budget Memory f told safety t h = tt
