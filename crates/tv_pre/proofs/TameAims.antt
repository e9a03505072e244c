-- Formulas whose comparisons are of differences.
use Rattle.std.proofs.Common.{◌≡◌, inl, inr, ℕ, ◌+◌, ◌<◌, ◌≤◌, List, [], ◌∷◌, length, get_or, take, refl, subst, true, false}
use Rattle.std.specs.Prelude.{All}
use Rattle.std.proofs.lemmas.List.Elements.{All-cons, All-head, All-more, All-nil, All-tail}
use Rattle.tv_linear.proofs.ListLaws.{take_past}
use Rattle.tv_linear.specs.Linear.{Linear}
use Rattle.tv_cert.specs.declared.aim.Aim.{Aim}
use Rattle.tv_cert.specs.AimViews.{aim_states, aims_state}
use Rattle.tv_cert.specs.Statements.{Statement, rows, here, elsewhere, ends, never_ends, each_of, one_of, after, along, unsaid, Statements, no_statement, statement}
use Rattle.tv_region.specs.Met.{InSome}
use Rattle.tv_region.specs.Differences.{IsDifference}
use Rattle.tv_region.proofs.MetLemmas.{all_has as has_all}
use Rattle.tv_pre.specs.Built.{SomeHasAtom}
use Rattle.tv_pre.specs.Finding.{AreAtomsOfDifferences}
use Rattle.tv_pre.specs.Tame.{AreListsOfDifferences, IsOfDifferencesIn, AreOfDifferencesIn}
use Rattle.tv_pre.proofs.DifferenceLemmas.{all_has}

rows_in : (lists : List (List Linear)) → AreListsOfDifferences lists → (r : Linear) → InSome lists r → IsDifference r
rows_in [] h r m = absurd m
rows_in (list ∷ lists) h r (inl m) = all_has IsDifference list h.0 r m
rows_in (list ∷ lists) h r (inr m) = rows_in lists h.1 r m

lists_of : (lists : List (List Linear)) → ((r : Linear) → InSome lists r → IsDifference r) → AreListsOfDifferences lists
lists_of [] h = tt
lists_of (list ∷ lists) h = (has_all IsDifference list (λ r m. h r (inl m)), lists_of lists (λ r m. h r (inr m)))

mutual
  pub differ_in : (s : Statement) → IsOfDifferencesIn s → AreAtomsOfDifferences s
  differ_in (rows ls) h lists r a m = rows_in ls h r (let e : lists ≡ ls = cc in subst (λ z. InSome z r) e m)
  differ_in (here l) h lists r a m = absurd cc
  differ_in (elsewhere l) h lists r a m = absurd cc
  differ_in ends h lists r a m = absurd a
  differ_in never_ends h lists r a m = absurd a
  differ_in (each_of ss) h lists r a m = some_in ss h lists r a m
  differ_in (one_of ss) h lists r a m = some_in ss h lists r a m
  differ_in (after path s) h lists r a m = differ_in s h lists r a m
  differ_in (along path shape s t) h lists r (inl a) m = differ_in s h.0 lists r a m
  differ_in (along path shape s t) h lists r (inr a) m = differ_in t h.1 lists r a m
  differ_in unsaid h lists r a m = absurd a

  some_in : (ss : Statements) → AreOfDifferencesIn ss → (lists : List (List Linear)) (r : Linear) → SomeHasAtom ss (rows lists) → InSome lists r → IsDifference r
  some_in no_statement h lists r a m = absurd a
  some_in (statement s ss) h lists r (inl a) m = differ_in s h.0 lists r a m
  some_in (statement s ss) h lists r (inr a) m = some_in ss h.1 lists r a m

mutual
  pub in_differ : (s : Statement) → AreAtomsOfDifferences s → IsOfDifferencesIn s
  in_differ (rows ls) h = lists_of ls (λ r m. h ls r refl m)
  in_differ (here l) h = tt
  in_differ (elsewhere l) h = tt
  in_differ ends h = tt
  in_differ never_ends h = tt
  in_differ (each_of ss) h = in_some ss (λ lists r a m. h lists r a m)
  in_differ (one_of ss) h = in_some ss (λ lists r a m. h lists r a m)
  in_differ (after path s) h = in_differ s (λ lists r a m. h lists r a m)
  in_differ (along path shape s t) h = (in_differ s (λ lists r a m. h lists r (inl a) m), in_differ t (λ lists r a m. h lists r (inr a) m))
  in_differ unsaid h = tt

  in_some : (ss : Statements) → ((lists : List (List Linear)) (r : Linear) → SomeHasAtom ss (rows lists) → InSome lists r → IsDifference r) → AreOfDifferencesIn ss
  in_some no_statement h = tt
  in_some (statement s ss) h = (in_differ s (λ lists r a m. h lists r (inl a) m), in_some ss (λ lists r a m. h lists r (inr a) m))

-- ---- lists of formulas
abbrev IsOfAim : Aim → Type 0
IsOfAim a = IsOfDifferencesIn (aim_states a)

pub all_in : (aims : List Aim) → All (λ (a : Aim). IsOfDifferencesIn (aim_states a)) aims → AreOfDifferencesIn (aims_state aims)
all_in [] h = tt
all_in (a ∷ aims) h = (All-head IsOfAim a aims h, all_in aims (All-tail IsOfAim a aims h))

pub in_all : (aims : List Aim) → AreOfDifferencesIn (aims_state aims) → All (λ (a : Aim). IsOfDifferencesIn (aim_states a)) aims
in_all [] h = All-nil IsOfAim
in_all (a ∷ aims) h = All-cons IsOfAim a aims h.0 (in_all aims h.1)

pub aims_more : (aims : List Aim) (i : ℕ) (a : Aim) → i < length aims → a ≡ get_or aims i a → All (λ (x : Aim). IsOfDifferencesIn (aim_states x)) (take i aims) → IsOfDifferencesIn (aim_states a) → All (λ (x : Aim). IsOfDifferencesIn (aim_states x)) (take (i + 1) aims)
aims_more aims i a l e h w = All-more IsOfAim aims i a l h (subst IsOfAim e w)

pub whole_aims : (aims : List Aim) (i : ℕ) → length aims ≤ i → All (λ (x : Aim). IsOfDifferencesIn (aim_states x)) (take i aims) → All (λ (x : Aim). IsOfDifferencesIn (aim_states x)) aims
whole_aims aims i l h = subst (All IsOfAim) (take_past aims i l) h

-- ---- what was found to be false is not true
pub untold : false ≡ true → ⊥
untold e = absurd cc
