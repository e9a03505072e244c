-- The same formulas hold where the steps are the same. The states are those of a set that no step leaves.
use Rattle.std.proofs.Common.{◌⊎◌, inl, inr, List, [], ◌∷◌}
use Rattle.tv_formula.specs.declared.tree.Path.{Path}
use Rattle.tv_formula.specs.declared.tree.Path.TheVariants.{Every, Any}
use Rattle.tv_formula.specs.declared.tree.Shape.{Shape}
use Rattle.tv_formula.specs.declared.tree.Shape.TheVariants.{Until, Weak, Release, Strong}
use Rattle.tv_formula.specs.Properties.{Property, truth, compare, at, term, negated, all_of, some_of, next, fix, Properties, none, more}
use Rattle.tv_program.specs.Steps.{State}
use Rattle.tv_program.specs.Runs.{IsRun, last_of, AtOne, BeforeLast, Must, reached, further, Ends, all_end, WeakAnyFails}
use Rattle.tv_meaning.specs.Meaning.{FixHolds, NextHolds, Holds, AllHold, SomeHolds}

-- Two relations have the same steps from the states of a set, and no step leaves the set.
pub record SameOn {S : Type 0} (In : S → Type 0) (step step' : S → S → Type 0) : Type 0 where
  pub to : (s t : S) → In s → step s t → step' s t
  pub back : (s t : S) → In s → step' s t → step s t
  pub stays : (s t : S) → In s → step s t → In t

pub turned : {S : Type 0} {In : S → Type 0} {step step' : S → S → Type 0} → SameOn In step step' → SameOn In step' step
turned h = record { to = h.back; back = h.to; stays = λ s t i k. h.stays s t i (h.back s t i k) }

module _ (S : Type 0) (In : S → Type 0) (step step' : S → S → Type 0) (same : SameOn In step step') where
  Must_along : (f g f' g' : S → Type 0) → ((s : S) → In s → f s → f' s) → ((s : S) → In s → g s → g' s) → {s : S} → In s → Must step f g s → Must step' f' g' s
  Must_along f g f' g' ff gg {s} i (reached h) = reached (gg s i h)
  Must_along f g f' g' ff gg {s} i (further t a st h) =
      further t (ff s i a) (same.to s t i st) (λ u k. let b = same.back s u i k in Must_along f g f' g' ff gg (same.stays s u i b) (h u b))

  Ends_along : {s : S} → In s → Ends step s → Ends step' s
  Ends_along {s} i (all_end h) = all_end (λ u k. let b = same.back s u i k in Ends_along (same.stays s u i b) (h u b))

  IsRun_along : (s : S) (ts : List S) → In s → IsRun step s ts → IsRun step' s ts
  IsRun_along s [] i h = tt
  IsRun_along s (t ∷ ts) i h = (same.to s t i h.0, IsRun_along t ts (same.stays s t i h.0) h.1)

  last_along : (f f' : S → Type 0) → ((s : S) → In s → f s → f' s) → (s : S) (ts : List S) → In s → IsRun step s ts → f (last_of s ts) → f' (last_of s ts)
  last_along f f' ff s [] i h k = ff s i k
  last_along f f' ff s (t ∷ ts) i h k = last_along f f' ff t ts (same.stays s t i h.0) h.1 k

  one_along : (g g' : S → Type 0) → ((s : S) → In s → g s → g' s) → (s : S) (ts : List S) → In s → IsRun step s ts → AtOne g s ts → AtOne g' s ts
  one_along g g' gg s [] i h k = gg s i k
  one_along g g' gg s (t ∷ ts) i h (inl k) = inl (gg s i k)
  one_along g g' gg s (t ∷ ts) i h (inr k) = inr (one_along g g' gg t ts (same.stays s t i h.0) h.1 k)

  before_along : (f f' : S → Type 0) → ((s : S) → In s → f s → f' s) → (s : S) (ts : List S) → In s → IsRun step s ts → BeforeLast f s ts → BeforeLast f' s ts
  before_along f f' ff s [] i h k = tt
  before_along f f' ff s (t ∷ ts) i h k = (ff s i k.0, before_along f f' ff t ts (same.stays s t i h.0) h.1 k.1)

  Next_along : (f f' : S → Type 0) → ((s : S) → In s → f s → f' s) → (p : Path) (s : S) → In s → NextHolds step p f s → NextHolds step' p f' s
  Next_along f f' ff Every s i h = λ t k. let b = same.back s t i k in ff t (same.stays s t i b) (h t b)
  Next_along f f' ff Any s i h = (h.0, same.to s h.0 i h.1, ff h.0 (same.stays s h.0 i h.1) h.2)

module _ (S : Type 0) (In : S → Type 0) (step step' : S → S → Type 0) (same : SameOn In step step') where
  weak_along : (f g f' g' : S → Type 0) → ((s : S) → In s → f s → f' s) → ((s : S) → In s → g s → g' s) → (s : S) → In s → ((ts : List S) → IsRun step s ts → f (last_of s ts) ⊎ AtOne g s ts) → (ts : List S) → IsRun step' s ts → f' (last_of s ts) ⊎ AtOne g' s ts
  weak_along f g f' g' ff gg s i h ts run =
      let old = IsRun_along S In step' step (turned same) s ts i run in
      elim (h ts old) [
        | inl k ↦ inl (last_along S In step step' same f f' ff s ts i old k)
        | inr k ↦ inr (one_along S In step step' same g g' gg s ts i old k)
      ]

  fails_along : (f g f' g' : S → Type 0) → ((s : S) → In s → f' s → f s) → ((s : S) → In s → g' s → g s) → (s : S) → In s → WeakAnyFails step f g s → WeakAnyFails step' f' g' s
  fails_along f g f' g' ff gg s i h =
      Must_along S In step step' same (λ x. ¬ (g x)) (λ x. ¬ (f x) × ¬ (g x)) (λ x. ¬ (g' x)) (λ x. ¬ (f' x) × ¬ (g' x))
      (λ x j n k. n (gg x j k)) (λ x j n. (λ k. n.0 (ff x j k), λ k. n.1 (gg x j k))) i h

-- fixed points of the same properties
module _ (S : Type 0) (In : S → Type 0) (step step' : S → S → Type 0) (same : SameOn In step step') (f g f' g' : S → Type 0)
    (ff : (s : S) → In s → f s → f' s) (gg : (s : S) → In s → g s → g' s) where
  both : (s : S) → In s → f s × g s → f' s × g' s
  both s i h = (ff s i h.0, gg s i h.1)

  Fix_along : (p : Path) (w : Shape) (s : S) → In s → FixHolds step p w f g s → FixHolds step' p w f' g' s
  Fix_along Any Until s i h = (h.0, IsRun_along S In step step' same s h.0 i h.1, last_along S In step step' same g g' gg s h.0 i h.1 h.2, before_along S In step step' same f f' ff s h.0 i h.1 h.3)
  Fix_along Every Weak s i h = weak_along S In step step' same f g f' g' ff gg s i h
  Fix_along Every Until s i h = Must_along S In step step' same f g f' g' ff gg i h
  Fix_along Any Weak s i h = λ m. h (fails_along S In step' step (turned same) f' g' f g ff gg s i m)
  Fix_along Every Release s i h = weak_along S In step step' same g (λ x. f x × g x) g' (λ x. f' x × g' x) gg both s i h
  Fix_along Any Release s i h = λ m. h (fails_along S In step' step (turned same) g' (λ x. f' x × g' x) g (λ x. f x × g x) gg both s i m)
  Fix_along Every Strong s i h = Must_along S In step step' same g (λ x. f x × g x) g' (λ x. f' x × g' x) gg both i h
  Fix_along Any Strong s i h = (h.0, IsRun_along S In step step' same s h.0 i h.1, last_along S In step step' same (λ x. f x × g x) (λ x. f' x × g' x) both s h.0 i h.1 h.2, before_along S In step step' same g g' gg s h.0 i h.1 h.3)

mutual
  -- the same formulas hold where the steps are the same
  pub Holds_along : (In : State → Type 0) (step step' : State → State → Type 0) → SameOn In step step' → (f : Property) (s : State) → In s → Holds step f s → Holds step' f s
  Holds_along In step step' same (truth b) s i h = h
  Holds_along In step step' same (compare r a b) s i h = h
  Holds_along In step step' same (at l) s i h = h
  Holds_along In step step' same term s i h = Ends_along State In step step' same i h
  Holds_along In step step' same (negated f) s i h = λ k. h (Holds_along In step' step (turned same) f s i k)
  Holds_along In step step' same (all_of fs) s i h = All_along In step step' same fs s i h
  Holds_along In step step' same (some_of fs) s i h = Some_along In step step' same fs s i h
  Holds_along In step step' same (next p f) s i h = Next_along State In step step' same (λ t. Holds step f t) (λ t. Holds step' f t) (λ t j k. Holds_along In step step' same f t j k) p s i h
  Holds_along In step step' same (fix p w f g) s i h =
      Fix_along State In step step' same (λ t. Holds step f t) (λ t. Holds step g t) (λ t. Holds step' f t) (λ t. Holds step' g t)
      (λ t j k. Holds_along In step step' same f t j k) (λ t j k. Holds_along In step step' same g t j k) p w s i h

  All_along : (In : State → Type 0) (step step' : State → State → Type 0) → SameOn In step step' → (fs : Properties) (s : State) → In s → AllHold step fs s → AllHold step' fs s
  All_along In step step' same none s i h = tt
  All_along In step step' same (more f fs) s i h = (Holds_along In step step' same f s i h.0, All_along In step step' same fs s i h.1)

  Some_along : (In : State → Type 0) (step step' : State → State → Type 0) → SameOn In step step' → (fs : Properties) (s : State) → In s → SomeHolds step fs s → SomeHolds step' fs s
  Some_along In step step' same none s i h = h
  Some_along In step step' same (more f fs) s i (inl h) = inl (Holds_along In step step' same f s i h)
  Some_along In step step' same (more f fs) s i (inr h) = inr (Some_along In step step' same fs s i h)
