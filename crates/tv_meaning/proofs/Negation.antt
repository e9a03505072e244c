use Rattle.std.proofs.Common.{◌⊎◌, inl, inr, List, [], ◌∷◌, Bool, true, false, not, IsTrue}
use Rattle.std.proofs.Common.{ℤ, int_eq, int_lt}
use Rattle.tv_program.specs.declared.tree.Relation.{Relation}
use Rattle.tv_program.specs.declared.tree.Relation.TheVariants.{Less, LessEqual, Greater, GreaterEqual, Equal, NotEqual}
use Rattle.tv_formula.specs.declared.tree.Path.{Path}
use Rattle.tv_formula.specs.declared.tree.Path.TheVariants.{Every, Any}
use Rattle.tv_formula.specs.declared.tree.Shape.{Shape}
use Rattle.tv_formula.specs.declared.tree.Shape.TheVariants.{Until, Weak, Release, Strong}
use Rattle.tv_program.specs.Meaning.{value_of, compares}
use Rattle.tv_program.specs.Steps.{State}
use Rattle.tv_program.specs.Runs.{last_of, Must, reached, further, WeakEvery, UntilAny, AtOne, BeforeLast}
use Rattle.tv_meaning.specs.Meaning.{FixHolds, NextHolds}
use Rattle.tv_formula.specs.Properties.{Property, truth, compare, at, term, negated, all_of, some_of, next, fix, Properties, none, more}
use Rattle.tv_formula.specs.Normal.{negation, normal, negations, normals, opposite, other_path, other_shape}
use Rattle.tv_meaning.specs.Meaning.{Holds, AllHold, SomeHolds}

Must_weaker : {S : Type 0} {step : S → S → Type 0} {f g f' g' : S → Type 0} → ((s : S) → f s → f' s) → ((s : S) → g s → g' s) → {s : S} → Must step f g s → Must step f' g' s
Must_weaker a b {s} (reached h) = reached (b s h)
Must_weaker a b {s} (further t k st h) = further t (a s k) st (λ t' st'. Must_weaker a b (h t' st'))

-- no run can have q at its last state and p before, where each run has r at its last state or u at one
until_not_weak : {S : Type 0} {p q r u : S → Type 0} → ((s : S) → q s → r s → ⊥) → ((s : S) → q s → u s → ⊥) → ((s : S) → p s → u s → ⊥) → (s : S) (ts : List S) → q (last_of s ts) → BeforeLast p s ts → r (last_of s ts) ⊎ AtOne u s ts → ⊥
until_not_weak a b c s [] l before (inl h) = a s l h
until_not_weak a b c s [] l before (inr h) = b s l h
until_not_weak a b c s (t ∷ ts) l before (inl h) = until_not_weak a b c t ts l before.1 (inl h)
until_not_weak a b c s (t ∷ ts) l before (inr (inl h)) = c s before.0 h
until_not_weak a b c s (t ∷ ts) l before (inr (inr h)) = until_not_weak a b c t ts l before.1 (inr h)

AtOne_weaker : {S : Type 0} {g g' : S → Type 0} → ((s : S) → g s → g' s) → (s : S) (ts : List S) → AtOne g s ts → AtOne g' s ts
AtOne_weaker b s [] h = b s h
AtOne_weaker b s (t ∷ ts) (inl h) = inl (b s h)
AtOne_weaker b s (t ∷ ts) (inr h) = inr (AtOne_weaker b t ts h)

Before_weaker : {S : Type 0} {g g' : S → Type 0} → ((s : S) → g s → g' s) → (s : S) (ts : List S) → BeforeLast g s ts → BeforeLast g' s ts
Before_weaker b s [] h = tt
Before_weaker b s (t ∷ ts) h = (b s h.0, Before_weaker b t ts h.1)

Weak_weaker : {S : Type 0} {step : S → S → Type 0} {f g f' g' : S → Type 0} → ((s : S) → f s → f' s) → ((s : S) → g s → g' s) → (s : S) → WeakEvery step f g s → WeakEvery step f' g' s
Weak_weaker a b s h ts run = elim (h ts run) [ inl k ↦ inl (a (last_of s ts) k) | inr k ↦ inr (AtOne_weaker b s ts k) ]

Until_weaker : {S : Type 0} {step : S → S → Type 0} {f g f' g' : S → Type 0} → ((s : S) → f s → f' s) → ((s : S) → g s → g' s) → (s : S) → UntilAny step f g s → UntilAny step f' g' s
Until_weaker a b s h = (h.0, h.1, b (last_of s h.0) h.2, Before_weaker a s h.0 h.3)

not_both : (b : Bool) → IsTrue (not b) → IsTrue b → ⊥
not_both true h k = cc
not_both false h k = cc

-- every fixed point grows with its sides
module _ (S : Type 0) (step : S → S → Type 0) (f g f' g' : S → Type 0) (a : (s : S) → f s → f' s) (b : (s : S) → g s → g' s) where
  both : (s : S) → f s × g s → f' s × g' s
  both s k = (a s k.0, b s k.1)

  pub fix_weaker : (p : Path) (w : Shape) (s : S) → FixHolds step p w f g s → FixHolds step p w f' g' s
  fix_weaker Any Until s h = Until_weaker a b s h
  fix_weaker Every Weak s h = Weak_weaker a b s h
  fix_weaker Every Until s h = Must_weaker a b h
  fix_weaker Any Weak s h = λ m. h (Must_weaker (λ x n k. n (b x k)) (λ x n. (λ k. n.0 (a x k), λ k. n.1 (b x k))) m)
  fix_weaker Every Release s h = Weak_weaker b both s h
  fix_weaker Any Release s h = λ m. h (Must_weaker (λ x n k. n (both x k)) (λ x n. (λ k. n.0 (b x k), λ k. n.1 (both x k))) m)
  fix_weaker Every Strong s h = Must_weaker b both h
  fix_weaker Any Strong s h = Until_weaker b both s h

-- the other path and the other shape of what excludes the sides excludes the fixed point
module _ (S : Type 0) (step : S → S → Type 0) (f g nf ng : S → Type 0) (a : (s : S) → nf s → f s → ⊥) (b : (s : S) → ng s → g s → ⊥) where
  first : (s : S) → nf s × ng s → f s → ⊥
  first s q k = a s q.0 k

  second : (s : S) → nf s × ng s → g s → ⊥
  second s q k = b s q.1 k

  left : (s : S) → nf s → f s × g s → ⊥
  left s q k = a s q k.0

  right : (s : S) → ng s → f s × g s → ⊥
  right s q k = b s q k.1

  pub fix_excludes : (p : Path) (w : Shape) (s : S) → FixHolds step (other_path p) (other_shape w) nf ng s → FixHolds step p w f g s → ⊥
  fix_excludes Every Until s n h = n (Must_weaker (λ x k q. first x q k) (λ x k. (λ q. b x q k, λ q. second x q k)) h)
  fix_excludes Every Weak s n h = until_not_weak {p = ng} {q = λ x. nf x × ng x} {r = f} {u = g} first second b s n.0 n.2 n.3 (h n.0 n.1)
  fix_excludes Every Release s n h = until_not_weak {p = nf} {q = ng} {r = g} {u = λ x. f x × g x} b right left s n.0 n.2 n.3 (h n.0 n.1)
  fix_excludes Every Strong s n h = n (Must_weaker (λ x k q. b x q k) (λ x k. (λ q. left x q k, λ q. right x q k)) h)
  fix_excludes Any Until s n h = until_not_weak {p = f} {q = g} {r = ng} {u = λ x. nf x × ng x} (λ x k q. b x q k) (λ x k q. second x q k) (λ x k q. first x q k) s h.0 h.2 h.3 (n h.0 h.1)
  fix_excludes Any Weak s n h = h (Must_weaker (λ x q k. b x q k) (λ x q. (λ k. first x q k, λ k. second x q k)) n)
  fix_excludes Any Release s n h = h (Must_weaker (λ x q k. left x q k) (λ x q. (λ k. b x q k, λ k. right x q k)) n)
  fix_excludes Any Strong s n h = until_not_weak {p = g} {q = λ x. f x × g x} {r = nf} {u = ng} (λ x k q. left x q k) (λ x k q. right x q k) (λ x k q. b x q k) s h.0 h.2 h.3 (n h.0 h.1)

next_excludes : (S : Type 0) (step : S → S → Type 0) (f nf : S → Type 0) (p : Path) → ((s : S) → nf s → f s → ⊥) → (s : S) → NextHolds step (other_path p) nf s → NextHolds step p f s → ⊥
next_excludes S step f nf Every a s n h = a n.0 n.2 (h n.0 n.1)
next_excludes S step f nf Any a s n h = a h.0 (n h.0 h.1) h.2

pub next_weaker : (S : Type 0) (step : S → S → Type 0) (f f' : S → Type 0) (p : Path) → ((s : S) → f s → f' s) → (s : S) → NextHolds step p f s → NextHolds step p f' s
next_weaker S step f f' Every a s h = λ t k. a t (h t k)
next_weaker S step f f' Any a s h = (h.0, h.1, a h.0 h.2)

opposite_not : (r : Relation) (a b : ℤ) → IsTrue (compares (opposite r) a b) → IsTrue (compares r a b) → ⊥
opposite_not Less a b n h = not_both (int_lt a b) n h
opposite_not LessEqual a b n h = not_both (int_lt b a) h n
opposite_not Greater a b n h = not_both (int_lt b a) n h
opposite_not GreaterEqual a b n h = not_both (int_lt a b) h n
opposite_not Equal a b n h = not_both (int_eq a b) n h
opposite_not NotEqual a b n h = not_both (int_eq a b) h n

mutual
  pub negation_excludes : (step : State → State → Type 0) (f : Property) (s : State) → Holds step (negation f) s → Holds step f s → ⊥
  negation_excludes step (truth b) s n h = not_both b n h
  negation_excludes step (compare r a b) s n h = opposite_not r (value_of a s.values []) (value_of b s.values []) n h
  negation_excludes step (at l) s n h = n h
  negation_excludes step term s n h = n h
  negation_excludes step (negated f) s n h = h (normal_holds step f s n)
  negation_excludes step (all_of fs) s n h = some_excludes step fs s n h
  negation_excludes step (some_of fs) s n h = all_excludes step fs s n h
  negation_excludes step (next p f) s n h = next_excludes State step (λ t. Holds step f t) (λ t. Holds step (negation f) t) p (λ t a b. negation_excludes step f t a b) s n h
  negation_excludes step (fix p w f g) s n h = fix_excludes State step (λ t. Holds step f t) (λ t. Holds step g t) (λ t. Holds step (negation f) t) (λ t. Holds step (negation g) t) (λ t a b. negation_excludes step f t a b) (λ t a b. negation_excludes step g t a b) p w s n h

  pub normal_holds : (step : State → State → Type 0) (f : Property) (s : State) → Holds step (normal f) s → Holds step f s
  normal_holds step (truth b) s h = h
  normal_holds step (compare r a b) s h = h
  normal_holds step (at l) s h = h
  normal_holds step term s h = h
  normal_holds step (negated f) s h = λ k. negation_excludes step f s h k
  normal_holds step (all_of fs) s h = all_normal step fs s h
  normal_holds step (some_of fs) s h = some_normal step fs s h
  normal_holds step (next p f) s h = next_weaker State step (λ t. Holds step (normal f) t) (λ t. Holds step f t) p (λ t a. normal_holds step f t a) s h
  normal_holds step (fix p w f g) s h = fix_weaker State step (λ t. Holds step (normal f) t) (λ t. Holds step (normal g) t) (λ t. Holds step f t) (λ t. Holds step g t) (λ t a. normal_holds step f t a) (λ t a. normal_holds step g t a) p w s h

  some_excludes : (step : State → State → Type 0) (fs : Properties) (s : State) → SomeHolds step (negations fs) s → AllHold step fs s → ⊥
  some_excludes step none s n h = n
  some_excludes step (more f fs) s (inl n) h = negation_excludes step f s n h.0
  some_excludes step (more f fs) s (inr n) h = some_excludes step fs s n h.1

  all_excludes : (step : State → State → Type 0) (fs : Properties) (s : State) → AllHold step (negations fs) s → SomeHolds step fs s → ⊥
  all_excludes step none s n h = h
  all_excludes step (more f fs) s n (inl h) = negation_excludes step f s n.0 h
  all_excludes step (more f fs) s n (inr h) = all_excludes step fs s n.1 h

  all_normal : (step : State → State → Type 0) (fs : Properties) (s : State) → AllHold step (normals fs) s → AllHold step fs s
  all_normal step none s h = tt
  all_normal step (more f fs) s h = (normal_holds step f s h.0, all_normal step fs s h.1)

  some_normal : (step : State → State → Type 0) (fs : Properties) (s : State) → SomeHolds step (normals fs) s → SomeHolds step fs s
  some_normal step none s h = h
  some_normal step (more f fs) s (inl h) = inl (normal_holds step f s h)
  some_normal step (more f fs) s (inr h) = inr (some_normal step fs s h)
