use Rattle.std.proofs.Common.{◌≡◌, ℕ, ◌⊎◌, inl, inr, ◌+◌, [], ◌∷◌, refl, subst, sym}
use Rattle.tv_program.specs.Runs.{WeakEvery, UntilAny, WeakAnyFails, Must, reached, further, Ends, all_end}

-- no endless list of steps begins at a state of Ends
pub never_endless : {S : Type 0} {step : S → S → Type 0} {s : S} → Ends step s → (run : ℕ → S) → ((n : ℕ) → step (run n) (run (n + 1))) → (n : ℕ) → s ≡ run n → ⊥
never_endless {step = step} (all_end h) run steps n e =
    never_endless (h (run (n + 1)) (subst (λ x. step x (run (n + 1))) (sym e) (steps n))) run steps (n + 1) refl

-- ---- what has a rank that falls along every step ends, where no rank falls for ever

ends_by : {S A : Type 0} {step : S → S → Type 0} (fall : A → A → Type 0) (ranked : S → A → Type 0) → ((s : S) (old : A) → ranked s old → (t : S) → step s t → (new : A) × ranked t new × fall old new) → {old : A} → Ends fall old → (s : S) → ranked s old → Ends step s
ends_by fall ranked falls {old} (all_end g) s h = all_end (λ t k. let next = falls s old h t k in ends_by fall ranked falls (g next.0 next.2) t next.1)

pub Ends_by_ranks : {S A : Type 0} {step : S → S → Type 0} (fall : A → A → Type 0) → ((a : A) → Ends fall a) → (ranked : S → A → Type 0) → ((s : S) (old : A) → ranked s old → (t : S) → step s t → (new : A) × ranked t new × fall old new) → (s : S) (rank : A) → ranked s rank → Ends step s
Ends_by_ranks fall ends ranked falls s rank h = ends_by fall ranked falls (ends rank) s h

-- what the checker shows of a `go` piece of Every Until
pub record Goes {S A : Type 0} (step : S → S → Type 0) (f g : S → Type 0) (fall : A → A → Type 0) (ranked : S → A → Type 0) (s : S) (old : A) : Type 0 where
  pub hold : f s
  pub successor : (t : S) × step s t
  pub into : (t : S) → step s t → g t ⊎ ((new : A) × ranked t new × fall old new)

must_by : {S A : Type 0} {step : S → S → Type 0} {f g : S → Type 0} (fall : A → A → Type 0) (ranked : S → A → Type 0) → ((s : S) (old : A) → ranked s old → Goes step f g fall ranked s old) → {old : A} → Ends fall old → (s : S) → ranked s old → Must step f g s
must_by {S} {A} {step} {f} {g} fall ranked goes {old} (all_end h) s r =
    let all = goes s old r in
    further all.successor.0 all.hold all.successor.1 (λ t k. elim (all.into t k) [ inl now ↦ reached now | inr next ↦ must_by fall ranked goes (h next.0 next.2) t next.1 ])

pub Must_by_ranks : {S A : Type 0} {step : S → S → Type 0} {f g : S → Type 0} (fall : A → A → Type 0) → ((a : A) → Ends fall a) → (ranked : S → A → Type 0) → ((s : S) (old : A) → ranked s old → Goes step f g fall ranked s old) → (s : S) (rank : A) → ranked s rank → Must step f g s
Must_by_ranks fall ends ranked goes s rank r = must_by fall ranked goes (ends rank) s r

-- Every Weak: a set whose states meet g, or meet f and step into it
pub Weak_every_by : {S : Type 0} {step : S → S → Type 0} {f g : S → Type 0} (r : S → Type 0) → ((s : S) → r s → g s ⊎ (f s × ((t : S) → step s t → r t))) → (s : S) → r s → WeakEvery step f g s
Weak_every_by r kept s h [] run = elim (kept s h) [ inl now ↦ inr now | inr w ↦ inl w.0 ]
Weak_every_by r kept s h (t ∷ ts) run =
    elim (kept s h) [ inl now ↦ inr (inl now) | inr w ↦ elim (Weak_every_by r kept t (w.1 t run.0) ts run.1) [ inl e ↦ inl e | inr e ↦ inr (inr e) ] ]

-- Any Until: a set ranked so that some step falls
until_any_by : {S A : Type 0} {step : S → S → Type 0} {f g : S → Type 0} (fall : A → A → Type 0) (ranked : S → A → Type 0) → ((s : S) (old : A) → ranked s old → f s × ((t : S) × step s t × (g t ⊎ ((new : A) × ranked t new × fall old new)))) → {old : A} → Ends fall old → (s : S) → ranked s old → UntilAny step f g s
until_any_by fall ranked goes {old} (all_end h) s r =
    let w = goes s old r in
    elim w.1.2 [
      | inl now ↦ (w.1.0 ∷ [], (w.1.1, tt), now, (w.0, tt))
      | inr next ↦ let later = until_any_by fall ranked goes (h next.0 next.2) w.1.0 next.1 in (w.1.0 ∷ later.0, (w.1.1, later.1), later.2, (w.0, later.3))
    ]

pub Until_any_by_ranks : {S A : Type 0} {step : S → S → Type 0} {f g : S → Type 0} (fall : A → A → Type 0) → ((a : A) → Ends fall a) → (ranked : S → A → Type 0) → ((s : S) (old : A) → ranked s old → f s × ((t : S) × step s t × (g t ⊎ ((new : A) × ranked t new × fall old new)))) → (s : S) (rank : A) → ranked s rank → UntilAny step f g s
Until_any_by_ranks fall ends ranked goes s rank r = until_any_by fall ranked goes (ends rank) s r

-- Any Weak: a set whose states meet g, or meet f and either step into it or have no step
pub Weak_any_by : {S : Type 0} {step : S → S → Type 0} {f g : S → Type 0} (r : S → Type 0) → ((s : S) → r s → g s ⊎ (f s × (((t : S) × step s t × r t) ⊎ ((t : S) → step s t → ⊥)))) → {s : S} → WeakAnyFails step f g s → r s → ⊥
Weak_any_by {g = g} r kept {s} (reached n) h = elim (kept s h) [ inl now ↦ n.1 now | inr w ↦ n.0 w.0 ]
Weak_any_by r kept {s} (further t n k later) h =
    elim (kept s h) [ inl now ↦ n now | inr w ↦ elim w.1 [ inl some ↦ Weak_any_by r kept (later some.0 some.1) some.2 | inr none ↦ none t k ] ]

-- a set with a step inside from each of its states has no state of Ends
pub Never_ends_by : {S : Type 0} {step : S → S → Type 0} (r : S → Type 0) → ((s : S) → r s → (t : S) × step s t × r t) → {s : S} → Ends step s → r s → ⊥
Never_ends_by r on {s} (all_end h) k = let next = on s k in Never_ends_by r on (h next.0 next.1) next.2
