-- Obligations visited in parts.
use Rattle.std.proofs.Common.{◌≡◌, ℕ, suc, ◌+◌, ◌<◌, ◌≤◌, Bool, true, false, List, [], ◌∷◌, ◌++◌, length, drop, get_or, refl, sym, ap, ◌∙◌, subst, arith, length-append, drop-cons, append_assoc}
use Rattle.std.specs.Bool.{OnTrue, OnFalse}
use Rattle.tv_linear.proofs.ListLaws.{drop_past}
use Rattle.tv_cert.specs.Obligations.{Obligation}
use Rattle.tv_cert.specs.Visits.{Passed, none, one, Visits}

module _ {S : Type 0} (passes stops : S → Obligation → S → Type 0) (room : S → ℕ) where
  passed_then : (s t u : S) (xs ys : List Obligation) → Passed passes s xs t → Passed passes t ys u → Passed passes s (xs ++ ys) u
  passed_then s t u [] ys none k = k
  passed_then s t u (x ∷ xs) ys (one {t = v} p h) k = one p (passed_then v t u xs ys h k)

  pub visits_none : (s : S) → Visits passes stops room true s [] s
  visits_none s = (none, omega arith)

  pub visits_one : (result : Bool) (s u : S) (o : Obligation) → OnTrue result (passes s o u) → OnFalse result (stops s o u) → room s ≤ room u + 1 → Visits passes stops room result s (o ∷ []) u
  visits_one true s u o p q r = (one p none, r)
  visits_one false s u o p q r = (record { before = []; last = o; after = []; parts = refl; at = s; passed = none; stopped = q }, r)

  pub visits_then : (result : Bool) (s t u : S) (xs ys : List Obligation) → Visits passes stops room true s xs t → Visits passes stops room result t ys u → Visits passes stops room result s (xs ++ ys) u
  visits_then true s t u xs ys h k = (passed_then s t u xs ys h.0 k.0, (let l = length-append xs ys in let a = h.1 in let b = k.1 in omega (arith, l, a, b)))
  visits_then false s t u xs ys h k = (
    record {
      before = xs ++ k.0.before;
      last = k.0.last;
      after = k.0.after;
      parts = ap (λ zs. xs ++ zs) k.0.parts ∙ sym (append_assoc xs k.0.before (k.0.last ∷ k.0.after));
      at = k.0.at;
      passed = passed_then s t k.0.at xs k.0.before h.0 k.0.passed;
      stopped = k.0.stopped;
    },
    (let l = length-append xs ys in let a = h.1 in let b = k.1 in omega (arith, l, a, b)),
  )

  pub visits_fails : (s u : S) (xs ys : List Obligation) → Visits passes stops room false s xs u → Visits passes stops room false s (xs ++ ys) u
  visits_fails s u xs ys h = (
    record {
      before = h.0.before;
      last = h.0.last;
      after = h.0.after ++ ys;
      parts = ap (λ zs. zs ++ ys) h.0.parts ∙ append_assoc h.0.before (h.0.last ∷ h.0.after) ys;
      at = h.0.at;
      passed = h.0.passed;
      stopped = h.0.stopped;
    },
    (let l = length-append xs ys in let a = h.1 in omega (arith, l, a)),
  )

  pub visits_room : (s t : S) (xs : List Obligation) (more : ℕ) → Visits passes stops room true s xs t → length xs + more ≤ room s → more ≤ room t
  visits_room s t xs more h r = let a = h.1 in omega (arith, a, r)

-- What is ahead of a loop from place i on: visiting it visits all, and there is room for it.
pub record Ahead {S A : Type 0} (passes stops : S → Obligation → S → Type 0) (room : S → ℕ) (g : List A → List Obligation) (xs : List A) (first now : S) (i : ℕ) : Type 0 where
  pub leads : (result : Bool) (u : S) → Visits passes stops room result now (g (drop i xs)) u → Visits passes stops room result first (g xs) u
  pub space : length (g (drop i xs)) ≤ room now

module _ {S A : Type 0} (passes stops : S → Obligation → S → Type 0) (room : S → ℕ) (g : List A → List Obligation) (nothing : g [] ≡ []) (each : (x : A) (xs : List A) → g (x ∷ xs) ≡ g (x ∷ []) ++ g xs) (xs : List A) (first now : S) (i : ℕ) (h : Ahead passes stops room g xs first now i) where
  pub ahead_end : length xs ≤ i → Visits passes stops room true first (g xs) now
  ahead_end l = h.leads true now (subst (λ os. Visits passes stops room true now os now) (sym (ap g (drop_past xs i l) ∙ nothing)) (visits_none passes stops room now))

  module _ (x : A) (below : i < length xs) (is : x ≡ get_or xs i x) where
    here : g (drop i xs) ≡ g (x ∷ []) ++ g (drop (i + 1) xs)
    here = ap g (drop-cons xs i x below ∙ (let k : suc i ≡ i + 1 = omega arith in λ j. sym is j ∷ drop (k j) xs)) ∙ each x (drop (i + 1) xs)

    pub ahead_room : length (g (x ∷ [])) ≤ room now
    ahead_room = let e = ap length here in let r = h.space in omega (arith, e, r, length-append (g (x ∷ [])) (g (drop (i + 1) xs)))

    pub ahead_fails : (u : S) → Visits passes stops room false now (g (x ∷ [])) u → Visits passes stops room false first (g xs) u
    ahead_fails u k = h.leads false u (subst (λ os. Visits passes stops room false now os u) (sym here) (visits_fails passes stops room now u (g (x ∷ [])) (g (drop (i + 1) xs)) k))

    pub ahead_next : (t : S) → Visits passes stops room true now (g (x ∷ [])) t → Ahead passes stops room g xs first t (i + 1)
    ahead_next t k = record {
      leads = λ result u w. h.leads result u (subst (λ os. Visits passes stops room result now os u) (sym here) (visits_then passes stops room result now t u (g (x ∷ [])) (g (drop (i + 1) xs)) k w));
      space = (let e = ap length here in let r = h.space in visits_room passes stops room now t (g (x ∷ [])) (length (g (drop (i + 1) xs))) k (omega (arith, e, r, length-append (g (x ∷ [])) (g (drop (i + 1) xs)))));
    }
