-- with no case on the way, nothing comes to a location where nothing is known
use Rattle.std.proofs.Common.{◌≡◌, ℕ, zero, suc, ◌+◌, ◌∙◌, List, [], ◌∷◌, ◌++◌, map, get_or, refl, sym, ap, subst, arith, ℤ, pos, neg_ℤ, ◌+ℤ◌, ◌*ℤ◌}
use Rattle.std.specs.Prelude.{Contains, ◌<ℤ◌, unsigned_abs}
use Rattle.std.proofs.lemmas.Int.{ints}
use Rattle.tv_linear.specs.Linear.{Linear}
use Rattle.tv_linear.specs.Arithmetic.{plus_each, scaled, combined, width_of}
use Rattle.tv_linear.specs.Tight.{gcd, divisor_from, divided_unless_zero, tight}
use Rattle.tv_linear.proofs.PlainLists.{get_or-zeros}
use Rattle.tv_cases.specs.LinearCases.{CaseSystem}
use Rattle.tv_cases.specs.EdgeCases.{columns_from}
use Rattle.tv_cases.proofs.ContainsLemmas.{Contains-none}
use Rattle.tv_derived.specs.Scopes.{Scope, Placed}
use Rattle.tv_derived.specs.Derived.{IsDerived, IsMade, coefficient, handed, never, guard, made, shorter, settled, denied, tightened, composed, added, taken_off, cancelled, drawn}
use Rattle.tv_derived.specs.Laws.{IsBlank}
use Rattle.tv_simplex.proofs.Ring.{zero_times as no_times}

-- each number is 0
abbrev pub AreZero : List ℤ → Type 0
AreZero cs = (j : ℕ) → get_or cs j (pos 0) ≡ pos 0

later : (c : ℤ) (cs : List ℤ) → AreZero (c ∷ cs) → AreZero cs
later c cs h j = h (suc j)

zero_append : (cs ds : List ℤ) → AreZero cs → AreZero ds → AreZero (cs ++ ds)
zero_append [] ds h k j = k j
zero_append (c ∷ cs) ds h k zero = h 0
zero_append (c ∷ cs) ds h k (suc j) = zero_append cs ds (later c cs h) k j

zero_front : (cs ds : List ℤ) → AreZero (cs ++ ds) → AreZero cs
zero_front [] ds h j = refl
zero_front (c ∷ cs) ds h zero = h 0
zero_front (c ∷ cs) ds h (suc j) = zero_front cs ds (later c (cs ++ ds) h) j

zero_map : (f : ℤ → ℤ) → f (pos 0) ≡ pos 0 → (cs : List ℤ) → AreZero cs → AreZero (map f cs)
zero_map f e [] h j = refl
zero_map f e (c ∷ cs) h zero = ap f (h 0) ∙ e
zero_map f e (c ∷ cs) h (suc j) = zero_map f e cs (later c cs h) j

zero_times : (c : ℤ) → c ≡ pos 0 → (cs : List ℤ) → AreZero (map (λ z. c *ℤ z) cs)
zero_times c e [] j = refl
zero_times c e (z ∷ cs) zero = no_times c z e
zero_times c e (z ∷ cs) (suc j) = zero_times c e cs j

zero_sum : (a b : ℤ) → a ≡ pos 0 → b ≡ pos 0 → a +ℤ b ≡ pos 0
zero_sum a b e g = omega (arith, ints, e, g)

zero_plus : (cs ds : List ℤ) → AreZero cs → AreZero ds → AreZero (plus_each cs ds)
zero_plus [] ds h k j = k j
zero_plus (c ∷ cs) [] h k j = h j
zero_plus (c ∷ cs) (d ∷ ds) h k zero = zero_sum c d (h 0) (k 0)
zero_plus (c ∷ cs) (d ∷ ds) h k (suc j) = zero_plus cs ds (later c cs h) (later d ds k) j

zero_combined : (n : ℕ) (cs : List ℤ) (rows : List Linear) → AreZero cs → AreZero (combined n cs rows).coefficients
zero_combined n [] rows h j = get_or-zeros n j
zero_combined n (c ∷ cs) [] h j = get_or-zeros n j
zero_combined n (c ∷ cs) (r ∷ rows) h j =
    zero_plus (scaled c r).coefficients (combined n cs rows).coefficients (zero_times c (h 0) r.coefficients) (zero_combined n cs rows (later c cs h)) j

no_divisor : (cs : List ℤ) → AreZero cs → divisor_from 0 cs ≡ 0
no_divisor [] h = refl
no_divisor (c ∷ cs) h = ap (λ z. divisor_from (gcd 0 (unsigned_abs z)) cs) (h 0) ∙ no_divisor cs (later c cs h)

zero_tight : (r : Linear) → AreZero r.coefficients → AreZero (tight r).coefficients
zero_tight r h = subst (λ n. AreZero (divided_unless_zero n r).coefficients) (sym (no_divisor r.coefficients h)) h

none_above : (z : ℤ) → z ≡ pos 0 → pos 0 <ℤ z → ⊥
none_above z e l = omega (arith, ints, e, l)

module _ (about : CaseSystem) (base : List Placed) where
  mutual
    pub nothing : {f : Scope} {h : ℕ} {r : Linear} → IsBlank about base f.location → h ≡ 0 → IsDerived about base f h r → AreZero r.coefficients
    nothing blank e (handed p among) j = absurd (blank.none_handed p among refl)
    nothing blank e (never l) j = get_or-zeros about.variables j
    nothing blank e (guard c r among of) j = absurd (Contains-none r (subst (λ rows. Contains rows r) (blank.no_guards c among refl) of))
    nothing blank e (made r d narrow) j = nothing_made blank e d j
    nothing blank e (shorter r d) j = zero_front r.coefficients (pos 0 ∷ []) (nothing blank e d) j
    nothing blank e (settled r d) j = nothing blank e d j

    nothing_made : {f : Scope} {h : ℕ} {r : Linear} → IsBlank about base f.location → h ≡ 0 → IsMade about base f h r → AreZero r.coefficients
    nothing_made blank e (denied r d) j = zero_map neg_ℤ refl r.coefficients (nothing blank e d) j
    nothing_made blank e (tightened r d) j = zero_tight r (nothing blank e d) j
    nothing_made blank e (composed c r later among even d less) j = absurd (omega arith)
    nothing_made blank e (added c u is) j = absurd (blank.not_start (sym is.leaves))
    nothing_made blank e (taken_off c u is) j = absurd (blank.not_start (sym is.leaves))
    nothing_made blank e (cancelled {k = k} a b p q d g least) j = absurd (none_above (coefficient a (about.variables + k)) (nothing blank e d (about.variables + k)) least.above)
    nothing_made blank e (drawn r terms d even are) j =
        zero_combined (width_of (columns_from about.variables 0 about.variables ++ terms)) r.coefficients (columns_from about.variables 0 about.variables ++ terms) (nothing blank e d) j
