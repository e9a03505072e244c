-- the cases that are taken on the way to a derived row are a path of few cases, which has the columns of each step
use Rattle.std.proofs.Common.{◌≡◌, ℕ, ◌+◌, ◌<◌, ◌≤◌, List, [], ◌∷◌, map, refl, subst, sym, arith, All}
use Rattle.std.specs.List.{Contains}
use Rattle.tv_linear.specs.Linear.{Linear, columns}
use Rattle.tv_cases.specs.LinearCases.{LinearCase, CaseSystem}
use Rattle.tv_cases.specs.Before.{before}
use Rattle.tv_cases.proofs.AmountLemmas.{sum-cons}
use Rattle.tv_cases.proofs.EvenRows.{columns-before}
use Rattle.tv_derived.specs.Scopes.{Scope, scope, at_location, over_case, Placed}
use Rattle.tv_derived.specs.Derived.{IsDerived, IsMade, handed, never, guard, made, shorter, settled, denied, tightened, composed, added, taken_off, cancelled, drawn}
use Rattle.tv_derived.specs.Faults.{IsWideStep, number, before_case, put_terms}
use Rattle.tv_derived.specs.Laws.{IsWellHanded, IsPathScope, IsColumnOfPath}
use Rattle.tv_derived.proofs.Steps.{one_path, one_draws}
use Rattle.tv_derived.proofs.Widths.{even_made, case_at, put_even}

no_case : (about : CaseSystem) (h l : ℕ) → IsPathScope about h (at_location l)
no_case about h l = record { path = (tt, omega arith); draws = omega arith }

one_case : (about : CaseSystem) (h : ℕ) (c : LinearCase) → Contains about.cases c → IsPathScope about h (over_case c)
one_case about h c among = record { path = one_path about h c among; draws = (let e = one_draws c in omega (arith, e)) }

one_more : (about : CaseSystem) (h m k : ℕ) (taken : List LinearCase) (c : LinearCase) → Contains about.cases c → h < m → IsPathScope about h (scope c.to taken k) → IsPathScope about m (scope c.from (c ∷ taken) (c.draws + k))
one_more about h m k taken c among less s = record {
  path = ((among, refl, s.path.0), (let b = s.path.1 in omega (arith, less, b)));
  draws = (let d = s.draws in let e = sum-cons c.draws (map (λ (x : LinearCase). x.draws) taken) in omega (arith, d, e));
}

module _ (about : CaseSystem) (base : List Placed) where
  mutual
    pub scoped : {f : Scope} {h : ℕ} {r : Linear} → IsDerived about base f h r → IsPathScope about h f
    scoped {h = h} (handed p among) = no_case about h p.location
    scoped {h = h} (never l) = no_case about h l
    scoped {h = h} (guard c r among of) = one_case about h c among
    scoped (made r d narrow) = scoped_made d
    scoped (shorter {k = k} {taken} r d) = let s = scoped d in record { path = s.path; draws = (let e = s.draws in omega (arith, e)) }
    scoped {h = h} (settled {l = l} r d) = no_case about h l

    pub scoped_made : {f : Scope} {h : ℕ} {r : Linear} → IsMade about base f h r → IsPathScope about h f
    scoped_made (denied r d) = scoped d
    scoped_made (tightened r d) = scoped d
    scoped_made (composed {h} {m} {k} {taken} c r later among e d less) = one_more about h m k taken c among less (scoped d)
    scoped_made {h = h} (added c u is) = one_case about h c is.among
    scoped_made {h = h} (taken_off c u is) = one_case about h c is.among
    scoped_made (cancelled a b p q d g least) = scoped d
    scoped_made {h = h} (drawn {f} r terms d e is) = no_case about h f.location

  module _ (well : IsWellHanded about base) where
    at_case : (h column : ℕ) (c : LinearCase) (r : Linear) → Contains about.cases c → columns r ≡ about.variables → column ≤ columns (before r c) → IsColumnOfPath about h column
    at_case h column c r among e l = record {
      location = c.from;
      taken = c ∷ [];
      path = one_path about h c among;
      within =
          (let b = columns-before r c (subst (λ n. All (λ u. columns u.term ≡ n + c.draws) c.updates) (sym e) (case_at about base well c among).terms) in
          let d = one_draws c in
          omega (arith, l, b, e, d));
    }

    pub wide_scoped : (h column : ℕ) → IsWideStep about base h column → IsColumnOfPath about h column
    wide_scoped h column (number f r d l w) =
        let s = scoped_made d in
        record { location = f.location; taken = f.taken; path = s.path; within = (let e = even_made about base well d in let g = s.draws in omega (arith, l, e, g)) }
    wide_scoped h column (before_case k m taken c r later among e d less l w) = at_case h column c r among e l
    wide_scoped h column (put_terms f r ts d e is l w) = record { location = f.location; taken = []; path = (tt, omega arith); within = (let t = put_even about base well f h r ts e is in omega (arith, l, t)) }
