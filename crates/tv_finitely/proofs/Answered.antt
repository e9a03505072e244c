-- What is known before the copies are made answers for the split program and for its faults.
use Rattle.std.proofs.Common.{◌≡◌, ◌≤◌, ◌∙◌, ℕ, ◌*◌, List, length, refl, sym, ap, subst, arith, Bool, true, Ok}
use Rattle.std.specs.Prelude.{nat_le}
use Rattle.std.proofs.lemmas.Bool.Decides.{nat_tests}
use Rattle.std.proofs.lemmas.List.{length-map}
use Rattle.tv_program.specs.declared.tree.Edge.{Edge}
use Rattle.tv_program.specs.Systems.{System, IsLimited}
use Rattle.tv_program.specs.Views.{transition, transitions}
use Rattle.tv_formula.specs.Forms.{is_local}
use Rattle.tv_formula.specs.Limits.{property_fits, IsFormula}
use Rattle.tv_formula.specs.Properties.{Property}
use Rattle.tv_cases.specs.Answers.{IsFaultIn, IsOfProgram}
use Rattle.tv_cases.specs.LinearCases.{LinearCase, CaseSystem}
use Rattle.tv_cases.specs.ProgramCases.{linear_cases}
use Rattle.tv_cases.specs.declared.case.CaseFault.{CaseFault}
use Rattle.tv_cases.specs.declared.case.CaseFault.TheVariants as case
use Rattle.tv_finitely.specs.declared.split_program.SplitFault.{SplitFault}
use Rattle.tv_finitely.specs.Doubling.{doubled, doubled_count}
use Rattle.tv_finitely.specs.Splits.{SplitSystem, edge_marks, depth_of, split_fault, IsSplitIn, IsSplitOf, IsSplitFault}
use Rattle.tv_finitely.proofs.Doubled.{doubled-limited}
use Rattle.tv_edges.proofs.EdgeLemmas.{cases-are_all}
use Rattle.tv_finitely.proofs.Marked.{marks-counted}
use Rattle.tv_finitely.proofs.SplitSteps.{is-split}

-- the property can be assumed after the edges, and there are few of them
pub record IsAsked (p : System) (f : Property) (locations : ℕ) : Type 0 where
  pub local : is_local f ≡ true
  pub few : doubled_count p ≤ 4096
  pub shallow : depth_of f ≤ 399
  pub limited : IsLimited p
  pub fits : property_fits (length p.variables) locations f ≡ true

at_most : (a b : ℕ) (t : Bool) → t ≡ nat_le a b → t ≡ true → a ≤ b
at_most a b t e h = grind (arith, nat_tests)

pub asked : (p : System) (f g : Property) (variables locations : ℕ) (edges : List Edge) (local within : Bool) → transitions edges ≡ p.edges → IsLimited p → g ≡ f → IsFormula variables locations f → variables ≡ length p.variables →
    local ≡ is_local g → local ≡ true → 2 * length edges ≤ 4096 → within ≡ nat_le (depth_of g) 399 → within ≡ true → IsAsked p f locations
asked p f g variables locations edges local within are limited same formula counted tested is few measured shallow =
    let many = ap length are in
    let mapped = length-map edges transition in
    record {
      local = ap is_local (sym same) ∙ sym tested ∙ is;
      few = omega (arith, many, mapped, few);
      shallow = subst (λ x. depth_of x ≤ 399) same (at_most (depth_of g) 399 within measured shallow);
      limited = limited;
      fits = subst (λ n. property_fits n locations f ≡ true) counted formula.fits;
    }

pub limited-copies : (p : System) (f g : Property) (locations : ℕ) → g ≡ f → IsAsked p f locations → IsLimited (doubled g p)
limited-copies p f g locations same a = subst (λ x. IsLimited (doubled x p)) (sym same) (doubled-limited p f locations a.limited a.fits a.few a.shallow)

pub as-many : (q : System) (cases : List LinearCase) (marks : List Bool) → linear_cases q ≡ Ok cases → marks ≡ edge_marks (length q.variables) q.edges → length marks ≡ length cases
as-many q cases marks ok are = ap length are ∙ marks-counted (length q.variables) q.edges ∙ sym (ap length (cases-are_all q cases ok))

module _ (p q : System) (f g : Property) (locations : ℕ) (a : IsAsked p f locations) (same : g ≡ f) (made : q ≡ doubled g p) where
  are-copies : q ≡ doubled f p
  are-copies = made ∙ ap (λ x. doubled x p) same

  module _ (about : CaseSystem) (marks : List Bool) (s : SplitSystem) (ok : linear_cases q ≡ Ok about.cases) (are : marks ≡ edge_marks (length q.variables) q.edges) (new : s ≡ record { system = about; enters = marks }) where
    pub split-in : IsSplitIn p f s
    split-in = subst (IsSplitIn p f) (sym new) (record {
      local = a.local;
      few = a.few;
      shallow = a.shallow;
      cases = ap linear_cases (sym are-copies) ∙ ok;
      marks = are ∙ ap (λ (x : System). edge_marks (length x.variables) x.edges) are-copies;
    })

    pub split-of : IsOfProgram q about → IsSplitOf p f s
    split-of of =
        is-split p f s locations split-in
        (subst (λ x. IsOfProgram (doubled f p) x) (ap (λ (x : SplitSystem). x.system) (sym new)) (subst (λ x. IsOfProgram x about) are-copies of))
        (limited-copies p f f locations refl a) a.fits

  pub refused : (fault : CaseFault) (answer : SplitFault) → IsFaultIn (linear_cases q) fault → answer ≡ split_fault fault → IsSplitFault p f answer
  refused fault answer h e = subst (IsSplitFault p f) (sym e) (by_case fault (subst (λ x. IsFaultIn (linear_cases x) fault) are-copies h)) where
    by_case : (k : CaseFault) → IsFaultIn (linear_cases (doubled f p)) k → IsSplitFault p f (split_fault k)
    by_case (case.Wide edge) i = (a.local, a.few, a.shallow, i)
    by_case (case.TooMany edge) i = (a.local, a.few, a.shallow, i)
    by_case case.Memory i = tt
