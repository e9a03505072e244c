-- What is found of the arguments of a fixpoint in a search of their own is found in that of the whole formula.
use Rattle.std.proofs.Common.{◌≡◌, sym, subst, Bool}
use Rattle.tv_cases.specs.LinearCases.{CaseSystem}
use Rattle.tv_cases.specs.Systems.{cases_of}
use Rattle.tv_cert.specs.Statements.{Statement}
use Rattle.tv_pre.specs.declared.fault.PreFault.{PreFault}
use Rattle.tv_pre.specs.declared.outcome.Found.{Found}
use Rattle.tv_pre.specs.declared.search.Search.{Search}
use Rattle.tv_pre.specs.declared.setting.Setting.{Setting}
use Rattle.tv_pre.specs.Counted.{IsCountedFor}
use Rattle.tv_pre.specs.Finding.{IsEvenStatement, IsFound, IsRefusedFor}
use Rattle.tv_pre.specs.KnownStates.{HasKnownStates}
use Rattle.tv_pre.specs.Search.{system_of}

module _ (search inner : Search) (setting : inner.setting.now ≡ search.setting.now) where
  pub same_system : system_of inner ≡ system_of search
  same_system = λ i. cases_of (setting i).about.now

  pub even_inner : (s : Statement) → IsEvenStatement (system_of search).variables s → IsEvenStatement (system_of inner).variables s
  even_inner s h = subst (λ (about : CaseSystem). IsEvenStatement about.variables s) (sym same_system) h

  module _ (last : inner.last ≡ search.last) where
    pub found_outer : (s : Statement) (found : Found) → IsFound (system_of inner) inner.last s found → IsFound (system_of search) search.last s found
    found_outer s found h = subst (λ (about : CaseSystem). IsFound about search.last s found) same_system (subst (λ n. IsFound (system_of inner) n s found) last h)

    pub known_outer : (alone : Bool) (s : Statement) (found : Found) → HasKnownStates (system_of inner) inner.last alone s found → HasKnownStates (system_of search) search.last alone s found
    known_outer alone s found h = subst (λ (about : CaseSystem). HasKnownStates about search.last alone s found) same_system (subst (λ n. HasKnownStates (system_of inner) n alone s found) last h)

    pub refused_outer : (s : Statement) (fault : PreFault) → IsRefusedFor (system_of inner) inner.setting.now.budget.now inner.last s fault → IsRefusedFor (system_of search) search.setting.now.budget.now search.last s fault
    refused_outer s fault h =
        subst (λ (z : Setting). IsRefusedFor (cases_of z.about.now) z.budget.now search.last s fault) setting
        (subst (λ n. IsRefusedFor (system_of inner) inner.setting.now.budget.now n s fault) last h)

    pub counted_outer : (s : Statement) (fault : PreFault) → IsCountedFor (system_of inner) inner.setting.now.budget.now inner.last s fault → IsCountedFor (system_of search) search.setting.now.budget.now search.last s fault
    counted_outer s fault h =
        subst (λ (z : Setting). IsCountedFor (cases_of z.about.now) z.budget.now search.last s fault) setting
        (subst (λ n. IsCountedFor (system_of inner) inner.setting.now.budget.now n s fault) last h)
