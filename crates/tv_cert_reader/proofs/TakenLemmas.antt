-- The case, the target and the fall that numbers name.
use Rattle.std.proofs.Common.{◌≡◌, ℕ, zero, suc, ◌<◌, ◌≤◌, ◌^◌, ℤ, pos, List, [], ◌∷◌, length, Some, None, refl, sym, ap, ◌∙◌, arith, slice_get}
use Rattle.std.specs.Option.{option_map}
use Rattle.tv_linear.specs.Linear.{Linear}
use Rattle.tv_cases.specs.declared.case.Case.{Case}
use Rattle.tv_cases.specs.LinearCases.{LinearCase, CaseSystem}
use Rattle.tv_cases.specs.Views.{case_view, case_views}
use Rattle.tv_cert.specs.declared.node.Marked.{Marked}
use Rattle.tv_cert.specs.declared.owes.Destination.{Destination}
use Rattle.tv_cert.specs.OwesViews.{destination_owes}
use Rattle.tv_cert.specs.Pieces.{place_of}
use Rattle.tv_cert.specs.Shapes.{owed_count}
use Rattle.tv_cert.specs.TargetViews.{AreFewAt}
use Rattle.tv_cert_reader.specs.Choices.{IsTaken, NamesNoCase}
use Rattle.tv_cert_reader.proofs.ChoiceLemmas.{few_taken}
use Rattle.std.proofs.lemmas.Option.{slice_get_within}

got_view : (list : List Case) (i : ℕ) → slice_get (case_views list) i ≡ option_map case_view (slice_get list i)
got_view [] i = refl
got_view (c ∷ list) zero = refl
got_view (c ∷ list) (suc i) = got_view list i

first_is : (a b c x y z : ℕ) → pos a ∷ pos b ∷ pos c ∷ [] ≡ pos x ∷ pos y ∷ pos z ∷ [] → a ≡ x
first_is a b c x y z e = cc

second_is : (a b c x y z : ℕ) → pos a ∷ pos b ∷ pos c ∷ [] ≡ pos x ∷ pos y ∷ pos z ∷ [] → b ≡ y
second_is a b c x y z e = cc

third_is : (a b c x y z : ℕ) → pos a ∷ pos b ∷ pos c ∷ [] ≡ pos x ∷ pos y ∷ pos z ∷ [] → c ≡ z
third_is a b c x y z e = cc

case_is : (a b : LinearCase) → Some a ≡ Some b → a ≡ b
case_is a b e = cc

module _ (system : CaseSystem) (p : Marked) (destination : Destination) (zs : List ℤ) (bounded : AreFewAt p destination) where
  pub no_numbers : length system.cases ≤ 8192 → ((c k j : ℕ) → zs ≡ pos c ∷ pos k ∷ pos j ∷ [] → c < 2 ^ 32 → k < 2 ^ 32 → j < 2 ^ 32 → ⊥) → NamesNoCase system p destination zs
  no_numbers many none case c k j n text there from owes =
      let h = few_taken system p destination case [] k j n bounded owes in
      let w = slice_get_within system.cases c case there in
      none c k j text (omega (arith, w, many)) h.0 h.1

  module _ (list : List Case) (same : case_views list ≡ system.cases) (a b d : ℕ) (is : zs ≡ pos a ∷ pos b ∷ pos d ∷ []) where
    got : slice_get system.cases a ≡ option_map case_view (slice_get list a)
    got = ap (λ cs. slice_get cs a) (sym same) ∙ got_view list a

    pub no_case : slice_get list a ≡ None → NamesNoCase system p destination zs
    no_case none case c k j n text there from owes =
        let e = first_is a b d c k j (sym is ∙ text) in
        let h : None ≡ Some case = sym (got ∙ ap (option_map case_view) none) ∙ ap (slice_get system.cases) e ∙ there in
        absurd cc

    module _ (case : Case) (found : slice_get list a ≡ Some case) where
      there_is : slice_get system.cases a ≡ Some (case_view case)
      there_is = got ∙ ap (option_map case_view) found

      pub not_from : (case.from ≡ place_of p → ⊥) → NamesNoCase system p destination zs
      not_from elsewhere other c k j n text there from owes =
          let e = first_is a b d c k j (sym is ∙ text) in
          let same_case = case_is (case_view case) other (sym there_is ∙ ap (slice_get system.cases) e ∙ there) in
          elsewhere (ap (λ x. x.from) same_case ∙ from)

      pub no_target : owed_count (destination_owes system.variables p destination (case_view case) []) b d ≡ None → NamesNoCase system p destination zs
      no_target none other c k j n text there from owes =
          let e = first_is a b d c k j (sym is ∙ text) in
          let f = second_is a b d c k j (sym is ∙ text) in
          let g = third_is a b d c k j (sym is ∙ text) in
          let same_case = case_is (case_view case) other (sym there_is ∙ ap (slice_get system.cases) e ∙ there) in
          let h : None ≡ Some n = sym none ∙ (λ i. owed_count (destination_owes system.variables p destination (same_case i) []) (f i) (g i)) ∙ owes in
          absurd cc

      pub is_taken : case.from ≡ place_of p → (n : ℕ) → ((draws : List Linear) → owed_count (destination_owes system.variables p destination (case_view case) draws) b d ≡ Some n) → IsTaken system p destination zs (case_view case) a b d n
      is_taken from n owes = record { numbers = is; there = there_is; from = from; owes = owes }
