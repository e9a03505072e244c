-- A reading that begins without names, and one of the text that is written of what it found.
use Rattle.std.proofs.Common.{◌≡◌, ℕ, true, List, [], ◌∷◌, Err, refl, sym, ap, subst, ◌∙◌, arith}
use Rattle.tv_language.specs.declared.token.TokenKind.TheVariants.{End}
use Rattle.tv_language.specs.declared.token.Token.{Token}
use Rattle.tv_language.specs.Tokens.{IsTokens}
use Rattle.tv_program.specs.Words.{Word}
use Rattle.tv_program.specs.Trees.{Expression, Condition}
use Rattle.tv_language.specs.Symbols.{fixed}
use Rattle.tv_language.specs.Sums.{IsSum}
use Rattle.tv_language.specs.Conditions.{IsCondition}
use Rattle.tv_language.specs.Programs.{draws_in, draws_tested}
use Rattle.tv_reading.specs.Marks.{plain, Stand, left, Passes}
use Rattle.tv_reading.specs.Readings.{begun, sum_levels, condition_levels, IsGiven}
use Rattle.tv_reading.specs.declared.fault.PartFault.{PartFault}
use Rattle.tv_reading.specs.declared.fault.PartFault.TheVariants as faults
use Rattle.tv_reading.specs.Texts.{IsLongest}
use Rattle.tv_spelling.specs.ReadAgain.{AreNames, Went, IsSumReadAgain, IsConditionReadAgain}

-- where a value is given unless memory runs out, a refusal is for want of memory
pub memory_alone : {X : Type 0} (P : X → Type 0) (f : PartFault) → IsGiven {X = X} (Err f) P → f ≡ faults.Memory
memory_alone P faults.Memory h = refl
memory_alone P f h = absurd h

no_names : AreNames []
no_names = record { are_names = λ v h. absurd (omega arith); differ = λ v h. absurd (omega arith) }

module _ (text written : List ℕ) (list tokens : List Token) (none words : List Word) (s u second : Stand) (nothing : none ≡ []) (first : s ≡ begun text list none true) (scanned : IsTokens 0 text list) (passes : Passes s u) (names : words ≡ u.names) (again : IsTokens 0 written tokens) (then_read : second ≡ begun written tokens words true) where
  went : Went s u words
  went = record {
    scanned = subst (λ (x : Stand). IsTokens 0 x.text x.tokens) (sym first) scanned;
    began = subst AreNames (sym (ap (λ (x : Stand). x.names) first ∙ nothing)) no_names;
    passes = passes;
    names = sym names;
  }

  same : begun written tokens words s.grows ≡ second
  same = ap (λ (x : Stand). begun written tokens words x.grows) first ∙ sym then_read

  pub sum_twice : (e : Expression) → draws_in e ≡ 0 → IsLongest (IsSum (sum_levels s)) e (left s) (left u) → IsSumReadAgain words e written → IsLongest (IsSum (sum_levels second)) e (left second) (plain (fixed End) ∷ [])
  sum_twice e undrawn found read = subst (λ (x : Stand). IsLongest (IsSum (sum_levels x)) e (left x) (plain (fixed End) ∷ [])) same (read s u went (λ w. undrawn) found tokens again)

  pub condition_twice : (c : Condition) → draws_tested c ≡ 0 → IsLongest (IsCondition (condition_levels s)) c (left s) (left u) → IsConditionReadAgain words c written → IsLongest (IsCondition (condition_levels second)) c (left second) (plain (fixed End) ∷ [])
  condition_twice c undrawn found read = subst (λ (x : Stand). IsLongest (IsCondition (condition_levels x)) c (left x) (plain (fixed End) ∷ [])) same (read s u went (λ w. undrawn) found tokens again)
