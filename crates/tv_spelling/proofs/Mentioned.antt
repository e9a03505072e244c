-- The variables and locations that symbols name, in order, are those of the trees that they stand for.
use Rattle.std.proofs.Common.{◌≡◌, ℕ, List, [], ◌∷◌, Some, refl, ap, ◌∙◌}
use Rattle.tv_language.specs.declared.token.TokenKind.{TokenKind}
use Rattle.tv_language.specs.declared.token.TokenKind.TheVariants.{RightRound, Semicolon, Unread}
use Rattle.tv_program.specs.declared.tree.Relation.{Relation}
use Rattle.tv_program.specs.Trees.{Expression, number, variable, draw, minus, sum, product, Expressions, no_part, part, Condition, truth, compare, negated, all_of, some_of, Conditions, no_test, test, Instruction, assume, assign}
use Rattle.tv_program.specs.Views.{parts_of, tests_of}
use Rattle.tv_language.specs.Symbols as symbols
use Rattle.tv_language.specs.Symbols.{Symbol, fixed}
use Rattle.tv_language.specs.Sums as sums
use Rattle.tv_language.specs.Sums.{gathered, IsFactor, AreFactors, IsProduct, AreProducts, IsSum}
use Rattle.tv_language.specs.Conditions as conditions
use Rattle.tv_language.specs.Conditions.{joined, IsPlain, IsLiteral, AreLiterals, IsConjunction, AreConjunctions, IsCondition}
use Rattle.tv_language.specs.Programs as programs
use Rattle.tv_language.specs.Programs.{IsCommand, AreCommands}

-- ---- among symbols

abbrev pub variables_in : List Symbol → List ℕ
variables_in [] = []
variables_in (symbols.name v ∷ ts) = v ∷ variables_in ts
variables_in (t ∷ ts) = variables_in ts

abbrev pub locations_in : List Symbol → List ℕ
locations_in [] = []
locations_in (symbols.label l ∷ ts) = l ∷ locations_in ts
locations_in (t ∷ ts) = locations_in ts

-- no word among the symbols has no number
abbrev pub AreKnown : List Symbol → Type 0
AreKnown [] = Unit {0}
AreKnown (fixed Unread ∷ ts) = ⊥
AreKnown (t ∷ ts) = AreKnown ts

-- ---- in trees, in front of others

abbrev mutual
  pub variables_of : Expression → List ℕ → List ℕ
  variables_of (number z) vs = vs
  variables_of (variable v) vs = v ∷ vs
  variables_of (draw d) vs = vs
  variables_of (minus e) vs = variables_of e vs
  variables_of (sum es) vs = variables_among es vs
  variables_of (product es) vs = variables_among es vs

  pub variables_among : Expressions → List ℕ → List ℕ
  variables_among no_part vs = vs
  variables_among (part e es) vs = variables_of e (variables_among es vs)

abbrev mutual
  pub variables_tested : Condition → List ℕ → List ℕ
  variables_tested (truth b) vs = vs
  variables_tested (compare r e f) vs = variables_of e (variables_of f vs)
  variables_tested (negated c) vs = variables_tested c vs
  variables_tested (all_of cs) vs = variables_of_tests cs vs
  variables_tested (some_of cs) vs = variables_of_tests cs vs

  pub variables_of_tests : Conditions → List ℕ → List ℕ
  variables_of_tests no_test vs = vs
  variables_of_tests (test c cs) vs = variables_tested c (variables_of_tests cs vs)

abbrev pub variables_commanded : List Instruction → List ℕ → List ℕ
variables_commanded [] vs = vs
variables_commanded (assume c ∷ cs) vs = variables_tested c (variables_commanded cs vs)
variables_commanded (assign v e ∷ cs) vs = v ∷ variables_of e (variables_commanded cs vs)

-- ---- the same

-- the symbols up to the rest name these variables and no location
abbrev pub Mentions : (List ℕ → List ℕ) → List Symbol → List Symbol → Type 0
Mentions vs ts rest = (variables_in ts ≡ vs (variables_in rest)) × (locations_in ts ≡ locations_in rest) × (AreKnown rest → AreKnown ts)

mentions_both : (vs ws : List ℕ → List ℕ) (ts us rest : List Symbol) → Mentions vs ts us → Mentions ws us rest → Mentions (λ r. vs (ws r)) ts rest
mentions_both vs ws ts us rest h k = (h.0 ∙ ap vs k.0, h.1 ∙ k.1, λ known. h.2 (k.2 known))

one_product : (e : Expression) (es : List Expression) (ts rest : List Symbol) → Mentions (λ r. variables_of e (variables_among (parts_of es) r)) ts rest → Mentions (variables_of (gathered product (e ∷ es))) ts rest
one_product e [] ts rest h = h
one_product e (f ∷ es) ts rest h = h

one_sum : (e : Expression) (es : List Expression) (ts rest : List Symbol) → Mentions (λ r. variables_of e (variables_among (parts_of es) r)) ts rest → Mentions (variables_of (gathered sum (e ∷ es))) ts rest
one_sum e [] ts rest h = h
one_sum e (f ∷ es) ts rest h = h

one_all : (c : Condition) (cs : List Condition) (ts rest : List Symbol) → Mentions (λ r. variables_tested c (variables_of_tests (tests_of cs) r)) ts rest → Mentions (variables_tested (joined all_of (c ∷ cs))) ts rest
one_all c [] ts rest h = h
one_all c (d ∷ cs) ts rest h = h

one_some : (c : Condition) (cs : List Condition) (ts rest : List Symbol) → Mentions (λ r. variables_tested c (variables_of_tests (tests_of cs) r)) ts rest → Mentions (variables_tested (joined some_of (c ∷ cs))) ts rest
one_some c [] ts rest h = h
one_some c (d ∷ cs) ts rest h = h

-- a relation is known
relation_known : (kind : TokenKind) (r : Relation) (ss : List Symbol) → conditions.relation_of kind ≡ Some r → AreKnown ss → AreKnown (fixed kind ∷ ss)
relation_known Unread r ss is h = absurd cc
relation_known kind r ss is h = h

mutual
  factor_mentions : (n : ℕ) (e : Expression) (ts rest : List Symbol) → IsFactor n e ts rest → Mentions (variables_of e) ts rest
  factor_mentions n e ts rest sums.constant = (refl, refl, λ h. h)
  factor_mentions n e ts rest sums.variable = (refl, refl, λ h. h)
  factor_mentions n e ts rest sums.draw = (refl, refl, λ h. h)
  factor_mentions n e ts rest (sums.bracketed {n = m} d) = sum_mentions m e _ _ d
  factor_mentions n e ts rest (sums.negative {n = m} {e = inner} d) = factor_mentions m inner _ _ d

  factors_mention : (n : ℕ) (es : List Expression) (ts rest : List Symbol) → AreFactors n es ts rest → Mentions (variables_among (parts_of es)) ts rest
  factors_mention n es ts rest sums.no_factor = (refl, refl, λ h. h)
  factors_mention n es ts rest (sums.times {e = e} {es = others} {ts = us} {us = vs} d ds) =
      mentions_both (variables_of e) (variables_among (parts_of others)) us vs rest (factor_mentions n e us vs d) (factors_mention n others vs rest ds)

  product_mentions : (n : ℕ) (e : Expression) (ts rest : List Symbol) → IsProduct n e ts rest → Mentions (variables_of e) ts rest
  product_mentions n e ts rest (sums.factors {e = first} {es = others} {us = us} d ds l) =
      one_product first others ts rest (mentions_both (variables_of first) (variables_among (parts_of others)) ts us rest (factor_mentions n first ts us d) (factors_mention n others us rest ds))

  products_mention : (n : ℕ) (es : List Expression) (ts rest : List Symbol) → AreProducts n es ts rest → Mentions (variables_among (parts_of es)) ts rest
  products_mention n es ts rest sums.no_product = (refl, refl, λ h. h)
  products_mention n es ts rest (sums.plus {e = e} {es = others} {ts = us} {us = vs} d ds) =
      mentions_both (variables_of e) (variables_among (parts_of others)) us vs rest (product_mentions n e us vs d) (products_mention n others vs rest ds)
  products_mention n es ts rest (sums.less {e = e} {es = others} {ts = us} {us = vs} d ds) =
      mentions_both (variables_of e) (variables_among (parts_of others)) us vs rest (product_mentions n e us vs d) (products_mention n others vs rest ds)

  pub sum_mentions : (n : ℕ) (e : Expression) (ts rest : List Symbol) → IsSum n e ts rest → Mentions (variables_of e) ts rest
  sum_mentions n e ts rest (sums.products {e = first} {es = others} {us = us} d ds) =
      one_sum first others ts rest (mentions_both (variables_of first) (variables_among (parts_of others)) ts us rest (product_mentions n first ts us d) (products_mention n others us rest ds))

mutual
  plain_mentions : (n : ℕ) (c : Condition) (ts rest : List Symbol) → IsPlain n c ts rest → Mentions (variables_tested c) ts rest
  plain_mentions n c ts rest conditions.always = (refl, refl, λ h. h)
  plain_mentions n c ts rest conditions.never = (refl, refl, λ h. h)
  plain_mentions n c ts rest (conditions.denied {n = m} {c = inner} d) = plain_mentions m inner _ _ d
  plain_mentions n c ts rest (conditions.bracketed {n = m} d) = condition_mentions m c _ _ d

  literal_mentions : (n : ℕ) (c : Condition) (ts rest : List Symbol) → IsLiteral n c ts rest → Mentions (variables_tested c) ts rest
  literal_mentions n c ts rest (conditions.plain d) = plain_mentions n c ts rest d
  literal_mentions n c ts rest (conditions.comparison {a = e} {b = f} {kind = kind} {relation = r} {us = us} d is b) =
      let first = sum_mentions n e ts (fixed kind ∷ us) d in
      let behind = sum_mentions n f us rest b in
      (first.0 ∙ ap (variables_of e) behind.0, first.1 ∙ behind.1, λ known. first.2 (relation_known kind r us is (behind.2 known)))

  literals_mention : (n : ℕ) (cs : List Condition) (ts rest : List Symbol) → AreLiterals n cs ts rest → Mentions (variables_of_tests (tests_of cs)) ts rest
  literals_mention n cs ts rest conditions.no_literal = (refl, refl, λ h. h)
  literals_mention n cs ts rest (conditions.and {c = c} {cs = others} {ts = us} {us = vs} d ds) =
      mentions_both (variables_tested c) (variables_of_tests (tests_of others)) us vs rest (literal_mentions n c us vs d) (literals_mention n others vs rest ds)

  conjunction_mentions : (n : ℕ) (c : Condition) (ts rest : List Symbol) → IsConjunction n c ts rest → Mentions (variables_tested c) ts rest
  conjunction_mentions n c ts rest (conditions.literals {c = first} {cs = others} {us = us} d ds) =
      one_all first others ts rest (mentions_both (variables_tested first) (variables_of_tests (tests_of others)) ts us rest (literal_mentions n first ts us d) (literals_mention n others us rest ds))

  conjunctions_mention : (n : ℕ) (cs : List Condition) (ts rest : List Symbol) → AreConjunctions n cs ts rest → Mentions (variables_of_tests (tests_of cs)) ts rest
  conjunctions_mention n cs ts rest conditions.no_conjunction = (refl, refl, λ h. h)
  conjunctions_mention n cs ts rest (conditions.or {c = c} {cs = others} {ts = us} {us = vs} d ds) =
      mentions_both (variables_tested c) (variables_of_tests (tests_of others)) us vs rest (conjunction_mentions n c us vs d) (conjunctions_mention n others vs rest ds)

  pub condition_mentions : (n : ℕ) (c : Condition) (ts rest : List Symbol) → IsCondition n c ts rest → Mentions (variables_tested c) ts rest
  condition_mentions n c ts rest (conditions.conjunctions {c = first} {cs = others} {us = us} d ds) =
      one_some first others ts rest (mentions_both (variables_tested first) (variables_of_tests (tests_of others)) ts us rest (conjunction_mentions n first ts us d) (conjunctions_mention n others us rest ds))

-- ---- commands

commands_mention_more : (c : Instruction) (cs : List Instruction) (ts us rest : List Symbol) → IsCommand c ts us → Mentions (variables_commanded cs) us rest → Mentions (variables_commanded (c ∷ cs)) ts rest
commands_mention_more c cs ts us rest (programs.assumption {c = tested} {ts = inner} d) k =
    mentions_both (variables_tested tested) (variables_commanded cs) inner us rest (condition_mentions 63 tested inner (fixed RightRound ∷ fixed Semicolon ∷ us) d) k
commands_mention_more c cs ts us rest (programs.assignment {v = v} {e = e} {ts = inner} d) k =
    let h = mentions_both (variables_of e) (variables_commanded cs) inner us rest (sum_mentions 64 e inner (fixed Semicolon ∷ us) d) k in
    (ap (λ (vs : List ℕ). v ∷ vs) h.0, h.1, h.2)

pub commands_mention : (cs : List Instruction) (ts rest : List Symbol) → AreCommands cs ts rest → Mentions (variables_commanded cs) ts rest
commands_mention cs ts rest programs.no_command = (refl, refl, λ h. h)
commands_mention cs ts rest (programs.command {c = c} {cs = others} {us = us} d ds) = commands_mention_more c others ts us rest d (commands_mention others us rest ds)
commands_mention cs ts rest (programs.mark d) = commands_mention cs _ rest d
commands_mention cs ts rest (programs.ended_mark d) = commands_mention cs _ rest d
