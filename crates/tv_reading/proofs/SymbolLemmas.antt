-- The symbols that sums, conditions and commands have: none of them begins or ends an item, their draws are those of the tree, and
-- where the tree fits, so do they.
use Rattle.std.proofs.Common.{◌≡◌, ℕ, ◌+◌, ◌^◌, Bool, true, false, List, [], ◌∷◌, ◌++◌, Some, refl, sym, ap, ◌∙◌, append_assoc, arith}
use Rattle.std.specs.Prelude.{◌&&◌, nat_lt}
use Rattle.std.specs.List.{list_all}
use Rattle.tv_language.specs.declared.token.TokenKind.{TokenKind}
use Rattle.tv_language.specs.declared.token.TokenKind.TheVariants as kinds
use Rattle.tv_program.specs.declared.tree.Relation.{Relation}
use Rattle.tv_program.specs.Trees as trees
use Rattle.tv_program.specs.Trees.{Expression, Condition, Instruction}
use Rattle.tv_program.specs.Views.{parts_of, tests_of}
use Rattle.tv_program.specs.Limits.{expression_fits, expressions_fit, condition_fits, conditions_fit, instruction_fits}
use Rattle.tv_language.specs.Symbols.{Symbol, number, name, label, drawn, fixed}
use Rattle.tv_language.specs.Sums.{gathered, IsFactor, constant, variable, draw, bracketed, negative, AreFactors, no_factor, times, IsProduct, factors, AreProducts, no_product, plus, less, IsSum, products}
use Rattle.tv_language.specs.Conditions as conditions
use Rattle.tv_language.specs.Conditions.{relation_of, joined, IsPlain, always, never, denied, IsLiteral, comparison, AreLiterals, no_literal, and, IsConjunction, literals, AreConjunctions, no_conjunction, or, IsCondition, conjunctions}
use Rattle.tv_language.specs.Programs as programs
use Rattle.tv_language.specs.Programs.{draws_in, draws_among, draws_tested, draws_of_tests, draws_of, draws_counted, IsCommand, assumption, assignment, AreCommands, no_command, command}
use Rattle.std.proofs.lemmas.Bool.{and_from, and_parts}

-- the tokens that stand in commands
abbrev pub body_kind : TokenKind → Bool
body_kind kinds.Start = false
body_kind kinds.From = false
body_kind kinds.To = false
body_kind kinds.Colon = false
body_kind kinds.Name = false
body_kind kinds.Number = false
body_kind kinds.Nondet = false
body_kind kinds.Passed = false
body_kind kinds.End = false
body_kind kinds.Wide = false
body_kind kinds.Unread = false
body_kind kind = true

abbrev pub body : Symbol → Bool
body (label l) = false
body (fixed kind) = body_kind kind
body s = true

abbrev pub all_body : List Symbol → Bool
all_body [] = true
all_body (s ∷ ss) = body s && all_body ss

-- a number below 2^62, or a draw below d, or neither
abbrev pub sound : ℕ → Symbol → Bool
sound d (number k) = nat_lt k (2 ^ 62)
sound d (drawn k) = nat_lt k d
sound d s = true

abbrev pub all_sound : ℕ → List Symbol → Bool
all_sound d [] = true
all_sound d (s ∷ ss) = sound d s && all_sound d ss

abbrev pub draws_at : Symbol → ℕ
draws_at (drawn k) = 1
draws_at s = 0

abbrev pub draws_at_all : List Symbol → ℕ
draws_at_all [] = 0
draws_at_all (s ∷ ss) = draws_at s + draws_at_all ss

pub body-append : (a b : List Symbol) → all_body a ≡ true → all_body b ≡ true → all_body (a ++ b) ≡ true
body-append [] b h i = i
body-append (s ∷ a) b h i = and_from _ _ ((and_parts _ _ h).0) (body-append a b ((and_parts _ _ h).1) i)

pub sound-append : (d : ℕ) (a b : List Symbol) → all_sound d a ≡ true → all_sound d b ≡ true → all_sound d (a ++ b) ≡ true
sound-append d [] b h i = i
sound-append d (s ∷ a) b h i = and_from _ _ ((and_parts _ _ h).0) (sound-append d a b ((and_parts _ _ h).1) i)

pub draws-append : (a b : List Symbol) → draws_at_all (a ++ b) ≡ draws_at_all a + draws_at_all b
draws-append [] b = omega arith
draws-append (s ∷ a) b = let again = draws-append a b in omega arith

pub body_front : (a b : List Symbol) → all_body (a ++ b) ≡ true → all_body a ≡ true
body_front [] b h = refl
body_front (s ∷ a) b h = and_from _ _ ((and_parts _ _ h).0) (body_front a b ((and_parts _ _ h).1))

-- ts is these symbols, and rest; there are `count` draws, and they are sound where `fits` says so
pub record Uses (count : ℕ) (fits : ℕ → ℕ → Bool) (ts rest : List Symbol) : Type 0 where
  pub used : List Symbol
  pub parts : ts ≡ used ++ rest
  pub plainly : all_body used ≡ true
  pub counted : draws_at_all used ≡ count
  pub soundly : (v d : ℕ) → fits v d ≡ true → all_sound d used ≡ true

none : (rest : List Symbol) → Uses 0 (λ v d. true) rest rest
none rest = record { used = []; parts = refl; plainly = refl; counted = refl; soundly = λ v d h. refl }

-- a symbol with neither a number nor a draw in front
abbrev IsBare : Symbol → Type 0
IsBare s = (body s ≡ true) × (draws_at s ≡ 0) × ((d : ℕ) → sound d s ≡ true)

lead : {count : ℕ} {fits : ℕ → ℕ → Bool} {ts rest : List Symbol} (s : Symbol) → IsBare s → Uses count fits ts rest → Uses count fits (s ∷ ts) rest
lead s b u = record {
  used = s ∷ u.used;
  parts = ap (λ (ss : List Symbol). s ∷ ss) u.parts;
  plainly = and_from _ _ b.0 u.plainly;
  counted = omega (arith, b.1, u.counted);
  soundly = λ v d h. and_from _ _ (b.2 d) (u.soundly v d h);
}

both : {j k : ℕ} {f g : ℕ → ℕ → Bool} {ts us rest : List Symbol} → Uses j f ts us → Uses k g us rest → Uses (j + k) (λ v d. f v d && g v d) ts rest
both {rest} a b = record {
  used = a.used ++ b.used;
  parts = a.parts ∙ ap (λ (ss : List Symbol). a.used ++ ss) b.parts ∙ sym (append_assoc a.used b.used rest);
  plainly = body-append a.used b.used a.plainly b.plainly;
  counted = omega (arith, draws-append a.used b.used, a.counted, b.counted);
  soundly = λ v d h. sound-append d a.used b.used (a.soundly v d ((and_parts _ _ h).0)) (b.soundly v d ((and_parts _ _ h).1));
}

same : {j k : ℕ} {f g : ℕ → ℕ → Bool} {ts rest : List Symbol} → j ≡ k → ((v d : ℕ) → g v d ≡ true → f v d ≡ true) → Uses j f ts rest → Uses k g ts rest
same e h u = record { used = u.used; parts = u.parts; plainly = u.plainly; counted = u.counted ∙ e; soundly = λ v d w. u.soundly v d (h v d w) }

bare : (kind : TokenKind) → body_kind kind ≡ true → IsBare (fixed kind)
bare kind e = (e, refl, λ d. refl)

-- ---- sums

gathered_count : (make : trees.Expressions → Expression) → ((es : trees.Expressions) → draws_in (make es) ≡ draws_among es) → (e : Expression) (es : List Expression) → draws_in e + draws_among (parts_of es) ≡ draws_in (gathered make (e ∷ es))
gathered_count make h e [] = omega arith
gathered_count make h e (f ∷ es) = sym (h (parts_of (e ∷ f ∷ es)))

gathered_fits : (make : trees.Expressions → Expression) → ((v d : ℕ) (es : trees.Expressions) → expression_fits v d (make es) ≡ true → expressions_fit v d es ≡ true) → (e : Expression) (es : List Expression) (v d : ℕ) → expression_fits v d (gathered make (e ∷ es)) ≡ true → (expression_fits v d e && expressions_fit v d (parts_of es)) ≡ true
gathered_fits make h e [] v d w = and_from _ _ w refl
gathered_fits make h e (f ∷ es) v d w = h v d (parts_of (e ∷ f ∷ es)) w

mutual
  pub factor_uses : {n : ℕ} {e : Expression} {ts rest : List Symbol} → IsFactor n e ts rest → Uses (draws_in e) (λ v d. expression_fits v d e) ts rest
  factor_uses (constant {k} {rest}) = record { used = number k ∷ []; parts = refl; plainly = refl; counted = refl; soundly = λ v d h. and_from _ _ h refl }
  factor_uses (variable {v} {rest}) = record { used = name v ∷ []; parts = refl; plainly = refl; counted = refl; soundly = λ v d h. refl }
  factor_uses (draw {d = k} {rest}) = record { used = drawn k ∷ fixed kinds.LeftRound ∷ fixed kinds.RightRound ∷ []; parts = refl; plainly = refl; counted = refl; soundly = λ v d h. and_from _ _ h refl }
  factor_uses (bracketed {e} {ts} {rest} s) = same (omega arith) (λ v d h. and_from _ _ h refl) (lead (fixed kinds.LeftRound) (bare kinds.LeftRound refl) (both (sum_uses s) (lead (fixed kinds.RightRound) (bare kinds.RightRound refl) (none rest))))
  factor_uses (negative f) = lead (fixed kinds.Minus) (bare kinds.Minus refl) (factor_uses f)

  factors_uses : {n : ℕ} {es : List Expression} {ts rest : List Symbol} → AreFactors n es ts rest → Uses (draws_among (parts_of es)) (λ v d. expressions_fit v d (parts_of es)) ts rest
  factors_uses (no_factor {rest}) = none rest
  factors_uses (times f fs) = lead (fixed kinds.Star) (bare kinds.Star refl) (both (factor_uses f) (factors_uses fs))

  product_uses : {n : ℕ} {e : Expression} {ts rest : List Symbol} → IsProduct n e ts rest → Uses (draws_in e) (λ v d. expression_fits v d e) ts rest
  product_uses (factors {e} {es} f fs l) = same (gathered_count trees.product (λ es. refl) e es) (gathered_fits trees.product (λ v d es h. (and_parts _ _ h).1) e es) (both (factor_uses f) (factors_uses fs))

  products_uses : {n : ℕ} {es : List Expression} {ts rest : List Symbol} → AreProducts n es ts rest → Uses (draws_among (parts_of es)) (λ v d. expressions_fit v d (parts_of es)) ts rest
  products_uses (no_product {rest}) = none rest
  products_uses (plus p ps) = lead (fixed kinds.Plus) (bare kinds.Plus refl) (both (product_uses p) (products_uses ps))
  products_uses (less p ps) = lead (fixed kinds.Minus) (bare kinds.Minus refl) (both (product_uses p) (products_uses ps))

  pub sum_uses : {n : ℕ} {e : Expression} {ts rest : List Symbol} → IsSum n e ts rest → Uses (draws_in e) (λ v d. expression_fits v d e) ts rest
  sum_uses (products {e} {es} p ps) = same (gathered_count trees.sum (λ es. refl) e es) (gathered_fits trees.sum (λ v d es h. h) e es) (both (product_uses p) (products_uses ps))

-- ---- conditions

relation_bare : (kind : TokenKind) (r : Relation) → relation_of kind ≡ Some r → body_kind kind ≡ true
relation_bare kinds.Start r e = absurd cc
relation_bare kinds.From r e = absurd cc
relation_bare kinds.To r e = absurd cc
relation_bare kinds.Colon r e = absurd cc
relation_bare kinds.Name r e = absurd cc
relation_bare kinds.Number r e = absurd cc
relation_bare kinds.Nondet r e = absurd cc
relation_bare kinds.Passed r e = absurd cc
relation_bare kinds.End r e = absurd cc
relation_bare kinds.Wide r e = absurd cc
relation_bare kinds.Unread r e = absurd cc
relation_bare kind r e = refl

joined_count : (make : trees.Conditions → Condition) → ((cs : trees.Conditions) → draws_tested (make cs) ≡ draws_of_tests cs) → (c : Condition) (cs : List Condition) → draws_tested c + draws_of_tests (tests_of cs) ≡ draws_tested (joined make (c ∷ cs))
joined_count make h c [] = omega arith
joined_count make h c (d ∷ cs) = sym (h (tests_of (c ∷ d ∷ cs)))

joined_fits : (make : trees.Conditions → Condition) → ((v d : ℕ) (cs : trees.Conditions) → condition_fits v d (make cs) ≡ true → conditions_fit v d cs ≡ true) → (c : Condition) (cs : List Condition) (v d : ℕ) → condition_fits v d (joined make (c ∷ cs)) ≡ true → (condition_fits v d c && conditions_fit v d (tests_of cs)) ≡ true
joined_fits make h c [] v d w = and_from _ _ w refl
joined_fits make h c (e ∷ cs) v d w = h v d (tests_of (c ∷ e ∷ cs)) w

mutual
  plain_uses : {n : ℕ} {c : Condition} {ts rest : List Symbol} → IsPlain n c ts rest → Uses (draws_tested c) (λ v d. condition_fits v d c) ts rest
  plain_uses (always {rest}) = lead (fixed kinds.True) (bare kinds.True refl) (none rest)
  plain_uses (never {rest}) = lead (fixed kinds.False) (bare kinds.False refl) (none rest)
  plain_uses (denied p) = lead (fixed kinds.Not) (bare kinds.Not refl) (plain_uses p)
  plain_uses (conditions.bracketed {c} {rest} p) = same (omega arith) (λ v d h. and_from _ _ h refl) (lead (fixed kinds.LeftRound) (bare kinds.LeftRound refl) (both (condition_uses p) (lead (fixed kinds.RightRound) (bare kinds.RightRound refl) (none rest))))

  literal_uses : {n : ℕ} {c : Condition} {ts rest : List Symbol} → IsLiteral n c ts rest → Uses (draws_tested c) (λ v d. condition_fits v d c) ts rest
  literal_uses (conditions.plain p) = plain_uses p
  literal_uses (comparison {kind} {relation} p is q) = both (sum_uses p) (lead (fixed kind) (bare kind (relation_bare kind relation is)) (sum_uses q))

  literals_uses : {n : ℕ} {cs : List Condition} {ts rest : List Symbol} → AreLiterals n cs ts rest → Uses (draws_of_tests (tests_of cs)) (λ v d. conditions_fit v d (tests_of cs)) ts rest
  literals_uses (no_literal {rest}) = none rest
  literals_uses (and p ps) = lead (fixed kinds.And) (bare kinds.And refl) (both (literal_uses p) (literals_uses ps))

  conjunction_uses : {n : ℕ} {c : Condition} {ts rest : List Symbol} → IsConjunction n c ts rest → Uses (draws_tested c) (λ v d. condition_fits v d c) ts rest
  conjunction_uses (literals {c} {cs} p ps) = same (joined_count trees.all_of (λ cs. refl) c cs) (joined_fits trees.all_of (λ v d cs h. h) c cs) (both (literal_uses p) (literals_uses ps))

  conjunctions_uses : {n : ℕ} {cs : List Condition} {ts rest : List Symbol} → AreConjunctions n cs ts rest → Uses (draws_of_tests (tests_of cs)) (λ v d. conditions_fit v d (tests_of cs)) ts rest
  conjunctions_uses (no_conjunction {rest}) = none rest
  conjunctions_uses (or p ps) = lead (fixed kinds.Or) (bare kinds.Or refl) (both (conjunction_uses p) (conjunctions_uses ps))

  pub condition_uses : {n : ℕ} {c : Condition} {ts rest : List Symbol} → IsCondition n c ts rest → Uses (draws_tested c) (λ v d. condition_fits v d c) ts rest
  condition_uses (conjunctions {c} {cs} p ps) = same (joined_count trees.some_of (λ cs. refl) c cs) (joined_fits trees.some_of (λ v d cs h. h) c cs) (both (conjunction_uses p) (conjunctions_uses ps))

-- ---- commands

pub command_uses : {c : Instruction} {ts rest : List Symbol} → IsCommand c ts rest → Uses (draws_of c) (λ v d. instruction_fits v d c) ts rest
command_uses (assumption {rest} w) = same (omega arith) (λ v d h. and_from _ _ ((and_parts _ _ h).0) refl) (lead (fixed kinds.Assume) (bare kinds.Assume refl) (lead (fixed kinds.LeftRound) (bare kinds.LeftRound refl) (both (condition_uses w) (lead (fixed kinds.RightRound) (bare kinds.RightRound refl) (lead (fixed kinds.Semicolon) (bare kinds.Semicolon refl) (none rest))))))
command_uses (assignment {v = w} {rest} s) = same (omega arith) (λ v d h. and_from _ _ ((and_parts _ _ ((and_parts _ _ h).0)).1) refl) (lead (name w) (refl, refl, λ d. refl) (lead (fixed kinds.Assign) (bare kinds.Assign refl) (both (sum_uses s) (lead (fixed kinds.Semicolon) (bare kinds.Semicolon refl) (none rest)))))

pub commands_uses : {cs : List Instruction} {ts rest : List Symbol} → AreCommands cs ts rest → Uses (draws_counted cs) (λ v d. list_all (instruction_fits v d) cs) ts rest
commands_uses (no_command {rest}) = none rest
commands_uses (command c cs) = both (command_uses c) (commands_uses cs)
commands_uses (programs.AreCommands.mark cs) = lead (fixed kinds.Mark) (bare kinds.Mark refl) (commands_uses cs)
commands_uses (programs.AreCommands.ended_mark cs) = lead (fixed kinds.Mark) (bare kinds.Mark refl) (lead (fixed kinds.Semicolon) (bare kinds.Semicolon refl) (commands_uses cs))
