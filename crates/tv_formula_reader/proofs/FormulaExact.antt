-- Formulas of each level are read exactly: a plain formula is never a comparison.
use Rattle.std.proofs.Common.{◌≡◌, inl, inr, ℕ, zero, suc, ◌≤◌, Bool, true, false, List, [], ◌∷◌, ◌++◌, length, Some, refl, ap, ◌∙◌, length-append, arith}
use Rattle.tv_language.specs.declared.token.TokenKind.TheVariants as kinds
use Rattle.tv_program.specs.Words.{Word}
use Rattle.tv_language.specs.Symbols.{fixed}
use Rattle.tv_formula.specs.Properties.{Property}
use Rattle.tv_grammar.specs.Reads.{next}
use Rattle.tv_grammar.specs.Langs.{then, OfBranch, branch_text}
use Rattle.tv_grammar.specs.Exact.{Exact}
use Rattle.tv_grammar.proofs.ExactLemmas.{branch_append, then_exact}
use Rattle.tv_reading.specs.Marks.{Kind, Syntax, Mark, plain}
use Rattle.tv_reading.proofs.SumLemmas.{sum_goes_on}
use Rattle.tv_formula_reader.specs.Seen.{Seen}
use Rattle.tv_formula_reader.specs.Choice.{Grammar, OfEither, text_of_either}
use Rattle.tv_formula_reader.specs.FormulaGrammar.{at_kind, closed, summed, related, comparison, Under, ground, level, plain_by, conjunction_from, conjunction_over, formula_from, plain_at, literal_at, formula_at, at_end, text_at}
use Rattle.tv_formula_reader.proofs.ChoiceLemmas.{Halts, either_exact}
use Rattle.tv_formula_reader.proofs.SumHalts.{sum_opens, sum_unclosed, no_sum, NoSum, true_stops, false_stops, name_stops, not_stops, square_stops}
use Rattle.tv_formula_reader.proofs.FormulaLemmas.{text_longer, closed_exact, end_exact, summed_exact, comparison_exact, ExactUnder, plain_branch, plain_exact_over, conjunction_from_exact, conjunction_exact, formula_from_exact, formula_exact_over, related_exact, related_goes, related_right, kind_branch}

pub record Levelled (kept : Kind → Bool) (n : ℕ) : Type 0 where
  pub exact : Exact (plain_at kept n)
  pub halts : (d : (plain_at kept n).Of) (r : List Seen) → Halts (summed kept n) ((plain_at kept n).text d r) r

-- a comparison halts where its first sum does
pub comparison_halts : (kept : Kind → Bool) (n : ℕ) (ts r : List Seen) → Halts (summed kept n) ts r → Halts (comparison kept n) ts r
comparison_halts kept n ts r h = record { at = h.at; stops = rw h.stops refl; within = h.within }

module _ (kept : Kind → Bool) (n : ℕ) (w : Levelled kept n) where
  literal_exact_of : Exact (literal_at kept n)
  literal_exact_of = either_exact (comparison kept n) (plain_at kept n) (comparison_exact kept n) w.exact (λ d r. comparison_halts kept n ((plain_at kept n).text d r) r (w.halts d r))

  formula_exact_of : Exact (formula_at kept n)
  formula_exact_of = formula_exact_over (literal_at kept n) literal_exact_of

  -- after a bracket, a literal is no sum that is closed
  literal_halts : (t : Seen) → t.mark ≡ plain (fixed kinds.LeftRound) → (d : OfEither (comparison kept n) (plain_at kept n)) (x : List Seen) → Halts (summed kept (suc n)) (t ∷ text_of_either (comparison kept n) (plain_at kept n) d x) x
  literal_halts t m (inl c) x =
      let behind : List Seen = (related (summed kept n) ((summed kept n).value c.0)).text c.1 x in
      let goes : (summed kept n).goes_on c.0 (next behind) ≡ false = sum_goes_on kept n true c.0.of (Some c.1.0.mark) ∙ related_goes ((summed kept n).value c.0) (summed kept n) c.1.0.mark c.1.1 in
      record {
        at = behind;
        stops = sum_unclosed kept n t (c.0.tokens ++ behind) ((summed kept n).value c.0) behind m ((summed_exact kept n).only c.0 behind goes) (related_right ((summed kept n).value c.0) (summed kept n) c.1.0.mark c.1.1);
        within = text_longer (related (summed kept n) ((summed kept n).value c.0)) (related_exact (summed kept n) (summed_exact kept n) ((summed kept n).value c.0)) c.1 x;
      }
  literal_halts t m (inr p) x =
      let h = w.halts p x in
      record { at = h.at; stops = sum_opens kept n t ((plain_at kept n).text p x) Syntax h.at m h.stops; within = h.within }

  -- a bracket with a formula is no sum
  bracket_halts : (t : Seen) → t.mark ≡ plain (fixed kinds.LeftRound) → (d : (then (formula_at kept n) closed).Of) (r : List Seen) → Halts (summed kept (suc n)) (t ∷ (then (formula_at kept n) closed).text d r) r
  bracket_halts t m d r =
      let literal : Grammar Property = literal_at kept n in
      let conjunction : Grammar Property = conjunction_over literal in
      let e = literal_exact_of in
      let z : List Seen = (closed ((formula_at kept n).value d.0)).text d.1 r in
      let y : List Seen = (formula_from conjunction (conjunction.value d.0.0)).text d.0.1 z in
      let x : List Seen = (conjunction_from literal (literal.value d.0.0.0)).text d.0.0.1 y in
      let h = literal_halts t m d.0.0.0 x in
      record {
        at = h.at;
        stops = h.stops;
        within = omega (
          arith,
          h.within,
          text_longer (closed ((formula_at kept n).value d.0)) (closed_exact ((formula_at kept n).value d.0)) d.1 r,
          text_longer (formula_from conjunction (conjunction.value d.0.0)) (formula_from_exact conjunction (conjunction_exact literal e) (conjunction.value d.0.0)) d.0.1 z,
          text_longer (conjunction_from literal (literal.value d.0.0.0)) (conjunction_from_exact literal e (literal.value d.0.0.0)) d.0.0.1 y,
        );
      }

-- at a token at which no sum begins
none_halts : (kept : Kind → Bool) (n : ℕ) (t : Seen) (ts r : List Seen) → NoSum kept t.mark → length r ≤ length (t ∷ ts) → Halts (summed kept n) (t ∷ ts) r
none_halts kept n t ts r h l = record { at = t ∷ ts; stops = no_sum kept n t ts h; within = l }

module _ (kept : Kind → Bool) where
  zero_halts : (m label : Mark) (w : Word) (d : OfBranch (at_kind (plain_by kept ground w) m)) (r : List Seen) → length r ≤ length (branch_text (at_kind (plain_by kept ground w) m) d r) → Halts (summed kept 0) (record { mark = m; label = label; word = w } ∷ branch_text (at_kind (plain_by kept ground w) m) d r) r
  zero_halts (plain (fixed kinds.True)) lb w d r l = none_halts kept 0 _ _ r (true_stops kept) (omega arith)
  zero_halts (plain (fixed kinds.False)) lb w d r l = none_halts kept 0 _ _ r (false_stops kept) (omega arith)
  zero_halts (plain (fixed kinds.Name)) lb w d r l = none_halts kept 0 _ _ r (name_stops kept) (omega arith)
  zero_halts _ lb w d r l = absurd d

  suc_halts : (n : ℕ) → Levelled kept n → (m label : Mark) (w : Word) (d : OfBranch (at_kind (plain_by kept (level (formula_at kept n) (plain_at kept n)) w) m)) (r : List Seen) → length r ≤ length (branch_text (at_kind (plain_by kept (level (formula_at kept n) (plain_at kept n)) w) m) d r) → Halts (summed kept (suc n)) (record { mark = m; label = label; word = w } ∷ branch_text (at_kind (plain_by kept (level (formula_at kept n) (plain_at kept n)) w) m) d r) r
  suc_halts n v (plain (fixed kinds.LeftRound)) lb w d r l = bracket_halts kept n v (record { mark = plain (fixed kinds.LeftRound); label = lb; word = w }) refl d r
  suc_halts n v (plain (fixed kinds.True)) lb w d r l = none_halts kept (suc n) _ _ r (true_stops kept) (omega arith)
  suc_halts n v (plain (fixed kinds.False)) lb w d r l = none_halts kept (suc n) _ _ r (false_stops kept) (omega arith)
  suc_halts n v (plain (fixed kinds.Name)) lb w d r l = none_halts kept (suc n) _ _ r (name_stops kept) (omega arith)
  suc_halts n v (plain (fixed kinds.Not)) lb w d r l = none_halts kept (suc n) _ _ r (not_stops kept) (omega arith)
  suc_halts n v (plain (fixed kinds.LeftSquare)) lb w d r l = none_halts kept (suc n) _ _ r (square_stops kept) (omega arith)
  suc_halts n v _ lb w d r l = absurd d

  branch_longer : (u : Under) → ExactUnder u → (m : Mark) (w : Word) (d : OfBranch (at_kind (plain_by kept u w) m)) (r : List Seen) → length r ≤ length (branch_text (at_kind (plain_by kept u w) m) d r)
  branch_longer u h m w d r =
      let e = kind_branch (plain_by kept u w) (plain_branch kept u h w) m in
      omega (arith, ap length (branch_append (at_kind (plain_by kept u w) m) e d [] r), length-append (branch_text (at_kind (plain_by kept u w) m) d []) r)

  pub levelled : (n : ℕ) → Levelled kept n
  unfolding plain_at
  levelled zero = record { exact = plain_exact_over kept ground tt; halts = λ d r. zero_halts d.0.mark d.0.label d.0.word d.1 r (branch_longer ground tt d.0.mark d.0.word d.1 r) }
  levelled (suc n) =
      let v = levelled n in
      let u : ExactUnder (level (formula_at kept n) (plain_at kept n)) = (formula_exact_of kept n v, v.exact) in
      record {
        exact = plain_exact_over kept (level (formula_at kept n) (plain_at kept n)) u;
        halts = λ d r. suc_halts n v d.0.mark d.0.label d.0.word d.1 r (branch_longer (level (formula_at kept n) (plain_at kept n)) u d.0.mark d.0.word d.1 r);
      }

  pub plain_exact : (n : ℕ) → Exact (plain_at kept n)
  plain_exact n = (levelled n).exact

  pub plain_halts : (n : ℕ) (d : (plain_at kept n).Of) (r : List Seen) → Halts (summed kept n) ((plain_at kept n).text d r) r
  plain_halts n = (levelled n).halts

  pub literal_exact : (n : ℕ) → Exact (literal_at kept n)
  literal_exact n = literal_exact_of kept n (levelled n)

  pub formula_exact : (n : ℕ) → Exact (formula_at kept n)
  formula_exact n = formula_exact_of kept n (levelled n)

  pub text_exact : (n : ℕ) → Exact (text_at kept n)
  text_exact n = then_exact (formula_at kept n) at_end (formula_exact n) end_exact
