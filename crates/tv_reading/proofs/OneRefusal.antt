-- Tokens are refused at one place and for one kind, by each grammar that asks less where fewer kinds are kept.
use Rattle.std.proofs.Common.{◌≡◌, ℕ, zero, suc, ◌<◌, Bool, true, false, List, [], ◌∷◌, ◌++◌, Some, refl, sym, ap, subst, ◌∙◌, arith}
use Rattle.std.proofs.lemmas.Bool.Decides.{nat_tests}
use Rattle.std.specs.Prelude.{nat_lt}
use Rattle.tv_grammar.specs.Reads.{next}
use Rattle.tv_grammar.specs.Langs.{Lang}
use Rattle.tv_grammar.specs.Exact.{Exact, Ends}
use Rattle.tv_grammar.specs.Faults.{Loosens, NoneIn, Begins}
use Rattle.tv_grammar.proofs.OneRefusal.{Compared, same, further, nearer, compared, text_too, begins_too, not_begun, not_later}
use Rattle.tv_reading.specs.Marks.{Kind, Syntax, Wide, Deep, NotLinear, TwoStarts, TooMany, UnknownName}
use Rattle.tv_reading.specs.SumGrammar.{every}
use Rattle.tv_reading.specs.Refusals.{rank, upto, under, Levels}
use Rattle.tv_reading.proofs.RefusalLemmas.{syntax_kept, syntax_under}

-- ---- the order of kinds

abbrev of_rank : ℕ → Kind
of_rank zero = Syntax
of_rank (suc zero) = Wide
of_rank (suc (suc zero)) = Deep
of_rank (suc (suc (suc zero))) = NotLinear
of_rank (suc (suc (suc (suc zero)))) = TwoStarts
of_rank (suc (suc (suc (suc (suc zero))))) = TooMany
of_rank (suc (suc (suc (suc (suc (suc n)))))) = UnknownName

ranked : (k : Kind) → of_rank (rank k) ≡ k
ranked Syntax = refl
ranked Wide = refl
ranked Deep = refl
ranked NotLinear = refl
ranked TwoStarts = refl
ranked TooMany = refl
ranked UnknownName = refl

same_rank : (j k : Kind) → rank j ≡ rank k → j ≡ k
same_rank j k e = sym (ranked j) ∙ ap of_rank e ∙ ranked k

kept_before : (j k c : Kind) → rank j < rank k → under k c ≡ false → upto j c ≡ false
kept_before j k c l h = grind (arith, nat_tests)

not_first : (j k : Kind) → rank j < rank k → k ≡ Syntax → ⊥
not_first j k l e = let z : rank k ≡ 0 = ap rank e in absurd (omega (arith, z))

levels_of : (b : Bool) (n : ℕ) → (m : ℕ) × Levels b n m
levels_of true n = (n, refl)
levels_of false n = (suc n, omega arith)

-- ---- one refusal

-- what is said of tokens that are refused at the first of r
pub record Refusal {T X : Type 0} (grammar : (Kind → Bool) → ℕ → Lang T Kind X) (n : ℕ) (k : Kind) (before r : List T) : Type 0 where
  pub some : Begins (grammar every n) before
  pub none : (m : ℕ) → Levels (upto k Deep) n m → NoneIn (grammar (upto k) m) before r
  pub begun : (k ≡ Syntax → ⊥) → (t : T) → next r ≡ Some t → (m : ℕ) → Levels (under k Deep) n m → Begins (grammar (under k) m) (before ++ t ∷ [])

-- both are at the same place and of the same kind
pub record AreOne {T : Type 0} (j k : Kind) (before front r s : List T) : Type 0 where
  pub kind : j ≡ k
  pub place : before ≡ front
  pub rest : r ≡ s

module _ {T X : Type 0} (grammar : (Kind → Bool) → ℕ → Lang T Kind X) (exact : (kept : Kind → Bool) (n : ℕ) → Exact (grammar kept n)) (ends : (kept : Kind → Bool) (n : ℕ) → Ends (grammar kept n)) (loose : (kept : Kind → Bool) → kept Syntax ≡ true → (n m : ℕ) → Levels (kept Deep) n m → Loosens kept (grammar every n) (grammar kept m)) (n : ℕ) where
  -- no text begins with the refused token after what stands before it
  not_further : (k : Kind) (before r : List T) (t : T) (rest : List T) → Refusal grammar n k before r → next r ≡ Some t → Begins (grammar every n) (before ++ t ∷ rest) → ⊥
  not_further k before r t rest h is b =
      let m = levels_of (upto k Deep) n in
      let l = loose (upto k) (syntax_kept k) n m.0 m.1 in
      not_begun (grammar (upto k) m.0) before r t rest (h.none m.0 m.1) is (begins_too (upto k) (grammar every n) (grammar (upto k) m.0) (exact every n) (ends every n) (exact (upto k) m.0) l (before ++ t ∷ rest) b)

  -- a whole text is not refused
  pub not_refused : (k : Kind) (before r : List T) → Refusal grammar n k before r → (d : (grammar every n).Of) → (grammar every n).text d [] ≡ before ++ r → ⊥
  not_refused k before r h d e =
      let m = levels_of (upto k Deep) n in
      let l = loose (upto k) (syntax_kept k) n m.0 m.1 in
      let c = text_too (upto k) (grammar every n) (grammar (upto k) m.0) (exact every n) (ends every n) (exact (upto k) m.0) l d in
      (h.none m.0 m.1).none c.0 r refl (c.1 ∙ e)

  -- of two kinds the earlier one is reported
  not_both : (j k : Kind) (before r : List T) (t : T) → next r ≡ Some t → rank j < rank k → Refusal grammar n j before r → Refusal grammar n k before r → ⊥
  not_both j k before r t is l h i =
      let m = levels_of (upto j Deep) n in
      let o = levels_of (under k Deep) n in
      let late = not_first j k l in
      not_later (upto j) (under k) (grammar every n) (grammar (upto j) m.0) (grammar (under k) o.0) (exact every n) (ends every n) (exact (upto j) m.0) (exact (under k) o.0) (ends (under k) o.0) (loose (upto j) (syntax_kept j) n m.0 m.1) (loose (under k) (syntax_under k late) n o.0 o.1) (λ c. kept_before j k c l) before r t is h.some (h.none m.0 m.1) (i.begun late t is o.0 o.1)

  one_kind : (j k : Kind) (before r : List T) (t : T) → next r ≡ Some t → Refusal grammar n j before r → Refusal grammar n k before r → j ≡ k
  one_kind j k before r t is h i = by (nat_lt (rank j) (rank k)) (nat_lt (rank k) (rank j)) refl refl
    where
      by : (b c : Bool) → nat_lt (rank j) (rank k) ≡ b → nat_lt (rank k) (rank j) ≡ c → j ≡ k
      by true c e f = let l : rank j < rank k = grind (arith, nat_tests) in absurd (not_both j k before r t is l h i)
      by false true e f = let l : rank k < rank j = grind (arith, nat_tests) in absurd (not_both k j before r t is l i h)
      by false false e f = same_rank j k (grind (arith, nat_tests))

  pub one_refusal : (j k : Kind) (before front r s : List T) (t : T) → next r ≡ Some t → before ++ r ≡ front ++ s → Refusal grammar n j before r → Refusal grammar n k front s → AreOne j k before front r s
  one_refusal j k before front r s t is e h i = by (compared before front r s e)
    where
      by : Compared before front r s → AreOne j k before front r s
      by (same f g) = record { kind = one_kind j k before r t is h (subst (λ (us : List T). Refusal grammar n k us r) (sym f) (subst (λ (us : List T). Refusal grammar n k front us) (sym g) i)); place = f; rest = g }
      by (further u rest f g) = absurd (not_further j before r u rest h g (subst (λ (us : List T). Begins (grammar every n) us) f i.some))
      by (nearer u rest f g) = absurd (not_further k front s u rest i g (subst (λ (us : List T). Begins (grammar every n) us) f h.some))
