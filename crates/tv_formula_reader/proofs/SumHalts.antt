-- What a sum does at the tokens of a formula.
use Rattle.std.proofs.Common.{◌≡◌, ℕ, zero, suc, ◌≤◌, Bool, true, false, List, [], ◌∷◌, length, Option, Some, None, Result, Ok, Err, refl, sym, ap, ◌∙◌, length-append, arith}
use Rattle.tv_language.specs.declared.token.TokenKind.TheVariants as kinds
use Rattle.tv_program.specs.Trees.{Expression}
use Rattle.tv_program.specs.Words.{Word}
use Rattle.tv_language.specs.Symbols.{number, name, label, drawn, fixed}
use Rattle.tv_grammar.specs.Reads.{Fault, faulty, fault, next}
use Rattle.tv_grammar.specs.Langs.{branch_read}
use Rattle.tv_grammar.proofs.Results.{ok_is}
use Rattle.tv_reading.specs.Marks.{Kind, Syntax, Deep, Mark, plain, refused}
use Rattle.tv_reading.specs.SumGrammar as sums
use Rattle.tv_reading.specs.SumGrammar.{factor_cases, factor_at, sum_at}
use Rattle.tv_reading.proofs.SumLemmas.{sum_exact}
use Rattle.tv_formula_reader.specs.Seen.{Seen, marks}
use Rattle.tv_formula_reader.specs.Choice.{mark_at, last, lifted_read}
use Rattle.tv_formula_reader.specs.FormulaGrammar.{summed, at_kind, plain_by, below}
use Rattle.tv_formula_reader.proofs.ChoiceLemmas.{length-marks, next-marks, last_all, last_behind, parted, last_of}

abbrev pub is_right_mark : Mark → Bool
is_right_mark (plain (fixed kinds.RightRound)) = true
is_right_mark m = false

abbrev pub is_right_at : Option Mark → Bool
is_right_at None = false
is_right_at (Some m) = is_right_mark m

-- ---- marks

abbrev Answer : Type 0
Answer = Result (Expression × List Mark) (Fault Mark Kind)

module _ (kept : Kind → Bool) where
  factor_read : (n : ℕ) (m : Mark) (ms : List Mark) → (factor_at kept n true).read (m ∷ ms) ≡ branch_read (factor_cases kept true (sums.below kept n true) m) (m ∷ ms) ms
  unfolding factor_at
  factor_read zero m ms = refl
  factor_read (suc n) m ms = refl

  -- a token at which no factor begins
  sum_stops : (n : ℕ) (k : Kind) (m : Mark) (ms : List Mark) → branch_read (factor_cases kept true (sums.below kept n true) m) (m ∷ ms) ms ≡ fault k (m ∷ ms) → (sum_at kept n true).read (m ∷ ms) ≡ fault k (m ∷ ms)
  sum_stops n k m ms e = rw (factor_read n m ms, e) refl

  sum_deep : (ms : List Mark) → (sum_at kept zero true).read (plain (fixed kinds.LeftRound) ∷ ms) ≡ fault Deep (plain (fixed kinds.LeftRound) ∷ ms)
  sum_deep ms = sum_stops zero Deep (plain (fixed kinds.LeftRound)) ms refl

  closes_not : (e : Expression) (r : List Mark) → is_right_at (next r) ≡ false → (sums.closed e).read r ≡ fault Syntax r
  closes_not e [] h = refl
  closes_not e (plain (fixed kinds.RightRound) ∷ r) h = absurd cc
  closes_not e (m ∷ r) h = refl

  -- after a bracket: what the sum in it does
  opened_fails : (n : ℕ) (k : Kind) (ms r : List Mark) → (sum_at kept n true).read ms ≡ fault k r → (sum_at kept (suc n) true).read (plain (fixed kinds.LeftRound) ∷ ms) ≡ fault k r
  opened_fails n k ms r e = rw (factor_read (suc n) (plain (fixed kinds.LeftRound)) ms, e) refl

  unclosed_fails : (n : ℕ) (ms : List Mark) (e : Expression) (r : List Mark) → (sum_at kept n true).read ms ≡ Ok (e, r) → is_right_at (next r) ≡ false → (sum_at kept (suc n) true).read (plain (fixed kinds.LeftRound) ∷ ms) ≡ fault Syntax r
  unclosed_fails n ms e r is h = rw (factor_read (suc n) (plain (fixed kinds.LeftRound)) ms, is, closes_not e r h) refl

  -- ---- tokens

  -- how the lifted grammar answers, in terms of marks
  pub record Told (n : ℕ) (ts : List Seen) (k : Kind) (r : List Seen) : Type 0 where
    pub left : List Mark
    pub read : (sum_at kept n true).read (marks ts) ≡ fault k left
    pub within : length left ≤ length ts
    pub same : r ≡ last (length left) ts

  pub told : (n : ℕ) (ts : List Seen) (k : Kind) (r : List Seen) → (summed kept n).read ts ≡ fault k r → Told n ts k r
  told n ts k r e = by ((sum_at kept n true).read (marks ts)) refl e
    where
      by : (out : Answer) → (sum_at kept n true).read (marks ts) ≡ out → lifted_read ts out ≡ fault k r → Told n ts k r
      by (Ok x) is f = absurd cc
      by (Err (faulty j s)) is f =
          let kind : j ≡ k = cc in
          let w = (sum_exact kept n true).least (marks ts) j s is in
          record { left = s; read = is ∙ ap (λ (q : Kind). fault q s) kind; within = omega (arith, ap length w.parts, length-append w.before s, length-marks ts); same = cc }

  pub record Given (n : ℕ) (ts : List Seen) (e : Expression) (r : List Seen) : Type 0 where
    pub left : List Mark
    pub read : (sum_at kept n true).read (marks ts) ≡ Ok (e, left)
    pub within : length left ≤ length ts
    pub same : r ≡ last (length left) ts
    pub first : mark_at (next r) ≡ next left

  pub given : (n : ℕ) (ts : List Seen) (e : Expression) (r : List Seen) → (summed kept n).read ts ≡ Ok (e, r) → Given n ts e r
  given n ts e r is = by ((sum_at kept n true).read (marks ts)) refl is
    where
      by : (out : Answer) → (sum_at kept n true).read (marks ts) ≡ out → lifted_read ts out ≡ Ok (e, r) → Given n ts e r
      by (Ok x) i f =
          let w = (sum_exact kept n true).found (marks ts) x.0 x.1 i in
          let both = ok_is {E = Fault Seen Kind} (x.0, last (length x.1) ts) (e, r) f in
          let value : x.0 ≡ e = ap (λ (q : Expression × List Seen). q.0) both in
          let left : last (length x.1) ts ≡ r = ap (λ (q : Expression × List Seen). q.1) both in
          let p = parted ts ((sum_at kept n true).text w.it []) x.1 (w.text ∙ (sum_exact kept n true).append w.it [] x.1) in
          let back : r ≡ p.back = sym left ∙ ap (λ (us : List Seen). last (length x.1) us) p.parts ∙ last_of p.front p.back (length x.1) (ap length (sym p.backs) ∙ length-marks p.back) in
          record {
            left = x.1;
            read = i ∙ ap (λ (v : Expression). Ok (v, x.1)) value;
            within = omega (arith, ap length p.parts, length-append p.front p.back, ap length p.backs, length-marks p.back);
            same = sym left;
            first = ap (λ (us : List Seen). mark_at (next us)) back ∙ next-marks p.back ∙ ap next p.backs;
          }
      by (Err (faulty k s)) i f = absurd cc

  left_mark : (t : Seen) (ts : List Seen) → t.mark ≡ plain (fixed kinds.LeftRound) → marks (t ∷ ts) ≡ plain (fixed kinds.LeftRound) ∷ marks ts
  left_mark t ts e = ap (λ (m : Mark). m ∷ marks ts) e

  lifted_fault : (n : ℕ) (ts : List Seen) (k : Kind) (r : List Mark) → (sum_at kept n true).read (marks ts) ≡ fault k r → (summed kept n).read ts ≡ fault k (last (length r) ts)
  lifted_fault n ts k r e = ap (lifted_read ts) e

  -- a bracket, and a sum after it that is at fault
  pub sum_opens : (n : ℕ) (t : Seen) (ts : List Seen) (k : Kind) (r : List Seen) → t.mark ≡ plain (fixed kinds.LeftRound) → (summed kept n).read ts ≡ fault k r → (summed kept (suc n)).read (t ∷ ts) ≡ fault k r
  sum_opens n t ts k r m e =
      let w = told n ts k r e in
      lifted_fault (suc n) (t ∷ ts) k w.left (ap (sum_at kept (suc n) true).read (left_mark t ts m) ∙ opened_fails n k (marks ts) w.left w.read)
      ∙ ap (λ (us : List Seen). fault k us) (last_behind t ts (length w.left) w.within ∙ sym w.same)

  -- a bracket, and a sum after it that is not closed
  pub sum_unclosed : (n : ℕ) (t : Seen) (ts : List Seen) (v : Expression) (r : List Seen) → t.mark ≡ plain (fixed kinds.LeftRound) → (summed kept n).read ts ≡ Ok (v, r) → is_right_at (mark_at (next r)) ≡ false → (summed kept (suc n)).read (t ∷ ts) ≡ fault Syntax r
  sum_unclosed n t ts v r m e h =
      let w = given n ts v r e in
      lifted_fault (suc n) (t ∷ ts) Syntax w.left (ap (sum_at kept (suc n) true).read (left_mark t ts m) ∙ unclosed_fails n (marks ts) v w.left w.read (ap is_right_at (sym w.first) ∙ h))
      ∙ ap (λ (us : List Seen). fault Syntax us) (last_behind t ts (length w.left) w.within ∙ sym w.same)

  -- no sum begins at the token
  abbrev pub NoSum : Mark → Type 0
  NoSum m = (n : ℕ) (ms : List Mark) → (sum_at kept n true).read (m ∷ ms) ≡ fault Syntax (m ∷ ms)

  no_sum_at : (n : ℕ) (t : Seen) (ts : List Seen) (k : Kind) → (sum_at kept n true).read (t.mark ∷ marks ts) ≡ fault k (t.mark ∷ marks ts) → (summed kept n).read (t ∷ ts) ≡ fault k (t ∷ ts)
  no_sum_at n t ts k e = lifted_fault n (t ∷ ts) k (t.mark ∷ marks ts) e ∙ ap (λ (us : List Seen). fault k us) (ap (λ (q : ℕ). last q (t ∷ ts)) (length-marks (t ∷ ts)) ∙ last_all (t ∷ ts))

  pub no_sum : (n : ℕ) (t : Seen) (ts : List Seen) → NoSum t.mark → (summed kept n).read (t ∷ ts) ≡ fault Syntax (t ∷ ts)
  no_sum n t ts h = no_sum_at n t ts Syntax (h n (marks ts))

  pub too_deep : (t : Seen) (ts : List Seen) → t.mark ≡ plain (fixed kinds.LeftRound) → (summed kept 0).read (t ∷ ts) ≡ fault Deep (t ∷ ts)
  too_deep t ts e = no_sum_at 0 t ts Deep (ap (λ (m : Mark). (sum_at kept 0 true).read (m ∷ marks ts)) e ∙ sum_deep (marks ts) ∙ ap (λ (m : Mark). fault Deep (m ∷ marks ts)) (sym e))

  -- no plain formula begins at the token
  abbrev pub NoPlain : Mark → Type 0
  NoPlain m = (n : ℕ) (w : Word) (here behind : List Seen) → branch_read (at_kind (plain_by kept (below kept n) w) m) here behind ≡ fault Syntax here

  pub data Sorted (m : Mark) : Type 0 where
    opening : m ≡ plain (fixed kinds.LeftRound) → Sorted m
    beginning : NoSum m → Sorted m
    outside : NoPlain m → Sorted m

  pub true_stops : (n : ℕ) (ms : List Mark) → (sum_at kept n true).read (plain (fixed kinds.True) ∷ ms) ≡ fault Syntax (plain (fixed kinds.True) ∷ ms)
  true_stops zero ms = sum_stops zero Syntax (plain (fixed kinds.True)) ms refl
  true_stops (suc n) ms = sum_stops (suc n) Syntax (plain (fixed kinds.True)) ms refl

  pub false_stops : (n : ℕ) (ms : List Mark) → (sum_at kept n true).read (plain (fixed kinds.False) ∷ ms) ≡ fault Syntax (plain (fixed kinds.False) ∷ ms)
  false_stops zero ms = sum_stops zero Syntax (plain (fixed kinds.False)) ms refl
  false_stops (suc n) ms = sum_stops (suc n) Syntax (plain (fixed kinds.False)) ms refl

  pub name_stops : (n : ℕ) (ms : List Mark) → (sum_at kept n true).read (plain (fixed kinds.Name) ∷ ms) ≡ fault Syntax (plain (fixed kinds.Name) ∷ ms)
  name_stops zero ms = sum_stops zero Syntax (plain (fixed kinds.Name)) ms refl
  name_stops (suc n) ms = sum_stops (suc n) Syntax (plain (fixed kinds.Name)) ms refl

  pub not_stops : (n : ℕ) (ms : List Mark) → (sum_at kept n true).read (plain (fixed kinds.Not) ∷ ms) ≡ fault Syntax (plain (fixed kinds.Not) ∷ ms)
  not_stops zero ms = sum_stops zero Syntax (plain (fixed kinds.Not)) ms refl
  not_stops (suc n) ms = sum_stops (suc n) Syntax (plain (fixed kinds.Not)) ms refl

  pub square_stops : (n : ℕ) (ms : List Mark) → (sum_at kept n true).read (plain (fixed kinds.LeftSquare) ∷ ms) ≡ fault Syntax (plain (fixed kinds.LeftSquare) ∷ ms)
  square_stops zero ms = sum_stops zero Syntax (plain (fixed kinds.LeftSquare)) ms refl
  square_stops (suc n) ms = sum_stops (suc n) Syntax (plain (fixed kinds.LeftSquare)) ms refl

  pub sorted : (m : Mark) → Sorted m
  sorted (plain (fixed kinds.LeftRound)) = opening refl
  sorted (plain (fixed kinds.True)) = beginning true_stops
  sorted (plain (fixed kinds.False)) = beginning false_stops
  sorted (plain (fixed kinds.Name)) = beginning name_stops
  sorted (plain (fixed kinds.Not)) = beginning not_stops
  sorted (plain (fixed kinds.LeftSquare)) = beginning square_stops
  sorted (plain (fixed kind)) = outside (λ n w here behind. elim n as (λ k. branch_read (at_kind (plain_by kept (below kept k) w) (plain (fixed kind))) here behind ≡ fault Syntax here) [ zero ↦ refl | suc k ↦ refl ])
  sorted (plain (number k)) = outside (λ n w here behind. refl)
  sorted (plain (name k)) = outside (λ n w here behind. refl)
  sorted (plain (label k)) = outside (λ n w here behind. refl)
  sorted (plain (drawn k)) = outside (λ n w here behind. refl)
  sorted (refused k kind) = outside (λ n w here behind. refl)
