-- Where a sum and a plain formula both may begin, and both are at fault.
use Rattle.std.proofs.Common.{◌≡◌, ◌⊎◌, inl, inr, ℕ, zero, suc, ◌≤◌, Bool, true, false, List, [], ◌∷◌, length, Some, Result, Ok, Err, refl, sym, ap, subst, ◌∙◌, length-append, arith}
use Rattle.std.specs.Prelude.{nat_lt}
use Rattle.tv_language.specs.declared.token.TokenKind.TheVariants as kinds
use Rattle.tv_program.specs.Trees.{Expression}
use Rattle.tv_language.specs.Symbols.{fixed}
use Rattle.tv_formula.specs.Properties.{Property}
use Rattle.tv_grammar.specs.Reads.{Fault, faulty, ◌>>=◌, fault, next}
use Rattle.tv_grammar.specs.Langs.{then, headed_read}
use Rattle.tv_grammar.specs.Exact.{Exact}
use Rattle.tv_grammar.specs.Faults.{Below}
use Rattle.tv_grammar.proofs.ExactLemmas.{then_exact}
use Rattle.tv_grammar.proofs.LooseLemmas.{reach}
use Rattle.tv_reading.specs.Marks.{Kind, Syntax, Deep, Mark, plain}
use Rattle.tv_reading.specs.SumGrammar.{factor_at}
use Rattle.tv_formula_reader.specs.Seen.{Seen}
use Rattle.tv_formula_reader.specs.Choice.{Grammar, mark_at, either_read}
use Rattle.tv_formula_reader.specs.FormulaGrammar.{at_kind, closed, summed, related, comparison, plain_by, conjunction_from, conjunction_over, formula_from, plain_at, literal_at, formula_at, below}
use Rattle.tv_formula_reader.proofs.ChoiceLemmas.{is_other, other_kept, shorter_not}
use Rattle.tv_formula_reader.proofs.LooseChoice.{Together}
use Rattle.tv_formula_reader.proofs.SumHalts.{is_right_at, sum_opens, sum_unclosed, no_sum, too_deep, opening, beginning, outside, sorted}
use Rattle.tv_formula_reader.proofs.FormulaLemmas.{closed_exact, related_exact, summed_exact, conjunction_from_exact, conjunction_exact, formula_from_exact}
use Rattle.tv_formula_reader.proofs.FormulaExact.{plain_exact, plain_halts, literal_exact}

pub bind_assoc : {E A B C : Type 0} (r : Result A E) (f : A → Result B E) (g : B → Result C E) → ((r >>= f) >>= g) ≡ (r >>= λ x. f x >>= g)
bind_assoc (Ok x) f g = refl
bind_assoc (Err d) f g = refl

abbrev Answer : Type 0 → Type 0
Answer X = Result (X × List Seen) (Fault Seen Kind)

fault_kind : {X : Type 0} (j k : Kind) (r s : List Seen) → fault {X = X × List Seen} j r ≡ fault k s → j ≡ k
fault_kind j k r s e = cc

fault_left : {X : Type 0} (j k : Kind) (r s : List Seen) → fault {X = X × List Seen} j r ≡ fault k s → r ≡ s
fault_left j k r s e = cc

no_fault : {X : Type 0} (x : X) (r : List Seen) (k : Kind) (s : List Seen) → fault {X = X × List Seen} k s ≡ Ok (x, r) → ⊥
no_fault x r k s e = cc

module _ (kept : Kind → Bool) where
  pub plain_read : (n : ℕ) (ts : List Seen) → (plain_at kept n).read ts ≡ headed_read Syntax (λ t. at_kind (plain_by kept (below kept n) t.word) t.mark) ts
  unfolding plain_at
  plain_read zero ts = refl
  plain_read (suc n) ts = refl

  pub nothing_read : (n : ℕ) → (summed kept n).read [] ≡ fault Syntax []
  unfolding factor_at
  nothing_read zero = refl
  nothing_read (suc n) = refl

  -- a bracket, and a formula after it
  abbrev Inner : ℕ → Grammar Property
  Inner n = then (formula_at kept n) closed

  bracket_read : (n : ℕ) (t : Seen) (ts : List Seen) → t.mark ≡ plain (fixed kinds.LeftRound) → (plain_at kept (suc n)).read (t ∷ ts) ≡ (Inner n).read ts
  bracket_read n t ts m = plain_read (suc n) (t ∷ ts) ∙ rw m refl

  inner_fails : (n : ℕ) (ts : List Seen) (k : Kind) (r : List Seen) → (literal_at kept n).read ts ≡ fault k r → (Inner n).read ts ≡ fault k r
  inner_fails n ts k r e = rw e refl

  -- what follows a literal
  abbrev Behind : ℕ → Property → Grammar Property
  Behind n f = then (conjunction_from (literal_at kept n) f) (λ c. then (formula_from (conjunction_over (literal_at kept n)) c) closed)

  behind_exact : (n : ℕ) (f : Property) → Exact (Behind n f)
  behind_exact n f = then_exact (conjunction_from (literal_at kept n) f) (λ c. then (formula_from (conjunction_over (literal_at kept n)) c) closed) (conjunction_from_exact (literal_at kept n) (literal_exact kept n) f)
      (λ c. then_exact (formula_from (conjunction_over (literal_at kept n)) c) closed (formula_from_exact (conjunction_over (literal_at kept n)) (conjunction_exact (literal_at kept n) (literal_exact kept n)) c) closed_exact)

  inner_goes : (n : ℕ) (ts : List Seen) (f : Property) (v : List Seen) → (literal_at kept n).read ts ≡ Ok (f, v) → (Inner n).read ts ≡ (Behind n f).read v
  inner_goes n ts f v e = rw e (bind_assoc ((conjunction_from (literal_at kept n) f).read v) (λ x. (formula_from (conjunction_over (literal_at kept n)) x.0).read x.1) (λ x. (closed x.0).read x.1))

  -- a fault after a literal
  inner_behind : (n : ℕ) (ts : List Seen) (f : Property) (v : List Seen) (k : Kind) (u : List Seen) → (literal_at kept n).read ts ≡ Ok (f, v) → (Inner n).read ts ≡ fault k u → length u ≤ length v
  inner_behind n ts f v k u e is =
      let w = (behind_exact n f).least v k u (sym (inner_goes n ts f v e) ∙ is) in
      omega (arith, ap length w.parts, length-append w.before u)

  -- no relation is a bracket
  related_stops : (n : ℕ) (v : Expression) (s : List Seen) → is_right_at (mark_at (next s)) ≡ true → (related (summed kept n) v).read s ≡ fault Syntax s
  related_stops n v [] e = absurd cc
  related_stops n v (t ∷ s) e = by t.mark e
    where
      by : (m : Mark) → is_right_at (Some m) ≡ true → (related (summed kept n) v).read (record { mark = m; label = t.label; word = t.word } ∷ s) ≡ fault Syntax (record { mark = m; label = t.label; word = t.word } ∷ s)
      by (plain (fixed kinds.RightRound)) i = refl
      by _ i = absurd cc

  -- both sides are at fault by their grammar
  record Halted (n : ℕ) (ts : List Seen) : Type 0 where
    at : List Seen
    stops : (literal_at kept n).read ts ≡ fault Syntax at

  both_halt : (n : ℕ) (ts s u : List Seen) → (comparison kept n).read ts ≡ fault Syntax s → (plain_at kept n).read ts ≡ fault Syntax u → Halted n ts
  both_halt n ts s u e f = by (nat_lt (length s) (length u)) refl
    where
      by : (b : Bool) → nat_lt (length s) (length u) ≡ b → Halted n ts
      by true l = record { at = s; stops = rw (e, f, l) refl }
      by false l = record { at = u; stops = rw (e, f, l) refl }

  -- where a sum is read, no plain formula is
  pub record NoPlainAt (n : ℕ) (ts : List Seen) : Type 0 where
    pub at : List Seen
    pub stops : (plain_at kept n).read ts ≡ fault Syntax at

  pub sum_no_plain : (n : ℕ) (ts : List Seen) (e : Expression) (r : List Seen) → (summed kept n).read ts ≡ Ok (e, r) → NoPlainAt n ts
  sum_no_plain n [] e r is = absurd (no_fault e r Syntax [] (sym (nothing_read n) ∙ is))
  sum_no_plain zero (t ∷ ts) e r is = elim (sorted kept t.mark) [
    | opening m ↦ absurd (no_fault e r Deep (t ∷ ts) (sym (too_deep kept t ts m) ∙ is))
    | beginning h ↦ absurd (no_fault e r Syntax (t ∷ ts) (sym (no_sum kept zero t ts h) ∙ is))
    | outside h ↦ record { at = t ∷ ts; stops = plain_read zero (t ∷ ts) ∙ h zero t.word (t ∷ ts) ts }
  ]
  sum_no_plain (suc n) (t ∷ ts) e r is = elim (sorted kept t.mark) [
    | opening m ↦ inside m (λ v s f. sum_no_plain n ts v s f) ((summed kept n).read ts) refl
    | beginning h ↦ absurd (no_fault e r Syntax (t ∷ ts) (sym (no_sum kept (suc n) t ts h) ∙ is))
    | outside h ↦ record { at = t ∷ ts; stops = plain_read (suc n) (t ∷ ts) ∙ h (suc n) t.word (t ∷ ts) ts }
  ]
    where
      closes : t.mark ≡ plain (fixed kinds.LeftRound) → ((v : Expression) (s : List Seen) → (summed kept n).read ts ≡ Ok (v, s) → NoPlainAt n ts) → (v : Expression) (s : List Seen) → (summed kept n).read ts ≡ Ok (v, s) → (b : Bool) → is_right_at (mark_at (next s)) ≡ b → NoPlainAt (suc n) (t ∷ ts)
      closes m below v s f false i = absurd (no_fault e r Syntax s (sym (sum_unclosed kept n t ts v s m f i) ∙ is))
      closes m below v s f true i =
          let again = below v s f in
          let h = both_halt n ts s again.at (rw f (related_stops n v s i)) again.stops in
          record { at = h.at; stops = bracket_read n t ts m ∙ inner_fails n ts Syntax h.at h.stops }

      inside : t.mark ≡ plain (fixed kinds.LeftRound) → ((v : Expression) (s : List Seen) → (summed kept n).read ts ≡ Ok (v, s) → NoPlainAt n ts) → (out : Answer Expression) → (summed kept n).read ts ≡ out → NoPlainAt (suc n) (t ∷ ts)
      inside m below (Ok x) f = closes m below x.0 x.1 f (is_right_at (mark_at (next x.1))) refl
      inside m below (Err (faulty k s)) f = absurd (no_fault e r k s (sym (sum_opens kept n t ts k s m f) ∙ is))

  -- where a sum is at fault by its grammar, a plain formula is too, or further on
  abbrev NotBefore : Kind → List Seen → List Seen → Type 0
  NotBefore k u r = (k ≡ Syntax) ⊎ (length u ≤ length r)

  comparison_fails : (n : ℕ) (ts : List Seen) (k : Kind) (r : List Seen) → (summed kept n).read ts ≡ fault k r → (comparison kept n).read ts ≡ fault k r
  comparison_fails n ts k r e = rw e refl

  -- the sum in the bracket is at fault
  fault_inside : (n : ℕ) (ts r : List Seen) (k : Kind) (u : List Seen) → (summed kept n).read ts ≡ fault Syntax r → (Inner n).read ts ≡ fault k u → NotBefore k u r
  fault_inside n ts r k u e is = by ((plain_at kept n).read ts) refl
    where
      first : (comparison kept n).read ts ≡ fault Syntax r
      first = comparison_fails n ts Syntax r e

      at : (j : Kind) (v : List Seen) → (plain_at kept n).read ts ≡ fault j v → (b : Bool) → nat_lt (length r) (length v) ≡ b → NotBefore k u r
      at j v f true l = let h : (literal_at kept n).read ts ≡ fault Syntax r = rw (first, f, l) refl in inl (sym (fault_kind {X = Property} Syntax k r u (sym (inner_fails n ts Syntax r h) ∙ is)))
      at j v f false l = let h : (literal_at kept n).read ts ≡ fault j v = rw (first, f, l) refl in inr (omega (arith, shorter_not (length r) (length v) l, ap length (fault_left {X = Property} j k v u (sym (inner_fails n ts j v h) ∙ is))))

      by : (out : Answer Property) → (plain_at kept n).read ts ≡ out → NotBefore k u r
      by (Ok x) f =
          let h : (literal_at kept n).read ts ≡ Ok x = rw (first, f) refl in
          let g = (plain_exact kept n).found ts x.0 x.1 f in
          let w = plain_halts kept n g.it x.1 in
          let same = fault_left {X = Expression} Syntax Syntax r w.at (sym e ∙ ap (summed kept n).read g.text ∙ w.stops) in
          inr (omega (arith, inner_behind n ts x.0 x.1 k u h is, w.within, ap length same))
      by (Err (faulty j v)) f = at j v f (nat_lt (length r) (length v)) refl

  -- the sum in the bracket is read, and stands before something else than the bracket that closes it
  fault_behind : (n : ℕ) (ts : List Seen) (v : Expression) (s : List Seen) (k : Kind) (u : List Seen) → (summed kept n).read ts ≡ Ok (v, s) → (Inner n).read ts ≡ fault k u → NotBefore k u s
  fault_behind n ts v s k u e is = by ((related (summed kept n) v).read s) refl
    where
      whole : (comparison kept n).read ts ≡ (related (summed kept n) v).read s
      whole = rw e refl

      by : (out : Answer Property) → (related (summed kept n) v).read s ≡ out → NotBefore k u s
      by (Ok x) f =
          let h : (literal_at kept n).read ts ≡ Ok x = rw (whole, f) refl in
          let g = reach (related (summed kept n) v) (related_exact (summed kept n) (summed_exact kept n) v) s in
          let l : Below {K = Kind} (suc (length s)) (Ok x) = subst (λ (o : Answer Property). Below {K = Kind} (suc (length s)) o) f g in
          inr (omega (arith, inner_behind n ts x.0 x.1 k u h is, l))
      by (Err (faulty j x)) f = elim (is_other j) [
        | inl same ↦
            let again = sum_no_plain n ts v s e in
            let h = both_halt n ts x again.at (whole ∙ f ∙ ap (λ (q : Kind). fault q x) same) again.stops in
            inl (sym (fault_kind {X = Property} Syntax k h.at u (sym (inner_fails n ts Syntax h.at h.stops) ∙ is)))
        | inr other ↦
            let h : (literal_at kept n).read ts ≡ fault j x = ap (λ (o : Answer Property). either_read o ((plain_at kept n).read ts)) (whole ∙ f) ∙ other_kept j other x ((plain_at kept n).read ts) in
            let g = reach (related (summed kept n) v) (related_exact (summed kept n) (summed_exact kept n) v) s in
            let l : Below {K = Kind} (suc (length s)) (fault {X = Property × List Seen} j x) = subst (λ (o : Answer Property). Below {K = Kind} (suc (length s)) o) f g in
            inr (omega (arith, l, ap length (fault_left {X = Property} j k x u (sym (inner_fails n ts j x h) ∙ is))))
      ]

  not_before : (n : ℕ) (ts r : List Seen) (k : Kind) (u : List Seen) → (summed kept n).read ts ≡ fault Syntax r → (plain_at kept n).read ts ≡ fault k u → NotBefore k u r
  not_before n [] r k u e f = inl (sym (fault_kind {X = Property} Syntax k [] u (sym (plain_read n []) ∙ f)))
  not_before n (t ∷ ts) r k u e f = elim (sorted kept t.mark) [
    | opening m ↦ by n m e f
    | beginning h ↦
        let w = (plain_exact kept n).least (t ∷ ts) k u f in
        inr (omega (arith, ap length w.parts, length-append w.before u, ap length (fault_left {X = Expression} Syntax Syntax (t ∷ ts) r (sym (no_sum kept n t ts h) ∙ e))))
    | outside h ↦ inl (sym (fault_kind {X = Property} Syntax k (t ∷ ts) u (sym (plain_read n (t ∷ ts) ∙ h n t.word (t ∷ ts) ts) ∙ f)))
  ]
    where
      closes : (n : ℕ) → t.mark ≡ plain (fixed kinds.LeftRound) → (summed kept (suc n)).read (t ∷ ts) ≡ fault Syntax r → (Inner n).read ts ≡ fault k u → (v : Expression) (s : List Seen) → (summed kept n).read ts ≡ Ok (v, s) → (b : Bool) → is_right_at (mark_at (next s)) ≡ b → NotBefore k u r
      closes n m i j v s g false c = elim (fault_behind n ts v s k u g j) [ inl same ↦ inl same | inr l ↦ inr (omega (arith, l, ap length (fault_left {X = Expression} Syntax Syntax s r (sym (sum_unclosed kept n t ts v s m g c) ∙ i)))) ]
      closes n m i j v s g true c =
          let again = sum_no_plain n ts v s g in
          let h = both_halt n ts s again.at (rw g (related_stops n v s c)) again.stops in
          inl (sym (fault_kind {X = Property} Syntax k h.at u (sym (inner_fails n ts Syntax h.at h.stops) ∙ j)))

      inside : (n : ℕ) → t.mark ≡ plain (fixed kinds.LeftRound) → (summed kept (suc n)).read (t ∷ ts) ≡ fault Syntax r → (Inner n).read ts ≡ fault k u → (out : Answer Expression) → (summed kept n).read ts ≡ out → NotBefore k u r
      inside n m i j (Ok x) g = closes n m i j x.0 x.1 g (is_right_at (mark_at (next x.1))) refl
      inside n m i j (Err (faulty q s)) g =
          let same : fault {X = Expression × List Seen} q s ≡ fault Syntax r = sym (sum_opens kept n t ts q s m g) ∙ i in
          let left = fault_left {X = Expression} q Syntax s r same in
          subst (λ (x : List Seen). NotBefore k u x) left (fault_inside n ts s k u (g ∙ ap (λ (z : Kind). fault z s) (fault_kind {X = Expression} q Syntax s r same)) j)

      by : (n : ℕ) → t.mark ≡ plain (fixed kinds.LeftRound) → (summed kept n).read (t ∷ ts) ≡ fault Syntax r → (plain_at kept n).read (t ∷ ts) ≡ fault k u → NotBefore k u r
      by zero m i j = let no = fault_kind {X = Expression} Deep Syntax (t ∷ ts) r (sym (too_deep kept t ts m) ∙ i) in absurd cc
      by (suc n) m i j = inside n m i (sym (bracket_read n t ts m) ∙ j) ((summed kept n).read ts) refl

  pub together : (n : ℕ) → Together (comparison kept n) (plain_at kept n)
  together n ts r k u e f l = by ((summed kept n).read ts) refl
    where
      by : (out : Answer Expression) → (summed kept n).read ts ≡ out → k ≡ Syntax
      by (Ok x) g = let again = sum_no_plain n ts x.0 x.1 g in sym (fault_kind {X = Property} Syntax k again.at u (sym again.stops ∙ f))
      by (Err (faulty j s)) g =
          let same : fault {X = Property × List Seen} j s ≡ fault Syntax r = sym (comparison_fails n ts j s g) ∙ e in
          elim (not_before n ts s k u (g ∙ ap (λ (z : Kind). fault z s) (fault_kind {X = Property} j Syntax s r same)) f) [
            | inl is ↦ is
            | inr le ↦ absurd (omega (arith, le, ap length (fault_left {X = Property} j Syntax s r same)))
          ]
