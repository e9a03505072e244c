-- A grammar that asks less, where it is one of marks or has two sides.
use Rattle.std.proofs.Common.{◌≡◌, inl, inr, ℕ, ◌<◌, ◌≤◌, Bool, true, false, List, length, cond, Result, Ok, Err, refl, sym, ap, subst, ◌∙◌, length-append, arith}
use Rattle.std.specs.Prelude.{nat_lt}
use Rattle.std.proofs.lemmas.Bool.{ltb-true}
use Rattle.tv_grammar.specs.Reads.{Fault, faulty, fault}
use Rattle.tv_grammar.specs.Exact.{Exact}
use Rattle.tv_grammar.specs.Faults.{Below, AfterFault, Follows, Loosens}
use Rattle.tv_reading.specs.Marks.{Kind, Syntax, Mark}
use Rattle.tv_reading.specs.SumGrammar as sums
use Rattle.tv_formula_reader.specs.Seen.{Seen, marks}
use Rattle.tv_formula_reader.specs.Choice.{Grammar, last, lifted_read, lifted, further, or_further, either_read, either}
use Rattle.tv_formula_reader.proofs.ChoiceLemmas.{length-marks, length-last, Halts, IsOther, is_other, other_kept, first_further, second_further, shorter_not}

-- ---- a grammar of marks

lifted_below : {X : Type 0} (ts : List Seen) (n : ℕ) → n ≤ length ts → (out : Result (X × List Mark) (Fault Mark Kind)) → Below n out → Below (length (last n ts)) (lifted_read ts out)
lifted_below ts n l (Ok x) h = omega (arith, length-last ts n l, length-last ts (length x.1) (omega arith))
lifted_below ts n l (Err (faulty k s)) h = omega (arith, length-last ts n l, length-last ts (length s) (omega arith))

lifted_after : {X : Type 0} (b : Bool) (ts : List Seen) (k : Kind) (r : List Mark) → length r ≤ length ts → (out : Result (X × List Mark) (Fault Mark Kind)) → AfterFault b k r out → AfterFault b k (last (length r) ts) (lifted_read ts out)
lifted_after true ts k r l out h = ap (lifted_read ts) h
lifted_after false ts k r l out h = lifted_below ts (length r) l out h

lifted_follows : {X : Type 0} (kept : Kind → Bool) (ts : List Seen) (r out : Result (X × List Mark) (Fault Mark Kind)) → ((k : Kind) (s : List Mark) → r ≡ fault k s → length s ≤ length ts) → Follows kept r out → Follows kept (lifted_read ts r) (lifted_read ts out)
lifted_follows kept ts (Ok x) out l h = ap (lifted_read ts) h
lifted_follows kept ts (Err (faulty k s)) out l h = lifted_after (kept k) ts k s (l k s refl) out h

pub lifted_loose : {X : Type 0} (kept : Kind → Bool) (l m : sums.Grammar X) → Exact l → Loosens kept l m → Loosens kept (lifted l) (lifted m)
lifted_loose kept l m e h = record { at = λ ts. lifted_follows kept ts (l.read (marks ts)) (m.read (marks ts)) (λ k s is. let f = e.least (marks ts) k s is in omega (arith, ap length f.parts, length-append f.before s, length-marks ts)) (h.at (marks ts)) }

-- ---- two grammars

-- the second is at fault before the first by its grammar alone
abbrev pub Together : {X : Type 0} → Grammar X → Grammar X → Type 0
Together a b = (ts r : List Seen) (k : Kind) (u : List Seen) → a.read ts ≡ fault Syntax r → b.read ts ≡ fault k u → length r < length u → k ≡ Syntax

module _ {X : Type 0} (kept : Kind → Bool) (syntax : kept Syntax ≡ true) (a b a' b' : Grammar X) (h : Loosens kept a a') (i : Loosens kept b b') (eb : Exact b') (halts : (d : b'.Of) (r : List Seen) → Halts a' (b'.text d r) r) (together : Together a b) where
  -- what the second reads ends no further on than where the first is at fault
  ends_before : (ts s : List Seen) (x : X) (r : List Seen) → a'.read ts ≡ fault Syntax s → b'.read ts ≡ Ok (x, r) → length r ≤ length s
  ends_before ts s x r e f =
      let g = eb.found ts x r f in
      let w = halts g.it r in
      let same : fault {X = X × List Seen} Syntax s ≡ fault Syntax w.at = sym e ∙ ap a'.read g.text ∙ w.stops in
      let at : s ≡ w.at = cc in
      omega (arith, w.within, ap length at)

  further_below : (n : ℕ) (s : List Seen) (j : Kind) (u : List Seen) → length s < n → Below n (further {X = X × List Seen} s j u)
  further_below n s j u l = by (nat_lt (length s) (length u)) refl
    where
      by : (t : Bool) → nat_lt (length s) (length u) ≡ t → Below n (cond t (fault {X = X × List Seen} Syntax s) (fault j u))
      by true e = l
      by false e = omega (arith, shorter_not (length s) (length u) e)

  past_first : (ts : List Seen) (n : ℕ) (s : List Seen) → a'.read ts ≡ fault Syntax s → length s < n → Below n (or_further s (b'.read ts))
  past_first ts n s e l = by (b'.read ts) refl
    where
      by : (out : Result (X × List Seen) (Fault Seen Kind)) → b'.read ts ≡ out → Below n (or_further s out)
      by (Ok y) f = omega (arith, ends_before ts s y.0 y.1 e f)
      by (Err (faulty j u)) f = further_below n s j u l

  -- the first has gone past its fault
  past : (ts : List Seen) (n : ℕ) (out : Result (X × List Seen) (Fault Seen Kind)) → a'.read ts ≡ out → Below n out → Below n (either_read out (b'.read ts))
  past ts n (Ok x) e l = l
  past ts n (Err (faulty j s)) e l = elim (is_other j) [
    | inl same ↦ subst (λ (q : Kind). Below n (either_read (fault q s) (b'.read ts))) (sym same) (past_first ts n s (e ∙ ap (λ (q : Kind). fault q s) same) l)
    | inr other ↦ rw (other_kept j other s (b'.read ts)) l
  ]

  other_after : (ts : List Seen) (t : Bool) (k : Kind) (r : List Seen) → IsOther k → AfterFault t k r (a'.read ts) → AfterFault t k r (either_read (a'.read ts) (b'.read ts))
  other_after ts true k r n w = rw w (other_kept k n r (b'.read ts))
  other_after ts false k r n w = past ts (length r) (a'.read ts) refl w

  -- the second has gone past its fault, which is at that of the first or further on
  second_past : (r u : List Seen) → length u ≤ length r → (out : Result (X × List Seen) (Fault Seen Kind)) → Below (length u) out → Below (length u) (or_further r out)
  second_past r u l (Ok y) w = w
  second_past r u l (Err (faulty j v)) w = rw (second_further {X = X × List Seen} r j v (omega arith)) w

  second_after : (ts : List Seen) (t : Bool) (r : List Seen) (k : Kind) (u : List Seen) → length u ≤ length r → AfterFault t k u (b'.read ts) → AfterFault t k u (or_further r (b'.read ts))
  second_after ts true r k u l w = rw w (second_further {X = X × List Seen} r k u l)
  second_after ts false r k u l w = second_past r u l (b'.read ts) w

  first_after : (t : Bool) → t ≡ true → (r : List Seen) (out : Result (X × List Seen) (Fault Seen Kind)) → out ≡ fault Syntax r → AfterFault t Syntax r out
  first_after true e r out w = w
  first_after false e r out w = absurd cc

  both_follow : (ts r : List Seen) → a.read ts ≡ fault Syntax r → Follows kept (or_further r (b.read ts)) (or_further r (b'.read ts))
  both_follow ts r e = by (b.read ts) refl (i.at ts)
    where
      still : (k : Kind) (u : List Seen) → b.read ts ≡ fault k u → length r < length u → AfterFault (kept k) k u (b'.read ts) → or_further r (b'.read ts) ≡ fault Syntax r
      still k u f l w =
          let kind : k ≡ Syntax = together ts r k u e f l in
          let same : b'.read ts ≡ fault k u = subst (λ (t : Bool). AfterFault t k u (b'.read ts)) (ap kept kind ∙ syntax) w in
          rw same (first_further {X = X × List Seen} r k u l)

      at : (k : Kind) (u : List Seen) → b.read ts ≡ fault k u → (t : Bool) → nat_lt (length r) (length u) ≡ t → AfterFault (kept k) k u (b'.read ts) → Follows kept (cond t (fault {X = X × List Seen} Syntax r) (fault k u)) (or_further r (b'.read ts))
      at k u f true l w = first_after (kept Syntax) syntax r (or_further r (b'.read ts)) (still k u f (ltb-true (length r) (length u) l) w)
      at k u f false l w = second_after ts (kept k) r k u (shorter_not (length r) (length u) l) w

      by : (out : Result (X × List Seen) (Fault Seen Kind)) → b.read ts ≡ out → Follows kept out (b'.read ts) → Follows kept (or_further r out) (or_further r (b'.read ts))
      by (Ok y) f w = rw w refl
      by (Err (faulty k u)) f w = at k u f (nat_lt (length r) (length u)) refl w

  pub either_loose : Loosens kept (either a b) (either a' b')
  either_loose = record { at = λ ts. by ts (a.read ts) refl (h.at ts) }
    where
      by : (ts : List Seen) (out : Result (X × List Seen) (Fault Seen Kind)) → a.read ts ≡ out → Follows kept out (a'.read ts) → Follows kept (either_read out (b.read ts)) (either_read (a'.read ts) (b'.read ts))
      by ts (Ok x) e w = rw w refl
      by ts (Err (faulty k r)) e w = elim (is_other k) [
        | inl same ↦
            let here : a'.read ts ≡ fault Syntax r = subst (λ (t : Bool). AfterFault t Syntax r (a'.read ts)) syntax (subst (λ (q : Kind). AfterFault (kept q) q r (a'.read ts)) same w) in
            subst (λ (q : Kind). Follows kept (either_read (fault q r) (b.read ts)) (either_read (a'.read ts) (b'.read ts))) (sym same)
            (subst (λ (o : Result (X × List Seen) (Fault Seen Kind)). Follows kept (or_further r (b.read ts)) (either_read o (b'.read ts))) (sym here) (both_follow ts r (e ∙ ap (λ (q : Kind). fault q r) same)))
        | inr other ↦ subst (λ (o : Result (X × List Seen) (Fault Seen Kind)). Follows kept o (either_read (a'.read ts) (b'.read ts))) (sym (other_kept k other r (b.read ts))) (other_after ts (kept k) k r other w)
      ]
