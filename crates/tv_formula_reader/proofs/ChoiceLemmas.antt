-- A grammar of marks as one of tokens, and two grammars side by side, are read exactly.
use Rattle.std.proofs.Common.{◌≡◌, ◌⊎◌, inl, inr, ℕ, zero, suc, ◌-◌, ◌<◌, ◌≤◌, Bool, true, false, List, [], ◌∷◌, ◌++◌, map, length, drop, cond, Option, Result, Ok, Err, refl, sym, ap, subst, ◌∙◌, append_assoc, length-append, length-drop, arith}
use Rattle.std.proofs.lemmas.List.{append-nil}
use Rattle.std.proofs.lemmas.Bool.Decides.{nat_tests}
use Rattle.std.specs.Prelude.{nat_lt}
use Rattle.std.proofs.lemmas.Bool.{lt-ltb, ltb-true}
use Rattle.tv_grammar.specs.Reads.{Fault, faulty, fault, next}
use Rattle.tv_grammar.specs.Exact.{Found, Least, Exact, Outside}
use Rattle.tv_grammar.proofs.Results.{ok_is, next_same}
use Rattle.tv_grammar.proofs.ExactLemmas.{apart}
use Rattle.tv_reading.specs.Marks.{Kind, Syntax, Wide, Deep, NotLinear, TwoStarts, TooMany, UnknownName, Mark}
use Rattle.tv_reading.specs.SumGrammar as sums
use Rattle.tv_formula_reader.specs.Seen.{Seen, marks}
use Rattle.tv_formula_reader.specs.Choice.{Grammar, mark_at, last, lifted_read, Marked, lifted, OfEither, further, or_further, either_read, either}

-- ---- lists

pub marks-append : (a b : List Seen) → marks (a ++ b) ≡ marks a ++ marks b
marks-append [] b = refl
marks-append (t ∷ a) b = ap (λ (ms : List Mark). t.mark ∷ ms) (marks-append a b)

pub length-marks : (ts : List Seen) → length (marks ts) ≡ length ts
length-marks [] = refl
length-marks (t ∷ ts) = ap suc (length-marks ts)

pub next-marks : (ts : List Seen) → mark_at (next ts) ≡ next (marks ts)
next-marks [] = refl
next-marks (t ∷ ts) = refl

drop_front : {T : Type 0} (a b : List T) (n : ℕ) → n ≡ length a → drop n (a ++ b) ≡ b
drop_front [] b n e = rw e refl
drop_front (x ∷ a) b zero e = absurd (omega arith)
drop_front (x ∷ a) b (suc n) e = drop_front a b n (omega arith)

pub last_of : {T : Type 0} (a b : List T) (n : ℕ) → n ≡ length b → last n (a ++ b) ≡ b
last_of a b n e = drop_front a b (length (a ++ b) - n) (omega (arith, length-append a b))

pub last_all : {T : Type 0} (ts : List T) → last (length ts) ts ≡ ts
last_all ts = last_of [] ts (length ts) refl

pub last_behind : {T : Type 0} (t : T) (ts : List T) (n : ℕ) → n ≤ length ts → last n (t ∷ ts) ≡ last n ts
last_behind {T} t ts n l = by (length (t ∷ ts) - n) (omega arith)
  where
    by : (k : ℕ) → k ≡ suc (length ts - n) → drop k (t ∷ ts) ≡ drop (length ts - n) ts
    by k e = rw e refl

pub length-last : {T : Type 0} (ts : List T) (n : ℕ) → n ≤ length ts → length (last n ts) ≡ n
length-last ts n l = length-drop (length ts - n) ts ∙ omega arith

-- tokens in two parts, as their marks
pub record Parted (ts : List Seen) (u v : List Mark) : Type 0 where
  pub front : List Seen
  pub back : List Seen
  pub parts : ts ≡ front ++ back
  pub fronts : marks front ≡ u
  pub backs : marks back ≡ v

pub parted : (ts : List Seen) (u v : List Mark) → marks ts ≡ u ++ v → Parted ts u v
parted ts [] v e = record { front = []; back = ts; parts = refl; fronts = refl; backs = e }
parted [] (m ∷ u) v e = absurd cc
parted (t ∷ ts) (m ∷ u) v e =
    let w = parted ts u v cc in
    let same : t.mark ≡ m = cc in
    record { front = t ∷ w.front; back = w.back; parts = ap (λ (us : List Seen). t ∷ us) w.parts; fronts = rw (same, w.fronts) refl; backs = w.backs }

-- the back is the last of the tokens
pub last_back : (ts : List Seen) (u v : List Mark) (w : Parted ts u v) → last (length v) ts ≡ w.back
last_back ts u v w = rw w.parts (last_of w.front w.back (length v) (ap length (sym w.backs) ∙ length-marks w.back))

-- two lists in two parts each
pub record Longer {T : Type 0} (p q s u : List T) : Type 0 where
  pub between : List T
  pub behind : u ≡ between ++ s
  pub before : p ≡ q ++ between

same_cons : {T : Type 0} (x y : T) (p q : List T) → x ≡ y → p ≡ q → x ∷ p ≡ y ∷ q
same_cons x y p q e f = rw (e, f) refl

pub longer : {T : Type 0} (p q s u : List T) → p ++ s ≡ q ++ u → length s ≤ length u → Longer p q s u
longer p [] s u e l = record { between = p; behind = sym e; before = refl }
longer [] (x ∷ q) s u e l = absurd (omega (arith, ap length e, length-append q u))
longer (y ∷ p) (x ∷ q) s u e l =
    let w = longer p q s u (cc) l in
    let same : y ≡ x = cc in
    record { between = w.between; behind = w.behind; before = same_cons y x p (q ++ w.between) same w.before }

same_fault : {X : Type 0} (j k : Kind) (r s : List Seen) → j ≡ k → r ≡ s → fault {X = X × List Seen} j r ≡ fault k s
same_fault j k r s e f = rw (e, f) refl

-- ---- a grammar of marks

pub of_mark : Mark → Seen
of_mark m = record { mark = m; label = m; word = [] }

marks_of : (ms : List Mark) → marks (map of_mark ms) ≡ ms
unfolding of_mark
marks_of [] = refl
marks_of (m ∷ ms) = ap (λ (ns : List Mark). m ∷ ns) (marks_of ms)

module _ {X : Type 0} (l : sums.Grammar X) (h : Exact l) where
  lifted_only : (d : Marked l) (r : List Seen) → l.goes_on d.of (mark_at (next r)) ≡ false → (lifted l).read (d.tokens ++ r) ≡ Ok (l.value d.of, r)
  lifted_only d r s =
      let goes : l.goes_on d.of (next (marks r)) ≡ false = ap (l.goes_on d.of) (sym (next-marks r)) ∙ s in
      let text : marks (d.tokens ++ r) ≡ l.text d.of (marks r) = marks-append d.tokens r ∙ ap (λ (ms : List Mark). ms ++ marks r) d.same ∙ sym (apart l h d.of (marks r)) in
      ap (λ (ms : List Mark). lifted_read (d.tokens ++ r) (l.read ms)) text
      ∙ ap (lifted_read (d.tokens ++ r)) (h.only d.of (marks r) goes)
      ∙ ap (λ (us : List Seen). Ok (l.value d.of, us)) (last_of d.tokens r (length (marks r)) (length-marks r))

  lifted_found : (ts : List Seen) (x : X) (r : List Seen) → (lifted l).read ts ≡ Ok (x, r) → Found (lifted l) ts x r
  lifted_found ts x r e = by (l.read (marks ts)) refl e
    where
      by : (out : Result (X × List Mark) (Fault Mark Kind)) → l.read (marks ts) ≡ out → lifted_read ts out ≡ Ok (x, r) → Found (lifted l) ts x r
      by (Ok y) is i =
          let f = h.found (marks ts) y.0 y.1 is in
          let p = parted ts (l.text f.it []) y.1 (f.text ∙ apart l h f.it y.1) in
          let both = ok_is {E = Fault Seen Kind} (y.0, last (length y.1) ts) (x, r) i in
          let back : r ≡ p.back = sym (ap (λ (q : X × List Seen). q.1) both) ∙ last_back ts (l.text f.it []) y.1 p in
          record {
            it = record { of = f.it; tokens = p.front; same = p.fronts };
            text = p.parts ∙ ap (λ (us : List Seen). p.front ++ us) (sym back);
            is = f.is ∙ ap (λ (q : X × List Seen). q.0) both;
            stops = ap (λ (us : List Seen). l.goes_on f.it (mark_at (next us))) back ∙ ap (l.goes_on f.it) (next-marks p.back ∙ ap next p.backs) ∙ f.stops;
          }
      by (Err (faulty k s)) is i = absurd cc

  lifted_least : (ts : List Seen) (k : Kind) (r : List Seen) → (lifted l).read ts ≡ fault k r → Least (lifted l) k ts r
  lifted_least ts k r e = by (l.read (marks ts)) refl e
    where
      by : (out : Result (X × List Mark) (Fault Mark Kind)) → l.read (marks ts) ≡ out → lifted_read ts out ≡ fault k r → Least (lifted l) k ts r
      by (Ok y) is i = absurd cc
      by (Err (faulty j s)) is i =
          let kind : j ≡ k = cc in
          let left : last (length s) ts ≡ r = cc in
          let f = h.least (marks ts) j s is in
          let p = parted ts f.before s f.parts in
          let back : r ≡ p.back = sym left ∙ last_back ts f.before s p in
          record {
            before = p.front;
            parts = p.parts ∙ ap (λ (us : List Seen). p.front ++ us) (sym back);
            again = λ other same.
                let first : next (marks other) ≡ next s = sym (next-marks other) ∙ ap mark_at (same ∙ ap next back) ∙ next-marks p.back ∙ ap next p.backs in
                let text : marks (p.front ++ other) ≡ f.before ++ marks other = marks-append p.front other ∙ ap (λ (ms : List Mark). ms ++ marks other) p.fronts in
                ap (λ (ms : List Mark). lifted_read (p.front ++ other) (l.read ms)) text
                ∙ ap (lifted_read (p.front ++ other)) (f.again (marks other) first)
                ∙ same_fault j k (last (length (marks other)) (p.front ++ other)) other kind (last_of p.front other (length (marks other)) (length-marks other));
            it = record { of = f.it; tokens = p.front ++ map of_mark f.more; same = marks-append p.front (map of_mark f.more) ∙ rw (p.fronts, marks_of f.more) (sym f.whole) };
            more = map of_mark f.more;
            whole = append-nil (p.front ++ map of_mark f.more);
          }

  pub lifted_exact : Exact (lifted l)
  lifted_exact = record {
    some = record { of = h.some; tokens = map of_mark (l.text h.some []); same = marks_of (l.text h.some []) };
    append = λ d a c. sym (append_assoc d.tokens a c);
    only = lifted_only;
    found = lifted_found;
    least = lifted_least;
  }

-- ---- two grammars

-- the first is at fault by its grammar, no further on than what stands before rest
pub record Halts {X : Type 0} (l : Grammar X) (ts rest : List Seen) : Type 0 where
  pub at : List Seen
  pub stops : l.read ts ≡ fault Syntax at
  pub within : length rest ≤ length at

abbrev pub IsOther : Kind → Type 0
IsOther k = k ≡ Syntax → ⊥

pub is_other : (k : Kind) → (k ≡ Syntax) ⊎ IsOther k
is_other Syntax = inl refl
is_other Wide = inr (λ e. cc)
is_other Deep = inr (λ e. cc)
is_other NotLinear = inr (λ e. cc)
is_other TwoStarts = inr (λ e. cc)
is_other TooMany = inr (λ e. cc)
is_other UnknownName = inr (λ e. cc)

pub other_kept : {X : Type 0} (k : Kind) → IsOther k → (s : List Seen) (out : Result (X × List Seen) (Fault Seen Kind)) → either_read (fault k s) out ≡ fault k s
other_kept Syntax n s out = absurd (n refl)
other_kept Wide n s out = refl
other_kept Deep n s out = refl
other_kept NotLinear n s out = refl
other_kept TwoStarts n s out = refl
other_kept TooMany n s out = refl
other_kept UnknownName n s out = refl

not_shorter : (m n : ℕ) → n ≤ m → nat_lt m n ≡ false
not_shorter m n l = grind (arith, nat_tests)

pub shorter_not : (m n : ℕ) → nat_lt m n ≡ false → n ≤ m
shorter_not m n e = grind (arith, nat_tests)

pub first_further : {X : Type 0} (r : List Seen) (k : Kind) (s : List Seen) → length r < length s → further {X = X} r k s ≡ fault Syntax r
first_further r k s l = rw (lt-ltb (length r) (length s) l) refl

pub second_further : {X : Type 0} (r : List Seen) (k : Kind) (s : List Seen) → length s ≤ length r → further {X = X} r k s ≡ fault k s
second_further r k s l = rw (not_shorter (length r) (length s) l) refl

some_next : {T : Type 0} (a r s : List T) → length r < length (a ++ r) → next (a ++ s) ≡ next (a ++ r)
some_next [] r s l = absurd (omega arith)
some_next (t ∷ a) r s l = refl

module _ {X : Type 0} (a b : Grammar X) (h : Exact a) (i : Exact b) (halts : (d : b.Of) (r : List Seen) → Halts a (b.text d r) r) where
  either_append : (d : OfEither a b) (u v : List Seen) → (either a b).text d (u ++ v) ≡ (either a b).text d u ++ v
  either_append (inl d) u v = h.append d u v
  either_append (inr d) u v = i.append d u v

  either_only : (d : OfEither a b) (r : List Seen) → (either a b).goes_on d (next r) ≡ false → (either a b).read ((either a b).text d r) ≡ Ok ((either a b).value d, r)
  either_only (inl d) r s = rw (h.only d r s) refl
  either_only (inr d) r s = rw ((halts d r).stops, i.only d r s) refl

  second_found : (s : List Seen) (ts : List Seen) (x : X) (r : List Seen) → or_further s (b.read ts) ≡ Ok (x, r) → Found (either a b) ts x r
  second_found s ts x r e = by (b.read ts) refl e
    where
      no : (t : Bool) (k : Kind) (u : List Seen) → cond t (fault {X = X × List Seen} Syntax s) (fault k u) ≡ Ok (x, r) → ⊥
      no true k u f = cc
      no false k u f = cc

      by : (out : Result (X × List Seen) (Fault Seen Kind)) → b.read ts ≡ out → or_further s out ≡ Ok (x, r) → Found (either a b) ts x r
      by (Ok y) is f = let g = i.found ts x r (is ∙ f) in record { it = inr g.it; text = g.text; is = g.is; stops = g.stops }
      by (Err (faulty k u)) is f = absurd (no (nat_lt (length s) (length u)) k u f)

  either_found : (ts : List Seen) (x : X) (r : List Seen) → (either a b).read ts ≡ Ok (x, r) → Found (either a b) ts x r
  either_found ts x r e = by (a.read ts) refl e
    where
      by : (out : Result (X × List Seen) (Fault Seen Kind)) → a.read ts ≡ out → either_read out (b.read ts) ≡ Ok (x, r) → Found (either a b) ts x r
      by (Ok y) is f = let g = h.found ts x r (is ∙ f) in record { it = inl g.it; text = g.text; is = g.is; stops = g.stops }
      by (Err (faulty k s)) is f = elim (is_other k) [
        | inl same ↦ second_found s ts x r (subst (λ (j : Kind). either_read (fault j s) (b.read ts) ≡ Ok (x, r)) same f)
        | inr other ↦ let no : fault {X = X × List Seen} k s ≡ Ok (x, r) = sym (other_kept k other s (b.read ts)) ∙ f in absurd cc
      ]

  -- the fault of the first is further on
  first_least : (ts r : List Seen) (j : Kind) (u : List Seen) → a.read ts ≡ fault Syntax r → b.read ts ≡ fault j u → length r < length u → Least (either a b) Syntax ts r
  first_least ts r j u e f l =
      let g = h.least ts Syntax r e in
      let w = i.least ts j u f in
      let m = longer g.before w.before r u (sym g.parts ∙ w.parts) (omega arith) in
      record {
        before = g.before;
        parts = g.parts;
        again = λ other same.
            let first : next (m.between ++ other) ≡ next u = some_next m.between r other (omega (arith, ap length m.behind)) ∙ ap next (sym m.behind) in
            let second : b.read (g.before ++ other) ≡ fault j (m.between ++ other) = ap b.read (ap (λ (us : List Seen). us ++ other) m.before ∙ append_assoc w.before m.between other) ∙ w.again (m.between ++ other) first in
            let less : length other < length (m.between ++ other) = omega (arith, length-append m.between other, length-append m.between r, ap length m.behind) in
            rw (g.again other same, second) (first_further other j (m.between ++ other) less);
        it = inl g.it;
        more = g.more;
        whole = g.whole;
      }

  second_least : (ts r : List Seen) (j : Kind) (u : List Seen) → a.read ts ≡ fault Syntax r → b.read ts ≡ fault j u → length u ≤ length r → Least (either a b) j ts u
  second_least ts r j u e f l =
      let g = h.least ts Syntax r e in
      let w = i.least ts j u f in
      let m = longer w.before g.before u r (sym w.parts ∙ g.parts) l in
      record {
        before = w.before;
        parts = w.parts;
        again = λ other same.
            let first : next (m.between ++ other) ≡ next r = next_same m.between other u same ∙ ap next (sym m.behind) in
            let one : a.read (w.before ++ other) ≡ fault Syntax (m.between ++ other) = ap a.read (ap (λ (us : List Seen). us ++ other) m.before ∙ append_assoc g.before m.between other) ∙ g.again (m.between ++ other) first in
            rw (one, w.again other same) (second_further (m.between ++ other) j other (omega (arith, length-append m.between other)));
        it = inr w.it;
        more = w.more;
        whole = w.whole;
      }

  other_least : (ts : List Seen) (k : Kind) (r : List Seen) → IsOther k → a.read ts ≡ fault k r → Least (either a b) k ts r
  other_least ts k r n e =
      let g = h.least ts k r e in
      record { before = g.before; parts = g.parts; again = λ other same. rw (g.again other same) (other_kept k n other (b.read (g.before ++ other))); it = inl g.it; more = g.more; whole = g.whole }

  both_least : (ts s : List Seen) → a.read ts ≡ fault Syntax s → (k : Kind) (r : List Seen) → or_further s (b.read ts) ≡ fault k r → Least (either a b) k ts r
  both_least ts s e k r f = by (b.read ts) refl f
    where
      at : (j : Kind) (u : List Seen) → b.read ts ≡ fault j u → (t : Bool) → nat_lt (length s) (length u) ≡ t → cond t (fault {X = X × List Seen} Syntax s) (fault j u) ≡ fault k r → Least (either a b) k ts r
      at j u is true l g =
          let kind : Syntax ≡ k = cc in
          let left : s ≡ r = cc in
          subst (λ (q : Kind × List Seen). Least (either a b) q.0 ts q.1) (ap (λ (z : Kind). (z, s)) kind ∙ ap (λ (z : List Seen). (k, z)) left) (first_least ts s j u e is (ltb-true (length s) (length u) l))
      at j u is false l g =
          let kind : j ≡ k = cc in
          let left : u ≡ r = cc in
          subst (λ (q : Kind × List Seen). Least (either a b) q.0 ts q.1) (ap (λ (z : Kind). (z, u)) kind ∙ ap (λ (z : List Seen). (k, z)) left) (second_least ts s j u e is (shorter_not (length s) (length u) l))

      by : (out : Result (X × List Seen) (Fault Seen Kind)) → b.read ts ≡ out → or_further s out ≡ fault k r → Least (either a b) k ts r
      by (Ok y) is g = absurd cc
      by (Err (faulty j u)) is g = at j u is (nat_lt (length s) (length u)) refl g

  either_least : (ts : List Seen) (k : Kind) (r : List Seen) → (either a b).read ts ≡ fault k r → Least (either a b) k ts r
  either_least ts k r e = by (a.read ts) refl e
    where
      by : (out : Result (X × List Seen) (Fault Seen Kind)) → a.read ts ≡ out → either_read out (b.read ts) ≡ fault k r → Least (either a b) k ts r
      by (Ok y) is f = absurd cc
      by (Err (faulty j s)) is f = elim (is_other j) [
        | inl same ↦ both_least ts s (is ∙ ap (λ (q : Kind). fault q s) same) k r (subst (λ (q : Kind). either_read (fault q s) (b.read ts) ≡ fault k r) same f)
        | inr other ↦
            let this : fault {X = X × List Seen} j s ≡ fault k r = sym (other_kept j other s (b.read ts)) ∙ f in
            let kind : j ≡ k = cc in
            other_least ts k r (λ syntax. other (kind ∙ syntax)) (is ∙ this)
      ]

  pub either_exact : Exact (either a b)
  either_exact = record { some = inl h.some; append = either_append; only = either_only; found = either_found; least = either_least }

pub either_outside : {X : Type 0} (a b : Grammar X) (at : Option Seen → Bool) → Outside a at → Outside b at → Outside (either a b) at
either_outside a b at h i (inl d) t e = h d t e
either_outside a b at h i (inr d) t e = i d t e
