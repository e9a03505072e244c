-- Turns keep that they are read exactly.
use Rattle.std.proofs.Common.{◌≡◌, ℕ, zero, suc, ◌<◌, ◌≤◌, false, List, [], ◌∷◌, ◌++◌, length, Result, Ok, refl, sym, ap, ◌∙◌, length-append, arith, inl, inr, ◌⊎◌}
use Rattle.tv_grammar.specs.Reads.{Fault, faulty, Read, fault, next, first_or}
use Rattle.tv_grammar.specs.Langs.{Branch, stop, go, OfBranch, branch_text, branch_value, branch_goes_on, is_go, Turns, done, turn, turns_text, turns_value, turns_go_on, goes_at, turn_read, turns_read, turns}
use Rattle.tv_grammar.specs.Exact.{Exact, ExactBranch}
use Rattle.tv_grammar.proofs.Results.{bind_ok, bind_err, ok_is, clash, next-append, next_same}
use Rattle.tv_grammar.proofs.ExactLemmas.{branch_append}
use Rattle.std.proofs.lemmas.Bool.{or_from, or_parts}

turn_only : {T K S : Type 0} (b : Branch T K S) → ExactBranch b → (again : S → Read T K S) (s : S) (d : OfBranch b) (here us : List T) → branch_goes_on b d (next us) ≡ false → turn_read b again s here (branch_text b d us) ≡ again (branch_value b d) us
turn_only (stop k) h again s d here us n = absurd d
turn_only (go l) h again s d here us n = rw (h.only d us n) refl

turn_ends : {T K S : Type 0} (b : Branch T K S) (again : S → Read T K S) (s : S) (here us : List T) → is_go b ≡ false → turn_read b again s here us ≡ Ok (s, here)
turn_ends (stop k) again s here us n = refl
turn_ends (go l) again s here us n = absurd cc

record GoesOn {T K S : Type 0} (b : Branch T K S) (again : S → Read T K S) (us : List T) (out : Result (S × List T) (Fault T K)) : Type 0 where
  it : OfBranch b
  left : List T
  text : us ≡ branch_text b it left
  stops : branch_goes_on b it (next left) ≡ false
  then_reads : again (branch_value b it) left ≡ out

abbrev EndsHere : {T K S : Type 0} → Branch T K S → S → List T → S × List T → Type 0
EndsHere b s ts x = (is_go b ≡ false) × (s ≡ x.0) × (ts ≡ x.1)

turn_found : {T K S : Type 0} (b : Branch T K S) → ExactBranch b → (again : S → Read T K S) (s : S) (here us : List T) (x : S × List T) → turn_read b again s here us ≡ Ok x → EndsHere b s here x ⊎ GoesOn b again us (Ok x)
turn_found {T} {K} {S} (stop k) h again s here us x e = let is = ok_is {E = Fault T K} (s, here) x e in inl (refl, ap (λ (p : S × List T). p.0) is, ap (λ (p : S × List T). p.1) is)
turn_found {T} {K} {S} (go l) h again s here us x e =
    let y = bind_ok (l.read us) (λ y. again y.0 y.1) x e in
    let f = h.found us y.0.0 y.0.1 y.1 in
    inr (record { it = f.it; left = y.0.1; text = f.text; stops = f.stops; then_reads = ap (λ (v : S). again v y.0.1) f.is ∙ y.2 })

record Fails {T K S : Type 0} (b : Branch T K S) (k : K) (us r : List T) : Type 0 where
  before : List T
  parts : us ≡ before ++ r
  again : (more : S → Read T K S) (s : S) (here other : List T) → next other ≡ next r → turn_read b more s here (before ++ other) ≡ fault k other
  it : OfBranch b
  more : List T
  whole : branch_text b it [] ≡ before ++ more

turn_least : {T K S : Type 0} (b : Branch T K S) → ExactBranch b → (again : S → Read T K S) (s : S) (here us : List T) (k : K) (r : List T) → turn_read b again s here us ≡ fault k r → Fails b k us r ⊎ GoesOn b again us (fault k r)
turn_least (stop j) h again s here us k r e = absurd cc
turn_least {T} {K} {S} (go l) h again s here us k r e = elim (bind_err (l.read us) (λ y. again y.0 y.1) (faulty k r) e) [
  | inl x ↦ let f = h.least us k r x in inl (record { before = f.before; parts = f.parts; again = λ more s here other same. rw (f.again other same) refl; it = f.it; more = f.more; whole = f.whole })
  | inr y ↦
      let f = h.found us y.0.0 y.0.1 y.1 in
      inr (record { it = f.it; left = y.0.1; text = f.text; stops = f.stops; then_reads = ap (λ (v : S). again v y.0.1) f.is ∙ y.2 })
]

module _ {T K S : Type 0} (cases : S → T → Branch T K S) (h : (s : S) (t : T) → ExactBranch (cases s t)) where
  turns_append : (s : S) (d : Turns cases s) (u v : List T) → turns_text cases s d (u ++ v) ≡ turns_text cases s d u ++ v
  turns_append s done u v = refl
  turns_append s (turn t d ds) u v = ap (λ (r : List T). t ∷ r) (ap (branch_text (cases s t) d) (turns_append (branch_value (cases s t) d) ds u v) ∙ branch_append (cases s t) (h s t) d (turns_text cases (branch_value (cases s t) d) ds u) v)

  behind : (s : S) (d : Turns cases s) (r : List T) → next (turns_text cases s d r) ≡ first_or (turns_text cases s d []) (next r)
  behind s d r = ap next (turns_append s d [] r) ∙ next-append (turns_text cases s d []) r

  branch_long : (s : S) (t : T) (d : OfBranch (cases s t)) (r : List T) → length r ≤ length (branch_text (cases s t) d r)
  branch_long s t d r = omega (arith, ap length (branch_append (cases s t) (h s t) d [] r), length-append (branch_text (cases s t) d []) r)

  ends_at : (n : ℕ) (s : S) (r : List T) → goes_at (cases s) (next r) ≡ false → turns_read cases (suc n) s r ≡ Ok (s, r)
  unfolding turns_read
  ends_at n s [] off = refl
  ends_at n s (t ∷ us) off = turn_ends (cases s t) (turns_read cases n) s (t ∷ us) us off

  turns_only : (s : S) (d : Turns cases s) (n : ℕ) (r : List T) → turns_go_on cases s d (next r) ≡ false → length (turns_text cases s d r) < n → turns_read cases n s (turns_text cases s d r) ≡ Ok (turns_value cases s d, r)
  unfolding turns_read
  turns_only s d zero r off le = absurd (omega arith)
  turns_only s done (suc n) r off le = ends_at n s r off
  turns_only s (turn t d ds) (suc n) r off le =
      let us : List T = turns_text cases (branch_value (cases s t) d) ds r in
      let stops : branch_goes_on (cases s t) d (next us) ≡ false = ap (branch_goes_on (cases s t) d) (behind (branch_value (cases s t) d) ds r) ∙ (or_parts _ _ off).1 in
      turn_only (cases s t) (h s t) (turns_read cases n) s d (t ∷ branch_text (cases s t) d us) us stops ∙ turns_only (branch_value (cases s t) d) ds n r ((or_parts _ _ off).0) (omega (arith, branch_long s t d us))

  record TurnsFound (s : S) (ts : List T) (x : S × List T) : Type 0 where
    it : Turns cases s
    text : ts ≡ turns_text cases s it x.1
    is : turns_value cases s it ≡ x.0
    stops : turns_go_on cases s it (next x.1) ≡ false

  no_turn : (s : S) (ts : List T) (x : S × List T) → goes_at (cases s) (next ts) ≡ false → s ≡ x.0 → ts ≡ x.1 → TurnsFound s ts x
  no_turn s ts x off is at = record { it = done; text = at; is = is; stops = ap (λ (r : List T). goes_at (cases s) (next r)) (sym at) ∙ off }

  turns_found : (n : ℕ) (s : S) (ts : List T) (x : S × List T) → length ts < n → turns_read cases n s ts ≡ Ok x → TurnsFound s ts x
  unfolding turns_read
  turns_found zero s ts x le e = absurd (omega arith)
  turns_found (suc n) s [] x le e = let is = ok_is {E = Fault T K} (s, []) x e in no_turn s [] x refl (ap (λ (p : S × List T). p.0) is) (ap (λ (p : S × List T). p.1) is)
  turns_found (suc n) s (t ∷ us) x le e = elim (turn_found (cases s t) (h s t) (turns_read cases n) s (t ∷ us) us x e) [
    | inl w ↦ no_turn s (t ∷ us) x w.0 w.1 w.2
    | inr g ↦
        let f = turns_found n (branch_value (cases s t) g.it) g.left x (omega (arith, ap length g.text, branch_long s t g.it g.left)) g.then_reads in
        record {
          it = turn t g.it f.it;
          text = ap (λ (r : List T). t ∷ r) (g.text ∙ ap (branch_text (cases s t) g.it) f.text);
          is = f.is;
          stops = or_from _ _ f.stops (ap (branch_goes_on (cases s t) g.it) (sym (behind (branch_value (cases s t) g.it) f.it x.1) ∙ ap next (sym f.text)) ∙ g.stops);
        }
  ]

  record TurnsLeast (s : S) (k : K) (ts r : List T) : Type 0 where
    before : List T
    parts : ts ≡ before ++ r
    again : (other : List T) → next other ≡ next r → (n : ℕ) → length (before ++ other) < n → turns_read cases n s (before ++ other) ≡ fault k other
    it : Turns cases s
    more : List T
    whole : turns_text cases s it [] ≡ before ++ more

  fails : (s : S) (t : T) (k : K) (us r : List T) (f : Fails (cases s t) k us r) (other : List T) → next other ≡ next r → (n : ℕ) → length (t ∷ (f.before ++ other)) < n → turns_read cases n s (t ∷ (f.before ++ other)) ≡ fault k other
  unfolding turns_read
  fails s t k us r f other same zero le = absurd (omega arith)
  fails s t k us r f other same (suc n) le = f.again (turns_read cases n) s (t ∷ (f.before ++ other)) other same

  later : (s : S) (t : T) (k : K) (d : OfBranch (cases s t)) (left r : List T) → branch_goes_on (cases s t) d (next left) ≡ false → (f : TurnsLeast (branch_value (cases s t) d) k left r) (other : List T) → next other ≡ next r → (n : ℕ) → length (t ∷ (branch_text (cases s t) d f.before ++ other)) < n → turns_read cases n s (t ∷ (branch_text (cases s t) d f.before ++ other)) ≡ fault k other
  unfolding turns_read
  later s t k d left r off f other same zero le = absurd (omega arith)
  later s t k d left r off f other same (suc n) le =
      let b : Branch T K S = cases s t in
      let joined : branch_text b d (f.before ++ other) ≡ branch_text b d f.before ++ other = branch_append b (h s t) d f.before other in
      let stops : branch_goes_on b d (next (f.before ++ other)) ≡ false = ap (branch_goes_on b d) (next_same f.before other r same ∙ ap next (sym f.parts)) ∙ off in
      rw (← joined) (turn_only b (h s t) (turns_read cases n) s d (t ∷ branch_text b d (f.before ++ other)) (f.before ++ other) stops ∙ f.again other same n (omega (arith, ap length joined, branch_long s t d (f.before ++ other))))

  turns_least : (n : ℕ) (s : S) (ts : List T) (k : K) (r : List T) → length ts < n → turns_read cases n s ts ≡ fault k r → TurnsLeast s k ts r
  unfolding turns_read
  turns_least zero s ts k r le e = absurd (omega arith)
  turns_least (suc n) s [] k r le e = absurd (clash {A = S × List T} (s, []) (faulty k r) e)
  turns_least (suc n) s (t ∷ us) k r le e = elim (turn_least (cases s t) (h s t) (turns_read cases n) s (t ∷ us) us k r e) [
    | inl f ↦ record {
      before = t ∷ f.before;
      parts = ap (λ (r : List T). t ∷ r) f.parts;
      again = λ other same n le. fails s t k us r f other same n le;
      it = turn t f.it done;
      more = f.more;
      whole = ap (λ (r : List T). t ∷ r) f.whole;
    }
    | inr g ↦
        let v : S = branch_value (cases s t) g.it in
        let f = turns_least n v g.left k r (omega (arith, ap length g.text, branch_long s t g.it g.left)) g.then_reads in
        record {
          before = t ∷ branch_text (cases s t) g.it f.before;
          parts = ap (λ (r : List T). t ∷ r) (g.text ∙ ap (branch_text (cases s t) g.it) f.parts ∙ branch_append (cases s t) (h s t) g.it f.before r);
          again = λ other same n le. later s t k g.it g.left r g.stops f other same n le;
          it = turn t g.it f.it;
          more = f.more;
          whole = ap (λ (r : List T). t ∷ r) (ap (branch_text (cases s t) g.it) f.whole ∙ branch_append (cases s t) (h s t) g.it f.before f.more);
        }
  ]

  pub turns_exact : (s : S) → Exact (turns cases s)
  turns_exact s = record {
    some = done;
    append = turns_append s;
    only = λ d r off. turns_only s d (suc (length (turns_text cases s d r))) r off (omega arith);
    found = λ ts x r e. let f = turns_found (suc (length ts)) s ts (x, r) (omega arith) e in record { it = f.it; text = f.text; is = f.is; stops = f.stops };
    least = λ ts k r e. let f = turns_least (suc (length ts)) s ts k r (omega arith) e in record { before = f.before; parts = f.parts; again = λ other same. f.again other same (suc (length (f.before ++ other))) (omega arith); it = f.it; more = f.more; whole = f.whole };
  }
