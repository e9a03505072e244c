-- A part of what a grammar reads.
use Rattle.std.proofs.Common.{◌≡◌, suc, Bool, true, false, List, [], ◌++◌, length, Option, Some, None, Ok, refl, sym, ap, subst, ◌∙◌, append_assoc, arith, inl, inr}
use Rattle.std.proofs.lemmas.List.{append-nil}
use Rattle.tv_grammar.specs.Reads.{Fault, faulty, fault, next}
use Rattle.tv_grammar.specs.Langs.{Lang, Is, the, narrow, narrowed}
use Rattle.tv_grammar.specs.Exact.{Found, Least, Exact, Outside}
use Rattle.tv_grammar.specs.Faults.{Kinded, Below, Follows, AfterFault, Loosens}
use Rattle.tv_grammar.proofs.Results.{bind_ok, bind_err, ok_is}
use Rattle.tv_grammar.proofs.ExactLemmas.{apart}
use Rattle.tv_grammar.proofs.LooseLemmas.{follows_bind}

-- a text of l whose value is not taken begins one whose value is
pub record Extended {T K X Y : Type 0} (f : X → Option Y) (l : Lang T K X) (d : l.Of) : Type 0 where
  pub it : l.Of
  pub taken : Is (f (l.value it))
  pub more : List T
  pub text : l.text it [] ≡ l.text d [] ++ more

record Taken {T X : Type 0} (o : Option X) (r s : List T) (x : X) : Type 0 where
  is : Is o
  same : the o is ≡ x
  left : r ≡ s

narrow_ok : {T K X : Type 0} (k : K) (o : Option X) (r : List T) (x : X) (s : List T) → narrow k o r ≡ Ok (x, s) → Taken o r s x
narrow_ok k None r x s e = absurd cc
narrow_ok {T} {K} {X} k (Some y) r x s e = let is = ok_is {E = Fault T K} (y, r) (x, s) e in record { is = tt; same = ap (λ (p : X × List T). p.0) is; left = ap (λ (p : X × List T). p.1) is }

record Refused {T K X : Type 0} (k j : K) (o : Option X) (r s : List T) : Type 0 where
  none : o ≡ None
  kind : k ≡ j
  left : r ≡ s

narrow_err : {T K X : Type 0} (k : K) (o : Option X) (r : List T) (j : K) (s : List T) → narrow k o r ≡ fault j s → Refused k j o r s
narrow_err k None r j s e = record { none = refl; kind = cc; left = cc }
narrow_err k (Some y) r j s e = absurd cc

narrow_is : {T K X : Type 0} (k : K) (o : Option X) (d : Is o) (r : List T) → narrow k o r ≡ Ok (the o d, r)
narrow_is k None d r = absurd d
narrow_is k (Some x) d r = refl

narrow_none : {T K X : Type 0} (k : K) (o : Option X) → o ≡ None → (r : List T) → narrow k o r ≡ fault k r
narrow_none k o e r = rw e refl

is_along : {X Y : Type 0} (f : X → Option Y) (x y : X) → x ≡ y → (d : Is (f y)) → (c : Is (f x)) × (the (f x) c ≡ the (f y) d)
is_along {X} {Y} f x y e d = subst (λ (z : X). (c : Is (f z)) × (the (f z) c ≡ the (f y) d)) (sym e) (d, refl)

module _ {T K X Y : Type 0} (k : K) (f : X → Option Y) (l : Lang T K X) (h : Exact l) (some : (narrowed k f l).Of) (extends : (d : l.Of) → f (l.value d) ≡ None → Extended f l d) where
  narrowed_only : (d : (narrowed k f l).Of) (r : List T) → l.goes_on d.0 (next r) ≡ false → (narrowed k f l).read (l.text d.0 r) ≡ Ok ((narrowed k f l).value d, r)
  narrowed_only d r s = rw (h.only d.0 r s) (narrow_is k (f (l.value d.0)) d.1 r)

  narrowed_found : (ts : List T) (y : Y) (r : List T) → (narrowed k f l).read ts ≡ Ok (y, r) → Found (narrowed k f l) ts y r
  narrowed_found ts y r e =
      let x = bind_ok (l.read ts) (λ x. narrow k (f x.0) x.1) (y, r) e in
      let g = h.found ts x.0.0 x.0.1 x.1 in
      let w = narrow_ok k (f x.0.0) x.0.1 y r x.2 in
      let c = is_along f (l.value g.it) x.0.0 g.is w.is in
      record {
        it = (g.it, c.0);
        text = g.text ∙ ap (l.text g.it) w.left;
        is = c.1 ∙ w.same;
        stops = ap (λ (s : List T). l.goes_on g.it (next s)) (sym w.left) ∙ g.stops;
      }

  narrowed_least : (ts : List T) (j : K) (r : List T) → (narrowed k f l).read ts ≡ fault j r → Least (narrowed k f l) j ts r
  narrowed_least ts j r e = elim (bind_err (l.read ts) (λ x. narrow k (f x.0) x.1) (faulty j r) e) [
    | inl x ↦
        let g = h.least ts j r x in
        let b = begin g.it (f (l.value g.it)) refl in
        record {
          before = g.before;
          parts = g.parts;
          again = λ other same. rw (g.again other same) refl;
          it = b.0;
          more = g.more ++ b.1.0;
          whole = b.1.1 ∙ ap (λ (us : List T). us ++ b.1.0) g.whole ∙ append_assoc g.before g.more b.1.0;
        }
    | inr x ↦
        let g = h.found ts x.0.0 x.0.1 x.1 in
        let w = narrow_err k (f x.0.0) x.0.1 j r x.2 in
        let b = extends g.it (ap f g.is ∙ w.none) in
        record {
          before = l.text g.it [];
          parts = g.text ∙ ap (l.text g.it) w.left ∙ apart l h g.it r;
          again = λ other same.
              let goes : l.goes_on g.it (next other) ≡ false = ap (l.goes_on g.it) (same ∙ ap next (sym w.left)) ∙ g.stops in
              rw (← apart l h g.it other, h.only g.it other goes) (narrow_none k (f (l.value g.it)) (ap f g.is ∙ w.none) other ∙ ap (λ (i : K). fault i other) w.kind);
          it = (b.it, b.taken);
          more = b.more;
          whole = b.text;
        }
  ]
    where
      begin : (d : l.Of) (o : Option Y) → f (l.value d) ≡ o → (c : (narrowed k f l).Of) × ((more : List T) × (l.text c.0 [] ≡ l.text d [] ++ more))
      begin d None e = let b = extends d e in ((b.it, b.taken), (b.more, b.text))
      begin d (Some y) e = ((d, subst Is (sym e) tt), ([], sym (append-nil (l.text d []))))

  pub narrowed_exact : Exact (narrowed k f l)
  narrowed_exact = record {
    some = some;
    append = λ d u v. h.append d.0 u v;
    only = narrowed_only;
    found = narrowed_found;
    least = narrowed_least;
  }

pub narrowed_outside : {T K X Y : Type 0} (k : K) (f : X → Option Y) (l : Lang T K X) (g : Option T → Bool) → Outside l g → Outside (narrowed k f l) g
narrowed_outside k f l g h d t e = h d.0 t e

pub narrowed_kinded : {T K X Y : Type 0} (P : K → Option T → Type 0) (k : K) (f : X → Option Y) (l : Lang T K X) → ((t : Option T) → P k t) → Kinded P l → Kinded P (narrowed k f l)
narrowed_kinded {T} {K} P k f l p h = record {
  kind = λ ts j r e. elim (bind_err (l.read ts) (λ x. narrow k (f x.0) x.1) (faulty j r) e) [
    | inl x ↦ h.kind ts j r x
    | inr x ↦ let w = narrow_err k (f x.0.0) x.0.1 j r x.2 in subst (λ (i : K). P i (next r)) w.kind (p (next r))
  ];
}

narrow_follows : {T K X : Type 0} (kept : K → Bool) (k : K) → kept k ≡ true → (o : Option X) (r : List T) → Follows kept (narrow k o r) (narrow k o r)
narrow_follows {T} {K} {X} kept k e None r = subst (λ (b : Bool). AfterFault {X = X} b k r (fault k r)) (sym e) refl
narrow_follows kept k e (Some x) r = refl

narrow_below : {T K X : Type 0} (k : K) (o : Option X) (r : List T) → Below (suc (length r)) (narrow k o r)
narrow_below k None r = omega arith
narrow_below k (Some x) r = omega arith

pub narrowed_loose : {T K X Y : Type 0} (kept : K → Bool) (k : K) → kept k ≡ true → (f : X → Option Y) (l m : Lang T K X) → Loosens kept l m → Loosens kept (narrowed k f l) (narrowed k f m)
narrowed_loose kept k e f l m h = record { at = λ ts. follows_bind kept (λ x. narrow k (f x.0) x.1) (λ x. narrow k (f x.0) x.1) (λ x. narrow_follows kept k e (f x.0) x.1) (λ x. narrow_below k (f x.0) x.1) (l.read ts) (m.read ts) (h.at ts) }
