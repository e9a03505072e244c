-- The ways to make a grammar keep that it is read exactly.
use Rattle.std.proofs.Common.{◌≡◌, ℕ, zero, suc, false, List, [], ◌∷◌, ◌++◌, Option, Some, None, Ok, refl, sym, ap, subst, ◌∙◌, append_assoc, inl, inr, ◌⊎◌}
use Rattle.tv_grammar.specs.Reads.{Fault, faulty, fault, next, first_or}
use Rattle.tv_grammar.specs.Langs.{Lang, unit, then, mapped, Branch, stop, go, OfBranch, branch_text, branch_value, branch_goes_on, branch_read, headed_read, headed, times, each, refused}
use Rattle.tv_grammar.specs.Exact.{Found, Least, Exact, ExactBranch}
use Rattle.tv_grammar.proofs.Results.{bind_ok, bind_err, ok_is, next-append, next_same}
use Rattle.std.proofs.lemmas.Bool.{or_from, or_parts}

-- what follows a derivation can be put apart
pub apart : {T K X : Type 0} (l : Lang T K X) → Exact l → (d : l.Of) (r : List T) → l.text d r ≡ l.text d [] ++ r
apart l h d r = h.append d [] r

pub next_behind : {T K X : Type 0} (l : Lang T K X) → Exact l → (d : l.Of) (r : List T) → next (l.text d r) ≡ first_or (l.text d []) (next r)
next_behind l h d r = ap next (apart l h d r) ∙ next-append (l.text d []) r

-- ---- nothing

pub unit_exact : {T K X : Type 0} (x : X) → Exact {T = T} {K = K} (unit x)
unit_exact {T} {K} {X} x = record {
  some = tt;
  append = λ d a c. refl;
  only = λ d r s. refl;
  found = λ ts y r e. let is = ok_is {E = Fault T K} (x, ts) (y, r) e in record {
    it = tt;
    text = ap (λ (p : X × List T). p.1) is;
    is = ap (λ (p : X × List T). p.0) is;
    stops = refl;
  };
  least = λ ts k r e. absurd cc;
}

-- ---- one after the other

module _ {T K X Y : Type 0} (a : Lang T K X) (b : X → Lang T K Y) (h : Exact a) (i : (x : X) → Exact (b x)) where
  then_append : (d : (then a b).Of) (u v : List T) → (then a b).text d (u ++ v) ≡ (then a b).text d u ++ v
  then_append d u v = ap (a.text d.0) ((i (a.value d.0)).append d.1 u v) ∙ h.append d.0 ((b (a.value d.0)).text d.1 u) v

  then_only : (d : (then a b).Of) (r : List T) → (then a b).goes_on d (next r) ≡ false → (then a b).read ((then a b).text d r) ≡ Ok ((then a b).value d, r)
  then_only d r s =
      let l : Lang T K Y = b (a.value d.0) in
      let first : a.goes_on d.0 (next (l.text d.1 r)) ≡ false = ap (a.goes_on d.0) (next_behind l (i (a.value d.0)) d.1 r) ∙ (or_parts _ _ s).1 in
      rw (h.only d.0 (l.text d.1 r) first) ((i (a.value d.0)).only d.1 r ((or_parts _ _ s).0))

  then_found : (ts : List T) (y : Y) (r : List T) → (then a b).read ts ≡ Ok (y, r) → Found (then a b) ts y r
  then_found ts y r e =
      let x = bind_ok (a.read ts) (λ x. (b x.0).read x.1) (y, r) e in
      let f = h.found ts x.0.0 x.0.1 x.1 in
      let l : Lang T K Y = b (a.value f.it) in
      let g = (i (a.value f.it)).found x.0.1 y r (subst (λ (v : X). (b v).read x.0.1 ≡ Ok (y, r)) (sym f.is) x.2) in
      record {
        it = (f.it, g.it);
        text = f.text ∙ ap (a.text f.it) g.text;
        is = g.is;
        stops = or_from _ _ g.stops (ap (a.goes_on f.it) (sym (next_behind l (i (a.value f.it)) g.it r) ∙ ap next (sym g.text)) ∙ f.stops);
      }

  then_least : (ts : List T) (k : K) (r : List T) → (then a b).read ts ≡ fault k r → Least (then a b) k ts r
  then_least ts k r e = elim (bind_err (a.read ts) (λ x. (b x.0).read x.1) (faulty k r) e) [
    | inl x ↦
        let f = h.least ts k r x in
        let l : Lang T K Y = b (a.value f.it) in
        let some : l.Of = (i (a.value f.it)).some in
        record {
          before = f.before;
          parts = f.parts;
          again = λ other same. rw (f.again other same) refl;
          it = (f.it, some);
          more = f.more ++ l.text some [];
          whole = apart a h f.it (l.text some []) ∙ ap (λ (us : List T). us ++ l.text some []) f.whole ∙ append_assoc f.before f.more (l.text some []);
        }
    | inr x ↦
        let f = h.found ts x.0.0 x.0.1 x.1 in
        let l : Lang T K Y = b (a.value f.it) in
        let g = (i (a.value f.it)).least x.0.1 k r (subst (λ (v : X). (b v).read x.0.1 ≡ fault k r) (sym f.is) x.2) in
        record {
          before = a.text f.it g.before;
          parts = f.text ∙ ap (a.text f.it) g.parts ∙ h.append f.it g.before r;
          again = λ other same.
              let goes : a.goes_on f.it (next (g.before ++ other)) ≡ false = ap (a.goes_on f.it) (next_same g.before other r same ∙ ap next (sym g.parts)) ∙ f.stops in
              rw (← h.append f.it g.before other, h.only f.it (g.before ++ other) goes) (g.again other same);
          it = (f.it, g.it);
          more = g.more;
          whole = ap (a.text f.it) g.whole ∙ h.append f.it g.before g.more;
        }
  ]

  pub then_exact : Exact (then a b)
  then_exact = record {
    some = (h.some, (i (a.value h.some)).some);
    append = then_append;
    only = then_only;
    found = then_found;
    least = then_least;
  }

pub mapped_exact : {T K X Y : Type 0} (f : X → Y) (l : Lang T K X) → Exact l → Exact (mapped f l)
mapped_exact f l h = then_exact l (λ x. unit (f x)) h (λ x. unit_exact (f x))

-- ---- what follows a token

pub branch_append : {T K X : Type 0} (b : Branch T K X) → ExactBranch b → (d : OfBranch b) (u v : List T) → branch_text b d (u ++ v) ≡ branch_text b d u ++ v
branch_append (stop k) h d u v = absurd d
branch_append (go l) h d u v = h.append d u v

branch_only : {T K X : Type 0} (b : Branch T K X) → ExactBranch b → (d : OfBranch b) (here r : List T) → branch_goes_on b d (next r) ≡ false → branch_read b here (branch_text b d r) ≡ Ok (branch_value b d, r)
branch_only (stop k) h d here r s = absurd d
branch_only (go l) h d here r s = h.only d r s

record BranchFound {T K X : Type 0} (b : Branch T K X) (us : List T) (x : X) (r : List T) : Type 0 where
  it : OfBranch b
  text : us ≡ branch_text b it r
  is : branch_value b it ≡ x
  stops : branch_goes_on b it (next r) ≡ false

branch_found : {T K X : Type 0} (b : Branch T K X) → ExactBranch b → (here us : List T) (x : X) (r : List T) → branch_read b here us ≡ Ok (x, r) → BranchFound b us x r
branch_found (stop k) h here us x r e = absurd cc
branch_found (go l) h here us x r e = let f = h.found us x r e in record { it = f.it; text = f.text; is = f.is; stops = f.stops }

record BranchLeast {T K X : Type 0} (b : Branch T K X) (k : K) (us r : List T) : Type 0 where
  before : List T
  parts : us ≡ before ++ r
  again : (here other : List T) → next other ≡ next r → branch_read b here (before ++ other) ≡ fault k other
  it : OfBranch b
  more : List T
  whole : branch_text b it [] ≡ before ++ more

abbrev Here : {T K X : Type 0} → Branch T K X → K → List T → List T → Type 0
Here {T} b k here r = (here ≡ r) × ((other us : List T) → branch_read b other us ≡ fault k other)

branch_least : {T K X : Type 0} (b : Branch T K X) → ExactBranch b → (here us : List T) (k : K) (r : List T) → branch_read b here us ≡ fault k r → Here b k here r ⊎ BranchLeast b k us r
branch_least {T} {K} {X} (stop j) h here us k r e = let is : j ≡ k = cc in inl (cc, λ other us. ap (λ (k : K). fault k other) is)
branch_least (go l) h here us k r e = let f = h.least us k r e in inr (record { before = f.before; parts = f.parts; again = λ here other same. f.again other same; it = f.it; more = f.more; whole = f.whole })

module _ {T K X : Type 0} (missing : K) (cases : T → Branch T K X) (h : (t : T) → ExactBranch (cases t)) (t0 : T) (d0 : OfBranch (cases t0)) where
  headed_found : (ts : List T) (x : X) (r : List T) → (headed missing cases).read ts ≡ Ok (x, r) → Found (headed missing cases) ts x r
  headed_found [] x r e = absurd cc
  headed_found (t ∷ us) x r e =
      let f = branch_found (cases t) (h t) (t ∷ us) us x r e in
      record { it = (t, f.it); text = ap (λ (r : List T). t ∷ r) f.text; is = f.is; stops = f.stops }

  at_head : (k : K) (ts r : List T) → ts ≡ r → ((other : List T) → next other ≡ next r → headed_read missing cases other ≡ fault k other) → Least (headed missing cases) k ts r
  at_head k ts r here again = record {
    before = [];
    parts = here;
    again = again;
    it = (t0, d0);
    more = t0 ∷ branch_text (cases t0) d0 [];
    whole = refl;
  }

  nothing_again : (k : K) → missing ≡ k → (other : List T) → next other ≡ None → headed_read missing cases other ≡ fault k other
  nothing_again k is [] same = rw is refl
  nothing_again k is (u ∷ us) same = absurd cc

  token_again : (k : K) (t : T) → ((other us : List T) → branch_read (cases t) other us ≡ fault k other) → (other : List T) → next other ≡ Some t → headed_read missing cases other ≡ fault k other
  token_again k t all [] same = absurd cc
  token_again k t all (u ∷ us) same = let is : u ≡ t = cc in subst (λ (v : T). branch_read (cases v) (u ∷ us) us ≡ fault k (u ∷ us)) (sym is) (all (u ∷ us) us)

  headed_least : (ts : List T) (k : K) (r : List T) → (headed missing cases).read ts ≡ fault k r → Least (headed missing cases) k ts r
  headed_least [] k r e =
      let is : missing ≡ k = cc in
      let at : [] ≡ r = cc in
      at_head k [] r at (λ other same. nothing_again k is other (same ∙ ap next (sym at)))
  headed_least (t ∷ us) k r e = elim (branch_least (cases t) (h t) (t ∷ us) us k r e) [
    | inl here ↦ at_head k (t ∷ us) r here.0 (λ other same. token_again k t here.1 other (same ∙ ap next (sym here.0)))
    | inr f ↦ record {
      before = t ∷ f.before;
      parts = ap (λ (r : List T). t ∷ r) f.parts;
      again = λ other same. f.again (t ∷ (f.before ++ other)) other same;
      it = (t, f.it);
      more = f.more;
      whole = ap (λ (r : List T). t ∷ r) f.whole;
    }
  ]

  pub headed_exact : Exact (headed missing cases)
  headed_exact = record {
    some = (t0, d0);
    append = λ d u v. ap (λ (r : List T). d.0 ∷ r) (branch_append (cases d.0) (h d.0) d.1 u v);
    only = λ d r s. branch_only (cases d.0) (h d.0) d.1 (d.0 ∷ branch_text (cases d.0) d.1 r) r s;
    found = headed_found;
    least = headed_least;
  }

-- ---- many

pub times_exact : {T K X : Type 0} (n : ℕ) (l : Lang T K X) → Exact l → Exact (times n l)
unfolding times
times_exact zero l h = unit_exact []
times_exact {T} {K} {X} (suc n) l h = then_exact l (λ x. mapped (λ xs. x ∷ xs) (times n l)) h (λ x. mapped_exact (λ xs. x ∷ xs) (times n l) (times_exact n l h))

pub each_exact : {T K A X : Type 0} (l : A → Lang T K X) (for : List A) → ((a : A) → Exact (l a)) → Exact (each l for)
unfolding each
each_exact l [] h = unit_exact []
each_exact l (a ∷ rest) h = then_exact (l a) (λ x. mapped (λ xs. x ∷ xs) (each l rest)) (h a) (λ x. mapped_exact (λ xs. x ∷ xs) (each l rest) (each_exact l rest h))

-- ---- what is refused

pub refused_exact : {T K X : Type 0} (kind : Option T → K) (l : Lang T K X) → Exact l → Exact (refused kind l)
refused_exact {T} {K} {X} kind l h = record {
  some = h.some;
  append = h.append;
  only = λ d r s. absurd cc;
  found = λ ts x r e. absurd cc;
  least = λ ts j r e.
      let is : kind (next ts) ≡ j = cc in
      let at : ts ≡ r = cc in
      record {
        before = [];
        parts = at;
        again = λ other same. ap (λ (i : K). fault i other) (ap kind (same ∙ ap next (sym at)) ∙ is);
        it = h.some;
        more = l.text h.some [];
        whole = refl;
      };
}
