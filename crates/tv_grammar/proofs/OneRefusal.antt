-- Tokens are refused in one place: what stands before it is one text's front, and with its token it is none's.
use Rattle.std.proofs.Common.{◌≡◌, Bool, true, false, List, [], ◌∷◌, ◌++◌, length, Some, Result, Ok, Err, refl, sym, ap, subst, ◌∙◌, append_assoc, arith}
use Rattle.std.proofs.lemmas.List.{append-nil}
use Rattle.tv_grammar.specs.Reads.{Fault, faulty, fault, next}
use Rattle.tv_grammar.specs.Langs.{Lang}
use Rattle.tv_grammar.specs.Exact.{Exact, Least, Ends}
use Rattle.tv_grammar.specs.Faults.{AfterFault, Follows, Loosens, NoneIn, Begins}
use Rattle.tv_grammar.proofs.Results.{clash, ok_is}
use Rattle.tv_grammar.proofs.LooseLemmas.{begun}

-- ---- a list in two parts in two ways

pub data Compared {T : Type 0} (a b r s : List T) : Type 0 where
  same : a ≡ b → r ≡ s → Compared a b r s
  further : (t : T) (rest : List T) → b ≡ a ++ t ∷ rest → next r ≡ Some t → Compared a b r s
  nearer : (t : T) (rest : List T) → a ≡ b ++ t ∷ rest → next s ≡ Some t → Compared a b r s

behind : {T : Type 0} (t u : T) (a b r s : List T) → t ≡ u → Compared a b r s → Compared (t ∷ a) (u ∷ b) r s
behind t u a b r s h (same e f) = same (cc) f
behind t u a b r s h (further v rest e f) = further v rest (rw (h, e) refl) f
behind t u a b r s h (nearer v rest e f) = nearer v rest (rw (h, e) refl) f

pub compared : {T : Type 0} (a b r s : List T) → a ++ r ≡ b ++ s → Compared a b r s
compared [] [] r s e = same refl e
compared [] (t ∷ b) r s e = further t b refl (ap next e)
compared (t ∷ a) [] r s e = nearer t a refl (sym (ap next e))
compared (t ∷ a) (u ∷ b) r s e = behind t u a b r s (cc) (compared a b r s (cc))

-- the parts are the same where the fronts are as long
pub record EvenParts {T : Type 0} (a b r s : List T) : Type 0 where
  pub fronts : a ≡ b
  pub rests : r ≡ s

pub even_parts : {T : Type 0} (a b r s : List T) → a ++ r ≡ b ++ s → length a ≡ length b → EvenParts a b r s
even_parts [] [] r s e l = record { fronts = refl; rests = e }
even_parts [] (u ∷ b) r s e l = absurd cc
even_parts (t ∷ a) [] r s e l = absurd cc
even_parts (t ∷ a) (u ∷ b) r s e l =
    let same : t ≡ u = cc in
    let w = even_parts a b r s (cc) (omega (arith, l)) in
    record { fronts = rw (same, w.fronts) refl; rests = w.rests }

-- ---- what a text begins with

-- a text is one of each grammar that asks less
pub text_too : {T K X : Type 0} (kept : K → Bool) (l m : Lang T K X) → Exact l → Ends l → Exact m → Loosens kept l m → (d : l.Of) → (c : m.Of) × (m.text c [] ≡ l.text d [])
text_too {T} {K} {X} kept l m e ends f h d =
    let read : l.read (l.text d []) ≡ Ok (l.value d, []) = e.only d [] (ends d) in
    let too : m.read (l.text d []) ≡ Ok (l.value d, []) = subst (λ (o : Result (X × List T) (Fault T K)). Follows kept o (m.read (l.text d []))) read (h.at (l.text d [])) in
    let w = f.found (l.text d []) (l.value d) [] too in
    (w.it, sym w.text)

pub begins_too : {T K X : Type 0} (kept : K → Bool) (l m : Lang T K X) → Exact l → Ends l → Exact m → Loosens kept l m → (ts : List T) → Begins l ts → Begins m ts
begins_too kept l m e ends f h ts b =
    let c = text_too kept l m e ends f h b.it in
    record { it = c.0; more = b.more; whole = c.1 ∙ b.whole }

-- no text goes on at the token that stands in none
pub not_begun : {T K X : Type 0} (m : Lang T K X) (before r : List T) (t : T) (rest : List T) → NoneIn m before r → next r ≡ Some t → Begins m (before ++ t ∷ rest) → ⊥
not_begun m before r t rest n is b = n.none b.it (t ∷ (rest ++ b.more)) (sym is) (b.whole ∙ append_assoc before (t ∷ rest) b.more)

least_none : {T K X : Type 0} (l : Lang T K X) → Exact l → Ends l → (k : K) (ts r : List T) → (f : Least l k ts r) → NoneIn l f.before r
least_none {T} {K} {X} l e ends k ts r f = record {
  none = λ d other same text. clash {A = X × List T} (l.value d, []) (faulty k other) (sym (ap l.read (sym text) ∙ e.only d [] (ends d)) ∙ f.again other same);
}

-- ---- a token is refused for one kind: where one grammar that asks less refuses it too, none that asks more takes it

module _ {T K X : Type 0} (earlier later : K → Bool) (l m n : Lang T K X) (exact_l : Exact l) (ends_l : Ends l) (exact_m : Exact m) (exact_n : Exact n) (ends_n : Ends n) (first : Loosens earlier l m) (second : Loosens later l n) (order : (k : K) → later k ≡ false → earlier k ≡ false) (before r : List T) (t : T) (is : next r ≡ Some t) (some : Begins l before) (none : NoneIn m before r) (b : Begins n (before ++ t ∷ [])) where
  abbrev whole : List T
  whole = n.text b.it []

  parts : whole ≡ before ++ t ∷ b.more
  parts = b.whole ∙ append_assoc before (t ∷ []) b.more

  taken : n.read whole ≡ Ok (n.value b.it, [])
  taken = exact_n.only b.it [] (ends_n b.it)

  followed : (out : Result (X × List T) (Fault T K)) → l.read whole ≡ out → Follows later out (Ok (n.value b.it, []))
  followed out e = subst (λ (o : Result (X × List T) (Fault T K)). Follows later out o) taken (subst (λ (o : Result (X × List T) (Fault T K)). Follows later o (n.read whole)) e (second.at whole))

  passed : (kept : Bool) (k : K) (s : List T) → AfterFault {X = X} kept k s (Ok (n.value b.it, [])) → kept ≡ false
  passed true k s h = absurd (clash {A = X × List T} (n.value b.it, []) (faulty k s) h)
  passed false k s h = refl

  at_fault : (k : K) (s : List T) → earlier k ≡ false → (f : Least l k whole s) → Compared f.before before s (t ∷ b.more) → ⊥
  at_fault k s not f (same e g) =
      let u : next s ≡ Some t = ap next g in
      let here : Begins m (f.before ++ t ∷ []) = begun earlier l m exact_m first k not whole s t u f in
      not_begun m before r t [] none is (subst (λ (us : List T). Begins m (us ++ t ∷ [])) e here)
  at_fault k s not f (further v rest e g) = not_begun l f.before s v rest (least_none l exact_l ends_l k whole s f) g (subst (λ (us : List T). Begins l us) e some)
  at_fault k s not f (nearer v rest e g) =
      let u : t ≡ v = cc in
      let front : Begins l f.before = record { it = f.it; more = f.more; whole = f.whole } in
      let here : Begins m (before ++ v ∷ rest) = subst (λ (us : List T). Begins m us) e (begins_too earlier l m exact_l ends_l exact_m first f.before front) in
      not_begun m before r v rest none (is ∙ ap Some u) here

  by : (out : Result (X × List T) (Fault T K)) → l.read whole ≡ out → ⊥
  by (Ok x) e =
      let is_taken : x ≡ (n.value b.it, []) = ok_is {E = Fault T K} x (n.value b.it, []) (sym (followed (Ok x) e)) in
      let f = exact_l.found whole x.0 x.1 e in
      let text : whole ≡ l.text f.it [] = f.text ∙ ap (λ (p : X × List T). l.text f.it p.1) is_taken in
      let front : Begins l (before ++ t ∷ b.more) = record { it = f.it; more = []; whole = sym text ∙ parts ∙ sym (append-nil (before ++ t ∷ b.more)) } in
      not_begun m before r t b.more none is (begins_too earlier l m exact_l ends_l exact_m first (before ++ t ∷ b.more) front)
  by (Err (faulty k s)) e =
      let f = exact_l.least whole k s e in
      let not : earlier k ≡ false = order k (passed (later k) k s (followed (fault k s) e)) in
      at_fault k s not f (compared f.before before s (t ∷ b.more) (sym f.parts ∙ parts))

  pub not_later : ⊥
  not_later = by (l.read whole) refl
