-- Whole texts: what is read is one, one is read, and a fault is at the first token that no text has there.
use Rattle.std.proofs.Common.{◌≡◌, false, List, [], ◌∷◌, None, Ok, refl, sym, ap, ◌∙◌, inl, inr}
use Rattle.std.proofs.lemmas.List.{append-nil}
use Rattle.tv_grammar.specs.Reads.{Fault, faulty, fault, next}
use Rattle.tv_grammar.specs.Langs.{Lang, at_end, read_all}
use Rattle.tv_grammar.specs.Exact.{Exact, Ends, IsText, StopsAt}
use Rattle.tv_grammar.proofs.Results.{bind_ok, bind_err, ok_is, clash}
use Rattle.tv_grammar.proofs.ExactLemmas.{apart}

-- a fault of a front is the first one
pub stops_at : {T K X : Type 0} (l : Lang T K X) → Exact l → Ends l → (k : K) (ts r : List T) → l.read ts ≡ fault k r → StopsAt l ts r
stops_at {T} {K} {X} l h ends k ts r e =
    let f = h.least ts k r e in
    record {
      before = f.before;
      parts = f.parts;
      none = λ d other same text. clash {A = X × List T} (l.value d, []) (faulty k other) (sym (ap l.read (sym text) ∙ h.only d [] (ends d)) ∙ f.again other same);
      some = (f.it, (f.more, f.whole));
    }

record EndIs {T X : Type 0} (x y : X) (r s : List T) : Type 0 where
  same : x ≡ y
  none : r ≡ []
  left : s ≡ []

end_ok : {T K X : Type 0} (after : K) (x y : X) (r s : List T) → at_end after x r ≡ Ok (y, s) → EndIs x y r s
end_ok {T} {K} {X} after x y [] s e = let is = ok_is {E = Fault T K} (x, []) (y, s) e in record { same = ap (λ (p : X × List T). p.0) is; none = refl; left = sym (ap (λ (p : X × List T). p.1) is) }
end_ok after x y (t ∷ ts) s e = absurd cc

record EndFault {T K : Type 0} (after k : K) (r s : List T) : Type 0 where
  left : r ≡ s
  is : after ≡ k
  some : next r ≡ None → ⊥

end_fault : {T K X : Type 0} (after : K) (x : X) (r : List T) (k : K) (s : List T) → at_end after x r ≡ fault k s → EndFault after k r s
end_fault after x [] k s e = absurd cc
end_fault after x (t ∷ ts) k s e = record { left = cc; is = cc; some = λ z. cc }

-- what is read is a text
pub all_found : {T K X : Type 0} (after : K) (l : Lang T K X) → Exact l → (ts : List T) (x : X) (r : List T) → read_all after l ts ≡ Ok (x, r) → IsText l ts x
all_found {T} {K} {X} after l h ts x r e =
    let y = bind_ok (l.read ts) (λ x. at_end after x.0 x.1) (x, r) e in
    let w = end_ok after y.0.0 x y.0.1 r y.2 in
    let f = h.found ts y.0.0 y.0.1 y.1 in
    record { it = f.it; text = f.text ∙ ap (l.text f.it) w.none; is = f.is ∙ w.same }

-- a fault is the first one
pub all_least : {T K X : Type 0} (after : K) (l : Lang T K X) → Exact l → Ends l → (k : K) (ts r : List T) → read_all after l ts ≡ fault k r → StopsAt l ts r
all_least {T} {K} {X} after l h ends k ts r e = elim (bind_err (l.read ts) (λ x. at_end after x.0 x.1) (faulty k r) e) [
  | inl x ↦ stops_at l h ends k ts r x
  | inr y ↦
      let w = end_fault after y.0.0 y.0.1 k r y.2 in
      let f = h.found ts y.0.0 y.0.1 y.1 in
      record {
        before = l.text f.it [];
        parts = f.text ∙ ap (l.text f.it) w.left ∙ apart l h f.it r;
        none = λ d other same text.
            let goes : l.goes_on f.it (next other) ≡ false = ap (l.goes_on f.it) (same ∙ ap next (sym w.left)) ∙ f.stops in
            let one = h.only f.it other goes in
            let two = h.only d [] (ends d) in
            let is = ok_is {E = Fault T K} {A = X × List T} (l.value d, []) (l.value f.it, other) (sym two ∙ ap l.read (text ∙ sym (apart l h f.it other)) ∙ one) in
            w.some (ap next w.left ∙ sym same ∙ ap next (sym (ap (λ (p : X × List T). p.1) is)));
        some = (f.it, ([], sym (append-nil (l.text f.it []))));
      }
]
