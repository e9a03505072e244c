-- The longest front that a grammar reads is the longest text.
use Rattle.std.proofs.Common.{◌≡◌, List, [], ◌∷◌, ◌++◌, map, Ok, refl, sym, ap, subst, ◌∙◌, append_assoc}
use Rattle.std.proofs.lemmas.List.{append-nil}
use Rattle.tv_grammar.specs.Exact.{Exact, Ends}
use Rattle.tv_grammar.specs.Longest.{Further}
use Rattle.tv_grammar.proofs.ExactLemmas.{apart}
use Rattle.tv_grammar.proofs.LongestLemmas.{longest_found, longest_read}
use Rattle.tv_language.specs.Symbols.{Symbol}
use Rattle.tv_reading.specs.Marks.{Mark, plain, symbol_of, symbols_of}
use Rattle.tv_reading.specs.SumGrammar.{Grammar}
use Rattle.tv_reading.specs.Texts.{IsLongest}
use Rattle.tv_reading.proofs.SumTexts.{Back}
use Rattle.tv_reading.proofs.PassedLemmas.{symbols-append}

pub plains : (ss : List Symbol) → symbols_of (map plain ss) ≡ ss
plains [] = refl
plains (s ∷ ss) = ap (λ (us : List Symbol). s ∷ us) (plains ss)

pub no_symbols : (ms : List Mark) → symbols_of ms ≡ [] → ms ≡ []
no_symbols [] e = refl
no_symbols (m ∷ ms) e = absurd cc

module _ {X : Type 0} (l : Grammar X) (IsText : X → List Symbol → List Symbol → Type 0) (exact : Exact l) (ends : Ends l) (further : Further l) (found : (d : l.Of) (rest : List Mark) → IsText (l.value d) (symbols_of (l.text d rest)) (symbols_of rest)) (back : (x : X) (ts rest : List Symbol) → IsText x ts rest → (ms : List Mark) → symbols_of ms ≡ ts → Back l x ms rest) where
  -- a text after which anything may stand
  anywhere : (d : l.Of) (rest : List Symbol) → IsText (l.value d) (symbols_of (l.text d []) ++ rest) rest
  anywhere d rest =
      let is : symbols_of (l.text d (map plain rest)) ≡ symbols_of (l.text d []) ++ rest = ap symbols_of (apart l exact d (map plain rest)) ∙ symbols-append (l.text d []) (map plain rest) ∙ ap (λ (us : List Symbol). symbols_of (l.text d []) ++ us) (plains rest) in
      subst (λ (us : List Symbol). IsText (l.value d) us rest) is (subst (λ (us : List Symbol). IsText (l.value d) (symbols_of (l.text d (map plain rest))) us) (plains rest) (found d (map plain rest)))

  -- the text without what follows it
  alone : (x : X) (ms : List Mark) → IsText x (symbols_of ms) [] → (d : l.Of) × (ms ≡ l.text d []) × (l.value d ≡ x)
  alone x ms is = let b = back x (symbols_of ms) [] is ms refl in (b.it, b.text ∙ ap (l.text b.it) (no_symbols b.left b.same), b.is)

  pub text_found : (ms : List Mark) (x : X) (left : List Mark) → l.read ms ≡ Ok (x, left) → IsLongest IsText x ms left
  text_found ms x left e =
      let w = longest_found l exact ends ms x left e in
      record {
        passed = l.text w.it [];
        parts = w.text ∙ apart l exact w.it left;
        is = λ rest. subst (λ (y : X). IsText y (symbols_of (l.text w.it []) ++ rest) rest) w.is (anywhere w.it rest);
        none = λ m first y more text.
            let marks : List Mark = l.text w.it [] ++ m ∷ map plain more in
            let same : symbols_of marks ≡ symbols_of (l.text w.it []) ++ symbol_of m ∷ more = symbols-append (l.text w.it []) (m ∷ map plain more) ∙ ap (λ (us : List Symbol). symbols_of (l.text w.it []) ++ symbol_of m ∷ us) (plains more) in
            let a = alone y marks (subst (λ (us : List Symbol). IsText y us []) (sym same) text) in
            w.none m first (record { it = a.0; more = map plain more; whole = sym a.1 ∙ sym (append_assoc (l.text w.it []) (m ∷ []) (map plain more)) });
      }

  pub text_only : (ms : List Mark) (x : X) (left : List Mark) → IsLongest IsText x ms left → l.read ms ≡ Ok (x, left)
  text_only ms x left w =
      let a = alone x w.passed (subst (λ (us : List Symbol). IsText x us []) (append-nil (symbols_of w.passed)) (w.is [])) in
      longest_read l exact ends further ms x left (record {
        it = a.0;
        text = w.parts ∙ ap (λ (us : List Mark). us ++ left) a.1 ∙ sym (apart l exact a.0 left);
        is = a.2;
        none = λ m first b.
            let text : IsText (l.value b.it) (symbols_of (l.text b.it [])) [] = subst (λ (us : List Symbol). IsText (l.value b.it) us []) (append-nil (symbols_of (l.text b.it []))) (anywhere b.it []) in
            let same : symbols_of (l.text b.it []) ≡ symbols_of w.passed ++ symbol_of m ∷ symbols_of b.more =
            ap symbols_of (b.whole ∙ append_assoc (l.text a.0 []) (m ∷ []) b.more ∙ ap (λ (us : List Mark). us ++ m ∷ b.more) (sym a.1)) ∙ symbols-append w.passed (m ∷ b.more) in
            w.none m first (l.value b.it) (symbols_of b.more) (subst (λ (us : List Symbol). IsText (l.value b.it) us []) same text);
      })
