-- A text over the words of a program is that of one formula, or it has one first fault.
use Rattle.std.proofs.Common.{◌≡◌, ℕ, ◌+◌, List, [], ◌∷◌, ◌++◌, length, Some, refl, sym, ap, ◌∙◌, arith, length-append}
use Rattle.std.proofs.lemmas.List.{append-nil}
use Rattle.tv_language.specs.declared.token.Token.{Token}
use Rattle.tv_language.specs.Tokens.{IsTokens}
use Rattle.tv_language.proofs.OneList.{one_list}
use Rattle.tv_program.specs.Systems.{System}
use Rattle.tv_language.specs.Symbols.{lexeme, Vocabulary}
use Rattle.tv_formula.specs.Properties.{Property}
use Rattle.tv_grammar.specs.Reads.{next}
use Rattle.tv_grammar.proofs.ExactLemmas.{apart}
use Rattle.tv_grammar.proofs.OneRefusal.{even_parts}
use Rattle.tv_reading.specs.Marks.{Kind, first}
use Rattle.tv_reading.specs.Readings.{or_end}
use Rattle.tv_reading.specs.SumGrammar.{every}
use Rattle.tv_reading.proofs.OneRefusal.{Refusal, not_refused, one_refusal}
use Rattle.tv_formula_reader.specs.Seen.{Seen, seen, seen_all}
use Rattle.tv_formula_reader.specs.FormulaGrammar.{formula_at, text_at}
use Rattle.tv_formula_reader.specs.FormulaTexts.{words_of, IsFormulaText}
use Rattle.tv_reading.specs.Refusals.{Refuses}
use Rattle.tv_formula_reader.specs.Refusals.{IsFirstFault}
use Rattle.tv_formula_reader.proofs.FormulaExact.{formula_exact, text_exact}
use Rattle.tv_formula_reader.proofs.FormulaEnds.{text_ends}
use Rattle.tv_formula_reader.proofs.FormulaLoose.{text_loose}
use Rattle.tv_formula_reader.proofs.FormulaTexts.{signs_of, signs-append, formula_is}
use Rattle.tv_formula_reader.proofs.InnerSigns.{closed, closed-append, formula_inner, tokens_closed}
use Rattle.tv_formula_reader.proofs.ReadLemmas.{ending_of, text_read, same_value}
use Rattle.tv_formula_reader.proofs.SourceLemmas.{length-seen}

-- ---- one formula

pub one_formula : (p : System) (text : List ℕ) (f g : Property) → IsFormulaText p text f → IsFormulaText p text g → f ≡ g
one_formula p text f g t u = same_value f g [] [] (sym (text_read p text t.tokens f t.scanned t) ∙ text_read p text t.tokens g t.scanned u)

-- ---- a text of a formula has no fault

refusal : (k : Kind) (ts r : List Seen) → (f : Refuses text_at 64 k ts r) → Refusal text_at 64 k f.before r
refusal k ts r f = record { some = f.some; none = f.none; begun = f.begun }

never : (k : Kind) (before r : List Seen) → Refusal text_at 64 k before r → (d : (text_at every 64).Of) → (text_at every 64).text d [] ≡ before ++ r → ⊥
never = not_refused text_at text_exact text_ends (λ kept syntax n m l. text_loose kept syntax n m l) 64

pub faultless : (p : System) (text : List ℕ) (f : Property) (k : Kind) (at : ℕ) → IsFormulaText p text f → IsFirstFault p text k at → ⊥
faultless p text f k at t h =
    let w = (text_exact every 64).found (seen_all (words_of p) text h.tokens) f [] (text_read p text h.tokens f h.scanned t) in
    never k h.refuses.before _ (refusal k _ _ h.refuses) w.it (sym w.text ∙ h.refuses.parts)

-- ---- a fault is at a token: no text goes on after the last one

behind_nothing : {X : Type 0} (a : List X) (x : X) (xs : List X) → [] ≡ a ++ x ∷ xs → ⊥
behind_nothing [] x xs e = cc
behind_nothing (y ∷ a) x xs e = cc

longer : {X : Type 0} (z y : X) (f a : List X) → z ≡ y → (r : List X) × (f ≡ a ++ r) → (r : List X) × (z ∷ f ≡ y ∷ (a ++ r))
longer z y f a e w = (w.0, cons_same z y f (a ++ w.0) e w.1)
  where
    cons_same : {X : Type 0} (z y : X) (f g : List X) → z ≡ y → f ≡ g → z ∷ f ≡ y ∷ g
    cons_same z y f g e h = cc

front_of : {X : Type 0} (f a : List X) (t x : X) (xs : List X) → f ++ t ∷ [] ≡ a ++ x ∷ xs → (r : List X) × (f ≡ a ++ r)
front_of f [] t x xs e = (f, refl)
front_of [] (y ∷ a) t x xs e = absurd (behind_nothing a x xs (cc))
front_of (z ∷ f) (y ∷ a) t x xs e = longer z y f a (cc) (front_of f a t x xs (cc))

text_inner : (d : (formula_at every 64).Of) (t : Seen) → closed (signs_of ((formula_at every 64).text d [])) ≡ 0
text_inner d t =
    let whole = formula_inner (formula_is 64 d (t ∷ [])) in
    let parts = ap closed (ap signs_of (apart (formula_at every 64) (formula_exact every 64) d (t ∷ [])) ∙ signs-append ((formula_at every 64).text d []) (t ∷ [])) in
    let counts = closed-append (signs_of ((formula_at every 64).text d [])) (signs_of (t ∷ [])) in
    omega (arith, whole, parts, counts)

nothing_behind : (v : Vocabulary) (text : List ℕ) (ts : List Token) → IsTokens 0 text ts → (d : (text_at every 64).Of) (x : Seen) (xs : List Seen) → (text_at every 64).text d [] ≡ seen_all v text ts ++ x ∷ xs → ⊥
nothing_behind v text ts scanned d x xs e =
    let g : Property = (formula_at every 64).value d.0 in
    let c = ending_of g d.1 in
    let t : Seen = d.1.0 in
    let front : List Seen = (formula_at every 64).text d.0 [] in
    let whole : front ++ t ∷ [] ≡ seen_all v text ts ++ x ∷ xs = sym (ap ((formula_at every 64).text d.0) (c.text []) ∙ apart (formula_at every 64) (formula_exact every 64) d.0 (t ∷ [])) ∙ e in
    let w = front_of front (seen_all v text ts) t x xs whole in
    let none = text_inner d.0 t in
    let parts = ap closed (ap signs_of w.1 ∙ signs-append (seen_all v text ts) w.0) in
    let counts = closed-append (signs_of (seen_all v text ts)) (signs_of w.0) in
    let some = tokens_closed v text scanned in
    absurd (omega (arith, none, parts, counts, some))

record Here (behind : List Token) : Type 0 where
  token : Token
  rest : List Token
  is : behind ≡ token ∷ rest

here : (p : System) (text : List ℕ) (k : Kind) (at : ℕ) (h : IsFirstFault p text k at) → Here h.behind
here p text k at h = by h.behind refl
  where
    by : (behind : List Token) → h.behind ≡ behind → Here h.behind
    by (t ∷ rest) e = record { token = t; rest = rest; is = e }
    by [] e = absurd (goes h.refuses.some.more refl)
      where
        none : seen_all (words_of p) text h.behind ≡ []
        none = ap (seen_all (words_of p) text) e

        whole : seen_all (words_of p) text h.tokens ≡ h.refuses.before
        whole = h.refuses.parts ∙ ap (λ (r : List Seen). h.refuses.before ++ r) none ∙ append-nil h.refuses.before

        goes : (more : List Seen) → h.refuses.some.more ≡ more → ⊥
        goes [] m = never k h.refuses.before _ (refusal k _ _ h.refuses) h.refuses.some.it (h.refuses.some.whole ∙ ap (λ (r : List Seen). h.refuses.before ++ r) (m ∙ sym none))
        goes (x ∷ xs) m = nothing_behind (words_of p) text h.tokens h.scanned h.refuses.some.it x xs (h.refuses.some.whole ∙ ap (λ (r : List Seen). h.refuses.before ++ r) m ∙ ap (λ (ts : List Seen). ts ++ x ∷ xs) (sym whole))

-- ---- one fault

pub one_fault : (p : System) (text : List ℕ) (j k : Kind) (m n : ℕ) → IsFirstFault p text j m → IsFirstFault p text k n → (j ≡ k) × (m ≡ n)
one_fault p text j k m n f g =
    let v = words_of p in
    let e = one_list 0 text f.tokens g.tokens f.scanned g.scanned in
    let t = here p text j m f in
    let is : next (seen_all v text f.behind) ≡ Some (seen v (lexeme text t.token)) = ap next (ap (seen_all v text) t.is) in
    let whole : f.refuses.before ++ seen_all v text f.behind ≡ g.refuses.before ++ seen_all v text g.behind = sym f.refuses.parts ∙ ap (seen_all v text) e ∙ g.refuses.parts in
    let one = one_refusal text_at text_exact text_ends (λ kept syntax n m l. text_loose kept syntax n m l) 64 j k f.refuses.before g.refuses.before _ _ (seen v (lexeme text t.token)) is whole (refusal j _ _ f.refuses) (refusal k _ _ g.refuses) in
    let parts : f.before ++ f.behind ≡ g.before ++ g.behind = sym f.parts ∙ e ∙ g.parts in
    let rests = ap length one.rest in
    let first_rest = length-seen v text f.behind in
    let second_rest = length-seen v text g.behind in
    let first_parts = length-append f.before f.behind in
    let second_parts = length-append g.before g.behind in
    let both = ap length parts in
    let even : length f.before ≡ length g.before = omega (arith, rests, first_rest, second_rest, first_parts, second_parts, both) in
    let same = even_parts f.before g.before f.behind g.behind parts even in
    (one.kind, sym f.place ∙ ap (λ (ts : List Token). (or_end (first ts)).at) same.rests ∙ g.place)
