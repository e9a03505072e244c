-- What is answered for a whole text.
use Rattle.std.proofs.Common.{◌≡◌, ℕ, zero, suc, Bool, true, false, List, [], ◌∷◌, ◌++◌, take, drop, cond, Option, Some, None, Result, Ok, Err, refl, sym, ap, subst, ◌∙◌, length}
use Rattle.tv_language.specs.declared.token.TokenKind.{TokenKind}
use Rattle.tv_language.specs.declared.token.TokenKind.TheVariants as kinds
use Rattle.tv_language.specs.declared.token.Token.{Token}
use Rattle.tv_language.specs.Numbers.{value_of_digits}
use Rattle.tv_language.specs.Tokens.{IsTokens}
use Rattle.tv_language.proofs.OneList.{one_list}
use Rattle.tv_language.proofs.TokenCounts.{is_end, last_token}
use Rattle.tv_program.specs.Words.{Word, number_of}
use Rattle.tv_program.specs.Systems.{System}
use Rattle.tv_language.specs.Symbols.{number, name, label, fixed, numbered, lexeme, lexemes, Vocabulary}
use Rattle.tv_formula.specs.Properties.{Property}
use Rattle.tv_formula.specs.Limits as limits
use Rattle.tv_grammar.specs.Reads.{Fault, fault}
use Rattle.tv_grammar.specs.Langs.{OfBranch}
use Rattle.tv_grammar.proofs.ExactLemmas.{apart}
use Rattle.tv_grammar.proofs.Results.{good, ok_is}
use Rattle.tv_grammar.proofs.LooseLemmas.{begun}
use Rattle.tv_reading.specs.Marks.{Kind, Mark, plain, symbol_of, Stand, known_name, mark_by, is_formula_word, first}
use Rattle.tv_reading.specs.SumGrammar.{every}
use Rattle.tv_reading.specs.Readings as readings
use Rattle.tv_reading.specs.Readings.{or_end, token_at}
use Rattle.tv_reading.specs.Refusals.{Refuses}
use Rattle.tv_reading.proofs.RefusalLemmas.{refuses}
use Rattle.tv_formula_reader.specs.Signs.{Sign, sign, signs}
use Rattle.tv_formula_reader.specs.Seen.{Seen, known_label, seen, seen_all}
use Rattle.tv_formula_reader.specs.FormulaGrammar.{at_kind, end_by, at_end, formula_at, text_at}
use Rattle.tv_formula_reader.specs.FormulaTexts.{IsFormula, words_of, ended, IsFormulaText}
use Rattle.tv_formula_reader.specs.Refusals.{IsFirstFault, IsRefusal, IsTold, IsGiven}
use Rattle.tv_reading.specs.Answers.{kind_of, Unless}
use Rattle.tv_formula_reader.specs.Answers.{left, Stays}
use Rattle.tv_formula_reader.specs.declared.fault.FormulaFault.{FormulaFault}
use Rattle.tv_formula_reader.specs.declared.fault.FormulaFault.TheVariants as faults
use Rattle.tv_reading.specs.declared.reason.Reason.{Reason}
use Rattle.tv_reading.specs.declared.reason.Reason.TheVariants as reasons
use Rattle.tv_formula_reader.specs.declared.source.Source.{Source}
use Rattle.tv_formula_reader.proofs.FormulaExact.{formula_exact, text_exact}
use Rattle.tv_formula_reader.proofs.FormulaEnds.{text_ends}
use Rattle.tv_formula_reader.proofs.FormulaLoose.{text_loose}
use Rattle.tv_formula_reader.proofs.FormulaTexts.{sign_of, signs_of, formula_is}
use Rattle.tv_formula_reader.proofs.FormulaRead.{back_text}
use Rattle.tv_formula_reader.proofs.LimitLemmas.{formula_limits}

-- ---- the signs of a text

name_symbol : (b : Bool) (o : Option ℕ) → symbol_of (known_name b o) ≡ cond b (fixed kinds.Name) (numbered name o)
name_symbol true o = refl
name_symbol false None = refl
name_symbol false (Some k) = refl

label_symbol : (b : Bool) (o : Option ℕ) → symbol_of (known_label b o) ≡ cond b (fixed kinds.Name) (numbered label o)
label_symbol true o = refl
label_symbol false None = refl
label_symbol false (Some k) = refl

number_symbol : (b : Bool) (n : ℕ) → symbol_of (cond b (plain (number n)) (plain (fixed kinds.Wide))) ≡ cond b (number n) (fixed kinds.Wide)
number_symbol true n = refl
number_symbol false n = refl

sign_same : (v : Vocabulary) (kind : TokenKind) (w : Word) → sign_of (seen v (record { kind = kind; word = w })) ≡ sign v (record { kind = kind; word = w })
sign_same v kinds.Name w = rw (name_symbol (is_formula_word w) (number_of w v.variables), label_symbol (is_formula_word w) (number_of w v.labels)) refl
sign_same v kinds.Number w = rw (number_symbol _ (value_of_digits w), label_symbol false (number_of w v.labels)) refl
sign_same v kind w = refl

pub signs_same : (v : Vocabulary) (text : List ℕ) (ts : List Token) → signs_of (seen_all v text ts) ≡ signs v (lexemes text ts)
signs_same v text [] = refl
signs_same v text (t ∷ ts) = rw (sign_same v t.kind (lexeme text t).word, signs_same v text ts) refl

-- ---- the end of a text

known_end : (b : Bool) (o : Option ℕ) → known_name b o ≡ plain (fixed kinds.End) → ⊥
known_end true o e = cc
known_end false None e = cc
known_end false (Some k) e = cc

number_end : (b : Bool) (n : ℕ) → cond b (plain (number n)) (plain (fixed kinds.Wide)) ≡ plain (fixed kinds.End) → ⊥
number_end true n e = cc
number_end false n e = cc

end_kind : (names : List Word) (kind : TokenKind) (w : Word) → mark_by false names 0 kind w ≡ plain (fixed kinds.End) → kind ≡ kinds.End
end_kind names kinds.End w e = refl
end_kind names kinds.Name w e = absurd (known_end (is_formula_word w) (number_of w names) e)
end_kind names kinds.Number w e = absurd (number_end _ (value_of_digits w) e)
end_kind names kind w e = absurd cc

pub record Ending {X : Type 0} (x : X) (d : (at_end x).Of) : Type 0 where
  pub mark : d.0.mark ≡ plain (fixed kinds.End)
  pub text : (r : List Seen) → (at_end x).text d r ≡ d.0 ∷ r
  pub is : (at_end x).value d ≡ x

pub ending_of : {X : Type 0} (x : X) (d : (at_end x).Of) → Ending x d
ending_of x d = by d.0.mark d.0.label d.0.word d.1
  where
    by : (m lb : Mark) (w : Word) (b : OfBranch (at_kind (end_by x) m)) → Ending x (record { mark = m; label = lb; word = w }, b)
    by (plain (fixed kinds.End)) lb w b = record { mark = refl; text = λ r. refl; is = refl }
    by _ lb w b = absurd b

-- tokens in two parts, as what is seen of them
record Split (v : Vocabulary) (text : List ℕ) (ts : List Token) (a b : List Seen) : Type 0 where
  front : List Token
  back : List Token
  parts : ts ≡ front ++ back
  fronts : seen_all v text front ≡ a
  backs : seen_all v text back ≡ b

split : (v : Vocabulary) (text : List ℕ) (ts : List Token) (a b : List Seen) → seen_all v text ts ≡ a ++ b → Split v text ts a b
split v text ts [] b e = record { front = []; back = ts; parts = refl; fronts = refl; backs = e }
split v text [] (x ∷ a) b e = absurd cc
split v text (t ∷ ts) (x ∷ a) b e =
    let w = split v text ts a b (cc) in
    let same : seen v (lexeme text t) ≡ x = cc in
    record { front = t ∷ w.front; back = w.back; parts = ap (λ (us : List Token). t ∷ us) w.parts; fronts = rw (same, w.fronts) refl; backs = w.backs }

record LastEnd (v : Vocabulary) (text : List ℕ) (t : Seen) (r : List Seen) : Type 0 where
  none : r ≡ []
  sign : sign_of t ≡ ended

end_sign : (v : Vocabulary) (w : Word) (kind : TokenKind) → kind ≡ kinds.End → sign_of (seen v (record { kind = kind; word = w })) ≡ ended
end_sign v w kind e = subst (λ (k : TokenKind). sign_of (seen v (record { kind = k; word = w })) ≡ ended) (sym e) refl

last_end : (v : Vocabulary) (text : List ℕ) (ts front back : List Token) (t : Seen) (r : List Seen) → IsTokens 0 text ts → ts ≡ front ++ back → seen_all v text back ≡ t ∷ r → t.mark ≡ plain (fixed kinds.End) → LastEnd v text t r
last_end v text ts front [] t r h e is m = absurd cc
last_end v text ts front (u ∷ us) t r h e is m =
    let same : seen v (lexeme text u) ≡ t = cc in
    let rest : seen_all v text us ≡ r = cc in
    let kind = end_kind v.variables u.kind (lexeme text u).word (ap (λ (x : Seen). x.mark) same ∙ m) in
    let none : us ≡ [] = last_token 0 text ts front u us h e (ap is_end kind) in
    record {
      none = sym rest ∙ ap (seen_all v text) none;
      sign = ap sign_of (sym same) ∙ end_sign v (lexeme text u).word u.kind kind;
    }

-- ---- what is read

pub record TextGiven (p : System) (text : List ℕ) (f : Property) : Type 0 where
  pub whole : IsFormulaText p text f
  pub limits : limits.IsFormula (length p.variables) (length p.locations) f

pub text_given : (p : System) (text : List ℕ) (ts : List Token) (f : Property) (r : List Seen) → IsTokens 0 text ts → (text_at every 64).read (seen_all (words_of p) text ts) ≡ Ok (f, r) → TextGiven p text f
text_given p text ts f r h e =
    let w = (text_exact every 64).found (seen_all (words_of p) text ts) f r e in
    let d = w.it in
    let g : Property = (formula_at every 64).value d.0 in
    let c = ending_of g d.1 in
    let t : Seen = d.1.0 in
    let is : g ≡ f = sym c.is ∙ w.is in
    let whole : seen_all (words_of p) text ts ≡ (formula_at every 64).text d.0 (t ∷ r) = w.text ∙ ap ((formula_at every 64).text d.0) (c.text r) in
    let s = split (words_of p) text ts ((formula_at every 64).text d.0 []) (t ∷ r) (whole ∙ apart (formula_at every 64) (formula_exact every 64) d.0 (t ∷ r)) in
    let last = last_end (words_of p) text ts s.front s.back t r h s.parts s.backs c.mark in
    let signs_are : signs_of ((formula_at every 64).text d.0 (t ∷ r)) ≡ signs (words_of p) (lexemes text ts) = ap signs_of (sym whole) ∙ signs_same (words_of p) text ts in
    let rest : signs_of (t ∷ r) ≡ ended ∷ [] = ap (λ (us : List Seen). signs_of (t ∷ us)) last.none ∙ ap (λ (x : Sign). x ∷ []) last.sign in
    let one : IsFormula 64 f (signs_of ((formula_at every 64).text d.0 (t ∷ r))) (signs_of (t ∷ r)) = subst (λ (x : Property). IsFormula 64 x (signs_of ((formula_at every 64).text d.0 (t ∷ r))) (signs_of (t ∷ r))) is (formula_is 64 d.0 (t ∷ r)) in
    let here : IsFormula 64 f (signs_of (seen_all (words_of p) text ts)) (signs_of (t ∷ r)) = subst (λ (us : List Seen). IsFormula 64 f (signs_of us) (signs_of (t ∷ r))) (sym whole) one in
    record {
      whole = record {
        tokens = ts;
        scanned = h;
        derived = subst (λ (ss : List Sign). IsFormula 64 f ss (ended ∷ [])) signs_are (subst (λ (ss : List Sign). IsFormula 64 f (signs_of ((formula_at every 64).text d.0 (t ∷ r))) ss) rest one);
      };
      limits = formula_limits (words_of p) text ts f (signs_of (t ∷ r)) here;
    }

-- ---- what is refused

text_refuses : (n : ℕ) (k : Kind) (ts r : List Seen) → (text_at every n).read ts ≡ fault k r → Refuses text_at n k ts r
text_refuses n k ts r e = refuses text_at text_exact text_ends text_loose n k ts r e

fronts : (ts : List Token) (n : ℕ) → ts ≡ take n ts ++ drop n ts
fronts ts zero = refl
fronts [] (suc n) = refl
fronts (t ∷ ts) (suc n) = ap (λ (us : List Token). t ∷ us) (fronts ts n)

pub first_fault : (p : System) (text : List ℕ) (ts : List Token) (n : ℕ) (k : Kind) → IsTokens 0 text ts → (text_at every 64).read (seen_all (words_of p) text ts) ≡ fault k (seen_all (words_of p) text (drop n ts)) → IsFirstFault p text k (or_end (first (drop n ts))).at
first_fault p text ts n k h e = record {
  tokens = ts;
  scanned = h;
  before = take n ts;
  behind = drop n ts;
  parts = fronts ts n;
  place = refl;
  refuses = text_refuses 64 k (seen_all (words_of p) text ts) (seen_all (words_of p) text (drop n ts)) e;
}

pub refusal_is : (p : System) (text : List ℕ) (ts : List Token) (n : ℕ) (e : Reason) (f : FormulaFault) → IsTokens 0 text ts → Unless e ((text_at every 64).read (seen_all (words_of p) text ts) ≡ fault (kind_of e) (seen_all (words_of p) text (drop n ts))) → IsTold e f (or_end (first (drop n ts))).at → IsRefusal p text f
refusal_is p text ts n reasons.Syntax f h r t = rw t (first_fault p text ts n _ h r)
refusal_is p text ts n reasons.Wide f h r t = rw t (first_fault p text ts n _ h r)
refusal_is p text ts n reasons.Deep f h r t = rw t (first_fault p text ts n _ h r)
refusal_is p text ts n reasons.NotLinear f h r t = rw t (first_fault p text ts n _ h r)
refusal_is p text ts n reasons.TwoStarts f h r t = absurd t
refusal_is p text ts n reasons.TooMany f h r t = absurd t
refusal_is p text ts n reasons.UnknownName f h r t = rw t (first_fault p text ts n _ h r)
refusal_is p text ts n reasons.Memory f h r t = rw t tt

-- ---- a reading from the front of the text

module _ (p : System) (source : Source) (text : List ℕ) (list : List Token) (names : List Word) (s : Stand) (e : s ≡ readings.begun text list names false) (variables : names ≡ p.variables) (labels : source.labels.now ≡ p.locations) (scanned : IsTokens 0 text list) where
  begun_left : left source s ≡ seen_all (words_of p) text list
  begun_left = ap (left source) e ∙ rw (variables, labels) refl

  pub read_given : (f : Property) (r : List Seen) → (text_at every 64).read (left source s) ≡ Ok (f, r) → TextGiven p text f
  read_given f r h = text_given p text list f r scanned (ap (text_at every 64).read (sym begun_left) ∙ h)

  now_left : (u : Stand) → source.text.now ≡ text → source.list.now ≡ list → Stays source s u → left source u ≡ seen_all (words_of p) text (drop u.at list)
  now_left u is same h = rw (h.names ∙ ap (λ (x : Stand). x.names) e ∙ variables, h.over.text ∙ is, h.over.tokens ∙ same, labels) refl

  pub read_refused : (u : Stand) → source.text.now ≡ text → source.list.now ≡ list → Stays source s u → (e : Reason) (f : FormulaFault) (t : Token) → Unless e ((text_at every 64).read (left source s) ≡ fault (kind_of e) (left source u)) → t ≡ token_at u → IsTold e f t.at → IsRefusal p text f
  read_refused u is same h reason f t r at told =
      refusal_is p text list u.at reason f scanned
      (subst (λ (ts : List Seen). Unless reason ((text_at every 64).read ts ≡ fault (kind_of reason) (seen_all (words_of p) text (drop u.at list)))) begun_left
      (subst (λ (ts : List Seen). Unless reason ((text_at every 64).read (left source s) ≡ fault (kind_of reason) ts)) (now_left u is same h) r))
      (subst (λ (x : Token). IsTold reason f x.at) (at ∙ ap (λ (ts : List Token). or_end (first (drop u.at ts))) (h.over.tokens ∙ same)) told)

-- ---- a text of a formula is read

no_signs : (ts : List Seen) → signs_of ts ≡ [] → ts ≡ []
no_signs [] e = refl
no_signs (t ∷ ts) e = absurd cc

pub text_read : (p : System) (text : List ℕ) (ts : List Token) (f : Property) → IsTokens 0 text ts → IsFormulaText p text f → (text_at every 64).read (seen_all (words_of p) text ts) ≡ Ok (f, [])
text_read p text ts f h w =
    let same : w.tokens ≡ ts = one_list 0 text w.tokens ts w.scanned h in
    let signs_are : signs_of (seen_all (words_of p) text ts) ≡ signs (words_of p) (lexemes text w.tokens) = signs_same (words_of p) text ts ∙ ap (λ (us : List Token). signs (words_of p) (lexemes text us)) (sym same) in
    let b = back_text w.derived refl (seen_all (words_of p) text ts) signs_are in
    let none : b.left ≡ [] = no_signs b.left b.same in
    let whole : seen_all (words_of p) text ts ≡ (text_at every 64).text b.it [] = b.text ∙ ap ((text_at every 64).text b.it) none in
    ap (text_at every 64).read whole ∙ (text_exact every 64).only b.it [] (text_ends every 64 b.it) ∙ ap (λ (g : Property). Ok (g, [])) b.is

pub same_value : (f g : Property) (r s : List Seen) → good {E = Fault Seen Kind} {A = Property × List Seen} (f, r) ≡ Ok (g, s) → f ≡ g
same_value f g r s e = ap (λ (q : Property × List Seen). q.0) (ok_is {E = Fault Seen Kind} {A = Property × List Seen} (f, r) (g, s) e)

not_refused : (f : Property) (r : List Seen) (k : Kind) (s : List Seen) → good {E = Fault Seen Kind} {A = Property × List Seen} (f, r) ≡ fault k s → ⊥
not_refused f r k s e = cc

memory_only : {X : Type 0} (f : FormulaFault) (P : X → Type 0) → f ≡ faults.Memory → IsGiven (Err f) P
memory_only f P e = subst (λ (g : FormulaFault). IsGiven (Err g) P) (sym e) tt

-- a text of a formula is refused for want of memory alone
only_memory : {X : Type 0} (P : X → Type 0) (e : Reason) (g : FormulaFault) (at : ℕ) (out : Result (Property × List Seen) (Fault Seen Kind)) (f : Property) (s : List Seen) → out ≡ Ok (f, []) → Unless e (out ≡ fault (kind_of e) s) → IsTold e g at → IsGiven (Err g) P
only_memory P reasons.Syntax g at out f s o u t = absurd (not_refused f [] _ s (sym o ∙ u))
only_memory P reasons.Wide g at out f s o u t = absurd (not_refused f [] _ s (sym o ∙ u))
only_memory P reasons.Deep g at out f s o u t = absurd (not_refused f [] _ s (sym o ∙ u))
only_memory P reasons.NotLinear g at out f s o u t = absurd (not_refused f [] _ s (sym o ∙ u))
only_memory P reasons.TwoStarts g at out f s o u t = absurd t
only_memory P reasons.TooMany g at out f s o u t = absurd t
only_memory P reasons.UnknownName g at out f s o u t = absurd (not_refused f [] _ s (sym o ∙ u))
only_memory P reasons.Memory g at out f s o u t = memory_only g P t

module _ (p : System) (source : Source) (text : List ℕ) (list : List Token) (names : List Word) (s : Stand) (e : s ≡ readings.begun text list names false) (variables : names ≡ p.variables) (labels : source.labels.now ≡ p.locations) (scanned : IsTokens 0 text list) (f : Property) (w : IsFormulaText p text f) where
  whole_read : (text_at every 64).read (left source s) ≡ Ok (f, [])
  whole_read = ap (text_at every 64).read (begun_left p source text list names s e variables labels scanned) ∙ text_read p text list f scanned w

  pub read_same : (g : Property) (r : List Seen) → (text_at every 64).read (left source s) ≡ Ok (g, r) → g ≡ f
  read_same g r h = same_value g f r [] (sym h ∙ whole_read)

  pub read_only : {X : Type 0} (P : X → Type 0) (reason : Reason) (g : FormulaFault) (at : ℕ) (r : List Seen) → Unless reason ((text_at every 64).read (left source s) ≡ fault (kind_of reason) r) → IsTold reason g at → IsGiven (Err g) P
  read_only P reason g at r h t = only_memory P reason g at ((text_at every 64).read (left source s)) f r whole_read h t
