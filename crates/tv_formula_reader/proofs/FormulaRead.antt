-- Each formula is read.
use Rattle.std.proofs.Common.{◌≡◌, ℕ, zero, suc, Bool, true, false, List, [], ◌∷◌, ◌++◌, inl, inr, Option, Some, refl, sym, ap, subst, ◌∙◌, append_assoc}
use Rattle.std.proofs.lemmas.List.{append-nil}
use Rattle.std.proofs.lemmas.Slice.Eq.{bytes_eq-Decides}
use Rattle.std.specs.Prelude.{codes}
use Rattle.std.specs.Str.{bytes_eq}
use Rattle.tv_language.specs.declared.token.TokenKind.{TokenKind}
use Rattle.tv_language.specs.declared.token.TokenKind.TheVariants as kinds
use Rattle.tv_program.specs.declared.tree.Relation.{Relation}
use Rattle.tv_program.specs.Words.{Word}
use Rattle.tv_program.specs.Trees.{Expression}
use Rattle.tv_language.specs.Symbols.{label, fixed}
use Rattle.tv_language.specs.Sums.{IsSum}
use Rattle.tv_language.specs.Conditions.{relation_of}
use Rattle.tv_formula.specs.declared.tree.Path.{Path}
use Rattle.tv_formula.specs.declared.tree.Shape.{Shape}
use Rattle.tv_formula.specs.Properties.{Property, truth, compare, at, term, negated, all_of, some_of, fix}
use Rattle.tv_grammar.specs.Langs.{unit, then, mapped, headed, go, turns, OfBranch, branch_text, branch_value, done, turn, turns_text}
use Rattle.tv_reading.specs.Marks as marking
use Rattle.tv_reading.specs.Marks.{Syntax, Mark, plain, refused, symbol_of}
use Rattle.tv_reading.specs.SumGrammar.{every, sum_at}
use Rattle.tv_reading.proofs.SumTexts.{sum_is_read}
use Rattle.tv_formula_reader.specs.declared.operators.Single.{Single}
use Rattle.tv_formula_reader.specs.declared.operators.Operator.{Operator}
use Rattle.tv_formula_reader.specs.declared.operators.Operator.TheVariants.{One, Two}
use Rattle.tv_formula_reader.specs.Operators.{operator_of, applied}
use Rattle.tv_formula_reader.specs.Signs.{Sign, symbols_of}
use Rattle.tv_formula_reader.specs.Seen.{Seen, marks}
use Rattle.tv_formula_reader.specs.Choice.{Grammar, Behind}
use Rattle.tv_formula_reader.specs.FormulaTexts as texts
use Rattle.tv_formula_reader.specs.FormulaTexts.{joined, IsPlain, always, never, ends, located, denied, bracketed, IsArgument, enclosed, IsLiteral, comparison, AreLiterals, no_literal, and, IsConjunction, literals, AreConjunctions, no_conjunction, or, IsFormula, conjunctions}
use Rattle.tv_formula_reader.specs.FormulaGrammar as grammar
use Rattle.tv_reading.specs.ConditionGrammar.{is_and, is_or}
use Rattle.tv_formula_reader.specs.FormulaGrammar.{at_kind, opened, open_by, closed, close_by, behind_square, square_by, at_end, end_by, summed, relation_by, related_by, related, label_cases, labelled, place, word_by, word_cases, argument, operator_by, operated, of_one, of_two, plain_by, plain_over, below, more_by, more_cases, conjunction_from, conjunction_over, formula_from, plain_at, literal_at, formula_at, text_at}
use Rattle.tv_formula_reader.proofs.FormulaTexts.{sign_of, signs_of, symbols_same}
use Rattle.tv_reading.proofs.ConditionSteps.{stands as relation_stands}

-- these tokens are a derivation that stands for x, and then tokens of these signs
pub record Back {X : Type 0} (l : Grammar X) (x : X) (ts : List Seen) (rest : List Sign) : Type 0 where
  pub it : l.Of
  pub left : List Seen
  pub text : ts ≡ l.text it left
  pub same : signs_of left ≡ rest
  pub is : l.value it ≡ x

-- ---- parts put together

unit_back : {X : Type 0} (x : X) (ts : List Seen) (rest : List Sign) → signs_of ts ≡ rest → Back (unit x) x ts rest
unit_back x ts rest e = record { it = tt; left = ts; text = refl; same = e; is = refl }

record Derived {X : Type 0} (l : Grammar X) (x : X) (ts left : List Seen) : Type 0 where
  it : l.Of
  text : ts ≡ l.text it left
  is : l.value it ≡ x

back_then : {X Y : Type 0} (a : Grammar X) (b : X → Grammar Y) (x : X) (y : Y) (ts : List Seen) (us rest : List Sign) (p : Back a x ts us) → Back (b x) y p.left rest → Back (then a b) y ts rest
back_then {X} {Y} a b x y ts us rest p q =
    let r : Derived (b (a.value p.it)) y p.left q.left = subst (λ (z : X). Derived (b z) y p.left q.left) (sym p.is) (record { it = q.it; text = q.text; is = q.is }) in
    record { it = (p.it, r.it); left = q.left; text = p.text ∙ ap (a.text p.it) r.text; same = q.same; is = r.is }

back_mapped : {X Y : Type 0} (f : X → Y) (l : Grammar X) (x : X) (ts : List Seen) (rest : List Sign) → Back l x ts rest → Back (mapped f l) (f x) ts rest
back_mapped f l x ts rest p = record { it = (p.it, tt); left = p.left; text = p.text; same = p.same; is = ap f p.is }

-- ---- one token

record First (s : Sign) (ts : List Seen) (ss : List Sign) : Type 0 where
  token : Seen
  rest : List Seen
  text : ts ≡ token ∷ rest
  sign : sign_of token ≡ s
  same : signs_of rest ≡ ss

first_of : (s : Sign) (ts : List Seen) (ss : List Sign) → signs_of ts ≡ s ∷ ss → First s ts ss
first_of s [] ss e = absurd cc
first_of s (t ∷ ts) ss e = record { token = t; rest = ts; text = refl; sign = cc; same = cc }

mark_back : (m : Mark) (kind : TokenKind) → symbol_of m ≡ fixed kind → (kind ≡ kinds.Unread → ⊥) → m ≡ plain (fixed kind)
mark_back (plain s) kind e n = ap plain e
mark_back (refused k j) kind e n = let is : kinds.Unread ≡ kind = cc in absurd (n (sym is))

label_back : (m : Mark) (l : ℕ) → symbol_of m ≡ label l → m ≡ plain (label l)
label_back (plain s) l e = ap plain e
label_back (refused k j) l e = absurd cc

first_mark : (s : Sign) (ts : List Seen) (ss : List Sign) (f : First s ts ss) (kind : TokenKind) → s.symbol ≡ fixed kind → (kind ≡ kinds.Unread → ⊥) → f.token.mark ≡ plain (fixed kind)
first_mark s ts ss f kind e n = mark_back f.token.mark kind (ap (λ (x : Sign). x.symbol) f.sign ∙ e) n

-- a derivation of a branch
record Made {X : Type 0} (b : Behind X) (l : Grammar X) (d : l.Of) : Type 0 where
  it : OfBranch b
  text : (r : List Seen) → branch_text b it r ≡ l.text d r
  is : branch_value b it ≡ l.value d

made_go : {X : Type 0} (l : Grammar X) (d : l.Of) → Made (go l) l d
made_go l d = record { it = d; text = λ r. refl; is = refl }

made_kind : {X : Type 0} (f : TokenKind → Behind X) (l : Grammar X) (d : l.Of) (kind : TokenKind) (m : Mark) → m ≡ plain (fixed kind) → Made (f kind) l d → Made (at_kind f m) l d
made_kind f l d kind m e w = subst (λ (x : Mark). Made (at_kind f x) l d) (sym e) w

headed_back : {X : Type 0} (cases : Seen → Behind X) (l : Grammar X) (x : X) (ts us : List Seen) (rest : List Sign) (t : Seen) → ts ≡ t ∷ us → (b : Back l x us rest) → Made (cases t) l b.it → Back (headed Syntax cases) x ts rest
headed_back cases l x ts us rest t e b w = record { it = (t, w.it); left = b.left; text = e ∙ ap (λ (vs : List Seen). t ∷ vs) (b.text ∙ sym (w.text b.left)); same = b.same; is = w.is ∙ b.is }

opened_back : {X : Type 0} (l : Grammar X) (x : X) (ts : List Seen) (o : Sign) (ss rest : List Sign) (f : First o ts ss) → o.symbol ≡ fixed kinds.LeftRound → Back l x f.rest rest → Back (opened l) x ts rest
opened_back l x ts o ss rest f e b = headed_back (λ t. at_kind (open_by l) t.mark) l x ts f.rest rest f.token f.text b (made_kind (open_by l) l b.it kinds.LeftRound f.token.mark (first_mark o ts ss f kinds.LeftRound e (λ w. cc)) (made_go l b.it))

closed_back : {X : Type 0} (x : X) (ts : List Seen) (c : Sign) (rest : List Sign) → signs_of ts ≡ c ∷ rest → c.symbol ≡ fixed kinds.RightRound → Back (closed x) x ts rest
closed_back x ts c rest s e =
    let f = first_of c ts rest s in
    let b = unit_back x f.rest rest f.same in
    headed_back (λ t. at_kind (close_by x) t.mark) (unit x) x ts f.rest rest f.token f.text b (made_kind (close_by x) (unit x) b.it kinds.RightRound f.token.mark (first_mark c ts rest f kinds.RightRound e (λ w. cc)) (made_go (unit x) b.it))

square_back : {X : Type 0} (l : Grammar X) (x : X) (ts : List Seen) (c : Sign) (ss rest : List Sign) (f : First c ts ss) → c.symbol ≡ fixed kinds.RightSquare → Back l x f.rest rest → Back (behind_square l) x ts rest
square_back l x ts c ss rest f e b = headed_back (λ t. at_kind (square_by l) t.mark) l x ts f.rest rest f.token f.text b (made_kind (square_by l) l b.it kinds.RightSquare f.token.mark (first_mark c ts ss f kinds.RightSquare e (λ w. cc)) (made_go l b.it))

pub end_back : {X : Type 0} (x : X) (ts : List Seen) (c : Sign) (rest : List Sign) → signs_of ts ≡ c ∷ rest → c.symbol ≡ fixed kinds.End → Back (at_end x) x ts rest
end_back x ts c rest s e =
    let f = first_of c ts rest s in
    let b = unit_back x f.rest rest f.same in
    headed_back (λ t. at_kind (end_by x) t.mark) (unit x) x ts f.rest rest f.token f.text b (made_kind (end_by x) (unit x) b.it kinds.End f.token.mark (first_mark c ts rest f kinds.End e (λ w. cc)) (made_go (unit x) b.it))

-- ---- a comparison

record Parted (ts : List Seen) (a b : List Sign) : Type 0 where
  front : List Seen
  back : List Seen
  parts : ts ≡ front ++ back
  fronts : signs_of front ≡ a
  backs : signs_of back ≡ b

parted : (ts : List Seen) (a b : List Sign) → signs_of ts ≡ a ++ b → Parted ts a b
parted ts [] b e = record { front = []; back = ts; parts = refl; fronts = refl; backs = e }
parted [] (s ∷ a) b e = absurd cc
parted (t ∷ ts) (s ∷ a) b e =
    let w = parted ts a b (cc) in
    let same : sign_of t ≡ s = cc in
    record { front = t ∷ w.front; back = w.back; parts = ap (λ (us : List Seen). t ∷ us) w.parts; fronts = rw (same, w.fronts) refl; backs = w.backs }

no_marks : (ms : List Mark) → marking.symbols_of ms ≡ [] → ms ≡ []
no_marks [] e = refl
no_marks (m ∷ ms) e = absurd cc

sum_back : (n : ℕ) (a : Expression) (ts : List Seen) (ss rest : List Sign) → IsSum n a (symbols_of ss) [] → signs_of ts ≡ ss ++ rest → Back (summed every n) a ts rest
sum_back n a ts ss rest h e =
    let p = parted ts ss rest e in
    let same : marking.symbols_of (marks p.front) ≡ symbols_of ss = sym (symbols_same p.front) ∙ ap symbols_of p.fronts in
    let b = sum_is_read h (marks p.front) same in
    record {
      it = record { of = b.it; tokens = p.front; same = b.text ∙ ap ((sum_at every n true).text b.it) (no_marks b.left b.same) };
      left = p.back;
      text = p.parts;
      same = p.backs;
      is = b.is;
    }

made_relation : (a : Expression) (sum : Grammar Expression) (o : Option Relation) (r : Relation) → o ≡ Some r → (d : (mapped (compare r a) sum).Of) → Made (relation_by a sum o) (mapped (compare r a) sum) d
made_relation a sum o r e d = subst (λ (p : Option Relation). Made (relation_by a sum p) (mapped (compare r a) sum) d) (sym e) (made_go (mapped (compare r a) sum) d)

comparison_back : (n : ℕ) (a b : Expression) (kind : TokenKind) (r : Relation) (left : List Sign) (t : Sign) (right rest : List Sign) → IsSum n a (symbols_of left) [] → t.symbol ≡ fixed kind → relation_of kind ≡ Some r → IsSum n b (symbols_of right) [] → (ts : List Seen) → signs_of ts ≡ left ++ (t ∷ (right ++ rest)) → Back (grammar.comparison every n) (compare r a b) ts rest
comparison_back n a b kind r left t right rest p e is q ts s =
    let x = sum_back n a ts left (t ∷ (right ++ rest)) p s in
    let f = first_of t x.left (right ++ rest) x.same in
    let y = back_mapped (compare r a) (summed every n) b f.rest rest (sum_back n b f.rest right rest q f.same) in
    back_then (summed every n) (related (summed every n)) a (compare r a b) ts (t ∷ (right ++ rest)) rest x
    (headed_back (λ u. at_kind (related_by a (summed every n)) u.mark) (mapped (compare r a) (summed every n)) (compare r a b) x.left f.rest rest f.token f.text y
    (made_kind (related_by a (summed every n)) (mapped (compare r a) (summed every n)) y.it kind f.token.mark (first_mark t x.left (right ++ rest) f kind e (relation_stands kind r is)) (made_relation a (summed every n) (relation_of kind) r is y.it)))

-- ---- plain formulas

-- at the kind of the first token, whatever is below
plain_back : (n : ℕ) (l : Grammar Property) (g : Property) (ts : List Seen) (s : Sign) (ss rest : List Sign) (f : First s ts ss) (kind : TokenKind) → s.symbol ≡ fixed kind → (kind ≡ kinds.Unread → ⊥) → (b : Back l g f.rest rest) → Made (plain_by every (below every n) f.token.word kind) l b.it → Back (plain_over every (below every n)) g ts rest
plain_back n l g ts s ss rest f kind e other b w = headed_back (λ t. at_kind (plain_by every (below every n) t.word) t.mark) l g ts f.rest rest f.token f.text b (made_kind (plain_by every (below every n) f.token.word) l b.it kind f.token.mark (first_mark s ts ss f kind e other) w)

at_level : (n : ℕ) (g : Property) (ts : List Seen) (rest : List Sign) → Back (plain_over every (below every n)) g ts rest → Back (plain_at every n) g ts rest
unfolding plain_at
at_level zero g ts rest b = record { it = b.it; left = b.left; text = b.text; same = b.same; is = b.is }
at_level (suc n) g ts rest b = record { it = b.it; left = b.left; text = b.text; same = b.same; is = b.is }

made_true : (n : ℕ) (w : Word) → Made (plain_by every (below every n) w kinds.True) (unit (truth true)) tt
made_true zero w = made_go (unit (truth true)) tt
made_true (suc n) w = made_go (unit (truth true)) tt

made_false : (n : ℕ) (w : Word) → Made (plain_by every (below every n) w kinds.False) (unit (truth false)) tt
made_false zero w = made_go (unit (truth false)) tt
made_false (suc n) w = made_go (unit (truth false)) tt

-- the words `at` and `term`
made_word : (n : ℕ) (w : Word) (l : Grammar Property) (d : l.Of) → Made (word_cases every w) l d → Made (plain_by every (below every n) w kinds.Name) l d
made_word zero w l d m = record { it = m.it; text = m.text; is = m.is }
made_word (suc n) w l d m = record { it = m.it; text = m.text; is = m.is }

made_at : (w : Word) → w ≡ codes "at" → (d : (place every).Of) → Made (word_cases every w) (place every) d
made_at w e d = subst (λ (b : Bool). Made (word_by every b (bytes_eq w (codes "term"))) (place every) d) (sym ((bytes_eq-Decides w (codes "at")).1 e)) (made_go (place every) d)

made_term : (w : Word) → w ≡ codes "term" → Made (word_cases every w) (unit term) tt
made_term w e = subst (λ (x : Word). Made (word_cases every x) (unit term) tt) (sym e) (made_go (unit term) tt)

made_label : (m : Mark) (l : ℕ) → m ≡ plain (label l) → (d : (closed (at l)).Of) → Made (label_cases every m) (closed (at l)) d
made_label m l e d = subst (λ (x : Mark). Made (label_cases every x) (closed (at l)) d) (sym e) (made_go (closed (at l)) d)

made_operator : (l : Grammar Property) (o : Option Operator) (p : Path) (k : Single) → o ≡ Some (One p k) → (d : (of_one l p k).Of) → Made (operator_by l o) (of_one l p k) d
made_operator l o p k e d = subst (λ (x : Option Operator). Made (operator_by l x) (of_one l p k) d) (sym e) (made_go (of_one l p k) d)

made_shape : (l : Grammar Property) (o : Option Operator) (p : Path) (k : Shape) → o ≡ Some (Two p k) → (d : (of_two l p k).Of) → Made (operator_by l o) (of_two l p k) d
made_shape l o p k e d = subst (λ (x : Option Operator). Made (operator_by l x) (of_two l p k) d) (sym e) (made_go (of_two l p k) d)

label_read : (l : ℕ) (t c : Sign) (rest : List Sign) → t.label ≡ label l → c.symbol ≡ fixed kinds.RightRound → (ts : List Seen) → signs_of ts ≡ t ∷ c ∷ rest → Back (labelled every) (at l) ts rest
label_read l t c rest is e ts s =
    let f = first_of t ts (c ∷ rest) s in
    let b = closed_back (at l) f.rest c rest f.same e in
    headed_back (λ u. label_cases every u.label) (closed (at l)) (at l) ts f.rest rest f.token f.text b (made_label f.token.label l (label_back f.token.label l (ap (λ (x : Sign). x.label) f.sign ∙ is)) b.it)

record Turned (joins : TokenKind → Bool) (item : Grammar Property) (fs : List Property) (t : Seen) (d : item.Of) : Type 0 where
  it : OfBranch (more_cases joins item fs t)
  text : (r : List Seen) → branch_text (more_cases joins item fs t) it r ≡ item.text d r
  is : branch_value (more_cases joins item fs t) it ≡ fs ++ item.value d ∷ []

made_more : (item : Grammar Property) (fs : List Property) (d : item.Of) (b : Bool) → b ≡ true → Made (more_by item fs b) (mapped (λ f. fs ++ f ∷ []) item) (d, tt)
made_more item fs d b e = subst (λ (x : Bool). Made (more_by item fs x) (mapped (λ f. fs ++ f ∷ []) item) (d, tt)) (sym e) (made_go (mapped (λ f. fs ++ f ∷ []) item) (d, tt))

turned : (joins : TokenKind → Bool) (item : Grammar Property) (kind : TokenKind) → joins kind ≡ true → (fs : List Property) (t : Seen) → t.mark ≡ plain (fixed kind) → (d : item.Of) → Turned joins item fs t d
turned joins item kind on fs t m d =
    let w = made_kind (λ k. more_by item fs (joins k)) (mapped (λ f. fs ++ f ∷ []) item) (d, tt) kind t.mark m (made_more item fs d (joins kind) on) in
    record { it = w.it; text = w.text; is = w.is }

back_turn : (joins : TokenKind → Bool) (item : Grammar Property) (kind : TokenKind) → joins kind ≡ true → (kind ≡ kinds.Unread → ⊥) → (fs : List Property) (g : Property) (all : List Property) (ts : List Seen) (s : Sign) (ss us rest : List Sign) (f : First s ts ss) → s.symbol ≡ fixed kind → (p : Back item g f.rest us) → Back (turns (more_cases joins item) (fs ++ g ∷ [])) all p.left rest → Back (turns (more_cases joins item) fs) all ts rest
back_turn joins item kind on other fs g all ts s ss us rest f e p q =
    let r : Back (turns (more_cases joins item) (fs ++ item.value p.it ∷ [])) all p.left rest = subst (λ (x : Property). Back (turns (more_cases joins item) (fs ++ x ∷ [])) all p.left rest) (sym p.is) q in
    let w = turned joins item kind on fs f.token (first_mark s ts ss f kind e other) p.it in
    let v : Back (turns (more_cases joins item) (branch_value (more_cases joins item fs f.token) w.it)) all p.left rest = subst (λ (xs : List Property). Back (turns (more_cases joins item) xs) all p.left rest) (sym w.is) r in
    record {
      it = turn f.token w.it v.it;
      left = v.left;
      text = f.text ∙ ap (λ (ns : List Seen). f.token ∷ ns) (p.text ∙ ap (item.text p.it) v.text ∙ sym (w.text (turns_text (more_cases joins item) (branch_value (more_cases joins item fs f.token) w.it) v.it v.left)));
      same = v.same;
      is = v.is;
    }

literal_first : (n : ℕ) (g : Property) (ts : List Seen) (rest : List Sign) → Back (grammar.comparison every n) g ts rest → Back (literal_at every n) g ts rest
literal_first n g ts rest b = record { it = inl b.it; left = b.left; text = b.text; same = b.same; is = b.is }

literal_second : (n : ℕ) (g : Property) (ts : List Seen) (rest : List Sign) → Back (plain_at every n) g ts rest → Back (literal_at every n) g ts rest
literal_second n g ts rest b = record { it = inr b.it; left = b.left; text = b.text; same = b.same; is = b.is }

mutual
  back_plain : {n : ℕ} {g : Property} {ss rest : List Sign} → IsPlain n g ss rest → (ts : List Seen) → signs_of ts ≡ ss → Back (plain_at every n) g ts rest
  back_plain (always {n} {t} {rest} e) ts s =
      let f = first_of t ts rest s in
      at_level n (truth true) ts rest (plain_back n (unit (truth true)) (truth true) ts t rest rest f kinds.True e (λ w. cc) (unit_back (truth true) f.rest rest f.same) (made_true n f.token.word))
  back_plain (never {n} {t} {rest} e) ts s =
      let f = first_of t ts rest s in
      at_level n (truth false) ts rest (plain_back n (unit (truth false)) (truth false) ts t rest rest f kinds.False e (λ w. cc) (unit_back (truth false) f.rest rest f.same) (made_false n f.token.word))
  back_plain (ends {n} {t} {rest} e w) ts s =
      let f = first_of t ts rest s in
      let word : f.token.word ≡ codes "term" = ap (λ (x : Sign). x.word) f.sign ∙ w in
      at_level n term ts rest (plain_back n (unit term) term ts t rest rest f kinds.Name e (λ w. cc) (unit_back term f.rest rest f.same) (made_word n f.token.word (unit term) tt (made_term f.token.word word)))
  back_plain (located {n} {l} {a} {o} {t} {c} {rest} x w y is z) ts s =
      let f = first_of a ts (o ∷ t ∷ c ∷ rest) s in
      let word : f.token.word ≡ codes "at" = ap (λ (x : Sign). x.word) f.sign ∙ w in
      let g = first_of o f.rest (t ∷ c ∷ rest) f.same in
      let b = opened_back (labelled every) (at l) f.rest o (t ∷ c ∷ rest) rest g y (label_read l t c rest is z g.rest g.same) in
      at_level n (at l) ts rest (plain_back n (place every) (at l) ts a (o ∷ t ∷ c ∷ rest) rest f kinds.Name x (λ w. cc) b (made_word n f.token.word (place every) b.it (made_at f.token.word word b.it)))
  back_plain (denied {n} {t} {f = g} {ts = us} {rest} e p) ts s =
      let f = first_of t ts us s in
      let b = back_mapped negated (plain_at every n) g f.rest rest (back_plain p f.rest f.same) in
      at_level (suc n) (negated g) ts rest (plain_back (suc n) (mapped negated (plain_at every n)) (negated g) ts t us rest f kinds.Not e (λ w. cc) b (made_go (mapped negated (plain_at every n)) b.it))
  back_plain (bracketed {n} {f = g} (enclosed {o = o} {c = c} {ts = us} {rest = rest} x p z)) ts s =
      let f = first_of o ts us s in
      let q = back_formula p f.rest f.same in
      let b = back_then (formula_at every n) closed g g f.rest (c ∷ rest) rest q (closed_back g q.left c rest q.same z) in
      at_level (suc n) g ts rest (plain_back (suc n) (then (formula_at every n) closed) g ts o us rest f kinds.LeftRound x (λ w. cc) b (made_go (then (formula_at every n) closed) b.it))
  back_plain (texts.of_one {n} {o} {t} {c} {p} {k} {f = g} {ts = us} {rest} x y z a) ts s =
      let f = first_of o ts (t ∷ c ∷ us) s in
      let h = first_of t f.rest (c ∷ us) f.same in
      let i = first_of c h.rest us h.same in
      let b = square_back (mapped (applied p k) (argument (formula_at every n))) (applied p k g) h.rest c us rest i z (back_mapped (applied p k) (argument (formula_at every n)) g i.rest rest (back_argument a i.rest i.same)) in
      let word : operator_of h.token.word ≡ Some (One p k) = ap (λ (x : Sign). operator_of x.word) h.sign ∙ y in
      let q = headed_back (λ u. operator_by (formula_at every n) (operator_of u.word)) (of_one (formula_at every n) p k) (applied p k g) f.rest h.rest rest h.token h.text b (made_operator (formula_at every n) (operator_of h.token.word) p k word b.it) in
      at_level (suc n) (applied p k g) ts rest (plain_back (suc n) (operated (formula_at every n)) (applied p k g) ts o (t ∷ c ∷ us) rest f kinds.LeftSquare x (λ w. cc) q (made_go (operated (formula_at every n)) q.it))
  back_plain (texts.of_two {n} {o} {t} {c} {p} {s = k} {f = g} {g = e} {ts = us} {us = vs} {rest} x y z a d) ts s =
      let f = first_of o ts (t ∷ c ∷ us) s in
      let h = first_of t f.rest (c ∷ us) f.same in
      let i = first_of c h.rest us h.same in
      let one = back_argument a i.rest i.same in
      let two = back_mapped (fix p k g) (argument (formula_at every n)) e one.left rest (back_argument d one.left one.same) in
      let b = square_back (then (argument (formula_at every n)) (λ m. mapped (fix p k m) (argument (formula_at every n)))) (fix p k g e) h.rest c us rest i z (back_then (argument (formula_at every n)) (λ m. mapped (fix p k m) (argument (formula_at every n))) g (fix p k g e) i.rest vs rest one two) in
      let word : operator_of h.token.word ≡ Some (Two p k) = ap (λ (x : Sign). operator_of x.word) h.sign ∙ y in
      let q = headed_back (λ u. operator_by (formula_at every n) (operator_of u.word)) (of_two (formula_at every n) p k) (fix p k g e) f.rest h.rest rest h.token h.text b (made_shape (formula_at every n) (operator_of h.token.word) p k word b.it) in
      at_level (suc n) (fix p k g e) ts rest (plain_back (suc n) (operated (formula_at every n)) (fix p k g e) ts o (t ∷ c ∷ us) rest f kinds.LeftSquare x (λ w. cc) q (made_go (operated (formula_at every n)) q.it))

  back_argument : {n : ℕ} {g : Property} {ss rest : List Sign} → IsArgument n g ss rest → (ts : List Seen) → signs_of ts ≡ ss → Back (argument (formula_at every n)) g ts rest
  back_argument (enclosed {n} {o} {c} {f = g} {ts = us} {rest} x p z) ts s =
      let f = first_of o ts us s in
      let q = back_formula p f.rest f.same in
      opened_back (then (formula_at every n) closed) g ts o us rest f x (back_then (formula_at every n) closed g g f.rest (c ∷ rest) rest q (closed_back g q.left c rest q.same z))

  back_literal : {n : ℕ} {g : Property} {ss rest : List Sign} → IsLiteral n g ss rest → (ts : List Seen) → signs_of ts ≡ ss → Back (literal_at every n) g ts rest
  back_literal (texts.plain {n} {f = g} {ts = ss} {rest} p) ts s = literal_second n g ts rest (back_plain p ts s)
  back_literal (comparison {n} {a} {b} {kind} {relation = r} {rest} left t right p e is q) ts s = literal_first n (compare r a b) ts rest (comparison_back n a b kind r left t right rest p e is q ts s)

  back_ands : {n : ℕ} {gs : List Property} {ss rest : List Sign} → AreLiterals n gs ss rest → (fs : List Property) (ts : List Seen) → signs_of ts ≡ ss → Back (turns (more_cases is_and (literal_at every n)) fs) (fs ++ gs) ts rest
  back_ands no_literal fs ts s = record { it = done; left = ts; text = refl; same = s; is = sym (append-nil fs) }
  back_ands (and {n} {t} {f = g} {fs = gs} {ts = ss} {us} {rest} e p ps) fs ts s =
      let f = first_of t ts ss s in
      let q = back_literal p f.rest f.same in
      let r = back_ands ps (fs ++ g ∷ []) q.left q.same in
      back_turn is_and (literal_at every n) kinds.And refl (λ w. cc) fs g (fs ++ g ∷ gs) ts t ss us rest f e q (subst (λ (x : List Property). Back (turns (more_cases is_and (literal_at every n)) (fs ++ g ∷ [])) x q.left rest) (append_assoc fs (g ∷ []) gs) r)

  back_conjunction : {n : ℕ} {g : Property} {ss rest : List Sign} → IsConjunction n g ss rest → (ts : List Seen) → signs_of ts ≡ ss → Back (conjunction_over (literal_at every n)) g ts rest
  back_conjunction (literals {n} {f = g} {fs = gs} {ts = ss} {us} {rest} p ps) ts s =
      let q = back_literal p ts s in
      back_then (literal_at every n) (conjunction_from (literal_at every n)) g (joined all_of (g ∷ gs)) ts us rest q (back_mapped (joined all_of) (turns (more_cases is_and (literal_at every n)) (g ∷ [])) (g ∷ gs) q.left rest (back_ands ps (g ∷ []) q.left q.same))

  back_ors : {n : ℕ} {gs : List Property} {ss rest : List Sign} → AreConjunctions n gs ss rest → (fs : List Property) (ts : List Seen) → signs_of ts ≡ ss → Back (turns (more_cases is_or (conjunction_over (literal_at every n))) fs) (fs ++ gs) ts rest
  back_ors no_conjunction fs ts s = record { it = done; left = ts; text = refl; same = s; is = sym (append-nil fs) }
  back_ors (or {n} {t} {f = g} {fs = gs} {ts = ss} {us} {rest} e p ps) fs ts s =
      let f = first_of t ts ss s in
      let q = back_conjunction p f.rest f.same in
      let r = back_ors ps (fs ++ g ∷ []) q.left q.same in
      back_turn is_or (conjunction_over (literal_at every n)) kinds.Or refl (λ w. cc) fs g (fs ++ g ∷ gs) ts t ss us rest f e q (subst (λ (x : List Property). Back (turns (more_cases is_or (conjunction_over (literal_at every n))) (fs ++ g ∷ [])) x q.left rest) (append_assoc fs (g ∷ []) gs) r)

  pub back_formula : {n : ℕ} {g : Property} {ss rest : List Sign} → IsFormula n g ss rest → (ts : List Seen) → signs_of ts ≡ ss → Back (formula_at every n) g ts rest
  back_formula (conjunctions {n} {f = g} {fs = gs} {ts = ss} {us} {rest} p ps) ts s =
      let q = back_conjunction p ts s in
      back_then (conjunction_over (literal_at every n)) (formula_from (conjunction_over (literal_at every n))) g (joined some_of (g ∷ gs)) ts us rest q (back_mapped (joined some_of) (turns (more_cases is_or (conjunction_over (literal_at every n))) (g ∷ [])) (g ∷ gs) q.left rest (back_ors ps (g ∷ []) q.left q.same))

-- a formula and the end of the text
pub back_text : {n : ℕ} {g : Property} {ss rest : List Sign} {c : Sign} → IsFormula n g ss (c ∷ rest) → c.symbol ≡ fixed kinds.End → (ts : List Seen) → signs_of ts ≡ ss → Back (text_at every n) g ts rest
back_text {n} {g} {ss} {rest} {c} p e ts s =
    let q = back_formula p ts s in
    back_then (formula_at every n) at_end g g ts (c ∷ rest) rest q (end_back g q.left c rest q.same e)
