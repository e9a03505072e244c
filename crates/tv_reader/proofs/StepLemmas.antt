-- One token that is taken, and the tokens of a sum or a condition.
use Rattle.std.proofs.Common.{◌≡◌, ℕ, suc, ◌+◌, ◌-◌, ◌^◌, ◌<◌, Bool, true, false, cond, List, [], ◌∷◌, ◌++◌, length, drop, Option, Some, None, refl, ap, sym, subst, ◌∙◌, append_assoc, arith}
use Rattle.std.proofs.lemmas.List.{drop-drop, length-drop, append_cancel_right}
use Rattle.std.proofs.lemmas.Bool.Decides.{nat_tests}
use Rattle.std.specs.Prelude.{is_some, nat_lt, nat_le, ◌&&◌, ◌||◌, not}
use Rattle.tv_language.specs.declared.token.TokenKind.{TokenKind}
use Rattle.tv_language.specs.declared.token.TokenKind.TheVariants as kinds
use Rattle.tv_language.specs.declared.token.Token.{Token}
use Rattle.tv_language.specs.Numbers.{value_of_digits}
use Rattle.tv_program.specs.Words.{Word, number_of, with_new}
use Rattle.tv_language.specs.Symbols as symbols
use Rattle.tv_language.specs.Symbols.{name, drawn, fixed, lexeme, lexemes, Vocabulary, is_colon, variable_words, variable_by}
use Rattle.tv_grammar.specs.Reads.{next}
use Rattle.tv_reading.specs.Marks as marks
use Rattle.tv_reading.specs.Marks.{Mark, plain, refused, symbol_of, symbols_of, TooMany, Stand, past, first, Passes, stay, pass}
use Rattle.tv_reading.specs.Readings.{taken, token_at, or_end}
use Rattle.tv_reading.proofs.PassedLemmas.{between, here_is, symbols-append, passes_kept}
use Rattle.tv_reader.specs.ProgramMarks.{mark_by, draws_behind, marks_from}
use Rattle.tv_reader.specs.ProgramMarks as own
use Rattle.tv_reading.specs.Views.{is_last}
use Rattle.tv_reader.specs.Readers.{is_closed, are_known, is_passing, Steady}
use Rattle.tv_reading.proofs.SymbolLemmas.{body, all_body, draws_at, draws_at_all, draws-append}
use Rattle.std.proofs.lemmas.Bool.{and_from, and_parts}

-- ---- the token that comes

pub record Here (s : Stand) : Type 0 where
  pub token : Token
  pub rest : List Token
  pub parts : drop s.at s.tokens ≡ token ∷ rest
  pub is : token_at s ≡ token

pub here : (s : Stand) → is_closed (drop s.at s.tokens) ≡ true → Here s
here s h = by (drop s.at s.tokens) refl h
  where
    by : (ts : List Token) → drop s.at s.tokens ≡ ts → is_closed ts ≡ true → Here s
    by [] e c = absurd cc
    by (t ∷ ts) e c = record { token = t; rest = ts; parts = e; is = ap (λ (us : List Token). or_end (first us)) e }

pub behind_is : (s : Stand) (h : Here s) → drop (s.at + 1) s.tokens ≡ h.rest
behind_is s h = sym (drop-drop 1 s.at s.tokens) ∙ ap (drop 1) h.parts

closed_behind : (t : Token) (ts : List Token) → is_closed (t ∷ ts) ≡ true → is_last t.kind ≡ false → is_closed ts ≡ true
closed_behind t [] c l = absurd cc
closed_behind t (u ∷ us) c l = (and_parts _ _ c).1

longer : (t : Token) (ts : List Token) → is_closed (t ∷ ts) ≡ true → is_last t.kind ≡ false → 1 < length (t ∷ ts)
longer t [] c l = absurd cc
longer t (u ∷ us) c l = omega arith

pub moves : (s : Stand) (h : Here s) → is_closed (drop s.at s.tokens) ≡ true → is_last h.token.kind ≡ false → (taken s).at ≡ s.at + 1
moves s h c l =
    let long : 1 < length (h.token ∷ h.rest) = longer h.token h.rest (ap is_closed (sym h.parts) ∙ c) l in
    let counted : length (h.token ∷ h.rest) ≡ length s.tokens - s.at = ap length (sym h.parts) ∙ length-drop s.at s.tokens in
    let less : s.at < length s.tokens - 1 = omega (arith, long, counted) in
    let on : nat_lt s.at (length s.tokens - 1) ≡ true = grind (arith, nat_tests) in
    ap (λ (b : Bool). cond b (s.at + 1) s.at) on

-- the tokens that are left, with these labels
abbrev pub left_of : List Word → Bool → Stand → List Mark
left_of labels b s = marks_from (record { variables = s.names; labels = labels }) b s.draws (lexemes s.text (drop s.at s.tokens))

abbrev pub mark_of : List Word → Bool → Stand → Mark
mark_of labels b s = mark_by (record { variables = s.names; labels = labels }) b s.draws (token_at s).kind (lexeme s.text (token_at s)).word

pub next_is : (labels : List Word) (b : Bool) (s : Stand) → is_closed (drop s.at s.tokens) ≡ true → next (left_of labels b s) ≡ Some (mark_of labels b s)
unfolding marks_from
next_is labels b s c =
    let h = here s c in
    ap (λ (ts : List Token). next (marks_from (record { variables = s.names; labels = labels }) b s.draws (lexemes s.text ts))) h.parts
    ∙ ap (λ (t : Token). Some (mark_by (record { variables = s.names; labels = labels }) b s.draws t.kind (lexeme s.text t).word)) (sym h.is)

-- ---- a reading whose names are known

known_front : (names : List Word) (b : Bool) (kind : TokenKind) (w : Word) (ws : List Word) → are_known names (variable_by b kind w ws) ≡ true → are_known names ws ≡ true
known_front names b kind w ws h = by (not b && symbols.is_name kind) h
  where
    by : (c : Bool) → are_known names (symbols.in_front c w ws) ≡ true → are_known names ws ≡ true
    by true g = (and_parts _ _ g).1
    by false g = g

known_behind : (s : Stand) (b : Bool) (h : Here s) → are_known s.names (variable_words b (lexemes s.text (drop s.at s.tokens))) ≡ true → are_known s.names (variable_words (is_colon h.token.kind) (lexemes s.text h.rest)) ≡ true
known_behind s b h k = known_front s.names b h.token.kind (lexeme s.text h.token).word (variable_words (is_colon h.token.kind) (lexemes s.text h.rest)) (ap (λ (ts : List Token). are_known s.names (variable_words b (lexemes s.text ts))) (sym h.parts) ∙ k)

-- after a token that is taken
pub steady_taken : (b : Bool) (s : Stand) → Steady b s → is_last (token_at s).kind ≡ false → Steady (is_colon (token_at s).kind) (taken s)
steady_taken b s w l =
    let h = here s w.closed in
    let kind : (token_at s).kind ≡ h.token.kind = ap (λ (t : Token). t.kind) h.is in
    let last : is_last h.token.kind ≡ false = ap is_last (sym kind) ∙ l in
    let at : drop (taken s).at s.tokens ≡ h.rest = ap (λ (n : ℕ). drop n s.tokens) (moves s h w.closed last) ∙ behind_is s h in
    record {
      grows = w.grows;
      level = w.level;
      within = w.within;
      known = ap (λ (ts : List Token). are_known s.names (variable_words (is_colon (token_at s).kind) (lexemes s.text ts))) at ∙ ap (λ (k : TokenKind). are_known s.names (variable_words (is_colon k) (lexemes s.text h.rest))) kind ∙ known_behind s b h w.known;
      closed = ap is_closed at ∙ closed_behind h.token h.rest (ap is_closed (sym h.parts) ∙ w.closed) last;
    }

passing_last : (kind : TokenKind) → is_passing kind ≡ true → is_last kind ≡ false
passing_last kinds.End e = absurd cc
passing_last kinds.Unread e = absurd cc
passing_last kind e = refl

passing_draws : (kind : TokenKind) (d : ℕ) → is_passing kind ≡ true → draws_behind kind d ≡ d
passing_draws kinds.From d e = absurd cc
passing_draws kinds.Nondet d e = absurd cc
passing_draws kind d e = refl

pub steady_passing : (b : Bool) (s : Stand) → Steady b s → is_passing (token_at s).kind ≡ true → Steady (is_colon (token_at s).kind) (taken s)
steady_passing b s w p = steady_taken b s w (passing_last (token_at s).kind p)

-- the token that is taken, and those after it, whose draws are counted from here on
pub left_taken : (labels : List Word) (b : Bool) (s : Stand) (d : ℕ) → Steady b s → is_last (token_at s).kind ≡ false → draws_behind (token_at s).kind s.draws ≡ d → left_of labels b s ≡ mark_of labels b s ∷ marks_from (record { variables = s.names; labels = labels }) (is_colon (token_at s).kind) d (lexemes s.text (drop (taken s).at s.tokens))
unfolding marks_from
left_taken labels b s d w l e =
    let v : Vocabulary = record { variables = s.names; labels = labels } in
    let h = here s w.closed in
    let kind : (token_at s).kind ≡ h.token.kind = ap (λ (t : Token). t.kind) h.is in
    let last : is_last h.token.kind ≡ false = ap is_last (sym kind) ∙ l in
    let at : drop (taken s).at s.tokens ≡ h.rest = ap (λ (n : ℕ). drop n s.tokens) (moves s h w.closed last) ∙ behind_is s h in
    ap (λ (ts : List Token). marks_from v b s.draws (lexemes s.text ts)) h.parts
    ∙ ap (λ (t : Token). mark_by v b s.draws t.kind (lexeme s.text t).word ∷ marks_from v (is_colon t.kind) (draws_behind t.kind s.draws) (lexemes s.text h.rest)) (sym h.is)
    ∙ ap (λ (k : ℕ). mark_of labels b s ∷ marks_from v (is_colon (token_at s).kind) k (lexemes s.text h.rest)) e
    ∙ ap (λ (ts : List Token). mark_of labels b s ∷ marks_from v (is_colon (token_at s).kind) d (lexemes s.text ts)) (sym at)

pub left_passing : (labels : List Word) (b : Bool) (s : Stand) → Steady b s → is_passing (token_at s).kind ≡ true → left_of labels b s ≡ mark_of labels b s ∷ left_of labels (is_colon (token_at s).kind) (taken s)
left_passing labels b s w p = left_taken labels b s s.draws w (passing_last (token_at s).kind p) (passing_draws (token_at s).kind s.draws p)

-- ---- the marks of a reading are those of the text

known_name : (o : Option ℕ) (count : ℕ) → (is_some o || nat_le 512 count) ≡ true → marks.new_name o count ≡ own.numbered kinds.Name name o
known_name (Some k) count h = refl
known_name None count h = let less : nat_lt count 512 ≡ false = grind (arith, nat_tests) in ap (λ (b : Bool). cond b (plain (name count)) (refused TooMany kinds.Name)) less

kept_names : (o : Option ℕ) (w : Word) (names : List Word) → (is_some o || nat_le 512 (length names)) ≡ true → cond (nat_lt (length names) 512) (with_new o w names) names ≡ names
kept_names (Some k) w names h = by (nat_lt (length names) 512)
  where
    by : (b : Bool) → cond b names names ≡ names
    by true = refl
    by false = refl
kept_names None w names h = let less : nat_lt (length names) 512 ≡ false = grind (arith, nat_tests) in ap (λ (b : Bool). cond b (with_new None w names) names) less

same_mark : (names labels : List Word) (d : ℕ) (kind : TokenKind) (w : Word) (ws : List Word) → are_known names (variable_by false kind w ws) ≡ true → marks.mark_by true names d kind w ≡ mark_by (record { variables = names; labels = labels }) false d kind w
same_mark names labels d kinds.Name w ws k = known_name (number_of w names) (length names) ((and_parts _ _ k).0)
same_mark names labels d kinds.Number w ws k = refl
same_mark names labels d kinds.Nondet w ws k = refl
same_mark names labels d kind w ws k = refl

-- a token of a sum or a condition
record Inner (names : List Word) (d : ℕ) (kind : TokenKind) (w : Word) : Type 0 where
  colon : is_colon kind ≡ false
  last : is_last kind ≡ false
  names_stay : marks.names_behind true kind w names ≡ names
  draws : draws_behind kind d ≡ marks.draws_behind kind d
  counted : marks.draws_behind kind d ≡ d + draws_at (symbol_of (marks.mark_by true names d kind w))

draw_counted : (b : Bool) (d : ℕ) → body (symbol_of (cond b (plain (drawn d)) (refused TooMany kinds.Nondet))) ≡ true → cond b (suc d) d ≡ d + draws_at (symbol_of (cond b (plain (drawn d)) (refused TooMany kinds.Nondet)))
draw_counted true d h = omega arith
draw_counted false d h = absurd cc

name_counted : (b : Bool) (o : Option ℕ) (count d : ℕ) → d ≡ d + draws_at (symbol_of (marks.new_name o count))
name_counted b (Some k) count d = omega arith
name_counted b None count d = by (nat_lt count 512)
  where
    by : (b : Bool) → d ≡ d + draws_at (symbol_of (cond b (plain (name count)) (refused TooMany kinds.Name)))
    by true = omega arith
    by false = omega arith

number_counted : (b : Bool) (n d : ℕ) → d ≡ d + draws_at (symbol_of (cond b (plain (symbols.number n)) (plain (fixed kinds.Wide))))
number_counted true n d = omega arith
number_counted false n d = omega arith

inner : (names : List Word) (d : ℕ) (kind : TokenKind) (w : Word) (ws : List Word) → are_known names (variable_by false kind w ws) ≡ true → body (symbol_of (marks.mark_by true names d kind w)) ≡ true → Inner names d kind w
inner names d kinds.Name w ws k h = record { colon = refl; last = refl; names_stay = kept_names (number_of w names) w names ((and_parts _ _ k).0); draws = refl; counted = name_counted true (number_of w names) (length names) d }
inner names d kinds.Number w ws k h = record { colon = refl; last = refl; names_stay = refl; draws = refl; counted = number_counted (nat_lt (value_of_digits w) (2 ^ 62)) (value_of_digits w) d }
inner names d kinds.Nondet w ws k h = record { colon = refl; last = refl; names_stay = refl; draws = refl; counted = draw_counted (nat_lt d 64) d h }
inner names d kinds.Colon w ws k h = absurd cc
inner names d kinds.From w ws k h = absurd cc
inner names d kinds.End w ws k h = absurd cc
inner names d kinds.Unread w ws k h = absurd cc
inner names d kind w ws k h = record { colon = refl; last = refl; names_stay = refl; draws = refl; counted = omega arith }

-- ---- the tokens that a sum or a condition has

-- What is passed is the same in the text, and where reading then stands it is steady.
pub record Travels (labels : List Word) (s u : Stand) (passed : List Mark) : Type 0 where
  pub mine : left_of labels false s ≡ passed ++ left_of labels false u
  pub steady : Steady false u
  pub names : u.names ≡ s.names
  pub draws : u.draws ≡ s.draws + draws_at_all (symbols_of passed)

first_here : (u : Stand) (t : Token) (h : Here u) → first (drop u.at u.tokens) ≡ Some t → h.token ≡ t
first_here u t h e = let same : Some h.token ≡ Some t = sym (ap first h.parts) ∙ e in cc

module _ (labels : List Word) (u : Stand) (t : Token) (at : first (drop u.at u.tokens) ≡ Some t) (w : Steady false u) (h : body (symbol_of (marks.mark_by u.grows u.names u.draws t.kind (lexeme u.text t).word)) ≡ true) where
  one_known : (g : Here u) → are_known u.names (variable_by false t.kind (lexeme u.text t).word (variable_words (is_colon t.kind) (lexemes u.text g.rest))) ≡ true
  one_known g = subst (λ (x : Token). are_known u.names (variable_by false x.kind (lexeme u.text x).word (variable_words (is_colon x.kind) (lexemes u.text g.rest))) ≡ true) (first_here u t g at) (ap (λ (ts : List Token). are_known u.names (variable_words false (lexemes u.text ts))) (sym g.parts) ∙ w.known)

  one_inner : Inner u.names u.draws t.kind (lexeme u.text t).word
  one_inner = let g = here u w.closed in inner u.names u.draws t.kind (lexeme u.text t).word (variable_words (is_colon t.kind) (lexemes u.text g.rest)) (one_known g) (ap (λ (b : Bool). body (symbol_of (marks.mark_by b u.names u.draws t.kind (lexeme u.text t).word))) (sym w.grows) ∙ h)

  one_mine : left_of labels false u ≡ marks.mark_by u.grows u.names u.draws t.kind (lexeme u.text t).word ∷ left_of labels false (past u t)
  unfolding marks_from
  one_mine =
      let v : Vocabulary = record { variables = u.names; labels = labels } in
      let g = here u w.closed in
      let i = one_inner in
      let word : Word = (lexeme u.text t).word in
      let same : mark_by v false u.draws t.kind word ≡ marks.mark_by u.grows u.names u.draws t.kind word = sym (same_mark u.names labels u.draws t.kind word (variable_words (is_colon t.kind) (lexemes u.text g.rest)) (one_known g)) ∙ ap (λ (b : Bool). marks.mark_by b u.names u.draws t.kind word) (sym w.grows) in
      ap (λ (ts : List Token). marks_from v false u.draws (lexemes u.text ts)) (g.parts ∙ ap (λ (x : Token). x ∷ g.rest) (first_here u t g at))
      ∙ ap (λ (m : Mark). m ∷ marks_from v (is_colon t.kind) (draws_behind t.kind u.draws) (lexemes u.text g.rest)) same
      ∙ ap (λ (b : Bool). marks.mark_by u.grows u.names u.draws t.kind word ∷ marks_from v b (draws_behind t.kind u.draws) (lexemes u.text g.rest)) i.colon
      ∙ ap (λ (d : ℕ). marks.mark_by u.grows u.names u.draws t.kind word ∷ marks_from v false d (lexemes u.text g.rest)) i.draws
      ∙ ap (λ (ns : List Word). marks.mark_by u.grows u.names u.draws t.kind word ∷ marks_from (record { variables = ns; labels = labels }) false (past u t).draws (lexemes u.text g.rest)) (sym i.names_stay ∙ ap (λ (b : Bool). marks.names_behind b t.kind word u.names) (sym w.grows))
      ∙ ap (λ (ts : List Token). marks.mark_by u.grows u.names u.draws t.kind word ∷ marks_from (record { variables = (past u t).names; labels = labels }) false (past u t).draws (lexemes u.text ts)) (sym (behind_is u g))

  one_names : (past u t).names ≡ u.names
  one_names = ap (λ (b : Bool). marks.names_behind b t.kind (lexeme u.text t).word u.names) w.grows ∙ one_inner.names_stay

  one_steady : Steady false (past u t)
  one_steady =
      let g = here u w.closed in
      let i = one_inner in
      let is : g.token ≡ t = first_here u t g at in
      let k = passes_kept u (past u t) (pass (stay u) at) in
      let rest : drop (past u t).at u.tokens ≡ g.rest = behind_is u g in
      record {
        grows = w.grows;
        level = w.level;
        within = k.within w.within;
        known =
            ap (λ (ns : List Word). are_known ns (variable_words false (lexemes u.text (drop (past u t).at u.tokens)))) one_names
            ∙ ap (λ (ts : List Token). are_known u.names (variable_words false (lexemes u.text ts))) rest
            ∙ ap (λ (b : Bool). are_known u.names (variable_words b (lexemes u.text g.rest))) (sym (ap (λ (x : Token). is_colon x.kind) is ∙ i.colon))
            ∙ known_behind u false g w.known;
        closed = ap is_closed rest ∙ closed_behind g.token g.rest (ap is_closed (sym g.parts) ∙ w.closed) (ap (λ (x : Token). is_last x.kind) is ∙ i.last);
      }

  one_draws : (past u t).draws ≡ u.draws + draws_at (symbol_of (marks.mark_by u.grows u.names u.draws t.kind (lexeme u.text t).word))
  one_draws = one_inner.counted ∙ ap (λ (b : Bool). u.draws + draws_at (symbol_of (marks.mark_by b u.names u.draws t.kind (lexeme u.text t).word))) (sym w.grows)

body_parts : (a : List Mark) (m : Mark) → all_body (symbols_of (a ++ m ∷ [])) ≡ true → (all_body (symbols_of a) ≡ true) × (body (symbol_of m) ≡ true)
body_parts [] m h = (refl, (and_parts _ _ h).0)
body_parts (x ∷ a) m h = let w = body_parts a m ((and_parts _ _ h).1) in (and_from _ _ ((and_parts _ _ h).0) w.0, w.1)

pub travels : (labels : List Word) {s u : Stand} → Passes s u → Steady false s → (passed : List Mark) → marks.left s ≡ passed ++ marks.left u → all_body (symbols_of passed) ≡ true → Travels labels s u passed
travels labels (stay s) w passed e h =
    let none : passed ≡ [] = append_cancel_right passed [] (marks.left s) (sym e) in
    subst (λ (ms : List Mark). Travels labels s s ms) (sym none) (record { mine = refl; steady = w; names = refl; draws = omega arith })
travels labels (pass {s} {u} {t} p at) w passed e h =
    let c = between p in
    let m : Mark = marks.mark_by u.grows u.names u.draws t.kind (lexeme u.text t).word in
    let parts : marks.left s ≡ (c.passed ++ m ∷ []) ++ marks.left (past u t) = c.parts ∙ ap (λ (ms : List Mark). c.passed ++ ms) (here_is u t at) ∙ sym (append_assoc c.passed (m ∷ []) (marks.left (past u t))) in
    let is : c.passed ++ m ∷ [] ≡ passed = append_cancel_right (c.passed ++ m ∷ []) passed (marks.left (past u t)) (sym parts ∙ e) in
    let o = body_parts c.passed m (ap (λ (ms : List Mark). all_body (symbols_of ms)) is ∙ h) in
    let b = travels labels p w c.passed c.parts o.0 in
    let counted : draws_at_all (symbols_of (c.passed ++ m ∷ [])) ≡ draws_at_all (symbols_of c.passed) + draws_at_all (symbols_of (m ∷ [])) = ap draws_at_all (symbols-append c.passed (m ∷ [])) ∙ draws-append (symbols_of c.passed) (symbols_of (m ∷ [])) in
    let one : (past u t).draws ≡ u.draws + draws_at (symbol_of m) = one_draws labels u t at b.steady o.1 in
    subst (λ (ms : List Mark). Travels labels s (past u t) ms) is (record {
      mine = b.mine ∙ ap (λ (ms : List Mark). c.passed ++ ms) (one_mine labels u t at b.steady o.1) ∙ sym (append_assoc c.passed (m ∷ []) (left_of labels false (past u t)));
      steady = one_steady labels u t at b.steady o.1;
      names = one_names labels u t at b.steady o.1 ∙ b.names;
      draws = omega (arith, one, b.draws, counted);
    })

-- the next token is the same in the text
pub same_next : (labels : List Word) (u : Stand) → Steady false u → next (left_of labels false u) ≡ next (marks.left u)
unfolding marks_from marks.marks_from
same_next labels u w =
    let g = here u w.closed in
    let word : Word = (lexeme u.text g.token).word in
    let v : Vocabulary = record { variables = u.names; labels = labels } in
    let known : are_known u.names (variable_by false g.token.kind word (variable_words (is_colon g.token.kind) (lexemes u.text g.rest))) ≡ true = ap (λ (ts : List Token). are_known u.names (variable_words false (lexemes u.text ts))) (sym g.parts) ∙ w.known in
    ap (λ (ts : List Token). next (marks_from v false u.draws (lexemes u.text ts))) g.parts
    ∙ ap (λ (m : Mark). Some m) (sym (same_mark u.names labels u.draws g.token.kind word (variable_words (is_colon g.token.kind) (lexemes u.text g.rest)) known) ∙ ap (λ (b : Bool). marks.mark_by b u.names u.draws g.token.kind word) (sym w.grows))
    ∙ sym (ap (λ (ts : List Token). next (marks.marks_from u.text u.grows u.names u.draws ts)) g.parts)

-- ---- the last token

-- the token that ends a list stands alone
pub last_alone : (labels : List Word) (b : Bool) (s : Stand) → is_closed (drop s.at s.tokens) ≡ true → is_last (token_at s).kind ≡ true → left_of labels b s ≡ mark_of labels b s ∷ []
unfolding marks_from
last_alone labels b s c l =
    let v : Vocabulary = record { variables = s.names; labels = labels } in
    let h = here s c in
    let rest : h.rest ≡ [] = alone h.token h.rest (ap is_closed (sym h.parts) ∙ c) (ap (λ (t : Token). is_last t.kind) (sym h.is) ∙ l) in
    ap (λ (ts : List Token). marks_from v b s.draws (lexemes s.text ts)) (h.parts ∙ ap (λ (ts : List Token). h.token ∷ ts) rest)
    ∙ ap (λ (t : Token). mark_by v b s.draws t.kind (lexeme s.text t).word ∷ []) (sym h.is)
  where
    alone : (t : Token) (ts : List Token) → is_closed (t ∷ ts) ≡ true → is_last t.kind ≡ true → ts ≡ []
    alone t [] c l = refl
    alone t (u ∷ us) c l = let first : not (is_last t.kind) ≡ true = (and_parts _ _ c).0 in absurd (never (is_last t.kind) first l)
      where
        never : (b : Bool) → not b ≡ true → b ≡ true → ⊥
        never true e f = cc
        never false e f = cc
