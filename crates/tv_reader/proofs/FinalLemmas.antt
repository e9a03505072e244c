-- What the reading of a whole text says about the text.
use Rattle.std.proofs.Common.{◌≡◌, ℕ, zero, suc, ◌+◌, ◌≤◌, Bool, true, false, List, [], ◌∷◌, ◌++◌, length, take, drop, Option, Some, None, Result, Ok, Err, IfOk, refl, ap, sym, subst, ◌∙◌, length-append, arith}
use Rattle.std.specs.Prelude.{nat_le, ◌||◌, IsSome, IfErr, MatchResult}
use Rattle.std.proofs.lemmas.Bool.Decides.{nat_tests}
use Rattle.tv_language.specs.declared.token.Token.{Token}
use Rattle.tv_language.specs.Tokens.{IsTokens}
use Rattle.tv_language.proofs.OneList.{one_list}
use Rattle.tv_program.specs.declared.program.Program.{Program}
use Rattle.tv_program.specs.Programs.{system_of}
use Rattle.tv_program.specs.Systems.{System, IsLimited}
use Rattle.tv_program.specs.Words.{Word}
use Rattle.tv_program.specs.Views.{transitions}
use Rattle.tv_language.specs.Symbols.{Lexeme, lexemes, Vocabulary, is_colon, variable_words, by_first_place}
use Rattle.tv_language.specs.Programs.{IsProgramText}
use Rattle.tv_grammar.specs.Reads.{Fault, faulty, fault}
use Rattle.tv_grammar.specs.Exact.{IsText}
use Rattle.tv_grammar.proofs.Results.{clash, ok_is}
use Rattle.tv_reading.specs.Marks as marks
use Rattle.tv_reading.specs.Marks.{Kind, Mark, Stand}
use Rattle.tv_reading.specs.Readings.{begun, token_at}
use Rattle.tv_reading.specs.SumGrammar.{every}
use Rattle.tv_reading.specs.Refusals.{Refuses}
use Rattle.tv_reading.proofs.RefusalLemmas.{refuses}
use Rattle.tv_reader.specs.declared.fault.What.{What}
use Rattle.tv_reader.specs.declared.fault.ReadFault.{ReadFault}
use Rattle.tv_reader.specs.declared.fault.ReadFault.TheVariants as faults
use Rattle.tv_reader.specs.declared.items.ItemsRead.{ItemsRead}
use Rattle.tv_reader.specs.declared.reader.Reader.{Reader}
use Rattle.tv_reading.specs.declared.reason.Reason.{Reason}
use Rattle.tv_reading.specs.declared.reason.Reason.TheVariants as reasons
use Rattle.tv_reader.specs.ProgramMarks.{vocabulary, draws_behind, marks_from, program_marks}
use Rattle.tv_reader.specs.ProgramGrammar.{Items, program_at}
use Rattle.tv_reader.specs.Places.{line_of, column_of}
use Rattle.tv_reading.specs.Answers.{Unless, kind_of}
use Rattle.tv_reader.specs.Readers.{is_closed, are_known, left, Fixture, fixture, Steady, IsSteady, starts_view, items_view}
use Rattle.tv_reader.specs.FirstFaults.{ends_with_colon, brought_in, HasFault, IsRefused, IsReadAs, IsTold, IsMade}
use Rattle.tv_reader.proofs.WordLemmas.{has, has_all, has_each, take_all}
use Rattle.tv_reader.proofs.TokenLemmas.{tokens_closed}
use Rattle.tv_reader.proofs.StepLemmas.{here}
use Rattle.tv_reader.proofs.ProgramExact.{program_exact}
use Rattle.tv_reader.proofs.ProgramEnds.{program_ends}
use Rattle.tv_reader.proofs.ProgramLoose.{program_loose}
use Rattle.tv_reader.proofs.WholeTexts.{program_found, IsReadWhole, program_only}
use Rattle.std.proofs.lemmas.List.{take-append-drop}
use Rattle.std.proofs.lemmas.Bool.{and_from, and_parts}

-- ---- lists

not_started : (ls : List ℕ) → [] ≡ ls → ls ≡ 0 ∷ [] → ⊥
not_started ls e f = cc

drop_none : {X : Type 0} (xs : List X) → drop 0 xs ≡ xs
drop_none [] = refl
drop_none (x ∷ xs) = refl

pub marks_length : (v : Vocabulary) (b : Bool) (d : ℕ) (xs : List Lexeme) → length (marks_from v b d xs) ≡ length xs
unfolding marks_from
marks_length v b d [] = refl
marks_length v b d (x ∷ xs) = ap suc (marks_length v (is_colon x.kind) (draws_behind x.kind d) xs)

pub lexemes_length : (bytes : List ℕ) (ts : List Token) → length (lexemes bytes ts) ≡ length ts
lexemes_length bytes [] = refl
lexemes_length bytes (t ∷ ts) = ap suc (lexemes_length bytes ts)

drop_front : {X : Type 0} (b c : List X) → drop (length b) (b ++ c) ≡ c
drop_front [] c = drop_none c
drop_front (x ∷ b) c = drop_front b c

-- ---- at the front of a text

all_known : (names ws : List Word) → has_all names ws ≡ true → are_known names ws ≡ true
all_known names [] h = refl
all_known names (w ∷ ws) h = and_from _ _ (first (has names w) ((and_parts _ _ h).0)) (all_known names ws ((and_parts _ _ h).1))
  where
    first : (b : Bool) → b ≡ true → (b || nat_le 512 (length names)) ≡ true
    first true e = refl
    first false e = absurd cc

all_full : (names ws : List Word) → 512 ≤ length names → are_known names ws ≡ true
all_full names [] h = refl
all_full names (w ∷ ws) h = and_from _ _ (either (has names w)) (all_full names ws h)
  where
    many : nat_le 512 (length names) ≡ true
    many = grind (arith, nat_tests)

    either : (b : Bool) → (b || nat_le 512 (length names)) ≡ true
    either true = refl
    either false = many

length_take : (ws : List Word) (n : ℕ) → n ≤ length ws → length (take n ws) ≡ n
length_take [] zero h = refl
length_take [] (suc n) h = absurd (omega arith)
length_take (w ∷ ws) zero h = refl
length_take (w ∷ ws) (suc n) h = let again = length_take ws n (omega arith) in omega arith

known_first : (ws : List Word) → are_known (take 512 (by_first_place [] ws)) ws ≡ true
known_first ws = by (nat_le (length (by_first_place [] ws)) 512) refl
  where
    by : (b : Bool) → nat_le (length (by_first_place [] ws)) 512 ≡ b → are_known (take 512 (by_first_place [] ws)) ws ≡ true
    by true e =
        let bounded : length (by_first_place [] ws) ≤ 512 = grind (arith, nat_tests) in
        ap (λ (names : List Word). are_known names ws) (take_all (by_first_place [] ws) 512 bounded) ∙ all_known (by_first_place [] ws) ws (has_each [] ws)
    by false e =
        let many : 512 ≤ length (by_first_place [] ws) = grind (arith, nat_tests) in
        let counted = length_take (by_first_place [] ws) 512 many in
        all_full (take 512 (by_first_place [] ws)) ws (omega (arith, counted))

few_first : (ws : List Word) (n : ℕ) → length (take n ws) ≤ n
few_first [] zero = omega arith
few_first [] (suc n) = omega arith
few_first (w ∷ ws) zero = omega arith
few_first (w ∷ ws) (suc n) = let again = few_first ws n in omega arith

-- the reader stands at the front of the text, with the words that have numbers
pub record Begun (text : List ℕ) (tokens : List Token) (r : Reader) : Type 0 where
  pub text_is : r.text.now ≡ text
  pub reading : r.reading ≡ begun text tokens (vocabulary (lexemes text tokens)).variables true
  pub labels : r.labels ≡ (vocabulary (lexemes text tokens)).labels
  pub behind : r.behind_colon ≡ false

module _ (text : List ℕ) (tokens : List Token) (scanned : IsTokens 0 text tokens) (r : Reader) (w : Begun text tokens r) where
  pub begun_steady : IsSteady r
  begun_steady =
      let names : List Word = variable_words false (lexemes text tokens) in
      record {
        text = w.text_is ∙ sym (ap (λ (s : Stand). s.text) w.reading);
        reads = subst (λ (s : Stand). Steady r.behind_colon s) (sym w.reading) (subst (λ (b : Bool). Steady b (begun text tokens (vocabulary (lexemes text tokens)).variables true)) (sym w.behind) (record {
          grows = refl;
          level = refl;
          within = (few_first (by_first_place [] names) 512, omega arith);
          known = ap (λ (ts : List Token). are_known (take 512 (by_first_place [] names)) (variable_words false (lexemes text ts))) (drop_none tokens) ∙ known_first names;
          closed = ap is_closed (drop_none tokens) ∙ tokens_closed scanned;
        }));
      }

  pub begun_left : left r ≡ program_marks text tokens
  begun_left =
      ap (λ (s : Stand). marks_from (record { variables = s.names; labels = r.labels }) r.behind_colon s.draws (lexemes s.text (drop s.at s.tokens))) w.reading
      ∙ ap (λ (ls : List Word). marks_from (record { variables = (vocabulary (lexemes text tokens)).variables; labels = ls }) r.behind_colon 0 (lexemes text (drop 0 tokens))) w.labels
      ∙ ap (λ (b : Bool). marks_from (vocabulary (lexemes text tokens)) b 0 (lexemes text (drop 0 tokens))) w.behind
      ∙ ap (λ (ts : List Token). marks_from (vocabulary (lexemes text tokens)) false 0 (lexemes text ts)) (drop_none tokens)

  -- ---- what is read

  module _ (u : Reader) (same : fixture u ≡ fixture r) where
    same_names : u.reading.names ≡ (vocabulary (lexemes text tokens)).variables
    same_names = ap (λ (x : Fixture). x.names) same ∙ ap (λ (s : Stand). s.names) w.reading

    same_labels : u.labels ≡ (vocabulary (lexemes text tokens)).labels
    same_labels = ap (λ (x : Fixture). x.labels) same ∙ w.labels

    same_tokens : u.reading.tokens ≡ tokens
    same_tokens = ap (λ (x : Fixture). x.tokens) same ∙ ap (λ (s : Stand). s.tokens) w.reading

    -- the system of what is read
    made_is : (x : ItemsRead) (p : Program) → IsMade u x p → system_of p ≡ record { variables = (vocabulary (lexemes text tokens)).variables; locations = (vocabulary (lexemes text tokens)).labels; start = 0; edges = transitions x.edges.items }
    made_is x p m =
        m.same
        ∙ ap (λ (ns : List Word). record { variables = ns; locations = u.labels; start = 0; edges = transitions x.edges.items }) same_names
        ∙ ap (λ (ls : List Word). record { variables = (vocabulary (lexemes text tokens)).variables; locations = ls; start = 0; edges = transitions x.edges.items }) same_labels

    module _ (x : ItemsRead) (reads : (program_at every 63).read (left r) ≡ Ok (items_view x, [])) where
      is_text : IsText (program_at every 63) (program_marks text tokens) (items_view x)
      is_text = let f = (program_exact every 63).found (left r) (items_view x) [] reads in record { it = f.it; text = sym begun_left ∙ f.text; is = f.is }

      one_start : (o : Option ℕ) → IsSome o → (l : ℕ) × (starts_view o ≡ l ∷ [])
      one_start (Some l) h = (l, refl)
      one_start None h = absurd (none_is h)
        where
          none_is : IsSome {T = ℕ} None → ⊥
          none_is h = cc

      pub found_by : (p : Program) → IsMade u x p → IsProgramText text (system_of p)
      found_by p m =
          let l = one_start x.start m.started in
          let e = made_is x p m in
          subst (λ (q : System). IsProgramText text q) (sym e) (program_found text tokens scanned (items_view x) l.0 is_text l.1 (subst (λ (q : System). IsLimited q) e m.limited))

      pub found_in : (result : Result Program ReadFault) → MatchResult result (λ p. IsMade u x p) (λ e. (e ≡ faults.NoStart) × (x.start ≡ None)) → IfOk result (λ p. IsProgramText text (system_of p))
      found_in (Ok p) m = found_by p m
      found_in (Err e) m = tt

      pub refused_in : (result : Result Program ReadFault) → MatchResult result (λ p. IsMade u x p) (λ e. (e ≡ faults.NoStart) × (x.start ≡ None)) → IfErr result (λ e. IsRefused text e)
      refused_in (Ok p) m = tt
      refused_in (Err e) m = subst (λ (f : ReadFault). IsRefused text f) (sym m.0) (record { tokens = tokens; scanned = scanned; items = items_view x; are_items = is_text; none = ap starts_view m.1 })

  -- ---- the text of a program

  module _ (p : System) (t : IsProgramText text p) where
    whole : IsReadWhole text tokens p
    whole = subst (λ (ts : List Token). IsReadWhole text ts p) (one_list 0 text t.tokens tokens t.scanned scanned) (program_only text p t)

    whole_read : (program_at every 63).read (left r) ≡ Ok (record { starts = 0 ∷ []; edges = p.edges }, [])
    whole_read =
        let d = whole.is.it in
        ap (program_at every 63).read (begun_left ∙ whole.is.text) ∙ (program_exact every 63).only d [] (program_ends every 63 d) ∙ ap (λ (x : Items). Ok (x, [])) whole.is.is

    never : (k : Kind) (rest : List Mark) → (program_at every 63).read (left r) ≡ fault k rest → ⊥
    never k rest h = clash {A = Items × List Mark} (record { starts = 0 ∷ []; edges = p.edges }, []) (faulty k rest) (sym whole_read ∙ h)

    only_memory : (f : ReadFault) → f ≡ faults.Memory → IsReadAs p (Err f)
    only_memory f e = subst (λ (g : ReadFault). IsReadAs p (Err g)) (sym e) tt

    pub only_fault : (e : Reason) (rest : List Mark) (what : What) (line column : ℕ) (f : ReadFault) → Unless e ((program_at every 63).read (left r) ≡ fault (kind_of e) rest) → IsTold e what line column f → IsReadAs p (Err f)
    only_fault reasons.Memory rest what line column f h t = only_memory f t
    only_fault reasons.Syntax rest what line column f h t = absurd (never marks.Syntax rest h)
    only_fault reasons.Wide rest what line column f h t = absurd (never marks.Wide rest h)
    only_fault reasons.Deep rest what line column f h t = absurd (never marks.Deep rest h)
    only_fault reasons.NotLinear rest what line column f h t = absurd (never marks.NotLinear rest h)
    only_fault reasons.TwoStarts rest what line column f h t = absurd (never marks.TwoStarts rest h)
    only_fault reasons.TooMany rest what line column f h t = absurd (never marks.TooMany rest h)
    only_fault reasons.UnknownName rest what line column f h t = absurd t

    pub only_found : (u : Reader) → fixture u ≡ fixture r → (x : ItemsRead) → (program_at every 63).read (left r) ≡ Ok (items_view x, []) → (result : Result Program ReadFault) → MatchResult result (λ q. IsMade u x q) (λ e. (e ≡ faults.NoStart) × (x.start ≡ None)) → IsReadAs p result
    only_found u same x reads (Ok q) m =
        let is : items_view x ≡ record { starts = 0 ∷ []; edges = p.edges } = ap (λ (y : Items × List Mark). y.0) (ok_is {E = Fault Mark Kind} {A = Items × List Mark} (items_view x, []) (record { starts = 0 ∷ []; edges = p.edges }, []) (sym reads ∙ whole_read)) in
        made_is u same x q m ∙ ap (λ (y : Items). record { variables = (vocabulary (lexemes text tokens)).variables; locations = (vocabulary (lexemes text tokens)).labels; start = 0; edges = y.edges }) is ∙ sym whole.same
    only_found u same x reads (Err e) m =
        let is : items_view x ≡ record { starts = 0 ∷ []; edges = p.edges } = ap (λ (y : Items × List Mark). y.0) (ok_is {E = Fault Mark Kind} {A = Items × List Mark} (items_view x, []) (record { starts = 0 ∷ []; edges = p.edges }, []) (sym reads ∙ whole_read)) in
        absurd (not_started (starts_view x.start) (sym (ap starts_view m.1)) (ap (λ (y : Items). y.starts) is))

  -- ---- the first fault

  module _ (u : Reader) (same : fixture u ≡ fixture r) (steady : IsSteady u) where
    fault_here : (k : Kind) → (program_at every 63).read (left r) ≡ fault k (left u) → (line column : ℕ) → line ≡ line_of text (token_at u.reading).at → column ≡ column_of text (token_at u.reading).at → (f : HasFault text k line column) × (f.before ≡ take u.reading.at tokens) × (f.here ≡ token_at u.reading)
    fault_here k e line column is_line is_column =
        let h = here u.reading steady.reads.closed in
        let before : List Token = take u.reading.at tokens in
        let behind : drop u.reading.at tokens ≡ h.token ∷ h.rest = ap (drop u.reading.at) (sym (same_tokens u same)) ∙ h.parts in
        let parts : before ++ h.token ∷ h.rest ≡ tokens = ap (λ (ts : List Token). before ++ ts) (sym behind) ∙ take-append-drop u.reading.at tokens in
        let f : Refuses program_at 63 k (left r) (left u) = refuses program_at program_exact program_ends (λ kept syntax n m l. program_loose kept syntax n m l) 63 k (left r) (left u) e in
        let long : length (left u) ≡ length (drop u.reading.at u.reading.tokens) = marks_length _ u.behind_colon u.reading.draws _ ∙ lexemes_length u.reading.text (drop u.reading.at u.reading.tokens) in
        let rest : length (left u) ≡ length (h.token ∷ h.rest) = long ∙ ap length h.parts in
        let all : length (left r) ≡ length tokens = ap length begun_left ∙ marks_length _ false 0 _ ∙ lexemes_length text tokens in
        let front : length f.before + length (left u) ≡ length tokens = sym (length-append f.before (left u)) ∙ sym (ap length f.parts) ∙ all in
        let counted : length before + length (h.token ∷ h.rest) ≡ length tokens = sym (length-append before (h.token ∷ h.rest)) ∙ ap length parts in
        let even : length f.before ≡ length before = omega (arith, front, counted, rest) in
        let left_is : left u ≡ drop (length before) (left r) = sym (drop_front f.before (left u)) ∙ ap (λ (n : ℕ). drop n (f.before ++ left u)) even ∙ ap (drop (length before)) (sym f.parts) in
        let marks_are : left r ≡ program_marks text (before ++ h.token ∷ h.rest) = begun_left ∙ ap (program_marks text) (sym parts) in
        let refused : Refuses program_at 63 k (program_marks text (before ++ h.token ∷ h.rest)) (drop (length before) (program_marks text (before ++ h.token ∷ h.rest))) =
        subst (λ (ms : List Mark). Refuses program_at 63 k ms (drop (length before) ms)) marks_are (subst (λ (ms : List Mark). Refuses program_at 63 k (left r) ms) left_is f) in (
          record {
            before = before;
            here = h.token;
            behind = h.rest;
            scanned = subst (λ (ts : List Token). IsTokens 0 text ts) (sym parts) scanned;
            refused = refused;
            is_line = is_line ∙ ap (λ (t : Token). line_of text t.at) h.is;
            is_column = is_column ∙ ap (λ (t : Token). column_of text t.at) h.is;
          },
          refl,
          sym h.is,
        )

    pub fault_told : (e : Reason) (line column : ℕ) (f : ReadFault) → Unless e ((program_at every 63).read (left r) ≡ fault (kind_of e) (left u)) → line ≡ line_of text (token_at u.reading).at → column ≡ column_of text (token_at u.reading).at → IsTold e (brought_in (ends_with_colon false (take u.reading.at tokens)) (token_at u.reading).kind) line column f → IsRefused text f
    fault_told reasons.Memory line column f h is_line is_column t = rw t tt
    fault_told reasons.Syntax line column f h is_line is_column t = rw t (fault_here marks.Syntax h line column is_line is_column).0
    fault_told reasons.Wide line column f h is_line is_column t = rw t (fault_here marks.Wide h line column is_line is_column).0
    fault_told reasons.Deep line column f h is_line is_column t = rw t (fault_here marks.Deep h line column is_line is_column).0
    fault_told reasons.NotLinear line column f h is_line is_column t = rw t (fault_here marks.NotLinear h line column is_line is_column).0
    fault_told reasons.TwoStarts line column f h is_line is_column t = rw t (fault_here marks.TwoStarts h line column is_line is_column).0
    fault_told reasons.TooMany line column f h is_line is_column t =
        let g = fault_here marks.TooMany h line column is_line is_column in
        rw t (g.0, ap (λ (ts : List Token). brought_in (ends_with_colon false ts) (token_at u.reading).kind) (sym g.1) ∙ ap (λ (t : Token). brought_in (ends_with_colon false g.0.before) t.kind) (sym g.2))
    fault_told reasons.UnknownName line column f h is_line is_column t = absurd t

  -- the answer for a reason
  pub fault_answer : (u : Reader) (e : Reason) (line column : ℕ) (f : ReadFault) → Unless e (fixture u ≡ fixture r) → Unless e (IsSteady u) → Unless e ((program_at every 63).read (left r) ≡ fault (kind_of e) (left u)) → line ≡ line_of text (token_at u.reading).at → column ≡ column_of text (token_at u.reading).at → IsTold e (brought_in (ends_with_colon false (take u.reading.at tokens)) (token_at u.reading).kind) line column f → IsRefused text f
  fault_answer u reasons.Memory line column f k s h is_line is_column t = rw t tt
  fault_answer u reasons.Syntax line column f k s h is_line is_column t = fault_told u k s reasons.Syntax line column f h is_line is_column t
  fault_answer u reasons.Wide line column f k s h is_line is_column t = fault_told u k s reasons.Wide line column f h is_line is_column t
  fault_answer u reasons.Deep line column f k s h is_line is_column t = fault_told u k s reasons.Deep line column f h is_line is_column t
  fault_answer u reasons.NotLinear line column f k s h is_line is_column t = fault_told u k s reasons.NotLinear line column f h is_line is_column t
  fault_answer u reasons.TwoStarts line column f k s h is_line is_column t = fault_told u k s reasons.TwoStarts line column f h is_line is_column t
  fault_answer u reasons.TooMany line column f k s h is_line is_column t = fault_told u k s reasons.TooMany line column f h is_line is_column t
  fault_answer u reasons.UnknownName line column f k s h is_line is_column t = absurd t
