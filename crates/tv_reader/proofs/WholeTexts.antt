-- The texts of programs are those that the grammar reads.
use Rattle.std.proofs.Common.{◌≡◌, ℕ, ◌+◌, ◌≤◌, Bool, true, false, not, List, [], ◌∷◌, length, take, Option, Some, None, refl, ap, sym, subst, ◌∙◌, length-append, arith}
use Rattle.std.proofs.lemmas.Bool.Decides.{nat_tests}
use Rattle.std.proofs.lemmas.Slice.Eq.{bytes_eq-Decides}
use Rattle.std.specs.Prelude.{is_some, nat_le, ◌||◌}
use Rattle.std.specs.Str.{bytes_eq}
use Rattle.tv_language.specs.declared.token.Token.{Token}
use Rattle.tv_language.specs.Tokens.{IsTokens}
use Rattle.tv_program.specs.Words.{Word, number_of, words_with, with_new}
use Rattle.tv_program.specs.Systems.{System, IsLimited}
use Rattle.tv_language.specs.Symbols.{Symbol, Lexeme, lexemes, Vocabulary, symbols_from, variable_words, label_words, by_first_place}
use Rattle.tv_language.specs.Programs.{AreItems, IsProgramText}
use Rattle.tv_language.proofs.PlaceOfWords.{shifted, here_or, number_first, or_last, number_more}
use Rattle.tv_language.proofs.PlaceLemmas.{leads}
use Rattle.tv_grammar.specs.Exact.{IsText}
use Rattle.tv_reading.specs.Marks.{Mark, symbols_of}
use Rattle.tv_reading.specs.SumGrammar.{every}
use Rattle.tv_reader.specs.ProgramMarks.{start_word, led_by, vocabulary, marks_from, program_marks}
use Rattle.tv_reader.specs.ProgramGrammar.{Items, program_at}
use Rattle.tv_reader.proofs.WordLemmas.{has, has_all, has_each, among, all_first, take_all, place-place, led_in_front, led_first, led_has}
use Rattle.tv_reader.proofs.VocabularyLemmas.{all_fine, items_fine, items_sound, marks_fine, symbols_marked, labels_numbered, variables_numbered, Starts, items_starts}
use Rattle.tv_reader.proofs.ProgramTexts.{program_is}
use Rattle.tv_reader.proofs.ProgramsRead.{program_is_read}
use Rattle.std.proofs.lemmas.Bool.{and_from, and_parts}
use Rattle.std.proofs.Math.Bool.{or_assoc}

-- ---- what is read is a program

each_led : (o : Option Word) (ls ws : List Word) → has_all (led_by o ls) ws ≡ true → has_all ls ws ≡ true
each_led o ls [] h = refl
each_led o ls (w ∷ ws) h = and_from _ _ (led_has o ls w ((and_parts _ _ h).0)) (each_led o ls ws ((and_parts _ _ h).1))

the_same : (l : ℕ) (o : Option ℕ) → o ≡ Some l → o ≡ Some 0 → l ≡ 0
the_same l o e f = cc

-- the tokens are items with one START, whose vocabulary is the first words of the text
module _ (text : List ℕ) (tokens : List Token) (scanned : IsTokens 0 text tokens) where
  pub program_found : (x : Items) (l : ℕ) → IsText (program_at every 63) (program_marks text tokens) x → x.starts ≡ l ∷ [] → IsLimited (record { variables = (vocabulary (lexemes text tokens)).variables; locations = (vocabulary (lexemes text tokens)).labels; start = 0; edges = x.edges }) → IsProgramText text (record { variables = (vocabulary (lexemes text tokens)).variables; locations = (vocabulary (lexemes text tokens)).labels; start = 0; edges = x.edges })
  program_found x l t one limits =
      let xs : List Lexeme = lexemes text tokens in
      let v : Vocabulary = vocabulary xs in
      let ms : List Mark = marks_from v false 0 xs in
      let names : List Word = variable_words false xs in
      let labels : List Word = label_words false xs in
      let firsts : List Word = take 1024 (by_first_place [] labels) in
      let read : AreItems (l ∷ []) x.edges (symbols_of ms) = subst (λ (ls : List ℕ). AreItems ls x.edges (symbols_of ms)) one (program_is ms x t) in
      let clean : all_fine (symbols_of ms) ≡ true = items_fine read in
      let are : AreItems (l ∷ []) x.edges (symbols_from v false 0 xs) = subst (λ (ss : List Symbol). AreItems (l ∷ []) x.edges ss) (marks_fine v false 0 xs clean) read in
      let s : Starts v false xs l = items_starts v xs are in
      let led : v.labels ≡ led_by (Some s.word) firsts = ap (λ (o : Option Word). led_by o firsts) s.is in
      let inside : has (led_by (Some s.word) firsts) s.word ≡ true = ap (λ (ws : List Word). has ws s.word) (sym led) ∙ ap is_some s.numbered in
      let front : v.labels ≡ by_first_place (s.word ∷ []) firsts = led ∙ led_in_front s.word firsts (led_has (Some s.word) firsts s.word inside) in
      let zero_is : l ≡ 0 = the_same l (number_of s.word v.labels) s.numbered (ap (number_of s.word) front ∙ led_first s.word firsts) in
      let all_labels : firsts ≡ by_first_place [] labels = all_first 1024 [] labels (omega arith) (each_led (start_word xs) firsts labels (labels_numbered v false 0 xs clean)) in
      let all_names : v.variables ≡ by_first_place [] names = all_first 512 [] names (omega arith) (variables_numbered v false 0 xs clean) in
      record {
        tokens = tokens;
        scanned = scanned;
        items = subst (λ (k : ℕ). AreItems (k ∷ []) x.edges (symbols_from v false 0 xs)) zero_is are;
        start = refl;
        start_label = s.word;
        locations = front ∙ ap (by_first_place (s.word ∷ [])) all_labels ∙ place-place (s.word ∷ []) [] labels;
        variables = all_names;
        limits = limits;
      }

-- ---- a word in front of others makes them no fewer

abbrev one : Bool → ℕ
one true = 1
one false = 0

at_most_one : (b : Bool) → one b ≤ 1
at_most_one true = omega arith
at_most_one false = omega arith

or_same : (a b : Bool) → (b ≡ true → a ≡ true) → a ≡ (a || b)
or_same true b h = refl
or_same false true h = absurd (let e : false ≡ true = h refl in cc)
or_same false false h = refl

has_or : (o : Option ℕ) (b : Bool) (l : ℕ) → is_some (or_last o b l) ≡ (is_some o || b)
has_or (Some n) b l = refl
has_or None true l = refl
has_or None false l = refl

has_with : (w u : Word) (ws : List Word) → has (words_with w ws) u ≡ (has ws u || bytes_eq u w)
has_with w u ws = by (number_of w ws) refl
  where
    by : (o : Option ℕ) → number_of w ws ≡ o → has (with_new o w ws) u ≡ (has ws u || bytes_eq u w)
    by None e = ap is_some (number_more u w ws) ∙ has_or (number_of u ws) (bytes_eq u w) (length ws)
    by (Some n) e = or_same (has ws u) (bytes_eq u w) (λ same. ap (has ws) ((bytes_eq-Decides u w).0 same) ∙ ap is_some e)

length_with : (w : Word) (ws : List Word) → length (words_with w ws) ≡ length ws + one (not (has ws w))
length_with w ws = by (number_of w ws)
  where
    by : (o : Option ℕ) → length (with_new o w ws) ≡ length ws + one (not (is_some o))
    by None = length-append ws (w ∷ [])
    by (Some n) = omega arith

-- the lengths after one more word, given whether it is the one in front, and whether it and that one were there
step_same : (k f : ℕ) (there : Bool) → f + one there ≡ k + 1 → f + 0 + one (there || true) ≡ k + one (not there) + 1
step_same k f true h = omega (arith, h)
step_same k f false h = omega (arith, h)

step_other : (k f : ℕ) (there was : Bool) → f + one there ≡ k + 1 → f + one (not was) + one (there || false) ≡ k + one (not was) + 1
step_other k f true was h = omega (arith, h)
step_other k f false was h = omega (arith, h)

no_fewer : (s : Word) (known front ws : List Word) → length front + one (has known s) ≡ length known + 1 → ((u : Word) → has front u ≡ (bytes_eq u s || has known u)) → length (by_first_place known ws) ≤ length (by_first_place front ws)
no_fewer s known front [] h i = let l = at_most_one (has known s) in omega (arith, h, l)
no_fewer s known front (w ∷ ws) h i =
    no_fewer s (words_with w known) (words_with w front) ws
    (ap (λ (n : ℕ). n + one (has (words_with w known) s)) (length_with w front) ∙ counted (bytes_eq w s) refl ∙ ap (λ (n : ℕ). n + 1) (sym (length_with w known)))
    (λ u. has_with w u front ∙ ap (λ (b : Bool). b || bytes_eq u w) (i u) ∙ or_assoc (bytes_eq u s) (has known u) (bytes_eq u w) ∙ ap (λ (b : Bool). bytes_eq u s || b) (sym (has_with w u known)))
  where
    flipped : (b : Bool) → bytes_eq s w ≡ b → bytes_eq w s ≡ false → b ≡ false
    flipped true e g = let same : s ≡ w = (bytes_eq-Decides s w).0 e in let back : bytes_eq w s ≡ true = (bytes_eq-Decides w s).1 (sym same) in absurd cc
    flipped false e g = refl

    counted : (b : Bool) → bytes_eq w s ≡ b → length front + one (not (has front w)) + one (has (words_with w known) s) ≡ length known + one (not (has known w)) + 1
    counted true e =
        let same : w ≡ s = (bytes_eq-Decides w s).0 e in
        let in_front : has front w ≡ true = i w ∙ ap (λ (b : Bool). b || has known w) e in
        let after : has (words_with w known) s ≡ (has known s || true) = has_with w s known ∙ ap (λ (b : Bool). has known s || b) ((bytes_eq-Decides s w).1 (sym same)) in
        ap (λ (b : Bool). length front + one (not b) + one (has (words_with w known) s)) in_front
        ∙ ap (λ (b : Bool). length front + 0 + one b) after
        ∙ step_same (length known) (length front) (has known s) h
        ∙ ap (λ (x : Word). length known + one (not (has known x)) + 1) (sym same)
    counted false e =
        let in_front : has front w ≡ has known w = i w ∙ ap (λ (b : Bool). b || has known w) e in
        let after : has (words_with w known) s ≡ (has known s || false) = has_with w s known ∙ ap (λ (b : Bool). has known s || b) (flipped (bytes_eq s w) refl e) in
        ap (λ (b : Bool). length front + one (not b) + one (has (words_with w known) s)) in_front
        ∙ ap (λ (b : Bool). length front + one (not (has known w)) + one b) after
        ∙ step_other (length known) (length front) (has known s) (has known w) h

alone : (s u : Word) → has (s ∷ []) u ≡ (bytes_eq u s || has [] u)
alone s u = ap is_some (number_first u s []) ∙ by (bytes_eq u s)
  where
    by : (b : Bool) → is_some (here_or b None) ≡ (b || false)
    by true = refl
    by false = refl

-- ---- a program is read

first_word : (w s : Word) (ws : List Word) → number_of w (s ∷ ws) ≡ Some 0 → w ≡ s
first_word w s ws h = by (bytes_eq w s) refl (sym (number_first w s ws) ∙ h)
  where
    never : (o : Option ℕ) → shifted o ≡ Some 0 → ⊥
    never (Some n) e = absurd cc
    never None e = absurd cc

    by : (b : Bool) → bytes_eq w s ≡ b → here_or b (number_of w ws) ≡ Some 0 → w ≡ s
    by true e g = (bytes_eq-Decides w s).0 e
    by false e g = absurd (never (number_of w ws) g)

-- what is read of the text of a program
pub record IsReadWhole (text : List ℕ) (tokens : List Token) (p : System) : Type 0 where
  pub is : IsText (program_at every 63) (program_marks text tokens) (record { starts = 0 ∷ []; edges = p.edges })
  pub same : p ≡ record { variables = (vocabulary (lexemes text tokens)).variables; locations = (vocabulary (lexemes text tokens)).labels; start = 0; edges = p.edges }

pub program_only : (text : List ℕ) (p : System) (w : IsProgramText text p) → IsReadWhole text w.tokens p
program_only text p w =
    let xs : List Lexeme = lexemes text w.tokens in
    let names : List Word = variable_words false xs in
    let labels : List Word = label_words false xs in
    let own : Vocabulary = record { variables = p.variables; labels = p.locations } in
    let few_names : length (by_first_place [] names) ≤ 512 = let n : nat_le (length p.variables) 512 ≡ true = w.limits.few_variables in let l : length p.variables ≤ 512 = grind (arith, nat_tests) in subst (λ (ws : List Word). length ws ≤ 512) w.variables l in
    let few_labels : length p.locations ≤ 1024 = let n : nat_le (length p.locations) 1024 ≡ true = w.limits.few_locations in grind (arith, nat_tests) in
    let fewer : length (by_first_place [] labels) ≤ length (by_first_place (w.start_label ∷ []) labels) = no_fewer w.start_label [] (w.start_label ∷ []) labels refl (alone w.start_label) in
    let bounded : length (by_first_place [] labels) ≤ 1024 = let e : length p.locations ≡ length (by_first_place (w.start_label ∷ []) labels) = ap length w.locations in omega (arith, fewer, few_labels, e) in
    let s : Starts own false xs 0 = items_starts own xs w.items in
    let leader = leads w.start_label (w.start_label ∷ []) labels (record { behind = []; same = refl }) in
    let word_is : s.word ≡ w.start_label = first_word s.word w.start_label leader.behind (ap (number_of s.word) (sym leader.same) ∙ ap (number_of s.word) (sym w.locations) ∙ s.numbered) in
    let firsts : take 1024 (by_first_place [] labels) ≡ by_first_place [] labels = take_all (by_first_place [] labels) 1024 bounded in
    let inside : has (by_first_place [] labels) s.word ≡ true = among (by_first_place [] labels) labels s.word s.among (has_each [] labels) in
    let locations : (vocabulary xs).labels ≡ p.locations =
    ap (λ (o : Option Word). led_by o (take 1024 (by_first_place [] labels))) s.is
    ∙ ap (led_by (Some s.word)) firsts
    ∙ led_in_front s.word (by_first_place [] labels) inside
    ∙ place-place (s.word ∷ []) [] labels
    ∙ ap (λ (x : Word). by_first_place (x ∷ []) labels) word_is
    ∙ sym w.locations in
    let variables : (vocabulary xs).variables ≡ p.variables = take_all (by_first_place [] names) 512 few_names ∙ sym w.variables in
    let vocabulary_is : vocabulary xs ≡ own = ap (λ (ws : List Word). record { variables = ws; labels = (vocabulary xs).labels }) variables ∙ ap (λ (ws : List Word). record { variables = p.variables; labels = ws }) locations in
    let clean : all_fine (symbols_of (marks_from own false 0 xs)) ≡ true = symbols_marked own false 0 xs (items_fine w.items) (items_sound (length p.variables) (length p.locations) w.items w.limits.edges_fit) in
    let marked : symbols_of (marks_from own false 0 xs) ≡ symbols_from own false 0 xs = marks_fine own false 0 xs clean in
    let are : AreItems (0 ∷ []) p.edges (symbols_of (program_marks text w.tokens)) = subst (λ (v : Vocabulary). AreItems (0 ∷ []) p.edges (symbols_of (marks_from v false 0 xs))) (sym vocabulary_is) (subst (λ (ss : List Symbol). AreItems (0 ∷ []) p.edges ss) (sym marked) w.items) in
    let few_edges : length p.edges ≤ 4096 = let n : nat_le (length p.edges) 4096 ≡ true = w.limits.few_edges in grind (arith, nat_tests) in
    record {
      is = program_is_read (0 ∷ []) p.edges (program_marks text w.tokens) are (omega arith) few_edges;
      same =
          ap (λ (ws : List Word). record { variables = ws; locations = p.locations; start = p.start; edges = p.edges }) (sym variables)
          ∙ ap (λ (ws : List Word). record { variables = (vocabulary xs).variables; locations = ws; start = p.start; edges = p.edges }) (sym locations)
          ∙ ap (λ (k : ℕ). record { variables = (vocabulary xs).variables; locations = (vocabulary xs).labels; start = k; edges = p.edges }) w.start;
    }
