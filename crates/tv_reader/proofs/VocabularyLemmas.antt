-- The marks of a text without a fault have the symbols of its vocabulary, in which START's label has the number 0.
use Rattle.std.proofs.Common.{◌≡◌, ℕ, suc, ◌^◌, ◌<◌, ◌≤◌, Bool, true, false, cond, List, [], ◌∷◌, ◌++◌, Option, Some, None, refl, ap, sym, ◌∙◌, arith}
use Rattle.std.proofs.lemmas.Bool.Decides.{nat_tests}
use Rattle.std.specs.Prelude.{is_some, nat_lt, nat_le, ◌&&◌}
use Rattle.std.specs.List.{list_all}
use Rattle.tv_language.specs.declared.token.TokenKind.{TokenKind}
use Rattle.tv_language.specs.declared.token.TokenKind.TheVariants as kinds
use Rattle.tv_language.specs.Numbers.{value_of_digits}
use Rattle.tv_program.specs.Words.{Word, number_of}
use Rattle.tv_program.specs.Trees.{Transition}
use Rattle.tv_program.specs.Limits.{transition_fits}
use Rattle.tv_language.specs.Symbols as symbols
use Rattle.tv_language.specs.Symbols.{Symbol, number, name, label, drawn, fixed, Lexeme, Vocabulary, symbol_by, is_colon, symbols_from, is_label, in_front, label_words, variable_words}
use Rattle.tv_language.specs.Programs as programs
use Rattle.tv_language.specs.Programs.{AreItems, no_item, start, passed, draws_counted}
use Rattle.tv_reading.specs.Marks.{plain, refused, symbol_of, symbols_of, TooMany}
use Rattle.tv_reader.specs.ProgramMarks.{label_behind, start_word, numbered, mark_by, draws_behind, marks_from}
use Rattle.tv_reading.proofs.SymbolLemmas.{body, all_body, sound, all_sound, commands_uses}
use Rattle.tv_reader.proofs.WordLemmas.{has, has_all, has_behind, has_here}
use Rattle.std.proofs.lemmas.Bool.{and_from, and_parts}

-- ---- what stands in a program

-- a symbol of no fault
abbrev pub fine : Symbol → Bool
fine (fixed kinds.Unread) = false
fine (fixed kinds.Wide) = false
fine s = true

abbrev pub all_fine : List Symbol → Bool
all_fine [] = true
all_fine (s ∷ ss) = fine s && all_fine ss

body_fine : (s : Symbol) → body s ≡ true → fine s ≡ true
body_fine (fixed kinds.Unread) h = absurd cc
body_fine (fixed kinds.Wide) h = absurd cc
body_fine s h = refl

bodies_fine : (a rest : List Symbol) → all_body a ≡ true → all_fine rest ≡ true → all_fine (a ++ rest) ≡ true
bodies_fine [] rest h i = i
bodies_fine (s ∷ a) rest h i = and_from _ _ (body_fine s ((and_parts _ _ h).0)) (bodies_fine a rest ((and_parts _ _ h).1) i)

pub items_fine : {starts : List ℕ} {edges : List Transition} {ts : List Symbol} → AreItems starts edges ts → all_fine ts ≡ true
items_fine no_item = refl
items_fine (start are) = items_fine are
items_fine (programs.AreItems.edge {m} {us} cs are) = let u = commands_uses cs in ap all_fine u.parts ∙ bodies_fine u.used (fixed kinds.To ∷ fixed kinds.Colon ∷ label m ∷ fixed kinds.Semicolon ∷ us) u.plainly (items_fine are)
items_fine (passed are) = items_fine are
items_fine (programs.AreItems.mark are) = items_fine are
items_fine (programs.AreItems.ended_mark are) = items_fine are

sound_more : (d : ℕ) (s : Symbol) → d ≤ 64 → sound d s ≡ true → sound 64 s ≡ true
sound_more d (number k) le h = h
sound_more d (drawn k) le h = let l : k < d = grind (arith, nat_tests) in let m : k < 64 = omega arith in grind (arith, nat_tests)
sound_more d (name k) le h = refl
sound_more d (label k) le h = refl
sound_more d (fixed k) le h = refl

sounds_more : (d : ℕ) (a rest : List Symbol) → d ≤ 64 → all_sound d a ≡ true → all_sound 64 rest ≡ true → all_sound 64 (a ++ rest) ≡ true
sounds_more d [] rest le h i = i
sounds_more d (s ∷ a) rest le h i = and_from _ _ (sound_more d s le ((and_parts _ _ h).0)) (sounds_more d a rest le ((and_parts _ _ h).1) i)

pub items_sound : (v l : ℕ) {starts : List ℕ} {edges : List Transition} {ts : List Symbol} → AreItems starts edges ts → list_all (transition_fits v l) edges ≡ true → all_sound 64 ts ≡ true
items_sound v l no_item h = refl
items_sound v l (start are) h = items_sound v l are h
items_sound v l (programs.AreItems.edge {m} {commands} {us} cs are) h =
    let u = commands_uses cs in
    let fits = (and_parts _ _ h).0 in
    let bounded : nat_le (draws_counted commands) 64 ≡ true = (and_parts _ _ ((and_parts _ _ fits).0)).1 in
    let le : draws_counted commands ≤ 64 = grind (arith, nat_tests) in
    ap (all_sound 64) u.parts ∙ sounds_more (draws_counted commands) u.used (fixed kinds.To ∷ fixed kinds.Colon ∷ label m ∷ fixed kinds.Semicolon ∷ us) le (u.soundly v (draws_counted commands) ((and_parts _ _ fits).1)) (items_sound v l are ((and_parts _ _ h).1))
items_sound v l (passed are) h = items_sound v l are h
items_sound v l (programs.AreItems.mark are) h = items_sound v l are h
items_sound v l (programs.AreItems.ended_mark are) h = items_sound v l are h

-- ---- marks and symbols

-- the mark has the symbol of the token, and the draws after it are counted alike
abbrev Alike : Vocabulary → Bool → ℕ → TokenKind → Word → Type 0
Alike v b d kind w = (symbol_of (mark_by v b d kind w) ≡ symbol_by v b d kind w) × (draws_behind kind d ≡ symbols.draws_behind kind d)

label_alike : (o : Option ℕ) → symbol_of (numbered kinds.Number label o) ≡ symbols.numbered label o
label_alike (Some n) = refl
label_alike None = refl

name_alike : (o : Option ℕ) → symbol_of (numbered kinds.Name name o) ≡ symbols.numbered name o
name_alike (Some n) = refl
name_alike None = refl

number_alike : (b : Bool) (n : ℕ) → fine (symbol_of (cond b (plain (number n)) (plain (fixed kinds.Wide)))) ≡ true → symbol_of (cond b (plain (number n)) (plain (fixed kinds.Wide))) ≡ number n
number_alike true n h = refl
number_alike false n h = absurd cc

draw_alike : (b : Bool) (d : ℕ) → fine (symbol_of (cond b (plain (drawn d)) (refused TooMany kinds.Nondet))) ≡ true → (symbol_of (cond b (plain (drawn d)) (refused TooMany kinds.Nondet)) ≡ drawn d) × (cond b (suc d) d ≡ suc d)
draw_alike true d h = (refl, refl)
draw_alike false d h = absurd cc

alike : (v : Vocabulary) (b : Bool) (d : ℕ) (kind : TokenKind) (w : Word) → fine (symbol_of (mark_by v b d kind w)) ≡ true → Alike v b d kind w
alike v true d kinds.Name w h = (label_alike (number_of w v.labels), refl)
alike v true d kinds.Number w h = (label_alike (number_of w v.labels), refl)
alike v false d kinds.Name w h = (name_alike (number_of w v.variables), refl)
alike v false d kinds.Number w h = (number_alike (nat_lt (value_of_digits w) (2 ^ 62)) (value_of_digits w) h, refl)
alike v true d kinds.Nondet w h = draw_alike (nat_lt d 64) d h
alike v false d kinds.Nondet w h = draw_alike (nat_lt d 64) d h
alike v true d kinds.From w h = (refl, refl)
alike v false d kinds.From w h = (refl, refl)
alike v true d kind w h = (refl, refl)
alike v false d kind w h = (refl, refl)

pub marks_fine : (v : Vocabulary) (b : Bool) (d : ℕ) (xs : List Lexeme) → all_fine (symbols_of (marks_from v b d xs)) ≡ true → symbols_of (marks_from v b d xs) ≡ symbols_from v b d xs
unfolding marks_from
marks_fine v b d [] h = refl
marks_fine v b d (x ∷ xs) h =
    let a = alike v b d x.kind x.word ((and_parts _ _ h).0) in
    ap (λ (s : Symbol). s ∷ symbols_of (marks_from v (is_colon x.kind) (draws_behind x.kind d) xs)) a.0
    ∙ ap (λ (ss : List Symbol). symbol_by v b d x.kind x.word ∷ ss) (marks_fine v (is_colon x.kind) (draws_behind x.kind d) xs ((and_parts _ _ h).1))
    ∙ ap (λ (k : ℕ). symbol_by v b d x.kind x.word ∷ symbols_from v (is_colon x.kind) k xs) a.1

number_sound : (b : Bool) (n : ℕ) → b ≡ true → fine (symbol_of (cond b (plain (number n)) (plain (fixed kinds.Wide)))) ≡ true
number_sound true n h = refl
number_sound false n h = absurd cc

draw_sound : (b : Bool) (d : ℕ) → b ≡ true → fine (symbol_of (cond b (plain (drawn d)) (refused TooMany kinds.Nondet))) ≡ true
draw_sound true d h = refl
draw_sound false d h = absurd cc

-- the symbol is fine and sound, so its mark is fine
fine_mark : (v : Vocabulary) (b : Bool) (d : ℕ) (kind : TokenKind) (w : Word) → fine (symbol_by v b d kind w) ≡ true → sound 64 (symbol_by v b d kind w) ≡ true → fine (symbol_of (mark_by v b d kind w)) ≡ true
fine_mark v true d kinds.Name w h i = ap fine (label_alike (number_of w v.labels)) ∙ h
fine_mark v true d kinds.Number w h i = ap fine (label_alike (number_of w v.labels)) ∙ h
fine_mark v false d kinds.Name w h i = ap fine (name_alike (number_of w v.variables)) ∙ h
fine_mark v false d kinds.Number w h i = number_sound (nat_lt (value_of_digits w) (2 ^ 62)) (value_of_digits w) i
fine_mark v true d kinds.Nondet w h i = draw_sound (nat_lt d 64) d i
fine_mark v false d kinds.Nondet w h i = draw_sound (nat_lt d 64) d i
fine_mark v true d kind w h i = h
fine_mark v false d kind w h i = h

pub symbols_marked : (v : Vocabulary) (b : Bool) (d : ℕ) (xs : List Lexeme) → all_fine (symbols_from v b d xs) ≡ true → all_sound 64 (symbols_from v b d xs) ≡ true → all_fine (symbols_of (marks_from v b d xs)) ≡ true
unfolding marks_from
symbols_marked v b d [] h i = refl
symbols_marked v b d (x ∷ xs) h i =
    let f = fine_mark v b d x.kind x.word ((and_parts _ _ h).0) ((and_parts _ _ i).0) in
    let a = alike v b d x.kind x.word f in
    and_from _ _ f (symbols_marked v (is_colon x.kind) (draws_behind x.kind d) xs
    (ap (λ (k : ℕ). all_fine (symbols_from v (is_colon x.kind) k xs)) a.1 ∙ (and_parts _ _ h).1)
    (ap (λ (k : ℕ). all_sound 64 (symbols_from v (is_colon x.kind) k xs)) a.1 ∙ (and_parts _ _ i).1))

-- ---- each word of a text without a fault has a number

label_has : (o : Option ℕ) → fine (symbol_of (numbered kinds.Number label o)) ≡ true → is_some o ≡ true
label_has (Some n) h = refl
label_has None h = absurd cc

name_has : (o : Option ℕ) → fine (symbol_of (numbered kinds.Name name o)) ≡ true → is_some o ≡ true
name_has (Some n) h = refl
name_has None h = absurd cc

labels_by : (v : Vocabulary) (b : Bool) (d : ℕ) (kind : TokenKind) (w : Word) (ws : List Word) → fine (symbol_of (mark_by v b d kind w)) ≡ true → has_all v.labels ws ≡ true → has_all v.labels (symbols.label_by b kind w ws) ≡ true
labels_by v true d kinds.Name w ws h i = and_from _ _ (label_has (number_of w v.labels) h) i
labels_by v true d kinds.Number w ws h i = and_from _ _ (label_has (number_of w v.labels) h) i
labels_by v true d kind w ws h i = i
labels_by v false d kind w ws h i = i

variables_by : (v : Vocabulary) (b : Bool) (d : ℕ) (kind : TokenKind) (w : Word) (ws : List Word) → fine (symbol_of (mark_by v b d kind w)) ≡ true → has_all v.variables ws ≡ true → has_all v.variables (symbols.variable_by b kind w ws) ≡ true
variables_by v false d kinds.Name w ws h i = and_from _ _ (name_has (number_of w v.variables) h) i
variables_by v false d kind w ws h i = i
variables_by v true d kind w ws h i = i

pub labels_numbered : (v : Vocabulary) (b : Bool) (d : ℕ) (xs : List Lexeme) → all_fine (symbols_of (marks_from v b d xs)) ≡ true → has_all v.labels (label_words b xs) ≡ true
unfolding marks_from
labels_numbered v b d [] h = refl
labels_numbered v b d (x ∷ xs) h = labels_by v b d x.kind x.word (label_words (is_colon x.kind) xs) ((and_parts _ _ h).0) (labels_numbered v (is_colon x.kind) (draws_behind x.kind d) xs ((and_parts _ _ h).1))

pub variables_numbered : (v : Vocabulary) (b : Bool) (d : ℕ) (xs : List Lexeme) → all_fine (symbols_of (marks_from v b d xs)) ≡ true → has_all v.variables (variable_words b xs) ≡ true
unfolding marks_from
variables_numbered v b d [] h = refl
variables_numbered v b d (x ∷ xs) h = variables_by v b d x.kind x.word (variable_words (is_colon x.kind) xs) ((and_parts _ _ h).0) (variables_numbered v (is_colon x.kind) (draws_behind x.kind d) xs ((and_parts _ _ h).1))

-- ---- the label of START

abbrev second_label : List Symbol → Option ℕ
second_label (s ∷ label l ∷ ss) = Some l
second_label _ = None

abbrev start_by : Symbol → List Symbol → Option ℕ → Option ℕ
start_by (fixed kinds.Start) ss later = second_label ss
start_by s ss later = later

-- the label after the first START
abbrev start_symbol : List Symbol → Option ℕ
start_symbol [] = None
start_symbol (s ∷ ss) = start_by s ss (start_symbol ss)

no_start_by : (s : Symbol) (ss : List Symbol) (later : Option ℕ) → body s ≡ true → start_by s ss later ≡ later
no_start_by (fixed kinds.Start) ss later h = absurd cc
no_start_by s ss later h = refl

no_start : (a rest : List Symbol) → all_body a ≡ true → start_symbol (a ++ rest) ≡ start_symbol rest
no_start [] rest h = refl
no_start (s ∷ a) rest h = no_start_by s (a ++ rest) (start_symbol (a ++ rest)) ((and_parts _ _ h).0) ∙ no_start a rest ((and_parts _ _ h).1)

abbrev first_of : List ℕ → Option ℕ
first_of [] = None
first_of (l ∷ ls) = Some l

items_start : {starts : List ℕ} {edges : List Transition} {ts : List Symbol} → AreItems starts edges ts → start_symbol ts ≡ first_of starts
items_start no_item = refl
items_start (start are) = refl
items_start (programs.AreItems.edge {m} {us} cs are) = let u = commands_uses cs in ap start_symbol u.parts ∙ no_start u.used (fixed kinds.To ∷ fixed kinds.Colon ∷ label m ∷ fixed kinds.Semicolon ∷ us) u.plainly ∙ items_start are
items_start (passed are) = items_start are
items_start (programs.AreItems.mark are) = items_start are
items_start (programs.AreItems.ended_mark are) = items_start are

-- the first START of a text has this label, which has this number
pub record Starts (v : Vocabulary) (b : Bool) (xs : List Lexeme) (l : ℕ) : Type 0 where
  pub word : Word
  pub is : start_word xs ≡ Some word
  pub numbered : number_of word v.labels ≡ Some l
  pub among : has (label_words b xs) word ≡ true

-- a token whose symbol is a label
record Labels (v : Vocabulary) (b : Bool) (kind : TokenKind) (w : Word) (l : ℕ) : Type 0 where
  behind : b ≡ true
  is : is_label kind ≡ true
  number : number_of w v.labels ≡ Some l

some_label : (o : Option ℕ) (l : ℕ) → symbols.numbered label o ≡ label l → o ≡ Some l
some_label (Some n) l e = let is : n ≡ l = cc in ap (λ (k : ℕ). Some k) is
some_label None l e = absurd cc

no_label : (o : Option ℕ) (l : ℕ) → symbols.numbered name o ≡ label l → ⊥
no_label (Some n) l e = absurd cc
no_label None l e = absurd cc

label_symbol : (v : Vocabulary) (b : Bool) (d : ℕ) (kind : TokenKind) (w : Word) (l : ℕ) → symbol_by v b d kind w ≡ label l → Labels v b kind w l
label_symbol v true d kinds.Name w l e = record { behind = refl; is = refl; number = some_label (number_of w v.labels) l e }
label_symbol v true d kinds.Number w l e = record { behind = refl; is = refl; number = some_label (number_of w v.labels) l e }
label_symbol v false d kinds.Name w l e = absurd (no_label (number_of w v.variables) l e)
label_symbol v false d kinds.Number w l e = absurd cc
label_symbol v true d kinds.Nondet w l e = absurd cc
label_symbol v false d kinds.Nondet w l e = absurd cc
label_symbol v true d kind w l e = absurd cc
label_symbol v false d kind w l e = absurd cc

has_front : (b : Bool) (u w : Word) (ws : List Word) → has ws w ≡ true → has (in_front b u ws) w ≡ true
has_front true u w ws h = has_behind ws u w h
has_front false u w ws h = h

second_is : (s t : Symbol) (ss : List Symbol) (l : ℕ) → second_label (s ∷ t ∷ ss) ≡ Some l → t ≡ label l
second_is s (label k) ss l e = let is : k ≡ l = cc in ap label is
second_is s (number k) ss l e = absurd cc
second_is s (name k) ss l e = absurd cc
second_is s (drawn k) ss l e = absurd cc
second_is s (fixed k) ss l e = absurd cc

starts_here : (v : Vocabulary) (b : Bool) (d : ℕ) (x : Lexeme) (xs : List Lexeme) (l : ℕ) → x.kind ≡ kinds.Start → second_label (symbols_from v false d xs) ≡ Some l → Starts v b (x ∷ xs) l
starts_here v b d x [] l is e = absurd cc
starts_here v b d x (y ∷ []) l is e = absurd cc
starts_here v b d x (y ∷ z ∷ zs) l is e =
    let t : Symbol = symbol_by v (is_colon y.kind) (symbols.draws_behind y.kind d) z.kind z.word in
    let k = label_symbol v (is_colon y.kind) (symbols.draws_behind y.kind d) z.kind z.word l (second_is (symbol_by v false d y.kind y.word) t (symbols_from v (is_colon z.kind) (symbols.draws_behind z.kind (symbols.draws_behind y.kind d)) zs) l e) in
    let both : (is_colon y.kind && is_label z.kind) ≡ true = and_from _ _ k.behind k.is in
    let inner : has (symbols.label_by (is_colon y.kind) z.kind z.word (label_words (is_colon z.kind) zs)) z.word ≡ true = ap (λ (c : Bool). has (in_front c z.word (label_words (is_colon z.kind) zs)) z.word) both ∙ has_here (label_words (is_colon z.kind) zs) z.word in
    record {
      word = z.word;
      is = rw is refl;
      numbered = k.number;
      among = has_front (b && is_label x.kind) x.word z.word (label_words (is_colon x.kind) (y ∷ z ∷ zs)) (has_front (is_colon x.kind && is_label y.kind) y.word z.word (label_words (is_colon y.kind) (z ∷ zs)) inner);
    }

-- the first token is no START
record Elsewhere (v : Vocabulary) (b : Bool) (d : ℕ) (kind : TokenKind) (w : Word) : Type 0 where
  symbol : (ss : List Symbol) (later : Option ℕ) → start_by (symbol_by v b d kind w) ss later ≡ later
  word : (xs : List Lexeme) (later : Option Word) → label_behind kind xs later ≡ later

label_elsewhere : (o : Option ℕ) (ss : List Symbol) (later : Option ℕ) → start_by (symbols.numbered label o) ss later ≡ later
label_elsewhere (Some n) ss later = refl
label_elsewhere None ss later = refl

name_elsewhere : (o : Option ℕ) (ss : List Symbol) (later : Option ℕ) → start_by (symbols.numbered name o) ss later ≡ later
name_elsewhere (Some n) ss later = refl
name_elsewhere None ss later = refl

data Either (v : Vocabulary) (b : Bool) (d : ℕ) : TokenKind → Word → Type 0 where
  here : {kind : TokenKind} {w : Word} → kind ≡ kinds.Start → symbol_by v b d kind w ≡ fixed kinds.Start → symbols.draws_behind kind d ≡ d → is_colon kind ≡ false → Either v b d kind w
  there : {kind : TokenKind} {w : Word} → Elsewhere v b d kind w → Either v b d kind w

either : (v : Vocabulary) (b : Bool) (d : ℕ) (kind : TokenKind) (w : Word) → Either v b d kind w
either v true d kinds.Start w = here refl refl refl refl
either v false d kinds.Start w = here refl refl refl refl
either v true d kinds.Name w = there (record { symbol = label_elsewhere (number_of w v.labels); word = λ xs later. refl })
either v true d kinds.Number w = there (record { symbol = label_elsewhere (number_of w v.labels); word = λ xs later. refl })
either v false d kinds.Name w = there (record { symbol = name_elsewhere (number_of w v.variables); word = λ xs later. refl })
either v false d kinds.Number w = there (record { symbol = λ ss later. refl; word = λ xs later. refl })
either v true d kinds.Nondet w = there (record { symbol = λ ss later. refl; word = λ xs later. refl })
either v false d kinds.Nondet w = there (record { symbol = λ ss later. refl; word = λ xs later. refl })
either v true d kind w = there (record { symbol = λ ss later. refl; word = λ xs later. refl })
either v false d kind w = there (record { symbol = λ ss later. refl; word = λ xs later. refl })

starts : (v : Vocabulary) (b : Bool) (d : ℕ) (xs : List Lexeme) (l : ℕ) → start_symbol (symbols_from v b d xs) ≡ Some l → Starts v b xs l
starts v b d [] l e = absurd cc
starts v b d (x ∷ xs) l e = by (either v b d x.kind x.word) (λ f. starts v (is_colon x.kind) (symbols.draws_behind x.kind d) xs l f)
  where
    by : Either v b d x.kind x.word → (start_symbol (symbols_from v (is_colon x.kind) (symbols.draws_behind x.kind d) xs) ≡ Some l → Starts v (is_colon x.kind) xs l) → Starts v b (x ∷ xs) l
    by (here is symbol draws colon) again =
        let front : second_label (symbols_from v (is_colon x.kind) (symbols.draws_behind x.kind d) xs) ≡ Some l = sym (ap (λ (s : Symbol). start_by s (symbols_from v (is_colon x.kind) (symbols.draws_behind x.kind d) xs) (start_symbol (symbols_from v (is_colon x.kind) (symbols.draws_behind x.kind d) xs))) symbol) ∙ e in
        let flat : second_label (symbols_from v false d xs) ≡ Some l = ap (λ (c : Bool). second_label (symbols_from v c d xs)) (sym colon) ∙ ap (λ (k : ℕ). second_label (symbols_from v (is_colon x.kind) k xs)) (sym draws) ∙ front in
        starts_here v b d x xs l is flat
    by (there w) again =
        let s = again (sym (w.symbol (symbols_from v (is_colon x.kind) (symbols.draws_behind x.kind d) xs) (start_symbol (symbols_from v (is_colon x.kind) (symbols.draws_behind x.kind d) xs))) ∙ e) in
        record { word = s.word; is = w.word xs (start_word xs) ∙ s.is; numbered = s.numbered; among = has_front (b && is_label x.kind) x.word s.word (label_words (is_colon x.kind) xs) s.among }

-- Items whose first START has this number.
pub items_starts : (v : Vocabulary) (xs : List Lexeme) {l : ℕ} {more : List ℕ} {edges : List Transition} → AreItems (l ∷ more) edges (symbols_from v false 0 xs) → Starts v false xs l
items_starts v xs {l} are = starts v false 0 xs l (items_start are)
