-- One token of the marks.
use Rattle.std.proofs.Common.{◌≡◌, ℕ, ◌+◌, Bool, List, [], ◌∷◌, drop, Some, None, refl, sym, ap, subst, ◌∙◌}
use Rattle.std.proofs.lemmas.List.{drop-drop}
use Rattle.tv_grammar.specs.Reads.{next}
use Rattle.tv_language.specs.declared.token.Token.{Token}
use Rattle.tv_program.specs.Words.{Word}
use Rattle.tv_language.specs.Symbols.{lexeme}
use Rattle.tv_reading.specs.Marks.{mark_by, names_behind, draws_behind, marks_from, Stand, left, past, first, Passes, pass}

pub starts : (ts : List Token) (t : Token) → first ts ≡ Some t → ts ≡ t ∷ drop 1 ts
starts [] t e = cc
starts (u ∷ us) t e = let is : u ≡ t = cc in ap (λ (x : Token). x ∷ us) is

pub next_is : (text : List ℕ) (grows : Bool) (names : List Word) (draws : ℕ) (ts : List Token) (t : Token) → first ts ≡ Some t → next (marks_from text grows names draws ts) ≡ Some (mark_by grows names draws t.kind (lexeme text t).word)
unfolding marks_from
next_is text grows names draws ts t e = rw (starts ts t e) refl

pub none_is : (text : List ℕ) (grows : Bool) (names : List Word) (draws : ℕ) (ts : List Token) → first ts ≡ None → marks_from text grows names draws ts ≡ []
unfolding marks_from
none_is text grows names draws [] e = refl
none_is text grows names draws (t ∷ ts) e = cc

pub left_past : (s : Stand) (t : Token) → first (drop s.at s.tokens) ≡ Some t → left (past s t) ≡ drop 1 (left s)
unfolding marks_from
left_past s t e = rw (← drop-drop 1 s.at s.tokens) (rw (starts (drop s.at s.tokens) t e) refl)

pub same_left : (s : Stand) → first (drop s.at s.tokens) ≡ None → left s ≡ drop 1 (left s)
same_left s e = rw (none_is s.text s.grows s.names s.draws (drop s.at s.tokens) e) refl

-- after a token, with these names and draws
abbrev pub counted : Stand → List Word → ℕ → Stand
counted s names draws = record { text = s.text; tokens = s.tokens; grows = s.grows; level = s.level; at = s.at + 1; names = names; draws = draws }

counted_is : (s : Stand) (t : Token) (names : List Word) (draws : ℕ) → names ≡ names_behind s.grows t.kind (lexeme s.text t).word s.names → draws ≡ draws_behind t.kind s.draws → counted s names draws ≡ past s t
counted_is s t names draws n d = ap (λ (ns : List Word). counted s ns draws) n ∙ ap (λ (k : ℕ). counted s (names_behind s.grows t.kind (lexeme s.text t).word s.names) k) d

pub left_counted : (s : Stand) (t : Token) (names : List Word) (draws : ℕ) → names ≡ names_behind s.grows t.kind (lexeme s.text t).word s.names → draws ≡ draws_behind t.kind s.draws → first (drop s.at s.tokens) ≡ Some t → left (counted s names draws) ≡ drop 1 (left s)
left_counted s t names draws n d e = ap left (counted_is s t names draws n d) ∙ left_past s t e

pub passed_counted : (from s : Stand) (t : Token) (names : List Word) (draws : ℕ) → names ≡ names_behind s.grows t.kind (lexeme s.text t).word s.names → draws ≡ draws_behind t.kind s.draws → first (drop s.at s.tokens) ≡ Some t → Passes from s → Passes from (counted s names draws)
passed_counted from s t names draws n d e h = subst (λ (x : Stand). Passes from x) (sym (counted_is s t names draws n d)) (pass h e)
