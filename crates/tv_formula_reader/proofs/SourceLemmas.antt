-- Where a reading stands, and what it takes.
use Rattle.std.proofs.Common.{◌≡◌, ℕ, zero, suc, ◌+◌, ◌-◌, ◌<◌, ◌≤◌, Bool, true, false, List, [], ◌∷◌, map, drop, length, Some, refl, sym, ap, subst, ◌∙◌, length-drop, arith}
use Rattle.std.proofs.lemmas.List.{drop-drop}
use Rattle.std.proofs.lemmas.Bool.Decides.{nat_tests}
use Rattle.std.specs.Prelude.{nat_lt, slice_index_or}
use Rattle.tv_language.specs.declared.token.TokenKind.{TokenKind}
use Rattle.tv_language.specs.declared.token.TokenKind.TheVariants as kinds
use Rattle.tv_language.specs.declared.token.Token.{Token}
use Rattle.tv_language.specs.Tokens.{token, IsTokens, end, gap, solid, unread}
use Rattle.tv_program.specs.Words.{Word}
use Rattle.tv_language.specs.Symbols.{lexeme, lexemes, Vocabulary}
use Rattle.tv_grammar.specs.Reads.{next}
use Rattle.tv_reading.specs.Marks.{Stand, first}
use Rattle.tv_reading.specs.Readings.{moved, taken}
use Rattle.tv_formula_reader.specs.Seen.{seen, seen_all}
use Rattle.tv_reading.specs.Views.{is_last}
use Rattle.tv_formula_reader.specs.Answers.{left, IsOver, Stays, kind_seen}
use Rattle.tv_formula_reader.specs.declared.source.Source.{Source}

-- ---- tokens

pub first_at : (ts : List Token) (at : ℕ) (d : Token) → at < length ts → Some (slice_index_or ts at d) ≡ first (drop at ts)
first_at [] at d l = absurd (omega arith)
first_at (t ∷ ts) zero d l = refl
first_at (t ∷ ts) (suc at) d l = first_at ts at d (omega arith)

pub none_at : (ts : List Token) (at : ℕ) → length ts ≤ at → drop at ts ≡ []
none_at [] zero l = refl
none_at [] (suc at) l = refl
none_at (t ∷ ts) zero l = absurd (omega arith)
none_at (t ∷ ts) (suc at) l = none_at ts at (omega arith)

some_token : (at : ℕ) (text : List ℕ) (ts : List Token) → IsTokens at text ts → 0 < length ts
some_token at text ts (end h) = omega arith
some_token at text ts (gap n h p) = some_token _ _ _ p
some_token at text ts (solid kind n h p) = omega arith
some_token at text ts (unread h) = omega arith

one_left : (t u : Token) (n : ℕ) → first (drop n (u ∷ [])) ≡ Some t → is_last u.kind ≡ true → is_last t.kind ≡ false → ⊥
one_left t u zero e h i = let same : u ≡ t = cc in not_both (sym h ∙ ap (λ (x : Token). is_last x.kind) same ∙ i)
  where
    not_both : true ≡ false → ⊥
    not_both e = cc
one_left t u (suc zero) e h i = absurd cc
one_left t u (suc (suc n)) e h i = absurd cc

-- after a token that is none of these there is another
inner_token : (at : ℕ) (text : List ℕ) (ts : List Token) (t : Token) (n : ℕ) → IsTokens at text ts → first (drop n ts) ≡ Some t → is_last t.kind ≡ false → n + 1 < length ts
inner_token at text ts t n (end h) e i = absurd (one_left t (token at 0 kinds.End) n e refl i)
inner_token at text ts t n (unread h) e i = absurd (one_left t (token at 0 kinds.Unread) n e refl i)
inner_token at text ts t n (gap m h p) e i = inner_token _ _ _ t n p e i
inner_token at text ts t zero (solid kind m h p) e i = let l = some_token _ _ _ p in omega arith
inner_token at text ts t (suc n) (solid kind m h p) e i = let l = inner_token _ _ _ t n p e i in omega arith

pub more_behind : (source : Source) (s : Stand) (t : Token) → IsOver source s → first (drop s.at source.list.now) ≡ Some t → is_last t.kind ≡ false → s.at + 1 < length source.list.now
more_behind source s t h e i = subst (λ (ts : List Token). s.at + 1 < length ts) h.tokens (inner_token 0 s.text s.tokens t s.at h.scanned (ap (λ (ts : List Token). first (drop s.at ts)) h.tokens ∙ e) i)

-- ---- what is left

drop_map : {A B : Type 0} (f : A → B) (xs : List A) → drop 1 (map f xs) ≡ map f (drop 1 xs)
drop_map f [] = refl
drop_map f (x ∷ xs) = refl

pub seen_drop : (v : Vocabulary) (text : List ℕ) (ts : List Token) (n : ℕ) → seen_all v text (drop (n + 1) ts) ≡ drop 1 (seen_all v text (drop n ts))
seen_drop v text ts n =
    ap (seen_all v text) (sym (drop-drop 1 n ts))
    ∙ sym (drop_map (seen v) (lexemes text (drop n ts)) ∙ ap (map (seen v)) (drop_map (lexeme text) (drop n ts)))

taken_at : (s : Stand) → s.at + 1 < length s.tokens → taken s ≡ moved s (s.at + 1) s.level
taken_at s l = let on : nat_lt s.at (length s.tokens - 1) ≡ true = grind (arith, nat_tests) in rw on refl

abbrev pub words : Source → Stand → Vocabulary
words source s = record { variables = s.names; labels = source.labels.now }

pub pass_left : (source : Source) (s u : Stand) → u ≡ taken s → IsOver source s → s.at + 1 < length source.list.now → left source u ≡ drop 1 (left source s)
pass_left source s u e h l =
    let inside : s.at + 1 < length s.tokens = subst (λ (ts : List Token). s.at + 1 < length ts) (sym h.tokens) l in
    ap (left source) (e ∙ taken_at s inside) ∙ seen_drop (words source s) s.text s.tokens s.at

pub pass_stays : (source : Source) (s u : Stand) → u ≡ taken s → IsOver source s → s.at + 1 < length source.list.now → Stays source s u
pass_stays source s u e h l =
    let inside : s.at + 1 < length s.tokens = subst (λ (ts : List Token). s.at + 1 < length ts) (sym h.tokens) l in
    subst (Stays source s) (sym (e ∙ taken_at s inside)) (record { over = record { text = h.text; tokens = h.tokens; scanned = h.scanned; fixed = h.fixed; inside = omega arith }; names = refl })

-- ---- the kind that is seen

last_seen : (v : Vocabulary) (w : Word) (kind : TokenKind) → is_last kind ≡ true → is_last (kind_seen (Some (seen v (record { kind = kind; word = w })))) ≡ true
last_seen v w kinds.End e = refl
last_seen v w kinds.Unread e = refl
last_seen v w kind e = absurd cc

-- a token whose kind is seen, and is no end, is not the last
kind_more : (source : Source) (s : Stand) (ts : List Token) → ts ≡ drop s.at s.tokens → IsOver source s → is_last (kind_seen (next (seen_all (words source s) s.text ts))) ≡ false → s.at + 1 < length source.list.now
kind_more source s [] e h i = absurd cc
kind_more source s (t ∷ ts) e h i = by (is_last t.kind) refl
  where
    by : (b : Bool) → is_last t.kind ≡ b → s.at + 1 < length source.list.now
    by true l = let no : true ≡ false = sym (last_seen (words source s) (lexeme s.text t).word t.kind l) ∙ i in absurd cc
    by false l = more_behind source s t h (ap (λ (us : List Token). first (drop s.at us)) (sym h.tokens) ∙ ap first (sym e)) l

pub pass_more : (source : Source) (s : Stand) → IsOver source s → is_last (kind_seen (next (left source s))) ≡ false → s.at + 1 < length source.list.now
pass_more source s h i = kind_more source s (drop s.at s.tokens) refl h i

-- ---- going back

-- at the place where another reading stands
pub back_left : (source : Source) (s u g : Stand) (n level : ℕ) → IsOver source s → IsOver source u → u.names ≡ s.names → n ≡ s.at → g ≡ moved u n level → left source g ≡ left source s
back_left source s u g n level h i names at e =
    let text : u.text ≡ s.text = i.text ∙ sym h.text in
    let tokens : u.tokens ≡ s.tokens = i.tokens ∙ sym h.tokens in
    ap (left source) e ∙ rw (names, text, tokens, at) refl

pub length-seen : (v : Vocabulary) (text : List ℕ) (ts : List Token) → length (seen_all v text ts) ≡ length ts
length-seen v text [] = refl
length-seen v text (t ∷ ts) = ap suc (length-seen v text ts)

pub length-left : (source : Source) (s : Stand) → IsOver source s → length (left source s) ≡ length source.list.now - s.at
length-left source s h = length-seen (words source s) s.text (drop s.at s.tokens) ∙ length-drop s.at s.tokens ∙ ap (λ (ts : List Token). length ts - s.at) h.tokens

pub left_less : (source : Source) (u v : Stand) → IsOver source u → IsOver source v → u.at ≤ v.at → length (left source v) ≤ length (left source u)
left_less source u v h i l = omega (arith, length-left source u h, length-left source v i)

pub left_more : (source : Source) (u v : Stand) → IsOver source u → IsOver source v → v.at < u.at → length (left source u) < length (left source v)
left_more source u v h i l = let inside = h.inside in omega (arith, length-left source u h, length-left source v i, ap length h.tokens)
