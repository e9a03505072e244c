-- The list of a text's tokens is ended by its last token alone.
use Rattle.std.proofs.Common.{◌≡◌, ℕ, ◌+◌, Bool, true, false, cond, List, [], ◌∷◌, drop, Option, Some, None, refl, ap, sym, ◌∙◌}
use Rattle.std.specs.Prelude.{codes, slice_index, take, not, ◌&&◌, ◌==◌, nat_le, ◌^◌}
use Rattle.std.specs.List.{prefix_len}
use Rattle.std.specs.Char.{is_ascii_digit}
use Rattle.std.specs.Str.{bytes_eq}
use Rattle.tv_language.specs.declared.token.TokenKind.{TokenKind}
use Rattle.tv_language.specs.declared.token.TokenKind.TheVariants as kinds
use Rattle.tv_language.specs.declared.token.Token.{Token}
use Rattle.tv_language.specs.declared.front.Front.{Front}
use Rattle.tv_language.specs.declared.front.Front.TheVariants as fronts
use Rattle.tv_language.specs.Gaps.{gap_of}
use Rattle.tv_language.specs.Numbers.{value_of_digits}
use Rattle.tv_language.specs.WordTexts.{begins_name, continues_name, word_kind, command_kind}
use Rattle.tv_language.specs.Fronts.{span, section, word_front, single_front, symbol_front, solid_front, gap_or, front_of}
use Rattle.tv_language.specs.Tokens.{IsTokens, end, gap, solid, unread}
use Rattle.tv_reading.specs.Views.{is_last}
use Rattle.tv_reader.specs.Readers.{is_closed}
use Rattle.std.proofs.lemmas.Bool.{and_from}

-- ---- no front ends a list as a token

abbrev ends_list : Front → Bool
ends_list (fronts.Token kind n) = is_last kind
ends_list front = false

front_if : (b : Bool) (x y : Front) → ends_list x ≡ false → ends_list y ≡ false → ends_list (cond b x y) ≡ false
front_if true x y h i = h
front_if false x y h i = i

kind_if : (b : Bool) (x y : TokenKind) → is_last x ≡ false → is_last y ≡ false → is_last (cond b x y) ≡ false
kind_if true x y h i = h
kind_if false x y h i = i

command_going : (w : List ℕ) → is_last (command_kind w) ≡ false
command_going w =
    kind_if (bytes_eq w (codes "PROCESS")) kinds.Process _ refl
    (kind_if (bytes_eq w (codes "assume")) kinds.Assume _ refl
    (kind_if (bytes_eq w (codes "nondet")) kinds.Nondet _ refl
    (kind_if (bytes_eq w (codes "true")) kinds.True _ refl
    (kind_if (bytes_eq w (codes "false")) kinds.False kinds.Name refl refl))))

word_going : (w : List ℕ) → is_last (word_kind w) ≡ false
word_going w =
    kind_if (bytes_eq w (codes "START")) kinds.Start _ refl
    (kind_if (bytes_eq w (codes "FROM")) kinds.From _ refl
    (kind_if (bytes_eq w (codes "TO")) kinds.To _ refl
    (kind_if (bytes_eq w (codes "AT")) kinds.At _ refl
    (kind_if (bytes_eq w (codes "CUTPOINT")) kinds.Cutpoint _ refl
    (kind_if (bytes_eq w (codes "ERROR")) kinds.Error _ refl
    (kind_if (bytes_eq w (codes "SHADOW")) kinds.Shadow (command_kind w) refl (command_going w)))))))

section_going : (whole bare : TokenKind) (n : ℕ) (o : Option ℕ) → is_last whole ≡ false → is_last bare ≡ false → ends_list (section whole bare n o) ≡ false
section_going whole bare n None h i = i
section_going whole bare n (Some m) h i = h

word_front_going : (kind : TokenKind) (n : ℕ) (rest : List ℕ) → is_last kind ≡ false → ends_list (word_front kind n rest) ≡ false
word_front_going kinds.Cutpoint n rest h = section_going kinds.Passed kinds.Cutpoint n (span 58 59 rest) refl refl
word_front_going kinds.Error n rest h = section_going kinds.Passed kinds.Error n (span 58 59 rest) refl refl
word_front_going kinds.Shadow n rest h = section_going kinds.Passed kinds.Shadow n (span 58 59 rest) refl refl
word_front_going kinds.At n rest h = section_going kinds.Mark kinds.At n (span 40 41 rest) refl refl
word_front_going kind n rest h = h

single_going : (b : ℕ) → ends_list (single_front b) ≡ false
single_going b =
    front_if (b == 58) _ _ refl (front_if (b == 60) _ _ refl (front_if (b == 62) _ _ refl (front_if (b == 33) _ _ refl (front_if (b == 59) _ _ refl (front_if (b == 40) _ _ refl
    (front_if (b == 41) _ _ refl (front_if (b == 91) _ _ refl (front_if (b == 93) _ _ refl (front_if (b == 43) _ _ refl (front_if (b == 45) _ _ refl (front_if (b == 42) _ _ refl refl)))))))))))

symbol_going : (b c : ℕ) → ends_list (symbol_front b c) ≡ false
symbol_going b c =
    front_if (b == 58 && c == 61) _ _ refl (front_if (b == 60 && c == 61) _ _ refl (front_if (b == 62 && c == 61) _ _ refl (front_if (b == 61 && c == 61) _ _ refl
    (front_if (b == 33 && c == 61) _ _ refl (front_if (b == 38 && c == 38) _ _ refl (front_if (b == 124 && c == 124) _ (single_front b) refl (single_going b)))))))

solid_going : (b : ℕ) (bs : List ℕ) → ends_list (solid_front b bs) ≡ false
solid_going b bs =
    front_if (begins_name b) _ _ (word_front_going (word_kind (take (1 + prefix_len continues_name bs) (b ∷ bs))) (1 + prefix_len continues_name bs) (drop (prefix_len continues_name bs) bs) (word_going (take (1 + prefix_len continues_name bs) (b ∷ bs))))
    (front_if (is_ascii_digit b) _ _ (front_if (nat_le (2 ^ 62) (value_of_digits (take (prefix_len is_ascii_digit (b ∷ bs)) (b ∷ bs)))) _ _ refl refl) (symbol_going b (slice_index bs 0)))

gap_going : (o : Option ℕ) (f : Front) → ends_list f ≡ false → ends_list (gap_or o f) ≡ false
gap_going None f h = h
gap_going (Some n) f h = refl

front_going : (text : List ℕ) → ends_list (front_of text) ≡ false
unfolding front_of
front_going [] = refl
front_going (b ∷ bs) = gap_going (gap_of (b ∷ bs)) (solid_front b bs) (solid_going b bs)

-- ---- the list

longer : (t : Token) (ts : List Token) → is_last t.kind ≡ false → is_closed ts ≡ true → is_closed (t ∷ ts) ≡ true
longer t [] h c = absurd cc
longer t (u ∷ us) h c = and_from _ _ (ap not h) c

pub tokens_closed : {at : ℕ} {text : List ℕ} {ts : List Token} → IsTokens at text ts → is_closed ts ≡ true
tokens_closed (end e) = refl
tokens_closed (gap n e more) = tokens_closed more
tokens_closed (solid {at} {text} {rest} kind n e more) = longer (record { at = at; len = n; kind = kind }) rest (ap ends_list (sym e) ∙ front_going text) (tokens_closed more)
tokens_closed (unread e) = refl
