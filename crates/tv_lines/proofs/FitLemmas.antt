-- The numbers of a line that is read fit its head.
use Rattle.std.proofs.Common.{◌≡◌, ℕ, ℤ, Bool, true, false, cond, List, [], ◌∷◌, length, map, refl, sym, subst, ◌∙◌, arith}
use Rattle.std.specs.Prelude.{◌==◌, ◌&&◌, Option, None, Some, All, codes}
use Rattle.std.specs.List.{list_all}
use Rattle.std.specs.Option.{ForSome}
use Rattle.std.specs.Str.{bytes_eq}
use Rattle.std.proofs.lemmas.List.{length-map}
use Rattle.std.proofs.lemmas.List.Elements.{All-nil, All-cons}
use Rattle.std.proofs.lemmas.Bool.Decides.{nat_tests}
use Rattle.tv_lines.specs.declared.head.Head.{Head}
use Rattle.tv_lines.specs.declared.head.Head.TheVariants as heads
use Rattle.tv_lines.specs.declared.head.Opening.{Opening}
use Rattle.tv_lines.specs.declared.head.Opening.TheVariants as openings
use Rattle.tv_lines.specs.declared.head.NodeKind.{NodeKind}
use Rattle.tv_lines.specs.declared.head.PieceMark.{PieceMark}
use Rattle.tv_lines.specs.Pieces.{pieces}
use Rattle.tv_lines.specs.Numbers.{is_number, number_of, is_narrow, IsNarrow}
use Rattle.tv_lines.specs.Heads.{opening_of, kind_of, mark_of}
use Rattle.tv_lines.specs.Lines.{PlainLine, formed, formless, wide, line_with, numbered, counted, header_line, kind_line, node_line, mark_line, piece_line, opened, opened_by, worded, line_of, count_of, IsFit}

narrow_is : (z : ℤ) → is_narrow z ≡ true → IsNarrow z
narrow_is z h = grind (arith, nat_tests)

all_narrow : (zs : List ℤ) → list_all is_narrow zs ≡ true → All IsNarrow zs
all_narrow [] h = All-nil IsNarrow
all_narrow (z ∷ zs) h = by (is_narrow z) refl h (all_narrow zs)
  where
    by : (a : Bool) → is_narrow z ≡ a → (a && list_all is_narrow zs) ≡ true → (list_all is_narrow zs ≡ true → All IsNarrow zs) → All IsNarrow (z ∷ zs)
    by true e h rest = All-cons IsNarrow z zs (narrow_is z e) (rest h)
    by false e h rest = absurd cc

with_fit : (head : Head) (zs : List ℤ) → ForSome (count_of head) (λ count. length zs ≡ count) → IsFit (line_with head zs)
with_fit head zs counted = by (list_all is_narrow zs) refl
  where
    by : (t : Bool) → list_all is_narrow zs ≡ t → IsFit (cond t (formed head zs) wide)
    by true e = record { counted = counted; narrow = all_narrow zs e }
    by false e = tt

numbered_fit : (head : Head) (words : List (List ℕ)) → ForSome (count_of head) (λ count. length words ≡ count) → IsFit (numbered head words)
numbered_fit head words counted = by (list_all is_number words)
  where
    by : (t : Bool) → IsFit (cond t (line_with head (map number_of words)) formless)
    by true = with_fit head (map number_of words) (λ count e. length-map words number_of ∙ counted count e)
    by false = tt

counted_fit : (head : Head) (n : ℕ) (words : List (List ℕ)) → count_of head ≡ Some n → IsFit (counted head n words)
counted_fit head n words e = by (length words == n) refl
  where
    by : (t : Bool) → (length words == n) ≡ t → IsFit (cond t (numbered head words) formless)
    by true h = let is : length words ≡ n = grind (arith, nat_tests) in numbered_fit head words (λ count f. let same : Some n ≡ Some count = sym e ∙ f in is ∙ cc)
    by false h = tt

listed_fit : (head : Head) (words : List (List ℕ)) → count_of head ≡ None → IsFit (numbered head words)
listed_fit head words e = numbered_fit head words (λ count f. let no : None ≡ Some count = sym e ∙ f in absurd cc)

header_fit : (words : List (List ℕ)) → IsFit (header_line words)
header_fit [] = tt
header_fit (version ∷ []) = by (bytes_eq version (codes "1"))
  where
    by : (t : Bool) → IsFit (cond t (formed heads.Header []) formless)
    by true = with_fit heads.Header [] (λ count e. cc)
    by false = tt
header_fit (a ∷ b ∷ words) = tt

kind_fit : (kind : Option NodeKind) (words : List (List ℕ)) → IsFit (kind_line kind words)
kind_fit None words = tt
kind_fit (Some kind) words = counted_fit (heads.Node kind) 2 words refl

node_fit : (words : List (List ℕ)) → IsFit (node_line words)
node_fit [] = tt
node_fit (kind ∷ words) = kind_fit (kind_of kind) words

mark_fit : (mark : Option PieceMark) (location count : List ℕ) → IsFit (mark_line mark (location ∷ count ∷ []))
mark_fit None location count = tt
mark_fit (Some mark) location count = numbered_fit (heads.Piece mark) (location ∷ count ∷ []) (λ count e. cc)

piece_fit : (words : List (List ℕ)) → IsFit (piece_line words)
piece_fit [] = tt
piece_fit (a ∷ []) = tt
piece_fit (a ∷ b ∷ []) = tt
piece_fit (location ∷ mark ∷ count ∷ []) = mark_fit (mark_of mark) location count
piece_fit (a ∷ b ∷ c ∷ d ∷ words) = tt

opened_fit : (opening : Opening) (words : List (List ℕ)) → IsFit (opened opening words)
opened_fit openings.Header words = header_fit words
opened_fit openings.Proved words = counted_fit heads.Proved 0 words refl
opened_fit openings.Disproved words = counted_fit heads.Disproved 0 words refl
opened_fit openings.Node words = node_fit words
opened_fit openings.Piece words = piece_fit words
opened_fit openings.Row words = listed_fit heads.Row words refl
opened_fit openings.Rank words = listed_fit heads.Rank words refl
opened_fit openings.Split words = listed_fit heads.Split words refl
opened_fit openings.Empty words = listed_fit heads.Empty words refl
opened_fit openings.Into words = counted_fit heads.Into 2 words refl
opened_fit openings.By words = listed_fit heads.By words refl
opened_fit openings.NoStep words = counted_fit heads.NoStep 0 words refl
opened_fit openings.Take words = counted_fit heads.Take 3 words refl
opened_fit openings.Draw words = listed_fit heads.Draw words refl
opened_fit openings.At words = listed_fit heads.At words refl
opened_fit openings.End words = counted_fit heads.End 0 words refl

by_fit : (opening : Option Opening) (words : List (List ℕ)) → IsFit (opened_by opening words)
by_fit None words = tt
by_fit (Some opening) words = opened_fit opening words

worded_fit : (words : List (List ℕ)) → IsFit (worded words)
worded_fit [] = tt
worded_fit (first ∷ words) = by_fit (opening_of first) words

pub line_fit : (bytes : List ℕ) (line : PlainLine) → line ≡ line_of bytes → IsFit line
line_fit bytes line e = subst (λ (l : PlainLine). IsFit l) (sym e) (worded_fit (pieces 32 bytes))
