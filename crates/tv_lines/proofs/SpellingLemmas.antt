-- The spelling of a line, as it is put together.
use Rattle.std.proofs.Common.{◌≡◌, ℕ, ℤ, List, [], ◌∷◌, ◌++◌, map, sym, ap, ◌∙◌, append_assoc}
use Rattle.std.specs.Prelude.{None, codes}
use Rattle.std.specs.Fmt.{signed_decimal}
use Rattle.std.proofs.lemmas.List.{append-nil}
use Rattle.tv_lines.specs.declared.head.Head.{Head}
use Rattle.tv_lines.specs.declared.head.Head.TheVariants as heads
use Rattle.tv_lines.specs.declared.head.PieceMark.{PieceMark}
use Rattle.tv_lines.specs.Pieces.{joined}
use Rattle.tv_lines.specs.Heads.{kind_word, mark_word}
use Rattle.tv_lines.specs.Writing.{head_words, piece_mark, spelling, spaced}

-- a word and numbers
pub joined_spaced : (w : List ℕ) (zs : List ℤ) → joined 32 (w ∷ map signed_decimal zs) ≡ w ++ spaced zs
joined_spaced w [] = sym (append-nil w)
joined_spaced w (z ∷ zs) = ap (λ (r : List ℕ). w ++ 32 ∷ r) (joined_spaced (signed_decimal z) zs)

-- two words and numbers
joined_spaced_2 : (v w : List ℕ) (zs : List ℤ) → joined 32 (v ∷ w ∷ map signed_decimal zs) ≡ joined 32 (v ∷ w ∷ []) ++ spaced zs
joined_spaced_2 v w zs = ap (λ (r : List ℕ). v ++ 32 ∷ r) (joined_spaced w zs) ∙ sym (append_assoc v (32 ∷ w) (spaced zs))

pub plain_spelling : (head : Head) (zs : List ℤ) → piece_mark head ≡ None → joined 32 (head_words head) ++ spaced zs ≡ spelling head zs
plain_spelling heads.Header zs e = sym (joined_spaced_2 (codes "T2CERT") (codes "1") zs)
plain_spelling (heads.Node kind) zs e = sym (joined_spaced_2 (codes "node") (kind_word kind) zs)
plain_spelling (heads.Piece mark) zs e = absurd cc
plain_spelling _ zs e = sym (joined_spaced _ zs)

-- a piece with numbers, put together part by part
assembled : (p z m w s a b c d e f : List ℕ) → w ≡ m → a ≡ [] → b ≡ a ++ p → c ≡ b ++ 32 ∷ z → d ≡ c ++ 32 ∷ [] → e ≡ d ++ w → f ≡ e ++ s
    → f ≡ p ++ 32 ∷ (z ++ 32 ∷ (m ++ s))
assembled p z m w s a b c d e f is_w is_a is_b is_c is_d is_e is_f = rw (is_f, is_e, is_d, is_c, is_b, is_a, is_w) (simp append_assoc)

pub piece_spelling : (mark : PieceMark) (z : ℤ) (zs : List ℤ) (w a b c d e f : List ℕ) → w ≡ mark_word mark → a ≡ [] → b ≡ a ++ codes "piece"
    → c ≡ b ++ 32 ∷ signed_decimal z → d ≡ c ++ 32 ∷ [] → e ≡ d ++ w → f ≡ e ++ spaced zs → f ≡ spelling (heads.Piece mark) (z ∷ zs)
piece_spelling mark z zs w a b c d e f is_w is_a is_b is_c is_d is_e is_f =
    rw (joined_spaced (mark_word mark) zs) (assembled (codes "piece") (signed_decimal z) (mark_word mark) w (spaced zs) a b c d e f is_w is_a is_b is_c is_d is_e is_f)
