-- What is read of rows whose numbers stand one after another.
use Rattle.std.proofs.Common.{◌≡◌, ℕ, ◌+◌, ◌-◌, ◌^◌, ◌<◌, ℤ, pos, List, [], ◌∷◌, ◌++◌, length, take, get_or, arith, refl, sym, ap, ◌∙◌, subst}
use Rattle.std.specs.Prelude.{All}
use Rattle.std.proofs.lemmas.List.{append-nil, flat_map_more, take_all, take_more, length-take-le}
use Rattle.std.proofs.lemmas.List.Elements.{All-take, All-get_or, All-push, All-nil}
use Rattle.tv_linear.specs.Linear.{Linear, IsNarrow, IsWithin}
use Rattle.tv_linear.specs.Packed.{packed, first_row}
use Rattle.tv_cert_reader.specs.CertificateLines.{row_lines}
use Rattle.tv_cert_reader.specs.declared.cursor.Cursor.{Cursor}
use Rattle.tv_cert_reader.specs.declared.number_line.NumberLine.{NumberLine}
use Rattle.tv_cert_reader.specs.NumberLines.{head_of}
use Rattle.tv_cert_reader.specs.Reading.{Takes}
use Rattle.tv_cert_reader.specs.Parts.{IsAppended, AreAppended, IsWide, one_row, numbers_line}
use Rattle.tv_cert_reader.proofs.ReadingLemmas.{Gathered, gathered_none, gathered_next}
use Rattle.tv_cert_reader.proofs.PartLemmas.{rows_end}

-- a line of numbers is a row, whose last number is its constant
module _ (width : ℕ) (ns : List ℤ) (many : length ns ≡ width + 1) where
  row_whole : ns ≡ take width ns ++ get_or ns width (pos 0) ∷ []
  row_whole = sym (take_all (width + 1) ns (omega (arith, many))) ∙ take_more ns width (pos 0) (omega (arith, many))

  row_narrow : width < 2 ^ 32 - 1 → All (IsWithin 62) ns → IsNarrow (first_row width ns)
  row_narrow bounded narrow = record {
    coefficients = All-take (IsWithin 62) width ns narrow;
    constant = All-get_or (IsWithin 62) ns width (pos 0) (omega (arith, many)) narrow;
    bounded = omega (arith, bounded, length-take-le width ns (omega (arith, many)));
  }

  pub row_appended : (s : NumberLine) (zs ys : List ℤ) (old new : Cursor) → width < 2 ^ 32 - 1 → All (IsWithin 62) ns → ys ≡ zs ++ ns → Takes (numbers_line s ns) old new → (row : Linear) × IsAppended width zs ys row × Takes (one_row s row) old new
  row_appended s zs ys old new bounded narrow more t = (
    first_row width ns,
    record { wide = length-take-le width ns (omega (arith, many)); narrow = row_narrow bounded narrow; numbers = more ∙ ap (λ xs. zs ++ xs) row_whole },
    subst (λ xs. Takes (numbers_line s xs) old new) row_whole t,
  )

-- rows that are read so far, and whose numbers stand after others
abbrev pub Appended : NumberLine → ℕ → List ℤ → List ℤ → Cursor → ℕ → Cursor → Type 0
Appended s width zs ys old i now = (rows : List Linear) × Gathered (IsWide width) (one_row s) old i now rows × All IsNarrow rows × (ys ≡ zs ++ packed rows)

pub appended_none : (s : NumberLine) (width : ℕ) (zs : List ℤ) (old : Cursor) → Appended s width zs zs old 0 old
appended_none s width zs old = ([], gathered_none (IsWide width) (one_row s) old, All-nil IsNarrow, sym (append-nil zs))

pub appended_next : (s : NumberLine) (width : ℕ) (zs ys xs : List ℤ) (old : Cursor) (i : ℕ) (now new : Cursor) → Appended s width zs ys old i now → (row : Linear) × IsAppended width ys xs row × Takes (one_row s row) now new → Appended s width zs xs old (i + 1) new
appended_next s width zs ys xs old i now new a b = (
  a.0 ++ b.0 ∷ [],
  gathered_next (IsWide width) (one_row s) old i now new a.0 (a.0 ++ b.0 ∷ []) b.0 a.1 b.1.wide b.2 refl,
  All-push IsNarrow a.0 b.0 a.2 b.1.narrow,
  b.1.numbers ∙ ap (λ ls. ls ++ (b.0.coefficients ++ b.0.constant ∷ [])) a.3 ∙ flat_map_more (λ r. r.coefficients ++ r.constant ∷ []) zs a.0 b.0,
)

pub appended_end : (s : NumberLine) (width count i : ℕ) (zs ys : List ℤ) (old now : Cursor) → Appended s width zs ys old i now → i ≡ count → (rows : List Linear) × AreAppended width count zs ys rows × Takes (row_lines (head_of s) rows) old now
appended_end s width count i zs ys old now a e =
    let w = rows_end s width count i old now a.0 a.1 e in
    (a.0, record { wide = w.0; narrow = a.2; numbers = a.3 }, w.1)
