-- What is read of rows and multipliers.
use Rattle.std.proofs.Common.{◌≡◌, ℕ, ◌+◌, ◌<◌, ℤ, true, List, [], ◌∷◌, ◌++◌, length, map, Ok, Option, None, Some, MatchOption, refl, ap, subst, ◌∙◌}
use Rattle.std.specs.List.{flat_map}
use Rattle.std.specs.Global.{Vec}
use Rattle.std.proofs.lemmas.List.{length-map}
use Rattle.std.proofs.lemmas.List.Concat.{flat_map_single}
use Rattle.tv_lines.specs.Lines.{PlainLine, formed}
use Rattle.tv_lines.specs.declared.head.Head.TheVariants as heads
use Rattle.tv_linear.specs.Linear.{Linear}
use Rattle.tv_shape.proofs.CountLemmas.{all_seen}
use Rattle.tv_cert_reader.specs.CertificateLines.{row_line, row_lines, by_lines}
use Rattle.tv_cert_reader.specs.LineGrammar.{many}
use Rattle.tv_cert_reader.proofs.CompleteParts.{sized_read, numbers_long}
use Rattle.tv_cert_reader.specs.declared.cursor.Cursor.{Cursor}
use Rattle.tv_cert_reader.specs.declared.failure.Failure.{Failure}
use Rattle.tv_cert_reader.specs.declared.number_line.NumberLine.{NumberLine}
use Rattle.tv_cert_reader.specs.declared.number_line.NumberLine.TheVariants as kinds
use Rattle.tv_cert_reader.specs.NumberLines.{head_of, tells, line_with}
use Rattle.tv_cert_reader.specs.Reading.{Takes, FailsBy}
use Rattle.tv_cert_reader.specs.Parts.{AreMany, AreNumbers, IsRowOf, IsWide, one_row, numbers_line}
use Rattle.tv_cert_reader.proofs.ReadingLemmas.{Gathered, takes_as, many_fails}

told : (s : NumberLine) → tells s (head_of s) ≡ true
told kinds.Header = refl
told kinds.Row = refl
told kinds.Rank = refl
told kinds.Draw = refl
told kinds.By = refl
told kinds.End = refl

pub numbers_read : (s : NumberLine) (count : ℕ) (zs : List ℤ) (r : List PlainLine) → length zs ≡ count → (line_with s count).read (numbers_line s zs ++ r) ≡ Ok (tt, r)
numbers_read s count zs r e = sized_read (tells s) (head_of s) count zs r (told s) e

-- ---- rows

module _ (s : NumberLine) (width : ℕ) where
  row_read : (row : Linear) (r : List PlainLine) → IsWide width row → (line_with s (width + 1)).read (one_row s row ++ r) ≡ Ok (tt, r)
  row_read row r e = sized_read (tells s) (head_of s) (width + 1) (row.coefficients ++ row.constant ∷ []) r (told s) (numbers_long width row e)

  pub rows_fail : (n i : ℕ) (old now : Cursor) (xs : List Linear) (f : Failure) → Gathered (IsWide width) (one_row s) old i now xs → i < n → FailsBy (line_with s (width + 1)) now f → FailsBy (many n (line_with s (width + 1))) old f
  rows_fail n i old now xs f g bounded h = many_fails (line_with s (width + 1)) (IsWide width) (one_row s) row_read n i old now xs f g bounded h

  pub rows_end : (n i : ℕ) (old now : Cursor) (xs : List Linear) → Gathered (IsWide width) (one_row s) old i now xs → i ≡ n → AreMany (IsWide width) n xs × Takes (row_lines (head_of s) xs) old now
  rows_end n i old now xs g e = (record { many = g.many ∙ e; each = g.each }, takes_as _ (row_lines (head_of s) xs) old now (flat_map_single (row_line (head_of s)) xs) g.took)

-- the numbers of a line, as a row where they are one
module _ (width : ℕ) (zs : List ℤ) (made : Option Linear) (told : MatchOption made (length zs ≡ width + 1 → ⊥) (IsRowOf width zs)) where
  pub row_there : (row : Linear) → made ≡ Some row → IsRowOf width zs row
  row_there row e = subst (λ o. MatchOption o (length zs ≡ width + 1 → ⊥) (IsRowOf width zs)) e told

  pub no_row : made ≡ None → length zs ≡ width + 1 → ⊥
  no_row e = subst (λ o. MatchOption o (length zs ≡ width + 1 → ⊥) (IsRowOf width zs)) e told

-- ---- multipliers

abbrev pub AreListed : ℕ → Vec ℤ → Type 0
AreListed wide v = AreNumbers wide v.items

abbrev pub by_line : Vec ℤ → List PlainLine
by_line v = formed heads.By v.items ∷ []

lines_by : (vs : List (Vec ℤ)) → flat_map by_line vs ≡ by_lines (map (λ v. v.items) vs)
lines_by [] = refl
lines_by (v ∷ vs) = ap (λ ls. formed heads.By v.items ∷ ls) (lines_by vs)

module _ (wide : ℕ) where
  pub lists_fail : (n i : ℕ) (old now : Cursor) (vs : List (Vec ℤ)) (f : Failure) → Gathered (AreListed wide) by_line old i now vs → i < n → FailsBy (line_with kinds.By wide) now f → FailsBy (many n (line_with kinds.By wide)) old f
  lists_fail n i old now vs f g bounded h = many_fails (line_with kinds.By wide) (AreListed wide) by_line (λ v r p. numbers_read kinds.By wide v.items r p.many) n i old now vs f g bounded h

  pub lists_end : (n i : ℕ) (old now : Cursor) (vs : List (Vec ℤ)) → Gathered (AreListed wide) by_line old i now vs → i ≡ n → AreMany (AreNumbers wide) n (map (λ v. v.items) vs) × Takes (by_lines (map (λ v. v.items) vs)) old now
  lists_end n i old now vs g e = (
    record { many = length-map vs (λ (v : Vec ℤ). v.items) ∙ g.many ∙ e; each = (all_seen (AreNumbers wide) (λ v. v.items) vs).0 g.each },
    takes_as _ (by_lines (map (λ v. v.items) vs)) old now (lines_by vs) g.took,
  )
