use Rattle.std.proofs.Common.{◌≡◌, inl, inr, ℕ, ◌-◌, ◌<◌, ◌≤◌, ◌^◌, List, ◌++◌, length, take, Vec, arith, sym, ap, ◌∙◌, pos, ◌<ℤ◌}
use Rattle.std.specs.Int.{bit_at}
use Rattle.std.proofs.lemmas.Int.{ints}
use Rattle.std.proofs.lemmas.Nat.Bits.{bit_at_ones}
use Rattle.std.proofs.Math.Seq.{take-append_seam}
use Rattle.tv_simplex.specs.declared.rows.Entry.{Entry}
use Rattle.tv_simplex.specs.Rows.{none, entry_in, row_of, read, IsSparse, IsColumn}
use Rattle.tv_simplex.specs.Exchanges.{IsNext}
use Rattle.tv_simplex.specs.Marks.{class_of, AreMarksOf, AreMarked, AreMarkedBut}
use Rattle.tv_simplex.proofs.RowLemmas.{none_before, entry_above, less_nothing, zero_is_left_out}

-- a bit that is not 1 is 0
pub bit_unset : (bit : ℕ) → bit < 2 → (bit ≡ 1 → ⊥) → bit ≡ 0
bit_unset bit l never = grind arith

-- a list that is written back is the one that is read
pub written_back : {A : Type 0} (n : ℕ) (xs ys : List A) → n ≡ length xs → take n (xs ++ ys) ≡ xs
written_back n xs ys e = ap (λ k. take k (xs ++ ys)) e ∙ take-append_seam xs ys

-- ---- the marks of one row
-- the columns of the entries that are left come later
pub marks_before : (columns width column : ℕ) (row left : List Entry) (marks : ℕ) → columns ≤ column → IsSparse column width left →
    ((j : ℕ) → j < columns → bit_at marks (class_of j) ≡ 0 → entry_in row j ≡ entry_in left j) → AreMarksOf columns row marks
marks_before columns width column row left marks l sparse same j j_in unset = same j j_in unset ∙ none_before column width left j sparse (omega (arith, l, j_in))

-- each class has a mark
pub marks_full : (columns : ℕ) (row : List Entry) (marks : ℕ) → marks ≡ 2 ^ 64 - 1 → AreMarksOf columns row marks
marks_full columns row marks full j j_in unset = (let one = ap (λ z. bit_at z (class_of j)) full ∙ bit_at_ones 64 (class_of j) (omega arith) in absurd (omega (arith, one, unset)))

-- ---- the rows of the entries are marked anew
-- a row with nothing in the column that entered keeps its marks
pub still_marked : {A : Type 0} (columns height width r c : ℕ) (entries : List Entry) (old new : List (Vec Entry A)) (marks : List ℕ) → columns ≤ width → height ≤ length old →
    pos 0 <ℤ (read old r c).numerator → IsColumn (length old) c (read old) entries → IsNext width r c old new → AreMarked columns height old marks → AreMarkedBut entries columns height new marks
still_marked columns height width r c entries old new marks wide low above of next h = record {
  size = h.size;
  each = λ i i_in nothing j j_in unset.
      let l : i < length old = omega (arith, low, i_in) in
      let here : read old i c ≡ none = sym (of.each i l) ∙ nothing in
      let before : read old i j ≡ none = h.each i i_in j j_in unset in
      zero_is_left_out 0 width (row_of new i) j (next.grid i (let s = next.size in omega (arith, s, l)))
      (elim (next.exchanged i j l (omega (arith, wide, j_in))) [
        | inl w ↦ (let e = ap (λ z. (read old z c).numerator) (sym w.0) ∙ ap (λ f. f.numerator) here in absurd (omega (arith, ints, e, above)))
        | inr w ↦ less_nothing (read new i j) (read old i j) (read old i c) w.1.0 (entry_above (row_of old i) j) (entry_above (row_of old i) c) w.1.1.positive (ap (λ f. f.numerator) before) (ap (λ f. f.numerator) here) w.1.2
      ]);
}
