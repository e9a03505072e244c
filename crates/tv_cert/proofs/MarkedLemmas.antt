-- pieces whose numbers stand in one list
use Rattle.std.proofs.Common.{◌≡◌, ℕ, zero, suc, ◌+◌, ◌*◌, ◌-◌, ◌/◌, ◌^◌, ◌<◌, ◌≤◌, List, [], ◌++◌, length, drop, arith, sym, ap, ◌∙◌, ℤ, pos}
use Rattle.std.specs.Prelude.{All}
use Rattle.std.proofs.Math.Nat.{div-mul-le_self, mul-div_left, mul-sub}
use Rattle.std.proofs.lemmas.List.{append-nil, length-append, length-drop, length-take-le}
use Rattle.std.proofs.lemmas.List.Elements.{All-nil, All-cons, All-append, All-drop, All-take, All-get_or}
use Rattle.tv_linear.specs.Linear.{Linear, IsNarrow, IsWithin, columns}
use Rattle.tv_linear.specs.Packed.{ArePacked, packed, unpacked, first_row}
use Rattle.tv_linear.proofs.PackedLemmas.{length-packed, narrow-packed, unpacked-packed, drop-packed, unpacked-columns}
use Rattle.tv_cert.specs.declared.node.Mark.{Mark}
use Rattle.tv_cert.specs.MarkedRows.{marked, marked_in}

-- the rows after others
pub ranks_enough : (n count : ℕ) (zs : List ℤ) → (length zs / (n + 1) - count) * (n + 1) ≤ length (drop (count * (n + 1)) zs)
ranks_enough n count zs = let e = div-mul-le_self (length zs) (n + 1) in omega (arith, e, length-drop (count * (n + 1)) zs, times (length zs / (n + 1)) count (n + 1))
  where
    times : (q c w : ℕ) → (q - c) * w ≤ q * w - c * w
    times q c w = omega (arith, mul-sub w q c)

pub ranks_packed : (n count : ℕ) (zs : List ℤ) → ArePacked n count zs → ArePacked n (length zs / (n + 1) - count) (drop (count * (n + 1)) zs)
ranks_packed n count zs h = record { enough = ranks_enough n count zs; narrow = All-drop (IsWithin 62) (count * (n + 1)) zs h.narrow; bounded = h.bounded }

pub rows_columns : (n count : ℕ) (zs : List ℤ) → ArePacked n count zs → All (λ r. columns r ≡ n) (unpacked n count zs)
rows_columns n count zs h = unpacked-columns n count zs h.enough

pub ranks_columns : (n count : ℕ) (zs : List ℤ) → All (λ r. columns r ≡ n) (unpacked n (length zs / (n + 1) - count) (drop (count * (n + 1)) zs))
ranks_columns n count zs = unpacked-columns n (length zs / (n + 1) - count) (drop (count * (n + 1)) zs) (ranks_enough n count zs)

-- rows of narrow numbers are narrow
pub unpacked_narrow : (n count : ℕ) (zs : List ℤ) → ArePacked n count zs → All IsNarrow (unpacked n count zs)
unpacked_narrow n zero zs h = All-nil IsNarrow
unpacked_narrow n (suc count) zs h =
    let enough = h.enough in
    All-cons IsNarrow (first_row n zs) (unpacked n count (drop (suc n) zs))
    (record {
      coefficients = All-take (IsWithin 62) n zs h.narrow;
      constant = All-get_or (IsWithin 62) zs n (pos 0) (omega (arith, enough)) h.narrow;
      bounded = (let w = length-take-le n zs (omega (arith, enough)) in let f = h.bounded in omega (arith, f, w));
    })
    (unpacked_narrow n count (drop (suc n) zs) (record {
      enough = (let d = length-drop (suc n) zs in omega (arith, enough, d));
      narrow = All-drop (IsWithin 62) (suc n) zs h.narrow;
      bounded = h.bounded;
    }))

module _ (n : ℕ) (rows ranks : List Linear) (even : All (λ r. columns r ≡ n) rows) (level : All (λ r. columns r ≡ n) ranks) where
  many : length (packed rows ++ packed ranks) ≡ (length rows + length ranks) * (n + 1)
  many = let a = length-packed n rows even in let b = length-packed n ranks level in omega (arith, a, b, length-append (packed rows) (packed ranks))

  pub both_packed : n < 2 ^ 32 - 1 → All IsNarrow rows → All IsNarrow ranks → ArePacked n (length rows) (packed rows ++ packed ranks)
  both_packed bounded a b = record {
    enough = (let e = many in omega arith);
    narrow = All-append (IsWithin 62) (packed rows) (packed ranks) (narrow-packed rows a) (narrow-packed ranks b);
    bounded = bounded;
  }

  -- the piece is found again in its numbers
  pub marked_packed : (location : ℕ) (mark : Mark) → marked_in location n mark (length rows) (packed rows ++ packed ranks) ≡ marked location n mark rows ranks
  marked_packed location mark =
      let counted : length (packed rows ++ packed ranks) / (n + 1) ≡ length rows + length ranks = ap (λ k. k / (n + 1)) many ∙ mul-div_left (length rows + length ranks) {n = n + 1} (omega arith) in
      let left : length (packed rows ++ packed ranks) / (n + 1) - length rows ≡ length ranks = omega arith in
      let behind : drop (length rows * (n + 1)) (packed rows ++ packed ranks) ≡ packed ranks ++ [] = drop-packed n rows (packed ranks) even ∙ sym (append-nil (packed ranks)) in
      (λ i. marked location n mark (unpacked-packed n rows (packed ranks) even i) (unpacked n (left i) (behind i)))
      ∙ ap (marked location n mark rows) (unpacked-packed n ranks [] level)
