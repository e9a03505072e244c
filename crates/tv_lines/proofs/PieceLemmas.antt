-- Bytes cut at a byte.
use Rattle.std.proofs.Common.{◌≡◌, ℕ, suc, ◌+◌, ◌-◌, ◌≤◌, Bool, true, false, cond, eqb, List, [], ◌∷◌, length, take, drop, refl, arith}
use Rattle.std.specs.Prelude.{not, count_by}
use Rattle.std.specs.List.{prefix_len}
use Rattle.std.proofs.lemmas.List.Sums.{sum_by-cons}
use Rattle.std.proofs.Math.Seq.{take-length}
use Rattle.tv_lines.specs.Pieces.{pieces, onto, behind_piece}

-- there is a first piece
pub first_piece : (c : ℕ) (bs : List ℕ) → (p : List ℕ) × ((ps : List (List ℕ)) × (pieces c bs ≡ p ∷ ps))
unfolding pieces
first_piece c [] = ([], ([], refl))
first_piece c (b ∷ bs) = by (eqb b c) (pieces c bs)
  where
    by : (t : Bool) (ps : List (List ℕ)) → (p : List ℕ) × ((qs : List (List ℕ)) × (cond t ([] ∷ ps) (onto b ps) ≡ p ∷ qs))
    by true ps = ([], (ps, refl))
    by false [] = (b ∷ [], ([], refl))
    by false (p ∷ ps) = (b ∷ p, (ps, refl))

cut_step : (c b : ℕ) (bs : List ℕ) (t : Bool) (n : ℕ) → pieces c bs ≡ take n bs ∷ behind_piece c (drop n bs)
    → cond t ([] ∷ pieces c bs) (onto b (pieces c bs)) ≡ take (cond (not t) (1 + n) 0) (b ∷ bs) ∷ behind_piece c (drop (cond (not t) (1 + n) 0) (b ∷ bs))
cut_step c b bs true n h = refl
cut_step c b bs false n h = let e : 1 + n ≡ suc n = omega arith in rw (e, h) refl

-- the first piece ends before the first byte c
pub pieces_cut : (c : ℕ) (bs : List ℕ) → pieces c bs ≡ take (prefix_len (λ b. not (eqb b c)) bs) bs ∷ behind_piece c (drop (prefix_len (λ b. not (eqb b c)) bs) bs)
unfolding pieces
pieces_cut c [] = refl
pieces_cut c (b ∷ bs) = cut_step c b bs (eqb b c) (prefix_len (λ x. not (eqb x c)) bs) (pieces_cut c bs)

length_onto : (b : ℕ) (ps : List (List ℕ)) → 1 ≤ length ps → length (onto b ps) ≡ length ps
length_onto b [] n = absurd (omega arith)
length_onto b (p ∷ ps) n = refl

-- there is one piece more than bytes c
pub length-pieces : (c : ℕ) (bs : List ℕ) → length (pieces c bs) ≡ count_by (λ b. eqb b c) bs + 1
unfolding pieces
length-pieces c [] = refl
length-pieces c (b ∷ bs) = rw (sum_by-cons (λ x. cond (eqb x c) 1 0) b bs) (by (eqb b c) (length-pieces c bs))
  where
    by : (t : Bool) → length (pieces c bs) ≡ count_by (λ b. eqb b c) bs + 1 → length (cond t ([] ∷ pieces c bs) (onto b (pieces c bs))) ≡ (cond t 1 0 + count_by (λ b. eqb b c) bs) + 1
    by true h = omega arith
    by false h = let some : 1 ≤ length (pieces c bs) = omega arith in rw (length_onto b (pieces c bs) some) (omega arith)

-- what the code's slice pattern takes apart
pub behind_piece-tail : (c : ℕ) (bs : List ℕ) → 1 ≤ length bs → behind_piece c bs ≡ pieces c (take (length bs - 1) (drop 1 bs))
behind_piece-tail c [] n = absurd (omega arith)
behind_piece-tail c (b ∷ bs) n = let k : length (b ∷ bs) - 1 ≡ length bs = omega arith in rw (k, take-length bs) refl

-- something is after bytes
pub some_behind : (c : ℕ) (bs : List ℕ) → 1 ≤ length bs → (p : List ℕ) × ((ps : List (List ℕ)) × (behind_piece c bs ≡ p ∷ ps))
some_behind c [] n = absurd (omega arith)
some_behind c (b ∷ bs) n = first_piece c bs
