-- places in lists
use Rattle.std.proofs.Common.{◌≡◌, ℕ, zero, suc, ◌+◌, ◌-◌, ◌<◌, List, [], ◌∷◌, length, take, get_or, All, Some, slice_get, Bool, true, false, if◌then◌else◌, arith, sym, ap, ◌∙◌, subst}
use Rattle.std.specs.List.{filter}
use Rattle.std.proofs.lemmas.List.Elements.{All-head, All-tail}
use Rattle.tv_points.specs.StatePieces.{state_piece, state_pieces, piece_there}
use Rattle.tv_points.specs.declared.state.State.{State}
use Rattle.tv_cert.specs.MarkedRows.{MarkedRows}

-- what is read at a place stands there
pub got : {A : Type 0} (xs : List A) (i : ℕ) (x : A) → i < length xs → x ≡ get_or xs i x → slice_get xs i ≡ Some x
got [] i x l e = absurd (omega (arith, l))
got (y ∷ xs) zero x l e = ap (λ z. Some z) (sym e)
got (y ∷ xs) (suc i) x l e = got xs i x (omega (arith, l)) e

pub got_one : {A : Type 0} (xs : List A) (i : ℕ) (x y : A) → slice_get xs i ≡ Some x → slice_get xs i ≡ Some y → x ≡ y
got_one xs i x y e f = cc

pub got_all : {A : Type 0} (P : A → Type 0) (xs : List A) (i : ℕ) (x : A) → All P xs → slice_get xs i ≡ Some x → P x
got_all P [] i x h e = absurd cc
got_all P (y ∷ xs) zero x h e = subst P (let s : y ≡ x = cc in s) (All-head P y xs h)
got_all P (y ∷ xs) (suc i) x h e = got_all P xs i x (All-tail P y xs h) e

-- ---- the place among those that a test lets through
by_test : {A : Type 0} (P : A → Bool) (b : Bool) (y : A) (ys zs : List A) (x : A) → slice_get ys (length zs) ≡ Some x → slice_get (if b then y ∷ ys else ys) (length (if b then y ∷ zs else zs)) ≡ Some x
by_test P true y ys zs x e = e
by_test P false y ys zs x e = e

first_kept : {A : Type 0} (b : Bool) (y : A) (ys : List A) (x : A) → b ≡ true → y ≡ x → slice_get (if b then y ∷ ys else ys) 0 ≡ Some x
first_kept true y ys x e s = ap (λ z. Some z) s
first_kept false y ys x e s = absurd cc

pub among : {A : Type 0} (P : A → Bool) (xs : List A) (i : ℕ) (x : A) → slice_get xs i ≡ Some x → P x ≡ true → slice_get (filter P xs) (length (filter P (take i xs))) ≡ Some x
among P [] i x e t = absurd cc
among P (y ∷ xs) zero x e t = let s : y ≡ x = cc in first_kept (P y) y (filter P xs) x (ap P s ∙ t) s
among P (y ∷ xs) (suc i) x e t = by_test P (P y) y (filter P xs) (filter P (take i xs)) x (among P xs i x e t)

-- ---- the pieces of states by their places
pub piece_got : (n : ℕ) (ends : Bool) (states : List State) (i : ℕ) (s : State) → slice_get states i ≡ Some s → slice_get (state_pieces n ends states) i ≡ Some (piece_there n ends states i s)
piece_got n ends [] i s e = absurd cc
piece_got n ends (t ∷ states) zero s e =
    let k : length states ≡ length (t ∷ states) - (0 + 1) = omega arith in
    let same : t ≡ s = cc in
    (λ j. Some (state_piece n ends (k j) (same j)))
piece_got n ends (t ∷ states) (suc i) s e =
    let k : length states - (i + 1) ≡ length (t ∷ states) - (suc i + 1) = omega arith in
    piece_got n ends states i s e ∙ ap (λ m. Some (state_piece n ends m s)) k

pub read_piece : (n : ℕ) (ends : Bool) (states : List State) (pieces : List MarkedRows) (i : ℕ) (s : State) (p : MarkedRows) → pieces ≡ state_pieces n ends states → slice_get states i ≡ Some s → slice_get pieces i ≡ Some p → p ≡ piece_there n ends states i s
read_piece n ends states pieces i s p same e f =
    got_one (state_pieces n ends states) i p (piece_there n ends states i s) (subst (λ ps. slice_get ps i ≡ Some p) same f) (piece_got n ends states i s e)
