-- The pieces of several nodes, one node after another.
use Rattle.std.proofs.Common.{◌≡◌, ℕ, zero, suc, ◌+◌, ◌-◌, ◌<◌, ◌≤◌, Bool, true, false, List, [], ◌∷◌, ◌++◌, length, map, take, drop, get_or, cond, arith, refl, sym, ap, ◌∙◌, drop-cons, slice_get, ◌==◌}
use Rattle.std.specs.List.{flat_map}
use Rattle.tv_cert.specs.declared.node.Marked.{Marked}
use Rattle.tv_cert.specs.declared.node.Node.{Node}
use Rattle.tv_cert.specs.Pieces.{place_of, pieces_at}
use Rattle.tv_cert.specs.NodeViews.{pieces_list}

one_more : (b : Bool) (p : Marked) (xs ys : List Marked) → cond b (p ∷ (xs ++ ys)) (xs ++ ys) ≡ cond b (p ∷ xs) xs ++ ys
one_more true p xs ys = refl
one_more false p xs ys = refl

pub pieces_at-append : (ps qs : List Marked) (l : ℕ) → pieces_at (ps ++ qs) l ≡ pieces_at ps l ++ pieces_at qs l
pieces_at-append [] qs l = refl
pieces_at-append (p ∷ ps) qs l = ap (λ rest. cond (place_of p == l) (p ∷ rest) rest) (pieces_at-append ps qs l) ∙ one_more (place_of p == l) p (pieces_at ps l) (pieces_at qs l)

get-left : (xs ys : List Marked) (k : ℕ) → k < length xs → slice_get (xs ++ ys) k ≡ slice_get xs k
get-left [] ys k h = absurd (omega arith)
get-left (x ∷ xs) ys zero h = refl
get-left (x ∷ xs) ys (suc k) h = get-left xs ys k (omega arith)

get-right : (xs ys : List Marked) (k m : ℕ) → k ≡ length xs + m → slice_get (xs ++ ys) k ≡ slice_get ys m
get-right [] ys k m h = ap (slice_get ys) (let e : k ≡ m = omega arith in e)
get-right (x ∷ xs) ys zero m h = absurd (omega arith)
get-right (x ∷ xs) ys (suc k) m h = get-right xs ys k m (omega arith)

take_all : {A : Type 0} (xs : List A) (n : ℕ) → n ≡ length xs → take n xs ≡ xs
take_all [] zero e = refl
take_all [] (suc n) e = absurd (omega arith)
take_all (x ∷ xs) zero e = absurd (omega arith)
take_all (x ∷ xs) (suc n) e = ap (λ ys. x ∷ ys) (take_all xs n (omega arith))

take_rest : {A : Type 0} (xs : List A) → take (length xs - 1) (drop 1 xs) ≡ drop 1 xs
take_rest [] = take_all [] (0 - 1) (omega arith)
take_rest (x ∷ xs) = take_all xs (length (x ∷ xs) - 1) (omega arith)

abbrev all_at : List Node → ℕ → List Marked
all_at nodes l = pieces_at (flat_map (λ a. a) (map pieces_list nodes)) l

module _ (nodes : List Node) (a : Node) (some : 1 ≤ length nodes) (is : a ≡ get_or nodes 0 a) (l : ℕ) where
  parted : all_at nodes l ≡ pieces_at (pieces_list a) l ++ all_at (drop 1 nodes) l
  parted =
      ap (λ ns. all_at ns l) (drop-cons nodes 0 a (omega arith) ∙ ap (λ x. x ∷ drop 1 nodes) (sym is))
      ∙ pieces_at-append (pieces_list a) (flat_map (λ a. a) (map pieces_list (drop 1 nodes))) l

  pub joined_here : (k : ℕ) → k < length (pieces_at (pieces_list a) l) → slice_get (all_at nodes l) k ≡ slice_get (pieces_at (pieces_list a) l) k
  joined_here k h = ap (λ ps. slice_get ps k) parted ∙ get-left (pieces_at (pieces_list a) l) (all_at (drop 1 nodes) l) k h

  pub joined_later : (k m : ℕ) → k ≡ length (pieces_at (pieces_list a) l) + m → slice_get (all_at nodes l) k ≡ slice_get (all_at (take (length nodes - 1) (drop 1 nodes)) l) m
  joined_later k m h = ap (λ ps. slice_get ps k) parted ∙ get-right (pieces_at (pieces_list a) l) (all_at (drop 1 nodes) l) k m h ∙ ap (λ ns. slice_get (all_at ns l) m) (sym (take_rest nodes))
