use Rattle.std.proofs.Common.{◌≡◌, ℕ, zero, suc, ◌-◌, ◌<◌, ◌≤◌, ◌⊎◌, inl, inr, List, [], ◌∷◌, ◌++◌, length, take, get_or, refl, sym, ◌∙◌, ap, arith, length-append}
use Rattle.std.proofs.Math.ListN.{get_or-append}
use Rattle.std.proofs.Math.Seq.{get_or-append_seam}
use Rattle.std.proofs.lemmas.List.{get_or-take, length-take}
use Rattle.std.proofs.lemmas.Bool.{cases_lt}
use Rattle.tv_graph.specs.Stacks.{Has, IsRising, Cuts, whole, less}
use Rattle.tv_graph.specs.declared.marks.Mark.{Mark}
use Rattle.tv_graph.specs.Invariant.{IsSearchState, Follows}
use Rattle.tv_graph.proofs.StateLemmas.{merged}

-- what a list has after a push
pub has_old : (xs : List ℕ) (x y : ℕ) → Has xs y → Has (xs ++ x ∷ []) y
has_old xs x y h = (h.0, (let l : h.0 < length xs = h.1 in omega (arith, length-append xs (x ∷ []))), get_or-append xs (x ∷ []) 0 h.0 h.1 ∙ h.2)

pub has_new : (xs : List ℕ) (x : ℕ) → Has (xs ++ x ∷ []) x
has_new xs x = (length xs, omega (arith, length-append xs (x ∷ [])), get_or-append_seam xs x [] 0)

pub has_split : (xs : List ℕ) (x y : ℕ) → Has (xs ++ x ∷ []) y → Has xs y ⊎ (y ≡ x)
has_split xs x y h = elim (cases_lt h.0 (length xs)) [
  | inl l ↦ inl (h.0, l, sym (get_or-append xs (x ∷ []) 0 h.0 l) ∙ h.2)
  | inr g ↦
      let l : h.0 < length (xs ++ x ∷ []) = h.1 in
      let e : h.0 ≡ length xs = omega (arith, length-append xs (x ∷ [])) in
      inr (sym h.2 ∙ (ap (λ i. get_or (xs ++ x ∷ []) i 0) e ∙ get_or-append_seam xs x [] 0))
]

-- what a list has after a pop
pub has_less : (n : ℕ) (xs : List ℕ) (y : ℕ) → Has (take n xs) y → Has xs y
has_less n xs y h =
    let l : h.0 < length (take n xs) = h.1 in
    (h.0, omega (arith, length-take n xs), (let k : h.0 < n = omega (arith, length-take n xs) in sym (get_or-take n xs h.0 0 k) ∙ h.2))

pub has_rest : (xs : List ℕ) (y : ℕ) → Has xs y → Has (take (length xs - 1) xs) y ⊎ (y ≡ get_or xs (length xs - 1) 0)
has_rest xs y h =
    let l : h.0 < length xs = h.1 in
    elim (cases_lt h.0 (length xs - 1)) [
      | inl k ↦ inl (h.0, omega (arith, length-take (length xs - 1) xs), get_or-take (length xs - 1) xs h.0 0 k ∙ h.2)
      | inr g ↦ (let e : h.0 ≡ length xs - 1 = omega arith in inr (sym h.2 ∙ ap (λ i. get_or xs i 0) e))
    ]

-- the last number of a list, which is the greatest where the list rises
pub has_top : (xs : List ℕ) → 0 < length xs → Has xs (get_or xs (length xs - 1) 0)
has_top xs some = (length xs - 1, omega arith, refl)

pub has_some : (xs : List ℕ) (y : ℕ) → Has xs y → 0 < length xs
has_some xs y h = (let l : h.0 < length xs = h.1 in omega arith)

pub top_most : (xs : List ℕ) (y : ℕ) → IsRising xs → Has xs y → y ≤ get_or xs (length xs - 1) 0
top_most xs y r h =
    let l : h.0 < length xs = h.1 in
    let is : get_or xs h.0 0 ≡ y = h.2 in
    elim (cases_lt h.0 (length xs - 1)) [
      | inl k ↦ (let o : get_or xs h.0 0 < get_or xs (length xs - 1) 0 = r.rises h.0 (length xs - 1) k (omega arith) in omega arith)
      | inr g ↦ (let e : h.0 ≡ length xs - 1 = omega arith in let o : get_or xs h.0 0 ≡ get_or xs (length xs - 1) 0 = ap (λ i. get_or xs i 0) e in omega arith)
    ]

pub has_below : (xs : List ℕ) (y : ℕ) → IsRising xs → Has (take (length xs - 1) xs) y → y < get_or xs (length xs - 1) 0
has_below xs y r h =
    let l : h.0 < length (take (length xs - 1) xs) = h.1 in
    let k : h.0 < length xs - 1 = omega (arith, length-take (length xs - 1) xs) in
    let is : get_or (take (length xs - 1) xs) h.0 0 ≡ y = h.2 in
    let o : get_or xs h.0 0 < get_or xs (length xs - 1) 0 = r.rises h.0 (length xs - 1) k (omega arith) in
    omega (arith, get_or-take (length xs - 1) xs h.0 0 k)

-- lists that rise
pub rising_none : IsRising []
rising_none = record { rises = λ i j ij jl. absurd (omega arith) }

pub rising_push : (xs : List ℕ) (x : ℕ) → IsRising xs → ((y : ℕ) → Has xs y → y < x) → IsRising (xs ++ x ∷ [])
rising_push xs x r low = record {
  rises = λ i j ij jl.
      let il : i < length xs = omega (arith, length-append xs (x ∷ [])) in
      let ie : get_or (xs ++ x ∷ []) i 0 ≡ get_or xs i 0 = get_or-append xs (x ∷ []) 0 i il in
      elim (cases_lt j (length xs)) [
        | inl l ↦ (let o : get_or xs i 0 < get_or xs j 0 = r.rises i j ij l in omega (arith, get_or-append xs (x ∷ []) 0 j l))
        | inr g ↦
            let e : j ≡ length xs = omega (arith, length-append xs (x ∷ [])) in
            let je : get_or (xs ++ x ∷ []) j 0 ≡ x = ap (λ k. get_or (xs ++ x ∷ []) k 0) e ∙ get_or-append_seam xs x [] 0 in
            let o : get_or xs i 0 < x = low (get_or xs i 0) (i, il, refl) in
            omega arith
      ];
}

pub rising_take : (n : ℕ) (xs : List ℕ) → IsRising xs → IsRising (take n xs)
rising_take n xs r = record {
  rises = λ i j ij jl.
      let jn : j < n = omega (arith, length-take n xs) in
      let inn : i < n = omega arith in
      let o : get_or xs i 0 < get_or xs j 0 = r.rises i j ij (omega (arith, length-take n xs)) in
      omega (arith, get_or-take n xs i 0 inn, get_or-take n xs j 0 jn);
}

pub cuts_rising : (q : ℕ) (xs ys : List ℕ) → Cuts q xs ys → IsRising xs → IsRising ys
cuts_rising q xs ys (whole zs) r = r
cuts_rising q xs ys (less old new some top rest) r = cuts_rising q (take (length old - 1) old) new rest (rising_take (length old - 1) old r)

-- the segments after the one of the place q, which the last segment's place p goes back to, become one
pub cuts_state : (m : ℕ) (f t : ℕ → ℕ) (R : ℕ → ℕ → Type 0) (mark : ℕ → Mark) (cur s : ℕ → ℕ) (size count : ℕ) (W : ℕ → Type 0) → Follows m f t R → (p q : ℕ) → p < size → R (s p) (s q) → (xs ys : List ℕ) → Cuts q xs ys → IsRising xs → ((b : ℕ) → Has xs b → b ≤ p) → IsSearchState m f t R mark cur s size count W (Has xs) → IsSearchState m f t R mark cur s size count W (Has ys)
cuts_state m f t R mark cur s size count W r p q ps path xs ys (whole zs) rises top st = st
cuts_state m f t R mark cur s size count W r p q ps path xs ys (less old new some above rest) rises top st =
    let last : ℕ = get_or old (length old - 1) 0 in
    let held : Has old last = has_top old some in
    let low : last ≤ p = top last held in
    cuts_state m f t R mark cur s size count W r p q ps path (take (length old - 1) old) new rest (rising_take (length old - 1) old rises)
    (λ b h. top b (has_less (length old - 1) old b h))
    (merged r st (Has (take (length old - 1) old)) last q held (omega arith) above
    (r.chain _ _ _ (st.onward last p low ps) path)
    (λ c h. has_less (length old - 1) old c h)
    (λ c h. has_rest old c h))

-- to take more and then less is to take less
pub take_take_less : (n k : ℕ) (xs : List ℕ) → n ≤ k → take n (take k xs) ≡ take n xs
take_take_less zero k xs le = refl
take_take_less (suc n) zero xs le = absurd (omega arith)
take_take_less (suc n) (suc k) [] le = refl
take_take_less (suc n) (suc k) (x ∷ xs) le = ap (λ ys. x ∷ ys) (take_take_less n k xs (omega arith))
