-- Rows that are not needed, with 0 for each.
use Rattle.std.proofs.Common.{◌≡◌, ℕ, zero, suc, ◌+◌, ◌-◌, ◌<◌, ◌++◌, List, [], ◌∷◌, map, length, take, drop, All, Some, None, arith, refl, sym, ap, ◌∙◌, subst, ℤ, pos, ◌+ℤ◌, ◌*ℤ◌, ◌≤ℤ◌, ◌<ℤ◌, length-append}
use Rattle.std.proofs.lemmas.Int.{ints}
use Rattle.std.proofs.lemmas.List.Elements.{All-cons, All-head, All-tail}
use Rattle.std.proofs.lemmas.List.{append_assoc, take-append-drop}
use Rattle.tv_linear.specs.Linear.{dot}
use Rattle.tv_linear.specs.Arithmetic.{zeros}
use Rattle.tv_linear.specs.Fits.{IsHeld}
use Rattle.tv_linear.specs.Known.{Known, denied, known_number, KnownHeld}
use Rattle.tv_linear.specs.Covers.{Shown}
use Rattle.tv_linear.specs.Refutation.{RowsHeld, Refutes}
use Rattle.tv_linear.proofs.PlainLists.{length-zeros}
use Rattle.tv_lexrank.specs.Falling.{spread, AllHeld}
use Rattle.tv_cases.proofs.ProductLemmas.{zero_times}

pub nothing : IsHeld (pos 0)
nothing = omega arith

zeros_sum : (p : Known → ℤ) (zs ys : List Known) (ns : List ℤ) → dot (zeros (length zs) ++ ns) (map p (zs ++ ys)) ≡ dot ns (map p ys)
zeros_sum p [] ys ns = refl
zeros_sum p (z ∷ zs) ys ns = let h = zeros_sum p zs ys ns in let e = zero_times (p z) in omega (arith, ints, h, e)

pads_sum : (p : Known → ℤ) (xs zs ys : List Known) (ms ns : List ℤ) → length ms ≡ length xs → dot (ms ++ (zeros (length zs) ++ ns)) (map p (xs ++ (zs ++ ys))) ≡ dot (ms ++ ns) (map p (xs ++ ys))
pads_sum p [] zs ys [] ns e = zeros_sum p zs ys ns
pads_sum p [] zs ys (m ∷ ms) ns e = absurd (omega (arith, e))
pads_sum p (x ∷ xs) zs ys [] ns e = absurd (omega (arith, e))
pads_sum p (x ∷ xs) zs ys (m ∷ ms) ns e = ap (λ s. (m *ℤ p x) +ℤ s) (pads_sum p xs zs ys ms ns (omega (arith, e)))

-- a test holds of each row
abbrev pub EachHeld : (Known → Type 0) → List Known → Type 0
EachHeld held [] = Unit {0}
EachHeld held (k ∷ ks) = held k × EachHeld held ks

zeros_held : (held : Known → Type 0) (p : Known → ℤ) (sum : ℤ) (zs ys : List Known) (ns : List ℤ) → IsHeld sum → EachHeld held zs → RowsHeld held sum p ns ys → RowsHeld held sum p (zeros (length zs) ++ ns) (zs ++ ys)
zeros_held held p sum [] ys ns s h g = g
zeros_held held p sum (z ∷ zs) ys ns s h g =
    let e = zero_times (p z) in
    let same : sum ≡ sum +ℤ pos 0 *ℤ p z = omega (arith, ints, e) in (
      h.0,
      subst (λ x. IsHeld x) (sym e) nothing,
      subst (λ x. IsHeld x) same s,
      subst (λ x. RowsHeld held x p (zeros (length zs) ++ ns) (zs ++ ys)) same (zeros_held held p sum zs ys ns s h.1 g),
    )

pads_held : (held : Known → Type 0) (p : Known → ℤ) (sum : ℤ) (xs zs ys : List Known) (ms ns : List ℤ) → length ms ≡ length xs → IsHeld sum → EachHeld held zs → RowsHeld held sum p (ms ++ ns) (xs ++ ys) → RowsHeld held sum p (ms ++ (zeros (length zs) ++ ns)) (xs ++ (zs ++ ys))
pads_held held p sum [] zs ys [] ns e s h g = zeros_held held p sum zs ys ns s h g
pads_held held p sum [] zs ys (m ∷ ms) ns e s h g = absurd (omega (arith, e))
pads_held held p sum (x ∷ xs) zs ys [] ns e s h g = absurd (omega (arith, e))
pads_held held p sum (x ∷ xs) zs ys (m ∷ ms) ns e s h g = (g.0, g.1, g.2, pads_held held p (sum +ℤ m *ℤ p x) xs zs ys ms ns (omega (arith, e)) g.2 h g.3)

pub each_inner : (n j : ℕ) (ks : List Known) → j < n → AllHeld n ks → EachHeld (λ k. KnownHeld k (Some j)) ks
each_inner n j [] l h = tt
each_inner n j (k ∷ ks) l h = (h.0 j l, each_inner n j ks l h.2)

pub each_constant : (n : ℕ) (ks : List Known) → AllHeld n ks → EachHeld (λ k. KnownHeld k None) ks
each_constant n [] h = tt
each_constant n (k ∷ ks) h = (h.1, each_constant n ks h.2)

zeros_not_below : (zs : List Known) (ns : List ℤ) → All (λ m. pos 0 ≤ℤ m) ns → All (λ m. pos 0 ≤ℤ m) (zeros (length zs) ++ ns)
zeros_not_below [] ns h = h
zeros_not_below (z ∷ zs) ns h = All-cons (λ m. pos 0 ≤ℤ m) (pos 0) (zeros (length zs) ++ ns) (omega (arith, ints)) (zeros_not_below zs ns h)

pads_not_below : (zs : List Known) (ms ns : List ℤ) → All (λ m. pos 0 ≤ℤ m) (ms ++ ns) → All (λ m. pos 0 ≤ℤ m) (ms ++ (zeros (length zs) ++ ns))
pads_not_below zs [] ns h = zeros_not_below zs ns h
pads_not_below zs (m ∷ ms) ns h = All-cons (λ m. pos 0 ≤ℤ m) m (ms ++ (zeros (length zs) ++ ns)) (All-head (λ m. pos 0 ≤ℤ m) m (ms ++ ns) h) (pads_not_below zs ms ns (All-tail (λ m. pos 0 ≤ℤ m) m (ms ++ ns) h))

-- rows put in anywhere, with a multiplier 0 for each, keep a refutation
pub zeros_keep : (n : ℕ) (xs zs ys : List Known) (ms ns : List ℤ) → length ms ≡ length xs → AllHeld n zs → Refutes n (xs ++ ys) (ms ++ ns) → Refutes n (xs ++ (zs ++ ys)) (ms ++ (zeros (length zs) ++ ns))
zeros_keep n xs zs ys ms ns e held h = record {
  as_many = (let a = length-append ms (zeros (length zs) ++ ns) in let b = length-append (zeros (length zs)) ns in let c = length-zeros (length zs) in let d = length-append xs (zs ++ ys) in let f = length-append zs ys in let g = h.as_many in let x = length-append ms ns in let y = length-append xs ys in omega (arith, a, b, c, d, f, g, x, y, e));
  none_negative = pads_not_below zs ms ns h.none_negative;
  columns = λ j l. pads_sum (λ k. known_number k (Some j)) xs zs ys ms ns e ∙ h.columns j l;
  constant = subst (λ s. pos 0 <ℤ s) (sym (pads_sum (λ k. known_number k None) xs zs ys ms ns e)) h.constant;
  columns_held = λ j l. pads_held (λ k. KnownHeld k (Some j)) (λ k. known_number k (Some j)) (pos 0) xs zs ys ms ns e nothing (each_inner n j zs l held) (h.columns_held j l);
  constant_held = pads_held (λ k. KnownHeld k None) (λ k. known_number k None) (pos 0) xs zs ys ms ns e nothing (each_constant n zs held) h.constant_held;
}

-- ---- lines that are spread
length-front : (xs : List ℤ) (n : ℕ) → length xs ≡ n + 1 → length (take (length xs - 1) xs) ≡ n
length-front xs n e = by_count (length xs - 1) xs n (omega (arith, e)) e
  where
    by_count : (k : ℕ) (xs : List ℤ) (n : ℕ) → k ≡ n → length xs ≡ n + 1 → length (take k xs) ≡ n
    by_count zero xs n a e = a
    by_count (suc k) [] n a e = absurd (omega (arith, e))
    by_count (suc k) (x ∷ xs) zero a e = absurd (omega (arith, a))
    by_count (suc k) (x ∷ xs) (suc n) a e = ap suc (by_count k xs n (omega (arith, a)) (omega (arith, e)))

-- a line that shows a row shows it beside more rows, once it is spread over them
pub spread_refutes : (n : ℕ) (known sides : List Known) (r : Known) (line : List ℤ) → AllHeld n sides → Refutes n (known ++ denied r ∷ []) line → Refutes n ((known ++ sides) ++ denied r ∷ []) (spread (length sides) line)
spread_refutes n known sides r line held h =
    let k = length line - 1 in
    let front = take k line in
    let back = drop k line in
    let many = h.as_many ∙ length-append known (denied r ∷ []) in
    subst (λ ks. Refutes n ks (spread (length sides) line)) (sym (append_assoc known sides (denied r ∷ [])))
    (zeros_keep n known sides (denied r ∷ []) front back (length-front line (length known) many) held
    (subst (λ ms. Refutes n (known ++ denied r ∷ []) ms) (sym (take-append-drop k line)) h))

pub spread_shown : (n : ℕ) (known sides falls : List Known) (lines : List (List ℤ)) → AllHeld n sides → Shown n known falls lines → Shown n (known ++ sides) falls (map (spread (length sides)) lines)
spread_shown n known sides [] [] held h = tt
spread_shown n known sides [] (l ∷ lines) held h = absurd h
spread_shown n known sides (r ∷ falls) [] held h = absurd h
spread_shown n known sides (r ∷ falls) (l ∷ lines) held h = (spread_refutes n known sides r l held h.0, spread_shown n known sides falls lines held h.1)
