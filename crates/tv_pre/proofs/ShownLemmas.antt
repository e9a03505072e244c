-- Falls of ranks that are numbers are shown by the denial alone.
use Rattle.std.proofs.Common.{◌≡◌, ℕ, zero, suc, ◌+◌, ◌<◌, ◌≤◌, ◌++◌, List, [], ◌∷◌, map, length, All, Option, None, Some, Bool, false, true, nat_le, arith, refl, sym, ap, ◌∙◌, subst, ℤ, pos, neg_ℤ, ◌+ℤ◌, ◌*ℤ◌, ◌≤ℤ◌, ◌<ℤ◌, length-append}
use Rattle.std.specs.Prelude.{slice_index_or, max}
use Rattle.std.proofs.lemmas.Bool.Decides.{nat_tests}
use Rattle.std.proofs.lemmas.Int.{ints}
use Rattle.std.proofs.lemmas.List.Elements.{All-nil, All-cons, All-append}
use Rattle.tv_linear.specs.Linear.{Linear, columns, dot, IsWithin}
use Rattle.tv_linear.specs.Arithmetic.{zeros}
use Rattle.tv_linear.specs.Fits.{IsHeld}
use Rattle.tv_linear.specs.Known.{Known, given, denied, known_number, KnownHeld}
use Rattle.tv_linear.specs.Refutation.{RowsHeld, Refutes}
use Rattle.tv_linear.specs.Covers.{Shown, ShownAt, IsMetCover}
use Rattle.tv_linear.specs.Depth.{splits}
use Rattle.tv_linear.specs.declared.cover.CoverTree.{CoverTree}
use Rattle.tv_linear.specs.declared.cover.CoverTree as cover
use Rattle.tv_linear.proofs.PlainLists.{length-zeros, zeros-narrow}
use Rattle.tv_linear.proofs.SameLemmas.{all_same, shown_same}
use Rattle.tv_farkas.specs.Trees.{TreeRows}
use Rattle.tv_shape.specs.Narrow.{AreNarrow, CountNarrow, RowNarrow, CoverNarrow}
use Rattle.tv_lexrank.specs.Falling.{AllHeld}
use Rattle.tv_lexrank.proofs.FallLemmas.{held_push, shown_append, opposite_held_at}
use Rattle.tv_pre.specs.Ranked.{last_line, IsFallingEntry, IsFallingCover}
use Rattle.tv_pre.proofs.ChoiceLemmas.{at_same}
use Rattle.tv_pre.proofs.FallLemmas.{IsAlways, WithFalls, FallsOwed}
use Rattle.tv_cases.proofs.ProductLemmas.{zero_times}
use Rattle.tv_lexrank.proofs.PadLemmas.{nothing, EachHeld, each_inner, each_constant}
use Rattle.tv_linear.proofs.ListLaws.{all_unmapped}
use Rattle.tv_cases.proofs.AmountLemmas.{one_more}

one_times : (z : ℤ) → pos 1 *ℤ z ≡ z
one_times z = omega (arith, ints)

last_dot : (xs : List ℤ) (y : ℤ) → dot (zeros (length xs) ++ pos 1 ∷ []) (xs ++ y ∷ []) ≡ y
last_dot [] y = omega (arith, ints)
last_dot (x ∷ xs) y = let h = last_dot xs y in let z = zero_times x in omega (arith, ints, h, z)

mapped_push : (p : Known → ℤ) (ks : List Known) (q : Known) → map p (ks ++ q ∷ []) ≡ map p ks ++ p q ∷ []
mapped_push p [] q = refl
mapped_push p (k ∷ ks) q = ap (λ zs. p k ∷ zs) (mapped_push p ks q)

mapped_length : (p : Known → ℤ) (ks : List Known) → length (map p ks) ≡ length ks
mapped_length p [] = refl
mapped_length p (k ∷ ks) = ap suc (mapped_length p ks)

pub last_sum : (p : Known → ℤ) (ks : List Known) (q : Known) → dot (zeros (length ks) ++ pos 1 ∷ []) (map p (ks ++ q ∷ [])) ≡ p q
last_sum p ks q =
    ap (dot (zeros (length ks) ++ pos 1 ∷ [])) (mapped_push p ks q)
    ∙ ap (λ m. dot (zeros m ++ pos 1 ∷ []) (map p ks ++ p q ∷ [])) (sym (mapped_length p ks))
    ∙ last_dot (map p ks) (p q)

last_held : (held : Known → Type 0) (p : Known → ℤ) (ks : List Known) (q : Known) → EachHeld held ks → held q → IsHeld (p q) → RowsHeld held (pos 0) p (zeros (length ks) ++ pos 1 ∷ []) (ks ++ q ∷ [])
last_held held p [] q h g s = (
  g,
  subst (λ z. IsHeld z) (sym (one_times (p q))) s,
  subst (λ z. IsHeld z) (let e = one_times (p q) in let r : p q ≡ pos 0 +ℤ pos 1 *ℤ p q = omega (arith, ints, e) in r) s,
  tt,
)
last_held held p (k ∷ ks) q h g s =
    let e = zero_times (p k) in
    let sum : pos 0 ≡ pos 0 +ℤ pos 0 *ℤ p k = omega (arith, ints, e) in (
      h.0,
      subst (λ z. IsHeld z) (sym e) nothing,
      subst (λ z. IsHeld z) sum nothing,
      subst (λ z. RowsHeld held z p (zeros (length ks) ++ pos 1 ∷ []) (ks ++ q ∷ [])) sum (last_held held p ks q h.1 g s),
    )

none_below : (ks : List Known) → All (λ m. pos 0 ≤ℤ m) (zeros (length ks) ++ pos 1 ∷ [])
none_below [] = All-cons (λ m. pos 0 ≤ℤ m) (pos 1) [] (omega (arith, ints)) (All-nil (λ m. pos 0 ≤ℤ m))
none_below (k ∷ ks) = All-cons (λ m. pos 0 ≤ℤ m) (pos 0) (zeros (length ks) ++ pos 1 ∷ []) (omega (arith, ints)) (none_below ks)

pub always_refuted : (n : ℕ) (ks : List Known) (f : Known) → AllHeld n ks → IsAlways n f → Refutes n (ks ++ denied f ∷ []) (zeros (length ks) ++ pos 1 ∷ [])
always_refuted n ks f h a = record {
  as_many = length-append (zeros (length ks)) (pos 1 ∷ []) ∙ (λ i. length-zeros (length ks) i + 1) ∙ sym (length-append ks (denied f ∷ []));
  none_negative = none_below ks;
  columns = λ j l. last_sum (λ k. known_number k (Some j)) ks (denied f) ∙ ap neg_ℤ (a.inner j l);
  constant = subst (λ z. pos 0 <ℤ z) (sym (last_sum (λ k. known_number k None) ks (denied f))) (let c = a.constant in omega (arith, ints, c));
  columns_held = λ j l. last_held (λ k. KnownHeld k (Some j)) (λ k. known_number k (Some j)) ks (denied f) (each_inner n j ks l h) (a.inner_held j l, no_number j l) (no_number j l);
  constant_held = last_held (λ k. KnownHeld k None) (λ k. known_number k None) ks (denied f) (each_constant n ks h) (a.constant_held, a.small) a.small;
}
  where
    no_number : (j : ℕ) → j < n → IsHeld (neg_ℤ (known_number f (Some j)))
    no_number j l = subst (λ z. IsHeld (neg_ℤ z)) (sym (a.inner j l)) nothing

-- a target that goes on: two more lists
pub falls_at : (n : ℕ) (ks : List Known) (a b : Option (List Known)) (lists : List (List ℤ)) → AllHeld n ks → WithFalls n a b → ShownAt n ks a lists → ShownAt n ks b (lists ++ (zeros (length ks) ++ pos 1 ∷ []) ∷ (zeros (length ks) ++ pos 1 ∷ []) ∷ [])
falls_at n ks None b lists h w s = absurd s
falls_at n ks (Some rows) None lists h w s = absurd w
falls_at n ks (Some rows) (Some owed) lists h w s =
    let one = zeros (length ks) ++ pos 1 ∷ [] in
    subst (λ os. Shown n ks os (lists ++ one ∷ one ∷ [])) (sym w.exact)
    (shown_append n ks w.same (w.first ∷ w.second ∷ []) lists (one ∷ one ∷ []) (shown_same n ks ks (all_same n ks) rows w.same w.are lists s)
    (always_refuted n ks w.first h w.first_always, (always_refuted n ks w.second h w.second_always, tt)))

narrow_number : (r : Linear) (j : ℕ) → RowNarrow r → IsHeld (neg_ℤ (slice_index_or r.coefficients j (pos 0)))
narrow_number r j h = opposite_held_at r.coefficients j h.coefficients

-- ---- covers
pub entry_shown : (n first count k fall m i : ℕ) (lists new : List (List ℤ)) (owed wanted : ℕ → ℕ → Option (List Known)) (known : List Known) → length known ≡ count → AllHeld n known → FallsOwed n first owed wanted → IsFallingEntry first count k fall m i lists new → ShownAt n known (owed k fall) lists → ShownAt n known (wanted m i) new
entry_shown n first count k (suc j) m i lists new owed wanted known e held f h s = absurd (subst (λ o. ShownAt n known o lists) (f.only k j) s)
entry_shown n first count k zero m i lists new owed wanted known e held f h s = by_place (nat_le first k) refl
  where
    by_place : (b : Bool) → nat_le first k ≡ b → ShownAt n known (wanted m i) new
    by_place true t =
        let l : first ≤ k = grind (arith, nat_tests, t) in
        let g = h.onward l in
        subst (λ x. x) (sym (λ x. ShownAt n known (wanted (h.same x) (g.0 x)) ((g.1 ∙ ap (λ c. lists ++ last_line c ∷ last_line c ∷ []) (sym e)) x)))
        (falls_at n known (owed k 0) (wanted k 1) lists held (f.onward k l) s)
    by_place false t =
        let l : k < first = grind (arith, nat_tests, t) in
        let g = h.before l in
        subst (λ x. x) (sym (λ x. ShownAt n known (wanted (h.same x) (g.0 x)) (g.1 x)))
        (at_same n known (owed k 0) (wanted k 0) (f.before k l) lists s)

pub given_more : (n : ℕ) (known : List Known) (r : Linear) → AllHeld n known → AllHeld n (known ++ given r ∷ [])
given_more n known r h = held_push n known (given r) h (λ j l. tt) tt

pub denied_more : (n : ℕ) (known : List Known) (r : Linear) → RowNarrow r → AllHeld n known → AllHeld n (known ++ denied (given r) ∷ [])
denied_more n known r w h = held_push n known (denied (given r)) h (λ j l. (tt, narrow_number r j w)) (tt, (let c = w.constant in omega (arith, ints, c)))

pub cover_falls : (n first count : ℕ) (owed wanted : ℕ → ℕ → Option (List Known)) → FallsOwed n first owed wanted → (known : List Known) (old new : CoverTree) → length known ≡ count → AllHeld n known → CoverNarrow old → IsFallingCover first count old new → IsMetCover n owed known old → IsMetCover n wanted known new
cover_falls n first count owed wanted f known (cover.Split' r p a q b) (cover.Split' s t x u y) e held w h m = (
  subst (λ z. IsMetCover n wanted (known ++ given z ∷ []) x) (sym h.0) (cover_falls n first (count + 1) owed wanted f (known ++ given r ∷ []) a x (one_more known (given r) count e) (given_more n known r held) w.1 h.1 m.0),
  subst (λ z. IsMetCover n wanted (known ++ denied (given z) ∷ []) y) (sym h.0) (cover_falls n first (count + 1) owed wanted f (known ++ denied (given r) ∷ []) b y (one_more known (denied (given r)) count e) (denied_more n known r w.0 held) w.2 h.2 m.1),
)
cover_falls n first count owed wanted f known (cover.Split' r p a q b) (cover.Empty ms) e held w h m = absurd h
cover_falls n first count owed wanted f known (cover.Split' r p a q b) (cover.Into k j ls) e held w h m = absurd h
cover_falls n first count owed wanted f known (cover.Empty ns) (cover.Split' s t x u y) e held w h m = absurd h
cover_falls n first count owed wanted f known (cover.Empty ns) (cover.Empty ms) e held w h m = subst (Refutes n known) (sym h) m
cover_falls n first count owed wanted f known (cover.Empty ns) (cover.Into k j ls) e held w h m = absurd h
cover_falls n first count owed wanted f known (cover.Into k j ls) (cover.Split' s t x u y) e held w h m = absurd h
cover_falls n first count owed wanted f known (cover.Into k j ls) (cover.Empty ms) e held w h m = absurd h
cover_falls n first count owed wanted f known (cover.Into k j ls) (cover.Into o i ns) e held w h m =
    entry_shown n first count k j o i (map (λ l. l.items) ls.items) (map (λ l. l.items) ns.items) owed wanted known e held f h m

pub falling_even : (n first count : ℕ) (old new : CoverTree) → IsFallingCover first count old new → TreeRows (λ r. columns r ≡ n) old → TreeRows (λ r. columns r ≡ n) new
falling_even n first count (cover.Split' r p a q b) (cover.Split' s t x u y) h g = (subst (λ z. columns z ≡ n) (sym h.0) g.0, falling_even n first (count + 1) a x h.1 g.1, falling_even n first (count + 1) b y h.2 g.2)
falling_even n first count (cover.Split' r p a q b) (cover.Empty ms) h g = absurd h
falling_even n first count (cover.Split' r p a q b) (cover.Into k j ls) h g = absurd h
falling_even n first count (cover.Empty ns) (cover.Split' s t x u y) h g = absurd h
falling_even n first count (cover.Empty ns) (cover.Empty ms) h g = tt
falling_even n first count (cover.Empty ns) (cover.Into k j ls) h g = absurd h
falling_even n first count (cover.Into k j ls) (cover.Split' s t x u y) h g = absurd h
falling_even n first count (cover.Into k j ls) (cover.Empty ms) h g = absurd h
falling_even n first count (cover.Into k j ls) (cover.Into o i ns) h g = tt

pub falling_splits : (first count : ℕ) (old new : CoverTree) → IsFallingCover first count old new → splits new ≡ splits old
falling_splits first count (cover.Split' r p a q b) (cover.Split' s t x u y) h = λ i. 1 + max (falling_splits first (count + 1) a x h.1 i) (falling_splits first (count + 1) b y h.2 i)
falling_splits first count (cover.Split' r p a q b) (cover.Empty ms) h = absurd h
falling_splits first count (cover.Split' r p a q b) (cover.Into k j ls) h = absurd h
falling_splits first count (cover.Empty ns) (cover.Split' s t x u y) h = absurd h
falling_splits first count (cover.Empty ns) (cover.Empty ms) h = refl
falling_splits first count (cover.Empty ns) (cover.Into k j ls) h = absurd h
falling_splits first count (cover.Into k j ls) (cover.Split' s t x u y) h = absurd h
falling_splits first count (cover.Into k j ls) (cover.Empty ms) h = absurd h
falling_splits first count (cover.Into k j ls) (cover.Into o i ns) h = refl

last_narrow : (count : ℕ) → AreNarrow (last_line count)
last_narrow count = All-append (IsWithin 62) (zeros count) (pos 1 ∷ []) (zeros-narrow count) (All-cons (IsWithin 62) (pos 1) [] (omega arith) (All-nil (IsWithin 62)))

pub all_mapped : {A B : Type 0} (P : B → Type 0) (f : A → B) (xs : List A) → All (λ x. P (f x)) xs → All P (map f xs)
all_mapped P f xs h k d l = all_there P f xs h k d l
  where
    all_there : {A B : Type 0} (P : B → Type 0) (f : A → B) (xs : List A) → All (λ x. P (f x)) xs → All P (map f xs)
    all_there P f [] h = All-nil P
    all_there P f (x ∷ xs) h = All-cons P (f x) (map f xs) (h 0 x (omega arith)) (all_there P f xs (λ k d l. h (suc k) d (omega (arith, l))))

pub entry_narrow : (first count k fall m i : ℕ) (lists new : List (List ℤ)) → IsFallingEntry first count k fall m i lists new → CountNarrow k → CountNarrow fall → All AreNarrow lists → CountNarrow m × CountNarrow i × All AreNarrow new
entry_narrow first count k fall m i lists new h wk wf ws = by_place (nat_le first k) refl
  where
    by_place : (b : Bool) → nat_le first k ≡ b → CountNarrow m × CountNarrow i × All AreNarrow new
    by_place true t =
        let l : first ≤ k = grind (arith, nat_tests, t) in
        let g = h.onward l in (
          subst CountNarrow (sym h.same) wk,
          subst CountNarrow (sym g.0) (omega arith),
          subst (All AreNarrow) (sym g.1) (All-append AreNarrow lists (last_line count ∷ last_line count ∷ []) ws (All-cons AreNarrow (last_line count) (last_line count ∷ []) (last_narrow count) (All-cons AreNarrow (last_line count) [] (last_narrow count) (All-nil AreNarrow)))),
        )
    by_place false t =
        let l : k < first = grind (arith, nat_tests, t) in
        let g = h.before l in (subst CountNarrow (sym h.same) wk, subst CountNarrow (sym g.0) wf, subst (All AreNarrow) (sym g.1) ws)

pub falling_narrow : (first count : ℕ) (old new : CoverTree) → IsFallingCover first count old new → CoverNarrow old → CoverNarrow new
falling_narrow first count (cover.Split' r p a q b) (cover.Split' s t x u y) h w = (subst RowNarrow (sym h.0) w.0, falling_narrow first (count + 1) a x h.1 w.1, falling_narrow first (count + 1) b y h.2 w.2)
falling_narrow first count (cover.Split' r p a q b) (cover.Empty ms) h w = absurd h
falling_narrow first count (cover.Split' r p a q b) (cover.Into k j ls) h w = absurd h
falling_narrow first count (cover.Empty ns) (cover.Split' s t x u y) h w = absurd h
falling_narrow first count (cover.Empty ns) (cover.Empty ms) h w = subst AreNarrow (sym h) w
falling_narrow first count (cover.Empty ns) (cover.Into k j ls) h w = absurd h
falling_narrow first count (cover.Into k j ls) (cover.Split' s t x u y) h w = absurd h
falling_narrow first count (cover.Into k j ls) (cover.Empty ms) h w = absurd h
falling_narrow first count (cover.Into k j ls) (cover.Into o i ns) h w =
    let e = entry_narrow first count k j o i (map (λ l. l.items) ls.items) (map (λ l. l.items) ns.items) h w.0 w.1 (all_mapped AreNarrow (λ l. l.items) ls.items w.2) in
    (e.0, e.1, all_unmapped AreNarrow (λ l. l.items) ns.items e.2)
