-- The cover with a fall, part by part.
use Rattle.std.proofs.Common.{◌≡◌, ℕ, zero, suc, ◌+◌, ◌-◌, ◌^◌, ◌<◌, ◌++◌, List, [], ◌∷◌, length, length-append, map, take, drop, All, Option, None, Some, Vec, arith, refl, sym, ap, ◌∙◌, subst, ℤ, pos, neg_ℤ, ◌-ℤ◌}
use Rattle.std.specs.Prelude.{slice_index_or, max}
use Rattle.std.specs.Global.{Global}
use Rattle.std.proofs.lemmas.Int.{ints}
use Rattle.std.proofs.lemmas.List.{append_assoc}
use Rattle.std.proofs.lemmas.List.Elements.{All-nil, All-cons, All-head, All-tail, All-append, All-take, All-drop}
use Rattle.tv_linear.specs.Linear.{Linear, columns, IsNarrow, IsWithin}
use Rattle.tv_linear.specs.Arithmetic.{zeros}
use Rattle.tv_linear.specs.Fits.{IsHeld}
use Rattle.tv_linear.specs.Known.{Known, given, denied, KnownHeld}
use Rattle.tv_linear.specs.Covers.{Shown, ShownAt, IsMetCover}
use Rattle.tv_linear.specs.Depth.{splits}
use Rattle.tv_linear.specs.Refutation.{Refutes}
use Rattle.tv_linear.specs.declared.cover.CoverTree.{CoverTree, Split', Empty, Into}
use Rattle.tv_linear.proofs.PlainLists.{zeros-narrow}
use Rattle.tv_farkas.specs.Refuting.{AreShort}
use Rattle.tv_farkas.specs.Stretching.{IsSplitOf}
use Rattle.tv_farkas.specs.Trees.{TreeRows}
use Rattle.tv_shape.specs.Narrow.{CoverNarrow, AreNarrow}
use Rattle.tv_rank.specs.Given.{lists}
use Rattle.tv_farkas.proofs.StretchLemmas.{short_all}
use Rattle.tv_lexrank.specs.Closing.{owed_plain}
use Rattle.tv_lexrank.specs.Falling.{spread, AreNarrowLines, AllHeld, HasFall}
use Rattle.tv_lexrank.specs.declared.falling.Fall.{Fall}
use Rattle.tv_lexrank.proofs.PadLemmas.{spread_shown, nothing}
use Rattle.tv_linear.proofs.ListLaws.{all_unmapped}
use Rattle.tv_shape.proofs.NumberLemmas.{narrow_count}
use Rattle.tv_linear.proofs.HeldLemmas.{opposite_held}

-- ---- a split
pub held_push : (n : ℕ) (ks : List Known) (k : Known) → AllHeld n ks → ((j : ℕ) → j < n → KnownHeld k (Some j)) → KnownHeld k None → AllHeld n (ks ++ k ∷ [])
held_push n [] k h a b = (a, b, tt)
held_push n (q ∷ ks) k h a b = (h.0, h.1, held_push n ks k h.2 a b)

pub opposite_held_at : (cs : List ℤ) (j : ℕ) → All (IsWithin 62) cs → IsHeld (neg_ℤ (slice_index_or cs j (pos 0)))
opposite_held_at [] j w = nothing
opposite_held_at (c ∷ cs) zero w = opposite_held c (All-head (IsWithin 62) c cs w)
opposite_held_at (c ∷ cs) (suc j) w = opposite_held_at cs j (All-tail (IsWithin 62) c cs w)

narrow_number : (r : Linear) (j : ℕ) → IsNarrow r → IsHeld (neg_ℤ (slice_index_or r.coefficients j (pos 0)))
narrow_number r j h = opposite_held_at r.coefficients j h.coefficients

-- a property of a tree that is a split at a row
split_is : (P : CoverTree → Type 0) (r : Linear) (a b new : CoverTree) → IsSplitOf r a b new → ((p q : _) → P (Split' r p a q b)) → P new
split_is P r a b (Split' s p x q y) h k =
    subst (λ z. P (Split' z p x q y)) (sym h.0) (subst (λ z. P (Split' r p z q y)) (sym h.1) (subst (λ z. P (Split' r p a q z)) (sym h.2) (k p q)))
split_is P r a b (Empty ms) h k = absurd h
split_is P r a b (Into t f ls) h k = absurd h

pub split_falls : (fall : Fall) (above : ℕ) (r : Linear) (p q : _) (x y a b new : CoverTree) → IsNarrow r → IsSplitOf r a b new → HasFall fall (above + 1) x a → HasFall fall (above + 1) y b → HasFall fall above (Split' r p x q y) new
split_falls fall above r p q x y a b new narrow s h g = record {
  goes_on = λ n known sides rows falls wanted e held shown w met.
      split_is (IsMetCover n wanted (known ++ sides)) r a b new s (λ p q. (
        subst (λ ks. IsMetCover n wanted ks a) (sym (append_assoc known sides (given r ∷ [])))
            (h.goes_on n known (sides ++ given r ∷ []) rows falls wanted (length-append sides (given r ∷ []) ∙ ap (λ m. m + 1) e) (held_push n sides (given r) held (λ j l. tt) tt) shown w
            (subst (λ ks. IsMetCover n (owed_plain rows) ks x) (append_assoc known sides (given r ∷ [])) met.0)),
        subst (λ ks. IsMetCover n wanted ks b) (sym (append_assoc known sides (denied (given r) ∷ [])))
            (g.goes_on n known (sides ++ denied (given r) ∷ []) rows falls wanted (length-append sides (denied (given r) ∷ []) ∙ ap (λ m. m + 1) e)
            (held_push n sides (denied (given r)) held (λ j l. (tt, narrow_number r j narrow)) (tt, small_constant r.constant narrow.constant)) shown w
            (subst (λ ks. IsMetCover n (owed_plain rows) ks y) (append_assoc known sides (denied (given r) ∷ [])) met.1)),
      ));
  deep = split_is (λ t. splits t ≡ 1 + max (splits x) (splits y)) r a b new s (λ p q. (λ i. 1 + max (h.deep i) (g.deep i)));
  even = λ n e. split_is (TreeRows (λ r. columns r ≡ n)) r a b new s (λ p q. (e.0, h.even n e.1, g.even n e.2));
  narrow = split_is CoverNarrow r a b new s (λ p q. (record { coefficients = narrow.coefficients; constant = narrow.constant }, h.narrow, g.narrow));
}
  where
    small_constant : (z : ℤ) → IsWithin 62 z → IsHeld (pos 1 -ℤ z)
    small_constant z w = omega (arith, ints, w)

-- ---- a place that is refuted
pub empty_falls : (fall : Fall) (above : ℕ) (old new : Vec ℤ Global) → new.items ≡ old.items → AreShort old.items → HasFall fall above (Empty old) (Empty new)
empty_falls fall above old new e short = record {
  goes_on = λ n known sides rows falls wanted many held shown w met. subst (Refutes n (known ++ sides)) (sym e) met;
  deep = refl;
  even = λ n e. tt;
  narrow = subst (All (IsWithin 62)) (sym e) (short_all old.items short);
}

-- ---- a target that is entered
pub shown_append : (n : ℕ) (ks xs ys : List Known) (ms ns : List (List ℤ)) → Shown n ks xs ms → Shown n ks ys ns → Shown n ks (xs ++ ys) (ms ++ ns)
shown_append n ks [] ys [] ns h g = g
shown_append n ks [] ys (m ∷ ms) ns h g = absurd h
shown_append n ks (x ∷ xs) ys [] ns h g = absurd h
shown_append n ks (x ∷ xs) ys (m ∷ ms) ns h g = (h.0, shown_append n ks xs ys ms ns h.1 g)

spread_narrow : (above : ℕ) (line : List ℤ) → All (IsWithin 62) line → All (IsWithin 62) (spread above line)
spread_narrow above line h =
    let k = length line - 1 in
    All-append (IsWithin 62) (take k line) (zeros above ++ drop k line) (All-take (IsWithin 62) k line h)
    (All-append (IsWithin 62) (zeros above) (drop k line) (zeros-narrow above) (All-drop (IsWithin 62) k line h))

pub spreads_narrow : (above : ℕ) (lines : List (List ℤ)) → AreNarrowLines lines → AreNarrowLines (map (spread above) lines)
spreads_narrow above [] h = All-nil (All (IsWithin 62))
spreads_narrow above (l ∷ lines) h =
    All-cons (All (IsWithin 62)) (spread above l) (map (spread above) lines) (spread_narrow above l (All-head (All (IsWithin 62)) l lines h)) (spreads_narrow above lines (All-tail (All (IsWithin 62)) l lines h))

pub short_narrow : (lines : List (List ℤ)) → All AreShort lines → AreNarrowLines lines
short_narrow [] h = All-nil (All (IsWithin 62))
short_narrow (l ∷ lines) h = All-cons (All (IsWithin 62)) l lines (short_all l (All-head AreShort l lines h)) (short_narrow lines (All-tail AreShort l lines h))

pub into_falls : (fall : Fall) (above target none : ℕ) (old new : Vec (Vec ℤ Global) Global) → lists new.items ≡ lists old.items ++ map (spread above) (lists fall.lines.items) → target < 2 ^ 32 → fall.number < 2 ^ 32 → All AreShort (lists old.items) → AreNarrowLines (lists fall.lines.items) → HasFall fall above (Into target none old) (Into target fall.number new)
into_falls fall above target none old new e small slim short narrow = record {
  goes_on = λ n known sides rows falls wanted many held shown w met. by_place n known sides rows falls wanted many held shown w target none met;
  deep = refl;
  even = λ n e. tt;
  narrow = (
    narrow_count target small,
    narrow_count fall.number slim,
    all_unmapped AreNarrow (λ l. l.items) new.items (subst AreNarrowLines (sym e) (All-append (All (IsWithin 62)) (lists old.items) (map (spread above) (lists fall.lines.items)) (short_narrow (lists old.items) short) (spreads_narrow above (lists fall.lines.items) narrow))),
  );
}
  where
    by_place : (n : ℕ) (known sides rows falls : List Known) (wanted : ℕ → ℕ → Option (List Known)) → length sides ≡ above → AllHeld n sides → Shown n known falls (lists fall.lines.items) → wanted 0 fall.number ≡ Some (rows ++ falls) → (target none : ℕ) → ShownAt n (known ++ sides) (owed_plain rows target none) (lists old.items) → ShownAt n (known ++ sides) (wanted target fall.number) (lists new.items)
    by_place n known sides rows falls wanted many held shown w zero zero met =
        subst (λ o. ShownAt n (known ++ sides) o (lists new.items)) (sym w)
        (subst (Shown n (known ++ sides) (rows ++ falls)) (sym e)
        (shown_append n (known ++ sides) rows falls (lists old.items) (map (spread above) (lists fall.lines.items)) met
        (subst (λ m. Shown n (known ++ sides) falls (map (spread m) (lists fall.lines.items))) many (spread_shown n known sides falls (lists fall.lines.items) held shown))))
    by_place n known sides rows falls wanted many held shown w zero (suc j) met = absurd met
    by_place n known sides rows falls wanted many held shown w (suc k) none met = absurd met
