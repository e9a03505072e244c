-- Ways whose rows differ.
use Rattle.std.proofs.Common.{◌≡◌, ◌⊎◌, inl, inr, ℕ, zero, suc, ◌+◌, ◌<◌, ◌≤◌, List, [], ◌∷◌, ◌++◌, length, get_or, arith, refl, sym, ap, ◌∙◌, subst}
use Rattle.std.specs.Prelude.{Contains}
use Rattle.std.proofs.lemmas.List.{map-append}
use Rattle.std.proofs.lemmas.List.Elements.{Contains-append_left, Contains-append_right, Contains-append_cases}
use Rattle.tv_cases.proofs.ContainsLemmas.{Contains-here, Contains-later}
use Rattle.tv_linear.specs.Linear.{Linear}
use Rattle.tv_choice.specs.declared.ways.Way.{Way}
use Rattle.tv_choice.specs.Ways.{way_rows, lists_of, AreDifferentOf}

-- ---- lists that are the same up to a place
abbrev pub AreSameTo : List Linear → List Linear → ℕ → Type 0
AreSameTo xs ys place = (k : ℕ) (d : Linear) → k < place → get_or xs k d ≡ get_or ys k d

pub same_none : (xs ys : List Linear) → AreSameTo xs ys 0
same_none xs ys k d l = absurd (omega (arith, l))

pub same_all : (xs ys : List Linear) (place : ℕ) → length xs ≡ length ys → length xs ≤ place → AreSameTo xs ys place → xs ≡ ys
same_all [] [] place e l h = refl
same_all [] (y ∷ ys) place e l h = absurd (omega (arith, e))
same_all (x ∷ xs) [] place e l h = absurd (omega (arith, e))
same_all (x ∷ xs) (y ∷ ys) zero e l h = absurd (omega (arith, l))
same_all (x ∷ xs) (y ∷ ys) (suc place) e l h =
    (λ i. h 0 x (omega arith) i ∷ same_all xs ys place (omega (arith, e)) (omega (arith, l)) (λ k d m. h (suc k) d (omega (arith, m))) i)

-- ---- ways that are kept, and ways that are left
pub record AreKept (all kept rest : List Way) : Type 0 where
  pub among : (w : Way) → Contains kept w → Contains all w
  pub left : (w : Way) → Contains rest w → Contains all w
  pub rows : (rows : List Linear) → Contains (lists_of all) rows → Contains (lists_of kept) rows ⊎ Contains (lists_of rest) rows

nothing : {A : Type 0} (P : Type 0) (x : A) → Contains [] x → P
nothing P x c = absurd (let l = c.1 in omega (arith, l))

pub kept_none : (all kept rest : List Way) → kept ≡ [] → rest ≡ all → AreKept all kept rest
kept_none all kept rest e f = record {
  among = λ w c. nothing (Contains all w) w (subst (λ ws. Contains ws w) e c);
  left = λ w c. subst (λ ws. Contains ws w) f c;
  rows = λ rows c. inr (subst (λ ws. Contains (lists_of ws) rows) (sym f) c);
}

one_is : {A : Type 0} (x y : A) (P : A → Type 0) → Contains (x ∷ []) y → P x → P y
one_is x y P (zero, l, e) p = subst P e p
one_is x y P (suc k, l, e) p = absurd (omega (arith, l))

head_or_later : {A : Type 0} (x : A) (xs : List A) (y : A) → Contains (x ∷ xs) y → (x ≡ y) ⊎ Contains xs y
head_or_later x xs y (zero, l, e) = inl e
head_or_later x xs y (suc k, l, e) = inr (k, omega (arith, l), e)

pub kept_more : (all kept new rest before : List Way) (w : Way) → before ≡ w ∷ rest → new ≡ kept ++ w ∷ [] → AreKept all kept before → AreKept all new rest
kept_more all kept new rest before w e f h = record {
  among = λ v c. elim (Contains-append_cases kept (w ∷ []) v (subst (λ ws. Contains ws v) f c)) [
    | inl old ↦ h.among v old
    | inr last ↦ one_is w v (Contains all) last (h.left w (subst (λ ws. Contains ws w) (sym e) (Contains-here w rest)))
  ];
  left = λ v c. h.left v (subst (λ ws. Contains ws v) (sym e) (Contains-later w v rest c));
  rows = λ rows c. elim (h.rows rows c) [
    | inl old ↦ inl (subst (λ ls. Contains ls rows) (sym longer) (Contains-append_left (lists_of kept) (way_rows w ∷ []) rows old))
    | inr now ↦ elim (head_or_later (way_rows w) (lists_of rest) rows (subst (λ ws. Contains (lists_of ws) rows) e now)) [
      | inl here ↦ inl (subst (λ ls. Contains ls rows) (sym longer) (Contains-append_right (lists_of kept) (way_rows w ∷ []) rows (subst (Contains (way_rows w ∷ [])) here (Contains-here (way_rows w) []))))
      | inr later ↦ inr later
    ]
  ];
}
  where
    longer : lists_of new ≡ lists_of kept ++ way_rows w ∷ []
    longer = ap lists_of f ∙ map-append way_rows kept (w ∷ [])

pub kept_same : (all kept rest before : List Way) (w : Way) → before ≡ w ∷ rest → Contains (lists_of kept) (way_rows w) → AreKept all kept before → AreKept all kept rest
kept_same all kept rest before w e there h = record {
  among = h.among;
  left = λ v c. h.left v (subst (λ ws. Contains ws v) (sym e) (Contains-later w v rest c));
  rows = λ rows c. elim (h.rows rows c) [
    | inl old ↦ inl old
    | inr now ↦ elim (head_or_later (way_rows w) (lists_of rest) rows (subst (λ ws. Contains (lists_of ws) rows) e now)) [
      | inl here ↦ inl (subst (Contains (lists_of kept)) here there)
      | inr later ↦ inr later
    ]
  ];
}

pub kept_all : (all kept rest : List Way) → rest ≡ [] → AreKept all kept rest → AreDifferentOf all kept
kept_all all kept rest e h = record {
  among = h.among;
  rows = λ rows c. elim (h.rows rows c) [
    | inl old ↦ old
    | inr now ↦ nothing (Contains (lists_of kept) rows) rows (subst (λ ws. Contains (lists_of ws) rows) e now)
  ];
}
