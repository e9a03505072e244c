-- An integer point as values and draws.
use Rattle.std.proofs.Common.{◌≡◌, ℕ, suc, ◌+◌, ◌-◌, List, [], ◌∷◌, ◌++◌, length, length-append, length-drop, take, drop, get_or, All, arith, sym, ap, ◌∙◌, subst, ℤ, pos}
use Rattle.std.proofs.lemmas.List.{take-append-drop}
use Rattle.std.proofs.lemmas.List.Elements.{All-take, All-drop}
use Rattle.tv_linear.specs.Linear.{Linear, columns, IsMet, IsWithin}
use Rattle.tv_farkas.specs.Refuting.{AreShort}
use Rattle.tv_recur.specs.Making.{rows_put, drawn_terms, ArePut}
use Rattle.tv_recur.proofs.DrawLemmas.{all_put_wide}
use Rattle.tv_recur.proofs.OwedLemmas.{put_met}
use Rattle.tv_farkas.proofs.StretchLemmas.{short_all}

-- the first numbers are the values, and the others the draws
pub record IsSplit (n d : ℕ) (zs xs ds : List ℤ) : Type 0 where
  pub many : length xs ≡ n
  pub drawn : length ds ≡ d
  pub both : xs ++ ds ≡ zs
  pub values : All (IsWithin 62) xs
  pub draws : All (IsWithin 62) ds

pub split_point : (v d : ℕ) (zs xs ds : List ℤ) → length zs ≡ v + d → AreShort zs → xs ≡ take v zs → ds ≡ drop v zs → IsSplit v d zs xs ds
split_point v d zs xs ds many short e f =
    let both : xs ++ ds ≡ zs = (λ i. e i ++ f i) ∙ take-append-drop v zs in
    let drawn : length ds ≡ d = ap length f ∙ length-drop v zs ∙ (let q : length zs - v ≡ d = omega (arith, many) in q) in
    record {
      many = (let a = length-append xs ds in let b = ap length both in omega (arith, a, b, many, drawn));
      drawn = drawn;
      both = both;
      values = subst (All (IsWithin 62)) (sym e) (All-take (IsWithin 62) v zs (short_all zs short));
      draws = subst (All (IsWithin 62)) (sym f) (All-drop (IsWithin 62) v zs (short_all zs short));
    }

-- the rows with the draws put in
pub put_is : (v : ℕ) (ds : List ℤ) (terms all rows put : List Linear) → terms ≡ all → all ≡ drawn_terms v ds → ArePut terms rows put → put ≡ rows_put (drawn_terms v ds) rows
put_is v ds terms all rows put e f h = h.exact ∙ ap (λ ts. rows_put ts rows) (e ∙ f)

pub put_even : (v : ℕ) (ds : List ℤ) (rows put : List Linear) → put ≡ rows_put (drawn_terms v ds) rows → All (λ r. columns r ≡ v) put
put_even v ds rows put e = subst (All (λ r. columns r ≡ v)) (sym e) (all_put_wide v ds rows)

pub split_met : (v d : ℕ) (zs xs ds : List ℤ) (rows put : List Linear) → IsSplit v d zs xs ds → put ≡ rows_put (drawn_terms v ds) rows → All (IsMet zs) rows → All (IsMet xs) put
split_met v d zs xs ds rows put h e met =
    subst (All (IsMet xs)) (sym e) (put_met v ds xs h.many rows (subst (λ p. All (IsMet p) rows) (sym h.both) met))

-- ---- a draw of the point
back : (xs ds : List ℤ) (j : ℕ) → get_or (xs ++ ds) (length xs + j) (pos 0) ≡ get_or ds j (pos 0)
back [] ds j = ap (λ k. get_or ds k (pos 0)) (let e : 0 + j ≡ j = omega arith in e)
back (x ∷ xs) ds j = ap (λ k. get_or (x ∷ (xs ++ ds)) k (pos 0)) (let e : suc (length xs) + j ≡ suc (length xs + j) = omega arith in e) ∙ back xs ds j

pub draw_at : (n v d : ℕ) (zs xs ds : List ℤ) → v ≡ n → IsSplit v d zs xs ds → (j : ℕ) → get_or ds j (pos 0) ≡ get_or zs (n + j) (pos 0)
draw_at n v d zs xs ds e s j = sym (back xs ds j) ∙ (λ i. get_or (s.both i) ((s.many ∙ e) i + j) (pos 0))
