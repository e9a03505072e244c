-- Covers that split at one row after the other are met.
use Rattle.std.proofs.Common.{◌≡◌, ℕ, zero, suc, ◌+◌, ◌^◌, ◌<◌, ◌≤◌, List, [], ◌∷◌, ◌++◌, length, map, get_or, All, Option, Some, arith, refl, sym, ap, ◌∙◌, subst, append_assoc, ℤ, pos, neg_ℤ, unsigned_abs, ◌-◌, slice_index_or}
use Rattle.std.proofs.lemmas.List.Elements.{All-nil, All-cons, All-head, All-tail, All-append}
use Rattle.tv_linear.specs.Linear.{Linear, columns, IsNarrow, IsWithin}
use Rattle.tv_linear.specs.Arithmetic.{zeros}
use Rattle.tv_linear.specs.Known.{Known, given, denied}
use Rattle.tv_linear.specs.Covers.{Shown, IsMetCover}
use Rattle.tv_linear.specs.Depth.{splits}
use Rattle.tv_linear.specs.Same.{AreSame}
use Rattle.tv_linear.specs.declared.cover.CoverTree.{CoverTree, Split', Empty, Into}
use Rattle.tv_linear.proofs.PlainLists.{zeros-narrow}
use Rattle.tv_linear.proofs.SameLemmas.{shown_same, all_same}
use Rattle.tv_linear.proofs.ListLaws.{all_unmapped, all_at}
use Rattle.tv_farkas.specs.Stretching.{IsSplitOf}
use Rattle.tv_farkas.specs.Trees.{TreeRows}
use Rattle.tv_shape.specs.Narrow.{CoverNarrow, AreNarrow, RowNarrow}
use Rattle.tv_shape.proofs.NumberLemmas.{narrow_count, row_narrow}
use Rattle.tv_rank.specs.Given.{lists}
use Rattle.tv_lexrank.specs.Falling.{spread, AllHeld, AreNarrowLines}
use Rattle.tv_lexrank.specs.declared.falling.Fall.{Fall}
use Rattle.tv_lexrank.proofs.PadLemmas.{spread_shown}
use Rattle.tv_lexrank.proofs.FallLemmas.{shown_append, spreads_narrow}
use Rattle.tv_nested.specs.Lines.{own_line, own_lines}
use Rattle.tv_nested.specs.Signs.{sign_rows}
use Rattle.tv_nested.specs.Splitting.{AreChanged, split_rows, passed_rows, IsEntry, IsSplitFrom}
use Rattle.tv_nested.proofs.OwnLines.{AreSides, sides_held, given_side, denied_side, own_shown}

-- ---- the rows of the splits
split_sides : (n : ℕ) (rows : List Linear) (q : ℕ) → All IsNarrow rows → AreSides n (split_rows rows q)
split_sides n [] q h = tt
split_sides n (b ∷ rows) zero h = (given_side n b (All-head IsNarrow b rows h), tt)
split_sides n (b ∷ rows) (suc q) h = (denied_side n b (All-head IsNarrow b rows h), split_sides n rows q (All-tail IsNarrow b rows h))

split_length : (rows : List Linear) (q : ℕ) → q < length rows → length (split_rows rows q) ≡ q + 1
split_length [] q h = absurd (omega (arith, h))
split_length (b ∷ rows) zero h = refl
split_length (b ∷ rows) (suc q) h = (let e = split_length rows q (omega (arith, h)) in omega (arith, e))

all_length : (rows : List Linear) → length (split_rows rows (length rows)) ≡ length rows
all_length [] = refl
all_length (b ∷ rows) = ap suc (all_length rows)

all_passed : (rows : List Linear) → split_rows rows (length rows) ≡ passed_rows rows (length rows)
all_passed [] = refl
all_passed (b ∷ rows) = ap (λ ks. denied (given b) ∷ ks) (all_passed rows)

then_met : (rows : List Linear) (p : ℕ) (r : Linear) → p < length rows → r ≡ get_or rows p r → split_rows rows p ≡ passed_rows rows p ++ given r ∷ []
then_met [] p r h e = absurd (omega (arith, h))
then_met (b ∷ rows) zero r h e = ap (λ z. given z ∷ []) (sym e)
then_met (b ∷ rows) (suc p) r h e = ap (λ ks. denied (given b) ∷ ks) (then_met rows p r (omega (arith, h)) e)

then_passed : (rows : List Linear) (p : ℕ) (r : Linear) → p < length rows → r ≡ get_or rows p r → passed_rows rows (suc p) ≡ passed_rows rows p ++ denied (given r) ∷ []
then_passed [] p r h e = absurd (omega (arith, h))
then_passed (b ∷ []) zero r h e = ap (λ z. denied (given z) ∷ []) (sym e)
then_passed (b ∷ c ∷ rows) zero r h e = ap (λ z. denied (given z) ∷ []) (sym e)
then_passed (b ∷ rows) (suc p) r h e = ap (λ ks. denied (given b) ∷ ks) (then_passed rows p r (omega (arith, h)) e)

-- ---- what they are
changed_sides : (n : ℕ) (change : Linear → Known) (signs rows : List Linear) (q : ℕ) → AreChanged n change signs rows → AreSame n (split_rows rows q) (map change (sign_rows signs q))
changed_sides n change [] [] q h = tt
changed_sides n change [] (b ∷ rows) q h = absurd h
changed_sides n change (r ∷ signs) [] q h = absurd h
changed_sides n change (r ∷ signs) (b ∷ rows) zero h = (h.0, tt)
changed_sides n change (r ∷ signs) (b ∷ rows) (suc q) h = (h.1, changed_sides n change signs rows q h.2)

changed_length : (n : ℕ) (change : Linear → Known) (signs rows : List Linear) → AreChanged n change signs rows → length signs ≡ length rows
changed_length n change [] [] h = refl
changed_length n change [] (b ∷ rows) h = absurd h
changed_length n change (r ∷ signs) [] h = absurd h
changed_length n change (r ∷ signs) (b ∷ rows) h = ap suc (changed_length n change signs rows h.2)

-- ---- into a target
module _ (rows : List Linear) (narrow : All IsNarrow rows) (before : ℕ) (fall : Fall) (target : ℕ) (inside : target ≤ length rows) where
  entry_met : (tree : CoverTree) (above : ℕ) → above ≡ length (split_rows rows target) → IsEntry target before above fall tree → (n : ℕ) (known falls : List Known) (change : Linear → Known) (signs : List Linear) (wanted : ℕ → ℕ → Option (List Known)) → length known ≡ before → AllHeld n known → AreChanged n change signs rows → Shown n known falls (lists fall.lines.items) → ((q : ℕ) → q ≤ length signs → wanted q fall.number ≡ Some (map change (sign_rows signs q) ++ falls)) → IsMetCover n wanted (known ++ split_rows rows target) tree
  entry_met (Split' r p a q b) above e h n known falls change signs wanted many held changes shown w = absurd h
  entry_met (Empty ms) above e h n known falls change signs wanted many held changes shown w = absurd h
  entry_met (Into t j ls) above e h n known falls change signs wanted many held changes shown w =
      let sides = split_rows rows target in
      let ks = known ++ sides in
      let are = split_sides n rows target narrow in
      let owned : Shown n ks sides (own_lines (length known + length sides) (length known) (length sides)) = own_shown n known sides (length known + length sides) held are refl in
      let entered = shown_same n ks ks (all_same n ks) sides (map change (sign_rows signs target)) (changed_sides n change signs rows target changes) (own_lines (length known + length sides) (length known) (length sides)) owned in
      let falling = spread_shown n known sides falls (lists fall.lines.items) (sides_held n sides are) shown in
      let both = shown_append n ks (map change (sign_rows signs target)) falls (own_lines (length known + length sides) (length known) (length sides)) (map (spread (length sides)) (lists fall.lines.items)) entered falling in
      let numbers : own_lines (before + above) before above ++ map (spread above) (lists fall.lines.items) ≡ own_lines (length known + length sides) (length known) (length sides) ++ map (spread (length sides)) (lists fall.lines.items) = (λ i. own_lines (sym many i + e i) (sym many i) (e i) ++ map (spread (e i)) (lists fall.lines.items)) in
      let owed : wanted t j ≡ Some (map change (sign_rows signs target) ++ falls) = (λ i. wanted (h.0 i) (h.1 i)) ∙ w target (let l = changed_length n change signs rows changes in omega (arith, l, inside)) in
      rw owed (subst (Shown n ks (map change (sign_rows signs target) ++ falls)) (sym (h.2 ∙ numbers)) both)

pub own_line_narrow : (count place : ℕ) → All (IsWithin 62) (own_line count place)
own_line_narrow count place = before_last place (pos 1 ∷ (zeros (count - place - 1) ++ pos 1 ∷ [])) (All-cons (IsWithin 62) (pos 1) (zeros (count - place - 1) ++ pos 1 ∷ []) one (before_last (count - place - 1) (pos 1 ∷ []) (All-cons (IsWithin 62) (pos 1) [] one (All-nil (IsWithin 62)))))
  where
    one : IsWithin 62 (pos 1)
    one = (let q : unsigned_abs (pos 1) < 2 ^ 62 = omega arith in q)

    before_last : (k : ℕ) (ms : List ℤ) → All (IsWithin 62) ms → All (IsWithin 62) (zeros k ++ ms)
    before_last k ms h = All-append (IsWithin 62) (zeros k) ms (zeros-narrow k) h

own_lines_narrow : (count place k : ℕ) → AreNarrowLines (own_lines count place k)
own_lines_narrow count place zero = All-nil (All (IsWithin 62))
own_lines_narrow count place (suc k) = All-cons (All (IsWithin 62)) (own_line count place) (own_lines count (suc place) k) (own_line_narrow count place) (own_lines_narrow count (suc place) k)

entry_narrow : (tree : CoverTree) (target before above : ℕ) (fall : Fall) → target < 2 ^ 32 → fall.number < 2 ^ 32 → IsEntry target before above fall tree → AreNarrowLines (lists fall.lines.items) → CoverNarrow tree
entry_narrow (Split' r p a q b) target before above fall small slim h g = absurd h
entry_narrow (Empty ms) target before above fall small slim h g = absurd h
entry_narrow (Into t j ls) target before above fall small slim h g = (
  narrow_count t (let e = h.0 in omega (arith, e, small)),
  narrow_count j (let e = h.1 in omega (arith, e, slim)),
  all_unmapped AreNarrow (λ l. l.items) ls.items (subst AreNarrowLines (sym h.2) (All-append (All (IsWithin 62)) (own_lines (before + above) before above) (map (spread above) (lists fall.lines.items)) (own_lines_narrow (before + above) before above) (spreads_narrow above (lists fall.lines.items) g))),
)

entry_splits : (tree : CoverTree) (target before above : ℕ) (fall : Fall) → IsEntry target before above fall tree → splits tree ≡ 0
entry_splits (Split' r p a q b) target before above fall h = absurd h
entry_splits (Empty ms) target before above fall h = absurd h
entry_splits (Into t j ls) target before above fall h = refl

entry_even : (tree : CoverTree) (target before above : ℕ) (fall : Fall) (n : ℕ) → IsEntry target before above fall tree → TreeRows (λ r. columns r ≡ n) tree
entry_even (Split' r p a q b) target before above fall n h = absurd h
entry_even (Empty ms) target before above fall n h = absurd h
entry_even (Into t j ls) target before above fall n h = tt

-- beyond all splits
pub beyond_all : (rows : List Linear) (before : ℕ) (fall : Fall) (tree : CoverTree) → All IsNarrow rows → length rows ≤ 4 → fall.number < 2 ^ 32 → IsEntry (length rows) before (length rows) fall tree → IsSplitFrom rows (length rows) before fall tree
beyond_all rows before fall tree narrow few slim h = record {
  leads = λ n known falls change signs wanted many held changes shown w. rw (← (all_passed rows)) (entry_met rows narrow before fall (length rows) (omega arith) tree (length rows) (sym (all_length rows)) h n known falls change signs wanted many held changes shown w);
  deep = (let e = entry_splits tree (length rows) before (length rows) fall h in omega (arith, e));
  even = λ n e. entry_even tree (length rows) before (length rows) fall n h;
  narrow = λ g. entry_narrow tree (length rows) before (length rows) fall (omega (arith, few)) slim h g;
}

-- a property of a tree that is a split at a row
split_is : (P : CoverTree → Type 0) (r : Linear) (a b new : CoverTree) → IsSplitOf r a b new → ((p q : _) → P (Split' r p a q b)) → P new
split_is P r a b (Split' s p x q y) h k =
    rw h.0 (rw h.1 (rw h.2 (k p q)))
split_is P r a b (Empty ms) h k = absurd h
split_is P r a b (Into t f ls) h k = absurd h

-- a split at one row more
pub split_before : (rows : List Linear) (p before : ℕ) (fall : Fall) (r : Linear) (into rest new : CoverTree) → All IsNarrow rows → length rows ≤ 4 → fall.number < 2 ^ 32 → p < length rows → r ≡ get_or rows p r → IsEntry p before (p + 1) fall into → IsSplitFrom rows (p + 1) before fall rest → IsSplitOf r into rest new → IsSplitFrom rows p before fall new
split_before rows p before fall r into rest new narrow few slim inside is h g s = record {
  leads = λ n known falls change signs wanted many held changes shown w.
      split_is (IsMetCover n wanted (known ++ passed_rows rows p)) r into rest new s (λ a b. (
        rw (← (ap (λ ks. known ++ ks) (then_met rows p r inside is) ∙ sym (append_assoc known (passed_rows rows p) (given r ∷ []))))
            (entry_met rows narrow before fall p (omega (arith, inside)) into (p + 1) (sym (split_length rows p inside)) h n known falls change signs wanted many held changes shown w),
        rw (← (ap (λ ks. known ++ ks) (ap (passed_rows rows) (let e : p + 1 ≡ suc p = omega arith in e) ∙ then_passed rows p r inside is) ∙ sym (append_assoc known (passed_rows rows p) (denied (given r) ∷ []))))
            (g.leads n known falls change signs wanted many held changes shown w),
      ));
  deep = split_is (λ t. splits t + p ≤ length rows) r into rest new s (λ a b. (let e = entry_splits into p before (p + 1) fall h in let d = g.deep in omega (arith, e, d)));
  even = λ n e. split_is (TreeRows (λ r. columns r ≡ n)) r into rest new s (λ a b. (even_at n e, entry_even into p before (p + 1) fall n h, g.even n e));
  narrow = λ l. split_is CoverNarrow r into rest new s (λ a b. (row_narrow_at, entry_narrow into p before (p + 1) fall (omega (arith, inside, few)) slim h l, g.narrow l));
}
  where
    even_at : (n : ℕ) → All (λ r. columns r ≡ n) rows → columns r ≡ n
    even_at n e = all_at (λ r. columns r ≡ n) rows p r e inside is

    row_narrow_at : RowNarrow r
    row_narrow_at = row_narrow r (all_at IsNarrow rows p r narrow inside is)

-- ---- denials
pub index_neg : (cs : List ℤ) (j : ℕ) → slice_index_or (map neg_ℤ cs) j (pos 0) ≡ neg_ℤ (slice_index_or cs j (pos 0))
index_neg [] j = refl
index_neg (c ∷ cs) zero = refl
index_neg (c ∷ cs) (suc j) = index_neg cs j
