-- the rows that show a fall
use Rattle.std.proofs.Common.{◌≡◌, ℕ, zero, suc, ◌<◌, List, [], ◌∷◌, map, get_or, refl, sym, ap, ◌∙◌, arith, length, subst, ℤ, pos, ◌+ℤ◌, ◌-ℤ◌, ◌≤ℤ◌, Option, None, Some}
use Rattle.std.specs.Prelude.{All}
use Rattle.std.specs.Option.{option_map}
use Rattle.std.proofs.lemmas.Int.{ints}
use Rattle.std.proofs.lemmas.List.{length-map}
use Rattle.std.proofs.lemmas.List.Elements.{All-head, All-tail}
use Rattle.tv_linear.specs.Known.{Known, given, less, known_value, IsKnownMet}
use Rattle.tv_linear.specs.Falls.{FallsAt, Falls, zero_row, fall_rows_at, fall_rows}
use Rattle.tv_linear.proofs.KnownLemmas.{value-less, value-given}

first_falls : (f g : ℤ) (old new : List ℤ) → length new ≡ length old → (g -ℤ f +ℤ pos 1) ≤ℤ pos 0 → (pos 0 -ℤ f +ℤ pos 0) ≤ℤ pos 0 → FallsAt (f ∷ old) (g ∷ new) 0
first_falls f g old new same falls above = record {
  as_many = ap suc same;
  inside = omega arith;
  none_grows = λ i h. absurd (omega arith);
  falls = omega (arith, ints);
  not_below = omega (arith, ints);
}

later_falls : (f g : ℤ) (old new : List ℤ) (j : ℕ) → (g -ℤ f +ℤ pos 0) ≤ℤ pos 0 → FallsAt old new j → FallsAt (f ∷ old) (g ∷ new) (suc j)
later_falls f g old new j kept later = record {
  as_many = ap suc later.as_many;
  inside = let h = later.inside in omega arith;
  none_grows = grows;
  falls = later.falls;
  not_below = later.not_below;
} where
  grows : (i : ℕ) → i < suc j → get_or (g ∷ new) i (pos 0) ≤ℤ get_or (f ∷ old) i (pos 0)
  grows zero h = omega (arith, ints)
  grows (suc i) h = later.none_grows i (omega arith)

at_place : (xs : List ℤ) (old new : List Known) (j : ℕ) (rows : List Known) → length new ≡ length old → fall_rows_at old new j ≡ Some rows → All (IsKnownMet xs) rows → FallsAt (map (known_value xs) old) (map (known_value xs) new) j
at_place xs [] new j rows same e h = cc
at_place xs (f ∷ old) [] j rows same e h = cc
at_place xs (f ∷ old) (g ∷ new) zero rows same e h =
    let is : less g f (pos 1) ∷ less (given zero_row) f (pos 0) ∷ [] ≡ rows = cc in
    let all = subst (All (IsKnownMet xs)) (sym is) h in
    let falls = All-head (IsKnownMet xs) (less g f (pos 1)) (less (given zero_row) f (pos 0) ∷ []) all in
    let above = All-head (IsKnownMet xs) (less (given zero_row) f (pos 0)) [] (All-tail (IsKnownMet xs) (less g f (pos 1)) (less (given zero_row) f (pos 0) ∷ []) all) in
    let one = value-less xs g f (pos 1) in
    let two = value-less xs (given zero_row) f (pos 0) in
    let none : known_value xs (given zero_row) ≡ pos 0 = value-given xs zero_row in
    first_falls (known_value xs f) (known_value xs g) (map (known_value xs) old) (map (known_value xs) new) (length-map new (known_value xs) ∙ omega (arith, same) ∙ sym (length-map old (known_value xs))) (omega (arith, ints, falls, one)) (omega (arith, ints, above, two, none))
at_place xs (f ∷ old) (g ∷ new) (suc j) rows same e h = later (fall_rows_at old new j) (λ rest here all. at_place xs old new j rest (omega (arith, same)) here all) refl e where
  later : (o : Option (List Known)) → ((rest : List Known) → o ≡ Some rest → All (IsKnownMet xs) rest → FallsAt (map (known_value xs) old) (map (known_value xs) new) j) → fall_rows_at old new j ≡ o → option_map (λ rows. less g f (pos 0) ∷ rows) o ≡ Some rows → FallsAt (map (known_value xs) (f ∷ old)) (map (known_value xs) (g ∷ new)) (suc j)
  later None earlier here is = cc
  later (Some rest) earlier here is =
      let same : less g f (pos 0) ∷ rest ≡ rows = cc in
      let all = subst (All (IsKnownMet xs)) (sym same) h in
      let kept = All-head (IsKnownMet xs) (less g f (pos 0)) rest all in
      let one = value-less xs g f (pos 0) in
      later_falls (known_value xs f) (known_value xs g) (map (known_value xs) old) (map (known_value xs) new) j (omega (arith, ints, kept, one))
      (earlier rest refl (All-tail (IsKnownMet xs) (less g f (pos 0)) rest all))

-- where the rows of a fall are met, the values of the ranks fall
pub falls-shown : (xs : List ℤ) (old new : List Known) (j : ℕ) (rows : List Known) → length new ≡ length old → fall_rows old new j ≡ Some rows → All (IsKnownMet xs) rows → Falls (map (known_value xs) old) (map (known_value xs) new)
falls-shown xs old new zero rows same e h = cc
falls-shown xs old new (suc j) rows same e h = (j, at_place xs old new j rows same e h)
