-- Rows that are lent one by one.
use Rattle.std.proofs.Common.{◌≡◌, ◌↔◌, ℕ, zero, suc, ◌+◌, ◌-◌, ◌<◌, ◌≤◌, ℤ, pos, Bool, IsTrue, List, [], ◌∷◌, ◌++◌, length, map, get_or, slice_get, Option, None, Some, refl, sym, ap, ◌∙◌, subst, arith}
use Rattle.std.specs.Option.{option_map}
use Rattle.tv_linear.specs.Linear.{Linear}
use Rattle.tv_linear.specs.Known.{Known, given, denied, less, as_given}
use Rattle.tv_linear.specs.Falls.{fall_rows, fall_rows_at, zero_row}
use Rattle.tv_linear.specs.Refutation.{Refutes}
use Rattle.tv_cert.specs.Entering.{listed, ShowsRow}
use Rattle.tv_cases.proofs.OptionLemmas.{some_same}

-- the row at the place is this one
pub shows_as : (n : ℕ) (known rows : List Known) (place : ℕ) (ms : List ℤ) (shown : Bool) (row : Known) → slice_get rows place ≡ Some row → (IsTrue shown ↔ Refutes n (known ++ denied row ∷ []) ms) → ShowsRow n known rows place ms shown
shows_as n known rows place ms shown row at h = λ other there. subst (λ r. IsTrue shown ↔ Refutes n (known ++ denied r ∷ []) ms) (some_same row other (sym at ∙ there)) h

-- ---- one list after another

pub get_second : {A : Type 0} (xs ys : List A) (i j : ℕ) → i ≡ length xs + j → slice_get (xs ++ ys) i ≡ slice_get ys j
get_second [] ys i j e = (let k : i ≡ j = omega (arith, e) in ap (λ m. slice_get ys m) k)
get_second (x ∷ xs) ys zero j e = absurd (omega (arith, e))
get_second (x ∷ xs) ys (suc i) j e = get_second xs ys i j (omega (arith, e))

-- ---- falls

module _ (x : Known) where
  more_there : (o : Option (List Known)) → o ≡ Some (listed o) → option_map (λ rows. x ∷ rows) o ≡ Some (listed (option_map (λ rows. x ∷ rows) o))
  more_there None e = absurd (let h : ⊥ = cc in h)
  more_there (Some rows) e = refl

  more_listed : (o : Option (List Known)) → o ≡ Some (listed o) → listed (option_map (λ rows. x ∷ rows) o) ≡ x ∷ listed o
  more_listed None e = absurd (let h : ⊥ = cc in h)
  more_listed (Some rows) e = refl

module _ (change : Linear → Known) where
  abbrev fall : List Linear → List Linear → ℕ → Option (List Known)
  fall old new j = fall_rows_at (as_given old) (map change new) j

  -- there is a fall at a place where both have a rank
  pub fall_there : (old new : List Linear) (j : ℕ) → j < length old → j < length new → fall old new j ≡ Some (listed (fall old new j))
  fall_there [] new j a b = absurd (omega (arith, a))
  fall_there (r ∷ old) [] j a b = absurd (omega (arith, b))
  fall_there (r ∷ old) (q ∷ new) zero a b = refl
  fall_there (r ∷ old) (q ∷ new) (suc j) a b = more_there (less (change q) (given r) (pos 0)) (fall old new j) (fall_there old new j (omega (arith, a)) (omega (arith, b)))

  next_listed : (old new : List Linear) (j : ℕ) (r q : Linear) → j < length old → j < length new → listed (fall (r ∷ old) (q ∷ new) (suc j)) ≡ less (change q) (given r) (pos 0) ∷ listed (fall old new j)
  next_listed old new j r q a b = more_listed (less (change q) (given r) (pos 0)) (fall old new j) (fall_there old new j a b)

  pub fall_many : (old new : List Linear) (j : ℕ) → j < length old → j < length new → length (listed (fall old new j)) ≡ j + 2
  fall_many [] new j a b = absurd (omega (arith, a))
  fall_many (r ∷ old) [] j a b = absurd (omega (arith, b))
  fall_many (r ∷ old) (q ∷ new) zero a b = refl
  fall_many (r ∷ old) (q ∷ new) (suc j) a b =
      let e = ap length (next_listed old new j r q (omega (arith, a)) (omega (arith, b))) in
      let h = fall_many old new j (omega (arith, a)) (omega (arith, b)) in
      omega (arith, e, h)

  -- no rank before the one that falls grows
  pub before_at : (old new : List Linear) (j i : ℕ) (r q : Linear) → i < j → j < length old → j < length new → r ≡ get_or old i r → q ≡ get_or new i q → slice_get (listed (fall old new j)) i ≡ Some (less (change q) (given r) (pos 0))
  before_at [] new j i r q lt a b er eq = absurd (omega (arith, a))
  before_at (s ∷ old) [] j i r q lt a b er eq = absurd (omega (arith, b))
  before_at (s ∷ old) (p ∷ new) zero i r q lt a b er eq = absurd (omega (arith, lt))
  before_at (s ∷ old) (p ∷ new) (suc j) zero r q lt a b er eq =
      ap (λ rows. slice_get rows 0) (next_listed old new j s p (omega (arith, a)) (omega (arith, b))) ∙ (λ k. Some (less (change (sym eq k)) (given (sym er k)) (pos 0)))
  before_at (s ∷ old) (p ∷ new) (suc j) (suc i) r q lt a b er eq =
      ap (λ rows. slice_get rows (suc i)) (next_listed old new j s p (omega (arith, a)) (omega (arith, b)))
      ∙ before_at old new j i r q (omega (arith, lt)) (omega (arith, a)) (omega (arith, b)) er eq

  -- that one falls
  pub turn_at : (old new : List Linear) (j : ℕ) (r q : Linear) → j < length old → j < length new → r ≡ get_or old j r → q ≡ get_or new j q → slice_get (listed (fall old new j)) j ≡ Some (less (change q) (given r) (pos 1))
  turn_at [] new j r q a b er eq = absurd (omega (arith, a))
  turn_at (s ∷ old) [] j r q a b er eq = absurd (omega (arith, b))
  turn_at (s ∷ old) (p ∷ new) zero r q a b er eq = λ k. Some (less (change (sym eq k)) (given (sym er k)) (pos 1))
  turn_at (s ∷ old) (p ∷ new) (suc j) r q a b er eq =
      ap (λ rows. slice_get rows (suc j)) (next_listed old new j s p (omega (arith, a)) (omega (arith, b)))
      ∙ turn_at old new j r q (omega (arith, a)) (omega (arith, b)) er eq

  -- and is at least 0 before
  pub floor_at : (old new : List Linear) (j : ℕ) (r : Linear) → j < length old → j < length new → r ≡ get_or old j r → slice_get (listed (fall old new j)) (suc j) ≡ Some (less (given zero_row) (given r) (pos 0))
  floor_at [] new j r a b er = absurd (omega (arith, a))
  floor_at (s ∷ old) [] j r a b er = absurd (omega (arith, b))
  floor_at (s ∷ old) (p ∷ new) zero r a b er = λ k. Some (less (given zero_row) (given (sym er k)) (pos 0))
  floor_at (s ∷ old) (p ∷ new) (suc j) r a b er =
      ap (λ rows. slice_get rows (suc (suc j))) (next_listed old new j s p (omega (arith, a)) (omega (arith, b)))
      ∙ floor_at old new j r (omega (arith, a)) (omega (arith, b)) er

  -- there is none where one of both has no rank there
  none_at : (old new : List Linear) (j : ℕ) → (j < length old → j < length new → ⊥) → fall old new j ≡ None
  none_at [] new j h = refl
  none_at (r ∷ old) [] j h = refl
  none_at (r ∷ old) (q ∷ new) zero h = absurd (h (omega arith) (omega arith))
  none_at (r ∷ old) (q ∷ new) (suc j) h = ap (option_map (λ rows. less (change q) (given r) (pos 0) ∷ rows)) (none_at old new j (λ a b. h (omega (arith, a)) (omega (arith, b))))

  pub no_fall : (old new : List Linear) (j : ℕ) → (1 ≤ j → j ≤ length old → j ≤ length new → ⊥) → fall_rows (as_given old) (map change new) j ≡ None
  no_fall old new zero h = refl
  no_fall old new (suc j) h = none_at old new j (λ a b. h (omega arith) (omega (arith, a)) (omega (arith, b)))

  pub has_fall : (old new : List Linear) (j : ℕ) → 1 ≤ j → j ≤ length old → j ≤ length new → fall_rows (as_given old) (map change new) j ≡ Some (listed (fall old new (j - 1)))
  has_fall old new zero p a b = absurd (omega (arith, p))
  has_fall old new (suc j) p a b = fall_there old new j (omega (arith, a)) (omega (arith, b)) ∙ (let e : j ≡ suc j - 1 = omega arith in ap (λ i. Some (listed (fall old new i))) e)
