-- What is owed on entering pieces whose ranks are numbers.
use Rattle.std.proofs.Common.{◌≡◌, ℕ, zero, suc, ◌<◌, ◌≤◌, ◌++◌, List, [], ◌∷◌, map, length, Option, None, Some, Bool, true, false, cond, if◌then◌else◌, slice_get, ◌==◌, arith, refl, sym, ap, ◌∙◌, subst, ℤ, pos, ◌-ℤ◌, ◌+ℤ◌, ◌*ℤ◌, ◌≤ℤ◌}
use Rattle.std.specs.Option.{option_map}
use Rattle.std.proofs.lemmas.Int.{ints}
use Rattle.tv_linear.specs.Linear.{Linear, IsWithin}
use Rattle.tv_linear.specs.Arithmetic.{constant_row}
use Rattle.tv_linear.specs.Falls.{fall_rows, zero_row}
use Rattle.tv_linear.specs.Fits.{IsHeld}
use Rattle.tv_linear.specs.Known.{Term, term_number, Known, given, composed, less, place_sum, known_number, KnownHeld, PlacesHeld}
use Rattle.tv_linear.specs.Terms.{terms_after, draw_terms}
use Rattle.tv_linear.proofs.PlainLists.{get_or-zeros}
use Rattle.tv_linear.specs.Same.{AreSame, OwedSame}
use Rattle.tv_linear.proofs.SameLemmas.{all_same, same_self}
use Rattle.tv_cases.specs.LinearCases.{LinearCase}
use Rattle.tv_cert.specs.declared.node.Marked.{Marked}
use Rattle.tv_cert.specs.Choices.{drawn_change}
use Rattle.tv_cert.specs.Obligations.{case_change}
use Rattle.tv_cert.specs.Pieces.{place_of, rows_of, ranks_of, goes, pieces_at}
use Rattle.tv_cert.specs.Targets.{owed_into, target_rows, no_fall, fall_from}
use Rattle.tv_cert.proofs.JoinedLemmas.{pieces_at-append}
use Rattle.tv_pre.specs.Ranked.{EachOf, IsRankBelow}
use Rattle.tv_cases.proofs.ProductLemmas.{zero_times}
use Rattle.tv_lexrank.proofs.ZeroLines.{places_zero}
use Rattle.tv_lexrank.proofs.PadLemmas.{nothing}

-- a row that every point over n columns meets: its number in each is 0, and its constant is at most 0
pub record IsAlways (n : ℕ) (k : Known) : Type 0 where
  pub inner : (j : ℕ) → j < n → known_number k (Some j) ≡ pos 0
  pub constant : known_number k None ≤ℤ pos 0
  pub inner_held : (j : ℕ) → j < n → KnownHeld k (Some j)
  pub constant_held : KnownHeld k None
  pub small : IsHeld (pos 1 -ℤ known_number k None)

-- two rows that are always met are owed beside
pub record IsWithFalls (n : ℕ) (rows owed : List Known) : Type 0 where
  pub same : List Known
  pub first : Known
  pub second : Known
  pub exact : owed ≡ same ++ first ∷ second ∷ []
  pub are : AreSame n rows same
  pub first_always : IsAlways n first
  pub second_always : IsAlways n second

abbrev pub WithFalls : ℕ → Option (List Known) → Option (List Known) → Type 0
WithFalls n None b = Unit {0}
WithFalls n (Some rows) None = ⊥
WithFalls n (Some rows) (Some owed) = IsWithFalls n rows owed

-- the targets from the first on that goes on owe a fall too
pub record FallsOwed (n first : ℕ) (owed wanted : ℕ → ℕ → Option (List Known)) : Type 0 where
  pub before : (k : ℕ) → k < first → OwedSame n (owed k 0) (wanted k 0)
  pub onward : (k : ℕ) → first ≤ k → WithFalls n (owed k 0) (wanted k 1)
  pub only : (k j : ℕ) → owed k (suc j) ≡ None

-- a row that is a number
pub record IsNumber (k : Known) (b : ℤ) : Type 0 where
  pub inner : (v : ℕ) → known_number k (Some v) ≡ pos 0
  pub constant : known_number k None ≡ b
  pub inner_held : (v : ℕ) → KnownHeld k (Some v)
  pub constant_held : KnownHeld k None

-- rows after a change: a number stays one
abbrev pub KeepsNumbers : ℕ → (Linear → Known) → Type 0
KeepsNumbers n change = (b : ℤ) → pos 0 ≤ℤ b → IsWithin 62 b → IsNumber (change (constant_row n b)) b

-- of the pieces of a node the first are done, the next ones have ranks below a number, and then there are others
pub record AreLayers (n : ℕ) (a : ℤ) (dones goes_on : List Marked) : Type 0 where
  pub done_with : EachOf (λ p. goes p ≡ false) dones
  pub ranked : EachOf (IsRankBelow n a) goes_on

-- without falls a target has a first list of rows alone
pub only_zero : (change : Linear → Known) (found : Option Marked) (j : ℕ) → target_rows change no_fall found (suc j) ≡ None
only_zero change None j = refl
only_zero change (Some q) j = refl

zero_held : (told : ℕ → Type 0) (f : ℕ → ℤ) (v : ℕ) (xs : List ℤ) → ((v : ℕ) → told v) → ((v : ℕ) → f v ≡ pos 0) → PlacesHeld told f (pos 0) v xs
zero_held told f v [] t h = tt
zero_held told f v (x ∷ xs) t h =
    let a : f v *ℤ x ≡ pos 0 = ap (λ z. z *ℤ x) (h v) ∙ zero_times x in
    let b : pos 0 ≡ pos 0 +ℤ f v *ℤ x = omega (arith, ints, a) in (
      t v,
      subst (λ z. IsHeld z) (sym a) nothing,
      subst (λ z. IsHeld z) b nothing,
      subst (λ z. PlacesHeld told f z (suc v) xs) b (zero_held told f (suc v) xs t h),
    )

pub number_composed : (k : Known) (b : ℤ) (terms : List Term) → IsHeld b → IsNumber k b → IsNumber (composed k terms) b
number_composed k b terms held h = record {
  inner = λ v. places_zero (λ v. known_number k (Some v)) (map (term_number (Some v)) terms) h.inner;
  constant = whole;
  inner_held = λ v. zero_held (λ v. KnownHeld k (Some v)) (λ v. known_number k (Some v)) 0 (map (term_number (Some v)) terms) h.inner_held h.inner;
  constant_held = (
    zero_held (λ v. KnownHeld k (Some v)) (λ v. known_number k (Some v)) 0 (map (term_number None) terms) h.inner_held h.inner,
    h.constant_held,
    subst (λ z. IsHeld z) (sym whole) held,
  );
}
  where
    whole : place_sum (λ v. known_number k (Some v)) (map (term_number None) terms) +ℤ known_number k None ≡ b
    whole =
        let s = places_zero (λ v. known_number k (Some v)) (map (term_number None) terms) h.inner in
        let c = h.constant in
        omega (arith, ints, s, c)

pub number_row : (n : ℕ) (b : ℤ) → IsNumber (given (constant_row n b)) b
number_row n b = record { inner = λ v. get_or-zeros n v; constant = refl; inner_held = λ v. tt; constant_held = tt }

short_held : (b : ℤ) → IsWithin 62 b → IsHeld b
short_held b h = omega (arith, ints, h)

-- over a case, and with terms for its draws
pub case_keeps : (n m : ℕ) (c : LinearCase) → KeepsNumbers n (case_change m c)
case_keeps n m c b h w = number_composed (given (constant_row n b)) b (terms_after m c.updates) (short_held b w) (number_row n b)

pub drawn_keeps : (n m : ℕ) (c : LinearCase) (draws : List Linear) → KeepsNumbers n (drawn_change m c draws)
drawn_keeps n m c draws b h w = number_composed (composed (given (constant_row n b)) (terms_after m c.updates)) b (draw_terms m draws) (short_held b w) (number_composed (given (constant_row n b)) b (terms_after m c.updates) (short_held b w) (number_row n b))

always_less : (n : ℕ) (g f : Known) (a b : ℤ) → IsNumber g b → IsNumber f a → (b +ℤ pos 1) ≤ℤ a → pos 0 ≤ℤ b → IsWithin 62 a → IsAlways n (less g f (pos 1))
always_less n g f a b hg hf below low w =
    let eg = hg.constant in
    let ef = hf.constant in
    record {
      inner = λ j l. (let x = hg.inner j in let y = hf.inner j in omega (arith, ints, x, y));
      constant = omega (arith, ints, eg, ef, below);
      inner_held = λ j l. (hg.inner_held j, hf.inner_held j, (let x = hg.inner j in let y = hf.inner j in omega (arith, ints, x, y)));
      constant_held = (hg.constant_held, hf.constant_held, omega (arith, ints, eg, ef, below, low, w), omega (arith, ints, eg, ef, below, low, w));
      small = omega (arith, ints, eg, ef, below, low, w);
    }

always_zero : (n : ℕ) (f : Known) (a : ℤ) → IsNumber f a → pos 0 ≤ℤ a → IsWithin 62 a → IsAlways n (less (given zero_row) f (pos 0))
always_zero n f a hf low w =
    let ef = hf.constant in
    record {
      inner = λ j l. (let y = hf.inner j in omega (arith, ints, y));
      constant = omega (arith, ints, ef, low);
      inner_held = λ j l. (tt, hf.inner_held j, (let y = hf.inner j in omega (arith, ints, y)));
      constant_held = (tt, hf.constant_held, omega (arith, ints, ef, low, w), omega (arith, ints, ef, low, w));
      small = omega (arith, ints, ef, low, w);
    }

nil_off : (N : ℕ) (xs : List Known) → AreSame N (xs ++ []) xs
nil_off N [] = tt
nil_off N (x ∷ xs) = (same_self N x, nil_off N xs)

-- N columns; the rank a of the piece that is left, over n variables; a change that keeps numbers
module _ (N n : ℕ) (a : ℤ) (change : Linear → Known) (keeps : KeepsNumbers n change) (low : pos 0 ≤ℤ a) (w : IsWithin 62 a) where
  done_owed : (q : Marked) (b : Bool) → b ≡ false → OwedSame N (Some (map change (rows_of q) ++ [])) (option_map (λ falls. map change (rows_of q) ++ falls) (if b then fall_rows (given (constant_row n a) ∷ []) (map change (ranks_of q)) 0 else no_fall q 0))
  done_owed q true e = absurd (let no : ⊥ = cc in no)
  done_owed q false e = all_same N (map change (rows_of q) ++ [])

  go_owed : (q : Marked) → IsRankBelow n a q → WithFalls N (Some (map change (rows_of q) ++ [])) (option_map (λ falls. map change (rows_of q) ++ falls) (if goes q then fall_rows (given (constant_row n a) ∷ []) (map change (ranks_of q)) 1 else no_fall q 1))
  go_owed q h =
      subst (λ b. WithFalls N (Some (map change (rows_of q) ++ [])) (option_map (λ falls. map change (rows_of q) ++ falls) (if b then fall_rows (given (constant_row n a) ∷ []) (map change (ranks_of q)) 1 else no_fall q 1))) (sym h.goes_on)
      (subst (λ rs. WithFalls N (Some (map change (rows_of q) ++ [])) (option_map (λ falls. map change (rows_of q) ++ falls) (fall_rows (given (constant_row n a) ∷ []) (map change rs) 1))) (sym h.ranks)
      (record {
        same = map change (rows_of q);
        first = less (change (constant_row n h.rank)) (given (constant_row n a)) (pos 1);
        second = less (given zero_row) (given (constant_row n a)) (pos 0);
        exact = refl;
        are = nil_off N (map change (rows_of q));
        first_always = always_less N (change (constant_row n h.rank)) (given (constant_row n a)) a h.rank (keeps h.rank h.not_below_zero small) (number_row n a) h.below h.not_below_zero w;
        second_always = always_zero N (given (constant_row n a)) a (number_row n a) low w;
      }))
    where
      small : IsWithin 62 h.rank
      small = let b = h.below in let z = h.not_below_zero in omega (arith, ints, b, z, w)

  abbrev fall_of : Marked → ℕ → Option (List Known)
  fall_of = fall_from change (constant_row n a ∷ [])

  before_owed : (xs ys zs : List Marked) → EachOf (λ p. goes p ≡ false) xs → (k : ℕ) → k < length xs → OwedSame N (target_rows change no_fall (slice_get (xs ++ ys) k) 0) (target_rows change fall_of (slice_get (xs ++ (ys ++ zs)) k) 0)
  before_owed [] ys zs h k l = absurd (omega (arith, l))
  before_owed (x ∷ xs) ys zs h zero l = done_owed x (goes x) h.0
  before_owed (x ∷ xs) ys zs h (suc k) l = before_owed xs ys zs h.1 k (omega (arith, l))

  onward_owed : (xs ys zs : List Marked) → EachOf (IsRankBelow n a) ys → (k : ℕ) → length xs ≤ k → WithFalls N (target_rows change no_fall (slice_get (xs ++ ys) k) 0) (target_rows change fall_of (slice_get (xs ++ (ys ++ zs)) k) 1)
  onward_owed [] [] zs h k l = tt
  onward_owed [] (y ∷ ys) zs h zero l = go_owed y h.0
  onward_owed [] (y ∷ ys) zs h (suc k) l = onward_owed [] ys zs h.1 k (omega arith)
  onward_owed (x ∷ xs) ys zs h zero l = absurd (omega (arith, l))
  onward_owed (x ∷ xs) ys zs h (suc k) l = onward_owed xs ys zs h k (omega (arith, l))

  each_at : (P : Marked → Type 0) (xs : List Marked) (l : ℕ) → EachOf P xs → EachOf P (pieces_at xs l)
  each_at P [] l h = tt
  each_at P (x ∷ xs) l h = kept (place_of x == l) x (pieces_at xs l) h.0 (each_at P xs l h.1)
    where
      kept : (b : Bool) (x : Marked) (xs : List Marked) → P x → EachOf P xs → EachOf P (cond b (x ∷ xs) xs)
      kept true x xs p h = (p, h)
      kept false x xs p h = h

  pub falls_owed : (dones ranked later : List Marked) (l : ℕ) → AreLayers n a dones ranked → FallsOwed N (length (pieces_at dones l)) (owed_into (dones ++ ranked) l change no_fall) (owed_into (dones ++ (ranked ++ later)) l change (fall_from change (constant_row n a ∷ [])))
  falls_owed dones ranked later l h =
      let front = pieces_at-append dones ranked l in
      let whole = pieces_at-append dones (ranked ++ later) l ∙ ap (λ ps. pieces_at dones l ++ ps) (pieces_at-append ranked later l) in
      record {
        before = λ k s.
            subst (λ ps. OwedSame N (target_rows change no_fall (slice_get ps k) 0) (target_rows change fall_of (slice_get (pieces_at (dones ++ (ranked ++ later)) l) k) 0)) (sym front)
            (subst (λ ps. OwedSame N (target_rows change no_fall (slice_get (pieces_at dones l ++ pieces_at ranked l) k) 0) (target_rows change fall_of (slice_get ps k) 0)) (sym whole)
            (before_owed (pieces_at dones l) (pieces_at ranked l) (pieces_at later l) (each_at (λ p. goes p ≡ false) dones l h.done_with) k s));
        onward = λ k s.
            subst (λ ps. WithFalls N (target_rows change no_fall (slice_get ps k) 0) (target_rows change fall_of (slice_get (pieces_at (dones ++ (ranked ++ later)) l) k) 1)) (sym front)
            (subst (λ ps. WithFalls N (target_rows change no_fall (slice_get (pieces_at dones l ++ pieces_at ranked l) k) 0) (target_rows change fall_of (slice_get ps k) 1)) (sym whole)
            (onward_owed (pieces_at dones l) (pieces_at ranked l) (pieces_at later l) (each_at (IsRankBelow n a) ranked l h.ranked) k s));
        only = λ k j. only_zero change (slice_get (pieces_at (dones ++ ranked) l) k) j;
      }
