-- Ranks that fall or do not grow, one step after another.
use Rattle.std.proofs.Common.{◌≡◌, ◌⊎◌, inl, inr, ℕ, zero, suc, ◌<◌, ◌≤◌, List, [], ◌∷◌, map, get_or, refl, sym, ap, ◌∙◌, arith, length, subst, ℤ, pos, ◌+ℤ◌, ◌≤ℤ◌, Option, None, Some}
use Rattle.std.specs.Prelude.{All}
use Rattle.std.specs.Option.{option_map}
use Rattle.std.proofs.lemmas.Int.{ints}
use Rattle.std.proofs.lemmas.List.Elements.{All-head, All-tail}
use Rattle.tv_linear.specs.Known.{Known, less, known_value, IsKnownMet}
use Rattle.tv_linear.specs.Falls.{FallsAt, Falls}
use Rattle.tv_linear.proofs.KnownLemmas.{value-less}
use Rattle.tv_finitely.specs.Kept.{NoneGrows, kept_rows}

le_or_lt : (a b : ℕ) → (a ≤ b) ⊎ (b < a)
le_or_lt zero b = inl (omega arith)
le_or_lt (suc a) zero = inr (omega arith)
le_or_lt (suc a) (suc b) = elim (le_or_lt a b) [ inl h ↦ inl (omega arith) | inr h ↦ inr (omega arith) ]

chain_le : (a b c : ℤ) → b ≤ℤ a → c ≤ℤ b → c ≤ℤ a
chain_le a b c h k = omega (arith, ints)

module _ (old mid new : List ℤ) where
  -- the later ranks do not grow where the first ones fall
  kept_later : (j : ℕ) → FallsAt old mid j → length new ≡ length mid → ((i : ℕ) → i < j → get_or new i (pos 0) ≤ℤ get_or mid i (pos 0)) → get_or new j (pos 0) ≤ℤ get_or mid j (pos 0) → FallsAt old new j
  kept_later j h same grows here = record {
    as_many = same ∙ h.as_many;
    inside = h.inside;
    none_grows = λ i l. chain_le (get_or old i (pos 0)) (get_or mid i (pos 0)) (get_or new i (pos 0)) (h.none_grows i l) (grows i l);
    falls = (let f = h.falls in omega (arith, ints, f, here));
    not_below = h.not_below;
  }

  -- the first ranks do not grow where the later ones fall
  kept_before : (j : ℕ) → FallsAt mid new j → length mid ≡ length old → ((i : ℕ) → i < j → get_or mid i (pos 0) ≤ℤ get_or old i (pos 0)) → get_or mid j (pos 0) ≤ℤ get_or old j (pos 0) → FallsAt old new j
  kept_before j h same grows here = record {
    as_many = h.as_many ∙ same;
    inside = (let k = h.inside in omega (arith, k, same));
    none_grows = λ i l. chain_le (get_or old i (pos 0)) (get_or mid i (pos 0)) (get_or new i (pos 0)) (grows i l) (h.none_grows i l);
    falls = (let f = h.falls in omega (arith, ints, f, here));
    not_below = (let f = h.not_below in omega (arith, ints, f, here));
  }

  pub falls_then_kept : Falls old mid → NoneGrows mid new → Falls old new
  falls_then_kept (j, h) k =
      (j, kept_later j h k.as_many (λ i l. k.none_grows i (let a = h.as_many in let b = h.inside in omega (arith, a, b, l))) (k.none_grows j (let a = h.as_many in let b = h.inside in omega (arith, a, b))))

  pub kept_then_falls : NoneGrows old mid → Falls mid new → Falls old new
  kept_then_falls k (j, h) =
      (j, kept_before j h k.as_many (λ i l. k.none_grows i (let a = k.as_many in let b = h.inside in omega (arith, a, b, l))) (k.none_grows j (let a = k.as_many in let b = h.inside in omega (arith, a, b))))

  fallen : (b : ℤ) (a : ℤ) → (b +ℤ pos 1) ≤ℤ a → b ≤ℤ a
  fallen b a h = omega (arith, ints)

  lesser : (j k : ℕ) → FallsAt old mid j → FallsAt mid new k → (j < k) ⊎ (k ≤ j) → Falls old new
  lesser j k h g (inl l) = (j, kept_later j h g.as_many (λ i m. g.none_grows i (omega (arith, l, m))) (g.none_grows j l))
  lesser j k h g (inr l) = (k, kept_before k g h.as_many (λ i m. h.none_grows i (omega (arith, l, m))) (elim (le_or_lt j k) [ inl e ↦ (let same : k ≡ j = omega (arith, e, l) in rw same (fallen (get_or mid j (pos 0)) (get_or old j (pos 0)) h.falls)) | inr e ↦ h.none_grows k e ]))

  turned : (j k : ℕ) → (k ≤ j) ⊎ (j < k) → (j < k) ⊎ (k ≤ j)
  turned j k (inl l) = inr l
  turned j k (inr l) = inl l

  pub falls_then_falls : Falls old mid → Falls mid new → Falls old new
  falls_then_falls (j, h) (k, g) = lesser j k h g (turned j k (le_or_lt k j))

-- the ranks fall or do not grow
abbrev pub Moves : List ℤ → List ℤ → Type 0
Moves old new = Falls old new ⊎ NoneGrows old new

pub moves_then_falls : (old mid new : List ℤ) → Moves old mid → Falls mid new → Falls old new
moves_then_falls old mid new (inl h) g = falls_then_falls old mid new h g
moves_then_falls old mid new (inr h) g = kept_then_falls old mid new h g

-- ---- where the rows of ranks that are kept are met, the values do not grow
module _ (xs : List ℤ) where
  none_kept : NoneGrows [] []
  none_kept = record { as_many = refl; none_grows = λ i h. absurd (omega (arith, h)) }

  one_kept : (f g : ℤ) (old new : List ℤ) → g ≤ℤ f → NoneGrows old new → NoneGrows (f ∷ old) (g ∷ new)
  one_kept f g old new here h = record { as_many = ap suc h.as_many; none_grows = grows } where
    grows : (i : ℕ) → i < suc (length old) → get_or (g ∷ new) i (pos 0) ≤ℤ get_or (f ∷ old) i (pos 0)
    grows zero l = here
    grows (suc i) l = h.none_grows i (omega (arith, l))

  lessened : (f g : Known) → IsKnownMet xs (less g f (pos 0)) → known_value xs g ≤ℤ known_value xs f
  lessened f g h = (let e = value-less xs g f (pos 0) in omega (arith, ints, h, e))

  pub kept-shown : (old new : List Known) (rows : List Known) → kept_rows old new ≡ Some rows → All (IsKnownMet xs) rows → NoneGrows (map (known_value xs) old) (map (known_value xs) new)
  kept-shown [] [] rows e h = none_kept
  kept-shown [] (g ∷ new) rows e h = cc
  kept-shown (f ∷ old) [] rows e h = cc
  kept-shown (f ∷ old) (g ∷ new) rows e h = more (kept_rows old new) (λ rest here all. kept-shown old new rest here all) refl e where
    more : (o : Option (List Known)) → ((rest : List Known) → o ≡ Some rest → All (IsKnownMet xs) rest → NoneGrows (map (known_value xs) old) (map (known_value xs) new)) → kept_rows old new ≡ o → option_map (λ rows. less g f (pos 0) ∷ rows) o ≡ Some rows → NoneGrows (map (known_value xs) (f ∷ old)) (map (known_value xs) (g ∷ new))
    more None later here is = cc
    more (Some rest) later here is =
        let same : less g f (pos 0) ∷ rest ≡ rows = cc in
        let all = subst (All (IsKnownMet xs)) (sym same) h in
        one_kept (known_value xs f) (known_value xs g) (map (known_value xs) old) (map (known_value xs) new)
        (lessened f g (All-head (IsKnownMet xs) (less g f (pos 0)) rest all))
        (later rest refl (All-tail (IsKnownMet xs) (less g f (pos 0)) rest all))
