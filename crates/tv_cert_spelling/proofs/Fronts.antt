-- What stands at the front of a list of lines tells a value, and what follows it.
use Rattle.std.proofs.Common.{◌≡◌, List, [], ◌∷◌, ◌++◌, length, map, All, refl, sym, ◌∙◌, arith}
use Rattle.std.specs.List.{AllZip, flat_map}
use Rattle.std.proofs.lemmas.List.{append_assoc}
use Rattle.std.proofs.lemmas.List.Elements.{All-head, All-tail}

pub same_head : {T : Type 0} (t u : T) (ts us : List T) → t ∷ ts ≡ u ∷ us → t ≡ u
same_head t u ts us e = cc

pub same_tail : {T : Type 0} (t u : T) (ts us : List T) → t ∷ ts ≡ u ∷ us → ts ≡ us
same_tail t u ts us e = cc

-- after one of two texts
pub behind_first : {T : Type 0} (ts us vs ws xs ys : List T) → (ts ++ us) ++ xs ≡ (vs ++ ws) ++ ys → ts ++ (us ++ xs) ≡ vs ++ (ws ++ ys)
behind_first ts us vs ws xs ys e = sym (append_assoc ts us xs) ∙ e ∙ append_assoc vs ws ys

-- of two values with texts at the front of one list, both are the same, and so is what follows them
abbrev pub Told : {T A V : Type 0} → (A → List T) → (A → V) → (A → Type 0) → Type 0
Told {T} {A} {V} text value P = (a b : A) (xs ys : List T) → P a → P b → text a ++ xs ≡ text b ++ ys → (value a ≡ value b) × (xs ≡ ys)

-- lists of the same length, whose values have one token each
module _ {T A : Type 0} (token : A → T) (one : (a b : A) → token a ≡ token b → a ≡ b) where
  pub tokens_told : (vs ws : List A) (xs ys : List T) → length vs ≡ length ws → map token vs ++ xs ≡ map token ws ++ ys → (vs ≡ ws) × (xs ≡ ys)
  tokens_told [] [] xs ys long e = (refl, e)
  tokens_told [] (w ∷ ws) xs ys long e = absurd (omega (arith, long))
  tokens_told (v ∷ vs) [] xs ys long e = absurd (omega (arith, long))
  tokens_told (v ∷ vs) (w ∷ ws) xs ys long e =
      let first = one v w (same_head (token v) (token w) (map token vs ++ xs) (map token ws ++ ys) e) in
      let more = tokens_told vs ws xs ys (omega (arith, long)) (same_tail (token v) (token w) (map token vs ++ xs) (map token ws ++ ys) e) in
      (λ i. first i ∷ more.0 i, more.1)

-- lists of the same length, where each value is told
module _ {T A V : Type 0} (text : A → List T) (value : A → V) (P : A → Type 0) (told : Told text value P) where
  pub each_told : (vs ws : List A) (xs ys : List T) → length vs ≡ length ws → All P vs → All P ws → flat_map text vs ++ xs ≡ flat_map text ws ++ ys → (map value vs ≡ map value ws) × (xs ≡ ys)
  each_told [] [] xs ys long p q e = (refl, e)
  each_told [] (w ∷ ws) xs ys long p q e = absurd (omega (arith, long))
  each_told (v ∷ vs) [] xs ys long p q e = absurd (omega (arith, long))
  each_told (v ∷ vs) (w ∷ ws) xs ys long p q e =
      let first = told v w (flat_map text vs ++ xs) (flat_map text ws ++ ys) (All-head P v vs p) (All-head P w ws q) (behind_first (text v) (flat_map text vs) (text w) (flat_map text ws) xs ys e) in
      let more = each_told vs ws xs ys (omega (arith, long)) (All-tail P v vs p) (All-tail P w ws q) first.1 in
      (λ i. first.0 i ∷ more.0 i, more.1)

-- for each of a list a value that it tells
module _ {T A B V : Type 0} (text : A → List T) (value : A → V) (R : B → A → Type 0) (told : (b : B) → Told text value (R b)) where
  pub all_told : (bs : List B) (vs ws : List A) (xs ys : List T) → AllZip R bs vs → AllZip R bs ws → flat_map text vs ++ xs ≡ flat_map text ws ++ ys → (map value vs ≡ map value ws) × (xs ≡ ys)
  all_told [] [] [] xs ys p q e = (refl, e)
  all_told [] [] (w ∷ ws) xs ys p q e = absurd q
  all_told [] (v ∷ vs) ws xs ys p q e = absurd p
  all_told (b ∷ bs) [] ws xs ys p q e = absurd p
  all_told (b ∷ bs) (v ∷ vs) [] xs ys p q e = absurd q
  all_told (b ∷ bs) (v ∷ vs) (w ∷ ws) xs ys p q e =
      let first = told b v w (flat_map text vs ++ xs) (flat_map text ws ++ ys) p.0 q.0 (behind_first (text v) (flat_map text vs) (text w) (flat_map text ws) xs ys e) in
      let more = all_told bs vs ws xs ys p.1 q.1 first.1 in
      (λ i. first.0 i ∷ more.0 i, more.1)
