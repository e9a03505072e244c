-- What a grammar reads that is made of others.
use Rattle.std.proofs.Common.{◌≡◌, ℕ, zero, suc, List, [], ◌∷◌, ◌++◌, length, map, All, Ok, refl, ap, ◌∙◌, arith}
use Rattle.std.specs.List.{AllZip, flat_map}
use Rattle.std.proofs.lemmas.List.{append_assoc}
use Rattle.std.proofs.lemmas.List.Elements.{All-head, All-tail}
use Rattle.tv_grammar.specs.Reads.{◌>>=◌}
use Rattle.tv_grammar.specs.Langs.{Lang, unit, then, mapped, times, each}

-- after a front that is read
pub then_read : {T K X Y : Type 0} (a : Lang T K X) (b : X → Lang T K Y) (ts : List T) (x : X) (r : List T) → a.read ts ≡ Ok (x, r) → (then a b).read ts ≡ (b x).read r
then_read a b ts x r e = ap (λ o. o >>= λ p. (b p.0).read p.1) e

pub mapped_read : {T K X Y : Type 0} (f : X → Y) (l : Lang T K X) (ts : List T) (x : X) (r : List T) → l.read ts ≡ Ok (x, r) → (mapped f l).read ts ≡ Ok (f x, r)
mapped_read f l ts x r e = then_read l (λ x. unit (f x)) ts x r e

-- `n` texts of one grammar
module _ {T K A X : Type 0} (l : Lang T K X) (P : A → Type 0) (text : A → List T) (value : A → X) (reads : (a : A) (r : List T) → P a → l.read (text a ++ r) ≡ Ok (value a, r)) where
  pub times_read : (n : ℕ) (xs : List A) (r : List T) → length xs ≡ n → All P xs → (times n l).read (flat_map text xs ++ r) ≡ Ok (map value xs, r)
  unfolding times
  times_read zero [] r e all = refl
  times_read zero (a ∷ xs) r e all = absurd (omega (arith, e))
  times_read (suc n) [] r e all = absurd (omega (arith, e))
  times_read (suc n) (a ∷ xs) r e all =
      ap (times (suc n) l).read (append_assoc (text a) (flat_map text xs) r)
      ∙ then_read l (λ x. mapped (λ more. x ∷ more) (times n l)) (text a ++ (flat_map text xs ++ r)) (value a) (flat_map text xs ++ r) (reads a (flat_map text xs ++ r) (All-head P a xs all))
      ∙ mapped_read (λ more. value a ∷ more) (times n l) (flat_map text xs ++ r) (map value xs) r (times_read n xs r (omega (arith, e)) (All-tail P a xs all))

-- for each of a list the text that it asks for
module _ {T K A B X : Type 0} (l : B → Lang T K X) (R : B → A → Type 0) (text : A → List T) (value : A → X) (reads : (b : B) (a : A) (r : List T) → R b a → (l b).read (text a ++ r) ≡ Ok (value a, r)) where
  pub each_read : (bs : List B) (xs : List A) (r : List T) → AllZip R bs xs → (each l bs).read (flat_map text xs ++ r) ≡ Ok (map value xs, r)
  unfolding each
  each_read [] [] r all = refl
  each_read [] (a ∷ xs) r all = absurd all
  each_read (b ∷ bs) [] r all = absurd all
  each_read (b ∷ bs) (a ∷ xs) r all =
      ap (each l (b ∷ bs)).read (append_assoc (text a) (flat_map text xs) r)
      ∙ then_read (l b) (λ x. mapped (λ more. x ∷ more) (each l bs)) (text a ++ (flat_map text xs ++ r)) (value a) (flat_map text xs ++ r) (reads b a (flat_map text xs ++ r) all.0)
      ∙ mapped_read (λ more. value a ∷ more) (each l bs) (flat_map text xs ++ r) (map value xs) r (each_read bs xs r all.1)
