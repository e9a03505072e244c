use Rattle.std.proofs.Common.{◌≡◌, ℕ, ◌+◌, List, [], ◌∷◌, ◌++◌, ◌∙◌, length, take, drop, refl, sym, ap, append_assoc, length-append, arith, subst}
use Rattle.std.specs.Prelude.{Option, None, Some}
use Rattle.std.specs.Io.KnownBytes.{Consumes, Appends}
use Rattle.std.proofs.lemmas.List.{take_at, drop-drop, take-append-drop}
use Rattle.std.proofs.Math.Seq.{take-add}
use Rattle.tv_text.specs.Stream.{Seen, Gave, Took, count_passed}

-- nothing came yet
consumes_nothing : (o : Option (List ℕ)) → Consumes o o []
consumes_nothing None = tt
consumes_nothing (Some xs) = refl

and_nothing : (front : List ℕ) → front ≡ front ++ []
and_nothing [] = refl
and_nothing (b ∷ bytes) = ap (λ rest. b ∷ rest) (and_nothing bytes)

pub gave_nothing : (o : Seen) → Gave o o []
gave_nothing o = record { told = and_nothing o.told; lost = consumes_nothing o.known }

-- how many bytes came
pub counted : (o q : Seen) (xs : List ℕ) → Gave o q xs → count_passed o q ≡ length xs
counted o q xs h = let e : length q.told ≡ length o.told + length xs = ap length h.told ∙ length-append o.told xs in omega (arith, e)

-- one write after others
appends_more : (o p q : Option (List ℕ)) (xs ys : List ℕ) → Appends o p xs → Appends p q ys → Appends o q (xs ++ ys)
appends_more None p q xs ys first then = tt
appends_more (Some os) None q xs ys first then = absurd first
appends_more (Some os) (Some ps) None xs ys first then = absurd then
appends_more (Some os) (Some ps) (Some qs) xs ys first then = then ∙ ap (λ (zs : List ℕ). zs ++ ys) first ∙ append_assoc os xs ys

appends_nothing : (o : Option (List ℕ)) → Appends o o []
appends_nothing None = tt
appends_nothing (Some xs) = and_nothing xs

pub took_nothing : (o : Seen) → Took o o []
took_nothing o = record { told = and_nothing o.told; held = appends_nothing o.known }

pub took_more : (o p q : Seen) (xs ys : List ℕ) → Took o p xs → Took p q ys → Took o q (xs ++ ys)
took_more o p q xs ys first then = record {
  told = then.told ∙ ap (λ (zs : List ℕ). zs ++ ys) first.told ∙ append_assoc o.told xs ys;
  held = appends_more o.known p.known q.known xs ys first.held then.held;
}

-- a write of the next bytes after the first ones
pub took_next : (o p q : Seen) (xs : List ℕ) (i n : ℕ) → Took o p (take i xs) → Took p q (take n (drop i xs)) → Took o q (take (i + n) xs)
took_next o p q xs i n first then = subst (λ (zs : List ℕ). Took o q zs) (sym (take-add i n xs)) (took_more o p q (take i xs) (take n (drop i xs)) first then)

-- what a read has copied to the front of a buffer, and what is left, are what was there
pub before_rest : (xs c buf : List ℕ) (at n : ℕ) → length c ≡ n → c ≡ take n (drop at xs) → drop at xs ≡ take n (c ++ drop n buf) ++ drop (at + n) xs
before_rest xs c buf at n size is =
    rw (take_at c (drop n buf) n size, is, ← drop-drop n at xs) (sym (take-append-drop n (drop at xs)))

pub told_rest : (xs c buf : List ℕ) (at n : ℕ) → length c ≡ n → c ≡ take n (drop at xs) → take (at + n) xs ≡ take at xs ++ take n (c ++ drop n buf)
told_rest xs c buf at n size is = rw (take_at c (drop n buf) n size, is) (take-add at n xs)
