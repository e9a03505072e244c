-- Two places in one list of lines where no text goes on are one.
use Rattle.std.proofs.Common.{◌≡◌, ℕ, ◌+◌, List, [], ◌∷◌, ◌++◌, length, refl, sym, ap, ◌∙◌, inl, inr, ◌⊎◌, length-append, arith}
use Rattle.std.proofs.lemmas.List.{append_assoc, append-nil}
use Rattle.tv_grammar.specs.Reads.{next}
use Rattle.tv_grammar.specs.Langs.{Lang}
use Rattle.tv_grammar.specs.Exact.{StopsAt}

-- one of two fronts of a list begins with the other
pub record Longer {T : Type 0} (a r b s : List T) : Type 0 where
  pub between : List T
  pub front : b ≡ a ++ between
  pub left : r ≡ between ++ s

longer_by : {T : Type 0} (t : T) (a r b s : List T) → Longer a r b s → Longer (t ∷ a) r (t ∷ b) s
longer_by t a r b s h = record { between = h.between; front = ap (λ us. t ∷ us) h.front; left = h.left }

longer_head : {T : Type 0} (t u : T) (a r b s : List T) → t ≡ u → Longer (t ∷ a) r (t ∷ b) s → Longer (t ∷ a) r (u ∷ b) s
longer_head t u a r b s e h = rw (sym e) h

longer_other : {T : Type 0} (t u : T) (a r b s : List T) → t ≡ u → Longer (t ∷ b) s (t ∷ a) r → Longer (u ∷ b) s (t ∷ a) r
longer_other t u a r b s e h = rw (sym e) h

pub one_longer : {T : Type 0} (a r b s : List T) → a ++ r ≡ b ++ s → Longer a r b s ⊎ Longer b s a r
one_longer [] r b s e = inl (record { between = b; front = refl; left = e })
one_longer (t ∷ a) r [] s e = inr (record { between = t ∷ a; front = refl; left = sym e })
one_longer (t ∷ a) r (u ∷ b) s e =
    let is : t ≡ u = cc in
    let tails : a ++ r ≡ b ++ s = cc in
    elim (one_longer a r b s tails) [
      | inl x ↦ inl (longer_head t u a r b s is (longer_by t a r b s x))
      | inr x ↦ inr (longer_other t u a r b s is (longer_by t b s a r x))
    ]

-- no text goes on after the place where one stops
nothing_between : {T K X : Type 0} (l : Lang T K X) (ts r more : List T) (stop : StopsAt l ts r) (b s between : List T) → b ≡ stop.before ++ between → r ≡ between ++ s → (d : l.Of) → l.text d [] ≡ b ++ more → between ≡ []
nothing_between l ts r more stop b s [] front left d text = refl
nothing_between {T} l ts r more stop b s (t ∷ us) front left d text = absurd (stop.none d (t ∷ (us ++ more)) (ap next (sym left)) (text ∙ ap (λ (x : List T). x ++ more) front ∙ append_assoc stop.before (t ∷ us) more))

same_front : {T : Type 0} (a b us : List T) → us ≡ [] → b ≡ a ++ us → a ≡ b ++ []
same_front {T} a b us e f = sym (append-nil b ∙ f ∙ ap (λ (x : List T). a ++ x) e ∙ append-nil a)

-- what begins a text is no longer than what stands before the place
pub begins_before : {T K X : Type 0} (l : Lang T K X) (ts r : List T) (stop : StopsAt l ts r) (b s more : List T) → ts ≡ b ++ s → (d : l.Of) → l.text d [] ≡ b ++ more → Longer b s stop.before r
begins_before {T} l ts r stop b s more parts d text = elim (one_longer stop.before r b s (sym stop.parts ∙ parts)) [
  | inr x ↦ x
  | inl x ↦
      let none : x.between ≡ [] = nothing_between l ts r more stop b s x.between x.front x.left d text in
      record { between = []; front = same_front stop.before b x.between none x.front; left = sym (x.left ∙ ap (λ (us : List T). us ++ s) none) }
]

no_more : {T : Type 0} (m n : ℕ) (us vs : List T) → m ≡ n + length us → n ≡ m + length vs → vs ≡ []
no_more m n us [] e f = refl
no_more m n us (v ∷ vs) e f = absurd (omega (arith, e, f))

-- no text stops at two places
pub one_place : {T K X : Type 0} (l : Lang T K X) (ts r s : List T) (a : StopsAt l ts r) (b : StopsAt l ts s) → (a.before ≡ b.before) × (r ≡ s)
one_place {T} l ts r s a b =
    let some = b.some in
    let x = begins_before l ts r a b.before s some.1.0 b.parts some.0 some.1.1 in
    let others = a.some in
    let y = begins_before l ts s b a.before r others.1.0 a.parts others.0 others.1.1 in
    let none : y.between ≡ [] = no_more (length a.before) (length b.before) x.between y.between (ap length x.front ∙ length-append b.before x.between) (ap length y.front ∙ length-append a.before y.between) in
    (sym (y.front ∙ ap (λ (us : List T). a.before ++ us) none ∙ append-nil a.before), y.left ∙ ap (λ (us : List T). us ++ s) none)
