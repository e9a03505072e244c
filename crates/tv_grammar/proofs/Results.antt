-- Results one after the other, and the next token of joined lists.
use Rattle.std.proofs.Common.{◌≡◌, List, [], ◌∷◌, ◌++◌, Result, Ok, Err, refl, inl, inr, ◌⊎◌}
use Rattle.tv_grammar.specs.Reads.{◌>>=◌, next, first_or}

pub bind_ok : {E A B : Type 0} (r : Result A E) (f : A → Result B E) (y : B) → (r >>= f) ≡ Ok y → (x : A) × (r ≡ Ok x) × (f x ≡ Ok y)
bind_ok (Ok x) f y e = (x, refl, e)
bind_ok (Err d) f y e = absurd cc

pub bind_err : {E A B : Type 0} (r : Result A E) (f : A → Result B E) (d : E) → (r >>= f) ≡ Err d → (r ≡ Err d) ⊎ ((x : A) × (r ≡ Ok x) × (f x ≡ Err d))
bind_err (Ok x) f d e = inr (x, refl, e)
bind_err (Err c) f d e = inl cc

abbrev pub good : {E A : Type 0} → A → Result A E
good x = Ok x

pub ok_is : {E A : Type 0} (x y : A) → good {E = E} x ≡ good y → x ≡ y
ok_is x y e = cc

pub clash : {E A : Type 0} (x : A) (d : E) → good {E = E} x ≡ Err d → ⊥
clash x d e = cc

pub next-append : {T : Type 0} (a r : List T) → next (a ++ r) ≡ first_or a (next r)
next-append [] r = refl
next-append (t ∷ a) r = refl

pub next_same : {T : Type 0} (a r s : List T) → next r ≡ next s → next (a ++ r) ≡ next (a ++ s)
next_same [] r s e = e
next_same (t ∷ a) r s e = refl
