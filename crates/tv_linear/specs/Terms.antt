use Rattle.std.specs.Prelude.{ℕ, zero, suc, List, [], ◌∷◌, ◌++◌, map, ◌==◌, if◌then◌else◌}
use Rattle.tv_linear.specs.Linear.{Linear}
use Rattle.tv_linear.specs.Known.{Term, kept, put}
use Rattle.tv_linear.specs.declared.region.Update.{Update}

-- what the updates put for a variable: the term of the first update of it, and else the variable is kept
abbrev pub update_of : List Update → ℕ → Term
update_of [] v = kept v
update_of (u ∷ rest) v = (if u.variable == v then put u.term else update_of rest v)

-- the values of a function at 0 to n - 1
abbrev pub table : {A : Type 0} → ℕ → (ℕ → A) → List A
table zero f = []
table (suc n) f = f 0 ∷ table n (λ j. f (suc j))

-- the terms of n variables after the updates
abbrev pub terms_after : ℕ → List Update → List Term
terms_after n updates = table n (update_of updates)

-- n variables kept, and then a term for each draw
abbrev pub draw_terms : ℕ → List Linear → List Term
draw_terms n draws = table n kept ++ map (λ d. put d) draws
