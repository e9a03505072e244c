use Rattle.std.proofs.Common.{◌≡◌, List, [], ◌∷◌, ◌++◌, refl, sym, ap, ◌∙◌, append_assoc}
use Rattle.tv_linear.specs.Linear.{Linear}
use Rattle.tv_farkas.specs.declared.branch.Branch.{Branch}
use Rattle.tv_farkas.specs.Paths.{IsPath, rows_after}
use Rattle.tv_farkas.specs.Stretching.{rows_of}
use Rattle.std.proofs.lemmas.List.{append-nil}

-- the rows at the end of a path are the rows above it and its own
pub after_is : (rows : List Linear) (path : List Branch) → rows_after rows path ≡ rows ++ rows_of path
after_is rows [] = sym (append-nil rows)
after_is rows (b ∷ path) = after_is (rows ++ b.row ∷ []) path ∙ append_assoc rows (b.row ∷ []) (rows_of path)

pub after_more : (rows : List Linear) (path : List Branch) (b : Branch) → rows_after rows (path ++ b ∷ []) ≡ rows_after rows path ++ b.row ∷ []
after_more rows [] b = refl
after_more rows (c ∷ path) b = after_more (rows ++ c.row ∷ []) path b

pub path_more : (rule : List Linear → Branch → Type 0) (rows : List Linear) (path : List Branch) (b : Branch) → IsPath rule rows path → rule (rows_after rows path) b → IsPath rule rows (path ++ b ∷ [])
path_more rule rows [] b h g = (g, tt)
path_more rule rows (c ∷ path) b h g = (h.0, path_more rule (rows ++ c.row ∷ []) path b h.1 g)

pub rows_more : (path : List Branch) (b : Branch) → rows_of (path ++ b ∷ []) ≡ rows_of path ++ b.row ∷ []
rows_more [] b = refl
rows_more (c ∷ path) b = ap (λ rs. c.row ∷ rs) (rows_more path b)
