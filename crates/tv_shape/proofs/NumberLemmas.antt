-- What a node owes does not depend on its number.
use Rattle.std.proofs.Common.{arith, ◌+◌, ◌^◌, ◌<◌, ◌≤◌, ◌≡◌, ℕ, Bool, true, false, List, [], ◌∷◌, ◌++◌, length, map, refl, sym, ap, ◌∙◌, All}
use Rattle.std.specs.List.{flat_map}
use Rattle.std.proofs.lemmas.List.{length-map, map-append}
use Rattle.std.proofs.lemmas.Nat.{mul-le}
use Rattle.tv_cert.proofs.RoomLemmas.{own_few}
use Rattle.tv_formula.specs.declared.tree.Path.{Path}
use Rattle.tv_formula.specs.declared.tree.Path.TheVariants.{Every, Any}
use Rattle.tv_formula.specs.declared.tree.Shape.{Shape}
use Rattle.tv_formula.specs.declared.tree.Shape.TheVariants.{Until, Weak, Release, Strong}
use Rattle.tv_cases.specs.LinearCases.{LinearCase, CaseSystem, leaving}
use Rattle.tv_cert.specs.declared.node.Kind.{Kind}
use Rattle.tv_cert.specs.declared.node.Kind.TheVariants as kind
use Rattle.tv_cert.specs.declared.node.Marked.{Marked}
use Rattle.tv_cert.specs.Pieces.{place_of, goes}
use Rattle.tv_cert.specs.Obligations.{About, Obligation, cover_of, step_of, steps_of, choice_of, hold_side, end_sides, go_of, fix_of, first_of, second_of, step_fall}
use Rattle.tv_cert.specs.Targets.{owed_nothing, no_fall}
use Rattle.tv_cert.specs.AboutSystem.{about_of}
use Rattle.tv_cert.specs.Statements.{Statement, rows, here, elsewhere, ends, never_ends, each_of, one_of, after, along, unsaid}
use Rattle.tv_cert.specs.Nodes.{piece_owes, node_owes}
use Rattle.tv_shape.specs.Narrow.{CountNarrow, RowNarrow}
use Rattle.tv_linear.specs.Linear.{Linear, IsNarrow}
use Rattle.std.proofs.lemmas.List.Elements.{All-nil, All-cons, All-head, All-tail}

abbrev pub renumbered : ℕ → Obligation → Obligation
renumbered n o = record { node = n; kind = o.kind; owed = o.owed }

map_twice : {A B C : Type 0} (g : B → C) (f : A → B) (xs : List A) → map (λ x. g (f x)) xs ≡ map g (map f xs)
map_twice g f [] = refl
map_twice g f (x ∷ xs) = ap (λ ys. g (f x) ∷ ys) (map_twice g f xs)

steps_renumbered : (n : ℕ) (about : About) (p : Marked) (into : List Marked) (fall : LinearCase → _) → steps_of n about p into fall ≡ map (renumbered n) (steps_of 0 about p into fall)
steps_renumbered n about p into fall = map_twice (renumbered n) (step_of 0 about p into fall) (leaving (place_of p) about.system.cases)

covers_renumbered : (n : ℕ) (k : Kind) (about : About) (p : Marked) (kids : List (List Marked)) → map (cover_of n k about p) kids ≡ map (renumbered n) (map (cover_of 0 k about p) kids)
covers_renumbered n k about p kids = map_twice (renumbered n) (cover_of 0 k about p) kids

go_renumbered : (n : ℕ) (about : About) (path : Path) (shape : Shape) (ps : List Marked) (p : Marked) → go_of n about path shape ps p ≡ map (renumbered n) (go_of 0 about path shape ps p)
go_renumbered n about Every Until ps p = ap (λ os. choice_of n kind.Successor about p false (λ c draws. owed_nothing) ∷ os) (steps_renumbered n about p ps (step_fall about p))
go_renumbered n about Every Strong ps p = ap (λ os. choice_of n kind.Successor about p false (λ c draws. owed_nothing) ∷ os) (steps_renumbered n about p ps (step_fall about p))
go_renumbered n about Every Weak ps p = steps_renumbered n about p ps (λ c. no_fall)
go_renumbered n about Every Release ps p = steps_renumbered n about p ps (λ c. no_fall)
go_renumbered n about Any Until ps p = refl
go_renumbered n about Any Strong ps p = refl
go_renumbered n about Any Weak ps p = refl
go_renumbered n about Any Release ps p = refl

fix_renumbered : (n : ℕ) (about : About) (path : Path) (shape : Shape) (ps a b : List Marked) (p : Marked) (t : Bool) → fix_of n about path shape ps a b p t ≡ map (renumbered n) (fix_of 0 about path shape ps a b p t)
fix_renumbered n about path shape ps a b p false = covers_renumbered n kind.Done about p (end_sides shape a b)
fix_renumbered n about path shape ps a b p true = ap (λ os. cover_of n kind.Hold about p (hold_side shape a b) ∷ os) (go_renumbered n about path shape ps p)

at_renumbered : (n : ℕ) (system : CaseSystem) (s : Statement) (ps : List Marked) (kids : List (List Marked)) (p : Marked) → piece_owes n system s ps kids p ≡ map (renumbered n) (piece_owes 0 system s ps kids p)
at_renumbered n system (rows lists) ps kids p = refl
at_renumbered n system (here l) ps kids p = refl
at_renumbered n system (elsewhere l) ps kids p = refl
at_renumbered n system ends ps kids p = steps_renumbered n (about_of system) p ps (step_fall (about_of system) p)
at_renumbered n system never_ends ps kids p = refl
at_renumbered n system (each_of ss) ps kids p = covers_renumbered n kind.Child (about_of system) p kids
at_renumbered n system (one_of ss) ps kids p = refl
at_renumbered n system (after Every s) ps kids p = steps_renumbered n (about_of system) p (first_of kids) (λ c. no_fall)
at_renumbered n system (after Any s) ps kids p = refl
at_renumbered n system (along path shape s t) ps kids p = fix_renumbered n (about_of system) path shape ps (first_of kids) (second_of kids) p (goes p)
at_renumbered n system unsaid ps kids p = refl

each_renumbered : (n : ℕ) (f g : Marked → List Obligation) → ((p : Marked) → f p ≡ map (renumbered n) (g p)) → (ps : List Marked) → flat_map f ps ≡ map (renumbered n) (flat_map g ps)
each_renumbered n f g same [] = refl
each_renumbered n f g same (p ∷ ps) = (λ i. same p i ++ each_renumbered n f g same ps i) ∙ sym (map-append (renumbered n) (g p) (flat_map g ps))

pub own_renumbered : (n : ℕ) (system : CaseSystem) (s : Statement) (ps : List Marked) (kids : List (List Marked)) → node_owes n system s ps kids ≡ map (renumbered n) (node_owes 0 system s ps kids)
own_renumbered n system s ps kids = each_renumbered n (piece_owes n system s ps kids) (piece_owes 0 system s ps kids) (at_renumbered n system s ps kids) ps

-- there are as many obligations, whatever the number
pub own_many : (n : ℕ) (system : CaseSystem) (s : Statement) (ps : List Marked) (kids : List (List Marked)) → length (node_owes n system s ps kids) ≡ length (node_owes 0 system s ps kids)
own_many n system s ps kids = ap length (own_renumbered n system s ps kids) ∙ length-map (node_owes 0 system s ps kids) (renumbered n)

-- there is room for what a node owes, whose lists lie in memory
pub own_within : (n : ℕ) (system : CaseSystem) (s : Statement) (ps : List Marked) (kids : List (List Marked)) → length ps < 2 ^ 63 → length kids < 2 ^ 63 → length system.cases < 2 ^ 63 → length (node_owes n system s ps kids) ≤ 2 ^ 200
own_within n system s ps kids a b c =
    let bounded = own_few n system ps kids s in
    let most = mul-le (length ps) (length kids + length system.cases + 2) (2 ^ 63) (2 ^ 65) (omega (arith, a)) (omega (arith, b, c)) in
    omega (arith, bounded, most)

pub narrow_count : (n : ℕ) → n < 2 ^ 32 → CountNarrow n
narrow_count n h = omega (arith, h)

pub row_narrow : (r : Linear) → IsNarrow r → RowNarrow r
row_narrow r h = record { coefficients = h.coefficients; constant = h.constant }

pub rows_narrow : (rs : List Linear) → All IsNarrow rs → All RowNarrow rs
rows_narrow [] h = All-nil RowNarrow
rows_narrow (r ∷ rs) h =
    let a = All-head IsNarrow r rs h in
    All-cons RowNarrow r rs record { coefficients = a.coefficients; constant = a.constant } (rows_narrow rs (All-tail IsNarrow r rs h))
