-- How many obligations a node owes.
use Rattle.std.proofs.Common.{ℕ, suc, ◌+◌, ◌*◌, ◌≤◌, Bool, true, false, List, [], ◌∷◌, length, arith, length-append, cond, Option}
use Rattle.std.specs.Prelude.{◌==◌}
use Rattle.std.specs.List.{filter, flat_map}
use Rattle.std.proofs.lemmas.List.{length-map}
use Rattle.tv_formula.specs.declared.tree.Path.{Path}
use Rattle.tv_formula.specs.declared.tree.Path.TheVariants.{Every, Any}
use Rattle.tv_formula.specs.declared.tree.Shape.{Shape}
use Rattle.tv_formula.specs.declared.tree.Shape.TheVariants.{Until, Weak, Release, Strong}
use Rattle.tv_linear.specs.Known.{Known}
use Rattle.tv_cases.specs.LinearCases.{LinearCase, CaseSystem, leaving}
use Rattle.tv_cert.specs.declared.node.Kind.TheVariants as kind
use Rattle.tv_cert.specs.declared.node.Marked.{Marked}
use Rattle.tv_cert.specs.Pieces.{place_of, goes}
use Rattle.tv_cert.specs.Targets.{no_fall}
use Rattle.tv_cert.specs.Obligations.{About, step_of, steps_of, step_fall, cover_of, go_of, fix_of, first_of, second_of, end_sides}
use Rattle.tv_cert.specs.AboutSystem.{about_of}
use Rattle.tv_cert.specs.Nodes.{piece_owes, node_owes}
use Rattle.tv_cert.specs.Statements.{Statement, rows, here, elsewhere, ends, never_ends, each_of, one_of, after, along, unsaid}

length_cond : {A : Type 0} (b : Bool) (x : A) (xs : List A) → length (cond b (x ∷ xs) xs) ≤ suc (length xs)
length_cond true x xs = omega arith
length_cond false x xs = omega arith

pub few_left : {A : Type 0} (f : A → Bool) (xs : List A) → length (filter f xs) ≤ length xs
few_left f [] = omega arith
few_left f (x ∷ xs) = omega (arith, few_left f xs, length_cond (f x) x (filter f xs))

-- each element gives few, so all of them do
pub few_joined : {A B : Type 0} (f : A → List B) (most : ℕ) → ((x : A) → length (f x) ≤ most) → (xs : List A) → length (flat_map f xs) ≤ length xs * most
few_joined f most each [] = omega arith
few_joined f most each (x ∷ xs) =
    let joined = length-append (f x) (flat_map f xs) in
    let first = each x in
    let rest = few_joined f most each xs in
    omega (arith, joined, first, rest)

-- no more steps than cases
pub steps_few : (number : ℕ) (about : About) (p : Marked) (ps : List Marked) (fall : LinearCase → Marked → ℕ → Option (List Known)) → length (steps_of number about p ps fall) ≤ length about.system.cases
steps_few number about p ps fall =
    let many = length-map (leaving (place_of p) about.system.cases) (step_of number about p ps fall) in
    let bounded = few_left (λ c. c.from == place_of p) about.system.cases in
    omega (arith, many, bounded)

go_few : (number : ℕ) (about : About) (path : Path) (shape : Shape) (ps : List Marked) (p : Marked) → length (go_of number about path shape ps p) ≤ 1 + length about.system.cases
go_few number about Every Until ps p = omega (arith, steps_few number about p ps (step_fall about p))
go_few number about Every Strong ps p = omega (arith, steps_few number about p ps (step_fall about p))
go_few number about Every Weak ps p = omega (arith, steps_few number about p ps (λ c. no_fall))
go_few number about Every Release ps p = omega (arith, steps_few number about p ps (λ c. no_fall))
go_few number about Any Until ps p = omega arith
go_few number about Any Strong ps p = omega arith
go_few number about Any Weak ps p = omega arith
go_few number about Any Release ps p = omega arith

done_few : {A : Type 0} (shape : Shape) (a b : A) → length (end_sides shape a b) ≤ 2
done_few Until a b = omega arith
done_few Weak a b = omega arith
done_few Release a b = omega arith
done_few Strong a b = omega arith

pub fix_few : (number : ℕ) (about : About) (path : Path) (shape : Shape) (ps a b : List Marked) (p : Marked) (go : Bool) → length (fix_of number about path shape ps a b p go) ≤ 2 + length about.system.cases
fix_few number about path shape ps a b p false =
    let many = length-map (end_sides shape a b) (cover_of number kind.Done about p) in
    omega (arith, many, done_few shape a b)
fix_few number about path shape ps a b p true = omega (arith, go_few number about path shape ps p)

module _ (number : ℕ) (system : CaseSystem) (ps : List Marked) (kids : List (List Marked)) where
  said_few : (s : Statement) (p : Marked) → length (piece_owes number system s ps kids p) ≤ length kids + length system.cases + 2
  said_few (rows lists) p = omega arith
  said_few (here l) p = omega arith
  said_few (elsewhere l) p = omega arith
  said_few ends p = omega (arith, steps_few number (about_of system) p ps (step_fall (about_of system) p))
  said_few never_ends p = omega arith
  said_few (each_of ss) p =
      let many = length-map kids (cover_of number kind.Child (about_of system) p) in
      omega (arith, many)
  said_few (one_of ss) p = omega arith
  said_few (after Every s) p = omega (arith, steps_few number (about_of system) p (first_of kids) (λ c. no_fall))
  said_few (after Any s) p = omega arith
  said_few (along path shape s t) p = omega (arith, fix_few number (about_of system) path shape ps (first_of kids) (second_of kids) p (goes p))
  said_few unsaid p = omega arith

  -- the obligations of a node are no more than its pieces, each time its children, the cases and 2
  pub own_few : (s : Statement) → length (node_owes number system s ps kids) ≤ length ps * (length kids + length system.cases + 2)
  own_few s = few_joined (piece_owes number system s ps kids) (length kids + length system.cases + 2) (said_few s) ps
