-- A node that has the shape fits its formula.
use Rattle.std.proofs.Common.{◌≡◌, ℕ, ◌+◌, ◌≤◌, Bool, true, false, List, [], ◌∷◌, ◌++◌, length, map, All, arith, refl, ap, ◌∙◌, subst, cond}
use Rattle.std.specs.List.{AllZip, AllByRecursion, flat_map}
use Rattle.std.proofs.lemmas.List.Elements.{All-from_recursion, All-contains, All-weaker}
use Rattle.tv_formula.specs.declared.tree.Path.{Path}
use Rattle.tv_formula.specs.declared.tree.Path.TheVariants.{Every, Any}
use Rattle.tv_formula.specs.declared.tree.Shape.{Shape}
use Rattle.tv_formula.specs.declared.tree.Shape.TheVariants.{Until, Weak, Release, Strong}
use Rattle.tv_formula.specs.Properties.{Property, truth, compare, at, term, negated, all_of, some_of, next, fix, Properties, none, more}
use Rattle.tv_linear.specs.Linear.{Linear, columns}
use Rattle.tv_linear.specs.declared.choice.ChoiceTree.{ChoiceTree, Split', Empty, NoStep, Take}
use Rattle.tv_cases.specs.LinearCases.{LinearCase}
use Rattle.tv_cert.specs.declared.node.Kind.{Kind}
use Rattle.tv_cert.specs.declared.node.Marked.{Marked}
use Rattle.tv_cert.specs.declared.node.Proof.{Proof}
use Rattle.tv_cert.specs.declared.node.Proof.TheVariants.{Covered, Chosen}
use Rattle.tv_cert.specs.declared.node.Node.{Node, Node', Row_of-Node, end_of-Node, more_of-Node}
use Rattle.tv_cert.specs.Pieces.{rows_of, ranks_of, goes}
use Rattle.tv_cert.specs.Choices.{ChoiceFits}
use Rattle.tv_cert.specs.Obligations.{About, Obligation, Owed, a_cover, a_choice, a_point, cover_of, step_of, end_sides, go_of, fix_of, first_of, second_of}
use Rattle.tv_cert.specs.Nodes.{parts, kid_pieces, piece_of, own_of}
use Rattle.tv_cert.specs.Fits.{PieceFits, ProofFits, MarksFit, OwnFits, NodeFits, KidsFit}
use Rattle.tv_cert.specs.Statements.{stated}
use Rattle.tv_cert.specs.Shapes.{PieceShape, ChoiceShape, ProofShape, OwnShape, KidsShape, HasShape, HaveShapes, may_be_done, IsSaid}
use Rattle.tv_cert.proofs.StatedLemmas.{parts-stated}

-- ---- choices are over the variables

abbrev IsOver : ℕ → Owed → Type 0
IsOver n (a_cover k known owed) = Unit {0}
IsOver n (a_choice k cases l stop owed known) = k ≡ n
IsOver n (a_point xs rows) = Unit {0}

abbrev AllOver : ℕ → List Obligation → Type 0
AllOver n os = AllByRecursion (λ o. IsOver n o.owed) os

joined_over : (n : ℕ) (os us : List Obligation) → AllOver n os → AllOver n us → AllOver n (os ++ us)
joined_over n [] us a b = b
joined_over n (o ∷ os) us a b = (a.0, joined_over n os us a.1 b)

steps_over : (number : ℕ) (about : About) (p : Marked) (ps : List Marked) (fall : LinearCase → _) (cs : List LinearCase) → AllOver about.system.variables (map (step_of number about p ps fall) cs)
steps_over number about p ps fall [] = tt
steps_over number about p ps fall (c ∷ cs) = (tt, steps_over number about p ps fall cs)

covers_over : (number : ℕ) (k : Kind) (about : About) (p : Marked) (kids : List (List Marked)) → AllOver about.system.variables (map (cover_of number k about p) kids)
covers_over number k about p [] = tt
covers_over number k about p (a ∷ kids) = (tt, covers_over number k about p kids)

go_over : (number : ℕ) (about : About) (path : Path) (shape : Shape) (ps : List Marked) (p : Marked) → AllOver about.system.variables (go_of number about path shape ps p)
go_over number about Every Until ps p = (refl, steps_over number about p ps _ _)
go_over number about Every Strong ps p = (refl, steps_over number about p ps _ _)
go_over number about Every Weak ps p = steps_over number about p ps _ _
go_over number about Every Release ps p = steps_over number about p ps _ _
go_over number about Any Until ps p = (refl, tt)
go_over number about Any Strong ps p = (refl, tt)
go_over number about Any Weak ps p = (refl, tt)
go_over number about Any Release ps p = (refl, tt)

fix_over : (number : ℕ) (about : About) (path : Path) (shape : Shape) (ps a b : List Marked) (p : Marked) (go : Bool) → AllOver about.system.variables (fix_of number about path shape ps a b p go)
fix_over number about path shape ps a b p false = covers_over number _ about p (end_sides shape a b)
fix_over number about path shape ps a b p true = (tt, go_over number about path shape ps p)

piece_over : (number : ℕ) (about : About) (f : Property) (ps : List Marked) (kids : List (List Marked)) (p : Marked) → AllOver about.system.variables (piece_of number about f ps kids p)
piece_over number about (truth b) ps kids p = (tt, tt)
piece_over number about (compare r a b) ps kids p = (tt, tt)
piece_over number about (at l) ps kids p = (tt, tt)
piece_over number about term ps kids p = steps_over number about p ps _ _
piece_over number about (negated (truth b)) ps kids p = tt
piece_over number about (negated (compare r a b)) ps kids p = tt
piece_over number about (negated (at l)) ps kids p = (tt, tt)
piece_over number about (negated term) ps kids p = (refl, tt)
piece_over number about (negated (negated f)) ps kids p = tt
piece_over number about (negated (all_of fs)) ps kids p = tt
piece_over number about (negated (some_of fs)) ps kids p = tt
piece_over number about (negated (next path f)) ps kids p = tt
piece_over number about (negated (fix path shape f g)) ps kids p = tt
piece_over number about (all_of fs) ps kids p = covers_over number _ about p kids
piece_over number about (some_of fs) ps kids p = (tt, tt)
piece_over number about (next Every f) ps kids p = steps_over number about p (first_of kids) _ _
piece_over number about (next Any f) ps kids p = (refl, tt)
piece_over number about (fix path shape f g) ps kids p = fix_over number about path shape ps (first_of kids) (second_of kids) p (goes p)

flat_over : (n : ℕ) (f : Marked → List Obligation) → ((p : Marked) → AllOver n (f p)) → (ps : List Marked) → AllOver n (flat_map f ps)
flat_over n f h [] = tt
flat_over n f h (p ∷ ps) = joined_over n (f p) (flat_map f ps) (h p) (flat_over n f h ps)

-- ---- proofs

choice_fits : (n : ℕ) (cases : List LinearCase) (l : ℕ) (stop : Bool) (owed : LinearCase → List Linear → ℕ → ℕ → _) (known : ℕ) (tree : ChoiceTree) → ChoiceShape n cases l stop owed known tree → ChoiceFits n tree
choice_fits n cases l stop owed known (Split' r p a q b) h =
    (let wide = h.0 in omega (arith, wide), choice_fits n cases l stop owed (known + 1) a h.1, choice_fits n cases l stop owed (known + 1) b h.2)
choice_fits n cases l stop owed known (Empty ms) h = tt
choice_fits n cases l stop owed known (NoStep covers) h = tt
choice_fits n cases l stop owed known (Take k target j draws lists) h = tt

proof_fits : (n : ℕ) (o : Owed) (p : Proof) → IsOver n o → ProofShape o p → ProofFits n p
proof_fits n o (Covered tree) over h = tt
proof_fits n (a_cover k known owed) (Chosen tree) over h = absurd h
proof_fits n (a_choice k cases l stop owed known) (Chosen tree) over h = subst (λ m. ChoiceFits m tree) over (choice_fits k cases l stop owed (length known) tree h.0)
proof_fits n (a_point xs rows) (Chosen tree) over h = absurd h

all_fit : (n : ℕ) (os : List Obligation) (proofs : List Proof) → AllOver n os → AllZip (λ o p. ProofShape o.owed p) os proofs → AllByRecursion (ProofFits n) proofs
all_fit n [] [] over h = tt
all_fit n [] (p ∷ proofs) over h = absurd h
all_fit n (o ∷ os) [] over h = absurd h
all_fit n (o ∷ os) (p ∷ proofs) over h = (proof_fits n o.owed p over.0 h.0, all_fit n os proofs over.1 h.1)

-- ---- nodes

at_most : (n : ℕ) (rows : List Linear) → All (λ r. columns r ≡ n) rows → All (λ r. columns r ≤ n) rows
at_most n rows h = All-weaker (λ r. columns r ≡ n) (λ r. columns r ≤ n) (λ r wide. omega (arith, wide)) rows h

piece_fits : (about : About) (m : ℕ) (ends : Bool) (p : Marked) → PieceShape about.system m ends p → PieceFits about.system.variables m p
piece_fits about m ends p h = record {
  rows = at_most about.system.variables (rows_of p) h.rows;
  ranks = at_most about.system.variables (ranks_of p) h.ranks;
  many = λ go. h.many ∙ ap (λ b. cond b m 0) go;
}

marks_fit : (about : About) (f : Property) (m : ℕ) (ps : List Marked) → IsSaid (stated about.tests f) → All (PieceShape about.system m (may_be_done (stated about.tests f))) ps → MarksFit f ps
marks_fit about (truth b) m ps normal h = tt
marks_fit about (compare r a b) m ps normal h = tt
marks_fit about (at l) m ps normal h = tt
marks_fit about term m ps normal h = λ p among. (All-contains (PieceShape about.system m false) ps p h among).marks refl
marks_fit about (negated (truth b)) m ps normal h = absurd normal
marks_fit about (negated (compare r a b)) m ps normal h = absurd normal
marks_fit about (negated (at l)) m ps normal h = tt
marks_fit about (negated term) m ps normal h = tt
marks_fit about (negated (negated f)) m ps normal h = absurd normal
marks_fit about (negated (all_of fs)) m ps normal h = absurd normal
marks_fit about (negated (some_of fs)) m ps normal h = absurd normal
marks_fit about (negated (next path f)) m ps normal h = absurd normal
marks_fit about (negated (fix path shape f g)) m ps normal h = absurd normal
marks_fit about (all_of fs) m ps normal h = tt
marks_fit about (some_of fs) m ps normal h = tt
marks_fit about (next path f) m ps normal h = tt
marks_fit about (fix path shape f g) m ps normal h = tt

own_fits : (about : About) (f : Property) (m : ℕ) (ps : List Marked) (kids : List (List Marked)) (proofs : List Proof) → OwnShape about.system (stated about.tests f) m ps kids proofs → OwnFits about.system.variables m f ps proofs
own_fits about f m ps kids proofs h = record {
  pieces = λ p among. piece_fits about m (may_be_done (stated about.tests f)) p (All-contains (PieceShape about.system m (may_be_done (stated about.tests f))) ps p h.each among);
  widths = λ p among. All-contains (ProofFits about.system.variables) proofs p (All-from_recursion (ProofFits about.system.variables) proofs (all_fit about.system.variables (own_of 0 about f ps kids) proofs (flat_over about.system.variables (piece_of 0 about f ps kids) (piece_over 0 about f ps kids) ps) h.offered)) among;
  marks = marks_fit about f m ps h.said h.each;
}

mutual
  pub shape_fits : (about : About) (f : Property) (node : Node) → HasShape about f node → NodeFits about.system.variables f node
  shape_fits about f (Node' ps m shape kids proofs) h = (own_fits about f m ps (kid_pieces kids) proofs.items h.0, kids_fit about (parts f) kids (subst (λ ss. KidsShape about.system ss kids) (parts-stated about f) h.1))

  kids_fit : {k : _} (about : About) (fs : Properties) (kids : Row_of-Node k) → HaveShapes about fs kids → KidsFit about.system.variables fs kids
  kids_fit about none end_of-Node h = tt
  kids_fit about none (more_of-Node a kids) h = absurd h
  kids_fit about (more f fs) end_of-Node h = absurd h
  kids_fit about (more f fs) (more_of-Node a kids) h = (shape_fits about f a h.0, kids_fit about fs kids h.1)
