-- Where the obligations of a node and of those below it are met, its formula holds at every state of its pieces.
use Rattle.std.proofs.Common.{◌≡◌, ℕ, ◌+◌, inl, inr, List, [], ◌∷◌, ◌++◌, length, Option, Bool, true, false, not, IsTrue, All, arith, refl, sym, subst, ℤ, ◌==◌, ◌∙◌}
use Rattle.std.specs.Prelude.{Contains}
use Rattle.std.specs.List.{flat_map}
use Rattle.tv_linear.specs.Linear.{Linear}
use Rattle.tv_linear.specs.Known.{Known, IsKnownMet, as_given}
use Rattle.tv_program.specs.declared.tree.Relation.{Relation}
use Rattle.tv_program.specs.Trees.{Expression}
use Rattle.tv_program.specs.Meaning.{value_of, compares}
use Rattle.tv_program.specs.Steps.{State}
use Rattle.tv_formula.specs.declared.tree.Path.{Path}
use Rattle.tv_formula.specs.declared.tree.Path.TheVariants.{Every, Any}
use Rattle.tv_formula.specs.declared.tree.Shape.{Shape}
use Rattle.tv_formula.specs.declared.tree.Shape.TheVariants.{Until, Weak, Release, Strong}
use Rattle.tv_formula.specs.Properties.{Property, truth, compare, at, term, negated, all_of, some_of, next, fix, Properties, none, more}
use Rattle.tv_meaning.specs.Meaning.{FixHolds, Holds, AllHold, SomeHolds}
use Rattle.tv_cases.specs.LinearCases.{LinearCase, CaseSteps}
use Rattle.tv_cases.proofs.ContainsLemmas.{Contains-here, Contains-later, Contains-map}
use Rattle.tv_cert.specs.declared.node.Kind.{Kind}
use Rattle.tv_cert.specs.declared.node.Kind.TheVariants as kind
use Rattle.tv_cert.specs.declared.node.Marked.{Marked}
use Rattle.tv_cert.specs.declared.node.Proof.{Proof}
use Rattle.tv_cert.specs.declared.node.Node.{Node, Node', Row_of-Node, end_of-Node, more_of-Node}
use Rattle.tv_cert.specs.Pieces.{place_of, goes, InMarked, InPieces}
use Rattle.tv_cert.specs.Targets.{no_fall, owed_nothing}
use Rattle.tv_cert.specs.Obligations as obligations
use Rattle.tv_cert.specs.Obligations.{About, Obligation, Entry, AllMet, cover_of, steps_of, choice_of, choice_into, step_fall, choice_fall, truth_targets, hold_side, end_sides, go_of, fix_of, paired}
use Rattle.tv_cert.specs.Nodes.{pieces_of, kid_pieces, parts, entries, kid_entries, size, piece_of, own_of}
use Rattle.tv_cert.specs.Fits.{PieceFits, ProofFits, OwnFits, NodeFits, KidsFit}
use Rattle.tv_cert.proofs.StatedLemmas.{entries_are}
use Rattle.tv_sound.proofs.Shown.{AllStepsCovered, HasChoice}
use Rattle.tv_sound.proofs.Entering.{piece_covered}
use Rattle.tv_sound.proofs.Regions.{Placed, lands, onward, term_sound, noterm_sound, weak_every_sound, until_every_sound, until_any_sound, weak_any_sound}
use Rattle.tv_sound.proofs.Offered.{has_cover, has_atom, has_steps, has_choice, atom_meets}
use Rattle.std.proofs.lemmas.List.Elements.{Contains-append_cases}
use Rattle.std.proofs.lemmas.Bool.{eq-eqb, eqb-true}

-- the lists of rows of each comparison show it
pub record TestsShow (about : About) : Type 0 where
  pub shows : (r : Relation) (a b : Expression) (lines : List Linear) (xs : List ℤ) → Contains (about.tests r a b) lines → length xs ≡ about.system.variables → All (IsKnownMet xs) (as_given lines) → IsTrue (compares r (value_of a xs []) (value_of b xs []))

-- each formula holds in the region of its child
abbrev pub KidsSound : About → Properties → List (List Marked) → Type 0
KidsSound about none [] = Unit {0}
KidsSound about none (a ∷ kids) = ⊥
KidsSound about (more f fs) [] = ⊥
KidsSound about (more f fs) (a ∷ kids) = ((s : State) → length s.values ≡ about.system.variables → InPieces a s → Holds (CaseSteps about.system) f s) × KidsSound about fs kids

-- ---- truth values
truth_target : (b : Bool) (lines : List Linear) → Contains (truth_targets b) lines → IsTrue b
truth_target true lines h = refl
truth_target false lines h = absurd (omega arith)

same_place : (here l : ℕ) → IsTrue (here == l) → here ≡ l
same_place here l h = eqb-true here l h

not_same : (here l : ℕ) (b : Bool) → (here == l) ≡ b → IsTrue (not b) → here ≡ l → ⊥
not_same here l true e h k = cc
not_same here l false e h k = let t = eq-eqb here l k in cc

placed : (n : ℕ) (ps : List Marked) (s : State) → length s.values ≡ n → (h : InPieces ps s) → Placed n ps s
placed n ps s wide h = record { piece = h.piece; among = h.among; inside = h.inside; wide = wide }

-- ---- joined regions
some_part : (about : About) (fs : Properties) (kids : List (List Marked)) (s : State) → KidsSound about fs kids → length s.values ≡ about.system.variables → (q : Marked) → Contains (flat_map (λ a. a) kids) q → InMarked q s → SomeHolds (CaseSteps about.system) fs s
some_part about none [] s h wide q c inside = absurd (omega arith)
some_part about none (a ∷ kids) s h wide q c inside = absurd h
some_part about (more f fs) [] s h wide q c inside = absurd h
some_part about (more f fs) (a ∷ kids) s h wide q c inside =
    elim (Contains-append_cases a (flat_map (λ a. a) kids) q c) [
      | inl here ↦ inl (h.0 s wide (record { piece = q; among = here; inside = inside }))
      | inr there ↦ inr (some_part about fs kids s h.1 wide q there inside)
    ]

all_parts : (about : About) (fs : Properties) (kids : List (List Marked)) (s : State) → KidsSound about fs kids → length s.values ≡ about.system.variables → ((a : List Marked) → Contains kids a → InPieces a s) → AllHold (CaseSteps about.system) fs s
all_parts about none kids s h wide each = tt
all_parts about (more f fs) [] s h wide each = absurd h
all_parts about (more f fs) (a ∷ kids) s h wide each = (h.0 s wide (each a (Contains-here a kids)), all_parts about fs kids s h.1 wide (λ b c. each b (Contains-later a b kids c)))

only_kid : (about : About) (f : Property) (kids : List (List Marked)) → KidsSound about (more f none) kids → (s : State) → length s.values ≡ about.system.variables → InPieces (obligations.first_of kids) s → Holds (CaseSteps about.system) f s
only_kid about f [] h = absurd h
only_kid about f (a ∷ kids) h = h.0

second_kid : (about : About) (f g : Property) (kids : List (List Marked)) → KidsSound about (more f (more g none)) kids → (s : State) → length s.values ≡ about.system.variables → InPieces (obligations.second_of kids) s → Holds (CaseSteps about.system) g s
second_kid about f g [] h = absurd h
second_kid about f g (a ∷ []) h = absurd h.1
second_kid about f g (a ∷ b ∷ kids) h = h.1.0

first_kid : (about : About) (f g : Property) (kids : List (List Marked)) → KidsSound about (more f (more g none)) kids → (s : State) → length s.values ≡ about.system.variables → InPieces (obligations.first_of kids) s → Holds (CaseSteps about.system) f s
first_kid about f g [] h = absurd h
first_kid about f g (a ∷ kids) h = h.0

-- ---- a node for a fixpoint
module _ (number : ℕ) (about : About) (m : ℕ) (path : Path) (shape : Shape) (ps a b : List Marked) (proofs : List Proof) (f g : State → Type 0)
    (fits : (p : Marked) → Contains ps p → PieceFits about.system.variables m p)
    (widths : (p : Proof) → Contains proofs p → ProofFits about.system.variables p)
    (met : AllMet (paired (flat_map (λ p. fix_of number about path shape ps a b p (goes p)) ps) proofs))
    (hf : (s : State) → length s.values ≡ about.system.variables → InPieces a s → f s)
    (hg : (s : State) → length s.values ≡ about.system.variables → InPieces b s → g s) where
  here_of : (p : Marked) (o : Obligation) (mark : Bool) → goes p ≡ mark → Contains (fix_of number about path shape ps a b p mark) o → Contains (fix_of number about path shape ps a b p (goes p)) o
  here_of p o mark e h = subst (λ c. Contains (fix_of number about path shape ps a b p c) o) (sym e) h

  done_into : (p : Marked) → Contains ps p → goes p ≡ false → (e : List Marked) → Contains (end_sides shape a b) e → (s : State) → length s.values ≡ about.system.variables → InMarked p s → InPieces e s
  done_into p among end e c s wide inside = piece_covered about.system.variables p e s wide inside (has_cover number about ps (λ p. fix_of number about path shape ps a b p (goes p)) proofs widths met kind.Done p among e (here_of p _ false end (Contains-map (cover_of number kind.Done about p) (end_sides shape a b) e c)))

  hold_into : (p : Marked) → Contains ps p → goes p ≡ true → (s : State) → length s.values ≡ about.system.variables → InMarked p s → InPieces (hold_side shape a b) s
  hold_into p among go s wide inside = piece_covered about.system.variables p (hold_side shape a b) s wide inside (has_cover number about ps (λ p. fix_of number about path shape ps a b p (goes p)) proofs widths met kind.Hold p among (hold_side shape a b) (here_of p _ true go (Contains-here _ (go_of number about path shape ps p))))

  rest_of : (p : Marked) → goes p ≡ true → (o : Obligation) → Contains (go_of number about path shape ps p) o → Contains (fix_of number about path shape ps a b p (goes p)) o
  rest_of p go o h = here_of p o true go (Contains-later _ o (go_of number about path shape ps p) h)

  steps_met : (fall : Marked → LinearCase → Marked → ℕ → Option (List Known)) → ((p : Marked) (o : Obligation) → Contains (steps_of number about p ps (fall p)) o → Contains (go_of number about path shape ps p) o) → (p : Marked) → Contains ps p → goes p ≡ true → AllStepsCovered about.system.variables about.system.cases p ps (fall p)
  steps_met fall within p among go = has_steps number about ps (λ p. fix_of number about path shape ps a b p (goes p)) proofs widths met p among ps (fall p) (λ o h. rest_of p go o (within p o h))

  choice_met : (k : Kind) (stop : Bool) (owed : Marked → LinearCase → List Linear → ℕ → ℕ → Option (List Known)) → ((p : Marked) → Contains (go_of number about path shape ps p) (choice_of number k about p stop (owed p))) → (p : Marked) → Contains ps p → goes p ≡ true → HasChoice about.system.variables about.system.cases p stop (owed p)
  choice_met k stop owed within p among go = has_choice number about ps (λ p. fix_of number about path shape ps a b p (goes p)) proofs widths met k p among stop (owed p) (rest_of p go _ (within p))

module _ (number : ℕ) (about : About) (m : ℕ) (ps a b : List Marked) (proofs : List Proof) (f g : State → Type 0)
    (fits : (p : Marked) → Contains ps p → PieceFits about.system.variables m p)
    (widths : (p : Proof) → Contains proofs p → ProofFits about.system.variables p)
    (hf : (s : State) → length s.values ≡ about.system.variables → InPieces a s → f s)
    (hg : (s : State) → length s.values ≡ about.system.variables → InPieces b s → g s) where
  both : (s : State) → length s.values ≡ about.system.variables → ((e : List Marked) → Contains (a ∷ b ∷ []) e → InPieces e s) → f s × g s
  both s wide each = (hf s wide (each a (Contains-here a (b ∷ []))), hg s wide (each b (Contains-later a b (b ∷ []) (Contains-here b []))))

  pub fix_sound : (path : Path) (shape : Shape) → AllMet (paired (flat_map (λ p. fix_of number about path shape ps a b p (goes p)) ps) proofs) → (s : State) → Placed about.system.variables ps s → FixHolds (CaseSteps about.system) path shape f g s
  fix_sound Every Until met s here =
      until_every_sound about m ps fits f g
      (λ p among go s wide inside. hf s wide (hold_into number about m Every Until ps a b proofs f g fits widths met hf hg p among go s wide inside))
      (λ p among end s wide inside. hg s wide (done_into number about m Every Until ps a b proofs f g fits widths met hf hg p among end b (Contains-here b []) s wide inside))
      (choice_met number about m Every Until ps a b proofs f g fits widths met hf hg kind.Successor false (λ p c draws. owed_nothing) (λ p. Contains-here _ _))
      (steps_met number about m Every Until ps a b proofs f g fits widths met hf hg (λ p. step_fall about p) (λ p o h. Contains-later _ o _ h)) s here
  fix_sound Every Strong met s here =
      until_every_sound about m ps fits g (λ x. f x × g x)
      (λ p among go s wide inside. hg s wide (hold_into number about m Every Strong ps a b proofs f g fits widths met hf hg p among go s wide inside))
      (λ p among end s wide inside. both s wide (λ e c. done_into number about m Every Strong ps a b proofs f g fits widths met hf hg p among end e c s wide inside))
      (choice_met number about m Every Strong ps a b proofs f g fits widths met hf hg kind.Successor false (λ p c draws. owed_nothing) (λ p. Contains-here _ _))
      (steps_met number about m Every Strong ps a b proofs f g fits widths met hf hg (λ p. step_fall about p) (λ p o h. Contains-later _ o _ h)) s here
  fix_sound Every Weak met s here =
      weak_every_sound about m ps fits f g
      (λ p among go s wide inside. hf s wide (hold_into number about m Every Weak ps a b proofs f g fits widths met hf hg p among go s wide inside))
      (λ p among end s wide inside. hg s wide (done_into number about m Every Weak ps a b proofs f g fits widths met hf hg p among end b (Contains-here b []) s wide inside))
      (steps_met number about m Every Weak ps a b proofs f g fits widths met hf hg (λ p c. no_fall) (λ p o h. h)) s here
  fix_sound Every Release met s here =
      weak_every_sound about m ps fits g (λ x. f x × g x)
      (λ p among go s wide inside. hg s wide (hold_into number about m Every Release ps a b proofs f g fits widths met hf hg p among go s wide inside))
      (λ p among end s wide inside. both s wide (λ e c. done_into number about m Every Release ps a b proofs f g fits widths met hf hg p among end e c s wide inside))
      (steps_met number about m Every Release ps a b proofs f g fits widths met hf hg (λ p c. no_fall) (λ p o h. h)) s here
  fix_sound Any Until met s here =
      until_any_sound about m ps fits f g
      (λ p among go s wide inside. hf s wide (hold_into number about m Any Until ps a b proofs f g fits widths met hf hg p among go s wide inside))
      (λ p among end s wide inside. hg s wide (done_into number about m Any Until ps a b proofs f g fits widths met hf hg p among end b (Contains-here b []) s wide inside))
      (choice_met number about m Any Until ps a b proofs f g fits widths met hf hg kind.Choice false (λ p. choice_into about ps (choice_fall about p)) (λ p. Contains-here _ [])) s here
  fix_sound Any Strong met s here =
      until_any_sound about m ps fits g (λ x. f x × g x)
      (λ p among go s wide inside. hg s wide (hold_into number about m Any Strong ps a b proofs f g fits widths met hf hg p among go s wide inside))
      (λ p among end s wide inside. both s wide (λ e c. done_into number about m Any Strong ps a b proofs f g fits widths met hf hg p among end e c s wide inside))
      (choice_met number about m Any Strong ps a b proofs f g fits widths met hf hg kind.Choice false (λ p. choice_into about ps (choice_fall about p)) (λ p. Contains-here _ [])) s here
  fix_sound Any Weak met s here =
      weak_any_sound about m ps fits f g
      (λ p among go s wide inside. hf s wide (hold_into number about m Any Weak ps a b proofs f g fits widths met hf hg p among go s wide inside))
      (λ p among end s wide inside. hg s wide (done_into number about m Any Weak ps a b proofs f g fits widths met hf hg p among end b (Contains-here b []) s wide inside))
      (choice_met number about m Any Weak ps a b proofs f g fits widths met hf hg kind.Choice true (λ p. choice_into about ps (λ c draws. no_fall)) (λ p. Contains-here _ [])) s here
  fix_sound Any Release met s here =
      weak_any_sound about m ps fits g (λ x. f x × g x)
      (λ p among go s wide inside. hg s wide (hold_into number about m Any Release ps a b proofs f g fits widths met hf hg p among go s wide inside))
      (λ p among end s wide inside. both s wide (λ e c. done_into number about m Any Release ps a b proofs f g fits widths met hf hg p among end e c s wide inside))
      (choice_met number about m Any Release ps a b proofs f g fits widths met hf hg kind.Choice true (λ p. choice_into about ps (λ c draws. no_fall)) (λ p. Contains-here _ [])) s here

-- ---- any node, from its children
module _ (number : ℕ) (about : About) (tests : TestsShow about) (m : ℕ) (ps : List Marked) (kids : List (List Marked)) (proofs : List Proof) where
  own_sound : (f : Property) → KidsSound about (parts f) kids → OwnFits about.system.variables m f ps proofs → AllMet (paired (own_of number about f ps kids) proofs) → (s : State) → Placed about.system.variables ps s → Holds (CaseSteps about.system) f s
  own_sound (truth b) below fits met s here =
      let w = atom_meets about.system.variables here.piece (truth_targets b) (has_atom number about ps (piece_of number about (truth b) ps kids) proofs fits.widths met here.piece here.among (truth_targets b) (Contains-here _ [])) s here.wide here.inside in
      truth_target b w.0 w.1
  own_sound (compare r a b) below fits met s here =
      let w = atom_meets about.system.variables here.piece (about.tests r a b) (has_atom number about ps (piece_of number about (compare r a b) ps kids) proofs fits.widths met here.piece here.among (about.tests r a b) (Contains-here _ [])) s here.wide here.inside in
      tests.shows r a b w.0 s.values w.1 here.wide w.2
  own_sound (at l) below fits met s here =
      let targets = truth_targets (place_of here.piece == l) in
      let w = atom_meets about.system.variables here.piece targets (has_atom number about ps (piece_of number about (at l) ps kids) proofs fits.widths met here.piece here.among targets (Contains-here _ [])) s here.wide here.inside in
      here.inside.place ∙ same_place (place_of here.piece) l (truth_target _ w.0 w.1)
  own_sound term below fits met s here =
      term_sound about m ps fits.pieces fits.marks (λ p among. has_steps number about ps (piece_of number about term ps kids) proofs fits.widths met p among ps (step_fall about p) (λ o h. h)) s here
  own_sound (negated (at l)) below fits met s here =
      let targets = truth_targets (not (place_of here.piece == l)) in
      let w = atom_meets about.system.variables here.piece targets (has_atom number about ps (piece_of number about (negated (at l)) ps kids) proofs fits.widths met here.piece here.among targets (Contains-here _ [])) s here.wide here.inside in
      λ e. not_same (place_of here.piece) l (place_of here.piece == l) refl (truth_target _ w.0 w.1) (sym here.inside.place ∙ e)
  own_sound (negated term) below fits met s here =
      noterm_sound about m ps fits.pieces (λ p among. has_choice number about ps (piece_of number about (negated term) ps kids) proofs fits.widths met kind.Choice p among false (choice_into about ps (λ c draws. no_fall)) (Contains-here _ [])) s here
  own_sound (negated (truth b)) below fits met s here = absurd fits.marks
  own_sound (negated (compare r a b)) below fits met s here = absurd fits.marks
  own_sound (negated (negated f)) below fits met s here = absurd fits.marks
  own_sound (negated (all_of fs)) below fits met s here = absurd fits.marks
  own_sound (negated (some_of fs)) below fits met s here = absurd fits.marks
  own_sound (negated (next path f)) below fits met s here = absurd fits.marks
  own_sound (negated (fix path shape f g)) below fits met s here = absurd fits.marks
  own_sound (all_of fs) below fits met s here =
      all_parts about fs kids s below here.wide (λ a c. piece_covered about.system.variables here.piece a s here.wide here.inside (has_cover number about ps (piece_of number about (all_of fs) ps kids) proofs fits.widths met kind.Child here.piece here.among a (Contains-map (cover_of number kind.Child about here.piece) kids a c)))
  own_sound (some_of fs) below fits met s here =
      let r = piece_covered about.system.variables here.piece (flat_map (λ a. a) kids) s here.wide here.inside (has_cover number about ps (piece_of number about (some_of fs) ps kids) proofs fits.widths met kind.Child here.piece here.among (flat_map (λ a. a) kids) (Contains-here _ [])) in
      some_part about fs kids s below here.wide r.piece r.among r.inside
  own_sound (next Every f) below fits met s here =
      λ t step. let w = lands about m ps fits.pieces s here (obligations.first_of kids) (has_steps number about ps (piece_of number about (next Every f) ps kids) proofs fits.widths met here.piece here.among (obligations.first_of kids) (λ c. no_fall) (λ o h. h)) t step in
      only_kid about f kids below t w.wide (record { piece = w.piece; among = w.among; inside = w.inside })
  own_sound (next Any f) below fits met s here =
      let o = onward about m ps fits.pieces s here (obligations.first_of kids) (has_choice number about ps (piece_of number about (next Any f) ps kids) proofs fits.widths met kind.Choice here.piece here.among false (choice_into about (obligations.first_of kids) (λ c draws. no_fall)) (Contains-here _ [])) in
      (o.next, o.step, only_kid about f kids below o.next o.into.wide (record { piece = o.into.piece; among = o.into.among; inside = o.into.inside }))
  own_sound (fix path shape f g) below fits met s here =
      fix_sound number about m ps (obligations.first_of kids) (obligations.second_of kids) proofs (λ t. Holds (CaseSteps about.system) f t) (λ t. Holds (CaseSteps about.system) g t) fits.pieces fits.widths (first_kid about f g kids below) (second_kid about f g kids below) path shape met s here

-- ---- the whole tree
pub AllMet-left : (es fs : List Entry) → AllMet (es ++ fs) → AllMet es
AllMet-left [] fs h = tt
AllMet-left (e ∷ es) fs h = (h.0, AllMet-left es fs h.1)

pub AllMet-right : (es fs : List Entry) → AllMet (es ++ fs) → AllMet fs
AllMet-right [] fs h = h
AllMet-right (e ∷ es) fs h = AllMet-right es fs h.1

mutual
  -- where the entries of a node and of those below it are true, its formula holds at every state of its region
  pub node_sound : (about : About) → TestsShow about → (number : ℕ) (f : Property) (node : Node) → NodeFits about.system.variables f node → AllMet (entries number about f node) → (s : State) → length s.values ≡ about.system.variables → InPieces (pieces_of node) s → Holds (CaseSteps about.system) f s
  node_sound about tests number f (Node' ps m shape kids proofs) fits met s wide h =
      let owed = subst AllMet (entries_are number about f ps m shape kids proofs) met in
      own_sound number about tests m ps (kid_pieces kids) proofs.items f
      (kids_sound about tests (number + 1) (parts f) kids fits.1 (AllMet-left (kid_entries (number + 1) about (parts f) kids) _ owed))
      fits.0 (AllMet-right (kid_entries (number + 1) about (parts f) kids) _ owed) s (placed about.system.variables ps s wide h)

  kids_sound : {k : _} (about : About) → TestsShow about → (number : ℕ) (fs : Properties) (kids : Row_of-Node k) → KidsFit about.system.variables fs kids → AllMet (kid_entries number about fs kids) → KidsSound about fs (kid_pieces kids)
  kids_sound about tests number none end_of-Node fits met = tt
  kids_sound about tests number none (more_of-Node a kids) fits met = absurd fits
  kids_sound about tests number (more f fs) end_of-Node fits met = absurd fits
  kids_sound about tests number (more f fs) (more_of-Node a kids) fits met = (
    λ s wide h. node_sound about tests number f a fits.0 (AllMet-left (entries number about f a) _ met) s wide h,
    kids_sound about tests (number + size a) fs kids fits.1 (AllMet-right (entries number about f a) _ met),
  )
