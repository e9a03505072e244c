-- What the grammar of a node wants is what is owed there.
use Rattle.std.proofs.Common.{◌≡◌, ℕ, ◌+◌, Bool, true, false, List, [], ◌∷◌, ◌++◌, length, map, All, Option, Some, None, refl, ap, ◌∙◌, length-append}
use Rattle.std.specs.Prelude.{◌==◌, not}
use Rattle.std.specs.List.{flat_map}
use Rattle.std.proofs.lemmas.List.{map-append}
use Rattle.std.proofs.lemmas.List.Elements.{All-head, All-tail}
use Rattle.tv_formula.specs.declared.tree.Path.{Path}
use Rattle.tv_formula.specs.declared.tree.Path.TheVariants.{Every, Any}
use Rattle.tv_formula.specs.declared.tree.Shape.{Shape}
use Rattle.tv_formula.specs.declared.tree.Shape.TheVariants.{Until, Weak, Release, Strong}
use Rattle.tv_linear.specs.Linear.{Linear}
use Rattle.tv_linear.specs.Known.{Known, given, as_given}
use Rattle.tv_cases.specs.LinearCases.{LinearCase, CaseSystem, leaving}
use Rattle.tv_cert.specs.declared.node.Marked.{Marked}
use Rattle.tv_cert.specs.declared.node.Kind.{Kind}
use Rattle.tv_cert.specs.declared.node.Kind.TheVariants as kind
use Rattle.tv_cert.specs.Pieces.{place_of, rows_of, goes}
use Rattle.tv_cert.specs.AboutSystem.{about_of}
use Rattle.tv_cert.specs.Targets.{owed_into, owed_nothing, no_fall}
use Rattle.tv_cert.specs.Choices.{drawn_change}
use Rattle.tv_cert.specs.Obligations.{Obligation, case_change, step_fall, choice_fall, atom_of, cover_of, step_of, steps_of, choice_of, choice_into, truth_targets, hold_side, end_sides, go_of, fix_of, first_of, second_of}
use Rattle.tv_cert.specs.Nodes.{piece_owes, node_owes}
use Rattle.tv_cert.specs.Shapes.{owed_count, PieceShape, may_be_done}
use Rattle.tv_cert.specs.Statements.{Statement, rows, here, elsewhere, ends, never_ends, each_of, one_of, after, along, unsaid}
use Rattle.tv_cert_reader.specs.Demands.{outline, outlines, into_counts, list_counts, truth_counts, Demand, a_cover, a_choice, demand_of, cover_demand, into_demand, step_demand, step_demands, choice_demand, case_counts, go_demands, fix_demands, first_outlines, second_outlines, demands_at, demands}
use Rattle.tv_cert_reader.proofs.CompleteDemands.{into_plain, into_falls, lists_counted, truth_counted}
use Rattle.tv_linear.proofs.KnownLemmas.{length-given}

-- ---- lists

mapped_same : {A B C D : Type 0} (f : A → B) (g : B → C) (v : A → D) (h : D → C) → ((x : A) → g (f x) ≡ h (v x)) → (xs : List A) → map g (map f xs) ≡ map h (map v xs)
mapped_same f g v h same [] = refl
mapped_same f g v h same (x ∷ xs) = λ i. same x i ∷ mapped_same f g v h same xs i

stepped_same : {A B C : Type 0} (f : A → B) (g : B → C) (h : A → C) → ((x : A) → g (f x) ≡ h x) → (xs : List A) → map g (map f xs) ≡ map h xs
stepped_same f g h same [] = refl
stepped_same f g h same (x ∷ xs) = λ i. same x i ∷ stepped_same f g h same xs i

flat_same : {A B C D : Type 0} (P : A → Type 0) (f : A → List B) (g : B → C) (v : A → D) (h : D → List C) → ((x : A) → P x → map g (f x) ≡ h (v x)) → (xs : List A) → All P xs → map g (flat_map f xs) ≡ flat_map h (map v xs)
flat_same P f g v h same [] all = refl
flat_same P f g v h same (x ∷ xs) all = map-append g (f x) (flat_map f xs) ∙ (λ i. same x (All-head P x xs all) i ++ flat_same P f g v h same xs (All-tail P x xs all) i)

joined_outlines : (kids : List (List Marked)) → outlines (flat_map (λ a. a) kids) ≡ flat_map (λ a. a) (map outlines kids)
joined_outlines [] = refl
joined_outlines (a ∷ kids) = map-append outline a (flat_map (λ a. a) kids) ∙ ap (λ os. outlines a ++ os) (joined_outlines kids)

first_same : (kids : List (List Marked)) → outlines (first_of kids) ≡ first_outlines (map outlines kids)
first_same [] = refl
first_same (a ∷ kids) = refl

second_same : (kids : List (List Marked)) → outlines (second_of kids) ≡ second_outlines (map outlines kids)
second_same [] = refl
second_same (a ∷ kids) = first_same kids

hold_same : (shape : Shape) (a b : List Marked) → outlines (hold_side shape a b) ≡ hold_side shape (outlines a) (outlines b)
hold_same Until a b = refl
hold_same Weak a b = refl
hold_same Release a b = refl
hold_same Strong a b = refl

ends_same : (shape : Shape) (a b : List Marked) → map outlines (end_sides shape a b) ≡ end_sides shape (outlines a) (outlines b)
ends_same Until a b = refl
ends_same Weak a b = refl
ends_same Release a b = refl
ends_same Strong a b = refl

-- ---- what one piece asks for

abbrev wanted : Obligation → Demand
wanted o = demand_of o.owed

module _ (number : ℕ) (system : CaseSystem) (p : Marked) where
  atom_wanted : (lists : List (List Linear)) → wanted (atom_of number (about_of system) p lists) ≡ cover_demand system (outline p) (list_counts (map length lists))
  atom_wanted lists = λ i. a_cover system.variables (length-given (rows_of p) i) (λ k j. lists_counted lists k j i)

  truth_wanted : (b : Bool) → wanted (atom_of number (about_of system) p (truth_targets b)) ≡ cover_demand system (outline p) (truth_counts b)
  truth_wanted b = atom_wanted (truth_targets b) ∙ ap (cover_demand system (outline p)) (truth_counted b)

  cover_wanted : (k : Kind) (into : List Marked) → wanted (cover_of number k (about_of system) p into) ≡ into_demand system (outline p) (outlines into)
  cover_wanted k into = λ i. a_cover system.variables (length-given (rows_of p) i) (into_plain into (place_of p) given i)

  covers_wanted : (k : Kind) (kids : List (List Marked)) → map wanted (map (cover_of number k (about_of system) p) kids) ≡ map (into_demand system (outline p)) (map outlines kids)
  covers_wanted k kids = mapped_same (cover_of number k (about_of system) p) wanted outlines (into_demand system (outline p)) (cover_wanted k) kids

  known_long : (c : LinearCase) → length (as_given (rows_of p) ++ as_given c.guards) ≡ length (rows_of p) + length c.guards
  known_long c = length-append (as_given (rows_of p)) (as_given c.guards) ∙ (λ i. length-given (rows_of p) i + length-given c.guards i)

  steps_wanted : (falls : Option ℕ) (into : List Marked) (fall : LinearCase → Marked → ℕ → Option (List Known)) → ((c : LinearCase) → owed_count (owed_into into c.to (case_change system.variables c) (fall c)) ≡ into_counts falls (outlines into) c.to) → map wanted (steps_of number (about_of system) p into fall) ≡ step_demands system (outline p) falls (outlines into)
  steps_wanted falls into fall same =
      stepped_same (step_of number (about_of system) p into fall) wanted (step_demand system (outline p) falls (outlines into)) (λ c i. a_cover (system.variables + c.draws) (known_long c i) (same c i)) (leaving (place_of p) system.cases)

  plain_steps : (into : List Marked) → map wanted (steps_of number (about_of system) p into (λ c. no_fall)) ≡ step_demands system (outline p) None (outlines into)
  plain_steps into = steps_wanted None into (λ c. no_fall) (λ c. into_plain into c.to (case_change system.variables c))

  choice_wanted : (k : Kind) (stop : Bool) (owed : LinearCase → List Linear → ℕ → ℕ → Option (List Known)) (counts : LinearCase → ℕ → ℕ → Option ℕ) → ((c : LinearCase) → owed_count (owed c []) ≡ counts c) → wanted (choice_of number k (about_of system) p stop owed) ≡ choice_demand system (outline p) stop counts
  choice_wanted k stop owed counts same = λ i. a_choice system.variables system.cases (place_of p) stop (length-given (rows_of p) i) (λ c. same c i)

  plain_choice : (k : Kind) (stop : Bool) (into : List Marked) → wanted (choice_of number k (about_of system) p stop (choice_into (about_of system) into (λ c draws. no_fall))) ≡ choice_demand system (outline p) stop (case_counts None (outlines into))
  plain_choice k stop into = choice_wanted k stop (choice_into (about_of system) into (λ c draws. no_fall)) (case_counts None (outlines into)) (λ c. into_plain into c.to (drawn_change system.variables c []))

  successor_wanted : wanted (choice_of number kind.Successor (about_of system) p false (λ c draws. owed_nothing)) ≡ choice_demand system (outline p) false (λ c. truth_counts true)
  successor_wanted = choice_wanted kind.Successor false (λ c draws. owed_nothing) (λ c. truth_counts true) (λ c i k j. lists_counted ([] ∷ []) k j i)

  -- where falls are owed, the piece goes on
  module _ (m : ℕ) (done : Bool) (h : PieceShape system m done p) (ps : List Marked) (all : All (PieceShape system m done) ps) where
    falling_steps : goes p ≡ true → map wanted (steps_of number (about_of system) p ps (step_fall (about_of system) p)) ≡ step_demands system (outline p) (Some m) (outlines ps)
    falling_steps going = steps_wanted (Some m) ps (step_fall (about_of system) p) (λ c. into_falls system m done p h going ps all c.to (case_change system.variables c))

    falling_choice : (k : Kind) (stop : Bool) → goes p ≡ true → wanted (choice_of number k (about_of system) p stop (choice_into (about_of system) ps (choice_fall (about_of system) p))) ≡ choice_demand system (outline p) stop (case_counts (Some m) (outlines ps))
    falling_choice k stop going = choice_wanted k stop (choice_into (about_of system) ps (choice_fall (about_of system) p)) (case_counts (Some m) (outlines ps)) (λ c. into_falls system m done p h going ps all c.to (drawn_change system.variables c []))

    go_wanted : (path : Path) (shape : Shape) → goes p ≡ true → map wanted (go_of number (about_of system) path shape ps p) ≡ go_demands system path shape m (outlines ps) (outline p)
    go_wanted Every Until going = λ i. successor_wanted i ∷ falling_steps going i
    go_wanted Every Strong going = λ i. successor_wanted i ∷ falling_steps going i
    go_wanted Every Weak going = plain_steps ps
    go_wanted Every Release going = plain_steps ps
    go_wanted Any Until going = λ i. falling_choice kind.Choice false going i ∷ []
    go_wanted Any Strong going = λ i. falling_choice kind.Choice false going i ∷ []
    go_wanted Any Weak going = λ i. plain_choice kind.Choice true ps i ∷ []
    go_wanted Any Release going = λ i. plain_choice kind.Choice true ps i ∷ []

    fix_wanted : (path : Path) (shape : Shape) (a b : List Marked) (go : Bool) → goes p ≡ go → map wanted (fix_of number (about_of system) path shape ps a b p go) ≡ fix_demands system path shape m (outlines ps) (outlines a) (outlines b) (outline p) go
    fix_wanted path shape a b false is = covers_wanted kind.Done (end_sides shape a b) ∙ ap (map (into_demand system (outline p))) (ends_same shape a b)
    fix_wanted path shape a b true is = λ i. (cover_wanted kind.Hold (hold_side shape a b) ∙ ap (into_demand system (outline p)) (hold_same shape a b)) i ∷ go_wanted path shape is i

module _ (number : ℕ) (system : CaseSystem) (m : ℕ) (ps : List Marked) (kids : List (List Marked)) where
  wanted_at : (s : Statement) → All (PieceShape system m (may_be_done s)) ps → (p : Marked) → PieceShape system m (may_be_done s) p → map wanted (piece_owes number system s ps kids p) ≡ demands_at system s m (outlines ps) (map outlines kids) (outline p)
  wanted_at (rows lists) all p h = λ i. atom_wanted number system p lists i ∷ []
  wanted_at (here l) all p h = λ i. truth_wanted number system p (place_of p == l) i ∷ []
  wanted_at (elsewhere l) all p h = λ i. truth_wanted number system p (not (place_of p == l)) i ∷ []
  wanted_at ends all p h = falling_steps number system p m false h ps all (h.marks refl)
  wanted_at never_ends all p h = λ i. plain_choice number system p kind.Choice false ps i ∷ []
  wanted_at (each_of ss) all p h = covers_wanted number system p kind.Child kids
  wanted_at (one_of ss) all p h = λ i. (cover_wanted number system p kind.Child (flat_map (λ a. a) kids) ∙ ap (into_demand system (outline p)) (joined_outlines kids)) i ∷ []
  wanted_at (after Every s) all p h = plain_steps number system p (first_of kids) ∙ ap (step_demands system (outline p) None) (first_same kids)
  wanted_at (after Any s) all p h = λ i. (plain_choice number system p kind.Choice false (first_of kids) ∙ ap (λ os. choice_demand system (outline p) false (case_counts None os)) (first_same kids)) i ∷ []
  wanted_at (along path shape s t) all p h =
      fix_wanted number system p m true h ps all path shape (first_of kids) (second_of kids) (goes p) refl
      ∙ (λ i. fix_demands system path shape m (outlines ps) (first_same kids i) (second_same kids i) (outline p) (goes p))
  wanted_at unsaid all p h = refl

-- what is owed at a node is what its grammar wants
pub demands_same : (number : ℕ) (system : CaseSystem) (s : Statement) (m : ℕ) (ps : List Marked) (kids : List (List Marked)) → All (PieceShape system m (may_be_done s)) ps → map (λ o. demand_of o.owed) (node_owes number system s ps kids) ≡ demands system s m (outlines ps) (map outlines kids)
demands_same number system s m ps kids all =
    flat_same (PieceShape system m (may_be_done s)) (piece_owes number system s ps kids) wanted outline (demands_at system s m (outlines ps) (map outlines kids)) (wanted_at number system m ps kids s all) ps all
