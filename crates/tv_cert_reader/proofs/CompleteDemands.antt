-- What is owed at a node asks for the proofs that its grammar wants.
use Rattle.std.proofs.Common.{◌≡◌, ℕ, zero, suc, ◌+◌, ◌≤◌, Bool, true, false, List, [], ◌∷◌, ◌++◌, length, map, All, Option, Some, None, refl, sym, ap, ◌∙◌, arith, length-append, cond, slice_get}
use Rattle.std.specs.Prelude.{◌==◌, not, nat_lt}
use Rattle.std.specs.List.{flat_map}
use Rattle.std.specs.Option.{option_map}
use Rattle.std.proofs.lemmas.Bool.Decides.{nat_tests}
use Rattle.std.proofs.lemmas.List.{append-nil, length-map}
use Rattle.std.proofs.lemmas.List.Elements.{All-nil, All-cons, All-append, All-contains}
use Rattle.std.proofs.lemmas.Option.{slice_get-map}
use Rattle.tv_formula.specs.declared.tree.Path.{Path}
use Rattle.tv_formula.specs.declared.tree.Path.TheVariants.{Every, Any}
use Rattle.tv_formula.specs.declared.tree.Shape.{Shape}
use Rattle.tv_formula.specs.declared.tree.Shape.TheVariants.{Until, Weak, Release, Strong}
use Rattle.tv_linear.specs.Linear.{Linear}
use Rattle.tv_linear.specs.Known.{Known, given, as_given}
use Rattle.tv_linear.specs.Falls.{fall_rows}
use Rattle.tv_cases.specs.LinearCases.{LinearCase, CaseSystem, leaving}
use Rattle.tv_cert.specs.declared.node.Marked.{Marked}
use Rattle.tv_cert.specs.declared.node.Kind.{Kind}
use Rattle.tv_cert.specs.declared.node.Kind.TheVariants as kind
use Rattle.tv_cert.specs.Pieces.{place_of, rows_of, ranks_of, goes, pieces_at}
use Rattle.tv_cert.specs.AboutSystem.{about_of}
use Rattle.tv_cert.specs.Targets.{changed_lists, owed_into, owed_nothing, target_rows, no_fall, fall_from}
use Rattle.tv_cert.specs.Choices.{drawn_change}
use Rattle.tv_cert.specs.Obligations.{Obligation, step_fall, choice_fall, atom_of, cover_of, step_of, steps_of, choice_of, choice_into, truth_targets, hold_side, end_sides, go_of, fix_of, first_of, second_of}
use Rattle.tv_cert.specs.Nodes.{piece_owes, node_owes}
use Rattle.tv_cert.specs.Shapes.{owed_count, PieceShape}
use Rattle.tv_cert.specs.Statements.{Statement, rows, here, elsewhere, ends, never_ends, each_of, one_of, after, along, unsaid}
use Rattle.tv_cert.proofs.PieceLemmas.{piece_got}
use Rattle.tv_cert.proofs.TargetLemmas.{count_same}
use Rattle.tv_cert_reader.proofs.FallLemmas.{fall_long, fall_some}
use Rattle.tv_cert_reader.specs.Demands.{outline, outlines, outlines_at, fall_count, entered_count, into_counts, list_counts, truth_counts, IsDrawFree}
use Rattle.tv_linear.proofs.KnownLemmas.{length-given}

-- ---- how many rows a choice owes does not depend on the terms of its draws

abbrev Free : Obligation → Type 0
Free o = IsDrawFree o.owed

all_flat : {A B : Type 0} (P : B → Type 0) (f : A → List B) → ((x : A) → All P (f x)) → (xs : List A) → All P (flat_map f xs)
all_flat P f h [] = All-nil P
all_flat P f h (x ∷ xs) = All-append P (f x) (flat_map f xs) (h x) (all_flat P f h xs)

all_mapped : {A B : Type 0} (P : B → Type 0) (f : A → B) → ((x : A) → P (f x)) → (xs : List A) → All P (map f xs)
all_mapped P f h [] = All-nil P
all_mapped P f h (x ∷ xs) = All-cons P (f x) (map f xs) (h x) (all_mapped P f h xs)

one_free : (o : Obligation) → Free o → All Free (o ∷ [])
one_free o h = All-cons Free o [] h (All-nil Free)

module _ (number : ℕ) (system : CaseSystem) (ps : List Marked) (p : Marked) where
  steps_free : (into : List Marked) (fall : LinearCase → Marked → ℕ → Option (List Known)) → All Free (steps_of number (about_of system) p into fall)
  steps_free into fall = all_mapped Free (step_of number (about_of system) p into fall) (λ c. tt) (leaving (place_of p) system.cases)

  plain_free : (k : Kind) (stop : Bool) (into : List Marked) → Free (choice_of number k (about_of system) p stop (choice_into (about_of system) into (λ c draws. no_fall)))
  plain_free k stop into c draws = λ i n j. count_same (drawn_change system.variables c draws) (drawn_change system.variables c []) false p into c.to n j i

  fall_free : (k : Kind) (stop : Bool) (into : List Marked) → Free (choice_of number k (about_of system) p stop (choice_into (about_of system) into (choice_fall (about_of system) p)))
  fall_free k stop into c draws = λ i n j. count_same (drawn_change system.variables c draws) (drawn_change system.variables c []) true p into c.to n j i

  successor_free : Free (choice_of number kind.Successor (about_of system) p false (λ c draws. owed_nothing))
  successor_free c draws = refl

  go_free : (path : Path) (shape : Shape) → All Free (go_of number (about_of system) path shape ps p)
  go_free Every Until = All-cons Free (choice_of number kind.Successor (about_of system) p false (λ c draws. owed_nothing)) (steps_of number (about_of system) p ps (step_fall (about_of system) p)) successor_free (steps_free ps (step_fall (about_of system) p))
  go_free Every Strong = All-cons Free (choice_of number kind.Successor (about_of system) p false (λ c draws. owed_nothing)) (steps_of number (about_of system) p ps (step_fall (about_of system) p)) successor_free (steps_free ps (step_fall (about_of system) p))
  go_free Every Weak = steps_free ps (λ c. no_fall)
  go_free Every Release = steps_free ps (λ c. no_fall)
  go_free Any Until = one_free (choice_of number kind.Choice (about_of system) p false (choice_into (about_of system) ps (choice_fall (about_of system) p))) (fall_free kind.Choice false ps)
  go_free Any Strong = one_free (choice_of number kind.Choice (about_of system) p false (choice_into (about_of system) ps (choice_fall (about_of system) p))) (fall_free kind.Choice false ps)
  go_free Any Weak = one_free (choice_of number kind.Choice (about_of system) p true (choice_into (about_of system) ps (λ c draws. no_fall))) (plain_free kind.Choice true ps)
  go_free Any Release = one_free (choice_of number kind.Choice (about_of system) p true (choice_into (about_of system) ps (λ c draws. no_fall))) (plain_free kind.Choice true ps)

  fix_free : (path : Path) (shape : Shape) (a b : List Marked) (go : Bool) → All Free (fix_of number (about_of system) path shape ps a b p go)
  fix_free path shape a b false = all_mapped Free (cover_of number kind.Done (about_of system) p) (λ into. tt) (end_sides shape a b)
  fix_free path shape a b true = All-cons Free (cover_of number kind.Hold (about_of system) p (hold_side shape a b)) (go_of number (about_of system) path shape ps p) tt (go_free path shape)

  free_at : (s : Statement) (kids : List (List Marked)) → All Free (piece_owes number system s ps kids p)
  free_at (rows lists) kids = one_free (atom_of number (about_of system) p lists) tt
  free_at (here l) kids = one_free (atom_of number (about_of system) p (truth_targets (place_of p == l))) tt
  free_at (elsewhere l) kids = one_free (atom_of number (about_of system) p (truth_targets (not (place_of p == l)))) tt
  free_at ends kids = steps_free ps (step_fall (about_of system) p)
  free_at never_ends kids = one_free (choice_of number kind.Choice (about_of system) p false (choice_into (about_of system) ps (λ c draws. no_fall))) (plain_free kind.Choice false ps)
  free_at (each_of ss) kids = all_mapped Free (cover_of number kind.Child (about_of system) p) (λ into. tt) kids
  free_at (one_of ss) kids = one_free (cover_of number kind.Child (about_of system) p (flat_map (λ a. a) kids)) tt
  free_at (after Every s) kids = steps_free (first_of kids) (λ c. no_fall)
  free_at (after Any s) kids = one_free (choice_of number kind.Choice (about_of system) p false (choice_into (about_of system) (first_of kids) (λ c draws. no_fall))) (plain_free kind.Choice false (first_of kids))
  free_at (along path shape s t) kids = fix_free path shape (first_of kids) (second_of kids) (goes p)
  free_at unsaid kids = All-nil Free

-- so are all obligations of a node
pub draw_free : (number : ℕ) (system : CaseSystem) (s : Statement) (ps : List Marked) (kids : List (List Marked)) → All (λ o. IsDrawFree o.owed) (node_owes number system s ps kids)
draw_free number system s ps kids = all_flat Free (piece_owes number system s ps kids) (λ p. free_at number system ps p s kids) ps

-- ---- how many rows are owed on entering a target

outline_filter : (ps : List Marked) (l : ℕ) → outlines_at (outlines ps) l ≡ outlines (pieces_at ps l)
outline_filter [] l = refl
outline_filter (p ∷ ps) l = kept (outline_filter ps l) (place_of p == l) where
  kept : outlines_at (outlines ps) l ≡ outlines (pieces_at ps l) → (b : Bool) → cond b (outline p ∷ outlines_at (outlines ps) l) (outlines_at (outlines ps) l) ≡ outlines (cond b (p ∷ pieces_at ps l) (pieces_at ps l))
  kept below true = ap (λ os. outline p ∷ os) below
  kept below false = below

-- the outline of the piece that a target is
pub outline_got : (ps : List Marked) (l k : ℕ) → slice_get (outlines_at (outlines ps) l) k ≡ option_map outline (slice_get (pieces_at ps l) k)
outline_got ps l k = ap (λ os. slice_get os k) (outline_filter ps l) ∙ slice_get-map outline (pieces_at ps l) k

entered_plain : (change : Linear → Known) (q : Option Marked) (j : ℕ) → option_map length (target_rows change no_fall q j) ≡ entered_count None (option_map outline q) j
entered_plain change None j = refl
entered_plain change (Some q) zero = ap Some (ap length (append-nil (map change (rows_of q))) ∙ length-map (rows_of q) change ∙ omega arith)
entered_plain change (Some q) (suc j) = refl

-- where no fall is owed
pub into_plain : (into : List Marked) (l : ℕ) (change : Linear → Known) → owed_count (owed_into into l change no_fall) ≡ into_counts None (outlines into) l
into_plain into l change = λ i k j. (entered_plain change (slice_get (pieces_at into l) k) j ∙ ap (λ o. entered_count None o j) (sym (outline_got into l k))) i

falls_at : (old new : List Linear) (m j : ℕ) → length old ≡ m → length new ≡ m → (b : Bool) → nat_lt j m ≡ b → option_map length (fall_rows (as_given old) (map given new) (suc j)) ≡ cond b (Some (j + 2)) None
falls_at old new m j a b true e = let lt : suc j ≤ m = grind (arith, nat_tests) in fall_long old new (suc j) (omega arith) (omega (arith, a)) (omega (arith, b)) ∙ ap Some (omega arith)
falls_at old new m j a b false e = none (option_map length (fall_rows (as_given old) (map given new) (suc j))) refl
  where
    none : (o : Option ℕ) → option_map length (fall_rows (as_given old) (map given new) (suc j)) ≡ o → option_map length (fall_rows (as_given old) (map given new) (suc j)) ≡ None
    none None is = is
    none (Some n) is = absurd (let within = fall_some old new (suc j) n is in let over : m ≤ j = grind (arith, nat_tests) in omega (arith, within.1, a))

fall_counted : (old : List Linear) (q : Marked) (new : List Linear) (m j : ℕ) (going : Bool) → length old ≡ m → (going ≡ true → length new ≡ m) → option_map length (cond going (fall_rows (as_given old) (map given new) j) (no_fall q j)) ≡ fall_count (Some m) going j
fall_counted old q new m zero true a b = refl
fall_counted old q new m (suc j) true a b = falls_at old new m j a (b refl) (nat_lt j m) refl
fall_counted old q new m zero false a b = refl
fall_counted old q new m (suc j) false a b = refl

behind_rows : (xs : List Known) (o : Option (List Known)) → option_map length (option_map (λ falls. xs ++ falls) o) ≡ option_map (λ n. length xs + n) (option_map length o)
behind_rows xs None = refl
behind_rows xs (Some ys) = ap Some (length-append xs ys)

-- a piece that goes on has the ranks of its node
ranks_there : (system : CaseSystem) (m : ℕ) (done : Bool) (p : Marked) → PieceShape system m done p → goes p ≡ true → length (ranks_of p) ≡ m
ranks_there system m done p h e = h.many ∙ ap (λ g. cond g m 0) e

module _ (system : CaseSystem) (m : ℕ) (done : Bool) (old : List Linear) (long : length old ≡ m) where
  entered_falls : (q : Option Marked) → ((x : Marked) → q ≡ Some x → PieceShape system m done x) → (j : ℕ) → option_map length (target_rows given (fall_from given old) q j) ≡ entered_count (Some m) (option_map outline q) j
  entered_falls None shape j = refl
  entered_falls (Some q) shape j =
      behind_rows (map given (rows_of q)) (fall_from given old q j)
      ∙ (λ i. option_map (λ n. length-given (rows_of q) i + n) (fall_counted old q (ranks_of q) m j (goes q) long (ranks_there system m done q (shape q refl)) i))

-- where falls are owed from a piece that goes on
pub into_falls : (system : CaseSystem) (m : ℕ) (done : Bool) (p : Marked) → PieceShape system m done p → goes p ≡ true → (into : List Marked) → All (PieceShape system m done) into → (l : ℕ) (change : Linear → Known) → owed_count (owed_into into l change (fall_from change (ranks_of p))) ≡ into_counts (Some m) (outlines into) l
into_falls system m done p h going into all l change = λ i k j. (at k j) i
  where
    at : (k j : ℕ) → owed_count (owed_into into l change (fall_from change (ranks_of p))) k j ≡ into_counts (Some m) (outlines into) l k j
    at k j =
        count_same change given true p into l k j
        ∙ entered_falls system m done (ranks_of p) (ranks_there system m done p h going) (slice_get (pieces_at into l) k) (λ x got. All-contains (PieceShape system m done) into x all (piece_got into l k x got).1) j
        ∙ ap (λ o. entered_count (Some m) o j) (sym (outline_got into l k))

pub lists_counted : (lists : List (List Linear)) (k j : ℕ) → owed_count (changed_lists given lists) k j ≡ list_counts (map length lists) k j
lists_counted lists k (suc j) = refl
lists_counted lists k zero = each (slice_get lists k) ∙ sym (slice_get-map length lists k)
  where
    each : (o : Option (List Linear)) → option_map length (option_map as_given o) ≡ option_map length o
    each None = refl
    each (Some rs) = ap Some (length-given rs)

pub truth_counted : (b : Bool) → list_counts (map length (truth_targets b)) ≡ truth_counts b
truth_counted true = refl
truth_counted false = refl
