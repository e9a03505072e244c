-- The lines of covers and choices are read, and those of proofs.
use Rattle.std.proofs.Common.{◌≡◌, ℕ, zero, suc, ◌+◌, ◌≤◌, ℤ, pos, Bool, IsTrue, List, [], ◌∷◌, ◌++◌, length, map, All, Option, Some, None, Ok, refl, sym, ap, ◌∙◌, arith}
use Rattle.std.specs.Prelude.{◌==◌, slice_get}
use Rattle.std.specs.List.{AllZip, flat_map}
use Rattle.std.specs.Option.{option_map}
use Rattle.std.proofs.lemmas.List.{append_assoc}
use Rattle.std.proofs.lemmas.List.Elements.{All-head, All-tail}
use Rattle.std.proofs.lemmas.Bool.{eq-eqb}
use Rattle.tv_grammar.specs.Langs.{go, branch_read, each}
use Rattle.tv_lines.specs.Lines.{PlainLine, formed}
use Rattle.tv_lines.specs.declared.head.Head.TheVariants as heads
use Rattle.tv_linear.specs.Linear.{Linear, columns}
use Rattle.tv_linear.specs.Known.{Known}
use Rattle.tv_linear.specs.Covers.{no_target}
use Rattle.tv_linear.specs.Depth.{splits}
use Rattle.tv_linear.specs.ChoiceDepth.{most_splits, choice_splits}
use Rattle.tv_linear.specs.declared.cover.CoverTree.{CoverTree}
use Rattle.tv_linear.specs.declared.cover.CoverTree as cover_trees
use Rattle.tv_linear.specs.declared.choice.ChoiceTree.{ChoiceTree}
use Rattle.tv_linear.specs.declared.choice.ChoiceTree as choice_trees
use Rattle.tv_cases.specs.LinearCases.{LinearCase, leaving}
use Rattle.tv_cert.specs.declared.node.Proof.{Proof}
use Rattle.tv_cert.specs.declared.node.Proof.TheVariants.{Covered, Chosen}
use Rattle.tv_cert.specs.Obligations.{Owed, Obligation}
use Rattle.tv_cert.specs.Obligations as obligations
use Rattle.tv_cert.specs.Shapes.{owed_count, ListsShape, CoverShape, NoStepShape, TakeShape, ChoiceShape, ProofShape}
use Rattle.tv_cert_reader.specs.CertificateLines.{row_line, row_lines, by_lines, cover_lines, choice_lines, proof_lines}
use Rattle.tv_cert_reader.specs.Demands.{Demand, demand_of, no_counts, IsDrawFree}
use Rattle.tv_cert_reader.specs.LineGrammar.{Grammar, many, by, draw}
use Rattle.tv_cert_reader.specs.CoverGrammar.{lists_behind, empty_behind, sides_behind, both, cover}
use Rattle.tv_cert_reader.specs.ChoiceGrammar.{Choosing, stop_cover, no_step, no_step_behind, only_where, taken_rows, taken_case, take_behind, choice, demanded}
use Rattle.tv_cert_reader.proofs.CompleteReads.{then_read, mapped_read, each_read}
use Rattle.tv_cert_reader.proofs.CompleteParts.{numbers_long, draws_read, lists_read}

-- ---- what follows a first line

pub both_read : (a b : Grammar (Unit {0})) (xs ys rest : List PlainLine) → ((r : List PlainLine) → a.read (xs ++ r) ≡ Ok (tt, r)) → b.read (ys ++ rest) ≡ Ok (tt, rest) → (both a b).read ((xs ++ ys) ++ rest) ≡ Ok (tt, rest)
both_read a b xs ys rest first second =
    ap (both a b).read (append_assoc xs ys rest) ∙ then_read a (λ _. b) (xs ++ (ys ++ rest)) tt (ys ++ rest) (first (ys ++ rest)) ∙ second

empty_read : (known : ℕ) (ms : List ℤ) (here rest : List PlainLine) → length ms ≡ known → branch_read (empty_behind (length ms == known)) here rest ≡ Ok (tt, rest)
empty_read known ms here rest e = ap (λ b. branch_read (empty_behind b) here rest) (eq-eqb (length ms) known e)

into_read : (known : ℕ) (owed : Option ℕ) (lists : List (List ℤ)) (here rest : List PlainLine) → ListsShape (known + 1) owed lists → branch_read (lists_behind known owed) here (by_lines lists ++ rest) ≡ Ok (tt, rest)
into_read known None lists here rest h = absurd h
into_read known (Some count) lists here rest h = lists_read (known + 1) count lists rest h.0 h.1

sides_read : (width : ℕ) (r : Linear) (sides : Grammar (Unit {0})) (here behind : List PlainLine) → columns r ≡ width → branch_read (sides_behind (go sides) (length (r.coefficients ++ r.constant ∷ []) == width + 1)) here behind ≡ sides.read behind
sides_read width r sides here behind e = ap (λ b. branch_read (sides_behind (go sides) b) here behind) (eq-eqb (length (r.coefficients ++ r.constant ∷ [])) (width + 1) (numbers_long width r e))

-- ---- covers

pub cover_read : (over : Bool) (left width known : ℕ) (counts : ℕ → ℕ → Option ℕ) (tree : CoverTree) (rest : List PlainLine) → CoverShape width counts known tree → splits tree ≤ left → (cover over left width known counts).read (cover_lines tree ++ rest) ≡ Ok (tt, rest)
unfolding cover
cover_read over zero width known counts (cover_trees.Split' r p a q b) rest h deep = absurd (omega (arith, deep))
cover_read over (suc left) width known counts (cover_trees.Split' r p a q b) rest h deep =
    sides_read width r (both (cover over left width (known + 1) counts) (cover over left width (known + 1) counts)) (row_line heads.Split r ∷ ((cover_lines a ++ cover_lines b) ++ rest)) ((cover_lines a ++ cover_lines b) ++ rest) h.0
    ∙ both_read (cover over left width (known + 1) counts) (cover over left width (known + 1) counts) (cover_lines a) (cover_lines b) rest
    (λ r. cover_read over left width (known + 1) counts a r h.1 (omega (arith, deep))) (cover_read over left width (known + 1) counts b rest h.2 (omega (arith, deep)))
cover_read over zero width known counts (cover_trees.Empty ms) rest h deep = empty_read known ms.items (formed heads.Empty ms.items ∷ rest) rest h
cover_read over (suc left) width known counts (cover_trees.Empty ms) rest h deep = empty_read known ms.items (formed heads.Empty ms.items ∷ rest) rest h
cover_read over zero width known counts (cover_trees.Into k j lists) rest h deep = into_read known (counts k j) (map (λ l. l.items) lists.items) (formed heads.Into (pos k ∷ pos j ∷ []) ∷ (by_lines (map (λ l. l.items) lists.items) ++ rest)) rest h
cover_read over (suc left) width known counts (cover_trees.Into k j lists) rest h deep = into_read known (counts k j) (map (λ l. l.items) lists.items) (formed heads.Into (pos k ∷ pos j ∷ []) ∷ (by_lines (map (λ l. l.items) lists.items) ++ rest)) rest h

-- ---- choices

-- a cover of a case without targets, with at most `left` splits
record StopShape (n known left : ℕ) (c : LinearCase) (tree : CoverTree) : Type 0 where
  pub shape : CoverShape (n + c.draws) (owed_count no_target) (known + length c.guards) tree
  pub shallow : splits tree ≤ left

stop_shapes : (n known left : ℕ) (cases : List LinearCase) (trees : List CoverTree) → NoStepShape n known cases trees → most_splits trees ≤ left → AllZip (StopShape n known left) cases trees
stop_shapes n known left [] [] h deep = tt
stop_shapes n known left [] (t ∷ trees) h deep = absurd h
stop_shapes n known left (c ∷ cases) [] h deep = absurd h
stop_shapes n known left (c ∷ cases) (t ∷ trees) h deep = (record { shape = h.0; shallow = omega (arith, deep) }, stop_shapes n known left cases trees h.1 (omega (arith, deep)))

no_step_read : (over : Bool) (left known : ℕ) (x : Choosing) (trees : List CoverTree) (here rest : List PlainLine) → IsTrue x.may_stop → NoStepShape x.variables known (leaving x.place x.cases) trees → most_splits trees ≤ left → branch_read (no_step_behind (no_step over left x known) x.may_stop) here (flat_map cover_lines trees ++ rest) ≡ Ok (tt, rest)
no_step_read over left known x trees here rest may h deep =
    ap (λ b. branch_read (no_step_behind (no_step over left x known) b) here (flat_map cover_lines trees ++ rest)) may
    ∙ mapped_read (λ all. tt) (each (stop_cover over left x.variables known) (leaving x.place x.cases)) (flat_map cover_lines trees ++ rest) (map (λ t. tt) trees) rest
    (each_read (stop_cover over left x.variables known) (StopShape x.variables known left) cover_lines (λ t. tt) stops (leaving x.place x.cases) trees rest (stop_shapes x.variables known left (leaving x.place x.cases) trees h deep))
  where
    stops : (c : LinearCase) (t : CoverTree) (r : List PlainLine) → StopShape x.variables known left c t → (stop_cover over left x.variables known c).read (cover_lines t ++ r) ≡ Ok (tt, r)
    stops c t r s = cover_read over left (x.variables + c.draws) (known + length c.guards) no_counts t r s.shape s.shallow

-- the draws and the multipliers of a case that is taken
module _ (n known : ℕ) (draws : List Linear) (lists : List (List ℤ)) (here rest : List PlainLine) where
  rows_taken : (c : LinearCase) (owed : Option (List Known)) (count : Option ℕ) → length draws ≡ c.draws → All (λ r. columns r ≡ n) draws → ListsShape (known + 1) (option_map (λ rows. length c.guards + length rows) owed) lists → option_map length owed ≡ count → branch_read (take_behind n known (taken_rows c count)) here ((row_lines heads.Draw draws ++ by_lines lists) ++ rest) ≡ Ok (tt, rest)
  rows_taken c None count as_many wide h e = absurd h
  rows_taken c (Some rows) count as_many wide h e =
      ap (λ u. branch_read (take_behind n known (taken_rows c u)) here ((row_lines heads.Draw draws ++ by_lines lists) ++ rest)) (sym e)
      ∙ both_read (many c.draws (draw n)) (many (length c.guards + length rows) (by (known + 1))) (row_lines heads.Draw draws) (by_lines lists) rest
      (λ r. draws_read n c.draws draws r as_many wide) (lists_read (known + 1) (length c.guards + length rows) lists rest h.0 h.1)

  take_read : (l : ℕ) (owed : LinearCase → List Linear → ℕ → ℕ → Option (List Known)) → ((c : LinearCase) (draws : List Linear) → owed_count (owed c draws) ≡ owed_count (owed c [])) → (c : Option LinearCase) (k j : ℕ) → TakeShape n l owed known c k j draws lists → branch_read (take_behind n known (taken_case l (λ c. owed_count (owed c [])) c k j)) here ((row_lines heads.Draw draws ++ by_lines lists) ++ rest) ≡ Ok (tt, rest)
  take_read l owed free None k j h = absurd h
  take_read l owed free (Some c) k j h =
      ap (λ b. branch_read (take_behind n known (only_where b (taken_rows c (owed_count (owed c []) k j)))) here ((row_lines heads.Draw draws ++ by_lines lists) ++ rest)) (eq-eqb c.from l h.0)
      ∙ rows_taken c (owed c draws k j) (owed_count (owed c []) k j) h.1 h.2 h.3 (ap (λ f. f k j) (free c draws))

-- how a choice is read
abbrev pub choosing : ℕ → List LinearCase → ℕ → Bool → (LinearCase → List Linear → ℕ → ℕ → Option (List Known)) → Choosing
choosing n cases l may_stop owed = record { variables = n; cases = cases; place = l; may_stop = may_stop; counts = λ c. owed_count (owed c []) }

module _ (over : Bool) (n : ℕ) (cases : List LinearCase) (l : ℕ) (may_stop : Bool) (owed : LinearCase → List Linear → ℕ → ℕ → Option (List Known)) (free : (c : LinearCase) (draws : List Linear) → owed_count (owed c draws) ≡ owed_count (owed c [])) where
  pub choice_read : (left known : ℕ) (tree : ChoiceTree) (rest : List PlainLine) → ChoiceShape n cases l may_stop owed known tree → choice_splits tree ≤ left → (choice over left (choosing n cases l may_stop owed) known).read (choice_lines tree ++ rest) ≡ Ok (tt, rest)
  unfolding choice
  choice_read zero known (choice_trees.Split' r p a q b) rest h deep = absurd (omega (arith, deep))
  choice_read (suc left) known (choice_trees.Split' r p a q b) rest h deep =
      let side = choice over left (choosing n cases l may_stop owed) (known + 1) in
      sides_read n r (both side side) (row_line heads.Split r ∷ ((choice_lines a ++ choice_lines b) ++ rest)) ((choice_lines a ++ choice_lines b) ++ rest) h.0
      ∙ both_read side side (choice_lines a) (choice_lines b) rest (λ r. choice_read left (known + 1) a r h.1 (omega (arith, deep))) (choice_read left (known + 1) b rest h.2 (omega (arith, deep)))
  choice_read zero known (choice_trees.Empty ms) rest h deep = empty_read known ms.items (formed heads.Empty ms.items ∷ rest) rest h
  choice_read (suc left) known (choice_trees.Empty ms) rest h deep = empty_read known ms.items (formed heads.Empty ms.items ∷ rest) rest h
  choice_read zero known (choice_trees.NoStep covers) rest h deep = no_step_read over 0 known (choosing n cases l may_stop owed) covers.items (formed heads.NoStep [] ∷ (flat_map cover_lines covers.items ++ rest)) rest h.0 h.1 deep
  choice_read (suc left) known (choice_trees.NoStep covers) rest h deep = no_step_read over (suc left) known (choosing n cases l may_stop owed) covers.items (formed heads.NoStep [] ∷ (flat_map cover_lines covers.items ++ rest)) rest h.0 h.1 deep
  choice_read zero known (choice_trees.Take c k j draws lists) rest h deep = take_read n known draws.items (map (λ x. x.items) lists.items) (choice_lines (choice_trees.Take c k j draws lists) ++ rest) rest l owed free (slice_get cases c) k j h
  choice_read (suc left) known (choice_trees.Take c k j draws lists) rest h deep = take_read n known draws.items (map (λ x. x.items) lists.items) (choice_lines (choice_trees.Take c k j draws lists) ++ rest) rest l owed free (slice_get cases c) k j h

-- ---- proofs

pub proof_read : (over : Bool) (o : Owed) (p : Proof) (rest : List PlainLine) → IsDrawFree o → ProofShape o p → (demanded over (demand_of o)).read (proof_lines p ++ rest) ≡ Ok (tt, rest)
proof_read over (obligations.a_cover n known owed) (Covered tree) rest free h = cover_read over 128 n (length known) (owed_count owed) tree rest h.0 h.1
proof_read over (obligations.a_cover n known owed) (Chosen tree) rest free h = absurd h
proof_read over (obligations.a_choice n cases l may_stop owed known) (Covered tree) rest free h = absurd h
proof_read over (obligations.a_choice n cases l may_stop owed known) (Chosen tree) rest free h = choice_read over n cases l may_stop owed free 128 (length known) tree rest h.0 h.1
proof_read over (obligations.a_point xs rows) p rest free h = absurd h

-- a proof of the shape of what is owed, whatever its draws
record OfferedShape (o : Obligation) (p : Proof) : Type 0 where
  pub free : IsDrawFree o.owed
  pub shape : ProofShape o.owed p

offered_shapes : (os : List Obligation) (ps : List Proof) → All (λ o. IsDrawFree o.owed) os → AllZip (λ o p. ProofShape o.owed p) os ps → AllZip OfferedShape os ps
offered_shapes [] [] free h = tt
offered_shapes [] (p ∷ ps) free h = absurd h
offered_shapes (o ∷ os) [] free h = absurd h
offered_shapes (o ∷ os) (p ∷ ps) free h = (record { free = All-head (λ o. IsDrawFree o.owed) o os free; shape = h.0 }, offered_shapes os ps (All-tail (λ o. IsDrawFree o.owed) o os free) h.1)

wanted_shapes : (os : List Obligation) (ps : List Proof) → AllZip OfferedShape os ps → AllZip (λ d p. (o : Obligation) × (d ≡ demand_of o.owed) × OfferedShape o p) (map (λ o. demand_of o.owed) os) ps
wanted_shapes [] [] h = tt
wanted_shapes [] (p ∷ ps) h = absurd h
wanted_shapes (o ∷ os) [] h = absurd h
wanted_shapes (o ∷ os) (p ∷ ps) h = ((o, refl, h.0), wanted_shapes os ps h.1)

pub proofs_read : (over : Bool) (os : List Obligation) (proofs : List Proof) (rest : List PlainLine) → All (λ o. IsDrawFree o.owed) os → AllZip (λ o p. ProofShape o.owed p) os proofs → (each (demanded over) (map (λ o. demand_of o.owed) os)).read (flat_map proof_lines proofs ++ rest) ≡ Ok (map (λ p. tt) proofs, rest)
proofs_read over os proofs rest free h =
    each_read (demanded over) (λ d p. (o : Obligation) × (d ≡ demand_of o.owed) × OfferedShape o p) proof_lines (λ p. tt) reads (map (λ o. demand_of o.owed) os) proofs rest (wanted_shapes os proofs (offered_shapes os proofs free h))
  where
    reads : (d : Demand) (p : Proof) (r : List PlainLine) → (o : Obligation) × (d ≡ demand_of o.owed) × OfferedShape o p → (demanded over d).read (proof_lines p ++ r) ≡ Ok (tt, r)
    reads d p r w = ap (λ e. (demanded over e).read (proof_lines p ++ r)) w.1 ∙ proof_read over w.0.owed p r w.2.free w.2.shape
