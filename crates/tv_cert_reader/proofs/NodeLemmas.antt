-- What is read of a node, by its lists.
use Rattle.std.proofs.Common.{◌≡◌, ℕ, zero, suc, ◌+◌, ◌≤◌, ◌<◌, pos, false, List, [], ◌∷◌, ◌++◌, length, map, Ok, refl, sym, ap, ◌∙◌, subst, arith, length-append}
use Rattle.std.specs.Global.{Vec}
use Rattle.std.specs.List.{flat_map}
use Rattle.std.proofs.lemmas.List.{append_assoc, append-nil}
use Rattle.tv_grammar.specs.Reads.{fault, ◌>>=◌}
use Rattle.tv_grammar.specs.Langs.{then, mapped, each}
use Rattle.tv_lines.specs.Lines.{PlainLine, formed}
use Rattle.tv_lines.specs.declared.head.Head.TheVariants as heads
use Rattle.tv_cases.specs.LinearCases.{CaseSystem}
use Rattle.tv_cert.specs.declared.node.Marked.{Marked}
use Rattle.tv_cert.specs.declared.node.Proof.{Proof}
use Rattle.tv_cert.specs.declared.node.Node.{Node, Node', Row_of-Node, end_of-Node, more_of-Node, items-the_row-Node, out-Node, outs-Node'}
use Rattle.tv_cert.specs.declared.node.Node.TheViews.{out-roll-Node}
use Rattle.tv_cert.specs.NodeViews.{pieces_list}
use Rattle.tv_cert.specs.Nodes.{pieces_of, node_owes}
use Rattle.tv_cert.specs.Shapes.{OwnShape, IsSaid, may_be_done, may_rank, NodeShape, KidsShape}
use Rattle.tv_cert.specs.Statements.{Statement, rows, here, elsewhere, ends, never_ends, each_of, one_of, after, along, unsaid, Statements, no_statement, statement, parts_of, part_at, count}
use Rattle.tv_cert.proofs.NodeLemmas.{kids_of, proofs_list, out_is, pieces_are, kid_pieces_are}
use Rattle.tv_cert_reader.specs.CertificateLines.{piece_lines, proof_lines, node_lines, kid_lines}
use Rattle.tv_cert_reader.specs.Demands.{Outline, outlines, demand_of, demands}
use Rattle.tv_cert_reader.specs.LineGrammar.{Grammar, kind_of, Region, region_of, region}
use Rattle.tv_cert_reader.specs.ChoiceGrammar.{demanded}
use Rattle.tv_cert_reader.specs.NodeGrammar.{proofs, node, nodes}
use Rattle.tv_cert_reader.proofs.CompleteReads.{then_read}
use Rattle.tv_cert_reader.proofs.CompleteParts.{region_read}
use Rattle.tv_cert_reader.proofs.CompleteNodes.{node_is, node_read}
use Rattle.tv_cert_reader.proofs.CompleteWanted.{demands_same}
use Rattle.tv_cert_reader.specs.declared.cursor.Cursor.{Cursor}
use Rattle.tv_cert_reader.specs.declared.failure.Failure.{Failure}
use Rattle.tv_cert_reader.specs.declared.failure.Failure.TheVariants.{Fault, Memory}
use Rattle.tv_cert_reader.specs.Reading.{Takes, FailsBy}
use Rattle.tv_cert_reader.specs.Regions.{IsRegion, region_lines, region_with}
use Rattle.tv_cert_reader.specs.Proofs.{AreProofsOf}
use Rattle.tv_cert_reader.specs.Nodes.{AreFirstOf, nodes_lines, node_of}
use Rattle.tv_cert_reader.proofs.ReadingLemmas.{first_fails, mapped_fails, takes_both, takes_as}

-- ---- how long what is to be shown is

abbrev mutual
  -- how many nodes there are below one that is to show this
  pub weight : Statement → ℕ
  weight (rows lists) = 0
  weight (here l) = 0
  weight (elsewhere l) = 0
  weight ends = 0
  weight never_ends = 0
  weight (each_of ss) = weights ss
  weight (one_of ss) = weights ss
  weight (after path s) = suc (weight s)
  weight (along path shape s t) = suc (weight s) + suc (weight t)
  weight unsaid = 0

  pub weights : Statements → ℕ
  weights no_statement = 0
  weights (statement s ss) = suc (weight s) + weights ss

weight_is : (s : Statement) → weights (parts_of s) ≡ weight s
weight_is (rows lists) = refl
weight_is (here l) = refl
weight_is (elsewhere l) = refl
weight_is ends = refl
weight_is never_ends = refl
weight_is (each_of ss) = refl
weight_is (one_of ss) = refl
weight_is (after path s) = omega arith
weight_is (along path shape s t) = omega arith
weight_is unsaid = refl

lighter : (i : ℕ) (ss : Statements) → i < count ss → weight (part_at i ss) < weights ss
lighter i no_statement bounded = absurd (omega (arith, bounded))
lighter zero (statement s ss) bounded = omega arith
lighter (suc i) (statement s ss) bounded = (let h = lighter i ss (omega (arith, bounded)) in omega (arith, h))

pub part_lighter : (i : ℕ) (s : Statement) → i < count (parts_of s) → weight (part_at i (parts_of s)) < weight s
part_lighter i s bounded = (let h = lighter i (parts_of s) bounded in let e = weight_is s in omega (arith, h, e))

-- ---- children as a list

module _ (system : CaseSystem) where
  first_row : {k : _} (ss : Statements) (kids : Row_of-Node k) → AreFirstOf system ss (items-the_row-Node k kids) → length (items-the_row-Node k kids) ≡ count ss → KidsShape system ss kids
  first_row no_statement end_of-Node h n = tt
  first_row no_statement (more_of-Node a kids) h n = absurd h
  first_row (statement s ss) end_of-Node h n = absurd (omega (arith, n))
  first_row (statement s ss) (more_of-Node a kids) h n = (h.0, first_row ss kids h.1 (omega (arith, n)))

  pub first_next : (ss : Statements) (kids : List Node) (a : Node) → AreFirstOf system ss kids → length kids < count ss → NodeShape system (part_at (length kids) ss) a → AreFirstOf system ss (kids ++ a ∷ [])
  first_next no_statement kids a h bounded n = absurd (omega (arith, bounded))
  first_next (statement s ss) [] a h bounded n = (n, tt)
  first_next (statement s ss) (b ∷ kids) a h bounded n = (h.0, first_next ss kids a h.1 (omega (arith, bounded)) n)

  -- the next child fails
  nodes_fault : (ss : Statements) (kids : List Node) (now r : List PlainLine) (k : _) → AreFirstOf system ss kids → length kids < count ss → (node false system (part_at (length kids) ss)).read now ≡ fault k r → (nodes false system ss).read (nodes_lines ss kids ++ now) ≡ fault k r
  nodes_fault no_statement kids now r k h bounded e = absurd (omega (arith, bounded))
  nodes_fault (statement s ss) [] now r k h bounded e = ap (λ o. o >>= λ x. (mapped (λ xs. x.0 ∷ xs) (nodes false system ss)).read x.1) e
  nodes_fault (statement s ss) (a ∷ kids) now r k h bounded e =
      ap (nodes false system (statement s ss)).read (append_assoc (node_lines s a) (nodes_lines ss kids) now)
      ∙ then_read (node false system s) (λ os. mapped (λ xs. os ∷ xs) (nodes false system ss)) (node_lines s a ++ (nodes_lines ss kids ++ now)) (outlines (pieces_of a)) (nodes_lines ss kids ++ now) (node_read false system s a (nodes_lines ss kids ++ now) h.0)
      ∙ ap (λ o. o >>= λ y. Ok (outlines (pieces_of a) ∷ y.0, y.1)) (nodes_fault ss kids now r k h.1 (omega (arith, bounded)) e)

  -- all children are read
  all_read : (ss : Statements) (kids : List Node) (r : List PlainLine) → AreFirstOf system ss kids → length kids ≡ count ss → (nodes false system ss).read (nodes_lines ss kids ++ r) ≡ Ok (map outlines (map pieces_list kids), r)
  all_read no_statement [] r h n = refl
  all_read no_statement (a ∷ kids) r h n = absurd h
  all_read (statement s ss) [] r h n = absurd (omega (arith, n))
  all_read (statement s ss) (a ∷ kids) r h n =
      ap (nodes false system (statement s ss)).read (append_assoc (node_lines s a) (nodes_lines ss kids) r)
      ∙ then_read (node false system s) (λ os. mapped (λ xs. os ∷ xs) (nodes false system ss)) (node_lines s a ++ (nodes_lines ss kids ++ r)) (outlines (pieces_of a)) (nodes_lines ss kids ++ r) (node_read false system s a (nodes_lines ss kids ++ r) h.0)
      ∙ ap (λ o. o >>= λ y. Ok (outlines (pieces_of a) ∷ y.0, y.1)) (all_read ss kids r h.1 (omega (arith, n)))
      ∙ ap (λ ps. Ok (outlines ps ∷ map outlines (map pieces_list kids), r)) (pieces_are a)

  -- ---- a node by its lists

  lines_row : {k : _} (ss : Statements) (kids : Row_of-Node k) → kid_lines ss kids ≡ nodes_lines ss (items-the_row-Node k kids)
  lines_row ss end_of-Node = refl
  lines_row no_statement (more_of-Node a kids) = refl
  lines_row (statement s ss) (more_of-Node a kids) = ap (λ ls. node_lines s a ++ ls) (lines_row ss kids)

abbrev listed : Statement → ℕ → List Marked → List Node → List Proof → List PlainLine
listed s m ps kids shown = formed (heads.Node (kind_of s)) (pos (length ps) ∷ pos m ∷ []) ∷ (flat_map piece_lines ps ++ (nodes_lines (parts_of s) kids ++ flat_map proof_lines shown))

pub stated_is : (system : CaseSystem) (s : Statement) (n : Node) → node_lines s n ≡ listed s (out-Node n).ranks (pieces_list n) (kids_of n) (proofs_list n)
stated_is system s (Node' ps m shape kids shown) =
    let e = outs-Node' ps m shape kids shown in
    ap (λ ls. formed (heads.Node (kind_of s)) (pos (length ps) ∷ pos m ∷ []) ∷ (flat_map piece_lines ps ++ (ls ++ flat_map proof_lines shown.items))) (lines_row system (parts_of s) kids ∙ ap (nodes_lines (parts_of s)) (sym (out_is ps m shape kids shown)))
    ∙ (λ i. listed s (sym (ap (λ x. x.ranks) e) i) (sym (ap (λ x. x.pieces) e) i) (kids_of (Node' ps m shape kids shown)) (sym (ap (λ x. x.proofs.items) e) i))

node_shaped : (system : CaseSystem) (s : Statement) (n : Node) → OwnShape system s (out-Node n).ranks (pieces_list n) (map pieces_list (kids_of n)) (proofs_list n) → AreFirstOf system (parts_of s) (kids_of n) → length (kids_of n) ≡ count (parts_of s) → NodeShape system s n
node_shaped system s (Node' ps m shape kids shown) own first many =
    let e = outs-Node' ps m shape kids shown in
    let out = out_is ps m shape kids shown in
    let below = ap (map pieces_list) out ∙ sym (kid_pieces_are kids) in
    let first_there = subst (AreFirstOf system (parts_of s)) out first in
    (subst (λ (x : Type 0). x) (λ i. OwnShape system s (ap (λ x. x.ranks) e i) (ap (λ x. x.pieces) e i) (below i) (ap (λ x. x.proofs.items) e i)) own, first_row system (parts_of s) kids first_there (ap length (sym out) ∙ many))

-- ---- reading a node

-- its region and its first children are read
pub record Opened (system : CaseSystem) (s : Statement) (old now : Cursor) (ps : List Marked) (m : ℕ) (kids : List Node) : Type 0 where
  pub region : IsRegion system (may_rank s) (may_be_done s) (ps, m)
  pub first : AreFirstOf system (parts_of s) kids
  pub took : Takes (region_lines (kind_of s) (ps, m) ++ nodes_lines (parts_of s) kids) old now

module _ (system : CaseSystem) (s : Statement) (old : Cursor) where
  behind : Region → Grammar (List Outline)
  behind g = then (nodes false system (parts_of s)) (λ kids. mapped (λ _. g.pieces) (proofs false system s g kids))

  pub region_fails : (f : Failure) → FailsBy (region_with system (kind_of s) (may_rank s) (may_be_done s)) old f → FailsBy (node false system s) old f
  unfolding behind
  region_fails (Fault k line) h = (let g = first_fails (region system s) behind old (Fault k line) h in record { rest = g.rest; read = node_is false system s old.lines ∙ g.read; counted = g.counted })
  region_fails Memory h = tt

  pub opened : (now : Cursor) (ps : List Marked) (m : ℕ) (kids : List Node) → kids ≡ [] → IsRegion system (may_rank s) (may_be_done s) (ps, m) → Takes (region_lines (kind_of s) (ps, m)) old now → Opened system s old now ps m kids
  opened now ps m kids none is took = subst (Opened system s old now ps m) (sym none) (record {
    region = is;
    first = tt;
    took = takes_as (region_lines (kind_of s) (ps, m)) (region_lines (kind_of s) (ps, m) ++ []) old now (sym (append-nil (region_lines (kind_of s) (ps, m)))) took;
  })

  lines_next : (ss : Statements) (kids : List Node) (a : Node) → AreFirstOf system ss kids → length kids < count ss → nodes_lines ss kids ++ node_lines (part_at (length kids) ss) a ≡ nodes_lines ss (kids ++ a ∷ [])
  lines_next no_statement kids a h bounded = absurd (omega (arith, bounded))
  lines_next (statement t ss) [] a h bounded = sym (append-nil (node_lines t a))
  lines_next (statement t ss) (b ∷ kids) a h bounded =
      append_assoc (node_lines t b) (nodes_lines ss kids) (node_lines (part_at (length kids) ss) a) ∙ ap (λ ls. node_lines t b ++ ls) (lines_next ss kids a h.1 (omega (arith, bounded)))

  pub opened_next : (now new : Cursor) (ps : List Marked) (m : ℕ) (kids more_kids : List Node) (a : Node) → Opened system s old now ps m kids → length kids < count (parts_of s) → NodeShape system (part_at (length kids) (parts_of s)) a → Takes (node_lines (part_at (length kids) (parts_of s)) a) now new → more_kids ≡ kids ++ a ∷ [] → Opened system s old new ps m more_kids
  opened_next now new ps m kids more_kids a o bounded n took is = subst (Opened system s old new ps m) (sym is) (record {
    region = o.region;
    first = first_next system (parts_of s) kids a o.first bounded n;
    took = takes_as ((region_lines (kind_of s) (ps, m) ++ nodes_lines (parts_of s) kids) ++ node_lines (part_at (length kids) (parts_of s)) a) (region_lines (kind_of s) (ps, m) ++ nodes_lines (parts_of s) (kids ++ a ∷ [])) old new
        (append_assoc (region_lines (kind_of s) (ps, m)) (nodes_lines (parts_of s) kids) (node_lines (part_at (length kids) (parts_of s)) a) ∙ ap (λ ls. region_lines (kind_of s) (ps, m) ++ ls) (lines_next (parts_of s) kids a o.first bounded))
        (takes_both (region_lines (kind_of s) (ps, m) ++ nodes_lines (parts_of s) kids) (node_lines (part_at (length kids) (parts_of s)) a) old now new o.took took);
  })

  module _ (now : Cursor) (ps : List Marked) (m : ℕ) (kids : List Node) (o : Opened system s old now ps m kids) where
    -- the region is read, and then the children
    opened_read : (node false system s).read old.lines ≡ (behind (region_of m (outlines ps))).read (nodes_lines (parts_of s) kids ++ now.lines)
    unfolding behind
    opened_read =
        ap (node false system s).read (o.took.lines ∙ append_assoc (region_lines (kind_of s) (ps, m)) (nodes_lines (parts_of s) kids) now.lines)
        ∙ node_is false system s (region_lines (kind_of s) (ps, m) ++ (nodes_lines (parts_of s) kids ++ now.lines))
        ∙ then_read (region system s) behind (region_lines (kind_of s) (ps, m) ++ (nodes_lines (parts_of s) kids ++ now.lines)) (region_of m (outlines ps)) (nodes_lines (parts_of s) kids ++ now.lines)
        (region_read system s m ps (nodes_lines (parts_of s) kids ++ now.lines) o.region.ranks o.region.small o.region.each)

    pub child_fails : (f : Failure) → length kids < count (parts_of s) → FailsBy (node false system (part_at (length kids) (parts_of s))) now f → FailsBy (node false system s) old f
    unfolding behind
    child_fails (Fault k line) bounded h = record {
      rest = h.rest;
      read = opened_read ∙ ap (λ r. r >>= λ x. (mapped (λ _. outlines ps) (proofs false system s (region_of m (outlines ps)) x.0)).read x.1) (nodes_fault system (parts_of s) kids now.lines h.rest k o.first bounded h.read);
      counted = (let e = o.took.last in let c = h.counted in omega (arith, e, c));
    }
    child_fails Memory bounded h = tt

    module _ (many : length kids ≡ count (parts_of s)) where
      all_opened : (node false system s).read old.lines ≡ (mapped (λ _. outlines ps) (proofs false system s (region_of m (outlines ps)) (map outlines (map pieces_list kids)))).read now.lines
      unfolding behind
      all_opened = opened_read ∙ then_read (nodes false system (parts_of s)) (λ os. mapped (λ _. outlines ps) (proofs false system s (region_of m (outlines ps)) os)) (nodes_lines (parts_of s) kids ++ now.lines) (map outlines (map pieces_list kids)) now.lines (all_read system (parts_of s) kids now.lines o.first many)

      by_all : (f : Failure) → FailsBy (mapped (λ _. outlines ps) (proofs false system s (region_of m (outlines ps)) (map outlines (map pieces_list kids)))) now f → FailsBy (node false system s) old f
      by_all (Fault k line) h = record { rest = h.rest; read = all_opened ∙ h.read; counted = (let e = o.took.last in let c = h.counted in omega (arith, e, c)) }
      by_all Memory h = tt

      pub proofs_fail : (f : Failure) → FailsBy (each (demanded false) (map (λ q. demand_of q.owed) (node_owes 0 system s ps (map pieces_list kids)))) now f → FailsBy (node false system s) old f
      proofs_fail f h =
          let wanted = demands system s m (outlines ps) (map outlines (map pieces_list kids)) in
          let inner : FailsBy (each (demanded false) wanted) now f = subst (λ ds. FailsBy (each (demanded false) ds) now f) (demands_same 0 system s m ps (map pieces_list kids) o.region.each) h in
          by_all f (mapped_fails (λ _. outlines ps) (proofs false system s (region_of m (outlines ps)) (map outlines (map pieces_list kids))) now f (mapped_fails (λ all. tt) (each (demanded false) wanted) now f inner))

pub node_built : (system : CaseSystem) (s : Statement) (old now new : Cursor) (ps : List Marked) (m : ℕ) (kids : Vec Node) (shown : Vec Proof) → IsSaid s → Opened system s old now ps m kids.items → length kids.items ≡ count (parts_of s) → AreProofsOf (node_owes 0 system s ps (map pieces_list kids.items)) shown.items → Takes (flat_map proof_lines shown.items) now new → NodeShape system s (node_of ps m kids shown) × Takes (node_lines s (node_of ps m kids shown)) old new
node_built system s old now new ps m kids shown said o many offered took =
    let n = node_of ps m kids shown in
    let e = out-roll-Node (record { pieces = ps; ranks = m; children = kids; proofs = shown }) in
    let p = sym (ap (λ x. x.pieces) e) in
    let r = sym (ap (λ x. x.ranks) e) in
    let k = sym (ap (λ x. x.children.items) e) in
    let q = sym (ap (λ x. x.proofs.items) e) in
    let own : OwnShape system s m ps (map pieces_list kids.items) shown.items = record {
      said = said;
      ranked = o.region.ranks;
      small = o.region.small;
      each = o.region.each;
      offered = offered;
    } in
    let lines = append_assoc (region_lines (kind_of s) (ps, m)) (nodes_lines (parts_of s) kids.items) (flat_map proof_lines shown.items) in (
      node_shaped system s n (subst (λ (x : Type 0). x) (λ i. OwnShape system s (r i) (p i) (map pieces_list (k i)) (q i)) own) (subst (AreFirstOf system (parts_of s)) k o.first) (ap length (sym k) ∙ many),
      takes_as ((region_lines (kind_of s) (ps, m) ++ nodes_lines (parts_of s) kids.items) ++ flat_map proof_lines shown.items) (node_lines s n) old new
          (lines ∙ (λ i. listed s (r i) (p i) (k i) (q i)) ∙ sym (stated_is system s n))
          (takes_both (region_lines (kind_of s) (ps, m) ++ nodes_lines (parts_of s) kids.items) (flat_map proof_lines shown.items) old now new o.took took),
    )

-- ---- how many there are

pub pieces_long : (ps : List Marked) → length ps ≤ length (flat_map piece_lines ps)
pieces_long [] = omega arith
pieces_long (p ∷ ps) = (let h = pieces_long ps in let e = length-append (piece_lines p) (flat_map piece_lines ps) in omega (arith, h, e))

module _ (system : CaseSystem) (s : Statement) (old now : Cursor) (ps : List Marked) (m : ℕ) (kids : List Node) (o : Opened system s old now ps m kids) where
  pub took_long : length (flat_map piece_lines ps) + length (nodes_lines (parts_of s) kids) ≤ length old.lines
  took_long =
      let a = ap length o.took.lines in
      let b = length-append (region_lines (kind_of s) (ps, m) ++ nodes_lines (parts_of s) kids) now.lines in
      let c = length-append (region_lines (kind_of s) (ps, m)) (nodes_lines (parts_of s) kids) in
      omega (arith, a, b, c)
