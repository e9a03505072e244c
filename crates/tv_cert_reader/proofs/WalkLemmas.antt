-- What a walk has done with a node and those below it.
use Rattle.std.proofs.Common.{◌≡◌, ℕ, suc, ◌+◌, ◌*◌, ◌<◌, ◌≤◌, ◌^◌, Bool, true, false, Result, Ok, Err, List, [], ◌∷◌, ◌++◌, length, length-append, map, refl, sym, ap, ◌∙◌, subst, arith}
use denote.RawPtr.{null_ptr}
use Rattle.std.specs.Prelude.{nat_le}
use Rattle.std.specs.Global.{Vec, Global}
use Rattle.std.specs.List.{flat_map}
use Rattle.std.proofs.lemmas.Bool.Decides.{nat_tests}
use Rattle.std.proofs.lemmas.List.{append_assoc, append-nil, length-map, map-append}
use Rattle.std.proofs.lemmas.Nat.{mul-le}
use Rattle.tv_grammar.specs.Langs.{each}
use Rattle.tv_linear.specs.declared.cover.CoverTree as cover
use Rattle.tv_linear.specs.declared.choice.ChoiceTree as choice
use Rattle.tv_cases.specs.LinearCases.{CaseSystem}
use Rattle.tv_cert.specs.declared.node.Marked.{Marked}
use Rattle.tv_cert.specs.declared.node.Node.{Node}
use Rattle.tv_cert.specs.declared.node.Node.TheViews.{out-roll-Node}
use Rattle.tv_cert.specs.declared.node.Proof.{Proof}
use Rattle.tv_cert.specs.declared.node.Proof.TheVariants.{Covered, Chosen}
use Rattle.tv_cert.specs.NodeViews.{pieces_list}
use Rattle.tv_cert.specs.Nodes.{size, node_owes, node_entries}
use Rattle.tv_cert.specs.Obligations.{Entry, Obligation, paired}
use Rattle.tv_cert.specs.Statements.{Statement, Statements, no_statement, statement, parts_of, part_at, count}
use Rattle.tv_cert.specs.Shapes.{IsSaid, may_be_done, may_rank, NodeShape}
use Rattle.tv_cert.proofs.NodeLemmas.{kids_of, proofs_list, sizes_list, size_is}
use Rattle.tv_cert.proofs.EntryLists.{listed_entries, node_entries_are, own_entries_are}
use Rattle.tv_cert.proofs.RoomLemmas.{own_few}
use Rattle.tv_shape.proofs.NumberLemmas.{renumbered, own_renumbered}
use Rattle.tv_cert_reader.specs.CertificateLines.{proof_lines, node_lines}
use Rattle.tv_cert_reader.specs.Demands.{demand_of}
use Rattle.tv_cert_reader.specs.ChoiceGrammar.{demanded}
use Rattle.tv_cert_reader.specs.LineGrammar.{kind_of}
use Rattle.tv_cert_reader.specs.NodeGrammar.{node}
use Rattle.tv_cert_reader.proofs.CompleteWanted.{demands_same}
use Rattle.tv_cert_reader.specs.declared.cursor.Cursor.{Cursor}
use Rattle.tv_cert_reader.specs.declared.failure.Failure.{Failure}
use Rattle.tv_cert_reader.specs.declared.walk.Walk.{Walk}
use Rattle.tv_cert_reader.specs.Nodes.{ReadsNode, AreFirstOf, nodes_lines, node_of}
use Rattle.tv_cert_reader.specs.Proofs.{AreProofsOf}
use Rattle.tv_cert_reader.specs.Reading.{Takes, FailsBy}
use Rattle.tv_cert_reader.specs.Regions.{IsRegion, region_lines}
use Rattle.tv_cert_reader.specs.Walks.{Through, at_end, further, HasRoom, AreTaken, IsWalked, Walks}
use Rattle.tv_cert_reader.proofs.NodeLemmas.{Opened, took_long, pieces_long, stated_is, opened, opened_next, child_fails, proofs_fail, node_built}

-- ---- the entries of one child after another

said_list_next : (number : ℕ) (system : CaseSystem) (ss : Statements) (kids : List Node) (a : Node) → length kids < count ss → listed_entries number system ss (kids ++ a ∷ []) ≡ listed_entries number system ss kids ++ node_entries (number + sizes_list kids) system (part_at (length kids) ss) a
said_list_next number system no_statement kids a bounded = absurd (omega (arith, bounded))
said_list_next number system (statement s ss) [] a bounded = append-nil (node_entries number system s a) ∙ (let e : number ≡ number + 0 = omega arith in ap (λ n. node_entries n system s a) e)
said_list_next number system (statement s ss) (b ∷ kids) a bounded =
    ap (λ es. node_entries number system s b ++ es) (said_list_next (number + size b) system ss kids a (omega (arith, bounded)))
    ∙ sym (append_assoc (node_entries number system s b) (listed_entries (number + size b) system ss kids) (node_entries (number + size b + sizes_list kids) system (part_at (length kids) ss) a))
    ∙ (let e : number + size b + sizes_list kids ≡ number + (size b + sizes_list kids) = omega arith in ap (λ n. (node_entries number system s b ++ listed_entries (number + size b) system ss kids) ++ node_entries n system (part_at (length kids) ss) a) e)

sizes_next : (kids : List Node) (a : Node) → sizes_list (kids ++ a ∷ []) ≡ sizes_list kids + size a
sizes_next [] a = omega arith
sizes_next (b ∷ kids) a = (let e = sizes_next kids a in omega (arith, e))

-- ---- one list after another

pub through_both : {T : Type 0} {takes : T → Entry → T → Type 0} (es fs : List Entry) (u v w : T) → Through takes u es v → Through takes v fs w → Through takes u (es ++ fs) w
through_both [] fs u v w at_end k = k
through_both (e ∷ es) fs u v w (further {v = t} h rest) k = further h (through_both es fs t v w rest k)

-- a list of some length as a vector, wherever it lies
abbrev pub vector : {X : Type 0} → Global → (xs : List X) → length xs < 2 ^ 63 → Vec X
vector heap xs bounded = record { ptr = null_ptr; len = length xs; cap = length xs; alloc = heap; items = xs; ok = (refl, omega arith); small = bounded }

-- ---- the children so far; their heads are what is kept of them

pub record Stands {T : Type 0} (takes : T → Entry → T → Type 0) (room : T → ℕ) (whole : Bool) (system : CaseSystem) (s : Statement) (old now : Walk T) (ps : List Marked) (m : ℕ) (heads : List Node) : Type 0 where
  pub kids : List Node
  pub opened : Opened system s old.cursor now.cursor ps m kids
  pub kept : whole ≡ true → heads ≡ kids
  pub pieces : map pieces_list heads ≡ map pieces_list kids
  pub nodes : now.nodes ≡ old.nodes + 1 + sizes_list kids
  pub taken : Through takes old.taker (listed_entries (old.nodes + 1) system (parts_of s) kids) now.taker
  pub counted : HasRoom room now

no_kids : (number : ℕ) (system : CaseSystem) (ss : Statements) → listed_entries number system ss [] ≡ []
no_kids number system no_statement = refl
no_kids number system (statement s ss) = refl

-- a line is taken off for the node itself
pub region_taken : (system : CaseSystem) (s : Statement) (old new : Cursor) (ps : List Marked) (m : ℕ) → Takes (region_lines (kind_of s) (ps, m)) old new → old.taken + 1 ≤ new.taken
region_taken system s old new ps m took = (let a = ap length took.lines in let b = took.last in let c = length-append (region_lines (kind_of s) (ps, m)) new.lines in omega (arith, a, b, c))

-- each node has a line
kids_long : (system : CaseSystem) (ss : Statements) (kids : List Node) → AreFirstOf system ss kids → length kids ≤ length (nodes_lines ss kids)
kids_long system ss [] h = omega arith
kids_long system no_statement (a ∷ kids) h = absurd h
kids_long system (statement s ss) (a ∷ kids) h =
    let one = ap length (stated_is system s a) in
    let rest = kids_long system ss kids h.1 in
    let e = length-append (node_lines s a) (nodes_lines ss kids) in
    omega (arith, one, rest, e)

module _ {T : Type 0} (takes : T → Entry → T → Type 0) (room : T → ℕ) (whole : Bool) (system : CaseSystem) (s : Statement) (old : Walk T) where
  pub stands_first : (now : Walk T) (ps : List Marked) (m : ℕ) (heads : List Node) → heads ≡ [] → IsRegion system (may_rank s) (may_be_done s) (ps, m) → Takes (region_lines (kind_of s) (ps, m)) old.cursor now.cursor → now.nodes ≡ old.nodes + 1 → now.taker ≡ old.taker → HasRoom room old → Stands takes room whole system s old now ps m heads
  stands_first now ps m heads none is took nodes same counted =
      let nothing = no_kids (old.nodes + 1) system (parts_of s) in
      let line = region_taken system s old.cursor now.cursor ps m took in
      record {
        kids = [];
        opened = opened system s old.cursor now.cursor ps m [] refl is took;
        kept = λ _. none;
        pieces = ap (map pieces_list) none;
        nodes = omega (arith, nodes);
        taken = subst (λ es. Through takes old.taker es now.taker) (sym nothing) (subst (λ v. Through takes v [] now.taker) same at_end);
        counted = record {
          nodes = (let n = counted.nodes in omega (arith, n, nodes, line));
          left = (let l = counted.left in let e = ap room same in omega (arith, l, line, e));
        };
      }

  module _ (now : Walk T) (ps : List Marked) (m : ℕ) (heads : List Node) (h : Stands takes room whole system s old now ps m heads) where
    pub as_many : length heads ≡ length h.kids
    as_many = sym (length-map heads pieces_list) ∙ ap length h.pieces ∙ length-map h.kids pieces_list

    pub child_stops : (f : Failure) → length heads < count (parts_of s) → FailsBy (node false system (part_at (length heads) (parts_of s))) now.cursor f → FailsBy (node false system s) old.cursor f
    child_stops f bounded k =
        child_fails system s old.cursor now.cursor ps m h.kids h.opened f (let e = as_many in omega (arith, e, bounded)) (subst (λ i. FailsBy (node false system (part_at i (parts_of s))) now.cursor f) as_many k)

    pub stands_next : (new : Walk T) (more_heads : List Node) (a : Node) → length heads < count (parts_of s) → IsWalked takes room whole system (part_at (length heads) (parts_of s)) now new a → more_heads ≡ heads ++ a ∷ [] → Stands takes room whole system s old new ps m more_heads
    stands_next new more_heads a bounded k is =
        let b = k.node in
        let few_kids : length h.kids < count (parts_of s) = (let e = as_many in omega (arith, e, bounded)) in
        let part = ap (λ i. part_at i (parts_of s)) as_many in
        let next = said_list_next (old.nodes + 1) system (parts_of s) h.kids b few_kids in
        let there = node_entries (old.nodes + 1 + sizes_list h.kids) system (part_at (length h.kids) (parts_of s)) b in
        let own : node_entries now.nodes system (part_at (length heads) (parts_of s)) b ≡ there = (λ i. node_entries (h.nodes i) system (part i) b) in
        let before = listed_entries (old.nodes + 1) system (parts_of s) h.kids in
        record {
          kids = h.kids ++ b ∷ [];
          opened = opened_next system s old.cursor now.cursor new.cursor ps m h.kids (h.kids ++ b ∷ []) b h.opened few_kids
              (subst (λ p. NodeShape system p b) part k.is_node) (subst (λ p. Takes (node_lines p b) now.cursor new.cursor) part k.took) refl;
          kept = λ e. is ∙ (λ i. h.kept e i ++ k.kept e i ∷ []);
          pieces = ap (map pieces_list) is ∙ map-append pieces_list heads (a ∷ []) ∙ (λ i. h.pieces i ++ k.pieces i ∷ []) ∙ sym (map-append pieces_list h.kids (b ∷ []));
          nodes = (let z = sizes_next h.kids b in let x = h.nodes in let y = k.nodes in omega (arith, x, y, z));
          taken = subst (λ es. Through takes old.taker es new.taker) (sym next)
              (through_both before there old.taker now.taker new.taker h.taken (subst (λ es. Through takes now.taker es new.taker) own k.taken));
          counted = k.counted;
        }

    -- the pieces and the children have lines of their own
    pub few_parts : length ps + length heads < 2 ^ 32
    few_parts = (let a = took_long system s old.cursor now.cursor ps m h.kids h.opened in let b = pieces_long ps in let c = kids_long system (parts_of s) h.kids h.opened.first in let d = as_many in let r = old.cursor.room in omega (arith, a, b, c, d, r))

    -- ---- the node's own proofs

    abbrev owing : List Obligation
    owing = node_owes old.nodes system s ps (map pieces_list heads)

    module _ (many : length heads ≡ count (parts_of s)) where
      pub own_stops : (f : Failure) → FailsBy (each (demanded false) (map (λ q. demand_of q.owed) owing)) now.cursor f → FailsBy (node false system s) old.cursor f
      own_stops f k =
          let kids = map pieces_list h.kids in
          let same = ap (λ ks. map (λ q. demand_of q.owed) (node_owes old.nodes system s ps ks)) h.pieces ∙ demands_same old.nodes system s m ps kids h.opened.region.each ∙ sym (demands_same 0 system s m ps kids h.opened.region.each) in
          proofs_fail system s old.cursor now.cursor ps m h.kids h.opened (sym as_many ∙ many) f (subst (λ ds. FailsBy (each (demanded false) ds) now.cursor f) same k)

are_renumbered : (n : ℕ) (os : List Obligation) (ps : List Proof) → AreProofsOf (map (renumbered n) os) ps → AreProofsOf os ps
are_renumbered n [] [] h = tt
are_renumbered n [] (p ∷ ps) h = absurd h
are_renumbered n (o ∷ os) [] h = absurd h
are_renumbered n (o ∷ os) (p ∷ ps) h = (h.0, are_renumbered n os ps h.1)

-- each proof has a line
pub proof_long : (p : Proof) → 1 ≤ length (proof_lines p)
proof_long (Covered (cover.Split' r p a q b)) = omega arith
proof_long (Covered (cover.Empty ms)) = omega arith
proof_long (Covered (cover.Into k j lists)) = omega arith
proof_long (Chosen (choice.Split' r p a q b)) = omega arith
proof_long (Chosen (choice.Empty ms)) = omega arith
proof_long (Chosen (choice.NoStep covers)) = omega arith
proof_long (Chosen (choice.Take c k j draws lists)) = omega arith

proofs_long : (ps : List Proof) → length ps ≤ length (flat_map proof_lines ps)
proofs_long [] = omega arith
proofs_long (p ∷ ps) = (let a = proof_long p in let b = proofs_long ps in let c = length-append (proof_lines p) (flat_map proof_lines ps) in omega (arith, a, b, c))

-- as many lines are taken off at least as there are proofs
pub proofs_taken : (ps : List Proof) (old new : Cursor) → Takes (flat_map proof_lines ps) old new → old.taken + length ps ≤ new.taken
proofs_taken ps old new took = (let a = proofs_long ps in let e = ap length took.lines in let l = length-append (flat_map proof_lines ps) new.lines in let t = took.last in omega (arith, a, e, l, t))

as_many_proofs : (os : List Obligation) (ps : List Proof) → AreProofsOf os ps → length ps ≡ length os
as_many_proofs [] [] h = refl
as_many_proofs [] (p ∷ ps) h = absurd h
as_many_proofs (o ∷ os) [] h = absurd h
as_many_proofs (o ∷ os) (p ∷ ps) h = ap suc (as_many_proofs os ps h.1)

few_proofs : (ps : List Proof) (old new : Cursor) → Takes (flat_map proof_lines ps) old new → length ps < 2 ^ 63
few_proofs ps old new took = (let a = proofs_long ps in let e = ap length took.lines in let l = length-append (flat_map proof_lines ps) new.lines in let r = old.room in omega (arith, a, e, l, r))

few_items : {X : Type 0} (v : Vec X) → length v.items < 2 ^ 63
few_items v = (let o = v.ok in let s = v.small in omega (arith, o, s))

-- ---- there is room for what a node owes

-- two factors whose sum is below 2^32
few_pairs : (a b : ℕ) → a + b < 2 ^ 32 → a * (b + 8194) ≤ 2 ^ 63 + 2 ^ 46
few_pairs a b bounded = by (nat_le a (2 ^ 31)) refl
  where
    by : (t : Bool) → nat_le a (2 ^ 31) ≡ t → a * (b + 8194) ≤ 2 ^ 63 + 2 ^ 46
    by true e = (let h = mul-le a (b + 8194) (2 ^ 31) (2 ^ 32 + 8194) (grind (arith, nat_tests, e)) (omega (arith, bounded)) in omega (arith, h))
    by false e = (let over : 2 ^ 31 < a = grind (arith, nat_tests, e) in let h = mul-le a (b + 8194) (2 ^ 32) (2 ^ 31 + 8194) (omega (arith, bounded)) (omega (arith, bounded, over)) in omega (arith, h))

pub own_room : (number : ℕ) (system : CaseSystem) (s : Statement) (ps : List Marked) (kids : List (List Marked)) (taken left : ℕ) → length ps + length kids < 2 ^ 32 → length system.cases ≤ 8192 → taken < 2 ^ 32 → 2 ^ 64 ≤ left + taken + 1 → length (node_owes number system s ps kids) ≤ left
own_room number system s ps kids taken left bounded cases low room =
    let most = own_few number system ps kids s in
    let each = mul-le (length ps) (length kids + length system.cases + 2) (length ps) (length kids + 8194) (omega arith) (omega (arith, cases)) in
    let all = few_pairs (length ps) (length kids) bounded in
    omega (arith, most, each, all, low, room)

-- the proofs have lines of their own
pub own_counted : {T : Type 0} (room : T → ℕ) (os : List Obligation) (proofs : List Proof) (old new : Walk T) → AreProofsOf os proofs → Takes (flat_map proof_lines proofs) old.cursor new.cursor → new.nodes ≡ old.nodes → room old.taker ≤ room new.taker + length os → HasRoom room old → HasRoom room new
own_counted room os proofs old new are took nodes less h =
    let lines = proofs_taken proofs old.cursor new.cursor took in
    let many = as_many_proofs os proofs are in
    record {
      nodes = (let a = h.nodes in omega (arith, a, lines, nodes));
      left = (let a = h.left in omega (arith, a, lines, many, less));
    }

-- ---- the whole node

module _ {T : Type 0} (takes : T → Entry → T → Type 0) (room : T → ℕ) (whole : Bool) (system : CaseSystem) (s : Statement) (old now new : Walk T) (ps : List Marked) (m : ℕ) (heads : List Node) (kept : List Proof) (said : IsSaid s) (h : Stands takes room whole system s old now ps m heads) (many : length heads ≡ count (parts_of s)) (own : AreTaken takes whole (node_owes old.nodes system s ps (map pieces_list heads)) now new [] kept) where
  module _ (kids : Vec Node) (shown : Vec Proof) (kids_are : kids.items ≡ h.kids) (shown_are : shown.items ≡ own.proofs) where
    abbrev made : Node
    made = node_of ps m kids shown

    owed_there : node_owes old.nodes system s ps (map pieces_list heads) ≡ node_owes old.nodes system s ps (map pieces_list kids.items)
    owed_there = ap (node_owes old.nodes system s ps) (h.pieces ∙ ap (map pieces_list) (sym kids_are))

    offered : AreProofsOf (node_owes 0 system s ps (map pieces_list kids.items)) shown.items
    offered = are_renumbered old.nodes (node_owes 0 system s ps (map pieces_list kids.items)) shown.items
        (subst (λ (x : Type 0). x) (λ i. AreProofsOf ((owed_there ∙ own_renumbered old.nodes system s ps (map pieces_list kids.items)) i) (sym shown_are i)) own.are)

    built : NodeShape system s made × Takes (node_lines s made) old.cursor new.cursor
    built = node_built system s old.cursor now.cursor new.cursor ps m kids shown said (subst (Opened system s old.cursor now.cursor ps m) (sym kids_are) h.opened)
        (ap length kids_are ∙ sym (as_many takes room whole system s old now ps m heads h) ∙ many) offered (subst (λ qs. Takes (flat_map proof_lines qs) now.cursor new.cursor) (sym shown_are) own.took)

    kids_there : kids_of made ≡ h.kids
    kids_there = ap (λ x. x.children.items) (out-roll-Node (record { pieces = ps; ranks = m; children = kids; proofs = shown })) ∙ kids_are

    pieces_there : pieces_list made ≡ ps
    pieces_there = ap (λ x. x.pieces) (out-roll-Node (record { pieces = ps; ranks = m; children = kids; proofs = shown }))

    proofs_there : proofs_list made ≡ own.proofs
    proofs_there = ap (λ x. x.proofs.items) (out-roll-Node (record { pieces = ps; ranks = m; children = kids; proofs = shown })) ∙ shown_are

    below : List Entry
    below = listed_entries (old.nodes + 1) system (parts_of s) h.kids

    mine : List Entry
    mine = paired (node_owes old.nodes system s ps (map pieces_list heads)) own.proofs

    entries_there : node_entries old.nodes system s made ≡ below ++ mine
    unfolding below mine
    entries_there =
        node_entries_are old.nodes system s made
        ∙ (λ i. listed_entries (old.nodes + 1) system (parts_of s) (kids_there i) ++ own_entries_are old.nodes system s made i)
        ∙ (λ i. below ++ paired (node_owes old.nodes system s (pieces_there i) (map pieces_list (kids_there i))) (proofs_there i))
        ∙ ap (λ ks. below ++ paired (node_owes old.nodes system s ps ks) own.proofs) (sym h.pieces)

    pub node_made : HasRoom room new → (head : Node) → (whole ≡ true → head ≡ made) → pieces_list head ≡ ps → IsWalked takes room whole system s old new head
    unfolding below mine
    node_made counted head same is = record {
      node = made;
      is_node = built.0;
      took = built.1;
      kept = same;
      pieces = is ∙ sym pieces_there;
      nodes = (let a = size_is made in let b = ap sizes_list kids_there in let c = h.nodes in let d = own.nodes in omega (arith, a, b, c, d));
      taken = subst (λ es. Through takes old.taker es new.taker) (sym entries_there) (through_both below mine old.taker now.taker new.taker h.taken own.taken);
      counted = counted;
    }

-- where nodes are not kept whole, their lists lie anywhere
pub node_walked : {T : Type 0} (takes : T → Entry → T → Type 0) (room : T → ℕ) (whole : Bool) (system : CaseSystem) (s : Statement) (old now new : Walk T) (ps : List Marked) (m : ℕ) (heads : Vec Node) (kept : Vec Proof) → IsSaid s → Stands takes room whole system s old now ps m heads.items → length heads.items ≡ count (parts_of s) → AreTaken takes whole (node_owes old.nodes system s ps (map pieces_list heads.items)) now new [] kept.items → HasRoom room new → (head : Node) → (whole ≡ true → head ≡ node_of ps m heads kept) → pieces_list head ≡ ps → IsWalked takes room whole system s old new head
node_walked takes room true system s old now new ps m heads kept said h many own counted head same is =
    node_made takes room true system s old now new ps m heads.items kept.items said h many own heads kept (h.kept refl) own.kept counted head same is
node_walked takes room false system s old now new ps m heads kept said h many own counted head same is =
    let few_kids : length h.kids < 2 ^ 63 = (let e = as_many takes room false system s old now ps m heads.items h in let f = few_items heads in omega (arith, e, f)) in
    node_made takes room false system s old now new ps m heads.items kept.items said h many own (vector heads.alloc h.kids few_kids) (vector heads.alloc own.proofs (few_proofs own.proofs now.cursor new.cursor own.took)) refl refl counted head
    (λ e. absurd (let no : ⊥ = cc in no)) is

-- where they are, the node is read
pub walk_read : {T : Type 0} (takes : T → Entry → T → Type 0) (room : T → ℕ) (system : CaseSystem) (s : Statement) (old new : Walk T) (result : Result Node Failure) → Walks takes room true system s old new result → ReadsNode system s old.cursor new.cursor result
walk_read takes room system s old new (Ok head) h =
    let e = sym (h.kept refl) in
    (subst (NodeShape system s) e h.is_node, subst (λ n. Takes (node_lines s n) old.cursor new.cursor) e h.took)
walk_read takes room system s old new (Err f) h = h
