-- What a checker has done that went over a whole certificate.
use Rattle.std.proofs.Common.{◌≡◌, ◌↔◌, ℕ, ◌+◌, ◌<◌, ◌^◌, ℤ, pos, true, false, Bool, IsTrue, List, [], ◌∷◌, ◌++◌, length, length-append, Option, None, Some, refl, sym, ap, ◌∙◌, subst, arith}
use Rattle.std.specs.Prelude.{slice_get, IsSome, MatchOption}
use Rattle.std.specs.Global.{Vec}
use Rattle.std.specs.Option.{option_map, is_some}
use Rattle.std.proofs.lemmas.List.Elements.{All-contains}
use Rattle.tv_lines.specs.Lines.{formed}
use Rattle.tv_lines.specs.declared.head.Head.TheVariants as heads
use Rattle.tv_linear.specs.Known.{given}
use Rattle.tv_linear.specs.Covers.{IsMetCover}
use Rattle.tv_cases.specs.LinearCases.{CaseSystem}
use Rattle.tv_cert.specs.declared.node.Kind.TheVariants as kinds
use Rattle.tv_cert.specs.declared.node.Marked.{Marked}
use Rattle.tv_cert.specs.declared.node.Node.{Node, Node'}
use Rattle.tv_cert.specs.declared.node.Verdict.{Verdict}
use Rattle.tv_cert.specs.declared.node.Verdict.TheVariants.{Proved, Disproved}
use Rattle.tv_cert.specs.NodeViews.{pieces_list}
use Rattle.tv_cert.specs.Nodes.{pieces_of, root_entry, size, node_entries}
use Rattle.tv_cert.specs.Obligations.{Entry, PointMet, IsMetEntry}
use Rattle.tv_cert.specs.Pieces.{pieces_at, rows_of}
use Rattle.tv_cert.specs.AboutSystem.{about_of}
use Rattle.tv_cert.specs.Shapes.{PieceShape, may_be_done, NodeShape}
use Rattle.tv_cert.specs.Statements.{Statement}
use Rattle.tv_cert.specs.Targets.{owed_into, no_fall}
use Rattle.tv_cert.proofs.NodeLemmas.{pieces_are}
use Rattle.tv_cert.specs.Pieces.{AreOver}
use Rattle.tv_cert_reader.specs.CertificateLines.{cover_lines, node_lines}
use Rattle.tv_cert_reader.specs.declared.cursor.Cursor.{Cursor}
use Rattle.tv_cert_reader.specs.Reading.{Takes}
use Rattle.tv_cert_reader.specs.Covers.{IsCoverWithin}
use Rattle.tv_cert_reader.specs.Values.{AreValues, start_counts, values_line}
use Rattle.tv_cert_reader.specs.declared.walk.Walk.{Walk}
use Rattle.tv_cert_reader.specs.Walks.{IsWalked}
use Rattle.tv_check_text.specs.declared.checker.Checker.{Checker}
use Rattle.tv_check_text.specs.Checking.{CheckedCover}
use Rattle.tv_check_text.specs.Verdicts.{IsFresh, IsCheckedRest, all_entries}
use Rattle.tv_check_text.specs.Settling.{Settles, first_failing, ChecksEntry, uncounted}
use Rattle.tv_check_text.proofs.SettlingLemmas.{settles_both, settles_one, all_settled}

-- ---- the rows of pieces are over the variables

rows_over : (system : CaseSystem) (s : Statement) (n : Node) → NodeShape system s n → AreOver system.variables (pieces_of n)
rows_over system s (Node' ps m shape kids proofs) h p there = (All-contains (PieceShape system m (may_be_done s)) ps p h.0.each there).rows

pub pieces_over : (system : CaseSystem) (s : Statement) (n : Node) (ps : List Marked) (count : ℕ) → NodeShape system s n → ps ≡ pieces_list n → count ≡ system.variables → AreOver count ps
pieces_over system s n ps count h is many = subst (λ k. AreOver k ps) (sym many) (subst (AreOver system.variables) (pieces_are n ∙ sym is) (rows_over system s n h))

-- what is got is there
pub there_by : {X Y : Type 0} (now : X → Y) (o : Option X) (v : Option Y) → MatchOption o (v ≡ None) (λ q. v ≡ Some (now q)) → is_some o ≡ true → IsSome v
there_by now None v m e = absurd cc
there_by now (Some x) v m e = subst IsSome (sym m) refl

-- ---- the last obligation

-- the checker stands after the root, and its pieces are kept
module _ (system : CaseSystem) (s : Statement) (old mid : Walk Checker) (fresh : IsFresh old) (head : Node) (h : IsWalked ChecksEntry uncounted false system s old mid head) where
  pub kept : pieces_of h.node ≡ pieces_list head
  kept = pieces_are h.node ∙ sym h.pieces

  abbrev below : List Entry
  below = node_entries 0 system s h.node

  below_is : node_entries old.nodes system s h.node ≡ below
  below_is = ap (λ n. node_entries n system s h.node) fresh.nodes

  settled : (mid.taker.seen ≡ old.taker.seen + length (node_entries old.nodes system s h.node)) × Settles old.taker.seen old.taker.failing (node_entries old.nodes system s h.node) mid.taker.failing
  settled = all_settled (node_entries old.nodes system s h.node) old.taker mid.taker h.taken

  seen_below : mid.taker.seen ≡ 0 + length below
  seen_below = (let a = settled.0 in let b = fresh.seen in let c = ap length below_is in omega (arith, a, b, c))

  settles_below : Settles 0 None below mid.taker.failing
  settles_below = subst (λ (x : Type 0). x) (λ i. Settles (fresh.seen i) (fresh.failing i) (below_is i) mid.taker.failing) settled.1

  few_nodes : size h.node < 2 ^ 32
  few_nodes = (let a = h.nodes in let b = fresh.nodes in let c = h.counted.nodes in let d = mid.cursor.room in omega (arith, a, b, c, d))

  -- the last obligation is checked, which has this entry
  module _ (new : Checker) (met : Bool) (seen : new.seen ≡ mid.taker.seen + 1) (failing : new.failing ≡ first_failing mid.taker.failing met (record { number = mid.taker.seen + 1; node = 0; kind = kinds.Root })) where
    few_entries : (verdict : Verdict) → length (all_entries system s h.node verdict) < 2 ^ 64
    few_entries verdict = (let a = seen_below in let b = h.counted.left in let c = mid.cursor.room in let e = length-append below (root_entry (about_of system) (pieces_of h.node) verdict ∷ []) in omega (arith, a, b, c, e))

    all_seen : (verdict : Verdict) → new.seen ≡ length (all_entries system s h.node verdict)
    all_seen verdict = (let a = seen_below in let e = length-append below (root_entry (about_of system) (pieces_of h.node) verdict ∷ []) in omega (arith, a, e, seen))

    all_settles : (e : Entry) → e.obligation.node ≡ 0 → e.obligation.kind ≡ kinds.Root → (IsTrue met ↔ IsMetEntry e) → Settles 0 None (below ++ e ∷ []) new.failing
    all_settles e node kind told =
        settles_both 0 mid.taker.seen None mid.taker.failing new.failing below (e ∷ []) seen_below settles_below
        (subst (λ x. Settles mid.taker.seen mid.taker.failing (e ∷ []) x) (sym (failing ∙ ap (first_failing mid.taker.failing met) (λ i. record { number = mid.taker.seen + 1; node = sym node i; kind = sym kind i }))) (settles_one mid.taker.seen mid.taker.failing e met told))

    -- a cover of the start is checked
    pub proved_checked : (next end : Cursor) → CheckedCover system.variables (owed_into (pieces_list head) system.start given no_fall) [] 128 mid.cursor next met → Takes (formed heads.End [] ∷ []) next end → end.lines ≡ [] → IsCheckedRest system s true [] old.cursor.lines new
    proved_checked next end start off none =
        let verdict : Verdict = Proved start.tree in
        record {
          root = h.node;
          verdict = verdict;
          behind = record {
            root_is = h.is_node;
            said = refl;
            verdict_is = subst (λ ps. IsCoverWithin system.variables (start_counts system ps) 0 128 start.tree) h.pieces start.within;
            lines = h.took.lines ∙ ap (λ ls. node_lines s h.node ++ ls) (start.took.lines ∙ ap (λ ls. cover_lines start.tree ++ ls) (off.lines ∙ ap (λ ls. formed heads.End [] ∷ ls) none));
          };
          at_values = refl;
          seen = all_seen verdict;
          few_nodes = few_nodes;
          few_entries = few_entries verdict;
          settles = all_settles (root_entry (about_of system) (pieces_of h.node) verdict) refl refl (subst (λ ps. IsTrue met ↔ IsMetCover system.variables (owed_into ps system.start given no_fall) [] start.tree) (sym kept) start.told);
        }

    -- values in a piece at the start are checked
    pub denied_checked : (next end : Cursor) (place : ℕ) (values : Vec ℤ) → AreValues system.variables (place, values.items) → Takes (values_line (place, values.items)) mid.cursor next → IsSome (slice_get (pieces_at (pieces_list head) system.start) place) → (IsTrue met ↔ PointMet values.items (option_map rows_of (slice_get (pieces_at (pieces_list head) system.start) place))) → Takes (formed heads.End [] ∷ []) next end → end.lines ≡ [] → IsCheckedRest system s false values.items old.cursor.lines new
    denied_checked next end place values are took there told off none =
        let verdict : Verdict = Disproved place values in
        record {
          root = h.node;
          verdict = verdict;
          behind = record {
            root_is = h.is_node;
            said = refl;
            verdict_is = (are.many, subst (λ ps. IsSome (slice_get (pieces_at ps system.start) place)) h.pieces there);
            lines = h.took.lines ∙ ap (λ ls. node_lines s h.node ++ ls) (took.lines ∙ ap (λ ls. formed heads.At (pos place ∷ values.items) ∷ ls) (off.lines ∙ ap (λ ls. formed heads.End [] ∷ ls) none));
          };
          at_values = refl;
          seen = all_seen verdict;
          few_nodes = few_nodes;
          few_entries = few_entries verdict;
          settles = all_settles (root_entry (about_of system) (pieces_of h.node) verdict) refl refl (subst (λ ps. IsTrue met ↔ PointMet values.items (option_map rows_of (slice_get (pieces_at ps system.start) place))) (sym kept) told);
        }
