-- What is read after the line that says whether a certificate proves or disproves.
use Rattle.std.proofs.Common.{◌≡◌, ℕ, zero, suc, cond, ◌+◌, ◌<◌, ◌≤◌, ℤ, true, false, Bool, List, [], ◌∷◌, ◌++◌, length, Ok, Err, None, Some, Option, refl, sym, ap, ◌∙◌, subst, arith}
use Rattle.std.specs.Prelude.{slice_get, ◌==◌, MatchOption}
use Rattle.std.specs.Option.{option_map, is_some}
use Rattle.tv_grammar.specs.Reads.{fault, ◌>>=◌}
use Rattle.tv_grammar.specs.Langs.{unit, then, at_end, read_all}
use Rattle.tv_lines.specs.Lines.{PlainLine, formed}
use Rattle.tv_lines.specs.declared.head.Head.TheVariants as heads
use Rattle.tv_linear.specs.Known.{given}
use Rattle.tv_linear.specs.declared.cover.CoverTree.{CoverTree}
use Rattle.tv_cases.specs.LinearCases.{CaseSystem}
use Rattle.tv_cert.specs.declared.node.Marked.{Marked}
use Rattle.tv_cert.specs.declared.node.Node.{Node}
use Rattle.tv_cert.specs.NodeViews.{pieces_list}
use Rattle.tv_cert.specs.Nodes.{pieces_of}
use Rattle.tv_cert.specs.Pieces.{place_of, pieces_at}
use Rattle.tv_cert.specs.Statements.{Statement}
use Rattle.tv_cert.specs.Shapes.{NodeShape}
use Rattle.tv_cert.proofs.NodeLemmas.{pieces_are}
use Rattle.tv_cert_reader.specs.CertificateLines.{cover_lines, node_lines}
use Rattle.tv_cert_reader.specs.declared.kind.LineKind.{LineKind}
use Rattle.tv_cert_reader.specs.declared.kind.LineKind.TheVariants.{Syntax, Shape}
use Rattle.tv_cert_reader.specs.Demands.{Outline, outline, outlines, into_counts}
use Rattle.tv_cert_reader.specs.LineGrammar.{Grammar, line, last}
use Rattle.tv_cert_reader.specs.CoverGrammar.{cover, both}
use Rattle.tv_cert_reader.specs.NodeGrammar.{node}
use Rattle.tv_cert_reader.specs.CertificateGrammar.{Sides, at_line, at_values, proved, denied}
use Rattle.tv_cert_reader.proofs.CompleteReads.{then_read}
use Rattle.tv_cert_reader.proofs.CompleteCovers.{cover_read}
use Rattle.tv_cert_reader.proofs.CompleteDemands.{into_plain, outline_got}
use Rattle.tv_cert_reader.proofs.CompleteNodes.{node_read}
use Rattle.tv_cert_reader.proofs.CompleteCertificates.{last_read, begins_proved, begins_denied, at_values_read}
use Rattle.tv_cert_reader.proofs.Faults.{no_piece_fault}
use Rattle.tv_cert_reader.proofs.FirstFaults.{NamesPieces, proved_text, nodes_fail, values_fail, piece_there, first_stopped, first_no_piece}
use Rattle.tv_cert_reader.specs.declared.cursor.Cursor.{Cursor}
use Rattle.tv_cert_reader.specs.declared.failure.Failure.{Failure}
use Rattle.tv_cert_reader.specs.declared.failure.Failure.TheVariants.{Fault, Memory}
use Rattle.tv_cert_reader.specs.Reading.{last_number, Takes, FailsBy}
use Rattle.tv_cert_reader.specs.Covers.{IsCoverWithin}
use Rattle.tv_cert_reader.specs.Values.{start_counts, values_line, ReadsEnd}
use Rattle.tv_cert_reader.specs.Wholes.{begun, side, ReadsRest}
use Rattle.tv_cert_reader.proofs.ReadingLemmas.{first_fails, second_fails}

-- the pieces of a root, as its grammar and as its certificate have them
root_outlines : (root : Node) → outlines (pieces_of root) ≡ outlines (pieces_list root)
root_outlines root = ap outlines (pieces_are root)

node_taken : (system : CaseSystem) (s : Statement) (root : Node) (old mid : Cursor) → NodeShape system s root → Takes (node_lines s root) old mid → (node false system s).read old.lines ≡ Ok (outlines (pieces_list root), mid.lines)
node_taken system s root old mid is took = ap (node false system s).read took.lines ∙ node_read false system s root mid.lines is ∙ ap (λ os. Ok (os, mid.lines)) (root_outlines root)

pub got_none : (o : Option Marked) → option_map outline o ≡ None → o ≡ None
got_none None e = refl
got_none (Some p) e = absurd cc

-- after the last there is none
past : (ps : List Marked) (k : ℕ) → length ps ≤ k → slice_get ps k ≡ None
past [] k h = refl
past (p ∷ ps) zero h = absurd (omega (arith, h))
past (p ∷ ps) (suc k) h = past ps k (omega (arith, h))

fewer : (p : Marked) (ps there : List Marked) (b : Bool) → length there ≤ length ps → length (cond b (p ∷ there) there) ≤ suc (length ps)
fewer p ps there true h = omega (arith, h)
fewer p ps there false h = omega (arith, h)

fewer_there : (ps : List Marked) (l : ℕ) → length (pieces_at ps l) ≤ length ps
fewer_there [] l = omega arith
fewer_there (p ∷ ps) l = fewer p ps (pieces_at ps l) (place_of p == l) (fewer_there ps l)

pub none_past : (ps : List Marked) (l k : ℕ) → length ps ≤ k → slice_get (pieces_at ps l) k ≡ None
none_past ps l k h = past (pieces_at ps l) k (let f = fewer_there ps l in omega (arith, f, h))

pub none_by : {X : Type 0} (o : Option X) (A : Type 0) (B : X → Type 0) → MatchOption o A B → is_some o ≡ false → A
none_by None A B m e = m
none_by (Some x) A B m e = absurd cc

pub some_by : {X Y : Type 0} (now : X → Y) (o : Option X) (v : Option Y) → MatchOption o (v ≡ None) (λ q. v ≡ Some (now q)) → is_some o ≡ true → v ≡ None → ⊥
some_by now None v m e n = absurd cc
some_by now (Some x) v m e n = absurd cc

-- how a reading that stops makes a first line at fault
stopped_proved : (system : CaseSystem) → 0 < system.locations → (s : Statement) (old : Cursor) (k : LineKind) (number : ℕ) (rest : List PlainLine) → read_all Syntax (proved false system s) old.lines ≡ fault k rest → number + length rest ≡ last_number old + 1 → ReadsRest system s true old (Err (Fault k number))
stopped_proved system some s old k number rest e counted sides is taken =
    first_stopped system some sides (begun true old.lines) rest k number
    (ap (λ o. o >>= λ x. at_end Syntax x.0 x.1) (begins_proved false system sides old.lines ∙ ap (λ t. (proved false system t).read old.lines) is) ∙ e)
    (proved_text system some sides (begun true old.lines) old.lines refl)
    (omega (arith, counted, taken))

stopped_denied : (system : CaseSystem) → 0 < system.locations → (s : Statement) (old : Cursor) (k : LineKind) (number : ℕ) (rest : List PlainLine) → read_all Syntax (denied false system s) old.lines ≡ fault k rest → ((sides : Sides) → side sides false ≡ s → NamesPieces system sides (begun false old.lines)) → number + length rest ≡ last_number old + 1 → ReadsRest system s false old (Err (Fault k number))
stopped_denied system some s old k number rest e there counted sides is taken =
    first_stopped system some sides (begun false old.lines) rest k number
    (ap (λ o. o >>= λ x. at_end Syntax x.0 x.1) (begins_denied false system sides old.lines ∙ ap (λ t. (denied false system t).read old.lines) is) ∙ e)
    (there sides is)
    (omega (arith, counted, taken))

pub ended : {X : Type 0} (g : Grammar X) (ls rest : List PlainLine) (k : LineKind) → g.read ls ≡ fault k rest → read_all Syntax g ls ≡ fault k rest
ended g ls rest k e = ap (λ o. o >>= λ x. at_end Syntax x.0 x.1) e

module _ (system : CaseSystem) (some : 0 < system.locations) (s : Statement) (old : Cursor) where
  -- ---- proved

  pub proved_fails : (f : Failure) → FailsBy (proved false system s) old f → ReadsRest system s true old (Err f)
  proved_fails (Fault k number) h = stopped_proved system some s old k number h.rest (ended (proved false system s) old.lines h.rest k h.read) h.counted
  proved_fails Memory h = tt

  abbrev start : List Outline → Grammar (Unit {0})
  start os = cover false 128 system.variables 0 (into_counts None os system.start)

  pub proved_root_fails : (f : Failure) → FailsBy (node false system s) old f → ReadsRest system s true old (Err f)
  proved_root_fails f h = proved_fails f (first_fails (node false system s) (λ os. both (start os) last) old f h)

  module _ (root : Node) (mid : Cursor) (is : NodeShape system s root) (took : Takes (node_lines s root) old mid) where
    abbrev root_read : (node false system s).read old.lines ≡ Ok (outlines (pieces_list root), mid.lines)
    root_read = node_taken system s root old mid is took

    same_counts : start_counts system (pieces_list root) ≡ into_counts None (outlines (pieces_list root)) system.start
    same_counts = into_plain (pieces_list root) system.start given

    pub start_fails : (f : Failure) → FailsBy (cover false 128 system.variables 0 (start_counts system (pieces_list root))) mid f → ReadsRest system s true old (Err f)
    start_fails f h =
        proved_fails f (second_fails (node false system s) (λ os. both (start os) last) (outlines (pieces_list root)) old mid f root_read took.last
        (first_fails (start (outlines (pieces_list root))) (λ _. last) mid f (subst (λ c. FailsBy (cover false 128 system.variables 0 c) mid f) same_counts h)))

    module _ (tree : CoverTree) (next : Cursor) (covered : IsCoverWithin system.variables (start_counts system (pieces_list root)) 0 128 tree) (went : Takes (cover_lines tree) mid next) where
      start_read : (start (outlines (pieces_list root))).read mid.lines ≡ Ok (tt, next.lines)
      start_read = ap (start (outlines (pieces_list root))).read went.lines ∙ ap (λ c. (cover false 128 system.variables 0 c).read (cover_lines tree ++ next.lines)) (sym same_counts) ∙ cover_read false 128 system.variables 0 (start_counts system (pieces_list root)) tree next.lines covered.shape covered.shallow

      pub last_fails : (f : Failure) → FailsBy last next f → ReadsRest system s true old (Err f)
      last_fails f h =
          proved_fails f (second_fails (node false system s) (λ os. both (start os) last) (outlines (pieces_list root)) old mid f root_read took.last
          (second_fails (start (outlines (pieces_list root))) (λ _. last) tt mid next f start_read went.last h))

      pub end_fails : (end : Cursor) (f : Failure) → Takes (formed heads.End [] ∷ []) next end → ReadsEnd end (Err f) → ReadsRest system s true old (Err f)
      end_fails end Memory off h = tt
      end_fails end (Fault k number) off h =
          let left = h.1 in
          let done : (proved false system s).read old.lines ≡ Ok (tt, end.lines)
          = then_read (node false system s) (λ os. both (start os) last) old.lines (outlines (pieces_list root)) mid.lines root_read
          ∙ then_read (start (outlines (pieces_list root))) (λ _. last) mid.lines tt next.lines start_read
          ∙ ap last.read off.lines ∙ last_read end.lines in
          let e : read_all Syntax (proved false system s) old.lines ≡ fault k (left.first ∷ left.behind)
          = ap (λ o. o >>= λ x. at_end Syntax x.0 x.1) (done ∙ ap (λ ls. Ok (tt, ls)) left.lines) ∙ ap (λ j. fault j (left.first ∷ left.behind)) (sym h.0) in
          stopped_proved system some s old k number (left.first ∷ left.behind) e
          (let a = took.last in let b = went.last in let c = off.last in let d = ap length left.lines in let n = left.counted in omega (arith, a, b, c, d, n))
      -- ---- disproved

  pub denied_root_fails : (f : Failure) → FailsBy (node false system s) old f → ReadsRest system s false old (Err f)
  denied_root_fails Memory h = tt
  denied_root_fails (Fault k number) h =
      let g = first_fails (at_values false system s) (λ x. last) old (Fault k number) (first_fails (node false system s) (λ os. then (line (at_line system.variables)) (λ j. unit (os, j))) old (Fault k number) h) in
      stopped_denied system some s old k number g.rest (ended (denied false system s) old.lines g.rest k g.read)
      (λ sides is. nodes_fail system some sides (begun false old.lines) old.lines h.rest k refl (ap (λ t. (node false system t).read old.lines) is ∙ h.read)) g.counted

  module _ (root : Node) (mid : Cursor) (is : NodeShape system s root) (took : Takes (node_lines s root) old mid) where
    abbrev root_there : (node false system s).read old.lines ≡ Ok (outlines (pieces_list root), mid.lines)
    root_there = node_taken system s root old mid is took

    root_of : (sides : Sides) → side sides false ≡ s → (node false system sides.denied).read old.lines ≡ Ok (outlines (pieces_list root), mid.lines)
    root_of sides e = ap (λ t. (node false system t).read old.lines) e ∙ root_there

    pub values_stop : (f : Failure) → FailsBy (line (at_line system.variables)) mid f → ReadsRest system s false old (Err f)
    values_stop Memory h = tt
    values_stop (Fault k number) h =
        let os = outlines (pieces_list root) in
        let behind = first_fails (line (at_line system.variables)) (λ j. unit (os, j)) mid (Fault k number) h in
        let g = first_fails (at_values false system s) (λ x. last) old (Fault k number) (second_fails (node false system s) (λ qs. then (line (at_line system.variables)) (λ j. unit (qs, j))) os old mid (Fault k number) root_there took.last behind) in
        stopped_denied system some s old k number g.rest (ended (denied false system s) old.lines g.rest k g.read)
        (λ sides e. values_fail system some sides (begun false old.lines) old.lines mid.lines h.rest os k refl (root_of sides e) h.read) g.counted

    module _ (place : ℕ) (values : List ℤ) (next : Cursor) (many : length values ≡ system.variables) (went : Takes (values_line (place, values)) mid next) where
      -- the piece is not there
      pub piece_missing : slice_get (pieces_at (pieces_list root) system.start) place ≡ None → ReadsRest system s false old (Err (Fault Shape next.taken))
      piece_missing none sides e taken =
          first_no_piece system some sides (begun false old.lines) mid.lines next.taken
          (no_piece_fault system some sides (begun false old.lines) old.lines mid.lines (outlines (pieces_list root)) place values next.lines refl (root_of sides e) went.lines many (outline_got (pieces_list root) system.start place ∙ ap (option_map outline) none))
          (let a = took.last in let b = went.last in let n = ap length went.lines in omega (arith, a, b, n, taken))

      module _ (there : slice_get (pieces_at (pieces_list root) system.start) place ≡ None → ⊥) where
        named : (sides : Sides) → side sides false ≡ s → NamesPieces system sides (begun false old.lines)
        named sides e = piece_there system some sides (begun false old.lines) old.lines mid.lines (outlines (pieces_list root)) place values next.lines refl (root_of sides e) went.lines (λ none. there (got_none (slice_get (pieces_at (pieces_list root) system.start) place) (sym (outline_got (pieces_list root) system.start place) ∙ none)))

        values_read : (at_values false system s).read old.lines ≡ Ok ((outlines (pieces_list root), place), next.lines)
        values_read =
            ap (at_values false system s).read (took.lines ∙ ap (λ ls. node_lines s root ++ ls) went.lines)
            ∙ at_values_read false system s root place values next.lines is many
            ∙ ap (λ os. Ok ((os, place), next.lines)) (root_outlines root)

        pub denied_last_fails : (f : Failure) → FailsBy last next f → ReadsRest system s false old (Err f)
        denied_last_fails Memory h = tt
        denied_last_fails (Fault k number) h =
            let g = second_fails (at_values false system s) (λ x. last) (outlines (pieces_list root), place) old next (Fault k number) values_read (went.last ∙ took.last) h in
            stopped_denied system some s old k number g.rest (ended (denied false system s) old.lines g.rest k g.read) named g.counted

        pub denied_end_fails : (end : Cursor) (f : Failure) → Takes (formed heads.End [] ∷ []) next end → ReadsEnd end (Err f) → ReadsRest system s false old (Err f)
        denied_end_fails end Memory off h = tt
        denied_end_fails end (Fault k number) off h =
            let left = h.1 in
            let done : (denied false system s).read old.lines ≡ Ok (tt, end.lines)
            = then_read (at_values false system s) (λ x. last) old.lines (outlines (pieces_list root), place) next.lines values_read ∙ ap last.read off.lines ∙ last_read end.lines in
            let e : read_all Syntax (denied false system s) old.lines ≡ fault k (left.first ∷ left.behind)
            = ap (λ o. o >>= λ x. at_end Syntax x.0 x.1) (done ∙ ap (λ ls. Ok (tt, ls)) left.lines) ∙ ap (λ j. fault j (left.first ∷ left.behind)) (sym h.0) in
            stopped_denied system some s old k number (left.first ∷ left.behind) e named
            (let a = took.last in let b = went.last in let c = off.last in let d = ap length left.lines in let n = left.counted in omega (arith, a, b, c, d, n))
