-- The kind of a fault is one that its line can have.
use Rattle.std.proofs.Common.{◌≡◌, ℕ, zero, suc, ◌+◌, ℤ, Bool, true, false, List, [], ◌∷◌, length, Option, Some, None, refl}
use Rattle.std.specs.Prelude.{slice_get, ◌==◌}
use Rattle.tv_grammar.specs.Langs.{go, times}
use Rattle.tv_grammar.specs.Faults.{Kinded, KindedBranch}
use Rattle.tv_grammar.proofs.KindLemmas.{unit_kinded, then_kinded, mapped_kinded, headed_kinded, times_kinded, each_kinded}
use Rattle.tv_lines.specs.Lines.{PlainLine, formed, formless, wide}
use Rattle.tv_lines.specs.declared.head.Head.{Head}
use Rattle.tv_lines.specs.declared.head.Head.TheVariants as heads
use Rattle.tv_cases.specs.LinearCases.{CaseSystem, leaving}
use Rattle.tv_cert.specs.Statements.{Statement, rows, here, elsewhere, ends, never_ends, each_of, one_of, after, along, unsaid, Statements, no_statement, statement}
use Rattle.tv_cert.specs.Shapes.{may_be_done}
use Rattle.tv_cert_reader.specs.declared.kind.LineKind.{LineKind}
use Rattle.tv_cert_reader.specs.declared.kind.LineKind.TheVariants.{Syntax, Wide, Deep, Shape}
use Rattle.tv_cert_reader.specs.Demands.{Outline, Demand, a_cover, a_choice, demands, into_counts, no_counts}
use Rattle.tv_cert_reader.specs.LineGrammar.{Grammar, Behind, line_branch, line_cases, line, sized, is_end, row, rank, draw, by, many, with_two, with_three, rank_count, piece, Region, region_of, region}
use Rattle.tv_cert_reader.specs.CoverGrammar.{lists_behind, empty_behind, sides_behind, cover_cases, too_deep, both, cover}
use Rattle.tv_cert_reader.specs.ChoiceGrammar.{Choosing, stop_cover, no_step, no_step_behind, Taken, taken_case, take_behind, choice_cases, choice, demanded}
use Rattle.tv_cert_reader.specs.NodeGrammar.{proofs, over_children, in_front, node, nodes}
use Rattle.tv_cert_reader.specs.CertificateGrammar.{Sides, said_line, at_line, proved, at_values, denied, said, certificate, CanBe}

-- what is allowed of kinds allows those that lines have, but for a split that is too deep
pub record Allows (P : LineKind → Option PlainLine → Type 0) : Type 0 where
  pub none : P Syntax None
  pub formless : P Syntax (Some formless)
  pub wide : P Wide (Some wide)
  pub shape : (head : Head) (zs : List ℤ) → P Shape (Some (formed head zs))

module _ (P : LineKind → Option PlainLine → Type 0) (allows : Allows P) where
  -- ---- lines and pieces

  line_branch_kinded : {X : Type 0} (head : Head) (zs : List ℤ) (o : Option X) → KindedBranch P (formed head zs) (line_branch o)
  line_branch_kinded head zs None = allows.shape head zs
  line_branch_kinded head zs (Some x) = unit_kinded P x

  line_cases_kinded : {X : Type 0} (f : Head → List ℤ → Option X) (t : PlainLine) → KindedBranch P t (line_cases f t)
  line_cases_kinded f (formed head zs) = line_branch_kinded head zs (f head zs)
  line_cases_kinded f formless = allows.formless
  line_cases_kinded f wide = allows.wide

  pub line_kinded : {X : Type 0} (f : Head → List ℤ → Option X) → Kinded P (line f)
  line_kinded f = headed_kinded P Syntax (line_cases f) allows.none (line_cases_kinded f)

  pub many_kinded : (count : ℕ) (l : Grammar (Unit {0})) → Kinded P l → Kinded P (many count l)
  many_kinded count l h = mapped_kinded P (λ all. tt) (times count l) (times_kinded P count l h)

  pub piece_kinded : (system : CaseSystem) (m : ℕ) (done : Bool) → Kinded P (piece system m done)
  piece_kinded system m done = then_kinded P _ _ (line_kinded _) (λ o.
      then_kinded P _ _ (many_kinded o.rows (row system.variables) (line_kinded _)) (λ x.
      mapped_kinded P (λ y. o) _ (many_kinded (rank_count m o.going) (rank system.variables) (line_kinded _))))

  pub region_kinded : (system : CaseSystem) (s : Statement) → Kinded P (region system s)
  region_kinded system s = then_kinded P _ _ (line_kinded _) (λ x.
      mapped_kinded P (region_of x.ranks) _ (times_kinded P x.pieces _ (piece_kinded system x.ranks (may_be_done s))))

  -- ---- covers and choices

  pub both_kinded : (a b : Grammar (Unit {0})) → Kinded P a → Kinded P b → Kinded P (both a b)
  both_kinded a b h i = then_kinded P a (λ x. b) h (λ x. i)

  pub lists_kinded : (head : Head) (zs : List ℤ) (known : ℕ) (o : Option ℕ) → KindedBranch P (formed head zs) (lists_behind known o)
  lists_kinded head zs known None = allows.shape head zs
  lists_kinded head zs known (Some count) = many_kinded count (by (known + 1)) (line_kinded _)

  pub empty_kinded : (head : Head) (zs : List ℤ) (fits : Bool) → KindedBranch P (formed head zs) (empty_behind fits)
  empty_kinded head zs true = unit_kinded P tt
  empty_kinded head zs false = allows.shape head zs

  pub take_kinded : (head : Head) (zs : List ℤ) (n known : ℕ) (o : Option Taken) → KindedBranch P (formed head zs) (take_behind n known o)
  take_kinded head zs n known None = allows.shape head zs
  take_kinded head zs n known (Some t) = both_kinded _ _ (many_kinded t.case.draws (draw n) (line_kinded _)) (many_kinded (length t.case.guards + t.owed) (by (known + 1)) (line_kinded _))

  -- what may stand after a split is told of whichever numbers it has
  abbrev Sides_told : (Bool → Behind (Unit {0})) → Type 0
  Sides_told sides = (zs : List ℤ) (wanted : Bool) → KindedBranch P (formed heads.Split zs) (sides wanted)

  sides_kinded : (l : Grammar (Unit {0})) → Kinded P l → Sides_told (sides_behind (go l))
  sides_kinded l h zs true = h
  sides_kinded l h zs false = allows.shape heads.Split zs

  cover_branch : (sides : Bool → Behind (Unit {0})) → Sides_told sides → (width known : ℕ) (counts : ℕ → ℕ → Option ℕ) (t : PlainLine) → KindedBranch P t (cover_cases sides width known counts t)
  cover_branch sides h width known counts (formed heads.Split zs) = h zs (length zs == width + 1)
  cover_branch sides h width known counts (formed heads.Empty zs) = empty_kinded heads.Empty zs (length zs == known)
  cover_branch sides h width known counts (formed heads.Into zs) = lists_kinded heads.Into zs known (with_two zs counts)
  cover_branch sides h width known counts (formed head zs) = allows.shape head zs
  cover_branch sides h width known counts formless = allows.formless
  cover_branch sides h width known counts wide = allows.wide

  no_step_branch : (zs : List ℤ) (covers : Grammar (Unit {0})) → Kinded P covers → (may_stop : Bool) → KindedBranch P (formed heads.NoStep zs) (no_step_behind covers may_stop)
  no_step_branch zs covers h true = h
  no_step_branch zs covers h false = allows.shape heads.NoStep zs

  choice_branch : (sides : Bool → Behind (Unit {0})) → Sides_told sides → (covers : Grammar (Unit {0})) → Kinded P covers → (x : Choosing) (known : ℕ) (t : PlainLine) → KindedBranch P t (choice_cases sides covers x known t)
  choice_branch sides h covers i x known (formed heads.Split zs) = h zs (length zs == x.variables + 1)
  choice_branch sides h covers i x known (formed heads.Empty zs) = empty_kinded heads.Empty zs (length zs == known)
  choice_branch sides h covers i x known (formed heads.NoStep zs) = no_step_branch zs covers i x.may_stop
  choice_branch sides h covers i x known (formed heads.Take zs) = take_kinded heads.Take zs x.variables known (with_three zs (λ c k j. taken_case x.place x.counts (slice_get x.cases c) k j))
  choice_branch sides h covers i x known (formed head zs) = allows.shape head zs
  choice_branch sides h covers i x known formless = allows.formless
  choice_branch sides h covers i x known wide = allows.wide

  module _ (over : Bool) (deep : (zs : List ℤ) → over ≡ false → P Deep (Some (formed heads.Split zs))) where
    too_deep_kinded : (b : Bool) → over ≡ b → Sides_told (too_deep b)
    too_deep_kinded false e zs wanted = deep zs e
    too_deep_kinded true e zs wanted = unit_kinded P tt

    pub cover_kinded : (left width known : ℕ) (counts : ℕ → ℕ → Option ℕ) → Kinded P (cover over left width known counts)
    unfolding cover
    cover_kinded zero width known counts = headed_kinded P Syntax _ allows.none (cover_branch (too_deep over) (too_deep_kinded over refl) width known counts)
    cover_kinded (suc left) width known counts =
        let side = cover_kinded left width (known + 1) counts in
        headed_kinded P Syntax _ allows.none (cover_branch _ (sides_kinded (both (cover over left width (known + 1) counts) (cover over left width (known + 1) counts)) (both_kinded _ _ side side)) width known counts)

    pub no_step_kinded : (left : ℕ) (x : Choosing) (known : ℕ) → Kinded P (no_step over left x known)
    no_step_kinded left x known = mapped_kinded P (λ all. tt) _ (each_kinded P (stop_cover over left x.variables known) (leaving x.place x.cases) (λ c. cover_kinded left (x.variables + c.draws) (known + length c.guards) no_counts))

    pub choice_kinded : (left : ℕ) (x : Choosing) (known : ℕ) → Kinded P (choice over left x known)
    unfolding choice
    choice_kinded zero x known = headed_kinded P Syntax _ allows.none (choice_branch (too_deep over) (too_deep_kinded over refl) (no_step over 0 x known) (no_step_kinded 0 x known) x known)
    choice_kinded (suc left) x known =
        let side = choice_kinded left x (known + 1) in
        headed_kinded P Syntax _ allows.none (choice_branch _ (sides_kinded (both (choice over left x (known + 1)) (choice over left x (known + 1))) (both_kinded _ _ side side)) (no_step over (suc left) x known) (no_step_kinded (suc left) x known) x known)

    pub demanded_kinded : (d : Demand) → Kinded P (demanded over d)
    demanded_kinded (a_cover width known counts) = cover_kinded 128 width known counts
    demanded_kinded (a_choice n cases l may_stop known counts) = choice_kinded 128 (record { variables = n; cases = cases; place = l; may_stop = may_stop; counts = counts }) known

    -- ---- nodes and certificates

    pub proofs_kinded : (system : CaseSystem) (s : Statement) (g : Region) (kids : List (List Outline)) → Kinded P (proofs over system s g kids)
    proofs_kinded system s g kids = mapped_kinded P (λ all. tt) _ (each_kinded P (demanded over) (demands system s g.ranks g.pieces kids) demanded_kinded)

    in_front_kinded : (a : Grammar (List Outline)) (rest : Grammar (List (List Outline))) → Kinded P a → Kinded P rest → Kinded P (in_front a rest)
    in_front_kinded a rest h i = then_kinded P _ _ h (λ os. mapped_kinded P (λ more. os ∷ more) rest i)

    over_children_kinded : (system : CaseSystem) (s : Statement) (children : Grammar (List (List Outline))) → Kinded P children → Kinded P (over_children over system s children)
    over_children_kinded system s children h = then_kinded P _ _ (region_kinded system s) (λ g. then_kinded P _ _ h (λ kids. mapped_kinded P (λ x. g.pieces) _ (proofs_kinded system s g kids)))

    mutual
      pub node_kinded : (system : CaseSystem) (s : Statement) → Kinded P (node over system s)
      node_kinded system (rows lists) = over_children_kinded system (rows lists) _ (unit_kinded P [])
      node_kinded system (here l) = over_children_kinded system (here l) _ (unit_kinded P [])
      node_kinded system (elsewhere l) = over_children_kinded system (elsewhere l) _ (unit_kinded P [])
      node_kinded system ends = over_children_kinded system ends _ (unit_kinded P [])
      node_kinded system never_ends = over_children_kinded system never_ends _ (unit_kinded P [])
      node_kinded system (each_of ss) = over_children_kinded system (each_of ss) _ (nodes_kinded system ss)
      node_kinded system (one_of ss) = over_children_kinded system (one_of ss) _ (nodes_kinded system ss)
      node_kinded system (after path s) = over_children_kinded system (after path s) _ (in_front_kinded _ _ (node_kinded system s) (unit_kinded P []))
      node_kinded system (along path shape s t) = over_children_kinded system (along path shape s t) _ (in_front_kinded _ _ (node_kinded system s) (in_front_kinded _ _ (node_kinded system t) (unit_kinded P [])))
      node_kinded system unsaid = over_children_kinded system unsaid _ (unit_kinded P [])

      pub nodes_kinded : (system : CaseSystem) (ss : Statements) → Kinded P (nodes over system ss)
      nodes_kinded system no_statement = unit_kinded P []
      nodes_kinded system (statement s ss) = in_front_kinded _ _ (node_kinded system s) (nodes_kinded system ss)

    pub at_values_kinded : (system : CaseSystem) (s : Statement) → Kinded P (at_values over system s)
    at_values_kinded system s = then_kinded P _ _ (node_kinded system s) (λ os. then_kinded P _ _ (line_kinded (at_line system.variables)) (λ k. unit_kinded P (os, k)))

    pub proved_kinded : (system : CaseSystem) (s : Statement) → Kinded P (proved over system s)
    proved_kinded system s = then_kinded P _ _ (node_kinded system s) (λ os. both_kinded _ _ (cover_kinded 128 system.variables 0 (into_counts None os system.start)) (line_kinded (sized is_end 0)))

    pub denied_kinded : (system : CaseSystem) (s : Statement) → Kinded P (denied over system s)
    denied_kinded system s = then_kinded P _ _ (at_values_kinded system s) (λ x. line_kinded (sized is_end 0))

    said_kinded : (system : CaseSystem) (sides : Sides) (verdict : Bool) → Kinded P (said over system sides verdict)
    said_kinded system sides true = proved_kinded system sides.proved
    said_kinded system sides false = denied_kinded system sides.denied

    pub certificate_kinded : (system : CaseSystem) (sides : Sides) → Kinded P (certificate over system sides)
    certificate_kinded system sides = both_kinded _ _ (line_kinded _) (then_kinded P _ _ (line_kinded said_line) (said_kinded system sides))

pub can_be_allows : Allows CanBe
can_be_allows = record { none = refl; formless = refl; wide = refl; shape = λ head zs. tt }

pub certificate_can_be : (system : CaseSystem) (sides : Sides) → Kinded CanBe (certificate false system sides)
certificate_can_be = certificate_kinded CanBe can_be_allows false (λ zs e. refl)
