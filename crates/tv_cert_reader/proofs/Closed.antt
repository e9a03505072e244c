-- Nothing in a certificate goes on after its last line, whatever stands there.
use Rattle.std.proofs.Common.{ℕ, zero, suc, ◌+◌, ℤ, Bool, true, false, List, [], ◌∷◌, length, Option, Some, None, refl}
use Rattle.std.specs.Prelude.{slice_get, ◌==◌}
use Rattle.tv_grammar.specs.Langs.{unit, then, mapped, stop, go, headed, times, each}
use Rattle.tv_grammar.specs.Exact.{Goes, BranchGoes, nowhere, Ends}
use Rattle.tv_grammar.proofs.GoesLemmas.{unit_goes, mapped_goes, headed_goes, behind_goes, times_goes, each_goes, goes_ends}
use Rattle.tv_lines.specs.Lines.{PlainLine, formed, formless, wide}
use Rattle.tv_lines.specs.declared.head.Head.{Head}
use Rattle.tv_lines.specs.declared.head.Head.TheVariants as heads
use Rattle.tv_cases.specs.LinearCases.{CaseSystem, leaving}
use Rattle.tv_cert.specs.Statements.{Statement, rows, here, elsewhere, ends, never_ends, each_of, one_of, after, along, unsaid, Statements, no_statement, statement}
use Rattle.tv_cert.specs.Shapes.{may_be_done}
use Rattle.tv_cert_reader.specs.declared.kind.LineKind.{LineKind}
use Rattle.tv_cert_reader.specs.declared.kind.LineKind.TheVariants.{Syntax}
use Rattle.tv_cert_reader.specs.Demands.{Outline, Demand, a_cover, a_choice, demands, into_counts, no_counts}
use Rattle.tv_cert_reader.specs.LineGrammar.{Grammar, Behind, line_branch, line_cases, line, sized, is_end, row, rank, draw, by, header, last, many, with_two, with_three, rank_count, piece, Region, region_of, region}
use Rattle.tv_cert_reader.specs.CoverGrammar.{lists_behind, empty_behind, sides_behind, cover_cases, too_deep, both, cover}
use Rattle.tv_cert_reader.specs.ChoiceGrammar.{Choosing, stop_cover, no_step, no_step_behind, Taken, taken_case, take_behind, choice_cases, choice, demanded}
use Rattle.tv_cert_reader.specs.NodeGrammar.{proofs, over_children, in_front, node, nodes}
use Rattle.tv_cert_reader.specs.CertificateGrammar.{Sides, at_line, proved, at_values, denied, said, certificate}

-- no derivation goes on
pub record Closed {X : Type 0} (l : Grammar X) : Type 0 where
  pub goes : Goes l nowhere

abbrev ClosedBranch : {X : Type 0} → Behind X → Type 0
ClosedBranch (stop k) = Unit {0}
ClosedBranch (go l) = Closed l

unit_closed : {X : Type 0} (x : X) → Closed (unit x)
unit_closed x = record { goes = unit_goes LineKind x }

then_closed : {X Y : Type 0} (a : Grammar X) (b : X → Grammar Y) → Closed a → ((x : X) → Closed (b x)) → Closed (then a b)
then_closed a b h i = record { goes = behind_goes a b nowhere h.goes (λ x. (i x).goes) }

mapped_closed : {X Y : Type 0} (f : X → Y) (l : Grammar X) → Closed l → Closed (mapped f l)
mapped_closed f l h = record { goes = mapped_goes f l nowhere h.goes }

branch_goes : {X : Type 0} (b : Behind X) → ClosedBranch b → BranchGoes b nowhere
branch_goes (stop k) h d t = absurd d
branch_goes (go l) h d t = h.goes d t

headed_closed : {X : Type 0} (cases : PlainLine → Behind X) → ((t : PlainLine) → ClosedBranch (cases t)) → Closed (headed Syntax cases)
headed_closed cases h = record { goes = headed_goes Syntax cases nowhere (λ t. branch_goes (cases t) (h t)) }

times_closed : {X : Type 0} (n : ℕ) (l : Grammar X) → Closed l → Closed (times n l)
times_closed n l h = record { goes = times_goes n l h.goes }

each_closed : {A X : Type 0} (l : A → Grammar X) (for : List A) → ((a : A) → Closed (l a)) → Closed (each l for)
each_closed l for h = record { goes = each_goes l for (λ a. (h a).goes) }

-- ---- lines and pieces

line_branch_closed : {X : Type 0} (o : Option X) → ClosedBranch (line_branch o)
line_branch_closed None = tt
line_branch_closed (Some x) = unit_closed x

line_cases_closed : {X : Type 0} (f : Head → List ℤ → Option X) (t : PlainLine) → ClosedBranch (line_cases f t)
line_cases_closed f (formed head zs) = line_branch_closed (f head zs)
line_cases_closed f formless = tt
line_cases_closed f wide = tt

line_closed : {X : Type 0} (f : Head → List ℤ → Option X) → Closed (line f)
line_closed f = headed_closed (line_cases f) (line_cases_closed f)

many_closed : (count : ℕ) (l : Grammar (Unit {0})) → Closed l → Closed (many count l)
many_closed count l h = mapped_closed (λ all. tt) (times count l) (times_closed count l h)

piece_closed : (system : CaseSystem) (m : ℕ) (done : Bool) → Closed (piece system m done)
piece_closed system m done = then_closed _ _ (line_closed _) (λ o.
    then_closed _ _ (many_closed o.rows (row system.variables) (line_closed _)) (λ x.
    mapped_closed (λ y. o) (many (rank_count m o.going) (rank system.variables)) (many_closed (rank_count m o.going) (rank system.variables) (line_closed _))))

region_closed : (system : CaseSystem) (s : Statement) → Closed (region system s)
region_closed system s = then_closed _ _ (line_closed _) (λ x.
    mapped_closed (region_of x.ranks) (times x.pieces (piece system x.ranks (may_be_done s))) (times_closed x.pieces (piece system x.ranks (may_be_done s)) (piece_closed system x.ranks (may_be_done s))))

-- ---- covers and choices

both_closed : (a b : Grammar (Unit {0})) → Closed a → Closed b → Closed (both a b)
both_closed a b h i = then_closed a (λ x. b) h (λ x. i)

lists_closed : (known : ℕ) (o : Option ℕ) → ClosedBranch (lists_behind known o)
lists_closed known None = tt
lists_closed known (Some count) = many_closed count (by (known + 1)) (line_closed _)

empty_closed : (fits : Bool) → ClosedBranch (empty_behind fits)
empty_closed true = unit_closed tt
empty_closed false = tt

sides_closed : (sides : Behind (Unit {0})) → ClosedBranch sides → (wanted : Bool) → ClosedBranch (sides_behind sides wanted)
sides_closed (stop k) h wanted = tt
sides_closed (go l) h true = h
sides_closed (go l) h false = tt

too_deep_closed : (over wanted : Bool) → ClosedBranch (too_deep over wanted)
too_deep_closed false wanted = tt
too_deep_closed true wanted = unit_closed tt

cover_branch : (sides : Bool → Behind (Unit {0})) → ((wanted : Bool) → ClosedBranch (sides wanted)) → (width known : ℕ) (counts : ℕ → ℕ → Option ℕ) (t : PlainLine) → ClosedBranch (cover_cases sides width known counts t)
cover_branch sides h width known counts (formed heads.Split zs) = h (length zs == width + 1)
cover_branch sides h width known counts (formed heads.Empty zs) = empty_closed (length zs == known)
cover_branch sides h width known counts (formed heads.Into zs) = lists_closed known (with_two zs counts)
cover_branch sides h width known counts (formed _ zs) = tt
cover_branch sides h width known counts formless = tt
cover_branch sides h width known counts wide = tt

cover_closed : (over : Bool) (left width known : ℕ) (counts : ℕ → ℕ → Option ℕ) → Closed (cover over left width known counts)
unfolding cover
cover_closed over zero width known counts = headed_closed _ (cover_branch (too_deep over) (too_deep_closed over) width known counts)
cover_closed over (suc left) width known counts =
    let side = cover_closed over left width (known + 1) counts in
    let a = cover over left width (known + 1) counts in
    headed_closed _ (cover_branch (sides_behind (go (both a a))) (sides_closed (go (both a a)) (both_closed a a side side)) width known counts)

no_step_closed : (over : Bool) (left : ℕ) (x : Choosing) (known : ℕ) → Closed (no_step over left x known)
no_step_closed over left x known = mapped_closed (λ all. tt) (each (stop_cover over left x.variables known) (leaving x.place x.cases)) (each_closed (stop_cover over left x.variables known) (leaving x.place x.cases) (λ c. cover_closed over left (x.variables + c.draws) (known + length c.guards) no_counts))

no_step_branch : (covers : Grammar (Unit {0})) → Closed covers → (may_stop : Bool) → ClosedBranch (no_step_behind covers may_stop)
no_step_branch covers h true = h
no_step_branch covers h false = tt

take_closed : (n known : ℕ) (o : Option Taken) → ClosedBranch (take_behind n known o)
take_closed n known None = tt
take_closed n known (Some x) = both_closed _ _ (many_closed x.case.draws (draw n) (line_closed _)) (many_closed (length x.case.guards + x.owed) (by (known + 1)) (line_closed _))

choice_branch : (sides : Bool → Behind (Unit {0})) → ((wanted : Bool) → ClosedBranch (sides wanted)) → (covers : Grammar (Unit {0})) → Closed covers → (x : Choosing) (known : ℕ) (t : PlainLine) → ClosedBranch (choice_cases sides covers x known t)
choice_branch sides h covers i x known (formed heads.Split zs) = h (length zs == x.variables + 1)
choice_branch sides h covers i x known (formed heads.Empty zs) = empty_closed (length zs == known)
choice_branch sides h covers i x known (formed heads.NoStep zs) = no_step_branch covers i x.may_stop
choice_branch sides h covers i x known (formed heads.Take zs) = take_closed x.variables known (with_three zs (λ c k j. taken_case x.place x.counts (slice_get x.cases c) k j))
choice_branch sides h covers i x known (formed _ zs) = tt
choice_branch sides h covers i x known formless = tt
choice_branch sides h covers i x known wide = tt

choice_closed : (over : Bool) (left : ℕ) (x : Choosing) (known : ℕ) → Closed (choice over left x known)
unfolding choice
choice_closed over zero x known = headed_closed _ (choice_branch (too_deep over) (too_deep_closed over) (no_step over 0 x known) (no_step_closed over 0 x known) x known)
choice_closed over (suc left) x known =
    let side = choice_closed over left x (known + 1) in
    let a = choice over left x (known + 1) in
    headed_closed _ (choice_branch (sides_behind (go (both a a))) (sides_closed (go (both a a)) (both_closed a a side side)) (no_step over (suc left) x known) (no_step_closed over (suc left) x known) x known)

demanded_closed : (over : Bool) (d : Demand) → Closed (demanded over d)
demanded_closed over (a_cover width known counts) = cover_closed over 128 width known counts
demanded_closed over (a_choice n cases l may_stop known counts) = choice_closed over 128 (record { variables = n; cases = cases; place = l; may_stop = may_stop; counts = counts }) known

-- ---- nodes and certificates

proofs_closed : (over : Bool) (system : CaseSystem) (s : Statement) (g : Region) (kids : List (List Outline)) → Closed (proofs over system s g kids)
proofs_closed over system s g kids = mapped_closed (λ all. tt) (each (demanded over) (demands system s g.ranks g.pieces kids)) (each_closed (demanded over) (demands system s g.ranks g.pieces kids) (demanded_closed over))

in_front_closed : (a : Grammar (List Outline)) (rest : Grammar (List (List Outline))) → Closed a → Closed rest → Closed (in_front a rest)
in_front_closed a rest h i = then_closed _ _ h (λ os. mapped_closed (λ more. os ∷ more) rest i)

module _ (over : Bool) (system : CaseSystem) where
  over_children_closed : (s : Statement) (children : Grammar (List (List Outline))) → Closed children → Closed (over_children over system s children)
  over_children_closed s children h = then_closed _ _ (region_closed system s) (λ g. then_closed _ _ h (λ kids. mapped_closed (λ x. g.pieces) (proofs over system s g kids) (proofs_closed over system s g kids)))

  mutual
    pub node_closed : (s : Statement) → Closed (node over system s)
    node_closed (rows lists) = over_children_closed (rows lists) _ (unit_closed [])
    node_closed (here l) = over_children_closed (here l) _ (unit_closed [])
    node_closed (elsewhere l) = over_children_closed (elsewhere l) _ (unit_closed [])
    node_closed ends = over_children_closed ends _ (unit_closed [])
    node_closed never_ends = over_children_closed never_ends _ (unit_closed [])
    node_closed (each_of ss) = over_children_closed (each_of ss) _ (nodes_closed ss)
    node_closed (one_of ss) = over_children_closed (one_of ss) _ (nodes_closed ss)
    node_closed (after path s) = over_children_closed (after path s) _ (in_front_closed _ _ (node_closed s) (unit_closed []))
    node_closed (along path shape s t) = over_children_closed (along path shape s t) _ (in_front_closed _ _ (node_closed s) (in_front_closed _ _ (node_closed t) (unit_closed [])))
    node_closed unsaid = over_children_closed unsaid _ (unit_closed [])

    nodes_closed : (ss : Statements) → Closed (nodes over system ss)
    nodes_closed no_statement = unit_closed []
    nodes_closed (statement s ss) = in_front_closed _ _ (node_closed s) (nodes_closed ss)

  at_values_closed : (s : Statement) → Closed (at_values over system s)
  at_values_closed s = then_closed _ _ (node_closed s) (λ os. then_closed _ _ (line_closed (at_line system.variables)) (λ k. unit_closed (os, k)))

  proved_closed : (s : Statement) → Closed (proved over system s)
  proved_closed s = then_closed _ _ (node_closed s) (λ os. both_closed (cover over 128 system.variables 0 (into_counts None os system.start)) last (cover_closed over 128 system.variables 0 (into_counts None os system.start)) (line_closed _))

  denied_closed : (s : Statement) → Closed (denied over system s)
  denied_closed s = then_closed _ _ (at_values_closed s) (λ x. line_closed (sized is_end 0))

  said_closed : (sides : Sides) (verdict : Bool) → Closed (said over system sides verdict)
  said_closed sides true = proved_closed sides.proved
  said_closed sides false = denied_closed sides.denied

  pub certificate_closed : (sides : Sides) → Closed (certificate over system sides)
  certificate_closed sides = both_closed header _ (line_closed _) (then_closed _ _ (line_closed _) (said_closed sides))

  -- a whole text may end
  pub certificate_ends : (sides : Sides) → Ends (certificate over system sides)
  certificate_ends sides = goes_ends (certificate over system sides) nowhere (certificate_closed sides).goes refl
