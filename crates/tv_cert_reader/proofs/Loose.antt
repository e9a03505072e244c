-- A grammar that lets one split more through asks less.
use Rattle.std.proofs.Common.{ℕ, zero, suc, ◌+◌, ◌<◌, ℤ, Bool, true, false, List, [], ◌∷◌, length, Option, Some, None, refl}
use Rattle.std.specs.Prelude.{slice_get, ◌==◌}
use Rattle.tv_grammar.specs.Langs.{unit, go}
use Rattle.tv_grammar.specs.Exact.{Exact}
use Rattle.tv_grammar.specs.Faults.{AllKept, Loosens, LoosensBranch}
use Rattle.tv_grammar.proofs.ExactLemmas.{unit_exact, then_exact, mapped_exact}
use Rattle.tv_grammar.proofs.LooseLemmas.{unit_loose, then_loose, mapped_loose, each_loose, same_loose, headed_loose}
use Rattle.tv_lines.specs.Lines.{PlainLine, formed, formless, wide}
use Rattle.tv_lines.specs.declared.head.Head.{Head}
use Rattle.tv_lines.specs.declared.head.Head.TheVariants as heads
use Rattle.tv_cases.specs.LinearCases.{CaseSystem, leaving}
use Rattle.tv_cert.specs.Statements.{Statement, rows, here, elsewhere, ends, never_ends, each_of, one_of, after, along, unsaid, Statements, no_statement, statement}
use Rattle.tv_cert_reader.specs.declared.kind.LineKind.{LineKind}
use Rattle.tv_cert_reader.specs.declared.kind.LineKind.TheVariants.{Syntax, Wide, Deep, Shape}
use Rattle.tv_cert_reader.specs.Demands.{Outline, Demand, a_cover, a_choice, demands, into_counts, no_counts}
use Rattle.tv_cert_reader.specs.LineGrammar.{Grammar, Behind, line, sized, is_header, is_end, many, by, draw, with_two, with_three, Region, region}
use Rattle.tv_cert_reader.specs.CoverGrammar.{lists_behind, empty_behind, sides_behind, cover_cases, too_deep, both, cover}
use Rattle.tv_cert_reader.specs.ChoiceGrammar.{Choosing, stop_cover, no_step, no_step_behind, Taken, taken_case, take_behind, choice_cases, choice, demanded}
use Rattle.tv_cert_reader.specs.NodeGrammar.{proofs, over_children, in_front, node, nodes}
use Rattle.tv_cert_reader.specs.CertificateGrammar.{Sides, said_line, at_line, proved, at_values, denied, said, certificate}
use Rattle.tv_cert_reader.proofs.ExactLines.{last_exact}
use Rattle.tv_cert_reader.proofs.ExactCovers.{both_exact, cover_exact, stop_cover_exact, choice_exact, demanded_exact}
use Rattle.tv_cert_reader.proofs.ExactNodes.{proofs_exact, in_front_exact, said_line_exact, at_line_exact, node_exact, nodes_exact, said_exact}
use Rattle.tv_cert_reader.proofs.LineKinds.{Allows, line_kinded, many_kinded, region_kinded, both_kinded}

-- every kind but that of a split that is too deep
abbrev pub not_deep : LineKind → Bool
not_deep Syntax = true
not_deep Wide = true
not_deep Deep = false
not_deep Shape = true

abbrev pub Looser : {X : Type 0} → Grammar X → Grammar X → Type 0
Looser l m = Loosens not_deep l m

abbrev LooserBranch : {X : Type 0} → Behind X → Behind X → Type 0
LooserBranch b c = LoosensBranch not_deep b c

-- ---- what is the same in both

all_allowed : Allows (AllKept not_deep)
all_allowed = record { none = refl; formless = refl; wide = refl; shape = λ head zs. refl }

line_loose : {X : Type 0} (f : Head → List ℤ → Option X) → Looser (line f) (line f)
line_loose f = same_loose not_deep (line f) (line_kinded (AllKept not_deep) all_allowed f)

region_loose : (system : CaseSystem) (s : Statement) → Looser (region system s) (region system s)
region_loose system s = same_loose not_deep (region system s) (region_kinded (AllKept not_deep) all_allowed system s)

many_loose : (count : ℕ) (f : Head → List ℤ → Option (Unit {0})) → Looser (many count (line f)) (many count (line f))
many_loose count f = same_loose not_deep (many count (line f)) (many_kinded (AllKept not_deep) all_allowed count (line f) (line_kinded (AllKept not_deep) all_allowed f))

both_loose : (a c b d : Grammar (Unit {0})) → Looser a c → Looser b d → Exact d → Looser (both a b) (both c d)
both_loose a c b d h i e = then_loose not_deep a c (λ x. b) (λ x. d) h (λ x. i) (λ x. e)

lists_loose : (known : ℕ) (o : Option ℕ) → LooserBranch (lists_behind known o) (lists_behind known o)
lists_loose known None = (refl, refl)
lists_loose known (Some count) = many_loose count _

empty_loose : (fits : Bool) → LooserBranch (empty_behind fits) (empty_behind fits)
empty_loose true = unit_loose not_deep tt
empty_loose false = (refl, refl)

take_loose : (n known : ℕ) (o : Option Taken) → LooserBranch (take_behind n known o) (take_behind n known o)
take_loose n known None = (refl, refl)
take_loose n known (Some t) = same_loose not_deep _ (both_kinded (AllKept not_deep) all_allowed _ _ (many_kinded (AllKept not_deep) all_allowed t.case.draws (draw n) (line_kinded (AllKept not_deep) all_allowed _)) (many_kinded (AllKept not_deep) all_allowed (length t.case.guards + t.owed) (by (known + 1)) (line_kinded (AllKept not_deep) all_allowed _)))

-- ---- covers

-- what may stand after a split asks less, whichever numbers it has
abbrev SidesLooser : (Bool → Behind (Unit {0})) → (Bool → Behind (Unit {0})) → Type 0
SidesLooser b c = (wanted : Bool) → LooserBranch (b wanted) (c wanted)

too_deep_loose : SidesLooser (too_deep false) (too_deep true)
too_deep_loose wanted = (refl, unit_exact tt)

sides_loose : (l m : Grammar (Unit {0})) → Looser l m → SidesLooser (sides_behind (go l)) (sides_behind (go m))
sides_loose l m h true = h
sides_loose l m h false = (refl, refl)

cover_branch : (b c : Bool → Behind (Unit {0})) → SidesLooser b c → (width known : ℕ) (counts : ℕ → ℕ → Option ℕ) (t : PlainLine) → LooserBranch (cover_cases b width known counts t) (cover_cases c width known counts t)
cover_branch b c h width known counts (formed heads.Split zs) = h (length zs == width + 1)
cover_branch b c h width known counts (formed heads.Empty zs) = empty_loose (length zs == known)
cover_branch b c h width known counts (formed heads.Into zs) = lists_loose known (with_two zs counts)
cover_branch b c h width known counts (formed _ zs) = (refl, refl)
cover_branch b c h width known counts formless = (refl, refl)
cover_branch b c h width known counts wide = (refl, refl)

pub cover_loose : (left width known : ℕ) (counts : ℕ → ℕ → Option ℕ) → Looser (cover false left width known counts) (cover true left width known counts)
unfolding cover
cover_loose zero width known counts = headed_loose not_deep Syntax _ _ refl (cover_branch (too_deep false) (too_deep true) too_deep_loose width known counts)
cover_loose (suc left) width known counts =
    let side = cover_loose left width (known + 1) counts in
    let exact = cover_exact true left width (known + 1) counts in
    headed_loose not_deep Syntax _ _ refl (cover_branch _ _ (sides_loose (both (cover false left width (known + 1) counts) (cover false left width (known + 1) counts)) (both (cover true left width (known + 1) counts) (cover true left width (known + 1) counts)) (both_loose _ _ _ _ side side exact)) width known counts)

-- ---- choices

no_step_loose : (left : ℕ) (x : Choosing) (known : ℕ) → Looser (no_step false left x known) (no_step true left x known)
no_step_loose left x known = mapped_loose not_deep (λ all. tt) _ _ (each_loose not_deep (stop_cover false left x.variables known) (stop_cover true left x.variables known) (leaving x.place x.cases) (stop_cover_exact true left x.variables known) (λ c. cover_loose left (x.variables + c.draws) (known + length c.guards) no_counts))

no_step_branch : (l m : Grammar (Unit {0})) → Looser l m → (may_stop : Bool) → LooserBranch (no_step_behind l may_stop) (no_step_behind m may_stop)
no_step_branch l m h true = h
no_step_branch l m h false = (refl, refl)

choice_branch : (b c : Bool → Behind (Unit {0})) → SidesLooser b c → (l m : Grammar (Unit {0})) → Looser l m → (x : Choosing) (known : ℕ) (t : PlainLine) → LooserBranch (choice_cases b l x known t) (choice_cases c m x known t)
choice_branch b c h l m i x known (formed heads.Split zs) = h (length zs == x.variables + 1)
choice_branch b c h l m i x known (formed heads.Empty zs) = empty_loose (length zs == known)
choice_branch b c h l m i x known (formed heads.NoStep zs) = no_step_branch l m i x.may_stop
choice_branch b c h l m i x known (formed heads.Take zs) = take_loose x.variables known (with_three zs (λ c k j. taken_case x.place x.counts (slice_get x.cases c) k j))
choice_branch b c h l m i x known (formed _ zs) = (refl, refl)
choice_branch b c h l m i x known formless = (refl, refl)
choice_branch b c h l m i x known wide = (refl, refl)

pub choice_loose : (left : ℕ) (x : Choosing) (known : ℕ) → Looser (choice false left x known) (choice true left x known)
unfolding choice
choice_loose zero x known = headed_loose not_deep Syntax _ _ refl (choice_branch (too_deep false) (too_deep true) too_deep_loose (no_step false 0 x known) (no_step true 0 x known) (no_step_loose 0 x known) x known)
choice_loose (suc left) x known =
    let side = choice_loose left x (known + 1) in
    let exact = choice_exact true left x (known + 1) in
    headed_loose not_deep Syntax _ _ refl (choice_branch _ _ (sides_loose (both (choice false left x (known + 1)) (choice false left x (known + 1))) (both (choice true left x (known + 1)) (choice true left x (known + 1))) (both_loose _ _ _ _ side side exact)) (no_step false (suc left) x known) (no_step true (suc left) x known) (no_step_loose (suc left) x known) x known)

pub demanded_loose : (d : Demand) → Looser (demanded false d) (demanded true d)
demanded_loose (a_cover width known counts) = cover_loose 128 width known counts
demanded_loose (a_choice n cases l may_stop known counts) = choice_loose 128 (record { variables = n; cases = cases; place = l; may_stop = may_stop; counts = counts }) known

-- ---- nodes and certificates

pub proofs_loose : (system : CaseSystem) (s : Statement) (g : Region) (kids : List (List Outline)) → Looser (proofs false system s g kids) (proofs true system s g kids)
proofs_loose system s g kids = mapped_loose not_deep (λ all. tt) _ _ (each_loose not_deep (demanded false) (demanded true) (demands system s g.ranks g.pieces kids) (demanded_exact true) demanded_loose)

in_front_loose : (a c : Grammar (List Outline)) (rest others : Grammar (List (List Outline))) → Looser a c → Looser rest others → Exact others → Looser (in_front a rest) (in_front c others)
in_front_loose a c rest others h i e = then_loose not_deep _ _ _ _ h (λ os. mapped_loose not_deep (λ more. os ∷ more) rest others i) (λ os. mapped_exact (λ more. os ∷ more) others e)

module _ (system : CaseSystem) (some : 0 < system.locations) where
  over_children_loose : (s : Statement) (children others : Grammar (List (List Outline))) → Looser children others → Exact others → Looser (over_children false system s children) (over_children true system s others)
  over_children_loose s children others h e = then_loose not_deep _ _ _ _ (region_loose system s)
      (λ g. then_loose not_deep _ _ _ _ h (λ kids. mapped_loose not_deep (λ x. g.pieces) _ _ (proofs_loose system s g kids)) (λ kids. mapped_exact (λ x. g.pieces) _ (proofs_exact true system s g kids)))
      (λ g. then_exact _ _ e (λ kids. mapped_exact (λ x. g.pieces) _ (proofs_exact true system s g kids)))

  none_loose : (s : Statement) → Looser (over_children false system s (unit [])) (over_children true system s (unit []))
  none_loose s = over_children_loose s _ _ (unit_loose not_deep []) (unit_exact [])

  one_loose : (s : Statement) → Looser (node false system s) (node true system s) → Looser (in_front (node false system s) (unit [])) (in_front (node true system s) (unit []))
  one_loose s h = in_front_loose _ _ _ _ h (unit_loose not_deep []) (unit_exact [])

  one_exact : (s : Statement) → Exact (in_front (node true system s) (unit []))
  one_exact s = in_front_exact _ _ (node_exact true system some s) (unit_exact [])

  mutual
    pub node_loose : (s : Statement) → Looser (node false system s) (node true system s)
    node_loose (rows lists) = none_loose (rows lists)
    node_loose (here l) = none_loose (here l)
    node_loose (elsewhere l) = none_loose (elsewhere l)
    node_loose ends = none_loose ends
    node_loose never_ends = none_loose never_ends
    node_loose (each_of ss) = over_children_loose (each_of ss) _ _ (nodes_loose ss) (nodes_exact true system some ss)
    node_loose (one_of ss) = over_children_loose (one_of ss) _ _ (nodes_loose ss) (nodes_exact true system some ss)
    node_loose (after path s) = over_children_loose (after path s) _ _ (one_loose s (node_loose s)) (one_exact s)
    node_loose (along path shape s t) = over_children_loose (along path shape s t) _ _ (in_front_loose _ _ _ _ (node_loose s) (one_loose t (node_loose t)) (one_exact t)) (in_front_exact _ _ (node_exact true system some s) (one_exact t))
    node_loose unsaid = none_loose unsaid

    pub nodes_loose : (ss : Statements) → Looser (nodes false system ss) (nodes true system ss)
    nodes_loose no_statement = unit_loose not_deep []
    nodes_loose (statement s ss) = in_front_loose _ _ _ _ (node_loose s) (nodes_loose ss) (nodes_exact true system some ss)

  pub at_values_loose : (s : Statement) → Looser (at_values false system s) (at_values true system s)
  at_values_loose s = then_loose not_deep _ _ _ _ (node_loose s)
      (λ os. then_loose not_deep _ _ _ _ (line_loose (at_line system.variables)) (λ k. unit_loose not_deep (os, k)) (λ k. unit_exact (os, k)))
      (λ os. then_exact _ _ (at_line_exact system.variables) (λ k. unit_exact (os, k)))

  pub proved_loose : (s : Statement) → Looser (proved false system s) (proved true system s)
  proved_loose s = then_loose not_deep _ _ _ _ (node_loose s)
      (λ os. both_loose _ _ _ _ (cover_loose 128 system.variables 0 (into_counts None os system.start)) (line_loose (sized is_end 0)) last_exact)
      (λ os. both_exact _ _ (cover_exact true 128 system.variables 0 (into_counts None os system.start)) last_exact)

  pub denied_loose : (s : Statement) → Looser (denied false system s) (denied true system s)
  denied_loose s = then_loose not_deep _ _ _ _ (at_values_loose s) (λ x. line_loose (sized is_end 0)) (λ x. last_exact)

  said_loose : (sides : Sides) (verdict : Bool) → Looser (said false system sides verdict) (said true system sides verdict)
  said_loose sides true = proved_loose sides.proved
  said_loose sides false = denied_loose sides.denied

  pub certificate_loose : (sides : Sides) → Looser (certificate false system sides) (certificate true system sides)
  certificate_loose sides = both_loose _ _ _ _ (line_loose (sized is_header 0))
      (then_loose not_deep _ _ _ _ (line_loose said_line) (said_loose sides) (said_exact true system some sides))
      (then_exact _ _ said_line_exact (said_exact true system some sides))
