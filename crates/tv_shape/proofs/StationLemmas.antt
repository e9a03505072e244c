-- The nodes of a certificate one after another.
use Rattle.std.proofs.Common.{◌≡◌, ◌^◌, ℕ, zero, suc, ◌+◌, ◌<◌, ◌≤◌, List, [], ◌∷◌, ◌++◌, length, drop, get_or, arith, refl, sym, ap, ◌∙◌, subst, append_assoc, drop-cons}
use Rattle.tv_linear.proofs.ListLaws.{drop_past}
use Rattle.tv_cases.specs.LinearCases.{CaseSystem}
use Rattle.tv_cert.specs.declared.node.Node.{Node, Node', Row_of-Node, end_of-Node, more_of-Node, items-the_row-Node}
use Rattle.tv_cert.specs.Nodes.{size}
use Rattle.tv_cert.specs.Statements.{Statement, Statements, no_statement, statement, parts_of, count, part_at}
use Rattle.tv_cert.proofs.NodeLemmas.{sizes_list, kids_of, out_is, size_is}
use Rattle.tv_cert.proofs.StatedLemmas.{past, past_more}
use Rattle.tv_shape.specs.Stations.{Station, station, stations, kid_stations, AreRight, IsRight, IsFaultAt, IsFirstMisshapen}
use Rattle.tv_shape.specs.declared.fault.ShapeFault.{ShapeFault}
use Rattle.std.proofs.lemmas.List.{append-nil}

abbrev pub station_list : ℕ → ℕ → Statements → List Node → List Station
station_list number depth ss [] = []
station_list number depth no_statement (a ∷ kids) = []
station_list number depth (statement s ss) (a ∷ kids) = stations number depth s a ++ station_list (number + size a) depth ss kids

station_list_is : {k : _} (number depth : ℕ) (ss : Statements) (kids : Row_of-Node k) → kid_stations number depth ss kids ≡ station_list number depth ss (items-the_row-Node k kids)
station_list_is number depth no_statement end_of-Node = refl
station_list_is number depth (statement s ss) end_of-Node = refl
station_list_is number depth no_statement (more_of-Node a kids) = refl
station_list_is number depth (statement s ss) (more_of-Node a kids) = ap (λ ts. stations number depth s a ++ ts) (station_list_is (number + size a) depth ss kids)

pub stations_are : (number depth : ℕ) (s : Statement) (node : Node) → stations number depth s node ≡ station number depth s node ∷ station_list (number + 1) (depth + 1) (parts_of s) (kids_of node)
stations_are number depth s (Node' ps m shape kids proofs) =
    ap (λ ts. station number depth s (Node' ps m shape kids proofs) ∷ ts) (station_list_is (number + 1) (depth + 1) (parts_of s) kids ∙ ap (station_list (number + 1) (depth + 1) (parts_of s)) (sym (out_is ps m shape kids proofs)))

-- ---- the first that is misshapen, in lists joined
pub misshapen_left : (system : CaseSystem) (ts us : List Station) (f : ShapeFault) → IsFirstMisshapen system ts f → IsFirstMisshapen system (ts ++ us) f
misshapen_left system ts us f h = record { before = h.before; wrong = h.wrong; after = h.after ++ us; parts = ap (λ xs. xs ++ us) h.parts ∙ append_assoc h.before (h.wrong ∷ h.after) us; right = h.right; fault = h.fault }

pub right_join : (system : CaseSystem) (ts us : List Station) → AreRight system ts → AreRight system us → AreRight system (ts ++ us)
right_join system [] us h k = k
right_join system (t ∷ ts) us h k = (h.0, right_join system ts us h.1 k)

pub misshapen_right : (system : CaseSystem) (ts us : List Station) (f : ShapeFault) → AreRight system ts → IsFirstMisshapen system us f → IsFirstMisshapen system (ts ++ us) f
misshapen_right system ts us f all h = record {
  before = ts ++ h.before;
  wrong = h.wrong;
  after = h.after;
  parts = ap (λ xs. ts ++ xs) h.parts ∙ sym (append_assoc ts h.before (h.wrong ∷ h.after));
  right = right_join system ts h.before all h.right;
  fault = h.fault;
}

pub misshapen_here : (system : CaseSystem) (t : Station) (ts : List Station) (f : ShapeFault) → IsFaultAt system t f → IsFirstMisshapen system (t ∷ ts) f
misshapen_here system t ts f h = record { before = []; wrong = t; after = ts; parts = refl; right = tt; fault = h }

-- ---- the loop over the children
-- where the walk stands before child i
pub record Stands (system : CaseSystem) (ss : Statements) (kids : List Node) (start depth next i : ℕ) : Type 0 where
  pub done : List Station
  pub whole : station_list start depth ss kids ≡ done ++ station_list next depth (past i ss) (drop i kids)
  pub right : AreRight system done
  pub nodes : start + sizes_list kids ≡ next + sizes_list (drop i kids)

module _ (system : CaseSystem) (ss : Statements) (kids : List Node) (start depth next i : ℕ) (many : length kids ≡ count ss) (below : i < length kids) (a : Node) (is : a ≡ get_or kids i a) (h : Stands system ss kids start depth next i) where
  pub part_there : i < count ss
  part_there = omega (arith, many, below)

  kids_there : drop i kids ≡ a ∷ drop (suc i) kids
  kids_there = drop-cons kids i a below ∙ ap (λ x. x ∷ drop (suc i) kids) (sym is)

  rest_there : station_list next depth (past i ss) (drop i kids) ≡ stations next depth (part_at i ss) a ++ station_list (next + size a) depth (past (suc i) ss) (drop (suc i) kids)
  rest_there = (λ k. station_list next depth (past_more i ss part_there k) (kids_there k))

  whole_there : station_list start depth ss kids ≡ (h.done ++ stations next depth (part_at i ss) a) ++ station_list (next + size a) depth (past (suc i) ss) (drop (suc i) kids)
  whole_there = h.whole ∙ ap (λ ts. h.done ++ ts) rest_there ∙ sym (append_assoc h.done (stations next depth (part_at i ss) a) _)

  sizes_there : sizes_list (drop i kids) ≡ size a + sizes_list (drop (suc i) kids)
  sizes_there = ap sizes_list kids_there

  pub nodes_there : start + sizes_list kids < 2 ^ 32 → next + size a < 2 ^ 32
  nodes_there r = let n = h.nodes in omega (arith, r, n, sizes_there)

  pub child_fails : (f : ShapeFault) → IsFirstMisshapen system (stations next depth (part_at i ss) a) f → IsFirstMisshapen system (station_list start depth ss kids) f
  child_fails f k =
      subst (λ ts. IsFirstMisshapen system ts f) (sym whole_there)
      (misshapen_left system (h.done ++ stations next depth (part_at i ss) a) _ f (misshapen_right system h.done (stations next depth (part_at i ss) a) f h.right k))

  pub stands_next : (next' : ℕ) → AreRight system (stations next depth (part_at i ss) a) → next' ≡ next + size a → Stands system ss kids start depth next' (i + 1)
  stands_next next' t k =
      let one : suc i ≡ i + 1 = omega arith in
      let n = h.nodes in
      record {
        done = h.done ++ stations next depth (part_at i ss) a;
        whole = whole_there ∙ (λ j. (h.done ++ stations next depth (part_at i ss) a) ++ station_list (sym k j) depth (past (one j) ss) (drop (one j) kids));
        right = right_join system h.done (stations next depth (part_at i ss) a) h.right t;
        nodes = (let z = ap (λ j. sizes_list (drop j kids)) one in omega (arith, n, sizes_there, k, z));
      }

no_kids : (next depth : ℕ) (ss : Statements) → station_list next depth ss [] ≡ []
no_kids next depth no_statement = refl
no_kids next depth (statement s ss) = refl

-- after the last child
pub stands_ends : (system : CaseSystem) (ss : Statements) (kids : List Node) (start depth next i : ℕ) → length kids ≤ i → Stands system ss kids start depth next i → AreRight system (station_list start depth ss kids) × (next ≡ start + sizes_list kids)
stands_ends system ss kids start depth next i l h =
    let last = drop_past kids i l in
    let all : station_list start depth ss kids ≡ h.done = h.whole ∙ ap (λ ks. h.done ++ station_list next depth (past i ss) ks) last ∙ ap (λ ts. h.done ++ ts) (no_kids next depth (past i ss)) ∙ append-nil h.done in
    let n = h.nodes in
    let z : sizes_list (drop i kids) ≡ 0 = ap sizes_list last in
    (subst (AreRight system) (sym all) h.right, omega (arith, n, z))

-- ---- the node itself, before its children
module _ (system : CaseSystem) (s : Statement) (node : Node) (number depth : ℕ) where
  pub node_fails : (f : ShapeFault) → IsFaultAt system (station number depth s node) f → IsFirstMisshapen system (stations number depth s node) f
  node_fails f h = subst (λ ts. IsFirstMisshapen system ts f) (sym (stations_are number depth s node)) (misshapen_here system (station number depth s node) _ f h)

  pub kids_fail : (f : ShapeFault) → IsRight system (station number depth s node) → IsFirstMisshapen system (station_list (number + 1) (depth + 1) (parts_of s) (kids_of node)) f → IsFirstMisshapen system (stations number depth s node) f
  kids_fail f here h = subst (λ ts. IsFirstMisshapen system ts f) (sym (stations_are number depth s node)) (misshapen_right system (station number depth s node ∷ []) _ f (here, tt) h)

  pub node_right : (next : ℕ) → IsRight system (station number depth s node) → AreRight system (station_list (number + 1) (depth + 1) (parts_of s) (kids_of node)) × (next ≡ (number + 1) + sizes_list (kids_of node)) → AreRight system (stations number depth s node) × (next ≡ number + size node)
  node_right next here h =
      let z = size_is node in
      let n = h.1 in
      (subst (AreRight system) (sym (stations_are number depth s node)) (here, h.0), omega (arith, z, n))
