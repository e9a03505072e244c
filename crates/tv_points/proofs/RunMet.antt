-- The nodes of runs fit and are met.
use Rattle.std.proofs.Common.{◌≡◌, ℕ, zero, suc, ◌+◌, ◌-◌, ◌^◌, ◌<◌, List, [], ◌∷◌, ◌++◌, length, All, Some, slice_get, Bool, true, false, if◌then◌else◌, arith, refl, sym, ap, ◌∙◌, subst, ℤ, pos}
use Rattle.std.specs.List.{AllZip, flat_map}
use Rattle.std.proofs.lemmas.List.{length-map}
use Rattle.std.proofs.lemmas.List.Elements.{All-nil, All-cons, All-head, All-tail}
use Rattle.tv_linear.specs.Linear.{columns}
use Rattle.tv_linear.specs.Arithmetic.{unit, constant_row, opposite}
use Rattle.tv_linear.proofs.PlainLists.{length-zeros, length-unit}
use Rattle.tv_formula.specs.declared.tree.Path.TheVariants.{Any}
use Rattle.tv_formula.specs.declared.tree.Shape.TheVariants.{Strong}
use Rattle.tv_cases.specs.LinearCases.{CaseSystem}
use Rattle.tv_cert.specs.declared.node.Kind.TheVariants as kind
use Rattle.tv_cert.specs.declared.node.Marked.{Marked}
use Rattle.tv_cert.specs.declared.node.Node.{Node}
use Rattle.tv_cert.specs.declared.node.Proof.{Proof}
use Rattle.tv_cert.specs.declared.node.Proof.TheVariants.{Covered, Chosen}
use Rattle.tv_cert.specs.Claims.{about_with}
use Rattle.tv_cert.specs.NodeViews.{pieces_list}
use Rattle.tv_cert.specs.Obligations.{fix_of}
use Rattle.tv_cert.specs.Nodes.{piece_of}
use Rattle.tv_cert.specs.Pieces.{place_of, ranks_of, goes}
use Rattle.tv_cert.specs.Shapes.{PieceShape}
use Rattle.tv_cert.proofs.NodeLemmas.{pieces_are}
use Rattle.tv_points.specs.PointRows.{at_most_row, rows_from, point_rows}
use Rattle.tv_points.specs.Nodes.{IsChosenAt, IsBare, IsSecond, AreTwo, IsRunNode, endless, reaches, whole_piece, whole_pieces, AreEnds}
use Rattle.tv_points.specs.StatePieces.{state_piece, state_pieces, rank_rows}
use Rattle.tv_points.specs.States.{IsState}
use Rattle.tv_points.specs.declared.state.State.{State}
use Rattle.tv_shape.specs.Made.{HasOwn, IsOffered}
use Rattle.tv_shape.proofs.MadeLemmas.{node_fitted}
use Rattle.tv_points.proofs.BareMet.{LeadsInto, StatesLead, bare_offered, location_leads, truth_leads, truth_fitted, location_fitted}
use Rattle.tv_linear.proofs.ListLaws.{zip_both}

-- ---- the pieces of states
rows_wide : (n v : ℕ) (ks : List ℤ) → All (λ r. columns r ≡ n) (rows_from n v ks)
rows_wide n v [] = All-nil (λ r. columns r ≡ n)
rows_wide n v (k ∷ ks) =
    All-cons (λ r. columns r ≡ n) (at_most_row n v k) (opposite (at_most_row n v k) ∷ rows_from n (suc v) ks) (length-unit n v)
    (All-cons (λ r. columns r ≡ n) (opposite (at_most_row n v k)) (rows_from n (suc v) ks) (length-map (unit n v) _ ∙ length-unit n v) (rows_wide n (suc v) ks))

pub point_wide : (n : ℕ) (xs : List ℤ) → length xs ≡ n → All (λ r. columns r ≡ n) (point_rows xs)
point_wide n xs e = subst (λ m. All (λ r. columns r ≡ m) (point_rows xs)) e (rows_wide (length xs) 0 xs)

rows_length : (n v : ℕ) (ks : List ℤ) → length (rows_from n v ks) ≡ length ks + length ks
rows_length n v [] = refl
rows_length n v (k ∷ ks) = let h = rows_length n (suc v) ks in omega (arith, h)

pub point_length : (xs : List ℤ) → length (point_rows xs) ≡ length xs + length xs
point_length xs = rows_length (length xs) 0 xs

pub ranks_wide : (n : ℕ) (ends : Bool) (left : ℕ) → All (λ r. columns r ≡ n) (rank_rows n ends left)
ranks_wide n false left = All-nil (λ r. columns r ≡ n)
ranks_wide n true zero = All-nil (λ r. columns r ≡ n)
ranks_wide n true (suc left) = All-cons (λ r. columns r ≡ n) (constant_row n (pos (suc left))) [] (length-zeros n) (All-nil (λ r. columns r ≡ n))

-- a piece has one rank where the run is to come to an end
abbrev rank_count : Bool → ℕ
rank_count true = 1
rank_count false = 0

many_ranks : (n : ℕ) (ends : Bool) (left : ℕ) (s : State) → length (ranks_of (state_piece n ends left s)) ≡ (if goes (state_piece n ends left s) then rank_count ends else 0)
many_ranks n false left s = refl
many_ranks n true zero s = refl
many_ranks n true (suc left) s = refl

marked_go : (n : ℕ) (ends : Bool) (left : ℕ) (s : State) → ends ≡ false → goes (state_piece n ends left s) ≡ true
marked_go n false left s e = refl
marked_go n true left s e = absurd cc

state_shape : (about : CaseSystem) (ends : Bool) (left : ℕ) (s : State) → IsState about s → PieceShape about (rank_count ends) ends (state_piece about.variables ends left s)
state_shape about ends left s h = record {
  place = h.place;
  poly = refl;
  rows = point_wide about.variables s.values.items h.point.many;
  ranks = ranks_wide about.variables ends left;
  many = many_ranks about.variables ends left s;
  marks = marked_go about.variables ends left s;
}

states_shape : (about : CaseSystem) (ends : Bool) (states : List State) → All (IsState about) states → All (PieceShape about (rank_count ends) ends) (state_pieces about.variables ends states)
states_shape about ends [] h = All-nil (PieceShape about (rank_count ends) ends)
states_shape about ends (s ∷ states) h =
    All-cons (PieceShape about (rank_count ends) ends) (state_piece about.variables ends (length states) s) (state_pieces about.variables ends states) (state_shape about ends (length states) s (All-head (IsState about) s states h)) (states_shape about ends states (All-tail (IsState about) s states h))

pub states_length : (n : ℕ) (ends : Bool) (states : List State) → length (state_pieces n ends states) ≡ length states
states_length n ends [] = refl
states_length n ends (s ∷ states) = ap suc (states_length n ends states)

-- ---- a run that never ends
choices_offered : (about : CaseSystem) (number : ℕ) (ps : List Marked) (kids : List (List Marked)) (qs : List Marked) (proofs : List Proof) → AllZip (IsChosenAt about ps false) qs proofs → AllZip IsOffered (flat_map (piece_of number (about_with about) endless ps kids) qs) proofs
choices_offered about number ps kids [] [] h = tt
choices_offered about number ps kids [] (p ∷ proofs) h = absurd h
choices_offered about number ps kids (q ∷ qs) [] h = absurd h
choices_offered about number ps kids (q ∷ qs) (Covered tree ∷ proofs) h = absurd h.0
choices_offered about number ps kids (q ∷ qs) (Chosen tree ∷ proofs) h =
    (record { shape = (h.0.shape, (let f = h.0.flat in omega (arith, f))); met = h.0.met; narrow = h.0.narrow }, choices_offered about number ps kids qs proofs h.1)

pub endless_is : (about : CaseSystem) (states : List State) (node : Node) (pieces : List Marked) (proofs : List Proof) → pieces ≡ state_pieces about.variables false states → HasOwn node pieces 0 [] proofs → AllZip (IsChosenAt about pieces false) pieces proofs → All (IsState about) states → length states < 2 ^ 32 - 1 → IsRunNode about endless false states node
endless_is about states node pieces proofs same own chosen each bounded = record {
  fitted = node_fitted (about_with about) endless 1 node pieces 0 [] proofs own (record {
    said = tt;
    ranked = λ e. refl;
    small = omega arith;
    bounded = (let l = ap length same in let k = states_length about.variables false states in omega (arith, l, k, bounded));
    each = subst (All (PieceShape about 0 false)) (sym same) (states_shape about false states each);
    offered = λ number. choices_offered about number pieces [] pieces proofs chosen;
    below = tt;
    shallow = omega arith;
  });
  pieces = pieces_are node ∙ own.pieces_are ∙ same;
}

-- ---- a run that comes to a location

module _ (about : CaseSystem) (l number : ℕ) (ps a b : List Marked) where
  two_offered : (p : Marked) (g : Bool) (x y : Proof) → IsBare x → IsSecond about ps p g y → LeadsInto b (place_of p) → (g ≡ false → LeadsInto a (place_of p)) → AllZip IsOffered (fix_of number (about_with about) Any Strong ps a b p g) (x ∷ y ∷ [])
  two_offered p true x (Covered tree) h k truth end = absurd k
  two_offered p true x (Chosen tree) h k truth end =
      (bare_offered _ _ _ truth number kind.Hold x h, (record { shape = (k.shape, (let f = k.flat in omega (arith, f))); met = k.met; narrow = k.narrow }, tt))
  two_offered p false x y h k truth end = (bare_offered _ _ _ (end refl) number kind.Done x h, (bare_offered _ _ _ truth number kind.Done y k, tt))

  -- where each piece has a target of truth, and each that is done one of the location
  abbrev HasTargets : Marked → Type 0
  HasTargets p = LeadsInto b (place_of p) × (goes p ≡ false → LeadsInto a (place_of p))

  all_offered : (qs : List Marked) (proofs : List Proof) → All HasTargets qs → AreTwo about ps qs proofs → AllZip IsOffered (flat_map (λ p. fix_of number (about_with about) Any Strong ps a b p (goes p)) qs) proofs
  all_offered [] [] t h = tt
  all_offered [] (x ∷ proofs) t h = absurd h
  all_offered (q ∷ qs) [] t h = absurd h
  all_offered (q ∷ qs) (x ∷ []) t h = absurd h
  all_offered (q ∷ qs) (x ∷ y ∷ proofs) t h =
      let here = All-head HasTargets q qs t in
      zip_both IsOffered (fix_of number (about_with about) Any Strong ps a b q (goes q)) (flat_map (λ p. fix_of number (about_with about) Any Strong ps a b p (goes p)) qs) (x ∷ y ∷ []) proofs
      (two_offered q (goes q) x y h.0 h.1 here.0 here.1) (all_offered qs proofs (All-tail HasTargets q qs t) h.2)

-- the last state is the only one that is done
get_last : (states : List State) (s last : State) → slice_get (s ∷ states) (length states) ≡ Some last → states ≡ [] → s ≡ last
get_last [] s last e z = cc
get_last (t ∷ states) s last e z = absurd cc

only_done : (n : ℕ) (states : List State) (s last : State) → slice_get (s ∷ states) (length states) ≡ Some last → goes (state_piece n true (length states) s) ≡ false → s ≡ last
only_done n [] s last e g = get_last [] s last e refl
only_done n (t ∷ states) s last e g = absurd cc

abbrev HasEnds : List Marked → ℕ → ℕ → Marked → Type 0
HasEnds b n l p = LeadsInto b (place_of p) × (goes p ≡ false → LeadsInto (whole_piece n l ∷ []) (place_of p))

one_has : (b : List Marked) (n l : ℕ) (s last : State) (states : List State) → last.location ≡ l → slice_get (s ∷ states) (length states) ≡ Some last → LeadsInto b s.location → HasEnds b n l (state_piece n true (length states) s)
one_has b n l s last states at e h = (
  h,
  λ g. (
      let same : s ≡ last = only_done n states s last e g in
      let here : l ≡ s.location = sym at ∙ ap (λ (t : State). t.location) (sym same) in
      subst (λ k. LeadsInto (whole_piece n l ∷ []) k) here (location_leads n l)
      ),
)

targets_there : (b : List Marked) (n l : ℕ) (s last : State) (states : List State) → last.location ≡ l → slice_get (s ∷ states) (length states) ≡ Some last → StatesLead b (s ∷ states) → All (HasEnds b n l) (state_pieces n true (s ∷ states))
targets_there b n l s last [] at e h =
    All-cons (HasEnds b n l) (state_piece n true 0 s) [] (one_has b n l s last [] at e (All-head (λ s. LeadsInto b s.location) s [] h)) (All-nil (HasEnds b n l))
targets_there b n l s last (u ∷ states) at e h =
    All-cons (HasEnds b n l) (state_piece n true (length (u ∷ states)) s) (state_pieces n true (u ∷ states)) (one_has b n l s last (u ∷ states) at e (All-head (λ s. LeadsInto b s.location) s (u ∷ states) h))
    (targets_there b n l u last states at e (All-tail (λ s. LeadsInto b s.location) s (u ∷ states) h))

all_there : (b : List Marked) (n l : ℕ) (last : State) (states : List State) (steps : ℕ) → length states ≡ steps + 1 → last.location ≡ l → slice_get states steps ≡ Some last → StatesLead b states → All (HasEnds b n l) (state_pieces n true states)
all_there b n l last [] steps many at e h = absurd (omega (arith, many))
all_there b n l last (s ∷ states) steps many at e h =
    targets_there b n l s last states at (subst (λ k. slice_get (s ∷ states) k ≡ Some last) (let k : steps ≡ length states = omega (arith, many) in k) e) h

pub reaching_is : (about : CaseSystem) (l : ℕ) (states : List State) (last : State) (node : Node) (pieces : List Marked) (nodes : List Node) (proofs : List Proof) → pieces ≡ state_pieces about.variables true states → HasOwn node pieces 1 nodes proofs → AreEnds about.variables states l nodes → AreTwo about pieces pieces proofs → All (IsState about) states → length states < 2 ^ 32 - 1 → (steps : ℕ) → length states ≡ steps + 1 → slice_get states steps ≡ Some last → last.location ≡ l → l < about.locations → IsRunNode about (reaches l) true states node
reaching_is about l states last node pieces nodes proofs same own ends two each bounded steps many here at inside = record {
  fitted = node_fitted (about_with about) (reaches l) 1 node pieces 1 (ends.end ∷ ends.truth_of ∷ []) proofs (subst (λ ns. HasOwn node pieces 1 ns proofs) ends.parts own) (record {
    said = tt;
    ranked = λ e. absurd cc;
    small = omega arith;
    bounded = (let k = ap length same in let m = states_length about.variables true states in omega (arith, k, m, bounded));
    each = subst (All (PieceShape about 1 true)) (sym same) (states_shape about true states each);
    offered = λ number. subst (λ a. AllZip IsOffered (flat_map (λ p. fix_of number (about_with about) Any Strong pieces a (pieces_list ends.truth_of) p (goes p)) pieces) proofs) (sym ends.end_is.own.pieces_are)
        (subst (λ b. AllZip IsOffered (flat_map (λ p. fix_of number (about_with about) Any Strong pieces (whole_piece about.variables l ∷ []) b p (goes p)) pieces) proofs) (sym ends.truth_is.own.pieces_are)
        (all_offered about l number pieces (whole_piece about.variables l ∷ []) (whole_pieces about.variables states) pieces proofs
        (subst (All (HasEnds (whole_pieces about.variables states) about.variables l)) (sym same)
        (all_there (whole_pieces about.variables states) about.variables l last states steps many at here (truth_leads about.variables states))) two));
    below = (location_fitted about 2 l ends.end (omega arith) inside ends.end_is, (truth_fitted about 2 states ends.truth_of (omega arith) (omega (arith, bounded)) each ends.truth_is, tt));
    shallow = omega arith;
  });
  pieces = pieces_are node ∙ own.pieces_are ∙ same;
}

-- ---- the same of what was pushed
pub endless_made : (about : CaseSystem) (states : List State) (node : Node) (pieces seen : List Marked) (kids : List Node) (old proofs more : List Proof) → seen ≡ pieces → pieces ≡ state_pieces about.variables false states → HasOwn node pieces 0 kids proofs → kids ≡ [] → proofs ≡ old ++ more → old ≡ [] → AllZip (IsChosenAt about seen false) seen more → All (IsState about) states → length states < 2 ^ 32 - 1 → IsRunNode about endless false states node
endless_made about states node pieces seen kids old proofs more same are own none parts empty chosen each bounded =
    let all : AllZip (IsChosenAt about pieces false) pieces more = subst (λ ps. AllZip (IsChosenAt about ps false) ps more) same chosen in
    let given : proofs ≡ more = parts ∙ ap (λ os. os ++ more) empty in
    endless_is about states node pieces proofs are (subst (λ ks. HasOwn node pieces 0 ks proofs) none own) (subst (AllZip (IsChosenAt about pieces false) pieces) (sym given) all) each bounded

pub reaching_made : (about : CaseSystem) (l : ℕ) (states : List State) (last : State) (node : Node) (pieces seen : List Marked) (nodes : List Node) (old proofs more : List Proof) → seen ≡ pieces → pieces ≡ state_pieces about.variables true states → HasOwn node pieces 1 nodes proofs → AreEnds about.variables states l nodes → proofs ≡ old ++ more → old ≡ [] → AreTwo about seen seen more → All (IsState about) states → length states < 2 ^ 32 - 1 → (steps : ℕ) → length states ≡ steps + 1 → slice_get states steps ≡ Some last → last.location ≡ l → l < about.locations → IsRunNode about (reaches l) true states node
reaching_made about l states last node pieces seen nodes old proofs more same are own ends parts empty two each bounded steps many here at inside =
    let all : AreTwo about pieces pieces more = subst (λ ps. AreTwo about ps ps more) same two in
    let given : proofs ≡ more = parts ∙ ap (λ os. os ++ more) empty in
    reaching_is about l states last node pieces nodes proofs are own ends (subst (AreTwo about pieces pieces) (sym given) all) each bounded steps many here at inside
