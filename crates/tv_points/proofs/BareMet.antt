-- Nodes whose covers ask for no rows.
use Rattle.std.proofs.Common.{◌≡◌, ℕ, ◌+◌, ◌^◌, ◌<◌, ◌≤◌, List, [], ◌∷◌, ◌++◌, length, map, All, Option, Some, slice_get, Bool, true, false, ◌==◌, if◌then◌else◌, arith, refl, sym, ap, subst}
use Rattle.std.specs.List.{AllZip, flat_map}
use Rattle.std.specs.Option.{option_map}
use Rattle.std.proofs.lemmas.List.{length-map}
use Rattle.std.proofs.lemmas.List.Elements.{All-nil, All-cons, All-head, All-tail}
use Rattle.std.proofs.lemmas.Bool.{eq-eqb}
use Rattle.tv_linear.specs.Known.{Known, given}
use Rattle.tv_linear.specs.Linear.{columns}
use Rattle.tv_linear.specs.Covers.{ShownAt, IsMetCover}
use Rattle.tv_linear.specs.Depth.{splits}
use Rattle.tv_linear.specs.declared.cover.CoverTree.{CoverTree}
use Rattle.tv_linear.specs.declared.cover.CoverTree as cover
use Rattle.tv_formula.specs.Properties.{truth, at}
use Rattle.tv_cases.specs.LinearCases.{CaseSystem}
use Rattle.tv_cert.specs.declared.node.Kind.{Kind}
use Rattle.tv_cert.specs.declared.node.Marked.{Marked}
use Rattle.tv_cert.specs.declared.node.Node.{Node}
use Rattle.tv_cert.specs.declared.node.Proof.{Proof}
use Rattle.tv_cert.specs.declared.node.Proof.TheVariants.{Covered, Chosen}
use Rattle.tv_cert.specs.Claims.{about_with}
use Rattle.tv_cert.specs.Obligations.{About, Obligation, a_cover, atom_of, truth_targets}
use Rattle.tv_cert.specs.Nodes.{piece_of}
use Rattle.tv_cert.specs.Pieces.{pieces_at}
use Rattle.tv_cert.specs.Shapes.{owed_count, ListsShape, CoverShape, PieceShape}
use Rattle.tv_cert.specs.Targets.{target_rows, owed_into, no_fall}
use Rattle.tv_shape.specs.Narrow.{CountNarrow, AreNarrow, ListsNarrow, CoverNarrow}
use Rattle.tv_shape.specs.Made.{IsFitted, IsOffered}
use Rattle.tv_shape.proofs.MadeLemmas.{node_fitted}
use Rattle.tv_points.specs.Nodes.{IsBareCover, IsBare, whole_piece, whole_pieces, IsWholeNode}
use Rattle.tv_points.specs.States.{IsState}
use Rattle.tv_points.specs.declared.state.State.{State}

-- ---- the cover
flat : (tree : CoverTree) → IsBareCover tree → splits tree ≡ 0
flat (cover.Split' r p a q b) h = absurd h
flat (cover.Empty ms) h = absurd h
flat (cover.Into target fall ls) h = refl

bare_narrow : (tree : CoverTree) → IsBareCover tree → CoverNarrow tree
bare_narrow (cover.Split' r p a q b) h = absurd h
bare_narrow (cover.Empty ms) h = absurd h
bare_narrow (cover.Into target fall ls) h =
    let none : CountNarrow 0 = omega arith in
    (subst CountNarrow (sym h.0) none, subst CountNarrow (sym h.1) none, subst (λ z. ListsNarrow z) (sym h.2) (All-nil (λ l. AreNarrow l.items)))

module _ (n : ℕ) (known : List Known) (owed : ℕ → ℕ → Option (List Known)) (leads : owed 0 0 ≡ Some []) where
  bare_met : (tree : CoverTree) → IsBareCover tree → IsMetCover n owed known tree
  bare_met (cover.Split' r p a q b) h = absurd h
  bare_met (cover.Empty ms) h = absurd h
  bare_met (cover.Into target fall ls) h =
      subst (λ z. ShownAt n known (owed z fall) (map (λ x. x.items) ls.items)) (sym h.0)
      (subst (λ z. ShownAt n known (owed 0 z) (map (λ x. x.items) ls.items)) (sym h.1)
      (subst (λ z. ShownAt n known (owed 0 0) (map (λ x. x.items) z)) (sym h.2)
      (subst (λ z. ShownAt n known z []) (sym leads) tt)))

  bare_shape : (tree : CoverTree) → IsBareCover tree → CoverShape n (owed_count owed) (length known) tree
  bare_shape (cover.Split' r p a q b) h = absurd h
  bare_shape (cover.Empty ms) h = absurd h
  bare_shape (cover.Into target fall ls) h =
      subst (λ z. ListsShape (length known + 1) (owed_count owed z fall) (map (λ x. x.items) ls.items)) (sym h.0)
      (subst (λ z. ListsShape (length known + 1) (owed_count owed 0 z) (map (λ x. x.items) ls.items)) (sym h.1)
      (subst (λ z. ListsShape (length known + 1) (owed_count owed 0 0) (map (λ x. x.items) z)) (sym h.2)
      (subst (λ z. ListsShape (length known + 1) (option_map length z) []) (sym leads) (refl, All-nil (λ ms. length ms ≡ length known + 1)))))

  pub bare_offered : (number : ℕ) (k : Kind) (x : Proof) → IsBare x → IsOffered (record { node = number; kind = k; owed = a_cover n known owed }) x
  bare_offered number k (Covered tree) h = record {
    shape = (bare_shape tree h, (let f = flat tree h in omega (arith, f)));
    met = bare_met tree h;
    narrow = bare_narrow tree h;
  }
  bare_offered number k (Chosen tree) h = absurd h

-- ---- nodes of such covers
pub atoms_offered : (about : About) (number : ℕ) (owes : Marked → List Obligation) (qs : List Marked) (proofs : List Proof) → All (λ q. owes q ≡ atom_of number about q ([] ∷ []) ∷ []) qs → AllZip (λ (p : Marked) x. IsBare x) qs proofs → AllZip IsOffered (flat_map owes qs) proofs
atoms_offered about number owes [] [] e h = tt
atoms_offered about number owes [] (x ∷ proofs) e h = absurd h
atoms_offered about number owes (q ∷ qs) [] e h = absurd h
atoms_offered about number owes (q ∷ qs) (x ∷ proofs) e h =
    subst (λ os. AllZip IsOffered (os ++ flat_map owes qs) (x ∷ proofs)) (sym (All-head (λ r. owes r ≡ atom_of number about r ([] ∷ []) ∷ []) q qs e))
    (bare_offered _ _ _ refl number _ x h.0, atoms_offered about number owes qs proofs (All-tail (λ r. owes r ≡ atom_of number about r ([] ∷ []) ∷ []) q qs e) h.1)

pub whole_shape : (about : CaseSystem) (ends : Bool) (l : ℕ) → l < about.locations → PieceShape about 0 ends (whole_piece about.variables l)
whole_shape about ends l h = record {
  place = h;
  poly = refl;
  rows = All-nil (λ r. columns r ≡ about.variables);
  ranks = All-nil (λ r. columns r ≡ about.variables);
  many = refl;
  marks = λ e. refl;
}

for_each : (P : Marked → Type 0) (qs : List Marked) → ((q : Marked) → P q) → All P qs
for_each P [] h = All-nil P
for_each P (q ∷ qs) h = All-cons P q qs (h q) (for_each P qs h)

wholes_shape : (about : CaseSystem) (ends : Bool) (states : List State) → All (IsState about) states → All (PieceShape about 0 ends) (whole_pieces about.variables states)
wholes_shape about ends [] h = All-nil (PieceShape about 0 ends)
wholes_shape about ends (s ∷ states) h =
    All-cons (PieceShape about 0 ends) (whole_piece about.variables s.location) (whole_pieces about.variables states) (whole_shape about ends s.location (All-head (IsState about) s states h).place) (wholes_shape about ends states (All-tail (IsState about) s states h))

pub truth_fitted : (about : CaseSystem) (depth : ℕ) (states : List State) (node : Node) → depth ≤ 256 → length states < 2 ^ 32 → All (IsState about) states → IsWholeNode node (whole_pieces about.variables states) → IsFitted (about_with about) (truth true) depth node
truth_fitted about depth states node shallow bounded each h =
    let ps = whole_pieces about.variables states in
    node_fitted (about_with about) (truth true) depth node ps 0 [] h.proofs h.own (record {
      said = tt;
      ranked = λ e. refl;
      small = omega arith;
      bounded = (let l = length-map states (λ s. whole_piece about.variables s.location) in omega (arith, l, bounded));
      each = wholes_shape about false states each;
      offered = λ number. atoms_offered (about_with about) number (piece_of number (about_with about) (truth true) ps []) ps h.proofs (for_each (λ q. piece_of number (about_with about) (truth true) ps [] q ≡ atom_of number (about_with about) q ([] ∷ []) ∷ []) ps (λ q. refl)) h.bare;
      below = tt;
      shallow = shallow;
    })

pub location_fitted : (about : CaseSystem) (depth l : ℕ) (node : Node) → depth ≤ 256 → l < about.locations → IsWholeNode node (whole_piece about.variables l ∷ []) → IsFitted (about_with about) (at l) depth node
location_fitted about depth l node shallow inside h =
    let p = whole_piece about.variables l in
    let ps : List Marked = p ∷ [] in
    node_fitted (about_with about) (at l) depth node ps 0 [] h.proofs h.own (record {
      said = tt;
      ranked = λ e. refl;
      small = omega arith;
      bounded = omega arith;
      each = All-cons (PieceShape about 0 false) p [] (whole_shape about false l inside) (All-nil (PieceShape about 0 false));
      offered = λ number. atoms_offered (about_with about) number (piece_of number (about_with about) (at l) ps []) ps h.proofs
          (All-cons (λ q. piece_of number (about_with about) (at l) ps [] q ≡ atom_of number (about_with about) q ([] ∷ []) ∷ []) p [] (ap (λ b. atom_of number (about_with about) p (truth_targets b) ∷ []) (eq-eqb l l refl)) (All-nil (λ q. piece_of number (about_with about) (at l) ps [] q ≡ atom_of number (about_with about) q ([] ∷ []) ∷ []))) h.bare;
      below = tt;
      shallow = shallow;
    })

-- ---- what leads into their pieces
abbrev pub LeadsInto : List Marked → ℕ → Type 0
LeadsInto ps l = owed_into ps l given no_fall 0 0 ≡ Some []

pub location_leads : (n l : ℕ) → LeadsInto (whole_piece n l ∷ []) l
location_leads n l = by_test (l == l) (eq-eqb l l refl)
  where
    by_test : (b : Bool) → b ≡ true → target_rows given no_fall (slice_get (if b then whole_piece n l ∷ [] else []) 0) 0 ≡ Some []
    by_test true e = refl
    by_test false e = absurd cc

wholes_lead : (n l : ℕ) (t : State) (states : List State) → LeadsInto (whole_pieces n states) l → LeadsInto (whole_pieces n (t ∷ states)) l
wholes_lead n l t states h = by_test (t.location == l)
  where
    by_test : (b : Bool) → target_rows given no_fall (slice_get (if b then whole_piece n t.location ∷ pieces_at (whole_pieces n states) l else pieces_at (whole_pieces n states) l) 0) 0 ≡ Some []
    by_test true = refl
    by_test false = h

first_leads : (n : ℕ) (t : State) (states : List State) → LeadsInto (whole_pieces n (t ∷ states)) t.location
first_leads n t states = by_test (t.location == t.location) (eq-eqb t.location t.location refl)
  where
    by_test : (b : Bool) → b ≡ true → target_rows given no_fall (slice_get (if b then whole_piece n t.location ∷ pieces_at (whole_pieces n states) t.location else pieces_at (whole_pieces n states) t.location) 0) 0 ≡ Some []
    by_test true e = refl
    by_test false e = absurd cc

abbrev pub StatesLead : List Marked → List State → Type 0
StatesLead b states = All (λ s. LeadsInto b s.location) states

more_lead : (n : ℕ) (t : State) (states some : List State) → StatesLead (whole_pieces n states) some → StatesLead (whole_pieces n (t ∷ states)) some
more_lead n t states [] h = All-nil (λ s. LeadsInto (whole_pieces n (t ∷ states)) s.location)
more_lead n t states (s ∷ some) h =
    All-cons (λ s. LeadsInto (whole_pieces n (t ∷ states)) s.location) s some (wholes_lead n s.location t states (All-head (λ s. LeadsInto (whole_pieces n states) s.location) s some h)) (more_lead n t states some (All-tail (λ s. LeadsInto (whole_pieces n states) s.location) s some h))

pub truth_leads : (n : ℕ) (states : List State) → StatesLead (whole_pieces n states) states
truth_leads n [] = All-nil (λ s. LeadsInto (whole_pieces n []) s.location)
truth_leads n (t ∷ states) =
    All-cons (λ s. LeadsInto (whole_pieces n (t ∷ states)) s.location) t states (first_leads n t states) (more_lead n t states states (truth_leads n states))
