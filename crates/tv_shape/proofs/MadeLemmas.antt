-- A node whose own parts are right, and whose children fit, fits its formula and is met.
use Rattle.std.proofs.Common.{◌≡◌, ℕ, ◌+◌, ◌^◌, ◌<◌, ◌≤◌, List, [], ◌∷◌, length, map, All, false, arith, sym, ap, ◌∙◌, subst}
use Rattle.std.specs.List.{AllZip}
use Rattle.std.proofs.lemmas.List.Elements.{All-nil, All-cons}
use Rattle.tv_formula.specs.Properties.{Property, Properties, none, more}
use Rattle.tv_cert.specs.declared.node.Marked.{Marked}
use Rattle.tv_cert.specs.declared.node.Proof.{Proof}
use Rattle.tv_cert.specs.declared.node.Proof.TheVariants.{Covered, Chosen}
use Rattle.tv_cert.specs.declared.node.Node.{Node, Node', Row_of-Node, end_of-Node, more_of-Node, items-the_row-Node, outs-Node'}
use Rattle.tv_cert.specs.NodeViews.{pieces_list}
use Rattle.tv_cert.specs.Nodes.{parts, kid_pieces, size, entries, kid_entries, own_of}
use Rattle.tv_cert.specs.Obligations.{About, Obligation, Owed, a_cover, a_choice, a_point, AllMet, paired}
use Rattle.tv_cert.specs.Shapes.{ProofShape, PieceShape, OwnShape, KidsShape, HaveShapes, IsSaid, may_rank, may_be_done}
use Rattle.tv_cert.specs.Statements.{stated}
use Rattle.tv_cert.proofs.StatedLemmas.{parts-stated, entries_are}
use Rattle.tv_cert.proofs.NodeLemmas.{out_is, kid_pieces_are}
use Rattle.tv_shape.specs.Depths.{proof_splits}
use Rattle.tv_shape.specs.Fitting.{KidsNarrow, KidsGoWithin}
use Rattle.tv_shape.specs.Narrow.{PieceNarrow, ProofNarrow}
use Rattle.tv_shape.specs.Made.{HasOwn, IsFitted, Offers}
use Rattle.tv_cert.proofs.FailingLemmas.{all_join}

-- ---- proofs that are offered

pub shape_shallow : (o : Owed) (p : Proof) → ProofShape o p → proof_splits p ≤ 128
shape_shallow (a_cover n known owed) (Covered tree) h = h.1
shape_shallow (a_cover n known owed) (Chosen tree) h = absurd h
shape_shallow (a_choice n cases l stop owed known) (Covered tree) h = absurd h
shape_shallow (a_choice n cases l stop owed known) (Chosen tree) h = h.1
shape_shallow (a_point xs rows) p h = absurd h

pub all_met : (os : List Obligation) (proofs : List Proof) → Offers os proofs → AllMet (paired os proofs)
all_met [] proofs h = tt
all_met (o ∷ os) [] h = absurd h
all_met (o ∷ os) (p ∷ proofs) h = (h.0.met, all_met os proofs h.1)

pub all_shaped : (os : List Obligation) (proofs : List Proof) → Offers os proofs → AllZip (λ o p. ProofShape o.owed p) os proofs
all_shaped [] [] h = tt
all_shaped [] (p ∷ proofs) h = absurd h
all_shaped (o ∷ os) [] h = absurd h
all_shaped (o ∷ os) (p ∷ proofs) h = (h.0.shape, all_shaped os proofs h.1)

pub all_narrow : (os : List Obligation) (proofs : List Proof) → Offers os proofs → All ProofNarrow proofs
all_narrow [] [] h = All-nil ProofNarrow
all_narrow [] (p ∷ proofs) h = absurd h
all_narrow (o ∷ os) [] h = absurd h
all_narrow (o ∷ os) (p ∷ proofs) h = All-cons ProofNarrow p proofs h.0.narrow (all_narrow os proofs h.1)

pub shapes_shallow : (depth : ℕ) (os : List Obligation) (proofs : List Proof) → depth ≤ 256 → AllZip (λ o p. ProofShape o.owed p) os proofs → All (λ p. depth + proof_splits p ≤ 384) proofs
shapes_shallow depth [] [] l h = All-nil (λ p. depth + proof_splits p ≤ 384)
shapes_shallow depth [] (p ∷ proofs) l h = absurd h
shapes_shallow depth (o ∷ os) [] l h = absurd h
shapes_shallow depth (o ∷ os) (p ∷ proofs) l h = All-cons (λ p. depth + proof_splits p ≤ 384) p proofs (let f = shape_shallow o.owed p h.0 in omega (arith, f, l)) (shapes_shallow depth os proofs l h.1)

pub all_shallow : (depth : ℕ) (os : List Obligation) (proofs : List Proof) → depth ≤ 256 → Offers os proofs → All (λ p. depth + proof_splits p ≤ 384) proofs
all_shallow depth os proofs l h = shapes_shallow depth os proofs l (all_shaped os proofs h)

-- ---- children that fit
abbrev pub AllFitted : About → Properties → ℕ → List Node → Type 0
AllFitted about none depth [] = Unit {0}
AllFitted about none depth (a ∷ kids) = ⊥
AllFitted about (more f fs) depth [] = ⊥
AllFitted about (more f fs) depth (a ∷ kids) = IsFitted about f depth a × AllFitted about fs depth kids

kids_shape : {k : _} (about : About) (fs : Properties) (depth : ℕ) (kids : Row_of-Node k) → AllFitted about fs depth (items-the_row-Node k kids) → HaveShapes about fs kids
kids_shape about none depth end_of-Node h = tt
kids_shape about none depth (more_of-Node a kids) h = absurd h
kids_shape about (more f fs) depth end_of-Node h = absurd h
kids_shape about (more f fs) depth (more_of-Node a kids) h = (h.0.shape, kids_shape about fs depth kids h.1)

kids_narrow : {k : _} (about : About) (fs : Properties) (depth : ℕ) (kids : Row_of-Node k) → AllFitted about fs depth (items-the_row-Node k kids) → KidsNarrow kids
kids_narrow about none depth end_of-Node h = tt
kids_narrow about none depth (more_of-Node a kids) h = absurd h
kids_narrow about (more f fs) depth end_of-Node h = absurd h
kids_narrow about (more f fs) depth (more_of-Node a kids) h = (h.0.narrow, kids_narrow about fs depth kids h.1)

kids_within : {k : _} (about : About) (fs : Properties) (depth : ℕ) (kids : Row_of-Node k) → AllFitted about fs depth (items-the_row-Node k kids) → KidsGoWithin depth kids
kids_within about none depth end_of-Node h = tt
kids_within about none depth (more_of-Node a kids) h = absurd h
kids_within about (more f fs) depth end_of-Node h = absurd h
kids_within about (more f fs) depth (more_of-Node a kids) h = (h.0.within, kids_within about fs depth kids h.1)

kids_met : {k : _} (about : About) (fs : Properties) (depth number : ℕ) (kids : Row_of-Node k) → AllFitted about fs depth (items-the_row-Node k kids) → AllMet (kid_entries number about fs kids)
kids_met about none depth number end_of-Node h = tt
kids_met about none depth number (more_of-Node a kids) h = absurd h
kids_met about (more f fs) depth number end_of-Node h = absurd h
kids_met about (more f fs) depth number (more_of-Node a kids) h =
    all_join (entries number about f a) (kid_entries (number + size a) about fs kids) (h.0.met number) (kids_met about fs depth (number + size a) kids h.1)

-- ---- the node
pub record IsRight (about : About) (f : Property) (depth : ℕ) (pieces : List Marked) (ranks : ℕ) (kids : List Node) (proofs : List Proof) : Type 0 where
  pub said : IsSaid (stated about.tests f)
  pub ranked : may_rank (stated about.tests f) ≡ false → ranks ≡ 0
  pub small : ranks < 2 ^ 32
  pub bounded : length pieces < 2 ^ 32
  pub each : All (PieceShape about.system ranks (may_be_done (stated about.tests f))) pieces
  pub offered : (number : ℕ) → Offers (own_of number about f pieces (map pieces_list kids)) proofs
  pub below : AllFitted about (parts f) (depth + 1) kids
  pub shallow : depth ≤ 256

pub node_fitted : (about : About) (f : Property) (depth : ℕ) (node : Node) (pieces : List Marked) (ranks : ℕ) (kids : List Node) (proofs : List Proof) → HasOwn node pieces ranks kids proofs → IsRight about f depth pieces ranks kids proofs → IsFitted about f depth node
node_fitted about f depth (Node' ps m shape row list) pieces ranks kids proofs own right = record {
  shape = (own_shape, subst (λ ss. KidsShape about.system ss row) (sym (parts-stated about f)) (kids_shape about (parts f) (depth + 1) row below));
  narrow = (
    record {
      count = (let e = ap length pieces_same in let n = right.bounded in omega (arith, e, n));
      ranks = (let e = ranks_same in let n = right.small in omega (arith, e, n));
      pieces = subst (All PieceNarrow) (sym pieces_same) own.narrow;
      offered = subst (All ProofNarrow) (sym proofs_same) (all_narrow (own_of 0 about f pieces (map pieces_list kids)) proofs (right.offered 0));
    },
    kids_narrow about (parts f) (depth + 1) row below,
  );
  within = ((let d = right.shallow in omega (arith, d)), subst (All (λ p. depth + proof_splits p ≤ 384)) (sym proofs_same) (all_shallow depth (own_of 0 about f pieces (map pieces_list kids)) proofs right.shallow (right.offered 0)), kids_within about (parts f) (depth + 1) row below);
  met = λ number. subst AllMet (sym (entries_are number about f ps m shape row list))
      (all_join (kid_entries (number + 1) about (parts f) row) (paired (own_of number about f ps (kid_pieces row)) list.items) (kids_met about (parts f) (depth + 1) (number + 1) row below)
      (subst AllMet (sym (own_are number)) (all_met (own_of number about f pieces (map pieces_list kids)) proofs (right.offered number))));
}
  where
    pieces_same : ps ≡ pieces
    pieces_same = sym (ap (λ x. x.pieces) (outs-Node' ps m shape row list)) ∙ own.pieces_are

    ranks_same : m ≡ ranks
    ranks_same = sym (ap (λ x. x.ranks) (outs-Node' ps m shape row list)) ∙ own.ranks_are

    proofs_same : list.items ≡ proofs
    proofs_same = sym (ap (λ x. x.proofs.items) (outs-Node' ps m shape row list)) ∙ own.proofs_are

    kids_same : items-the_row-Node _ row ≡ kids
    kids_same = sym (out_is ps m shape row list) ∙ own.children_are

    below : AllFitted about (parts f) (depth + 1) (items-the_row-Node _ row)
    below = subst (AllFitted about (parts f) (depth + 1)) (sym kids_same) right.below

    kid_pieces_same : kid_pieces row ≡ map pieces_list kids
    kid_pieces_same = kid_pieces_are row ∙ ap (map pieces_list) kids_same

    own_are : (number : ℕ) → paired (own_of number about f ps (kid_pieces row)) list.items ≡ paired (own_of number about f pieces (map pieces_list kids)) proofs
    own_are number = (λ i. paired (own_of number about f (pieces_same i) (kid_pieces_same i)) (proofs_same i))

    own_shape : OwnShape about.system (stated about.tests f) m ps (kid_pieces row) list.items
    own_shape = subst (λ z. OwnShape about.system (stated about.tests f) z ps (kid_pieces row) list.items) (sym ranks_same)
        (subst (λ z. OwnShape about.system (stated about.tests f) ranks z (kid_pieces row) list.items) (sym pieces_same)
        (subst (λ z. OwnShape about.system (stated about.tests f) ranks pieces z list.items) (sym kid_pieces_same)
        (subst (λ z. OwnShape about.system (stated about.tests f) ranks pieces (map pieces_list kids) z) (sym proofs_same) (record {
          said = right.said;
          ranked = right.ranked;
          small = right.small;
          each = right.each;
          offered = all_shaped (own_of 0 about f pieces (map pieces_list kids)) proofs (right.offered 0);
        }))))
