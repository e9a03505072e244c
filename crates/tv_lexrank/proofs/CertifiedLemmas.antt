-- The certificate that every run ends.
use Rattle.std.proofs.Common.{◌≡◌, ℕ, ◌<◌, List, [], ◌∷◌, ◌++◌, map, Some, arith, refl, sym, ap, ◌∙◌, subst}
use Rattle.std.proofs.lemmas.List.Elements.{All-nil}
use Rattle.tv_linear.specs.Linear.{Linear}
use Rattle.tv_linear.specs.Known.{given, as_given}
use Rattle.tv_linear.specs.Covers.{Shown, ShownAt, IsMetCover}
use Rattle.tv_linear.specs.declared.cover.CoverTree.{CoverTree}
use Rattle.tv_linear.specs.declared.cover.CoverTree as cover
use Rattle.tv_linear.specs.declared.region.Piece.{Piece}
use Rattle.tv_cases.specs.LinearCases.{CaseSystem}
use Rattle.tv_formula.specs.Properties.{Property, term}
use Rattle.tv_cert.specs.declared.node.Marked.{Marked}
use Rattle.tv_cert.specs.declared.node.Node.{Node}
use Rattle.tv_cert.specs.declared.node.Verdict.TheVariants.{Proved}
use Rattle.tv_cert.specs.Claims.{about_with}
use Rattle.tv_cert.specs.Nodes.{pieces_of, entries, root_entry, obligations}
use Rattle.tv_cert.specs.Obligations.{AllMet}
use Rattle.tv_cert.specs.Pieces.{rows_of}
use Rattle.tv_cert.specs.Targets.{owed_into, target_rows, no_fall}
use Rattle.tv_rank.specs.Given.{lists}
use Rattle.tv_rank.specs.Ways.{rows_at}
use Rattle.tv_shape.specs.Certificates.{IsOf}
use Rattle.tv_shape.specs.Fitting.{Fits, IsFirstFault}
use Rattle.tv_shape.specs.Narrow.{CountNarrow, AreNarrow, ListsNarrow, CoverNarrow}
use Rattle.tv_shape.specs.declared.certificate.Certificate.{Certificate}
use Rattle.tv_shape.specs.declared.fault.ShapeFault.{ShapeFault}
use Rattle.tv_shape.proofs.FaultLemmas.{unfit}
use Rattle.tv_cert.proofs.FailingLemmas.{all_join}
use Rattle.tv_lexrank.specs.declared.falling.Fall.{Fall}
use Rattle.tv_lexrank.specs.Nodes.{IsPieceAt, IsRankedNode, ShowsEnd}
use Rattle.tv_lexrank.specs.Closing.{IsWholeCover}
use Rattle.tv_lexrank.specs.Falling.{HasFall}
use Rattle.tv_lexrank.specs.Certified.{IsStartCover, IsRoot, SaysProved, IsProofOf}
use Rattle.tv_lexrank.proofs.ClosingLemmas.{whole_splits, whole_even}
use Rattle.tv_lexrank.proofs.OfferLemmas.{met_shape}

bare_narrow : (tree : CoverTree) → IsWholeCover tree → CoverNarrow tree
bare_narrow (cover.Split' r p a q b) h = absurd h
bare_narrow (cover.Empty ms) h = absurd h
bare_narrow (cover.Into target fall ls) h =
    let none : CountNarrow 0 = omega arith in
    (subst CountNarrow (sym h.0) none, subst CountNarrow (sym h.1) none, subst (λ z. ListsNarrow z) (sym h.2) (All-nil (λ l. AreNarrow l.items)))

-- the cover of a location where the first piece has no rows is met
bare_met : (n l : ℕ) (ps : List Marked) (tree : CoverTree) → IsWholeCover tree → IsPieceAt ps l [] → IsMetCover n (owed_into ps l given no_fall) [] tree
bare_met n l ps (cover.Split' r p a q b) h w = absurd h
bare_met n l ps (cover.Empty ms) h w = absurd h
bare_met n l ps (cover.Into target fall ls) h w =
    subst (λ z. ShownAt n [] (owed_into ps l given no_fall z fall) (map (λ x. x.items) ls.items)) (sym h.0)
    (subst (λ z. ShownAt n [] (owed_into ps l given no_fall 0 z) (map (λ x. x.items) ls.items)) (sym h.1)
    (subst (λ z. ShownAt n [] (owed_into ps l given no_fall 0 0) (map (λ x. x.items) z)) (sym h.2)
    (subst (λ z. ShownAt n [] (target_rows given no_fall z 0) []) (sym w.first) (by_rows (rows_of w.piece) w.has))))
  where
    by_rows : (rs : List Linear) → rs ≡ [] → ShownAt n [] (Some (map given rs ++ [])) []
    by_rows [] e = tt
    by_rows (r ∷ rs) e = absurd cc

-- the cover by no rows is met by the piece at the start, where no row is known
pub whole_root : (about : CaseSystem) (node : Node) (tree : CoverTree) → about.start < about.locations → IsRankedNode about node → IsWholeCover tree → IsRoot about term node tree
whole_root about node tree starts ranked bare = record {
  fits = ranked.fits;
  nodes = ranked.met 0;
  met = bare_met about.variables about.start (pieces_of node) tree bare (ranked.pieces about.start starts);
  shallow = (let f = whole_splits tree bare in omega (arith, f));
  even = whole_even about.variables tree bare;
  narrow = bare_narrow tree bare;
}

-- the cover of the start by the known rows, with no fall after it, is met by the piece there
pub known_root : (about : CaseSystem) (known : List Piece) (node : Node) (fall : Fall) (base tree : CoverTree) → about.start < about.locations → ShowsEnd about known node → fall.number ≡ 0 → lists fall.lines.items ≡ [] → IsStartCover about.variables (rows_at known about.start) base → HasFall fall 0 base tree → IsRoot about term node tree
known_root about known node fall base tree starts ranked number lines begins h = record {
  fits = ranked.fits;
  nodes = ranked.met 0;
  met = h.goes_on v [] [] (as_given (rows_at known about.start)) [] (owed_into (pieces_of node) about.start given no_fall) refl tt (subst (Shown v [] []) (sym lines) tt) (subst (λ j. owed_into (pieces_of node) about.start given no_fall 0 j ≡ Some (as_given (rows_at known about.start) ++ [])) (sym number) owed) begins.met;
  shallow = (let d = h.deep in let s = begins.shallow in omega (arith, d, s));
  even = h.even v begins.even;
  narrow = h.narrow;
}
  where
    v : ℕ
    v = about.variables

    piece : IsPieceAt (pieces_of node) about.start (rows_at known about.start)
    piece = ranked.pieces about.start starts

    owed : owed_into (pieces_of node) about.start given no_fall 0 0 ≡ Some (as_given (rows_at known about.start) ++ [])
    owed = ap (λ z. target_rows given no_fall z 0) piece.first ∙ ap (λ z. Some (as_given z ++ [])) piece.has

module _ (about : CaseSystem) (f : Property) (node : Node) (tree : CoverTree) (root : IsRoot about f node tree) where
  root_fits : Fits (about_with about) f node (Proved tree)
  root_fits = record {
    nodes = root.fits;
    shallow = (let s = root.shallow in omega (arith, s));
    said = record {
      shape = (met_shape about.variables (owed_into (pieces_of node) about.start given no_fall) [] tree root.even root.met, root.shallow);
      narrow = root.narrow;
    };
  }

  pub no_fault : (x : ShapeFault) → IsFirstFault (about_with about) f node (Proved tree) x → ⊥
  no_fault x h = unfit (about_with about) f node (Proved tree) x h root_fits

  all_obligations : AllMet (obligations (about_with about) f node (Proved tree))
  all_obligations = all_join (entries 0 (about_with about) f node) (root_entry (about_with about) (pieces_of node) (Proved tree) ∷ []) root.nodes (root.met, tt)

  pub is_proof : (c : Certificate) → IsOf (about_with about) f c → c.root ≡ node → c.verdict ≡ Proved tree → IsProofOf about f c
  is_proof c h e g = record {
    of = h;
    proved = subst SaysProved (sym g) tt;
    met = subst (λ z. AllMet (obligations (about_with about) f z c.verdict)) (sym e) (subst (λ z. AllMet (obligations (about_with about) f node z)) (sym g) all_obligations);
  }
