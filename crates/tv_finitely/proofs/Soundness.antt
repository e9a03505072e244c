-- Where the obligations of visits are met, the property holds only finitely often on every run.
use Rattle.std.proofs.Common.{◌≡◌, ℕ, List, [], ◌∷◌, length, All, refl, sym, ◌∙◌, ℤ}
use Rattle.std.specs.Prelude.{false}
use Rattle.tv_linear.specs.Known.{given}
use Rattle.tv_linear.specs.Falls.{Falls}
use Rattle.tv_program.specs.Runs.{IsRun, last_of, Ends, all_end}
use Rattle.tv_program.specs.Steps.{State, Steps}
use Rattle.tv_program.specs.Systems.{System}
use Rattle.tv_formula.specs.Properties.{Property}
use Rattle.tv_meaning.specs.Meaning.{Holds}
use Rattle.tv_cert.specs.declared.node.Marked.{Marked}
use Rattle.tv_cert.specs.declared.node.Proof.{Proof}
use Rattle.tv_cert.specs.declared.node.Verdict.TheVariants.{Proved}
use Rattle.tv_cert.specs.AboutSystem.{about_of}
use Rattle.tv_cert.specs.Nodes.{root_entry}
use Rattle.tv_cert.specs.Obligations.{AllMet, IsMetEntry, paired}
use Rattle.tv_cert.specs.Pieces.{rows_of}
use Rattle.tv_cert.specs.Shapes.{PieceShape}
use Rattle.tv_cert.specs.Targets.{no_fall}
use Rattle.tv_linear.proofs.KnownLemmas.{met-as_given}
use Rattle.std.proofs.lemmas.List.Elements.{All-nil}
use Rattle.tv_linear.specs.Known.{IsKnownMet}
use Rattle.tv_finitely.specs.Finite.{Finite, all_visits, HoldsFinitely}
use Rattle.tv_finitely.specs.Obligations.{VisitParts, steps_owed, visit_entries}
use Rattle.tv_finitely.specs.Shapes.{VisitShape}
use Rattle.tv_finitely.specs.Splits.{SplitSystem, IsSplitOf}
use Rattle.tv_finitely.proofs.RankLemmas.{falls_end}
use Rattle.tv_finitely.proofs.EnterLemmas.{entered}
use Rattle.tv_finitely.proofs.Moving.{moves_then_falls}
use Rattle.tv_finitely.proofs.Paired.{AllMet-left, AllMet-right}
use Rattle.tv_finitely.proofs.Steps.{Placed, ranks_there, stepped}

module _ (s : SplitSystem) (m : ℕ) (ps : List Marked) (each : All (PieceShape s.system m false) ps) (proofs : List Proof) (met : AllMet (paired (steps_owed s ps) proofs)) (p : System) (f : Property) (split : IsSplitOf p f s) where
  abbrev n : ℕ
  n = s.system.variables

  -- a state in a piece, to which the ranks have fallen
  record Arrived (old : List ℤ) (t : State) : Type 0 where
    at : Placed n ps t
    falls : Falls old (ranks_there at.piece t)

  -- along a run to a state where the property holds the ranks fall
  arrives : (a t : State) (ts : List State) (here : Placed n ps a) → IsRun (Steps p) a (t ∷ ts) → Holds (Steps p) f (last_of t ts) → Arrived (ranks_there here.piece a) (last_of t ts)
  arrives a t [] here run h =
      let w = stepped s m ps each proofs met p f split a t here run.0 in
      record { at = w.at; falls = w.falls h }
  arrives a t (u ∷ ts) here run h =
      let w = stepped s m ps each proofs met p f split a t here run.0 in
      let rest = arrives t u ts w.at run.1 h in
      record { at = rest.at; falls = moves_then_falls (ranks_there here.piece a) (ranks_there w.at.piece t) (ranks_there rest.at.piece (last_of u ts)) w.moves rest.falls }

  finite_from : {ranks : List ℤ} → Ends Falls ranks → (a : State) (here : Placed n ps a) → ranks ≡ ranks_there here.piece a → Finite (Steps p) (Holds (Steps p) f) a
  finite_from {ranks} (all_end g) a here e = all_visits (λ t ts run h.
      let w = arrives a t ts here run h in
      finite_from (g (ranks_there w.at.piece (last_of t ts)) (rw e w.falls)) (last_of t ts) w.at refl)

  pub finite : (a : State) → Placed n ps a → Finite (Steps p) (Holds (Steps p) f) a
  finite a here = finite_from (falls_end (ranks_there here.piece a)) a here refl

-- the start is covered by the pieces there
starts : (s : SplitSystem) (v : VisitParts) → IsMetEntry (root_entry (about_of s.system) v.pieces (Proved v.root)) → (a : State) → a.location ≡ s.system.start → length a.values ≡ s.system.variables → Placed s.system.variables v.pieces a
starts s v met a place wide =
    let e = entered s.system.variables a.values v.pieces s.system.start given no_fall [] v.root met wide (All-nil (IsKnownMet a.values)) in
    record { piece = e.piece; among = e.among; inside = record { place = place ∙ sym e.place; rows = (met-as_given a.values (rows_of e.piece)).1 e.rows }; wide = wide }

pub holds_finitely : (s : SplitSystem) (v : VisitParts) → VisitShape s v → AllMet (visit_entries s v) → (p : System) (f : Property) → IsSplitOf p f s → HoldsFinitely p f
holds_finitely s v shape met p f split = λ a initial.
    let steps = AllMet-left (paired (steps_owed s v.pieces) v.proofs) _ met in
    let root = AllMet-right (paired (steps_owed s v.pieces) v.proofs) _ met in
    let here = starts s v root.0 a (initial.place ∙ sym split.program.start) (initial.counted ∙ sym split.program.variables) in
    finite s v.ranks v.pieces shape.each v.proofs steps p f split a here
