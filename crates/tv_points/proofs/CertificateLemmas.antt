-- The certificate that a property is disproved.
use Rattle.std.proofs.Common.{◌≡◌, ◌==◌, ℕ, List, [], ◌∷◌, length, All, Some, slice_get, Bool, true, false, if◌then◌else◌, refl, sym, subst, ℤ}
use Rattle.std.proofs.lemmas.List.Elements.{All-head}
use Rattle.std.specs.Prelude.{IsSome, Option}
use Rattle.std.specs.Global.{Vec}
use Rattle.std.specs.Option.{option_map}
use Rattle.std.proofs.lemmas.Bool.{eq-eqb}
use Rattle.tv_formula.specs.Properties.{Property}
use Rattle.tv_cases.specs.LinearCases.{CaseSystem}
use Rattle.tv_cert.specs.declared.node.Marked.{Marked}
use Rattle.tv_cert.specs.declared.node.Node.{Node}
use Rattle.tv_cert.specs.declared.node.Verdict.{Verdict}
use Rattle.tv_cert.specs.declared.node.Verdict.TheVariants.{Disproved}
use Rattle.tv_cert.specs.Claims.{about_with}
use Rattle.tv_cert.specs.Nodes.{pieces_of, entries, root_entry, obligations}
use Rattle.tv_cert.specs.Obligations.{AllMet, PointMet}
use Rattle.tv_cert.specs.Pieces.{rows_of, pieces_at}
use Rattle.tv_shape.specs.Certificates.{IsOf}
use Rattle.tv_shape.specs.Fitting.{Fits, IsFirstFault}
use Rattle.tv_shape.specs.Narrow.{CountNarrow}
use Rattle.tv_shape.specs.declared.certificate.Certificate.{Certificate}
use Rattle.tv_shape.specs.declared.fault.ShapeFault.{ShapeFault}
use Rattle.tv_shape.proofs.FaultLemmas.{unfit}
use Rattle.tv_shape.specs.Made.{IsFitted}
use Rattle.tv_points.specs.Nodes.{IsInside, IsRunNode, SaysDisproved, IsDisproof}
use Rattle.tv_points.specs.StatePieces.{state_piece, state_pieces}
use Rattle.tv_points.specs.States.{IsState, StartsAt}
use Rattle.tv_points.specs.declared.state.State.{State}
use Rattle.tv_points.proofs.MetLemmas.{point_met}
use Rattle.tv_cert.proofs.FailingLemmas.{all_join}

there_is : (o : Option Marked) (p : Marked) → o ≡ Some p → IsSome o
there_is o p e = subst IsSome (sym e) refl

module _ (about : CaseSystem) (f : Property) (node : Node) (piece : ℕ) (values : Vec ℤ) (small : CountNarrow piece) (fitted : IsFitted (about_with about) f 1 node) (inside : IsInside about (pieces_of node) piece values.items) where
  abbrev verdict : Verdict
  verdict = Disproved piece values

  fits : Fits (about_with about) f node verdict
  fits = record {
    nodes = record { shape = fitted.shape; narrow = fitted.narrow; depth = fitted.within };
    shallow = tt;
    said = record { shape = (inside.many, there_is _ inside.piece inside.found); narrow = (small, inside.narrow) };
  }

  pub no_fault : (x : ShapeFault) → IsFirstFault (about_with about) f node verdict x → ⊥
  no_fault x h = unfit (about_with about) f node verdict x h fits

  root_met : PointMet values.items (option_map rows_of (slice_get (pieces_at (pieces_of node) about.start) piece))
  root_met = subst (λ o. PointMet values.items (option_map rows_of o)) (sym inside.found) inside.met

  all_obligations : AllMet (obligations (about_with about) f node verdict)
  all_obligations = all_join (entries 0 (about_with about) f node) (root_entry (about_with about) (pieces_of node) verdict ∷ []) (fitted.met 0) (root_met, tt)

  pub is_disproof : (c : Certificate) → IsOf (about_with about) f c → c.root ≡ node → c.verdict ≡ verdict → IsDisproof about f values.items c
  is_disproof c h e g = record {
    of = h;
    said = subst (SaysDisproved values.items) (sym g) refl;
    met = subst (λ z. AllMet (obligations (about_with about) f z c.verdict)) (sym e) (subst (λ z. AllMet (obligations (about_with about) f node z)) (sym g) all_obligations);
  }

-- ---- the first state of a run
first_found : (n start : ℕ) (ends : Bool) (first : State) (states : List State) → first.location ≡ start → slice_get (pieces_at (state_pieces n ends (first ∷ states)) start) 0 ≡ Some (state_piece n ends (length states) first)
first_found n start ends first states e = by_test (first.location == start) (eq-eqb first.location start e)
  where
    by_test : (b : Bool) → b ≡ true → slice_get (if b then state_piece n ends (length states) first ∷ pieces_at (state_pieces n ends states) start else pieces_at (state_pieces n ends states) start) 0 ≡ Some (state_piece n ends (length states) first)
    by_test true k = refl
    by_test false k = absurd cc

first_inside : (about : CaseSystem) (f : Property) (ends : Bool) (states : List State) (node : Node) (first : State) → IsRunNode about f ends states node → All (IsState about) states → slice_get states 0 ≡ Some first → first.location ≡ about.start → IsInside about (pieces_of node) 0 first.values.items
first_inside about f ends [] node first run each here start = absurd cc
first_inside about f ends (s ∷ states) node first run each here start =
    let same : s ≡ first = cc in
    let good = subst (IsState about) same (All-head (IsState about) s states each) in
    record {
      many = good.point.many;
      narrow = good.point.narrow;
      piece = state_piece about.variables ends (length states) first;
      found = subst (λ ps. slice_get (pieces_at ps about.start) 0 ≡ Some (state_piece about.variables ends (length states) first)) (sym run.pieces)
          (subst (λ t. slice_get (pieces_at (state_pieces about.variables ends (t ∷ states)) about.start) 0 ≡ Some (state_piece about.variables ends (length states) first)) (sym same) (first_found about.variables about.start ends first states start));
      met = point_met first.values.items;
    }

pub values_inside : (about : CaseSystem) (f : Property) (ends : Bool) (states : List State) (node : Node) (values : List ℤ) → IsRunNode about f ends states node → All (IsState about) states → (starts : StartsAt about states) → values ≡ starts.first.values.items → IsInside about (pieces_of node) 0 values
values_inside about f ends states node values run each starts e = subst (IsInside about (pieces_of node) 0) (sym e) (first_inside about f ends states node starts.first run each starts.here starts.start)
