-- A step that is shown is a proof of its obligation.
use Rattle.tv_shape.specs.Made.{IsOffered}
use Rattle.std.proofs.Common.{◌≡◌, ℕ, zero, suc, ◌+◌, ◌-◌, ◌<◌, List, [], ◌∷◌, ◌++◌, length, length-append, map, get_or, Option, None, Some, refl, sym, ap, ◌∙◌, subst}
use Rattle.std.specs.Option.{option_map}
use Rattle.tv_linear.specs.Linear.{Linear, columns}
use Rattle.tv_linear.specs.Known.{Known, given, denied}
use Rattle.tv_linear.specs.Covers.{ShownAt, IsMetCover}
use Rattle.tv_linear.specs.declared.cover.CoverTree.{CoverTree}
use Rattle.tv_linear.specs.declared.cover.CoverTree as cover
use Rattle.tv_linear.proofs.SameLemmas.{shown_shape}
use Rattle.tv_cases.specs.Systems.{cases_of}
use Rattle.tv_cert.specs.declared.node.Marked.{Marked}
use Rattle.tv_cert.specs.declared.node.Proof.TheVariants.{Covered}
use Rattle.tv_cert.specs.Claims.{about_with}
use Rattle.tv_cert.specs.Obligations.{case_change, step_fall}
use Rattle.tv_cert.specs.Shapes.{owed_count, ListsShape, CoverShape}
use Rattle.tv_cert.specs.Targets.{owed_into, target_rows, fall_from}
use Rattle.tv_rank.specs.Ways.{Way, case_at}
use Rattle.tv_lexrank.specs.declared.ranking.Ranking.{Ranking}
use Rattle.tv_farkas.specs.Trees.{TreeRows}
use Rattle.tv_lexrank.specs.Closing.{changed}
use Rattle.tv_lexrank.specs.Shown.{owed_fall}
use Rattle.tv_lexrank.specs.Steps.{owed_step, ShowsStep, way_in, ranks_of, rows_known}
use Rattle.tv_lexrank.specs.Pieces.{zero_ranks, all_ranks, ranked_piece}
use Rattle.tv_lexrank.specs.Attempt.{rounds_in}
use Rattle.tv_lexrank.specs.Offered.{ArePieces, step_owed}
use Rattle.tv_lexrank.specs.Known.{way_rows}
use Rattle.tv_lexrank.proofs.NodeLemmas.{fall_padded, met_weaker}
use Rattle.tv_lexrank.proofs.SortLemmas.{of_case}

-- ---- the shape of a cover that is met

pub met_shape : (n : ℕ) (owed : ℕ → ℕ → Option (List Known)) (known : List Known) (tree : CoverTree) → TreeRows (λ r. columns r ≡ n) tree → IsMetCover n owed known tree → CoverShape n (owed_count owed) (length known) tree
met_shape n owed known (cover.Split' r p a q b) even h = (
  even.0,
  subst (λ m. CoverShape n (owed_count owed) m a) (length-append known (given r ∷ [])) (met_shape n owed (known ++ given r ∷ []) a even.1 h.0),
  subst (λ m. CoverShape n (owed_count owed) m b) (length-append known (denied (given r) ∷ [])) (met_shape n owed (known ++ denied (given r) ∷ []) b even.2 h.1),
)
met_shape n owed known (cover.Empty ms) even h = h.as_many
met_shape n owed known (cover.Into k j ls) even h = by_rows (owed k j) h
  where
    by_rows : (o : Option (List Known)) → ShownAt n known o (map (λ l. l.items) ls.items) → ListsShape (length known + 1) (option_map length o) (map (λ l. l.items) ls.items)
    by_rows None h = absurd h
    by_rows (Some rows) h = shown_shape n known rows (map (λ l. l.items) ls.items) h

-- ---- the step over a case
module _ (r : Ranking) (k : ℕ) (k_in : k < length (cases_of r.about.now).cases) (ps : List Marked) (pieces : ArePieces r ps) where
  abbrev v : ℕ
  v = (cases_of r.about.now).variables

  abbrev w : Way
  w = way_in r k

  abbrev n : ℕ
  n = v + w.taken.draws

  abbrev from : ℕ
  from = w.taken.from

  abbrev to : ℕ
  to = w.taken.to

  abbrev zeros_at : ℕ → List Linear
  zeros_at l = zero_ranks v (r.count - 1 - length (rounds_in r.parts.now (get_or r.numbers.now l 0)))

  abbrev owed : ℕ → ℕ → Option (List Known)
  owed = owed_into ps to (case_change v w.taken) (step_fall (about_with (cases_of r.about.now)) (ranked_piece r from) w.taken)

  owed_there : (j : ℕ) (rows : List Known) → owed_step v w (rows_known r to) (ranks_of r from) (ranks_of r to) 0 j ≡ Some rows → owed 0 j ≡ Some rows
  owed_there j rows e =
      let enters = (of_case (cases_of r.about.now) k r.about.now.are_cases k_in).enters in
      subst (λ z. target_rows (case_change v w.taken) (fall_from (case_change v w.taken) (all_ranks r from)) z j ≡ Some rows) (sym (pieces to enters)) (by_fall (owed_fall v w (ranks_of r from) (ranks_of r to) j) refl e)
    where
      by_fall : (o : Option (List Known)) → owed_fall v w (ranks_of r from) (ranks_of r to) j ≡ o → option_map (λ falls. map (changed v w) (rows_known r to) ++ falls) o ≡ Some rows → option_map (λ falls. map (changed v w) (rows_known r to) ++ falls) (owed_fall v w (all_ranks r from) (all_ranks r to) j) ≡ Some rows
      by_fall None f g = absurd cc
      by_fall (Some falls) f g = ap (option_map (λ falls. map (changed v w) (rows_known r to) ++ falls)) (fall_padded v w (ranks_of r from) (ranks_of r to) (zeros_at from) (zeros_at to) j falls f) ∙ g

  owed_all : (t j : ℕ) (rows : List Known) → owed_step v w (rows_known r to) (ranks_of r from) (ranks_of r to) t j ≡ Some rows → owed t j ≡ Some rows
  owed_all zero j rows e = owed_there j rows e
  owed_all (suc t) j rows e = absurd cc

  pub step_offered : (number : ℕ) (tree : CoverTree) → ShowsStep r k tree → IsOffered (step_owed r number ps from (case_at (cases_of r.about.now).cases k)) (Covered tree)
  step_offered number tree h =
      let met = met_weaker n (owed_step v w (rows_known r to) (ranks_of r from) (ranks_of r to)) owed owed_all (way_rows w) tree h.met in
      record {
        shape = (subst (λ m. CoverShape n (owed_count owed) m tree) refl (met_shape n owed (way_rows w) tree h.even met), h.shallow);
        met = met;
        narrow = h.narrow;
      }
