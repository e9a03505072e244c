-- A step of a program that is split, from a state in a piece of visits whose obligations are met.
use Rattle.std.proofs.Common.{◌≡◌, ◌⊎◌, inl, inr, ℕ, zero, suc, ◌+◌, ◌≤◌, List, [], ◌∷◌, ◌++◌, map, length, Option, Some, Bool, true, false, arith, refl, sym, ◌∙◌, subst, ℤ, cond}
use Rattle.std.specs.Prelude.{Contains, All}
use Rattle.std.proofs.lemmas.Bool.{eq-eqb}
use Rattle.std.proofs.lemmas.List.{length-map}
use Rattle.std.proofs.lemmas.List.Elements.{All-contains}
use Rattle.tv_linear.specs.Linear.{Linear, columns}
use Rattle.tv_linear.specs.Known.{Known, given, known_value, as_given, IsKnownMet}
use Rattle.tv_linear.specs.Falls.{Falls}
use Rattle.tv_linear.proofs.FallLemmas.{falls-shown}
use Rattle.tv_program.specs.Steps.{State, Steps}
use Rattle.tv_program.specs.Systems.{System}
use Rattle.tv_formula.specs.Properties.{Property}
use Rattle.tv_meaning.specs.Meaning.{Holds}
use Rattle.tv_cases.specs.LinearCases.{LinearCase, from_of}
use Rattle.tv_cases.proofs.ContainsLemmas.{Contains-here}
use Rattle.tv_cert.specs.declared.node.Marked.{Marked}
use Rattle.tv_cert.specs.declared.node.Proof.{Proof}
use Rattle.tv_cert.specs.Pieces.{place_of, rows_of, ranks_of, InMarked}
use Rattle.tv_cert.specs.Fits.{PieceFits}
use Rattle.tv_cert.specs.Targets.{owed_into, fall_from}
use Rattle.tv_cert.specs.Obligations.{AllMet, case_change, paired}
use Rattle.tv_cert.specs.Shapes.{PieceShape}
use Rattle.tv_finitely.specs.Kept.{visit_fall}
use Rattle.tv_finitely.specs.Obligations.{step_owed, case_owes, piece_owes, steps_owed}
use Rattle.tv_finitely.specs.Splits.{SplitSystem, marked_cases, StepsBy, IsSplitOf}
use Rattle.tv_finitely.proofs.EnterLemmas.{StepCovered, step_entered, inside_after, ranks_before, ranks_now, wide_after}
use Rattle.tv_finitely.proofs.Moving.{Moves, kept-shown}
use Rattle.tv_finitely.proofs.Paired.{Contains-flat_map, paired_some, cover_shown}

-- the values of the ranks of a piece at a state
abbrev pub ranks_there : Marked → State → List ℤ
ranks_there p s = map (known_value s.values) (as_given (ranks_of p))

-- a state in a piece
pub record Placed (n : ℕ) (ps : List Marked) (s : State) : Type 0 where
  pub piece : Marked
  pub among : Contains ps piece
  pub inside : InMarked piece s
  pub wide : length s.values ≡ n

-- a state in a piece, to which the ranks fall where the mark is true, and else fall or do not grow
pub record Moved (n : ℕ) (ps : List Marked) (mark : Bool) (old : List ℤ) (t : State) : Type 0 where
  pub at : Placed n ps t
  pub moves : Moves old (ranks_there at.piece t)
  pub falls : mark ≡ true → Falls old (ranks_there at.piece t)

module _ (s : SplitSystem) (m : ℕ) (ps : List Marked) (each : All (PieceShape s.system m false) ps) where
  abbrev n : ℕ
  n = s.system.variables

  shape_of : (p : Marked) → Contains ps p → PieceShape s.system m false p
  shape_of p c = All-contains (PieceShape s.system m false) ps p each c

  narrow : (rows : List Linear) → All (λ r. columns r ≡ n) rows → All (λ r. columns r ≤ n) rows
  narrow rows h = λ k d l. (let e = h k d l in omega (arith, e))

  ranked : (p : Marked) → PieceShape s.system m false p → length (ranks_of p) ≡ m
  ranked p h = (let g = h.marks refl in let e = h.many in rw g at e)

  fits_of : (p : Marked) → Contains ps p → PieceFits n m p
  fits_of p c = (let h = shape_of p c in record { rows = narrow (rows_of p) h.rows; ranks = narrow (ranks_of p) h.ranks; many = λ g. ranked p h })

  -- ---- what is owed
  owed_here : (p : Marked) (c : LinearCase) (mark : Bool) → c.from ≡ place_of p → Contains (case_owes s.system ps p (c, mark)) (step_owed s.system ps p (c, mark))
  owed_here p c mark e =
      subst (λ b. Contains (cond b (step_owed s.system ps p (c, mark) ∷ []) []) (step_owed s.system ps p (c, mark))) (sym (eq-eqb (from_of c) (place_of p) e)) (Contains-here _ [])

  owed_there : (p : Marked) → Contains ps p → (c : LinearCase) (mark : Bool) → Contains (marked_cases s) (c, mark) → c.from ≡ place_of p → Contains (steps_owed s ps) (step_owed s.system ps p (c, mark))
  owed_there p among c mark there e =
      Contains-flat_map (piece_owes s ps) ps p _ among
      (Contains-flat_map (case_owes s.system ps p) (marked_cases s) (c, mark) _ there (owed_here p c mark e))

  module _ (proofs : List Proof) (met : AllMet (paired (steps_owed s ps) proofs)) where
    abbrev fall_of : Marked → LinearCase → Bool → Marked → ℕ → Option (List Known)
    fall_of p c mark q j = visit_fall mark (case_change n c) (ranks_of p) q j

    step_covered : (p : Marked) → Contains ps p → (c : LinearCase) (mark : Bool) → Contains (marked_cases s) (c, mark) → c.from ≡ place_of p → StepCovered n p c ps (fall_of p c mark)
    step_covered p among c mark there e =
        let w = paired_some (steps_owed s ps) proofs (step_owed s.system ps p (c, mark)) met (owed_there p among c mark there e) in
        let x = cover_shown (n + c.draws) (as_given (rows_of p) ++ as_given c.guards) (owed_into ps c.to (case_change n c) (fall_of p c mark)) w.0 w.1 in
        record { tree = x.0; met = x.1 }

    -- ---- what is met shows of the ranks
    module _ (xs : List ℤ) (p q : Marked) (c : LinearCase) (shape : PieceShape s.system m false p) (shape' : PieceShape s.system m false q) where
      abbrev before : List ℤ
      before = map (known_value xs) (as_given (ranks_of p))

      abbrev after : List ℤ
      after = map (known_value xs) (map (case_change n c) (ranks_of q))

      same_many : length (map (case_change n c) (ranks_of q)) ≡ length (as_given (ranks_of p))
      same_many = length-map (ranks_of q) (case_change n c) ∙ ranked q shape' ∙ sym (ranked p shape) ∙ sym (length-map (ranks_of p) (λ r. given r))

      fell : (j : ℕ) (rows : List Known) → fall_from (case_change n c) (ranks_of p) q j ≡ Some rows → All (IsKnownMet xs) rows → Falls before after
      fell j rows e h = falls-shown xs (as_given (ranks_of p)) (map (case_change n c) (ranks_of q)) j rows same_many (let g = shape'.marks refl in rw g at e) h

      moved : (mark : Bool) (j : ℕ) (rows : List Known) → visit_fall mark (case_change n c) (ranks_of p) q j ≡ Some rows → All (IsKnownMet xs) rows → Moves before after × (mark ≡ true → Falls before after)
      moved true zero rows e h = absurd (let k : ⊥ = cc in k)
      moved false zero rows e h = (inr (kept-shown xs (as_given (ranks_of p)) (map (case_change n c) (ranks_of q)) rows e h), λ t. absurd (let k : ⊥ = cc in k))
      moved mark (suc j) rows e h = (let f = fell (suc j) rows e h in (inl f, λ t. f))

    Moves_along : (a b a' b' : List ℤ) (mark : Bool) → a ≡ a' → b ≡ b' → Moves a b × (mark ≡ true → Falls a b) → Moves a' b' × (mark ≡ true → Falls a' b')
    Moves_along a b a' b' mark e f h = subst (λ (x : Type 0). x) (λ i. Moves (e i) (f i) × (mark ≡ true → Falls (e i) (f i))) h

    pub by_case : (a b : State) (here : Placed n ps a) (mark : Bool) → StepsBy s mark a b → Moved n ps mark (ranks_there here.piece a) b
    by_case a b here mark step =
        let p = here.piece in
        let c = step.taken in
        let ds = step.draws in
        let fit = fits_of p here.among in
        let cover = step_covered p here.among c mark step.among (sym step.does.leaves ∙ here.inside.place) in
        let fall = fall_of p c mark in
        let e = step_entered n p c ds a b here.wide here.inside step.does m fit ps fall cover in
        let q = e.piece in
        let now : Placed n ps b = record { piece = q; among = e.among; inside = inside_after n p c ds a b here.wide here.inside step.does m fit ps fall e; wide = wide_after n c ds a b step.does here.wide } in
        let w = moved (a.values ++ ds) p q c (shape_of p here.among) (shape_of q e.among) mark e.number e.falls e.fell e.met in
        let v = Moves_along _ _ (ranks_there p a) (ranks_there q b) mark (ranks_before n p c ds a b here.wide here.inside step.does m fit) (ranks_now n p c ds a b here.wide here.inside step.does m fit q) w in
        record { at = now; moves = v.0; falls = v.1 }

    -- ---- steps of the program
    module _ (p : System) (f : Property) (split : IsSplitOf p f s) where
      -- a step leads to a piece; the ranks fall where the property holds there
      pub record Stepped (old : List ℤ) (t : State) : Type 0 where
        pub at : Placed n ps t
        pub moves : Moves old (ranks_there at.piece t)
        pub falls : Holds (Steps p) f t → Falls old (ranks_there at.piece t)

      pub stepped : (a b : State) (here : Placed n ps a) → Steps p a b → Stepped (ranks_there here.piece a) b
      stepped a b here step = by_truth (split.decided b) where
        wide : length a.values ≡ length p.variables
        wide = here.wide ∙ split.program.variables

        by_truth : (Holds (Steps p) f b) ⊎ (¬ (Holds (Steps p) f b)) → Stepped (ranks_there here.piece a) b
        by_truth (inl h) = (let w = by_case a b here true ((split.entering a b wide).0 (step, h)) in record { at = w.at; moves = w.moves; falls = λ k. w.falls refl })
        by_truth (inr h) = (let w = by_case a b here false ((split.leaving a b wide).0 (step, h)) in record { at = w.at; moves = w.moves; falls = λ k. absurd (h k) })
