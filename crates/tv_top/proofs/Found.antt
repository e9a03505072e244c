-- What certificates that were found say, and why there is none.
use Rattle.std.proofs.Common.{◌≡◌, ◌⊎◌, inl, inr, ℕ, List, [], ◌∷◌, ◌++◌, Vec, ℤ, refl, sym, subst, All, arith}
use Rattle.std.specs.Global.{Global}
use Rattle.std.specs.declared.alloc.AllocError.{AllocError}
use Rattle.std.specs.Prelude.{Result, Ok, Err, IfOk}
use Rattle.std.proofs.lemmas.List.Elements.{All-nil, All-cons, All-contains}
use Rattle.tv_program.specs.Systems.{System}
use Rattle.tv_formula.specs.Forms.{never_at}
use Rattle.tv_formula.specs.Normal.{normal}
use Rattle.tv_formula.specs.Parts.{HasParts}
use Rattle.tv_formula.specs.Properties.{Property, term}
use Rattle.tv_cases.specs.LinearCases.{CaseSystem, AreCases}
use Rattle.tv_farkas.specs.declared.budget.Budget.{Budget}
use Rattle.tv_farkas.specs.declared.fault.CoverFault.{CoverFault}
use Rattle.tv_farkas.specs.declared.fault.CoverFault.TheVariants as covers
use Rattle.tv_candidates.specs.declared.candidate.Candidate.{Candidate}
use Rattle.tv_cert.specs.declared.claim.Claim.{Claim}
use Rattle.tv_cert.specs.Claims.{IsClaim}
use Rattle.tv_cert.specs.declared.failing.Failing.{Failing}
use Rattle.tv_cert.specs.declared.node.Verdict.{Verdict}
use Rattle.tv_cert.specs.declared.node.Verdict.TheVariants as verdicts
use Rattle.tv_cert.specs.FirstFailing.{IsFirstFailing}
use Rattle.tv_cert.specs.Obligations.{Entry, AllMet}
use Rattle.tv_shape.specs.declared.certificate.Certificate.{Certificate}
use Rattle.tv_lexrank.specs.Certified.{SaysProved}
use Rattle.tv_sound.specs.Following.{FollowsFrom}
use Rattle.tv_sound.specs.Settled.{IsSettled}
use Rattle.tv_settling.specs.declared.fault.EndFault.{EndFault}
use Rattle.tv_settling.specs.declared.fault.EndFault.TheVariants as ends
use Rattle.tv_settling.specs.Ends.{IsStuckAlone}
use Rattle.tv_settling.specs.Refusals.{RefusesSafety}
use Rattle.tv_recur.specs.Refusing.{IsRefusal}
use Rattle.tv_search.specs.Answers.{IsKnown, HasNoPoint, IsReached, IsUnsearched}
use Rattle.tv_search.specs.declared.search_fault.SearchFault.TheVariants as searches
use Rattle.tv_invariant.specs.Places.{rows_at}
use Rattle.tv_invariant.proofs.ListLemmas.{all_by}
use Rattle.tv_causes.specs.CasePaths.{AreCasesAt}
use Rattle.tv_cases.specs.LinearCases.{LinearCase}
use Rattle.tv_program.specs.Steps.{State}
use Rattle.tv_points.specs.declared.fault.PointFault.{PointFault}
use Rattle.tv_points.specs.declared.fault.PointFault.TheVariants as points
use Rattle.tv_reaching.specs.FoundRuns.{IsAlong, IsFoundRun, IsRunFault, lists_of}
use Rattle.tv_reaching.specs.declared.found.Found.{Found}
use Rattle.tv_search.specs.Runs as searched
use Rattle.tv_invariant.proofs.PieceLemmas.{in_rows}
use Rattle.tv_linear.specs.Linear.{columns, IsMet, IsWithin}
use Rattle.tv_linear.proofs.ListLaws.{all_front, all_back}
use Rattle.tv_simplex.specs.declared.fault.SolveFault.{SolveFault}
use Rattle.tv_simplex.specs.declared.fault.SolveFault.TheVariants as solving
use Rattle.tv_rank.specs.declared.name.Name.{Name}
use Rattle.tv_rank.specs.declared.name.Name.TheVariants.{Rows}
use Rattle.tv_top.specs.declared.system_fault.SystemFault.{SystemFault}
use Rattle.tv_top.specs.declared.system_fault.SystemFault.TheVariants as kept
use Rattle.tv_nested.specs.declared.fault.NestFault.{NestFault}
use Rattle.tv_nested.specs.declared.fault.NestFault.TheVariants as nested
use Rattle.tv_top.specs.declared.named_system.NamedSystem.{NamedSystem}
use Rattle.tv_top.specs.declared.named_system.NamedSystem.TheVariants.{Searched}
use Rattle.tv_top.specs.declared.cause.Cause.{Cause}
use Rattle.tv_top.specs.declared.cause.Cause.TheVariants.{Unsolved, Spent, Composed, Unranked, Weak, TooManyPaths, TooManyPieces, Drawn, Unsettled, WideComparison}
use Rattle.tv_shape.specs.Certificates.{IsSettling}
use Rattle.tv_top.specs.declared.answer.Answer.{Answer}
use Rattle.tv_top.specs.declared.answer.Answer.TheVariants.{Proved, Disproved, Obligation, CertificateLine, Words, TooLong, Text, Property as Unnamed, Condition, WideEdge, TooManyInEdge, Unknown, ReadFault, Memory}
use Rattle.tv_region.specs.declared.fault.RegionFault.{RegionFault}
use Rattle.tv_region.specs.declared.fault.RegionFault.TheVariants as regions
use Rattle.tv_pre.specs.declared.fault.PreFault.{PreFault}
use Rattle.tv_pre.specs.declared.fault.PreFault.TheVariants as faults
use Rattle.tv_pre.specs.declared.gap.Gap.{Gap}
use Rattle.tv_pre.specs.declared.gap.Gap.TheVariants.{Inexact, Open}
use Rattle.tv_pre.specs.declared.deciding.Unproved.{Unproved}
use Rattle.tv_pre.specs.declared.deciding.Unproved.TheVariants.{Refused, Left, Wide}
use Rattle.tv_pre.proofs.WithinSize.{refusal_within_size}
use Rattle.tv_top.specs.Searching.{IsUnknown, IsNestAnswer, IsEndAnswer, IsFormulaAnswer, AnswersRegion, AnswersRefusal, AnswersLeft, AnswersUnproved}
use Rattle.tv_top.specs.declared.search.Search.{Search}
use Rattle.tv_top.specs.Views.{wanted_view}
use Rattle.tv_program.specs.Programs.{system_of}
use Rattle.tv_cases.specs.Systems.{cases_of}
use Rattle.tv_top.specs.Answers.{unsettled, unsolved, uncovered, unnested, nest_system, unknown, too_wide}
use Rattle.tv_top.specs.Tasks.{Wanted, Task}
use Rattle.tv_top.specs.Finding.{of_solver, Offers, Finds, Settles, TellsClaim, SaysVerdict, IsTextOf, IsEndFault, IsEndQuestion, IsNestFault, HasUnnested, round, IsSearchFault, IsWeakAt, AreTooManyAt, KeepsFrom, of_ends, of_safety, of_formula, budget_of, IsOther, IsUnprovedOf, AreTooMany, AreTooManyPieces}
use Rattle.tv_farkas.proofs.StretchLemmas.{short_all}

met_there : (before after : List Entry) (e : Entry) → AllMet (before ++ e ∷ after) → (P : Type 0) → (AllMet (e ∷ after) → P) → P
met_there [] after e h P f = f h
met_there (x ∷ before) after e h P f = met_there before after e h.1 P f

-- where all obligations are met, none is the first that is not
pub none_fails : (es : List Entry) (from : ℕ) (f : Failing) → AllMet es → IsFirstFailing es from f → ⊥
none_fails es from f all first = met_there first.before first.after first.failing (subst AllMet first.parts all) ⊥ (λ h. first.fails h.0)

-- ---- what a certificate says
module _ (wanted : Wanted) (p : System) (f : Property) (about : CaseSystem) (claim : Claim) (is : IsClaim claim f) (c : Certificate) (settling : IsSettling about claim c) (tells : TellsClaim p f about c) where
  proved_so : (start : _) (text : List ℕ) → c.verdict ≡ verdicts.Proved start → IsTextOf wanted p about claim c text → (answer : Answer) → SaysVerdict p (verdicts.Proved start) text answer → Settles wanted p f about answer
  proved_so start text e is_text (Proved certificate) says = record {
    claim = claim;
    is_claim = is;
    certificate = c;
    fits = settling.of;
    proved = subst SaysProved (sym e) tt;
    met = settling.met;
    holds = subst (IsSettled p f) e tells.settled;
    is_text = subst (IsTextOf wanted p about claim c) (sym says) is_text;
  }
  proved_so start text e is_text Memory says = tt
  proved_so start text e is_text (Disproved at certificate) says = absurd says
  proved_so start text e is_text (Obligation failing) says = absurd says
  proved_so start text e is_text (CertificateLine line) says = absurd says
  proved_so start text e is_text Words says = absurd says
  proved_so start text e is_text TooLong says = absurd says
  proved_so start text e is_text (Text fault) says = absurd says
  proved_so start text e is_text (Unnamed fault) says = absurd says
  proved_so start text e is_text (Condition fault) says = absurd says
  proved_so start text e is_text (WideEdge edge) says = absurd says
  proved_so start text e is_text (TooManyInEdge edge) says = absurd says
  proved_so start text e is_text (Unknown cause) says = absurd says
  proved_so start text e is_text ReadFault says = absurd says

  disproved_so : (piece : ℕ) (values : Vec ℤ Global) (text : List ℕ) → c.verdict ≡ verdicts.Disproved piece values → IsTextOf wanted p about claim c text → (answer : Answer) → SaysVerdict p (verdicts.Disproved piece values) text answer → Settles wanted p f about answer
  disproved_so piece values text e is_text (Disproved at certificate) says = record {
    claim = claim;
    is_claim = is;
    certificate = c;
    fits = settling.of;
    piece = piece;
    values = values;
    says = e;
    met = settling.met;
    names = says.0;
    same = says.1;
    fails = subst (IsSettled p f) e tells.settled;
    endless = λ n. subst (FollowsFrom p about c.root) e (tells.followed n);
    is_text = subst (IsTextOf wanted p about claim c) (sym says.2) is_text;
  }
  disproved_so piece values text e is_text Memory says = tt
  disproved_so piece values text e is_text (Proved certificate) says = absurd says
  disproved_so piece values text e is_text (Obligation failing) says = absurd says
  disproved_so piece values text e is_text (CertificateLine line) says = absurd says
  disproved_so piece values text e is_text Words says = absurd says
  disproved_so piece values text e is_text TooLong says = absurd says
  disproved_so piece values text e is_text (Text fault) says = absurd says
  disproved_so piece values text e is_text (Unnamed fault) says = absurd says
  disproved_so piece values text e is_text (Condition fault) says = absurd says
  disproved_so piece values text e is_text (WideEdge edge) says = absurd says
  disproved_so piece values text e is_text (TooManyInEdge edge) says = absurd says
  disproved_so piece values text e is_text (Unknown cause) says = absurd says
  disproved_so piece values text e is_text ReadFault says = absurd says

  -- what the verdict says is so
  pub said_so : (verdict : Verdict) (text : List ℕ) → c.verdict ≡ verdict → IsTextOf wanted p about claim c text → (answer : Answer) → SaysVerdict p verdict text answer → Settles wanted p f about answer
  said_so (verdicts.Proved start) text e is_text answer says = proved_so start text e is_text answer says
  said_so (verdicts.Disproved piece values) text e is_text answer says = disproved_so piece values text e is_text answer says

-- an answer that settles is found
pub settles_found : (offers : Offers) (task : Task) (p : System) (f : Property) (about : CaseSystem) (answer : Answer) → Settles task.wanted p f about answer → Finds offers task p f about answer
settles_found offers task p f about (Proved certificate) h = h
settles_found offers task p f about (Disproved at certificate) h = h
settles_found offers task p f about Memory h = h
settles_found offers task p f about (Unknown cause) h = absurd h
settles_found offers task p f about (Obligation failing) h = h
settles_found offers task p f about (CertificateLine line) h = h
settles_found offers task p f about Words h = h
settles_found offers task p f about TooLong h = h
settles_found offers task p f about (Text fault) h = h
settles_found offers task p f about (Unnamed fault) h = h
settles_found offers task p f about (Condition fault) h = h
settles_found offers task p f about (WideEdge edge) h = h
settles_found offers task p f about (TooManyInEdge edge) h = h
settles_found offers task p f about ReadFault h = h

-- a system that was not settled is answered, where each reason for it is found
unsolved_so : (offers : Offers) (task : Task) (p : System) (f : Property) (about : CaseSystem) (system : NamedSystem) (fault : SolveFault)
    → ((e : SystemFault) → of_solver e ≡ fault → Finds offers task p f about (Unknown (Unsolved system e))) → Finds offers task p f about (unsettled system fault)
unsolved_so offers task p f about system (solving.Width basis row column) h = h (kept.Width basis row column) refl
unsolved_so offers task p f about system (solving.Scale basis) h = h (kept.Scale basis) refl
unsolved_so offers task p f about system (solving.Pivots bases) h = h (kept.Pivots bases) refl
unsolved_so offers task p f about system (solving.Size rows columns) h = h (kept.Size rows columns) refl
unsolved_so offers task p f about system solving.Memory h = tt

-- ---- why it is not known whether every run ends
module _ (offers : Offers) (task : Task) (p : System) (f : Property) (about : CaseSystem) (n : normal f ≡ term) where
  abbrev budget : Budget
  budget = budget_of task.limits

  uncovered_end : (fault : CoverFault) → IsEndQuestion about (offers about) budget fault → Finds offers task p f about (uncovered fault)
  uncovered_end (covers.Splits path) h = of_ends n h
  uncovered_end (covers.Solve rows fault) h =
      unsolved_so offers task p f about (Searched (Rows rows)) fault (λ e same. of_ends n (inr (rows, refl, subst (λ k. IsEndQuestion about (offers about) budget (covers.Solve rows k)) (sym same) h)))
  uncovered_end (covers.Wide column) h = of_ends n h
  uncovered_end covers.Memory h = tt

  -- a system of the search for ranks that was not settled is answered
  system_so : (system : Name) (fault : SolveFault) → IsEndFault about (offers about) budget (ends.Solve system fault) → Finds offers task p f about (unsolved system fault)
  system_so system fault h =
      unsolved_so offers task p f about (Searched system) fault
      (λ e same. of_ends n (inl (inl (system, refl, subst (λ k. IsEndFault about (offers about) budget (ends.Solve system k)) (sym same) h))))

  -- and so is a question of integer points
  question_end : (fault : CoverFault) → IsEndFault about (offers about) budget (ends.Cover fault) → Finds offers task p f about (uncovered fault)
  question_end fault h = uncovered_end fault (inl h)

  -- and why no run that never ends was found
  pub round_so : IsStuckAlone about → (fault : CoverFault) → IsRefusal about budget fault → Finds offers task p f about (uncovered fault)
  round_so stuck fault h = question_end fault (round stuck fault refl h)

  -- and why it was not settled whether terms are nested
  unnested_so : (fault : NestFault) → IsNestFault about (offers about) budget fault → Finds offers task p f about (unnested fault)
  unnested_so (nested.Solve system fault) h =
      unsolved_so offers task p f about (nest_system system) fault
      (λ e same. of_ends n (inl (inr (system, refl, subst (λ k. IsNestFault about (offers about) budget (nested.Solve system k)) (sym same) h))))
  unnested_so (nested.Cover fault) h = uncovered_end fault (inr h)
  unnested_so nested.Memory h = tt

  -- no terms rank the cases, and none are nested
  unranked_so : (set : Vec ℕ Global) (barriers : Vec (Vec ℤ Global) Global) → IsEndFault about (offers about) budget (ends.Rank set barriers) → HasUnnested about
      → Finds offers task p f about (Unknown (Unranked set barriers))
  unranked_so set barriers h none = of_ends n (h, none)

  -- what comes of nested terms
  nested_so : (set : Vec ℕ Global) (barriers : Vec (Vec ℤ Global) Global) → IsEndFault about (offers about) budget (ends.Rank set barriers) → (answer : Answer)
      → IsNestAnswer task.wanted p f about budget set barriers answer → Finds offers task p f about answer
  nested_so set barriers h answer (inl g) = settles_found offers task p f about answer g
  nested_so set barriers h answer (inr (inl (e, none))) = subst (λ a. Finds offers task p f about a) (sym e) (unranked_so set barriers h none)
  nested_so set barriers h answer (inr (inr (fault, e, refused))) =
      subst (λ a. Finds offers task p f about a) (sym e) (unnested_so fault (record { set = set; barriers = barriers; unranked = h; refused = refused }))

  -- what comes of a search for ranks that gives no certificate
  pub ended_so : (fault : EndFault) → IsEndFault about (offers about) budget fault → (answer : Answer) → IsEndAnswer task.wanted p f about budget fault answer
      → Finds offers task p f about answer
  ended_so (ends.Solve system fault) h answer is = subst (λ a. Finds offers task p f about a) (sym is) (system_so system fault h)
  ended_so (ends.Cover fault) h answer is = subst (λ a. Finds offers task p f about a) (sym is) (question_end fault h)
  ended_so (ends.Rank set barriers) h answer is = nested_so set barriers h answer is
  ended_so ends.Memory h answer is = subst (λ a. Finds offers task p f about a) (sym is) tt

-- ---- why it is not known whether a run comes to a location
module _ (offers : Offers) (task : Task) (p : System) (f : Property) (about : CaseSystem) (l : ℕ) (n : normal f ≡ never_at l) where
  abbrev limit : Budget
  limit = budget_of task.limits

  pub uncovered_near : (fault : CoverFault) → IsSearchFault about (offers about) limit l fault → Finds offers task p f about (uncovered fault)
  uncovered_near (covers.Splits path) h = of_safety l n h
  uncovered_near (covers.Solve rows fault) h =
      unsolved_so offers task p f about (Searched (Rows rows)) fault (λ e same. of_safety l n (rows, refl, subst (λ k. IsSearchFault about (offers about) limit l (covers.Solve rows k)) (sym same) h))
  uncovered_near (covers.Wide column) h = of_safety l n (inl h)
  uncovered_near covers.Memory h = tt

  -- the point that is left at the location is answered
  pub weak_so : (r : Result Cause AllocError) (point : Vec ℤ Global) → IfOk r (IsWeakAt p l point) → IsUnsearched about (offers about) l limit (searches.Invariant point) → Finds offers task p f about (unknown r)
  weak_so (Ok (Weak label q)) point w h = of_safety l n (w.0, subst (λ v. IsUnsearched about (offers about) l limit (searches.Invariant v)) (sym w.1) h)
  weak_so (Ok (Unsolved system fault)) point w h = absurd w
  weak_so (Ok (Spent path)) point w h = absurd w
  weak_so (Ok (Composed column)) point w h = absurd w
  weak_so (Ok (Unranked set barriers)) point w h = absurd w
  weak_so (Ok (TooManyPaths label count)) point w h = absurd w
  weak_so (Ok (TooManyPieces label k)) point w h = absurd w
  weak_so (Ok (Drawn case)) point w h = absurd w
  weak_so (Ok (Unsettled part)) point w h = absurd w
  weak_so (Ok (WideComparison part)) point w h = absurd w
  weak_so (Err e) point w h = tt

  -- and so are too many paths
  pub many_so : (r : Result Cause AllocError) (count : ℕ) (point : Vec ℤ Global) → IfOk r (AreTooManyAt p l count) → IsUnsearched about (offers about) l limit (searches.Paths count point) → Finds offers task p f about (unknown r)
  many_so (Ok (TooManyPaths label k)) count point w h = of_safety l n (w.0, (point, subst (λ k. IsUnsearched about (offers about) l limit (searches.Paths k point)) (sym w.1) h))
  many_so (Ok (Unsolved system fault)) count point w h = absurd w
  many_so (Ok (Spent path)) count point w h = absurd w
  many_so (Ok (Composed column)) count point w h = absurd w
  many_so (Ok (Unranked set barriers)) count point w h = absurd w
  many_so (Ok (Weak label q)) count point w h = absurd w
  many_so (Ok (TooManyPieces label k)) count point w h = absurd w
  many_so (Ok (Drawn case)) count point w h = absurd w
  many_so (Ok (Unsettled part)) count point w h = absurd w
  many_so (Ok (WideComparison part)) count point w h = absurd w
  many_so (Err e) count point w h = tt

  -- what comes of rows that exclude the location
  pub shown_so : (list : List Candidate) → IsKnown about (offers about) list → HasNoPoint about l list → (answer : Answer)
      → Settles task.wanted p f about answer ⊎ ((fault : CoverFault) × (answer ≡ uncovered fault) × RefusesSafety about list l limit fault) → Finds offers task p f about answer
  shown_so list known excludes answer (inl h) = settles_found offers task p f about answer h
  shown_so list known excludes answer (inr h) =
      subst (λ a. Finds offers task p f about a) (sym h.1) (uncovered_near h.0 (inr record { list = list; known = known; excludes = excludes; refused = h.2 }))

  -- what comes of a run to the location
  pub reached_so : (run : Found) → run.location ≡ l → IsFoundRun about run → (answer : Answer)
      → Settles task.wanted p f about answer ⊎ ((fault : PointFault) × (answer ≡ too_wide fault) × IsRunFault about run fault) → Finds offers task p f about answer
  reached_so run to is answer (inl h) = settles_found offers task p f about answer h
  reached_so run to is answer (inr h) = subst (λ a. Finds offers task p f about a) (sym h.1) (wide_so h.0 h.2)
    where
      wide_so : (fault : PointFault) → IsRunFault about run fault → Finds offers task p f about (too_wide fault)
      wide_so (points.Wide column) w = of_safety l n (inr record { run = run; to = to; found = is; wide = w })
      wide_so points.Memory w = tt

-- ---- why it is not known whether another formula holds
module _ (offers : Offers) (task : Task) (p : System) (f : Property) (about : CaseSystem) (other : IsOther about f) (cases : AreCases about) (parts : HasParts f) where
  abbrev spent : Budget
  spent = budget_of task.limits

  many_pieces : (l count : ℕ) → IsUnprovedOf about f spent (Refused (faults.Region (regions.Disjuncts l count))) → AreTooMany about f spent l count
  many_pieces l count h =
      (h, λ plain n size. refusal_within_size about cases h.claim f spent (record { is = h.is_claim; variables = h.variables }) plain parts l count h.shows n size)

  pieces_so : (r : Result Cause AllocError) (l count : ℕ) → IfOk r (AreTooManyPieces p l count) → IsUnprovedOf about f spent (Refused (faults.Region (regions.Disjuncts l count))) → Finds offers task p f about (unknown r)
  pieces_so (Ok (TooManyPieces label n)) l count w h = of_formula other (l, w.0, subst (AreTooMany about f spent l) (sym w.1) (many_pieces l count h))
  pieces_so (Ok (Unsolved system fault)) l count w h = absurd w
  pieces_so (Ok (Spent path)) l count w h = absurd w
  pieces_so (Ok (Composed column)) l count w h = absurd w
  pieces_so (Ok (Unranked set barriers)) l count w h = absurd w
  pieces_so (Ok (Weak label q)) l count w h = absurd w
  pieces_so (Ok (TooManyPaths label k)) l count w h = absurd w
  pieces_so (Ok (Drawn number)) l count w h = absurd w
  pieces_so (Ok (Unsettled place)) l count w h = absurd w
  pieces_so (Ok (WideComparison place)) l count w h = absurd w
  pieces_so (Err e) l count w h = tt

  region_so : (fault : RegionFault) (answer : Answer) → AnswersRegion p fault answer → IsUnprovedOf about f spent (Refused (faults.Region fault)) → Finds offers task p f about answer
  region_so (regions.Disjuncts l count) answer a h = subst (Finds offers task p f about) (sym a.is) (pieces_so a.cause l count a.many h)
  region_so (regions.Wide column) answer a h = subst (Finds offers task p f about) (sym a) (of_formula other (inl h))
  region_so (regions.Solve rows fault) answer a h =
      subst (Finds offers task p f about) (sym a)
      (unsolved_so offers task p f about (Searched (Rows rows)) fault (λ e same.
      of_formula other (inl (rows, refl, inl (subst (λ k. IsUnprovedOf about f spent (Refused (faults.Region (regions.Solve rows k)))) (sym same) h)))))
  region_so regions.Memory answer a h = subst (Finds offers task p f about) (sym a) tt

  question_so : (fault : CoverFault) → IsUnprovedOf about f spent (Refused (faults.Cover fault)) → Finds offers task p f about (uncovered fault)
  question_so (covers.Splits path) h = of_formula other h
  question_so (covers.Solve rows fault) h =
      unsolved_so offers task p f about (Searched (Rows rows)) fault (λ e same.
      of_formula other (inl (rows, refl, inr (subst (λ k. IsUnprovedOf about f spent (Refused (faults.Cover (covers.Solve rows k)))) (sym same) h))))
  question_so (covers.Wide column) h = of_formula other (inr h)
  question_so covers.Memory h = tt

  refused_so : (fault : PreFault) (answer : Answer) → AnswersRefusal p fault answer → IsUnprovedOf about f spent (Refused fault) → Finds offers task p f about answer
  refused_so (faults.Region fault) answer a h = region_so fault answer a h
  refused_so (faults.Cover fault) answer a h = subst (Finds offers task p f about) (sym a) (question_so fault h)
  refused_so (faults.Rank system fault) answer a h =
      subst (Finds offers task p f about) (sym a)
      (unsolved_so offers task p f about (Searched system) fault (λ e same.
      of_formula other (inr (system, refl, subst (λ k. IsUnprovedOf about f spent (Refused (faults.Rank system k))) (sym same) h))))
  refused_so faults.Memory answer a h = subst (Finds offers task p f about) (sym a) tt

  left_so : (gap : Gap) (answer : Answer) → AnswersLeft about gap answer → IsUnprovedOf about f spent (Left gap) → Finds offers task p f about answer
  left_so Inexact answer a h = subst (Finds offers task p f about) (sym a.2) (of_formula other (a.1, h))
  left_so (Open place) answer a h = subst (Finds offers task p f about) (sym a) (of_formula other h)

  -- what comes of a formula that has no certificate
  pub unproved_so : (why : Unproved) (answer : Answer) → AnswersUnproved p about f why answer → IsUnprovedOf about f spent why → Finds offers task p f about answer
  unproved_so (Refused fault) answer a h = refused_so fault answer a h
  unproved_so (Left gap) answer a h = left_so gap answer a h
  unproved_so (Wide place) answer (inl none) h = subst (Finds offers task p f about) (sym none) tt
  unproved_so (Wide place) answer (inr (column, is, wide)) h = subst (Finds offers task p f about) (sym is) (of_formula other ((place, h), wide))

-- what comes of a formula
pub answered_so : (offers : Offers) (task : Task) (p : System) (f : Property) (about : CaseSystem) → IsOther about f → AreCases about → HasParts f → (answer : Answer)
    → Settles task.wanted p f about answer ⊎ ((why : Unproved) × AnswersUnproved p about f why answer × IsUnprovedOf about f (budget_of task.limits) why) → Finds offers task p f about answer
answered_so offers task p f about other cases parts answer (inl h) = settles_found offers task p f about answer h
answered_so offers task p f about other cases parts answer (inr h) = unproved_so offers task p f about other cases parts h.0 answer h.1 h.2

-- ---- an answer by regions that is not that nothing is known
module _ (wanted : Wanted) (p : System) (f : Property) (about : CaseSystem) where
  unsolved_known : (system : Name) (fault : SolveFault) → (IsUnknown (unsolved system fault) → ⊥) → Settles wanted p f about (unsolved system fault)
  unsolved_known system (solving.Width basis row column) n = absurd (n tt)
  unsolved_known system (solving.Scale basis) n = absurd (n tt)
  unsolved_known system (solving.Pivots bases) n = absurd (n tt)
  unsolved_known system (solving.Size rows columns) n = absurd (n tt)
  unsolved_known system solving.Memory n = tt

  uncovered_known : (fault : CoverFault) → (IsUnknown (uncovered fault) → ⊥) → Settles wanted p f about (uncovered fault)
  uncovered_known (covers.Splits path) n = absurd (n tt)
  uncovered_known (covers.Solve rows fault) n = unsolved_known (Rows rows) fault n
  uncovered_known (covers.Wide column) n = absurd (n tt)
  uncovered_known covers.Memory n = tt

  pieces_known : (r : Result Cause AllocError) → (IsUnknown (unknown r) → ⊥) → Settles wanted p f about (unknown r)
  pieces_known (Ok cause) n = absurd (n tt)
  pieces_known (Err e) n = tt

  region_known : (fault : RegionFault) (answer : Answer) → AnswersRegion p fault answer → (IsUnknown answer → ⊥) → Settles wanted p f about answer
  region_known (regions.Disjuncts l count) answer a n = rw a.is (pieces_known a.cause (λ u. n (rw a.is u)))
  region_known (regions.Wide column) answer a n = absurd (n (rw a tt))
  region_known (regions.Solve rows fault) answer a n = rw a (unsolved_known (Rows rows) fault (λ u. n (rw a u)))
  region_known regions.Memory answer a n = rw a tt

  refused_known : (fault : PreFault) (answer : Answer) → AnswersRefusal p fault answer → (IsUnknown answer → ⊥) → Settles wanted p f about answer
  refused_known (faults.Region fault) answer a n = region_known fault answer a n
  refused_known (faults.Cover fault) answer a n = rw a (uncovered_known fault (λ u. n (rw a u)))
  refused_known (faults.Rank system fault) answer a n = rw a (unsolved_known system fault (λ u. n (rw a u)))
  refused_known faults.Memory answer a n = rw a tt

  unproved_known : (why : Unproved) (answer : Answer) → AnswersUnproved p about f why answer → (IsUnknown answer → ⊥) → Settles wanted p f about answer
  unproved_known (Refused fault) answer a n = refused_known fault answer a n
  unproved_known (Left Inexact) answer a n = absurd (n (rw a.2 tt))
  unproved_known (Left (Open place)) answer a n = absurd (n (rw a tt))
  unproved_known (Wide place) answer (inl none) n = rw none tt
  unproved_known (Wide place) answer (inr (column, is, wide)) n = absurd (n (rw is tt))

-- an answer by regions settles, unless it is that nothing is known
pub formula_known : (s : Search) (f : Property) (answer : Answer) → (IsUnknown answer → ⊥) → IsFormulaAnswer s f answer
    → Settles (wanted_view s.task.now.wanted) (system_of s.program.now) f (cases_of s.about.now) answer
formula_known s f answer n (inl h) = h
formula_known s f answer n (inr h) = unproved_known (wanted_view s.task.now.wanted) (system_of s.program.now) f (cases_of s.about.now) h.0 answer h.1 n

-- what comes of a further search
pub further_so : (offers : Offers) (task : Task) (p : System) (f : Property) (about : CaseSystem) (old new : Answer) → Finds offers task p f about old
    → (new ≡ old) ⊎ Settles task.wanted p f about new → Finds offers task p f about new
further_so offers task p f about old new h (inl e) = subst (Finds offers task p f about) (sym e) h
further_so offers task p f about old new h (inr g) = settles_found offers task p f about new g

-- ---- runs that are found

-- the cases with the numbers lead along the run
pub along_of : (about : CaseSystem) (numbers : List ℕ) (path : List LinearCase) (draws : List (List ℤ)) (s : State) (run : List State) → AreCasesAt about numbers path → searched.IsAlong path draws s run → IsAlong about numbers draws s run
along_of about [] [] [] s [] are h = tt
along_of about [] [] [] s (t ∷ run) are h = absurd h
along_of about [] [] (ds ∷ draws) s run are h = absurd h
along_of about [] (c ∷ path) draws s run are h = absurd are
along_of about (k ∷ numbers) [] draws s run are h = absurd are
along_of about (k ∷ numbers) (c ∷ path) [] s run are h = absurd h
along_of about (k ∷ numbers) (c ∷ path) (ds ∷ draws) s [] are h = absurd h
along_of about (k ∷ numbers) (c ∷ path) (ds ∷ draws) s (t ∷ run) are h = (record { taken = c; found = are.0; does = h.0 }, along_of about numbers path draws t run are.1 h.1)

all_parts : (P : ℤ → Type 0) (lists : List (List ℤ)) → All P (searched.joined lists) → All (All P) lists
all_parts P [] h = All-nil (All P)
all_parts P (ds ∷ lists) h = All-cons (All P) ds lists (all_front P ds (searched.joined lists) h) (all_parts P lists (all_back P ds (searched.joined lists) h))

-- a run that the search gives is a run to the location
pub is_found : (about : CaseSystem) (run : Found) → IsReached about run.location run.path.now run.values.now (lists_of run.draws.now) → IsFoundRun about run
is_found about run h =
    let all = short_all (run.values.now ++ searched.joined (lists_of run.draws.now)) h.short in
    record {
      run = h.run;
      along = along_of about run.path.now h.path (lists_of run.draws.now) (searched.initial about run.values.now) h.run h.numbered h.along;
      ends = h.ends;
      counted = h.counted;
      narrow = all_front (IsWithin 62) run.values.now (searched.joined (lists_of run.draws.now)) all;
      narrow_draws = all_parts (IsWithin 62) (lists_of run.draws.now) (all_back (IsWithin 62) run.values.now (searched.joined (lists_of run.draws.now)) all);
      bounded = (let e = h.bounded in omega (arith, e));
    }

-- the rows that were found keep runs from the location
pub keeps_from : (about : CaseSystem) (Given : List (List Candidate) → Type 0) (l : ℕ) (list : List Candidate) → IsKnown about Given list → HasNoPoint about l list → KeepsFrom about l list
keeps_from about Given l list known none = record {
  over = all_by (λ c. columns c.row ≡ about.variables) list known.even;
  inductive = known.inductive;
  empty = λ xs point. none xs point.width (λ c among at. All-contains (IsMet xs) (rows_at l list) c.row point.met (in_rows l list c among (sym at)));
}
