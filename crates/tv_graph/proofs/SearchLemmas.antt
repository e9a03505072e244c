use Rattle.std.proofs.Common.{◌≡◌, ◌≢◌, ℕ, ◌+◌, ◌-◌, ◌*◌, ◌<◌, ◌≤◌, inl, inr, List, [], ◌∷◌, length, take, get_or, slice_set, refl, sym, ◌∙◌, ap, subst, arith, length-append}
use Rattle.std.specs.Prelude.{sum_by}
use Rattle.std.proofs.Math.ListN.{get_or-append, replicate}
use Rattle.std.proofs.Math.Seq.{get_or-append_seam}
use Rattle.std.proofs.lemmas.List.{get_or-take, length-take-le, get_or-set_same, get_or-set_other, length-set, get_or_past, get_or-replicate}
use Rattle.std.proofs.lemmas.List.Sums.{sum_by-set}
use Rattle.std.proofs.lemmas.List.Folds.{sum_by-replicate}
use Rattle.std.proofs.lemmas.Bool.{cases_lt, cases_eq}
use Rattle.tv_graph.specs.declared.Arc.{Arc}
use Rattle.tv_graph.specs.declared.marks.Mark.{Mark}
use Rattle.tv_graph.specs.declared.marks.Mark.TheVariants.{New, Open, Closed}
use Rattle.tv_graph.specs.declared.search.PathSearch.{PathSearch}
use Rattle.tv_graph.specs.Graph.{Reaches}
use Rattle.tv_graph.specs.Arcs.{InRange, IsPastLast, from_at, to_at}
use Rattle.tv_graph.specs.Marks.{mark_at, unseen, Closes}
use Rattle.tv_graph.specs.Stacks.{Has, IsLastOf, IsRising, Cuts}
use Rattle.tv_graph.specs.Invariant.{IsSearchState, Follows, done, held}
use Rattle.tv_graph.specs.PathSearch.{IsValid, EntersNode, ClosesSegment, FollowsArc, Steps, same}
use Rattle.tv_graph.proofs.StateLemmas.{both, pushed, closed, finished, followed, reaches_last, was_new}
use Rattle.tv_graph.proofs.StackLemmas.{has_old, has_new, has_split, has_less, has_rest, has_top, has_some, top_most, has_below, rising_push, rising_take, rising_none, cuts_rising, cuts_state}
use Rattle.tv_graph.proofs.ReachLemmas.{follows_arcs}

-- equal numbers and lists in the place of others
reshaped : {m : ℕ} {f t : ℕ → ℕ} {R : ℕ → ℕ → Type 0} {mark : ℕ → Mark} {s : ℕ → ℕ} {W B : ℕ → Type 0} (cs ds : List ℕ) (a b c d : ℕ) → ds ≡ cs → b ≡ a → d ≡ c → IsSearchState m f t R mark (λ u. get_or cs u 0) s a c W B → IsSearchState m f t R mark (λ u. get_or ds u 0) s b d W B
reshaped {m} {f} {t} {R} {mark} {s} {W} {B} cs ds a b c d de be ce st =
    let P : List ℕ → Type 0 = λ xs. IsSearchState m f t R mark (λ u. get_or xs u 0) s a c W B in
    let Q : ℕ → Type 0 = λ n. IsSearchState m f t R mark (λ u. get_or ds u 0) s n c W B in
    let S : ℕ → Type 0 = λ n. IsSearchState m f t R mark (λ u. get_or ds u 0) s b n W B in
    subst S (sym ce) (subst Q (sym be) (subst P (sym de) st))

-- another list of the path that agrees
agreeing : {m : ℕ} {f t : ℕ → ℕ} {R : ℕ → ℕ → Type 0} {mark : ℕ → Mark} {cur s : ℕ → ℕ} {size count : ℕ} {W B : ℕ → Type 0} → IsSearchState m f t R mark cur s size count W B → (z : ℕ → ℕ) → ((i : ℕ) → i < size → z i ≡ s i) → IsSearchState m f t R mark cur z size count W B
agreeing {R} {mark} {size} st z agree = record {
  placed = λ u i mu. let h = st.placed u i mu in (h.0, agree i h.0 ∙ h.1);
  seated = λ i lt. ap mark (agree i lt) ∙ st.seated i lt;
  onward = λ i j ij js. both R (st.onward i j ij js) (z i) (z j) (agree i (omega arith)) (agree j js);
  back = λ i j ij js free. both R (st.back i j ij js free) (z j) (z i) (agree j js) (agree i (omega arith));
  kept = st.kept;
  fresh = st.fresh;
  falling = st.falling;
  joined = st.joined;
  numbered = st.numbered;
  used = st.used;
  waiting = st.waiting;
  within = st.within;
  boundaries = st.boundaries;
  bottom = st.bottom;
}

-- a node with a mark is a node
pub marked_in : (marks : List Mark) (u i : ℕ) → mark_at marks u ≡ Open i → u < length marks
marked_in marks u i e = elim (cases_lt u (length marks)) [
  | inl l ↦ l
  | inr g ↦ (let h : Open i ≡ New = sym e ∙ get_or_past marks u New g in cc)
]

-- a new node is entered, which each node of the path reaches
pub enters_valid : (arcs : List Arc) (x y : PathSearch) (node : ℕ) → IsValid arcs x → EntersNode x y node → mark_at x.marks.items node ≡ New → node < length x.marks.items → ((i : ℕ) → i < length x.path.items → Reaches arcs (get_or x.path.items i 0) node) → IsValid arcs y
enters_valid arcs x y node g e new inside path =
    let size : ℕ = length x.path.items in
    let wide : length y.path.items ≡ length x.path.items + 1 = ap length e.path ∙ length-append x.path.items (node ∷ []) in
    let nodes : length y.marks.items ≡ length x.marks.items = ap length e.marks ∙ length-set x.marks.items node (Open (length x.path.items)) in
    let sums : sum_by unseen (slice_set x.marks.items node (Open (length x.path.items))) + unseen (mark_at x.marks.items node) ≡ sum_by unseen x.marks.items + 0 = sum_by-set unseen x.marks.items node (Open (length x.path.items)) New inside in
    let one : unseen (mark_at x.marks.items node) ≡ 1 = ap unseen new in
    let total : sum_by unseen y.marks.items ≡ sum_by unseen (slice_set x.marks.items node (Open (length x.path.items))) = ap (sum_by unseen) e.marks in
    let room : (sum_by unseen x.marks.items + length x.path.items) + x.count ≤ length x.marks.items = g.room in
    let counts : y.count ≡ x.count = e.count in
    record {
      state = reshaped x.cursors.items y.cursors.items (length x.path.items + 1) (length y.path.items) x.count y.count e.cursors wide e.count
          (pushed (follows_arcs arcs) g.state (mark_at y.marks.items) (λ i. get_or y.path.items i 0) (Has y.waiting.items) (Has y.boundaries.items) node new
          (ap (λ ms. mark_at ms node) e.marks ∙ get_or-set_same x.marks.items node (Open (length x.path.items)) New inside)
          (λ u ne. ap (λ ms. mark_at ms u) e.marks ∙ get_or-set_other x.marks.items node u (Open (length x.path.items)) New ne)
          (λ i lt. ap (λ xs. get_or xs i 0) e.path ∙ get_or-append x.path.items (node ∷ []) 0 i lt)
          (ap (λ xs. get_or xs (length x.path.items) 0) e.path ∙ get_or-append_seam x.path.items node [] 0)
          (λ i h. has_split x.waiting.items (length x.path.items) i (subst (λ xs. Has xs i) e.waiting h))
          (λ i h. subst (λ xs. Has xs i) (sym e.waiting) (has_old x.waiting.items (length x.path.items) i h))
          (subst (λ xs. Has xs (length x.path.items)) (sym e.waiting) (has_new x.waiting.items (length x.path.items)))
          (λ i h. has_split x.boundaries.items (length x.path.items) i (subst (λ xs. Has xs i) e.boundaries h))
          (λ i h. subst (λ xs. Has xs i) (sym e.boundaries) (has_old x.boundaries.items (length x.path.items) i h))
          (subst (λ xs. Has xs (length x.path.items)) (sym e.boundaries) (has_new x.boundaries.items (length x.path.items)))
          path);
      bounded = (let h : length x.marks.items ≤ 1024 = g.bounded in omega arith);
      cursors = ap length e.cursors ∙ (g.cursors ∙ sym nodes);
      rising_waiting = subst IsRising (sym e.waiting) (rising_push x.waiting.items (length x.path.items) g.rising_waiting (λ i h. g.state.within i h));
      rising_boundaries = subst IsRising (sym e.boundaries) (rising_push x.boundaries.items (length x.path.items) g.rising_boundaries (λ i h. g.state.within i (g.state.boundaries i h)));
      hits = λ u k lt is. g.hits u k (omega arith) (sym (ap (λ xs. get_or xs u 0) e.cursors) ∙ is);
      room = omega arith;
    }

-- the last segment is closed, where its first node has no arc left and no later place waits
pub closes_valid : (arcs : List Arc) (x y : PathSearch) (p : ℕ) → IsValid arcs x → ClosesSegment x y p → 0 < length x.boundaries.items → p ≡ get_or x.boundaries.items (length x.boundaries.items - 1) 0 → p ≡ get_or x.waiting.items (length x.waiting.items - 1) 0 → get_or x.cursors.items (get_or x.path.items p 0) 0 ≡ 0 → IsValid arcs y
closes_valid arcs x y p g e some top_b top_w over =
    let held_b : Has x.boundaries.items p = subst (Has x.boundaries.items) (sym top_b) (has_top x.boundaries.items some) in
    let inside : p < length x.path.items = g.state.within p (g.state.boundaries p held_b) in
    let wide : length y.path.items ≡ p = ap length e.path ∙ length-take-le p x.path.items (omega arith) in
    let nodes : length y.marks.items ≡ length x.marks.items = e.nodes in
    let total : sum_by unseen y.marks.items ≡ sum_by unseen x.marks.items = e.unseen_kept in
    let room : (sum_by unseen x.marks.items + length x.path.items) + x.count ≤ length x.marks.items = g.room in
    let counts : y.count ≡ x.count + 1 = e.count in
    record {
      state = reshaped x.cursors.items y.cursors.items p (length y.path.items) (x.count + 1) y.count e.cursors wide e.count
          (agreeing (closed g.state (mark_at y.marks.items) (Has y.waiting.items) (Has y.boundaries.items) p held_b
          (λ b h. let l : b ≤ get_or x.boundaries.items (length x.boundaries.items - 1) 0 = top_most x.boundaries.items b g.rising_boundaries h in omega arith)
          (λ i h. let l : i ≤ get_or x.waiting.items (length x.waiting.items - 1) 0 = top_most x.waiting.items i g.rising_waiting h in omega arith)
          over e.closing
          (λ i h. let l : i < get_or x.waiting.items (length x.waiting.items - 1) 0 = has_below x.waiting.items i g.rising_waiting (subst (λ xs. Has xs i) e.waiting h) in omega arith)
          (λ i h. elim (has_rest x.waiting.items i h) [ inl r ↦ inl (subst (λ xs. Has xs i) (sym e.waiting) r) | inr r ↦ inr (r ∙ sym top_w) ])
          (λ i h. has_less (length x.boundaries.items - 1) x.boundaries.items i (subst (λ xs. Has xs i) e.boundaries h))
          (λ i h. elim (has_rest x.boundaries.items i h) [ inl r ↦ inl (subst (λ xs. Has xs i) (sym e.boundaries) r) | inr r ↦ inr (r ∙ sym top_b) ])
          (λ i h. let l : i < get_or x.boundaries.items (length x.boundaries.items - 1) 0 = has_below x.boundaries.items i g.rising_boundaries (subst (λ xs. Has xs i) e.boundaries h) in omega arith))
          (λ i. get_or y.path.items i 0)
          (λ i lt. ap (λ xs. get_or xs i 0) e.path ∙ get_or-take p x.path.items i 0 lt));
      bounded = (let h : length x.marks.items ≤ 1024 = g.bounded in omega arith);
      cursors = ap length e.cursors ∙ (g.cursors ∙ sym nodes);
      rising_waiting = subst IsRising (sym e.waiting) (rising_take (length x.waiting.items - 1) x.waiting.items g.rising_waiting);
      rising_boundaries = subst IsRising (sym e.boundaries) (rising_take (length x.boundaries.items - 1) x.boundaries.items g.rising_boundaries);
      hits = λ u k lt is. g.hits u k (omega arith) (sym (ap (λ xs. get_or xs u 0) e.cursors) ∙ is);
      room = omega arith;
    }

-- what the search knows when it looks at the arc a of the node at a place
pub record IsAtArc (arcs : List Arc) (x : PathSearch) (place a : ℕ) : Type 0 where
  pub valid : IsValid arcs x
  pub arc : a < length arcs
  pub here : mark_at x.marks.items (from_at arcs a) ≡ Open place
  pub waits : Has x.waiting.items place
  pub top : (b : ℕ) → Has x.boundaries.items b → b ≤ place

-- an arc is followed to a new node, to an open one and to a closed one
pub follows_new : (arcs : List Arc) (x y : PathSearch) (place a : ℕ) → IsAtArc arcs x place a → mark_at x.marks.items (to_at arcs a) ≡ New → to_at arcs a < length x.marks.items → EntersNode x y (to_at arcs a) → FollowsArc arcs place a x y
follows_new arcs x y place a k new inside e =
    let seat : (place < length x.path.items) × (get_or x.path.items place 0 ≡ from_at arcs a) = k.valid.state.placed (from_at arcs a) place k.here in
    let ps : place < length x.path.items = seat.0 in
    let r : Follows (length arcs) (from_at arcs) (to_at arcs) (Reaches arcs) = follows_arcs arcs in
    let is : mark_at y.marks.items (to_at arcs a) ≡ Open (length x.path.items) = ap (λ ms. mark_at ms (to_at arcs a)) e.marks ∙ get_or-set_same x.marks.items (to_at arcs a) (Open (length x.path.items)) New inside in
    let off : (u : ℕ) → u ≢ to_at arcs a → mark_at y.marks.items u ≡ mark_at x.marks.items u = λ u ne. ap (λ ms. mark_at ms u) e.marks ∙ get_or-set_other x.marks.items (to_at arcs a) u (Open (length x.path.items)) New ne in
    record {
      valid = enters_valid arcs x y (to_at arcs a) k.valid e new inside (λ i lt. r.chain _ _ _ (reaches_last k.valid.state place ps k.top i lt) (both (Reaches arcs) (r.arc a k.arc) (get_or x.path.items place 0) (to_at arcs a) seat.1 refl));
      cursors = e.cursors;
      nodes = ap length e.marks ∙ length-set x.marks.items (to_at arcs a) (Open (length x.path.items));
      here = off (from_at arcs a) (λ same. let h : New ≡ Open place = sym new ∙ (ap (mark_at x.marks.items) (sym same) ∙ k.here) in cc) ∙ k.here;
      waits = subst (λ xs. Has xs place) (sym e.waiting) (has_old x.waiting.items (length x.path.items) place k.waits);
      ahead = λ b h low. held (length x.path.items) is (omega arith);
      grows = λ u mu. elim (cases_eq u (to_at arcs a)) [
        | inl same ↦ (let h : New ≡ Open (length x.path.items) = sym mu ∙ (ap (mark_at y.marks.items) same ∙ is) in cc)
        | inr ne ↦ sym (off u ne) ∙ mu
      ];
      longer = (let h : length y.waiting.items ≡ length x.waiting.items + 1 = ap length e.waiting ∙ length-append x.waiting.items (length x.path.items ∷ []) in omega arith);
    }

pub follows_open : (arcs : List Arc) (x y : PathSearch) (place a at : ℕ) → IsAtArc arcs x place a → mark_at x.marks.items (to_at arcs a) ≡ Open at → Cuts at x.boundaries.items y.boundaries.items → get_or y.boundaries.items (length y.boundaries.items - 1) 0 ≤ at → FollowsArc arcs place a x (record x { boundaries = y.boundaries })
follows_open arcs x y place a at k is cuts low =
    let seat : (place < length x.path.items) × (get_or x.path.items place 0 ≡ from_at arcs a) = k.valid.state.placed (from_at arcs a) place k.here in
    let head : (at < length x.path.items) × (get_or x.path.items at 0 ≡ to_at arcs a) = k.valid.state.placed (to_at arcs a) at is in
    let r : Follows (length arcs) (from_at arcs) (to_at arcs) (Reaches arcs) = follows_arcs arcs in
    let rises : IsRising y.boundaries.items = cuts_rising at x.boundaries.items y.boundaries.items cuts k.valid.rising_boundaries in
    record {
      valid = record {
        state = cuts_state (length arcs) (from_at arcs) (to_at arcs) (Reaches arcs) (mark_at x.marks.items) (λ u. get_or x.cursors.items u 0) (λ i. get_or x.path.items i 0) (length x.path.items) x.count (Has x.waiting.items) r place at seat.0
            (both (Reaches arcs) (r.arc a k.arc) (get_or x.path.items place 0) (get_or x.path.items at 0) seat.1 head.1)
            x.boundaries.items y.boundaries.items cuts k.valid.rising_boundaries k.top k.valid.state;
        bounded = k.valid.bounded;
        cursors = k.valid.cursors;
        rising_waiting = k.valid.rising_waiting;
        rising_boundaries = rises;
        hits = k.valid.hits;
        room = k.valid.room;
      };
      cursors = refl;
      nodes = refl;
      here = k.here;
      waits = k.waits;
      ahead = λ b h l. held at is (let m : b ≤ get_or y.boundaries.items (length y.boundaries.items - 1) 0 = top_most y.boundaries.items b rises h in omega arith);
      grows = λ u mu. mu;
      longer = omega arith;
    }

pub follows_closed : (arcs : List Arc) (x : PathSearch) (place a d : ℕ) → IsAtArc arcs x place a → mark_at x.marks.items (to_at arcs a) ≡ Closed d → FollowsArc arcs place a x x
follows_closed arcs x place a d k is = record {
  valid = k.valid;
  cursors = refl;
  nodes = refl;
  here = k.here;
  waits = k.waits;
  ahead = λ b h l. done d is;
  grows = λ u mu. mu;
  longer = omega arith;
}

-- the three steps: an arc is followed, the last segment is closed, the wait of another place ends
pub steps_on : (arcs : List Arc) (x y z : PathSearch) (place a e : ℕ) → FollowsArc arcs place a x y → a < length arcs → from_at arcs a < length x.marks.items → get_or x.cursors.items (from_at arcs a) 0 ≡ a + 1 → IsPastLast arcs (from_at arcs a) a e → z.cursors.items ≡ slice_set y.cursors.items (from_at arcs a) e → Steps arcs x (record y { cursors = z.cursors })
steps_on arcs x y z place a e k am inside was last set =
    let wide : from_at arcs a < length y.cursors.items = (let h : length y.cursors.items ≡ length y.marks.items = k.valid.cursors in let n : length y.marks.items ≡ length x.marks.items = k.nodes in omega arith) in
    let was_y : get_or y.cursors.items (from_at arcs a) 0 ≡ a + 1 = ap (λ xs. get_or xs (from_at arcs a) 0) k.cursors ∙ was in
    let is : get_or z.cursors.items (from_at arcs a) 0 ≡ e = ap (λ xs. get_or xs (from_at arcs a) 0) set ∙ get_or-set_same y.cursors.items (from_at arcs a) e 0 wide in
    let off : (u : ℕ) → u ≢ from_at arcs a → get_or z.cursors.items u 0 ≡ get_or y.cursors.items u 0 = λ u ne. ap (λ xs. get_or xs u 0) set ∙ get_or-set_other y.cursors.items (from_at arcs a) u e 0 ne in
    let low : e ≤ a = elim (cases_lt 0 e) [ inl some ↦ (let h : (e - 1 < a) × (from_at arcs (e - 1) ≡ from_at arcs a) = last.hits (e - 1) (omega arith) in let g : e - 1 < a = h.0 in omega arith) | inr none ↦ omega arith ] in
    record {
      valid = record {
        state = followed k.valid.state (λ u. get_or z.cursors.items u 0) a e place k.here k.waits was_y is off last.past k.ahead;
        bounded = k.valid.bounded;
        cursors = ap length set ∙ (length-set y.cursors.items (from_at arcs a) e ∙ k.valid.cursors);
        rising_waiting = k.valid.rising_waiting;
        rising_boundaries = k.valid.rising_boundaries;
        hits = λ u j lt eq. elim (cases_eq u (from_at arcs a)) [
          | inl same ↦ (let h : (j < a) × (from_at arcs j ≡ from_at arcs a) = last.hits j (sym is ∙ (ap (λ v. get_or z.cursors.items v 0) (sym same) ∙ eq)) in let l : j < a = h.0 in (omega arith, h.1 ∙ sym same))
          | inr ne ↦ k.valid.hits u j lt (sym (off u ne) ∙ eq)
        ];
        room = k.valid.room;
      };
      nodes = k.nodes;
      grows = k.grows;
      less =
          let sums : sum_by same (slice_set y.cursors.items (from_at arcs a) e) + same (get_or y.cursors.items (from_at arcs a) 0) ≡ sum_by same y.cursors.items + same e = sum_by-set same y.cursors.items (from_at arcs a) e 0 wide in
          let total : sum_by same z.cursors.items ≡ sum_by same (slice_set y.cursors.items (from_at arcs a) e) = ap (sum_by same) set in
          let old : sum_by same y.cursors.items ≡ sum_by same x.cursors.items = ap (sum_by same) k.cursors in
          let longer : length y.waiting.items ≤ length x.waiting.items + 1 = k.longer in
          omega arith;
    }

pub steps_close : (arcs : List Arc) (x y : PathSearch) (p : ℕ) → IsValid arcs x → ClosesSegment x y p → IsLastOf x.boundaries.items p → IsLastOf x.waiting.items p → get_or x.cursors.items (get_or x.path.items p 0) 0 ≡ 0 → Steps arcs x y
steps_close arcs x y p g e boundary wait over = record {
  valid = closes_valid arcs x y p g e boundary.some boundary.is wait.is over;
  nodes = e.nodes;
  grows = λ u mu. was_new e.closing u mu;
  less =
      let total : sum_by same y.cursors.items ≡ sum_by same x.cursors.items = ap (sum_by same) e.cursors in
      let short : length y.waiting.items ≡ length x.waiting.items - 1 = ap length e.waiting ∙ length-take-le (length x.waiting.items - 1) x.waiting.items (omega arith) in
      let waits : 0 < length x.waiting.items = wait.some in
      omega arith;
}

pub steps_back : (arcs : List Arc) (x z : PathSearch) (p : ℕ) → IsValid arcs x → IsLastOf x.waiting.items p → p ≢ get_or x.boundaries.items (length x.boundaries.items - 1) 0 → get_or x.cursors.items (get_or x.path.items p 0) 0 ≡ 0 → z.waiting.items ≡ take (length x.waiting.items - 1) x.waiting.items → Steps arcs x (record x { waiting = z.waiting })
steps_back arcs x z p g wait plain over cut =
    let waits : 0 < length x.waiting.items = wait.some in
    let top_w : p ≡ get_or x.waiting.items (length x.waiting.items - 1) 0 = wait.is in
    record {
      valid = record {
        state = finished g.state (Has z.waiting.items) p over
            (λ h.
            let last : Has x.boundaries.items (get_or x.boundaries.items (length x.boundaries.items - 1) 0) = has_top x.boundaries.items (has_some x.boundaries.items p h) in
            let up : p ≤ get_or x.boundaries.items (length x.boundaries.items - 1) 0 = top_most x.boundaries.items p g.rising_boundaries h in
            let down : get_or x.boundaries.items (length x.boundaries.items - 1) 0 ≤ get_or x.waiting.items (length x.waiting.items - 1) 0 = top_most x.waiting.items _ g.rising_waiting (g.state.boundaries _ last) in
            plain (omega arith))
            (λ i h. has_less (length x.waiting.items - 1) x.waiting.items i (subst (λ xs. Has xs i) cut h))
            (λ i h. elim (has_rest x.waiting.items i h) [ inl r ↦ inl (subst (λ xs. Has xs i) (sym cut) r) | inr r ↦ inr (r ∙ sym top_w) ]);
        bounded = g.bounded;
        cursors = g.cursors;
        rising_waiting = subst IsRising (sym cut) (rising_take (length x.waiting.items - 1) x.waiting.items g.rising_waiting);
        rising_boundaries = g.rising_boundaries;
        hits = g.hits;
        room = g.room;
      };
      nodes = refl;
      grows = λ u mu. mu;
      less = (let short : length z.waiting.items ≡ length x.waiting.items - 1 = ap length cut ∙ length-take-le (length x.waiting.items - 1) x.waiting.items (omega arith) in omega arith);
    }

has_none : (x : ℕ) → Has [] x → ⊥
has_none x h = (let l : h.0 < length {A = ℕ} [] = h.1 in omega arith)

-- a search that reached no node
pub start_valid : (arcs : List Arc) (y : PathSearch) (nodes : ℕ) → nodes ≤ 1024 → InRange nodes arcs → y.marks.items ≡ replicate nodes New → y.path.items ≡ [] → y.waiting.items ≡ [] → y.boundaries.items ≡ [] → y.count ≡ 0 → length y.cursors.items ≡ nodes → length y.marks.items ≡ nodes → ((u : ℕ) → u < nodes → IsPastLast arcs u (length arcs) (get_or y.cursors.items u 0)) → IsValid arcs y
start_valid arcs y nodes bounded range marks path waiting boundaries count cursors many last =
    let all_new : (u : ℕ) → mark_at y.marks.items u ≡ New = λ u. ap (λ ms. mark_at ms u) marks ∙ elim (cases_lt u nodes) [
      | inl l ↦ get_or-replicate nodes u New New l
      | inr g ↦ sym (ap (λ ms. mark_at ms u) marks) ∙ get_or_past y.marks.items u New (omega arith)
    ] in
    let empty : length y.path.items ≡ 0 = ap length path in
    let not_open : (u i : ℕ) → mark_at y.marks.items u ≡ Open i → ⊥ = λ u i e. let h : Open i ≡ New = sym e ∙ all_new u in cc in
    let not_closed : (u i : ℕ) → mark_at y.marks.items u ≡ Closed i → ⊥ = λ u i e. let h : Closed i ≡ New = sym e ∙ all_new u in cc in
    let no_wait : (i : ℕ) → Has y.waiting.items i → ⊥ = λ i h. has_none i (subst (λ xs. Has xs i) waiting h) in
    let no_bound : (i : ℕ) → Has y.boundaries.items i → ⊥ = λ i h. has_none i (subst (λ xs. Has xs i) boundaries h) in
    record {
      state = record {
        placed = λ u i e. absurd (not_open u i e);
        seated = λ i lt. absurd (omega arith);
        onward = λ i j ij lt. absurd (omega arith);
        back = λ i j ij lt free. absurd (omega arith);
        kept = λ a b i am e. absurd (not_open (from_at arcs a) i e);
        fresh = λ a am e ck. (last (from_at arcs a) (range.from_in a am)).past a ck am refl;
        falling = λ a c am e. absurd (not_closed (from_at arcs a) c e);
        joined = λ u v c e d. absurd (not_closed u c e);
        numbered = λ u c e. absurd (not_closed u c e);
        used = λ c lt. absurd (omega arith);
        waiting = λ u i e. absurd (not_open u i e);
        within = λ i h. absurd (no_wait i h);
        boundaries = λ b h. absurd (no_bound b h);
        bottom = λ lt. absurd (omega arith);
      };
      bounded = omega arith;
      cursors = cursors ∙ sym many;
      rising_waiting = subst IsRising (sym waiting) rising_none;
      rising_boundaries = subst IsRising (sym boundaries) rising_none;
      hits = λ u k lt e. (last u (omega arith)).hits k e;
      room = (let s : sum_by unseen y.marks.items ≡ nodes * 1 = ap (sum_by unseen) marks ∙ sum_by-replicate unseen nodes New in omega arith);
    }

-- where nothing waits, no node is on the path
pub rests : (arcs : List Arc) (x : PathSearch) → IsValid arcs x → length x.waiting.items ≡ 0 → length x.path.items ≡ 0
rests arcs x g none = elim (cases_lt 0 (length x.path.items)) [
  | inl some ↦ (let l : 0 < length x.waiting.items = has_some x.waiting.items 0 (g.state.boundaries 0 (g.state.bottom some)) in absurd (omega arith))
  | inr z ↦ omega arith
]

-- the last number of a list is in it
pub has_last : (xs : List ℕ) (x : ℕ) → IsLastOf xs x → Has xs x
has_last xs x last = subst (Has xs) (sym last.is) (has_top xs last.some)

-- the last place that waits is one of the path
pub on_path_from_last : (arcs : List Arc) (x : PathSearch) (place : ℕ) → IsValid arcs x → IsLastOf x.waiting.items place → place < length x.path.items
on_path_from_last arcs x place g last = g.state.within place (has_last x.waiting.items place last)

-- the node at the last place that waits
pub record IsAtTop (x : PathSearch) (place node : ℕ) : Type 0 where
  pub on_path : place < length x.path.items
  pub mark : mark_at x.marks.items node ≡ Open place
  pub inside : node < length x.marks.items

-- the node there is open, and so it is one of the marked nodes
pub at_top : (arcs : List Arc) (x : PathSearch) (place node : ℕ) → IsValid arcs x → IsLastOf x.waiting.items place → node ≡ get_or x.path.items place 0 → IsAtTop x place node
at_top arcs x place node g last is =
    let on_path : place < length x.path.items = on_path_from_last arcs x place g last in
    let mark : mark_at x.marks.items node ≡ Open place = ap (mark_at x.marks.items) is ∙ g.state.seated place on_path in
    record { on_path = on_path; mark = mark; inside = marked_in x.marks.items node place mark }

-- no segment starts after the last place that waits
pub top_boundary : (arcs : List Arc) (x : PathSearch) (place : ℕ) → IsValid arcs x → IsLastOf x.waiting.items place → (b : ℕ) → Has x.boundaries.items b → b ≤ place
top_boundary arcs x place g last b h = (let l : b ≤ get_or x.waiting.items (length x.waiting.items - 1) 0 = top_most x.waiting.items b g.rising_waiting (g.state.boundaries b h) in omega (arith, last.is))

-- where a place waits, a segment has begun
pub has_boundary : (arcs : List Arc) (x : PathSearch) (place : ℕ) → IsValid arcs x → IsLastOf x.waiting.items place → 0 < length x.boundaries.items
has_boundary arcs x place g last = (let on_path : place < length x.path.items = on_path_from_last arcs x place g last in has_some x.boundaries.items 0 (g.state.bottom (omega arith)))

-- one node less of the path is to be put into the component
pub closes_less : (marks ms : List Mark) (path : List ℕ) (n k c : ℕ) → ((u i : ℕ) → mark_at marks u ≡ Open i → (i < length path) × (get_or path i 0 ≡ u)) → ((i : ℕ) → i < length path → mark_at marks (get_or path i 0) ≡ Open i) → n < length path → k ≡ n + 1 → get_or path n 0 < length ms → Closes (mark_at marks) (mark_at ms) k c → Closes (mark_at marks) (mark_at (slice_set ms (get_or path n 0) (Closed c))) n c
closes_less marks ms path n k c placed seated lt kn inside old =
    let here : mark_at marks (get_or path n 0) ≡ Open n = seated n lt in
    let is : mark_at (slice_set ms (get_or path n 0) (Closed c)) (get_or path n 0) ≡ Closed c = get_or-set_same ms (get_or path n 0) (Closed c) New inside in
    let off : (u : ℕ) → u ≢ get_or path n 0 → mark_at (slice_set ms (get_or path n 0) (Closed c)) u ≡ mark_at ms u = λ u ne. get_or-set_other ms (get_or path n 0) u (Closed c) New ne in
    record {
      take = λ u i mu ni. elim (cases_eq i n) [
        | inl same ↦ ap (mark_at (slice_set ms (get_or path n 0) (Closed c))) (sym (placed u i mu).1 ∙ ap (λ j. get_or path j 0) same) ∙ is
        | inr ne ↦ off u (λ e. ne (let h : Open i ≡ Open n = sym mu ∙ (ap (mark_at marks) e ∙ here) in cc)) ∙ old.take u i mu (omega arith)
      ];
      keep = λ u i mu less. off u (λ e. let h : Open i ≡ Open n = sym mu ∙ (ap (mark_at marks) e ∙ here) in let s : i ≡ n = cc in omega arith) ∙ old.keep u i mu (omega arith);
      new = λ u mu. off u (λ e. let h : New ≡ Open n = sym mu ∙ (ap (mark_at marks) e ∙ here) in cc) ∙ old.new u mu;
      old = λ u d mu. off u (λ e. let h : Closed d ≡ Open n = sym mu ∙ (ap (mark_at marks) e ∙ here) in cc) ∙ old.old u d mu;
    }

-- to close an open node keeps the count of the nodes that were not reached
pub unseen_less : (marks ms : List Mark) (node n k c : ℕ) → mark_at marks node ≡ Open n → n < k → node < length ms → Closes (mark_at marks) (mark_at ms) k c → sum_by unseen (slice_set ms node (Closed c)) ≡ sum_by unseen ms
unseen_less marks ms node n k c here less inside old =
    let h : sum_by unseen (slice_set ms node (Closed c)) + unseen (mark_at ms node) ≡ sum_by unseen ms + 0 = sum_by-set unseen ms node (Closed c) New inside in
    let z : unseen (mark_at ms node) ≡ 0 = ap unseen (old.keep node n here less) in
    omega arith

-- to enter a node leaves only such nodes new as were new, and not that one
pub enters_grows : (x y : PathSearch) (node : ℕ) → EntersNode x y node → node < length x.marks.items → (u : ℕ) → mark_at y.marks.items u ≡ New → (mark_at x.marks.items u ≡ New) × (u ≢ node)
enters_grows x y node e inside u mu =
    let is : mark_at y.marks.items node ≡ Open (length x.path.items) = ap (λ ms. mark_at ms node) e.marks ∙ get_or-set_same x.marks.items node (Open (length x.path.items)) New inside in
    let ne : u ≢ node = (λ same. let h : New ≡ Open (length x.path.items) = sym mu ∙ (ap (mark_at y.marks.items) same ∙ is) in cc) in
    (sym (ap (λ ms. mark_at ms u) e.marks ∙ get_or-set_other x.marks.items node u (Open (length x.path.items)) New ne) ∙ mu, ne)
