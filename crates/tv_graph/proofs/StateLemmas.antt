use Rattle.std.proofs.Common.{◌≡◌, ◌≢◌, ℕ, ◌+◌, ◌<◌, ◌≤◌, ◌⊎◌, inl, inr, refl, sym, ◌∙◌, ap, subst, arith}
use Rattle.std.proofs.lemmas.Bool.{cases_lt, cases_eq, cases_order}
use Rattle.tv_graph.specs.declared.marks.Mark.{Mark}
use Rattle.tv_graph.specs.declared.marks.Mark.TheVariants.{New, Open, Closed}
use Rattle.tv_graph.specs.Invariant.{IsAhead, done, held, IsSearchState, Follows}
use Rattle.tv_graph.specs.Marks.{Closes}

-- the boundary b is taken away, where the path goes back from it to the place q before it
pub merged : {m : ℕ} {f t : ℕ → ℕ} {R : ℕ → ℕ → Type 0} {mark : ℕ → Mark} {cur s : ℕ → ℕ} {size count : ℕ} {W B : ℕ → Type 0} → Follows m f t R → IsSearchState m f t R mark cur s size count W B → (C : ℕ → Type 0) (b q : ℕ) → B b → b < size → q < b → R (s b) (s q) → ((c : ℕ) → C c → B c) → ((c : ℕ) → B c → C c ⊎ (c ≡ b)) → IsSearchState m f t R mark cur s size count W C
merged r st C b q Bb lt qb path sub rest = record {
  placed = st.placed;
  seated = st.seated;
  onward = st.onward;
  back = λ i j ij js free.
      elim (cases_lt i b) [
        | inl ib ↦ elim (cases_lt j b) [
          | inl jb ↦ st.back i j ij js (λ c Bc ic cj. elim (rest c Bc) [ inl h ↦ free c h ic cj | inr e ↦ absurd (omega arith) ])
          | inr bj ↦ r.chain _ _ _
              (st.back b j bj js (λ c Bc bc cj. elim (rest c Bc) [ inl h ↦ free c h (omega arith) cj | inr e ↦ absurd (omega arith) ]))
              (r.chain _ _ _ path (elim (cases_lt q i) [
                | inl qi ↦ st.onward q i (omega arith) (omega arith)
                | inr iq ↦ st.back i q iq (omega arith) (λ c Bc ic cq. elim (rest c Bc) [ inl h ↦ free c h ic (omega arith) | inr e ↦ absurd (omega arith) ])
              ]))
        ]
        | inr bi ↦ st.back i j ij js (λ c Bc ic cj. elim (rest c Bc) [ inl h ↦ free c h ic cj | inr e ↦ absurd (omega arith) ])
      ];
  kept = λ a c i am mk ck Cc ci. st.kept a c i am mk ck (sub c Cc) ci;
  fresh = st.fresh;
  falling = st.falling;
  joined = st.joined;
  numbered = st.numbered;
  used = st.used;
  waiting = st.waiting;
  within = st.within;
  boundaries = λ c Cc. st.boundaries c (sub c Cc);
  bottom = λ some. elim (rest 0 (st.bottom some)) [ inl h ↦ h | inr e ↦ absurd (omega arith) ];
}

-- the arc a of the node at the place p is followed: it leads into a component or ahead
pub followed : {m : ℕ} {f t : ℕ → ℕ} {R : ℕ → ℕ → Type 0} {mark : ℕ → Mark} {cur s : ℕ → ℕ} {size count : ℕ} {W B : ℕ → Type 0} → IsSearchState m f t R mark cur s size count W B → (next : ℕ → ℕ) (a e p : ℕ) → mark (f a) ≡ Open p → W p → cur (f a) ≡ a + 1 → next (f a) ≡ e → ((u : ℕ) → u ≢ f a → next u ≡ cur u) → ((k : ℕ) → e ≤ k → k < a → f k ≢ f a) → ((b : ℕ) → B b → b ≤ p → IsAhead mark b (t a)) → IsSearchState m f t R mark next s size count W B
followed {f} {t} {mark} {cur} {W} st next a e p here Wp was is off gap ahead = record {
  placed = st.placed;
  seated = st.seated;
  onward = st.onward;
  back = st.back;
  kept = λ k b i km mk ck Bb bi. elim (cases_eq (f k) (f a)) [
    | inl same ↦
        let ip : i ≡ p = (let h : Open i ≡ Open p = sym mk ∙ (ap mark same ∙ here) in cc) in
        let nk : next (f k) ≡ e = ap next same ∙ is in
        let wk : cur (f k) ≡ a + 1 = ap cur same ∙ was in
        elim (cases_order k a) [
          | inl ka ↦ (let P : ℕ → Type 0 = λ x. IsAhead mark b (t x) in subst P (sym ka) (ahead b Bb (omega arith)))
          | inr o ↦ elim o [
            | inl less ↦ absurd (gap k (omega arith) less same)
            | inr more ↦ st.kept k b i km mk (omega arith) Bb bi
          ]
        ]
    | inr ne ↦ (let h : next (f k) ≡ cur (f k) = off (f k) ne in st.kept k b i km mk (omega arith) Bb bi)
  ];
  fresh = λ k km mk ck. elim (cases_eq (f k) (f a)) [
    | inl same ↦ (let h : New ≡ Open p = sym mk ∙ (ap mark same ∙ here) in cc)
    | inr ne ↦ (let h : next (f k) ≡ cur (f k) = off (f k) ne in st.fresh k km mk (omega arith))
  ];
  falling = st.falling;
  joined = st.joined;
  numbered = st.numbered;
  used = st.used;
  waiting = λ u i mu. elim (cases_eq u (f a)) [
    | inl same ↦
        let ip : i ≡ p = (let h : Open i ≡ Open p = sym mu ∙ (ap mark same ∙ here) in cc) in
        inr (subst W (sym ip) Wp)
    | inr ne ↦ elim (st.waiting u i mu) [ inl z ↦ inl (off u ne ∙ z) | inr w ↦ inr w ]
  ];
  within = st.within;
  boundaries = st.boundaries;
  bottom = st.bottom;
}

-- the place p, no boundary, waits no longer: its node has no arc left
pub finished : {m : ℕ} {f t : ℕ → ℕ} {R : ℕ → ℕ → Type 0} {mark : ℕ → Mark} {cur s : ℕ → ℕ} {size count : ℕ} {W B : ℕ → Type 0} → IsSearchState m f t R mark cur s size count W B → (V : ℕ → Type 0) (p : ℕ) → cur (s p) ≡ 0 → (B p → ⊥) → ((i : ℕ) → V i → W i) → ((i : ℕ) → W i → V i ⊎ (i ≡ p)) → IsSearchState m f t R mark cur s size count V B
finished {cur} {s} {B} st V p over plain sub rest = record {
  placed = st.placed;
  seated = st.seated;
  onward = st.onward;
  back = st.back;
  kept = st.kept;
  fresh = st.fresh;
  falling = st.falling;
  joined = st.joined;
  numbered = st.numbered;
  used = st.used;
  waiting = λ u i mu. elim (st.waiting u i mu) [
    | inl z ↦ inl z
    | inr w ↦ elim (rest i w) [
      | inl v ↦ inr v
      | inr e ↦ inl (sym (ap cur ((st.placed u i mu).1)) ∙ (ap (λ x. cur (s x)) e ∙ over))
    ]
  ];
  within = λ i v. st.within i (sub i v);
  boundaries = λ b Bb. elim (rest b (st.boundaries b Bb)) [ inl v ↦ v | inr e ↦ absurd (plain (subst B e Bb)) ];
  bottom = st.bottom;
}

-- equal nodes in the place of others
pub both : (R : ℕ → ℕ → Type 0) {x y : ℕ} → R x y → (a b : ℕ) → a ≡ x → b ≡ y → R a b
both R {x} {y} h a b ax by = subst (λ v. R a v) (sym by) (subst (λ v. R v y) (sym ax) h)

-- the new node x is put at the end of the path, where each node of the path reaches it
pub pushed : {m : ℕ} {f t : ℕ → ℕ} {R : ℕ → ℕ → Type 0} {mark : ℕ → Mark} {cur s : ℕ → ℕ} {size count : ℕ} {W B : ℕ → Type 0} → Follows m f t R → IsSearchState m f t R mark cur s size count W B → (next : ℕ → Mark) (z : ℕ → ℕ) (V C : ℕ → Type 0) (x : ℕ) → mark x ≡ New → next x ≡ Open size → ((u : ℕ) → u ≢ x → next u ≡ mark u) → ((i : ℕ) → i < size → z i ≡ s i) → z size ≡ x → ((i : ℕ) → V i → W i ⊎ (i ≡ size)) → ((i : ℕ) → W i → V i) → V size → ((i : ℕ) → C i → B i ⊎ (i ≡ size)) → ((i : ℕ) → B i → C i) → C size → ((i : ℕ) → i < size → R (s i) x) → IsSearchState m f t R next cur z (size + 1) count V C
pushed {m} {f} {t} {R} {mark} {cur} {s} {size} {count} {W} {B} r st next z V C x new is off same top vw wv vn cb bc cn path =
    let other : (u i : ℕ) → mark u ≡ Open i → next u ≡ Open i = λ u i e. off u (λ ux. let h : Open i ≡ New = sym e ∙ (ap mark ux ∙ new) in cc) ∙ e in
    let old : (u d : ℕ) → mark u ≡ Closed d → next u ≡ Closed d = λ u d e. off u (λ ux. let h : Closed d ≡ New = sym e ∙ (ap mark ux ∙ new) in cc) ∙ e in
    let was_old : (u d : ℕ) → next u ≡ Closed d → mark u ≡ Closed d = λ u d e. sym (off u (λ ux. let h : Closed d ≡ Open size = sym e ∙ (ap next ux ∙ is) in cc)) ∙ e in
    record {
      placed = λ u i mu. elim (cases_eq u x) [
        | inl ux ↦
            let e : i ≡ size = (let h : Open i ≡ Open size = sym mu ∙ (ap next ux ∙ is) in cc) in
            (omega arith, ap z e ∙ (top ∙ sym ux))
        | inr ne ↦
            let h : (i < size) × (s i ≡ u) = st.placed u i (sym (off u ne) ∙ mu) in
            (omega arith, same i h.0 ∙ h.1)
      ];
      seated = λ i lt. elim (cases_lt i size) [
        | inl less ↦ ap next (same i less) ∙ other (s i) i (st.seated i less)
        | inr ge ↦ (let e : i ≡ size = omega arith in ap next (ap z e ∙ top) ∙ (is ∙ ap Open (sym e)))
      ];
      onward = λ i j ij lt. elim (cases_lt j size) [
        | inl less ↦ both R (st.onward i j ij less) (z i) (z j) (same i (omega arith)) (same j less)
        | inr ge ↦
            let e : j ≡ size = omega arith in
            elim (cases_lt i size) [
              | inl il ↦ both R (path i il) (z i) (z j) (same i il) (ap z e ∙ top)
              | inr ig ↦ (let d : i ≡ size = omega arith in both R (r.loop x) (z i) (z j) (ap z d ∙ top) (ap z e ∙ top))
            ]
      ];
      back = λ i j ij lt free. elim (cases_lt j size) [
        | inl less ↦ both R (st.back i j ij less (λ b Bb ib bj. free b (bc b Bb) ib bj)) (z j) (z i) (same j less) (same i (omega arith))
        | inr ge ↦
            let e : j ≡ size = omega arith in
            elim (cases_lt i size) [
              | inl il ↦ absurd (free size cn il (omega arith))
              | inr ig ↦ (let d : i ≡ size = omega arith in both R (r.loop x) (z j) (z i) (ap z e ∙ top) (ap z d ∙ top))
            ]
      ];
      kept = λ a b i am mk ck Cb bi. elim (cases_eq (f a) x) [
        | inl e ↦ absurd (st.fresh a am (ap mark e ∙ new) ck)
        | inr ne ↦
            let mo : mark (f a) ≡ Open i = sym (off (f a) ne) ∙ mk in
            elim (cb b Cb) [
              | inl Bb ↦ elim (st.kept a b i am mo ck Bb bi) [ done d e ↦ done d (old (t a) d e) | held j e bj ↦ held j (other (t a) j e) bj ]
              | inr e ↦ (let h : i < size = (st.placed (f a) i mo).0 in absurd (omega arith))
            ]
      ];
      fresh = λ a am mk ck. elim (cases_eq (f a) x) [
        | inl e ↦ (let h : New ≡ Open size = sym mk ∙ (ap next e ∙ is) in cc)
        | inr ne ↦ st.fresh a am (sym (off (f a) ne) ∙ mk) ck
      ];
      falling = λ a c am mk.
          let h : (d : ℕ) × (mark (t a) ≡ Closed d) × (d ≤ c) = st.falling a c am (was_old (f a) c mk) in
          (h.0, old (t a) h.0 h.1, h.2);
      joined = λ u v c mu mv. st.joined u v c (was_old u c mu) (was_old v c mv);
      numbered = λ u c mu. st.numbered u c (was_old u c mu);
      used = λ c lt. let h : (u : ℕ) × (mark u ≡ Closed c) = st.used c lt in (h.0, old h.0 c h.1);
      waiting = λ u i mu. elim (cases_eq u x) [
        | inl ux ↦
            let e : i ≡ size = (let h : Open i ≡ Open size = sym mu ∙ (ap next ux ∙ is) in cc) in
            inr (subst V (sym e) vn)
        | inr ne ↦ elim (st.waiting u i (sym (off u ne) ∙ mu)) [ inl h ↦ inl h | inr h ↦ inr (wv i h) ]
      ];
      within = λ i Vi. elim (vw i Vi) [ inl h ↦ (let k : i < size = st.within i h in omega arith) | inr e ↦ omega arith ];
      boundaries = λ b Cb. elim (cb b Cb) [ inl h ↦ wv b (st.boundaries b h) | inr e ↦ subst V (sym e) vn ];
      bottom = λ some. elim (cases_lt 0 size) [ inl h ↦ bc 0 (st.bottom h) | inr h ↦ (let e : size ≡ 0 = omega arith in subst C e cn) ];
    }

-- the three kinds of mark
pub mark_cases : (k : Mark) → (k ≡ New) ⊎ (((i : ℕ) × (k ≡ Open i)) ⊎ ((c : ℕ) × (k ≡ Closed c)))
mark_cases New = inl refl
mark_cases (Open i) = inr (inl (i, refl))
mark_cases (Closed c) = inr (inr (c, refl))

-- what a mark was before the nodes from the place p on were put into a component
was_open : {mark next : ℕ → Mark} {p c : ℕ} → Closes mark next p c → (u i : ℕ) → next u ≡ Open i → (mark u ≡ Open i) × (i < p)
was_open {mark} {next} {p} {c} k u i e = elim (mark_cases (mark u)) [
  | inl n ↦ (let h : New ≡ Open i = sym (k.new u n) ∙ e in cc)
  | inr o ↦ elim o [
    | inl h ↦ elim (cases_lt h.0 p) [
      | inl less ↦ (let g : Open h.0 ≡ Open i = sym (k.keep u h.0 h.1 less) ∙ e in let same : h.0 ≡ i = cc in (h.1 ∙ ap Open same, omega arith))
      | inr more ↦ (let g : Closed c ≡ Open i = sym (k.take u h.0 h.1 more) ∙ e in cc)
    ]
    | inr h ↦ (let g : Closed h.0 ≡ Open i = sym (k.old u h.0 h.1) ∙ e in cc)
  ]
]

pub was_new : {mark next : ℕ → Mark} {p c : ℕ} → Closes mark next p c → (u : ℕ) → next u ≡ New → mark u ≡ New
was_new {mark} {next} {p} {c} k u e = elim (mark_cases (mark u)) [
  | inl n ↦ n
  | inr o ↦ elim o [
    | inl h ↦ elim (cases_lt h.0 p) [
      | inl less ↦ (let g : Open h.0 ≡ New = sym (k.keep u h.0 h.1 less) ∙ e in cc)
      | inr more ↦ (let g : Closed c ≡ New = sym (k.take u h.0 h.1 more) ∙ e in cc)
    ]
    | inr h ↦ (let g : Closed h.0 ≡ New = sym (k.old u h.0 h.1) ∙ e in cc)
  ]
]

was_closed : {mark next : ℕ → Mark} {p c : ℕ} → Closes mark next p c → (u d : ℕ) → next u ≡ Closed d → (mark u ≡ Closed d) ⊎ ((i : ℕ) × (mark u ≡ Open i) × (p ≤ i) × (d ≡ c))
was_closed {mark} {next} {p} {c} k u d e = elim (mark_cases (mark u)) [
  | inl n ↦ (let h : New ≡ Closed d = sym (k.new u n) ∙ e in cc)
  | inr o ↦ elim o [
    | inl h ↦ elim (cases_lt h.0 p) [
      | inl less ↦ (let g : Open h.0 ≡ Closed d = sym (k.keep u h.0 h.1 less) ∙ e in cc)
      | inr more ↦ (let g : Closed c ≡ Closed d = sym (k.take u h.0 h.1 more) ∙ e in inr (h.0, h.1, more, (let same : d ≡ c = cc in same)))
    ]
    | inr h ↦ inl (let g : Closed h.0 ≡ Closed d = sym (k.old u h.0 h.1) ∙ e in h.1 ∙ g)
  ]
]

-- the last segment, from the place p on, becomes a component
pub closed : {m : ℕ} {f t : ℕ → ℕ} {R : ℕ → ℕ → Type 0} {mark : ℕ → Mark} {cur s : ℕ → ℕ} {size count : ℕ} {W B : ℕ → Type 0} → IsSearchState m f t R mark cur s size count W B → (next : ℕ → Mark) (V C : ℕ → Type 0) (p : ℕ) → B p → ((b : ℕ) → B b → b ≤ p) → ((i : ℕ) → W i → i ≤ p) → cur (s p) ≡ 0 → Closes mark next p count → ((i : ℕ) → V i → i < p) → ((i : ℕ) → W i → V i ⊎ (i ≡ p)) → ((i : ℕ) → C i → B i) → ((i : ℕ) → B i → C i ⊎ (i ≡ p)) → ((i : ℕ) → C i → i < p) → IsSearchState m f t R next cur s p (count + 1) V C
closed {m} {f} {t} {R} {mark} {cur} {s} {size} {count} {W} {B} st next V C p Bp top_b top_w over k vl wv cb bc cl =
    let ps : p < size = st.within p (st.boundaries p Bp) in
    let over_from : (u i : ℕ) → mark u ≡ Open i → p ≤ i → cur u ≡ 0 = λ u i mu pi. elim (st.waiting u i mu) [
      | inl z ↦ z
      | inr w ↦ (let ip : i ≡ p = (let l : i ≤ p = top_w i w in omega arith) in sym (ap cur ((st.placed u i mu).1)) ∙ (ap (λ x. cur (s x)) ip ∙ over))
    ] in
    let meet : (u v i j : ℕ) → mark u ≡ Open i → mark v ≡ Open j → p ≤ i → p ≤ j → R u v = λ u v i j mu mv pi pj.
    let a : (i < size) × (s i ≡ u) = st.placed u i mu in
    let b : (j < size) × (s j ≡ v) = st.placed v j mv in
    elim (cases_lt j i) [
      | inl ji ↦ both R (st.back j i (omega arith) a.0 (λ c Bc jc ci. let h : c ≤ p = top_b c Bc in omega arith)) u v (sym a.1) (sym b.1)
      | inr ij ↦ both R (st.onward i j ij b.0) u v (sym a.1) (sym b.1)
    ] in
    record {
      placed = λ u i mu. let h : (mark u ≡ Open i) × (i < p) = was_open k u i mu in (h.1, (st.placed u i h.0).1);
      seated = λ i lt. k.keep (s i) i (st.seated i (omega arith)) lt;
      onward = λ i j ij lt. st.onward i j ij (omega arith);
      back = λ i j ij lt free. st.back i j ij (omega arith) (λ b Bb ib bj. elim (bc b Bb) [ inl h ↦ free b h ib bj | inr e ↦ omega arith ]);
      kept = λ a b i am mk ck Cb bi.
          let h : (mark (f a) ≡ Open i) × (i < p) = was_open k (f a) i mk in
          elim (st.kept a b i am h.0 ck (cb b Cb) bi) [
            | done d e ↦ done d (k.old (t a) d e)
            | held j e bj ↦ elim (cases_lt j p) [ inl less ↦ held j (k.keep (t a) j e less) bj | inr more ↦ done count (k.take (t a) j e more) ]
          ];
      fresh = λ a am mk ck. st.fresh a am (was_new k (f a) mk) ck;
      falling = λ a c am mk. elim (was_closed k (f a) c mk) [
        | inl o ↦
            let h : (d : ℕ) × (mark (t a) ≡ Closed d) × (d ≤ c) = st.falling a c am o in
            (h.0, k.old (t a) h.0 h.1, h.2)
        | inr o ↦
            let z : cur (f a) ≡ 0 = over_from (f a) o.0 o.1 o.2 in
            let is : c ≡ count = o.3 in
            elim (st.kept a p o.0 am o.1 (omega arith) Bp o.2) [
              | done d e ↦ (d, k.old (t a) d e, (let l : d < count = st.numbered (t a) d e in omega arith))
              | held j e pj ↦ (count, k.take (t a) j e pj, omega arith)
            ]
      ];
      joined = λ u v c mu mv. elim (was_closed k u c mu) [
        | inl a ↦ elim (was_closed k v c mv) [
          | inl b ↦ st.joined u v c a b
          | inr b ↦ (let l : c < count = st.numbered u c a in let is : c ≡ count = b.3 in absurd (omega arith))
        ]
        | inr a ↦ elim (was_closed k v c mv) [
          | inl b ↦ (let l : c < count = st.numbered v c b in let is : c ≡ count = a.3 in absurd (omega arith))
          | inr b ↦ meet u v a.0 b.0 a.1 b.1 a.2 b.2
        ]
      ];
      numbered = λ u c mu. elim (was_closed k u c mu) [ inl a ↦ (let l : c < count = st.numbered u c a in omega arith) | inr a ↦ (let is : c ≡ count = a.3 in omega arith) ];
      used = λ c lt. elim (cases_lt c count) [
        | inl less ↦ (let h : (u : ℕ) × (mark u ≡ Closed c) = st.used c less in (h.0, k.old h.0 c h.1))
        | inr more ↦ (let e : count ≡ c = omega arith in (s p, k.take (s p) p (st.seated p ps) (omega arith) ∙ ap Closed e))
      ];
      waiting = λ u i mu.
          let h : (mark u ≡ Open i) × (i < p) = was_open k u i mu in
          elim (st.waiting u i h.0) [ inl z ↦ inl z | inr w ↦ elim (wv i w) [ inl v ↦ inr v | inr e ↦ absurd (omega arith) ] ];
      within = vl;
      boundaries = λ b Cb. elim (wv b (st.boundaries b (cb b Cb))) [ inl v ↦ v | inr e ↦ (let l : b < p = cl b Cb in absurd (omega arith)) ];
      bottom = λ some. elim (bc 0 (st.bottom (omega arith))) [ inl h ↦ h | inr e ↦ absurd (omega arith) ];
    }

-- each node of the path reaches the node at a place that no boundary is after
pub reaches_last : {m : ℕ} {f t : ℕ → ℕ} {R : ℕ → ℕ → Type 0} {mark : ℕ → Mark} {cur s : ℕ → ℕ} {size count : ℕ} {W B : ℕ → Type 0} → IsSearchState m f t R mark cur s size count W B → (p : ℕ) → p < size → ((b : ℕ) → B b → b ≤ p) → (i : ℕ) → i < size → R (s i) (s p)
reaches_last st p ps top i lt = elim (cases_lt p i) [
  | inl pi ↦ st.back p i (omega arith) lt (λ b Bb pb bi. let h : b ≤ p = top b Bb in omega arith)
  | inr ip ↦ st.onward i p ip ps
]
