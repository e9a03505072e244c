use Rattle.std.proofs.Common.{◌≡◌, ℕ, zero, suc, ◌⊎◌, inl, inr, ◌+◌, ◌<◌, ◌≤◌, List, set, arith, refl, sym, ap, ◌∙◌, subst, ℤ, pos, ◌+ℤ◌, ◌-ℤ◌, ◌*ℤ◌, ◌<ℤ◌, ◌≤ℤ◌}
use Rattle.std.proofs.lemmas.Int.{ints}
use Rattle.std.proofs.Math.IntN.{*ℤ_comm}
use Rattle.tv_linear.proofs.Ring.{mul_assoc_z, not_above}
use Rattle.tv_simplex.proofs.Ring.{by_sign, times_zero, is_zero}
use Rattle.tv_simplex.proofs.Sums.{total-same, total-zero, total-times, delta-same, delta-other, delta-above}
use Rattle.tv_simplex.proofs.Leads.{leads-same, leads-times, leads-divide, leads-add}
use Rattle.tv_simplex.proofs.Steps.{joined}
use Rattle.tv_simplex.specs.Sums.{total, delta}
use Rattle.tv_simplex.specs.Tableaus.{Tableau}
use Rattle.tv_simplex.specs.Chains.{LeadsAbove, order, cost, objective, column, Step, Solves, Settles}
use Rattle.tv_simplex.specs.Orders.{Feasible, against, LeastOf}
use Rattle.std.proofs.lemmas.Bool.{cases_lt, cases_eq}
use Rattle.tv_linear.proofs.ListLaws.{same_or_below}

-- ---- the first number below 0
pub first_negative : (n : ℕ) (f : ℕ → ℤ) → ((j : ℕ) → j < n → pos 0 ≤ℤ f j) ⊎ ((c : ℕ) × (c < n) × (f c <ℤ pos 0) × ((j : ℕ) → j < c → pos 0 ≤ℤ f j))
first_negative zero f = inl (λ j h. absurd (omega arith))
first_negative (suc n) f = elim (first_negative n f) [
  | inr w ↦ inr (w.0, (let l = w.1 in omega arith), w.2, w.3)
  | inl none ↦ elim (by_sign (f n)) [
    | inl h ↦ inr (n, omega arith, h, none)
    | inr w ↦ inl (λ j l. elim (same_or_below n j l) [
      | inr k ↦ none j k
      | inl k ↦ subst (λ z. pos 0 ≤ℤ z) (ap f (sym k)) (elim w [ inl e ↦ omega (arith, ints, e) | inr p ↦ omega (arith, ints) ])
    ])
  ]
]

-- ---- a list of numbers leads above 0, or its opposite does, or it is 0
pub leads-cases : (m : ℕ) (v : ℕ → ℤ) → LeadsAbove m v ⊎ (LeadsAbove m (λ q. pos 0 -ℤ v q) ⊎ ((q : ℕ) → q ≤ m → v q ≡ pos 0))
leads-cases zero v = elim (by_sign (v 0)) [
  | inl h ↦ inr (inl (record { place = 0; within = omega arith; before = λ q l. absurd (omega arith); here = omega (arith, ints) }))
  | inr w ↦ elim w [
    | inl e ↦ inr (inr (λ q l. ap v (let k : q ≡ 0 = omega arith in k) ∙ e))
    | inr h ↦ inl (record { place = 0; within = omega arith; before = λ q l. absurd (omega arith); here = h })
  ]
]
leads-cases (suc m) v = elim (leads-cases m v) [
  | inl h ↦ inl (record { place = h.place; within = (let l = h.within in omega arith); before = h.before; here = h.here })
  | inr w ↦ elim w [
    | inl h ↦ inr (inl (record { place = h.place; within = (let l = h.within in omega arith); before = h.before; here = h.here }))
    | inr none ↦ elim (by_sign (v (suc m))) [
      | inl h ↦ inr (inl (record { place = suc m; within = omega arith; before = λ q l. (let k = none q (omega arith) in omega (arith, ints, k)); here = omega (arith, ints) }))
      | inr u ↦ elim u [
        | inl e ↦ inr (inr (λ q l. elim (same_or_below (suc m) q (omega arith)) [ inl k ↦ ap v k ∙ e | inr k ↦ none q (omega arith) ]))
        | inr h ↦ inl (record { place = suc m; within = omega arith; before = λ q l. none q (omega arith); here = h })
      ]
    ]
  ]
]

pub total-not_above : (n : ℕ) (f : ℕ → ℤ) → ((k : ℕ) → k < n → f k ≤ℤ pos 0) → total n f ≤ℤ pos 0
total-not_above zero f h = omega (arith, ints)
total-not_above (suc n) f h =
    let here = h n (omega arith) in
    let before = total-not_above n f (λ k l. h k (omega arith)) in
    omega (arith, ints, here, before)

pub delta-not_under : (i j : ℕ) → pos 0 ≤ℤ delta i j
delta-not_under zero zero = omega (arith, ints)
delta-not_under zero (suc j) = omega (arith, ints)
delta-not_under (suc i) zero = omega (arith, ints)
delta-not_under (suc i) (suc j) = delta-not_under i j

pub total-not_under : (n : ℕ) (f : ℕ → ℤ) → ((k : ℕ) → k < n → pos 0 ≤ℤ f k) → pos 0 ≤ℤ total n f
total-not_under zero f h = omega (arith, ints)
total-not_under (suc n) f h =
    let here = h n (omega arith) in
    let before = total-not_under n f (λ k l. h k (omega arith)) in
    omega (arith, ints, here, before)

pub cost-not_under : (m n j : ℕ) → pos 0 ≤ℤ cost m n j
cost-not_under m n j = total-not_under m (λ i. delta (n + i) j) (λ k l. delta-not_under (n + k) j)

pub cost-none : (m n j : ℕ) → j < n → cost m n j ≡ pos 0
cost-none m n j h = total-zero m (λ i. delta (n + i) j) (λ k l. delta-above (n + k) j (omega arith))

module _ (a : ℕ → ℕ → ℤ) (m n : ℕ) (b : ℕ → ℕ) (x : Tableau a m n b) where
  -- two rows are no multiples of one another
  pub independent : (i r : ℕ) → i < m → r < m → (i ≡ r → ⊥) → (d g : ℤ) → pos 0 <ℤ d → ((q : ℕ) → q ≤ m → d *ℤ x.entry i (order m n q) -ℤ g *ℤ x.entry r (order m n q) ≡ pos 0) → ⊥
  independent i r i_in r_in h d g p z =
      let same : d *ℤ x.entry i (b i) ≡ g *ℤ x.entry r (b i) =
      ap (λ k. d *ℤ k) (x.combined i (b i) i_in)
      ∙ sym (total-times m d (λ k. x.entry i (n + k) *ℤ a k (b i)))
      ∙ total-same m (λ k. d *ℤ (x.entry i (n + k) *ℤ a k (b i))) (λ k. g *ℤ (x.entry r (n + k) *ℤ a k (b i))) (λ k l. row k l)
      ∙ total-times m g (λ k. x.entry r (n + k) *ℤ a k (b i))
      ∙ ap (λ k. g *ℤ k) (sym (x.combined r (b i) r_in)) in
      let zero_there = times_zero g (x.entry r (b i)) (x.unit r i r_in i_in ∙ times_zero x.scale (delta r i) (delta-other r i (λ e. h (sym e)))) in
      let e = is_zero d (x.entry i (b i)) p (same ∙ zero_there) in
      let u = x.unit i i i_in i_in ∙ ap (λ k. x.scale *ℤ k) (delta-same i) in
      let w = x.positive in
      absurd (omega (arith, ints, e, u, w))
    where
      row : (k : ℕ) → k < m → d *ℤ (x.entry i (n + k) *ℤ a k (b i)) ≡ g *ℤ (x.entry r (n + k) *ℤ a k (b i))
      row k l =
          let e : d *ℤ x.entry i (n + k) ≡ g *ℤ x.entry r (n + k) = (let f = z (suc k) (omega arith) in omega (arith, ints, f)) in
          sym (mul_assoc_z d (x.entry i (n + k)) (a k (b i))) ∙ ap (λ y. y *ℤ a k (b i)) e ∙ mul_assoc_z g (x.entry r (n + k)) (a k (b i))

  -- an entering column has an entry above 0
  pub entry_above : (c : ℕ) → c < n → objective a m n b x c <ℤ pos 0 → ((i : ℕ) → i < m → x.entry i c ≤ℤ pos 0) → ⊥
  entry_above c c_in negative none =
      let s = total-not_above m (λ i. x.entry i c *ℤ cost m n (b i)) (λ i l. (let k = not_above (cost m n (b i)) (x.entry i c) (cost-not_under m n (b i)) (none i l) in let e = *ℤ_comm (x.entry i c) (cost m n (b i)) in omega (arith, ints, k, e))) in
      let z = times_zero x.scale (cost m n c) (cost-none m n c c_in) in
      absurd (omega (arith, ints, s, z))

  abbrev ratio : ℕ → ℕ → ℕ → ℕ → ℤ
  ratio c r i q = against a m n b x c r i q

  ratio-trans : (c r s i : ℕ) → pos 0 <ℤ x.entry r c → pos 0 <ℤ x.entry s c → pos 0 <ℤ x.entry i c → LeadsAbove m (ratio c r i) → LeadsAbove m (ratio c s r) → LeadsAbove m (ratio c s i)
  ratio-trans c r s i pr ps pi h k =
      leads-divide m (x.entry r c) (ratio c s i) pr
      (leads-same m (λ q. x.entry s c *ℤ ratio c r i q +ℤ x.entry i c *ℤ ratio c s r q) (λ q. x.entry r c *ℤ ratio c s i q)
      (leads-add m (λ q. x.entry s c *ℤ ratio c r i q) (λ q. x.entry i c *ℤ ratio c s r q) (leads-times m (x.entry s c) (ratio c r i) ps h) (leads-times m (x.entry i c) (ratio c s r) pi k))
      (λ q l. joined (x.entry s c) (x.entry r c) (x.entry i c) (x.entry s (order m n q)) (x.entry r (order m n q)) (x.entry i (order m n q))))

  -- a first row with an entry above 0
  pub least_first : (c k : ℕ) → pos 0 <ℤ x.entry k c → ((i : ℕ) → i < k → x.entry i c ≤ℤ pos 0) → LeastOf a m n b x c (suc k) k
  least_first c k p none = record {
    within = omega arith;
    above = p;
    least = λ i l o q. elim (same_or_below k i l) [
      | inl e ↦ absurd (o e)
      | inr g ↦ (let u = none i g in absurd (omega (arith, ints, u)))
    ];
  }

  -- a row without an entry above 0 is passed over
  pub least_skips : (c k r : ℕ) → x.entry k c ≤ℤ pos 0 → LeastOf a m n b x c k r → LeastOf a m n b x c (suc k) r
  least_skips c k r low old = record {
    within = (let l = old.within in omega arith);
    above = old.above;
    least = λ i l o p. elim (same_or_below k i l) [
      | inl e ↦ (let u = ap (λ y. x.entry y c) e in absurd (omega (arith, ints, u)))
      | inr g ↦ old.least i g o p
    ];
  }

  -- a row with greater quotients is passed over
  pub least_stays : (c k r : ℕ) → LeadsAbove m (ratio c r k) → LeastOf a m n b x c k r → LeastOf a m n b x c (suc k) r
  least_stays c k r up old = record {
    within = (let l = old.within in omega arith);
    above = old.above;
    least = λ i l o q. elim (same_or_below k i l) [
      | inl e ↦ subst (λ y. LeadsAbove m (ratio c r y)) (sym e) up
      | inr g ↦ old.least i g o q
    ];
  }

  -- a row with lesser quotients takes the place
  pub least_taken : (c k r : ℕ) → pos 0 <ℤ x.entry k c → LeadsAbove m (ratio c k r) → LeastOf a m n b x c k r → LeastOf a m n b x c (suc k) k
  least_taken c k r p turned old = record {
    within = omega arith;
    above = p;
    least = λ i l o q. elim (same_or_below k i l) [
      | inl e ↦ absurd (o e)
      | inr g ↦ elim (cases_eq i r) [
        | inl e ↦ subst (λ y. LeadsAbove m (ratio c k y)) (sym e) turned
        | inr e ↦ ratio-trans c r k i old.above p q (old.least i g e q) turned
      ]
    ];
  }

  -- no two rows have the same quotients
  pub never_tied : (c k r : ℕ) → k < m → LeastOf a m n b x c k r → ((q : ℕ) → q ≤ m → ratio c r k q ≡ pos 0) → ⊥
  never_tied c k r k_in old none = independent k r k_in (let l = old.within in omega arith) (λ e. let l = old.within in absurd (omega arith)) (x.entry r c) (x.entry k c) old.above none

  pub least_of : (c k : ℕ) → k ≤ m → ((i : ℕ) → i < k → x.entry i c ≤ℤ pos 0) ⊎ ((r : ℕ) × LeastOf a m n b x c k r)
  least_of c zero h = inl (λ i l. absurd (omega arith))
  least_of c (suc k) h = elim (by_sign (x.entry k c)) [
    | inl low ↦ skip (omega (arith, ints)) (least_of c k (omega arith))
    | inr w ↦ elim w [
      | inl e ↦ skip (omega (arith, ints, e)) (least_of c k (omega arith))
      | inr p ↦ inr (elim (least_of c k (omega arith)) [
        | inl none ↦ (k, least_first c k p none)
        | inr old ↦ better p old.0 old.1
      ])
    ]
  ]
    where
      skip : x.entry k c ≤ℤ pos 0 → ((i : ℕ) → i < k → x.entry i c ≤ℤ pos 0) ⊎ ((r : ℕ) × LeastOf a m n b x c k r) → ((i : ℕ) → i < suc k → x.entry i c ≤ℤ pos 0) ⊎ ((r : ℕ) × LeastOf a m n b x c (suc k) r)
      skip low (inl none) = inl (λ i l. elim (same_or_below k i l) [ inl e ↦ subst (λ y. x.entry y c ≤ℤ pos 0) (sym e) low | inr g ↦ none i g ])
      skip low (inr old) = inr (old.0, least_skips c k old.0 low old.1)

      better : pos 0 <ℤ x.entry k c → (r : ℕ) → LeastOf a m n b x c k r → (s : ℕ) × LeastOf a m n b x c (suc k) s
      better p r old = elim (leads-cases m (ratio c r k)) [
        | inl up ↦ (r, least_stays c k r up old)
        | inr w ↦ elim w [
          | inl down ↦ (k, least_taken c k r p (leads-same m (λ q. pos 0 -ℤ ratio c r k q) (ratio c k r) down (λ q l. omega (arith, ints))) old)
          | inr none ↦ absurd (never_tied c k r (omega arith) old none)
        ]
      ]

-- ---- whether a basis settles
pub all_or_one : (k : ℕ) (P : ℕ → Type 0) → ((i : ℕ) → i < k → P i ⊎ (P i → ⊥)) → ((i : ℕ) → i < k → P i) ⊎ (((i : ℕ) → i < k → P i) → ⊥)
all_or_one zero P h = inl (λ i l. absurd (omega arith))
all_or_one (suc k) P h = elim (all_or_one k P (λ i l. h i (omega arith))) [
  | inr never ↦ inr (λ f. never (λ i l. f i (omega arith)))
  | inl each ↦ elim (h k (omega arith)) [
    | inr never ↦ inr (λ f. never (f k (omega arith)))
    | inl here ↦ inl (λ i l. elim (same_or_below k i l) [ inl e ↦ subst P (sym e) here | inr g ↦ each i g ])
  ]
]

zero_or_not : (v : ℤ) → (v ≡ pos 0) ⊎ (v ≡ pos 0 → ⊥)
zero_or_not v = elim (by_sign v) [
  | inl h ↦ inr (λ e. absurd (omega (arith, ints, e)))
  | inr w ↦ elim w [ inl e ↦ inl e | inr h ↦ inr (λ e. absurd (omega (arith, ints, e))) ]
]

pub leads_value : (m : ℕ) (v : ℕ → ℤ) → LeadsAbove m v → pos 0 ≤ℤ v 0
leads_value m v h = elim (first_or_later h.place) [
  | inl e ↦ (let k = subst (λ q. pos 0 <ℤ v q) e h.here in omega (arith, ints, k))
  | inr l ↦ (let k = h.before 0 l in omega (arith, ints, k))
]
  where
    first_or_later : (p : ℕ) → (p ≡ 0) ⊎ (0 < p)
    first_or_later p = grind arith

pub solves_or_not : (a : ℕ → ℕ → ℤ) (m n : ℕ) (b : ℕ → ℕ) (x : Tableau a m n b) → Feasible a m n b x → Solves a m n b x ⊎ (Solves a m n b x → ⊥)
solves_or_not a m n b x f = elim (all_or_one m (λ i. n ≤ b i → x.entry i (n + m) ≡ pos 0) (λ i l. elim (cases_lt (b i) n) [
  | inl g ↦ inl (λ h. absurd (omega arith))
  | inr g ↦ elim (zero_or_not (x.entry i (n + m))) [ inl e ↦ inl (λ h. e) | inr never ↦ inr (λ h. never (h g)) ]
])) [
  | inl each ↦ inl (record { values = λ i l. leads_value m (λ q. x.entry i (order m n q)) (f i l); artificial = each })
  | inr never ↦ inr (λ h. never h.artificial)
]

-- a feasible basis settles, or has a next one
pub goes_on : (a : ℕ → ℕ → ℤ) (m n : ℕ) (b : List ℕ) (x : Tableau a m n (column b)) → Feasible a m n (column b) x → Settles a m n (column b) x ⊎ ((new : List ℕ) × Step a m n b new)
goes_on a m n b x f = elim (solves_or_not a m n (column b) x f) [
  | inl each ↦ inl (inl each)
  | inr unsolved ↦ elim (first_negative n (objective a m n (column b) x)) [
    | inl none ↦ inl (inr none)
    | inr w ↦ inr (elim (least_of a m n (column b) x w.0 m (omega arith)) [
      | inl none ↦ absurd (entry_above a m n (column b) x w.0 w.1 w.2 none)
      | inr old ↦ (
        set b old.0 w.0,
        record {
          table = x;
          unsettled = λ k. elim k [ inl u ↦ unsolved u | inr u ↦ (let h = u w.0 w.1 in let g = w.2 in absurd (omega (arith, ints, h, g))) ];
          entering = w.0;
          leaving = old.0;
          enters = record { within = w.1; negative = w.2; first = w.3 };
          leaves = record { within = old.1.within; above = old.1.above; least = old.1.least };
          next = refl;
        },
      )
    ])
  ]
]
