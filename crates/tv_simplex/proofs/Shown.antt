use Rattle.std.proofs.Common.{◌≤ℤ◌, ◌≡◌, ℕ, inl, inr, ◌+◌, ◌<◌, ◌≤◌, List, ◌∷◌, set, arith, refl, sym, ap, ◌∙◌, subst, ℤ, pos, ◌-ℤ◌, ◌*ℤ◌, ◌<ℤ◌}
use Rattle.std.proofs.lemmas.Int.{ints}
use Rattle.std.proofs.Math.IntN.{*ℤ_comm}
use Rattle.tv_simplex.proofs.Ring.{times_zero, zero_times, is_zero, times_less}
use Rattle.tv_simplex.proofs.RatioLemmas.{four, ratio_times, ratio_same, quotient, product, difference, value_below, value_not_under, num_zero}
use Rattle.tv_simplex.proofs.Exchanged.{after, after_at, reduced_after, exchanged}
use Rattle.tv_simplex.proofs.Sums.{delta-other}
use Rattle.tv_simplex.proofs.Steps.{next_tableau, feasible-any}
use Rattle.tv_simplex.proofs.Chains.{last_of, exchange_of}
use Rattle.tv_simplex.proofs.GoesOn.{leads_value}
use Rattle.tv_simplex.proofs.Answered.{artificial_none, some_artificial}
use Rattle.tv_simplex.specs.Orders.{Feasible}
use Rattle.tv_simplex.specs.Sums.{delta}
use Rattle.tv_simplex.specs.Tableaus.{Tableau, Exchange}
use Rattle.tv_simplex.specs.Chains.{order, objective, cost, column, Enters, Leaves, Step, IsChain, IsSystem, NoneNegative, Solves}
use Rattle.tv_simplex.specs.Ratios.{Ratio, IsRatio, IsQuotient, IsLessProduct, Shows, compared, IsExchanged, Exchanges}
use Rattle.tv_fraction.proofs.Products.{product_above}

-- two quotients are compared as the products of what they are
pub crossed : (f g : Ratio) (v w p q : ℤ) → IsRatio f v p → IsRatio g w q → (p *ℤ q) *ℤ compared f g ≡ (f.denominator *ℤ g.denominator) *ℤ (q *ℤ v -ℤ p *ℤ w)
crossed f g v w p q h k =
    let d = f.denominator *ℤ g.denominator in
    let h1 = times_less (p *ℤ q) (f.numerator *ℤ g.denominator) (g.numerator *ℤ f.denominator) in
    let h2 = four p q f.numerator g.denominator ∙ ap (λ z. z *ℤ (q *ℤ g.denominator)) (*ℤ_comm p f.numerator ∙ h.same ∙ *ℤ_comm v f.denominator) ∙ ap (λ z. (f.denominator *ℤ v) *ℤ z) (*ℤ_comm q g.denominator) ∙ four f.denominator v g.denominator q ∙ ap (λ z. d *ℤ z) (*ℤ_comm v q) in
    let h3 = ap (λ z. z *ℤ (g.numerator *ℤ f.denominator)) (*ℤ_comm p q) ∙ four q p g.numerator f.denominator ∙ ap (λ z. z *ℤ (p *ℤ f.denominator)) (*ℤ_comm q g.numerator ∙ k.same ∙ *ℤ_comm w g.denominator) ∙ ap (λ z. (g.denominator *ℤ w) *ℤ z) (*ℤ_comm p f.denominator) ∙ four g.denominator w f.denominator p ∙ (λ i. *ℤ_comm g.denominator f.denominator i *ℤ *ℤ_comm w p i) in
    let h4 = times_less d (q *ℤ v) (p *ℤ w) in
    omega (arith, ints, h1, h2, h3, h4)

-- a difference of two products over one scale
pub less_product : (f g h k : Ratio) (u v w t s p : ℤ) → IsRatio g u s → IsRatio h v s → IsRatio k w p → IsLessProduct f g h k → IsRatio f (p *ℤ u -ℤ v *ℤ w) (s *ℤ p)
less_product f g h k u v w t s p rg rh rk q =
    let multiplied : Ratio = record { numerator = h.numerator *ℤ k.numerator; denominator = h.denominator *ℤ k.denominator } in
    difference f g multiplied (p *ℤ u) (v *ℤ w) (s *ℤ p)
    (ratio_same g (p *ℤ u) (p *ℤ u) (p *ℤ s) (s *ℤ p) (ratio_times g u s p rg) refl (*ℤ_comm p s))
    (product multiplied h k v w s p rh rk (record { positive = product_above h.denominator k.denominator rh.positive rk.positive; same = refl }))
    (record { positive = q.positive; same = q.same })

-- what is read of a row, over a scale
module _ (last c : ℕ) (s : ℤ) (positive : pos 0 <ℤ s) (f g : ℕ → Ratio) (u v : ℕ → ℤ) (c_in : c ≤ last) (fs : (j : ℕ) → j ≤ last → IsRatio (f j) (u j) s) (gs : (j : ℕ) → j ≤ last → IsRatio (g j) (v j) s) where
  -- two quotients are compared as the products of what they are
  pub quotients_compared : (o : ℕ) → o ≤ last → (p q : Ratio) → IsQuotient p (f o) (f c) → IsQuotient q (g o) (g c) → (u c *ℤ v c) *ℤ compared p q ≡ (p.denominator *ℤ q.denominator) *ℤ (v c *ℤ u o -ℤ u c *ℤ v o)
  quotients_compared o o_in p q hp hq = crossed p q (u o) (v o) (u c) (v c) (quotient p (f o) (f c) (u o) (u c) s positive (fs o o_in) (fs c c_in) hp) (quotient q (g o) (g c) (v o) (v c) s positive (gs o o_in) (gs c c_in) hq)

module _ (a : ℕ → ℕ → ℤ) (m n : ℕ) (sys : IsSystem a m n) (b : List ℕ) (bs : List (List ℕ)) (read : ℕ → ℕ → Ratio) (shows : Shows a m n b bs read) where
  -- what is read of the objective row
  pub none_negative : ((j : ℕ) → j < n → pos 0 ≤ℤ (read m j).numerator) → NoneNegative a m n (column b) shows.table
  none_negative h j l = value_not_under (read m j) (objective a m n (column b) shows.table j) shows.table.scale shows.table.positive (shows.objective_row j (omega arith)) (h j l)

  pub enters : (c : ℕ) → c < n → (read m c).numerator <ℤ pos 0 → ((j : ℕ) → j < c → pos 0 ≤ℤ (read m j).numerator) → Enters a m n (column b) shows.table c
  enters c l negative first = record {
    within = l;
    negative = value_below (read m c) (objective a m n (column b) shows.table c) shows.table.scale shows.table.positive (shows.objective_row c (omega arith)) negative;
    first = λ j g. value_not_under (read m j) (objective a m n (column b) shows.table j) shows.table.scale shows.table.positive (shows.objective_row j (omega arith)) (first j g);
  }

  -- what is read of the right side
  pub unsolved : (i : ℕ) → i < m → n ≤ column b i → ((read i (n + m)).numerator ≡ pos 0 → ⊥) → Solves a m n (column b) shows.table → ⊥
  unsolved i l g h k = h (num_zero (read i (n + m)) (shows.table.entry i (n + m)) shows.table.scale shows.table.positive (shows.rows i (n + m) l (omega arith)) (k.artificial i l g))

  pub feasible : Feasible a m n (column b) shows.table
  feasible = (let last = last_of a m n sys b bs shows.chain in feasible-any a m n (column b) last.table shows.table last.feasible)

  pub solves : ((i : ℕ) → i < m → n ≤ column b i → (read i (n + m)).numerator ≡ pos 0) → Solves a m n (column b) shows.table
  solves h = record {
    values = λ i l. leads_value m (λ q. shows.table.entry i (order m n q)) (feasible i l);
    artificial = λ i l g. is_zero (read i (n + m)).denominator (shows.table.entry i (n + m)) (shows.rows i (n + m) l (omega arith)).positive (
        *ℤ_comm (read i (n + m)).denominator (shows.table.entry i (n + m)) ∙ sym (shows.rows i (n + m) l (omega arith)).same ∙ zero_times (read i (n + m)).numerator shows.table.scale (h i l g)
        );
  }

  -- the right side of the objective row says whether an artificial column of the basis has another value than 0
  pub read_solved : (read m (n + m)).numerator ≡ pos 0 → (i : ℕ) → i < m → n ≤ column b i → (read i (n + m)).numerator ≡ pos 0
  read_solved h i l g =
      let x = shows.table in
      let last = last_of a m n sys b bs shows.chain in
      let none = is_zero (read m (n + m)).denominator (objective a m n (column b) x (n + m)) (shows.objective_row (n + m) (omega arith)).positive (
      *ℤ_comm (read m (n + m)).denominator (objective a m n (column b) x (n + m)) ∙ sym (shows.objective_row (n + m) (omega arith)).same ∙ zero_times (read m (n + m)).numerator x.scale h
      ) in
      num_zero (read i (n + m)) (x.entry i (n + m)) x.scale x.positive (shows.rows i (n + m) l (omega arith))
      (artificial_none a m n (column b) x (λ k k_in. leads_value m (λ q. x.entry k (order m n q)) (feasible k k_in)) last.inside none i l g)

  pub read_unsolved : ((read m (n + m)).numerator ≡ pos 0 → ⊥) → (i : ℕ) × (i < m) × (n ≤ column b i) × ((read i (n + m)).numerator ≡ pos 0 → ⊥)
  read_unsolved h =
      let x = shows.table in
      let p = some_artificial a m n (column b) x (λ e. h (num_zero (read m (n + m)) (objective a m n (column b) x (n + m)) x.scale x.positive (shows.objective_row (n + m) (omega arith)) e)) in (
        p.0,
        p.1,
        p.2,
        λ e. p.3 (is_zero (read p.0 (n + m)).denominator (x.entry p.0 (n + m)) (shows.rows p.0 (n + m) p.1 (omega arith)).positive (
            *ℤ_comm (read p.0 (n + m)).denominator (x.entry p.0 (n + m)) ∙ sym (shows.rows p.0 (n + m) p.1 (omega arith)).same ∙ zero_times (read p.0 (n + m)).numerator x.scale e
            )),
      )

  pub step_to : (c r : ℕ) → (Solves a m n (column b) shows.table → ⊥) → Enters a m n (column b) shows.table c → Leaves a m n (column b) shows.table c r → Step a m n b (set b r c)
  step_to c r never enters leaves = record {
    table = shows.table;
    unsettled = λ k. elim k [
      | inl w ↦ never w
      | inr w ↦ (let low = enters.negative in let high = w c enters.within in absurd (omega (arith, ints, low, high)))
    ];
    entering = c;
    leaving = r;
    enters = enters;
    leaves = leaves;
    next = refl;
  }

  module _ (c r : ℕ) (never : Solves a m n (column b) shows.table → ⊥) (enters : Enters a m n (column b) shows.table c) (leaves : Leaves a m n (column b) shows.table c r) where
    c_in : c ≤ n + m
    c_in = let l = enters.within in omega arith

    pub moved : Exchange m (column b) (column (set b r c)) r c
    unfolding step_to
    moved = exchange_of a m n sys b (set b r c) (step_to c r never enters leaves) (last_of a m n sys b bs shows.chain).size

    pub next_chain : IsChain a m n (set b r c ∷ (b ∷ bs))
    next_chain = (step_to c r never enters leaves, shows.chain)

    unfoldable pub next_is : Tableau a m n (column (set b r c))
    next_is = next_tableau a m n (column b) (column (set b r c)) shows.table r c leaves moved

    quotient_read : (j : ℕ) (q : Ratio) → j ≤ n + m → IsQuotient q (read r j) (read r c) → IsRatio q (shows.table.entry r j) (shows.table.entry r c)
    quotient_read j q j_in h = quotient q (read r j) (read r c) (shows.table.entry r j) (shows.table.entry r c) shows.table.scale shows.table.positive (shows.rows r j leaves.within j_in) (shows.rows r c leaves.within c_in) h

    -- what a place holds after the exchange is the entry of the next tableau
    pub next_row : (i j : ℕ) (f : Ratio) → i < m → j ≤ n + m → IsExchanged r c read i j f → IsRatio f (next_is.entry i j) next_is.scale
    unfolding next_is next_tableau exchanged
    next_row i j f i_in j_in (inl h) =
        subst (λ k. IsRatio f (after shows.table.scale shows.table.entry r c k j) (shows.table.scale *ℤ shows.table.entry r c)) (sym h.0)
        (ratio_same f _ _ _ _ (ratio_times f (shows.table.entry r j) (shows.table.entry r c) shows.table.scale (quotient_read j f j_in h.1)) (sym (after_at shows.table.scale shows.table.entry r c j)) refl)
    next_row i j f i_in j_in (inr h) =
        let x = shows.table in
        let z = times_zero x.scale (delta i r) (delta-other i r h.0) in
        ratio_same f _ _ _ _
        (less_product f (read i j) (read i c) h.1.0 (x.entry i j) (x.entry i c) (x.entry r j) (pos 0) x.scale (x.entry r c) (shows.rows i j i_in j_in) (shows.rows i c i_in c_in) (quotient_read j h.1.0 j_in h.1.1) h.1.2)
        (ap (λ y. x.entry r c *ℤ x.entry i j -ℤ y *ℤ x.entry r j) (let g : x.entry i c ≡ x.entry i c -ℤ x.scale *ℤ delta i r = omega (arith, ints, z) in g))
        refl

    pub next_objective : (j : ℕ) (f : Ratio) → j ≤ n + m → IsExchanged r c read m j f → IsRatio f (objective a m n (column (set b r c)) next_is j) next_is.scale
    unfolding next_is next_tableau exchanged
    next_objective j f j_in (inl h) = (let l = leaves.within in let e = h.0 in absurd (omega arith))
    next_objective j f j_in (inr h) =
        let x = shows.table in
        ratio_same f (x.entry r c *ℤ objective a m n (column b) x j -ℤ objective a m n (column b) x c *ℤ x.entry r j) (objective a m n (column (set b r c)) (next_tableau a m n (column b) (column (set b r c)) x r c leaves moved) j) (x.scale *ℤ x.entry r c) (x.scale *ℤ x.entry r c)
        (less_product f (read m j) (read m c) h.1.0 (objective a m n (column b) x j) (objective a m n (column b) x c) (x.entry r j) (pos 0) x.scale (x.entry r c) (shows.objective_row j j_in) (shows.objective_row c c_in) (quotient_read j h.1.0 j_in h.1.1) h.1.2)
        (sym (reduced_after m (cost m n) (column b) (column (set b r c)) x.scale x.entry r c leaves.within moved j))
        refl

    -- the table after the exchange shows the next basis
    pub shows_next : (next : ℕ → ℕ → Ratio) → Exchanges m n r c read next → Shows a m n (set b r c) (b ∷ bs) next
    shows_next next h = record {
      chain = next_chain;
      table = next_is;
      rows = λ i j i_in j_in. next_row i j (next i j) i_in j_in (h i j (omega arith) j_in);
      objective_row = λ j j_in. next_objective j (next m j) j_in (h m j (omega arith) j_in);
    }
