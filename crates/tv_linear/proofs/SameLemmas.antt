-- Rows that are known in different ways and have the same numbers.
use Rattle.std.proofs.Common.{◌≡◌, ℕ, suc, ◌<◌, List, [], ◌∷◌, ◌++◌, length, map, Option, None, Some, refl, sym, ap, ◌∙◌, subst, ℤ, pos, neg_ℤ, ◌+ℤ◌, ◌-ℤ◌, ◌*ℤ◌, ◌<ℤ◌, All, ◌+◌, length-append}
use Rattle.std.proofs.lemmas.List.Elements.{All-nil, All-cons}
use Rattle.tv_linear.specs.Linear.{dot}
use Rattle.tv_linear.specs.Fits.{IsHeld}
use Rattle.tv_linear.specs.Known.{Known, given, denied, known_number, KnownHeld}
use Rattle.tv_linear.specs.Refutation.{RowsHeld, Refutes}
use Rattle.tv_linear.specs.Covers.{Shown, ShownAt, IsMetCover}
use Rattle.tv_linear.specs.Same.{SameNumbers, AreSame, OwedSame}
use Rattle.tv_linear.specs.declared.cover.CoverTree.{CoverTree, Split', Empty, Into}

pub same_self : (n : ℕ) (k : Known) → SameNumbers n k k
same_self n k = record { inner = λ j l. refl; constant = refl; inner_held = λ j l h. h; constant_held = λ h. h }

pub all_same : (n : ℕ) (ks : List Known) → AreSame n ks ks
all_same n [] = tt
all_same n (k ∷ ks) = (same_self n k, all_same n ks)

pub same_then : (n : ℕ) (a b c : Known) → SameNumbers n a b → SameNumbers n b c → SameNumbers n a c
same_then n a b c h g = record {
  inner = λ j l. g.inner j l ∙ h.inner j l;
  constant = g.constant ∙ h.constant;
  inner_held = λ j l k. g.inner_held j l (h.inner_held j l k);
  constant_held = λ k. g.constant_held (h.constant_held k);
}

pub are_same_then : (n : ℕ) (xs ys zs : List Known) → AreSame n xs ys → AreSame n ys zs → AreSame n xs zs
are_same_then n [] [] [] h g = tt
are_same_then n [] [] (c ∷ zs) h g = absurd g
are_same_then n [] (b ∷ ys) zs h g = absurd h
are_same_then n (a ∷ xs) [] zs h g = absurd h
are_same_then n (a ∷ xs) (b ∷ ys) [] h g = absurd g
are_same_then n (a ∷ xs) (b ∷ ys) (c ∷ zs) h g = (same_then n a b c h.0 g.0, are_same_then n xs ys zs h.1 g.1)

pub same_append : (n : ℕ) (ks qs js ps : List Known) → AreSame n ks qs → AreSame n js ps → AreSame n (ks ++ js) (qs ++ ps)
same_append n [] [] js ps h g = g
same_append n [] (q ∷ qs) js ps h g = absurd h
same_append n (k ∷ ks) [] js ps h g = absurd h
same_append n (k ∷ ks) (q ∷ qs) js ps h g = (h.0, same_append n ks qs js ps h.1 g)

pub same_push : (n : ℕ) (ks qs : List Known) (k q : Known) → AreSame n ks qs → SameNumbers n k q → AreSame n (ks ++ k ∷ []) (qs ++ q ∷ [])
same_push n ks qs k q h g = same_append n ks qs (k ∷ []) (q ∷ []) h (g, tt)

-- ---- refutations
same_length : (n : ℕ) (ks qs : List Known) → AreSame n ks qs → length qs ≡ length ks
same_length n [] [] h = refl
same_length n [] (q ∷ qs) h = absurd h
same_length n (k ∷ ks) [] h = absurd h
same_length n (k ∷ ks) (q ∷ qs) h = ap suc (same_length n ks qs h.1)

inner_numbers : (n j : ℕ) (ks qs : List Known) → j < n → AreSame n ks qs → map (λ k. known_number k (Some j)) qs ≡ map (λ k. known_number k (Some j)) ks
inner_numbers n j [] [] l h = refl
inner_numbers n j [] (q ∷ qs) l h = absurd h
inner_numbers n j (k ∷ ks) [] l h = absurd h
inner_numbers n j (k ∷ ks) (q ∷ qs) l h = (λ i. h.0.inner j l i ∷ inner_numbers n j ks qs l h.1 i)

constants : (n : ℕ) (ks qs : List Known) → AreSame n ks qs → map (λ k. known_number k None) qs ≡ map (λ k. known_number k None) ks
constants n [] [] h = refl
constants n [] (q ∷ qs) h = absurd h
constants n (k ∷ ks) [] h = absurd h
constants n (k ∷ ks) (q ∷ qs) h = (λ i. h.0.constant i ∷ constants n ks qs h.1 i)

-- one more row, whose number is the same
held_more : (held : Known → Type 0) (p : Known → ℤ) (m sum : ℤ) (k q : Known) (ms : List ℤ) (qs : List Known) → p q ≡ p k → held q → IsHeld (m *ℤ p k) → IsHeld (sum +ℤ m *ℤ p k) → RowsHeld held (sum +ℤ m *ℤ p k) p ms qs → RowsHeld held sum p (m ∷ ms) (q ∷ qs)
held_more held p m sum k q ms qs e h a b g = (
  h,
  subst (λ z. IsHeld (m *ℤ z)) (sym e) a,
  subst (λ z. IsHeld (sum +ℤ m *ℤ z)) (sym e) b,
  subst (λ z. RowsHeld held (sum +ℤ m *ℤ z) p ms qs) (sym e) g,
)

inner_held : (n j : ℕ) (sum : ℤ) (ms : List ℤ) (ks qs : List Known) → j < n → AreSame n ks qs → RowsHeld (λ k. KnownHeld k (Some j)) sum (λ k. known_number k (Some j)) ms ks → RowsHeld (λ k. KnownHeld k (Some j)) sum (λ k. known_number k (Some j)) ms qs
inner_held n j sum [] ks qs l h g = tt
inner_held n j sum (m ∷ ms) [] [] l h g = tt
inner_held n j sum (m ∷ ms) [] (q ∷ qs) l h g = absurd h
inner_held n j sum (m ∷ ms) (k ∷ ks) [] l h g = absurd h
inner_held n j sum (m ∷ ms) (k ∷ ks) (q ∷ qs) l h g =
    held_more (λ k. KnownHeld k (Some j)) (λ k. known_number k (Some j)) m sum k q ms qs (h.0.inner j l) (h.0.inner_held j l g.0) g.1 g.2 (inner_held n j (sum +ℤ m *ℤ known_number k (Some j)) ms ks qs l h.1 g.3)

constant_held : (n : ℕ) (sum : ℤ) (ms : List ℤ) (ks qs : List Known) → AreSame n ks qs → RowsHeld (λ k. KnownHeld k None) sum (λ k. known_number k None) ms ks → RowsHeld (λ k. KnownHeld k None) sum (λ k. known_number k None) ms qs
constant_held n sum [] ks qs h g = tt
constant_held n sum (m ∷ ms) [] [] h g = tt
constant_held n sum (m ∷ ms) [] (q ∷ qs) h g = absurd h
constant_held n sum (m ∷ ms) (k ∷ ks) [] h g = absurd h
constant_held n sum (m ∷ ms) (k ∷ ks) (q ∷ qs) h g =
    held_more (λ k. KnownHeld k None) (λ k. known_number k None) m sum k q ms qs h.0.constant (h.0.constant_held g.0) g.1 g.2 (constant_held n (sum +ℤ m *ℤ known_number k None) ms ks qs h.1 g.3)

-- what refutes rows refutes those with the same numbers
pub refutes_same : (n : ℕ) (ks qs : List Known) (ms : List ℤ) → AreSame n ks qs → Refutes n ks ms → Refutes n qs ms
refutes_same n ks qs ms h g = record {
  as_many = g.as_many ∙ sym (same_length n ks qs h);
  none_negative = g.none_negative;
  columns = λ j l. ap (dot ms) (inner_numbers n j ks qs l h) ∙ g.columns j l;
  constant = subst (λ z. pos 0 <ℤ z) (sym (ap (dot ms) (constants n ks qs h))) g.constant;
  columns_held = λ j l. inner_held n j (pos 0) ms ks qs l h (g.columns_held j l);
  constant_held = constant_held n (pos 0) ms ks qs h g.constant_held;
}

-- ---- covers
denied_same : (n : ℕ) (k q : Known) → SameNumbers n k q → SameNumbers n (denied k) (denied q)
denied_same n k q h = record {
  inner = λ j l. ap neg_ℤ (h.inner j l);
  constant = ap (λ z. pos 1 -ℤ z) h.constant;
  inner_held = λ j l g. (h.inner_held j l g.0, subst (λ z. IsHeld (neg_ℤ z)) (sym (h.inner j l)) g.1);
  constant_held = λ g. (h.constant_held g.0, subst (λ z. IsHeld (pos 1 -ℤ z)) (sym h.constant) g.1);
}

pub shown_same : (n : ℕ) (ks qs : List Known) → AreSame n ks qs → (owed wanted : List Known) → AreSame n owed wanted → (lists : List (List ℤ)) → Shown n ks owed lists → Shown n qs wanted lists
shown_same n ks qs same [] [] e [] h = tt
shown_same n ks qs same [] (w ∷ wanted) e lists h = absurd e
shown_same n ks qs same (r ∷ owed) [] e lists h = absurd e
shown_same n ks qs same [] [] e (ms ∷ lists) h = absurd h
shown_same n ks qs same (r ∷ owed) (w ∷ wanted) e [] h = absurd h
shown_same n ks qs same (r ∷ owed) (w ∷ wanted) e (ms ∷ lists) h = (
  refutes_same n (ks ++ denied r ∷ []) (qs ++ denied w ∷ []) ms (same_push n ks qs (denied r) (denied w) same (denied_same n r w e.0)) h.0,
  shown_same n ks qs same owed wanted e.1 lists h.1,
)

at_same : (n : ℕ) (ks qs : List Known) → AreSame n ks qs → (a b : Option (List Known)) → OwedSame n a b → (lists : List (List ℤ)) → ShownAt n ks a lists → ShownAt n qs b lists
at_same n ks qs same None b e lists h = absurd h
at_same n ks qs same (Some xs) None e lists h = absurd e
at_same n ks qs same (Some xs) (Some ys) e lists h = shown_same n ks qs same xs ys e lists h

-- a cover of rows is one of rows with the same numbers, where the same is owed
pub cover_same : (n : ℕ) (owed wanted : ℕ → ℕ → Option (List Known)) → ((k j : ℕ) → OwedSame n (owed k j) (wanted k j)) → (ks qs : List Known) → AreSame n ks qs → (tree : CoverTree) → IsMetCover n owed ks tree → IsMetCover n wanted qs tree
cover_same n owed wanted e ks qs same (Split' r p a q b) h = (
  cover_same n owed wanted e (ks ++ given r ∷ []) (qs ++ given r ∷ []) (same_push n ks qs (given r) (given r) same (same_self n (given r))) a h.0,
  cover_same n owed wanted e (ks ++ denied (given r) ∷ []) (qs ++ denied (given r) ∷ []) (same_push n ks qs (denied (given r)) (denied (given r)) same (same_self n (denied (given r)))) b h.1,
)
cover_same n owed wanted e ks qs same (Empty ms) h = refutes_same n ks qs ms.items same h
cover_same n owed wanted e ks qs same (Into k j lists) h = at_same n ks qs same (owed k j) (wanted k j) (e k j) (map (λ l. l.items) lists.items) h

pub shown_shape : (n : ℕ) (known rows : List Known) (ls : List (List ℤ)) → Shown n known rows ls → (length ls ≡ length rows) × All (λ ms. length ms ≡ length known + 1) ls
shown_shape n known [] [] h = (refl, All-nil (λ ms. length ms ≡ length known + 1))
shown_shape n known [] (m ∷ ms) h = absurd h
shown_shape n known (r ∷ rows) [] h = absurd h
shown_shape n known (r ∷ rows) (m ∷ ms) h =
    let s = shown_shape n known rows ms h.1 in
    (ap suc s.0, All-cons (λ x. length x ≡ length known + 1) m ms (h.0.as_many ∙ length-append known (denied r ∷ [])) s.1)
