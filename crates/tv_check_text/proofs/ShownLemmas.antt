-- Rows that are shown one after another, each by a line that is read.
use Rattle.std.proofs.Common.{◌≡◌, ◌↔◌, ℕ, zero, suc, ◌+◌, ◌<◌, ◌≤◌, ℤ, Bool, true, false, IsTrue, List, [], ◌∷◌, ◌++◌, length, take, slice_get, Some, refl, sym, ap, ◌∙◌, subst, arith}
use Rattle.std.specs.Global.{Vec}
use Rattle.std.proofs.lemmas.List.{length-map, length-take-le, map-append, take_all}
use Rattle.tv_linear.specs.Known.{Known, denied}
use Rattle.tv_linear.specs.Covers.{Shown}
use Rattle.tv_linear.specs.Refutation.{Refutes}
use Rattle.tv_refute.proofs.ShownLemmas.{shown_join}
use Rattle.tv_cert_reader.specs.LineGrammar.{many, by}
use Rattle.tv_cert_reader.specs.declared.cursor.Cursor.{Cursor}
use Rattle.tv_cert_reader.specs.declared.failure.Failure.{Failure}
use Rattle.tv_cert_reader.specs.Reading.{Takes, FailsBy}
use Rattle.tv_cert_reader.specs.Parts.{AreNumbers}
use Rattle.tv_cert_reader.proofs.PartLemmas.{AreListed, by_line, lists_fail, lists_end}
use Rattle.tv_cert_reader.proofs.ReadingLemmas.{Gathered, gathered_next}
use Rattle.tv_check_text.specs.Checking.{numbers_in, CheckedLists}
use Rattle.tv_cert.specs.Entering.{ShowsRow}

-- what is told of two
pub joined_true : (a b both : Bool) → a ≡ true → both ≡ b → IsTrue both ↔ (IsTrue a × IsTrue b)
joined_true a b both e is = (λ t. (e, sym is ∙ t), λ h. is ∙ h.1)

pub joined_false : (a b both : Bool) → a ≡ false → both ≡ a → IsTrue both ↔ (IsTrue a × IsTrue b)
joined_false a b both e is = (λ t. absurd (let x : ⊥ = cc in x), λ h. let t = h.0 in absurd (let x : ⊥ = cc in x))

-- the first rows, one more each time
pub take_next : {A : Type 0} (xs : List A) (i : ℕ) (x : A) → slice_get xs i ≡ Some x → take (suc i) xs ≡ take i xs ++ x ∷ []
take_next [] i x e = absurd (let h : ⊥ = cc in h)
take_next (y ∷ xs) zero x e = (let h : y ≡ x = cc in ap (λ z. z ∷ []) h)
take_next (y ∷ xs) (suc i) x e = ap (λ zs. y ∷ zs) (take_next xs i x e)

abbrev got : {A : Type 0} (xs : List A) (i : ℕ) → i < length xs → (x : A) × (slice_get xs i ≡ Some x)
got [] i h = absurd (omega (arith, h))
got (x ∷ xs) zero h = (x, refl)
got (x ∷ xs) (suc i) h = got xs i (omega (arith, h))

module _ (n : ℕ) (known rows : List Known) (old : Cursor) where
  -- lines were read for the first `i` rows, and `met` says whether they show them
  pub record ShownFirst (i : ℕ) (now : Cursor) (met : Bool) : Type 0 where
    pub lists : List (Vec ℤ)
    pub gathered : Gathered (AreListed (length known + 1)) by_line old i now lists
    pub told : IsTrue met ↔ Shown n known (take i rows) (numbers_in lists)
    pub within : i ≤ length rows

  module _ (i : ℕ) (now : Cursor) (met : Bool) (h : ShownFirst i now met) where
    pub lines_fail : (f : Failure) → i < length rows → FailsBy (by (length known + 1)) now f → FailsBy (many (length rows) (by (length known + 1))) old f
    lines_fail f bounded k = lists_fail (length known + 1) (length rows) i old now h.lists f h.gathered bounded k

    pub lines_end : length rows ≤ i → CheckedLists n known rows old now met
    lines_end past =
        let w = h.within in
        let e : i ≡ length rows = omega (arith, w, past) in
        let r = lists_end (length known + 1) (length rows) i old now h.lists h.gathered e in
        record { lists = h.lists; many = r.0; took = r.1; told = subst (λ rs. IsTrue met ↔ Shown n known rs (numbers_in h.lists)) (take_all i rows past) h.told }

    module _ (new : Cursor) (ms : Vec ℤ) (line : AreNumbers (length known + 1) ms.items) (took : Takes (by_line ms) now new) (below : i < length rows) (shown : Bool) (shows : ShowsRow n known rows i ms.items shown) (both : Bool) (is : IsTrue both ↔ (IsTrue met × IsTrue shown)) where
      abbrev row : Known
      row = (got rows i below).0

      next_rows : take (i + 1) rows ≡ take i rows ++ row ∷ []
      next_rows = (let e : i + 1 ≡ suc i = omega arith in ap (λ k. take k rows) e) ∙ take_next rows i row (got rows i below).1

      next_lists : numbers_in (h.lists ++ ms ∷ []) ≡ numbers_in h.lists ++ ms.items ∷ []
      next_lists = map-append (λ v. v.items) h.lists (ms ∷ [])

      as_many : length (take i rows) ≡ length (numbers_in h.lists)
      as_many = length-take-le i rows (omega (arith, below)) ∙ sym (length-map h.lists (λ (v : Vec ℤ). v.items) ∙ h.gathered.many)

      joined : Shown n known (take (i + 1) rows) (numbers_in (h.lists ++ ms ∷ [])) ↔ (Shown n known (take i rows) (numbers_in h.lists) × Shown n known (row ∷ []) (ms.items ∷ []))
      joined = subst (λ (x : Type 0). x ↔ (Shown n known (take i rows) (numbers_in h.lists) × Shown n known (row ∷ []) (ms.items ∷ []))) (λ k. Shown n known (sym next_rows k) (sym next_lists k)) (shown_join n known (take i rows) (row ∷ []) (numbers_in h.lists) (ms.items ∷ []) as_many)

      one : IsTrue shown ↔ Refutes n (known ++ denied row ∷ []) ms.items
      one = shows row (got rows i below).1

      pub shown_next : ShownFirst (i + 1) new both
      shown_next = record {
        lists = h.lists ++ ms ∷ [];
        gathered = gathered_next (AreListed (length known + 1)) by_line old i now new h.lists (h.lists ++ ms ∷ []) ms h.gathered line took refl;
        told = (λ t. joined.1 (h.told.0 (is.0 t).0, (one.0 (is.0 t).1, tt)), λ k. is.1 (h.told.1 (joined.0 k).0, one.1 (joined.0 k).1.0));
        within = omega (arith, below);
      }
