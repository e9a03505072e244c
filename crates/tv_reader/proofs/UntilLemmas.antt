-- Turns up to a token that ends them: they are read exactly, and ask less where what stands in them asks less.
use Rattle.std.proofs.Common.{◌≡◌, ℕ, zero, suc, ◌<◌, ◌≤◌, Bool, true, false, List, [], ◌∷◌, length, Result, Ok, Err, refl, ap, subst, arith}
use Rattle.tv_grammar.specs.Reads.{Fault, faulty, ◌>>=◌, next}
use Rattle.tv_grammar.specs.Langs.{stop, go, branch_read, is_go, headed_read, goes_at}
use Rattle.tv_grammar.specs.Exact.{Exact, ExactBranch}
use Rattle.tv_grammar.specs.Faults.{Below, AfterFault, Follows, Loosens, LoosensBranch}
use Rattle.tv_grammar.proofs.TurningLemmas.{shrinks, loop_ends, loop_goes, loop_fails}
use Rattle.tv_grammar.proofs.LooseLemmas.{reach, headed_loose}
use Rattle.tv_reading.specs.Marks.{Kind, Syntax, Mark}
use Rattle.tv_reading.specs.SumGrammar.{Grammar, Behind}
use Rattle.tv_reader.specs.ProgramGrammar.{until}

abbrev Out : Type 0 → Type 0
Out X = Result (X × List Mark) (Fault Mark Kind)

module _ {S X : Type 0} (cases : S → Mark → Behind S) (last : S → Mark → Behind X) (h : (s : S) (m : Mark) → ExactBranch (cases s m)) where
  -- a turn begins here
  pub until_turn : (s : S) (m : Mark) (ms : List Mark) → is_go (cases s m) ≡ true → (until cases last s).read (m ∷ ms) ≡ (branch_read (cases s m) (m ∷ ms) ms >>= λ x. (until cases last x.0).read x.1)
  until_turn s m ms n = by (branch_read (cases s m) (m ∷ ms) ms) refl
    where
      by : (r : Out S) → branch_read (cases s m) (m ∷ ms) ms ≡ r → (until cases last s).read (m ∷ ms) ≡ (r >>= λ x. (until cases last x.0).read x.1)
      by (Ok (x, r)) e = ap (λ (o : Out S). o >>= λ x. headed_read Syntax (last x.0) x.1) (loop_goes cases h Syntax s (m ∷ ms) x r n e)
      by (Err d) e = ap (λ (o : Out S). o >>= λ x. headed_read Syntax (last x.0) x.1) (loop_fails cases h Syntax s (m ∷ ms) d n e)

  -- none begins here
  pub until_last : (s : S) (ms : List Mark) → goes_at (cases s) (next ms) ≡ false → (until cases last s).read ms ≡ headed_read Syntax (last s) ms
  until_last s ms n = ap (λ (o : Out S). o >>= λ x. headed_read Syntax (last x.0) x.1) (loop_ends cases h s ms n)

-- what stands at a token in the two grammars, as a turn or as what ends the turns
abbrev pub LoosensStep : {S X : Type 0} → (Kind → Bool) → Behind S → Behind X → Behind S → Behind X → Type 0
LoosensStep kept (stop k) e (stop j) f = LoosensBranch kept e f
LoosensStep kept (stop k) (stop i) (go m) f = (kept i ≡ false) × Exact m
LoosensStep kept (stop k) (go l) (go m) f = ⊥
LoosensStep kept (go l) e (stop j) f = ⊥
LoosensStep kept (go l) e (go m) f = Loosens kept l m × Exact m

below_more : {X : Type 0} (m n : ℕ) → m ≤ n → (r : Out X) → Below m r → Below n r
below_more m n le (Ok x) h = omega arith
below_more m n le (Err (faulty k s)) h = omega arith

module _ {S X : Type 0} (kept : Kind → Bool) (syntax : kept Syntax ≡ true) (cases looser : S → Mark → Behind S) (last later : S → Mark → Behind X) (exact : (s : S) (m : Mark) → ExactBranch (cases s m)) (looser_exact : (s : S) (m : Mark) → ExactBranch (looser s m)) (whole : (s : S) → Exact (until looser later s)) (h : (s : S) (m : Mark) → LoosensStep kept (cases s m) (last s m) (looser s m) (later s m)) where
  below_bind : (n : ℕ) (r : Out S) → Below n r → Below n (r >>= λ x. (until looser later x.0).read x.1)
  below_bind n (Ok x) b = below_more (suc (length x.1)) n (omega arith) ((until looser later x.0).read x.1) (reach (until looser later x.0) (whole x.0) x.1)
  below_bind n (Err (faulty k s)) b = b

  after_bind : (b : Bool) (k : Kind) (r : List Mark) (out : Out S) → AfterFault b k r out → AfterFault b k r (out >>= λ x. (until looser later x.0).read x.1)
  after_bind true k r out w = rw w refl
  after_bind false k r out w = below_bind (length r) out w

  turned : (l m : Grammar S) → Loosens kept l m → Exact m → (ms : List Mark) → ((x : S) (r : List Mark) → length r ≤ length ms → Follows kept ((until cases last x).read r) ((until looser later x).read r)) → (out : Out S) → l.read ms ≡ out → Follows kept (out >>= λ x. (until cases last x.0).read x.1) (m.read ms >>= λ x. (until looser later x.0).read x.1)
  turned l m w e ms again (Ok (x, r)) is =
      let same : m.read ms ≡ Ok (x, r) = subst (λ (o : Out S). Follows kept o (m.read ms)) is (w.at ms) in
      rw same (again x r (shrinks m e ms x r same))
  turned l m w e ms again (Err (faulty k r)) is = after_bind (kept k) k r (m.read ms) (subst (λ (o : Out S). Follows kept o (m.read ms)) is (w.at ms))

  step : (b : Behind S) (e : Behind X) (c : Behind S) (f : Behind X) → LoosensStep kept b e c f → (m : Mark) (ms : List Mark) (u v : Out X) → (is_go b ≡ true → u ≡ (branch_read b (m ∷ ms) ms >>= λ x. (until cases last x.0).read x.1)) → (is_go b ≡ false → u ≡ branch_read e (m ∷ ms) ms) → (is_go c ≡ true → v ≡ (branch_read c (m ∷ ms) ms >>= λ x. (until looser later x.0).read x.1)) → (is_go c ≡ false → v ≡ branch_read f (m ∷ ms) ms) → ((x : S) (r : List Mark) → length r ≤ length ms → Follows kept ((until cases last x).read r) ((until looser later x).read r)) → Follows kept u v
  step (stop k) e (stop j) f w m ms u v ug us vg vs again =
      let at : Follows kept (branch_read e (m ∷ ms) ms) (branch_read f (m ∷ ms) ms) = (headed_loose kept Syntax (λ t. e) (λ t. f) syntax (λ t. w)).at (m ∷ ms) in
      rw (us refl, vs refl) at
  step (stop k) (stop i) (go l) f w m ms u v ug us vg vs again =
      let past : Below (length (m ∷ ms)) (l.read ms >>= λ x. (until looser later x.0).read x.1) = below_bind (length (m ∷ ms)) (l.read ms) (below_more (suc (length ms)) (length (m ∷ ms)) (omega arith) (l.read ms) (reach l w.1 ms)) in
      let out : AfterFault {X = X} (kept i) i (m ∷ ms) (l.read ms >>= λ x. (until looser later x.0).read x.1) = rw w.0 past in
      rw (us refl, vg refl) out
  step (stop k) (go l) (go n) f w m ms u v ug us vg vs again = absurd w
  step (go l) e (stop j) f w m ms u v ug us vg vs again = absurd w
  step (go l) e (go n) f w m ms u v ug us vg vs again = rw (ug refl, vg refl) (turned l n w.0 w.1 ms again (l.read ms) refl)

  follow : (n : ℕ) (s : S) (ms : List Mark) → length ms < n → Follows kept ((until cases last s).read ms) ((until looser later s).read ms)
  follow zero s ms lt = absurd (omega arith)
  follow (suc n) s [] lt = rw (until_last cases last exact s [] refl, until_last looser later looser_exact s [] refl) (rw syntax refl)
  follow (suc n) s (m ∷ ms) lt = step (cases s m) (last s m) (looser s m) (later s m) (h s m) m ms ((until cases last s).read (m ∷ ms)) ((until looser later s).read (m ∷ ms)) (λ e. until_turn cases last exact s m ms e) (λ e. until_last cases last exact s (m ∷ ms) e) (λ e. until_turn looser later looser_exact s m ms e) (λ e. until_last looser later looser_exact s (m ∷ ms) e) (λ x r le. follow n x r (omega arith))

  pub until_loose : (s : S) → Loosens kept (until cases last s) (until looser later s)
  until_loose s = record { at = λ ms. follow (suc (length ms)) s ms (omega arith) }
