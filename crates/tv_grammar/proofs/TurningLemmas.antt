-- One turn of a loop.
use Rattle.std.proofs.Common.{◌≡◌, ℕ, zero, suc, ◌<◌, ◌≤◌, true, false, List, [], ◌∷◌, length, Result, Ok, Err, refl, ap, ◌∙◌, length-append, arith}
use Rattle.tv_grammar.specs.Reads.{Fault, Read, ◌>>=◌, next}
use Rattle.tv_grammar.specs.Langs.{Lang, Branch, stop, go, branch_read, is_go, headed_read, goes_at, turn_read, turns_read, turns}
use Rattle.tv_grammar.specs.Exact.{Exact, ExactBranch}
use Rattle.tv_grammar.proofs.ExactLemmas.{apart}

-- what a reader leaves is no longer
pub shrinks : {T K X : Type 0} (l : Lang T K X) → Exact l → (ts : List T) (x : X) (r : List T) → l.read ts ≡ Ok (x, r) → length r ≤ length ts
shrinks l h ts x r e = let f = h.found ts x r e in omega (arith, ap length f.text, ap length (apart l h f.it r), length-append (l.text f.it []) r)

abbrev LoopsAlike : {T K S : Type 0} → (S → Read T K S) → (S → Read T K S) → List T → Type 0
LoopsAlike {T} {K} {S} a b ts = (s : S) (us : List T) → length us < length ts → a s us ≡ b s us

same_turn : {T K S : Type 0} (b : Branch T K S) → ExactBranch b → (p q : S → Read T K S) (s : S) (t : T) (us : List T) → LoopsAlike p q (t ∷ us) → turn_read b p s (t ∷ us) us ≡ turn_read b q s (t ∷ us) us
same_turn (stop k) h p q s t us w = refl
same_turn {T} {K} {S} (go l) h p q s t us w = go_on (l.read us) refl
  where
    go_on : (r : Result (S × List T) (Fault T K)) → l.read us ≡ r → (r >>= λ x. p x.0 x.1) ≡ (r >>= λ x. q x.0 x.1)
    go_on (Ok x) e = w x.0 x.1 (omega (arith, shrinks l h us x.0 x.1 e))
    go_on (Err d) e = refl

turn_by : {T K S : Type 0} (b : Branch T K S) → is_go b ≡ true → (again : S → Read T K S) (s : S) (here us : List T) → turn_read b again s here us ≡ (branch_read b here us >>= λ x. again x.0 x.1)
turn_by (stop k) n again s here us = absurd cc
turn_by (go l) n again s here us = refl

turn_end : {T K S : Type 0} (b : Branch T K S) → is_go b ≡ false → (again : S → Read T K S) (s : S) (here us : List T) → turn_read b again s here us ≡ Ok (s, here)
turn_end (stop k) n again s here us = refl
turn_end (go l) n again s here us = absurd cc

branch_shrinks : {T K S : Type 0} (b : Branch T K S) → ExactBranch b → (t : T) (us : List T) (x : S) (r : List T) → branch_read b (t ∷ us) us ≡ Ok (x, r) → length r < length (t ∷ us)
branch_shrinks (stop k) w t us x r e = absurd cc
branch_shrinks (go l) w t us x r e = omega (arith, shrinks l w us x r e)

module _ {T K S : Type 0} (cases : S → T → Branch T K S) (h : (s : S) (t : T) → ExactBranch (cases s t)) where
  enough : (a b : ℕ) (s : S) (ts : List T) → length ts < a → length ts < b → turns_read cases a s ts ≡ turns_read cases b s ts
  unfolding turns_read
  enough zero b s ts la lb = absurd (omega arith)
  enough (suc a) zero s ts la lb = absurd (omega arith)
  enough (suc a) (suc b) s [] la lb = refl
  enough (suc a) (suc b) s (t ∷ us) la lb = same_turn (cases s t) (h s t) (turns_read cases a) (turns_read cases b) s t us (λ v vs lt. enough a b v vs (omega arith) (omega arith))

  once : (s : S) (t : T) (us : List T) → turns_read cases (suc (length (t ∷ us))) s (t ∷ us) ≡ turn_read (cases s t) (turns_read cases (length (t ∷ us))) s (t ∷ us) us
  unfolding turns_read
  once s t us = refl

  -- no turn begins here
  pub loop_ends : (s : S) (ts : List T) → goes_at (cases s) (next ts) ≡ false → (turns cases s).read ts ≡ Ok (s, ts)
  unfolding turns_read
  loop_ends s [] n = refl
  loop_ends s (t ∷ us) n = once s t us ∙ turn_end (cases s t) n (turns_read cases (length (t ∷ us))) s (t ∷ us) us

  -- a turn begins here, and is at fault
  pub loop_fails : (missing : K) (s : S) (ts : List T) (d : Fault T K) → goes_at (cases s) (next ts) ≡ true → headed_read missing (cases s) ts ≡ Err d → (turns cases s).read ts ≡ Err d
  loop_fails missing s [] d n e = absurd cc
  loop_fails missing s (t ∷ us) d n e = once s t us ∙ turn_by (cases s t) n (turns_read cases (length (t ∷ us))) s (t ∷ us) us ∙ rw e refl

  pub turn_shrinks : (missing : K) (s : S) (ts : List T) (x : S) (r : List T) → headed_read missing (cases s) ts ≡ Ok (x, r) → length r < length ts
  turn_shrinks missing s [] x r e = absurd cc
  turn_shrinks missing s (t ∷ us) x r e = branch_shrinks (cases s t) (h s t) t us x r e

  -- a turn begins here and is read: the loop goes on from there
  pub loop_goes : (missing : K) (s : S) (ts : List T) (x : S) (r : List T) → goes_at (cases s) (next ts) ≡ true → headed_read missing (cases s) ts ≡ Ok (x, r) → (turns cases s).read ts ≡ (turns cases x).read r
  loop_goes missing s [] x r n e = absurd cc
  loop_goes missing s (t ∷ us) x r n e =
      let lt = branch_shrinks (cases s t) (h s t) t us x r e in
      once s t us ∙ turn_by (cases s t) n (turns_read cases (length (t ∷ us))) s (t ∷ us) us ∙ rw e (enough (length (t ∷ us)) (suc (length r)) x r (omega arith) (omega arith))
