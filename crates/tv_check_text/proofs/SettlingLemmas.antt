-- The first obligation that is not met, over one part after another.
use Rattle.std.proofs.Common.{◌≡◌, ◌↔◌, ℕ, ◌+◌, Bool, true, false, IsTrue, List, [], ◌∷◌, ◌++◌, length, Option, None, Some, refl, sym, subst, arith}
use Rattle.tv_cert.specs.Obligations.{Entry, IsMetEntry}
use Rattle.tv_cert.specs.declared.failing.Failing.{Failing}
use Rattle.tv_cert.proofs.FailingLemmas.{all_join, failing_left, failing_right}
use Rattle.tv_cert_reader.specs.Walks.{Through, at_end, further}
use Rattle.tv_check_text.specs.declared.checker.Checker.{Checker}
use Rattle.tv_check_text.specs.Settling.{Settles, first_failing, ChecksEntry}

pub settles_none : (from : ℕ) (x : Option Failing) → Settles from x [] x
settles_none from (Some f) = refl
settles_none from None = tt

pub settles_both : (from seen : ℕ) (x y z : Option Failing) (es fs : List Entry) → seen ≡ from + length es → Settles from x es y → Settles seen y fs z → Settles from x (es ++ fs) z
settles_both from seen (Some f) y z es fs e h k = subst (λ o. Settles seen o fs z) h k
settles_both from seen None None None es fs e h k = all_join es fs h k
settles_both from seen None None (Some g) es fs e h k = failing_right es fs from seen g h e k
settles_both from seen None (Some f) z es fs e h k = subst (λ o. Settles from None (es ++ fs) o) (sym k) (failing_left es fs from f h)

-- one more obligation
pub settles_one : (from : ℕ) (x : Option Failing) (e : Entry) (met : Bool) → (IsTrue met ↔ IsMetEntry e) → Settles from x (e ∷ []) (first_failing x met (record { number = from + 1; node = e.obligation.node; kind = e.obligation.kind }))
settles_one from (Some g) e met told = refl
settles_one from None e true told = (told.0 refl, tt)
settles_one from None e false told = record { before = []; failing = e; after = []; parts = refl; met = tt; fails = λ m. never (told.1 m); number = omega arith; node = refl; kind = refl }
  where
    never : ◌≡◌ {A = Bool} false true → ⊥
    never h = cc

-- one after another
pub all_settled : (es : List Entry) (v w : Checker) → Through ChecksEntry v es w → (w.seen ≡ v.seen + length es) × Settles v.seen v.failing es w.failing
all_settled [] v w at_end = (omega arith, settles_none v.seen v.failing)
all_settled (e ∷ es) v w (further {v = t} h rest) =
    let later = all_settled es t w rest in (
      (let a = h.seen in let b = later.0 in omega (arith, a, b)),
      settles_both v.seen t.seen v.failing t.failing w.failing (e ∷ []) es h.seen h.settles later.1,
    )
