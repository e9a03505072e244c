use Rattle.std.proofs.Common.{◌≡◌, ℕ, zero, suc, ◌+◌, ◌-◌, ◌<◌, ◌≤◌, Bool, true, false, List, [], ◌∷◌, ◌++◌, length, take, drop, get_or, Some, None, refl, ap, sym, ◌∙◌, arith}
use Rattle.std.specs.Prelude.{◌==◌, if◌then◌else◌, cond, nat_lt, not}
use Rattle.std.specs.List.{position, position_or_len}
use Rattle.std.proofs.lemmas.List.{take_more, length-take-le}
use Rattle.std.proofs.lemmas.Bool.Decides.{nat_tests}
use Rattle.std.proofs.Math.Seq.{take-length}
use Rattle.tv_language.specs.Fronts.{end_by, end_of_last}

end_by-suc : (b : Bool) (n : ℕ) → 0 < n → end_by b n ≡ suc n
end_by-suc b zero h = absurd (omega arith)
end_by-suc b (suc n) h = refl

end_by-less : (b : Bool) (n k : ℕ) → end_by b n - suc k ≡ n - k
end_by-less true zero k = omega arith
end_by-less false zero k = omega arith
end_by-less b (suc n) k = omega arith

-- the last such byte of what is left
pub end_of_last-drop : (close n : ℕ) (text : List ℕ) → end_of_last close (drop n text) ≡ end_of_last close text - n
end_of_last-drop close zero text = omega arith
end_of_last-drop close (suc n) [] = omega arith
end_of_last-drop close (suc n) (b ∷ bs) = end_of_last-drop close n bs ∙ sym (end_by-less (b == close) (end_of_last close bs) n)

pushed : (t u : Bool) (len e : ℕ) → end_by t (if u then len + 1 else e) ≡ (if u then suc len + 1 else end_by t e)
pushed t true len e = end_by-suc t (len + 1) (omega arith) ∙ omega arith
pushed t false len e = refl

pub end_of_last-append : (close b : ℕ) (bs : List ℕ) → end_of_last close (bs ++ b ∷ []) ≡ (if b == close then length bs + 1 else end_of_last close bs)
end_of_last-append close b [] = refl
end_of_last-append close b (x ∷ bs) = ap (end_by (x == close)) (end_of_last-append close b bs) ∙ pushed (x == close) (b == close) (length bs) (end_of_last close bs)

none_here : (t : Bool) (n m k : ℕ) → end_by t n ≡ 0 → (n ≡ 0 → m ≡ k) → cond (not t) (1 + m) 0 ≡ suc k
none_here true zero m k h f = absurd (omega arith)
none_here true (suc n) m k h f = absurd (omega arith)
none_here false zero m k h f = omega (arith, f refl)
none_here false (suc n) m k h f = absurd (omega arith)

none_at_all : (close : ℕ) (bs : List ℕ) → end_of_last close bs ≡ 0 → position_or_len (λ b. b == close) bs ≡ length bs
none_at_all close [] h = refl
none_at_all close (b ∷ bs) h = none_here (b == close) (end_of_last close bs) (position_or_len (λ x. x == close) bs) (length bs) h (none_at_all close bs)

no_place : (n : ℕ) → cond (nat_lt n n) (Some n) None ≡ None
no_place n = grind (arith, nat_tests)

-- where no such byte is the last, there is none
pub position-none : (close : ℕ) (bs : List ℕ) → end_of_last close bs ≡ 0 → position (λ b. b == close) bs ≡ None
position-none close bs h = rw (none_at_all close bs h) (no_place (length bs))

-- one more byte
pub end_of_last-take : (close place end : ℕ) (text : List ℕ) → place < length text → end ≡ end_of_last close (take place text) → (if get_or text place 0 == close then place + 1 else end) ≡ end_of_last close (take (place + 1) text)
end_of_last-take close place end text inside so_far =
    rw (take_more text place 0 inside, end_of_last-append close (get_or text place 0) (take place text), length-take-le place text (omega arith), so_far) refl

-- told by the last byte
pub end_of_last-last : (close : ℕ) (bs : List ℕ) → 1 ≤ length bs → end_of_last close bs ≡ (if get_or bs (length bs - 1) 0 == close then length bs else end_of_last close (take (length bs - 1) bs))
end_of_last-last close bs some =
    let whole : length bs - 1 + 1 ≡ length bs = omega arith in
    let told : (if get_or bs (length bs - 1) 0 == close then length bs - 1 + 1 else end_of_last close (take (length bs - 1) bs)) ≡ end_of_last close (take (length bs - 1 + 1) bs) = end_of_last-take close (length bs - 1) (end_of_last close (take (length bs - 1) bs)) bs (omega arith) refl in
    sym (ap (end_of_last close) (take-length bs))
    ∙ ap (λ (n : ℕ). end_of_last close (take n bs)) (sym whole)
    ∙ sym told
    ∙ ap (λ (n : ℕ). if get_or bs (length bs - 1) 0 == close then n else end_of_last close (take (length bs - 1) bs)) whole
