-- Programs that are made.
use Rattle.std.proofs.Common.{ℕ, zero, suc, ◌+◌, ◌*◌, ◌<◌, ◌≤◌, List, [], ◌∷◌, ◌++◌, length, arith, length-append, codes, decimal}
use Rattle.std.proofs.lemmas.Fmt.{length-decimal-le}
use Rattle.tv_top.specs.Generated.{from_line, to_line, step_lines, way_lines, loop_lines, loops_lines, generated_text}

-- ---- lengths

few_digits : (n : ℕ) → n ≤ 1000 → length (decimal n) ≤ 4
few_digits n h = length-decimal-le 4 n (omega arith) (omega (arith, h)) (omega (arith, h))

from_length : (n : ℕ) (behind : List ℕ) → n ≤ 1000 → length (from_line n behind) ≤ 12 + length behind
from_length n behind h =
    let d = few_digits n h in
    let a = length-append (decimal n) (codes ";" ++ 10 ∷ behind) in
    omega (arith, d, a)

to_length : (n : ℕ) → n ≤ 1000 → length (to_line n) ≤ 10
to_length n h =
    let d = few_digits n h in
    let a = length-append (decimal n) (codes ";" ++ 10 ∷ []) in
    omega (arith, d, a)

step_length : (n : ℕ) → n ≤ 1000 → length (step_lines n) ≤ 60
step_length n h =
    let t = to_length n h in
    let f = from_length n (codes "assume(a > 0);" ++ 10 ∷ (codes "a := a - 1;" ++ 10 ∷ to_line n)) h in
    omega (arith, t, f)

way_length : (n : ℕ) → n < 1000 → length (way_lines n) ≤ 60
way_length n h =
    let t = to_length (n + 1) (omega (arith, h)) in
    let f = from_length n (codes "assume(a <= 0);" ++ 10 ∷ (codes "a := nondet();" ++ 10 ∷ to_line (n + 1))) (omega (arith, h)) in
    omega (arith, t, f)

loop_length : (n : ℕ) → n < 1000 → length (loop_lines n) ≤ 120
loop_length n h =
    let s = step_length n (omega (arith, h)) in
    let w = way_length n h in
    let a = length-append (step_lines n) (way_lines n) in
    omega (arith, s, w, a)

loops_length : (n : ℕ) → n ≤ 1000 → length (loops_lines n) ≤ n * 120
loops_length zero h = omega arith
loops_length (suc n) h =
    let l = loops_length n (omega (arith, h)) in
    let m = loop_length n (omega (arith, h)) in
    let a = length-append (loops_lines n) (loop_lines n) in
    omega (arith, l, m, a)

pub short_text : (n m : ℕ) → n ≤ 1000 → m ≤ n → n ≤ m → length (generated_text m) ≤ 1048576
short_text n m h below above = (let l = loops_length m (omega (arith, h, below)) in omega (arith, h, below, l))
