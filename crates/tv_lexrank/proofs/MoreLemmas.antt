-- What shows a case shows it under more rows.
use Rattle.std.proofs.Common.{◌≡◌, ℕ, ◌+◌, List, [], ◌∷◌, ◌++◌, length, length-append, map, take, drop, All, Option, None, Some, arith, sym, ap, ◌∙◌, subst, append_assoc, ℤ, Vec}
use Rattle.std.specs.Global.{Global}
use Rattle.std.proofs.lemmas.List.{length-map, length-take-le, take-append-drop}
use Rattle.std.proofs.lemmas.List.Elements.{All-nil, All-cons, All-head, All-tail, All-append, All-take, All-drop}
use Rattle.tv_linear.specs.Arithmetic.{zeros}
use Rattle.tv_linear.specs.Linear.{Linear, IsWithin}
use Rattle.tv_linear.specs.Known.{Known, given, denied, as_given}
use Rattle.tv_linear.specs.Covers.{Shown, ShownAt}
use Rattle.tv_linear.specs.Refutation.{Refutes}
use Rattle.tv_linear.proofs.PlainLists.{zeros-narrow}
use Rattle.tv_linear.proofs.KnownLemmas.{as_given-append}
use Rattle.tv_cases.specs.LinearCases.{LinearCase}
use Rattle.tv_rank.specs.Given.{lists}
use Rattle.tv_lexrank.specs.declared.shown.CaseShown.TheVariants.{Untaken, Falls}
use Rattle.tv_lexrank.specs.declared.falling.Fall.{Fall}
use Rattle.tv_lexrank.specs.Known.{way_rows}
use Rattle.tv_lexrank.specs.Falling.{put_in, AreNarrowLines, AllHeld}
use Rattle.tv_lexrank.specs.Shown.{owed_fall}
use Rattle.tv_lexrank.specs.More.{way_with, IsUnderMore}
use Rattle.tv_lexrank.proofs.PadLemmas.{zeros_keep}

pub given_held : (n : ℕ) (rows : List Linear) → AllHeld n (as_given rows)
given_held n [] = tt
given_held n (r ∷ rows) = ((λ j l. tt), tt, given_held n rows)

put_narrow : (place many : ℕ) (line : List ℤ) → All (IsWithin 62) line → All (IsWithin 62) (put_in place many line)
put_narrow place many line h =
    All-append (IsWithin 62) (take place line) (zeros many ++ drop place line) (All-take (IsWithin 62) place line h)
    (All-append (IsWithin 62) (zeros many) (drop place line) (zeros-narrow many) (All-drop (IsWithin 62) place line h))

puts_narrow : (place many : ℕ) (lines : List (List ℤ)) → AreNarrowLines lines → AreNarrowLines (map (put_in place many) lines)
puts_narrow place many [] h = All-nil (All (IsWithin 62))
puts_narrow place many (l ∷ lines) h =
    All-cons (All (IsWithin 62)) (put_in place many l) (map (put_in place many) lines) (put_narrow place many l (All-head (All (IsWithin 62)) l lines h)) (puts_narrow place many lines (All-tail (All (IsWithin 62)) l lines h))

module _ (v : ℕ) (c : LinearCase) (front more back : List Linear) where
  abbrev n : ℕ
  n = v + c.draws

  abbrev behind : List Known
  behind = as_given back ++ as_given c.guards

  few_rows : way_rows (way_with c (front ++ back)) ≡ as_given front ++ behind
  few_rows = ap (λ ks. ks ++ as_given c.guards) (as_given-append front back) ∙ append_assoc (as_given front) (as_given back) (as_given c.guards)

  all_rows : way_rows (way_with c (front ++ (more ++ back))) ≡ as_given front ++ (as_given more ++ behind)
  all_rows =
      ap (λ ks. ks ++ as_given c.guards) (as_given-append front (more ++ back) ∙ ap (λ ks. as_given front ++ ks) (as_given-append more back))
      ∙ append_assoc (as_given front) (as_given more ++ as_given back) (as_given c.guards)
      ∙ ap (λ ks. as_given front ++ ks) (append_assoc (as_given more) (as_given back) (as_given c.guards))

  -- a list that refutes rows that begin with `front` refutes them with `more` after `front`, once zeros are put in
  put_refutes : (place many : ℕ) (ys : List Known) (ms : List ℤ) → length front ≡ place → length more ≡ many → Refutes n (as_given front ++ ys) ms → Refutes n (as_given front ++ (as_given more ++ ys)) (put_in place many ms)
  put_refutes place many ys ms e f h =
      let a = h.as_many in
      let b = length-append (as_given front) ys in
      let d = length-map front (λ r. given r) in
      let g = length-map more (λ r. given r) in
      let l = length-take-le place ms (omega (arith, a, b, d, e)) in
      subst (λ k. Refutes n (as_given front ++ (as_given more ++ ys)) (take place ms ++ (zeros k ++ drop place ms))) (g ∙ f)
      (zeros_keep n (as_given front) (as_given more) ys (take place ms) (drop place ms) (l ∙ sym (d ∙ e)) (given_held n more)
      (subst (λ z. Refutes n (as_given front ++ ys) z) (sym (take-append-drop place ms)) h))

  way_refutes : (place many : ℕ) (tail : List Known) (ms : List ℤ) → length front ≡ place → length more ≡ many → Refutes n (way_rows (way_with c (front ++ back)) ++ tail) ms → Refutes n (way_rows (way_with c (front ++ (more ++ back))) ++ tail) (put_in place many ms)
  way_refutes place many tail ms e f h =
      subst (λ ks. Refutes n ks (put_in place many ms)) (sym (ap (λ ks. ks ++ tail) all_rows ∙ append_assoc (as_given front) (as_given more ++ behind) tail ∙ ap (λ ks. as_given front ++ ks) (append_assoc (as_given more) behind tail)))
      (put_refutes place many (behind ++ tail) ms e f (subst (λ ks. Refutes n ks ms) (ap (λ ks. ks ++ tail) few_rows ∙ append_assoc (as_given front) behind tail) h))

  way_shown : (place many : ℕ) (falls : List Known) (lines : List (List ℤ)) → length front ≡ place → length more ≡ many → Shown n (way_rows (way_with c (front ++ back))) falls lines → Shown n (way_rows (way_with c (front ++ (more ++ back)))) falls (map (put_in place many) lines)
  way_shown place many [] [] e f h = tt
  way_shown place many [] (l ∷ lines) e f h = absurd h
  way_shown place many (r ∷ falls) [] e f h = absurd h
  way_shown place many (r ∷ falls) (l ∷ lines) e f h = (way_refutes place many (denied r ∷ []) l e f h.0, way_shown place many falls lines e f h.1)

  way_shown_at : (place many : ℕ) (o : Option (List Known)) (lines : List (List ℤ)) → length front ≡ place → length more ≡ many → ShownAt n (way_rows (way_with c (front ++ back))) o lines → ShownAt n (way_rows (way_with c (front ++ (more ++ back)))) o (map (put_in place many) lines)
  way_shown_at place many None lines e f h = absurd h
  way_shown_at place many (Some falls) lines e f h = way_shown place many falls lines e f h

pub untaken_more : (place many : ℕ) (old new : Vec ℤ Global) → new.items ≡ put_in place many old.items → IsUnderMore place many (Untaken old) (Untaken new)
untaken_more place many old new same = λ v c front more back before after e f h. record {
  refutes = subst (λ ks. Refutes (v + c.draws) ks new.items) (sym (all_rows v c front more back))
      (subst (Refutes (v + c.draws) (as_given front ++ (as_given more ++ behind v c front more back))) (sym same)
      (put_refutes v c front more back place many (behind v c front more back) old.items e f
      (subst (λ ks. Refutes (v + c.draws) ks old.items) (few_rows v c front more back) h.refutes)));
  narrow = subst (All (IsWithin 62)) (sym same) (put_narrow place many old.items h.narrow);
}

pub falls_more : (place many : ℕ) (old new : Fall) → new.number ≡ old.number → lists new.lines.items ≡ map (put_in place many) (lists old.lines.items) → IsUnderMore place many (Falls old) (Falls new)
falls_more place many old new number same = λ v c front more back before after e f h.
    let w = way_with c (front ++ (more ++ back)) in
    record {
      shown = subst (λ j. ShownAt (v + c.draws) (way_rows w) (owed_fall v w before after j) (lists new.lines.items)) (sym number)
          (subst (ShownAt (v + c.draws) (way_rows w) (owed_fall v w before after old.number)) (sym same)
          (way_shown_at v c front more back place many (owed_fall v w before after old.number) (lists old.lines.items) e f h.shown));
      narrow = subst AreNarrowLines (sym same) (puts_narrow place many (lists old.lines.items) h.narrow);
    }
