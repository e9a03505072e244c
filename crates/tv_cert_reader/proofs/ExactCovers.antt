-- Covers and choices are read exactly.
use Rattle.std.proofs.Common.{◌≡◌, ℕ, zero, suc, ◌+◌, Bool, true, false, length, Option, Some, None}
use Rattle.std.specs.Prelude.{slice_get, ◌==◌}
use Rattle.tv_grammar.specs.Langs.{stop, go, OfBranch, headed, each}
use Rattle.tv_grammar.specs.Exact.{Exact, ExactBranch}
use Rattle.tv_grammar.proofs.ExactLemmas.{unit_exact, then_exact, mapped_exact, headed_exact, each_exact}
use Rattle.tv_lines.specs.Lines.{PlainLine, formed, formless, wide}
use Rattle.tv_lines.specs.declared.head.Head.TheVariants as heads
use Rattle.tv_linear.specs.Arithmetic.{zeros}
use Rattle.tv_cases.specs.LinearCases.{LinearCase, leaving}
use Rattle.tv_cert_reader.specs.declared.kind.LineKind.TheVariants.{Syntax}
use Rattle.tv_cert_reader.specs.Demands.{Demand, a_cover, a_choice, no_counts}
use Rattle.tv_cert_reader.specs.LineGrammar.{Grammar, Behind, by, draw, with_two, with_three}
use Rattle.tv_cert_reader.specs.CoverGrammar.{lists_behind, empty_behind, sides_behind, cover_cases, too_deep, both, cover}
use Rattle.tv_cert_reader.specs.ChoiceGrammar.{Choosing, stop_cover, no_step, no_step_behind, Taken, taken_case, take_behind, choice_cases, choice, demanded}
use Rattle.tv_cert_reader.proofs.ExactLines.{many_exact, by_exact, draw_exact, zeros_are}

pub both_exact : (a b : Grammar (Unit {0})) → Exact a → Exact b → Exact (both a b)
both_exact a b h i = then_exact a (λ x. b) h (λ x. i)

lists_exact : (known : ℕ) (o : Option ℕ) → ExactBranch (lists_behind known o)
lists_exact known None = tt
lists_exact known (Some count) = many_exact count (by (known + 1)) (by_exact (known + 1))

empty_exact : (fits : Bool) → ExactBranch (empty_behind fits)
empty_exact true = unit_exact tt
empty_exact false = tt

-- nothing, where its numbers fit
some_empty : (fits : Bool) → fits ≡ true → OfBranch (empty_behind fits)
some_empty true e = tt
some_empty false e = absurd cc

pub sides_exact : (sides : Behind (Unit {0})) → ExactBranch sides → (wanted : Bool) → ExactBranch (sides_behind sides wanted)
sides_exact (stop k) h wanted = tt
sides_exact (go l) h true = h
sides_exact (go l) h false = tt

pub too_deep_exact : (over wanted : Bool) → ExactBranch (too_deep over wanted)
too_deep_exact false wanted = tt
too_deep_exact true wanted = unit_exact tt

-- ---- covers

cover_branch : (sides : Bool → Behind (Unit {0})) → ((wanted : Bool) → ExactBranch (sides wanted)) → (width known : ℕ) (counts : ℕ → ℕ → Option ℕ) (t : PlainLine) → ExactBranch (cover_cases sides width known counts t)
cover_branch sides h width known counts (formed heads.Split zs) = h (length zs == width + 1)
cover_branch sides h width known counts (formed heads.Empty zs) = empty_exact (length zs == known)
cover_branch sides h width known counts (formed heads.Into zs) = lists_exact known (with_two zs counts)
cover_branch sides h width known counts (formed _ zs) = tt
cover_branch sides h width known counts formless = tt
cover_branch sides h width known counts wide = tt

cover_of : (sides : Bool → Behind (Unit {0})) → ((wanted : Bool) → ExactBranch (sides wanted)) → (width known : ℕ) (counts : ℕ → ℕ → Option ℕ) → Exact (headed Syntax (cover_cases sides width known counts))
cover_of sides h width known counts = headed_exact Syntax (cover_cases sides width known counts) (cover_branch sides h width known counts) (formed heads.Empty (zeros known)) (some_empty (length (zeros known) == known) (zeros_are known))

pub cover_exact : (over : Bool) (left width known : ℕ) (counts : ℕ → ℕ → Option ℕ) → Exact (cover over left width known counts)
unfolding cover
cover_exact over zero width known counts = cover_of (too_deep over) (too_deep_exact over) width known counts
cover_exact over (suc left) width known counts =
    let side = cover_exact over left width (known + 1) counts in
    cover_of _ (sides_exact (go (both (cover over left width (known + 1) counts) (cover over left width (known + 1) counts))) (both_exact _ _ side side)) width known counts

-- ---- choices

pub stop_cover_exact : (over : Bool) (left n known : ℕ) (c : LinearCase) → Exact (stop_cover over left n known c)
stop_cover_exact over left n known c = cover_exact over left (n + c.draws) (known + length c.guards) no_counts

pub no_step_exact : (over : Bool) (left : ℕ) (x : Choosing) (known : ℕ) → Exact (no_step over left x known)
no_step_exact over left x known = mapped_exact (λ all. tt) (each (stop_cover over left x.variables known) (leaving x.place x.cases)) (each_exact (stop_cover over left x.variables known) (leaving x.place x.cases) (stop_cover_exact over left x.variables known))

no_step_branch : (covers : Grammar (Unit {0})) → Exact covers → (may_stop : Bool) → ExactBranch (no_step_behind covers may_stop)
no_step_branch covers h true = h
no_step_branch covers h false = tt

take_exact : (n known : ℕ) (o : Option Taken) → ExactBranch (take_behind n known o)
take_exact n known None = tt
take_exact n known (Some t) = both_exact _ _ (many_exact t.case.draws (draw n) (draw_exact n)) (many_exact (length t.case.guards + t.owed) (by (known + 1)) (by_exact (known + 1)))

choice_branch : (sides : Bool → Behind (Unit {0})) → ((wanted : Bool) → ExactBranch (sides wanted)) → (covers : Grammar (Unit {0})) → Exact covers → (x : Choosing) (known : ℕ) (t : PlainLine) → ExactBranch (choice_cases sides covers x known t)
choice_branch sides h covers i x known (formed heads.Split zs) = h (length zs == x.variables + 1)
choice_branch sides h covers i x known (formed heads.Empty zs) = empty_exact (length zs == known)
choice_branch sides h covers i x known (formed heads.NoStep zs) = no_step_branch covers i x.may_stop
choice_branch sides h covers i x known (formed heads.Take zs) = take_exact x.variables known (with_three zs (λ c k j. taken_case x.place x.counts (slice_get x.cases c) k j))
choice_branch sides h covers i x known (formed _ zs) = tt
choice_branch sides h covers i x known formless = tt
choice_branch sides h covers i x known wide = tt

choice_of : (sides : Bool → Behind (Unit {0})) → ((wanted : Bool) → ExactBranch (sides wanted)) → (covers : Grammar (Unit {0})) → Exact covers → (x : Choosing) (known : ℕ) → Exact (headed Syntax (choice_cases sides covers x known))
choice_of sides h covers i x known = headed_exact Syntax (choice_cases sides covers x known) (choice_branch sides h covers i x known) (formed heads.Empty (zeros known)) (some_empty (length (zeros known) == known) (zeros_are known))

pub choice_exact : (over : Bool) (left : ℕ) (x : Choosing) (known : ℕ) → Exact (choice over left x known)
unfolding choice
choice_exact over zero x known = choice_of (too_deep over) (too_deep_exact over) _ (no_step_exact over 0 x known) x known
choice_exact over (suc left) x known =
    let side = choice_exact over left x (known + 1) in
    choice_of _ (sides_exact (go (both (choice over left x (known + 1)) (choice over left x (known + 1)))) (both_exact _ _ side side)) _ (no_step_exact over (suc left) x known) x known

pub demanded_exact : (over : Bool) (d : Demand) → Exact (demanded over d)
demanded_exact over (a_cover width known counts) = cover_exact over 128 width known counts
demanded_exact over (a_choice n cases l may_stop known counts) = choice_exact over 128 (record { variables = n; cases = cases; place = l; may_stop = may_stop; counts = counts }) known
