use Rattle.std.proofs.Common.{◌∙◌, ◌≡◌, ℕ, inl, inr, ◌<◌, ◌≤◌, ◌*◌, length, All, IsTrue, false, arith, sym, subst, ap}
use Rattle.std.proofs.lemmas.Bool.{cases_lt}
use Rattle.tv_rank.specs.Questions.{ways_of, many_of}
use Rattle.tv_nested.specs.Questions.{unknowns_of, lines_of}
use Rattle.tv_nested.proofs.Wholes.{lines_placed, few_unknowns}
use Rattle.tv_nested.proofs.solving.asked_system.Goals as goal

pub system_of-requires-clause-placed : goal.system_of-requires-clause-placed
system_of-requires-clause-placed c =
    let q = c.args.asked.now in
    subst (All (λ x. x.identity.place < many_of q)) (sym (c.deref-2.ensures.value ∙ c.in-Ok-line_list.ensures)) (lines_placed (ways_of q) (many_of q) c.args.depth q.variables)

not_more : (n : ℕ) → (4000000 < n → IsTrue false) → n ≤ 4000000
not_more n h = elim (cases_lt 4000000 n) [ inl l ↦ (let e = h l in absurd cc) | inr p ↦ p ]

pub system_of-requires-clause-few_unknowns : goal.system_of-requires-clause-few_unknowns
system_of-requires-clause-few_unknowns c =
    let q = c.args.asked.now in
    let low = not_more (c.len.result * c.len-2.result) c.if-is_large.ensures.1 in
    let us : c.deref.result.now ≡ unknowns_of q c.args.depth = c.deref.ensures.value ∙ c.in-Ok.ensures in
    let ls : c.deref-2.result.now ≡ lines_of q c.args.depth = c.deref-2.ensures.value ∙ c.in-Ok-line_list.ensures in
    let a : c.len.result ≡ length (lines_of q c.args.depth) = c.len.ensures ∙ sym c.deref-2.ensures.len ∙ ap length ls in
    let b : c.len-2.result ≡ length (unknowns_of q c.args.depth) = c.len-2.ensures ∙ sym c.deref.ensures.len ∙ ap length us in
    let small : length (lines_of q c.args.depth) * length (unknowns_of q c.args.depth) ≤ 4000000 = subst (λ z. z ≤ 4000000) (λ i. a i * b i) low in
    subst (λ z. length z ≤ 4000000) (sym us) (few_unknowns (ways_of q) (many_of q) c.args.depth q.variables q.locations (let h = q.falls in omega (arith, h)) small)
