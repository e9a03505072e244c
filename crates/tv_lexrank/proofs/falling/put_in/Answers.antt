use Rattle.std.proofs.Common.{◌∙◌, ◌++◌, take, drop, ap}
use Rattle.std.proofs.lemmas.List.{append_assoc, take_min, drop_min}
use Rattle.tv_linear.specs.Arithmetic.{zeros}
use Rattle.tv_lexrank.proofs.falling.put_in.Goals as goal

pub returns : goal.returns
returns c =
    let line = c.args.line.now in
    let place = c.args.place in
    let k = c.lesser.ensures in
    let front = c.split_at.ensures.front ∙ ap (λ n. take n line) k ∙ take_min place line in
    let back = c.split_at.ensures.back ∙ ap (λ n. drop n line) k ∙ drop_min place line in
    let middle = c.deref.ensures.value ∙ c.in_ok-zeros.ensures in
    let first = c.in_ok-extend_from_slice.ensures.items ∙ ap (λ xs. xs ++ c.split_at.result.0.now) c.in_ok-all.ensures.items in
    c.in_ok-extend_from_slice-3.ensures.items
    ∙ (λ i. (c.in_ok-extend_from_slice-2.ensures.items ∙ (λ j. (first ∙ front) j ++ middle j)) i ++ back i)
    ∙ append_assoc (take place line) (zeros c.args.many) (drop place line)
