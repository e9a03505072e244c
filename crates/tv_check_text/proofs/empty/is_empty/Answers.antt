use Rattle.std.proofs.Common.{◌↔◌, IsTrue, arith, false, length, subst}
use Rattle.tv_linear.specs.Refutation.{Refutes}
use Rattle.tv_refute.specs.Frames.{known_at}
use Rattle.tv_cert.specs.Shapes.{owed_count}
use Rattle.tv_cert_reader.specs.declared.kind.LineKind.TheVariants.{Shape}
use Rattle.tv_cert_reader.specs.ChoiceGrammar.{choice}
use Rattle.tv_cert_reader.specs.CoverGrammar.{cover}
use Rattle.tv_cert_reader.specs.Reading.{FaultAt}
use Rattle.tv_cert_reader.specs.Choices.{choosing_of}
use Rattle.tv_cert_reader.proofs.CoverLemmas.{cover_tree}
use Rattle.tv_cert_reader.proofs.ChoiceLemmas.{choice_tree}
use Rattle.tv_cert_reader.proofs.TreeLemmas.{empty_stops}
use Rattle.tv_check_text.proofs.TreeLemmas as cover_trees
use Rattle.tv_check_text.proofs.ChoiceLemmas as choice_trees
use Rattle.tv_check_text.proofs.empty.is_empty.Goals as goal

pub returns-then-len-known-clause-cover : goal.returns-then-len-known-clause-cover
returns-then-len-known-clause-cover c = λ owed left old new at e.
    cover_trees.empty_checked c.args.columns owed (known_at c.args.frames.now) left old new c.args.multipliers at (let h = c.if-len-known.true in let k = c.len.ensures in let n = c.requires.counted in omega (arith, h, k, n)) c.refutes.result
    (subst (λ (x : Type 0). x) (λ i. IsTrue c.refutes.result ↔ Refutes c.args.columns (known_at c.args.frames.now) (c.deref.ensures.value i)) c.refutes.ensures.exact)

pub returns-clause-cover : goal.returns-clause-cover
returns-clause-cover c = λ owed left old new at e.
    let known = length (known_at c.args.frames.now) in
    subst (FaultAt (cover false left c.args.columns known (owed_count owed)) old Shape) e
    (empty_stops (cover_tree c.args.columns (owed_count owed) known left) old new c.args.multipliers.items at (λ h. let f = c.if-len-known.false in let k = c.len.ensures in let n = c.requires.counted in omega (arith, h, f, k, n)))

pub returns-then-len-known-clause-choice : goal.returns-then-len-known-clause-choice
returns-then-len-known-clause-choice c = λ system piece stop destination left old new wide at e.
    choice_trees.empty_checked system piece stop destination (known_at c.args.frames.now) left old new c.args.multipliers at (let h = c.if-len-known.true in let k = c.len.ensures in let n = c.requires.counted in omega (arith, h, k, n)) c.refutes.result
    (subst (λ (x : Type 0). x) (λ i. IsTrue c.refutes.result ↔ Refutes (wide i) (known_at c.args.frames.now) (c.deref.ensures.value i)) c.refutes.ensures.exact)

pub returns-clause-choice : goal.returns-clause-choice
returns-clause-choice c = λ system piece stop destination left old new wide at e.
    let known = length (known_at c.args.frames.now) in
    subst (FaultAt (choice false left (choosing_of system piece stop destination) known) old Shape) e
    (empty_stops (choice_tree system piece stop destination known left) old new c.args.multipliers.items at (λ h. let f = c.if-len-known.false in let k = c.len.ensures in let n = c.requires.counted in omega (arith, h, f, k, n)))
