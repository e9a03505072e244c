use Rattle.std.proofs.Common.{arith, ◌≡◌, ◌++◌, ◌<◌, ◌∷◌, [], length, drop, pos, sym, ap, ◌∙◌}
use Rattle.std.proofs.lemmas.Grind.{common_steps}
use Rattle.std.specs.List.{flat_map}
use Rattle.tv_cert.specs.Nodes.{size}
use Rattle.tv_cert.proofs.NodeLemmas.{sizes_list, size_is, proofs_list}
use Rattle.tv_cert_reader.specs.CertificateLines.{piece_lines, proof_lines}
use Rattle.tv_lines.specs.Lines.{formed}
use Rattle.tv_lines.specs.declared.head.Head.TheVariants as heads
use Rattle.tv_cert.specs.declared.node.Node.{out-Node}
use Rattle.tv_cert.specs.NodeViews.{pieces_list}
use Rattle.tv_cert_spelling.specs.Spelling.{spelled, all_spelled, first_kind}
use Rattle.tv_cert_spelling.proofs.NodeLines.{kids_with, lines_are, size_left, none_left, sizes_left, parts_added}
use Rattle.tv_cert_spelling.proofs.nodes.+append_node.Goals as goal

pub split_at-requires : goal.split_at-requires
split_at-requires t c =
    let z = size_is c.args.node.now in
    let all = ap sizes_list c.deref-child-items.ensures.value in
    let kept = c.loop-child.invariant.1 in
    omega (arith, z, all, kept, c.requires)

pub append_node-requires : goal.append_node-requires
append_node-requires t c =
    let z = size_is c.args.node.now in
    let items = c.deref-child-items.result.now in
    let all = ap sizes_list c.deref-child-items.ensures.value in
    let kept = c.loop-child.invariant.1 in
    let here = size_left items c.loop-child.child-index c.loop-child-test.true c.child-item.result c.child-item.is in
    let less = sizes_left items c.loop-child.child-index in
    let back = c.split_at.ensures.back_len in
    let falls : size c.child-item.result < t = (let d = c.decreases in omega (arith, here, less, all, z, d)) in
    (falls, omega (arith, here, z, all, kept, back, c.requires))

pub overflow_add-count : goal.overflow_add-count
overflow_add-count t c =
    let z = size_is c.args.node.now in
    let items = c.deref-child-items.result.now in
    let all = ap sizes_list c.deref-child-items.ensures.value in
    let kept = c.loop-child.invariant.1 in
    let here = size_left items c.loop-child.child-index c.loop-child-test.true c.child-item.result c.child-item.is in
    let count = c.in_ok-count.ensures in
    grind (arith, common_steps, here, z, all, kept, count, c.requires)

pub returns : goal.returns
returns t c =
    let node = c.args.node.now in
    let z = size_is node in
    let items = c.deref-child-items.result.now in
    let value = c.deref-child-items.ensures.value in
    let all = ap sizes_list value in
    let kept = c.loop-child.invariant in
    let none = none_left items c.loop-child.child-index c.loop-child-test.false in
    let ks = c.args.kinds.now in
    let head = formed (heads.Node (first_kind ks)) (pos (length (pieces_list node)) ∷ pos (out-Node node).ranks ∷ []) in
    let line : c.append_line.new.out.items ≡ c.args.out.now.items ++ spelled head = grind (arith, common_steps) in
    let pieces : c.append_pieces.new.out.items ≡ c.append_line.new.out.items ++ all_spelled (flat_map piece_lines (pieces_list node)) = grind (arith, common_steps) in
    let proofs : c.append_proofs.new.out.items ≡ c.loop-child.out.items ++ all_spelled (flat_map proof_lines (proofs_list node)) = grind (arith, common_steps) in
    let added = parts_added c.args.out.now.items c.append_line.new.out.items c.append_pieces.new.out.items c.loop-child.out.items c.append_proofs.new.out.items
    (all_spelled (kids_with (drop c.loop-child.count ks) (drop c.loop-child.child-index items)))
    head
    (flat_map piece_lines (pieces_list node)) (kids_with (drop 1 ks) items) (flat_map proof_lines (proofs_list node))
    line pieces kept.0 (ap (λ kids. all_spelled (kids_with (drop c.loop-child.count ks) kids)) none) proofs in (
      added ∙ ap (λ kids. c.args.out.now.items ++ all_spelled (head ∷ (flat_map piece_lines (pieces_list node) ++ (kids_with (drop 1 ks) kids ++ flat_map proof_lines (proofs_list node))))) value ∙ ap (λ ls. c.args.out.now.items ++ all_spelled ls) (sym (lines_are ks node)),
      (let left = ap sizes_list none in let count = kept.1 in omega (arith, z, all, left, count)),
    )
