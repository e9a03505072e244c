use Rattle.std.proofs.Common.{◌≡◌, length}
use Rattle.tv_shape.proofs.CountLemmas.{all_seen}
use Rattle.tv_finitely.proofs.shape.have_length.Goals as goal

pub returns : goal.returns
returns c =
    let e = all_seen (λ ms. length ms ≡ c.args.count) (λ l. l.items) c.args.lists.now in
    (λ t. e.0 (c.all_have_length.ensures.0 t), λ h. c.all_have_length.ensures.1 (e.1 h))
