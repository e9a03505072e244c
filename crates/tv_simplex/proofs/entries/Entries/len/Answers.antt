use Rattle.std.proofs.Common.{length, sym, ap, ◌∙◌}
use Rattle.tv_simplex.proofs.EntriesLemmas.{length-dense}
use Rattle.tv_simplex.proofs.entries.Entries.len.Goals as goal

pub returns : goal.returns
returns c = sym (length-dense c.self.inside.kept.items c.self.inside.length) ∙ ap length c.self.view_is
