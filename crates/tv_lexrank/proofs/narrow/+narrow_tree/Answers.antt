use Rattle.std.proofs.Common.{map, sym, subst}
use Rattle.tv_farkas.specs.Refuting.{AreShort}
use Rattle.tv_farkas.specs.Trees.{TreeNumbers}
use Rattle.tv_shape.specs.Narrow.{CoverNarrow, AreNarrow}
use Rattle.tv_farkas.proofs.StretchLemmas.{short_all}
use Rattle.tv_lexrank.proofs.FallLemmas.{short_narrow}
use Rattle.tv_lexrank.proofs.narrow.+narrow_tree.Goals as goal
use Rattle.tv_linear.proofs.ListLaws.{all_unmapped}

pub returns-in-Empty : goal.returns-in-Empty
returns-in-Empty t c = subst CoverNarrow (sym c.in-Empty.is) (short_all c.in-Empty.field-0.items (subst (TreeNumbers AreShort) c.in-Empty.is c.requires))

pub returns-in-Into : goal.returns-in-Into
returns-in-Into t c =
    let lines = c.in-Into.refutations.items in
    subst CoverNarrow (sym c.in-Into.is)
    (c.narrow_count.ensures, c.narrow_count-in-Into.ensures, all_unmapped AreNarrow (λ l. l.items) lines (short_narrow (map (λ l. l.items) lines) (subst (TreeNumbers AreShort) c.in-Into.is c.requires)))
