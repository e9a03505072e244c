use Rattle.std.specs.Prelude.{List, [], ◌∷◌, map}
use Rattle.tv_program.specs.Views.{expression}
use Rattle.tv_formula.specs.declared.tree.Tree.{Tree}
use Rattle.tv_formula.specs.declared.tree.Tree.TheOpen.{Tree-F}
use Rattle.tv_formula.specs.declared.tree.Tree.TheFolds.{fold-Tree}
use Rattle.tv_formula.specs.Properties.{Property, truth, compare, at, term, negated, all_of, some_of, next, fix, Properties, none, more}

abbrev pub properties_of : List Property → Properties
properties_of [] = none
properties_of (f ∷ fs) = more f (properties_of fs)

abbrev pub property_node : Tree-F Property → Property
property_node (Tree-F.Truth b) = truth b
property_node (Tree-F.Compare r a b) = compare r (expression a) (expression b)
property_node (Tree-F.At l) = at l
property_node Tree-F.Term = term
property_node (Tree-F.Not f) = negated f.value
property_node (Tree-F.And fs) = all_of (properties_of fs.items)
property_node (Tree-F.Or fs) = some_of (properties_of fs.items)
property_node (Tree-F.Next p f) = next p f.value
property_node (Tree-F.Fix p s f g) = fix p s f.value g.value

-- the property that a tree stands for
abbrev pub property : Tree → Property
property = fold-Tree Property property_node

abbrev pub properties : List Tree → Properties
properties fs = properties_of (map property fs)
