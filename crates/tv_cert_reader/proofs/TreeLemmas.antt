-- What is read of trees, which are covers or choices: of their first line, of a refutation, and of the sides of a split.
use Rattle.std.proofs.Common.{◌≡◌, ℕ, ◌+◌, ◌-◌, ℤ, List, ◌++◌, length, Ok, ap, ◌∙◌}
use Rattle.std.specs.Prelude.{◌==◌}
use Rattle.std.proofs.lemmas.Bool.{eq-eqb, ne_eqb}
use Rattle.tv_grammar.specs.Langs.{headed, go, stop}
use Rattle.tv_lines.specs.Lines.{PlainLine, formed, formless, wide}
use Rattle.tv_lines.specs.declared.head.Head.{Head}
use Rattle.tv_lines.specs.declared.head.Head.TheVariants as heads
use Rattle.tv_linear.specs.Linear.{Linear}
use Rattle.tv_cert_reader.specs.declared.kind.LineKind.{LineKind}
use Rattle.tv_cert_reader.specs.declared.kind.LineKind.TheVariants.{Syntax, Wide, Deep, Shape}
use Rattle.tv_cert_reader.specs.LineGrammar.{Grammar, Behind}
use Rattle.tv_cert_reader.specs.CoverGrammar.{both, empty_behind}
use Rattle.tv_cert_reader.proofs.CompleteParts.{numbers_long}
use Rattle.tv_cert_reader.specs.declared.cursor.Cursor.{Cursor}
use Rattle.tv_cert_reader.specs.declared.failure.Failure.{Failure}
use Rattle.tv_cert_reader.specs.declared.failure.Failure.TheVariants.{Fault}
use Rattle.tv_cert_reader.specs.Reading.{Takes, FaultAt, FailsBy, IsFailedLine}
use Rattle.tv_cert_reader.specs.Parts.{IsRowOf}
use Rattle.tv_cert_reader.specs.Covers.{IsBehind}
use Rattle.tv_cert_reader.proofs.ReadingLemmas.{line_fails, line_stops, behind_fails, first_fails, second_fails}
use Rattle.tv_cert_reader.proofs.SideLemmas.{sides_at, sides_deep, sides_wrong, sides_go}

-- The grammar of a tree, told how many rows are known and how many splits are left, is one of cases by its first line. Its split rows have so
-- many columns.
pub record IsTree (width : ℕ) (side : ℕ → ℕ → Grammar (Unit {0})) (known left : ℕ) (cases : PlainLine → Behind (Unit {0})) : Type 1 where
  pub fails : (c : Cursor) (f : Failure) → FailsBy (headed Syntax cases) c f → FailsBy (side known left) c f
  pub of_formless : cases formless ≡ stop Syntax
  pub of_wide : cases wide ≡ stop Wide
  pub of_split : (zs : List ℤ) → cases (formed heads.Split zs) ≡ sides_at side known left (length zs == width + 1)
  pub of_empty : (zs : List ℤ) → cases (formed heads.Empty zs) ≡ empty_behind (length zs == known)

module _ {width : ℕ} {side : ℕ → ℕ → Grammar (Unit {0})} {known left : ℕ} {cases : PlainLine → Behind (Unit {0})} (tree : IsTree width side known left cases) (old : Cursor) where
  pub tree_line_fails : (f : Failure) → IsFailedLine old f → FailsBy (side known left) old f
  tree_line_fails f h = tree.fails old f (line_fails cases old f tree.of_formless tree.of_wide h)

  module _ (mid : Cursor) (head : Head) (zs : List ℤ) (at : IsBehind head zs old mid) where
    pub tree_stops : (k : LineKind) → cases (formed head zs) ≡ stop k → FaultAt (side known left) old k mid.taken
    tree_stops k e = tree.fails old (Fault k mid.taken) (line_stops cases old mid head zs k at.front at.one e)

    pub tree_goes : (g : Grammar (Unit {0})) (f : Failure) → cases (formed head zs) ≡ go g → FailsBy g mid f → FailsBy (side known left) old f
    tree_goes g f e h = tree.fails old f (behind_fails cases g old mid head zs f at.front e h)

  -- ---- a refutation, and a split

  pub empty_stops : (mid : Cursor) (zs : List ℤ) → IsBehind heads.Empty zs old mid → (length zs ≡ known → ⊥) → FaultAt (side known left) old Shape mid.taken
  empty_stops mid zs at none = tree_stops mid heads.Empty zs at Shape (tree.of_empty zs ∙ ap empty_behind (ne_eqb (length zs) known none))

  module _ (mid : Cursor) (zs : List ℤ) (at : IsBehind heads.Split zs old mid) where
    pub deep_stops : left ≡ 0 → FaultAt (side known left) old Deep mid.taken
    deep_stops e = tree_stops mid heads.Split zs at Deep (tree.of_split zs ∙ sides_deep side known left (length zs == width + 1) e)

    pub row_stops : (left ≡ 0 → ⊥) → (length zs ≡ width + 1 → ⊥) → FaultAt (side known left) old Shape mid.taken
    row_stops some none = tree_stops mid heads.Split zs at Shape (tree.of_split zs ∙ sides_wrong side known left (length zs == width + 1) some (ne_eqb (length zs) (width + 1) none))

    module _ (row : Linear) (is : IsRowOf width zs row) (some : left ≡ 0 → ⊥) where
      -- the grammar of a side
      abbrev below : Grammar (Unit {0})
      below = side (known + 1) (left - 1)

      pub sides_fail : (f : Failure) → FailsBy (both (side (known + 1) (left - 1)) (side (known + 1) (left - 1))) mid f → FailsBy (side known left) old f
      sides_fail f h =
          tree_goes mid heads.Split zs at (both below below) f
          (tree.of_split zs ∙ sides_go side known left (length zs == width + 1) some (eq-eqb (length zs) (width + 1) (ap length is.numbers ∙ numbers_long width row is.wide))) h

      pub holds_fail : (f : Failure) → FailsBy (side (known + 1) (left - 1)) mid f → FailsBy (side known left) old f
      holds_fail f h = sides_fail f (first_fails below (λ _. below) mid f h)

      pub fails_fail : {text : List PlainLine} (next : Cursor) → Takes text mid next → ((rest : List PlainLine) → (side (known + 1) (left - 1)).read (text ++ rest) ≡ Ok (tt, rest)) → (f : Failure) → FailsBy (side (known + 1) (left - 1)) next f → FailsBy (side known left) old f
      fails_fail next first reads f h = sides_fail f (second_fails below (λ _. below) tt mid next f (ap below.read first.lines ∙ reads next.lines) first.last h)
