-- What is read of covers.
use Rattle.std.proofs.Common.{◌≡◌, ℕ, zero, suc, ◌+◌, ◌-◌, ℤ, false, List, [], ◌∷◌, ◌++◌, length, All, Option, Ok, refl, sym, ap, ◌∙◌, subst, arith}
use Rattle.std.specs.Global.{Vec}
use Rattle.std.proofs.lemmas.List.Elements.{All-weaker}
use Rattle.tv_grammar.specs.Langs.{headed, stop}
use Rattle.tv_lines.specs.Lines.{PlainLine, formed}
use Rattle.tv_lines.specs.declared.head.Head.{Head}
use Rattle.tv_lines.specs.declared.head.Head.TheVariants as heads
use Rattle.tv_linear.specs.Linear.{Linear, columns}
use Rattle.tv_linear.specs.Depth.{splits}
use Rattle.tv_linear.specs.declared.cover.CoverTree.{CoverTree, Split', Empty, Into}
use Rattle.tv_cert.specs.Shapes.{CoverShape, ListsShape}
use Rattle.tv_cert_reader.specs.CertificateLines.{row_line, by_lines, cover_lines}
use Rattle.tv_cert_reader.specs.declared.kind.LineKind.TheVariants.{Syntax, Shape}
use Rattle.tv_cert_reader.specs.LineGrammar.{Grammar, Behind, many, by}
use Rattle.tv_cert_reader.specs.CoverGrammar.{cover, cover_cases, lists_behind}
use Rattle.tv_cert_reader.proofs.CompleteCovers.{cover_read}
use Rattle.tv_cert_reader.specs.declared.cursor.Cursor.{Cursor}
use Rattle.tv_cert_reader.specs.declared.failure.Failure.{Failure}
use Rattle.tv_cert_reader.specs.Reading.{Takes, FaultAt, FailsBy}
use Rattle.tv_cert_reader.specs.Parts.{AreMany, AreNumbers, IsRowOf, lists_in}
use Rattle.tv_cert_reader.specs.Covers.{IsBehind, IsSplitOf, IsCoverWithin, IsTarget, NamesNone}
use Rattle.tv_cert_reader.proofs.ReadingLemmas.{takes_both, takes_as}
use Rattle.tv_cert_reader.proofs.SideLemmas.{sides_at}
use Rattle.tv_cert_reader.proofs.CountLemmas.{two_none, two_some}
use Rattle.tv_cert_reader.proofs.TreeLemmas.{IsTree, tree_stops, tree_goes}

pub listed_wide : (wide : ℕ) (ls : List (List ℤ)) → All (AreNumbers wide) ls → All (λ ms. length ms ≡ wide) ls
listed_wide wide ls h = All-weaker (AreNumbers wide) (λ ms. length ms ≡ wide) (λ ms n. n.many) ls h

-- the line is the one before what is left, where its head is known
pub behind_as : (head g : Head) (zs : List ℤ) (old mid : Cursor) → head ≡ g → Takes (formed head zs ∷ []) old mid → mid.taken ≡ old.taken + 1 → IsBehind g zs old mid
behind_as head g zs old mid e t one = record { front = subst (λ h. Takes (formed h zs ∷ []) old mid) e t; one = one }

module _ (width : ℕ) (counts : ℕ → ℕ → Option ℕ) where
  abbrev pub side : ℕ → ℕ → Grammar (Unit {0})
  side known left = cover false left width known counts

  cover_fails : (known left : ℕ) (c : Cursor) (f : Failure) → FailsBy (headed Syntax (cover_cases (sides_at side known left) width known counts)) c f → FailsBy (side known left) c f
  unfolding cover
  cover_fails known zero c f h = h
  cover_fails known (suc left) c f h = h

  -- the lines of a cover are read
  pub cover_taken : {known left : ℕ} (tree : CoverTree) → IsCoverWithin width counts known left tree → (rest : List PlainLine) → (side known left).read (cover_lines tree ++ rest) ≡ Ok (tt, rest)
  cover_taken {known = known} {left = left} tree one rest = cover_read false left width known counts tree rest one.shape one.shallow

  module _ (known left : ℕ) where
    abbrev cases : PlainLine → Behind (Unit {0})
    cases = cover_cases (sides_at side known left) width known counts

    pub cover_tree : IsTree width side known left cases
    cover_tree = record { fails = cover_fails known left; of_formless = refl; of_wide = refl; of_split = λ zs. refl; of_empty = λ zs. refl }

    pub other_head : (head : Head) (zs : List ℤ) → (head ≡ heads.Split → ⊥) → (head ≡ heads.Empty → ⊥) → (head ≡ heads.Into → ⊥) → cases (formed head zs) ≡ stop Shape
    other_head heads.Split zs a b c = absurd (a refl)
    other_head heads.Empty zs a b c = absurd (b refl)
    other_head heads.Into zs a b c = absurd (c refl)
    other_head head zs a b c = refl

  module _ (known left : ℕ) (old : Cursor) where
    -- ---- a split

    module _ (mid : Cursor) (zs : List ℤ) (at : IsBehind heads.Split zs old mid) (row : Linear) (is : IsRowOf width zs row) (some : left ≡ 0 → ⊥) (holds : CoverTree) (next : Cursor) (one : IsCoverWithin width counts (known + 1) (left - 1) holds) (first : Takes (cover_lines holds) mid next) where
      pub split_read : (fails tree : CoverTree) (new : Cursor) → IsCoverWithin width counts (known + 1) (left - 1) fails → Takes (cover_lines fails) next new → IsSplitOf row holds fails tree → IsCoverWithin width counts known left tree × Takes (cover_lines tree) old new
      split_read fails (Split' r p a q b) new two second split = (
        record {
          shape = (ap columns split.0 ∙ is.wide, subst (CoverShape width counts (known + 1)) (sym split.1) one.shape, subst (CoverShape width counts (known + 1)) (sym split.2) two.shape);
          shallow = (let x = ap splits split.1 in let y = ap splits split.2 in omega (arith, x, y, one.shallow, two.shallow, some));
        },
        takes_as ((formed heads.Split zs ∷ []) ++ (cover_lines holds ++ cover_lines fails)) (cover_lines (Split' r p a q b)) old new
            ((λ i. formed heads.Split (is.numbers i) ∷ (cover_lines holds ++ cover_lines fails)) ∙ (λ i. row_line heads.Split (sym split.0 i) ∷ (cover_lines (sym split.1 i) ++ cover_lines (sym split.2 i))))
            (takes_both (formed heads.Split zs ∷ []) (cover_lines holds ++ cover_lines fails) old mid new at.front (takes_both (cover_lines holds) (cover_lines fails) mid next new first second)),
      )
      split_read fails (Empty ms) new two second split = absurd split
      split_read fails (Into k j lists) new two second split = absurd split

    -- ---- the lists of a target

    pub target_stops : (mid : Cursor) (zs : List ℤ) → IsBehind heads.Into zs old mid → NamesNone counts zs → FaultAt (side known left) old Shape mid.taken
    target_stops mid zs at none = tree_stops (cover_tree known left) old mid heads.Into zs at Shape (ap (lists_behind known) (two_none counts zs none))

    module _ (mid : Cursor) (zs : List ℤ) (at : IsBehind heads.Into zs old mid) (k j n : ℕ) (is : IsTarget counts zs k j n) where
      pub lists_stop : (f : Failure) → FailsBy (many n (by (known + 1))) mid f → FailsBy (side known left) old f
      lists_stop f h = tree_goes (cover_tree known left) old mid heads.Into zs at (many n (by (known + 1))) f (ap (lists_behind known) (two_some counts zs k j n is)) h

      pub into_read : (lists : Vec (Vec ℤ)) (new : Cursor) → AreMany (AreNumbers (known + 1)) n (lists_in lists) → Takes (by_lines (lists_in lists)) mid new → (tree : CoverTree) → tree ≡ Into k j lists → IsCoverWithin width counts known left tree × Takes (cover_lines tree) old new
      into_read lists new are t tree made = subst (λ t. IsCoverWithin width counts known left t × Takes (cover_lines t) old new) (sym made) (
        record {
          shape = subst (λ o. ListsShape (known + 1) o (lists_in lists)) (sym is.owes) (are.many, listed_wide (known + 1) (lists_in lists) are.each);
          shallow = omega arith;
        },
        takes_as ((formed heads.Into zs ∷ []) ++ by_lines (lists_in lists)) (cover_lines (Into k j lists)) old new (λ i. formed heads.Into (is.numbers i) ∷ by_lines (lists_in lists)) (takes_both (formed heads.Into zs ∷ []) (by_lines (lists_in lists)) old mid new at.front t),
      )
