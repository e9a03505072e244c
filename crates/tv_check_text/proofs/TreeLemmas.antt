-- The covers that lines are those of.
use Rattle.std.proofs.Common.{◌≡◌, ◌↔◌, ℕ, ◌+◌, ◌-◌, ◌<◌, ◌^◌, ℤ, pos, Bool, false, IsTrue, List, [], ◌∷◌, ◌++◌, length, Option, None, Some, Result, Ok, Err, refl, sym, ap, ◌∙◌, subst, arith, length-append}
use denote.RawPtr.{null_ptr}
use Rattle.std.specs.Global.{Vec, Box, Global}
use Rattle.std.specs.Option.{option_map}
use Rattle.std.proofs.lemmas.List.{length-map}
use Rattle.tv_lines.specs.Lines.{formed}
use Rattle.tv_lines.specs.declared.head.Head.TheVariants as heads
use Rattle.tv_linear.specs.Linear.{Linear}
use Rattle.tv_linear.specs.Known.{Known, given, denied}
use Rattle.tv_linear.specs.Covers.{ShownAt}
use Rattle.tv_linear.specs.Refutation.{Refutes}
use Rattle.tv_linear.specs.declared.cover.CoverTree.{Split', Empty, Into}
use Rattle.tv_cert.specs.Shapes.{owed_count}
use Rattle.tv_cert_reader.specs.CertificateLines.{by_lines}
use Rattle.tv_cert_reader.specs.CoverGrammar.{both, cover}
use Rattle.tv_cert_reader.specs.LineGrammar.{Grammar, many, by}
use Rattle.tv_cert_reader.proofs.CompleteCovers.{cover_read}
use Rattle.tv_cert_reader.specs.declared.cursor.Cursor.{Cursor}
use Rattle.tv_cert_reader.specs.declared.failure.Failure.{Failure}
use Rattle.tv_cert_reader.specs.Reading.{Takes, FailsBy}
use Rattle.tv_cert_reader.specs.Parts.{IsRowOf}
use Rattle.tv_cert_reader.specs.Covers.{IsBehind, IsCoverWithin, IsTarget, NamesNone}
use Rattle.tv_cert_reader.proofs.CoverLemmas.{cover_tree, split_read, into_read, lists_stop}
use Rattle.tv_cert_reader.proofs.TreeLemmas.{sides_fail}
use Rattle.tv_cert_reader.proofs.ReadingLemmas.{first_fails, second_fails}
use Rattle.tv_cert_reader.proofs.WalkLemmas.{vector}
use Rattle.tv_check_text.specs.Checking.{numbers_in, cover_side, EntersNone, CheckedCover, CheckedLists, CheckedSides, ChecksCover, ChecksLists, ChecksSides}

-- where a value might lie
abbrev pub room_at : Global → Box (Unit {0})
room_at heap = record { ptr = null_ptr; alloc = heap; value = tt }

-- as many lines are taken as there are lists
pub few_taken : (vs : List (Vec ℤ)) (old new : Cursor) → Takes (by_lines (numbers_in vs)) old new → length vs < 2 ^ 63
few_taken vs old new t =
    let e = ap length t.lines ∙ length-append (by_lines (numbers_in vs)) new.lines in
    let l = length-map (numbers_in vs) (λ ms. formed heads.By ms) in
    let m = length-map vs (λ (v : Vec ℤ). v.items) in
    let r = old.room in
    omega (arith, e, l, m, r)

pub one_more : (known : List Known) (k : Known) → length (known ++ k ∷ []) ≡ length known + 1
one_more known k = length-append known (k ∷ [])

pub counted : (o : Option (List Known)) (n : ℕ) → option_map length o ≡ Some n → (rows : List Known) × (o ≡ Some rows)
counted None n e = absurd (let h : ⊥ = cc in h)
counted (Some rows) n e = (rows, refl)

pub same_rows : (xs ys : List Known) → Some xs ≡ Some ys → xs ≡ ys
same_rows xs ys e = cc

pub names_none : (owed : ℕ → ℕ → Option (List Known)) (zs : List ℤ) → EntersNone owed zs → NamesNone (owed_count owed) zs
names_none owed zs none k j n text e = let r = counted (owed k j) n e in none k j r.0 text r.1

module _ (n : ℕ) (owed : ℕ → ℕ → Option (List Known)) where
  abbrev pub Fails : List Known → ℕ → Cursor → Failure → Type 0
  Fails known left old f = FailsBy (cover false left n (length known) (owed_count owed)) old f

  -- both sides of a split
  module _ (known : List Known) (left : ℕ) (row : Linear) (old : Cursor) where
    abbrev pub side : Grammar (Unit {0})
    side = cover_side n owed known left

    pub inside_fails : (f : Failure) → Fails (known ++ given row ∷ []) left old f → FailsBy (both side side) old f
    inside_fails f h = first_fails side (λ _. side) old f (subst (λ m. FailsBy (cover false left n m (owed_count owed)) old f) (one_more known (given row)) h)

    pub outside_fails : (next : Cursor) (inside : Bool) → CheckedCover n owed (known ++ given row ∷ []) left old next inside → (f : Failure) → Fails (known ++ denied (given row) ∷ []) left next f → FailsBy (both side side) old f
    outside_fails next inside one f h =
        let within = subst (λ m. IsCoverWithin n (owed_count owed) m left one.tree) (one_more known (given row)) one.within in
        second_fails side (λ _. side) tt old next f (ap side.read one.took.lines ∙ cover_read false left n (length known + 1) (owed_count owed) one.tree next.lines within.shape within.shallow) one.took.last
        (subst (λ m. FailsBy (cover false left n m (owed_count owed)) next f) (one_more known (denied (given row))) h)

  module _ (known : List Known) (left : ℕ) (old mid : Cursor) (zs : List ℤ) (at : IsBehind heads.Split zs old mid) (row : Linear) (is : IsRowOf n zs row) (some : left ≡ 0 → ⊥) where
    sides_checked : (heap : Global) (new : Cursor) (met : Bool) → CheckedSides n owed known (left - 1) row mid new met → CheckedCover n owed known left old new met
    sides_checked heap new met h =
        let one = h.holds in
        let two = h.fails in
        let tree = Split' row (room_at heap) one.tree (room_at heap) two.tree in
        let r =
        split_read n (owed_count owed) (length known) left old mid zs at row is some one.tree h.middle (subst (λ m. IsCoverWithin n (owed_count owed) m (left - 1) one.tree) (one_more known (given row)) one.within) one.took
        two.tree tree new (subst (λ m. IsCoverWithin n (owed_count owed) m (left - 1) two.tree) (one_more known (denied (given row))) two.within) two.took (refl, refl, refl) in
        record { tree = tree; within = r.0; took = r.1; told = (λ t. (one.told.0 (h.told.0 t).0, two.told.0 (h.told.0 t).1), λ k. h.told.1 (one.told.1 k.0, two.told.1 k.1)) }

    pub split_checks : (heap : Global) (new : Cursor) (result : Result Bool Failure) → ChecksSides n owed known (left - 1) row mid new result → ChecksCover n owed known left old new result
    split_checks heap new (Ok met) h = sides_checked heap new met h
    split_checks heap new (Err f) h = sides_fail (cover_tree n (owed_count owed) (length known) left) old mid zs at row is some f h

  module _ (known : List Known) (left : ℕ) (old : Cursor) where
    pub empty_checked : (new : Cursor) (ms : Vec ℤ) → IsBehind heads.Empty ms.items old new → length ms.items ≡ length known → (met : Bool) → (IsTrue met ↔ Refutes n known ms.items) → CheckedCover n owed known left old new met
    empty_checked new ms at many met told = record { tree = Empty ms; within = record { shape = many; shallow = omega arith }; took = at.front; told = told }

    module _ (mid : Cursor) (zs : List ℤ) (at : IsBehind heads.Into zs old mid) (k j : ℕ) (rows : List Known) (text : zs ≡ pos k ∷ pos j ∷ []) (owes : owed k j ≡ Some rows) where
      target : IsTarget (owed_count owed) zs k j (length rows)
      target = record { numbers = text; owes = ap (option_map length) owes }

      pub rows_fail : (f : Failure) → FailsBy (many (length rows) (by (length known + 1))) mid f → Fails known left old f
      rows_fail f h = lists_stop n (owed_count owed) (length known) left old mid zs at k j (length rows) target f h

      pub into_checked : (heap : Global) (new : Cursor) (met : Bool) → CheckedLists n known rows mid new met → CheckedCover n owed known left old new met
      into_checked heap new met h =
          let lists = vector heap h.lists (few_taken h.lists mid new h.took) in
          let r = into_read n (owed_count owed) (length known) left old mid zs at k j (length rows) target lists new h.many h.took (Into k j lists) refl in
          record { tree = Into k j lists; within = r.0; took = r.1; told = subst (λ o. IsTrue met ↔ ShownAt n known o (numbers_in h.lists)) (sym owes) h.told }

      pub into_checks : (heap : Global) (new : Cursor) (result : Result Bool Failure) → ChecksLists n known rows mid new result → ChecksCover n owed known left old new result
      into_checks heap new (Ok met) h = into_checked heap new met h
      into_checks heap new (Err f) h = rows_fail f h
