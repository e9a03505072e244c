-- Covers without targets that are read and checked one after another.
use Rattle.std.proofs.Common.{◌≡◌, ◌↔◌, ℕ, zero, suc, ◌+◌, ◌≤◌, Bool, false, IsTrue, List, [], ◌∷◌, ◌++◌, length, take, drop, slice_get, None, Some, refl, sym, ap, ◌∙◌, subst, arith, length-append}
use Rattle.std.specs.List.{AllZip, flat_map}
use Rattle.std.proofs.lemmas.List.{length-map, take_all}
use Rattle.tv_grammar.specs.Langs.{mapped, each}
use Rattle.tv_linear.specs.Known.{Known, as_given, given}
use Rattle.tv_linear.specs.Covers.{IsMetCover, no_target}
use Rattle.tv_linear.specs.declared.cover.CoverTree.{CoverTree}
use Rattle.tv_cases.specs.LinearCases.{LinearCase}
use Rattle.tv_cert.specs.Choices.{NoStepMet}
use Rattle.tv_cert.specs.Shapes.{owed_count}
use Rattle.tv_cert_reader.specs.CertificateLines.{cover_lines}
use Rattle.tv_cert_reader.specs.CoverGrammar.{cover}
use Rattle.tv_cert_reader.specs.ChoiceGrammar.{stop_cover}
use Rattle.tv_cert_reader.specs.declared.cursor.Cursor.{Cursor}
use Rattle.tv_cert_reader.specs.declared.failure.Failure.{Failure}
use Rattle.tv_cert_reader.specs.Reading.{Takes, FailsBy}
use Rattle.tv_cert_reader.specs.Covers.{IsCoverWithin}
use Rattle.tv_cert_reader.specs.Choices.{IsStop}
use Rattle.tv_cert_reader.proofs.ReadingLemmas.{takes_both, takes_as, last_text}
use Rattle.tv_cert_reader.proofs.StopLemmas.{Stepped, stop_fails}
use Rattle.tv_check_text.specs.Checking.{CheckedCover, CheckedStops}
use Rattle.tv_check_text.proofs.ShownLemmas.{take_next}

module _ {B A : Type 0} (R : B → A → Type 0) where
  pub zip_many : (bs : List B) (xs : List A) → AllZip R bs xs → length bs ≡ length xs
  zip_many [] [] h = refl
  zip_many [] (x ∷ xs) h = absurd h
  zip_many (b ∷ bs) [] h = absurd h
  zip_many (b ∷ bs) (x ∷ xs) h = ap suc (zip_many bs xs h.1)

  -- one more on either side
  zip_last : (bs : List B) (xs : List A) (b : B) (x : A) → length bs ≡ length xs → AllZip R (bs ++ b ∷ []) (xs ++ x ∷ []) ↔ (AllZip R bs xs × R b x)
  zip_last [] [] b x e = (λ h. (tt, h.0), λ h. (h.1, tt))
  zip_last [] (y ∷ xs) b x e = absurd (omega (arith, e))
  zip_last (c ∷ bs) [] b x e = absurd (omega (arith, e))
  zip_last (c ∷ bs) (y ∷ xs) b x e =
      let h = zip_last bs xs b x (omega (arith, e)) in
      (λ k. ((k.0, (h.0 k.1).0), (h.0 k.1).1), λ k. (k.0.0, h.1 (k.0.1, k.1)))

split_next : {A : Type 0} (xs : List A) (i : ℕ) (x : A) → slice_get xs i ≡ Some x → xs ≡ take i xs ++ x ∷ drop (suc i) xs
split_next [] i x e = absurd (let h : ⊥ = cc in h)
split_next (y ∷ xs) zero x e = (let h : y ≡ x = cc in ap (λ z. z ∷ xs) h)
split_next (y ∷ xs) (suc i) x e = ap (λ zs. y ∷ zs) (split_next xs i x e)

pub known_guards : (known : List Known) (c : LinearCase) → length (known ++ as_given c.guards) ≡ length known + length c.guards
known_guards known c = length-append known (as_given c.guards) ∙ ap (λ n. length known + n) (length-map c.guards given)

module _ (n : ℕ) (known : List Known) (left : ℕ) (all : List LinearCase) (old : Cursor) where
  abbrev Stop : LinearCase → CoverTree → Type 0
  Stop = IsStop n (length known) left

  abbrev IsMet : LinearCase → CoverTree → Type 0
  IsMet c tree = IsMetCover (n + c.draws) no_target (known ++ as_given c.guards) tree

  -- covers of the first `k` cases were read, and `met` says whether they are met
  pub record StopsFirst (k : ℕ) (now : Cursor) (met : Bool) : Type 0 where
    pub covers : List CoverTree
    pub zip : AllZip (IsStop n (length known) left) (take k all) covers
    pub took : Takes (flat_map cover_lines covers) old now
    pub told : IsTrue met ↔ NoStepMet n known (take k all) covers

  module _ (k : ℕ) (now : Cursor) (met : Bool) (h : StopsFirst k now met) where
    pub stops_end : slice_get all k ≡ None → CheckedStops n known left all old now met
    stops_end past =
        let e : take k all ≡ all = take_all k all (none_past all k past) in
        record { covers = h.covers; zip = subst (λ cs. AllZip Stop cs h.covers) e h.zip; took = h.took; told = subst (λ cs. IsTrue met ↔ NoStepMet n known cs h.covers) e h.told }
      where
        none_past : (cs : List LinearCase) (i : ℕ) → slice_get cs i ≡ None → length cs ≤ i
        none_past [] i e = omega arith
        none_past (c ∷ cs) zero e = absurd (let x : ⊥ = cc in x)
        none_past (c ∷ cs) (suc i) e = let x = none_past cs i e in omega (arith, x)

    module _ (c : LinearCase) (there : slice_get all k ≡ Some c) where
      stepped : Stepped Stop cover_lines all (c ∷ drop (suc k) all) old now h.covers
      stepped = record { done = take k all; parts = split_next all k c there; zip = h.zip; took = h.took }

      pub stops_fail : (f : Failure) → FailsBy (cover false left (n + c.draws) (length (known ++ as_given c.guards)) (owed_count no_target)) now f → FailsBy (mapped (λ all. tt {0}) (each (stop_cover false left n (length known)) all)) old f
      stops_fail f e =
          stop_fails n (length known) left all (drop (suc k) all) (c ∷ drop (suc k) all) c old now h.covers f stepped refl
          (subst (λ m. FailsBy (cover false left (n + c.draws) m (owed_count no_target)) now f) (known_guards known c) e)

      pub stops_next : (new : Cursor) (stuck both : Bool) → CheckedCover (n + c.draws) no_target (known ++ as_given c.guards) left now new stuck → (IsTrue both ↔ (IsTrue met × IsTrue stuck)) → StopsFirst (k + 1) new both
      stops_next new stuck both one joined =
          let e : take (k + 1) all ≡ take k all ++ c ∷ [] = (let x : k + 1 ≡ suc k = omega arith in ap (λ i. take i all) x) ∙ take_next all k c there in
          let many = zip_many Stop (take k all) h.covers h.zip in
          let within : Stop c one.tree = subst (λ m. IsCoverWithin (n + c.draws) (owed_count no_target) m left one.tree) (known_guards known c) one.within in
          let both_met = zip_last IsMet (take k all) h.covers c one.tree many in
          record {
            covers = h.covers ++ one.tree ∷ [];
            zip = subst (λ cs. AllZip Stop cs (h.covers ++ one.tree ∷ [])) (sym e) ((zip_last Stop (take k all) h.covers c one.tree many).1 (h.zip, within));
            took = takes_as (flat_map cover_lines h.covers ++ cover_lines one.tree) (flat_map cover_lines (h.covers ++ one.tree ∷ [])) old new (last_text cover_lines h.covers one.tree) (takes_both (flat_map cover_lines h.covers) (cover_lines one.tree) old now new h.took one.took);
            told = subst (λ cs. IsTrue both ↔ NoStepMet n known cs (h.covers ++ one.tree ∷ [])) (sym e) (
              λ t. both_met.1 (h.told.0 (joined.0 t).0, one.told.0 (joined.0 t).1),
              λ m. joined.1 (h.told.1 (both_met.0 m).0, one.told.1 (both_met.0 m).1),
            );
          }
