-- What is read where there is no step.
use Rattle.std.proofs.Common.{◌≡◌, ℕ, ◌+◌, false, List, [], ◌∷◌, ◌++◌, length, Ok, sym, ap, ◌∙◌, subst, arith}
use Rattle.std.specs.List.{AllZip, flat_map}
use Rattle.std.proofs.lemmas.List.{append_assoc, append-nil}
use Rattle.tv_grammar.specs.Reads.{fault, ◌>>=◌}
use Rattle.tv_grammar.specs.Langs.{mapped, each}
use Rattle.tv_lines.specs.Lines.{PlainLine}
use Rattle.tv_linear.specs.declared.cover.CoverTree.{CoverTree}
use Rattle.tv_cases.specs.LinearCases.{LinearCase}
use Rattle.tv_cert_reader.specs.CertificateLines.{cover_lines}
use Rattle.tv_cert_reader.specs.declared.kind.LineKind.{LineKind}
use Rattle.tv_cert_reader.specs.Demands.{no_counts}
use Rattle.tv_cert_reader.specs.LineGrammar.{Grammar}
use Rattle.tv_cert_reader.specs.ChoiceGrammar.{stop_cover}
use Rattle.tv_cert_reader.proofs.CompleteReads.{then_read}
use Rattle.tv_cert_reader.proofs.CompleteCovers.{cover_read}
use Rattle.tv_cert_reader.specs.declared.cursor.Cursor.{Cursor}
use Rattle.tv_cert_reader.specs.declared.failure.Failure.{Failure}
use Rattle.tv_cert_reader.specs.declared.failure.Failure.TheVariants.{Fault, Memory}
use Rattle.tv_cert_reader.specs.Reading.{Takes, FailsBy}
use Rattle.tv_cert_reader.specs.Choices.{IsStop}
use Rattle.tv_cert_reader.proofs.ReadingLemmas.{mapped_fails, takes_both, takes_as, last_text}
use Rattle.tv_linear.proofs.ListLaws.{zip_push}

-- what was read for some of a list, and what of the list is left
pub record Stepped {B A : Type 0} (R : B → A → Type 0) (text : A → List PlainLine) (all left : List B) (old now : Cursor) (xs : List A) : Type 0 where
  pub done : List B
  pub parts : all ≡ done ++ left
  pub zip : AllZip R done xs
  pub took : Takes (flat_map text xs) old now

module _ {B A : Type 0} (R : B → A → Type 0) (text : A → List PlainLine) (all : List B) (old : Cursor) where
  pub stepped_next : (b : B) (left more : List B) (now new : Cursor) (xs ys : List A) (x : A) → Stepped R text all more old now xs → more ≡ b ∷ left → R b x → Takes (text x) now new → ys ≡ xs ++ x ∷ [] → Stepped R text all left old new ys
  stepped_next b left more now new xs ys x s is r t e = subst (Stepped R text all left old new) (sym e) (record {
    done = s.done ++ b ∷ [];
    parts = s.parts ∙ ap (λ l. s.done ++ l) is ∙ sym (append_assoc s.done (b ∷ []) left);
    zip = zip_push R s.done xs b x s.zip r;
    took = takes_as (flat_map text xs ++ text x) (flat_map text (xs ++ x ∷ [])) old new (last_text text xs x) (takes_both (flat_map text xs) (text x) old now new s.took t);
  })

  pub stepped_as : (left more : List B) (now : Cursor) (xs : List A) → Stepped R text all more old now xs → more ≡ left → Stepped R text all left old now xs
  stepped_as left more now xs s e = subst (λ l. Stepped R text all l old now xs) e s

  pub stepped_all : (now : Cursor) (xs : List A) → Stepped R text all [] old now xs → AllZip R all xs × Takes (flat_map text xs) old now
  stepped_all now xs s = (subst (λ bs. AllZip R bs xs) (sym (s.parts ∙ append-nil s.done)) s.zip, s.took)

-- some are read, and the next one fails
module _ {B A X : Type 0} (l : B → Grammar X) (R : B → A → Type 0) (text : A → List PlainLine) (value : A → X) (reads : (b : B) (a : A) (r : List PlainLine) → R b a → (l b).read (text a ++ r) ≡ Ok (value a, r)) where
  each_fault : (bs left : List B) (b : B) (xs : List A) (now r : List PlainLine) (k : LineKind) → AllZip R bs xs → (l b).read now ≡ fault k r → (each l (bs ++ b ∷ left)).read (flat_map text xs ++ now) ≡ fault k r
  unfolding each
  each_fault [] left b [] now r k all e = ap (λ o. o >>= λ x. (mapped (λ xs. x.0 ∷ xs) (each l left)).read x.1) e
  each_fault [] left b (a ∷ xs) now r k all e = absurd all
  each_fault (c ∷ bs) left b [] now r k all e = absurd all
  each_fault (c ∷ bs) left b (a ∷ xs) now r k all e =
      ap (each l (c ∷ (bs ++ b ∷ left))).read (append_assoc (text a) (flat_map text xs) now)
      ∙ then_read (l c) (λ x. mapped (λ more. x ∷ more) (each l (bs ++ b ∷ left))) (text a ++ (flat_map text xs ++ now)) (value a) (flat_map text xs ++ now) (reads c a (flat_map text xs ++ now) all.0)
      ∙ ap (λ o. o >>= λ y. Ok (value a ∷ y.0, y.1)) (each_fault bs left b xs now r k all.1 e)

  pub each_fails : (all left more : List B) (b : B) (old now : Cursor) (xs : List A) (f : Failure) → Stepped R text all more old now xs → more ≡ b ∷ left → FailsBy (l b) now f → FailsBy (each l all) old f
  each_fails all left more b old now xs (Fault k line) s is h = record {
    rest = h.rest;
    read = (λ i. (each l ((s.parts ∙ ap (λ m. s.done ++ m) is) i)).read (s.took.lines i)) ∙ each_fault s.done left b xs now.lines h.rest k s.zip h.read;
    counted = omega (arith, s.took.last, h.counted);
  }
  each_fails all left more b old now xs Memory s is h = tt

pub stop_fails : (n known left : ℕ) (all later more : List LinearCase) (c : LinearCase) (old now : Cursor) (xs : List CoverTree) (f : Failure) → Stepped (IsStop n known left) cover_lines all more old now xs → more ≡ c ∷ later → FailsBy (stop_cover false left n known c) now f → FailsBy (mapped (λ all. tt {0}) (each (stop_cover false left n known) all)) old f
stop_fails n known left all later more c old now xs f s is h =
    mapped_fails (λ all. tt {0}) (each (stop_cover false left n known) all) old f
    (each_fails (stop_cover false left n known) (IsStop n known left) cover_lines (λ t. tt {0}) (λ c t r w. cover_read false left (n + c.draws) (known + length c.guards) no_counts t r w.shape w.shallow) all later more c old now xs f s is h)
