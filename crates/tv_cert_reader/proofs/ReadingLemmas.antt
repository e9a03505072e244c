-- What is read of parts, and what is read of the whole.
use Rattle.std.proofs.Common.{◌≡◌, ℕ, zero, suc, ◌+◌, ◌<◌, ℤ, List, [], ◌∷◌, ◌++◌, length, All, Result, Ok, Err, refl, sym, ap, ◌∙◌, subst, arith}
use Rattle.std.specs.List.{flat_map}
use Rattle.std.specs.Result.{IsErrAnd}
use Rattle.std.proofs.lemmas.Result.{err_from_is_err_and}
use Rattle.std.proofs.lemmas.List.{append_assoc, length_push}
use Rattle.std.proofs.lemmas.Grind.{flat_map-append}
use Rattle.std.proofs.lemmas.List.{append-nil}
use Rattle.std.proofs.lemmas.List.Elements.{All-nil, All-head, All-tail, All-push}
use Rattle.tv_grammar.specs.Reads.{fault, ◌>>=◌}
use Rattle.tv_grammar.specs.Langs.{unit, then, mapped, headed, times, stop, go, branch_read}
use Rattle.tv_lines.specs.Lines.{PlainLine, formed, formless, wide}
use Rattle.tv_lines.specs.declared.head.Head.{Head}
use Rattle.tv_cert_reader.specs.declared.kind.LineKind.{LineKind}
use Rattle.tv_cert_reader.specs.declared.kind.LineKind.TheVariants.{Syntax, Wide}
use Rattle.tv_cert_reader.specs.LineGrammar.{Grammar, Behind, many}
use Rattle.tv_cert_reader.proofs.CompleteReads.{then_read}
use Rattle.tv_cert_reader.specs.declared.cursor.Cursor.{Cursor}
use Rattle.tv_cert_reader.specs.declared.failure.Failure.{Failure}
use Rattle.tv_cert_reader.specs.declared.failure.Failure.TheVariants.{Fault, Memory}
use Rattle.tv_cert_reader.specs.Reading.{last_number, Takes, FaultAt, FailsBy, IsLineFault, IsFailedLine}

-- at the exit of a `?`
pub at_exit : {X : Type 0} (P : Result X Failure → Type 0) (result : Result X Failure) (e : Failure) → IsErrAnd result (λ d. d ≡ e) → P (Err e) → P result
at_exit P result e is h = let p = err_from_is_err_and result is in subst P (sym (p.1 ∙ ap Err p.2)) h

-- ---- a line and what follows it

failed_read : {V : Type 0} (cases : PlainLine → Behind V) (ls : List PlainLine) (k : LineKind) → cases formless ≡ stop Syntax → cases wide ≡ stop Wide → IsLineFault k ls → (headed Syntax cases).read ls ≡ fault k ls
failed_read cases [] k a b h = ap (λ k. fault k []) (sym h)
failed_read cases (formless ∷ ls) k a b h = ap (λ c. branch_read c (formless ∷ ls) ls) a ∙ ap (λ k. fault k (formless ∷ ls)) (sym h)
failed_read cases (wide ∷ ls) k a b h = ap (λ c. branch_read c (wide ∷ ls) ls) b ∙ ap (λ k. fault k (wide ∷ ls)) (sym h)
failed_read cases (formed head zs ∷ ls) k a b h = absurd h

-- a line without a head
pub line_fails : {V : Type 0} (cases : PlainLine → Behind V) (c : Cursor) (f : Failure) → cases formless ≡ stop Syntax → cases wide ≡ stop Wide → IsFailedLine c f → FailsBy (headed Syntax cases) c f
line_fails cases c (Fault k line) a b h = record { rest = c.lines; read = failed_read cases c.lines k a b h.0; counted = omega (arith, h.1) }
line_fails cases c Memory a b h = tt

-- a line that may not stand here
pub line_stops : {V : Type 0} (cases : PlainLine → Behind V) (old new : Cursor) (head : Head) (zs : List ℤ) (k : LineKind) → Takes (formed head zs ∷ []) old new → new.taken ≡ old.taken + 1 → cases (formed head zs) ≡ stop k → FaultAt (headed Syntax cases) old k new.taken
line_stops cases old new head zs k t one is = record {
  rest = formed head zs ∷ new.lines;
  read = ap (headed Syntax cases).read t.lines ∙ ap (λ c. branch_read c (formed head zs ∷ new.lines) new.lines) is;
  counted = omega (arith, t.last);
}

-- what follows a line fails
pub behind_fails : {V : Type 0} (cases : PlainLine → Behind V) (g : Grammar V) (old new : Cursor) (head : Head) (zs : List ℤ) (f : Failure) → Takes (formed head zs ∷ []) old new → cases (formed head zs) ≡ go g → FailsBy g new f → FailsBy (headed Syntax cases) old f
behind_fails cases g old new head zs (Fault k line) t is h = record {
  rest = h.rest;
  read = ap (headed Syntax cases).read t.lines ∙ ap (λ c. branch_read c (formed head zs ∷ new.lines) new.lines) is ∙ h.read;
  counted = omega (arith, t.last, h.counted);
}
behind_fails cases g old new head zs Memory t is h = tt

-- ---- a front and what follows it

pub first_fails : {X Y : Type 0} (a : Grammar X) (b : X → Grammar Y) (c : Cursor) (f : Failure) → FailsBy a c f → FailsBy (then a b) c f
first_fails a b c (Fault k line) h = record { rest = h.rest; read = ap (λ o. o >>= λ p. (b p.0).read p.1) h.read; counted = h.counted }
first_fails a b c Memory h = tt

pub second_fails : {X Y : Type 0} (a : Grammar X) (b : X → Grammar Y) (x : X) (old mid : Cursor) (f : Failure) → a.read old.lines ≡ Ok (x, mid.lines) → last_number mid ≡ last_number old → FailsBy (b x) mid f → FailsBy (then a b) old f
second_fails a b x old mid (Fault k line) first last h = record {
  rest = h.rest;
  read = then_read a b old.lines x mid.lines first ∙ h.read;
  counted = omega (arith, last, h.counted);
}
second_fails a b x old mid Memory first last h = tt

pub mapped_fails : {X Y : Type 0} (g : X → Y) (l : Grammar X) (c : Cursor) (f : Failure) → FailsBy l c f → FailsBy (mapped g l) c f
mapped_fails g l c f h = first_fails l (λ x. unit (g x)) c f h

-- ---- lines taken one part after another

pub takes_none : (c : Cursor) → Takes [] c c
takes_none c = record { lines = refl; last = refl }

pub takes_both : (xs ys : List PlainLine) (old mid new : Cursor) → Takes xs old mid → Takes ys mid new → Takes (xs ++ ys) old new
takes_both xs ys old mid new a b = record {
  lines = a.lines ∙ ap (λ ls. xs ++ ls) b.lines ∙ sym (append_assoc xs ys new.lines);
  last = b.last ∙ a.last;
}

pub takes_as : (xs ys : List PlainLine) (old new : Cursor) → xs ≡ ys → Takes xs old new → Takes ys old new
takes_as xs ys old new e h = subst (λ ls. Takes ls old new) e h

-- ---- loops

-- what a loop has read after i turns
pub record Gathered {A : Type 0} (P : A → Type 0) (text : A → List PlainLine) (old : Cursor) (i : ℕ) (now : Cursor) (xs : List A) : Type 0 where
  pub many : length xs ≡ i
  pub each : All P xs
  pub took : Takes (flat_map text xs) old now

pub last_text : {A : Type 0} (text : A → List PlainLine) (xs : List A) (x : A) → flat_map text xs ++ text x ≡ flat_map text (xs ++ x ∷ [])
last_text text xs x = sym (flat_map-append text xs (x ∷ []) ∙ ap (λ ls. flat_map text xs ++ ls) (append-nil (text x)))

module _ {A : Type 0} (P : A → Type 0) (text : A → List PlainLine) (old : Cursor) where
  pub gathered_none : Gathered P text old 0 old []
  gathered_none = record { many = refl; each = All-nil P; took = takes_none old }

  pub gathered_next : (i : ℕ) (now new : Cursor) (xs ys : List A) (x : A) → Gathered P text old i now xs → P x → Takes (text x) now new → ys ≡ xs ++ x ∷ [] → Gathered P text old (i + 1) new ys
  gathered_next i now new xs ys x g p t e = subst (Gathered P text old (i + 1) new) (sym e) (record {
    many = length_push xs x ∙ ap (λ n. n + 1) g.many;
    each = All-push P xs x g.each p;
    took = takes_as (flat_map text xs ++ text x) (flat_map text (xs ++ x ∷ [])) old new (last_text text xs x) (takes_both (flat_map text xs) (text x) old now new g.took t);
  })

-- the texts of `xs` are read, and the next one fails
module _ {A X : Type 0} (l : Grammar X) (P : A → Type 0) (text : A → List PlainLine) (value : A → X) (reads : (a : A) (r : List PlainLine) → P a → l.read (text a ++ r) ≡ Ok (value a, r)) where
  times_fault : (n : ℕ) (xs : List A) (now r : List PlainLine) (k : LineKind) → length xs < n → All P xs → l.read now ≡ fault k r → (times n l).read (flat_map text xs ++ now) ≡ fault k r
  unfolding times
  times_fault zero xs now r k bounded all e = absurd (omega (arith, bounded))
  times_fault (suc n) [] now r k bounded all e = ap (λ o. o >>= λ x. (mapped (λ xs. x.0 ∷ xs) (times n l)).read x.1) e
  times_fault (suc n) (a ∷ xs) now r k bounded all e =
      ap (times (suc n) l).read (append_assoc (text a) (flat_map text xs) now)
      ∙ then_read l (λ x. mapped (λ more. x ∷ more) (times n l)) (text a ++ (flat_map text xs ++ now)) (value a) (flat_map text xs ++ now) (reads a (flat_map text xs ++ now) (All-head P a xs all))
      ∙ ap (λ o. o >>= λ y. Ok (value a ∷ y.0, y.1)) (times_fault n xs now r k (omega (arith, bounded)) (All-tail P a xs all) e)

  pub times_fails : (n i : ℕ) (old now : Cursor) (xs : List A) (f : Failure) → Gathered P text old i now xs → i < n → FailsBy l now f → FailsBy (times n l) old f
  times_fails n i old now xs (Fault k line) g bounded h = record {
    rest = h.rest;
    read = ap (times n l).read g.took.lines ∙ times_fault n xs now.lines h.rest k (let e = g.many in omega (arith, e, bounded)) g.each h.read;
    counted = omega (arith, g.took.last, h.counted);
  }
  times_fails n i old now xs Memory g bounded h = tt

pub many_fails : {A : Type 0} (l : Grammar (Unit {0})) (P : A → Type 0) (text : A → List PlainLine) → ((a : A) (r : List PlainLine) → P a → l.read (text a ++ r) ≡ Ok (tt, r)) → (n i : ℕ) (old now : Cursor) (xs : List A) (f : Failure) → Gathered P text old i now xs → i < n → FailsBy l now f → FailsBy (many n l) old f
many_fails l P text reads n i old now xs f g bounded h = mapped_fails (λ all. tt) (times n l) old f (times_fails l P text (λ a. tt) reads n i old now xs f g bounded h)
