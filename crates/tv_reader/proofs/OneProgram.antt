-- A text is that of one program, or it has one first fault.
use Rattle.std.proofs.Common.{◌≡◌, ℕ, zero, suc, ◌+◌, ◌<◌, false, List, [], ◌∷◌, ◌++◌, length, drop, Some, Ok, refl, sym, ap, subst, ◌∙◌, arith, length-append, length-drop}
use Rattle.tv_language.specs.declared.token.Token.{Token}
use Rattle.tv_language.specs.Tokens.{IsTokens}
use Rattle.tv_language.proofs.OneList.{one_list}
use Rattle.tv_program.specs.Systems.{System}
use Rattle.tv_program.specs.Trees.{Transition}
use Rattle.tv_language.specs.Symbols.{lexemes}
use Rattle.tv_language.specs.Programs.{IsProgramText}
use Rattle.tv_grammar.specs.Reads.{Fault, next}
use Rattle.tv_grammar.specs.Exact.{IsText}
use Rattle.tv_grammar.proofs.OneRefusal.{even_parts}
use Rattle.tv_grammar.proofs.Results.{ok_is}
use Rattle.tv_reading.specs.Marks as marks
use Rattle.tv_reading.specs.Marks.{Kind, Mark}
use Rattle.tv_reading.specs.SumGrammar.{every}
use Rattle.tv_reading.specs.Refusals.{Refuses}
use Rattle.tv_reading.proofs.OneRefusal.{Refusal, not_refused, one_refusal}
use Rattle.tv_reader.specs.declared.fault.What.{What}
use Rattle.tv_reader.specs.declared.fault.ReadFault.{ReadFault}
use Rattle.tv_reader.specs.declared.fault.ReadFault.TheVariants as faults
use Rattle.tv_reader.specs.ProgramMarks.{vocabulary, program_marks}
use Rattle.tv_reader.specs.ProgramGrammar.{Items, program_at}
use Rattle.tv_reader.specs.Places.{line_of, column_of}
use Rattle.tv_reader.specs.FirstFaults.{ends_with_colon, brought_in, HasFault, HasNoStart, IsFirstFault}
use Rattle.tv_reader.proofs.ProgramExact.{program_exact}
use Rattle.tv_reader.proofs.ProgramEnds.{program_ends}
use Rattle.tv_reader.proofs.ProgramLoose.{program_loose}
use Rattle.tv_reader.proofs.WholeTexts.{IsReadWhole, program_only}
use Rattle.tv_reader.proofs.FinalLemmas.{marks_length, lexemes_length}

-- ---- lists

drop_some : {X : Type 0} (n : ℕ) (xs : List X) → n < length xs → (x : X) × (next (drop n xs) ≡ Some x)
drop_some zero [] l = absurd (omega arith)
drop_some zero (x ∷ xs) l = (x, refl)
drop_some (suc n) [] l = absurd (omega arith)
drop_some (suc n) (x ∷ xs) l = drop_some n xs (omega arith)

-- ---- one program

read_text : (ts : List Mark) (x : Items) → IsText (program_at every 63) ts x → (program_at every 63).read ts ≡ Ok (x, [])
read_text ts x d = ap (program_at every 63).read d.text ∙ (program_exact every 63).only d.it [] (program_ends every 63 d.it) ∙ ap (λ (y : Items). Ok (y, [])) d.is

one_items : (ts : List Mark) (x y : Items) → IsText (program_at every 63) ts x → IsText (program_at every 63) ts y → x ≡ y
one_items ts x y d e = ap (λ (z : Items × List Mark). z.0) (ok_is {E = Fault Mark Kind} {A = Items × List Mark} (x, []) (y, []) (sym (read_text ts x d) ∙ read_text ts y e))

whole : (text : List ℕ) (p : System) (t : IsProgramText text p) (tokens : List Token) → IsTokens 0 text tokens → IsReadWhole text tokens p
whole text p t tokens scanned = subst (λ (ts : List Token). IsReadWhole text ts p) (one_list 0 text t.tokens tokens t.scanned scanned) (program_only text p t)

pub one_program : (text : List ℕ) (p q : System) → IsProgramText text p → IsProgramText text q → p ≡ q
one_program text p q t u =
    let a = whole text p t t.tokens t.scanned in
    let b = whole text q u t.tokens t.scanned in
    let edges : p.edges ≡ q.edges = ap (λ (x : Items). x.edges) (one_items _ _ _ a.is b.is) in
    a.same
    ∙ ap (λ (es : List Transition). record { variables = (vocabulary (lexemes text t.tokens)).variables; locations = (vocabulary (lexemes text t.tokens)).labels; start = 0; edges = es }) edges
    ∙ sym b.same

-- ---- a text of items has no fault at a token

refusal : (k : Kind) (ts r : List Mark) → (f : Refuses program_at 63 k ts r) → Refusal program_at 63 k f.before r
refusal k ts r f = record { some = f.some; none = f.none; begun = f.begun }

no_fault : (text : List ℕ) (tokens : List Token) (x : Items) → IsTokens 0 text tokens → IsText (program_at every 63) (program_marks text tokens) x → (k : Kind) (line column : ℕ) → HasFault text k line column → ⊥
no_fault text tokens x scanned d k line column f =
    let e = one_list 0 text tokens (f.before ++ f.here ∷ f.behind) scanned f.scanned in
    let same : program_marks text tokens ≡ program_marks text (f.before ++ f.here ∷ f.behind) = ap (program_marks text) e in
    not_refused program_at program_exact program_ends (λ kept syntax n m l. program_loose kept syntax n m l) 63 k f.refused.before _ (refusal k _ _ f.refused) d.it (sym d.text ∙ same ∙ f.refused.parts)

some_start : (ls : List ℕ) → 0 ∷ [] ≡ ls → ls ≡ [] → ⊥
some_start ls e f = cc

pub faultless : (text : List ℕ) (p : System) (f : ReadFault) → IsProgramText text p → IsFirstFault text f → ⊥
faultless text p f t h = by f h
  where
    a : IsReadWhole text t.tokens p
    a = whole text p t t.tokens t.scanned

    at : (k : Kind) (line column : ℕ) → HasFault text k line column → ⊥
    at = no_fault text t.tokens (record { starts = 0 ∷ []; edges = p.edges }) t.scanned a.is

    by : (f : ReadFault) → IsFirstFault text f → ⊥
    by (faults.Syntax line column) h = at marks.Syntax line column h
    by faults.NoStart h =
        let w = whole text p t h.tokens h.scanned in
        some_start h.items.starts (ap (λ (x : Items). x.starts) (one_items _ _ h.items w.is h.are_items)) h.none
    by (faults.TwoStarts line column) h = at marks.TwoStarts line column h
    by (faults.NotLinear line column) h = at marks.NotLinear line column h
    by (faults.Wide line column) h = at marks.Wide line column h
    by (faults.TooMany what line column) h = at marks.TooMany line column h.0
    by (faults.Deep line column) h = at marks.Deep line column h
    by faults.Memory h = h

-- ---- one fault at a token

record SameFault (j k : Kind) (before front : List Token) (here there : Token) : Type 0 where
  kind : j ≡ k
  place : before ≡ front
  token : here ≡ there

first_is : (t u : Token) (ts us : List Token) → t ∷ ts ≡ u ∷ us → t ≡ u
first_is t u ts us e = cc

same_fault : (text : List ℕ) (j k : Kind) (l m c d : ℕ) (f : HasFault text j l c) (g : HasFault text k m d) → SameFault j k f.before g.before f.here g.here
same_fault text j k l m c d f g =
    let e = one_list 0 text (f.before ++ f.here ∷ f.behind) (g.before ++ g.here ∷ g.behind) f.scanned g.scanned in
    let ms : List Mark = program_marks text (f.before ++ f.here ∷ f.behind) in
    let h : Refuses program_at 63 k ms (drop (length g.before) ms) = subst (λ (ts : List Token). Refuses program_at 63 k (program_marks text ts) (drop (length g.before) (program_marks text ts))) (sym e) g.refused in
    let long : length ms ≡ length (f.before ++ f.here ∷ f.behind) = marks_length _ false 0 _ ∙ lexemes_length text (f.before ++ f.here ∷ f.behind) in
    let front = length-append f.before (f.here ∷ f.behind) in
    let other : length (f.before ++ f.here ∷ f.behind) ≡ length g.before + length (g.here ∷ g.behind) = ap length e ∙ length-append g.before (g.here ∷ g.behind) in
    let t = drop_some (length f.before) ms (omega (arith, long, front)) in
    let one = one_refusal program_at program_exact program_ends (λ kept syntax n m l. program_loose kept syntax n m l) 63 j k f.refused.before h.before _ _ t.0 t.1 (sym f.refused.parts ∙ h.parts) (refusal j _ _ f.refused) (refusal k _ _ h) in
    let rests = ap length one.rest in
    let left = length-drop (length f.before) ms in
    let right = length-drop (length g.before) ms in
    let even : length f.before ≡ length g.before = omega (arith, long, front, other, rests, left, right) in
    let parts = even_parts f.before g.before _ _ e even in
    record { kind = one.kind; place = parts.fronts; token = first_is f.here g.here f.behind g.behind parts.rests }

-- the fault of this kind at this token
abbrev fault_of : List ℕ → Kind → List Token → Token → ReadFault
fault_of text marks.Syntax before t = faults.Syntax (line_of text t.at) (column_of text t.at)
fault_of text marks.Wide before t = faults.Wide (line_of text t.at) (column_of text t.at)
fault_of text marks.Deep before t = faults.Deep (line_of text t.at) (column_of text t.at)
fault_of text marks.NotLinear before t = faults.NotLinear (line_of text t.at) (column_of text t.at)
fault_of text marks.TwoStarts before t = faults.TwoStarts (line_of text t.at) (column_of text t.at)
fault_of text marks.TooMany before t = faults.TooMany (brought_in (ends_with_colon false before) t.kind) (line_of text t.at) (column_of text t.at)
fault_of text marks.UnknownName before t = faults.Memory

data Told (text : List ℕ) (f : ReadFault) : Type 0 where
  startless : HasNoStart text → f ≡ faults.NoStart → Told text f
  located : (k : Kind) (line column : ℕ) (h : HasFault text k line column) → f ≡ fault_of text k h.before h.here → Told text f

placed : (text : List ℕ) (make : ℕ → ℕ → ReadFault) (k : Kind) (line column : ℕ) (h : HasFault text k line column) → make line column ≡ make (line_of text h.here.at) (column_of text h.here.at)
placed text make k line column h = ap (λ (x : ℕ). make x column) h.is_line ∙ ap (λ (x : ℕ). make (line_of text h.here.at) x) h.is_column

told : (text : List ℕ) (f : ReadFault) → IsFirstFault text f → Told text f
told text (faults.Syntax line column) h = located marks.Syntax line column h (placed text faults.Syntax _ line column h)
told text faults.NoStart h = startless h refl
told text (faults.TwoStarts line column) h = located marks.TwoStarts line column h (placed text faults.TwoStarts _ line column h)
told text (faults.NotLinear line column) h = located marks.NotLinear line column h (placed text faults.NotLinear _ line column h)
told text (faults.Wide line column) h = located marks.Wide line column h (placed text faults.Wide _ line column h)
told text (faults.TooMany what line column) h = located marks.TooMany line column h.0 (ap (λ (w : What). faults.TooMany w line column) h.1 ∙ placed text (faults.TooMany (brought_in (ends_with_colon false h.0.before) h.0.here.kind)) _ line column h.0)
told text (faults.Deep line column) h = located marks.Deep line column h (placed text faults.Deep _ line column h)
told text faults.Memory h = absurd h

one_told : (text : List ℕ) (f g : ReadFault) → Told text f → Told text g → f ≡ g
one_told text f g (startless h e) (startless i d) = e ∙ sym d
one_told text f g (startless h e) (located k m d i s) = absurd (no_fault text h.tokens h.items h.scanned h.are_items k m d i)
one_told text f g (located j l c h e) (startless i s) = absurd (no_fault text i.tokens i.items i.scanned i.are_items j l c h)
one_told text f g (located j l c h e) (located k m d i s) =
    let same = same_fault text j k l m c d h i in
    e
    ∙ ap (λ (x : Kind). fault_of text x h.before h.here) same.kind
    ∙ ap (λ (ts : List Token). fault_of text k ts h.here) same.place
    ∙ ap (λ (t : Token). fault_of text k i.before t) same.token
    ∙ sym s

pub one_fault : (text : List ℕ) (f g : ReadFault) → IsFirstFault text f → IsFirstFault text g → f ≡ g
one_fault text f g h i = one_told text f g (told text f h) (told text g i)
