-- Where reading a certificate stops, its first line at fault is.
use Rattle.std.proofs.Common.{◌≡◌, ◌<◌, ℕ, ℤ, pos, true, false, List, [], ◌∷◌, ◌++◌, length, None, Result, Ok, Err, refl, sym, ap, subst, ◌∙◌}
use Rattle.std.specs.Prelude.{slice_get}
use Rattle.tv_grammar.specs.Reads.{Fault, faulty, fault, ◌>>=◌, next}
use Rattle.tv_grammar.specs.Langs.{Lang, at_end, read_all}
use Rattle.tv_grammar.specs.Exact.{Exact, Least, Ends}
use Rattle.tv_grammar.proofs.Results.{clash}
use Rattle.tv_grammar.proofs.ExactLemmas.{apart}
use Rattle.tv_grammar.proofs.LooseLemmas.{none_in, begun}
use Rattle.tv_lines.specs.Lines.{PlainLine, formed}
use Rattle.tv_lines.specs.declared.head.Head.TheVariants as heads
use Rattle.tv_cases.specs.LinearCases.{CaseSystem}
use Rattle.tv_cert_reader.specs.declared.kind.LineKind.{LineKind}
use Rattle.tv_cert_reader.specs.declared.kind.LineKind.TheVariants.{Syntax, Wide, Deep, Shape}
use Rattle.tv_cert_reader.specs.Demands.{Outline, outlines_at}
use Rattle.tv_cert_reader.specs.NodeGrammar.{node}
use Rattle.tv_cert_reader.specs.CertificateGrammar.{Sides, NamesNoPiece, certificate, IsOneTooMany, Stops, IsFault, goes_no_further, behind_the_last}
use Rattle.tv_cert_reader.proofs.ExactNodes.{node_exact, certificate_exact}
use Rattle.tv_cert_reader.proofs.Closed.{certificate_closed, certificate_ends}
use Rattle.tv_cert_reader.proofs.LineKinds.{certificate_can_be}
use Rattle.tv_cert_reader.proofs.Loose.{not_deep, certificate_loose}

-- the lines of what is disproved
abbrev pub disproved : List PlainLine → List PlainLine
disproved us = formed heads.Header [] ∷ formed heads.Disproved [] ∷ us

-- the lines before a fault are not the whole of a text that nothing goes on
unfinished : {T K X : Type 0} (l : Lang T K X) → Exact l → (k : K) (ts r : List T) → l.read ts ≡ fault k r → (before : List T) → ts ≡ before ++ r → ((d : l.Of) → l.goes_on d (next r) ≡ false) → (d : l.Of) → l.text d [] ≡ before → ⊥
unfinished {T} {K} {X} l h k ts r e before parts closed d is =
    let whole : ts ≡ l.text d r = parts ∙ ap (λ (us : List T). us ++ r) (sym is) ∙ sym (apart l h d r) in
    clash {A = X × List T} (l.value d, r) (faulty k r) (sym (h.only d r (closed d)) ∙ ap l.read (sym whole) ∙ e)

-- no text begins with the lines up to a fault
none_here : {T K X : Type 0} (l : Lang T K X) → Exact l → Ends l → (k : K) (ts r : List T) (f : Least l k ts r) (d : l.Of) (other : List T) → next other ≡ next r → l.text d [] ≡ f.before ++ other → ⊥
none_here {T} {K} {X} l h ends k ts r f d other same text = clash {A = X × List T} (l.value d, []) (faulty k other) (sym (ap l.read (sym text) ∙ h.only d [] (ends d)) ∙ f.again other same)

module _ (system : CaseSystem) (some : 0 < system.locations) (sides : Sides) where
  one_too_many : (k : LineKind) (ls rest : List PlainLine) (f : Least (certificate false system sides) k ls rest) → IsOneTooMany system sides k f.before rest
  one_too_many Syntax ls rest f = none_in not_deep _ (certificate true system sides) (certificate_exact true system some sides) (certificate_ends true system sides) (certificate_loose system some sides) Syntax refl ls rest f
  one_too_many Wide ls rest f = none_in not_deep _ (certificate true system sides) (certificate_exact true system some sides) (certificate_ends true system sides) (certificate_loose system some sides) Wide refl ls rest f
  one_too_many Deep ls rest f = λ t at. begun not_deep _ (certificate true system sides) (certificate_exact true system some sides) (certificate_loose system some sides) Deep refl ls rest t at f
  one_too_many Shape ls rest f = none_in not_deep _ (certificate true system sides) (certificate_exact true system some sides) (certificate_ends true system sides) (certificate_loose system some sides) Shape refl ls rest f

  stops : (k : LineKind) (ls rest : List PlainLine) → (certificate false system sides).read ls ≡ fault k rest → Stops system sides ls rest k
  stops k ls rest e =
      let exact = certificate_exact false system some sides in
      let f = exact.least ls k rest e in
      record {
        stops = record {
          before = f.before;
          parts = f.parts;
          none = none_here (certificate false system sides) exact (certificate_ends false system sides) k ls rest f;
          some = (f.it, (f.more, f.whole));
        };
        unfinished = unfinished (certificate false system sides) exact k ls rest e f.before f.parts (λ d. (certificate_closed false system sides).goes d (next rest));
        can_be = (certificate_can_be system sides).kind ls k rest e;
        deep = one_too_many k ls rest f;
      }

  stops_by : (ls rest : List PlainLine) (k : LineKind) (out : Result (Unit {0} × List PlainLine) (Fault PlainLine LineKind)) → (certificate false system sides).read ls ≡ out → (out >>= λ x. at_end Syntax x.0 x.1) ≡ fault k rest → IsFault system sides ls rest k
  stops_by ls rest k (Ok (x, [])) e i = absurd cc
  stops_by ls rest k (Ok (x, t ∷ us)) e i =
      let is : Syntax ≡ k = cc in
      let left : t ∷ us ≡ rest = cc in
      let f = (certificate_exact false system some sides).found ls x (t ∷ us) e in
      subst (λ (j : LineKind). IsFault system sides ls rest j) is (subst (λ (r : List PlainLine). IsFault system sides ls r Syntax) left (behind_the_last t refl (record { is = refl; it = f.it; text = f.text })))
  stops_by ls rest k (Err (faulty j r)) e i = goes_no_further (stops k ls rest (e ∙ i))

  pub first_fault : (ls rest : List PlainLine) (k : LineKind) → read_all Syntax (certificate false system sides) ls ≡ fault k rest → IsFault system sides ls rest k
  first_fault ls rest k e = stops_by ls rest k ((certificate false system sides).read ls) refl e

  -- the values are said to lie in a piece that is not there
  pub no_piece_fault :
      (ls us rest : List PlainLine) (os : List Outline) (place : ℕ) (values : List ℤ) (behind : List PlainLine)
      → ls ≡ disproved us → (node false system sides.denied).read us ≡ Ok (os, rest) → rest ≡ formed heads.At (pos place ∷ values) ∷ behind
      → length values ≡ system.variables → slice_get (outlines_at os system.start) place ≡ None → NamesNoPiece system sides ls rest
  no_piece_fault ls us rest os place values behind is e at many none =
      let f = (node_exact false system some sides.denied).found us os rest e in
      record {
        nodes = f.it;
        place = place;
        values = values;
        behind = behind;
        rest_is = at;
        many = many;
        lines = is ∙ ap disproved f.text;
        none = ap (λ (ps : List Outline). slice_get (outlines_at ps system.start) place) f.is ∙ none;
      }
