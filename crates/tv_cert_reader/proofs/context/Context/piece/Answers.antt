use Rattle.std.proofs.Common.{◌≡◌, ◌+◌, ◌-◌, ◌^◌, ◌<◌, ◌++◌, ap, rules, sym, subst, ◌∙◌}
use Rattle.tv_linear.specs.Packed.{ArePacked, packed}
use Rattle.tv_cases.specs.Systems.{cases_of}
use Rattle.tv_cert.specs.MarkedRows.{marked, marked_in}
use Rattle.tv_cert.specs.Shapes.{PieceShape}
use Rattle.tv_cert.proofs.MarkedLemmas.{both_packed, marked_packed}
use Rattle.tv_cert_reader.specs.CertificateLines.{piece_lines}
use Rattle.tv_cert_reader.specs.LineGrammar.{many}
use Rattle.tv_cert_reader.specs.declared.number_line.NumberLine.TheVariants.{Row, Rank}
use Rattle.tv_cert_reader.specs.NumberLines.{line_with}
use Rattle.tv_cert_reader.specs.Reading.{FailsBy, Takes}
use Rattle.tv_cert_reader.specs.Parts.{AreMany, IsWide}
use Rattle.tv_cert_reader.specs.Heads.{IsPieceHead}
use Rattle.tv_cert_reader.specs.Regions.{ReadsPiece}
use Rattle.tv_cert_reader.proofs.ReadingLemmas.{at_exit}
use Rattle.tv_cert_reader.proofs.RegionLemmas.{piece_stops, rows_stop, ranks_stop, piece_made}
use Rattle.tv_cert_reader.proofs.context.Context.piece.Goals as goal

pub returns-in_default : goal.returns-in_default
returns-in_default c =
    let system = cases_of c.args.self.now.about.now in
    piece_stops system c.args.ranks c.args.done c.args.cursor.now c.take.new.cursor c.in_ok-head.head c.in_ok-head.numbers.items c.in_ok-head.ensures.line.0 c.in_ok-head.ensures.line.1
    (λ mark l count is. c.in_default.ensures mark l count (subst (λ (x : Type 0). x) (λ i. IsPieceHead (sym c.locations.ensures.same i) c.args.done c.in_ok-head.head (sym c.deref.ensures.value i) mark l count) is))

pub returns-in_err-append_rows : goal.returns-in_err-append_rows
returns-in_err-append_rows c =
    let system = cases_of c.args.self.now.about.now in
    at_exit (ReadsPiece system c.args.ranks c.args.done c.args.cursor.now c.append_rows.new.cursor) c.from_residual-in_err-append_rows.result c.in_err-append_rows.field-0.0 c.from_residual-in_err-append_rows.ensures.1
    (rows_stop system c.args.ranks c.args.done c.args.cursor.now c.take.new.cursor c.in_ok-head.head c.in_ok-head.numbers.items c.in_ok-head.ensures.line.0 c.in-Some.mark c.in-Some.location c.in-Some.count
    (subst (λ (x : Type 0). x) (λ i. IsPieceHead (c.locations.ensures.same i) c.args.done c.in_ok-head.head (c.deref.ensures.value i) c.in-Some.mark c.in-Some.location c.in-Some.count) c.in-Some.ensures)
    c.in_err-append_rows.field-0.0
    (subst (λ n. FailsBy (many c.in-Some.count (line_with Row (n + 1))) c.take.new.cursor c.in_err-append_rows.field-0.0) c.variables-columns.ensures.same c.in_err-append_rows.ensures))

pub returns-in_err-append_rows-2 : goal.returns-in_err-append_rows-2
returns-in_err-append_rows-2 c =
    let system = cases_of c.args.self.now.about.now in
    let read = c.in_ok-append_rows.ensures in
    at_exit (ReadsPiece system c.args.ranks c.args.done c.args.cursor.now c.append_rows-2.new.cursor) c.from_residual-in_err-append_rows-2.result c.in_err-append_rows-2.field-0.0 c.from_residual-in_err-append_rows-2.ensures.1
    (ranks_stop system c.args.ranks c.args.done c.args.cursor.now c.take.new.cursor c.in_ok-head.head c.in_ok-head.numbers.items c.in_ok-head.ensures.line.0 c.in-Some.mark c.in-Some.location c.in-Some.count
    (subst (λ (x : Type 0). x) (λ i. IsPieceHead (c.locations.ensures.same i) c.args.done c.in_ok-head.head (c.deref.ensures.value i) c.in-Some.mark c.in-Some.location c.in-Some.count) c.in-Some.ensures)
    read.0 c.append_rows.new.cursor c.in_err-append_rows-2.field-0.0
    (subst (λ n. AreMany (IsWide n) c.in-Some.count read.0) c.variables-columns.ensures.same read.1.wide)
    read.2
    (subst (λ (x : Type 0). x) (λ i. FailsBy (many (c.rank_count-many.ensures i) (line_with Rank (c.variables-columns.ensures.same i + 1))) c.append_rows.new.cursor c.in_err-append_rows-2.field-0.0) c.in_err-append_rows-2.ensures))

pub from_numbers-requires : goal.from_numbers-requires
from_numbers-requires c =
    let read = c.in_ok-append_rows.ensures in
    let ranked = c.in_ok-append_rows-2.ensures in
    let numbers : c.shrink_to_fit.new.self.items ≡ packed read.0 ++ packed ranked.0 = c.shrink_to_fit.ensures.items ∙ ranked.1.numbers ∙ ap (λ xs. xs ++ packed ranked.0) (read.1.numbers ∙ ap (λ xs. xs ++ packed read.0) c.in_ok-packed.ensures.items) in
    let bounded : c.variables-columns.result < 2 ^ 32 - 1 = search rules in
    subst (λ (x : Type 0). x) (λ i. ArePacked c.variables-columns.result (read.1.wide.many i) (sym numbers i))
    (both_packed c.variables-columns.result read.0 ranked.0 read.1.wide.each ranked.1.wide.each bounded read.1.narrow ranked.1.narrow)

pub returns : goal.returns
returns c =
    let system = cases_of c.args.self.now.about.now in
    let read = c.in_ok-append_rows.ensures in
    let ranked = c.in_ok-append_rows-2.ensures in
    let numbers : c.shrink_to_fit.new.self.items ≡ packed read.0 ++ packed ranked.0 = c.shrink_to_fit.ensures.items ∙ ranked.1.numbers ∙ ap (λ xs. xs ++ packed ranked.0) (read.1.numbers ∙ ap (λ xs. xs ++ packed read.0) c.in_ok-packed.ensures.items) in
    let columns = c.variables-columns.result in
    let made : c.from_numbers.result ≡ marked c.in-Some.location (cases_of c.args.self.now.about.now).variables c.in-Some.mark read.0 ranked.0 =
    c.from_numbers.ensures
    ∙ (λ i. marked_in c.in-Some.location columns c.in-Some.mark (sym read.1.wide.many i) (numbers i))
    ∙ marked_packed columns read.0 ranked.0 read.1.wide.each ranked.1.wide.each c.in-Some.location c.in-Some.mark
    ∙ ap (λ n. marked c.in-Some.location n c.in-Some.mark read.0 ranked.0) c.variables-columns.ensures.same in
    subst (λ p. PieceShape system c.args.ranks c.args.done p × Takes (piece_lines p) c.args.cursor.now c.append_rows-2.new.cursor) (sym made)
    (piece_made system c.args.ranks c.args.done c.args.cursor.now c.take.new.cursor c.append_rows.new.cursor c.append_rows-2.new.cursor c.in_ok-head.head c.in_ok-head.numbers.items c.in-Some.mark c.in-Some.location c.in-Some.count read.0 ranked.0 c.in_ok-head.ensures.line.0
    (subst (λ (x : Type 0). x) (λ i. IsPieceHead (c.locations.ensures.same i) c.args.done c.in_ok-head.head (c.deref.ensures.value i) c.in-Some.mark c.in-Some.location c.in-Some.count) c.in-Some.ensures)
    (subst (λ n. AreMany (IsWide n) c.in-Some.count read.0) c.variables-columns.ensures.same read.1.wide)
    (subst (λ (x : Type 0). x) (λ i. AreMany (IsWide (c.variables-columns.ensures.same i)) (c.rank_count-many.ensures i) ranked.0) ranked.1.wide)
    read.2 ranked.2)
