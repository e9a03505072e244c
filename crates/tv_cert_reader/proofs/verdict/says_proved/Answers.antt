use Rattle.std.proofs.Common.{[], ◌∷◌, subst, refl}
use Rattle.tv_lines.specs.Lines.{formed, FitsHead}
use Rattle.tv_cert_reader.specs.Reading.{Takes}
use Rattle.tv_cert_reader.proofs.verdict.says_proved.Goals as goal
use Rattle.tv_cases.proofs.BeforeValue.{no_columns}

pub returns-in-Proved : goal.returns-in-Proved
returns-in-Proved c =
    let fit = subst (λ h. FitsHead h c.in_ok-head.field-0-1.items) c.in-Proved.is c.in_ok-head.ensures.fit in
    let none = no_columns c.in_ok-head.field-0-1.items (fit.counted 0 refl) in
    (tt, subst (λ (x : Type 0). x) (λ i. Takes (formed (c.in-Proved.is i) (none i) ∷ []) c.args.cursor.now c.take.new.cursor) c.in_ok-head.ensures.line.0)

pub returns-in-Disproved : goal.returns-in-Disproved
returns-in-Disproved c =
    let fit = subst (λ h. FitsHead h c.in_ok-head.field-0-1.items) c.in-Disproved.is c.in_ok-head.ensures.fit in
    let none = no_columns c.in_ok-head.field-0-1.items (fit.counted 0 refl) in
    (tt, subst (λ (x : Type 0). x) (λ i. Takes (formed (c.in-Disproved.is i) (none i) ∷ []) c.args.cursor.now c.take.new.cursor) c.in_ok-head.ensures.line.0)
