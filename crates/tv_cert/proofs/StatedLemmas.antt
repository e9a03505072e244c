-- The arguments of a formula, and of what it states.
use Rattle.std.proofs.Common.{◌≡◌, ℕ, zero, suc, ◌+◌, ◌<◌, List, ◌++◌, arith, refl, ap}
use Rattle.tv_formula.specs.Properties.{Property, truth, compare, at, term, negated, all_of, some_of, next, fix}
use Rattle.tv_cases.specs.LinearCases.{CaseSystem}
use Rattle.tv_cert.specs.declared.node.Marked.{Marked}
use Rattle.tv_cert.specs.declared.node.Verdict.{Verdict}
use Rattle.tv_cert.specs.declared.node.Verdict.TheVariants.{Proved, Disproved}
use Rattle.tv_cert.specs.Claims.{about_with}
use Rattle.tv_cert.specs.AboutSystem.{about_of}
use Rattle.tv_cert.specs.declared.node.Node.{Node'}
use Rattle.tv_cert.specs.Obligations.{About, paired}
use Rattle.tv_cert.specs.Nodes.{parts, kid_pieces, entries, kid_entries, own_of, children_entries, root_entry}
use Rattle.tv_cert.specs.Statements.{Statements, no_statement, statement, stated, stated_all, parts_of, count, part_at}

pub parts-stated : (about : About) (f : Property) → parts_of (stated about.tests f) ≡ stated_all about.tests (parts f)
parts-stated about (truth b) = refl
parts-stated about (compare r a b) = refl
parts-stated about (at l) = refl
parts-stated about term = refl
parts-stated about (negated (truth b)) = refl
parts-stated about (negated (compare r a b)) = refl
parts-stated about (negated (at l)) = refl
parts-stated about (negated term) = refl
parts-stated about (negated (negated f)) = refl
parts-stated about (negated (all_of fs)) = refl
parts-stated about (negated (some_of fs)) = refl
parts-stated about (negated (next path f)) = refl
parts-stated about (negated (fix path shape f g)) = refl
parts-stated about (all_of fs) = refl
parts-stated about (some_of fs) = refl
parts-stated about (next path f) = refl
parts-stated about (fix path shape f g) = refl

-- the entries of a node of a formula: those of its children, which show the formula's arguments, and its own
pub entries_are : (number : ℕ) (about : About) (f : Property) (ps : _) (m : ℕ) (shape : _) (kids : _) (proofs : _) → entries number about f (Node' ps m shape kids proofs) ≡ kid_entries (number + 1) about (parts f) kids ++ paired (own_of number about f ps (kid_pieces kids)) proofs.items
entries_are number about f ps m shape kids proofs =
    ap (λ ss. children_entries (number + 1) about.system ss kids ++ paired (own_of number about f ps (kid_pieces kids)) proofs.items) (parts-stated about f)

-- the root's entry does not look at comparisons
pub root_same : (system : CaseSystem) (ps : List Marked) (verdict : Verdict) → root_entry (about_of system) ps verdict ≡ root_entry (about_with system) ps verdict
root_same system ps (Proved start) = refl
root_same system ps (Disproved k values) = refl

-- ---- the statements after the first i
abbrev pub past : ℕ → Statements → Statements
past zero ss = ss
past (suc i) no_statement = no_statement
past (suc i) (statement s ss) = past i ss

pub past_more : (i : ℕ) (ss : Statements) → i < count ss → past i ss ≡ statement (part_at i ss) (past (suc i) ss)
past_more i no_statement h = absurd (omega arith)
past_more zero (statement s ss) h = refl
past_more (suc i) (statement s ss) h = past_more i ss (omega arith)
