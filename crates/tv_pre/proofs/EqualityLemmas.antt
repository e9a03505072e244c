-- Formulas that state the same have the same parts.
use Rattle.std.proofs.Common.{◌≡◌, ℕ, zero, suc, ◌<◌, List, [], ◌∷◌, length, map, get_or, refl, sym, ap, ◌∙◌, arith}
use Rattle.tv_cert.specs.declared.aim.Aim.{Aim}
use Rattle.tv_cert.specs.declared.aim.Aim.TheOpen.{Aim-F}
use Rattle.tv_cert.specs.declared.aim.Aim.TheFolds.{fold-roll-Aim}
use Rattle.tv_cert.specs.declared.aim.Aim.TheVariants.{EachOf, OneOf, rolls-EachOf, rolls-OneOf}
use Rattle.tv_cert.specs.AimViews.{aim_states, aims_state, aim_node, statements_of}
use Rattle.tv_cert.specs.Statements.{Statement, rows, here, elsewhere, ends, never_ends, each_of, one_of, after, along, unsaid, Statements, no_statement, statement}
use Rattle.std.specs.Global.{Vec}

-- the parts of a conjunction or a disjunction
abbrev pub parts : Statement → Statements
parts (rows lists) = no_statement
parts (here l) = no_statement
parts (elsewhere l) = no_statement
parts ends = no_statement
parts never_ends = no_statement
parts (each_of ss) = ss
parts (one_of ss) = ss
parts (after path s) = no_statement
parts (along path shape s t) = no_statement
parts unsaid = no_statement

abbrev list_of : Statements → List Statement
list_of no_statement = []
list_of (statement s ss) = s ∷ list_of ss

list_back : (ss : List Statement) → list_of (statements_of ss) ≡ ss
list_back [] = refl
list_back (s ∷ ss) = ap (λ ts. s ∷ ts) (list_back ss)

-- lists of formulas that state the same state the same one by one
same_list : (ss ts : List Statement) → statements_of ss ≡ statements_of ts → ss ≡ ts
same_list ss ts e = sym (list_back ss) ∙ ap list_of e ∙ list_back ts

pub each_is : (first : Aim) (aims : Vec Aim) → first ≡ EachOf aims → aim_states first ≡ each_of (aims_state aims.items)
each_is first aims is = ap aim_states is ∙ ap aim_states (sym (rolls-EachOf aims)) ∙ fold-roll-Aim Statement aim_node (Aim-F.EachOf aims)

pub one_is : (first : Aim) (aims : Vec Aim) → first ≡ OneOf aims → aim_states first ≡ one_of (aims_state aims.items)
one_is first aims is = ap aim_states is ∙ ap aim_states (sym (rolls-OneOf aims)) ∙ fold-roll-Aim Statement aim_node (Aim-F.OneOf aims)

pub parts_same : (s t : Statement) (ss ts : List Statement) → parts s ≡ statements_of ss → parts t ≡ statements_of ts → s ≡ t → ss ≡ ts
parts_same s t ss ts is are e = same_list ss ts (sym is ∙ ap parts e ∙ are)

-- the parts at one place are equal where the lists are
pub same_at : (first second : List Aim) (i : ℕ) (a b : Aim) → i < length first → i < length second → a ≡ get_or first i a → b ≡ get_or second i b → map aim_states first ≡ map aim_states second → aim_states a ≡ aim_states b
same_at [] second i a b l m is are e = absurd (omega (arith, l))
same_at (x ∷ first) [] i a b l m is are e = absurd (omega (arith, m))
same_at (x ∷ first) (y ∷ second) zero a b l m is are e = ap aim_states is ∙ ap (λ zs. get_or zs 0 (aim_states x)) e ∙ sym (ap aim_states are)
same_at (x ∷ first) (y ∷ second) (suc i) a b l m is are e = same_at first second i a b (omega (arith, l)) (omega (arith, m)) is are (ap tail e)
  where
    tail : List Statement → List Statement
    tail [] = []
    tail (s ∷ ss) = ss
