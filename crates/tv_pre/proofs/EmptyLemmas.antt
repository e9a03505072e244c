-- A node without pieces shows what it is of nowhere.
use Rattle.std.proofs.Common.{[], ◌≡◌, ℕ, List, map, refl, sym, ap, subst, Bool, false}
use Rattle.tv_formula.specs.Properties.{Property, term, negated, none}
use Rattle.tv_linear.specs.declared.region.Region.{Region}
use Rattle.tv_cases.specs.LinearCases.{CaseSystem}
use Rattle.tv_cert.specs.declared.node.Mark.TheVariants.{Go}
use Rattle.tv_cert.specs.declared.node.Marked.{Marked}
use Rattle.tv_cert.specs.declared.node.Node.{Node}
use Rattle.tv_cert.specs.declared.node.Proof.{Proof}
use Rattle.tv_cert.specs.Claims.{about_with}
use Rattle.tv_cert.specs.NodeViews.{pieces_list}
use Rattle.tv_cert.specs.Nodes.{own_of}
use Rattle.tv_rounds.specs.Calls.{IsNowhere}
use Rattle.tv_shape.specs.Made.{Offers}
use Rattle.tv_pre.specs.Making.{IsMade, plain_pieces}
use Rattle.tv_pre.specs.Parts.{IsPart, AreParts}
use Rattle.tv_pre.specs.Pieces.{marked_as}
use Rattle.tv_pre.proofs.NodeLemmas.{part_made}

no_pieces : (about : CaseSystem) (region : Region) → IsNowhere about region → plain_pieces about.variables region ≡ []
no_pieces about region n = ap (map (marked_as about.variables Go [])) n.none

-- no piece owes anything
owes_nothing : (about : CaseSystem) (f : Property) (number : ℕ) (pieces : List Marked) (kids : List (List Marked)) (proofs : List Proof) → pieces ≡ [] → proofs ≡ [] → Offers (own_of number (about_with about) f pieces kids) proofs
owes_nothing about f number pieces kids proofs e d = subst (Offers (own_of number (about_with about) f pieces kids)) (sym d) (subst (λ ps. Offers (own_of number (about_with about) f ps kids) []) (sym e) tt)

no_children : (about : CaseSystem) (nodes : List Node) → nodes ≡ [] → AreParts about none [] nodes
no_children about nodes e = subst (AreParts about none []) (sym e) tt

pub empty_never_ends : (about : CaseSystem) (region : Region) (node : Node) (nodes : List Node) (proofs : List Proof) → nodes ≡ [] → proofs ≡ [] → IsNowhere about region → ((ends : Bool) → IsMade about region ends 0 (plain_pieces about.variables region) nodes proofs node) → IsPart about (negated term) region node
empty_never_ends about region node nodes proofs e d n made =
    part_made about (negated term) region node 0 (plain_pieces about.variables region) [] nodes proofs (made false) tt (λ k. refl) (no_children about nodes e)
    (λ number. owes_nothing about (negated term) number (plain_pieces about.variables region) (map pieces_list nodes) proofs (no_pieces about region n) d)
