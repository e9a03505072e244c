-- Covers are told by their lines.
use Rattle.std.proofs.Common.{◌≡◌, ℕ, ◌+◌, ℤ, List, ◌++◌, length, map, Option, None, Some, sym, ap, ◌∙◌, subst}
use Rattle.std.specs.List.{flat_map}
use Rattle.tv_lines.specs.Lines.{PlainLine}
use Rattle.tv_lines.specs.declared.head.Head.TheVariants as heads
use Rattle.tv_linear.specs.Covers.{no_target}
use Rattle.tv_linear.specs.declared.cover.CoverTree.{CoverTree}
use Rattle.tv_linear.specs.declared.cover.CoverTree as cover
use Rattle.tv_cases.specs.LinearCases.{LinearCase}
use Rattle.tv_cert.specs.Shapes.{owed_count, ListsShape, CoverShape, NoStepShape}
use Rattle.tv_cert_reader.specs.CertificateLines.{cover_lines}
use Rattle.tv_cert_spelling.specs.CoverValues as covers
use Rattle.tv_cert_spelling.specs.CoverValues.{cover_value}
use Rattle.tv_cert_spelling.proofs.Fronts.{same_head, same_tail, behind_first, all_told}
use Rattle.tv_cert_spelling.proofs.ToldRows.{same_numbers, same_two, other_head, row_told, lists_told}

-- as many lists are wanted for both
lists_as_long : (count : ℕ) (rows : Option ℕ) (vs ws : List (List ℤ)) → ListsShape count rows vs → ListsShape count rows ws → length vs ≡ length ws
lists_as_long count None vs ws h g = absurd h
lists_as_long count (Some n) vs ws h g = h.0 ∙ sym g.0

pub cover_told : (n : ℕ) (counts : ℕ → ℕ → Option ℕ) (known : ℕ) (t u : CoverTree) (xs ys : List PlainLine) → CoverShape n counts known t → CoverShape n counts known u → cover_lines t ++ xs ≡ cover_lines u ++ ys → (cover_value t ≡ cover_value u) × (xs ≡ ys)
cover_told n counts known (cover.Split' r p a q b) (cover.Split' s p' c q' d) xs ys h g e =
    let row = row_told heads.Split r s (same_head _ _ _ _ e) in
    let met = cover_told n counts (known + 1) a c (cover_lines b ++ xs) (cover_lines d ++ ys) h.1 g.1 (behind_first (cover_lines a) (cover_lines b) (cover_lines c) (cover_lines d) xs ys (same_tail _ _ _ _ e)) in
    let unmet = cover_told n counts (known + 1) b d xs ys h.2 g.2 met.1 in
    (λ i. covers.split (row i) (met.0 i) (unmet.0 i), unmet.1)
cover_told n counts known (cover.Split' r p a q b) (cover.Empty ms) xs ys h g e = other_head heads.Split heads.Empty _ _ _ _ (λ n. cc) e
cover_told n counts known (cover.Split' r p a q b) (cover.Into k j lists) xs ys h g e = other_head heads.Split heads.Into _ _ _ _ (λ n. cc) e
cover_told n counts known (cover.Empty ms) (cover.Split' r p a q b) xs ys h g e = other_head heads.Empty heads.Split _ _ _ _ (λ n. cc) e
cover_told n counts known (cover.Empty ms) (cover.Empty ns) xs ys h g e = (ap covers.empty (same_numbers _ _ _ _ (same_head _ _ _ _ e)), same_tail _ _ _ _ e)
cover_told n counts known (cover.Empty ms) (cover.Into k j lists) xs ys h g e = other_head heads.Empty heads.Into _ _ _ _ (λ n. cc) e
cover_told n counts known (cover.Into k j lists) (cover.Split' r p a q b) xs ys h g e = other_head heads.Into heads.Split _ _ _ _ (λ n. cc) e
cover_told n counts known (cover.Into k j lists) (cover.Empty ms) xs ys h g e = other_head heads.Into heads.Empty _ _ _ _ (λ n. cc) e
cover_told n counts known (cover.Into k j vs) (cover.Into l m ws) xs ys h g e =
    let two = same_two k j l m (same_numbers _ _ _ _ (same_head _ _ _ _ e)) in
    let many = lists_as_long (known + 1) (counts l m) (map (λ l. l.items) vs.items) (map (λ l. l.items) ws.items) (subst (λ o. ListsShape (known + 1) o (map (λ l. l.items) vs.items)) (λ i. counts (two.0 i) (two.1 i)) h) g in
    let lists = lists_told (map (λ l. l.items) vs.items) (map (λ l. l.items) ws.items) xs ys many (same_tail _ _ _ _ e) in
    (λ i. covers.into (two.0 i) (two.1 i) (lists.0 i), lists.1)

-- covers without targets, one for each case
pub covers_told : (n known : ℕ) (cases : List LinearCase) (ts us : List CoverTree) (xs ys : List PlainLine) → NoStepShape n known cases ts → NoStepShape n known cases us → flat_map cover_lines ts ++ xs ≡ flat_map cover_lines us ++ ys → (map cover_value ts ≡ map cover_value us) × (xs ≡ ys)
covers_told n known = all_told cover_lines cover_value (λ c tree. CoverShape (n + c.draws) (owed_count no_target) (known + length c.guards) tree) (λ c. cover_told (n + c.draws) (owed_count no_target) (known + length c.guards))
