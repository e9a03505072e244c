-- Choices and proofs are told by their lines.
use Rattle.std.proofs.Common.{◌≡◌, ℕ, ◌+◌, ℤ, Bool, List, [], ◌∷◌, ◌++◌, length, map, All, Option, None, Some, sym, ap, ◌∙◌, subst}
use Rattle.std.specs.Prelude.{slice_get}
use Rattle.std.specs.List.{AllZip, flat_map}
use Rattle.std.specs.Option.{option_map}
use Rattle.std.proofs.lemmas.List.Elements.{All-head, All-tail}
use Rattle.tv_lines.specs.Lines.{PlainLine}
use Rattle.tv_lines.specs.declared.head.Head.TheVariants as heads
use Rattle.tv_linear.specs.Linear.{Linear}
use Rattle.tv_linear.specs.Known.{Known}
use Rattle.tv_linear.specs.declared.choice.ChoiceTree.{ChoiceTree}
use Rattle.tv_linear.specs.declared.choice.ChoiceTree as choice
use Rattle.tv_cases.specs.LinearCases.{LinearCase, leaving}
use Rattle.tv_cert.specs.declared.node.Proof.{Proof}
use Rattle.tv_cert.specs.declared.node.Proof.TheVariants.{Covered, Chosen}
use Rattle.tv_cert.specs.Obligations.{Owed, Obligation}
use Rattle.tv_cert.specs.Obligations as obligations
use Rattle.tv_cert.specs.Shapes.{owed_count, ListsShape, CoverShape, NoStepShape, TakeShape, ChoiceShape, ProofShape}
use Rattle.tv_cert_reader.specs.CertificateLines.{row_lines, by_lines, choice_lines, proof_lines}
use Rattle.tv_cert_reader.specs.Demands.{Demand, a_cover, a_choice, demand_of, IsDrawFree}
use Rattle.tv_cert_spelling.specs.ChoiceValues as choices
use Rattle.tv_cert_spelling.specs.ChoiceValues.{choice_value}
use Rattle.tv_cert_spelling.specs.NodeValues.{covered, chosen, proof_value}
use Rattle.tv_cert_spelling.proofs.Fronts.{same_head, same_tail, behind_first, all_told}
use Rattle.tv_cert_spelling.proofs.ToldRows.{same_numbers, same_three, other_head, row_told, rows_told, lists_told}
use Rattle.tv_cert_spelling.proofs.ToldCovers.{cover_told, covers_told}

-- ---- how long what is offered is, by what is wanted

-- as many as guards and rows owed
abbrev OwedLong : ℕ → Option ℕ → List (List ℤ) → Type 0
OwedLong guards None lists = ⊥
OwedLong guards (Some rows) lists = length lists ≡ guards + rows

abbrev TakeLong : (LinearCase → ℕ → ℕ → Option ℕ) → Option LinearCase → ℕ → ℕ → List Linear → List (List ℤ) → Type 0
TakeLong counts None k j draws lists = ⊥
TakeLong counts (Some c) k j draws lists = (length draws ≡ c.draws) × OwedLong (length c.guards) (counts c k j) lists

abbrev ChoiceLong : ℕ → List LinearCase → ℕ → (LinearCase → ℕ → ℕ → Option ℕ) → ℕ → ChoiceTree → Type 0
ChoiceLong n cases l counts known (choice.Split' r p a q b) = ChoiceLong n cases l counts (known + 1) a × ChoiceLong n cases l counts (known + 1) b
ChoiceLong n cases l counts known (choice.Empty ms) = Unit {0}
ChoiceLong n cases l counts known (choice.NoStep covers) = NoStepShape n known (leaving l cases) covers.items
ChoiceLong n cases l counts known (choice.Take c k j draws lists) = TakeLong counts (slice_get cases c) k j draws.items (map (λ l. l.items) lists.items)

abbrev pub ProofLong : Demand → Proof → Type 0
ProofLong (a_cover n known counts) (Covered tree) = CoverShape n counts known tree
ProofLong (a_cover n known counts) (Chosen tree) = ⊥
ProofLong (a_choice n cases l stop known counts) (Covered tree) = ⊥
ProofLong (a_choice n cases l stop known counts) (Chosen tree) = ChoiceLong n cases l counts known tree

-- ---- what has the shape of what is owed is so long

owed_long : (guards many : ℕ) (owed : Option (List Known)) (count : Option ℕ) (lists : List (List ℤ)) → option_map length owed ≡ count → ListsShape many (option_map (λ rows. guards + length rows) owed) lists → OwedLong guards count lists
owed_long guards many None count lists e h = absurd h
owed_long guards many (Some rows) count lists e h = subst (λ o. OwedLong guards o lists) e h.0

module _ (n : ℕ) (cases : List LinearCase) (l : ℕ) (stop : Bool) (owed : LinearCase → List Linear → ℕ → ℕ → Option (List Known)) (free : (c : LinearCase) (draws : List Linear) → owed_count (owed c draws) ≡ owed_count (owed c [])) where
  take_long : (known : ℕ) (c : Option LinearCase) (k j : ℕ) (draws : List Linear) (lists : List (List ℤ)) → TakeShape n l owed known c k j draws lists → TakeLong (λ c. owed_count (owed c [])) c k j draws lists
  take_long known None k j draws lists h = absurd h
  take_long known (Some c) k j draws lists h = (h.1, owed_long (length c.guards) (known + 1) (owed c draws k j) (owed_count (owed c []) k j) lists (ap (λ f. f k j) (free c draws)) h.3)

  choice_long : (known : ℕ) (tree : ChoiceTree) → ChoiceShape n cases l stop owed known tree → ChoiceLong n cases l (λ c. owed_count (owed c [])) known tree
  choice_long known (choice.Split' r p a q b) h = (choice_long (known + 1) a h.1, choice_long (known + 1) b h.2)
  choice_long known (choice.Empty ms) h = tt
  choice_long known (choice.NoStep covers) h = h.1
  choice_long known (choice.Take c k j draws lists) h = take_long known (slice_get cases c) k j draws.items (map (λ l. l.items) lists.items) h

proof_long : (o : Owed) (p : Proof) → IsDrawFree o → ProofShape o p → ProofLong (demand_of o) p
proof_long (obligations.a_cover n known owed) (Covered tree) free h = h.0
proof_long (obligations.a_cover n known owed) (Chosen tree) free h = absurd h
proof_long (obligations.a_choice n cases l stop owed known) (Covered tree) free h = absurd h
proof_long (obligations.a_choice n cases l stop owed known) (Chosen tree) free h = choice_long n cases l stop owed free (length known) tree h.0
proof_long (obligations.a_point xs rows) p free h = absurd h

pub proofs_long : (os : List Obligation) (ps : List Proof) → All (λ o. IsDrawFree o.owed) os → AllZip (λ o p. ProofShape o.owed p) os ps → AllZip ProofLong (map (λ o. demand_of o.owed) os) ps
proofs_long [] [] free h = tt
proofs_long [] (p ∷ ps) free h = absurd h
proofs_long (o ∷ os) [] free h = absurd h
proofs_long (o ∷ os) (p ∷ ps) free h = (proof_long o.owed p (All-head (λ o. IsDrawFree o.owed) o os free) h.0, proofs_long os ps (All-tail (λ o. IsDrawFree o.owed) o os free) h.1)

-- ---- choices

owed_as_long : (guards : ℕ) (owed : Option ℕ) (vs ws : List (List ℤ)) → OwedLong guards owed vs → OwedLong guards owed ws → length vs ≡ length ws
owed_as_long guards None vs ws h g = absurd h
owed_as_long guards (Some rows) vs ws h g = h ∙ sym g

take_told : (counts : LinearCase → ℕ → ℕ → Option ℕ) (c : Option LinearCase) (k j : ℕ) (ds es : List Linear) (vs ws : List (List ℤ)) (xs ys : List PlainLine) → TakeLong counts c k j ds vs → TakeLong counts c k j es ws → row_lines heads.Draw ds ++ (by_lines vs ++ xs) ≡ row_lines heads.Draw es ++ (by_lines ws ++ ys) → (ds ≡ es) × (vs ≡ ws) × (xs ≡ ys)
take_told counts None k j ds es vs ws xs ys h g e = absurd h
take_told counts (Some c) k j ds es vs ws xs ys h g e =
    let draws = rows_told heads.Draw ds es (by_lines vs ++ xs) (by_lines ws ++ ys) (h.0 ∙ sym g.0) e in
    let lists = lists_told vs ws xs ys (owed_as_long (length c.guards) (counts c k j) vs ws h.1 g.1) draws.1 in
    (draws.0, lists.0, lists.1)

module _ (n : ℕ) (cases : List LinearCase) (l : ℕ) (counts : LinearCase → ℕ → ℕ → Option ℕ) where
  choice_told : (known : ℕ) (t u : ChoiceTree) (xs ys : List PlainLine) → ChoiceLong n cases l counts known t → ChoiceLong n cases l counts known u → choice_lines t ++ xs ≡ choice_lines u ++ ys → (choice_value t ≡ choice_value u) × (xs ≡ ys)
  choice_told known (choice.Split' r p a q b) (choice.Split' s p' c q' d) xs ys h g e =
      let row = row_told heads.Split r s (same_head _ _ _ _ e) in
      let met = choice_told (known + 1) a c (choice_lines b ++ xs) (choice_lines d ++ ys) h.0 g.0 (behind_first (choice_lines a) (choice_lines b) (choice_lines c) (choice_lines d) xs ys (same_tail _ _ _ _ e)) in
      let unmet = choice_told (known + 1) b d xs ys h.1 g.1 met.1 in
      (λ i. choices.split (row i) (met.0 i) (unmet.0 i), unmet.1)
  choice_told known (choice.Split' r p a q b) (choice.Empty ms) xs ys h g e = other_head heads.Split heads.Empty _ _ _ _ (λ n. cc) e
  choice_told known (choice.Split' r p a q b) (choice.NoStep us) xs ys h g e = other_head heads.Split heads.NoStep _ _ _ _ (λ n. cc) e
  choice_told known (choice.Split' r p a q b) (choice.Take m k j es ws) xs ys h g e = other_head heads.Split heads.Take _ _ _ _ (λ n. cc) e
  choice_told known (choice.Empty ms) (choice.Split' r p a q b) xs ys h g e = other_head heads.Empty heads.Split _ _ _ _ (λ n. cc) e
  choice_told known (choice.Empty ms) (choice.Empty ns) xs ys h g e = (ap choices.empty (same_numbers _ _ _ _ (same_head _ _ _ _ e)), same_tail _ _ _ _ e)
  choice_told known (choice.Empty ms) (choice.NoStep us) xs ys h g e = other_head heads.Empty heads.NoStep _ _ _ _ (λ n. cc) e
  choice_told known (choice.Empty ms) (choice.Take m k j es ws) xs ys h g e = other_head heads.Empty heads.Take _ _ _ _ (λ n. cc) e
  choice_told known (choice.NoStep ts) (choice.Split' r p a q b) xs ys h g e = other_head heads.NoStep heads.Split _ _ _ _ (λ n. cc) e
  choice_told known (choice.NoStep ts) (choice.Empty ms) xs ys h g e = other_head heads.NoStep heads.Empty _ _ _ _ (λ n. cc) e
  choice_told known (choice.NoStep ts) (choice.NoStep us) xs ys h g e =
      let covers = covers_told n known (leaving l cases) ts.items us.items xs ys h g (same_tail _ _ _ _ e) in
      (ap choices.no_step covers.0, covers.1)
  choice_told known (choice.NoStep ts) (choice.Take m k j es ws) xs ys h g e = other_head heads.NoStep heads.Take _ _ _ _ (λ n. cc) e
  choice_told known (choice.Take m k j ds vs) (choice.Split' r p a q b) xs ys h g e = other_head heads.Take heads.Split _ _ _ _ (λ n. cc) e
  choice_told known (choice.Take m k j ds vs) (choice.Empty ms) xs ys h g e = other_head heads.Take heads.Empty _ _ _ _ (λ n. cc) e
  choice_told known (choice.Take m k j ds vs) (choice.NoStep us) xs ys h g e = other_head heads.Take heads.NoStep _ _ _ _ (λ n. cc) e
  choice_told known (choice.Take m k j ds vs) (choice.Take m' k' j' es ws) xs ys h g e =
      let v = map (λ l. l.items) vs.items in
      let w = map (λ l. l.items) ws.items in
      let three = same_three m k j m' k' j' (same_numbers _ _ _ _ (same_head _ _ _ _ e)) in
      let there = subst (λ o. o) (λ i. TakeLong counts (slice_get cases (three.0 i)) (three.1 i) (three.2 i) ds.items v) h in
      let behind = take_told counts (slice_get cases m') k' j' ds.items es.items v w xs ys there g (behind_first (row_lines heads.Draw ds.items) (by_lines v) (row_lines heads.Draw es.items) (by_lines w) xs ys (same_tail _ _ _ _ e)) in
      (λ i. choices.take (three.0 i) (three.1 i) (three.2 i) (behind.0 i) (behind.1 i), behind.2)

-- ---- proofs

proof_told : (d : Demand) (p q : Proof) (xs ys : List PlainLine) → ProofLong d p → ProofLong d q → proof_lines p ++ xs ≡ proof_lines q ++ ys → (proof_value p ≡ proof_value q) × (xs ≡ ys)
proof_told (a_cover n known counts) (Covered t) (Covered u) xs ys h g e = let same = cover_told n counts known t u xs ys h g e in (ap covered same.0, same.1)
proof_told (a_cover n known counts) (Covered t) (Chosen u) xs ys h g e = absurd g
proof_told (a_cover n known counts) (Chosen t) q xs ys h g e = absurd h
proof_told (a_choice n cases l stop known counts) (Covered t) q xs ys h g e = absurd h
proof_told (a_choice n cases l stop known counts) (Chosen t) (Covered u) xs ys h g e = absurd g
proof_told (a_choice n cases l stop known counts) (Chosen t) (Chosen u) xs ys h g e = let same = choice_told n cases l counts known t u xs ys h g e in (ap chosen same.0, same.1)

-- for each demand a proof
pub proofs_told : (ds : List Demand) (ps qs : List Proof) (xs ys : List PlainLine) → AllZip ProofLong ds ps → AllZip ProofLong ds qs → flat_map proof_lines ps ++ xs ≡ flat_map proof_lines qs ++ ys → (map proof_value ps ≡ map proof_value qs) × (xs ≡ ys)
proofs_told = all_told proof_lines proof_value ProofLong proof_told
