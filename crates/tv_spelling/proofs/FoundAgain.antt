-- What a reading found is found again in the text that is written of it.
use Rattle.std.proofs.Common.{◌≡◌, ℕ, ◌-◌, ◌≤◌, Bool, true, false, cond, List, [], ◌∷◌, ◌++◌, map, drop, length, Ok, Some, refl, sym, ap, subst, ◌∙◌, arith}
use Rattle.std.proofs.lemmas.List.{append-nil}
use Rattle.tv_language.specs.declared.token.TokenKind.TheVariants.{End, Unread}
use Rattle.tv_language.specs.declared.token.Token.{Token}
use Rattle.tv_language.proofs.OneList.{one_list}
use Rattle.tv_program.specs.Words.{Word}
use Rattle.tv_program.specs.Trees.{Expression, Condition}
use Rattle.tv_program.specs.Limits.{expression_fits, condition_fits}
use Rattle.tv_grammar.specs.Exact.{Exact}
use Rattle.tv_language.specs.Symbols.{Symbol, Vocabulary, fixed, lexemes, symbols}
use Rattle.tv_language.specs.Sums.{IsSum}
use Rattle.tv_language.specs.Conditions.{IsCondition}
use Rattle.tv_language.specs.Programs.{draws_in, draws_tested}
use Rattle.tv_language.proofs.DrawLemmas.{undrawn_fits, undrawn_test_fits}
use Rattle.tv_reading.specs.Marks.{Mark, plain, symbols_of, marks_from, Stand, left, Passes}
use Rattle.tv_reading.specs.SumGrammar.{Grammar, every, sum_at}
use Rattle.tv_reading.specs.ConditionGrammar.{condition_at}
use Rattle.tv_reading.specs.Readings.{begun, sum_levels, condition_levels}
use Rattle.tv_reading.specs.Texts.{IsLongest}
use Rattle.tv_reading.proofs.PassedLemmas.{passed_fit, symbols-append}
use Rattle.tv_reading.proofs.FitLemmas.{all_fit, sum_fits, condition_fit}
use Rattle.tv_reading.proofs.SumLemmas.{sum_exact, sum_goes_on}
use Rattle.tv_reading.proofs.SumTexts.{Back, front, sum_is_read}
use Rattle.tv_reading.proofs.ConditionLemmas.{condition_exact}
use Rattle.tv_reading.proofs.ConditionEnds.{condition_stops}
use Rattle.tv_reading.proofs.ConditionsRead.{condition_is_read}
use Rattle.tv_reading.proofs.LongestTexts.{plains, no_symbols}
use Rattle.tv_reading.proofs.RoomLemmas.{passed_names}
use Rattle.tv_reading.proofs.SymbolLemmas.{draws_at_all, Uses, sum_uses, condition_uses}
use Rattle.tv_reading.proofs.Told.{sum_longest, condition_longest}
use Rattle.tv_spelling.specs.Sums.{expression_text}
use Rattle.tv_spelling.specs.Conditions.{condition_text}
use Rattle.tv_spelling.specs.ReadAgain.{AreNames, IsSumInFront, IsConditionInFront, IsSumReadAgain, IsConditionReadAgain}
use Rattle.tv_spelling.proofs.Ordered.{ordered_without_draws, tests_without_draws}
use Rattle.tv_spelling.proofs.Mentioned.{variables_in, sum_mentions, condition_mentions}
use Rattle.tv_spelling.proofs.SettledMarks.{AreFree, all_settled, settled_before_end, marks_are, all_quiet, marks_quiet, quiet_front, quiet_free, quiet_undrawn, all_free}
use Rattle.tv_spelling.proofs.NamesKept.{names_kept}
use Rattle.tv_spelling.proofs.SumAgain.{sum_written}
use Rattle.tv_spelling.proofs.ConditionAgain.{condition_written}

-- ---- what is passed

-- the names among what is passed are free, and where no name is added there is no draw
record IsQuiet (s u : Stand) (ss : List Symbol) : Type 0 where
  free : AreFree s.grows u.names (variables_in ss)
  undrawn : s.grows ≡ false → draws_at_all ss ≡ 0

quiet_by : (b : Bool) (s u : Stand) (passed : List Mark) → s.grows ≡ b → Passes s u → left s ≡ passed ++ left u → IsQuiet s u (symbols_of passed)
quiet_by true s u passed e p parts = record {
  free = subst (λ (b : Bool). AreFree b u.names (variables_in (symbols_of passed))) (sym e) (all_free u.names (variables_in (symbols_of passed)));
  undrawn = λ f. absurd (let no : true ≡ false = sym e ∙ f in cc);
}
quiet_by false s u passed e p parts =
    let all : all_quiet s.names (symbols_of (left s)) ≡ true = subst (λ (b : Bool). all_quiet s.names (symbols_of (marks_from s.text b s.names s.draws (drop s.at s.tokens))) ≡ true) (sym e) (marks_quiet s.text s.names s.draws (drop s.at s.tokens)) in
    let whole : symbols_of (left s) ≡ symbols_of passed ++ symbols_of (left u) = ap symbols_of parts ∙ symbols-append passed (left u) in
    let here : all_quiet s.names (symbols_of passed) ≡ true = quiet_front s.names (symbols_of passed) (symbols_of (left u)) (ap (all_quiet s.names) (sym whole) ∙ all) in
    let now : all_quiet u.names (symbols_of passed) ≡ true = ap (λ (ns : List Word). all_quiet ns (symbols_of passed)) (passed_names p e) ∙ here in
    record {
      free = subst (λ (b : Bool). AreFree b u.names (variables_in (symbols_of passed))) (sym e) (quiet_free u.names (symbols_of passed) now);
      undrawn = λ f. quiet_undrawn u.names (symbols_of passed) now;
    }

quiet_passed : (s u : Stand) (passed : List Mark) → Passes s u → left s ≡ passed ++ left u → IsQuiet s u (symbols_of passed)
quiet_passed s u passed p parts = quiet_by s.grows s u passed refl p parts

without_draws : (b : Bool) (g : Bool) (n k : ℕ) → g ≡ b → (g ≡ true → n ≡ 0) → (g ≡ false → k ≡ 0) → k ≡ n → n ≡ 0
without_draws true g n k e h i same = h e
without_draws false g n k e h i same = sym same ∙ i e

used_draws : {count : ℕ} {fits : ℕ → ℕ → Bool} (ss : List Symbol) → Uses count fits (ss ++ []) [] → draws_at_all ss ≡ count
used_draws ss u = ap draws_at_all (sym (append-nil ss) ∙ u.parts ∙ append-nil u.used) ∙ u.counted

-- ---- what is written

-- symbols up to the end of a text, under these names, as marks
written_marks : {count : ℕ} {fits : ℕ → ℕ → Bool} (grows : Bool) (v : Vocabulary) (text : List ℕ) (tokens : List Token) → Uses count fits (symbols v (lexemes text tokens)) (fixed End ∷ []) → count ≡ 0 → fits (length v.variables) 0 ≡ true → AreFree grows v.variables (variables_in (symbols v (lexemes text tokens)))
    → left (begun text tokens v.variables grows) ≡ map plain (symbols v (lexemes text tokens))
written_marks grows v text tokens u none fit free =
    let settled = settled_before_end grows v.variables 0 u.used u.plainly (u.counted ∙ none) (u.soundly (length v.variables) 0 fit) (subst (λ (ss : List Symbol). AreFree grows v.variables (variables_in ss)) u.parts free) in
    marks_are grows v text 0 0 tokens (ap (all_settled grows v.variables) u.parts ∙ settled)

not_unread : fixed End ≡ fixed Unread → ⊥
not_unread e = cc

end_left : (ms : List Mark) → symbols_of ms ≡ fixed End ∷ [] → ms ≡ plain (fixed End) ∷ []
end_left ms e = let f = front (fixed End) ms [] not_unread e in f.text ∙ ap (λ (rest : List Mark). plain (fixed End) ∷ rest) (no_symbols f.rest f.same)

-- a text that does not go on at the end is read up to it
read_to_end : {X : Type 0} (l : Grammar X) → Exact l → ((d : l.Of) → l.goes_on d (Some (plain (fixed End))) ≡ false) → (x : X) (ms : List Mark) → Back l x ms (fixed End ∷ []) → l.read ms ≡ Ok (x, plain (fixed End) ∷ [])
read_to_end {X} l exact stops x ms b =
    ap l.read (b.text ∙ ap (l.text b.it) (end_left b.left b.same)) ∙ exact.only b.it (plain (fixed End) ∷ []) (stops b.it) ∙ ap (λ (y : X). Ok (y, plain (fixed End) ∷ [])) b.is

pub sum_to_end : (n : ℕ) (e : Expression) (ss : List Symbol) → IsSum n e ss (fixed End ∷ []) → IsLongest (IsSum n) e (map plain ss) (plain (fixed End) ∷ [])
sum_to_end n e ss d = sum_longest n (map plain ss) e (plain (fixed End) ∷ []) (read_to_end (sum_at every n true) (sum_exact every n true) (λ it. sum_goes_on every n true it (Some (plain (fixed End)))) e (map plain ss) (sum_is_read d (map plain ss) (plains ss)))

condition_to_end : (n : ℕ) (c : Condition) (ss : List Symbol) → IsCondition n c ss (fixed End ∷ []) → IsLongest (IsCondition n) c (map plain ss) (plain (fixed End) ∷ [])
condition_to_end n c ss d = condition_longest n (map plain ss) c (plain (fixed End) ∷ []) (read_to_end (condition_at every n) (condition_exact every n) (condition_stops every n) c (map plain ss) (condition_is_read d (map plain ss) (plains ss)))

-- ---- sums

sum_again : (e : Expression) (s u : Stand) → Passes s u → AreNames u.names → (s.grows ≡ true → draws_in e ≡ 0) → IsLongest (IsSum (sum_levels s)) e (left s) (left u) → IsSumInFront s.grows u.names e (expression_text u.names e)
sum_again e s u p names undrawn w tokens scanned =
    let text = expression_text u.names e in
    let v : Vocabulary = record { variables = u.names; labels = [] } in
    let ps : List Symbol = symbols_of w.passed in
    let d = w.is [] in
    let quiet = quiet_passed s u w.passed p w.parts in
    let none : draws_in e ≡ 0 = without_draws s.grows s.grows (draws_in e) (draws_at_all ps) refl undrawn quiet.undrawn (used_draws ps (sum_uses d)) in
    let fits : expression_fits (length u.names) u.draws e ≡ true = (sum_fits (length u.names) u.draws d (ap (all_fit (length u.names) u.draws) (append-nil ps) ∙ passed_fit s u p w.passed w.parts)).0 in
    let bare : expression_fits (length u.names) 0 e ≡ true = undrawn_fits (length u.names) u.draws e fits none in
    let t = sum_written u.names e 0 (sum_levels s) 64 (ps ++ []) [] names bare (ordered_without_draws (length u.names) e 0 bare) d (omega arith) in
    let ss : List Symbol = symbols v (lexemes text tokens) in
    let same : t.tokens ≡ tokens = one_list 0 text t.tokens tokens t.scanned scanned in
    let again : IsSum 64 e ss (fixed End ∷ []) = subst (λ (ts : List Token). IsSum 64 e (symbols v (lexemes text ts)) (fixed End ∷ [])) same (t.derived []) in
    let mentioned : variables_in ps ≡ variables_in ss = ap variables_in (sym (append-nil ps)) ∙ (sum_mentions (sum_levels s) e (ps ++ []) [] d).0 ∙ sym (sum_mentions 64 e ss (fixed End ∷ []) again).0 in
    let marks = written_marks s.grows v text tokens (sum_uses again) none bare (subst (AreFree s.grows u.names) mentioned quiet.free) in
    subst (λ (ms : List Mark). IsLongest (IsSum 64) e ms (plain (fixed End) ∷ [])) (sym marks) (sum_to_end 64 e ss again)

pub read_found_sum : (ws : List Word) (e : Expression) → IsSumReadAgain ws e (expression_text ws e)
read_found_sum ws e s u h undrawn w =
    subst (λ (ns : List Word). IsSumInFront s.grows ns e (expression_text ns e)) h.names (sum_again e s u h.passes (names_kept s u h.passes h.scanned h.began) undrawn w)

-- ---- conditions

fewer : (b : Bool) (level : ℕ) → cond b 63 (64 - level) ≤ cond b 63 64
fewer true level = omega arith
fewer false level = omega arith

condition_again : (c : Condition) (s u : Stand) → Passes s u → AreNames u.names → (s.grows ≡ true → draws_tested c ≡ 0) → IsLongest (IsCondition (condition_levels s)) c (left s) (left u) → IsConditionInFront s.grows u.names c (condition_text u.names c)
condition_again c s u p names undrawn w tokens scanned =
    let text = condition_text u.names c in
    let v : Vocabulary = record { variables = u.names; labels = [] } in
    let n : ℕ = condition_levels s in
    let m : ℕ = cond s.grows 63 64 in
    let ps : List Symbol = symbols_of w.passed in
    let d = w.is [] in
    let quiet = quiet_passed s u w.passed p w.parts in
    let none : draws_tested c ≡ 0 = without_draws s.grows s.grows (draws_tested c) (draws_at_all ps) refl undrawn quiet.undrawn (used_draws ps (condition_uses d)) in
    let fits : condition_fits (length u.names) u.draws c ≡ true = (condition_fit (length u.names) u.draws d (ap (all_fit (length u.names) u.draws) (append-nil ps) ∙ passed_fit s u p w.passed w.parts)).0 in
    let bare : condition_fits (length u.names) 0 c ≡ true = undrawn_test_fits (length u.names) u.draws c fits none in
    let t = condition_written u.names c 0 n m (ps ++ []) [] names bare (tests_without_draws (length u.names) c 0 bare) d (fewer s.grows s.level) in
    let ss : List Symbol = symbols v (lexemes text tokens) in
    let same : t.tokens ≡ tokens = one_list 0 text t.tokens tokens t.scanned scanned in
    let again : IsCondition m c ss (fixed End ∷ []) = subst (λ (ts : List Token). IsCondition m c (symbols v (lexemes text ts)) (fixed End ∷ [])) same (t.derived []) in
    let mentioned : variables_in ps ≡ variables_in ss = ap variables_in (sym (append-nil ps)) ∙ (condition_mentions n c (ps ++ []) [] d).0 ∙ sym (condition_mentions m c ss (fixed End ∷ []) again).0 in
    let marks = written_marks s.grows v text tokens (condition_uses again) none bare (subst (AreFree s.grows u.names) mentioned quiet.free) in
    subst (λ (ms : List Mark). IsLongest (IsCondition m) c ms (plain (fixed End) ∷ [])) (sym marks) (condition_to_end m c ss again)

pub read_found_condition : (ws : List Word) (c : Condition) → IsConditionReadAgain ws c (condition_text ws c)
read_found_condition ws c s u h undrawn w =
    subst (λ (ns : List Word). IsConditionInFront s.grows ns c (condition_text ns c)) h.names (condition_again c s u h.passes (names_kept s u h.passes h.scanned h.began) undrawn w)
