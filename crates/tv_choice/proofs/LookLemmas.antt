-- Rows that are shown, open or excluded.
use Rattle.std.proofs.Common.{◌≡◌, ℕ, zero, suc, ◌+◌, ◌<◌, ◌≤◌, List, [], ◌∷◌, ◌++◌, length, take, get_or, All, arith, refl, sym, ap, ◌∙◌, subst, ℤ, inl, inr, length-append}
use Rattle.std.specs.Prelude.{Contains}
use Rattle.tv_linear.specs.Linear.{Linear}
use Rattle.tv_linear.specs.Arithmetic.{denial}
use Rattle.tv_linear.specs.Known.{as_given}
use Rattle.tv_linear.specs.Refutation.{Refutes}
use Rattle.tv_linear.proofs.ListLaws.{take_past, take_next}
use Rattle.tv_farkas.specs.Paths.{TakenOnce}
use Rattle.tv_farkas.specs.Judging.{IsPointAt, IsJudgeFault}
use Rattle.tv_farkas.specs.declared.fault.CoverFault.{CoverFault}
use Rattle.tv_farkas.specs.declared.fault.CoverFault.TheVariants.{Splits, Solve, Wide, Memory}
use Rattle.tv_cover.specs.Targets.{HasPoint, IsNarrowRow}
use Rattle.tv_cover.specs.CoverPaths.{IsLeftOpen, IsShut}
use Rattle.tv_cover.specs.Trying.{IsShownRow, IsWideDenialAt, IsWideIn}
use Rattle.std.proofs.lemmas.List.Elements.{All-nil, All-cons}
use Rattle.tv_cover.proofs.PointLemmas.{refuted_points}
use Rattle.tv_choice.specs.declared.looking.Best.{Best}
use Rattle.tv_choice.specs.declared.looking.Best.TheVariants as best
use Rattle.tv_choice.specs.declared.looking.Look.{Look}
use Rattle.tv_choice.specs.declared.looking.Look.TheVariants as looks
use Rattle.tv_choice.specs.declared.ways.Way.{Way}
use Rattle.std.proofs.lemmas.Option.{slice_get_read}
use Rattle.tv_choice.specs.Leading.{Query}
use Rattle.tv_choice.specs.ChoicePaths.{IsWayRows}
use Rattle.tv_choice.specs.Refusals.{IsTried, tried}
use Rattle.tv_choice.specs.Looking.{IsWayRow, IsLookFault, ShowsRow, AreShown, IsAt, AreEntered, IsOpen, NoneShown, IsBest, IsOpened, IsLook, IsOneMore}
use Rattle.tv_choice.specs.Ways.{way_rows, IsWay, IsUnmade}
use Rattle.tv_choice.proofs.FitLemmas.{contains_last}

-- ---- points
pub point_of : (n : ℕ) (rows : List Linear) (values : List ℤ) (scale : ℤ) → IsPointAt n rows values scale → HasPoint n rows
point_of n rows values scale h = record { values = values; scale = scale; size = h.point.as_many; meets = h.met }

-- ---- refusals
pub judge_tried : (wide : ℕ → Type 0) (n : ℕ) (q : Query) (above asked : List Linear) (r : Linear) (pivots : ℕ) (fault : CoverFault) → asked ≡ above ++ r ∷ [] → IsTried n q above r → IsJudgeFault n asked pivots fault → IsLookFault wide n q above pivots fault
judge_tried wide n q above asked r pivots (Splits path) e t h = absurd h
judge_tried wide n q above asked r pivots (Solve kept fault) e t h = tried r t (subst (λ rs. TakenOnce rs kept.items) e h.0) h.1
judge_tried wide n q above asked r pivots (Wide column) e t h = absurd h
judge_tried wide n q above asked r pivots Memory e t h = tt

pub row_tried : (n : ℕ) (q : Query) (above : List Linear) (r : Linear) → IsWayRow n q above r → IsTried n q above r
row_tried n q above r w = record { rows = w.0; way = w.1; at = r; among = w.2; is = inl refl }

pub denial_tried : (n : ℕ) (q : Query) (above : List Linear) (r s : Linear) → s ≡ denial r → IsNarrowRow (denial r) → IsWayRow n q above r → IsTried n q above s
denial_tried n q above r s e narrow w = record { rows = w.0; way = w.1; at = r; among = w.2; is = inr (e, narrow) }

pub look_unmade : (wide : ℕ → Type 0) (n : ℕ) (q : Query) (above : List Linear) (pivots : ℕ) (fault : CoverFault) → IsUnmade wide fault → IsLookFault wide n q above pivots fault
look_unmade wide n q above pivots (Splits path) h = absurd h
look_unmade wide n q above pivots (Solve kept fault) h = absurd h
look_unmade wide n q above pivots (Wide column) h = h
look_unmade wide n q above pivots Memory h = tt

pub look_other : (wide more : ℕ → Type 0) (n : ℕ) (q : Query) (above : List Linear) (pivots : ℕ) (fault : CoverFault) → ((column : ℕ) → wide column → more column) → IsLookFault wide n q above pivots fault → IsLookFault more n q above pivots fault
look_other wide more n q above pivots (Splits path) f h = h
look_other wide more n q above pivots (Solve kept fault) f h = h
look_other wide more n q above pivots (Wide column) f h = f column h
look_other wide more n q above pivots Memory f h = tt

shown_rows : (n : ℕ) (rows owed : List Linear) (lists : List (List ℤ)) → AreShown n rows owed lists → All (IsShownRow n rows) owed
shown_rows n rows [] lists h = All-nil (IsShownRow n rows)
shown_rows n rows (r ∷ owed) [] h = absurd h
shown_rows n rows (r ∷ owed) (ms ∷ lists) h = All-cons (IsShownRow n rows) r owed (h.0.narrow, refuted_points n (rows ++ denial r ∷ []) ms h.0.refutes) (shown_rows n rows owed lists h.1)

-- the first row whose denial is too wide
pub wide_in : (n : ℕ) (rows owed : List Linear) (i : ℕ) (r : Linear) (lists : List (List ℤ)) (column : ℕ) → i < length owed → r ≡ get_or owed i r → AreShown n rows (take i owed) lists → IsWideDenialAt r column → IsWideIn n rows owed column
wide_in n rows owed i r lists column l e h w = record { place = i; row = r; found = slice_get_read owed (length owed) i r refl l e; shown = shown_rows n rows (take i owed) lists h; wide = w }

-- ---- shown rows
pub excluded_one : (n : ℕ) (rows all : List Linear) (r : Linear) (ms : List ℤ) → all ≡ rows ++ r ∷ [] → Refutes n (as_given all) ms → IsShut n rows (r ∷ [])
excluded_one n rows all r ms e h = (r, (0, omega arith, refl), refuted_points n (rows ++ r ∷ []) ms (subst (λ rs. Refutes n (as_given rs) ms) e h))

pub entered_one : (n : ℕ) (rows all : List Linear) (r : Linear) (values : List ℤ) (scale : ℤ) → all ≡ rows ++ r ∷ [] → IsPointAt n all values scale → AreEntered n rows (r ∷ [])
entered_one n rows all r values scale e h s c = elim (contains_last [] r s c) [
  | inl same ↦ subst (λ x. HasPoint n (rows ++ x ∷ [])) same (subst (HasPoint n) e (point_of n all values scale h))
  | inr none ↦ absurd (let l = none.1 in omega (arith, l))
]

shown_push : (n : ℕ) (rows owed : List Linear) (lists : List (List ℤ)) (r : Linear) (ms : List ℤ) → AreShown n rows owed lists → ShowsRow n rows r ms → AreShown n rows (owed ++ r ∷ []) (lists ++ ms ∷ [])
shown_push n rows [] [] r ms h g = (g, tt)
shown_push n rows [] (l ∷ lists) r ms h g = absurd h
shown_push n rows (q ∷ owed) [] r ms h g = absurd h
shown_push n rows (q ∷ owed) (l ∷ lists) r ms h g = (h.0, shown_push n rows owed lists r ms h.1 g)

pub shown_more : (n : ℕ) (rows owed : List Linear) (i : ℕ) (r : Linear) (old new : List (List ℤ)) (ms : List ℤ) → i < length owed → r ≡ get_or owed i r → new ≡ old ++ ms ∷ [] → ShowsRow n rows r ms → AreShown n rows (take i owed) old → AreShown n rows (take (i + 1) owed) new
shown_more n rows owed i r old new ms l e en g h =
    subst (λ os. AreShown n rows os new) (sym (take_next owed i r l e)) (subst (λ ls. AreShown n rows (take i owed ++ r ∷ []) ls) (sym en) (shown_push n rows (take i owed) old r ms h g))

-- ---- one more way
at_longer : {A : Type 0} (xs : List A) (x y : A) (i : ℕ) → IsAt xs i y → IsAt (xs ++ x ∷ []) i y
at_longer xs x y i h = (let a = h.0 in let l = length-append xs (x ∷ []) in omega (arith, a, l), get_longer xs x y i h.0 ∙ h.1)
  where
    get_longer : {A : Type 0} (xs : List A) (x y : A) (i : ℕ) → i < length xs → get_or (xs ++ x ∷ []) i y ≡ get_or xs i y
    get_longer [] x y i l = absurd (omega (arith, l))
    get_longer (z ∷ xs) x y zero l = refl
    get_longer (z ∷ xs) x y (suc i) l = get_longer xs x y i (omega (arith, l))

pub at_end : {A : Type 0} (xs : List A) (x : A) → IsAt (xs ++ x ∷ []) (length xs) x
at_end xs x = (let l = length-append xs (x ∷ []) in omega (arith, l), get_end xs x)
  where
    get_end : {A : Type 0} (xs : List A) (x : A) → get_or (xs ++ x ∷ []) (length xs) x ≡ x
    get_end [] x = refl
    get_end (z ∷ xs) x = get_end xs x

pub none_more : (n : ℕ) (rows : List Linear) (ws : List Way) (w : Way) → NoneShown n rows ws → IsLeftOpen n rows (way_rows w) → NoneShown n rows (ws ++ w ∷ [])
none_more n rows ws w h g v c = elim (contains_last ws w v c) [
  | inl e ↦ subst (λ u. IsLeftOpen n rows (way_rows u)) e g
  | inr b ↦ h v b
]

pub best_more : (n : ℕ) (rows : List Linear) (ws : List Way) (w : Way) (b : Best) → IsBest n rows ws b → IsLeftOpen n rows (way_rows w) → (b ≡ best.Nothing → IsShut n rows (way_rows w)) → IsBest n rows (ws ++ w ∷ []) b
best_more n rows ws w (best.Take way lists) h g x = (h.0, at_longer ws w h.0 way h.1, h.2)
best_more n rows ws w (best.Split way row) h g x = (h.0, at_longer ws w h.0 way h.1, h.2, none_more n rows ws w h.3 g)
best_more n rows ws w best.Nothing h g x = (
  λ v c. elim (contains_last ws w v c) [
    | inl e ↦ subst (λ u. IsShut n rows (way_rows u)) e (x refl)
    | inr b ↦ h.0 v b
  ],
  none_more n rows ws w h.1 g,
)

pub not_shown : (n : ℕ) (rows : List Linear) (w : Way) (row : ℕ) → IsOpen n rows (way_rows w) row → IsLeftOpen n rows (way_rows w)
not_shown n rows w row o = (o.0.0, (row, o.0.1.0, o.0.1.1), o.0.2.1)

pub best_split : (n : ℕ) (rows : List Linear) (ws : List Way) (w : Way) (row : ℕ) → IsBest n rows ws best.Nothing → IsOpen n rows (way_rows w) row → IsBest n rows (ws ++ w ∷ []) (best.Split (length ws) row)
best_split n rows ws w row h o = (w, at_end ws w, o, none_more n rows ws w h.1 (not_shown n rows w row o))

pub best_opened : (n : ℕ) (rows : List Linear) (ws : List Way) (w : Way) (row : ℕ) (b c : Best) → IsBest n rows ws b → IsOpen n rows (way_rows w) row → IsOpened (length ws) row b c → IsBest n rows (ws ++ w ∷ []) c
best_opened n rows ws w row (best.Take way lists) c h o e = subst (λ x. IsBest n rows (ws ++ w ∷ []) x) (sym e) (best_more n rows ws w (best.Take way lists) h (not_shown n rows w row o) (λ q. cc))
best_opened n rows ws w row (best.Split way r) c h o e = subst (λ x. IsBest n rows (ws ++ w ∷ []) x) (sym e) (best_more n rows ws w (best.Split way r) h (not_shown n rows w row o) (λ q. cc))
best_opened n rows ws w row best.Nothing c h o e = subst (λ x. IsBest n rows (ws ++ w ∷ []) x) (sym e) (best_split n rows ws w row h o)

pub best_next : (n : ℕ) (rows : List Linear) (ws : List Way) (w : Way) (look : Look) (b c : Best) → IsBest n rows ws b → IsLook n rows (way_rows w) look → IsOneMore (length ws) look b c → IsBest n rows (ws ++ w ∷ []) c
best_next n rows ws w (looks.Shown lists) b c h o e = subst (λ x. IsBest n rows (ws ++ w ∷ []) x) (sym e) (w, at_end ws w, o)
best_next n rows ws w (looks.Open row) b c h o e = best_opened n rows ws w row b c h o e
best_next n rows ws w looks.Excluded b c h o e = subst (λ x. IsBest n rows (ws ++ w ∷ []) x) (sym e) (best_more n rows ws w b h o.1 (λ q. o.0))

-- what can be taken among the first ways can be taken
at_whole : {A : Type 0} (xs : List A) (k i : ℕ) (y : A) → IsAt (take k xs) i y → IsAt xs i y
at_whole xs zero i y h = absurd (let l = h.0 in omega (arith, l))
at_whole [] (suc k) i y h = absurd (let l = h.0 in omega (arith, l))
at_whole (x ∷ xs) (suc k) zero y h = (omega arith, h.1)
at_whole (x ∷ xs) (suc k) (suc i) y h = let r = at_whole xs k i y ((let l = h.0 in omega (arith, l)), h.1) in ((let l = r.0 in omega (arith, l)), r.1)

pub best_taken : (n : ℕ) (rows : List Linear) (ws : List Way) (k way : ℕ) (lists : _) → IsBest n rows (take k ws) (best.Take way lists) → IsBest n rows ws (best.Take way lists)
best_taken n rows ws k way lists h = (h.0, at_whole ws k way h.0 h.1, h.2)

pub length-take_all : {A : Type 0} (xs : List A) (i : ℕ) → i ≤ length xs → length (take i xs) ≡ i
length-take_all xs zero l = refl
length-take_all [] (suc i) l = absurd (omega (arith, l))
length-take_all (x ∷ xs) (suc i) l = ap suc (length-take_all xs i (omega (arith, l)))

-- ---- lists of rows
pub entered_next : (n : ℕ) (rows owed : List Linear) (i : ℕ) (r : Linear) → i < length owed → r ≡ get_or owed i r → AreEntered n rows (r ∷ []) → AreEntered n rows (take i owed) → AreEntered n rows (take (i + 1) owed)
entered_next n rows owed i r l e one h s c = elim (contains_last (take i owed) r s (subst (λ rs. Contains rs s) (take_next owed i r l e) c)) [
  | inl same ↦ one s (0, omega arith, same)
  | inr before ↦ h s before
]

pub entered_all : (n : ℕ) (rows owed : List Linear) (i : ℕ) → length owed ≤ i → AreEntered n rows (take i owed) → AreEntered n rows owed
entered_all n rows owed i l h = subst (AreEntered n rows) (take_past owed i l) h

-- a row of a way
pub row_at : (n : ℕ) (q : Query) (above owed : List Linear) (i : ℕ) (r : Linear) → IsWayRows n q above owed → i < length owed → r ≡ get_or owed i r → IsWayRow n q above r
row_at n q above owed i r w l e = (owed, w, (i, l, sym e))

pub way_is_rows : (n : ℕ) (q : Query) (above : List Linear) (w : Way) → IsWay n q above w → IsWayRows n q above (way_rows w)
way_is_rows n q above w h = record {
  case = h.case;
  piece = h.piece;
  way_in = h.way_in;
  draws = w.draws.items;
  terms = h.origin;
  same = h.exact;
  narrow = h.narrow;
}
