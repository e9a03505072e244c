-- Tokens at which no derivation goes on.
use Rattle.std.proofs.Common.{◌≡◌, Bool, false, List, [], Option, Some, None}
use Rattle.tv_grammar.specs.Reads.{first_or}
use Rattle.tv_grammar.specs.Langs.{Lang, then, mapped, Branch, OfBranch, branch_value, branch_goes_on, headed, Turns, done, turn, turns_text, goes_at, turns}
use Rattle.tv_grammar.specs.Exact.{Outside, Ends}
use Rattle.std.proofs.lemmas.Bool.{or_from}

abbrev pub BranchOutside : {T K X : Type 0} → Branch T K X → (Option T → Bool) → Type 0
BranchOutside {T} b g = (d : OfBranch b) (t : Option T) → g t ≡ false → branch_goes_on b d t ≡ false

pub outside_ends : {T K X : Type 0} (l : Lang T K X) (g : Option T → Bool) → Outside l g → g None ≡ false → Ends l
outside_ends l g h e d = h d None e

pub mapped_outside : {T K X Y : Type 0} (f : X → Y) (l : Lang T K X) (g : Option T → Bool) → Outside l g → Outside (mapped f l) g
mapped_outside f l g h d t e = h d.0 t e

pub headed_outside : {T K X : Type 0} (missing : K) (cases : T → Branch T K X) (g : Option T → Bool) → ((t : T) → BranchOutside (cases t) g) → Outside (headed missing cases) g
headed_outside missing cases g h d t e = h d.0 d.1 t e

-- where what follows begins with none of the tokens at which the front goes on
pub then_outside : {T K X Y : Type 0} (a : Lang T K X) (b : X → Lang T K Y) (ga gb : Option T → Bool) → Outside a ga → ((x : X) → Outside (b x) gb) → ((x : X) (d : (b x).Of) (t : Option T) → gb t ≡ false → ga (first_or ((b x).text d []) t) ≡ false) → Outside (then a b) gb
then_outside a b ga gb h i split d t e = or_from _ _ (i (a.value d.0) d.1 t e) (h d.0 (first_or ((b (a.value d.0)).text d.1 []) t) (split (a.value d.0) d.1 t e))

module _ {T K S : Type 0} (cases : S → T → Branch T K S) (g : Option T → Bool) (split : (s : S) (t : T) → OfBranch (cases s t) → g (Some t) ≡ false) where
  -- turns begin with no token of g
  pub turns_first : (s : S) (d : Turns cases s) (r : List T) (u : Option T) → g (first_or r u) ≡ false → g (first_or (turns_text cases s d r) u) ≡ false
  turns_first s done r u e = e
  turns_first s (turn t d ds) r u e = split s t d

  pub turns_outside : (out : Option T → Bool) → ((s : S) (t : Option T) → out t ≡ false → goes_at (cases s) t ≡ false) → ((s : S) (t : T) → BranchOutside (cases s t) g) → ((t : Option T) → out t ≡ false → g t ≡ false) → (s : S) → Outside (turns cases s) out
  turns_outside out starts items within s done u e = starts s u e
  turns_outside out starts items within s (turn t d ds) u e = or_from _ _ (turns_outside out starts items within (branch_value (cases s t) d) ds u e) (items s t d (first_or (turns_text cases (branch_value (cases s t) d) ds []) u) (turns_first (branch_value (cases s t) d) ds [] u (within u e)))
