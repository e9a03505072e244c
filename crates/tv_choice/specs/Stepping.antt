use Rattle.std.specs.Prelude.{◌≡◌, ℕ, ◌≤◌, List, ◌++◌, length, map, All, ℤ, Option, None, Some, Contains}
use Rattle.tv_linear.specs.Linear.{IsMet, Linear}
use Rattle.tv_linear.specs.Known.{term_value}
use Rattle.tv_linear.specs.Terms.{terms_after}
use Rattle.tv_linear.specs.declared.region.Piece.{Piece}
use Rattle.tv_farkas.specs.Refuting.{AreShort}
use Rattle.tv_cases.specs.LinearCases.{LinearCase}
use Rattle.tv_choice.specs.declared.stepping.Standing.{Standing}
use Rattle.tv_choice.specs.declared.ways.Way.{Way}
use Rattle.tv_choice.specs.Leading.{Query, pieces_at, piece_rows}
use Rattle.tv_choice.specs.ChoicePaths.{IsPointHere, AreTermsAt}
use Rattle.tv_choice.specs.Rows.{put_terms, IsWidePut}
use Rattle.tv_choice.specs.Ways.{IsWayOf, IsWay}

-- whole values that are taken at the rows, and how many splits are left
pub record IsStanding (n : ℕ) (q : Query) (s : Standing) : Type 0 where
  pub left : s.left ≤ 128
  pub size : length s.point.now ≡ n
  pub short : AreShort s.point.now
  pub here : IsPointHere n q s.rows.now s.point.now

-- the way of these rows of a case, with terms for its draws at an integer point
pub record IsWayAt (n d taken target : ℕ) (rows : List Linear) (zs : List ℤ) (w : Way) : Type 0 where
  pub draws : List Linear
  pub terms : AreTermsAt n d rows zs draws
  pub made : IsWayOf n taken target rows draws w

-- with such terms put in the first of these rows that does not fit is too wide at the column
pub record IsWideAtPoint (n d : ℕ) (rows : List Linear) (zs : List ℤ) (column : ℕ) : Type 0 where
  pub draws : List Linear
  pub terms : AreTermsAt n d rows zs draws
  pub wide : IsWidePut (put_terms n draws) rows column

-- with no whole draws the case leads from the point into the piece
abbrev pub NoStepTo : ℕ → List ℤ → LinearCase → Piece → Type 0
NoStepTo n xs c p =
    (ds : List ℤ) → length ds ≡ c.draws → All (IsMet (xs ++ ds)) c.guards
    → All (IsMet (map (term_value (xs ++ ds)) (terms_after n c.updates))) (piece_rows p) → ⊥

-- a way each of whose rows the point meets
pub record IsWayFrom (n : ℕ) (q : Query) (above : List Linear) (xs : List ℤ) (w : Way) : Type 0 where
  pub way : IsWay n q above w
  pub met : All (IsMet xs) w.rows.items

abbrev pub IsStepTo : ℕ → Query → List Linear → List ℤ → LinearCase → Piece → Option Way → Type 0
IsStepTo n q above xs c p (Some w) = IsWayFrom n q above xs w
IsStepTo n q above xs c p None = NoStepTo n xs c p

abbrev pub IsStepBy : ℕ → Query → List Linear → List ℤ → LinearCase → Option Way → Type 0
IsStepBy n q above xs c (Some w) = IsWayFrom n q above xs w
IsStepBy n q above xs c None = (p : Piece) → Contains (pieces_at q.pieces c.to) p → NoStepTo n xs c p

abbrev pub IsStepInto : ℕ → Query → List Linear → List ℤ → Option Way → Type 0
IsStepInto n q above xs (Some w) = IsWayFrom n q above xs w
IsStepInto n q above xs None =
    (c : LinearCase) → Contains q.system.cases c → c.from ≡ q.location → (p : Piece) → Contains (pieces_at q.pieces c.to) p → NoStepTo n xs c p
