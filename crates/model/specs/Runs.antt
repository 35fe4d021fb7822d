-- What can happen to a shelf, one thing after another: requests, hardware reports and reach queries; and what a source group gets.
use Rattle.std.specs.Prelude.{ℕ, ◌≡◌, cond, List, [], ◌∷◌, ◌++◌, eqb, length, Ok}
use Rattle.model.specs.declared.Shelf.{Shelf}
use Rattle.model.specs.Answers.{Answer, Reach}
use Rattle.model.specs.Reach.{reach_query}
use Rattle.model.specs.Reports.{event, link_change, reduced_functionality, ses_notice}
use Rattle.model.specs.Server.{handle, served, lent_after}
use Rattle.model.specs.Shelf.{start_taken, start}

-- A request has its source group, its frame and the lent buffer: "The length and contents of the lent buffer are part of a request."
-- An event has its phy, source and amount, a link change its phy, a reach query its source group.
pub data Operation : Type 0 where
  Ask : ℕ → List ℕ → List ℕ → Operation
  Event : ℕ → ℕ → ℕ → Operation
  LinkChange : ℕ → Operation
  ReducedFunctionality : Operation
  Ses : Operation
  QueryReach : ℕ → Operation

-- the shelf after one of these
unfoldable pub next : Shelf → Operation → Shelf
next s (Ask g frame out) = (handle s g frame (length out)).shelf
next s (Event p source amount) = (event s p source amount).shelf
next s (LinkChange p) = (link_change s p).shelf
next s ReducedFunctionality = reduced_functionality s
next s Ses = ses_notice s
next s (QueryReach g) = s

-- the shelf after a sequence
unfoldable pub after : Shelf → List Operation → Shelf
after s [] = s
after s (operation ∷ operations) = after (next s operation) operations

-- A shelf that a start gave, after any operations: what was started, and what has happened since.
pub record Started (s : Shelf) : Type 0 where
  pub number : ℕ
  pub groups : List ℕ
  pub table : List ℕ
  pub identifier : List ℕ
  pub done : start_taken number groups table ≡ Ok tt
  pub operations : List Operation
  pub now : after (start number groups table identifier).shelf operations ≡ s

-- What a source gets: to a request the answer, "byte for byte", with the whole lent buffer afterwards; to a reach query its answer.
pub data Told : Type 0 where
  Answered : Answer → List ℕ → Told
  Shown : Reach → Told

-- what group g gets from one operation: nothing, unless it is g's own request or reach query
unfoldable pub told : ℕ → Shelf → Operation → List Told
told g s (Ask h frame out) =
    cond (eqb h g) (Answered (served s h frame out).answer (lent_after s h frame out) ∷ []) []
told g s (Event p source amount) = []
told g s (LinkChange p) = []
told g s ReducedFunctionality = []
told g s Ses = []
told g s (QueryReach h) = cond (eqb h g) (Shown (reach_query s h) ∷ []) []

-- "every answer that group gets", in a sequence
unfoldable pub answers : ℕ → Shelf → List Operation → List Told
answers g s [] = []
answers g s (operation ∷ operations) = told g s operation ++ answers g (next s operation) operations
