-- Where an attempt stands, and what its rounds answer.
use Rattle.std.specs.Prelude.{◌≡◌, ℕ, reverse, Option, Some, None, Result, Ok, Err}
use Rattle.circ_term.specs.Tree.{Tree}
use Rattle.circ_proof.specs.Plain.{ChainOf, plain_chain}
use Rattle.circ_rewrite.specs.declared.fault.RewriteFault.{RewriteFault}
use Rattle.circ_conditional_norm.specs.Work.{Work, Made}
use Rattle.circ_tries.specs.Trying.{Hinders}
use Rattle.circ_plain_search.specs.Search.{Sides, sides_with}
use Rattle.circ_attempt.specs.Attempt.{Rounds, Stood}
use Rattle.circ_rounds.specs.declared.run.Next.{Next}
use Rattle.circ_rounds.specs.declared.run.Next.TheVariants as next
use Rattle.circ_rounds.specs.declared.run.Run.{Run}
use Rattle.circ_rounds.specs.declared.sides.Sides.{Sides as TheSides}

-- both sides, with so much of the budget left
abbrev pub plain_sides : (budget : ℕ) → TheSides → Sides
plain_sides k s = sides_with s.left s.right (plain_chain s.chain) k

-- the sides as they stand, which keep no budget of their own
abbrev pub sides_of : Run → Sides
sides_of r = sides_with r.left r.right (plain_chain r.chain) 0

-- the pairs that have stood, the last one first
abbrev pub stood_of : Run → Stood
stood_of r = reverse r.stood.items

-- The attempt goes on with rounds from where it stands; or its chain makes the sides equal; or it comes to nothing.
abbrev pub GoesBy : Rounds → Work (Option (ChainOf Tree)) → Run → (left : ℕ) → Next → Type 0
GoesBy again w r left next.Open = w ≡ again (stood_of r) (sides_of r) left
GoesBy again w r left next.Closed = w ≡ Made (Some (plain_chain r.chain)) left
GoesBy again w r left next.Ended = w ≡ Made None left

-- the same, or the answer says why neither is known
abbrev pub RoundGoes : Rounds → Work (Option (ChainOf Tree)) → Run → (left : ℕ) → Result Next RewriteFault → Type 0
RoundGoes again w r left (Ok next) = GoesBy again w r left next
RoundGoes again w r left (Err e) = Hinders e left w
