-- What `regex` does: its outcome, and what it stores.
use Rattle.std.specs.Prelude.{◌≡◌, ◌≢◌, ◌≤◌, ◌<◌, ◌↔◌, ℕ, List, [], ◌∷◌, length, map, Option, Some, None, true}
use Rattle.circ_outer.specs.Shelf.{IsQuiet}
use Rattle.circ_theory.specs.Theory.{goal}
use Rattle.circ_theory.specs.WellFormed.{IsWellFormed}
use Rattle.circ_theory.specs.Goal.{Goal}
use Rattle.circ_regex.specs.Grammar.{byte_limit, IsTextOfRegex}
use Rattle.circ_regex.specs.Lang.{LANG}
use Rattle.circ_regex.specs.Matches.{Letter, Expression, Matches}
use Rattle.circ_regex.specs.Member.{expression_term}
use Rattle.circ_proof.specs.Accepted.{Accepted}
use Rattle.circ_proof.specs.Proof.{Proof, ProofFor}
use Rattle.circ_proof_text.specs.ProofText.{proof_text}
use Rattle.circ_conditional_search.specs.ConditionalSearch.{CanAllBeSearched}
use Rattle.circ_read.specs.declared.cause.Cause.TheVariants as cause
use Rattle.circ_files.specs.Files.{Refusal}
use Rattle.circ_status.specs.declared.status.Status.{Status}
use Rattle.circ_status.specs.declared.status.Status.TheVariants as status
use Rattle.circ_status.specs.Ending.{Stored, Ending, ending}
use Rattle.circ_found.specs.Answering.{proved_text, SearchEnds}
use Rattle.circ_search.specs.Plain.{conduct_with}
use Rattle.circ_top.specs.Command.{Regex}
use Rattle.circ_top.specs.Delivery.{Prints}
use Rattle.circ_top.specs.Refusals.{refusal_text}
use Rattle.circ_top.specs.Run.{Run}
use Rattle.circ_turn.specs.declared.search.Limits.{Limits}

-- why bytes are no expression, always at place 0: there are too many, or they spell none
abbrev pub ExpressionRefusal : Refusal
ExpressionRefusal place (cause.Limit n) bytes = (place ≡ 0) × (n ≡ length bytes) × (byte_limit < length bytes)
ExpressionRefusal place cause.Shape bytes = (place ≡ 0) × (length bytes ≤ byte_limit) × ((e : Expression) → IsTextOfRegex bytes e → ⊥)
ExpressionRefusal place _ bytes = ⊥

-- The word of this number is no expression. It counts as the file of this number.
abbrev pub RefusesWord : (number : ℕ) → (word : List ℕ) → Status → Type 0
RefusesWord number word (status.Unreadable file place c) = (file ≡ number) × ExpressionRefusal place c word
RefusesWord number word _ = ⊥

-- the same, or memory ran out
abbrev pub IsWordFault : (number : ℕ) → (word : List ℕ) → Status → Type 0
IsWordFault number word status.Memory = Unit {0}
IsWordFault number word s = RefusesWord number word s

-- one block with one goal: that the terms of the two expressions are equal
abbrev pub equality_goals : (e f : Expression) → List (List Goal)
equality_goals e f = (goal [] (expression_term e) (expression_term f) ∷ []) ∷ []

-- The outcome, with its text and what is stored: the first word is no expression; or it is one, and the second is none; or both are, and the search in LANG
-- for a proof that their terms are equal ends so.
pub data RegexOutcome (limits : Limits) (left right name : List ℕ) : Status → (text : List ℕ) → (stored : Option Stored) → Type 0 where
  no_left : (s : Status) → RefusesWord 1 left s → RegexOutcome limits left right name s (refusal_text (Regex limits left right name) s) None
  no_right : (s : Status) (e : Expression) → IsTextOfRegex left e → RefusesWord 2 right s
      → RegexOutcome limits left right name s (refusal_text (Regex limits left right name) s) None
  both_read : (s : Status) (text : List ℕ) (stored : Option Stored) (e f : Expression) → IsTextOfRegex left e → IsTextOfRegex right f
      → SearchEnds LANG (conduct_with limits) name (equality_goals e f) (ending s text stored) → RegexOutcome limits left right name s text stored

-- The two words are expressions, the equality of their terms can be searched in LANG, and the search ends so.
pub record IsEqualitySearched (limits : Limits) (left right name : List ℕ) (end : Ending) : Type 0 where
  pub e : Expression
  pub f : Expression
  pub left_is : IsTextOfRegex left e
  pub right_is : IsTextOfRegex right f
  pub well_formed : IsWellFormed LANG
  pub searchable : CanAllBeSearched LANG (equality_goals e f)
  pub ends : SearchEnds LANG (conduct_with limits) name (equality_goals e f) end

-- Why there is no search: the first word is no expression; or it is one, and the second is none; or memory ran out.
pub data RefusesRegex (left right : List ℕ) : Status → Type 0 where
  left_fault : (s : Status) → IsWordFault 1 left s → RefusesRegex left right s
  right_fault : (s : Status) (e : Expression) → IsTextOfRegex left e → IsWordFault 2 right s → RefusesRegex left right s

-- Status 0 of `regex`: the two words are expressions that match the same words, and the named file holds the text of an accepted proof in LANG that their
-- terms are equal, where the shelf tells. Every other name holds what it held. The report of this was printed, and the outside did not fail.
pub record StoresEquality (left right name : List ℕ) (run : Run) : Type 0 where
  pub e : Expression
  pub f : Expression
  pub p : Proof
  pub left_is : IsTextOfRegex left e
  pub right_is : IsTextOfRegex right f
  pub same_words : (w : List Letter) → Matches e w ↔ Matches f w
  pub proof_for : ProofFor LANG p
  pub accepted : Accepted LANG p
  pub goals : map (λ b. b.goals) p.blocks ≡ equality_goals e f
  pub short : length (proof_text p) ≤ 67108864
  pub holds : run.before.tells ≡ true → run.after.holds name ≡ Some (proof_text p)
  pub others : (n : List ℕ) → n ≢ name → run.after.holds n ≡ run.before.holds n
  pub quiet : IsQuiet run.before run.after
  pub prints : Prints (proved_text LANG.signature p) run.start run.end
