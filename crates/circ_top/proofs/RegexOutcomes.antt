-- What `regex` answers, and its outcome.
use Rattle.std.proofs.Common.{◌≡◌, ◌<◌, ◌≤◌, ◌↔◌, ◌⊎◌, ℕ, List, [], ◌∷◌, length, map, refl, sym, ap, ◌∙◌, subst, arith, inl, inr, Option, Some, None}
use Rattle.std.specs.List.{Contains}
use Rattle.circ_outer.specs.Shelf.{ShelfState}
use Rattle.circ_theory.specs.Theory.{Theory, goal}
use Rattle.circ_theory.specs.Experiment.{Behaves}
use Rattle.circ_theory.specs.WellFormed.{IsWellFormed}
use Rattle.circ_theory.specs.Goal.{Goal}
use Rattle.circ_theory.proofs.Casing.{contains_first}
use Rattle.circ_regex.specs.Grammar.{byte_limit, IsTextOfRegex}
use Rattle.circ_regex.specs.Lang.{LANG}
use Rattle.circ_regex.specs.Matches.{Letter, Expression, Matches}
use Rattle.circ_regex.specs.Member.{expression_term}
use Rattle.circ_proof.specs.Accepted.{Accepted}
use Rattle.circ_proof.specs.Proof.{Block, Proof, ProofFor}
use Rattle.circ_read.specs.declared.cause.Cause.TheVariants as cause
use Rattle.circ_files.specs.Like.{IsLike, itself}
use Rattle.circ_status.specs.declared.status.Status.{Status}
use Rattle.circ_status.specs.declared.status.Status.TheVariants as status
use Rattle.circ_status.specs.Ending.{Stored, ending}
use Rattle.circ_found.specs.Answering.{SearchEnds}
use Rattle.circ_search.specs.Plain.{conduct_with}
use Rattle.circ_turn.specs.declared.search.Limits.{Limits}
use Rattle.circ_top.specs.Command.{Regex, Asks}
use Rattle.circ_top.specs.Outcome.{command}
use Rattle.circ_top.specs.Refusals.{refusal_text}
use Rattle.circ_top.specs.Regex.{RefusesWord, IsWordFault, equality_goals}
use Rattle.circ_top.specs.Regex.{RegexOutcome, no_left, no_right, both_read, IsEqualitySearched, RefusesRegex, left_fault, right_fault}
use Rattle.circ_top.proofs.Agreeing.{DueIs, outcome, no_memory_left, AgreesWith, agreed, memory_with}
use Rattle.circ_top.proofs.Searches.{SearchesOnce, one_ending}

-- bytes spell one expression at most
abbrev pub ExpressionsOnce : Type 0
ExpressionsOnce = (bytes : List ℕ) (e f : Expression) → IsTextOfRegex bytes e → IsTextOfRegex bytes f → e ≡ f

-- the answer is one of a word that is no expression
abbrev IsWordEnd : Status → Type 0
IsWordEnd (status.Unreadable file place c) = Unit {0}
IsWordEnd status.Memory = Unit {0}
IsWordEnd _ = ⊥

-- a word that is no expression: it refuses the command, or memory ran out
data WordFault (number : ℕ) (word : List ℕ) : Status → Type 0 where
  refuses : (s : Status) → RefusesWord number word s → WordFault number word s
  out_of_memory : WordFault number word status.Memory

word_fault : (number : ℕ) (word : List ℕ) (s : Status) → IsWordFault number word s → WordFault number word s
word_fault number word (status.Unreadable file place c) f = refuses (status.Unreadable file place c) f
word_fault number word status.Memory f = out_of_memory
word_fault number word s f = absurd f

word_end : (number : ℕ) (word : List ℕ) (s : Status) → IsWordFault number word s → IsWordEnd s
word_end number word (status.Unreadable file place c) f = tt
word_end number word status.Memory f = tt
word_end number word s f = absurd f

module _ (left right : List ℕ) where
  refused_end : (s : Status) → RefusesRegex left right s → IsWordEnd s
  refused_end s (left_fault _ f) = word_end 1 left s f
  refused_end s (right_fault _ e r f) = word_end 2 right s f

  -- it is refused with no other answer
  pub regex_not : (s r : Status) → (IsWordEnd r → ⊥) → RefusesRegex left right s → s ≡ r → ⊥
  regex_not s r not f e = not (subst IsWordEnd e (refused_end s f))

  pub regex_not_ok : (s : Status) → RefusesRegex left right s → s ≡ status.Ok → ⊥
  regex_not_ok s f e = regex_not s status.Ok (λ x. x) f e

  pub regex_not_refused : (s : Status) (n : ℕ) → RefusesRegex left right s → s ≡ status.Refused n → ⊥
  regex_not_refused s n f e = regex_not s (status.Refused n) (λ x. x) f e

  pub regex_not_unread : (s : Status) (n : ℕ) → RefusesRegex left right s → s ≡ status.ReadFault n → ⊥
  regex_not_unread s n f e = regex_not s (status.ReadFault n) (λ x. x) f e

  pub regex_not_past : (s : Status) (file n : ℕ) → RefusesRegex left right s → s ≡ status.TooLong file n → ⊥
  regex_not_past s file n f e = regex_not s (status.TooLong file n) (λ x. x) f e

  pub regex_not_unwritten : (s : Status) (n : ℕ) → RefusesRegex left right s → s ≡ status.WriteFault n → ⊥
  regex_not_unwritten s n f e = regex_not s (status.WriteFault n) (λ x. x) f e

pub memory_refuses : (left right : List ℕ) (s : Status) → s ≡ status.Memory → RefusesRegex left right s
memory_refuses left right s e = subst (RefusesRegex left right) (sym e) (left_fault status.Memory tt)

pub ruleset refusing = (memory_refuses)

-- a word that is an expression is not refused
spells_not_refused : (number : ℕ) (word : List ℕ) (e : Expression) (s : Status) → IsTextOfRegex word e → RefusesWord number word s → ⊥
spells_not_refused number word e (status.Unreadable file place (cause.Limit n)) t r = omega (arith, t.0, r.1.2)
spells_not_refused number word e (status.Unreadable file place cause.Shape) t r = r.1.2 e t
spells_not_refused number word e (status.Unreadable file place c) t r = absurd r.1
spells_not_refused number word e s t r = absurd r

-- a word is refused in one way
one_refusal : (number : ℕ) (word : List ℕ) (s r : Status) → RefusesWord number word s → RefusesWord number word r → s ≡ r
one_refusal number word (status.Unreadable f p (cause.Limit n)) (status.Unreadable g q (cause.Limit m)) a b =
    let file : f ≡ g = a.0 ∙ sym b.0 in
    let place : p ≡ q = a.1.0 ∙ sym b.1.0 in
    let count : n ≡ m = a.1.1 ∙ sym b.1.1 in
    cc
one_refusal number word (status.Unreadable f p cause.Shape) (status.Unreadable g q cause.Shape) a b =
    let file : f ≡ g = a.0 ∙ sym b.0 in
    let place : p ≡ q = a.1.0 ∙ sym b.1.0 in
    cc
one_refusal number word (status.Unreadable f p (cause.Limit n)) (status.Unreadable g q cause.Shape) a b = absurd (omega (arith, a.1.2, b.1.1))
one_refusal number word (status.Unreadable f p cause.Shape) (status.Unreadable g q (cause.Limit m)) a b = absurd (omega (arith, b.1.2, a.1.1))
one_refusal number word (status.Unreadable f p (cause.Limit n)) (status.Unreadable g q d) a b = absurd b.1
one_refusal number word (status.Unreadable f p cause.Shape) (status.Unreadable g q d) a b = absurd b.1
one_refusal number word (status.Unreadable f p (cause.Limit n)) r a b = absurd b
one_refusal number word (status.Unreadable f p cause.Shape) r a b = absurd b
one_refusal number word (status.Unreadable f p c) r a b = absurd a.1
one_refusal number word s r a b = absurd a

-- a length within the limit, or past it
pub short_or_long : (m n : ℕ) → (n ≤ m) ⊎ (m < n)
short_or_long m n = grind arith

-- a word is an expression, or it is refused
pub word_decides : (number : ℕ) (word : List ℕ) → ((e : Expression) → IsTextOfRegex word e → ⊥) → ((s : Status) → RefusesWord number word s → ⊥) → ⊥
word_decides number word none_is no_refusal = sized (short_or_long byte_limit (length word))
  where
    sized : (length word ≤ byte_limit) ⊎ (byte_limit < length word) → ⊥
    sized (inl short) = no_refusal (status.Unreadable number 0 cause.Shape) (refl, (refl, short, none_is))
    sized (inr long) = no_refusal (status.Unreadable number 0 (cause.Limit (length word))) (refl, (refl, refl, long))

module _ (limits : Limits) (left right name : List ℕ) where
  pub equality_outcome : (s : Status) (text : List ℕ) (stored : Option Stored) → IsEqualitySearched limits left right name (ending s text stored)
      → RegexOutcome limits left right name s text stored
  equality_outcome s text stored a = both_read s text stored a.e a.f a.left_is a.right_is a.ends

  module _ (words : List (List ℕ)) (before after : ShelfState) (i : Asks words (Regex limits left right name)) where
    due_word : (s : Status) (number : ℕ) (word : List ℕ) → WordFault number word s
        → ((r : Status) → RefusesWord number word r → RegexOutcome limits left right name r (refusal_text (Regex limits left right name) r) None)
        → DueIs words before after s (refusal_text (Regex limits left right name) s) None
    due_word s number word (refuses _ r) f =
        outcome s (refusal_text (Regex limits left right name) s) None
        (command (Regex limits left right name) s (refusal_text (Regex limits left right name) s) None i (f s r))
    due_word _ number word out_of_memory f = no_memory_left

    pub due_regex : (s : Status) → RefusesRegex left right s → DueIs words before after s (refusal_text (Regex limits left right name) s) None
    due_regex s (left_fault _ f) = due_word s 1 left (word_fault 1 left s f) (λ r x. no_left r x)
    due_regex s (right_fault _ e t f) = due_word s 2 right (word_fault 2 right s f) (λ r x. no_right r e t x)

  module _ (once : ExpressionsOnce) (searches : SearchesOnce) (before after : ShelfState) where
    abbrev refusal_of : Status → List ℕ
    refusal_of s = refusal_text (Regex limits left right name) s

    agreed_refusal : (number : ℕ) (word : List ℕ) (s r : Status) → RefusesWord number word s → RefusesWord number word r
        → AgreesWith before after s (refusal_of s) None r (refusal_of r) None
    agreed_refusal number word s r a b =
        let P : Status → Type 0 = λ x. IsLike s (refusal_of s) x (refusal_of x) in
        agreed r (refusal_of r) None (subst P (one_refusal number word s r a b) (itself s (refusal_of s))) refl

    left_agrees : (r s : Status) (text : List ℕ) (stored : Option Stored) → WordFault 1 left r → RegexOutcome limits left right name s text stored
        → AgreesWith before after s text stored r (refusal_of r) None
    left_agrees r s _ _ (refuses _ a) (no_left _ b) = agreed_refusal 1 left s r b a
    left_agrees r s _ _ (refuses _ a) (no_right _ e t b) = absurd (spells_not_refused 1 left e r t a)
    left_agrees r s text stored (refuses _ a) (both_read _ _ _ e f t u x) = absurd (spells_not_refused 1 left e r t a)
    left_agrees _ s text stored out_of_memory c = memory_with

    right_agrees : (r s : Status) (text : List ℕ) (stored : Option Stored) (e : Expression) → IsTextOfRegex left e → WordFault 2 right r
        → RegexOutcome limits left right name s text stored → AgreesWith before after s text stored r (refusal_of r) None
    right_agrees r s _ _ e t (refuses _ a) (no_left _ b) = absurd (spells_not_refused 1 left e s t b)
    right_agrees r s _ _ e t (refuses _ a) (no_right _ f u b) = agreed_refusal 2 right s r b a
    right_agrees r s text stored e t (refuses _ a) (both_read _ _ _ f g u v x) = absurd (spells_not_refused 2 right g r v a)
    right_agrees _ s text stored e t out_of_memory c = memory_with

    pub regex_agrees : (r s : Status) (text : List ℕ) (stored : Option Stored) → RefusesRegex left right r → RegexOutcome limits left right name s text stored
        → AgreesWith before after s text stored r (refusal_of r) None
    regex_agrees r s text stored (left_fault _ f) c = left_agrees r s text stored (word_fault 1 left r f) c
    regex_agrees r s text stored (right_fault _ e t f) c = right_agrees r s text stored e t (word_fault 2 right r f) c

    pub equality_agrees : (r : Status) (given : List ℕ) (other : Option Stored) → IsEqualitySearched limits left right name (ending r given other)
        → (s : Status) (text : List ℕ) (stored : Option Stored) → RegexOutcome limits left right name s text stored
        → AgreesWith before after s text stored r given other
    equality_agrees r given other a s _ _ (no_left _ b) = absurd (spells_not_refused 1 left a.e s a.left_is b)
    equality_agrees r given other a s _ _ (no_right _ e t b) = absurd (spells_not_refused 2 right a.f s a.right_is b)
    equality_agrees r given other a s text stored (both_read _ _ _ e f t u x) =
        let P : Expression → Type 0 = λ y. SearchEnds LANG (conduct_with limits) name (equality_goals y f) (ending s text stored) in
        let Q : Expression → Type 0 = λ y. SearchEnds LANG (conduct_with limits) name (equality_goals a.e y) (ending s text stored) in
        let ends = subst Q (once right f a.f u a.right_is) (subst P (once left e a.e t a.left_is) x) in
        let same : ending s text stored ≡ ending r given other =
        one_ending LANG (conduct_with limits) name (equality_goals a.e a.f) searches (ending s text stored) (ending r given other) ends a.ends in
        let R : Status → Type 0 = λ y. IsLike s text y text in
        let S : List ℕ → Type 0 = λ y. IsLike s text r y in
        agreed r given other (subst S (ap (λ y. y.text) same) (subst R (ap (λ y. y.status) same) (itself s text))) (sym (ap (λ y. y.stored) same))

-- ---- what an accepted proof says

-- the goals of accepted proofs in LANG behave
abbrev pub GoalsBehave : Type 0
GoalsBehave = (th : Theory) → IsWellFormed th → (p : Proof) → ProofFor th p → Accepted th p → (b : Block) → Contains p.blocks b → (g : Goal)
    → Contains b.goals g → Behaves th g

-- terms of expressions that behave alike match the same words
abbrev pub AlikeMatch : Type 0
AlikeMatch = (e f : Expression) → Behaves LANG (goal [] (expression_term e) (expression_term f)) → (w : List Letter) → (Matches e w ↔ Matches f w)

-- a list of lists that has one member, which has one
only_goal : (bs : List Block) (g : Goal) → map (λ b. b.goals) bs ≡ (g ∷ []) ∷ [] → (b : Block) × Contains bs b × Contains b.goals g
only_goal [] g e = absurd (cc)
only_goal (b ∷ bs) g e =
    let same : b.goals ≡ g ∷ [] = cc in
    let P : List Goal → Type 0 = λ gs. Contains gs g in
    (b, contains_first b bs, subst P (sym same) (contains_first g []))

pub equality_matches : GoalsBehave → AlikeMatch → IsWellFormed LANG → (e f : Expression) (p : Proof) → ProofFor LANG p → Accepted LANG p
    → map (λ b. b.goals) p.blocks ≡ equality_goals e f → (w : List Letter) → (Matches e w ↔ Matches f w)
equality_matches behave alike ok e f p fits accepted goals =
    let g : Goal = goal [] (expression_term e) (expression_term f) in
    let x = only_goal p.blocks g goals in
    alike e f (behave LANG ok p fits accepted x.0 x.1 g x.2)
