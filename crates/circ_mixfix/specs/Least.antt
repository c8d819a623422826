-- How few tokens may spell a term of a sort.
use Rattle.std.specs.Prelude.{◌≡◌, ◌≤◌, ◌<◌, ◌+◌, ◌-◌, ℕ, if◌then◌else◌, List, [], ◌∷◌, Some, get_or, length}
use Rattle.std.specs.List.{slice_get}
use Rattle.circ_spelling.specs.declared.grammar.Variable.{Variable}
use Rattle.circ_form.specs.Form.{first_word, has_hole}
use Rattle.circ_theory.specs.Signature.{Signature, Operator}
use Rattle.circ_theory.specs.Operators.{first_sort}
use Rattle.circ_mixfix.specs.Reached.{Reached}
use Rattle.circ_mixfix.specs.Symbols.{Symbol, Word, Hole, symbols_of}

-- a number of a list
abbrev pub StandsIn : List ℕ → ℕ → Type 0
StandsIn xs x = (k : ℕ) × (slice_get xs k ≡ Some x)

-- the number that is kept for a sort; 0 for one beyond the list
abbrev pub least_of : List ℕ → ℕ → ℕ
least_of least s = get_or least s 0

-- how few tokens may be these symbols: one for each word, and for each hole as many as its sort's number says
abbrev pub least_for : List ℕ → List Symbol → ℕ
least_for least [] = 0
least_for least (Word w ∷ ps) = least_for least ps + 1
least_for least (Hole s b ∷ ps) = least_of least s + least_for least ps

-- the number of the result sort of the operator f is not above that of its symbols, if this is not above `most`
abbrev pub IsLeastBy : Signature → (most : ℕ) → List ℕ → ℕ → Type 0
IsLeastBy sig most least f =
    (o : Operator) → slice_get sig.ops f ≡ Some o → least_for least (symbols_of o) ≤ most → least_of least o.result ≤ least_for least (symbols_of o)

-- the first word of the operator's form is among the texts
abbrev pub IsBegun : List (List ℕ) → Operator → Type 0
IsBegun ws o = (n : ℕ) × (slice_get ws n ≡ Some (first_word o.form))

-- The numbers hold for terms of at most `most` tokens: that of a variable's sort is 1 at most, and that of each operator's result sort not above that of its
-- symbols, if its first word is among the texts.
pub record AreLeast (sig : Signature) (ws : List (List ℕ)) (vs : List Variable) (most : ℕ) (least : List ℕ) : Type 0 where
  pub variables : (n : ℕ) (v : Variable) → slice_get vs n ≡ Some v → least_of least v.sort ≤ 1
  pub operators : (f : ℕ) (o : Operator) → slice_get sig.ops f ≡ Some o → IsBegun ws o → least_for least (symbols_of o) ≤ most
      → least_of least o.result ≤ least_for least (symbols_of o)

-- all operators are listed whose first word is among the texts and whose symbols may be at most `most` tokens
abbrev pub AreCandidates : Signature → List (List ℕ) → (most : ℕ) → (least fs : List ℕ) → Type 0
AreCandidates sig ws most least fs =
    (f : ℕ) (o : Operator) → slice_get sig.ops f ≡ Some o → IsBegun ws o → least_for least (symbols_of o) ≤ most → StandsIn fs f

-- the sort of the first argument, if there is one, is listed
abbrev pub IsReached : List ℕ → Operator → Type 0
IsReached sorts o = (s : ℕ) → first_sort o ≡ Some s → StandsIn sorts s

-- the operators that begin with this word and whose first argument has a listed sort are added to a list
pub record AddsReached (sig : Signature) (sorts : List ℕ) (word : List ℕ) (old new : List ℕ) : Type 0 where
  pub kept : (f : ℕ) → StandsIn old f → StandsIn new f
  pub added : (f : ℕ) (o : Operator) → slice_get sig.ops f ≡ Some o → word ≡ first_word o.form → IsReached sorts o → StandsIn new f

-- all of them are listed whose first word is among the first m texts
abbrev pub AreReached : Signature → List (List ℕ) → (sorts : List ℕ) → (m : ℕ) → List ℕ → Type 0
AreReached sig ws sorts m fs =
    (f n : ℕ) (o : Operator) → n < m → slice_get sig.ops f ≡ Some o → slice_get ws n ≡ Some (first_word o.form) → IsReached sorts o → StandsIn fs f

-- each sort of which at most `most` tokens may spell a term is listed
abbrev pub AreListed : (most : ℕ) → (least sorts : List ℕ) → Type 0
AreListed most least sorts = (s : ℕ) → s < length least → least_of least s ≤ most → StandsIn sorts s

-- The numbers hold for the variables and for the listed operators, and the sorts that are reached are listed.
pub record AreSettled (sig : Signature) (vs : List Variable) (most : ℕ) (fs : List ℕ) (r : Reached) : Type 0 where
  pub is_most : r.most ≡ most
  pub width : length r.least ≡ length sig.sorts
  pub listed : AreListed r.most r.least r.sorts
  pub variables : (n : ℕ) (v : Variable) → slice_get vs n ≡ Some v → least_of r.least v.sort ≤ 1
  pub operators : (f : ℕ) → StandsIn fs f → IsLeastBy sig most r.least f

-- so many of the symbols of an operator are words, or more
abbrev pub own_words : Operator → ℕ
own_words o = if has_hole o.form then length o.form - length o.args else length o.form + length o.args
