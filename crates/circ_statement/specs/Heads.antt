-- The parts of an operator's statement, and by which of its words it is left out.
use Rattle.std.specs.Prelude.{◌≡◌, ◌<◌, ℕ, zero, suc, List, [], ◌∷◌, ◌++◌, Bool, false, ◌||◌, codes, Some, unwrap_or}
use Rattle.std.specs.List.{slice_get}
use Rattle.circ_statement.specs.Words.{Word, is_word, has_word}

-- what stands before the first colon, between it and the next arrow, the word after the arrow, and what follows it
pub record IsHead (ws front args : List Word) (result : Word) (marks : List Word) : Type 0 where
  pub words : ws ≡ front ++ codes ":" ∷ (args ++ codes "->" ∷ (result ∷ marks))
  pub no_colon : has_word (codes ":") front ≡ false
  pub no_arrow : has_word (codes "->") args ≡ false

-- what stands between an opening bracket and the next closing one, and what follows
pub record IsBracket (ws inside rest : List Word) : Type 0 where
  pub words : ws ≡ codes "[" ∷ (inside ++ codes "]" ∷ rest)
  pub no_close : has_word (codes "]") inside ≡ false

-- a word that may stand among attributes
abbrev pub is_listed : Word → Bool
is_listed w =
    is_word w (codes "left") || is_word w (codes "right") || is_word w (codes "assoc") || is_word w (codes "comm") || is_word w (codes "idem")
    || is_word w (codes "prec")

-- whether prec stands directly before this place
abbrev pub follows_prec : List Word → ℕ → Bool
follows_prec ws zero = false
follows_prec ws (suc m) = is_word (unwrap_or (slice_get ws m) []) (codes "prec")

-- the word at this place: it may not stand there
pub record IsForeign (inside : List Word) (n : ℕ) (w : Word) : Type 0 where
  pub there : slice_get inside n ≡ Some w
  pub unlisted : is_listed w ≡ false
  pub no_number : follows_prec inside n ≡ false

-- the first such word
pub record IsFirstForeign (inside : List Word) (w : Word) : Type 0 where
  pub place : ℕ
  pub foreign : IsForeign inside place w
  pub first : (m : ℕ) (v : Word) → m < place → IsForeign inside m v → ⊥

-- An operator's statement is left out, by this word in the brackets after its result sort.
pub record HasForeign (ws : List Word) (w : Word) : Type 0 where
  pub front : List Word
  pub args : List Word
  pub result : Word
  pub marks : List Word
  pub inside : List Word
  pub rest : List Word
  pub head : IsHead ws front args result marks
  pub bracket : IsBracket marks inside rest
  pub foreign : IsFirstForeign inside w
