-- An operator's statement is cut into its parts in one way.
use Rattle.std.proofs.Common.{◌≡◌, List, ◌∷◌, ◌++◌, false, codes, refl, sym, ◌∙◌, subst, arith, ℕ, Option, Some, None}
use Rattle.circ_lexer.specs.TokenList.{TokenList, tokens_in}
use Rattle.circ_lexer.specs.declared.tokens.Span.{Span}
use Rattle.circ_statement.specs.Words.{Word, has_word}
use Rattle.circ_statement.specs.Heads.{IsHead, IsBracket, IsFirstForeign}
use Rattle.circ_statement.specs.Reading.{IsPart, GivesForeign, GivesForeignMark}
use Rattle.circ_statement.proofs.WordLists.{split_same, split_lacks}

module _ (ws front sorts : List Word) (words : ws ≡ front ++ codes ":" ∷ sorts) (lacks : has_word (codes ":") front ≡ false) where
  pub head_cut : (f a : List Word) (r : Word) (m : List Word) → IsHead ws f a r m → (f ≡ front) × (a ++ codes "->" ∷ (r ∷ m) ≡ sorts)
  head_cut f a r m h = split_same (codes ":") f _ front sorts h.no_colon lacks (sym h.words ∙ words)

  pub no_arrow : has_word (codes "->") sorts ≡ false → (f a : List Word) (r : Word) (m : List Word) → IsHead ws f a r m → ⊥
  no_arrow k f a r m h = split_lacks (codes "->") sorts a (r ∷ m) k (sym (head_cut f a r m h).1)

  pub head_parts : (args last f a : List Word) (r : Word) (m : List Word) → sorts ≡ args ++ codes "->" ∷ last → has_word (codes "->") args ≡ false → IsHead ws f a r m
      → (a ≡ args) × (r ∷ m ≡ last)
  head_parts args last f a r m e k h = split_same (codes "->") a (r ∷ m) args last h.no_arrow k ((head_cut f a r m h).1 ∙ e)

pub no_colon : (ws : List Word) → has_word (codes ":") ws ≡ false → (f a : List Word) (r : Word) (m : List Word) → IsHead ws f a r m → ⊥
no_colon ws k f a r m h = split_lacks (codes ":") ws f _ k h.words

pub record SameHead (f g a b : List Word) (r s : Word) (m n : List Word) : Type 0 where
  pub front : f ≡ g
  pub args : a ≡ b
  pub result : r ≡ s
  pub marks : m ≡ n

pub head_same : {ws f g a b : List Word} {r s : Word} {m n : List Word} → IsHead ws f a r m → IsHead ws g b s n → SameHead f g a b r s m n
head_same {ws} {f} {g} {a} {b} {r} {s} {m} {n} h k =
    let front = (head_cut ws g _ k.words k.no_colon f a r m h).0 in
    let parts = head_parts ws g _ k.words k.no_colon b (s ∷ n) f a r m refl k.no_arrow h in
    let last = parts.1 in
    record { front = front; args = parts.0; result = cc; marks = cc }

pub bracket_cut : (ws opened i r : List Word) → ws ≡ codes "[" ∷ opened → IsBracket ws i r → i ++ codes "]" ∷ r ≡ opened
bracket_cut ws opened i r e h = let w = h.words in cc

pub no_close : (ws opened : List Word) → ws ≡ codes "[" ∷ opened → has_word (codes "]") opened ≡ false → (i r : List Word) → IsBracket ws i r → ⊥
no_close ws opened e k i r h = split_lacks (codes "]") opened i r k (sym (bracket_cut ws opened i r e h))

pub bracket_same : {ws i j r s : List Word} → IsBracket ws i r → IsBracket ws j s → (i ≡ j) × (r ≡ s)
bracket_same {ws} {i} {j} {r} {s} h k = split_same (codes "]") i r j s h.no_close k.no_close (bracket_cut ws _ i r k.words h)

-- the brackets' first foreign word is that of the statement
pub mark_of : (o : Option ℕ) (ts : TokenList) (marks inside rest : Span) → IsBracket (tokens_in ts marks) (tokens_in ts inside) (tokens_in ts rest) → IsPart marks inside → GivesForeign o ts inside
    → GivesForeignMark o ts marks
mark_of None ts marks inside rest b p g = λ i r w k f. g w (subst (λ x. IsFirstForeign x w) (bracket_same k b).0 f)
mark_of (Some n) ts marks inside rest b p g =
    (g.0, (tokens_in ts inside, (tokens_in ts rest, (b, g.1))), record { from = omega (arith, p.from, g.2.from); to = omega (arith, p.to, g.2.to) })
