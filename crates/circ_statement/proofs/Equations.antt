-- The mark of an equation that is no rewrite rule, and the sides of an equation.
use Rattle.std.proofs.Common.{◌≡◌, ◌<◌, ◌≤◌, ◌-◌, List, [], ◌∷◌, ◌++◌, length, drop, Bool, true, false, codes, refl, sym, ap, ◌∙◌, subst, arith}
use Rattle.std.proofs.lemmas.List.{length-append, length-take, length-drop}
use Rattle.circ_lexer.specs.TokenList.{TokenList, tokens_of, tokens_in, IsWithin}
use Rattle.circ_lexer.specs.declared.tokens.Span.{Span}
use Rattle.circ_statement.specs.Words.{Word, has_word}
use Rattle.circ_statement.specs.Said.{Said, SaidSides, equation}
use Rattle.circ_statement.specs.Statement.{nonexec, IsUnmarked, AreSides, IsEquation}
use Rattle.circ_statement.proofs.WordLists.{split_same, split_lacks}
use Rattle.circ_statement.proofs.Ranges.{range_split}

-- lists of one length at the end
pub same_ends : (a b c d : List Word) → length b ≡ length d → a ++ b ≡ c ++ d → (a ≡ c) × (b ≡ d)
same_ends [] b [] d l e = (refl, e)
same_ends [] b (y ∷ c) d l e = absurd (omega (arith, length-append c d, ap length e))
same_ends (x ∷ a) b [] d l e = absurd (omega (arith, length-append a b, ap length e))
same_ends (x ∷ a) b (y ∷ c) d l e = let r : (a ≡ c) × (b ≡ d) = same_ends a b c d l (cc) in (cc, r.1)

pub short_unmarked : (ws front : List Word) → length ws < 3 → ws ≡ front ++ nonexec → ⊥
short_unmarked ws front l e = omega (arith, length-append front nonexec, ap length e)

pub length-tokens : (ts : TokenList) (span : Span) → IsWithin ts span → length (tokens_in ts span) ≡ span.to - span.from
length-tokens ts span h = omega (arith, h.ahead, h.within, length-take (span.to - span.from) (drop span.from (tokens_of ts)), length-drop span.from (tokens_of ts))

pub unmarked_same : (ws r s : List Word) (e f : Bool) → IsUnmarked ws r e → IsUnmarked ws s f → (r ≡ s) × (e ≡ f)
unmarked_same ws r s true true h k = (sym h.0 ∙ k.0, refl)
unmarked_same ws r s true false h k = absurd (h.1 s k)
unmarked_same ws r s false true h k = absurd (k.1 r h)
unmarked_same ws r s false false h k = ((same_ends r nonexec s nonexec refl (sym h ∙ k)).0, refl)

-- the sides of one equals sign
pub sides_same : (ws : List Word) (s t : SaidSides) → AreSides ws s → AreSides ws t → s ≡ t
sides_same ws s t h k =
    let cut = split_same (codes "=") s.left s.right t.left t.right h.one_left k.one_left (sym h.words ∙ k.words) in
    λ i. record { left = cut.0 i; right = cut.1 i }

pub no_equals : (ws : List Word) → has_word (codes "=") ws ≡ false → (s : SaidSides) → AreSides ws s → ⊥
no_equals ws lacks s h = split_lacks (codes "=") ws s.left s.right lacks h.words

pub two_equals : (ws left right a b : List Word) → ws ≡ left ++ codes "=" ∷ right → has_word (codes "=") left ≡ false → right ≡ a ++ codes "=" ∷ b
    → (s : SaidSides) → AreSides ws s → ⊥
two_equals ws left right a b words lacks e s h =
    let cut = split_same (codes "=") s.left s.right left right h.one_left lacks (sym h.words ∙ words) in
    split_lacks (codes "=") s.right a b h.one_right (cut.1 ∙ e)

pub equation_same : (ws : List Word) (a b : Said) → IsEquation ws a → IsEquation ws b → a ≡ b
equation_same ws a b h k =
    let same = unmarked_same ws h.body k.body h.exec k.exec h.unmarked k.unmarked in
    let sides = sides_same k.body h.sides k.sides (subst (λ r. AreSides r h.sides) same.0 h.are_sides) k.are_sides in
    h.says ∙ (λ i. equation (sides i).left (sides i).right [] (same.1 i)) ∙ sym k.says

-- the last three tokens are the mark exactly where the tokens end with it
module _ (ts : TokenList) (span : Span) (h : IsWithin ts span) (long : 3 ≤ span.to - span.from) where
  abbrev pub mark_of : Span
  mark_of = record { from = span.to - 3; to = span.to }

  abbrev pub rest_of : Span
  rest_of = record { from = span.from; to = span.to - 3 }

  pub cut_mark : tokens_in ts span ≡ tokens_in ts rest_of ++ tokens_in ts mark_of
  cut_mark = range_split (tokens_of ts) span.from (span.to - 3) span.to (omega arith) (omega arith)

  pub mark_at_end : (front : List Word) → tokens_in ts span ≡ front ++ nonexec → tokens_in ts mark_of ≡ nonexec
  mark_at_end front e =
      let three : length (tokens_in ts mark_of) ≡ span.to - (span.to - 3) = length-tokens ts mark_of (record { ahead = omega arith; within = h.within }) in
      let same : length (tokens_in ts mark_of) ≡ length nonexec = three ∙ omega arith in
      (same_ends (tokens_in ts rest_of) (tokens_in ts mark_of) front nonexec same (sym cut_mark ∙ e)).1
