-- Words at the begin of spans of tokens.
use Rattle.std.proofs.Common.{◌≡◌, ℕ, zero, suc, ◌+◌, ◌-◌, ◌<◌, ◌≤◌, List, [], ◌∷◌, length, take, drop, slice_range, slice_get, unwrap_or, true}
use Rattle.std.proofs.Common.{false, if◌then◌else◌, refl, sym, ap, ◌∙◌, arith}
use Rattle.std.proofs.lemmas.List.{take_rest}
use Rattle.std.proofs.lemmas.Slice.Eq.{bytes_eq-Decides}
use Rattle.circ_lexer.specs.TokenList.{TokenList, tokens_of, tokens_in, IsWithin}
use Rattle.circ_lexer.specs.declared.tokens.Span.{Span}
use Rattle.circ_statement.specs.Words.{Word, is_word}
use Rattle.circ_read.specs.Steps.{has_word_at}
use Rattle.circ_read.proofs.Tokens.{range_next}
use Rattle.circ_script.specs.Items.{begins_with, set_aside}
use Rattle.circ_script.specs.Steps.{IsRestAfter}
use Rattle.circ_script.proofs.Words.{same_word}

tested : (ws : List Word) (n : ℕ) (w : Word) → n < length ws → has_word_at ws n w ≡ is_word (unwrap_or (slice_get ws n) []) w
tested [] n w l = absurd (omega arith)
tested (v ∷ ws) zero w l = refl
tested (v ∷ ws) (suc n) w l = tested ws n w (omega arith)

pub none_in : (ts : TokenList) (span : Span) → span.to ≤ span.from → tokens_in ts span ≡ []
none_in ts span l = let n : span.to - span.from ≡ 0 = omega arith in ap (λ k. take k (drop span.from (tokens_of ts))) n

module _ (ts : TokenList) (span : Span) (w : Word) (h : IsWithin ts span) (l : span.from < span.to) where
  words_are : tokens_in ts span ≡ unwrap_or (slice_get (tokens_of ts) span.from) [] ∷ slice_range (tokens_of ts) (span.from + 1) span.to
  words_are = range_next (tokens_of ts) span.from span.to l h.within

  test_is : has_word_at (tokens_of ts) span.from w ≡ is_word (unwrap_or (slice_get (tokens_of ts) span.from) []) w
  test_is = let m = h.within in tested (tokens_of ts) span.from w (omega (arith, m, l))

  -- the first token is another word
  pub another_first : has_word_at (tokens_of ts) span.from w ≡ false → begins_with w (tokens_in ts span) ≡ false
  another_first e = ap (begins_with w) words_are ∙ sym test_is ∙ e

  -- it is this one
  pub rest_after : (rest : Span) → rest.from ≡ span.from + 1 → rest.to ≡ span.to → has_word_at (tokens_of ts) span.from w ≡ true → IsRestAfter ts span rest w
  rest_after rest f t e = record {
    words =
        let is : unwrap_or (slice_get (tokens_of ts) span.from) [] ≡ w = (bytes_eq-Decides _ w).0 (sym test_is ∙ e) in
        words_are ∙ ap (λ v. v ∷ slice_range (tokens_of ts) (span.from + 1) span.to) is ∙ ap (λ k. w ∷ slice_range (tokens_of ts) k span.to) (sym f)
        ∙ ap (λ k. w ∷ slice_range (tokens_of ts) rest.from k) (sym t);
    within = let m = h.within in record { ahead = omega (arith, l, f, t); within = omega (arith, m, t) };
    from = omega (arith, f);
    to = t;
  }

-- a word that stands first is set aside
pub aside_found : (ts : TokenList) (span rest : Span) (w : Word) → IsRestAfter ts span rest w
    → (true ≡ begins_with w (tokens_in ts span)) × (tokens_in ts rest ≡ set_aside w (tokens_in ts span))
aside_found ts span rest w r = (
  sym (ap (begins_with w) r.words ∙ same_word w),
  sym (ap (set_aside w) r.words
      ∙ ap (λ b. if b then tokens_in ts rest else w ∷ tokens_in ts rest) (same_word w)),
)

pub aside_not : (w : Word) (ws : List Word) → begins_with w ws ≡ false → ws ≡ set_aside w ws
aside_not w [] e = refl
aside_not w (v ∷ vs) e = sym (ap (λ b. if b then vs else v ∷ vs) e)

-- all tokens from a place on
pub up_to_the_end : (ts : TokenList) (span : Span) → span.to ≡ length (tokens_of ts) → tokens_in ts span ≡ drop span.from (tokens_of ts)
up_to_the_end ts span e = ap (λ k. slice_range (tokens_of ts) span.from k) e ∙ take_rest (tokens_of ts) span.from

pub some_in : (ts : TokenList) (span : Span) → IsWithin ts span → span.from < span.to → tokens_in ts span ≡ [] → ⊥
some_in ts span h l e = let n = range_next (tokens_of ts) span.from span.to l h.within in cc
