-- What is left of a span, token by token.
use Rattle.std.proofs.Common.{◌≡◌, ◌≢◌, ◌<◌, ◌≤◌, ◌+◌, List, [], ◌∷◌, ◌++◌, true, false, slice_range, slice_get, unwrap_or, refl, sym, ap, ◌∙◌, arith}
use Rattle.std.proofs.lemmas.List.{append-nil}
use Rattle.circ_lexer.specs.TokenList.{TokenList, tokens_of, tokens_in, IsWithin}
use Rattle.circ_lexer.specs.declared.tokens.Span.{Span}
use Rattle.circ_statement.specs.declared.places.First.{First}
use Rattle.circ_statement.specs.Words.{Word, is_word, has_word}
use Rattle.circ_statement.specs.Reading.{IsFirstToken}
use Rattle.circ_statement.proofs.WordLists.{word_is, lacks_more}
use Rattle.circ_statement.proofs.Ranges.{range_next, range_none, range_split}

-- the last tokens of a span
pub record IsRest (ts : TokenList) (span rest : Span) : Type 0 where
  pub within : IsWithin ts rest
  pub from : span.from ≤ rest.from
  pub to : rest.to ≡ span.to

-- the tokens of a span before its last ones
abbrev pub seen : TokenList → Span → Span → List Word
seen ts span rest = slice_range (tokens_of ts) span.from rest.from

pub whole : (ts : TokenList) (span rest : Span) → IsRest ts span rest → tokens_in ts span ≡ seen ts span rest ++ tokens_in ts rest
whole ts span rest r =
    let l : rest.from ≤ span.to = omega (arith, r.within.ahead, r.to) in
    range_split (tokens_of ts) span.from rest.from span.to r.from l ∙ ap (λ k. seen ts span rest ++ slice_range (tokens_of ts) rest.from k) (sym r.to)

module _ (ts : TokenList) (span rest : Span) (f : First) (r : IsRest ts span rest) (is : IsFirstToken ts rest f) where
  pub rest_more : IsRest ts span f.rest
  rest_more = record { within = is.within; from = omega (arith, r.from, is.from); to = is.to ∙ r.to }

  pub seen_more : seen ts span f.rest ≡ seen ts span rest ++ f.word.now ∷ []
  seen_more =
      let ws = tokens_of ts in
      let token : unwrap_or (slice_get ws rest.from) [] ≡ f.word.now = ap (λ n. unwrap_or (slice_get ws n) []) (sym is.place) ∙ is.token in
      let none : slice_range ws (rest.from + 1) f.rest.from ≡ [] = range_none ws (rest.from + 1) f.rest.from (omega (arith, is.from)) in
      range_split ws span.from rest.from f.rest.from r.from (omega (arith, is.from))
      ∙ ap (λ xs. seen ts span rest ++ xs) (range_next ws rest.from f.rest.from (omega (arith, is.from)) (omega (arith, is.within.ahead, is.within.within)) ∙ rw (token, none) refl)

  pub split_here : (w : Word) → is_word f.word.now w ≡ true → tokens_in ts span ≡ seen ts span rest ++ w ∷ tokens_in ts f.rest
  split_here w e = whole ts span rest r ∙ ap (λ xs. seen ts span rest ++ xs) (is.words ∙ ap (λ v. v ∷ tokens_in ts f.rest) (word_is f.word.now w e))

  pub lacks_next : (w : Word) → has_word w (seen ts span rest) ≡ false → is_word f.word.now w ≡ false → has_word w (seen ts span f.rest) ≡ false
  lacks_next w h e = ap (has_word w) seen_more ∙ lacks_more w (seen ts span rest) f.word.now h e

-- nothing is left, so what was seen is all
pub all_seen : (ts : TokenList) (span rest : Span) → IsRest ts span rest → tokens_in ts rest ≡ [] → tokens_in ts span ≡ seen ts span rest
all_seen ts span rest r e = whole ts span rest r ∙ ap (λ xs. seen ts span rest ++ xs) e ∙ append-nil (seen ts span rest)

-- at the begin nothing was seen
pub none_seen : (ts : TokenList) (span : Span) → seen ts span span ≡ []
none_seen ts span = range_none (tokens_of ts) span.from span.from (omega arith)

pub is_all : (ts : TokenList) (span : Span) → IsWithin ts span → IsRest ts span span
is_all ts span h = record { within = h; from = omega arith; to = refl }

-- a span with a token in it has tokens
pub some_tokens : (ts : TokenList) (span : Span) → IsWithin ts span → span.from < span.to → tokens_in ts span ≢ []
some_tokens ts span h l e = let n = range_next (tokens_of ts) span.from span.to l h.within in cc

pub no_tokens : (ts : TokenList) (span : Span) → span.to ≤ span.from → tokens_in ts span ≡ []
no_tokens ts span l = range_none (tokens_of ts) span.from span.to l
