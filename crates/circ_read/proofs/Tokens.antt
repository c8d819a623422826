-- The tokens of a range, one by one.
use Rattle.std.proofs.Common.{◌≡◌, ℕ, ◌+◌, ◌-◌, ◌<◌, ◌≤◌, suc, List, [], ◌∷◌, length, get_or, take, drop, slice_range, slice_get, unwrap_or, refl, sym, ap, ◌∙◌, arith, add-one}
use Rattle.std.proofs.Math.Seq.{drop-cons}
use Rattle.std.proofs.lemmas.Option.{unwrap_or-slice_get}
use Rattle.circ_lexer.specs.TokenList.{TokenList, tokens_of, IsWithin}
use Rattle.circ_lexer.specs.declared.tokens.Span.{Span}
use Rattle.circ_statement.specs.Said.{token_at}

-- the tokens from a place on, up to another
abbrev pub tokens_from : TokenList → ℕ → ℕ → List (List ℕ)
tokens_from ts n to = slice_range (tokens_of ts) n to

pub range_next : (ws : List (List ℕ)) (a b : ℕ) → a < b → b ≤ length ws → slice_range ws a b ≡ unwrap_or (slice_get ws a) [] ∷ slice_range ws (a + 1) b
range_next ws a b l m =
    let d : drop a ws ≡ get_or ws a [] ∷ drop (suc a) ws = drop-cons ws a [] (omega arith) in
    let n : b - a ≡ suc (b - (a + 1)) = omega arith in
    ap (λ k. take k (drop a ws)) n ∙ ap (take (suc (b - (a + 1)))) d ∙ rw (unwrap_or-slice_get, add-one) refl

pub next_token : (ts : TokenList) (span : Span) (n : ℕ) → IsWithin ts span → n < span.to → tokens_from ts n span.to ≡ token_at ts n ∷ tokens_from ts (n + 1) span.to
next_token ts span n w l = range_next (tokens_of ts) n span.to l w.within

-- the next token, under the name that a call gives it
pub here_token : (ts : TokenList) (span : Span) (n : ℕ) (w : List ℕ) → IsWithin ts span → n < span.to → w ≡ token_at ts n → tokens_from ts n span.to ≡ w ∷ tokens_from ts (n + 1) span.to
here_token ts span n w k l e = next_token ts span n k l ∙ ap (λ v. v ∷ tokens_from ts (n + 1) span.to) (sym e)

pub no_token : (ts : TokenList) (a b : ℕ) → b ≤ a → tokens_from ts a b ≡ []
no_token ts a b l = let n : b - a ≡ 0 = omega arith in ap (λ k. take k (drop a (tokens_of ts))) n
