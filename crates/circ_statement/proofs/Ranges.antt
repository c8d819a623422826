-- Tokens of spans.
use Rattle.std.proofs.Common.{◌≡◌, ℕ, ◌+◌, ◌-◌, ◌<◌, ◌≤◌, suc, List, [], ◌∷◌, ◌++◌, length, get_or, take, drop, slice_range, slice_get, unwrap_or, refl, ap, ◌∙◌, arith, add-one}
use Rattle.std.proofs.Math.Seq.{drop-cons, take-add}
use Rattle.std.proofs.lemmas.List.{drop-drop}
use Rattle.std.proofs.lemmas.Option.{unwrap_or-slice_get}
use Rattle.circ_statement.specs.Words.{Word}

pub range_next : (ws : List Word) (a b : ℕ) → a < b → b ≤ length ws → slice_range ws a b ≡ unwrap_or (slice_get ws a) [] ∷ slice_range ws (a + 1) b
range_next ws a b l m =
    let d : drop a ws ≡ get_or ws a [] ∷ drop (suc a) ws = drop-cons ws a [] (omega arith) in
    let n : b - a ≡ suc (b - (a + 1)) = omega arith in
    ap (λ k. take k (drop a ws)) n ∙ ap (take (suc (b - (a + 1)))) d ∙ rw (unwrap_or-slice_get, add-one) refl

pub range_none : (ws : List Word) (a b : ℕ) → b ≤ a → slice_range ws a b ≡ []
range_none ws a b l = let n : b - a ≡ 0 = omega arith in ap (λ k. take k (drop a ws)) n

pub range_split : (ws : List Word) (a b c : ℕ) → a ≤ b → b ≤ c → slice_range ws a c ≡ slice_range ws a b ++ slice_range ws b c
range_split ws a b c l m =
    let n : c - a ≡ (b - a) + (c - b) = omega arith in
    let k : a + (b - a) ≡ b = omega arith in
    ap (λ k. take k (drop a ws)) n ∙ take-add (b - a) (c - b) (drop a ws)
    ∙ ap (λ xs. take (b - a) (drop a ws) ++ take (c - b) xs) (drop-drop (b - a) a ws ∙ ap (λ i. drop i ws) k)
