-- The texts of tokens.
use Rattle.std.proofs.Common.{◌≡◌, ◌+◌, ◌-◌, ℕ, List, [], ◌∷◌, ◌++◌, length, map, false, Option, None, refl, sym, ap, ◌∙◌, arith, append_assoc, length-append}
use Rattle.std.proofs.lemmas.Bool.Decides.{nat_tests}
use Rattle.std.proofs.Math.Seq.{take-append_seam, drop-append_seam}
use Rattle.std.specs.List.{slice_range, AllByRecursion}
use Rattle.circ_lexer.specs.declared.tokens.Span.{Span}
use Rattle.circ_lexer.specs.declared.fault.LexFault.{LexFault}
use Rattle.circ_lexer.specs.Bytes.{begins_comment}
use Rattle.circ_lexer.specs.Cuts.{Cuts, end, blank, comment, special, run, bad, span}
use Rattle.circ_lexer.specs.TokenList.{IsToken, special_token, run_token, spaced, AreTokens}
use Rattle.circ_lexer.proofs.Once.{once}

-- the texts of spans
abbrev pub texts : List ℕ → List Span → List (List ℕ)
texts bytes ss = map (λ s. slice_range bytes s.from s.to) ss

-- a text in the middle of another
between : (pre w bs : List ℕ) → slice_range (pre ++ (w ++ bs)) (length pre) (length pre + length w) ≡ w
between pre w bs = let long : length pre + length w - length pre ≡ length w = omega arith in rw (long, drop-append_seam pre (w ++ bs)) (take-append_seam w bs)

front_no_comment : (w bs : List ℕ) → begins_comment (w ++ bs) ≡ false → begins_comment w ≡ false
front_no_comment [] bs h = refl
front_no_comment (a ∷ []) bs h = grind (arith, nat_tests)
front_no_comment (a ∷ b ∷ []) bs h = grind (arith, nat_tests)
front_no_comment (a ∷ b ∷ d ∷ w) bs h = h

space_no_comment : (w bs : List ℕ) → begins_comment w ≡ false → begins_comment (w ++ 32 ∷ bs) ≡ false
space_no_comment [] bs h = refl
space_no_comment (a ∷ []) bs h = grind (arith, nat_tests)
space_no_comment (a ∷ b ∷ []) bs h = grind (arith, nat_tests)
space_no_comment (a ∷ b ∷ d ∷ w) bs h = h

moved : (pre w bs : List ℕ) (ss : List Span) → AllByRecursion IsToken (texts ((pre ++ w) ++ bs) ss) → AllByRecursion IsToken (texts (pre ++ (w ++ bs)) ss)
moved pre w bs ss h = rw append_assoc at h

all_tokens : {at : ℕ} {bs : List ℕ} {ss : List Span} {o : Option LexFault} → Cuts at bs ss o → (pre : List ℕ) → length pre ≡ at → AllByRecursion IsToken (texts (pre ++ bs) ss)
all_tokens (end at) pre e = tt
all_tokens (blank at b bs ss o h c) pre e = moved pre (b ∷ []) bs ss (all_tokens c (pre ++ b ∷ []) (omega (arith, length-append pre (b ∷ []))))
all_tokens (comment at w bs ss o h c) pre e = moved pre w bs ss (all_tokens c (pre ++ w) (omega (arith, length-append pre w)))
all_tokens (special at b bs ss o h c) pre e = (
  rw (← e) (rw (between pre (b ∷ []) bs) (special_token b h)),
  moved pre (b ∷ []) bs ss (all_tokens c (pre ++ b ∷ []) (omega (arith, length-append pre (b ∷ [])))),
)
all_tokens (run at w bs ss o r c) pre e = (
  rw (← e) (rw (between pre w bs) (run_token w r.some r.plain (front_no_comment w bs r.no_comment))),
  moved pre w bs ss (all_tokens c (pre ++ w) (omega (arith, length-append pre w))),
)
all_tokens (bad at w b bs h) pre e = tt

pub tokens_are : (bytes : List ℕ) (ws : List (List ℕ)) → AreTokens bytes ws → AllByRecursion IsToken ws
tokens_are bytes ws h = rw h.1.1 (all_tokens h.1.0 [] refl)

pub tokens_once : (bytes : List ℕ) (ws vs : List (List ℕ)) → AreTokens bytes ws → AreTokens bytes vs → vs ≡ ws
tokens_once bytes ws vs h k = k.1.1 ∙ ap (texts bytes) (once h.1.0 k.1.0).0 ∙ sym h.1.1

-- tokens and a space after each
spans_from : ℕ → List (List ℕ) → List Span
spans_from at [] = []
spans_from at (w ∷ ws) = span at (at + length w) ∷ spans_from (at + length w + 1) ws

spaced_cut : (at : ℕ) (ws : List (List ℕ)) → AllByRecursion IsToken ws → Cuts at (spaced ws) (spans_from at ws) None
unfolding spans_from
spaced_cut at [] h = end at
spaced_cut at (w ∷ ws) h = go w h.0 (spaced_cut (at + length w + 1) ws h.1)
  where
    go : (w : List ℕ) → IsToken w → Cuts (at + length w + 1) (spaced ws) (spans_from (at + length w + 1) ws) None → Cuts at (w ++ 32 ∷ spaced ws) (span at (at + length w) ∷ spans_from (at + length w + 1) ws) None
    go _ (special_token b k) c = special at b _ _ _ k (blank (at + 1) 32 _ _ _ refl c)
    go _ (run_token w some plain no_comment) c =
        run at w _ _ _ (record { some = some; plain = plain; no_comment = space_no_comment w (spaced ws) no_comment; whole = refl }) (blank (at + length w) 32 _ _ _ refl c)

spaced_texts : (pre : List ℕ) (at : ℕ) (ws : List (List ℕ)) → length pre ≡ at → texts (pre ++ spaced ws) (spans_from at ws) ≡ ws
unfolding spans_from
spaced_texts pre at [] e = refl
spaced_texts pre at (w ∷ ws) e =
    let here : slice_range (pre ++ (w ++ 32 ∷ spaced ws)) at (at + length w) ≡ w = rw (← e) (between pre w (32 ∷ spaced ws)) in
    let rest = spaced_texts ((pre ++ w) ++ 32 ∷ []) (at + length w + 1) ws (omega (arith, length-append (pre ++ w) (32 ∷ []), length-append pre w)) in
    let same : ((pre ++ w) ++ 32 ∷ []) ++ spaced ws ≡ pre ++ (w ++ 32 ∷ spaced ws) = append_assoc (pre ++ w) (32 ∷ []) (spaced ws) ∙ append_assoc pre w (32 ∷ spaced ws) in
    let there : texts (pre ++ (w ++ 32 ∷ spaced ws)) (spans_from (at + length w + 1) ws) ≡ ws = rw same at rest in
    ap (λ v. v ∷ texts (pre ++ (w ++ 32 ∷ spaced ws)) (spans_from (at + length w + 1) ws)) here ∙ ap (λ vs. w ∷ vs) there

pub spaced_are : (ws : List (List ℕ)) → AllByRecursion IsToken ws → AreTokens (spaced ws) ws
spaced_are ws h = (spans_from 0 ws, (spaced_cut 0 ws h, sym (spaced_texts [] 0 ws refl)))
