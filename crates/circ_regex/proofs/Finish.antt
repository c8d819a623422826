-- How reading an expression ends.
use Rattle.std.specs.Prelude.{◌≡◌, ℕ, ◌<◌, ◌≤◌, zero, suc, List, [], ◌∷◌, ◌++◌, drop, length, map, reverse, Option, Some, None, refl}
use Rattle.std.specs.Option.{option_and_then}
use Rattle.std.proofs.Common.{ap, sym, ◌∙◌, arith}
use Rattle.std.proofs.lemmas.List.{reverse-append}
use Rattle.circ_regex.specs.declared.reader.Open.{Open}
use Rattle.circ_regex.specs.Matches.{Expression}
use Rattle.circ_regex.specs.Grammar.{IsTextOfRegex}
use Rattle.circ_regex.specs.Frames.{Frame, Frames, no_frames, on_byte, on_bytes, whole_sum, expression_read, frame_of}
use Rattle.circ_regex.proofs.Complete.{complete}

pub not_read : (bs : List ℕ) → expression_read bs ≡ None → (e : Expression) → IsTextOfRegex bs e → ⊥
not_read bs r e d = let z : ◌≡◌ {A = Option Expression} None (Some e) = sym r ∙ complete bs e d.1 in absurd (cc)

pub stuck : (bs rest : List ℕ) (i x : ℕ) (st : Frames) → drop i bs ≡ x ∷ rest → on_bytes (drop i bs) st ≡ on_bytes bs no_frames → on_byte x st ≡ None → expression_read bs ≡ None
stuck bs rest i x st cut inv off =
    ap (option_and_then (λ s. whole_sum s.outer s.now)) (sym inv ∙ ap (λ z. on_bytes z st) cut ∙ ap (option_and_then (on_bytes rest)) off)

nothing_left : (bs : List ℕ) (i : ℕ) → length bs ≤ i → drop i bs ≡ []
nothing_left [] zero l = refl
nothing_left [] (suc i) l = refl
nothing_left (b ∷ bs) zero l = absurd (omega (arith, l))
nothing_left (b ∷ bs) (suc i) l = nothing_left bs i (omega (arith, l))

pub finished : (bs : List ℕ) (i : ℕ) (st : Frames) → length bs ≤ i → on_bytes (drop i bs) st ≡ on_bytes bs no_frames → expression_read bs ≡ whole_sum st.outer st.now
finished bs i st l inv = ap (option_and_then (λ s. whole_sum s.outer s.now)) (sym inv ∙ ap (λ z. on_bytes z st) (nothing_left bs i l))

some_whole : (zs : List Open) (x : Open) (f : Frame) → whole_sum (map frame_of (zs ++ x ∷ [])) f ≡ None
some_whole [] x f = refl
some_whole (z ∷ zs) x f = refl

pub outer_left : (xs : List Open) (f : Frame) → 0 < length xs → whole_sum (map frame_of (reverse xs)) f ≡ None
outer_left [] f l = absurd (omega (arith, l))
outer_left (x ∷ xs) f l = ap (λ zs. whole_sum (map frame_of zs) f) (reverse-append (x ∷ []) xs) ∙ some_whole (reverse xs) x f

pub none_left : (xs : List Open) (f : Frame) → length xs ≡ 0 → whole_sum (map frame_of (reverse xs)) f ≡ whole_sum [] f
none_left [] f e = refl
none_left (x ∷ xs) f e = absurd (omega (arith, e))
