-- The spans of tokens are in order.
use Rattle.std.proofs.Common.{◌≡◌, ◌≢◌, ◌<◌, ◌≤◌, ◌+◌, ℕ, zero, suc, List, [], ◌∷◌, length, Option, Some, refl, sym, ap, subst, ◌∙◌, arith, length-append, zero-add}
use Rattle.std.proofs.lemmas.Option.{slice_get-map}
use Rattle.std.specs.List.{slice_get, slice_range}
use Rattle.std.specs.Option.{option_map}
use Rattle.circ_lexer.specs.declared.tokens.Span.{Span}
use Rattle.circ_lexer.specs.declared.fault.LexFault.{LexFault}
use Rattle.circ_lexer.specs.Cuts.{Cuts, end, blank, comment, special, run, bad, AreSpans, AreOrdered}
use Rattle.circ_lexer.specs.TokenList.{TokenList, tokens_of}

some_length : (w : List ℕ) → w ≢ [] → 0 < length w
some_length [] h = absurd (h refl)
some_length (b ∷ w) h = omega arith

from_before : (ss : List Span) (a b to : ℕ) → a ≤ b → AreOrdered b ss to → AreOrdered a ss to
from_before [] a b to h k = omega arith
from_before (s ∷ ss) a b to h k = (omega (arith, k.0), k.1)

after : (ss : List Span) (a b to until : ℕ) → a ≤ b → to ≡ until → AreOrdered b ss to → AreOrdered a ss until
after ss a b to until h e k = subst (λ (n : ℕ). AreOrdered a ss n) e (from_before ss a b to h k)

pub ordered : {at : ℕ} {a : List ℕ} {ss : List Span} {o : Option LexFault} → Cuts at a ss o → AreOrdered at ss (at + length a)
ordered (end at) = omega arith
ordered (blank at b bs ss o h c) = after ss at (at + 1) _ _ (omega arith) (omega arith) (ordered c)
ordered (comment at w bs ss o h c) = after ss at (at + length w) _ _ (omega arith) (omega (arith, length-append w bs)) (ordered c)
ordered (special at b bs ss o h c) = (omega arith, (omega arith, after ss (at + 1) (at + 1) _ _ (omega arith) (omega arith) (ordered c)))
ordered (run at w bs ss o r c) =
    (omega arith, (omega (arith, some_length w r.some), after ss (at + length w) (at + length w) _ _ (omega arith) (omega (arith, length-append w bs)) (ordered c)))
ordered (bad at w b bs h) = omega arith

last : (ss : List Span) (at to : ℕ) → AreOrdered at ss to → at ≤ to
last [] at to h = h
last (s ∷ ss) at to h = let rest = last ss s.to to h.1.1 in omega (arith, h.0, h.1.0)

ordered_at : (ss : List Span) (at to k : ℕ) (s : Span) → AreOrdered at ss to → slice_get ss k ≡ Some s → (s.from ≤ s.to) × (s.to ≤ to)
ordered_at [] at to k s h e = absurd (cc)
ordered_at (x ∷ ss) at to zero s h e = let same : x ≡ s = cc in subst (λ (y : Span). (y.from ≤ y.to) × (y.to ≤ to)) same (omega (arith, h.1.0), last ss x.to to h.1.1)
ordered_at (x ∷ ss) at to (suc k) s h e = ordered_at ss x.to to k s h.1.1 e

pub in_order : (bytes : List ℕ) (ss : List Span) → AreSpans bytes ss → AreOrdered 0 ss (length bytes)
in_order bytes ss c = subst (λ (n : ℕ). AreOrdered 0 ss n) (zero-add (length bytes)) (ordered c)

pub inside : (bytes : List ℕ) (ss : List Span) (k : ℕ) (s : Span) → AreSpans bytes ss → slice_get ss k ≡ Some s → (s.from ≤ s.to) × (s.to ≤ length bytes)
inside bytes ss k s c e = ordered_at ss 0 (length bytes) k s (in_order bytes ss c) e

-- the token of a span
pub token_at : (t : TokenList) (k : ℕ) (s : Span) (w : List ℕ) → slice_get t.spans k ≡ Some s → w ≡ slice_range t.source s.from s.to → Some w ≡ slice_get (tokens_of t) k
token_at t k s w e h = sym (slice_get-map _ t.spans k ∙ ap (option_map (λ (x : Span). slice_range t.source x.from x.to)) e ∙ ap Some (sym h))
