-- Text that is cut into tokens, whatever stands before it.
use Rattle.std.proofs.Common.{◌≡◌, ◌+◌, ◌-◌, ℕ, List, [], ◌∷◌, ◌++◌, length, map, true, false, None, refl, sym, ap, arith, append_assoc, append-nil, length-append}
use Rattle.std.proofs.lemmas.Bool.Decides.{nat_tests}
use Rattle.std.proofs.Math.Seq.{take-append_seam, drop-append_seam}
use Rattle.std.specs.List.{slice_range}
use Rattle.circ_lexer.specs.declared.tokens.Span.{Span}
use Rattle.circ_lexer.specs.Bytes.{is_blank, is_special, begins_comment, ends_run}
use Rattle.circ_lexer.specs.Cuts.{Cuts, end, blank, special, run, IsRun, span}
use Rattle.circ_lexer.specs.TokenList.{IsToken, special_token, run_token, AreTokens}

-- the bytes are cut into these tokens
pub data Cut : List ℕ → List (List ℕ) → Type 0 where
  cut_end : Cut [] []
  cut_blank : (b : ℕ) (bs : List ℕ) (ws : List (List ℕ)) → is_blank b ≡ true → Cut bs ws → Cut (b ∷ bs) ws
  cut_special : (b : ℕ) (bs : List ℕ) (ws : List (List ℕ)) → is_special b ≡ true → Cut bs ws → Cut (b ∷ bs) ((b ∷ []) ∷ ws)
  cut_run : (w bs : List ℕ) (ws : List (List ℕ)) → IsRun w bs → Cut bs ws → Cut (w ++ bs) (w ∷ ws)

abbrev texts : List ℕ → List Span → List (List ℕ)
texts bytes ss = map (λ s. slice_range bytes s.from s.to) ss

-- a text in the middle of another
between : (pre w bs : List ℕ) → slice_range (pre ++ (w ++ bs)) (length pre) (length pre + length w) ≡ w
between pre w bs = let long : length pre + length w - length pre ≡ length w = omega arith in rw (long, drop-append_seam pre (w ++ bs)) (take-append_seam w bs)

-- the spans behind a text, with the tokens there
record Behind (pre bs : List ℕ) (ws : List (List ℕ)) : Type 0 where
  spans : List Span
  cut : Cuts (length pre) bs spans None
  are : texts (pre ++ bs) spans ≡ ws

later : (pre w bs : List ℕ) (ws : List (List ℕ)) (k : Behind (pre ++ w) bs ws) → (Cuts (length pre + length w) bs k.spans None) × (texts (pre ++ (w ++ bs)) k.spans ≡ ws)
later pre w bs ws k = (rw length-append at k.cut, rw append_assoc at k.are)

behind : {bs : List ℕ} {ws : List (List ℕ)} → Cut bs ws → (pre : List ℕ) → Behind pre bs ws
behind cut_end pre = record { spans = []; cut = end (length pre); are = refl }
behind (cut_blank b bs ws h c) pre =
    let k = behind c (pre ++ b ∷ []) in let l = later pre (b ∷ []) bs ws k in
    record { spans = k.spans; cut = blank (length pre) b bs k.spans None h l.0; are = l.1 }
behind (cut_special b bs ws h c) pre =
    let k = behind c (pre ++ b ∷ []) in let l = later pre (b ∷ []) bs ws k in
    record {
      spans = span (length pre) (length pre + 1) ∷ k.spans;
      cut = special (length pre) b bs k.spans None h l.0;
      are = rw (between pre (b ∷ []) bs) (ap (λ vs. (b ∷ []) ∷ vs) l.1);
    }
behind (cut_run w bs ws h c) pre =
    let k = behind c (pre ++ w) in let l = later pre w bs ws k in
    record {
      spans = span (length pre) (length pre + length w) ∷ k.spans;
      cut = run (length pre) w bs k.spans None h l.0;
      are = rw (between pre w bs) (ap (λ vs. w ∷ vs) l.1);
    }

-- The text is cut into these tokens, whatever follows that ends a run.
pub record Prints (text : List ℕ) (ws : List (List ℕ)) : Type 0 where
  pub cut : (rest : List ℕ) (us : List (List ℕ)) → ends_run rest ≡ true → Cut rest us → Cut (text ++ rest) (ws ++ us)

pub prints_tokens : (text : List ℕ) (ws : List (List ℕ)) → Prints text ws → AreTokens text ws
prints_tokens text ws p =
    let c : Cut text ws = rw (append-nil text, append-nil ws) at (p.cut [] [] refl cut_end) in
    let k = behind c [] in
    (k.spans, (k.cut, sym k.are))

-- A run ends before the text, where it ends before what follows.
pub record Ends (text : List ℕ) : Type 0 where
  pub ends : (rest : List ℕ) → ends_run rest ≡ true → ends_run (text ++ rest) ≡ true

pub prints_nothing : Prints [] []
prints_nothing = record { cut = λ rest us e c. c }

pub prints_blank : (text : List ℕ) (ws : List (List ℕ)) → Prints text ws → Prints (32 ∷ text) ws
prints_blank text ws p = record { cut = λ rest us e c. cut_blank 32 (text ++ rest) (ws ++ us) refl (p.cut rest us e c) }

pub prints_special : (b : ℕ) (text : List ℕ) (ws : List (List ℕ)) → is_special b ≡ true → Prints text ws → Prints (b ∷ text) ((b ∷ []) ∷ ws)
prints_special b text ws h p = record { cut = λ rest us e c. cut_special b (text ++ rest) (ws ++ us) h (p.cut rest us e c) }

no_comment : (w bs : List ℕ) → begins_comment w ≡ false → ends_run bs ≡ true → begins_comment (w ++ bs) ≡ false
no_comment w [] h e = rw append-nil h
no_comment [] (c ∷ bs) h e = grind (arith, nat_tests)
no_comment (a ∷ []) (c ∷ bs) h e = grind (arith, nat_tests)
no_comment (a ∷ b ∷ []) (c ∷ bs) h e = grind (arith, nat_tests)
no_comment (a ∷ b ∷ d ∷ w) (c ∷ bs) h e = h

pub prints_token : (w : List ℕ) → IsToken w → Prints w (w ∷ [])
prints_token _ (special_token b h) = prints_special b [] [] h prints_nothing
prints_token _ (run_token w some plain front) =
    record { cut = λ rest us e c. cut_run w rest us (record { some = some; plain = plain; no_comment = no_comment w rest front e; whole = e }) c }

pub prints_both : (a b : List ℕ) (us vs : List (List ℕ)) → Prints a us → Prints b vs → Ends b → Prints (a ++ b) (us ++ vs)
prints_both a b us vs p q e = record { cut = λ rest ws h c. rw (append_assoc a b rest, append_assoc us vs ws) (p.cut (b ++ rest) (vs ++ ws) (e.ends rest h) (q.cut rest ws h c)) }
