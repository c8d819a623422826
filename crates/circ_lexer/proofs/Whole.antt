-- All bytes are cut, up to the end or to a fault.
use Rattle.std.proofs.Common.{◌≡◌, ◌<◌, ◌≤◌, ◌+◌, ℕ, zero, suc, List, [], ◌∷◌, ◌++◌, Bool, true, false, take, drop, length, Option, Some, None, refl, arith}
use Rattle.std.proofs.lemmas.List.{take-append-drop, length-drop}
use Rattle.std.proofs.lemmas.List.Folds.{length-prefix_len}
use Rattle.std.specs.List.{prefix_len}
use Rattle.circ_lexer.specs.declared.tokens.Span.{Span}
use Rattle.circ_lexer.specs.declared.fault.LexFault.{LexFault}
use Rattle.circ_lexer.specs.Bytes.{is_blank, is_special, is_plain, is_in_line, begins_comment}
use Rattle.circ_lexer.specs.Cuts.{Cuts, end, blank, special, span}
use Rattle.circ_lexer.specs.Scanning.{fault_in}
use Rattle.circ_lexer.proofs.ByteKinds.{mark_in_line}
use Rattle.circ_lexer.proofs.Prefix.{ahead, all_pass, some_pass}
use Rattle.circ_lexer.proofs.Cutting.{Begins, comment_begins, run_begins, run_some, run_ends, bad_parts}

abbrev IsCut : ℕ → List ℕ → Type 0
IsCut at bs = (ss : List Span) × ((o : Option LexFault) × Cuts at bs ss o)

-- after the first n bytes of a text, which are some
led : (at m n : ℕ) (bs : List ℕ) (ss : List Span) → ((to : ℕ) (rest : List ℕ) → length rest ≤ m → IsCut to rest) → length bs ≤ m + 1 → 0 < n → Begins at bs ss n → IsCut at bs
led at m n bs ss ih h k begins =
    let rest = ih (at + n) (drop n bs) (omega (arith, length-drop n bs)) in
    (ss ++ rest.0, (rest.1.0, begins rest.0 rest.1.0 rest.1.1))

step : (m at b : ℕ) (bs : List ℕ) → ((to : ℕ) (rest : List ℕ) → length rest ≤ m → IsCut to rest) → length bs ≤ m → IsCut at (b ∷ bs)
step m at b bs ih h = go (is_blank b) refl (is_special b) refl (begins_comment (b ∷ bs)) refl (fault_in (drop (prefix_len is_plain (b ∷ bs)) (b ∷ bs)) (at + prefix_len is_plain (b ∷ bs))) refl
  where
    go : (v : Bool) → is_blank b ≡ v → (u : Bool) → is_special b ≡ u → (w : Bool) → begins_comment (b ∷ bs) ≡ w
        → (o : Option LexFault) → fault_in (drop (prefix_len is_plain (b ∷ bs)) (b ∷ bs)) (at + prefix_len is_plain (b ∷ bs)) ≡ o → IsCut at (b ∷ bs)
    go true e u f w k o j = let rest = ih (at + 1) bs h in (rest.0, (rest.1.0, blank at b bs rest.0 rest.1.0 e rest.1.1))
    go false e true f w k o j = let rest = ih (at + 1) bs h in (span at (at + 1) ∷ rest.0, (rest.1.0, special at b bs rest.0 rest.1.0 f rest.1.1))
    go false e false f true k o j = led at m (prefix_len is_in_line (b ∷ bs)) (b ∷ bs) [] ih (omega arith) (some_pass is_in_line b bs (mark_in_line b bs k)) (comment_begins at (b ∷ bs) k)
    go false e false f false k None j =
        let n = prefix_len is_plain (b ∷ bs) in
        let some = run_some (at + n) (b ∷ bs) (omega arith) e f j in
        led at m n (b ∷ bs) (span at (at + n) ∷ []) ih (omega arith) some (run_begins at (b ∷ bs) some k (run_ends (drop n (b ∷ bs)) (at + n) (ahead is_plain (b ∷ bs)) j))
    go false e false f false k (Some fault) j =
        let n = prefix_len is_plain (b ∷ bs) in
        ([], (Some fault, bad_parts at n (take n (b ∷ bs)) (drop n (b ∷ bs)) (b ∷ bs) fault (take-append-drop n (b ∷ bs)) (length-prefix_len is_plain (b ∷ bs)) (all_pass is_plain (b ∷ bs)) k j))

cut_within : (m at : ℕ) (bs : List ℕ) → length bs ≤ m → IsCut at bs
cut_within m at [] h = ([], (None, end at))
cut_within zero at (b ∷ bs) h = absurd (omega arith)
cut_within (suc m) at (b ∷ bs) h = step m at b bs (cut_within m) (omega arith)

pub some_cut : (bytes : List ℕ) → (ss : List Span) × ((o : Option LexFault) × Cuts 0 bytes ss o)
some_cut bytes = cut_within (length bytes) 0 bytes (omega arith)
