-- Cutting a text into tokens from the left.
use Rattle.std.proofs.Common.{◌≡◌, ◌<◌, ◌≤◌, ◌+◌, ℕ, suc, List, [], ◌∷◌, ◌++◌, Bool, true, false, cond, ◌==◌, not, take, drop, length, get_or, if◌then◌else◌, Option, Some, None, refl, sym, subst, ◌∙◌, arith, append-nil, add-zero}
use Rattle.std.proofs.lemmas.List.{take-append-drop, drop-drop, drop_more, length-drop, drop_all}
use Rattle.std.proofs.lemmas.List.Folds.{length-prefix_len}
use Rattle.std.proofs.lemmas.List.Sums.{prefix_len-le-length}
use Rattle.std.specs.List.{prefix_len, list_all}
use Rattle.circ_lexer.specs.declared.tokens.Span.{Span}
use Rattle.circ_lexer.specs.declared.fault.LexFault.{LexFault}
use Rattle.circ_lexer.specs.Bytes.{is_blank, is_special, is_plain, is_bad, is_in_line, begins_comment, ends_run, ends_line}
use Rattle.circ_lexer.specs.Cuts.{Cuts, end, blank, comment, special, run, bad, AreSpans, span, fault_of}
use Rattle.circ_lexer.specs.Scanning.{Scans, BeginsToken, begins, fault_in}
use Rattle.circ_lexer.proofs.ByteKinds.{stops}
use Rattle.circ_lexer.proofs.Prefix.{ahead, all_pass, some_pass}

-- the tokens of the first n bytes of a text
abbrev pub Begins : ℕ → List ℕ → List Span → ℕ → Type 0
Begins at bs ss n = (us : List Span) (o : Option LexFault) → Cuts (at + n) (drop n bs) us o → Cuts at bs (ss ++ us) o

pub scans_at : (bytes : List ℕ) (at n : ℕ) (ss : List Span) → at ≤ length bytes → n ≤ length (drop at bytes) → Begins at (drop at bytes) ss n → Scans bytes at ss (at + n)
scans_at bytes at n ss h k sound = record {
  ahead = omega arith;
  within = omega (arith, length-drop at bytes);
  sound = λ us o c. sound us o (rw drop-drop c);
}

-- a place where a test fails, after all bytes that pass it
pub stops_at : (p : ℕ → Bool) (bytes : List ℕ) (at : ℕ) → begins p (drop (at + prefix_len p (drop at bytes)) bytes) ≡ false
stops_at p bytes at = rw (← drop-drop (prefix_len p (drop at bytes)) at bytes) (ahead p (drop at bytes))

-- the first byte from a place on
pub begins_at : (p : ℕ → Bool) (bytes : List ℕ) (at : ℕ) → at < length bytes → begins p (drop at bytes) ≡ p (get_or bytes at 0)
begins_at p bytes at h = rw (drop_more bytes at 0 h) refl

blanks_step : (at b : ℕ) (bs : List ℕ) (v : Bool) → is_blank b ≡ v → Begins (at + 1) bs [] (prefix_len is_blank bs) → Begins at (b ∷ bs) [] (cond v (1 + prefix_len is_blank bs) 0)
blanks_step at b bs true h k us o c =
    let one : 1 + prefix_len is_blank bs ≡ suc (prefix_len is_blank bs) = omega arith in
    let place : at + (1 + prefix_len is_blank bs) ≡ at + 1 + prefix_len is_blank bs = omega arith in
    blank at b bs us o h (k us o (rw (place, one) at c))
blanks_step at b bs false h k us o c = rw add-zero at c

blanks_begin : (at : ℕ) (bs : List ℕ) → Begins at bs [] (prefix_len is_blank bs)
blanks_begin at [] = λ us o c. rw add-zero at c
blanks_begin at (b ∷ bs) = blanks_step at b bs (is_blank b) refl (blanks_begin (at + 1) bs)

pub blanks_scan : (bytes : List ℕ) (at : ℕ) → at ≤ length bytes → Scans bytes at [] (at + prefix_len is_blank (drop at bytes))
blanks_scan bytes at h = scans_at bytes at _ [] h (prefix_len-le-length is_blank (drop at bytes)) (blanks_begin at (drop at bytes))

feed : (bs : List ℕ) → begins is_in_line bs ≡ false → ends_line bs ≡ true
feed [] h = refl
feed (b ∷ bs) h = not_false (b == 10) h
  where
    not_false : (v : Bool) → not v ≡ false → v ≡ true
    not_false true h = refl
    not_false false h = sym h

pub comment_begins : (at : ℕ) (bs : List ℕ) → begins_comment bs ≡ true → Begins at bs [] (prefix_len is_in_line bs)
comment_begins at bs h us o c =
    let n = prefix_len is_in_line bs in
    let e = take-append-drop n bs in
    subst (λ (r : List ℕ). Cuts at r us o) e (comment at (take n bs) (drop n bs) us o
    (record { begins = rw e h; in_line = all_pass is_in_line bs; whole = feed (drop n bs) (ahead is_in_line bs) })
    (subst (λ (m : ℕ). Cuts (at + m) (drop n bs) us o) (sym (length-prefix_len is_in_line bs)) c))

pub comment_scans : (bytes : List ℕ) (at : ℕ) → at ≤ length bytes → begins_comment (drop at bytes) ≡ true → Scans bytes at [] (at + prefix_len is_in_line (drop at bytes))
comment_scans bytes at h k = scans_at bytes at _ [] h (prefix_len-le-length is_in_line (drop at bytes)) (comment_begins at (drop at bytes) k)

special_begins : (at : ℕ) (bs : List ℕ) → begins is_special bs ≡ true → Begins at bs (span at (at + 1) ∷ []) 1
special_begins at [] h = λ us o c. absurd (cc)
special_begins at (b ∷ bs) h = λ us o c. special at b bs us o h c

pub special_scans : (bytes : List ℕ) (at : ℕ) → at < length bytes → is_special (get_or bytes at 0) ≡ true → (at < at + 1) × Scans bytes at (span at (at + 1) ∷ []) (at + 1)
special_scans bytes at h k =
    (omega arith, scans_at bytes at 1 _ (omega arith) (omega (arith, length-drop at bytes)) (special_begins at (drop at bytes) (begins_at is_special bytes at h ∙ k)))

not_bad : (b : ℕ) (bs : List ℕ) (place : ℕ) → fault_in (b ∷ bs) place ≡ None → is_bad b ≡ false
not_bad b bs place h = go (is_bad b) refl h
  where
    go : (v : Bool) → is_bad b ≡ v → (if v then Some (fault_of b place) else None) ≡ None → is_bad b ≡ false
    go true e h = absurd (cc)
    go false e h = e

pub run_ends : (bs : List ℕ) (place : ℕ) → begins is_plain bs ≡ false → fault_in bs place ≡ None → ends_run bs ≡ true
run_ends [] place h f = refl
run_ends (b ∷ bs) place h f = stops b h (not_bad b bs place f)

pub run_some : (place : ℕ) (bs : List ℕ) → 0 < length bs → begins is_blank bs ≡ false → begins is_special bs ≡ false → fault_in (drop (prefix_len is_plain bs) bs) place ≡ None
    → 0 < prefix_len is_plain bs
run_some place [] l h k f = absurd (omega arith)
run_some place (b ∷ bs) l h k f = go (is_plain b) refl
  where
    go : (v : Bool) → is_plain b ≡ v → 0 < prefix_len is_plain (b ∷ bs)
    go true e = some_pass is_plain b bs e
    go false e =
        let none : prefix_len is_plain (b ∷ bs) ≡ 0 = rw e refl in
        let here = stops b e (not_bad b bs place (rw none at f)) in
        absurd (let no : false ≡ true = rw (h, k) at here in cc)

pub run_begins : (at : ℕ) (bs : List ℕ) → 0 < prefix_len is_plain bs → begins_comment bs ≡ false → ends_run (drop (prefix_len is_plain bs) bs) ≡ true
    → Begins at bs (span at (at + prefix_len is_plain bs) ∷ []) (prefix_len is_plain bs)
run_begins at bs l h r us o c =
    let n = prefix_len is_plain bs in
    let e = take-append-drop n bs in
    let long = length-prefix_len is_plain bs in
    subst (λ (r : List ℕ). Cuts at r (span at (at + n) ∷ us) o) e (subst (λ (m : ℕ). Cuts at (take n bs ++ drop n bs) (span at (at + m) ∷ us) o) long (run at (take n bs) (drop n bs) us o
    (record { some = λ z. let none : length (take n bs) ≡ 0 = rw z refl in omega arith; plain = all_pass is_plain bs; no_comment = rw e h; whole = r })
    (subst (λ (m : ℕ). Cuts (at + m) (drop n bs) us o) (sym long) c)))

pub run_scans : (bytes : List ℕ) (at n : ℕ) → n ≡ prefix_len is_plain (drop at bytes) → at < length bytes → BeginsToken (drop at bytes) → is_special (get_or bytes at 0) ≡ false
    → fault_in (drop (at + n) bytes) (at + n) ≡ None → (at < at + n) × Scans bytes at (span at (at + n) ∷ []) (at + n)
run_scans bytes at n e h t k f =
    let rest = drop at bytes in
    let there : fault_in (drop n rest) (at + n) ≡ None = rw drop-drop f in
    let f' : fault_in (drop (prefix_len is_plain rest) rest) (at + n) ≡ None = rw (← e) there in
    let some = run_some (at + n) rest (omega (arith, length-drop at bytes)) t.no_blank (begins_at is_special bytes at h ∙ k) f' in
    rw e (
      omega arith,
      scans_at bytes at _ _ (omega arith) (prefix_len-le-length is_plain rest)
          (run_begins at rest some t.no_comment (run_ends (drop (prefix_len is_plain rest) rest) (at + n) (ahead is_plain rest) f')),
    )

pub bad_parts : (at n : ℕ) (w x bs : List ℕ) (f : LexFault) → w ++ x ≡ bs → length w ≡ n → list_all is_plain w ≡ true → begins_comment bs ≡ false → fault_in x (at + n) ≡ Some f → Cuts at bs [] (Some f)
bad_parts at n w [] bs f e l p h k = absurd (cc)
bad_parts at n w (b ∷ y) bs f e l p h k = go (is_bad b) refl k
  where
    go : (v : Bool) → is_bad b ≡ v → (if v then Some (fault_of b (at + n)) else None) ≡ Some f → Cuts at bs [] (Some f)
    go true u k =
        subst (λ (o : Option LexFault). Cuts at bs [] o) k (subst (λ (r : List ℕ). Cuts at r [] (Some (fault_of b (at + n)))) e
        (subst (λ (m : ℕ). Cuts at (w ++ b ∷ y) [] (Some (fault_of b (at + m)))) l (bad at w b y (record { plain = p; no_comment = rw e h; bad = u }))))
    go false u k = absurd (cc)

pub bad_cut : (bytes : List ℕ) (at n : ℕ) (f : LexFault) → n ≡ prefix_len is_plain (drop at bytes) → begins_comment (drop at bytes) ≡ false
    → fault_in (drop (at + n) bytes) (at + n) ≡ Some f → Cuts at (drop at bytes) [] (Some f)
bad_cut bytes at n f e h k =
    let rest = drop at bytes in
    let there : fault_in (drop n rest) (at + n) ≡ Some f = rw drop-drop k in
    bad_parts at n (take n rest) (drop n rest) rest f (take-append-drop n rest) (rw e (length-prefix_len is_plain rest)) (rw e (all_pass is_plain rest)) h there

pub all_cut : (bytes : List ℕ) (at : ℕ) (ss : List Span) → Scans bytes 0 ss at → length bytes ≤ at → AreSpans bytes ss
all_cut bytes at ss h l = subst (λ (us : List Span). Cuts 0 bytes us None) (append-nil ss) (h.sound [] None (rw (drop_all at bytes l) (end at)))
