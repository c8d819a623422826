-- Bytes are cut into tokens in one way: each cut is what a machine with three states finds.
use Rattle.std.proofs.Common.{◌≡◌, ◌+◌, ℕ, suc, List, [], ◌∷◌, ◌++◌, Bool, true, false, ◌==◌, ◌&&◌, not, length, if◌then◌else◌, Option, Some, None, Ok, Err, refl, sym, ap, ◌∙◌, arith, add-zero}
use Rattle.std.proofs.lemmas.Bool.{eqb-true}
use Rattle.std.specs.List.{list_all}
use Rattle.circ_lexer.specs.declared.tokens.Span.{Span}
use Rattle.circ_lexer.specs.declared.fault.LexFault.{LexFault}
use Rattle.circ_lexer.specs.declared.fault.LexFault.TheVariants.{NotAscii, Control, Memory}
use Rattle.circ_lexer.specs.Bytes.{is_blank, is_special, is_plain, is_bad, is_in_line, begins_comment, ends_run, ends_line}
use Rattle.circ_lexer.specs.Cuts.{Cuts, end, blank, comment, special, run, bad, AreSpans, span, fault_of}
use Rattle.circ_lexer.specs.TokenList.{IsOutcome}
use Rattle.circ_lexer.specs.Scanning.{GivesSpans}
use Rattle.circ_lexer.proofs.ByteKinds.{plain_blank, plain_special, plain_bad, bad_blank, bad_special, special_blank, mark_plain}

-- between tokens, in a comment, or in a run from a place on
data State : Type 0 where
  between : State
  remark : State
  inside : ℕ → State

abbrev Found : Type 0
Found = List Span × Option LexFault

abbrev put : Span → Found → Found
put s r = (s ∷ r.0, r.1)

abbrev scan : List ℕ → ℕ → State → Found
scan [] at between = ([], None)
scan [] at remark = ([], None)
scan [] at (inside from) = (span from at ∷ [], None)
scan (b ∷ bs) at remark = if b == 10 then scan bs (at + 1) between else scan bs (at + 1) remark
scan (b ∷ bs) at between =
    if is_blank b then scan bs (at + 1) between else if is_special b then put (span at (at + 1)) (scan bs (at + 1) between)
    else if is_bad b then ([], Some (fault_of b at)) else if begins_comment (b ∷ bs) then scan bs (at + 1) remark else scan bs (at + 1) (inside at)
scan (b ∷ bs) at (inside from) =
    if is_blank b then put (span from at) (scan bs (at + 1) between) else if is_special b then put (span from at) (put (span at (at + 1)) (scan bs (at + 1) between))
    else if is_bad b then ([], Some (fault_of b at)) else scan bs (at + 1) (inside from)

and_true : (x y : Bool) → (x && y) ≡ true → (x ≡ true) × (y ≡ true)
and_true true y h = (refl, h)
and_true false y h = absurd (cc)

not_true : (x : Bool) → not x ≡ true → x ≡ false
not_true true h = absurd (cc)
not_true false h = refl

-- a comment is passed over
scan_line : (c bs : List ℕ) (at : ℕ) → list_all is_in_line c ≡ true → ends_line bs ≡ true → scan (c ++ bs) at remark ≡ scan bs (at + length c) between
scan_line [] [] at h e = refl
scan_line [] (b ∷ bs) at h e = let feed : b ≡ 10 = eqb-true b 10 e in rw (add-zero, feed) refl
scan_line (b ∷ c) bs at h e =
    let test = and_true (is_in_line b) (list_all is_in_line c) h in
    let place : at + 1 + length c ≡ at + suc (length c) = omega arith in
    rw (not_true (b == 10) test.0) (scan_line c bs (at + 1) test.1 e ∙ ap (λ (m : ℕ). scan bs m between) place)

-- the plain bytes of a run are passed over
scan_run : (w bs : List ℕ) (at from : ℕ) → list_all is_plain w ≡ true → scan (w ++ bs) at (inside from) ≡ scan bs (at + length w) (inside from)
scan_run [] bs at from h = rw add-zero refl
scan_run (b ∷ w) bs at from h =
    let test = and_true (is_plain b) (list_all is_plain w) h in
    let place : at + 1 + length w ≡ at + suc (length w) = omega arith in
    rw (plain_bad b test.0, plain_blank b test.0, plain_special b test.0) (scan_run w bs (at + 1) from test.1 ∙ ap (λ (m : ℕ). scan bs m (inside from)) place)

scan_token : (b : ℕ) (w bs : List ℕ) (at : ℕ) → list_all is_plain (b ∷ w) ≡ true → begins_comment (b ∷ (w ++ bs)) ≡ false → scan (b ∷ (w ++ bs)) at between ≡ scan bs (at + suc (length w)) (inside at)
scan_token b w bs at h k =
    let test = and_true (is_plain b) (list_all is_plain w) h in
    let place : at + 1 + length w ≡ at + suc (length w) = omega arith in
    rw (plain_bad b test.0, plain_blank b test.0, plain_special b test.0, k) (scan_run w bs (at + 1) at test.1 ∙ ap (λ (m : ℕ). scan bs m (inside at)) place)

-- a run is over
run_over : (bs : List ℕ) (at from : ℕ) → ends_run bs ≡ true → scan bs at (inside from) ≡ put (span from at) (scan bs at between)
run_over [] at from e = refl
run_over (b ∷ bs) at from e = go (is_blank b) refl (is_special b) refl
  where
    go : (v : Bool) → is_blank b ≡ v → (u : Bool) → is_special b ≡ u → scan (b ∷ bs) at (inside from) ≡ put (span from at) (scan (b ∷ bs) at between)
    go true x u y = rw x refl
    go false x true y = rw (x, y) refl
    go false x false y = absurd (let no : false ≡ true = rw (x, y) at e in cc)

no_comment_ends : (bs : List ℕ) → begins_comment bs ≡ true → ends_line bs ≡ true → ⊥
no_comment_ends [] h e = cc
no_comment_ends (b ∷ bs) h e = let feed : b ≡ 10 = eqb-true b 10 e in let no : false ≡ true = rw feed at h in cc

scan_cut : {at : ℕ} {a : List ℕ} {ss : List Span} {o : Option LexFault} → Cuts at a ss o → scan a at between ≡ (ss, o)
scan_cut (end at) = refl
scan_cut (blank at b bs ss o h c) = rw h (scan_cut c)
scan_cut (special at b bs ss o h c) = rw (special_blank b h, h) (ap (put (span at (at + 1))) (scan_cut c))
scan_cut (comment at [] bs ss o k c) = absurd (no_comment_ends bs k.begins k.whole)
scan_cut (comment at (b ∷ w) bs ss o k c) =
    let p = mark_plain b (w ++ bs) k.begins in
    let place : at + 1 + length w ≡ at + suc (length w) = omega arith in
    rw (plain_bad b p, plain_blank b p, plain_special b p, k.begins)
    (scan_line w bs (at + 1) (and_true (is_in_line b) (list_all is_in_line w) k.in_line).1 k.whole ∙ ap (λ (m : ℕ). scan bs m between) place ∙ scan_cut c)
scan_cut (run at [] bs ss o r c) = absurd (r.some refl)
scan_cut (run at (b ∷ w) bs ss o r c) =
    scan_token b w bs at r.plain r.no_comment ∙ run_over bs (at + suc (length w)) at r.whole ∙ ap (put (span at (at + suc (length w)))) (scan_cut c)
scan_cut (bad at [] b bs k) = rw (add-zero, k.bad, bad_blank b k.bad, bad_special b k.bad) refl
scan_cut (bad at (d ∷ w) b bs k) = scan_token d w (b ∷ bs) at k.plain k.no_comment ∙ rw (k.bad, bad_blank b k.bad, bad_special b k.bad) refl

-- two cuts of some bytes are one
pub once : {at : ℕ} {a : List ℕ} {ss us : List Span} {o p : Option LexFault} → Cuts at a ss o → Cuts at a us p → (us ≡ ss) × (p ≡ o)
once c d = let e = sym (scan_cut d) ∙ scan_cut c in (ap (λ (r : Found). r.0) e, ap (λ (r : Found). r.1) e)

pub only_tokens : (bytes : List ℕ) (us : List Span) → AreSpans bytes us → (ss : List Span) (o : Option LexFault) → Cuts 0 bytes ss o → IsOutcome (Ok (record { source = bytes; spans = us })) bytes ss o
only_tokens bytes us c ss o d = let e = once d c in (ap (λ (vs : List Span). record { source = bytes; spans = vs }) e.0, sym e.1)

pub only_fault : (bytes : List ℕ) (f : LexFault) → GivesSpans (Err f) bytes → (ss : List Span) (o : Option LexFault) → Cuts 0 bytes ss o → IsOutcome (Err f) bytes ss o
only_fault bytes (NotAscii place) c ss o d = (once c.1 d).1
only_fault bytes (Control place) c ss o d = (once c.1 d).1
only_fault bytes Memory c ss o d = tt
