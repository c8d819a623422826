-- The laws that a reader's loop cites, whatever it reads: what the next line, or want of one, makes of the bytes.
use Rattle.std.specs.Prelude.{◌≡◌, ℕ, ◌+◌, ◌-◌, ◌<◌, ◌≤◌, ◌⊎◌, List, [], ◌∷◌, ◌++◌, length, refl, Option, Some, None, true, false, zero, suc}
use Rattle.std.specs.Option.{option_and_then}
use Rattle.std.specs.List.{AllByRecursion}
use Rattle.std.proofs.Common.{sym, ◌∙◌, ap, arith, append_assoc, append-nil, length-append, inl, inr, subst}
use Rattle.std.proofs.lemmas.Option.{same_Some, none-some}
use Rattle.std.proofs.lemmas.Bool.{eqb-false}
use Rattle.circ_line.specs.Line.{Line}
use Rattle.circ_line.specs.Text.{line_text, IsInRange}
use Rattle.circ_line.specs.Plain.{NoFeed, ReadsLine}
use Rattle.circ_line.proofs.OneText.{one_text, no_feed}
use Rattle.circ_grammar.specs.Grammar.{NumberedBlock, NumberedProof, HasParts, proof_lines}
use Rattle.circ_grammar.specs.FirstBad.{LineTests, file_text, AllInRange, AllPass, NoLimit, IsTextOf, Follows, IsGood, PassesLimit, Line_fault, Limit_fault}
use Rattle.circ_grammar.specs.FirstBad.{IsFaultless, IsFirstFault}
use Rattle.circ_grammar.specs.Machine.{Front, State, begin, ended, next, run, proof_of, front}
use Rattle.circ_grammar.specs.Reading.{At, NextLine, IsEnded}
use Rattle.circ_grammar.proofs.Complete.{proof_run, run-front, begins_run}
use Rattle.circ_grammar.proofs.Finish.{is_plain, plain_in_range, run_begins, run_whole, run-append}

-- a line ends at the first line feed
pub cut : (a b x y : List ℕ) → NoFeed a → NoFeed b → a ++ (10 ∷ x) ≡ b ++ (10 ∷ y) → (a ≡ b) × (x ≡ y)
cut [] [] x y h k e = (refl, cc)
cut [] (c ∷ b) x y h k e = let same : 10 ≡ c = cc in absurd (eqb-false c 10 k.0 (sym same))
cut (c ∷ a) [] x y h k e = let same : c ≡ 10 = cc in absurd (eqb-false c 10 h.0 same)
cut (c ∷ a) (d ∷ b) x y h k e = let same : c ≡ d = cc in
    let rest : (a ≡ b) × (x ≡ y) = cut a b x y h.1 k.1 cc in (cc, rest.1)

-- no line where no line feed is
pub no_cut : (a b x : List ℕ) → NoFeed a → a ≡ b ++ (10 ∷ x) → ⊥
no_cut [] [] x h e = let same : ◌≡◌ {A = ℕ} 0 1 = cc in absurd (omega arith)
no_cut [] (d ∷ b) x h e = let same : ◌≡◌ {A = ℕ} 0 1 = cc in absurd (omega arith)
no_cut (c ∷ a) [] x h e = let same : c ≡ 10 = cc in eqb-false c 10 h.0 same
no_cut (c ∷ a) (d ∷ b) x h e = no_cut a b x h.1 cc

file_text-append : (a b : List Line) → file_text (a ++ b) ≡ file_text a ++ file_text b
file_text-append [] b = refl
file_text-append (l ∷ a) b = ap (λ t. line_text l ++ (10 ∷ t)) (file_text-append a b)
    ∙ sym (append_assoc (line_text l) (10 ∷ file_text a) (file_text b))

all-append : (P : Line → Type 0) (a b : List Line) → AllByRecursion P a → AllByRecursion P b → AllByRecursion P (a ++ b)
all-append P [] b h k = k
all-append P (l ∷ a) b h k = (h.0, all-append P a b h.1 k)

pub all_front : (P : Line → Type 0) (a b : List Line) → AllByRecursion P (a ++ b) → AllByRecursion P a
all_front P [] b h = tt
all_front P (l ∷ a) b h = (h.0, all_front P a b h.1)

all_rest : (P : Line → Type 0) (a b : List Line) → AllByRecursion P (a ++ b) → AllByRecursion P b
all_rest P [] b h = h
all_rest P (l ∷ a) b h = all_rest P a b h.1

all_plain : (ls : List Line) → AllByRecursion (λ l. is_plain l ≡ true) ls → AllInRange ls
all_plain [] h = tt
all_plain (l ∷ ls) h = (plain_in_range l h.0, all_plain ls h.1)

-- The lines of a file are determined.
pub same_front : (xs bs : List Line) (x y : List ℕ) → AllInRange xs → AllInRange bs → length xs ≤ length bs
    → file_text xs ++ x ≡ file_text bs ++ y → (more : List Line) × (bs ≡ xs ++ more) × (x ≡ file_text more ++ y)
same_front [] bs x y h k n e = (bs, refl, e)
same_front (a ∷ xs) [] x y h k n e = absurd (omega arith)
same_front (a ∷ xs) (b ∷ bs) x y h k n e =
    let f : line_text a ++ (10 ∷ (file_text xs ++ x)) ≡ line_text b ++ (10 ∷ (file_text bs ++ y))
    = sym (append_assoc (line_text a) (10 ∷ file_text xs) x) ∙ (e ∙ append_assoc (line_text b) (10 ∷ file_text bs) y) in
    let c : (line_text a ≡ line_text b) × (file_text xs ++ x ≡ file_text bs ++ y)
    = cut (line_text a) (line_text b) (file_text xs ++ x) (file_text bs ++ y) (no_feed a h.0) (no_feed b k.0) f in
    let s : a ≡ b = one_text a b h.0 k.0 c.0 in
    let i : (more : List Line) × (bs ≡ xs ++ more) × (x ≡ file_text more ++ y) = same_front xs bs x y h.1 k.1 (omega arith) c.1 in
    (i.0, cc (s, i.1), i.2)

at_follows : (ls : List Line) (m : State) → run begin ls ≡ Some m → AllInRange ls → Follows ls
at_follows ls m e h =
    let g : (p : NumberedProof) × (rest : List Line) × HasParts p × (proof_lines p ≡ ls ++ rest) × AllByRecursion (λ l. is_plain l ≡ true) rest
    = run_begins ls m e in
    let P : List Line → Type 0 = AllInRange in
    (g.0, g.1, g.2, g.3, subst P (sym g.3) (all-append IsInRange ls g.1 h (all_plain g.1 g.4)))

cut_list : (k : ℕ) (ls : List Line) → k ≤ length ls → (a : List Line) × (b : List Line) × (ls ≡ a ++ b) × (length a ≡ k)
cut_list zero ls h = ([], ls, refl, refl)
cut_list (suc k) [] h = absurd (omega arith)
cut_list (suc k) (l ∷ ls) h = let c : (a : List Line) × (b : List Line) × (ls ≡ a ++ b) × (length a ≡ k) = cut_list k ls (omega arith) in
    (l ∷ c.0, c.1, ap (λ x. l ∷ x) c.2, omega (arith, c.3))

pub pass_front : (r : LineTests) (before a b : List Line) → AllPass r before (a ++ b) → AllPass r before a
pass_front r before [] b h = tt
pass_front r before (l ∷ a) b h = (h.0, pass_front r (before ++ (l ∷ [])) a b h.1)

-- What is good up to n is good up to each number below.
pub good_front : (r : LineTests) (bytes : List ℕ) (n k : ℕ) → IsGood r bytes n → k ≤ n → IsGood r bytes k
good_front r bytes n k (ls, rest, len, text, (p, more, parts, e, fit), pass) h =
    let c : (a : List Line) × (b : List Line) × (ls ≡ a ++ b) × (length a ≡ k) = cut_list k ls (omega arith) in
    let P : List Line → Type 0 = AllPass r [] in (
      c.0,
      file_text c.1 ++ rest,
      c.3,
      text ∙ (ap (λ x. file_text x ++ rest) c.2
          ∙ (ap (λ x. x ++ rest) (file_text-append c.0 c.1) ∙ append_assoc (file_text c.0) (file_text c.1) rest)),
      (p, c.1 ++ more, parts, e ∙ (ap (λ x. x ++ more) c.2 ∙ append_assoc c.0 c.1 more), fit),
      pass_front r [] c.0 c.1 (subst P c.2 pass),
    )

pub at_good : (r : LineTests) (bytes : List ℕ) (ls : List Line) (rest : List ℕ) (m : State) → At r bytes ls rest m → IsGood r bytes (length ls)
at_good r bytes ls rest m at = (ls, rest, refl, at.text, at_follows ls m at.state at.fit, at.pass)

pub false_true : false ≡ true → ⊥
false_true e = let same : ◌≡◌ {A = ℕ} 0 1 = cc in absurd (omega arith)

pub limit_at : (r : LineTests) (before a : List Line) (l : Line) (more : List Line) → NoLimit r before ((a ++ (l ∷ [])) ++ more)
    → r.limit (before ++ a) l ≡ false
limit_at r before [] l more h = ap (λ x. r.limit x l) (append-nil before) ∙ h.0
limit_at r before (c ∷ a) l more h = ap (λ x. r.limit x l) (sym (append_assoc before (c ∷ []) a)) ∙ limit_at r (before ++ (c ∷ [])) a l more h.1

pub at_faultless : (r : LineTests) (bytes : List ℕ) (ls : List Line) (rest : List ℕ) (m : State) → At r bytes ls rest m
    → IsFaultless r bytes (length ls)
at_faultless r bytes ls rest m at = record {
  good = λ k h. good_front r bytes (length ls) k (at_good r bytes ls rest m at) h;
  within = λ k h z. none_passes k h z;
}
  where
    none_passes : (k : ℕ) → k ≤ length ls → PassesLimit r bytes k → ⊥
    none_passes k h (before, l, after, len, text, fit, reached) =
        let s : (more : List Line) × (ls ≡ (before ++ (l ∷ [])) ++ more) × (after ≡ file_text more ++ rest)
        = same_front (before ++ (l ∷ [])) ls after rest fit at.fit (omega (arith, length-append before (l ∷ []))) (sym text ∙ at.text) in
        let P : List Line → Type 0 = NoLimit r [] in
        let no : r.limit before l ≡ false = limit_at r [] before l s.0 (subst P s.1 at.within) in
        absurd (false_true (sym no ∙ reached))

-- one line more than has been read
pub more_line : (r : LineTests) (bytes : List ℕ) (ls : List Line) (rest : List ℕ) (m : State) → At r bytes ls rest m
    → (xs : List Line) (after : List ℕ) → length xs ≡ length ls + 1 → bytes ≡ file_text xs ++ after → AllInRange xs
    → (l : Line) × (xs ≡ ls ++ (l ∷ [])) × (rest ≡ line_text l ++ (10 ∷ after)) × IsInRange l
more_line r bytes ls rest m at xs after len text fit =
    let s : (more : List Line) × (xs ≡ ls ++ more) × (rest ≡ file_text more ++ after)
    = same_front ls xs rest after at.fit fit (omega arith) (sym at.text ∙ text) in
    go s.0 s.1 s.2 (omega (arith, length-append ls s.0, ap length s.1))
  where
    go : (more : List Line) → xs ≡ ls ++ more → rest ≡ file_text more ++ after → length more ≡ 1
        → (l : Line) × (xs ≡ ls ++ (l ∷ [])) × (rest ≡ line_text l ++ (10 ∷ after)) × IsInRange l
    go [] e t n = absurd (omega arith)
    go (l ∷ []) e t n = let P : List Line → Type 0 = AllInRange in
        let f : AllInRange (l ∷ []) = all_rest IsInRange ls (l ∷ []) (subst P e fit) in
        (l, e, t ∙ append_assoc (line_text l) (10 ∷ []) after, f.0)
    go (l ∷ k ∷ more) e t n = absurd (omega arith)

-- The next line is bad where no good line follows, and the file is not whole.
pub first_bad : (r : LineTests) (bytes : List ℕ) (ls : List Line) (rest : List ℕ) (m : State) → At r bytes ls rest m
    → (IsGood r bytes (length ls + 1) → ⊥) → (rest ≡ [] → IsEnded m → ⊥) → IsFirstFault r bytes (Line_fault (length ls + 1))
first_bad r bytes ls rest m at bad open_yet =
    let e : length ls + 1 - 1 ≡ length ls = omega arith in
    let P : ℕ → Type 0 = IsFaultless r bytes in
    (omega arith, subst P (sym e) (at_faultless r bytes ls rest m at), bad, λ p t. no_text p t (le_or_more (length ls + 1) (length (proof_lines p))))
  where
    le_or_more : (a b : ℕ) → (a ≤ b) ⊎ (b < a)
    le_or_more a b = grind arith

    ends : (p : NumberedProof) → IsTextOf r p bytes → (more : List Line) → ls ≡ proof_lines p ++ more → [] ≡ file_text more ++ rest → ⊥
    ends p t [] e f = open_yet (sym f) (
      front p.table p.places p.certificates,
      p.blocks,
      same_Some m (ended (front p.table p.places p.certificates) p.blocks)
          (sym at.state ∙ (ap (run begin) (e ∙ append-nil (proof_lines p)) ∙ proof_run p t.parts)),
    )
    ends p t (l ∷ more) e f = omega (
      arith,
      ap length f,
      length-append (line_text l ++ (10 ∷ file_text more)) rest,
      length-append (line_text l) (10 ∷ file_text more),
    )

    no_text : (p : NumberedProof) → IsTextOf r p bytes → (length ls + 1 ≤ length (proof_lines p)) ⊎ (length (proof_lines p) < length ls + 1) → ⊥
    no_text p t (inl h) = bad (good_front r bytes (length (proof_lines p)) (length ls + 1) (
      proof_lines p,
      [],
      refl,
      t.text ∙ sym (append-nil (file_text (proof_lines p))),
      (p, [], t.parts, sym (append-nil (proof_lines p)), t.fit),
      t.pass,
    ) h)
    no_text p t (inr h) = let s : (more : List Line) × (ls ≡ proof_lines p ++ more) × ([] ≡ file_text more ++ rest)
        = same_front (proof_lines p) ls [] rest t.fit at.fit (omega arith) (append-nil (file_text (proof_lines p)) ∙ (sym t.text ∙ at.text)) in
        ends p t s.0 s.1 s.2

pub follows_fit : (xs : List Line) → Follows xs → AllInRange xs
follows_fit xs (p, more, parts, e, fit) = let P : List Line → Type 0 = AllInRange in all_front IsInRange xs more (subst P e fit)

-- 1. No line feed comes any more, and the file is not whole.
pub bad_cut : (r : LineTests) (bytes : List ℕ) (ls : List Line) (rest : List ℕ) (m : State) → At r bytes ls rest m
    → NoFeed rest → (rest ≡ [] → IsEnded m → ⊥) → IsFirstFault r bytes (Line_fault (length ls + 1))
bad_cut r bytes ls rest m at h open_yet = first_bad r bytes ls rest m at no_good open_yet
  where
    no_good : IsGood r bytes (length ls + 1) → ⊥
    no_good (xs, after, len, text, follows, pass) =
        let q : (l : Line) × (xs ≡ ls ++ (l ∷ [])) × (rest ≡ line_text l ++ (10 ∷ after)) × IsInRange l
        = more_line r bytes ls rest m at xs after len text (follows_fit xs follows) in
        no_cut rest (line_text q.0) after h q.2

not_empty_text : (b after rest : List ℕ) → rest ≡ b ++ (10 ∷ after) → rest ≡ [] → ⊥
not_empty_text b after rest e f = omega (arith, ap length e, ap length f, length-append b (10 ∷ after))

-- 2. What comes up to the next line feed is no line.
pub bad_form : (r : LineTests) (bytes : List ℕ) (ls : List Line) (rest b after : List ℕ) (m : State) → At r bytes ls rest m
    → NoFeed b → rest ≡ b ++ (10 ∷ after) → ReadsLine b None → IsFirstFault r bytes (Line_fault (length ls + 1))
bad_form r bytes ls rest b after m at h split none = first_bad r bytes ls rest m at no_good (λ e z. not_empty_text b after rest split e)
  where
    no_good : IsGood r bytes (length ls + 1) → ⊥
    no_good (xs, later, len, text, follows, pass) =
        let q : (l : Line) × (xs ≡ ls ++ (l ∷ [])) × (rest ≡ line_text l ++ (10 ∷ later)) × IsInRange l
        = more_line r bytes ls rest m at xs later len text (follows_fit xs follows) in
        let c : (b ≡ line_text q.0) × (after ≡ later) = cut b (line_text q.0) after later h (no_feed q.0 q.3) (sym split ∙ q.2) in
        none q.0 q.3 c.0

-- One line more in the bytes is the next line.
next_line : (r : LineTests) (bytes : List ℕ) (ls : List Line) (rest after : List ℕ) (m : State) → At r bytes ls rest m
    → (l : Line) → NextLine rest l after
    → (xs : List Line) (later : List ℕ) → length xs ≡ length ls + 1 → bytes ≡ file_text xs ++ later → AllInRange xs → xs ≡ ls ++ (l ∷ [])
next_line r bytes ls rest after m at l (fits, split) xs later len text fit =
    let q : (l : Line) × (xs ≡ ls ++ (l ∷ [])) × (rest ≡ line_text l ++ (10 ∷ later)) × IsInRange l = more_line r bytes ls rest m at xs later len text fit in
    let c : (line_text l ≡ line_text q.0) × (after ≡ later)
    = cut (line_text l) (line_text q.0) after later (no_feed l fits) (no_feed q.0 q.3) (sym split ∙ q.2) in
    let s : l ≡ q.0 = one_text l q.0 fits q.3 c.0 in
    q.1 ∙ ap (λ x. ls ++ (x ∷ [])) (sym s)

pub run_push : (m : State) (ls : List Line) (l : Line) → run begin ls ≡ Some m → (n : State) → run begin (ls ++ (l ∷ [])) ≡ Some n → next m l ≡ Some n
run_push m ls l e n f = let s : (q : State) × (run begin ls ≡ Some q) × (run q (l ∷ []) ≡ Some n) = run-front begin n ls (l ∷ []) f in
    let t : q_of s ≡ m = same_Some (q_of s) m (sym s.1 ∙ e) in
    let P : State → Type 0 = λ q. run q (l ∷ []) ≡ Some n in
    one (next m l) (subst P t s.2)
  where
    q_of : (q : State) × (run begin ls ≡ Some q) × (run q (l ∷ []) ≡ Some n) → State
    q_of s = s.0

    one : (o : Option State) → option_and_then (λ q. run q []) o ≡ Some n → o ≡ Some n
    one None e = absurd (cc)
    one (Some x) e = e

-- 3. The next line may not stand here.
pub bad_next : (r : LineTests) (bytes : List ℕ) (ls : List Line) (rest after : List ℕ) (m : State) → At r bytes ls rest m
    → (l : Line) → NextLine rest l after → next m l ≡ None → IsFirstFault r bytes (Line_fault (length ls + 1))
bad_next r bytes ls rest after m at l line none =
    first_bad r bytes ls rest m at no_good (λ q z. not_empty_text (line_text l) after rest line.1 q)
  where
    no_good : IsGood r bytes (length ls + 1) → ⊥
    no_good (xs, later, len, text, follows, pass) =
        let q : xs ≡ ls ++ (l ∷ []) = next_line r bytes ls rest after m at l line xs later len text (follows_fit xs follows) in
        let n : (n : State) × (run begin xs ≡ Some n) = begins_run xs (follows.0, follows.1, follows.2, follows.3) in
        let f : next m l ≡ Some n.0 = run_push m ls l at.state n.0 (ap (run begin) (sym q) ∙ n.1) in
        none-some n.0 (sym none ∙ f)

pass_last : (r : LineTests) (before ls : List Line) (l : Line) → AllPass r before (ls ++ (l ∷ [])) → r.passes (before ++ ls) l ≡ true
pass_last r before [] l h = ap (λ x. r.passes x l) (append-nil before) ∙ h.0
pass_last r before (c ∷ ls) l h = ap (λ x. r.passes x l) (sym (append_assoc before (c ∷ []) ls)) ∙ pass_last r (before ++ (c ∷ [])) ls l h.1

-- 4. The next line does not pass the checks.
pub bad_check : (r : LineTests) (bytes : List ℕ) (ls : List Line) (rest after : List ℕ) (m : State) → At r bytes ls rest m
    → (l : Line) → NextLine rest l after → r.passes ls l ≡ false → IsFirstFault r bytes (Line_fault (length ls + 1))
bad_check r bytes ls rest after m at l line fails =
    first_bad r bytes ls rest m at no_good (λ q z. not_empty_text (line_text l) after rest line.1 q)
  where
    no_good : IsGood r bytes (length ls + 1) → ⊥
    no_good (xs, later, len, text, follows, pass) =
        let q : xs ≡ ls ++ (l ∷ []) = next_line r bytes ls rest after m at l line xs later len text (follows_fit xs follows) in
        let P : List Line → Type 0 = AllPass r [] in
        false_true (sym fails ∙ pass_last r [] ls l (subst P q pass))

pass-push : (r : LineTests) (before ls : List Line) (l : Line) → AllPass r before ls → r.passes (before ++ ls) l ≡ true → AllPass r before (ls ++ (l ∷ []))
pass-push r before [] l h e = (ap (λ x. r.passes x l) (sym (append-nil before)) ∙ e, tt)
pass-push r before (c ∷ ls) l h e =
    (h.0, pass-push r (before ++ (c ∷ [])) ls l h.1 (ap (λ x. r.passes x l) (append_assoc before (c ∷ []) ls) ∙ e))

within-push : (r : LineTests) (before ls : List Line) (l : Line) → NoLimit r before ls → r.limit (before ++ ls) l ≡ false → NoLimit r before (ls ++ (l ∷ []))
within-push r before [] l h e = (ap (λ x. r.limit x l) (sym (append-nil before)) ∙ e, tt)
within-push r before (c ∷ ls) l h e =
    (h.0, within-push r (before ++ (c ∷ [])) ls l h.1 (ap (λ x. r.limit x l) (append_assoc before (c ∷ []) ls) ∙ e))

pushed_text : (bytes : List ℕ) (ls : List Line) (rest after : List ℕ) → bytes ≡ file_text ls ++ rest
    → (l : Line) → rest ≡ line_text l ++ (10 ∷ after) → bytes ≡ file_text (ls ++ (l ∷ [])) ++ after
pushed_text bytes ls rest after text l split =
    text ∙ (ap (λ x. file_text ls ++ x) split
    ∙ (ap (λ x. file_text ls ++ x) (sym (append_assoc (line_text l) (10 ∷ []) after))
    ∙ (sym (append_assoc (file_text ls) (line_text l ++ (10 ∷ [])) after) ∙ ap (λ x. x ++ after) (sym (file_text-append ls (l ∷ []))))))

-- 5. The next line is good and passes a limit.
pub bad_limit : (r : LineTests) (bytes : List ℕ) (ls : List Line) (rest after : List ℕ) (m n : State) → At r bytes ls rest m
    → (l : Line) → NextLine rest l after → next m l ≡ Some n → r.passes ls l ≡ true → r.limit ls l ≡ true
    → IsFirstFault r bytes (Limit_fault (length ls + 1))
bad_limit r bytes ls rest after m n at l (fits, split) f pass reached =
    let z : length ls + 1 - 1 ≡ length ls = omega arith in
    let P : ℕ → Type 0 = IsFaultless r bytes in
    let fit : AllInRange (ls ++ (l ∷ [])) = all-append IsInRange ls (l ∷ []) at.fit (fits, tt) in
    let text : bytes ≡ file_text (ls ++ (l ∷ [])) ++ after = pushed_text bytes ls rest after at.text l split in (
      omega arith,
      subst P (sym z) (at_faultless r bytes ls rest m at),
      (
        ls ++ (l ∷ []),
        after,
        omega (arith, length-append ls (l ∷ [])),
        text,
        at_follows (ls ++ (l ∷ [])) n (run-append begin m n ls (l ∷ []) at.state (ap (λ o. option_and_then (λ q. run q []) o) f)) fit,
        pass-push r [] ls l at.pass pass,
      ),
      (ls, l, after, refl, text, fit, reached),
    )

-- 6. The next line is read.
pub go_on : (r : LineTests) (bytes : List ℕ) (ls : List Line) (rest after : List ℕ) (m n : State) → At r bytes ls rest m
    → (l : Line) → NextLine rest l after → next m l ≡ Some n → r.passes ls l ≡ true → r.limit ls l ≡ false → At r bytes (ls ++ (l ∷ [])) after n
go_on r bytes ls rest after m n at l (fits, split) f pass within = record {
  text = pushed_text bytes ls rest after at.text l split;
  state = run-append begin m n ls (l ∷ []) at.state (ap (λ o. option_and_then (λ q. run q []) o) f);
  fit = all-append IsInRange ls (l ∷ []) at.fit (fits, tt);
  pass = pass-push r [] ls l at.pass pass;
  within = within-push r [] ls l at.within within;
}

-- 7. The file is whole.
pub whole : (r : LineTests) (bytes : List ℕ) (ls : List Line) (f : Front) (bs : List NumberedBlock) → At r bytes ls [] (ended f bs)
    → IsTextOf r (proof_of f bs) bytes
whole r bytes ls f bs at = let w : HasParts (proof_of f bs) × (proof_lines (proof_of f bs) ≡ ls) = run_whole ls f bs at.state in
    let F : List Line → Type 0 = AllInRange in let P : List Line → Type 0 = AllPass r [] in let N : List Line → Type 0 = NoLimit r [] in record {
      parts = w.0;
      fit = subst F (sym w.1) at.fit;
      text = at.text ∙ (append-nil (file_text ls) ∙ ap file_text (sym w.1));
      pass = subst P (sym w.1) at.pass;
      within = subst N (sym w.1) at.within;
    }
