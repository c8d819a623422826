-- What a fed reader keeps after each piece and each line. It depends on the bytes alone, whatever the pieces were.
use Rattle.std.specs.Prelude.{◌≡◌, ℕ, ◌+◌, ◌≤◌, ◌⊎◌, List, [], ◌∷◌, ◌++◌, length, refl, Option, Some, None, true, false}
use Rattle.std.specs.Option.{option_map}
use Rattle.std.proofs.Common.{sym, ◌∙◌, ap, subst, arith, append_assoc, append-nil, length-append, inl, inr}
use Rattle.std.proofs.lemmas.Option.{same_Some}
use Rattle.circ_line.specs.Line.{Line}
use Rattle.circ_line.specs.Text.{line_text, IsInRange}
use Rattle.circ_line.specs.Plain.{NoFeed, ReadsLine}
use Rattle.circ_grammar.specs.Grammar.{NumberedBlock}
use Rattle.circ_grammar.specs.FirstBad.{LineTests, file_text, IsTextOf, Line_fault, Limit_fault, IsFirstFault}
use Rattle.circ_grammar.specs.Machine.{Front, State, begin, ended, next, run, proof_of}
use Rattle.circ_grammar.specs.Reading.{At}
use Rattle.circ_grammar.specs.Now.{Now, Begin, Ended, now, next_now}
use Rattle.circ_grammar.specs.Feeding.{Kept, IsFed}
use Rattle.circ_grammar.proofs.Spelled.{option_map_some}
use Rattle.circ_grammar.proofs.FirstBad.{no_cut, same_front, go_on, whole, bad_cut, bad_form, bad_next, bad_check, bad_limit}
use Rattle.circ_grammar.proofs.Now.{next_is}

-- Nothing was fed.
pub fed_nothing : (r : LineTests) → IsFed r [] [] begin (record { lines = 0; rest = []; under_way = Begin })
fed_nothing r = record {
  at = record { text = refl; state = refl; fit = tt; pass = tt; within = tt };
  no_feed = tt;
  count = refl;
  part = refl;
}

-- more bytes after what is kept
at_later : (r : LineTests) (bytes later : List ℕ) (ls : List Line) (x : List ℕ) (m : State) → At r bytes ls x m → At r (bytes ++ later) ls (x ++ later) m
at_later r bytes later ls x m a = record {
  text = ap (λ y. y ++ later) a.text ∙ append_assoc (file_text ls) x later;
  state = a.state;
  fit = a.fit;
  pass = a.pass;
  within = a.within;
}

pub no_feed_append : (a b : List ℕ) → NoFeed a → NoFeed b → NoFeed (a ++ b)
no_feed_append [] b f g = g
no_feed_append (c ∷ a) b f g = (f.0, no_feed_append a b f.1 g)

-- Bytes without a line feed are kept.
pub fed_rest : (r : LineTests) (bytes piece : List ℕ) (ls : List Line) (m : State) (k : Kept) → IsFed r bytes ls m k → NoFeed piece
    → IsFed r (bytes ++ piece) ls m (record { lines = k.lines; rest = k.rest ++ piece; under_way = k.under_way })
fed_rest r bytes piece ls m k f n = record {
  at = at_later r bytes piece ls k.rest m f.at;
  no_feed = no_feed_append k.rest piece f.no_feed n;
  count = f.count;
  part = f.part;
}

after_line : (r : LineTests) (bytes more later : List ℕ) (ls : List Line) (x : List ℕ) (m : State) → At r bytes ls x m
    → At r ((bytes ++ (more ++ (10 ∷ []))) ++ later) ls (x ++ ((more ++ (10 ∷ [])) ++ later)) m
after_line r bytes more later ls x m a =
    let P : List ℕ → Type 0 = λ y. At r y ls (x ++ ((more ++ (10 ∷ [])) ++ later)) m in
    subst P (sym (append_assoc bytes (more ++ (10 ∷ [])) later)) (at_later r bytes ((more ++ (10 ∷ [])) ++ later) ls x m a)

cut_at : (x more later : List ℕ) → x ++ ((more ++ (10 ∷ [])) ++ later) ≡ (x ++ more) ++ (10 ∷ later)
cut_at x more later = ap (λ y. x ++ y) (append_assoc more (10 ∷ []) later) ∙ sym (append_assoc x more (10 ∷ later))

line_at : (x more later : List ℕ) (l : Line) → x ++ more ≡ line_text l → x ++ ((more ++ (10 ∷ [])) ++ later) ≡ line_text l ++ (10 ∷ later)
line_at x more later l e = cut_at x more later ∙ ap (λ y. y ++ (10 ∷ later)) e

-- A line feed came, and what is kept and these bytes are the text of a good line.
pub fed_line : (r : LineTests) (bytes more : List ℕ) (ls : List Line) (m : State) (k : Kept) (l : Line) (n : Now) → IsFed r bytes ls m k
    → IsInRange l → k.rest ++ more ≡ line_text l → next_now k.under_way l ≡ Some n → r.passes ls l ≡ true → r.limit ls l ≡ false
    → (q : State) × (next m l ≡ Some q)
    × IsFed r (bytes ++ (more ++ (10 ∷ []))) (ls ++ (l ∷ [])) q (record { lines = k.lines + 1; rest = []; under_way = n })
fed_line r bytes more ls m k l n f fits e g pass within =
    let o : option_map now (next m l) ≡ Some n = next_is m l ∙ (ap (λ x. next_now x l) f.part ∙ g) in
    let q : (q : State) × (next m l ≡ Some q) × (now q ≡ n) = option_map_some now (next m l) n o in
    let a : At r (bytes ++ (more ++ (10 ∷ []))) ls (k.rest ++ (more ++ (10 ∷ []))) m = at_later r bytes (more ++ (10 ∷ [])) ls k.rest m f.at in
    let t : k.rest ++ (more ++ (10 ∷ [])) ≡ line_text l ++ (10 ∷ []) = sym (append_assoc k.rest more (10 ∷ [])) ∙ ap (λ y. y ++ (10 ∷ [])) e in (
      q.0,
      q.1,
      record {
        at = go_on r (bytes ++ (more ++ (10 ∷ []))) ls (k.rest ++ (more ++ (10 ∷ []))) [] m q.0 a l (fits, t) q.1 pass within;
        no_feed = tt;
        count = omega (arith, f.count, length-append ls (l ∷ []));
        part = q.2;
      },
    )

-- The faults of a line that is whole, whatever comes later.

pub fed_form : (r : LineTests) (bytes more later : List ℕ) (ls : List Line) (m : State) (k : Kept) → IsFed r bytes ls m k → NoFeed more
    → ReadsLine (k.rest ++ more) None → IsFirstFault r ((bytes ++ (more ++ (10 ∷ []))) ++ later) (Line_fault (k.lines + 1))
fed_form r bytes more later ls m k f n none =
    let P : ℕ → Type 0 = λ i. IsFirstFault r ((bytes ++ (more ++ (10 ∷ []))) ++ later) (Line_fault (i + 1)) in
    subst P (sym f.count) (bad_form r ((bytes ++ (more ++ (10 ∷ []))) ++ later) ls (k.rest ++ ((more ++ (10 ∷ [])) ++ later)) (k.rest ++ more) later m
    (after_line r bytes more later ls k.rest m f.at) (no_feed_append k.rest more f.no_feed n) (cut_at k.rest more later) none)

pub fed_next : (r : LineTests) (bytes more later : List ℕ) (ls : List Line) (m : State) (k : Kept) (l : Line) → IsFed r bytes ls m k
    → IsInRange l → k.rest ++ more ≡ line_text l → next_now k.under_way l ≡ None
    → IsFirstFault r ((bytes ++ (more ++ (10 ∷ []))) ++ later) (Line_fault (k.lines + 1))
fed_next r bytes more later ls m k l f fits e g =
    let P : ℕ → Type 0 = λ i. IsFirstFault r ((bytes ++ (more ++ (10 ∷ []))) ++ later) (Line_fault (i + 1)) in
    subst P (sym f.count) (bad_next r ((bytes ++ (more ++ (10 ∷ []))) ++ later) ls (k.rest ++ ((more ++ (10 ∷ [])) ++ later)) later m
    (after_line r bytes more later ls k.rest m f.at) l (fits, line_at k.rest more later l e)
    (go (next m l) (next_is m l ∙ (ap (λ x. next_now x l) f.part ∙ g))))
  where
    go : (o : Option State) → option_map now o ≡ None → o ≡ None
    go None e = refl
    go (Some x) e = absurd (cc)

pub fed_check : (r : LineTests) (bytes more later : List ℕ) (ls : List Line) (m : State) (k : Kept) (l : Line) → IsFed r bytes ls m k
    → IsInRange l → k.rest ++ more ≡ line_text l → r.passes ls l ≡ false
    → IsFirstFault r ((bytes ++ (more ++ (10 ∷ []))) ++ later) (Line_fault (k.lines + 1))
fed_check r bytes more later ls m k l f fits e g =
    let P : ℕ → Type 0 = λ i. IsFirstFault r ((bytes ++ (more ++ (10 ∷ []))) ++ later) (Line_fault (i + 1)) in
    subst P (sym f.count) (bad_check r ((bytes ++ (more ++ (10 ∷ []))) ++ later) ls (k.rest ++ ((more ++ (10 ∷ [])) ++ later)) later m
    (after_line r bytes more later ls k.rest m f.at) l (fits, line_at k.rest more later l e) g)

pub fed_limit : (r : LineTests) (bytes more later : List ℕ) (ls : List Line) (m : State) (k : Kept) (l : Line) (n : Now) → IsFed r bytes ls m k
    → IsInRange l → k.rest ++ more ≡ line_text l → next_now k.under_way l ≡ Some n → r.passes ls l ≡ true → r.limit ls l ≡ true
    → IsFirstFault r ((bytes ++ (more ++ (10 ∷ []))) ++ later) (Limit_fault (k.lines + 1))
fed_limit r bytes more later ls m k l n f fits e g pass reached =
    let P : ℕ → Type 0 = λ i. IsFirstFault r ((bytes ++ (more ++ (10 ∷ []))) ++ later) (Limit_fault (i + 1)) in
    let o : option_map now (next m l) ≡ Some n = next_is m l ∙ (ap (λ x. next_now x l) f.part ∙ g) in
    let q : (q : State) × (next m l ≡ Some q) × (now q ≡ n) = option_map_some now (next m l) n o in
    subst P (sym f.count) (bad_limit r ((bytes ++ (more ++ (10 ∷ []))) ++ later) ls (k.rest ++ ((more ++ (10 ∷ [])) ++ later)) later m q.0
    (after_line r bytes more later ls k.rest m f.at) l (fits, line_at k.rest more later l e) q.1 pass reached)

-- The bytes are at their end, and whole.
pub fed_whole : (r : LineTests) (bytes : List ℕ) (ls : List Line) (m : State) (k : Kept) → IsFed r bytes ls m k → k.rest ≡ [] → k.under_way ≡ Ended
    → (f : Front) × (bs : List NumberedBlock) × (m ≡ ended f bs) × IsTextOf r (proof_of f bs) bytes
fed_whole r bytes ls m k f e u = go m f.at (f.part ∙ u)
  where
    go : (m : State) → At r bytes ls k.rest m → now m ≡ Ended → (f : Front) × (bs : List NumberedBlock) × (m ≡ ended f bs) × IsTextOf r (proof_of f bs) bytes
    go (ended f bs) a s = let P : List ℕ → Type 0 = λ x. At r bytes ls x (ended f bs) in (f, bs, refl, whole r bytes ls f bs (subst P e a))
    go _ a s = absurd (cc)

-- The bytes are at their end, and not whole.
pub fed_end : (r : LineTests) (bytes : List ℕ) (ls : List Line) (m : State) (k : Kept) → IsFed r bytes ls m k
    → (k.rest ≡ [] → k.under_way ≡ Ended → ⊥) → IsFirstFault r bytes (Line_fault (k.lines + 1))
fed_end r bytes ls m k f open_yet =
    let P : ℕ → Type 0 = λ i. IsFirstFault r bytes (Line_fault (i + 1)) in
    subst P (sym f.count) (bad_cut r bytes ls k.rest m f.at f.no_feed (λ e z. open_yet e (sym f.part ∙ ap now z.2)))

-- the whole lines of the bytes and what comes after them are determined
one_cut : (r : LineTests) (bytes : List ℕ) (us bs : List Line) (x y : List ℕ) (m n : State) → At r bytes us x m → At r bytes bs y n → NoFeed x
    → length us ≤ length bs → (bs ≡ us) × (y ≡ x)
one_cut r bytes us bs x y m n a b f l =
    let s : (k : List Line) × (bs ≡ us ++ k) × (x ≡ file_text k ++ y) = same_front us bs x y a.fit b.fit l (sym a.text ∙ b.text) in go s.0 s.1 s.2
  where
    go : (k : List Line) → bs ≡ us ++ k → x ≡ file_text k ++ y → (bs ≡ us) × (y ≡ x)
    go [] e g = (e ∙ append-nil us, sym g)
    go (c ∷ k) e g = absurd (no_cut x (line_text c) (file_text k ++ y) f (g ∙ append_assoc (line_text c) (10 ∷ file_text k) y))

abbrev kept_of : ℕ → List ℕ → Now → Kept
kept_of n x u = record { lines = n; rest = x; under_way = u }

-- What is kept depends on the bytes alone.
pub one_fed : (r : LineTests) (bytes : List ℕ) (ls bs : List Line) (m n : State) (k j : Kept) → IsFed r bytes ls m k → IsFed r bytes bs n j
    → (ls ≡ bs) × (m ≡ n) × (k ≡ j)
one_fed r bytes ls bs m n k j f g = go (le_or_le (length ls) (length bs))
  where
    le_or_le : (a b : ℕ) → (a ≤ b) ⊎ (b ≤ a)
    le_or_le a b = grind arith

    kept : (a b : Kept) → a.lines ≡ b.lines → a.rest ≡ b.rest → a.under_way ≡ b.under_way → a ≡ b
    kept a b x y z = ap (λ t. kept_of t a.rest a.under_way) x
        ∙ (ap (λ t. kept_of b.lines t a.under_way) y ∙ ap (λ t. kept_of b.lines b.rest t) z)

    same : ls ≡ bs → k.rest ≡ j.rest → (ls ≡ bs) × (m ≡ n) × (k ≡ j)
    same e s =
        let q : m ≡ n = same_Some m n (sym f.at.state ∙ (ap (run begin) e ∙ g.at.state)) in
        (e, q, kept k j (f.count ∙ (ap length e ∙ sym g.count)) s (sym f.part ∙ (ap now q ∙ g.part)))

    go : (length ls ≤ length bs) ⊎ (length bs ≤ length ls) → (ls ≡ bs) × (m ≡ n) × (k ≡ j)
    go (inl l) = let c : (bs ≡ ls) × (j.rest ≡ k.rest) = one_cut r bytes ls bs k.rest j.rest m n f.at g.at f.no_feed l in same (sym c.0) (sym c.1)
    go (inr l) = let c : (ls ≡ bs) × (k.rest ≡ j.rest) = one_cut r bytes bs ls j.rest k.rest n m g.at f.at g.no_feed l in same c.0 c.1
