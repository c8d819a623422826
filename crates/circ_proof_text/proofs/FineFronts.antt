-- The lines of certificates, places and tables are fine exactly where these fit the theory.
use Rattle.std.specs.Prelude.{◌≡◌, ℕ, ◌+◌, ◌<◌, ◌≤◌, ◌||◌, Bool, true, false, List, [], ◌∷◌, ◌++◌, length, map, refl, Option, Some, None, is_some}
use Rattle.std.specs.List.{AllByRecursion}
use Rattle.std.proofs.Common.{sym, ◌∙◌, ap, subst, arith, append_assoc, append-nil, length-append}
use Rattle.std.proofs.lemmas.Bool.{and_parts, and_from, ltb-true, ltb-false, lt-ltb, le-ltb}
use Rattle.circ_term.specs.Tree.{Tree, Var, App, list_of}
use Rattle.circ_term.specs.Limits.{Limit, first_limit, IsWithinLimits}
use Rattle.circ_theory.specs.Signature.{IsWellSorted}
use Rattle.circ_theory.specs.Theory.{Theory}
use Rattle.circ_theory.specs.WellFormed.{IsWellFormed}
use Rattle.circ_theory.proofs.Lists.{all_push}
use Rattle.circ_special.specs.declared.place.Place.{Place}
use Rattle.circ_special.specs.Special.{IsPlace, IsIncreasing}
use Rattle.circ_proof.specs.Plain.{LinkOf}
use Rattle.circ_proof.specs.Table.{number_in, term_limit}
use Rattle.circ_proof.specs.Certified.{due}
use Rattle.circ_proof.specs.Proof.{IsNumber, AreLinksFor, IsPlainLink, IsEntry, AreEntries}
use Rattle.circ_line.specs.Line.{TableLine, Line, table_line}
use Rattle.circ_line.specs.Text.{IsInRange, AreNumbers}
use Rattle.circ_grammar.specs.Grammar.{lines_of, table_lines, place_lines, certificate_lines}
use Rattle.circ_proof_text.specs.TableText.{term_for, entry_of, entries_of}
use Rattle.circ_proof_text.specs.Checks.{with_term, is_place, is_next, is_too_large, is_full}
use Rattle.circ_proof_text.specs.ProofText.{place_numbers}
use Rattle.circ_proof_text.specs.Parts.{place_with}
use Rattle.circ_proof_text.proofs.TableText.{Have, number_there, HasEntry, is_entry, entry_args, entry_term, term_entry}
use Rattle.circ_proof.proofs.FewPlaces.{slice_bound}
use Rattle.circ_proof_text.proofs.Places.{place_tells, place_numbers_in_range, increasing_push, increasing_next}
use Rattle.circ_proof_text.proofs.Fine.{AllFine, is_number, lefts_to, lefts_from}
use Rattle.circ_proof_text.proofs.FineBlocks.{seen, OfFirst}

-- certificates

abbrev pub ArePlainCertificates : List (List (LinkOf ℕ)) → Type 0
ArePlainCertificates cs = AllByRecursion (λ ls. AllByRecursion IsPlainLink ls) cs

pub certificates_to : (th : Theory) (v : ℕ) (ts : List Tree) (gs : List Place) (n : ℕ) (cs : List (List (LinkOf ℕ))) (k : List Line) → n ≤ length (due th gs)
    → AllFine th (seen v ts gs n 0) (lines_of certificate_lines cs k)
    → AllByRecursion (AreLinksFor (length ts)) cs × OfFirst v (ArePlainCertificates cs) × (n + length cs ≤ length (due th gs))
    × AllFine th (seen v ts gs (n + length cs) 0) k
certificates_to th v ts gs n [] k l h =
    let e : n ≡ n + 0 = omega arith in let P : ℕ → Type 0 = λ x. AllFine th (seen v ts gs x 0) k in (tt, λ e. tt, omega arith, subst P e h)
certificates_to th v ts gs n (c ∷ cs) k l h =
    let low : n < length (due th gs) = ltb-true n (length (due th gs)) h.1 in
    let r = lefts_to th (seen v ts gs (n + 1) 0) [] c (lines_of certificate_lines cs k) h.3 in
    let q = certificates_to th v ts gs (n + 1) cs k (omega arith) r.2 in
    let few : n + 1 + length cs ≤ length (due th gs) = q.2 in
    let e : n + 1 + length cs ≡ n + length (c ∷ cs) = omega arith in
    let P : ℕ → Type 0 = λ x. AllFine th (seen v ts gs x 0) k in
    ((r.0, q.0), λ e. (r.1 e, q.1 e), omega arith, subst P e q.3)

pub certificates_from : (th : Theory) (v : ℕ) (ts : List Tree) (gs : List Place) (n : ℕ) (cs : List (List (LinkOf ℕ))) (k : List Line)
    → length ts ≤ term_limit → AllByRecursion (AreLinksFor (length ts)) cs → OfFirst v (ArePlainCertificates cs) → n + length cs ≤ length (due th gs)
    → AllFine th (seen v ts gs (n + length cs) 0) k → AllFine th (seen v ts gs n 0) (lines_of certificate_lines cs k)
certificates_from th v ts gs n [] k few h p l f =
    let e : n + 0 ≡ n = omega arith in let P : ℕ → Type 0 = λ x. AllFine th (seen v ts gs x 0) k in subst P e f
certificates_from th v ts gs n (c ∷ cs) k few h p l f =
    let e : n + length (c ∷ cs) ≡ n + 1 + length cs = omega arith in
    let P : ℕ → Type 0 = λ x. AllFine th (seen v ts gs x 0) k in
    let rest : AllFine th (seen v ts gs (n + 1) 0) (lines_of certificate_lines cs k)
    = certificates_from th v ts gs (n + 1) cs k few h.1 (λ e. (p e).1) (omega arith) (subst P e f) in (
      tt,
      lt-ltb n (length (due th gs)) (omega arith),
      refl,
      lefts_from th (seen v ts gs (n + 1) 0) [] c (lines_of certificate_lines cs k) few h.0 (λ e. (p e).0) rest,
    )

-- places

-- the places that these numbers name are places of the theory, after those before them
pub record ArePlacesAfter (th : Theory) (before : List Place) (ps : List (ℕ × ℕ)) : Type 0 where
  pub increasing : IsIncreasing (before ++ map place_with ps)
  pub places : AllByRecursion (IsPlace th) (map place_with ps)

pub places_to : (th : Theory) (v : ℕ) (ts : List Tree) (gs : List Place) (ps : List (ℕ × ℕ)) (k : List Line) → IsIncreasing gs
    → AllFine th (seen v ts gs 0 0) (lines_of place_lines ps k) → ArePlacesAfter th gs ps × AllFine th (seen v ts (gs ++ map place_with ps) 0 0) k
places_to th v ts gs [] k i h =
    let P : List Place → Type 0 = λ x. AllFine th (seen v ts x 0 0) k in
    let Q : List Place → Type 0 = IsIncreasing in
    (record { increasing = subst Q (sym (append-nil gs)) i; places = tt }, subst P (sym (append-nil gs)) h)
places_to th v ts gs (p ∷ ps) k i h =
    let a = and_parts (is_next gs (place_with p)) (is_place th (place_with p)) h.1 in
    let r = places_to th v ts (gs ++ place_with p ∷ []) ps k (increasing_push gs (place_with p) i a.0) h.3 in
    let P : List Place → Type 0 = λ x. AllFine th (seen v ts x 0 0) k in
    let Q : List Place → Type 0 = IsIncreasing in
    let e : (gs ++ place_with p ∷ []) ++ map place_with ps ≡ gs ++ map place_with (p ∷ ps) = append_assoc gs (place_with p ∷ []) (map place_with ps) in
    (record { increasing = subst Q e r.0.increasing; places = ((place_tells th (place_with p)).0 a.1, r.0.places) }, subst P e r.1)

pub places_from : (th : Theory) (v : ℕ) (ts : List Tree) (gs hs : List Place) (k : List Line) → IsWellFormed th → IsIncreasing (gs ++ hs)
    → AllByRecursion (IsPlace th) hs → AllFine th (seen v ts (gs ++ hs) 0 0) k → AllFine th (seen v ts gs 0 0) (lines_of place_lines (map place_numbers hs) k)
places_from th v ts gs [] k w i h f = let P : List Place → Type 0 = λ x. AllFine th (seen v ts x 0 0) k in subst P (append-nil gs) f
places_from th v ts gs (g ∷ hs) k w i h f =
    let P : List Place → Type 0 = λ x. AllFine th (seen v ts x 0 0) k in
    let Q : List Place → Type 0 = IsIncreasing in
    let e : gs ++ g ∷ hs ≡ (gs ++ g ∷ []) ++ hs = sym (append_assoc gs (g ∷ []) hs) in
    let r : IsNumber g.op × IsNumber g.arg = place_numbers_in_range th g w h.0 in (
      (r.0, (r.1, tt)),
      and_from (is_next gs g) (is_place th g) (increasing_next gs g hs i) ((place_tells th g).1 h.0),
      refl,
      places_from th v ts (gs ++ g ∷ []) hs k w (subst Q e i) h.1 (subst P e f),
    )

-- the table

-- The terms of lines that are fine, after the terms before them.
pub record HaveTerms (th : Theory) (before : List Tree) (ls : List TableLine) (us : List Tree) : Type 0 where
  pub lines : entries_of before us ≡ ls
  pub entries : AreEntries before us
  pub sorted : AllByRecursion (IsWellSorted th.signature) us
  pub within : AllByRecursion IsWithinLimits us
  pub few : length before + length us ≤ term_limit

within_to : (o : Option Limit) → is_some o ≡ false → o ≡ None
within_to None e = refl
within_to (Some l) e = absurd (cc)

or_false : (x y : Bool) → (x || y) ≡ false → (x ≡ false) × (y ≡ false)
or_false true y e = absurd (cc)
or_false false y e = (refl, e)

-- what a line of the table that is fine is
pub record IsFineEntry (th : Theory) (ts : List Tree) (l : TableLine) (t : Tree) : Type 0 where
  pub line : HasEntry th.signature ts l t
  pub entry : IsEntry ts t
  pub within : IsWithinLimits t
  pub few : length ts < term_limit

entry_to : (th : Theory) (v : ℕ) (ts : List Tree) (l : TableLine) (k : List Line) → AllByRecursion (IsWellSorted th.signature) ts
    → AllFine th (seen v ts [] 0 0) (table_line l ∷ k) → (t : Tree) × IsFineEntry th ts l t × AllFine th (seen v (ts ++ t ∷ []) [] 0 0) k
entry_to th v ts l k g h = go (term_for th.signature ts l) refl h.1 h.2 h.3
  where
    go : (o : Option Tree) → term_for th.signature ts l ≡ o → is_some o ≡ true → (is_full term_limit (length ts) || is_too_large o) ≡ false
        → AllFine th (with_term (seen v ts [] 0 0) o) k → (t : Tree) × IsFineEntry th ts l t × AllFine th (seen v (ts ++ t ∷ []) [] 0 0) k
    go None f p q r = absurd (cc)
    go (Some t) f p q r =
        let both = or_false (is_full term_limit (length ts)) (is_some (first_limit t)) q in
        let low : length ts + 1 ≤ term_limit = ltb-false term_limit (length ts + 1) both.0 in
        let line : HasEntry th.signature ts l t = term_entry th.signature ts l t g f in
        (t, record { line = line; entry = is_entry th.signature ts l t line h.0; within = within_to (first_limit t) both.1; few = omega arith }, r)

numbers_below : (ts us : List Tree) → length ts ≤ term_limit → Have ts us → AreNumbers (map (number_in ts) us)
numbers_below ts [] few h = tt
numbers_below ts (u ∷ us) few h = (is_number (length ts) (number_in ts u) few (number_there ts u h.0), numbers_below ts us few h.1)

entry_in_range : (th : Theory) (ts : List Tree) (u : Tree) → IsWellFormed th → IsEntry ts u → IsWellSorted th.signature u → length ts ≤ term_limit
    → IsInRange (table_line (entry_of ts u))
entry_in_range th ts (Var n s) w h g few = let l : length th.signature.sorts ≤ 4096 = w.few_sorts in (h, (omega (arith, l, g), tt))
entry_in_range th ts (App f s us) w h g few =
    let l : length th.signature.ops ≤ 65536 = w.few_ops in
    let m : f < length th.signature.ops = slice_bound th.signature.ops f g.0 g.1 in
    (omega (arith, l, m), numbers_below ts (list_of us) few h)

entry_from : (th : Theory) (v : ℕ) (ts : List Tree) (u : Tree) (k : List Line) → IsWellFormed th → IsEntry ts u → IsWellSorted th.signature u → IsWithinLimits u
    → length ts < term_limit → AllFine th (seen v (ts ++ u ∷ []) [] 0 0) k → AllFine th (seen v ts [] 0 0) (table_line (entry_of ts u) ∷ k)
entry_from th v ts u k w b g i l f =
    let e : term_for th.signature ts (entry_of ts u) ≡ Some u = entry_term th.signature ts u (entry_args ts u b) g in
    let P : Option Tree → Type 0 = λ o. AllFine th (with_term (seen v ts [] 0 0) o) k in (
      entry_in_range th ts u w b g (omega arith),
      ap is_some e,
      ap (λ o. is_full term_limit (length ts) || is_too_large o) e
          ∙ ap (λ b. b || is_some (first_limit u)) (le-ltb term_limit (length ts + 1) (omega arith)) ∙ ap (λ o. is_some o) i,
      subst P (sym e) f,
    )

pub table_to : (th : Theory) (v : ℕ) (ts : List Tree) (ls : List TableLine) (k : List Line) → AllByRecursion (IsWellSorted th.signature) ts
    → length ts ≤ term_limit → AllFine th (seen v ts [] 0 0) (lines_of table_lines ls k)
    → (us : List Tree) × HaveTerms th ts ls us × AllFine th (seen v (ts ++ us) [] 0 0) k
table_to th v ts [] k g l h =
    let P : List Tree → Type 0 = λ x. AllFine th (seen v x [] 0 0) k in
    ([], record { lines = refl; entries = tt; sorted = tt; within = tt; few = omega arith }, subst P (sym (append-nil ts)) h)
table_to th v ts (l ∷ ls) k g few h =
    let r : (t : Tree) × IsFineEntry th ts l t × AllFine th (seen v (ts ++ t ∷ []) [] 0 0) (lines_of table_lines ls k)
    = entry_to th v ts l (lines_of table_lines ls k) g h in
    let t : Tree = r.0 in
    let low : length ts < term_limit = r.1.few in
    let long : length (ts ++ t ∷ []) ≡ length ts + 1 = length-append ts (t ∷ []) in
    let q : (us : List Tree) × HaveTerms th (ts ++ t ∷ []) ls us × AllFine th (seen v ((ts ++ t ∷ []) ++ us) [] 0 0) k
    = table_to th v (ts ++ t ∷ []) ls k (all_push (IsWellSorted th.signature) ts t g r.1.line.sorted) (omega (arith, low, long)) r.2 in
    let P : List Tree → Type 0 = λ x. AllFine th (seen v x [] 0 0) k in
    let short : length (ts ++ t ∷ []) + length q.0 ≤ term_limit = q.1.few in (
      t ∷ q.0,
      record {
        lines = ap (λ x. x ∷ entries_of (ts ++ t ∷ []) q.0) r.1.line.entry ∙ ap (λ x. l ∷ x) q.1.lines;
        entries = (r.1.entry, q.1.entries);
        sorted = (r.1.line.sorted, q.1.sorted);
        within = (r.1.within, q.1.within);
        few = omega (arith, short, long);
      },
      subst P (append_assoc ts (t ∷ []) q.0) q.2,
    )

pub table_from : (th : Theory) (v : ℕ) (ts us : List Tree) (k : List Line) → IsWellFormed th → AreEntries ts us → AllByRecursion (IsWellSorted th.signature) us
    → AllByRecursion IsWithinLimits us → length ts + length us ≤ term_limit → AllFine th (seen v (ts ++ us) [] 0 0) k
    → AllFine th (seen v ts [] 0 0) (lines_of table_lines (entries_of ts us) k)
table_from th v ts [] k w b g i l f = let P : List Tree → Type 0 = λ x. AllFine th (seen v x [] 0 0) k in subst P (append-nil ts) f
table_from th v ts (u ∷ us) k w b g i l f =
    let P : List Tree → Type 0 = λ x. AllFine th (seen v x [] 0 0) k in
    let long : length (ts ++ u ∷ []) ≡ length ts + 1 = length-append ts (u ∷ []) in
    entry_from th v ts u (lines_of table_lines (entries_of (ts ++ u ∷ []) us) k) w b.0 g.0 i.0 (omega arith)
    (table_from th v (ts ++ u ∷ []) us k w b.1 g.1 i.1 (omega (arith, l, long)) (subst P (sym (append_assoc ts (u ∷ []) us)) f))
