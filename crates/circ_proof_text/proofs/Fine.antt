-- Lines that are in range and pass all checks and no limit: those of a link, a chain, a why are so exactly where it fits the table.
use Rattle.std.specs.Prelude.{◌≡◌, ℕ, ◌+◌, ◌-◌, ◌<◌, ◌≤◌, nat_lt, Bool, true, false, if◌then◌else◌, List, [], ◌∷◌, length, suc, refl}
use Rattle.std.specs.List.{AllByRecursion, list_all}
use Rattle.std.proofs.Common.{sym, ◌∙◌, ap, subst, arith}
use Rattle.std.proofs.lemmas.Bool.{and_parts, and_from, true≢false, ltb-true, ltb-false, lt-ltb, le-ltb}
use Rattle.circ_theory.specs.Theory.{Theory}
use Rattle.circ_proof.specs.Plain.{LinkOf, LinksOf, ChainsOf, Equation_link, Hypothesis_link, Assumption_link, Content_link, no_link, more_links}
use Rattle.circ_proof.specs.Plain.{no_chain, more_chains, ChainOf, WhyOf, WhysOf, Same_why, Split_why, no_why, more_whys}
use Rattle.circ_proof.specs.Table.{term_limit}
use Rattle.circ_proof.specs.Proof.{IsNumber, IsLinkFor, IsRowFor, AreChainsFor, AreLinksFor, IsChainFor, IsWhyFor, AreWhysFor}
use Rattle.circ_proof.specs.Proof.{IsPlainLink, IsPlainChain, IsPlainWhy, ArePlainWhys}
use Rattle.circ_line.specs.Line.{Line, same_line, split_line}
use Rattle.circ_line.specs.Text.{IsInRange, AreNumbers, IsLinkInRange}
use Rattle.circ_proof.specs.Counting.{why_count}
use Rattle.circ_grammar.specs.Grammar.{bare, conds_lines, left_row, right_row, link_conds, lines_of, left_lines, right_lines, chain_lines, why_lines}
use Rattle.circ_grammar.specs.Grammar.{whys_lines}
use Rattle.circ_grammar.proofs.Complete.{no_zero}
use Rattle.circ_proof_text.specs.Checks.{Seen, with_ifs, after_why, after_split, after, is_in_table, path_of, passes_at, path_limit, limit_at}
use Rattle.circ_proof_text.specs.Checks.{is_second}

-- Each line is in range, and passes the checks on it and the lines before it, and no limit.
abbrev pub AllFine : Theory → Seen → List Line → Type 0
AllFine th c [] = Unit {0}
AllFine th c (l ∷ ls) = IsInRange l × (passes_at th c l ≡ true) × (limit_at th c l ≡ false) × AllFine th (after th c l) ls

-- links

below_to : (n : ℕ) (ks : List ℕ) → list_all (λ k. nat_lt k n) ks ≡ true → AllByRecursion (λ k. k < n) ks
below_to n [] e = tt
below_to n (k ∷ ks) e = let p = and_parts (nat_lt k n) (list_all (λ k. nat_lt k n) ks) e in (ltb-true k n p.0, below_to n ks p.1)

below_from : (n : ℕ) (ks : List ℕ) → AllByRecursion (λ k. k < n) ks → list_all (λ k. nat_lt k n) ks ≡ true
below_from n [] h = refl
below_from n (k ∷ ks) h = and_from (nat_lt k n) (list_all (λ k. nat_lt k n) ks) (lt-ltb k n h.0) (below_from n ks h.1)

pub is_number : (n k : ℕ) → n ≤ term_limit → k < n → IsNumber k
is_number n k few h = omega (arith, few, h)

pub are_numbers : (n : ℕ) (ks : List ℕ) → n ≤ term_limit → AllByRecursion (λ k. k < n) ks → AreNumbers ks
are_numbers n [] few h = tt
are_numbers n (k ∷ ks) few h = (is_number n k few h.0, are_numbers n ks few h.1)

-- what holds of lines in version 1
abbrev pub InFirst : Seen → Type 0 → Type 0
InFirst c P = is_second c ≡ false → P

-- a link's own line
own_to : (n d : ℕ) (l : LinkOf ℕ) → IsLinkInRange (bare l) → is_in_table n (bare l) ≡ true → nat_lt path_limit (length (path_of (bare l))) ≡ false
    → IsLinkFor n d (bare l)
own_to n d (Equation_link number way path terms cs) r e f = (r.0.0, (ltb-false path_limit (length path) f, r.1), below_to n terms e, tt)
own_to n d (Hypothesis_link number way path terms cs) r e f = (r.0.0, (ltb-false path_limit (length path) f, r.1), below_to n terms e, tt)
own_to n d (Assumption_link number way path) r e f = (r.0.0, (ltb-false path_limit (length path) f, r.1))
own_to n d (Content_link op path term) r e f =
    (r.0.0, (ltb-false path_limit (length path) f, r.1), ltb-true term n (and_parts (nat_lt term n) true e).0)

-- a link that fits a table that is not too long
pub record IsFineLink (n : ℕ) (l : LinkOf ℕ) : Type 0 where
  pub in_range : IsLinkInRange l
  pub in_table : is_in_table n l ≡ true
  pub short : nat_lt path_limit (length (path_of l)) ≡ false

own_from : (n d : ℕ) (l : LinkOf ℕ) → n ≤ term_limit → IsLinkFor n d l → IsFineLink n (bare l)
own_from n d (Equation_link number way path terms cs) few h = record {
  in_range = ((h.0, are_numbers n terms few h.2), h.1.1, refl);
  in_table = below_from n terms h.2;
  short = le-ltb path_limit (length path) h.1.0;
}
own_from n d (Hypothesis_link number way path terms cs) few h = record {
  in_range = ((h.0, are_numbers n terms few h.2), h.1.1, refl);
  in_table = below_from n terms h.2;
  short = le-ltb path_limit (length path) h.1.0;
}
own_from n d (Assumption_link number way path) few h =
    record { in_range = ((h.0, tt), h.1.1); in_table = refl; short = le-ltb path_limit (length path) h.1.0 }
own_from n d (Content_link op path term) few h = record {
  in_range = ((h.0, (is_number n term few h.2, tt)), h.1.1);
  in_table = and_from (nat_lt term n) true (lt-ltb term n h.2) refl;
  short = le-ltb path_limit (length path) h.1.0;
}

-- the conditions of links, as deep as they stand

room : (n : ℕ) → 8 - n - 1 ≡ 8 - suc n
room n = omega arith

abbrev deeper : Seen → Seen
deeper c = with_ifs c (suc c.ifs)

mutual
  conds_to : (th : Theory) (c : Seen) (cs : ChainsOf ℕ) (k : List Line) → AllFine th c (conds_lines cs k)
      → AreChainsFor (length c.terms) (8 - c.ifs) cs × InFirst c (cs ≡ no_chain) × AllFine th c k
  conds_to th c no_chain k h = (tt, λ e. refl, h)
  conds_to th c (more_chains l r cs) k h =
      let low : c.ifs + 1 ≤ 8 = ltb-false 8 (c.ifs + 1) h.2 in
      let a = left_row_to th (deeper c) l (right_row r (same_line ∷ conds_lines cs k)) h.3 in
      let b = right_row_to th (deeper c) r (same_line ∷ conds_lines cs k) a.1 in
      let d = conds_to th c cs k b.1.3 in
      let P : ℕ → Type 0 = λ x. IsRowFor (length c.terms) x l in
      let Q : ℕ → Type 0 = λ x. IsRowFor (length c.terms) x r in (
        (omega (arith, low), subst P (sym (room c.ifs)) a.0, subst Q (sym (room c.ifs)) b.0, d.0),
        λ e. absurd (true≢false (sym h.1 ∙ e)),
        d.2,
      )

  link_to : (th : Theory) (c : Seen) (l : LinkOf ℕ) (k : List Line) → IsLinkFor (length c.terms) (8 - c.ifs) (bare l) → AllFine th c (link_conds l k)
      → IsLinkFor (length c.terms) (8 - c.ifs) l × InFirst c (IsPlainLink l) × AllFine th c k
  link_to th c (Equation_link number way path terms cs) k f h = let r = conds_to th c cs k h in ((f.0, f.1, f.2, r.0), r.1, r.2)
  link_to th c (Hypothesis_link number way path terms cs) k f h = let r = conds_to th c cs k h in ((f.0, f.1, f.2, r.0), r.1, r.2)
  link_to th c (Assumption_link number way path) k f h = (f, λ e. refl, h)
  link_to th c (Content_link op path term) k f h = (f, λ e. refl, h)

  left_row_to : (th : Theory) (c : Seen) (r : LinksOf ℕ) (k : List Line) → AllFine th c (left_row r k)
      → IsRowFor (length c.terms) (8 - c.ifs) r × AllFine th c k
  left_row_to th c no_link k h = (tt, h)
  left_row_to th c (more_links l ls) k h =
      let a = link_to th c l (left_row ls k) (own_to (length c.terms) (8 - c.ifs) l h.0 h.1 h.2) h.3 in
      let b = left_row_to th c ls k a.2 in
      ((a.0, b.0), b.1)

  right_row_to : (th : Theory) (c : Seen) (r : LinksOf ℕ) (k : List Line) → AllFine th c (right_row r k)
      → IsRowFor (length c.terms) (8 - c.ifs) r × AllFine th c k
  right_row_to th c no_link k h = (tt, h)
  right_row_to th c (more_links l ls) k h =
      let a = link_to th c l (right_row ls k) (own_to (length c.terms) (8 - c.ifs) l h.0 h.1 h.2) h.3 in
      let b = right_row_to th c ls k a.2 in
      ((a.0, b.0), b.1)

some_chains : (l r : LinksOf ℕ) (cs : ChainsOf ℕ) → more_chains l r cs ≡ no_chain → ⊥
some_chains l r cs e = absurd (cc)

pub second_or : (c : Seen) → InFirst c ⊥ → is_second c ≡ true
second_or c h = go (is_second c) h
  where
    go : (b : Bool) → (b ≡ false → ⊥) → b ≡ true
    go true h = refl
    go false h = absurd (h refl)

mutual
  conds_from : (th : Theory) (c : Seen) (cs : ChainsOf ℕ) (k : List Line) → length c.terms ≤ term_limit → AreChainsFor (length c.terms) (8 - c.ifs) cs
      → InFirst c (cs ≡ no_chain) → AllFine th c k → AllFine th c (conds_lines cs k)
  conds_from th c no_chain k few h p f = f
  conds_from th c (more_chains l r cs) k few h p f =
      let second : is_second c ≡ true = second_or c (λ e. some_chains l r cs (p e)) in
      let some : 1 ≤ 8 - c.ifs = h.0 in
      let P : ℕ → Type 0 = λ x. IsRowFor (length c.terms) x l in
      let Q : ℕ → Type 0 = λ x. IsRowFor (length c.terms) x r in
      let first : is_second c ≡ false → ⊥ = λ e. true≢false (sym second ∙ e) in (
        tt,
        second,
        le-ltb 8 (c.ifs + 1) (omega (arith, some)),
        left_row_from th (deeper c) l (right_row r (same_line ∷ conds_lines cs k)) few (subst P (room c.ifs) h.1) (λ e. first e)
            (right_row_from th (deeper c) r (same_line ∷ conds_lines cs k) few (subst Q (room c.ifs) h.2) (λ e. first e)
            (tt, refl, refl, conds_from th c cs k few h.3 (λ e. absurd (first e)) f)),
      )

  link_from : (th : Theory) (c : Seen) (l : LinkOf ℕ) (k : List Line) → length c.terms ≤ term_limit → IsLinkFor (length c.terms) (8 - c.ifs) l
      → InFirst c (IsPlainLink l) → AllFine th c k → AllFine th c (link_conds l k)
  link_from th c (Equation_link number way path terms cs) k few h p f = conds_from th c cs k few h.3 p f
  link_from th c (Hypothesis_link number way path terms cs) k few h p f = conds_from th c cs k few h.3 p f
  link_from th c (Assumption_link number way path) k few h p f = f
  link_from th c (Content_link op path term) k few h p f = f

  left_row_from : (th : Theory) (c : Seen) (r : LinksOf ℕ) (k : List Line) → length c.terms ≤ term_limit → IsRowFor (length c.terms) (8 - c.ifs) r
      → InFirst c ⊥ → AllFine th c k → AllFine th c (left_row r k)
  left_row_from th c no_link k few h p f = f
  left_row_from th c (more_links l ls) k few h p f =
      let o = own_from (length c.terms) (8 - c.ifs) l few h.0 in
      (o.in_range, o.in_table, o.short, link_from th c l (left_row ls k) few h.0 (λ e. absurd (p e)) (left_row_from th c ls k few h.1 p f))

  right_row_from : (th : Theory) (c : Seen) (r : LinksOf ℕ) (k : List Line) → length c.terms ≤ term_limit → IsRowFor (length c.terms) (8 - c.ifs) r
      → InFirst c ⊥ → AllFine th c k → AllFine th c (right_row r k)
  right_row_from th c no_link k few h p f = f
  right_row_from th c (more_links l ls) k few h p f =
      let o = own_from (length c.terms) (8 - c.ifs) l few h.0 in
      (o.in_range, o.in_table, o.short, link_from th c l (right_row ls k) few h.0 (λ e. absurd (p e)) (right_row_from th c ls k few h.1 p f))

-- Links of a chain, which are in no condition: what lines give is of this form there.
abbrev pub outside : Seen → List ℕ → Seen
outside c ns = record c { ifs = 0; wanted = ns }

abbrev ArePlain : List (LinkOf ℕ) → Type 0
ArePlain ls = AllByRecursion IsPlainLink ls

pub lefts_to : (th : Theory) (c : Seen) (ns : List ℕ) (ls : List (LinkOf ℕ)) (k : List Line) → AllFine th (outside c ns) (lines_of left_lines ls k)
    → AreLinksFor (length c.terms) ls × InFirst c (ArePlain ls) × AllFine th (outside c ns) k
lefts_to th c ns [] k h = (tt, λ e. tt, h)
lefts_to th c ns (l ∷ ls) k h =
    let a = link_to th (outside c ns) l (lines_of left_lines ls k) (own_to (length c.terms) 8 l h.0 h.1 h.2) h.3 in
    let r = lefts_to th c ns ls k a.2 in
    ((a.0, r.0), λ e. (a.1 e, r.1 e), r.2)

pub lefts_from : (th : Theory) (c : Seen) (ns : List ℕ) (ls : List (LinkOf ℕ)) (k : List Line) → length c.terms ≤ term_limit
    → AreLinksFor (length c.terms) ls → InFirst c (ArePlain ls) → AllFine th (outside c ns) k → AllFine th (outside c ns) (lines_of left_lines ls k)
lefts_from th c ns [] k few h p f = f
lefts_from th c ns (l ∷ ls) k few h p f =
    let o = own_from (length c.terms) 8 l few h.0 in (
      o.in_range,
      o.in_table,
      o.short,
      link_from th (outside c ns) l (lines_of left_lines ls k) few h.0 (λ e. (p e).0)
          (lefts_from th c ns ls k few h.1 (λ e. (p e).1) f),
    )

rights_to : (th : Theory) (c : Seen) (ns : List ℕ) (ls : List (LinkOf ℕ)) (k : List Line) → AllFine th (outside c ns) (lines_of right_lines ls k)
    → AreLinksFor (length c.terms) ls × InFirst c (ArePlain ls) × AllFine th (outside c ns) k
rights_to th c ns [] k h = (tt, λ e. tt, h)
rights_to th c ns (l ∷ ls) k h =
    let a = link_to th (outside c ns) l (lines_of right_lines ls k) (own_to (length c.terms) 8 l h.0 h.1 h.2) h.3 in
    let r = rights_to th c ns ls k a.2 in
    ((a.0, r.0), λ e. (a.1 e, r.1 e), r.2)

rights_from : (th : Theory) (c : Seen) (ns : List ℕ) (ls : List (LinkOf ℕ)) (k : List Line) → length c.terms ≤ term_limit
    → AreLinksFor (length c.terms) ls → InFirst c (ArePlain ls) → AllFine th (outside c ns) k → AllFine th (outside c ns) (lines_of right_lines ls k)
rights_from th c ns [] k few h p f = f
rights_from th c ns (l ∷ ls) k few h p f =
    let o = own_from (length c.terms) 8 l few h.0 in (
      o.in_range,
      o.in_table,
      o.short,
      link_from th (outside c ns) l (lines_of right_lines ls k) few h.0 (λ e. (p e).0)
          (rights_from th c ns ls k few h.1 (λ e. (p e).1) f),
    )

pub chain_to : (th : Theory) (c : Seen) (ns : List ℕ) (ch : ChainOf ℕ) (k : List Line) → AllFine th (outside c ns) (chain_lines ch k)
    → IsChainFor (length c.terms) ch × InFirst c (IsPlainChain ch) × AllFine th (outside c ns) k
chain_to th c ns ch k h =
    let l = lefts_to th c ns ch.left (lines_of right_lines ch.right k) h in
    let r = rights_to th c ns ch.right k l.2 in
    ((l.0, r.0), λ e. (l.1 e, r.1 e), r.2)

pub chain_from : (th : Theory) (c : Seen) (ns : List ℕ) (ch : ChainOf ℕ) (k : List Line) → length c.terms ≤ term_limit → IsChainFor (length c.terms) ch
    → InFirst c (IsPlainChain ch) → AllFine th (outside c ns) k → AllFine th (outside c ns) (chain_lines ch k)
chain_from th c ns ch k few h p f =
    lefts_from th c ns ch.left (lines_of right_lines ch.right k) few h.0 (λ e. (p e).0) (rights_from th c ns ch.right k few h.1 (λ e. (p e).1) f)

-- whys

one_less : (n : ℕ) (ns : List ℕ) → 0 < n → after_why ((n + 1) ∷ ns) ≡ n ∷ ns
one_less n ns h =
    let e : n + 1 - 1 ≡ n = omega arith in
    ap (λ b. if b then (n + 1 - 1) ∷ ns else after_why ns) (lt-ltb 1 (n + 1) (omega arith)) ∙ ap (λ m. m ∷ ns) e

opens : (n : ℕ) (ns : List ℕ) → after_split ns (n + 1) ≡ (n + 1) ∷ ns
opens n ns = ap (λ b. if b then after_why ns else (n + 1) ∷ ns) (no_zero n)

-- the whys after one
whys_rest_to : (th : Theory) (c : Seen) (ns : List ℕ) (vs : WhysOf ℕ) (k : List Line)
    → (0 < why_count vs → AllFine th (outside c (why_count vs ∷ ns)) (whys_lines vs k)
    → AreWhysFor (length c.terms) (8 - suc (length ns)) vs × InFirst c (ArePlainWhys vs) × AllFine th (outside c (after_why ns)) k)
    → AllFine th (outside c (after_why ((why_count vs + 1) ∷ ns))) (whys_lines vs k)
    → AreWhysFor (length c.terms) (8 - suc (length ns)) vs × InFirst c (ArePlainWhys vs) × AllFine th (outside c (after_why ns)) k
whys_rest_to th c ns no_why k ih h = (tt, λ e. tt, h)
whys_rest_to th c ns (more_whys w vs) k ih h =
    let P : List ℕ → Type 0 = λ x. AllFine th (outside c x) (whys_lines (more_whys w vs) k) in
    ih (omega arith) (subst P (one_less (why_count vs + 1) ns (omega arith)) h)

whys_rest_from : (th : Theory) (c : Seen) (ns : List ℕ) (vs : WhysOf ℕ) (k : List Line)
    → (0 < why_count vs → AllFine th (outside c (why_count vs ∷ ns)) (whys_lines vs k)) → AllFine th (outside c (after_why ns)) k
    → AllFine th (outside c (after_why ((why_count vs + 1) ∷ ns))) (whys_lines vs k)
whys_rest_from th c ns no_why k ih h = h
whys_rest_from th c ns (more_whys w vs) k ih h =
    let P : List ℕ → Type 0 = λ x. AllFine th (outside c x) (whys_lines (more_whys w vs) k) in
    subst P (sym (one_less (why_count vs + 1) ns (omega arith))) (ih (omega arith))

-- the whys of a split that opens
split_to : (th : Theory) (c : Seen) (ns : List ℕ) (ws : WhysOf ℕ) (k : List Line)
    → (0 < why_count ws → AllFine th (outside c (why_count ws ∷ ns)) (whys_lines ws k)
    → AreWhysFor (length c.terms) (8 - suc (length ns)) ws × InFirst c (ArePlainWhys ws) × AllFine th (outside c (after_why ns)) k)
    → AllFine th (outside c (after_split ns (why_count ws))) (whys_lines ws k)
    → AreWhysFor (length c.terms) (8 - suc (length ns)) ws × InFirst c (ArePlainWhys ws) × AllFine th (outside c (after_why ns)) k
split_to th c ns no_why k ih h = (tt, λ e. tt, h)
split_to th c ns (more_whys w vs) k ih h =
    let P : List ℕ → Type 0 = λ x. AllFine th (outside c x) (whys_lines (more_whys w vs) k) in
    ih (omega arith) (subst P (opens (why_count vs) ns) h)

split_from : (th : Theory) (c : Seen) (ns : List ℕ) (ws : WhysOf ℕ) (k : List Line)
    → (0 < why_count ws → AllFine th (outside c (why_count ws ∷ ns)) (whys_lines ws k)) → AllFine th (outside c (after_why ns)) k
    → AllFine th (outside c (after_split ns (why_count ws))) (whys_lines ws k)
split_from th c ns no_why k ih h = h
split_from th c ns (more_whys w vs) k ih h =
    let P : List ℕ → Type 0 = λ x. AllFine th (outside c x) (whys_lines (more_whys w vs) k) in
    subst P (sym (opens (why_count vs) ns)) (ih (omega arith))

mutual
  pub why_to : (th : Theory) (c : Seen) (ns : List ℕ) (w : WhyOf ℕ) (k : List Line) → AllFine th (outside c ns) (why_lines w k)
      → IsWhyFor (length c.terms) (8 - length ns) w × InFirst c (IsPlainWhy w) × AllFine th (outside c (after_why ns)) k
  why_to th c ns (Same_why ch) k h = let r = chain_to th c ns ch (same_line ∷ k) h in (r.0, r.1, r.2.3)
  why_to th c ns (Split_why ch t ws) k h =
      let r = chain_to th c ns ch (split_line t (why_count ws) ∷ whys_lines ws k) h in
      let low : length ns + 1 ≤ 8 = ltb-false 8 (length ns + 1) r.2.2 in
      let s = split_to th c ns ws k (λ z g. whys_to th c ns ws k z g) r.2.3 in
      let P : ℕ → Type 0 = λ x. AreWhysFor (length c.terms) x ws in
      ((r.0, ltb-true t (length c.terms) r.2.1, omega arith, r.2.0.1.0, subst P (sym (room (length ns))) s.0), λ e. (r.1 e, s.1 e), s.2)

  pub whys_to : (th : Theory) (c : Seen) (ns : List ℕ) (ws : WhysOf ℕ) (k : List Line) → 0 < why_count ws
      → AllFine th (outside c (why_count ws ∷ ns)) (whys_lines ws k)
      → AreWhysFor (length c.terms) (8 - suc (length ns)) ws × InFirst c (ArePlainWhys ws) × AllFine th (outside c (after_why ns)) k
  whys_to th c ns no_why k z h = absurd (omega arith)
  whys_to th c ns (more_whys w vs) k z h =
      let r = why_to th c ((why_count vs + 1) ∷ ns) w (whys_lines vs k) h in
      let s = whys_rest_to th c ns vs k (λ y g. whys_to th c ns vs k y g) r.2 in
      ((r.0, s.0), λ e. (r.1 e, s.1 e), s.2)

mutual
  pub why_from : (th : Theory) (c : Seen) (ns : List ℕ) (w : WhyOf ℕ) (k : List Line) → length c.terms ≤ term_limit
      → IsWhyFor (length c.terms) (8 - length ns) w → InFirst c (IsPlainWhy w) → AllFine th (outside c (after_why ns)) k
      → AllFine th (outside c ns) (why_lines w k)
  why_from th c ns (Same_why ch) k few h p f = chain_from th c ns ch (same_line ∷ k) few h p (tt, refl, refl, f)
  why_from th c ns (Split_why ch t ws) k few h p f =
      let P : ℕ → Type 0 = λ x. AreWhysFor (length c.terms) x ws in
      let hs : AreWhysFor (length c.terms) (8 - suc (length ns)) ws = subst P (room (length ns)) h.4 in
      let some : 1 ≤ 8 - length ns = h.2 in
      chain_from th c ns ch (split_line t (why_count ws) ∷ whys_lines ws k) few h.0 (λ e. (p e).0) (
        (is_number (length c.terms) t few h.1, (h.3, tt)),
        lt-ltb t (length c.terms) h.1,
        le-ltb 8 (length ns + 1) (omega arith),
        split_from th c ns ws k (λ z. whys_from th c ns ws k few z hs (λ e. (p e).1) f) f,
      )

  pub whys_from : (th : Theory) (c : Seen) (ns : List ℕ) (ws : WhysOf ℕ) (k : List Line) → length c.terms ≤ term_limit → 0 < why_count ws
      → AreWhysFor (length c.terms) (8 - suc (length ns)) ws → InFirst c (ArePlainWhys ws) → AllFine th (outside c (after_why ns)) k
      → AllFine th (outside c (why_count ws ∷ ns)) (whys_lines ws k)
  whys_from th c ns no_why k few z h p f = absurd (omega arith)
  whys_from th c ns (more_whys w vs) k few z h p f = why_from th c ((why_count vs + 1) ∷ ns) w (whys_lines vs k) few h.0 (λ e. (p e).0)
      (whys_rest_from th c ns vs k (λ y. whys_from th c ns vs k few y h.1 (λ e. (p e).1) f) f)
