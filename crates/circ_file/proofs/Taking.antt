-- What a line gives that passes the checks and the limits.
use Rattle.std.specs.Prelude.{◌≡◌, ℕ, ◌+◌, ◌-◌, ◌<◌, ◌==◌, if◌then◌else◌, ◌≤◌, ◌||◌, nat_eq, Bool, true, false, cond, List, [], ◌∷◌, ◌++◌, length, refl, zero, suc, Some, None, is_some}
use Rattle.std.proofs.Common.{sym, ◌∙◌, ap, subst, arith, inl, inr}
use Rattle.std.proofs.lemmas.Bool.{and_parts, and_from, lt-ltb, le-ltb, ltb-true, ltb-false}
use Rattle.std.proofs.lemmas.Option.{same_Some, none-some, cond_some}
use Rattle.circ_term.specs.Tree.{Tree}
use Rattle.circ_theory.specs.Theory.{Theory}
use Rattle.circ_theory.specs.WellFormed.{IsWellFormed}
use Rattle.circ_theory.proofs.Lists.{all_push}
use Rattle.circ_special.specs.declared.place.Place.{Place}
use Rattle.circ_special.specs.Special.{place, IsPlace, IsSet}
use Rattle.circ_proof.specs.Plain.{LinkOf, ChainOf, Equation_link, Hypothesis_link, Assumption_link, Content_link, WhyOf, Same_why, Split_why, no_why}
use Rattle.circ_proof.specs.Table.{term_limit}
use Rattle.circ_line.specs.Line.{TableLine, Line, head_line, table_line, place_line, certificate_line, block_line, goal_line, given_line, simplify_line}
use Rattle.circ_line.specs.Line.{reduce_line, derive_line, cases_line, done_line, same_line, split_line, if_line, left_line, right_line, end_line}
use Rattle.circ_proof.specs.Counting.{why_count}
use Rattle.circ_grammar.proofs.Spelled.{option_map_some, under_test}
use Rattle.circ_grammar.specs.Machine.{OpenSplit, empty, open_split, push_why, add_left, add_right, add_given, in_last, in_right}
use Rattle.circ_grammar.specs.Now.{Now, Begin, Tabling, Placing, Certifying, Stepping, Simplifying, Reducing, Joining, Closed, Ended, next_now, give_why_now}
use Rattle.circ_grammar.specs.Now.{Opened, give_chain_now, next_given}
use Rattle.circ_grammar.specs.Grammar.{is_bare, is_no_chain}
use Rattle.circ_line.specs.Text.{IsInRange, IsLinkInRange}
use Rattle.circ_grammar.specs.Now.{is_step, next_head, next_place, next_same, next_split, next_left, next_right, next_end}
use Rattle.circ_theory.specs.Limits.{condition_limit}
use Rattle.circ_proof.specs.Nesting.{nesting_limit}
use Rattle.circ_proof.specs.Certified.{due}
use Rattle.circ_proof.specs.Proof.{step_limit}
use Rattle.circ_proof.proofs.FewPlaces.{place_low}
use Rattle.circ_proof_text.specs.Checks.{Seen, after_same as ends_if, after, is_next, is_place, with_term, is_full, is_too_large, is_condition, passes_at, limit_at}
use Rattle.circ_proof_text.proofs.Places.{place_tells, increasing_push}
use Rattle.circ_line.specs.Plain.{plain_line}
use Rattle.circ_line.specs.declared.line.Line.{Line as CodeLine}
use Rattle.circ_line.specs.declared.line.Line.TheVariants as line
use Rattle.circ_file.specs.View.{places_with, IsUsable, IsFree, IsMachineAt, IsMachineOf, now_at, now_of, MachineTakes, Moves}
use Rattle.circ_file.specs.Counting.{certificates_with, steps_with, version_with, givens_with, ifs_with, CountsGiven}
use Rattle.circ_file.specs.Lines.{IsInStep, IsOther, IsReader, seen_of, Advances, Handles, taken_where}
use Rattle.circ_theory.specs.Pair.{Pair}
use Rattle.circ_proof.specs.Proof.{pair_at}
use Rattle.circ_file.specs.Adding.{condition_for, terms_in, is_open, AddsLine}
use Rattle.circ_file.specs.declared.table.ReadTable.{ReadTable}
use Rattle.circ_file.specs.declared.taken.Taken.{Taken}
use Rattle.circ_file.specs.declared.taken.Taken.TheVariants.{Yes, Line as Refused, Limit}
use Rattle.circ_file.specs.declared.lines.LineReader.{LineReader}
use Rattle.circ_file.specs.declared.machine.Machine.{Machine}
use Rattle.circ_file.specs.declared.machine.Mode.{Mode}
use Rattle.circ_file.specs.declared.machine.Mode.TheVariants as mode
use Rattle.circ_file.proofs.Counted.{due_more}

-- The numbers of a line that passes are ready to be used.
pub bare_in_range : (l : LinkOf ℕ) → IsLinkInRange l → is_bare l ≡ true
bare_in_range (Equation_link n w p ts cs) r = ap is_no_chain r.2
bare_in_range (Hypothesis_link n w p ts cs) r = ap is_no_chain r.2
bare_in_range (Assumption_link n w p) r = refl
bare_in_range (Content_link f p t) r = refl

pub ready_then : (th : Theory) (c : Seen) (l : Line) → IsWellFormed th → IsInRange l → passes_at th c l ≡ true → IsUsable l
ready_then th c (left_line l) w r p = bare_in_range l r
ready_then th c (right_line l) w r p = bare_in_range l r
ready_then th c (place_line f i) w r p =
    let q = and_parts (is_next c.places (place f i)) (is_place th (place f i)) p in
    let low = place_low th (place f i) w ((place_tells th (place f i)).0 q.1) in
    omega (arith, low.arg)
ready_then th c _ w r p = tt

pub set_then : (th : Theory) (c : Seen) (l : Line) → IsSet th c.places → passes_at th c l ≡ true → IsSet th (places_with c.places l)
set_then th c (place_line f i) s p =
    let q = and_parts (is_next c.places (place f i)) (is_place th (place f i)) p in
    record {
      increasing = increasing_push c.places (place f i) s.increasing q.0;
      places = all_push (IsPlace th) c.places (place f i) s.places ((place_tells th (place f i)).0 q.1);
    }
set_then th c _ s p = s

-- There are never more certificates than are due.
pub certificates_then : (th : Theory) (c : Seen) (l : Line) → c.certificates ≤ length (due th c.places) → passes_at th c l ≡ true
    → certificates_with c.certificates l ≤ length (due th (places_with c.places l))
certificates_then th c certificate_line h p = omega (arith, ltb-true c.certificates (length (due th c.places)) p)
certificates_then th c (place_line f i) h p = omega (arith, h, due_more th c.places (place f i))
certificates_then th c _ h p = h

pub steps_then : (th : Theory) (c : Seen) (l : Line) → c.steps ≤ step_limit → limit_at th c l ≡ false → steps_with c.steps l ≤ step_limit
steps_then th c simplify_line h p = ltb-false step_limit (c.steps + 1) p
steps_then th c reduce_line h p = ltb-false step_limit (c.steps + 1) p
steps_then th c derive_line h p = ltb-false step_limit (c.steps + 1) p
steps_then th c (cases_line t) h p = ltb-false step_limit (c.steps + 1) p
steps_then th c done_line h p = ltb-false step_limit (c.steps + 1) p
steps_then th c _ h p = h

pub ifs_then : (th : Theory) (c : Seen) (l : Line) → c.ifs ≤ nesting_limit → limit_at th c l ≡ false → ifs_with c.ifs l ≤ nesting_limit
ifs_then th c if_line h p = omega (arith, ltb-false nesting_limit (c.ifs + 1) p)
ifs_then th c same_line h p = omega (arith, h)
ifs_then th c _ h p = h

pub givens_then : (n : ℕ) (l : Line) → IsOther l → n ≤ condition_limit → givens_with n l ≤ condition_limit
givens_then n (goal_line a b) o h = absurd o
givens_then n (given_line a b) o h = absurd o
givens_then n simplify_line o h = omega arith
givens_then n reduce_line o h = omega arith
givens_then n derive_line o h = omega arith
givens_then n (cases_line t) o h = omega arith
givens_then n done_line o h = omega arith
givens_then n _ o h = h

-- what lines have given but the terms and the places
pub record Counted : Type 0 where
  pub version : ℕ
  pub certificates : ℕ
  pub steps : ℕ
  pub givens : ℕ
  pub ifs : ℕ

abbrev pub counted : (version certificates steps givens ifs : ℕ) → Counted
counted v n m g i = record { version = v; certificates = n; steps = m; givens = g; ifs = i }

abbrev pub counted_in : Seen → Counted
counted_in c = counted c.version c.certificates c.steps c.givens c.ifs

-- with one line more
abbrev pub counted_with : Counted → Line → Counted
counted_with k l = counted (version_with k.version l) (certificates_with k.certificates l) (steps_with k.steps l) (givens_with k.givens l) (ifs_with k.ifs l)

abbrev pub seen_with : Counted → List Tree → List Place → (wanted : List ℕ) → Seen
seen_with k ts gs w = record {
  version = k.version;
  terms = ts;
  places = gs;
  certificates = k.certificates;
  steps = k.steps;
  givens = k.givens;
  ifs = k.ifs;
  wanted = w;
}

same_seen : (c : Seen) (k : Counted) (ts : List Tree) (gs : List Place) → k ≡ counted_in c → ts ≡ c.terms → gs ≡ c.places → seen_with k ts gs c.wanted ≡ c
same_seen c k ts gs z a b =
    ap (λ x. seen_with x ts gs c.wanted) z ∙ ap (λ x. seen_with (counted_in c) x gs c.wanted) a ∙ ap (λ x. seen_with (counted_in c) c.terms x c.wanted) b

zero_less : (n : ℕ) → 0 - n ≡ 0
zero_less n = omega arith

one_less : (i : ℕ) → suc i - 1 ≡ i
one_less i = omega arith

-- What is kept of a line is what it gives.
pub seen_then : (th : Theory) (k j : Counted) (us : List Tree) (hs : List Place) (w : List ℕ) (l : Line) (ts : List Tree) (gs : List Place)
    → IsOther l → j ≡ counted_with k l → ts ≡ us → gs ≡ places_with hs l
    → seen_with j ts gs (after th (seen_with k us hs w) l).wanted ≡ after th (seen_with k us hs w) l
seen_then th k j us hs w (table_line l) ts gs o z a b = absurd o
seen_then th k j us hs w (goal_line x y) ts gs o z a b = absurd o
seen_then th k j us hs w (given_line x y) ts gs o z a b = absurd o
seen_then th k j us hs w (head_line x) ts gs o z a b = same_seen (after th (seen_with k us hs w) (head_line x)) j ts gs z a b
seen_then th k j us hs w (place_line x y) ts gs o z a b = same_seen (after th (seen_with k us hs w) (place_line x y)) j ts gs z a b
seen_then th k j us hs w certificate_line ts gs o z a b = same_seen (after th (seen_with k us hs w) certificate_line) j ts gs z a b
seen_then th k j us hs w block_line ts gs o z a b = same_seen (after th (seen_with k us hs w) block_line) j ts gs z a b
seen_then th k j us hs w simplify_line ts gs o z a b = same_seen (after th (seen_with k us hs w) simplify_line) j ts gs z a b
seen_then th k j us hs w reduce_line ts gs o z a b = same_seen (after th (seen_with k us hs w) reduce_line) j ts gs z a b
seen_then th k j us hs w derive_line ts gs o z a b = same_seen (after th (seen_with k us hs w) derive_line) j ts gs z a b
seen_then th k j us hs w (cases_line x) ts gs o z a b = same_seen (after th (seen_with k us hs w) (cases_line x)) j ts gs z a b
seen_then th k j us hs w done_line ts gs o z a b = same_seen (after th (seen_with k us hs w) done_line) j ts gs z a b
seen_then th k j us hs w (split_line x y) ts gs o z a b = same_seen (after th (seen_with k us hs w) (split_line x y)) j ts gs z a b
seen_then th k j us hs w if_line ts gs o z a b = same_seen (after th (seen_with k us hs w) if_line) j ts gs z a b
seen_then th k j us hs w (left_line x) ts gs o z a b = same_seen (after th (seen_with k us hs w) (left_line x)) j ts gs z a b
seen_then th k j us hs w (right_line x) ts gs o z a b = same_seen (after th (seen_with k us hs w) (right_line x)) j ts gs z a b
seen_then th k j us hs w end_line ts gs o z a b = same_seen (after th (seen_with k us hs w) end_line) j ts gs z a b
seen_then th k j us hs w same_line ts gs o z a b = closes k.ifs z
  where
    at : ℕ → Seen
    at i = seen_with (record k { ifs = i }) us hs w

    closes : (i : ℕ) → j ≡ counted k.version k.certificates k.steps k.givens (i - 1)
        → seen_with j ts gs (ends_if (at i) i).wanted ≡ ends_if (at i) i
    closes zero z = same_seen (ends_if (at zero) zero) j ts gs (z ∙ ap (λ i. counted k.version k.certificates k.steps k.givens i) (zero_less 1)) a b
    closes (suc i) z = same_seen (ends_if (at (suc i)) (suc i)) j ts gs (z ∙ ap (λ x. counted k.version k.certificates k.steps k.givens x) (one_less i)) a b

-- In a table nothing is asked of its terms.
tabling_at : (k : Mode) (m : Machine) (ts us : List Tree) → now_at k m ≡ Tabling → IsMachineAt k ts m → IsMachineAt k us m
tabling_at mode.Tabling m ts us e k = k
tabling_at _ m ts us e k = absurd (cc)

after_table : (n m : Now) (l : TableLine) → next_now n (table_line l) ≡ Some m → m ≡ Tabling
after_table Tabling m l e = cc
after_table _ m l e = absurd (cc)

pub kept_tabling : (r s : Machine) (l : TableLine) (ts us : List Tree) → next_now (now_of r) (table_line l) ≡ Some (now_of s) → IsMachineOf ts s → IsMachineOf us s
kept_tabling r s l ts us e k = tabling_at s.mode s ts us (after_table (now_of r) (now_of s) l e) k

-- the table keeps step with the line

after_cond : (b : Bool) (x m : Now) (t : ReadTable) → cond b (Some x) None ≡ Some m → IsInStep x t → IsInStep m t
after_cond b x m t e s = subst (λ n. IsInStep n t) (cond_some b x m e).1 s

after_given : (fs : List OpenSplit) (w : WhyOf ℕ) (t : ReadTable) → IsInStep (give_why_now fs w) t
after_given [] w t = tt
after_given (f ∷ fs) w t =
    go (nat_eq (why_count f.whys + 1) f.count) (after_given fs (Split_why f.chain f.term (push_why f.whys w)) t)
  where
    go : (b : Bool) → IsInStep (give_why_now fs (Split_why f.chain f.term (push_why f.whys w))) t
        → IsInStep (cond b (give_why_now fs (Split_why f.chain f.term (push_why f.whys w)))
        (Reducing (open_split f.chain f.term f.count (push_why f.whys w) ∷ fs) empty)) t
    go true s = s
    go false s = tt

after_head : (n m : Now) (t : ReadTable) → next_head n ≡ Some m → IsInStep n t → IsInStep m t
after_head Begin m t e s = subst (λ n. IsInStep n t) (same_Some Tabling m e) s
after_head _ m t e s = absurd (cc)

after_place : (n m : Now) (p : ℕ × ℕ) (t : ReadTable) → next_place n p ≡ Some m → IsInStep m t
after_place Tabling m p t e = subst (λ n. IsInStep n t) (same_Some (Placing (p ∷ [])) m e) tt
after_place (Placing ps) m p t e = subst (λ n. IsInStep n t) (same_Some (Placing (ps ++ p ∷ [])) m e) tt
after_place _ m p t e = absurd (cc)

after_chain : (n m : Now) (c : ChainOf ℕ) (t : ReadTable) → give_chain_now n c ≡ Some m → IsInStep m t
after_chain (Certifying ls) m c t e = let p = option_map_some Certifying (in_last ls c) m e in subst (λ n. IsInStep n t) p.2 tt
after_chain (Simplifying d) m c t e = let p = option_map_some Simplifying (in_right d.left d.right c) m e in subst (λ n. IsInStep n t) p.2 tt
after_chain (Reducing fs d) m c t e = let p = option_map_some (Reducing fs) (in_right d.left d.right c) m e in subst (λ n. IsInStep n t) p.2 tt
after_chain (Joining k d) m c t e = let p = option_map_some (Joining k) (in_right d.left d.right c) m e in subst (λ n. IsInStep n t) p.2 tt
after_chain _ m c t e = absurd (cc)

after_same : (n m : Now) (t : ReadTable) → next_same n ≡ Some m → IsInStep m t
after_same (Reducing fs c) m t e = subst (λ n. IsInStep n t) (same_Some (give_why_now fs (Same_why c)) m e) (after_given fs (Same_why c) t)
after_same (Joining n c) m t e = after_chain n m c t e
after_same _ m t e = absurd (cc)

after_split : (n m : Now) (a k : ℕ) (t : ReadTable) → next_split n a k ≡ Some m → IsInStep m t
after_split (Reducing fs c) m a k t e =
    subst (λ n. IsInStep n t) (same_Some (cond (nat_eq k 0) (give_why_now fs (Split_why c a no_why)) (Reducing (open_split c a k no_why ∷ fs) empty)) m e)
    (go (nat_eq k 0) (after_given fs (Split_why c a no_why) t))
  where
    go : (b : Bool) → IsInStep (give_why_now fs (Split_why c a no_why)) t
        → IsInStep (cond b (give_why_now fs (Split_why c a no_why)) (Reducing (open_split c a k no_why ∷ fs) empty)) t
    go true s = s
    go false s = tt
after_split _ m a k t e = absurd (cc)

after_left : (n m : Now) (l : LinkOf ℕ) (t : ReadTable) → next_left n l ≡ Some m → IsInStep m t
after_left (Certifying ls) m l t e = subst (λ n. IsInStep n t) (same_Some (Certifying (ls ++ l ∷ [])) m e) tt
after_left (Simplifying c) m l t e = let p = option_map_some Simplifying (add_left c l) m e in subst (λ n. IsInStep n t) p.2 tt
after_left (Reducing fs c) m l t e = let p = option_map_some (Reducing fs) (add_left c l) m e in subst (λ n. IsInStep n t) p.2 tt
after_left (Joining k c) m l t e = let p = option_map_some (Joining k) (add_left c l) m e in subst (λ n. IsInStep n t) p.2 tt
after_left _ m l t e = absurd (cc)

after_right : (n m : Now) (l : LinkOf ℕ) (t : ReadTable) → next_right n l ≡ Some m → IsInStep m t
after_right (Simplifying c) m l t e = subst (λ n. IsInStep n t) (same_Some (Simplifying (add_right c l)) m e) tt
after_right (Reducing fs c) m l t e = subst (λ n. IsInStep n t) (same_Some (Reducing fs (add_right c l)) m e) tt
after_right (Joining k c) m l t e = subst (λ n. IsInStep n t) (same_Some (Joining k (add_right c l)) m e) tt
after_right _ m l t e = absurd (cc)

after_end : (n m : Now) (t : ReadTable) → next_end n ≡ Some m → IsInStep m t
after_end Closed m t e = subst (λ n. IsInStep n t) (same_Some Ended m e) tt
after_end _ m t e = absurd (cc)

-- a line that asks nothing of the table
free_step : (n m : Now) (l : Line) (t : ReadTable) → IsFree l → next_now n l ≡ Some m → IsInStep n t → IsInStep m t
free_step n m (head_line v) t o e s = after_head n m t e s
free_step n m (table_line x) t o e s = absurd o
free_step n m (place_line a b) t o e s = after_place n m (a, b) t e
free_step n m certificate_line t o e s = absurd o
free_step n m block_line t o e s = absurd o
free_step n m (goal_line a b) t o e s = absurd o
free_step n m (given_line a b) t o e s = absurd o
free_step n m (cases_line a) t o e s = after_cond (is_step n) Stepping m t e tt
free_step n m if_line t o e s = let p = option_map_some (λ q. Joining n empty) (give_chain_now n empty) m e in subst (λ x. IsInStep x t) p.2 tt
free_step n m simplify_line t o e s = after_cond (is_step n) (Simplifying empty) m t e tt
free_step n m reduce_line t o e s = after_cond (is_step n) (Reducing [] empty) m t e tt
free_step n m derive_line t o e s = after_cond (is_step n) Stepping m t e tt
free_step n m done_line t o e s = after_cond (is_step n) Closed m t e tt
free_step n m same_line t o e s = after_same n m t e
free_step n m (split_line a k) t o e s = after_split n m a k t e
free_step n m (left_line l) t o e s = under_test (is_bare l) (next_left n l) m e (λ b e. after_left n m l t e)
free_step n m (right_line l) t o e s = under_test (is_bare l) (next_right n l) m e (λ b e. after_right n m l t e)
free_step n m end_line t o e s = after_end n m t e

-- such a line is neither of the table nor a goal, and begins no certificate and no block
pub is_free : (l : CodeLine) → (l ≡ line.Certificate → ⊥) → (l ≡ line.Block → ⊥) → IsOther (plain_line l) → IsFree (plain_line l)
is_free line.Certificate f g o = absurd (f refl)
is_free line.Block f g o = absurd (g refl)
is_free (line.Table l) f g o = o
is_free (line.Goal a b) f g o = o
is_free (line.Given a b) f g o = o
is_free _ f g o = tt

pub advanced : (b : Bool) (r : LineReader) (l : Line) (m : Machine) → IsReader r → IsFree l
    → ((ts : List Tree) → IsMachineOf ts r.machine → Moves b ts r.machine l m) → Advances b r l (record r { machine = m })
advanced true r l m k f h =
    let t = h (terms_in r.table) k.kept in (t, refl, free_step (now_of r.machine) (now_of m) l r.table f t.next k.step)
advanced false r l m k f h = h (terms_in r.table) k.kept

-- where a line of the table may come
pub still_open : (n m : Now) (l : TableLine) (t : ReadTable) → next_now n (table_line l) ≡ Some m → IsInStep n t → is_open t ≡ true
still_open Tabling m l t e s = s
still_open _ m l t e s = absurd (cc)

-- the sets and counts of a reader that took a line of the table
reader_then : (r s : LineReader) → IsReader r → s.theory.now ≡ r.theory.now → s.counts ≡ r.counts → s.machine.places.items ≡ r.machine.places.items
    → IsMachineOf (terms_in s.table) s.machine → IsInStep (now_of s.machine) s.table → IsReader s
reader_then r s k t n p a b = record {
  kept = a;
  set = subst (λ x. IsSet x s.machine.places.items) (sym t) (subst (λ x. IsSet r.theory.now x) (sym p) k.set);
  step = b;
  due = ap (λ x. x.due) n ∙ k.due ∙ ap (λ x. length (due x r.machine.places.items)) (sym t) ∙ ap (λ x. length (due s.theory.now x)) (sym p);
  certificates = subst (λ x. x.certificates ≤ x.due) (sym n) k.certificates;
  steps = subst (λ x. x.steps ≤ step_limit) (sym n) k.steps;
  givens = subst (λ x. x.givens ≤ condition_limit) (sym n) k.givens;
  ifs = subst (λ x. x.ifs ≤ nesting_limit) (sym n) k.ifs;
}

-- What becomes of a table line is what becomes of it in the table.
pub table_handled : (w : List ℕ) (r s : LineReader) (l : TableLine) (t : Taken) → IsReader r → s.theory.now ≡ r.theory.now → s.counts ≡ r.counts
    → MachineTakes (terms_in r.table) r.machine (table_line l) s.machine → AddsLine r.theory.now.signature (terms_in r.table) l t (terms_in s.table)
    → is_open s.table ≡ true → Handles t w r (table_line l) s
table_handled w r s l Yes k t n m (u, f, within, us) b =
    let th : Theory = r.theory.now in
    let c : Seen = seen_of w r in
    let e : after th c (table_line l) ≡ with_term c (Some u) = ap (with_term c) f in
    let at : now_of s.machine ≡ Tabling = after_table (now_of r.machine) (now_of s.machine) l m.next in
    record {
      next = m.next;
      passes = ap is_some f;
      within = ap (λ o. is_full term_limit (length c.terms) || is_too_large o) f ∙ within;
      seen = same_seen (after th c (table_line l)) (counted_in (seen_of w s)) (terms_in s.table) s.machine.places.items
          (ap (λ x. counted x.version x.certificates x.steps x.givens x.ifs) n ∙ sym (ap counted_in e))
          (us ∙ sym (ap (λ x. x.terms) e)) (m.places ∙ sym (ap (λ x. x.places) e));
      queue = m.queue;
      reader = reader_then r s k t n m.places (kept_tabling r.machine s.machine l (terms_in r.table) (terms_in s.table) m.next m.kept)
          (subst (λ x. IsInStep x s.table) (sym at) b);
    }
table_handled w r s l Refused k t n m f b = inr (ap is_some f)
table_handled w r s l Limit k t n m (u, f, over) b =
    (now_of s.machine, m.next, ap is_some f, ap (λ o. is_full term_limit (length (terms_in r.table)) || is_too_large o) f ∙ over)

-- A line is taken that is not of the table, and no goal.
pub other_handled : (w : List ℕ) (r s : LineReader) (l : Line) → IsReader r → IsOther l → s.theory.now ≡ r.theory.now
    → passes_at r.theory.now (seen_of w r) l ≡ true → limit_at r.theory.now (seen_of w r) l ≡ false → Advances true r l s
    → s.counts.due ≡ length (due r.theory.now (places_with r.machine.places.items l))
    → counted_in (seen_of w s) ≡ counted_with (counted_in (seen_of w r)) l → Handles Yes w r l s
other_handled w r s l k o t p q (m, e, b) due_is counts_are =
    let th : Theory = r.theory.now in
    let places : s.machine.places.items ≡ places_with r.machine.places.items l = m.places in
    let few : r.counts.certificates ≤ length (due th r.machine.places.items) = omega (arith, k.certificates, k.due) in
    record {
      next = m.next;
      passes = p;
      within = q;
      seen = seen_then th (counted_in (seen_of w r)) (counted_in (seen_of w s)) (terms_in r.table) r.machine.places.items w l (terms_in s.table)
          s.machine.places.items o counts_are e places;
      queue = m.queue;
      reader = record {
        kept = subst (λ ts. IsMachineOf ts s.machine) (sym e) m.kept;
        set = subst (λ x. IsSet x s.machine.places.items) (sym t) (subst (λ x. IsSet th x) (sym places) (set_then th (seen_of w r) l k.set p));
        step = b;
        due = due_is ∙ ap (λ x. length (due th x)) (sym places) ∙ ap (λ x. length (due x s.machine.places.items)) (sym t);
        certificates = omega (arith, certificates_then th (seen_of w r) l few p, ap (λ x. x.certificates) counts_are, due_is);
        steps = omega (arith, steps_then th (seen_of w r) l k.steps q, ap (λ x. x.steps) counts_are);
        givens = omega (arith, givens_then r.counts.givens l o k.givens, ap (λ x. x.givens) counts_are);
        ifs = omega (arith, ifs_then th (seen_of w r) l k.ifs q, ap (λ x. x.ifs) counts_are);
      };
    }

-- A link is taken, and the counts stay.
module _ (w : List ℕ) (r s : LineReader) (l : Line) (k : IsReader r) (o : IsOther l) (t : s.theory.now ≡ r.theory.now)
    (p : passes_at r.theory.now (seen_of w r) l ≡ true) (due_is : s.counts.due ≡ length (due r.theory.now (places_with r.machine.places.items l)))
    (counts_are : counted_in (seen_of w s) ≡ counted_with (counted_in (seen_of w r)) l) where
  pub link_handled : (b v : Bool) → limit_at r.theory.now (seen_of w r) l ≡ v → Advances b r l s → Handles (taken_where b v) w r l s
  link_handled false v q a = inl a
  link_handled true false q a = other_handled w r s l k o t p q a due_is counts_are
  link_handled true true q a = (now_of s.machine, a.0.next, p, q)

-- A condition of a goal.

condition_found : (th : Theory) (ts : List Tree) (a b : ℕ) (q : Pair) → Some q ≡ condition_for th ts a b
    → (is_condition th ts a b ≡ true) × (q ≡ pair_at ts (a, b))
condition_found th ts a b q e = go (is_condition th ts a b) refl e
  where
    go : (t : Bool) → is_condition th ts a b ≡ t → Some q ≡ (if t then Some (pair_at ts (a, b)) else None) → (is_condition th ts a b ≡ true) × (q ≡ pair_at ts (a, b))
    go true x e = (x, same_Some q (pair_at ts (a, b)) e)
    go false x e = absurd (none-some q (sym e))

after_given_line : (n m : Now) (p : ℕ × ℕ) (t : ReadTable) → next_given n p ≡ Some m → is_open t ≡ false → IsInStep m t
after_given_line (Opened gs) m p t e o = let q = option_map_some Opened (add_given gs p) m e in subst (λ n. IsInStep n t) q.2 o
after_given_line _ m p t e o = absurd (cc)

module _ (w : List ℕ) (r s : LineReader) (a b : ℕ) (q : Pair) (k : IsReader r) (second : (r.counts.version == 2) ≡ true)
    (found : Some q ≡ condition_for r.theory.now (terms_in r.table) a b)
    (moves : (ts : List Tree) → IsMachineOf ts r.machine → q ≡ pair_at ts (a, b) → Moves true ts r.machine (given_line a b) s.machine) where
  passes : passes_at r.theory.now (seen_of w r) (given_line a b) ≡ true
  passes = and_from (r.counts.version == 2) (is_condition r.theory.now (terms_in r.table) a b) second
      (condition_found r.theory.now (terms_in r.table) a b q found).0

  moved : MachineTakes (terms_in r.table) r.machine (given_line a b) s.machine
  moved = moves (terms_in r.table) k.kept (condition_found r.theory.now (terms_in r.table) a b q found).1

  given_over : condition_limit ≤ r.counts.givens → Handles Limit w r (given_line a b) s
  given_over h = (now_of s.machine, moved.next, passes, lt-ltb condition_limit (r.counts.givens + 1) (omega (arith, h)))

  given_handled : r.counts.givens < condition_limit → s.theory.now ≡ r.theory.now → s.counts ≡ record r.counts { givens = r.counts.givens + 1 }
      → terms_in s.table ≡ terms_in r.table → is_open s.table ≡ false → Handles Yes w r (given_line a b) s
  given_handled h t n us o =
      let th : Theory = r.theory.now in
      let places : s.machine.places.items ≡ r.machine.places.items = moved.places in
      let due_is : s.counts.due ≡ r.counts.due = ap (λ x. x.due) n in
      record {
        next = moved.next;
        passes = passes;
        within = le-ltb condition_limit (r.counts.givens + 1) (omega (arith, h));
        seen = same_seen (after th (seen_of w r) (given_line a b)) (counted_in (seen_of w s)) (terms_in s.table) s.machine.places.items
            (ap (λ x. counted x.version x.certificates x.steps x.givens x.ifs) n) us places;
        queue = moved.queue;
        reader = record {
          kept = subst (λ ts. IsMachineOf ts s.machine) (sym us) moved.kept;
          set = subst (λ x. IsSet x s.machine.places.items) (sym t) (subst (λ x. IsSet th x) (sym places) k.set);
          step = after_given_line (now_of r.machine) (now_of s.machine) (a, b) s.table moved.next o;
          due = due_is ∙ k.due ∙ ap (λ x. length (due x r.machine.places.items)) (sym t) ∙ ap (λ x. length (due s.theory.now x)) (sym places);
          certificates = omega (arith, k.certificates, ap (λ x. x.certificates) n, due_is);
          steps = omega (arith, k.steps, ap (λ x. x.steps) n);
          givens = omega (arith, h, ap (λ x. x.givens) n);
          ifs = omega (arith, k.ifs, ap (λ x. x.ifs) n);
        };
      }

  -- it is counted, or passes the limit
  pub given_counted : (taken : Taken) → CountsGiven taken r.counts s.counts → s.theory.now ≡ r.theory.now → terms_in s.table ≡ terms_in r.table
      → is_open s.table ≡ false → Handles taken w r (given_line a b) s
  given_counted Yes n t us o = given_handled n.0 t n.1 us o
  given_counted Refused n t us o = absurd n
  given_counted Limit n t us o = given_over n.0
