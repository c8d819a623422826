-- Nodes name those before them, and which child a derivative has.
use Rattle.std.proofs.Common.{◌≡◌, ◌≤◌, ◌<◌, ◌+◌, ◌==◌, ℕ, Bool, true, false, nat_lt, if◌then◌else◌, List, [], ◌∷◌, zero, suc, map, length, take, drop, Option, Some, None, refl, ap, sym, ◌∙◌, arith}
use Rattle.std.specs.List.{slice_get}
use Rattle.std.specs.Option.{option_map_or}
use Rattle.std.proofs.lemmas.Bool.{ltb-true, ltb-false}
use Rattle.circ_term.specs.Tree.{Tree}
use Rattle.circ_theory.specs.Theory.{Derivative}
use Rattle.circ_expansion.specs.Followed.{History, Open, no_history, more_histories, first_history, other_histories}
use Rattle.circ_expansion.specs.Expand.{child}
use Rattle.circ_book.specs.Histories.{histories_of, history_at, history_below, history_with}
use Rattle.circ_tasks.specs.Tasks.{holes_before}
use Rattle.circ_book.specs.declared.histories.Node.{Node}
use Rattle.circ_book.proofs.Below.{not_below, node_is, descend}
use Rattle.circ_uses.proofs.Guarding.{drop_at}

-- a node before another is told of in the same way by both
pub earlier_same : (table : List Tree) (ns : List Node) (k j : ℕ) → k < length ns
    → option_map_or (history_at table ns) (if nat_lt j k then Some j else None) Open ≡ history_below table k ns j
earlier_same table ns k j lt = go (nat_lt j k) refl
  where
    go : (b : Bool) → nat_lt j k ≡ b → option_map_or (history_at table ns) (if b then Some j else None) Open ≡ history_below table k ns j
    go true e = let h : j < k = ltb-true j k e in node_is table ns j (omega (arith, h, lt)) ∙ sym (descend table ns k j h)
    go false e = sym (not_below table ns k j (ltb-false j k e))

-- what becomes of a node that there is
pub node_there : (table : List Tree) (ns : List Node) (k : ℕ) (n : Node) → k < length ns → slice_get ns k ≡ Some n
    → history_at table ns k ≡ history_with table (history_below table k ns) n.goal n.what
node_there table ns k n lt e =
    node_is table ns k lt ∙ ap (λ o. option_map_or (λ (x : Node). history_with table (history_below table k ns) x.goal x.what) o Open) e

pub node_nowhere : (table : List Tree) (ns : List Node) (k : ℕ) → length ns ≤ k → history_at table ns k ≡ Open
node_nowhere table ns k h = not_below table ns (length ns) k h

pub child_none : (ds : List Derivative) (s : ℕ) (hs : _) (k : ℕ) → length ds ≤ k → child ds s hs k ≡ Open
child_none [] s hs k h = refl
child_none (d ∷ ds) s hs zero h = absurd (omega arith)
child_none (d ∷ ds) s hs (suc k) h = child_none ds s (if d.hole == s then other_histories hs else hs) k (omega arith)

abbrev no_numbers : List ℕ
no_numbers = []

first_is : (h : ℕ → History) (cs : List ℕ) → first_history (histories_of (map h cs)) ≡ option_map_or h (slice_get cs 0) Open
first_is h [] = refl
first_is h (c ∷ cs) = refl

-- it is that by the number of derivatives before it with a hole of the sort
pub child_at : (h : ℕ → History) (ds : List Derivative) (s : ℕ) (cs : List ℕ) (k : ℕ) → k < length ds
    → child ds s (histories_of (map h cs)) k ≡ option_map_or h (slice_get cs (holes_before s (take k ds))) Open
child_at h [] s cs k lt = absurd (omega arith)
child_at h (d ∷ ds) s cs zero lt = first_is h cs
child_at h (d ∷ ds) s [] (suc k) lt = go (d.hole == s) (child_at h ds s [] k (omega arith))
  where
    go : (b : Bool) → child ds s no_history k ≡ Open
        → child ds s (if b then no_history else no_history) k ≡ option_map_or h (slice_get no_numbers ((if b then 1 else 0) + holes_before s (take k ds))) Open
    go true e = e
    go false e = e
child_at h (d ∷ ds) s (c ∷ cs) (suc k) lt = go (d.hole == s) (child_at h ds s cs k (omega arith)) (child_at h ds s (c ∷ cs) k (omega arith))
  where
    go : (b : Bool) → child ds s (histories_of (map h cs)) k ≡ option_map_or h (slice_get cs (holes_before s (take k ds))) Open
        → child ds s (histories_of (map h (c ∷ cs))) k ≡ option_map_or h (slice_get (c ∷ cs) (holes_before s (take k ds))) Open
        → child ds s (if b then other_histories (histories_of (map h (c ∷ cs))) else histories_of (map h (c ∷ cs))) k
        ≡ option_map_or h (slice_get (c ∷ cs) ((if b then 1 else 0) + holes_before s (take k ds))) Open
    go true e f = e ∙ (let z : suc (holes_before s (take k ds)) ≡ 1 + holes_before s (take k ds) = omega arith in
        ap (λ j. option_map_or h (slice_get (c ∷ cs) j) Open) z)
    go false e f = f ∙ (let z : holes_before s (take k ds) ≡ 0 + holes_before s (take k ds) = omega arith in
        ap (λ j. option_map_or h (slice_get (c ∷ cs) j) Open) z)

-- one derivative more is counted
pub holes_next : (ds : List Derivative) (count s k : ℕ) (d : Derivative) → k < count → slice_get ds k ≡ Some d
    → holes_before s (drop k (take count ds)) ≡ (if d.hole == s then 1 else 0) + holes_before s (drop (k + 1) (take count ds))
holes_next ds count s k d lt e = ap (holes_before s) (drop_at (take count ds) k d (front ds count k lt e))
  where
    front : (ds : List Derivative) (count k : ℕ) → k < count → slice_get ds k ≡ Some d → slice_get (take count ds) k ≡ Some d
    front [] count k lt e = absurd (cc)
    front (x ∷ ds) zero k lt e = absurd (omega arith)
    front (x ∷ ds) (suc count) zero lt e = e
    front (x ∷ ds) (suc count) (suc k) lt e = front ds count k (omega arith) e

pub holes_done : (s : ℕ) (ds : List Derivative) (k : ℕ) → length ds ≤ k → holes_before s (drop k ds) ≡ 0
holes_done s [] zero h = refl
holes_done s [] (suc k) h = refl
holes_done s (d ∷ ds) zero h = absurd (omega arith)
holes_done s (d ∷ ds) (suc k) h = holes_done s ds k (omega arith)
