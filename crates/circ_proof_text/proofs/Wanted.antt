-- The whys that open splits still want, and the conditions that are open, are told by the part under way.
use Rattle.std.specs.Prelude.{◌≡◌, ℕ, ◌+◌, ◌-◌, ◌<◌, nat_lt, nat_eq, cond, Bool, true, zero, suc}
use Rattle.std.specs.Prelude.{false, if◌then◌else◌, List, [], ◌∷◌, length, map, refl, Option, Some, None}
use Rattle.std.specs.List.{AllByRecursion}
use Rattle.std.specs.Option.{option_map, option_and_then}
use Rattle.std.proofs.Common.{sym, ◌∙◌, ap, arith}
use Rattle.std.proofs.lemmas.Bool.{lt-ltb, le-ltb, eqb-true, eqb-false}
use Rattle.std.proofs.lemmas.Option.{same_Some}
use Rattle.circ_term.specs.Tree.{Tree}
use Rattle.circ_theory.specs.Theory.{Theory}
use Rattle.circ_proof.specs.Proof.{GoalNames}
use Rattle.circ_proof.specs.Plain.{LinkOf, ChainOf, WhyOf, Same_why, Split_why, no_why}
use Rattle.circ_line.specs.Line.{Line, head_line, table_line, place_line, certificate_line, block_line, goal_line, given_line, simplify_line}
use Rattle.circ_line.specs.Line.{reduce_line, derive_line, cases_line, done_line, same_line, split_line, if_line, left_line, right_line, end_line}
use Rattle.circ_proof.specs.Counting.{why_count}
use Rattle.circ_grammar.specs.Machine.{OpenSplit, State, begin, tabling, placing, certifying, opened, stepping, simplifying, reducing, joining, closed, ended}
use Rattle.circ_grammar.specs.Machine.{empty, push_why, open_split, add_left, add_given, in_last, in_right, next, run}
use Rattle.circ_grammar.specs.Grammar.{is_bare}
use Rattle.circ_grammar.specs.Now.{Now, Begin, Tabling, Placing, Certifying, Opened, Stepping, Simplifying, Reducing, Joining, Closed, Ended, now}
use Rattle.circ_grammar.specs.Now.{give_why_now, give_chain_now, next_if, next_given, is_front, is_block, is_step, next_table, next_head, next_place, next_goal, next_same, next_split, next_left, next_right}
use Rattle.circ_grammar.specs.Now.{next_end, next_now}
use Rattle.circ_grammar.proofs.Spelled.{why_count-push, option_map_some, under_test}
use Rattle.circ_grammar.proofs.Finish.{Waits, IsSound, next_sound}
use Rattle.circ_grammar.proofs.Now.{next_is}
use Rattle.circ_proof_text.specs.Checks.{Seen, nothing, with_term, after_why, after_same, after_split, after, after_all}

-- how many whys a split still wants
abbrev pub wants : OpenSplit → ℕ
wants f = f.count - why_count f.whys

abbrev pub wants_of : Now → List ℕ
wants_of (Reducing fs c) = map wants fs
wants_of Begin = []
wants_of Tabling = []
wants_of (Placing ps) = []
wants_of (Certifying ls) = []
wants_of (Opened gs) = []
wants_of Stepping = []
wants_of (Simplifying c) = []
wants_of (Joining n c) = wants_of n
wants_of Closed = []
wants_of Ended = []

-- how many conditions are open
abbrev pub ifs_of : Now → ℕ
ifs_of (Joining n c) = suc (ifs_of n)
ifs_of _ = 0

abbrev open_of : Now → ℕ × List ℕ
open_of u = (ifs_of u, wants_of u)

abbrev AllWait : Now → Type 0
AllWait (Reducing fs c) = AllByRecursion Waits fs
AllWait (Joining n c) = AllWait n
AllWait _ = Unit {0}

-- what a line makes of the conditions that are open and the whys that are wanted

abbrev same_open : ℕ → List ℕ → ℕ × List ℕ
same_open zero ws = (zero, after_why ws)
same_open (suc n) ws = (n, ws)

abbrev open_after : ℕ × List ℕ → Line → ℕ × List ℕ
open_after x reduce_line = (x.0, [])
open_after x same_line = same_open x.0 x.1
open_after x (split_line t n) = (x.0, after_split x.1 n)
open_after x if_line = (suc x.0, x.1)
open_after x _ = x

abbrev open_in : Seen → ℕ × List ℕ
open_in c = (c.ifs, c.wanted)

term_keeps : (c : Seen) (o : Option Tree) → open_in (with_term c o) ≡ open_in c
term_keeps c None = refl
term_keeps c (Some t) = refl

after_is : (th : Theory) (c : Seen) (l : Line) → open_in (after th c l) ≡ open_after (open_in c) l
after_is th c (head_line v) = refl
after_is th c (table_line x) = term_keeps c _
after_is th c (place_line a b) = refl
after_is th c certificate_line = refl
after_is th c block_line = refl
after_is th c (goal_line a b) = refl
after_is th c (given_line a b) = refl
after_is th c simplify_line = refl
after_is th c reduce_line = refl
after_is th c derive_line = refl
after_is th c (cases_line t) = refl
after_is th c done_line = refl
after_is th c same_line = closes c.ifs
  where
    closes : (n : ℕ) → open_in (after_same (record c { ifs = n }) n) ≡ same_open n c.wanted
    closes zero = refl
    closes (suc n) = refl
after_is th c (split_line t n) = refl
after_is th c if_line = refl
after_is th c (left_line l) = refl
after_is th c (right_line l) = refl
after_is th c end_line = refl

-- a why is given

-- a split with one why more, and the why that it is when it is whole

abbrev with_why : OpenSplit → WhyOf ℕ → OpenSplit
with_why f w = open_split f.chain f.term f.count (push_why f.whys w)

abbrev whole_split : OpenSplit → WhyOf ℕ → WhyOf ℕ
whole_split f w = Split_why f.chain f.term (push_why f.whys w)

abbrev given_to : Bool → OpenSplit → List OpenSplit → WhyOf ℕ → Now
given_to b f fs w = cond b (give_why_now fs (whole_split f w)) (Reducing (with_why f w ∷ fs) empty)

abbrev wanted_then : Bool → OpenSplit → List OpenSplit → List ℕ
wanted_then b f fs = if b then (wants f - 1) ∷ map wants fs else after_why (map wants fs)

given_wants : (fs : List OpenSplit) (w : WhyOf ℕ) → AllByRecursion Waits fs → after_why (map wants fs) ≡ wants_of (give_why_now fs w)
given_wants [] w h = refl
given_wants (f ∷ fs) w h = go (nat_eq (why_count f.whys + 1) f.count) refl (given_wants fs (whole_split f w) h.1)
  where
    waits : why_count f.whys < f.count
    waits = h.0

    less : (m n : ℕ) → (m ≡ n → ⊥) → m < n + 1 → m < n
    less m n e l = omega (arith, e, l)

    go : (b : Bool) → nat_eq (why_count f.whys + 1) f.count ≡ b → after_why (map wants fs) ≡ wants_of (give_why_now fs (whole_split f w))
        → wanted_then (nat_lt 1 (wants f)) f fs ≡ wants_of (given_to (nat_eq (why_count f.whys + 1) f.count) f fs w)
    go true e ih =
        let s : why_count f.whys + 1 ≡ f.count = eqb-true (why_count f.whys + 1) f.count e in
        ap (λ b. wanted_then b f fs) (le-ltb 1 (wants f) (omega (arith, s))) ∙ ih ∙ ap (λ b. wants_of (given_to b f fs w)) (sym e)
    go false e ih =
        let s : why_count f.whys + 1 ≡ f.count → ⊥ = eqb-false (why_count f.whys + 1) f.count e in
        let low : why_count f.whys + 1 < f.count = less (why_count f.whys + 1) f.count s (omega (arith, waits)) in
        let m : wants f - 1 ≡ f.count - why_count (push_why f.whys w) = omega (arith, why_count-push f.whys w) in
        ap (λ b. wanted_then b f fs) (lt-ltb 1 (wants f) (omega (arith, low)))
        ∙ ap (λ n. n ∷ map wants fs) m ∙ ap (λ b. wants_of (given_to b f fs w)) (sym e)

-- the lines

abbrev Keeps : ℕ × List ℕ → Now → Type 0
Keeps x u = x ≡ open_of u

table_wants : (x : ℕ × List ℕ) (u v : Now) → next_table u ≡ Some v → Keeps x u → Keeps x v
table_wants x Tabling v e k = k ∙ ap open_of (same_Some Tabling v e)
table_wants x _ v e k = absurd (cc)

head_wants : (x : ℕ × List ℕ) (u v : Now) → next_head u ≡ Some v → Keeps x u → Keeps x v
head_wants x Begin v e k = k ∙ ap open_of (same_Some Tabling v e)
head_wants x _ v e k = absurd (cc)

place_wants : (x : ℕ × List ℕ) (u v : Now) (p : ℕ × ℕ) → next_place u p ≡ Some v → Keeps x u → Keeps x v
place_wants x Tabling v p e k = k ∙ ap open_of (same_Some _ v e)
place_wants x (Placing ps) v p e k = k ∙ ap open_of (same_Some _ v e)
place_wants x _ v p e k = absurd (cc)

front_wants : (x : ℕ × List ℕ) (u v : Now) → cond (is_front u) (Some (Certifying [])) None ≡ Some v → Keeps x u → Keeps x v
front_wants x Tabling v e k = k ∙ ap open_of (same_Some _ v e)
front_wants x (Placing ps) v e k = k ∙ ap open_of (same_Some _ v e)
front_wants x (Certifying ls) v e k = k ∙ ap open_of (same_Some _ v e)
front_wants x _ v e k = absurd (cc)

block_wants : (x : ℕ × List ℕ) (u v : Now) → cond (is_block u) (Some (Opened [])) None ≡ Some v → Keeps x u → Keeps x v
block_wants x Tabling v e k = k ∙ ap open_of (same_Some _ v e)
block_wants x (Placing ps) v e k = k ∙ ap open_of (same_Some _ v e)
block_wants x (Certifying ls) v e k = k ∙ ap open_of (same_Some _ v e)
block_wants x Closed v e k = k ∙ ap open_of (same_Some _ v e)
block_wants x _ v e k = absurd (cc)

goal_wants : (x : ℕ × List ℕ) (u v : Now) (a b : ℕ) → next_goal u a b ≡ Some v → Keeps x u → Keeps x v
goal_wants x (Opened gs) v a b e k = k ∙ ap open_of (same_Some _ v e)
goal_wants x _ v a b e k = absurd (cc)

-- where a step may begin no why is wanted
step_wants : (x : ℕ × List ℕ) (u y v : Now) → cond (is_step u) (Some y) None ≡ Some v → Keeps x u → (x ≡ (0, [])) × (y ≡ v)
step_wants x (Opened gs) y v e k = go (nat_eq (length gs) 0) e
  where
    go : (b : Bool) → cond (cond b false true) (Some y) None ≡ Some v → (x ≡ (0, [])) × (y ≡ v)
    go true e = absurd (cc)
    go false e = (k, same_Some y v e)
step_wants x Stepping y v e k = (k, same_Some y v e)
step_wants x (Simplifying c) y v e k = (k, same_Some y v e)
step_wants x _ y v e k = absurd (cc)

-- a why that is given leaves no condition open
none_open : (fs : List OpenSplit) (w : WhyOf ℕ) → ifs_of (give_why_now fs w) ≡ 0
none_open [] w = refl
none_open (f ∷ fs) w = go (nat_eq (why_count f.whys + 1) f.count) (none_open fs (whole_split f w))
  where
    go : (b : Bool) → ifs_of (give_why_now fs (whole_split f w)) ≡ 0 → ifs_of (given_to b f fs w) ≡ 0
    go true h = h
    go false h = refl

given_open : (fs : List OpenSplit) (w : WhyOf ℕ) → AllByRecursion Waits fs → same_open 0 (map wants fs) ≡ open_of (give_why_now fs w)
given_open fs w h = ap (λ y. (0, y)) (given_wants fs w h) ∙ ap (λ n. (n, wants_of (give_why_now fs w))) (sym (none_open fs w))

-- the chain of a condition leaves open what was open outside it
chain_open : (u v : Now) (c : ChainOf ℕ) → give_chain_now u c ≡ Some v → open_of u ≡ open_of v
chain_open (Certifying ls) v c e = let p : (ms : List (LinkOf ℕ)) × (in_last ls c ≡ Some ms) × (Certifying ms ≡ v) =
    option_map_some Certifying (in_last ls c) v e in ap open_of p.2
chain_open (Simplifying d) v c e = let p : (x : ChainOf ℕ) × (in_right d.left d.right c ≡ Some x) × (Simplifying x ≡ v) =
    option_map_some Simplifying (in_right d.left d.right c) v e in ap open_of p.2
chain_open (Reducing fs d) v c e = let p : (x : ChainOf ℕ) × (in_right d.left d.right c ≡ Some x) × (Reducing fs x ≡ v) =
    option_map_some (Reducing fs) (in_right d.left d.right c) v e in ap open_of p.2
chain_open (Joining n d) v c e = let p : (x : ChainOf ℕ) × (in_right d.left d.right c ≡ Some x) × (Joining n x ≡ v) =
    option_map_some (Joining n) (in_right d.left d.right c) v e in ap open_of p.2
chain_open _ v c e = absurd (cc)

if_wants : (x : ℕ × List ℕ) (u v : Now) → next_if u ≡ Some v → Keeps x u → Keeps (suc x.0, x.1) v
if_wants x u v e k = let p : (q : Now) × (give_chain_now u empty ≡ Some q) × (Joining u empty ≡ v) =
    option_map_some (λ q. Joining u empty) (give_chain_now u empty) v e in
    ap (λ y. (suc y.0, y.1)) k ∙ ap open_of p.2

cond_wants : (x : ℕ × List ℕ) (u v : Now) (p : ℕ × ℕ) → next_given u p ≡ Some v → Keeps x u → Keeps x v
cond_wants x (Opened gs) v p e k = let q : (hs : List GoalNames) × (add_given gs p ≡ Some hs) × (Opened hs ≡ v) =
    option_map_some Opened (add_given gs p) v e in k ∙ ap open_of q.2
cond_wants x _ v p e k = absurd (cc)

same_wants : (x : ℕ × List ℕ) (u v : Now) → AllWait u → next_same u ≡ Some v → Keeps x u → Keeps (same_open x.0 x.1) v
same_wants x (Reducing fs c) v h e k = ap (λ y. same_open y.0 y.1) k ∙ given_open fs (Same_why c) h ∙ ap open_of (same_Some _ v e)
same_wants x (Joining n c) v h e k = ap (λ y. same_open y.0 y.1) k ∙ chain_open n v c e
same_wants x _ v h e k = absurd (cc)

split_wants : (x : ℕ × List ℕ) (u v : Now) (t n : ℕ) → AllWait u → next_split u t n ≡ Some v → Keeps x u → Keeps (x.0, after_split x.1 n) v
split_wants x (Reducing fs c) v t n h e k = ap (λ y. (y.0, after_split y.1 n)) k ∙ go (nat_eq n 0) ∙ ap open_of (same_Some _ v e)
  where
    go : (b : Bool) → ◌≡◌ {A = ℕ × List ℕ} (0, (if b then after_why (map wants fs) else n ∷ map wants fs))
        (open_of (cond b (give_why_now fs (Split_why c t no_why)) (Reducing (open_split c t n no_why ∷ fs) empty)))
    go true = given_open fs (Split_why c t no_why) h
    go false = let z : n ≡ n - 0 = omega arith in ap (λ m. (0, m ∷ map wants fs)) z
split_wants x _ v t n h e k = absurd (cc)

left_wants : (x : ℕ × List ℕ) (u v : Now) (l : LinkOf ℕ) → next_left u l ≡ Some v → Keeps x u → Keeps x v
left_wants x (Certifying ls) v l e k = k ∙ ap open_of (same_Some _ v e)
left_wants x (Simplifying c) v l e k =
    let p : (d : ChainOf ℕ) × (add_left c l ≡ Some d) × (Simplifying d ≡ v) = option_map_some Simplifying (add_left c l) v e in k ∙ ap open_of p.2
left_wants x (Reducing fs c) v l e k =
    let p : (d : ChainOf ℕ) × (add_left c l ≡ Some d) × (Reducing fs d ≡ v) = option_map_some (Reducing fs) (add_left c l) v e in k ∙ ap open_of p.2
left_wants x (Joining n c) v l e k =
    let p : (d : ChainOf ℕ) × (add_left c l ≡ Some d) × (Joining n d ≡ v) = option_map_some (Joining n) (add_left c l) v e in k ∙ ap open_of p.2
left_wants x _ v l e k = absurd (cc)

right_wants : (x : ℕ × List ℕ) (u v : Now) (l : LinkOf ℕ) → next_right u l ≡ Some v → Keeps x u → Keeps x v
right_wants x (Simplifying c) v l e k = k ∙ ap open_of (same_Some _ v e)
right_wants x (Reducing fs c) v l e k = k ∙ ap open_of (same_Some _ v e)
right_wants x (Joining n c) v l e k = k ∙ ap open_of (same_Some _ v e)
right_wants x _ v l e k = absurd (cc)

end_wants : (x : ℕ × List ℕ) (u v : Now) → next_end u ≡ Some v → Keeps x u → Keeps x v
end_wants x Closed v e k = k ∙ ap open_of (same_Some _ v e)
end_wants x _ v e k = absurd (cc)

line_wants : (x : ℕ × List ℕ) (u v : Now) (l : Line) → AllWait u → next_now u l ≡ Some v → Keeps x u → Keeps (open_after x l) v
line_wants x u v (head_line w) h e k = head_wants x u v e k
line_wants x u v (table_line y) h e k = table_wants x u v e k
line_wants x u v (place_line a b) h e k = place_wants x u v (a, b) e k
line_wants x u v certificate_line h e k = front_wants x u v e k
line_wants x u v block_line h e k = block_wants x u v e k
line_wants x u v (goal_line a b) h e k = goal_wants x u v a b e k
line_wants x u v (given_line a b) h e k = cond_wants x u v (a, b) e k
line_wants x u v simplify_line h e k = let p = step_wants x u (Simplifying empty) v e k in p.0 ∙ ap open_of p.1
line_wants x u v reduce_line h e k = let p = step_wants x u (Reducing [] empty) v e k in ap (λ y. (y.0, [])) p.0 ∙ ap open_of p.1
line_wants x u v derive_line h e k = let p = step_wants x u Stepping v e k in p.0 ∙ ap open_of p.1
line_wants x u v (cases_line t) h e k = let p = step_wants x u Stepping v e k in p.0 ∙ ap open_of p.1
line_wants x u v done_line h e k = let p = step_wants x u Closed v e k in p.0 ∙ ap open_of p.1
line_wants x u v same_line h e k = same_wants x u v h e k
line_wants x u v (split_line t n) h e k = split_wants x u v t n h e k
line_wants x u v if_line h e k = if_wants x u v e k
line_wants x u v (left_line l) h e k = under_test (is_bare l) (next_left u l) v e (λ b e. left_wants x u v l e k)
line_wants x u v (right_line l) h e k = under_test (is_bare l) (next_right u l) v e (λ b e. right_wants x u v l e k)
line_wants x u v end_line h e k = end_wants x u v e k

all_wait : (m : State) → IsSound m → AllWait (now m)
all_wait begin h = tt
all_wait (tabling es) h = tt
all_wait (placing es ps) h = tt
all_wait (certifying f ls) h = tt
all_wait (opened o) h = tt
all_wait (stepping o) h = tt
all_wait (simplifying o c) h = tt
all_wait (reducing o fs c) h = h.1
all_wait (joining m c) h = all_wait m h.0
all_wait (closed f bs) h = tt
all_wait (ended f bs) h = tt

-- What lines leave open is what is open in the part under way.
lines_open : (th : Theory) (c : Seen) (m n : State) (ls : List Line) → IsSound m → run m ls ≡ Some n → open_in c ≡ open_of (now m)
    → open_in (after_all th c ls) ≡ open_of (now n)
lines_open th c m n [] s e k = k ∙ ap (λ x. open_of (now x)) (same_Some m n e)
lines_open th c m n (l ∷ ls) s e k = go (next m l) refl e (λ q t f w. lines_open th (after th c l) q n ls t f w)
  where
    go : (o : Option State) → next m l ≡ o → option_and_then (λ q. run q ls) o ≡ Some n
        → ((q : State) → IsSound q → run q ls ≡ Some n → open_in (after th c l) ≡ open_of (now q) → open_in (after_all th (after th c l) ls) ≡ open_of (now n))
        → open_in (after_all th (after th c l) ls) ≡ open_of (now n)
    go None f r ih = absurd (cc)
    go (Some q) f r ih =
        let u : next_now (now m) l ≡ Some (now q) = sym (next_is m l) ∙ ap (option_map now) f in
        ih q (next_sound m q l s f) r (after_is th c l ∙ line_wants (open_in c) (now m) (now q) l (all_wait m s) u k)

-- The whys that lines leave wanted are those of the part under way.
pub lines_wanted : (th : Theory) (n : State) (ls : List Line) → run begin ls ≡ Some n → (after_all th nothing ls).wanted ≡ wants_of (now n)
lines_wanted th n ls e = ap (λ x. x.1) (lines_open th nothing begin n ls tt e refl)

-- As many conditions are open as in the part under way.
pub lines_ifs : (th : Theory) (n : State) (ls : List Line) → run begin ls ≡ Some n → (after_all th nothing ls).ifs ≡ ifs_of (now n)
lines_ifs th n ls e = ap (λ x. x.0) (lines_open th nothing begin n ls tt e refl)
