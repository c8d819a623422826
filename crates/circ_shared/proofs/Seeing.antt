-- Variables that were seen stay, and seeing them again changes nothing.
use Rattle.std.proofs.Common.{◌≡◌, ℕ, ◌+◌, ◌≤◌, ◌<◌, Bool, true, false, cond, ◌||◌, if◌then◌else◌, List, [], ◌∷◌, ◌++◌, map, length, drop, get_or, Some, None, Ordering, Less, Equal, Greater, refl, ap, sym, subst, ◌∙◌, append_assoc, append-nil, Bor}
use Rattle.std.specs.Prelude.{nat_eq, slice_index_or, Option, is_some}
use Rattle.std.specs.List.{list_any}
use Rattle.std.specs.Map.{lookup}
use Rattle.std.specs.Option.{option_copied}
use Rattle.std.specs.Ordering.{match_ordering}
use Rattle.std.specs.BTreeSet.{insert_key}
use Rattle.std.proofs.lemmas.Bool.{eqb-true, eq-eqb, and_parts}
use Rattle.std.proofs.lemmas.List.{drop_all}
use Rattle.circ_term.proofs.Within.{drop_read}
use Rattle.circ_term.specs.Tree.{Tree, Trees, Var, App, none, more, is_ground, are_ground, trees_of}
use Rattle.circ_term.specs.Growing.{Grows}
use Rattle.circ_theory.specs.Variables.{Variable as TheVariable, is_variable, sorted, seen, seen_in, seen_in_all, seen_in_pairs}
use Rattle.circ_nodes.specs.Named.{tree_at, IsNamed, AreNamed}
use Rattle.circ_nodes.proofs.Numbers.{grows_self, grows_more, named_later}
use Rattle.circ_replay.specs.Gathering.{variable_cmp}
use Rattle.circ_replay.proofs.Gathering.{gathered_seen}
use Rattle.circ_shared.specs.declared.variables.Variable.{Variable}
use Rattle.circ_shared.specs.declared.patterns.Sides.{Sides}
use Rattle.circ_shared.specs.Patterns.{variable_trees, pairs_at}
use Rattle.circ_shared.specs.Gathering.{variable_of, HasAll, AllHave, Gathers}
use Rattle.circ_shared.proofs.Loops.{drop_here}

any_front : (v : TheVariable) (us ws : List TheVariable) → list_any (is_variable v) us ≡ true → list_any (is_variable v) (us ++ ws) ≡ true
any_front v [] ws e = absurd (cc)
any_front v (u ∷ us) ws e = go (is_variable v u) (any_front v us ws) e
  where
    go : (b : Bool) → (list_any (is_variable v) us ≡ true → list_any (is_variable v) (us ++ ws) ≡ true) → (b || list_any (is_variable v) us) ≡ true
        → (b || list_any (is_variable v) (us ++ ws)) ≡ true
    go true ih e = refl
    go false ih e = ih e

itself : (v : TheVariable) → is_variable v v ≡ true
itself v = rw (eq-eqb v.number v.number refl, eq-eqb v.sort v.sort refl) refl

any_last : (v : TheVariable) (us : List TheVariable) → list_any (is_variable v) (us ++ v ∷ []) ≡ true
any_last v [] = rw (itself v) refl
any_last v (u ∷ us) = go (is_variable v u) (any_last v us)
  where
    go : (b : Bool) → list_any (is_variable v) (us ++ v ∷ []) ≡ true → (b || list_any (is_variable v) (us ++ v ∷ [])) ≡ true
    go true ih = refl
    go false ih = ih

seen_has : (v : TheVariable) (us : List TheVariable) → list_any (is_variable v) (seen v us) ≡ true
seen_has v us = go (list_any (is_variable v) us) refl
  where
    go : (b : Bool) → list_any (is_variable v) us ≡ b → list_any (is_variable v) (if b then us else us ++ v ∷ []) ≡ true
    go true e = e
    go false e = any_last v us

seen_keeps : (v w : TheVariable) (us : List TheVariable) → list_any (is_variable w) us ≡ true → list_any (is_variable w) (seen v us) ≡ true
seen_keeps v w us h = go (list_any (is_variable v) us)
  where
    go : (b : Bool) → list_any (is_variable w) (if b then us else us ++ v ∷ []) ≡ true
    go true = h
    go false = any_front w us (v ∷ []) h

mutual
  keeps : (t : Tree) (w : TheVariable) (us : List TheVariable) → list_any (is_variable w) us ≡ true → list_any (is_variable w) (seen_in t us) ≡ true
  keeps (Var n s) w us h = seen_keeps (record { number = n; sort = s }) w us h
  keeps (App f s ts) w us h = all_keep ts w us h

  all_keep : (ts : Trees) (w : TheVariable) (us : List TheVariable) → list_any (is_variable w) us ≡ true → list_any (is_variable w) (seen_in_all ts us) ≡ true
  all_keep none w us h = h
  all_keep (more t ts) w us h = all_keep ts w (seen_in t us) (keeps t w us h)

mutual
  has_wider : (t : Tree) (us vs : List TheVariable) → ((w : TheVariable) → list_any (is_variable w) us ≡ true → list_any (is_variable w) vs ≡ true) → HasAll us t → HasAll vs t
  has_wider (Var n s) us vs k h = k (record { number = n; sort = s }) h
  has_wider (App f s ts) us vs k h = all_wider ts us vs k h

  all_wider : (ts : Trees) (us vs : List TheVariable) → ((w : TheVariable) → list_any (is_variable w) us ≡ true → list_any (is_variable w) vs ≡ true) → AllHave us ts → AllHave vs ts
  all_wider none us vs k h = tt
  all_wider (more t ts) us vs k h = (has_wider t us vs k h.0, all_wider ts us vs k h.1)

mutual
  pub has_seen : (t : Tree) (us : List TheVariable) → HasAll (seen_in t us) t
  has_seen (Var n s) us = seen_has (record { number = n; sort = s }) us
  has_seen (App f s ts) us = all_seen ts us

  all_seen : (ts : Trees) (us : List TheVariable) → AllHave (seen_in_all ts us) ts
  all_seen none us = tt
  all_seen (more t ts) us =
      (has_wider t (seen_in t us) (seen_in_all ts (seen_in t us)) (λ w h. all_keep ts w (seen_in t us) h) (has_seen t us), all_seen ts (seen_in t us))

mutual
  pub seen_again : (t : Tree) (us : List TheVariable) → HasAll us t → seen_in t us ≡ us
  seen_again (Var n s) us h = rw h refl
  seen_again (App f s ts) us h = all_again ts us h

  all_again : (ts : Trees) (us : List TheVariable) → AllHave us ts → seen_in_all ts us ≡ us
  all_again none us h = refl
  all_again (more t ts) us h = ap (seen_in_all ts) (seen_again t us h.0) ∙ all_again ts us h.1

mutual
  ground_has : (t : Tree) (us : List TheVariable) → is_ground t ≡ true → HasAll us t
  ground_has (Var n s) us e = absurd (cc)
  ground_has (App f s ts) us e = all_ground ts us e

  all_ground : (ts : Trees) (us : List TheVariable) → are_ground ts ≡ true → AllHave us ts
  all_ground none us e = tt
  all_ground (more t ts) us e = let both = and_parts (is_ground t) (are_ground ts) e in (ground_has t us both.0, all_ground ts us both.1)

pub seen_ground : (t : Tree) (us : List TheVariable) → is_ground t ≡ true → seen_in t us ≡ us
seen_ground t us e = seen_again t us (ground_has t us e)

-- ---- what gathering keeps

-- a variable that is inserted is one that is seen
inserted : (ks : List Variable) (k : Variable)
    → map variable_of (insert_key (λ a b. variable_cmp (variable_of a) (variable_of b)) ks k) ≡ insert_key variable_cmp (map variable_of ks) (variable_of k)
inserted [] k = refl
inserted (x ∷ ks) k = go (inserted ks k) (variable_cmp (variable_of k) (variable_of x))
  where
    go : map variable_of (insert_key (λ a b. variable_cmp (variable_of a) (variable_of b)) ks k) ≡ insert_key variable_cmp (map variable_of ks) (variable_of k) → (o : Ordering)
        → map variable_of (match_ordering o (k ∷ x ∷ ks) (x ∷ ks) (x ∷ insert_key (λ a b. variable_cmp (variable_of a) (variable_of b)) ks k))
        ≡ match_ordering o (variable_of k ∷ map variable_of (x ∷ ks)) (map variable_of (x ∷ ks)) (variable_of x ∷ insert_key variable_cmp (map variable_of ks) (variable_of k))
    go ih Less = refl
    go ih Equal = refl
    go ih Greater = ap (λ us. variable_of x ∷ us) ih

-- the term is gone over now
seen_put : (nodes : List Tree) (vs : List TheVariable) (old new : List (ℕ × ℕ)) (p m : ℕ) → ((q n : ℕ) → lookup (nat_eq q) old ≡ Some n → HasAll vs (tree_at nodes q))
    → HasAll vs (tree_at nodes p) → ((q : ℕ) → lookup (nat_eq q) new ≡ cond (nat_eq p q) (Some m) (lookup (nat_eq q) old))
    → (q n : ℕ) → lookup (nat_eq q) new ≡ Some n → HasAll vs (tree_at nodes q)
seen_put nodes vs old new p m h one changes q n e = go (nat_eq p q) refl
  where
    go : (b : Bool) → nat_eq p q ≡ b → HasAll vs (tree_at nodes q)
    go true f = subst (λ x. HasAll vs (tree_at nodes x)) (eqb-true p q f) one
    go false f = h q n (sym (changes q ∙ rw f refl) ∙ e)

all_later : (nodes : List Tree) (vs : List TheVariable) (t : Tree) (made : List (ℕ × ℕ)) → ((q n : ℕ) → lookup (nat_eq q) made ≡ Some n → HasAll vs (tree_at nodes q))
    → (q n : ℕ) → lookup (nat_eq q) made ≡ Some n → HasAll (seen_in t vs) (tree_at nodes q)
all_later nodes vs t made h q n e = has_wider (tree_at nodes q) vs (seen_in t vs) (λ w k. keeps t w vs k) (h q n e)

pub gathers_same : (nodes : List Tree) (vs ws : List TheVariable) (made : List (ℕ × ℕ)) (keys : List Variable) → ws ≡ vs → Gathers nodes vs made keys → Gathers nodes ws made keys
gathers_same nodes vs ws made keys e h = subst (λ xs. Gathers nodes xs made keys) (sym e) h

pub gathers_variable : (nodes : List Tree) (vs : List TheVariable) (made : List (ℕ × ℕ)) (ks js : List Variable) (k : Variable) (p : ℕ) (t : Tree)
    → tree_at nodes p ≡ t → t ≡ Var k.number k.sort → Gathers nodes vs made ks
    → js ≡ insert_key (λ a b. variable_cmp (variable_of a) (variable_of b)) ks k → Gathers nodes (seen_in (tree_at nodes p) vs) made js
gathers_variable nodes vs made ks js k p t named_t is h put =
    let term : tree_at nodes p ≡ Var k.number k.sort = named_t ∙ is in
    record {
      sorted =
          ap (map variable_of) put ∙ inserted ks k ∙ ap (λ us. insert_key variable_cmp us (variable_of k)) h.sorted
          ∙ gathered_seen (Var k.number k.sort) vs ∙ ap (λ u. sorted (seen_in u vs)) (sym term);
      all = all_later nodes vs (tree_at nodes p) made h.all;
    }

pub gathers_noted : (nodes : List Tree) (vs : List TheVariable) (old new : List (ℕ × ℕ)) (ks : List Variable) (p m : ℕ)
    → Gathers nodes (seen_in (tree_at nodes p) vs) old ks
    → ((q : ℕ) → lookup (nat_eq q) new ≡ cond (nat_eq p q) (Some m) (lookup (nat_eq q) old)) → Gathers nodes (seen_in (tree_at nodes p) vs) new ks
gathers_noted nodes vs old new ks p m h changes = record {
  sorted = h.sorted;
  all = seen_put nodes (seen_in (tree_at nodes p) vs) old new p m h.all (has_seen (tree_at nodes p) vs) changes;
}

-- so far: the variables vs, with those of the terms that are left, are all
pub record GathersFrom (nodes : List Tree) (us : List TheVariable) (ns : List ℕ) (i : ℕ) (made : List (ℕ × ℕ)) (keys : List Variable) : Type 0 where
  pub variables : List TheVariable
  pub gathers : Gathers nodes variables made keys
  pub rest : seen_in_all (trees_of (map (tree_at nodes) (drop i ns))) variables ≡ seen_in_all (trees_of (map (tree_at nodes) ns)) us

pub gathers_first : (nodes : List Tree) (us : List TheVariable) (ns : List ℕ) (made : List (ℕ × ℕ)) (keys : List Variable) → Gathers nodes us made keys → GathersFrom nodes us ns 0 made keys
gathers_first nodes us ns made keys h = record { variables = us; gathers = h; rest = refl }

pub gathers_next : (nodes : List Tree) (us : List TheVariable) (ns : List ℕ) (i : ℕ) (old : List (ℕ × ℕ)) (ks : List Variable) (new : List (ℕ × ℕ)) (js : List Variable)
    → i < length ns → (h : GathersFrom nodes us ns i old ks) → Gathers nodes (seen_in (tree_at nodes (slice_index_or ns i 0)) h.variables) new js → GathersFrom nodes us ns (i + 1) new js
gathers_next nodes us ns i old ks new js b h one = record {
  variables = seen_in (tree_at nodes (slice_index_or ns i 0)) h.variables;
  gathers = one;
  rest = ap (λ xs. seen_in_all (trees_of (map (tree_at nodes) xs)) h.variables) (sym (drop_here ns i b)) ∙ h.rest;
}

pub gathers_last : (nodes : List Tree) (us : List TheVariable) (ns : List ℕ) (i : ℕ) (made : List (ℕ × ℕ)) (keys : List Variable) → length ns ≤ i → GathersFrom nodes us ns i made keys
    → Gathers nodes (seen_in_all (trees_of (map (tree_at nodes) ns)) us) made keys
gathers_last nodes us ns i made keys b h =
    let end : h.variables ≡ seen_in_all (trees_of (map (tree_at nodes) ns)) us =
    ap (λ xs. seen_in_all (trees_of (map (tree_at nodes) xs)) h.variables) (sym (drop_all i ns b)) ∙ h.rest in
    subst (λ xs. Gathers nodes xs made keys) end h.gathers

pub gathers_none : (nodes : List Tree) (made : List (ℕ × ℕ)) (keys : List Variable) → made ≡ [] → keys ≡ [] → Gathers nodes [] made keys
gathers_none nodes made keys e f = record {
  sorted = ap (map variable_of) f;
  all = λ p n l. absurd (let never : None ≡ Some n = (rw e at l) in cc);
}

-- so far, likewise, with the sides of the pairs that are left
pub record GathersPairs (nodes : List Tree) (us : List TheVariable) (ps : List Sides) (i : ℕ) (made : List (ℕ × ℕ)) (keys : List Variable) : Type 0 where
  pub variables : List TheVariable
  pub gathers : Gathers nodes variables made keys
  pub rest : seen_in_pairs (pairs_at nodes (drop i ps)) variables ≡ seen_in_pairs (pairs_at nodes ps) us

pub pairs_first : (nodes : List Tree) (us : List TheVariable) (ps : List Sides) (made : List (ℕ × ℕ)) (keys : List Variable) → Gathers nodes us made keys → GathersPairs nodes us ps 0 made keys
pairs_first nodes us ps made keys h = record { variables = us; gathers = h; rest = refl }

pub pairs_next : (nodes : List Tree) (us : List TheVariable) (ps : List Sides) (i : ℕ) (old : List (ℕ × ℕ)) (ks : List Variable) (new : List (ℕ × ℕ)) (js : List Variable) (s : Sides)
    → i < length ps → s ≡ get_or ps i s → (h : GathersPairs nodes us ps i old ks)
    → Gathers nodes (seen_in (tree_at nodes s.right) (seen_in (tree_at nodes s.left) h.variables)) new js → GathersPairs nodes us ps (i + 1) new js
pairs_next nodes us ps i old ks new js s b e h one = record {
  variables = seen_in (tree_at nodes s.right) (seen_in (tree_at nodes s.left) h.variables);
  gathers = one;
  rest = ap (λ xs. seen_in_pairs (pairs_at nodes xs) h.variables) (sym (drop_read ps i s b e)) ∙ h.rest;
}

pub pairs_last : (nodes : List Tree) (us : List TheVariable) (ps : List Sides) (i : ℕ) (made : List (ℕ × ℕ)) (keys : List Variable) → length ps ≤ i → GathersPairs nodes us ps i made keys
    → map variable_of keys ≡ sorted (seen_in_pairs (pairs_at nodes ps) us)
pairs_last nodes us ps i made keys b h =
    h.gathers.sorted ∙ ap sorted (ap (λ xs. seen_in_pairs (pairs_at nodes xs) h.variables) (sym (drop_all i ps b)) ∙ h.rest)

-- ---- the numbers of variables

-- the numbers so far, and any of the variables that are left, are those of all
abbrev pub NumberedFrom : (nodes : List Tree) (all rest : List Variable) (numbers : List ℕ) → Type 0
NumberedFrom nodes all rest numbers =
    (later : List Tree) (ms : List ℕ) → Grows nodes later → AreNamed later ms (variable_trees (map variable_of rest)) → AreNamed later (numbers ++ ms) (variable_trees (map variable_of all))

pub variables_next : (old new : List Tree) (all rest left : List Variable) (v : Variable) (n : ℕ) (numbers next : List ℕ) → Grows old new → rest ≡ v ∷ left
    → IsNamed new n (Var v.number v.sort) → next ≡ numbers ++ n ∷ [] → NumberedFrom old all rest numbers → NumberedFrom new all left next
variables_next old new all rest left v n numbers next g step named e so_far later ms on h =
    let P : List Variable → Type 0 = λ xs. AreNamed later (n ∷ ms) (variable_trees (map variable_of xs)) in
    let Q : List ℕ → Type 0 = λ ns. AreNamed later ns (variable_trees (map variable_of all)) in
    subst Q (sym (ap (λ ns. ns ++ ms) e ∙ append_assoc numbers (n ∷ []) ms))
    (so_far later (n ∷ ms) (grows_more old new later g on) (subst P (sym step) (named_later new later n (Var v.number v.sort) on named, h)))

pub variables_all : (nodes : List Tree) (all rest : List Variable) (numbers : List ℕ) → rest ≡ [] → NumberedFrom nodes all rest numbers
    → AreNamed nodes numbers (variable_trees (map variable_of all))
variables_all nodes all rest numbers end so_far =
    let P : List Variable → Type 0 = λ xs. AreNamed nodes [] (variable_trees (map variable_of xs)) in
    let Q : List ℕ → Type 0 = λ ns. AreNamed nodes ns (variable_trees (map variable_of all)) in
    subst Q (append-nil numbers) (so_far nodes [] (grows_self nodes) (subst P (sym end) tt))

pub looked_up : (o : Option (Bor ℕ)) (l : Option ℕ) → option_copied o ≡ l → is_some o ≡ true → (n : ℕ) × (l ≡ Some n)
looked_up None l e h = absurd (cc)
looked_up (Some x) l e h = (x.now, sym e)
