-- Terms that are entered again.
use Rattle.std.proofs.Common.{◌≡◌, ℕ, zero, suc, ◌+◌, ◌-◌, ◌<◌, ◌≤◌, Bool, false, List, [], ◌∷◌, ◌++◌, length, map, take, get_or, Some, Result, Ok, Err, OnOk, OnErr, refl, ap, sym, subst, ◌∙◌, arith, ◌⊎◌, inl, inr, length-append, append-nil}
use Rattle.std.specs.List.{slice_get, AllByRecursion}
use Rattle.std.proofs.lemmas.Bool.{cases_lt, cases_eq, false≢true}
use Rattle.std.proofs.lemmas.Bool.Decides.{nat_tests}
use Rattle.std.proofs.lemmas.List.{length-take}
use Rattle.std.proofs.lemmas.Option.{get_or_from_slice_get, same_Some}
use Rattle.circ_term.specs.Tree.{Tree, Trees, Var, App, none, more, args_of}
use Rattle.circ_term.specs.Growing.{Grows}
use Rattle.circ_nodes.specs.Named.{IsNamed, AreNamed, Enters, AddsOnly, IsPart, tree_at}
use Rattle.circ_nodes.proofs.Located.{named_tree}
use Rattle.circ_nodes.proofs.Numbers.{grows_more, named_later, are_named_one, are_named_at, all_below}
use Rattle.circ_nodes.proofs.Places.{get_last, get_pushed, get_taken}
use Rattle.circ_keeping.proofs.Marked.{below_at, all_lower}
use Rattle.circ_keeping.specs.declared.taking.Part.{Part}
use Rattle.circ_keeping.specs.declared.taking.Part.TheVariants.{Nothing, Variable, Application}
use Rattle.circ_keeping.specs.Marks.{HasMark, IsArgument, MarkParts}
use Rattle.circ_keeping.specs.Taken.{TakesNode}
use Rattle.circ_keeping.specs.Moved.{moved_number, Becomes, MayBecome}

-- what was added

pub adds_same : (P : Tree → Type 0) (nodes : List Tree) → AddsOnly P nodes nodes
adds_same P nodes n t h = inl h

pub adds_more : (P : Tree → Type 0) (a b c : List Tree) → AddsOnly P a b → AddsOnly P b c → AddsOnly P a c
adds_more P a b c g h n t k = go n t (h n t k)
  where
    go : (n : ℕ) (t : Tree) → IsNamed b n t ⊎ P t → IsNamed a n t ⊎ P t
    go n t (inl k) = g n t k
    go n t (inr p) = inr p

pub adds_wider : (P Q : Tree → Type 0) (a b : List Tree) → ((t : Tree) → P t → Q t) → AddsOnly P a b → AddsOnly Q a b
adds_wider P Q a b f h n t k = go n t (h n t k)
  where
    go : (n : ℕ) (t : Tree) → IsNamed a n t ⊎ P t → IsNamed a n t ⊎ Q t
    go n t (inl k) = inl k
    go n t (inr p) = inr (f t p)

pub adds_entered : (P : Tree → Type 0) (old new : List Tree) (t : Tree) → P t → Enters old new t → AddsOnly P old new
adds_entered P old new t p (inl h) n u k = inl (subst (λ ts. IsNamed ts n u) h.2 k)
adds_entered P old new t p (inr h) n u k = go (get_last old t u n (subst (λ ts. IsNamed ts n u) h.1 k))
  where
    go : IsNamed old n u ⊎ ((n ≡ length old) × (t ≡ u)) → IsNamed old n u ⊎ P u
    go (inl k) = inl k
    go (inr k) = inr (subst P k.1 p)

pub adds_result : {E : Type 0} (r : Result ℕ E) (P : Tree → Type 0) (old new : List Tree) (t : Tree) → P t → OnOk r (Enters old new t) → OnErr r (new ≡ old)
    → AddsOnly P old new
adds_result (Ok n) P old new t p h e = adds_entered P old new t p h
adds_result (Err x) P old new t p h e = λ n u k. inl (subst (λ ts. IsNamed ts n u) e k)

pub one_entered : (old new : List Tree) (t : Tree) → Enters old new t → length new ≤ length old + 1
one_entered old new t (inl h) = let e = ap length h.2 in omega (arith, e)
one_entered old new t (inr h) = let e = ap length h.1 in let l = length-append old (t ∷ []) in omega (arith, e, l)

pub one_result : {E : Type 0} (r : Result ℕ E) (old new : List Tree) (t : Tree) → OnOk r (Enters old new t) → OnErr r (new ≡ old) → length new ≤ length old + 1
one_result (Ok n) old new t h e = one_entered old new t h
one_result (Err x) old new t h e = let l = ap length e in omega (arith, l)

-- numbers that were moved

moved_below : (count : ℕ) (moved : List ℕ) (m : ℕ) → m < count → moved_number count moved m ≡ m
moved_below count moved m h = grind (arith, nat_tests)

moved_there : (count : ℕ) (moved : List ℕ) (m : ℕ) → count ≤ m → moved_number count moved m ≡ get_or moved (m - count) 0
moved_there count moved m h = grind (arith, nat_tests)

moved_all : (old new : List Tree) (count : ℕ) (moved ns : List ℕ) (ts : Trees)
    → ((k m : ℕ) (t : Tree) → slice_get ns k ≡ Some m → IsNamed old m t → IsNamed new (moved_number count moved m) t)
    → AreNamed old ns ts → AreNamed new (map (moved_number count moved) ns) ts
moved_all old new count moved [] none f h = tt
moved_all old new count moved [] (more t ts) f h = absurd h
moved_all old new count moved (n ∷ ns) none f h = absurd h
moved_all old new count moved (n ∷ ns) (more t ts) f h =
    (f 0 n t refl h.0, moved_all old new count moved ns ts (λ k m u e. f (suc k) m u e) h.1)

becomes_one : (nodes : List Tree) (count : ℕ) (moved : List ℕ) (p : Part) (t u : Tree) → Becomes nodes count moved p t → Becomes nodes count moved p u → t ≡ u
becomes_one nodes count moved Nothing t u g h = absurd g
becomes_one nodes count moved (Variable n s) t u g h = g ∙ sym h
becomes_one nodes count moved (Application f s args) t u g h =
    g.1 ∙ ap (App f s) (are_named_one nodes (map (moved_number count moved) args.items) g.0 h.0 g.2 h.2) ∙ sym h.1

last_read : (xs ys : List ℕ) (n x : ℕ) → length xs ≡ n → ys ≡ xs ++ x ∷ [] → get_or ys n 0 ≡ x
last_read xs ys n x long e = get_or_from_slice_get ys n x 0 (ap (slice_get ys) (sym long) ∙ ap (λ zs. slice_get zs (length xs)) e ∙ get_pushed xs x)

front_read : (xs ys : List ℕ) (n j x : ℕ) → length xs ≡ n → j < n → ys ≡ xs ++ x ∷ [] → get_or ys j 0 ≡ get_or xs j 0
front_read xs ys n j x long below e = ap (λ zs. get_or zs j 0) e ∙ go xs j (omega (arith, long, below))
  where
    go : (xs : List ℕ) (j : ℕ) → j < length xs → get_or (xs ++ x ∷ []) j 0 ≡ get_or xs j 0
    go [] j h = absurd (omega (arith, h))
    go (y ∷ xs) zero h = refl
    go (y ∷ xs) (suc j) h = go xs j (omega (arith, h))

-- The terms at the first places, as many as place says, have their new numbers, and nothing but parts of the term was added.
pub record AreEntered (old : List Tree) (count number place : ℕ) (marks : List Bool) (moved : List ℕ) (nodes : List Tree) : Type 0 where
  pub grows : Grows (take count old) nodes
  pub long : length moved ≡ place
  pub right : (j : ℕ) → j < place → HasMark marks j → IsNamed nodes (get_or moved j 0) (tree_at old (count + j))
  pub alone : AddsOnly (IsPart (tree_at old number)) (take count old) nodes
  pub few : length nodes ≤ count + place

module _ (old : List Tree) (count number place : ℕ) (marks : List Bool) (moved : List ℕ) (nodes : List Tree)
    (marked : MarkParts old count number 0 marks) (so_far : AreEntered old count number place marks moved nodes) where
  moved_right : HasMark marks place → (m : ℕ) (t : Tree) → IsArgument old m (count + place) → m < count + place → IsNamed old m t
      → IsNamed nodes (moved_number count moved m) t
  moved_right here m t arg below named = go (cases_lt m count)
    where
      go : (m < count) ⊎ (count ≤ m) → IsNamed nodes (moved_number count moved m) t
      go (inl low) =
          let P : ℕ → Type 0 = λ x. IsNamed nodes x t in
          subst P (sym (moved_below count moved m low)) (named_later (take count old) nodes m t so_far.grows (get_taken old count m t low named))
      go (inr high) =
          let j = m - count in
          let e : m ≡ count + j = omega (arith, high) in
          let P : ℕ → Type 0 = λ x. IsNamed nodes x t in
          let Q : ℕ → Type 0 = λ x. IsArgument old x (count + place) in
          let mark = marked.closed place j (omega arith) here (subst Q e arg) in
          let there = so_far.right j (omega (arith, e, below)) mark in
          let tree = named_tree old (count + j) t (subst (λ x. IsNamed old x t) e named) in
          subst P (sym (moved_there count moved m high)) (there ∙ ap Some tree)

  module _ (p : Part) (takes : TakesNode old (count + place) (get_or marks place false) p) where
    args_moved : (f s : ℕ) (ts : Trees) (ns : List ℕ) → HasMark marks place → IsNamed old (count + place) (App f s ts) → AreNamed old ns ts
        → AllByRecursion (λ m. m < count + place) ns → AreNamed nodes (map (moved_number count moved) ns) ts
    args_moved f s ts ns here named all lower = moved_all old nodes count moved ns ts move all
      where
        move : (k m : ℕ) (t : Tree) → slice_get ns k ≡ Some m → IsNamed old m t → IsNamed nodes (moved_number count moved m) t
        move k m t e own =
            let a = are_named_at old ns ts k m all e in
            let is = named_tree old (count + place) (App f s ts) named in
            let same : a.0 ≡ t = same_Some a.0 t (sym a.2 ∙ own) in
            let arg = ap (λ u. slice_get (args_of u) k) is ∙ a.1 ∙ ap Some same in
            moved_right here m t (k, t, arg, own) (below_at ns (count + place) k m lower e) own

    pub becomes : (p2 : Part) → TakesNode old (count + place) (get_or marks place false) p2 → HasMark marks place → Becomes nodes count moved p2 (tree_at old (count + place))
    becomes Nothing h here = absurd (false≢true (sym h ∙ here))
    becomes (Variable n s) h here = named_tree old (count + place) (Var n s) h.1
    becomes (Application f s args) h here =
        (h.1.0, named_tree old (count + place) (App f s h.1.0) h.1.1, args_moved f s h.1.0 args.items here h.1.1 h.1.2 h.2)

    is_marked : (p2 : Part) → TakesNode old (count + place) (get_or marks place false) p2 → (t : Tree) → Becomes nodes count moved p2 t → HasMark marks place
    is_marked Nothing h t b = absurd b
    is_marked (Variable n s) h t b = h.0
    is_marked (Application f s args) h t b = h.0

    pub becomes_part : (t : Tree) → Becomes nodes count moved p t → IsPart (tree_at old number) t
    becomes_part t b =
        let here = is_marked p takes t b in
        let P : Tree → Type 0 = IsPart (tree_at old number) in
        subst P (becomes_one nodes count moved p (tree_at old (count + place)) t (becomes p takes here) b) (marked.parts place here)

    may_become : (p2 : Part) → TakesNode old (count + place) (get_or marks place false) p2 → MayBecome nodes count moved p2
    may_become Nothing h = tt
    may_become (Variable n s) h = tt
    may_become (Application f s args) h =
        let named = args_moved f s h.1.0 args.items h.0 h.1.1 h.1.2 h.2 in
        let long = so_far.long in (
          all_lower args.items (count + place) (count + length moved) (omega (arith, long)) h.2,
          all_below nodes (map (moved_number count moved) args.items) h.1.0 named,
          h.3,
        )

    pub entered_may : MayBecome nodes count moved p
    entered_may = may_become p takes

    pub entered_next : (later : List Tree) (next : ℕ) (more_moved : List ℕ) → Grows nodes later → AddsOnly (Becomes nodes count moved p) nodes later
        → length later ≤ length nodes + 1 → ((t : Tree) → Becomes nodes count moved p t → IsNamed later next t) → more_moved ≡ moved ++ next ∷ []
        → AreEntered old count number (place + 1) marks more_moved later
    entered_next later next more_moved on adds one named e = record {
      grows = grows_more (take count old) nodes later so_far.grows on;
      long = let l = length-append moved (next ∷ []) in let k = so_far.long in omega (arith, ap length e, l, k);
      right = λ j below here. right j below here (cases_eq j place);
      alone =
          adds_more (IsPart (tree_at old number)) (take count old) nodes later so_far.alone
          (adds_wider (Becomes nodes count moved p) (IsPart (tree_at old number)) nodes later becomes_part adds);
      few = let k = so_far.few in omega (arith, one, k);
    }
      where
        right : (j : ℕ) → j < place + 1 → HasMark marks j → (j ≡ place) ⊎ (j ≡ place → ⊥) → IsNamed later (get_or more_moved j 0) (tree_at old (count + j))
        right j below here (inl same) =
            let P : ℕ → Type 0 = λ x. HasMark marks x in
            let own = named (tree_at old (count + place)) (becomes p takes (subst P same here)) in
            let Q : ℕ → Type 0 = λ x. IsNamed later (get_or more_moved x 0) (tree_at old (count + x)) in
            let R : ℕ → Type 0 = λ x. IsNamed later x (tree_at old (count + place)) in
            subst Q (sym same) (subst R (sym (last_read moved more_moved place next so_far.long e)) own)
        right j below here (inr other) =
            let low : j < place = omega (arith, below, other) in
            let R : ℕ → Type 0 = λ x. IsNamed later x (tree_at old (count + j)) in
            subst R (sym (front_read moved more_moved place j next so_far.long low e)) (named_later nodes later (get_or moved j 0) (tree_at old (count + j)) on (so_far.right j low here))

-- before the first
pub entered_none : (old : List Tree) (count number : ℕ) (marks : List Bool) (nodes : List Tree) → nodes ≡ take count old → AreEntered old count number 0 marks [] nodes
entered_none old count number marks nodes e = record {
  grows = ([], e ∙ sym (append-nil (take count old)));
  long = refl;
  right = λ j below here. absurd (omega (arith, below));
  alone = subst (λ ts. AddsOnly (IsPart (tree_at old number)) (take count old) ts) (sym e) (adds_same (IsPart (tree_at old number)) (take count old));
  few = let l = length-take count old in omega (arith, ap length e, l);
}
