-- A subterm by itself, and the whole term in which it stands.
use Rattle.std.proofs.Common.{◌≡◌, ◌⊎◌, inl, inr, ℕ, ◌+◌, ◌≤◌, ◌<◌, zero, suc, Bool, true, false, ◌||◌, List, [], ◌∷◌, ◌++◌, map, length, Option, Some, None, refl, ap, sym, ◌∙◌, arith, append_assoc}
use Rattle.std.specs.Prelude.{nat_lt}
use Rattle.std.specs.Option.{option_map_or, unwrap_or}
use Rattle.circ_term.specs.Tree.{Tree, Trees, Var, App, none, more, list_of, at, replaced, size_of, depth_of}
use Rattle.circ_term.specs.Limits.{node_limit, depth_limit, Limit, first_limit, IsWithinLimits}
use Rattle.circ_term.proofs.Limits.{first_limit_none, within_limits}
use Rattle.circ_term.proofs.Paths.{replaced_twice, replaced_there}
use Rattle.circ_rewrite.specs.Norm.{Normalised, Budget_spent, Limit_passed}
use Rattle.circ_rewrite.specs.Replacement.{Replacement, Placed, placed, below, Traced, traced}
use Rattle.circ_chain.specs.Chain.{under}
use Rattle.circ_conditional_norm.specs.Norm.{looks, look_from, looks_from, looked, make, remade, run_from}
use Rattle.circ_conditional_norm.specs.Sure.{look_behind, looks_behind}
use Rattle.circ_conditional_norm.specs.Within.{Bounded, Form, Ran_out, Broken, Outgrown, Room, is_past, bounded, looked_in, make_in, run_in, run_behind_in, put_there, go_on, whole_form}
use Rattle.circ_conditional_norm.specs.Work.{Work, Made, Out, Past, or_next, map_found, LeavesAtMost}
use Rattle.circ_conditional_norm.proofs.Working.{map_leaves, next_leaves}
use Rattle.circ_conditional_norm.proofs.Looking.{look_from_there, look_from_leaves, looks_leaves}
use Rattle.circ_rewrite.proofs.Standings.{stands_put, stands_at, stands_self, replaced_past}
use Rattle.circ_chain.proofs.Standings.{stands_below, size_put, depth_put, depth_under}
use Rattle.circ_conditional_norm.proofs.Sure.{none_due, stands_there, under_placed, look_split}

map_append : {X Y : Type 0} (f : X → Y) (xs ys : List X) → map f (xs ++ ys) ≡ map f xs ++ map f ys
map_append f [] ys = refl
map_append f (x ∷ xs) ys = ap (λ r. f x ∷ r) (map_append f xs ys)

below_or : (m n : ℕ) → nat_lt m n ≡ false → n ≤ m
below_or m n e = grind arith

above_if : (m n : ℕ) → nat_lt m n ≡ true → m < n
above_if m n e = grind arith

is_above : (m n : ℕ) → m < n → nat_lt m n ≡ true
is_above m n h = grind arith

not_above : (m n : ℕ) → n ≤ m → nat_lt m n ≡ false
not_above m n h = grind arith

-- inside the bounds, or past them
pub inside : (b : Room) (t : Tree) → is_past b t ≡ false → (size_of t ≤ b.big) × (depth_of t ≤ b.deep)
inside b t e = go (nat_lt b.big (size_of t)) refl (nat_lt b.deep (depth_of t)) refl e
  where
    go : (x : Bool) → nat_lt b.big (size_of t) ≡ x → (y : Bool) → nat_lt b.deep (depth_of t) ≡ y → (x || y) ≡ false → (size_of t ≤ b.big) × (depth_of t ≤ b.deep)
    go false g false h z = (below_or b.big (size_of t) g, below_or b.deep (depth_of t) h)
    go false g true h z = absurd (cc)
    go true g y h z = absurd (cc)

outside : (b : Room) (t : Tree) → is_past b t ≡ true → (b.big < size_of t) ⊎ (b.deep < depth_of t)
outside b t e = go (nat_lt b.big (size_of t)) refl (nat_lt b.deep (depth_of t)) refl e
  where
    go : (x : Bool) → nat_lt b.big (size_of t) ≡ x → (y : Bool) → nat_lt b.deep (depth_of t) ≡ y → (x || y) ≡ true → (b.big < size_of t) ⊎ (b.deep < depth_of t)
    go true g y h z = inl (above_if b.big (size_of t) g)
    go false g true h z = inr (above_if b.deep (depth_of t) h)
    go false g false h z = absurd (cc)

pub stays_inside : (b : Room) (t : Tree) → size_of t ≤ b.big → depth_of t ≤ b.deep → is_past b t ≡ false
stays_inside b t s d = rw (not_above b.big (size_of t) s, not_above b.deep (depth_of t) d) refl

pub goes_outside : (b : Room) (t : Tree) → (b.big < size_of t) ⊎ (b.deep < depth_of t) → is_past b t ≡ true
goes_outside b t (inl h) = rw (is_above b.big (size_of t) h) refl
goes_outside b t (inr h) = go (nat_lt b.big (size_of t))
  where
    go : (x : Bool) → (x || nat_lt b.deep (depth_of t)) ≡ true
    go true = refl
    go false = is_above b.deep (depth_of t) h

module _ (due : (budget : ℕ) → Tree → Work (Option Replacement)) (falls : (k : ℕ) (t : Tree) → LeavesAtMost k (due k t)) where
  -- more than the budget is not needed
  pub enough : (b : Room) (n m : ℕ) (from : List ℕ) (t : Tree) (ts : List Traced) (k : ℕ) → k ≤ n → k ≤ m → run_in due b n from t ts k ≡ run_in due b m from t ts k
  enough b zero zero from t ts k h g = refl
  enough b zero (suc m) from t ts k h g = go (look_from due from t k) (look_from_leaves due falls from t k)
    where
      go : (x : Work (Option Placed)) → LeavesAtMost k x → looked_in due (λ q l. Ran_out) t ts x ≡ looked_in due (make_in due b (run_in due b m) t ts) t ts x
      go (Made (Some q) zero) f = refl
      go (Made (Some q) (suc l)) f = absurd (omega (arith, f, h))
      go (Made None l) f = refl
      go Out f = refl
      go (Past x l) f = refl
  enough b (suc n) zero from t ts k h g = go (look_from due from t k) (look_from_leaves due falls from t k)
    where
      go : (x : Work (Option Placed)) → LeavesAtMost k x → looked_in due (make_in due b (run_in due b n) t ts) t ts x ≡ looked_in due (λ q l. Ran_out) t ts x
      go (Made (Some q) zero) f = refl
      go (Made (Some q) (suc l)) f = absurd (omega (arith, f, g))
      go (Made None l) f = refl
      go Out f = refl
      go (Past x l) f = refl
  enough b (suc n) (suc m) from t ts k h g =
      go (look_from due from t k) (look_from_leaves due falls from t k) (λ p u us l x y. enough b n m p u us l x y)
    where
      go : (x : Work (Option Placed)) → LeavesAtMost k x
          → ((p : List ℕ) (u : Tree) (us : List Traced) (l : ℕ) → l ≤ n → l ≤ m → run_in due b n p u us l ≡ run_in due b m p u us l)
          → looked_in due (make_in due b (run_in due b n) t ts) t ts x ≡ looked_in due (make_in due b (run_in due b m) t ts) t ts x
      go (Made (Some q) zero) f ih = refl
      go (Made (Some q) (suc l)) f ih =
          ap (bounded (first_limit (remade t q)) (is_past b (remade t q)) (remade t q) (suc l))
          (ih q.path (remade t q) (ts ++ traced q ∷ []) l (omega (arith, f, h)) (omega (arith, f, g)))
      go (Made None l) f ih = refl
      go Out f ih = refl
      go (Past x l) f ih = refl

  after_look : (b : Room) (n l : ℕ) (t : Tree) (ts : List Traced) (x : Work (Option Placed)) → LeavesAtMost (suc l) x → l ≤ n
      → looked_in due (make_in due b (run_in due b n) t ts) t ts x ≡ looked_in due (make_in due b (run_in due b l) t ts) t ts x
  after_look b n l t ts (Made (Some q) zero) f h = refl
  after_look b n l t ts (Made (Some q) (suc j)) f h =
      ap (bounded (first_limit (remade t q)) (is_past b (remade t q)) (remade t q) (suc j))
      (enough b n l q.path (remade t q) (ts ++ traced q ∷ []) j (omega (arith, f, h)) (omega (arith, f)))
  after_look b n l t ts (Made None j) f h = refl
  after_look b n l t ts Out f h = refl
  after_look b n l t ts (Past x j) f h = refl

  nothing_left : (b : Room) (n : ℕ) (t : Tree) (ts : List Traced) (x : Work (Option Placed)) → LeavesAtMost zero x
      → looked_in due (make_in due b (run_in due b n) t ts) t ts x ≡ looked_in due (λ q l. Ran_out) t ts x
  nothing_left b n t ts (Made (Some q) zero) f = refl
  nothing_left b n t ts (Made (Some q) (suc j)) f = absurd (omega (arith, f))
  nothing_left b n t ts (Made None j) f = refl
  nothing_left b n t ts Out f = refl
  nothing_left b n t ts (Past x j) f = refl

  mutual
    behind_leaves : (p : List ℕ) (t : Tree) (k : ℕ) → LeavesAtMost k (look_behind due p t k)
    behind_leaves [] t k = omega arith
    behind_leaves (i ∷ p) (Var n s) k = omega arith
    behind_leaves (i ∷ p) (App f s ts) k =
        next_leaves (looks_behind due i p 0 ts k) (λ l. map_found (placed []) (due l (App f s ts))) k (behind_args i p 0 ts k)
        (λ l. map_leaves (placed []) (due l (App f s ts)) l (falls l (App f s ts)))

    behind_args : (i : ℕ) (p : List ℕ) (j : ℕ) (ts : Trees) (k : ℕ) → LeavesAtMost k (looks_behind due i p j ts k)
    behind_args zero p j none k = omega arith
    behind_args (suc i) p j none k = omega arith
    behind_args zero p j (more t ts) k =
        next_leaves (map_found (below j) (look_behind due p t k)) (looks due (j + 1) ts) k (map_leaves (below j) (look_behind due p t k) k (behind_leaves p t k))
        (looks_leaves due falls (j + 1) ts)
    behind_args (suc i) p j (more t ts) k = behind_args i p (j + 1) ts k

  -- a run that goes on behind, with as much for it as is left
  goes_behind : (b : Room) (n : ℕ) (p : List ℕ) (w : Tree) (ts : List Traced) (l : ℕ) → l ≤ suc n
      → looked_in due (make_in due b (run_in due b n) w ts) w ts (look_behind due p w l) ≡ run_behind_in due b l p w ts l
  goes_behind b n p w ts zero h = nothing_left b n w ts (look_behind due p w zero) (behind_leaves p w zero)
  goes_behind b n p w ts (suc l) h = after_look b n l w ts (look_behind due p w (suc l)) (behind_leaves p w (suc l)) (omega (arith, h))

  module _ (B b : Room) (p : List ℕ) (nodes : B.big ≤ node_limit) (levels : B.deep ≤ depth_limit) (rest : length p + b.deep ≡ B.deep) where
    -- the whole term w, in which t stands at p, and the bounds that are left for t
    pub record Around (w t : Tree) : Type 0 where
      pub there : at w p ≡ Some t
      pub room : size_of w + b.big ≡ B.big + size_of t
      pub small : size_of w ≤ B.big
      pub shallow : depth_of w ≤ B.deep

    -- the whole with another subterm
    record Put (w t u : Tree) : Type 0 where
      whole : Tree
      put : replaced w p u ≡ Some whole
      there : at whole p ≡ Some u
      same : put_there due w p u ≡ whole

    put_it : (w t u : Tree) → Around w t → Put w t u
    put_it w t u a =
        let x = stands_put none_due p w t u (stands_there p w t a.there) in
        record { whole = x.0; put = x.1; there = stands_at none_due p x.0 u x.2; same = ap (λ o. unwrap_or o w) x.1 }

    within : (w t : Tree) → Around w t → IsWithinLimits w
    within w t a = let s = a.small in let d = a.shallow in first_limit_none w (omega (arith, s, nodes)) (omega (arith, d, levels))

    around_put : (w t u : Tree) (a : Around w t) (x : Put w t u) → size_of u ≤ b.big → depth_of u ≤ b.deep → Around x.whole u
    around_put w t u a x s d =
        let st = stands_there p w t a.there in
        let size = size_put none_due p w t u x.whole st x.put in
        let depth = depth_put none_due p w t u x.whole st x.put in
        let room = a.room in
        let sh = a.shallow in
        record { there = x.there; room = omega (arith, size, room); small = omega (arith, size, room, s); shallow = omega (arith, depth, sh, rest, d) }

    past_put : (w t u : Tree) (a : Around w t) (x : Put w t u) → is_past b u ≡ true → is_past B x.whole ≡ true
    past_put w t u a x e =
        let st = stands_there p w t a.there in
        let size = size_put none_due p w t u x.whole st x.put in
        let depth = depth_under none_due p w t u x.whole st x.put in
        let room = a.room in
        goes_outside B x.whole (go size depth room (outside b u e))
      where
        go : size_of x.whole + size_of t ≡ size_of w + size_of u → length p + depth_of u ≤ depth_of x.whole → size_of w + b.big ≡ B.big + size_of t
            → (b.big < size_of u) ⊎ (b.deep < depth_of u) → (B.big < size_of x.whole) ⊎ (B.deep < depth_of x.whole)
        go size depth room (inl h) = inl (omega (arith, size, room, h))
        go size depth room (inr h) = inr (omega (arith, depth, rest, h))

    -- what is put in last counts
    go_on_put : (w t u : Tree) (a : Around w t) (x : Put w t u) (before : List Traced) (o : Bounded) → go_on due B p x.whole before o ≡ go_on due B p w before o
    go_on_put w t u a x before o = go o
      where
        there : (v : Tree) → put_there due x.whole p v ≡ put_there due w p v
        there v =
            let y = put_it w t v a in
            ap (λ o. unwrap_or o x.whole) (replaced_twice p w u x.whole v x.put ∙ y.put) ∙ sym y.same

        go : (o : Bounded) → go_on due B p x.whole before o ≡ go_on due B p w before o
        go (Form v us l) = ap (λ y. run_behind_in due B l p y (before ++ map (under p) us) l) (there v)
        go Ran_out = refl
        go (Broken y l) = refl
        go (Outgrown y l) = ap (λ z. bounded (first_limit z) true z l Ran_out) (there y)

    traces_on : (before us : List Traced) (q : Placed) → (before ++ map (under p) us) ++ traced (under_placed p q) ∷ [] ≡ before ++ map (under p) (us ++ traced q ∷ [])
    traces_on before us q = append_assoc before (map (under p) us) (traced (under_placed p q) ∷ []) ∙ ap (λ z. before ++ z) (sym (map_append (under p) us (traced q ∷ [])))

    self : (w t : Tree) → Around w t → put_there due w p t ≡ w
    self w t a = ap (λ o. unwrap_or o w) (stands_self none_due p w t (stands_there p w t a.there))

    pub in_place : (n : ℕ) (r : List ℕ) (w t : Tree) (before us : List Traced) (k : ℕ) → k ≤ n → Around w t
        → run_in due B n (p ++ r) w (before ++ map (under p) us) k ≡ go_on due B p w before (run_in due b n r t us k)
    in_place zero r w t before us k h a =
        ap (looked_in due (λ q l. Ran_out) w (before ++ map (under p) us)) (look_split due p r w t k a.there) ∙ go (look_from due r t k) (look_from_leaves due falls r t k)
      where
        acc : List Traced
        acc = before ++ map (under p) us

        go : (x : Work (Option Placed)) → LeavesAtMost k x
            → looked_in due (λ q l. Ran_out) w acc (or_next (map_found (under_placed p) x) (look_behind due p w)) ≡ go_on due B p w before (looked_in due (λ q l. Ran_out) t us x)
        go (Made (Some q) l) f = refl
        go (Made None zero) f = ap (λ y. run_behind_in due B zero p y acc zero) (sym (self w t a))
        go (Made None (suc l)) f = absurd (omega (arith, f, h))
        go Out f = refl
        go (Past x l) f = refl
    in_place (suc n) r w t before us k h a =
        ap (looked_in due (make_in due B (run_in due B n) w (before ++ map (under p) us)) w (before ++ map (under p) us)) (look_split due p r w t k a.there)
        ∙ go (look_from due r t k) refl (look_from_leaves due falls r t k) (λ q' u v vs l x y. in_place n q' u v before vs l x y)
      where
        acc : List Traced
        acc = before ++ map (under p) us

        again : Placed → (u : Tree) → ℕ → Bounded
        again q u j = run_in due b n q.path u (us ++ traced q ∷ []) j

        made_one : (q : Placed) (j : ℕ) → suc j ≤ k → (u : Tree) → replaced t q.path q.replacement.new ≡ Some u → (x : Put w t u)
            → replaced w (p ++ q.path) q.replacement.new ≡ Some x.whole
            → ((q' : List ℕ) (y v : Tree) (vs : List Traced) (l : ℕ) → l ≤ n → Around y v
            → run_in due B n (p ++ q') y (before ++ map (under p) vs) l ≡ go_on due B p y before (run_in due b n q' v vs l))
            → bounded (first_limit x.whole) (is_past B x.whole) x.whole (suc j) (run_in due B n (p ++ q.path) x.whole (acc ++ traced (under_placed p q) ∷ []) j)
            ≡ go_on due B p w before (bounded (first_limit u) (is_past b u) u (suc j) (again q u j))
        made_one q j g u mt x mw ih = limits (first_limit u) refl (is_past b u) refl
          where
            outgrown : is_past B x.whole ≡ true → (o : Option Limit) → first_limit x.whole ≡ o
                → bounded o (is_past B x.whole) x.whole (suc j) (run_in due B n (p ++ q.path) x.whole (acc ++ traced (under_placed p q) ∷ []) j)
                ≡ bounded o true x.whole (suc j) Ran_out
            outgrown e None z = rw e refl
            outgrown e (Some l) z = refl

            limits : (o : Option Limit) → first_limit u ≡ o → (c : Bool) → is_past b u ≡ c
                → bounded (first_limit x.whole) (is_past B x.whole) x.whole (suc j) (run_in due B n (p ++ q.path) x.whole (acc ++ traced (under_placed p q) ∷ []) j)
                ≡ go_on due B p w before (bounded o c u (suc j) (again q u j))
            limits (Some l) e c z =
                let past = replaced_past none_due p w t u x.whole l (stands_there p w t a.there) (within w t a) x.put e in
                rw past refl
            limits None e true z =
                outgrown (past_put w t u a x z) (first_limit x.whole) refl
                ∙ ap (λ y. bounded (first_limit y) true y (suc j) Ran_out) (sym x.same)
            limits None e false z =
                let ins = inside b u z in
                let next = around_put w t u a x ins.0 ins.1 in
                let none = within x.whole u next in
                let inb = stays_inside B x.whole next.small next.shallow in
                rw (none, inb)
                (ap (λ ts. run_in due B n (p ++ q.path) x.whole ts j) (traces_on before us q)
                ∙ ih q.path x.whole u (us ++ traced q ∷ []) j (omega (arith, g, h)) next
                ∙ go_on_put w t u a x before (again q u j))

        go : (x : Work (Option Placed)) → look_from due r t k ≡ x → LeavesAtMost k x
            → ((q' : List ℕ) (y v : Tree) (vs : List Traced) (l : ℕ) → l ≤ n → Around y v
            → run_in due B n (p ++ q') y (before ++ map (under p) vs) l ≡ go_on due B p y before (run_in due b n q' v vs l))
            → looked_in due (make_in due B (run_in due B n) w acc) w acc (or_next (map_found (under_placed p) x) (look_behind due p w))
            ≡ go_on due B p w before (looked_in due (make_in due b (run_in due b n) t us) t us x)
        go (Made (Some q) zero) e f ih = refl
        go (Made (Some q) (suc j)) e f ih =
            let there = look_from_there due r t k q (suc j) e in
            let new = replaced_there q.path t there.0 q.replacement.new there.1 in
            let x = put_it w t new.0 a in
            let mw = stands_below none_due p w t q.path q.replacement.new new.0 (stands_there p w t a.there) new.1 ∙ x.put in
            let isw : remade w (under_placed p q) ≡ x.whole = ap (λ o. unwrap_or o w) mw in
            let ist : remade t q ≡ new.0 = ap (λ o. unwrap_or o t) new.1 in
            ap (λ y. bounded (first_limit y) (is_past B y) y (suc j) (run_in due B n (p ++ q.path) y (acc ++ traced (under_placed p q) ∷ []) j)) isw
            ∙ made_one q j f new.0 new.1 x mw ih
            ∙ ap (λ y. go_on due B p w before (bounded (first_limit y) (is_past b y) y (suc j) (again q y j))) (sym ist)
        go (Made None l) e f ih = goes_behind B n p w acc l (omega (arith, f, h)) ∙ ap (λ y. run_behind_in due B l p y acc l) (sym (self w t a))
        go Out e f ih = refl
        go (Past x l) e f ih = refl

  -- ---- at the top

  pub whole_run : (n : ℕ) (from : List ℕ) (t : Tree) (ts : List Traced) (k : ℕ)
      → whole_form (run_in due (record { big = node_limit; deep = depth_limit }) n from t ts k) ≡ run_from due n from t ts k
  whole_run zero from t ts k = go (look_from due from t k)
    where
      go : (x : Work (Option Placed)) → whole_form (looked_in due (λ q l. Ran_out) t ts x) ≡ looked due (λ q l. Budget_spent) t ts x
      go (Made (Some q) l) = refl
      go (Made None l) = refl
      go Out = refl
      go (Past x l) = refl
  whole_run (suc n) from t ts k = go (look_from due from t k) (λ p u us l. whole_run n p u us l)
    where
      top : Room
      top = record { big = node_limit; deep = depth_limit }

      bounds : (y : Tree) (l : ℕ) (o : Bounded) (x : Normalised) → whole_form o ≡ x → (lim : Option Limit) → first_limit y ≡ lim
          → whole_form (bounded lim (is_past top y) y (suc l) o) ≡ option_map_or (λ z. Limit_passed z (suc l)) lim x
      bounds y l o x e (Some z) f = refl
      bounds y l o x e None f =
          let w = within_limits y f in
          rw (stays_inside top y w.0 w.1) e

      go : (x : Work (Option Placed)) → ((p : List ℕ) (u : Tree) (us : List Traced) (l : ℕ) → whole_form (run_in due top n p u us l) ≡ run_from due n p u us l)
          → whole_form (looked_in due (make_in due top (run_in due top n) t ts) t ts x) ≡ looked due (make due (run_from due n) t ts) t ts x
      go (Made (Some q) zero) ih = refl
      go (Made (Some q) (suc l)) ih =
          bounds (remade t q) l (run_in due top n q.path (remade t q) (ts ++ traced q ∷ []) l) (run_from due n q.path (remade t q) (ts ++ traced q ∷ []) l)
          (ih q.path (remade t q) (ts ++ traced q ∷ []) l) (first_limit (remade t q)) refl
      go (Made None l) ih = refl
      go Out ih = refl
      go (Past x l) ih = refl

-- ---- arguments, from the left

module _ (due : (budget : ℕ) → Tree → Work (Option Replacement)) where
  starts : (j : ℕ) (ts : Trees) (k : ℕ) → looks due j ts k ≡ looks_from due zero [] j ts k
  starts j none k = refl
  starts j (more t ts) k = refl

  -- work begins at the first argument
  pub first_arg : (f s : ℕ) (ts : Trees) (k : ℕ) → look_from due [] (App f s ts) k ≡ look_from due (zero ∷ []) (App f s ts) k
  first_arg f s ts k = ap (λ x. or_next x (λ l. map_found (placed []) (due l (App f s ts)))) (starts 0 ts k)

  args_next : (i j : ℕ) (ts : Trees) (k : ℕ) → looks_behind due i [] j ts k ≡ looks_from due (suc i) [] j ts k
  args_next zero j none k = refl
  args_next (suc i) j none k = refl
  args_next zero j (more t ts) k = starts (j + 1) ts k
  args_next (suc i) j (more t ts) k = args_next i (j + 1) ts k

  -- behind one argument it goes on at the next
  pub next_arg : (f s i : ℕ) (ts : Trees) (k : ℕ) → look_behind due (i ∷ []) (App f s ts) k ≡ look_from due (suc i ∷ []) (App f s ts) k
  next_arg f s i ts k = ap (λ x. or_next x (λ l. map_found (placed []) (due l (App f s ts)))) (args_next i 0 ts k)

  args_end : (i j : ℕ) (ts : Trees) (k : ℕ) → length (list_of ts) ≤ i → looks_from due i [] j ts k ≡ Made None k
  args_end zero j none k h = refl
  args_end (suc i) j none k h = refl
  args_end zero j (more t ts) k h = absurd (omega (arith, h))
  args_end (suc i) j (more t ts) k h = args_end i (j + 1) ts k (omega (arith, h))

  -- behind the last argument it goes on at the root
  pub at_the_root : (f s i : ℕ) (ts : Trees) (k : ℕ) → length (list_of ts) ≤ i → look_from due (i ∷ []) (App f s ts) k ≡ map_found (placed []) (due k (App f s ts))
  at_the_root f s i ts k h = ap (λ x. or_next x (λ l. map_found (placed []) (due l (App f s ts)))) (args_end i 0 ts k h)
