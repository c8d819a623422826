-- A term by itself, step by step: its arguments from the left, then its root.
use Rattle.std.proofs.Common.{◌≡◌, ◌⊎◌, inl, inr, ℕ, ◌+◌, ◌≤◌, ◌<◌, zero, suc, Bool, true, false, List, [], ◌∷◌, ◌++◌, map, Option, Some, None, refl, ap, sym, ◌∙◌, arith, append-nil}
use Rattle.std.specs.List.{slice_get}
use Rattle.circ_term.specs.Tree.{Tree, Trees, App, list_of, put_at, size_of, depth_of}
use Rattle.circ_term.specs.Limits.{node_limit, depth_limit, Limit, first_limit}
use Rattle.circ_term.proofs.Limits.{within_limits}
use Rattle.circ_rewrite.specs.Replacement.{Replacement, Placed, placed, Traced, traced}
use Rattle.circ_rewrite.specs.Standing.{IsSettled}
use Rattle.circ_chain.specs.Chain.{under}
use Rattle.circ_conditional_norm.specs.Norm.{look_from, remade}
use Rattle.circ_conditional_norm.specs.Within.{Bounded, Form, Ran_out, Broken, Outgrown, Room, IsInRoom, is_past, bounded, looked_in, make_in, run_in, run_behind_in, put_there, go_on}
use Rattle.circ_conditional_norm.specs.Work.{Work, Made, Out, Past, map_found, LeavesAtMost}
use Rattle.circ_conditional_norm.proofs.Looking.{look_from_leaves}
use Rattle.circ_conditional_norm.proofs.Sure.{look_none}
use Rattle.circ_conditional_norm.proofs.Within.{inside, enough, in_place, first_arg, next_arg, stays_inside}

-- The bounds that an application leaves to its argument i, which is a.
pub record IsRoomFor (B b : Room) (f s i : ℕ) (ts : Trees) (a : Tree) : Type 0 where
  pub nodes : B.big ≤ node_limit
  pub levels : B.deep ≤ depth_limit
  pub there : slice_get (list_of ts) i ≡ Some a
  pub big : size_of (App f s ts) + b.big ≡ B.big + size_of a
  pub deep : 1 + b.deep ≡ B.deep
  pub small : size_of (App f s ts) ≤ B.big
  pub shallow : depth_of (App f s ts) ≤ B.deep

module _ (due : (budget : ℕ) → Tree → Work (Option Replacement)) where
  -- where looking from two paths comes to the same, so does the work
  by_look_in : (b : Room) (n : ℕ) (from to : List ℕ) (w : Tree) (us : List Traced) (k : ℕ) → look_from due from w k ≡ look_from due to w k
      → run_in due b n from w us k ≡ run_in due b n to w us k
  by_look_in b zero from to w us k e = ap (looked_in due (λ q l. Ran_out) w us) e
  by_look_in b (suc n) from to w us k e = ap (looked_in due (make_in due b (run_in due b n) w us) w us) e

  -- the work begins at the first argument
  pub args_begin : (b : Room) (n f s : ℕ) (ts : Trees) (us : List Traced) (k : ℕ)
      → run_in due b n [] (App f s ts) us k ≡ run_in due b n (zero ∷ []) (App f s ts) us k
  args_begin b n f s ts us k = by_look_in b n [] (zero ∷ []) (App f s ts) us k (first_arg due f s ts k)

  behind_next : (b : Room) (n f s i : ℕ) (ts : Trees) (us : List Traced) (k : ℕ)
      → run_behind_in due b n (i ∷ []) (App f s ts) us k ≡ run_in due b n (suc i ∷ []) (App f s ts) us k
  behind_next b zero f s i ts us k = ap (looked_in due (λ q l. Ran_out) (App f s ts) us) (next_arg due f s i ts k)
  behind_next b (suc n) f s i ts us k = ap (looked_in due (make_in due b (run_in due b n) (App f s ts) us) (App f s ts) us) (next_arg due f s i ts k)

  put_is : (f s i : ℕ) (ts : Trees) (a v : Tree) → slice_get (list_of ts) i ≡ Some a → put_there due (App f s ts) (i ∷ []) v ≡ App f s (put_at ts i v)
  put_is f s i ts a v g = rw g refl

  -- a settled term is its own form, and nothing is spent
  pub settled_form : (pure : Tree → Option Replacement) → ((k : ℕ) (t : Tree) → pure t ≡ None → due k t ≡ Made None k)
      → (b : Room) (n : ℕ) (t : Tree) (us : List Traced) (k : ℕ) → IsSettled pure t → run_in due b n [] t us k ≡ Form t us k
  settled_form pure nothing b zero t us k e = ap (looked_in due (λ q l. Ran_out) t us) (look_none pure due nothing t k e)
  settled_form pure nothing b (suc n) t us k e = ap (looked_in due (make_in due b (run_in due b n) t us) t us) (look_none pure due nothing t k e)

  -- ---- at a root that is looked at

  module _ (b : Room) (from : List ℕ) (w : Tree) (us : List Traced) (k : ℕ) (root : look_from due from w k ≡ map_found (placed []) (due k w)) where
    pub root_none : (n l : ℕ) → due k w ≡ Made None l → run_in due b n from w us k ≡ Form w us l
    root_none zero l e = rw (root, e) refl
    root_none (suc n) l e = rw (root, e) refl

    pub root_out : (n : ℕ) → due k w ≡ Out → run_in due b n from w us k ≡ Ran_out
    root_out zero e = rw (root, e) refl
    root_out (suc n) e = rw (root, e) refl

    pub root_past : (n l : ℕ) (x : Limit) → due k w ≡ Past x l → run_in due b n from w us k ≡ Broken x l
    root_past zero l x e = rw (root, e) refl
    root_past (suc n) l x e = rw (root, e) refl

    pub root_unpaid : (n : ℕ) (d : Replacement) → due k w ≡ Made (Some d) zero → run_in due b n from w us k ≡ Ran_out
    root_unpaid zero d e = rw (root, e) refl
    root_unpaid (suc n) d e = rw (root, e) refl

module _ (due : (budget : ℕ) → Tree → Work (Option Replacement)) (falls : (k : ℕ) (t : Tree) → LeavesAtMost k (due k t)) where
  -- a replacement at the root is made
  pub root_made : (b : Room) (from : List ℕ) (w : Tree) (us : List Traced) (k l : ℕ) (d : Replacement) → look_from due from w k ≡ map_found (placed []) (due k w)
      → due k w ≡ Made (Some d) (suc l)
      → run_in due b k from w us k ≡ bounded (first_limit d.new) (is_past b d.new) d.new (suc l) (run_in due b l [] d.new (us ++ traced (placed [] d) ∷ []) l)
  root_made b from w us zero l d root e = absurd (paid (due zero w) (falls zero w) e)
    where
      paid : (x : Work (Option Replacement)) → LeavesAtMost zero x → x ≡ Made (Some d) (suc l) → ⊥
      paid (Made v m) h y = absurd (let z : m ≡ suc l = cc in omega (arith, h, z))
      paid Out h y = absurd (cc)
      paid (Past x m) h y = absurd (cc)
  root_made b from w us (suc k) l d root e =
      rw (root, e) (ap (bounded (first_limit d.new) (is_past b d.new) d.new (suc l)) (enough due falls b k l [] d.new (us ++ traced (placed [] d) ∷ []) l less (omega arith)))
    where
      left : (x : Work (Option Replacement)) → LeavesAtMost (suc k) x → x ≡ Made (Some d) (suc l) → l ≤ k
      left (Made v m) h y = let z : m ≡ suc l = cc in omega (arith, h, z)
      left Out h y = absurd (cc)
      left (Past x m) h y = absurd (cc)

      less : l ≤ k
      less = left (due (suc k) w) (falls (suc k) w) e

  -- ---- an argument by itself

  module _ (B b : Room) (f s i : ℕ) (ts : Trees) (a : Tree) (fits : IsRoomFor B b f s i ts a) (us : List Traced) (k : ℕ) where
    abbrev whole : Tree
    whole = App f s ts

    by_arg : (o : Bounded) → run_in due b k [] a [] k ≡ o → run_in due B k (i ∷ []) whole us k ≡ go_on due B (i ∷ []) whole us o
    by_arg o e =
        ap (λ xs. run_in due B k (i ∷ []) whole xs k) (sym (append-nil us))
        ∙ in_place due falls B b (i ∷ []) fits.nodes fits.levels fits.deep k [] whole a us [] k (omega arith)
        (record { there = rw fits.there refl; room = fits.big; small = fits.small; shallow = fits.shallow })
        ∙ ap (go_on due B (i ∷ []) whole us) e

    pub arg_formed : (v : Tree) (vs : List Traced) (l : ℕ) → run_in due b k [] a [] k ≡ Form v vs l
        → run_in due B k (i ∷ []) whole us k ≡ run_in due B l (suc i ∷ []) (App f s (put_at ts i v)) (us ++ map (under (i ∷ [])) vs) l
    arg_formed v vs l e =
        by_arg (Form v vs l) e ∙ ap (λ y. run_behind_in due B l (i ∷ []) y (us ++ map (under (i ∷ [])) vs) l) (put_is due f s i ts a v fits.there)
        ∙ behind_next due B l f s i (put_at ts i v) (us ++ map (under (i ∷ [])) vs) l

    pub arg_ran_out : run_in due b k [] a [] k ≡ Ran_out → run_in due B k (i ∷ []) whole us k ≡ Ran_out
    arg_ran_out e = by_arg Ran_out e

    pub arg_broken : (x : Limit) (l : ℕ) → run_in due b k [] a [] k ≡ Broken x l → run_in due B k (i ∷ []) whole us k ≡ Broken x l
    arg_broken x l e = by_arg (Broken x l) e

    pub arg_outgrown : (x : Tree) (l : ℕ) → run_in due b k [] a [] k ≡ Outgrown x l
        → run_in due B k (i ∷ []) whole us k ≡ bounded (first_limit (App f s (put_at ts i x))) true (App f s (put_at ts i x)) l Ran_out
    arg_outgrown x l e = by_arg (Outgrown x l) e ∙ ap (λ y. bounded (first_limit y) true y l Ran_out) (put_is due f s i ts a x fits.there)

  -- ---- a form is within the bounds

  same_form : (t u : Tree) (ts us : List Traced) (k l : ℕ) → Form t ts k ≡ Form u us l → t ≡ u
  same_form t u ts us k l e = cc

  in_room : (b : Room) (t u : Tree) → t ≡ u → IsInRoom b t → IsInRoom b u
  in_room b t u e h = record { small = omega (arith, ap size_of e, h.small); shallow = omega (arith, ap depth_of e, h.shallow) }

  pub form_in_room : (b : Room) (n : ℕ) (from : List ℕ) (t u : Tree) (ts us : List Traced) (k l : ℕ) → run_in due b n from t ts k ≡ Form u us l → IsInRoom b t → IsInRoom b u
  form_in_room b zero from t u ts us k l e h = go (look_from due from t k) e
    where
      go : (x : Work (Option Placed)) → looked_in due (λ q l. Ran_out) t ts x ≡ Form u us l → IsInRoom b u
      go (Made (Some q) m) z = absurd (cc)
      go (Made None m) z = in_room b t u (same_form t u ts us m l z) h
      go Out z = absurd (cc)
      go (Past x m) z = absurd (cc)
  form_in_room b (suc n) from t u ts us k l e h = go (look_from due from t k) e (λ p v vs m y g. form_in_room b n p v u vs us m l y g)
    where
      go : (x : Work (Option Placed)) → looked_in due (make_in due b (run_in due b n) t ts) t ts x ≡ Form u us l
          → ((p : List ℕ) (v : Tree) (vs : List Traced) (m : ℕ) → run_in due b n p v vs m ≡ Form u us l → IsInRoom b v → IsInRoom b u) → IsInRoom b u
      go (Made None m) z ih = in_room b t u (same_form t u ts us m l z) h
      go Out z ih = absurd (cc)
      go (Past x m) z ih = absurd (cc)
      go (Made (Some q) zero) z ih = absurd (cc)
      go (Made (Some q) (suc m)) z ih = at_limit (first_limit (remade t q)) (is_past b (remade t q)) refl z
        where
          at_limit : (o : Option Limit) (p : Bool) → is_past b (remade t q) ≡ p
              → bounded o p (remade t q) (suc m) (run_in due b n q.path (remade t q) (ts ++ traced q ∷ []) m) ≡ Form u us l → IsInRoom b u
          at_limit (Some x) p g y = absurd (cc)
          at_limit None true g y = absurd (cc)
          at_limit None false g y = let i = inside b (remade t q) g in ih q.path (remade t q) (ts ++ traced q ∷ []) m y (record { small = i.0; shallow = i.1 })

  -- ---- a form that is another term takes a step

  same_left : (t u : Tree) (ts us : List Traced) (k l : ℕ) → Form t ts k ≡ Form u us l → k ≡ l
  same_left t u ts us k l e = cc

  pub form_leaves : (b : Room) (n : ℕ) (from : List ℕ) (t u : Tree) (ts us : List Traced) (k l : ℕ) → run_in due b n from t ts k ≡ Form u us l → l ≤ k
  form_leaves b zero from t u ts us k l e = go (look_from due from t k) (look_from_leaves due falls from t k) e
    where
      go : (x : Work (Option Placed)) → LeavesAtMost k x → looked_in due (λ q l. Ran_out) t ts x ≡ Form u us l → l ≤ k
      go (Made (Some q) m) h z = absurd (cc)
      go (Made None m) h z = omega (arith, h, same_left t u ts us m l z)
      go Out h z = absurd (cc)
      go (Past x m) h z = absurd (cc)
  form_leaves b (suc n) from t u ts us k l e = go (look_from due from t k) (look_from_leaves due falls from t k) e (λ p v vs m y. form_leaves b n p v u vs us m l y)
    where
      go : (x : Work (Option Placed)) → LeavesAtMost k x → looked_in due (make_in due b (run_in due b n) t ts) t ts x ≡ Form u us l
          → ((p : List ℕ) (v : Tree) (vs : List Traced) (m : ℕ) → run_in due b n p v vs m ≡ Form u us l → l ≤ m) → l ≤ k
      go (Made None m) h z ih = omega (arith, h, same_left t u ts us m l z)
      go Out h z ih = absurd (cc)
      go (Past x m) h z ih = absurd (cc)
      go (Made (Some q) zero) h z ih = absurd (cc)
      go (Made (Some q) (suc m)) h z ih = at_limit (first_limit (remade t q)) (is_past b (remade t q)) z
        where
          at_limit : (o : Option Limit) (p : Bool)
              → bounded o p (remade t q) (suc m) (run_in due b n q.path (remade t q) (ts ++ traced q ∷ []) m) ≡ Form u us l → l ≤ k
          at_limit (Some x) p y = absurd (cc)
          at_limit None true y = absurd (cc)
          at_limit None false y = let i = ih q.path (remade t q) (ts ++ traced q ∷ []) m y in omega (arith, i, h)

  pub form_spends : (b : Room) (n : ℕ) (from : List ℕ) (t u : Tree) (ts us : List Traced) (k l : ℕ) → run_in due b n from t ts k ≡ Form u us l → (l < k) ⊎ (t ≡ u)
  form_spends b zero from t u ts us k l e = go (look_from due from t k) e
    where
      go : (x : Work (Option Placed)) → looked_in due (λ q l. Ran_out) t ts x ≡ Form u us l → (l < k) ⊎ (t ≡ u)
      go (Made (Some q) m) z = absurd (cc)
      go (Made None m) z = inr (same_form t u ts us m l z)
      go Out z = absurd (cc)
      go (Past x m) z = absurd (cc)
  form_spends b (suc n) from t u ts us k l e =
      go (look_from due from t k) (look_from_leaves due falls from t k) e (λ p v vs m y. form_leaves b n p v u vs us m l y)
    where
      go : (x : Work (Option Placed)) → LeavesAtMost k x → looked_in due (make_in due b (run_in due b n) t ts) t ts x ≡ Form u us l
          → ((p : List ℕ) (v : Tree) (vs : List Traced) (m : ℕ) → run_in due b n p v vs m ≡ Form u us l → l ≤ m) → (l < k) ⊎ (t ≡ u)
      go (Made None m) h z ih = inr (same_form t u ts us m l z)
      go Out h z ih = absurd (cc)
      go (Past x m) h z ih = absurd (cc)
      go (Made (Some q) zero) h z ih = absurd (cc)
      go (Made (Some q) (suc m)) h z ih = at_limit (first_limit (remade t q)) (is_past b (remade t q)) z
        where
          at_limit : (o : Option Limit) (p : Bool)
              → bounded o p (remade t q) (suc m) (run_in due b n q.path (remade t q) (ts ++ traced q ∷ []) m) ≡ Form u us l → (l < k) ⊎ (t ≡ u)
          at_limit (Some x) p y = absurd (cc)
          at_limit None true y = absurd (cc)
          at_limit None false y = let i = ih q.path (remade t q) (ts ++ traced q ∷ []) m y in inl (omega (arith, i, h))

-- ---- within the limits no term is outgrown

module _ (due : (budget : ℕ) → Tree → Work (Option Replacement)) where
  abbrev top : Room
  top = record { big = node_limit; deep = depth_limit }

  pub never_outgrown : (n : ℕ) (from : List ℕ) (t x : Tree) (ts : List Traced) (k l : ℕ) → run_in due top n from t ts k ≡ Outgrown x l → ⊥
  never_outgrown zero from t x ts k l e = go (look_from due from t k) e
    where
      go : (w : Work (Option Placed)) → looked_in due (λ q m. Ran_out) t ts w ≡ Outgrown x l → ⊥
      go (Made (Some q) m) z = cc
      go (Made None m) z = cc
      go Out z = cc
      go (Past y m) z = cc
  never_outgrown (suc n) from t x ts k l e = go (look_from due from t k) e (λ p v vs m y. never_outgrown n p v x vs m l y)
    where
      go : (w : Work (Option Placed)) → looked_in due (make_in due top (run_in due top n) t ts) t ts w ≡ Outgrown x l
          → ((p : List ℕ) (v : Tree) (vs : List Traced) (m : ℕ) → run_in due top n p v vs m ≡ Outgrown x l → ⊥) → ⊥
      go (Made None m) z ih = cc
      go Out z ih = cc
      go (Past y m) z ih = cc
      go (Made (Some q) zero) z ih = cc
      go (Made (Some q) (suc m)) z ih = at_limit (first_limit (remade t q)) refl z
        where
          at_limit : (o : Option Limit) → first_limit (remade t q) ≡ o
              → bounded o (is_past top (remade t q)) (remade t q) (suc m) (run_in due top n q.path (remade t q) (ts ++ traced q ∷ []) m) ≡ Outgrown x l → ⊥
          at_limit (Some y) f z = cc
          at_limit None f z =
              let w = within_limits (remade t q) f in
              ih q.path (remade t q) (ts ++ traced q ∷ []) m (sym (rw (stays_inside top (remade t q) w.0 w.1) refl) ∙ z)
