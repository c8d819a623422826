-- A term whose arguments are normalised: before the first, at each, and behind the last.
use Rattle.std.proofs.Common.{◌≡◌, ℕ, ◌+◌, ◌-◌, ◌≤◌, zero, true, List, [], ◌∷◌, map, length, Option, Some, None, is_some, Result, Ok, Err, refl, ap, sym, subst, ◌∙◌, append-nil}
use Rattle.std.specs.List.{slice_get}
use Rattle.std.proofs.lemmas.Option.{same_Some}
use Rattle.circ_term.specs.Tree.{Tree, Var, App, args_of, at, operator_number, put_at, replaced, size_of, depth_of}
use Rattle.circ_term.specs.Limits.{node_limit, depth_limit, IsWithinLimits}
use Rattle.circ_term.proofs.Paths.{replaced_self}
use Rattle.circ_rewrite.specs.Replacement.{Replacement, Traced}
use Rattle.circ_rewrite.specs.Standing.{IsSettled}
use Rattle.circ_rewrite.specs.declared.fault.RewriteFault.{RewriteFault}
use Rattle.circ_chain.specs.Chain.{under}
use Rattle.circ_nodes.specs.Named.{IsNamed}
use Rattle.circ_conditional_norm.specs.Within.{IsInRoom, Form, Outgrown, run_in}
use Rattle.circ_conditional_norm.specs.Work.{Work, Made}
use Rattle.circ_conditional_norm.proofs.Stepping.{args_begin, settled_form, form_in_room}
use Rattle.circ_conditional_norm.proofs.Within.{at_the_root}
use Rattle.circ_chain.proofs.Standings.{arg_less_deep}
use Rattle.circ_tries.specs.declared.parts.Course.{Course}
use Rattle.circ_tries.specs.declared.parts.Room.{Room}
use Rattle.circ_tries.specs.declared.parts.Stop.{Stop}
use Rattle.circ_tries.specs.Turning.{plain_room, Writes, GoesOn, IsAtRoot, IsFallingDue, FaultsAt, StopsAt, SettlesAt, PassesArg, IsPut, IsOutgrown}
use Rattle.circ_tries.proofs.Arguments.{left_for, arg_in_room, arg_limits, put_within, put_is, arg_passes, arg_faults, arg_outgrows}
use Rattle.circ_tries.proofs.Going.{writes_none}

module _ (due : (budget : ℕ) → Tree → Work (Option Replacement)) where
  -- ---- the root

  pub variable_at_root : (t : Tree) (n s : ℕ) → t ≡ Var n s → IsAtRoot due [] t
  variable_at_root t n s e = subst (IsAtRoot due []) (sym e) (λ k. refl)

  pub behind_args : (t : Tree) (i : ℕ) → is_some (operator_number t) ≡ true → length (args_of t) ≤ i → IsAtRoot due (i ∷ []) t
  behind_args (Var n s) i o h = absurd (cc)
  behind_args (App f s ts) i o h = λ k. at_the_root due f s i ts k h

  module _ (b : Room) where
    -- before the first argument
    pub args_start : (t : Tree) (k : ℕ) → is_some (operator_number t) ≡ true → GoesOn due b [] t k (zero ∷ []) t [] k
    args_start (Var n s) k o = absurd (cc)
    args_start (App f s ts) k o = λ us.
        args_begin due (plain_room b) k f s ts us k ∙ ap (λ xs. run_in due (plain_room b) k (zero ∷ []) (App f s ts) xs k) (sym (append-nil us))

    -- a term that is known to be normal
    pub settles_still : (pure : Tree → Option Replacement) → ((k : ℕ) (t : Tree) → pure t ≡ None → due k t ≡ Made None k)
        → (nodes : List Tree) (path : List ℕ) (x : Course) (t : Tree) (k n : ℕ) → x.path.items ≡ path → IsNamed nodes n t → IsSettled pure t
        → SettlesAt due b nodes path x x [] t k k n
    settles_still pure nothing nodes path x t k n e named settled =
        (t, [], named, (λ us. settled_form due pure nothing (plain_room b) k t us k settled ∙ ap (λ xs. Form t xs k) (sym (append-nil us))), writes_none path x e)

-- ---- an argument

module _ (due : (budget : ℕ) → Tree → Work (Option Replacement)) (falls : IsFallingDue due) (b : Room) (nodes : b.big ≤ node_limit) (levels : b.deep ≤ depth_limit) where
  pub arg_inside : (t : Tree) (i : ℕ) (a : Tree) → slice_get (args_of t) i ≡ Some a → IsInRoom (plain_room b) t → IsInRoom (left_for b t a) a
  arg_inside (Var n s) i a there h = absurd (cc)
  arg_inside (App f s ts) i a there h = arg_in_room b f s i ts a there h nodes levels

  pub room_limits : (t : Tree) (i : ℕ) (a : Tree) → slice_get (args_of t) i ≡ Some a → IsInRoom (plain_room b) t
      → (b.big - size_of t + size_of a ≤ node_limit) × (b.deep - 1 ≤ depth_limit)
  room_limits (Var n s) i a there h = absurd (cc)
  room_limits (App f s ts) i a there h = arg_limits b f s i ts a there h nodes levels

  pub deeper_than : (t : Tree) (i : ℕ) (a : Tree) → slice_get (args_of t) i ≡ Some a → depth_of a + 1 ≤ depth_of t
  deeper_than (Var n s) i a there = absurd (cc)
  deeper_than (App f s ts) i a there = arg_less_deep f s i ts a there

  pub put_arg : (t : Tree) (i : ℕ) (a v : Tree) → slice_get (args_of t) i ≡ Some a → (u : Tree) × (replaced t (i ∷ []) v ≡ Some u)
  put_arg (Var n s) i a v there = absurd (cc)
  put_arg (App f s ts) i a v there = (App f s (put_at ts i v), put_is f s i ts a v there)

  pub put_limits : (t : Tree) (i : ℕ) (a v u : Tree) → slice_get (args_of t) i ≡ Some a → IsInRoom (plain_room b) t → IsInRoom (left_for b t a) v
      → replaced t (i ∷ []) v ≡ Some u → IsWithinLimits u
  put_limits (Var n s) i a v u there h g r = absurd (cc)
  put_limits (App f s ts) i a v u there h g r =
      subst IsWithinLimits (same_Some (App f s (put_at ts i v)) u (sym (put_is f s i ts a v there) ∙ r)) (put_within b f s i ts a there h nodes levels v g)

  pub formed_in_room : (t : Tree) (i : ℕ) (a v : Tree) (vs : List Traced) (k l : ℕ) → slice_get (args_of t) i ≡ Some a → IsInRoom (plain_room b) t
      → run_in due (left_for b t a) k [] a [] k ≡ Form v vs l → IsInRoom (left_for b t a) v
  formed_in_room t i a v vs k l there h e = form_in_room due falls (left_for b t a) k [] a v [] vs k l e (arg_inside t i a there h)

  pub passes_formed : (t : Tree) (i : ℕ) (a v u : Tree) (k : ℕ) → slice_get (args_of t) i ≡ Some a → IsInRoom (plain_room b) t → replaced t (i ∷ []) v ≡ Some u
      → (table : List Tree) (path : List ℕ) (x y : Course) (m l : ℕ) (vs : List Traced) → IsNamed table m u
      → run_in due (left_for b t a) k [] a [] k ≡ Form v vs l → Writes path x y (map (under (i ∷ [])) vs) → PassesArg due b table path x y t i k l (Ok m)
  passes_formed (Var n s) i a v u k there h r table path x y m l vs named e w = absurd (cc)
  passes_formed (App f s ts) i a v u k there h r table path x y m l vs named e w =
      let is = same_Some (App f s (put_at ts i v)) u (sym (put_is f s i ts a v there) ∙ r) in
      arg_passes b f s i ts a there h nodes levels due falls k table path x y m l v vs (subst (IsNamed table m) (sym is) named) e w

  pub passes_faults : (t : Tree) (i : ℕ) (a : Tree) (k : ℕ) → slice_get (args_of t) i ≡ Some a → IsInRoom (plain_room b) t
      → (table : List Tree) (l : ℕ) (c : Room) (e : RewriteFault) → plain_room c ≡ left_for b t a → FaultsAt due c table [] a k l e → FaultsAt due b table (i ∷ []) t k l e
  passes_faults (Var n s) i a k there h table l c e r g = absurd (cc)
  passes_faults (App f s ts) i a k there h table l c e r g = arg_faults b f s i ts a there h nodes levels due falls k table l c e r g

  pub passes_outgrown : (t : Tree) (i : ℕ) (a x u : Tree) (k : ℕ) → slice_get (args_of t) i ≡ Some a → IsInRoom (plain_room b) t → replaced t (i ∷ []) x ≡ Some u
      → (table : List Tree) (l : ℕ) (o : Stop) → run_in due (left_for b t a) k [] a [] k ≡ Outgrown x l → IsOutgrown table u o → StopsAt due b table (i ∷ []) t k l o
  passes_outgrown (Var n s) i a x u k there h r table l o e g = absurd (cc)
  passes_outgrown (App f s ts) i a x u k there h r table l o e g =
      let is = same_Some (App f s (put_at ts i x)) u (sym (put_is f s i ts a x there) ∙ r) in
      arg_outgrows b f s i ts a there h nodes levels due falls k table l x o e (subst (λ y. IsOutgrown table y o) (sym is) g)

  -- the argument is known to be normal
  pub passes_still : (pure : Tree → Option Replacement) → ((k : ℕ) (t : Tree) → pure t ≡ None → due k t ≡ Made None k)
      → (t : Tree) (i : ℕ) (a : Tree) (k : ℕ) → slice_get (args_of t) i ≡ Some a → IsInRoom (plain_room b) t → (table : List Tree) (path : List ℕ) (x : Course) (m : ℕ)
      → x.path.items ≡ path → IsNamed table m t → IsSettled pure a → PassesArg due b table path x x t i k k (Ok m)
  passes_still pure nothing t i a k there h table path x m p named settled =
      let self : replaced t (i ∷ []) a ≡ Some t = replaced_self (i ∷ []) t a (at_arg t i a there) in
      passes_formed t i a a t k there h self table path x x m k [] named (settled_form due pure nothing (left_for b t a) k a [] k settled) (writes_none path x p)
    where
      at_arg : (t : Tree) (i : ℕ) (a : Tree) → slice_get (args_of t) i ≡ Some a → at t (i ∷ []) ≡ Some a
      at_arg t i a e = e

-- the whole with another argument was put together, or memory ran out
pub put_passes : (due : (budget : ℕ) → Tree → Work (Option Replacement)) (b : Room) (table : List Tree) (path : List ℕ) (x y : Course) (t : Tree) (i k l : ℕ) (u : Tree) (o : Result ℕ Stop)
    → IsPut table u o → ((m : ℕ) → IsNamed table m u → PassesArg due b table path x y t i k l (Ok m)) → PassesArg due b table path x y t i k l o
put_passes due b table path x y t i k l u (Ok m) h f = f m h
put_passes due b table path x y t i k l u (Err s) h f = subst (StopsAt due b table (i ∷ []) t k l) (sym h) tt
