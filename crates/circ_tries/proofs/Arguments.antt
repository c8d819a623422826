-- An argument that is normalised by itself, and the application in which it stands.
use Rattle.std.proofs.Common.{◌≡◌, ◌⊎◌, inl, inr, ℕ, ◌+◌, ◌-◌, ◌≤◌, ◌<◌, zero, suc, true, List, [], ◌∷◌, ◌++◌, map, length, Option, Some, Ok, refl, ap, sym, subst, ◌∙◌, arith, append_assoc}
use Rattle.std.specs.Prelude.{slice_set}
use Rattle.std.specs.List.{slice_get}
use Rattle.std.proofs.lemmas.Option.{same_Some}
use Rattle.circ_term.specs.Tree.{Tree, Trees, Var, App, list_of, args_of, put_at, replaced, size_of}
use Rattle.circ_term.specs.Limits.{node_limit, depth_limit, Big, Deep, IsWithinLimits}
use Rattle.circ_term.proofs.Limits.{first_limit_none}
use Rattle.circ_term.proofs.Paths.{replaced_self}
use Rattle.circ_term.proofs.Trees.{list_of-trees_of}
use Rattle.circ_rewrite.specs.Plain.{plain_traces}
use Rattle.circ_rewrite.specs.Replacement.{Replacement, Traced}
use Rattle.circ_rewrite.specs.declared.fault.RewriteFault.{RewriteFault}
use Rattle.circ_rewrite.specs.declared.fault.RewriteFault.TheVariants.{Spent, TooBig, TooDeep, Memory}
use Rattle.circ_chain.specs.Chain.{under}
use Rattle.circ_chain.proofs.Standings.{size_arg, arg_smaller, arg_less_deep, depth_put}
use Rattle.circ_nodes.specs.Named.{IsNamed}
use Rattle.circ_conditional_norm.specs.Within.{Room as PlainRoom, IsInRoom, Form, Ran_out, Outgrown, bounded, run_in}
use Rattle.circ_conditional_norm.specs.Work.{Work}
use Rattle.circ_conditional_norm.proofs.Sure.{none_due, stands_there}
use Rattle.circ_conditional_norm.proofs.Stepping.{IsRoomFor, arg_formed, arg_ran_out, arg_broken, arg_outgrown, form_in_room, form_spends}
use Rattle.circ_tries.specs.declared.parts.Course.{Course}
use Rattle.circ_tries.specs.declared.parts.Room.{Room}
use Rattle.circ_tries.specs.declared.parts.Stop.{Stop}
use Rattle.circ_tries.specs.declared.parts.Stop.TheVariants as stop
use Rattle.circ_tries.specs.Turning.{plain_room, Writes, GoesOn, IsFallingDue, FaultsAt, StopsAt, PassesArg, IsOutgrown}

-- a term with an argument is an application
pub record IsApplied (t : Tree) (i : ℕ) : Type 0 where
  pub op : ℕ
  pub sort : ℕ
  pub args : Trees
  pub is : t ≡ App op sort args
  pub arg : Tree
  pub there : slice_get (list_of args) i ≡ Some arg

read_at : (xs : List Tree) (i : ℕ) → i < length xs → (a : Tree) × (slice_get xs i ≡ Some a)
read_at [] i h = absurd (omega arith)
read_at (x ∷ xs) zero h = (x, refl)
read_at (x ∷ xs) (suc i) h = read_at xs i (omega arith)

pub applied : (t : Tree) (i : ℕ) → i < length (args_of t) → IsApplied t i
applied (Var n s) i h = absurd (omega (arith, h))
applied (App f s ts) i h = let a = read_at (list_of ts) i h in record { op = f; sort = s; args = ts; is = refl; arg = a.0; there = a.1 }

pub length_set : {X : Type 0} (xs : List X) (i : ℕ) (v : X) → length (slice_set xs i v) ≡ length xs
length_set [] i v = refl
length_set (x ∷ xs) zero v = refl
length_set (x ∷ xs) (suc i) v = ap suc (length_set xs i v)

pub length_put : (ts : Trees) (i : ℕ) (v : Tree) → length (list_of (put_at ts i v)) ≡ length (list_of ts)
length_put ts i v = ap length (list_of-trees_of (slice_set (list_of ts) i v)) ∙ length_set (list_of ts) i v

pub put_is : (f s i : ℕ) (ts : Trees) (a v : Tree) → slice_get (list_of ts) i ≡ Some a → replaced (App f s ts) (i ∷ []) v ≡ Some (App f s (put_at ts i v))
put_is f s i ts a v g = rw g refl

-- the bounds that are left for an argument
abbrev pub left_for : Room → (t a : Tree) → PlainRoom
left_for b t a = record { big = b.big - size_of t + size_of a; deep = b.deep - 1 }

module _ (b : Room) (f s i : ℕ) (ts : Trees) (a : Tree) (there : slice_get (list_of ts) i ≡ Some a) (inside : IsInRoom (plain_room b) (App f s ts))
    (nodes : b.big ≤ node_limit) (levels : b.deep ≤ depth_limit) where
  abbrev whole : Tree
  whole = App f s ts

  abbrev room : PlainRoom
  room = left_for b whole a

  pub arg_fits : IsRoomFor (plain_room b) room f s i ts a
  arg_fits = record {
    nodes = nodes;
    levels = levels;
    there = there;
    big = let g = inside.small in omega (arith, g);
    deep = let d = arg_less_deep f s i ts a there in let g = inside.shallow in omega (arith, d, g);
    small = inside.small;
    shallow = inside.shallow;
  }

  -- the argument is within them
  pub arg_in_room : IsInRoom room a
  arg_in_room =
      let d = arg_less_deep f s i ts a there in
      let g = inside.shallow in
      let h = inside.small in
      record { small = omega (arith, h); shallow = omega (arith, d, g) }

  pub arg_limits : (room.big ≤ node_limit) × (room.deep ≤ depth_limit)
  arg_limits = let m = arg_smaller f s i ts a there in let h = inside.small in (omega (arith, h, m, nodes), omega (arith, levels))

  -- and so is the whole with another one within them
  pub put_in_room : (v : Tree) → IsInRoom room v → IsInRoom (plain_room b) (App f s (put_at ts i v))
  put_in_room v h =
      let size = size_arg f s i ts a v there in
      let depth = depth_put none_due (i ∷ []) whole a v (App f s (put_at ts i v)) (stands_there (i ∷ []) whole a there) (put_is f s i ts a v there) in
      let d = arg_less_deep f s i ts a there in
      let small = h.small in
      let shallow = h.shallow in
      let ws = inside.small in
      let wd = inside.shallow in
      record { small = omega (arith, size, small, ws); shallow = omega (arith, depth, shallow, wd, d) }

  pub put_within : (v : Tree) → IsInRoom room v → IsWithinLimits (App f s (put_at ts i v))
  put_within v h =
      let p = put_in_room v h in
      let small = p.small in
      let shallow = p.shallow in
      first_limit_none (App f s (put_at ts i v)) (omega (arith, small, nodes)) (omega (arith, shallow, levels))

  module _ (due : (budget : ℕ) → Tree → Work (Option Replacement)) (falls : IsFallingDue due) (k : ℕ) where
    -- the argument came to its normal form
    pub arg_passes : (table : List Tree) (path : List ℕ) (x y : Course) (m l : ℕ) (v : Tree) (vs : List Traced) → IsNamed table m (App f s (put_at ts i v))
        → run_in due room k [] a [] k ≡ Form v vs l → Writes path x y (map (under (i ∷ [])) vs) → PassesArg due b table path x y whole i k l (Ok m)
    arg_passes table path x y m l v vs named e w =
        let fits = form_in_room due falls room k [] a v [] vs k l e arg_in_room in
        let z : suc i ≡ i + 1 = omega arith in (
          App f s (put_at ts i v),
          map (under (i ∷ [])) vs,
          named,
          subst (λ j. GoesOn due b (i ∷ []) whole k (j ∷ []) (App f s (put_at ts i v)) (map (under (i ∷ [])) vs) l) z
              (λ us. arg_formed due falls (plain_room b) room f s i ts a arg_fits us k v vs l e),
          (refl, length_put ts i v),
          w,
          put_in_room v fits,
          same (form_spends due falls room k [] a v [] vs k l e),
        )
      where
        same : (l < k) ⊎ (a ≡ v) → (l < k) ⊎ (whole ≡ App f s (put_at ts i v))
        same (inl h) = inl h
        same (inr h) =
            inr (same_Some whole (App f s (put_at ts i v)) (sym (replaced_self (i ∷ []) whole a there) ∙ ap (replaced whole (i ∷ [])) h ∙ put_is f s i ts a v there))

    pub arg_faults : (table : List Tree) (l : ℕ) (c : Room) (e : RewriteFault) → plain_room c ≡ room → FaultsAt due c table [] a k l e → FaultsAt due b table (i ∷ []) whole k l e
    arg_faults table l c Spent r h =
        (λ us. arg_ran_out due falls (plain_room b) room f s i ts a arg_fits us k (ap (λ z. run_in due z k [] a [] k) (sym r) ∙ h.0 []), h.1)
    arg_faults table l c (TooBig n) r h = λ us.
        arg_broken due falls (plain_room b) room f s i ts a arg_fits us k (Big n) l (ap (λ z. run_in due z k [] a [] k) (sym r) ∙ h [])
    arg_faults table l c (TooDeep n) r h = λ us.
        arg_broken due falls (plain_room b) room f s i ts a arg_fits us k (Deep n) l (ap (λ z. run_in due z k [] a [] k) (sym r) ∙ h [])
    arg_faults table l c Memory r h = tt

    -- the argument outgrew its bounds
    pub arg_outgrows : (table : List Tree) (l : ℕ) (x : Tree) (o : Stop) → run_in due room k [] a [] k ≡ Outgrown x l → IsOutgrown table (App f s (put_at ts i x)) o
        → StopsAt due b table (i ∷ []) whole k l o
    arg_outgrows table l x (stop.Outgrows m) e h = (
      App f s (put_at ts i x),
      h.0,
      λ us. arg_outgrown due falls (plain_room b) room f s i ts a arg_fits us k x l e ∙ ap (λ z. bounded z true (App f s (put_at ts i x)) l Ran_out) h.1,
    )
    arg_outgrows table l x (stop.Fault Spent) e h = absurd h
    arg_outgrows table l x (stop.Fault (TooBig n)) e h = λ us.
        arg_outgrown due falls (plain_room b) room f s i ts a arg_fits us k x l e ∙ ap (λ z. bounded z true (App f s (put_at ts i x)) l Ran_out) h
    arg_outgrows table l x (stop.Fault (TooDeep n)) e h = λ us.
        arg_outgrown due falls (plain_room b) room f s i ts a arg_fits us k x l e ∙ ap (λ z. bounded z true (App f s (put_at ts i x)) l Ran_out) h
    arg_outgrows table l x (stop.Fault Memory) e h = tt

-- ---- the traces of an argument, in the whole

under_under : (p : List ℕ) (i : ℕ) (vs : List Traced) → map (under (p ++ i ∷ [])) vs ≡ map (under p) (map (under (i ∷ [])) vs)
under_under p i [] = refl
under_under p i (v ∷ vs) = λ j.
    record { path = append_assoc p (i ∷ []) v.path j; reason = v.reason } ∷ under_under p i vs j

pub writes_arg : (path : List ℕ) (i : ℕ) (x y : Course) (vs : List Traced) → plain_traces y.traces.items ≡ plain_traces x.traces.items ++ map (under (path ++ i ∷ [])) vs
    → y.path.items ≡ path → Writes path x y (map (under (i ∷ [])) vs)
writes_arg path i x y vs e p = (e ∙ ap (λ xs. plain_traces x.traces.items ++ xs) (under_under path i vs), p)
