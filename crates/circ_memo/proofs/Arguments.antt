-- An application whose arguments are normalised from the left.
use Rattle.std.proofs.Common.{◌≡◌, ℕ, ◌+◌, ◌-◌, ◌*◌, ◌≤◌, ◌<◌, max, zero, suc, List, [], ◌∷◌, ◌++◌, map, length, Option, Some, None, refl, ap, sym, subst, ◌∙◌, arith, length-append}
use Rattle.std.specs.Prelude.{slice_set}
use Rattle.std.specs.List.{slice_get}
use Rattle.std.proofs.lemmas.List.{length-map, length-set}
use Rattle.circ_term.specs.Tree.{Tree, Var, App, none, more, args_of, list_of, put_at, size_of, depth_of}
use Rattle.circ_term.specs.Limits.{Big, Deep, IsWithinLimits, Names, first_limit, node_limit}
use Rattle.circ_term.proofs.Limits.{first_limit_none}
use Rattle.circ_term.specs.declared.fault.TermFault.{TermFault}
use Rattle.circ_term.specs.declared.fault.TermFault.TheVariants.{TooBig, TooDeep, Memory}
use Rattle.circ_rewrite.specs.Replacement.{Replacement, Traced}
use Rattle.circ_rewrite.specs.Plain.{rewrite_fault}
use Rattle.circ_rewrite.specs.declared.fault.RewriteFault.{RewriteFault}
use Rattle.circ_rewrite.specs.declared.fault.RewriteFault.TheVariants as fault
use Rattle.circ_nodes.specs.Named.{IsNamed}
use Rattle.circ_nodes.proofs.Numbers.{are_named_at, are_named_set, are_named_length, named_one}
use Rattle.circ_chain.specs.Chain.{under, Chain, Outgrows}
use Rattle.circ_chain.proofs.Standings.{size_arg, arg_smaller, arg_less_deep}
use Rattle.circ_chain.proofs.Settling.{through_next, through_still, through_end, through_within, through_out, through_breaks, through_past, through_outgrows}
use Rattle.circ_chain.proofs.Keeping.{kept_none}
use Rattle.circ_chain.proofs.Roots.{readies_self}
use Rattle.circ_rewrite.specs.Standing.{HasSettledBelow}
use Rattle.circ_memo.proofs.Stores.{depth_named, depth_named_is}
use Rattle.circ_memo.specs.Keeping.{IsForm, IsInBounds}
use Rattle.circ_memo.specs.Settling.{IsWithin, IsInside, IsWay, IsPassing, Faulted, room}
use Rattle.circ_memo.specs.declared.parts.Bounds.{Bounds}
use Rattle.circ_memo.specs.declared.parts.Entry.{Entry}
use Rattle.circ_memo.specs.declared.parts.Passing.{Passing}

-- no replacement was made
no_move : (due : Tree → Option Replacement) (big deep : ℕ) (t u : Tree) (ts : List Traced) → Chain due big deep t ts u → length ts ≡ 0 → t ≡ u
no_move due big deep t u [] h z = h
no_move due big deep t u (tr ∷ ts) h z = absurd (omega arith)

module _ (due : Tree → Option Replacement) (nodes : List Tree) (b : Bounds) (t : Tree) (i : ℕ) (p : Passing) (h : IsPassing due nodes b t i p) where
  pub now_within : (size_of (App p.op p.sort h.args) ≤ b.big) × (depth_of (App p.op p.sort h.args) ≤ b.deep)
  now_within =
      let w = through_within due p.big p.deep t h.traces p.op p.sort i h.args h.through in
      (omega (arith, w.0, h.within.small, h.small), omega (arith, w.1, h.within.shallow, h.shallow))

  pub now_limits : IsWithinLimits (App p.op p.sort h.args)
  now_limits = first_limit_none (App p.op p.sort h.args) (omega (arith, now_within.0, h.within.big)) (omega (arith, now_within.1, h.within.deep))

  pub unmoved : p.count ≡ 0 → t ≡ App p.op p.sort h.args
  unmoved z = no_move due p.big p.deep t (App p.op p.sort h.args) h.traces h.through.chain (h.count ∙ z)

  -- argument i, as it stands
  pub arg_at : (n : ℕ) → slice_get p.args.items i ≡ Some n → (a : Tree) × (slice_get (list_of h.args) i ≡ Some a) × IsNamed nodes n a
  arg_at n e = are_named_at nodes p.args.items h.args i n h.named e

  -- by its number it is this one
  pub arg_is : (n : ℕ) (a : Tree) → slice_get p.args.items i ≡ Some n → IsNamed nodes n a → slice_get (list_of h.args) i ≡ Some a
  arg_is n a e k = let found = arg_at n e in found.1 ∙ ap Some (named_one nodes n found.0 a found.2 k)

  pub arg_room : (a : Tree) → slice_get (list_of h.args) i ≡ Some a → IsWithin (room p b (size_of a)) a
  arg_room a g = record {
    small = omega (arith, h.size, now_within.0);
    shallow = omega (arith, now_within.1, arg_less_deep p.op p.sort i h.args a g);
    big = omega (arith, h.size, h.within.big, now_within.0, arg_smaller p.op p.sort i h.args a g);
    deep = omega (arith, h.within.deep);
  }

  -- the bounds that are left to argument i suit it
  pub arg_inside : (n own : ℕ) (x : Tree) (r : Bounds) → slice_get p.args.items i ≡ Some n → IsNamed nodes n x → own ≡ size_of x → r ≡ room p b own → IsInside nodes r n
  arg_inside n own x r e k o q = (x, k, rw (q, o) (arg_room x (arg_is n x e k)))

  -- it takes less work
  pub arg_measure : (n k : ℕ) (x : Tree) → slice_get p.args.items i ≡ Some n → IsNamed nodes n x
      → k * 4004 + 4 * depth_named nodes n + 3 < (k + p.count) * 4004 + 4 * p.depth
  arg_measure n k x e q = go p.count refl
    where
      less : depth_of x + 1 ≤ depth_of (App p.op p.sort h.args)
      less = arg_less_deep p.op p.sort i h.args x (arg_is n x e q)

      go : (c : ℕ) → p.count ≡ c → k * 4004 + 4 * depth_named nodes n + 3 < (k + p.count) * 4004 + 4 * p.depth
      go zero z = omega (arith, less, depth_named_is nodes n x q, h.depth, ap depth_of (unmoved z), z)
      go (suc c) z = omega (arith, less, depth_named_is nodes n x q, now_within.1, h.within.deep, z)

  -- what goes into the new size and bounds is small
  pub arg_small : (n own : ℕ) (x : Tree) → slice_get p.args.items i ≡ Some n → IsNamed nodes n x → own ≡ size_of x → (own ≤ p.size) × (p.size ≤ b.big) × (b.big ≤ node_limit) × (0 < b.deep)
  arg_small n own x e k o = (
    omega (arith, o, h.size, arg_smaller p.op p.sort i h.args x (arg_is n x e k)),
    omega (arith, h.size, now_within.0),
    h.within.big,
    omega (arith, now_within.1),
  )

  -- all arguments are normal
  pub passing_way : (later : List Tree) (n : ℕ) → i ≡ length p.args.items → IsNamed later n (App p.op p.sort h.args)
      → IsWay due later b t (record { ready = n; count = p.count; big = p.big; deep = p.deep }) (App p.op p.sort h.args)
  passing_way later n e k = record {
    traces = h.traces;
    there = k;
    count = h.count;
    readies = through_end due p.big p.deep t h.traces p.op p.sort i h.args h.through (e ∙ are_named_length nodes p.args.items h.args h.named);
    small = h.small;
    shallow = h.shallow;
  }

  -- argument i stops the work
  pub passing_stops : (k left n : ℕ) (a : Tree) (e : RewriteFault) → slice_get (list_of h.args) i ≡ Some a → p.count + k ≡ n
      → Faulted due nodes (room p b (size_of a)) k left a e → Faulted due nodes b n left t e
  passing_stops k left n a e g counts s = go e s
    where
      r : Bounds
      r = room p b (size_of a)

      fits : size_of (App p.op p.sort h.args) + (room p b (size_of a)).big ≤ b.big + size_of a
      fits = omega (arith, h.size, now_within.0)

      below : 1 + (room p b (size_of a)).deep ≤ b.deep
      below = omega (arith, now_within.1)

      total : length h.traces + k ≡ n
      total = omega (arith, h.count, counts)

      go : (e : RewriteFault) → Faulted due nodes (room p b (size_of a)) k left a e → Faulted due nodes b n left t e
      go fault.Spent s =
          (through_out due p.big p.deep (room p b (size_of a)).big (room p b (size_of a)).deep b.big b.deep k n t h.traces p.op p.sort i h.args a h.through g h.small h.shallow now_within.1 fits below s.0 total, s.1)
      go (fault.TooBig m) s =
          through_breaks due p.big p.deep (room p b (size_of a)).big (room p b (size_of a)).deep b.big b.deep k n left t h.traces p.op p.sort i h.args a (Big m) h.through g now_limits h.small h.shallow now_within.1 fits below s total
      go (fault.TooDeep m) s =
          through_breaks due p.big p.deep (room p b (size_of a)).big (room p b (size_of a)).deep b.big b.deep k n left t h.traces p.op p.sort i h.args a (Deep m) h.through g now_limits h.small h.shallow now_within.1 fits below s total
      go fault.Memory s = tt

  -- argument i outgrows its bounds by x, and the term made around it is within the limits, or is not
  pub passing_outgrows : (k left n : ℕ) (a x : Tree) → slice_get (list_of h.args) i ≡ Some a → p.count + k ≡ n
      → Outgrows due (room p b (size_of a)).big (room p b (size_of a)).deep k left a x → IsWithinLimits (App p.op p.sort (put_at h.args i x))
      → Outgrows due b.big b.deep n left t (App p.op p.sort (put_at h.args i x))
  passing_outgrows k left n a x g counts o w =
      through_outgrows due p.big p.deep (room p b (size_of a)).big (room p b (size_of a)).deep b.big b.deep k n left t h.traces p.op p.sort i h.args a x h.through g h.small h.shallow now_within.1
      (omega (arith, h.size, now_within.0)) (omega (arith, now_within.1)) o w (omega (arith, h.count, counts))

  pub passing_past : (k left n : ℕ) (a x : Tree) (f : TermFault) → slice_get (list_of h.args) i ≡ Some a → p.count + k ≡ n
      → Outgrows due (room p b (size_of a)).big (room p b (size_of a)).deep k left a x → Names f (first_limit (App p.op p.sort (put_at h.args i x)))
      → Faulted due nodes b n left t (rewrite_fault f)
  passing_past k left n a x (TooBig m) g counts o w =
      through_past due p.big p.deep (room p b (size_of a)).big (room p b (size_of a)).deep b.big b.deep k n left t h.traces p.op p.sort i h.args a x (Big m) h.through g h.small h.shallow now_within.1
      (omega (arith, h.size, now_within.0)) (omega (arith, now_within.1)) o w (omega (arith, h.count, counts))
  passing_past k left n a x (TooDeep m) g counts o w =
      through_past due p.big p.deep (room p b (size_of a)).big (room p b (size_of a)).deep b.big b.deep k n left t h.traces p.op p.sort i h.args a x (Deep m) h.through g h.small h.shallow now_within.1
      (omega (arith, h.size, now_within.0)) (omega (arith, now_within.1)) o w (omega (arith, h.count, counts))
  passing_past k left n a x Memory g counts o w = tt

  -- argument i is normal as it stands
  pub passing_still : (a : Tree) (e : Entry) → slice_get (list_of h.args) i ≡ Some a → IsForm due nodes a e → e.count ≡ 0 → IsPassing due nodes b t (i + 1) p
  passing_still a e g f z = record {
    args = h.args;
    traces = h.traces;
    named = h.named;
    few = h.few;
    within = h.within;
    size = h.size;
    depth = h.depth;
    count = h.count;
    through = through_still due p.big p.deep t h.traces p.op p.sort i h.args a h.through g (kept_none due a f.value f.traces e.count e.big e.deep f.form z).1;
    small = h.small;
    shallow = h.shallow;
  }

  -- the normal form of argument i is put in its place
  pub passing_next : (a : Tree) (e : Entry) (q : Passing) → slice_get (list_of h.args) i ≡ Some a → (f : IsForm due nodes a e)
      → IsInBounds (room p b (size_of a)) e
      → q.op ≡ p.op → q.sort ≡ p.sort → q.args.items ≡ slice_set p.args.items i e.value → q.size + size_of a ≡ p.size + size_of f.value
      → q.depth ≡ p.depth → q.count ≡ p.count + e.count → q.big ≡ max p.big (p.size - size_of a + e.big)
      → q.deep ≡ max (max p.deep p.depth) (e.deep + 1) → IsPassing due nodes b t (i + 1) q
  passing_next a e q g f w op sort args size depth count big deep = record {
    args = put_at h.args i f.value;
    traces = h.traces ++ map (under (i ∷ [])) f.traces;
    named = rw args (are_named_set nodes p.args.items h.args i e.value f.value h.named f.there);
    few = omega (arith, h.few, ap length args, length-set p.args.items i e.value);
    within = h.within;
    size = omega (arith, size, h.size, size_arg p.op p.sort i h.args a f.value g);
    depth = depth ∙ h.depth;
    count = omega (arith, length-append h.traces (map (under (i ∷ [])) f.traces), length-map f.traces (under (i ∷ [])), h.count, f.form.count_is, count);
    through =
        rw (op, sort)
        (through_next due p.big p.deep e.big e.deep q.big q.deep t h.traces p.op p.sort i h.args a f.value f.traces h.through g f.form.reduces (omega (arith, big)) (omega (arith, deep))
        (omega (arith, big, h.size)) (omega (arith, deep, within_now.1, h.depth)) (omega (arith, deep)));
    small = omega (arith, big, h.small, w.small, h.size, now_within.0, arg_smaller p.op p.sort i h.args a g);
    shallow = omega (arith, deep, h.shallow, w.shallow, h.depth, h.within.shallow, now_within.1);
  }
    where
      within_now : (size_of (App p.op p.sort h.args) ≤ max p.big (size_of t)) × (depth_of (App p.op p.sort h.args) ≤ max p.deep (depth_of t))
      within_now = through_within due p.big p.deep t h.traces p.op p.sort i h.args h.through

-- a term within the limits names none
pub no_fault : (due : Tree → Option Replacement) (nodes : List Tree) (b : Bounds) (k left : ℕ) (t u : Tree) (f : TermFault) → IsWithinLimits u → Names f (first_limit u)
    → Faulted due nodes b k left t (rewrite_fault f)
no_fault due nodes b k left t u (TooBig n) w h = absurd (let z : None ≡ Some (Big n) = sym w ∙ h in cc)
no_fault due nodes b k left t u (TooDeep n) w h = absurd (let z : None ≡ Some (Deep n) = sym w ∙ h in cc)
no_fault due nodes b k left t u Memory w h = tt

-- a variable has no arguments
pub variable_way : (due : Tree → Option Replacement) (nodes : List Tree) (b : Bounds) (t : Tree) (n : ℕ) → IsNamed nodes n t → args_of t ≡ []
    → IsWay due nodes b t (record { ready = n; count = 0; big = 0; deep = 0 }) t
variable_way due nodes b t n k e = record {
  traces = [];
  there = k;
  count = refl;
  readies = readies_self due t (no_args t e);
  small = omega arith;
  shallow = omega arith;
}
  where
    no_args : (t : Tree) → args_of t ≡ [] → HasSettledBelow due t
    no_args (Var m s) e = tt
    no_args (App f s none) e = tt
    no_args (App f s (more x xs)) e = absurd (omega (arith, ap length e))

pub within_of : (nodes : List Tree) (b : Bounds) (n : ℕ) (t : Tree) → IsInside nodes b n → IsNamed nodes n t → IsWithin b t
within_of nodes b n t h k = subst (λ x. IsWithin b x) (named_one nodes n h.0 t h.1 k) h.2

pub get_set_other : (ns : List ℕ) (i j m : ℕ) → i < j → slice_get (slice_set ns i m) j ≡ slice_get ns j
get_set_other [] i j m h = refl
get_set_other (n ∷ ns) i zero m h = absurd (omega (arith, h))
get_set_other (n ∷ ns) zero (suc j) m h = refl
get_set_other (n ∷ ns) (suc i) (suc j) m h = get_set_other ns i j m (omega (arith, h))
