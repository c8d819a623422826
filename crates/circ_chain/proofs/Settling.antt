-- Arguments normalised one after the other, each by what is known of it by itself.
use Rattle.std.proofs.Common.{◌≡◌, ℕ, ◌+◌, ◌≤◌, max, zero, List, [], ◌∷◌, ◌++◌, map, length, Option, Some, refl, subst, arith}
use Rattle.std.specs.List.{slice_get}
use Rattle.circ_term.specs.Tree.{Tree, Trees, App, list_of, put_at, replaced, size_of, depth_of}
use Rattle.circ_term.specs.Limits.{Limit, first_limit, IsWithinLimits}
use Rattle.circ_rewrite.specs.Replacement.{Replacement, Traced}
use Rattle.circ_rewrite.specs.Standing.{IsSettled, AreSettled, Stands}
use Rattle.circ_rewrite.proofs.Standings.{settled_set, settled_next, get_set_list}
use Rattle.circ_chain.specs.Chain.{under, Chain, Reduces, RunsOut, Breaks, Outgrows}
use Rattle.circ_chain.specs.Through.{AreBelow, Through, Readies}
use Rattle.circ_chain.proofs.Chains.{chain_on, chain_weaken, chain_within, chain_up, out_on, breaks_on, outgrows_on, out_up, breaks_up, outgrows_up, outgrows_breaks}

pub below_on : (ts us : List Traced) → AreBelow ts → AreBelow us → AreBelow (ts ++ us)
below_on [] us h g = g
below_on (tr ∷ ts) us h g = (h.0, below_on ts us h.1 g)

-- what is made in an argument is made below the root
pub below_arg : (i : ℕ) (ts : List Traced) → AreBelow (map (under (i ∷ [])) ts)
below_arg i [] = tt
below_arg i (tr ∷ ts) = (λ e. absurd (cc), below_arg i ts)

module _ (due : Tree → Option Replacement) where
  pub through_start : (f s : ℕ) (ts : Trees) → Through due zero zero (App f s ts) [] f s zero ts
  through_start f s ts = record { chain = refl; below = tt; settled = tt }

  -- argument i stands there, with all before it settled
  through_stands : (big deep : ℕ) (t : Tree) (traces : List Traced) (f s i : ℕ) (us : Trees) (a : Tree) → Through due big deep t traces f s i us → slice_get (list_of us) i ≡ Some a
      → Stands due (App f s us) (i ∷ []) a
  through_stands big deep t traces f s i us a h g = (a, g, h.settled, refl)

  put_arg : (f s i : ℕ) (us : Trees) (a x : Tree) → slice_get (list_of us) i ≡ Some a → replaced (App f s us) (i ∷ []) x ≡ Some (App f s (put_at us i x))
  put_arg f s i us a x g = rw g refl

  -- by what is known of argument i; the new bounds need be no looser than this
  pub through_next : (big deep b d new_big new_deep : ℕ) (t : Tree) (traces : List Traced) (f s i : ℕ) (us : Trees) (a v : Tree) (ts : List Traced)
      → Through due big deep t traces f s i us → slice_get (list_of us) i ≡ Some a → Reduces due b d a ts v
      → big ≤ new_big → deep ≤ new_deep → size_of (App f s us) + b ≤ new_big + size_of a → depth_of (App f s us) ≤ new_deep → 1 + d ≤ new_deep
      → Through due new_big new_deep t (traces ++ map (under (i ∷ [])) ts) f s (i + 1) (put_at us i v)
  through_next big deep b d new_big new_deep t traces f s i us a v ts h g r wider deeper small depth shallow =
      let stands = through_stands big deep t traces f s i us a h g in
      let here = chain_weaken due big deep new_big new_deep traces t (App f s us) wider deeper h.chain in
      let rest = chain_up due b d new_big new_deep ts (i ∷ []) (App f s us) a v (App f s (put_at us i v)) stands r.0 small depth shallow (put_arg f s i us a v g) in
      record {
        chain = chain_on due new_big new_deep traces (map (under (i ∷ [])) ts) t (App f s us) (App f s (put_at us i v)) here rest;
        below = below_on traces (map (under (i ∷ [])) ts) h.below (below_arg i ts);
        settled = settled_next due i (put_at us i v) v (settled_set due i us v h.settled) (get_set_list us i a v g) r.1;
      }

  -- argument i is settled as it stands
  pub through_still : (big deep : ℕ) (t : Tree) (traces : List Traced) (f s i : ℕ) (us : Trees) (a : Tree) → Through due big deep t traces f s i us → slice_get (list_of us) i ≡ Some a
      → IsSettled due a → Through due big deep t traces f s (i + 1) us
  through_still big deep t traces f s i us a h g e = record { chain = h.chain; below = h.below; settled = settled_next due i us a h.settled g e }

  through_chain : (big deep most deepest : ℕ) (t : Tree) (traces : List Traced) (f s i : ℕ) (us : Trees) → Through due big deep t traces f s i us → big ≤ most → deep ≤ deepest
      → Chain due most deepest t traces (App f s us)
  through_chain big deep most deepest t traces f s i us h wide deeper = chain_weaken due big deep most deepest traces t (App f s us) wide deeper h.chain

  -- what stands on the way is no larger and no deeper than the term and the bounds, and within the limits where they are
  pub through_within : (big deep : ℕ) (t : Tree) (traces : List Traced) (f s i : ℕ) (us : Trees) → Through due big deep t traces f s i us
      → (size_of (App f s us) ≤ max big (size_of t)) × (depth_of (App f s us) ≤ max deep (depth_of t))
  through_within big deep t traces f s i us h =
      chain_within due (max big (size_of t)) (max deep (depth_of t)) traces t (App f s us) (omega arith) (omega arith)
      (chain_weaken due big deep (max big (size_of t)) (max deep (depth_of t)) traces t (App f s us) (omega arith) (omega arith) h.chain)

  -- argument i stops, where its bounds are what those of the term leave; n is the budget of the whole
  pub through_out : (big deep b d most deepest k n : ℕ) (t : Tree) (traces : List Traced) (f s i : ℕ) (us : Trees) (a : Tree)
      → Through due big deep t traces f s i us → slice_get (list_of us) i ≡ Some a → big ≤ most → deep ≤ deepest → depth_of (App f s us) ≤ deepest
      → size_of (App f s us) + b ≤ most + size_of a → 1 + d ≤ deepest → RunsOut due b d k a → length traces + k ≡ n → RunsOut due most deepest n t
  through_out big deep b d most deepest k n t traces f s i us a h g wide deeper depth small shallow r e =
      out_on due most deepest k n traces t (App f s us) (through_chain big deep most deepest t traces f s i us h wide deeper)
      (out_up due b d most deepest k (i ∷ []) (App f s us) a (through_stands big deep t traces f s i us a h g) r small depth shallow) e

  pub through_breaks : (big deep b d most deepest k n left : ℕ) (t : Tree) (traces : List Traced) (f s i : ℕ) (us : Trees) (a : Tree) (l : Limit)
      → Through due big deep t traces f s i us → slice_get (list_of us) i ≡ Some a → IsWithinLimits (App f s us) → big ≤ most → deep ≤ deepest → depth_of (App f s us) ≤ deepest
      → size_of (App f s us) + b ≤ most + size_of a → 1 + d ≤ deepest → Breaks due b d k left a l → length traces + k ≡ n → Breaks due most deepest n left t l
  through_breaks big deep b d most deepest k n left t traces f s i us a l h g within wide deeper depth small shallow r e =
      breaks_on due most deepest k n left traces t (App f s us) l (through_chain big deep most deepest t traces f s i us h wide deeper)
      (breaks_up due b d most deepest k left (i ∷ []) (App f s us) a l (through_stands big deep t traces f s i us a h g) within r small depth shallow) e

  -- Argument i outgrows its bounds by x. The term made around x passes a limit, or outgrows the bounds of the term.
  pub through_past : (big deep b d most deepest k n left : ℕ) (t : Tree) (traces : List Traced) (f s i : ℕ) (us : Trees) (a x : Tree) (l : Limit)
      → Through due big deep t traces f s i us → slice_get (list_of us) i ≡ Some a → big ≤ most → deep ≤ deepest → depth_of (App f s us) ≤ deepest
      → size_of (App f s us) + b ≤ most + size_of a → 1 + d ≤ deepest → Outgrows due b d k left a x
      → first_limit (App f s (put_at us i x)) ≡ Some l → length traces + k ≡ n → Breaks due most deepest n left t l
  through_past big deep b d most deepest k n left t traces f s i us a x l h g wide deeper depth small shallow o past e =
      breaks_on due most deepest k n left traces t (App f s us) l (through_chain big deep most deepest t traces f s i us h wide deeper)
      (outgrows_breaks due b d most deepest k left (i ∷ []) (App f s us) a x (App f s (put_at us i x)) l
      (through_stands big deep t traces f s i us a h g) o small depth shallow (put_arg f s i us a x g) past) e

  pub through_outgrows : (big deep b d most deepest k n left : ℕ) (t : Tree) (traces : List Traced) (f s i : ℕ) (us : Trees) (a x : Tree)
      → Through due big deep t traces f s i us → slice_get (list_of us) i ≡ Some a → big ≤ most → deep ≤ deepest → depth_of (App f s us) ≤ deepest
      → size_of (App f s us) + b ≡ most + size_of a → 1 + d ≡ deepest → Outgrows due b d k left a x
      → IsWithinLimits (App f s (put_at us i x)) → length traces + k ≡ n → Outgrows due most deepest n left t (App f s (put_at us i x))
  through_outgrows big deep b d most deepest k n left t traces f s i us a x h g wide deeper depth small shallow o within e =
      outgrows_on due most deepest k n left traces t (App f s us) (App f s (put_at us i x)) (through_chain big deep most deepest t traces f s i us h wide deeper)
      (outgrows_up due b d most deepest k left (i ∷ []) (App f s us) a x (App f s (put_at us i x))
      (through_stands big deep t traces f s i us a h g) o small depth shallow (put_arg f s i us a x g) within) e

  -- all arguments are settled
  pub through_end : (big deep : ℕ) (t : Tree) (traces : List Traced) (f s i : ℕ) (us : Trees) → Through due big deep t traces f s i us → i ≡ length (list_of us)
      → Readies due big deep t traces (App f s us)
  through_end big deep t traces f s i us h e = record { chain = h.chain; below = h.below; settled = subst (λ n. AreSettled due n us) e h.settled }
